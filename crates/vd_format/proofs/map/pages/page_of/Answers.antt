use Rattle.std.proofs.Common.{◌≡◌, ℕ, ◌-◌, ◌*◌, ◌+◌, ◌++◌, List, [], length, take, replicate, ap, ◌∙◌, refl, arith}
use Rattle.std.specs.Prelude.{slice_index_or}
use Rattle.std.specs.List.{flat_map}
use Rattle.std.proofs.lemmas.List.{take_all}
use Rattle.std.proofs.lemmas.Option.{slice_get-get_or}
use Rattle.vd_format.specs.declared.map.Entry.{Entry}
use Rattle.vd_format.specs.Numbers.{put_at}
use Rattle.vd_format.specs.Entries.{empty_entry, entry_bytes, page_bytes}
use Rattle.vd_format.proofs.Entries.{length-entry_bytes}
use Rattle.vd_format.proofs.Writing.{written-item}
use Rattle.vd_format.proofs.map.pages.page_of.Goals as goal

-- nothing stands before the first entry
from_start : (old : List ℕ) (place : ℕ) (e : Entry) → put_at old (16 * place) (entry_bytes e) ≡ put_at old (0 + 16 * place) (entry_bytes e)
from_start old place e = let same : 16 * place ≡ 0 + 16 * place = omega arith in ap (λ (at : ℕ). put_at old at (entry_bytes e)) same

pub loop-place-preserved : goal.loop-place-preserved
loop-place-preserved c =
    let entries = c.args.entries.now in
    let place = c.loop-place.place in
    let at = slice_get-get_or entries place empty_entry (omega arith) in
    written-item entry_bytes 16 length-entry_bytes [] 0 refl entries place (slice_index_or entries place empty_entry) c.loop-place.sector.bytes c.put_entry.new.bytes (512 - 16 * place) (512 - 16 * (place + 1)) at c.loop-place.invariant
    (c.put_entry.ensures ∙ from_start c.loop-place.sector.bytes place (slice_index_or entries place empty_entry)) (omega arith)

all_written : (entries : List Entry) (place : ℕ) → place ≡ length entries → flat_map entry_bytes (take place entries) ++ replicate (512 - 16 * place) 0 ≡ page_bytes entries
unfolding page_bytes
all_written entries place all = rw (take_all place entries (omega arith), all) refl

pub returns : goal.returns
returns c = c.loop-place.invariant.are ∙ all_written c.args.entries.now c.loop-place.place (omega arith)
