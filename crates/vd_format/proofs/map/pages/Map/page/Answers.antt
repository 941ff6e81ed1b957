use Rattle.std.proofs.Common.{◌≡◌, ℕ, ◌+◌, ◌-◌, ◌*◌, ◌<◌, List, length, take, drop, Option, Some, sym, ap, ◌∙◌, arith, inl, inr}
use Rattle.std.specs.Prelude.{slice_get, min}
use Rattle.std.proofs.lemmas.Bool.{cases_lt}
use Rattle.std.proofs.lemmas.List.{take_all, length-drop, get_or-drop, get_or-take, length-take}
use Rattle.std.proofs.lemmas.Option.{slice_get-get_or, get_or_from_slice_get, slice_get_within}
use Rattle.vd_format.specs.declared.map.Entry.{Entry}
use Rattle.vd_format.specs.Entries.{empty_entry, page_bytes}
use Rattle.vd_format.proofs.Pages.{page-at}
use Rattle.vd_format.proofs.map.pages.Map.page.Goals as goal

abbrev some_entry : Entry → Option Entry
some_entry e = Some e

-- up to the end, or 32
cut : (entries : List Entry) (first end : ℕ) → end ≡ min (length entries) (first + 32) → take (end - first) (drop first entries) ≡ take 32 (drop first entries)
cut entries first end is =
    elim (cases_lt (length entries) (first + 32)) [
      | inl short ↦ take_all (end - first) (drop first entries) (omega (arith, length-drop first entries)) ∙ sym (take_all 32 (drop first entries) (omega (arith, length-drop first entries)))
      | inr long ↦ (let same : end - first ≡ 32 = omega arith in ap (λ (n : ℕ). take n (drop first entries)) same)
    ]

-- an entry of the page is the map's
entry_in : (entries : List Entry) (first place : ℕ) (e : Entry) → place < 32 → slice_get entries (first + place) ≡ Some e → slice_get (take 32 (drop first entries)) place ≡ Some e
entry_in entries first place e inside at =
    let whole = slice_get_within entries (first + place) e at in
    let here : place < length (take 32 (drop first entries)) = omega (arith, length-take 32 (drop first entries), length-drop first entries) in
    slice_get-get_or (take 32 (drop first entries)) place empty_entry here
    ∙ ap some_entry (get_or-take 32 (drop first entries) place empty_entry inside ∙ get_or-drop first entries place empty_entry ∙ get_or_from_slice_get entries (first + place) e empty_entry at)

is_page : goal.returns-clause-bytes
is_page c =
    let entries = c.args.self.now in
    let first : ℕ = 32 * c.args.page in
    let whole = c.deref.ensures.value ∙ c.self.view_is in
    c.page_of.ensures ∙ ap page_bytes (ap (λ (es : List Entry). take (c.min-end.result - first) (drop first es)) whole ∙ cut entries first c.min-end.result (let len = ap length whole in omega (arith, len, c.deref.ensures.len, c.len-chunks.ensures, c.min-end.ensures)))

pub returns-clause-bytes : goal.returns-clause-bytes
returns-clause-bytes c = is_page c

pub returns-clause-entries : goal.returns-clause-entries
returns-clause-entries c place entry inside at = ap (λ (bytes : List ℕ). take 16 (drop (16 * place) bytes)) (is_page c) ∙ page-at (take 32 (drop (32 * c.args.page) c.args.self.now)) place entry (entry_in c.args.self.now (32 * c.args.page) place entry inside at)
