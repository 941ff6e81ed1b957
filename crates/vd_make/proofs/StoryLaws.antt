-- How far a new image was written.
use Rattle.std.proofs.Common.{ℕ, zero, suc, ◌≡◌, ◌<◌, ◌≤◌, ◌⊎◌, inr, List, [], ◌∷◌, Some, None, Result, Ok, Err, ap, sym, ◌∙◌, subst, arith, length, replicate, lit<, lit≤}
use Rattle.std.specs.Prelude.{slice_get, ⊤, OnOk}
use Rattle.vd_law.specs.declared.entry.Sector.{Sector}
use Rattle.vd_law.specs.Entries.{Entry, past}
use Rattle.vd_device.specs.Disks.{Disk}
use Rattle.vd_format.specs.declared.header.Header.{Header}
use Rattle.std.proofs.lemmas.List.{length-replicate}
use Rattle.std.proofs.lemmas.Option.{slice_get_within}
use Rattle.vd_lists.proofs.Places.{slice_get_replicate}
use Rattle.vd_image.specs.Made.{header_sector}
use Rattle.vd_format.specs.Headers.{spelling}
use Rattle.vd_make.specs.Putting.{AreAll, IsPut, PutsRange, IsDurable, Fills, Story, Begun, Blanked, Headed, IsImageWritten}
use Rattle.vd_make.proofs.VersionLaws.{Fits, Left, left_more}
use Rattle.vd_make.proofs.PutLaws.{each_event, fits_outside}
use Rattle.vd_format.specs.Background.{zero_sector}

-- writes of a range leave what a crash may leave elsewhere
pub firm_after_puts : (P : Sector → Type 0) (v : Sector) (from to s : ℕ) (more : List Entry) (old new : Disk) → (s < from) ⊎ (to ≤ s) → PutsRange v from to more old new → Left P old.start (past old.log) s → Left P new.start (past new.log) s
firm_after_puts P v from to s more old new apart p left =
    let fits = each_event (IsPut v from to) (Fits P s) (fits_outside P v from to s apart) more p.only in
    let there : Left P new.start (past old.log) s = subst (λ (start : List Sector). Left P start (past old.log) s) (sym p.start) left in
    subst (λ (l : List Entry). Left P new.start (past l) s) (sym p.log) (left_more P new.start old.log more s fits there)

pub story_begun : (header zeros : Sector) (end number : ℕ) (old new : Disk) → Fills (Err number) zeros 0 1 old new → Story header zeros end old new
story_begun header zeros end number old new k = Begun k.more k.puts k.kept

pub story_blanked : (header zeros : Sector) (end number : ℕ) (old mid new : Disk) → Fills (Ok tt) zeros 0 1 old mid → Fills (Err number) zeros 1 end mid new → Story header zeros end old new
story_blanked header zeros end number old mid new a b = Blanked a.more b.more mid a.puts a.kept b.puts

pub story_headed : (header zeros : Sector) (end : ℕ) (result : Result ⊤ ℕ) (old mid ready new : Disk) → Fills (Ok tt) zeros 0 1 old mid → Fills (Ok tt) zeros 1 end mid ready → Fills result header 0 1 ready new → Story header zeros end old new
story_headed header zeros end result old mid ready new a b d = Headed a.more b.more d.more mid ready a.puts a.kept b.puts b.kept.firm d.puts

written_ok : (header zeros : Sector) (end : ℕ) (ready new : Disk) (second more : List Entry) → IsDurable zeros 1 end second ready → PutsRange header 0 1 more ready new → IsDurable header 0 1 more new → IsImageWritten header zeros end new
written_ok header zeros end ready new second more b puts d = record {
  first = d.firm 0 (lit≤ tt) (lit< tt);
  first_held = d.held 0 (lit≤ tt) (lit< tt);
  rest = λ s low high. firm_after_puts (λ x. x ≡ zeros) header 0 1 s more ready new (inr low) puts (b.firm s low high);
  rest_held = λ s low high x is. b.held s low high x (sym (puts.others s (inr low)) ∙ is);
}

-- where the header was made durable too, the image is written whole
pub written_whole : {told : Type 0} (header zeros : Sector) (end : ℕ) (result : Result ⊤ ℕ) (ready new : Disk) → (told → (mid : Disk) × Fills (Ok tt) zeros 1 end mid ready) → (told → Fills result header 0 1 ready new)
    → OnOk result (told → IsImageWritten header zeros end new)
written_whole header zeros end (Ok done) ready new b d = λ told. (let k = (b told).1 in let h = d told in written_ok header zeros end ready new k.more h.more k.kept h.puts h.kept)
written_whole header zeros end (Err number) ready new b d = tt

-- the one sector of a list of one
pub all_one : (v x : Sector) → x ≡ v → AreAll v (x ∷ [])
all_one v x same zero y is = let e : Some x ≡ Some y = is in cc
all_one v x same (suc k) y is = let e : None ≡ Some y = is in cc

pub header_is : (h : Header) (x : Sector) → x.bytes ≡ spelling h → x ≡ header_sector h
header_is h x bytes = ap (λ (b : List ℕ). let s : Sector = record { bytes = b } in s) bytes

pub zero_is : (x : Sector) → x.bytes ≡ replicate 512 0 → x ≡ zero_sector
unfolding zero_sector
zero_is x bytes = ap (λ (b : List ℕ). let s : Sector = record { bytes = b } in s) bytes

-- sectors that are all filled with one
pub all_filled : (v x : Sector) (n : ℕ) (xs ys : List Sector) → x ≡ v → ys ≡ xs → xs ≡ replicate n x → AreAll v ys
all_filled v x n xs ys same now items k y is =
    let there : slice_get (replicate n x) k ≡ Some y = ap (λ (l : List Sector). slice_get l k) (sym (now ∙ items)) ∙ is in
    let within : k < length (replicate n x) = slice_get_within (replicate n x) k y there in
    let less : k < n = (let size = length-replicate n x in omega (arith, within, size)) in
    let e : Some x ≡ Some y = sym (slice_get_replicate n x k less) ∙ there in
    some_is x y e same
  where
    some_is : (a b : Sector) → Some a ≡ Some b → a ≡ v → b ≡ v
    some_is a b e h = cc
