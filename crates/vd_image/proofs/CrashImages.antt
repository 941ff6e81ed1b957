-- An image that a crash may leave, as a list and sector by sector.
use Rattle.std.proofs.Common.{ℕ, ◌≡◌, ◌<◌, ◌≤◌, List, take, drop, Some, length, arith, ap, sym, subst, ◌∙◌}
use Rattle.std.proofs.lemmas.List.{take-append-drop}
use Rattle.std.proofs.lemmas.Option.{slice_get-get_or}
use Rattle.std.proofs.Math.ListN.{get_or-eq_default}
use Rattle.vd_image.specs.Log.{Sector, Entry, At, Writes, IsImage}
use Rattle.vd_image.specs.CrashImages.{sectors_or, IsCrashImage}
use Rattle.vd_image.proofs.Logs.{at_prefix}
use Rattle.vd_image.proofs.Exact.{image_is_left}

-- the sector of a list at a place inside it
pub at_inside : (other : Sector) (xs : List Sector) (s : ℕ) → s < length xs → At xs s (sectors_or other xs s)
at_inside other xs s less = slice_get-get_or xs s other less

pub past_end : (other : Sector) (xs : List Sector) (s : ℕ) → length xs ≤ s → sectors_or other xs s ≡ other
past_end other xs s more = get_or-eq_default xs other more

-- An image that a crash may leave as a list is one that it may leave, whatever stands past the store's end.
pub list_is_left : (start : List Sector) (held : ℕ → Sector) (log : List Entry) (image : List Sector) (other : Sector) → ((s : ℕ) → held s ≡ sectors_or other start s)
    → ((i s : ℕ) (v : Sector) → Writes log i s v → s < length start) → IsCrashImage start log image → IsImage held log (sectors_or other image)
list_is_left start held log image other same inside left = image_is_left start held log (sectors_or other image)
    (λ s within. at_inside other start s within ∙ ap Some (sym (same s)))
    inside
    (λ s within. left.sectors s (sectors_or other image s) (at_inside other image s (let size = left.size in omega arith)))
    (λ s outside. past_end other image s (let size = left.size in omega arith) ∙ sym (past_end other start s outside) ∙ sym (same s))

-- what is written in a first part of a log is written in the whole
pub writes_whole : (log : List Entry) (k i s : ℕ) (v : Sector) → Writes (take k log) i s v → Writes log i s v
writes_whole log k i s v w = record {
  event = w.event;
  stands = subst (λ (l : List Entry). At l i w.event) (take-append-drop k log) (at_prefix (take k log) (drop k log) i w.event w.stands);
  covers = w.covers;
}
