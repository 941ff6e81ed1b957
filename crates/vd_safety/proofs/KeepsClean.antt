-- Where the store was clean, and a flush has succeeded since, the opening was safe.
use Rattle.std.proofs.Common.{◌≡◌, ℕ, suc, ◌+◌, ◌<◌, ◌≤◌, List, [], ◌∷◌, length, refl, sym, ◌∙◌, ap, subst, arith, Contains, ◌++◌, slice_get}
use Rattle.std.specs.Prelude.{Ok}
use Rattle.vd_law.specs.declared.entry.Sector.{Sector}
use Rattle.vd_law.specs.Entries.{Entry}
use Rattle.vd_law.specs.Contents.{may}
use Rattle.vd_device.specs.Disks.{Disk, IsHonest, IsClean}
use Rattle.vd_device.specs.Now.{call_number, flush_entries}
use Rattle.vd_format.specs.declared.header.Header.{Header}
use Rattle.vd_format.specs.Headers.{IsValid}
use Rattle.vd_format.specs.Layouts.{store_need}
use Rattle.vd_image.specs.Log.{Flush, Ask, At, Writes, Flushes}
use Rattle.vd_image.specs.Image.{HasNoLater}
use Rattle.vd_image.specs.Layouts.{layout_of}
use Rattle.vd_image.specs.Decoders.{format_of}
use Rattle.vd_image.specs.CrashImages.{sectors_or}
use Rattle.vd_image.proofs.CrashImages.{at_inside}
use Rattle.vd_image.proofs.Exact.{may_is_exact}
use Rattle.vd_image.proofs.Layouts.{parts_inside}
use Rattle.vd_device.specs.Quiet.{AddsFlush}
use Rattle.vd_replay.specs.Images.{image_of}
use Rattle.vd_safety.proofs.Clean.{WasClean as IsCleanSince, AreLeft, AreInside, clean-left}
use Rattle.vd_machine.specs.Start.{opening_at, WasClean, WasSafe, image_at}
use Rattle.vd_machine.proofs.Starting.{all-told, clean-held}
use Rattle.vd_format.specs.Background.{zero_sector}

at-later : {A : Type 0} (xs ys : List A) (j : ℕ) (x : A) → At ys j x → At (xs ++ ys) (length xs + j) x
at-later [] ys j x at = let same : 0 + j ≡ j = omega arith in ap (slice_get ys) same ∙ at
at-later (y ∷ xs) ys j x at = let same : length (y ∷ xs) + j ≡ suc (length xs + j) = omega arith in ap (slice_get (y ∷ xs ++ ys)) same ∙ at-later xs ys j x at

-- a flush that succeeded stands in the log
pub flush-stands : (old disk : Disk) → AddsFlush old disk → Flushes disk.log (length old.log)
flush-stands old disk adds = record {
  id = call_number adds.number;
  reply = length old.log + 1;
  asked = subst (λ (l : List Entry). At l (length old.log) (Ask (call_number adds.number) Flush)) (sym adds.log)
      (let same : length old.log + 0 ≡ length old.log = omega arith in ap (slice_get _) (sym same) ∙ at-later old.log _ 0 _ refl);
  replied = ap (λ (l : List Entry). slice_get l (length old.log + 1)) adds.log ∙ at-later old.log _ 1 _ refl;
  next = λ m request after before at. absurd (omega (arith, after, before));
  later = omega arith;
}

pub clean-since : (old new : Disk) → IsClean old → AddsFlush old new → IsCleanSince old new
clean-since old new clean adds = record {
  clean = clean;
  start = adds.start;
  more = flush_entries adds.number (Ok tt) ++ adds.more;
  none = (tt, (tt, adds.none));
  log = adds.log;
  flush = length old.log;
  flushes = flush-stands old new adds;
  after = omega arith;
}

-- What each sector holds may be left by a crash, each write lies in the store, and no record that is held is of a later generation.
pub was-safe : (h : Header) (old disk : Disk) (opened : ℕ) → IsValid h → store_need h ≤ length disk.held → opened ≡ length disk.log → IsHonest disk
    → WasClean (opening_at opened disk) → IsClean old → AddsFlush old disk
    → length disk.held ≡ length disk.start → AreLeft disk → AreInside disk → HasNoLater (format_of h) (layout_of h) (image_of disk.held) h.generation
    → WasSafe (opening_at opened disk) h
was-safe h old disk opened valid room all honest settled clean adds size held inside no_later = record {
  inside = subst (λ (l : List Entry). (i a : ℕ) (v : Sector) → Writes l i a v → a < length disk.start) (sym (all-told disk opened all)) inside;
  durable = λ a v within may_be.
      let left = subst (λ (l : List Entry). Contains (may disk.start l a) v) (all-told disk opened all) may_be in
      clean-left old disk (clean-since old disk clean adds) held size inside a v
      ((may_is_exact disk.start (sectors_or zero_sector disk.start) disk.log a v (at_inside zero_sector disk.start a within)).0 left)
      ∙ sym (same a (omega (arith, within, size)));
  no_later = λ k r within reads.
      let slot = (parts_inside h valid).slots k within in
      no_later k r within (ap (format_of h).record_of (sym (same ((layout_of h).slot_at k) (omega (arith, slot, room)))) ∙ reads);
}
  where
    same : (a : ℕ) → a < length disk.held → image_at (opening_at opened disk) a ≡ image_of disk.held a
    same a there = clean-held disk opened a zero_sector all honest settled there
