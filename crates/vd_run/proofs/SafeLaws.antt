-- A clean store whose log is in order loses nothing in a crash, once it was flushed as it was opened.
use Rattle.std.proofs.Common.{ℕ, ◌≡◌, ◌-◌, ◌<◌, inl, inr, [], List, ◌++◌, length, Some, ap, sym, ◌∙◌, subst, arith}
use Rattle.std.specs.Prelude.{Ok}
use Rattle.std.proofs.lemmas.Option.{slice_get_within}
use Rattle.vd_law.specs.declared.entry.Sector.{Sector}
use Rattle.vd_law.specs.Entries.{Entry, Ask, Issue, Done, Broke, Seen, Reply, Past, nothing, ◌▸◌, past}
use Rattle.vd_law.specs.Contents.{sector_in, open_writes}
use Rattle.vd_law.specs.Rules.{Each, IsShown}
use Rattle.vd_law.proofs.Sectors.{sector_in-place}
use Rattle.vd_device.specs.Disks.{Disk, IsHonest, IsRunning, IsClean}
use Rattle.vd_device.specs.Orders.{BeginsAlone, WritesInside}
use Rattle.vd_device.specs.Now.{flush_entries}
use Rattle.vd_device.specs.Quiet.{AddsNoWrite, AddsFlush}
use Rattle.vd_format.specs.declared.header.Header.{Header}
use Rattle.vd_image.specs.Image.{HasNoLater}
use Rattle.vd_image.specs.Layouts.{layout_of}
use Rattle.vd_image.specs.Decoders.{format_of}
use Rattle.vd_image.specs.Openings.{Opens}
use Rattle.vd_image.specs.Log.{Covers, Writes}
use Rattle.vd_image.proofs.Logs.{writes_pushed}
use Rattle.vd_image.proofs.NthWrites.{list_of, list_of-fold}
use Rattle.vd_image.proofs.Openings.{header_valid}
use Rattle.vd_replay.specs.Images.{image_of}
use Rattle.vd_safety.proofs.Clean.{honest-left, orderly-still}
use Rattle.vd_safety.proofs.Going.{inside-quiet}
use Rattle.vd_safety.proofs.Orderly.{IsOrderly, orderly-new, orderly-ask, orderly-issue, orderly-done, orderly-broke, orderly-seen, orderly-reply}
use Rattle.vd_machine.specs.Start.{opening_at, WasSafe}
use Rattle.vd_safety.proofs.KeepsClean.{clean-since, was-safe}
use Rattle.vd_run.specs.Orders.{IsReadSince}
use Rattle.vd_run.proofs.StartLaws.{was_clean, clean_later}

-- ---- a log in order is orderly

pub orderly_past : (start : List Sector) (p : Past) → Each BeginsAlone p → Each (IsShown start) p → IsOrderly start p
orderly_past start nothing alone shown = orderly-new start
orderly_past start (p ▸ Ask id request) alone shown = orderly-ask start p id request (orderly_past start p alone.0 shown.0)
orderly_past start (p ▸ Issue id first content) alone shown = orderly-issue start p id first content free (orderly_past start p alone.0 shown.0)
  where
    free : (s : ℕ) (v : Sector) → sector_in first content s ≡ Some v → open_writes p s ≡ []
    free s v covers =
        let place = sector_in-place first content s v covers in
        let below = slice_get_within content (s - first) v place.1 in
        alone.1 s place.0 (let low = place.0 in omega (arith, low, below))
orderly_past start (p ▸ Done id) alone shown = orderly-done start p id (orderly_past start p alone.0 shown.0)
orderly_past start (p ▸ Broke id) alone shown = orderly-broke start p id (orderly_past start p alone.0 shown.0)
orderly_past start (p ▸ Seen id first content) alone shown = orderly-seen start p id first content shown.1 (orderly_past start p alone.0 shown.0)
orderly_past start (p ▸ Reply id answer) alone shown = orderly-reply start p id answer (orderly_past start p alone.0 shown.0)

-- ---- and each write lies inside

covered : (sectors : ℕ) (p : Past) (e : Entry) (a : ℕ) (v : Sector) → WritesInside sectors p e → Covers e a v → a < sectors
covered sectors p (Issue id first content) a v inside (offset, is, there) = let k = slice_get_within content offset v there in omega (arith, inside, is, k)
covered sectors p (Ask id request) a v inside covers = absurd covers
covered sectors p (Done id) a v inside covers = absurd covers
covered sectors p (Broke id) a v inside covers = absurd covers
covered sectors p (Seen id first content) a v inside covers = absurd covers
covered sectors p (Reply id answer) a v inside covers = absurd covers

inside_past : (sectors : ℕ) (p : Past) → Each (WritesInside sectors) p → (i a : ℕ) (v : Sector) → Writes (list_of p) i a v → a < sectors
inside_past sectors nothing each i a v w = let there = w.stands in absurd cc
inside_past sectors (p ▸ e) each i a v w = elim (writes_pushed (list_of p) e i a v w) [
  | inl before ↦ inside_past sectors p each.0 i a v before
  | inr last ↦ covered sectors p e a v each.1 last.1
]

inside_log : (log : List Entry) (sectors : ℕ) → Each (WritesInside sectors) (past log) → (i a : ℕ) (v : Sector) → Writes log i a v → a < sectors
inside_log log sectors each i a v w = inside_past sectors (past log) each i a v (subst (λ (l : List Entry). Writes l i a v) (sym (list_of-fold log nothing)) w)

-- ---- a flush, and then reads

-- the flush begins no write either
pub flush_reads : (old new : Disk) → AddsFlush old new → AddsNoWrite old new
flush_reads old new adds = record { start = adds.start; more = flush_entries adds.number (Ok tt) ++ adds.more; none = (tt, (tt, adds.none)); log = adds.log }

-- ---- safe as it was opened

module _ (old new : Disk) (events : ℕ) (h : Header) (since : IsReadSince old new) (runs : IsRunning events new) (honest : IsHonest new) (clean : IsClean old) where
  reads : AddsNoWrite old new
  reads = flush_reads old new since.flushed

  size : length new.held ≡ length new.start
  size = ap length since.held ∙ since.size ∙ ap length (sym since.flushed.start)

  orderly : IsOrderly new.start (past new.log)
  orderly = orderly-still old new (clean-since old new clean since.flushed) since.honest (orderly_past old.start (past old.log) since.order.alone since.order.shown) since.size since.held honest

  pub was_safe : Opens (length new.held) (image_of new.held) h → HasNoLater (format_of h) (layout_of h) (image_of old.held) h.generation → WasSafe (opening_at events new) h
  was_safe opens no_later =
      was-safe h old new events (header_valid (image_of new.held 0) h opens.reads) opens.room runs honest (was_clean new events runs (clean_later old new reads clean)) clean since.flushed size (honest-left new honest orderly size)
      (inside-quiet old new reads (inside_log old.log (length old.start) since.order.inside)) (subst (λ (xs : List Sector). HasNoLater (format_of h) (layout_of h) (image_of xs) h.generation) (sym since.held) no_later)
