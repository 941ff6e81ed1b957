-- What is kept says that every image at every moment is safe.
use Rattle.std.proofs.Common.{◌≡◌, ℕ, ◌<◌, ◌≤◌, inl, inr, List, length, take, drop, sym, ◌∙◌, ap, subst, arith, Some, slice_get}
use Rattle.std.proofs.lemmas.Bool.{cases_lt}
use Rattle.std.proofs.lemmas.List.{length-take, take-append-drop}
use Rattle.vd_device.specs.declared.store.Store as store
use Rattle.vd_device.specs.declared.base.Base as base
use Rattle.vd_law.specs.declared.entry.Sector.{Sector}
use Rattle.vd_law.specs.Entries.{Entry}
use Rattle.vd_format.specs.declared.header.Header.{Header}
use Rattle.vd_format.specs.Layouts.{store_need}
use Rattle.vd_image.specs.Log.{Writes}
use Rattle.vd_image.specs.Layouts.{layout_of}
use Rattle.vd_image.specs.Decoders.{format_of}
use Rattle.vd_image.specs.Image.{Geometry}
use Rattle.vd_image.specs.CrashImages.{IsCrashImage}
use Rattle.vd_image.proofs.Logs.{writes_below}
use Rattle.vd_crash.specs.facts.CrashSafe.{IsCrashSafe}
use Rattle.vd_safety.specs.Held.{IsOpenAgain}
use Rattle.vd_safety.specs.Safely.{IsSafelyKept}
use Rattle.vd_safety.proofs.Held.{held-sound}
use Rattle.vd_safety.proofs.Words.{secured-safe}
use Rattle.vd_safety.proofs.KeepsCarrying.{at-before}
use Rattle.vd_machine.specs.Start.{WasSafe}
use Rattle.vd_machine.specs.Views.{View}
use Rattle.vd_machine.specs.Sound.{IsSound}
use Rattle.vd_machine.specs.Telling.{opening_of, base_then, IsStartOf}
use Rattle.vd_format.specs.Background.{zero_sector, base_at}

-- what is written early in a log is written in its first part
written-early : (log : List Entry) (n i a : ℕ) (v : Sector) → i < n → Writes log i a v → Writes (take n log) i a v
written-early log n i a v early w =
    let below = writes_below log i a v w in
    let long = length-take n log in
    record {
      event = w.event;
      stands = at-before (take n log) (drop n log) i w.event (omega (arith, early, below, long))
          (subst (λ (l : List Entry). slice_get l i ≡ Some w.event) (sym (take-append-drop n log)) w.stands);
      covers = w.covers;
    }

-- a header with these numbers
abbrev bare : Geometry → Header
bare g = record { version = g.version; block = g.block; chunk = g.chunk; storage = g.storage; slots = g.slots; size = g.size; tracked = 0; generation = 0 }

module _ {S B : Type 0} {g : store.Ghosts S} {h : base.Ghosts B} {c : View S B} (sound : IsSound g h c) (was : IsSafelyKept g h c)
    (recorded : g.records c.store)
    (start : List Sector) (is : IsStartOf g h c.fixed start) (safe : WasSafe (opening_of g c.fixed) c.fixed.header) where
  pub all-inside : (i a : ℕ) (v : Sector) → Writes (g.disk c.store).log i a v → a < length (g.disk c.store).start
  all-inside i a v w =
      let on = sound.since.store.telling.goes_on recorded in let first = (g.disk c.fixed.store).log in let size = ap length on.start in
      elim (cases_lt i (g.events c.fixed.store)) [
        | inl early ↦ elim (cases_lt i (length first)) [
          | inl within ↦
              let stands = at-before first on.more i w.event within (subst (λ (l : List Entry). slice_get l i ≡ Some w.event) on.log w.stands) in
              let inside = safe.inside i a v (written-early first (g.events c.fixed.store) i a v early
              (record { event = w.event; stands = stands; covers = w.covers })) in omega (arith, inside, size)
          | inr past ↦
              let stood = ap length (sound.since.store.telling.stood recorded (omega (arith, past, early))).log in let below =
              writes_below (g.disk c.store).log i a v w in absurd (omega (arith, past, stood, below))
        ]
        | inr since ↦ (let within = was.inside i a v since w in let long = was.size in omega (arith, within, long, size))
      ]

  inside-start : (i a : ℕ) (v : Sector) → Writes (g.disk c.store).log i a v → a < length (g.disk c.fixed.store).start
  inside-start i a v w = let inside = all-inside i a v w in let size = ap length (sound.since.store.telling.goes_on recorded).start in
      omega (arith, inside, size)

  pub safely-words : IsCrashSafe (format_of c.fixed.header) (layout_of c.fixed.header) (base_at zero_sector (base_then h c.fixed)) zero_sector
      (g.disk c.store).start (g.disk c.store).log start c.history
  safely-words =
      let secured = was.secured start is safe in let on = sound.since.store.telling.goes_on recorded in
      subst (λ (xs : List Sector). IsCrashSafe (format_of c.fixed.header) (layout_of c.fixed.header) (base_at zero_sector (base_then h c.fixed)) zero_sector xs
      (g.disk c.store).log start c.history) (sym on.start)
      (secured-safe c.fixed.header c.fixed.entries (g.disk c.fixed.store).start secured.0 (base_then h c.fixed) start
      (g.events c.fixed.store) c.table c.fresh c.keeping c.flusher c.passes c.history (g.disk c.store).log secured.1
      (sym sound.since.opened) is.size inside-start)

  -- the image has its room in the store
  room : store_need c.fixed.header ≤ g.sectors c.store
  room =
      let attended = sound.metadata.attended in
      let same : store_need c.keeping.header ≡ store_need c.fixed.header = ap (λ (x : Geometry). store_need (bare x)) sound.metadata.same in
      let inside = rw (attended.storage_at, attended.storage, attended.chunk, attended.block) at sound.storage.inside in
      omega (arith, same, inside)

  -- Each image that a crash may leave now opens again, with a disk that the history allows.
  pub safely-again : (image : List Sector) → IsCrashImage (g.disk c.store).start (g.disk c.store).log image
      → IsOpenAgain c.fixed.header (base_then h c.fixed) start c.history.log.entries image
  safely-again image left =
      let secured = was.secured start is safe in
      let on = sound.since.store.telling.goes_on recorded in
      let before = subst (λ (xs : List Sector). IsCrashImage xs (g.disk c.store).log image) on.start left in
      held-sound c.fixed.header c.fixed.entries (g.disk c.fixed.store).start secured.0 (base_then h c.fixed) start
      (g.events c.fixed.store) c.table c.fresh c.keeping c.flusher c.passes c.history (g.disk c.store).log image secured.1
      (record { size = before.size; each = before.sectors; inside = inside-start })
      (sym (ap (λ (x : Geometry). x.version) sound.metadata.same) ∙ sound.metadata.attended.keeping.version)
      (let fits = room in let size = before.size in let long = was.size in omega (arith, fits, size, long)) is.size
