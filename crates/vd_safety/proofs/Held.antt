-- What the store of a secured core holds is an image that opens, and whose disk the history allows.
use Rattle.std.proofs.Common.{ℕ, ◌≡◌, ◌<◌, ◌≤◌, inl, inr, Bool, List, length, Option, ap, sym, ◌∙◌, subst, arith}
use Rattle.std.specs.List.{Contains}
use Rattle.std.proofs.lemmas.Bool.{cases_lt}
use Rattle.std.proofs.lemmas.List.{take_all}
use Rattle.std.proofs.lemmas.Option.{get_or_from_slice_get}
use Rattle.vd_law.specs.declared.entry.Sector.{Sector}
use Rattle.vd_law.specs.Entries.{Entry}
use Rattle.vd_law.specs.Contents.{may}
use Rattle.vd_law.specs.Histories.{HistoryState}
use Rattle.vd_format.specs.declared.header.Header.{Header}
use Rattle.vd_table.specs.Tables.{TableState}
use Rattle.vd_image.specs.Log.{May, IsImage}
use Rattle.vd_image.specs.Image.{Format, Layout, Geometry, geometry_of, HasNoLater, IsSound, DiskHas}
use Rattle.vd_image.specs.Layouts.{layout_of}
use Rattle.vd_image.specs.Decoders.{Entry as MapEntry, this_version, format_of}
use Rattle.vd_image.specs.CrashImages.{sectors_or}
use Rattle.vd_format.specs.Layouts.{store_need}
use Rattle.vd_image.specs.Openings.{Opens}
use Rattle.vd_image.proofs.CrashImages.{at_inside, past_end}
use Rattle.vd_image.proofs.Exact.{may_is_exact}
use Rattle.vd_image.proofs.Openings.{same_format, same_layout, sound_opens}
use Rattle.vd_crash.specs.facts.Safe.{Opening, numbered, events_up_to, IsSafeImage}
use Rattle.vd_crash.specs.facts.Facts.{IsOpened}
use Rattle.vd_crash.proofs.facts.Histories.{events_numbered}
use Rattle.vd_crash.proofs.facts.Moments.{up_to-all}
use Rattle.vd_crash.specs.primitives.Primitives.{State}
use Rattle.vd_crash.specs.primitives.Keeping.{KeepsCrashSafety}
use Rattle.vd_replay.specs.Images.{image_of}
use Rattle.vd_keeper.specs.Keeping.{KeeperState}
use Rattle.vd_passes.specs.declared.pass.Pass.{Pass}
use Rattle.vd_safety.specs.Mirrors.{core_state, opening_for, HasSafeMirror}
use Rattle.vd_safety.specs.Held.{IsHeldNow, IsOpenAgain}
use Rattle.vd_safety.proofs.Words.{secured-is-safe, secured-numbers}
use Rattle.vd_format.specs.Background.{base_at, zero_sector}
use Rattle.vd_lists.proofs.Places.{some_place}

pub held_image : (zeros : Sector) (before : List Sector) (log : List Entry) (now : List Sector) → IsHeldNow before log now → IsImage (sectors_or zeros before) log (sectors_or zeros now)
held_image zeros before log now held s = elim (cases_lt s (length before)) [
  | inl within ↦
      let u = some_place now s (let n = held.size in omega arith) in
      subst (λ (v : Sector). May (sectors_or zeros before) log s v) (sym (get_or_from_slice_get now s u.0 zeros u.1))
      ((may_is_exact before (sectors_or zeros before) log s u.0 (at_inside zeros before s within)).0 (held.each s u.0 u.1))
  | inr past_it ↦ inl (record {
    value = past_end zeros now s (let n = held.size in omega arith) ∙ sym (past_end zeros before s past_it);
    newest = λ j v from w sure. (let k = held.inside j s v w in omega (arith, k, past_it));
  })
]

kept_opening : (o : Opening) (s : State) → KeepsCrashSafety o s → IsOpened o s.log
unfolding KeepsCrashSafety
kept_opening o s kept = kept.core.holds.facts.opening

-- an image that a crash may leave now is safe by the whole history
safe_held : (o : Opening) (table : TableState) (fresh : List Bool) (k : KeeperState) (flusher : Option ℕ) (passes : List Pass) (history : HistoryState) (log : List Entry) (image : ℕ → Sector) → HasSafeMirror o (core_state table fresh k flusher passes history) log
    → IsImage o.before log image → IsSafeImage o history.log.entries image
safe_held o table fresh k flusher passes history log image secured left = subst (λ (es : List Entry). IsSafeImage o es image) all now
  where
    within : o.opened ≤ length log
    within = subst (λ (l : List Entry). o.opened ≤ length l) secured.mirrors.log_is (kept_opening o secured.state secured.keeps).within

    now : IsSafeImage o (events_up_to (numbered history.log.entries history.numbers) (length log)) image
    now = secured-is-safe o table fresh k flusher passes history log secured (length log) within (omega arith) image (subst (λ (l : List Entry). IsImage o.before l image) (sym (take_all (length log) log (omega arith))) left)

    all : events_up_to (numbered history.log.entries history.numbers) (length log) ≡ history.log.entries
    all = up_to-all (numbered history.log.entries history.numbers) (length log) (secured-numbers o table fresh k flusher passes history log secured) ∙ events_numbered history.log.entries history.numbers secured.mirrors.many

-- What the store of a secured core holds opens again.
pub held-sound : (h : Header) (entries : List MapEntry) (before : List Sector) (held : ℕ → Sector) (base disk : List Sector) (opened : ℕ) (table : TableState) (fresh : List Bool) (k : KeeperState) (flusher : Option ℕ) (passes : List Pass) (history : HistoryState) (log : List Entry) (now : List Sector)
    → HasSafeMirror (opening_for h entries before held base disk opened) (core_state table fresh k flusher passes history) log → IsHeldNow before log now → h.version ≡ this_version → store_need h ≤ length now → length disk ≡ h.size
    → IsOpenAgain h base disk history.log.entries now
held-sound h entries before held base disk opened table fresh k flusher passes history log now secured holds version room size = record {
  sound = sound;
  header = again.0;
  geometry = again.1;
  opens = again.2;
  no_later = again.3;
  allowed = allowed;
  allowed_again = λ s v inside has. allowed s v
      (let same = ap (λ (z : Geometry). z.size) again.1 in omega (arith, same, inside))
      (subst (λ (f : Format). DiskHas f (layout_of h) (base_at zero_sector base) zero_sector (image_of now) s v) (same_format again.0 h again.1)
      (subst (λ (l : Layout). DiskHas (format_of again.0) l (base_at zero_sector base) zero_sector (image_of now) s v) (same_layout again.0 h again.1) has));
}
  where
    safe : IsSafeImage (opening_for h entries before held base disk opened) history.log.entries (sectors_or zero_sector now)
    safe = safe_held (opening_for h entries before held base disk opened) table fresh k flusher passes history log (sectors_or zero_sector now) secured (held_image zero_sector before log now holds)

    sound : IsSound (format_of h) (layout_of h) (image_of now)
    sound = safe.sound

    again : (g : Header) × (geometry_of g ≡ geometry_of h) × Opens (length now) (image_of now) g × HasNoLater (format_of g) (layout_of g) (image_of now) g.generation
    again = sound_opens h (length now) (image_of now) version room sound

    allowed : (s : ℕ) (v : Sector) → s < h.size → DiskHas (format_of h) (layout_of h) (base_at zero_sector base) zero_sector (image_of now) s v → Contains (may disk history.log.entries s) v
    allowed s v inside has =
        (may_is_exact disk (sectors_or zero_sector disk) history.log.entries s v (at_inside zero_sector disk s (omega (arith, size, inside)))).1
        (safe.allowed s v inside has)
