-- What is kept so that every image is safe goes on with the core: nothing of the moment when the core was made ever changes.
use Rattle.std.proofs.Common.{◌≡◌, ℕ, zero, suc, ◌-◌, ◌<◌, ◌≤◌, inl, inr, Bool, List, [], ◌∷◌, ◌++◌, length, refl, sym, ◌∙◌, ap, subst, arith, Option, Some, slice_get}
use Rattle.std.proofs.lemmas.Bool.{cases_lt}
use Rattle.vd_device.specs.declared.store.Store as store
use Rattle.vd_device.specs.declared.base.Base as base
use Rattle.vd_law.specs.declared.entry.Sector.{Sector}
use Rattle.vd_law.specs.declared.entry.Room.{Room}
use Rattle.vd_law.specs.Entries.{Entry}
use Rattle.vd_law.specs.Histories.{HistoryState}
use Rattle.vd_image.specs.Log.{Writes}
use Rattle.vd_table.specs.Tables.{TableState}
use Rattle.vd_keeper.specs.Keeping.{KeeperState}
use Rattle.vd_passes.specs.declared.pass.Pass.{Pass}
use Rattle.vd_safety.specs.Mirrors.{core_state, HasSafeMirror}
use Rattle.vd_safety.specs.Safely.{core_state_of, opening_from, IsSafelyKept}
use Rattle.vd_safety.proofs.Surroundings.{Surroundings, surroundings-of}
use Rattle.vd_machine.specs.Views.{View}
use Rattle.vd_machine.specs.Sound.{IsSound}
use Rattle.vd_machine.specs.Telling.{base_then, IsStartOf, IsFaithfullyKept}
use Rattle.vd_machine.proofs.Starting.{HasGrown}

at-appended : {A : Type 0} (xs ys : List A) (i : ℕ) (x : A) → length xs ≤ i → slice_get (xs ++ ys) i ≡ Some x → slice_get ys (i - length xs) ≡ Some x
at-appended [] ys i x past at = let same : i - 0 ≡ i = omega arith in ap (slice_get ys) same ∙ at
at-appended (y ∷ xs) ys zero x past at = absurd (omega (arith, past))
at-appended (y ∷ xs) ys (suc j) x past at =
    let same : suc j - length (y ∷ xs) ≡ j - length xs = omega arith in ap (slice_get ys) same ∙ at-appended xs ys j x (omega (arith, past)) at

pub at-before : {A : Type 0} (xs ys : List A) (i : ℕ) (x : A) → i < length xs → slice_get (xs ++ ys) i ≡ Some x → slice_get xs i ≡ Some x
at-before [] ys i x within at = absurd (omega (arith, within))
at-before (y ∷ xs) ys zero x within at = at
at-before (y ∷ xs) ys (suc j) x within at = at-before xs ys j x (omega (arith, within)) at

-- each write of the longer log lies in the store where those of the log and of what was added do
writes-inside : (log more : List Entry) (opened sectors : ℕ) → ((i a : ℕ) (v : Sector) → opened ≤ i → Writes log i a v → a < sectors)
    → ((j a : ℕ) (v : Sector) → Writes more j a v → a < sectors)
    → (i a : ℕ) (v : Sector) → opened ≤ i → Writes (log ++ more) i a v → a < sectors
writes-inside log more opened sectors before added i a v since w = elim (cases_lt i (length log)) [
  | inl within ↦ before i a v since (record { event = w.event; stands = at-before log more i w.event within w.stands; covers = w.covers })
  | inr past ↦ added (i - length log) a v (record { event = w.event; stands = at-appended log more i w.event past w.stands; covers = w.covers })
]

module _ {S B : Type 0} {g : store.Ghosts S} {h : base.Ghosts B} {c : View S B} (was : IsSafelyKept g h c) {base' : B} {table' : TableState}
    {fresh' : List Bool} {keeping' : KeeperState} {flusher' : Option ℕ}
    {passes' : List Pass} {history' : HistoryState} {spare' : Room} {steps' : ℕ} where
  -- the store is as it was
  pub safely-here : ((start : List Sector) (held : ℕ → Sector) → IsStartOf g h c.fixed start
      → HasSafeMirror (opening_from g h c.fixed held start) (core_state_of c) (g.disk c.store).log
      → HasSafeMirror (opening_from g h c.fixed held start) (core_state table' fresh' keeping' flusher' passes' history') (g.disk c.store).log)
      → IsSafelyKept g h (record c {
        base = base';
        table = table';
        fresh = fresh';
        keeping = keeping';
        flusher = flusher';
        passes = passes';
        history =
            history';
        spare = spare';
        steps = steps';
      })
  safely-here next = record {
    size = was.size;
    inside = was.inside;
    secured = λ start is safe. let secured = was.secured start is safe in (secured.0, next start secured.0 is secured.1);
  }

  -- the store has gone on, by entries that write to its sectors alone
  pub safely-on : {store' : S} → (on : HasGrown (g.disk c.store) (g.disk store')) → ((j a : ℕ) (v : Sector) → Writes on.0 j a v → a < g.sectors c.store)
      → g.sectors store' ≡ g.sectors c.store
      → ((start : List Sector) (held : ℕ → Sector) → IsStartOf g h c.fixed start
      → HasSafeMirror (opening_from g h c.fixed held start) (core_state_of c) (g.disk c.store).log
      → HasSafeMirror (opening_from g h c.fixed held start) (core_state table' fresh' keeping' flusher' passes' history') (g.disk store').log)
      → IsSafelyKept g h (record c {
        store = store';
        base = base';
        table = table';
        fresh = fresh';
        keeping = keeping';
        flusher = flusher';
        passes =
            passes';
        history = history';
        spare = spare';
        steps = steps';
      })
  safely-on {store'} on added same_size next = record {
    size = was.size ∙ sym same_size;
    inside = λ i a v since w. subst (λ (n : ℕ). a < n) (sym same_size)
        (writes-inside (g.disk c.store).log on.0 (g.events c.fixed.store) (g.sectors c.store) was.inside added i a v since
        (subst (λ (l : List Entry). Writes l i a v) on.1.log w));
    secured = λ start is safe. let secured = was.secured start is safe in (secured.0, next start secured.0 is secured.1);
  }

-- What else is known of the core, of what its type keeps.
module _ {S B : Type 0} {g : store.Ghosts S} {h : base.Ghosts B} {c : View S B} (sound : IsSound g h c) (told : IsFaithfullyKept g h c) (start : List Sector)
    (held : ℕ → Sector) (is : IsStartOf g h c.fixed start) where
  pub around : Surroundings c.fixed.header (opening_from g h c.fixed held start) c.shape (core_state_of c) (base_then h c.fixed) (g.last c.store)
  around = surroundings-of (record { format = refl; layout = refl; zeros = refl; same = sound.metadata.same })
      (λ s. refl) sound.metadata.attended sound.coherent (told.faithful start is)
