-- Which pass flushes, once one pass has changed.
use Rattle.std.proofs.Common.{◌≡◌, ◌≢◌, ◌⊎◌, inl, inr, ℕ, List, sym, ap, ◌∙◌, Option, Some, None, slice_get, slice_set}
use Rattle.std.specs.Prelude.{◌↔◌}
use Rattle.vd_keeper.specs.declared.stage.Stage.TheVariants.{Rest, Broken}
use Rattle.vd_keeper.specs.Keeping.{KeeperState}
use Rattle.vd_passes.specs.declared.pass.Pass.{Pass}
use Rattle.vd_passes.specs.declared.pass.Phase.TheVariants.{Asked, Flushing, Ready}
use Rattle.vd_machine.specs.Attending.{IsAtStage}
use Rattle.vd_lists.proofs.Changes.{slice_set_either, slice_set_here, slice_set_other}
use Rattle.vd_lists.proofs.Places.{same_member}

-- the pass that flushes is the one that is remembered
abbrev pub AreFlushing : List Pass → Option ℕ → Type 0
AreFlushing passes flusher = (i : ℕ) (p : Pass) → slice_get passes i ≡ Some p → (p.phase ≡ Flushing) ↔ (flusher ≡ Some i)

abbrev pub IsWorking : List Pass → Option ℕ → KeeperState → Type 0
IsWorking passes flusher k = (i : ℕ) → flusher ≡ Some i → (p : Pass) × (slice_get passes i ≡ Some p) × IsAtStage k.stage k p

-- and the keeper is at its stage
pub record IsFollowed (passes : List Pass) (flusher : Option ℕ) (k : KeeperState) : Type 0 where
  pub flushing : AreFlushing passes flusher
  pub resting : flusher ≡ None → (k.stage ≡ Rest) ⊎ (k.stage ≡ Broken)
  pub working : IsWorking passes flusher k

-- no other pass flushes
abbrev pub IsAbout : Option ℕ → ℕ → Type 0
IsAbout flusher i = (flusher ≡ None) ⊎ (flusher ≡ Some i)

pub not-asked : (p : Pass) → p.phase ≡ Asked → p.phase ≢ Flushing
not-asked p asked flushing = absurd (let e : Asked ≡ Flushing = sym asked ∙ flushing in cc)

pub not-ready : (p : Pass) → p.phase ≡ Ready → p.phase ≢ Flushing
not-ready p ready flushing = absurd (let e : Ready ≡ Flushing = sym ready ∙ flushing in cc)

none-some : {A : Type 0} (i : ℕ) → None ≡ Some i → A
none-some i e = absurd cc

same-number : (i j : ℕ) → Some i ≡ Some j → j ≡ i
same-number i j e = cc

about-other : {A : Type 0} (flusher : Option ℕ) (i j : ℕ) → IsAbout flusher i → j ≢ i → flusher ≡ Some j → A
about-other flusher i j about ne is = elim about [
  | inl none ↦ none-some j (sym none ∙ is)
  | inr some ↦ absurd (ne (same-number i j (sym some ∙ is)))
]

module _ (passes : List Pass) (i : ℕ) (old new : Pass) (flusher : Option ℕ) (k : KeeperState) (there : slice_get passes i ≡ Some old) (was : AreFlushing passes flusher) where
  -- the pass flushes now, or still
  pub goes-on : IsAbout flusher i → new.phase ≡ Flushing → IsAtStage k.stage k new → IsFollowed (slice_set passes i new) (Some i) k
  goes-on about flushing at = record {
    flushing = λ j p is. elim (slice_set_either passes i j new old p there is) [
      | inl here ↦ (λ phase. ap (λ (n : ℕ). Some n) (sym here.0), λ is_some. ap (λ (x : Pass). x.phase) here.1 ∙ flushing)
      | inr other ↦ (λ phase. about-other flusher i j about other.0 ((was j p other.1).0 phase), λ is_some. absurd (other.0 (same-number i j is_some)))
    ];
    resting = λ none. none-some i (sym none);
    working = λ j is. (new, ap (slice_get (slice_set passes i new)) (same-number i j is) ∙ slice_set_here passes i new old there, at);
  }

  -- it flushes no more
  pub ends : flusher ≡ Some i → new.phase ≢ Flushing → (k.stage ≡ Rest) ⊎ (k.stage ≡ Broken) → IsFollowed (slice_set passes i new) None k
  ends mine no_more rest = record {
    flushing = λ j p is. elim (slice_set_either passes i j new old p there is) [
      | inl here ↦ (λ phase. absurd (no_more (ap (λ (x : Pass). x.phase) (sym here.1) ∙ phase)), λ none. none-some j none)
      | inr other ↦ (λ phase. about-other flusher i j (inr mine) other.0 ((was j p other.1).0 phase), λ none. none-some j none)
    ];
    resting = λ none. rest;
    working = λ j none. none-some j none;
  }

  -- another pass takes a step
  pub passed : (flusher ≡ None → (k.stage ≡ Rest) ⊎ (k.stage ≡ Broken)) → IsWorking passes flusher k → old.phase ≢ Flushing → new.phase ≢ Flushing → IsFollowed (slice_set passes i new) flusher k
  passed resting working not_old not_new = record {
    flushing = λ j p is. elim (slice_set_either passes i j new old p there is) [
      | inl here ↦ (
        λ phase. absurd (not_new (ap (λ (x : Pass). x.phase) (sym here.1) ∙ phase)),
        λ mine. absurd (not_old ((was i old there).1 (mine ∙ ap (λ (n : ℕ). Some n) here.0))),
      )
      | inr other ↦ was j p other.1
    ];
    resting = resting;
    working = λ j mine.
        let w = working j mine in
        let ne : j ≢ i = λ e. not_old (ap (λ (x : Pass). x.phase) (same_member passes i old w.0 there (ap (slice_get passes) (sym e) ∙ w.1)) ∙ (was j w.0 w.1).1 mine) in
        (w.0, slice_set_other passes i j new ne ∙ w.1, w.2);
  }
