-- A status with which no image was made.
use Rattle.std.proofs.Common.{ℕ, suc, ◌≡◌, inl, inr, ap, sym, ◌∙◌}
use Rattle.vd_io.specs.declared.sink.Sink as sink
use Rattle.vd_report.specs.Outcomes.{Outcome}
use Rattle.vd_report.specs.Ending.{status_of, status_unwritten, PrintsOutcome}
use Rattle.vd_make.specs.Making.{WasMade}

module _ {O : Type 0} {o : sink.Ghosts O} where
  -- a command of this status has made no whole image, whether or not the sink failed
  pub no_whole : {outcome : Outcome} {status : ℕ} {out out' : O} (n : ℕ) → status_of outcome ≡ suc (suc n) → (suc (suc n) ≡ 6 → ⊥) → PrintsOutcome o outcome status out out' → WasMade status → ⊥
  no_whole {outcome} {status} n is other ends whole =
      let same : status ≡ suc (suc n) = elim ends.printed [ inl written ↦ written.0 ∙ is | inr cut ↦ cut.0 ∙ ap status_unwritten is ] in
      elim whole [ inl none ↦ absurd (let e = sym same ∙ none in cc) | inr six ↦ other (sym same ∙ six) ]
