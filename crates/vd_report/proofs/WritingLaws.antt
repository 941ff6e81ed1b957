-- A text that is written part by part.
use Rattle.std.proofs.Common.{ℕ, ◌≡◌, ◌≤◌, inl, inr, List, [], ◌++◌, Result, Ok, Err, refl, ap, sym, ◌∙◌, subst, arith}
use Rattle.std.specs.Prelude.{IsOk, IsErr, OnOk, OnErr}
use Rattle.std.proofs.lemmas.List.{append-nil}
use Rattle.vd_io.specs.declared.sink.Sink as sink
use Rattle.vd_io.specs.Streams.{WritesPart, WritesText}
use Rattle.vd_io.proofs.Composing.{writes-after, writes-failed}
use Rattle.vd_report.specs.Streams.{KeepsSink}
use Rattle.vd_report.specs.Writing.{WritesOn}
use Rattle.vd_report.specs.Outcomes.{Outcome}
use Rattle.vd_report.specs.Ending.{status_of, text_of, status_unwritten, PrintsOutcome}
use Rattle.vd_law.specs.Counts.{Rose}

err_is : {E : Type 0} (r : Result (Unit {0}) E) → IsErr r → (P : Result (Unit {0}) E → Type 0) → ((e : E) → P (Err e)) → P r
err_is (Ok done) failed P at = absurd cc
err_is (Err e) failed P at = at e

rose_on : {E : Type 0} (r : Result (Unit {0}) E) (f0 f1 f2 : ℕ) → f0 ≤ f1 → OnErr r (Rose f1 f2) → OnErr r (Rose f0 f2)
rose_on (Ok done) f0 f1 f2 less rose = tt
rose_on (Err e) f0 f1 f2 less rose = omega arith

failed_after : {E : Type 0} (a b : List ℕ) (e : E) (r2 : Result (Unit {0}) E) (w0 w1 w2 : List ℕ) → IsErr r2 → WritesText a (Err e) w0 w1 → w2 ≡ w1 → WritesText (a ++ b) r2 w0 w2
failed_after a b e r2 w0 w1 w2 failed writes same = subst (λ (w : List ℕ). WritesText (a ++ b) r2 w0 w) (sym same) (writes-failed b failed writes)

module _ {O : Type 0} {o : sink.Ghosts O} where
  pub sink_same : {out : O} → KeepsSink o out out
  sink_same = record { told_before = λ t. t; no_fewer_faults = omega arith }

  sink_twice : {out mid out' : O} → KeepsSink o out mid → KeepsSink o mid out' → KeepsSink o out out'
  sink_twice x y = record { told_before = λ t. x.told_before (y.told_before t); no_fewer_faults = (let p = x.no_fewer_faults in let q = y.no_fewer_faults in omega arith) }

  module _ {E : Type 0} where
    -- no part
    pub writes_nothing : (result : Result (Unit {0}) E) {out : O} → WritesOn o [] result result out out
    writes_nothing (Ok done) {out} = record { keeps = sink_same; goes_on = λ t. record { ok = sym (append-nil (o.written out)); err = tt }; failed_still = tt; cause = tt }
    writes_nothing (Err e) = record { keeps = sink_same; goes_on = λ t. refl; failed_still = refl; cause = tt }

    -- one part and then another are the two in one
    pub writes_both : (a b : List ℕ) (r0 r1 r2 : Result (Unit {0}) E) {out mid out' : O} → WritesOn o a r0 r1 out mid → WritesOn o b r1 r2 mid out' → WritesOn o (a ++ b) r0 r2 out out'
    writes_both a b (Ok d0) (Ok d1) r2 {out} {mid} {out'} x y = record {
      keeps = sink_twice x.keeps y.keeps;
      goes_on = λ t. (let first = x.goes_on (y.keeps.told_before t) in writes-after a first.ok (y.goes_on t));
      failed_still = tt;
      cause = rose_on r2 (o.faults out) (o.faults mid) (o.faults out') x.keeps.no_fewer_faults y.cause;
    }
    writes_both a b (Ok d0) (Err e) r2 {out} {mid} {out'} x y = record {
      keeps = sink_twice x.keeps y.keeps;
      goes_on = λ t. failed_after a b e r2 (o.written out) (o.written mid) (o.written out') y.failed_still (x.goes_on (y.keeps.told_before t)) (y.goes_on t);
      failed_still = tt;
      cause = (let rose = x.cause in let calm = y.keeps.no_fewer_faults in let less : Rose (o.faults out) (o.faults out') = omega arith in err_is r2 y.failed_still (λ r. OnErr r (Rose (o.faults out) (o.faults out'))) (λ e. less));
    }
    writes_both a b (Err e) (Ok d1) r2 x y = absurd (let failed = x.failed_still in cc)
    writes_both a b (Err e) (Err e1) r2 x y = record {
      keeps = sink_twice x.keeps y.keeps;
      goes_on = λ t. y.goes_on t ∙ x.goes_on (y.keeps.told_before t);
      failed_still = y.failed_still;
      cause = tt;
    }

    -- the same text
    pub writes_as : {a b : List ℕ} {r0 r1 : Result (Unit {0}) E} {out out' : O} → a ≡ b → WritesOn o a r0 r1 out out' → WritesOn o b r0 r1 out out'
    writes_as {r0 = r0} {r1} {out} {out'} same x = subst (λ (p : List ℕ). WritesOn o p r0 r1 out out') same x

    -- The whole text was written, or it was cut: so ends the command.
    pub ends_written : (outcome : Outcome) (text : List ℕ) (result : Result (Unit {0}) E) (plain status : ℕ) {out out' : O} → text ≡ text_of outcome → plain ≡ status_of outcome
        → OnOk result (status ≡ plain) → OnErr result (status ≡ status_unwritten plain) → WritesOn o text (Ok tt) result out out' → PrintsOutcome o outcome status out out'
    ends_written outcome text (Ok done) plain status {out} same is whole cut x = record {
      keeps = x.keeps;
      printed = inl (whole ∙ is, (λ t. let w = x.goes_on t in w.ok ∙ ap (λ (p : List ℕ). o.written out ++ p) same));
    }
    ends_written outcome text (Err e) plain status {out} {out'} same is whole cut x = record {
      keeps = x.keeps;
      printed = inr (cut ∙ ap status_unwritten is, x.cause, (λ t. let w = x.goes_on t in subst (λ (p : List ℕ). WritesPart p (o.written out) (o.written out')) same w.err));
    }
