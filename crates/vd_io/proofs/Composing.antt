-- A text that is written in several writes.
use Rattle.std.proofs.Common.{◌≡◌, ℕ, ◌+◌, ◌≤◌, List, ◌++◌, length, take, min, Result, Ok, Err, sym, ◌∙◌, ap, append_assoc, arith}
use Rattle.std.proofs.lemmas.List.{take-append-le, take_min}
use Rattle.std.proofs.Math.Seq.{take-append-add}
use Rattle.std.specs.Prelude.{IsErr}
use Rattle.vd_io.specs.Streams.{WritesPart, WritesText}
use Rattle.vd_law.specs.Counts.{Rose}

-- a front of a text is a front of what begins with it
pub part-longer : (a b before after : List ℕ) → WritesPart a before after → WritesPart (a ++ b) before after
part-longer a b before after part =
    let least : min part.0 (length a) ≤ length a = omega arith in
    (min part.0 (length a), part.1 ∙ ap (λ (t : List ℕ). before ++ t) (sym (take_min part.0 a) ∙ sym (take-append-le (min part.0 (length a)) a b least)))

-- the whole of the first text, and a front of the second
pub part-after : (a b before between after : List ℕ) → between ≡ before ++ a → WritesPart b between after → WritesPart (a ++ b) before after
part-after a b before between after whole part =
    (length a + part.0, part.1 ∙ ap (λ (t : List ℕ). t ++ take part.0 b) whole ∙ append_assoc before a (take part.0 b) ∙ ap (λ (t : List ℕ). before ++ t) (sym (take-append-add a b part.0)))

-- a text and then another are the two in one
pub writes-after : {E : Type 0} (a : List ℕ) {b : List ℕ} {result : Result (Unit {0}) E} {before between after : List ℕ} →
    between ≡ before ++ a → WritesText b result between after → WritesText (a ++ b) result before after
writes-after a {b = b} {result = Ok u} {before = before} whole more = record {
  ok = more.ok ∙ ap (λ (t : List ℕ). t ++ b) whole ∙ append_assoc before a b;
  err = tt;
}
writes-after a {b = b} {result = Err e} {before = before} {between = between} {after = after} whole more = record {
  ok = tt;
  err = part-after a b before between after whole more.err;
}

-- where a write of a text failed, one of a longer text fails with it
pub writes-failed : {E : Type 0} {a : List ℕ} (b : List ℕ) {result : Result (Unit {0}) E} {e : E} {before after : List ℕ} →
    IsErr result → WritesText a (Err e) before after → WritesText (a ++ b) result before after
writes-failed b {result = Ok u} failed part = cc
writes-failed {a = a} b {result = Err f} {before = before} {after = after} failed part = record {
  ok = tt;
  err = part-longer a b before after part.err;
}

-- a count that has risen stays so
pub rose-earlier : (first before now : ℕ) → first ≤ before → Rose before now → Rose first now
rose-earlier first before now calm rose = omega arith

pub rose-later : (before now last : ℕ) → Rose before now → now ≤ last → Rose before last
rose-later before now last rose no_fewer_faults = omega arith
