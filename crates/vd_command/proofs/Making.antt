-- The header of version 2 that a command makes keeps its rules exactly where no field of it is wrong.
use Rattle.std.proofs.Common.{ℕ, ◌≡◌, ◌↔◌, Bool, true, Option, Some, None, is_none, refl, ap, inr}
use Rattle.std.specs.Bool.{IsTrue}
use Rattle.std.proofs.lemmas.Bool.Decides.{same_from_decides}
use Rattle.vd_format.specs.declared.header.Header.{Header}
use Rattle.vd_format.specs.Headers.{IsValid, judged_fields, first_wrong}
use Rattle.vd_format.proofs.Rules.{none_wrong, wrong_none, valid_from, passes_from, known_version}

none_there : (wrong : Option ℕ) → is_none wrong ≡ true → wrong ≡ None
none_there None told = refl
none_there (Some n) told = absurd cc

-- no field is wrong
pub test-valid : (h : Header) → h.version ≡ 2 → is_none (first_wrong (judged_fields h true)) ≡ true → IsValid h
test-valid h two told = valid_from h true (known_version h.version (inr two)) (none_wrong h true (none_there _ told))

pub valid-test : (h : Header) → IsValid h → is_none (first_wrong (judged_fields h true)) ≡ true
valid-test h valid = ap is_none (wrong_none h true (passes_from h valid))

pub same_test : (h : Header) (b : Bool) → h.version ≡ 2 → (IsTrue b ↔ IsValid h) → is_none (first_wrong (judged_fields h true)) ≡ b
same_test h b two told = same_from_decides _ b (test-valid h two, valid-test h) told
