-- A header is valid exactly where its version is known and no field is wrong.
use Rattle.std.proofs.Common.{◌≡◌, ℕ, Bool, true, false, Option, Some, None, refl, sym, ◌∙◌}
use Rattle.std.specs.Prelude.{◌↔◌, is_some, not}
use Rattle.vd_format.specs.Headers.{is_version}
use Rattle.vd_format.proofs.Rules.{none_wrong, wrong_none, valid_from, passes_from, known_version}
use Rattle.vd_format.proofs.header.rules.valid.Goals as goal

none_is : (wrong : Option ℕ) (told : Bool) → is_some wrong ≡ not told → (told ≡ true) ↔ (wrong ≡ None)
none_is None true says = (λ _. refl, λ _. refl)
none_is None false says = absurd cc
none_is (Some n) true says = absurd cc
none_is (Some n) false says = (λ yes. absurd cc, λ none. absurd cc)

pub returns-then-is_version : goal.returns-then-is_version
returns-then-is_version c =
    let h = c.args.header.now in
    let version : is_version h.version ≡ true = sym c.is_version.ensures ∙ c.if-is_version.true in
    let none = none_is c.wrong_field.result c.is_none.result c.is_none.ensures in
    (λ told. valid_from h true version (none_wrong h true (sym c.wrong_field.ensures ∙ none.0 told)), λ valid. none.1 (c.wrong_field.ensures ∙ wrong_none h true (passes_from h valid)))

pub returns-else-is_version : goal.returns-else-is_version
returns-else-is_version c =
    let h = c.args.header.now in
    (λ told. absurd cc, λ valid. (let known = known_version h.version valid.version in c.is_version.ensures ∙ known))
