-- What a line says, read as a function, is what the grammar says.
use Rattle.std.proofs.Common.{◌≡◌, ℕ, ◌≤◌, ◌↔◌, Bool, true, false, ◌&&◌, List, [], ◌∷◌, length, Option, Some, None, Result, Ok, Err, refl, sym, ap, ◌∙◌, subst, arith, get_or, eqb, leb}
use Rattle.std.proofs.lemmas.Bool.{and_parts, leb-true, le-leb, eqb-true, eq-eqb, false≢true}
use Rattle.std.proofs.lemmas.Slice.Eq.{bytes_eq-Decides}
use Rattle.std.specs.Prelude.{codes, option_and_then, if◌then◌else◌}
use Rattle.std.specs.Str.{bytes_eq}
use Rattle.std.specs.List.{onto_first, list_any}
use Rattle.std.proofs.lemmas.List.{nil_from_length}
use Rattle.std.proofs.lemmas.Option.{cond_some}
use Rattle.hex.specs.declared.error.FromHexError.{FromHexError}
use Rattle.hex.specs.Hex.{decode_of, decode_sized}
use Rattle.hex.proofs.HexLemmas.{decode_sized-twice, decode_sized-ok, decode_of-ok}
use Rattle.vd_decimal.specs.Numbers.{number_in, ArePlain}
use Rattle.vd_decimal.proofs.Spelling.{number_in-exact, spells-plain}
use Rattle.vd_law.specs.declared.entry.Sector.{Sector}
use Rattle.vd_trace.specs.declared.line.Line.{Line}
use Rattle.vd_trace.specs.declared.line.Line.TheVariants.{Nothing, Asks, Shows}
use Rattle.vd_trace.specs.declared.line.Work.{Work}
use Rattle.vd_trace.specs.declared.line.Work.TheVariants.{Read, Fill, Put, Flush}
use Rattle.vd_trace.specs.LineReading.{ranged_in, guest_in, count_of_field, first_byte, byte_in, as_sector, sector_of_field, work_in, show_in, line_of_fields, line_in, may_follow}
use Rattle.vd_trace.specs.Lines.{IsNumber, IsGuest, AreHexDigits, SpellsWork, SpellsFields, SpellsLine, fields, is_show, InOrder, IsGood}

-- a step that found something
found : {A B : Type 0} (f : A → Option B) (o : Option A) (y : B) → option_and_then f o ≡ Some y → (x : A) × (o ≡ Some x) × (f x ≡ Some y)
found f None y e = cc
found f (Some x) y e = (x, refl, e)

ranged-exact : (low high : ℕ) (field : List ℕ) (n : ℕ) → (ranged_in low high field ≡ Some n) ↔ (IsNumber field n × (low ≤ n) × (n ≤ high))
ranged-exact low high field n = (
  λ e.
      let step = found _ (number_in 10 field) n e in
      let pick = cond_some (leb low step.0 && leb step.0 high) step.0 n step.2 in
      let both = and_parts (leb low step.0) (leb step.0 high) pick.0 in
      let same : step.0 ≡ n = pick.1 in
      let least : low ≤ n = omega (arith, leb-true low step.0 both.0, same) in
      let most : n ≤ high = omega (arith, leb-true step.0 high both.1, same) in
      ((number_in-exact 10 field n).0 (step.1 ∙ ap Some same), least, most),
  λ s. rw ((number_in-exact 10 field n).1 s.0, le-leb _ _ s.1, le-leb _ _ s.2) refl,
)

first_byte-some : (r : Result (List ℕ) FromHexError) (b : ℕ) → first_byte r ≡ Some b → (bytes : List ℕ) × (r ≡ Ok (b ∷ bytes))
first_byte-some (Ok []) b e = cc
first_byte-some (Ok (x ∷ bytes)) b e = let same : x ≡ b = cc in (bytes, ap (λ (y : ℕ). Ok (y ∷ bytes)) same)
first_byte-some (Err f) b e = cc

byte-exact : (field : List ℕ) (b : ℕ) → (byte_in field ≡ Some b) ↔ AreHexDigits 2 field (b ∷ [])
byte-exact field b = (
  λ e.
      let first = first_byte-some (decode_sized field 1) b e in
      let many : length field ≡ 2 = decode_sized-ok field 1 (b ∷ first.0) first.1 in
      let decoded : decode_of field ≡ Ok (b ∷ first.0) = sym (decode_sized-twice field 1 many) ∙ first.1 in
      let rest : length first.0 ≡ 0 = omega (arith, (decode_of-ok field (b ∷ first.0) decoded).2, many) in
      record { many = many; decoded = decoded ∙ ap (λ (bytes : List ℕ). Ok (b ∷ bytes)) (nil_from_length first.0 rest) },
  λ s. rw (decode_sized-twice field 1 s.many, s.decoded) refl,
)

as_sector-some : (r : Result (List ℕ) FromHexError) (s : Sector) → as_sector r ≡ Some s → r ≡ Ok s.bytes
as_sector-some (Ok bytes) s e = let same : record { bytes = bytes } ≡ s = cc in ap (λ (t : Sector). Ok t.bytes) same
as_sector-some (Err f) s e = cc

sector-exact : (field : List ℕ) (s : Sector) → (sector_of_field field ≡ Some s) ↔ AreHexDigits 1024 field s.bytes
sector-exact field s = (
  λ e.
      let told = as_sector-some (decode_sized field 512) s e in
      let many : length field ≡ 1024 = decode_sized-ok field 512 s.bytes told in
      record { many = many; decoded = sym (decode_sized-twice field 512 many) ∙ told },
  λ d. rw (decode_sized-twice field 512 d.many, d.decoded) refl,
)

is_kind : (field : List ℕ) (kind : List ℕ) → bytes_eq field kind ≡ true → field ≡ kind
is_kind field kind e = (bytes_eq-Decides field kind).0 e

-- the fields behind the guest

read-from : (first last : List ℕ) (w : Work) → option_and_then (λ f. option_and_then (λ c. Some (Read f c)) (count_of_field last)) (number_in 10 first) ≡ Some w →
    (kind : List ℕ) → kind ≡ codes "R" → SpellsWork (kind ∷ first ∷ last ∷ []) w
read-from first last w e kind is =
    let f = found _ (number_in 10 first) w e in
    let c = found _ (count_of_field last) w f.2 in
    let same : Read f.0 c.0 ≡ w = cc in
    subst (SpellsWork (kind ∷ first ∷ last ∷ [])) same (is, (number_in-exact 10 first f.0).0 f.1, (ranged-exact 1 2048 last c.0).0 c.1)

put-from : (first last : List ℕ) (w : Work) → option_and_then (λ f. option_and_then (λ s. Some (Put f s)) (sector_of_field last)) (number_in 10 first) ≡ Some w →
    (kind : List ℕ) → kind ≡ codes "X" → SpellsWork (kind ∷ first ∷ last ∷ []) w
put-from first last w e kind is =
    let f = found _ (number_in 10 first) w e in
    let s = found _ (sector_of_field last) w f.2 in
    let same : Put f.0 s.0 ≡ w = cc in
    subst (SpellsWork (kind ∷ first ∷ last ∷ [])) same (is, (number_in-exact 10 first f.0).0 f.1, (sector-exact last s.0).0 s.1)

fill-from : (first count byte : List ℕ) (w : Work) → option_and_then (λ f. option_and_then (λ c. option_and_then (λ b. Some (Fill f c b)) (byte_in byte)) (count_of_field count)) (number_in 10 first) ≡ Some w →
    (kind : List ℕ) → kind ≡ codes "W" → SpellsWork (kind ∷ first ∷ count ∷ byte ∷ []) w
fill-from first count byte w e kind is =
    let f = found _ (number_in 10 first) w e in
    let c = found _ (count_of_field count) w f.2 in
    let b = found _ (byte_in byte) w c.2 in
    let same : Fill f.0 c.0 b.0 ≡ w = cc in
    subst (SpellsWork (kind ∷ first ∷ count ∷ byte ∷ [])) same (is, (number_in-exact 10 first f.0).0 f.1, (ranged-exact 1 2048 count c.0).0 c.1, (byte-exact byte b.0).0 b.1)

work-from : (more : List (List ℕ)) (w : Work) → work_in more ≡ Some w → SpellsWork more w
work-from [] w e = cc
work-from (kind ∷ []) w e = by (bytes_eq kind (codes "F")) refl e where
  by : (b : Bool) → bytes_eq kind (codes "F") ≡ b → (if b then Some Flush else None) ≡ Some w → SpellsWork (kind ∷ []) w
  by true is e = let same : Flush ≡ w = cc in subst (SpellsWork (kind ∷ [])) same (is_kind kind (codes "F") is)
  by false is e = cc
work-from (kind ∷ first ∷ []) w e = cc
work-from (kind ∷ first ∷ last ∷ []) w e = by (bytes_eq kind (codes "R")) (bytes_eq kind (codes "X")) refl refl e where
  by : (b d : Bool) → bytes_eq kind (codes "R") ≡ b → bytes_eq kind (codes "X") ≡ d →
      (if b then option_and_then (λ f. option_and_then (λ c. Some (Read f c)) (count_of_field last)) (number_in 10 first)
      else if d then option_and_then (λ f. option_and_then (λ s. Some (Put f s)) (sector_of_field last)) (number_in 10 first) else None) ≡ Some w → SpellsWork (kind ∷ first ∷ last ∷ []) w
  by true d is is' e = read-from first last w e kind (is_kind kind (codes "R") is)
  by false true is is' e = put-from first last w e kind (is_kind kind (codes "X") is')
  by false false is is' e = cc
work-from (kind ∷ first ∷ count ∷ byte ∷ []) w e = by (bytes_eq kind (codes "W")) refl e where
  by : (b : Bool) → bytes_eq kind (codes "W") ≡ b →
      (if b then option_and_then (λ f. option_and_then (λ c. option_and_then (λ b. Some (Fill f c b)) (byte_in byte)) (count_of_field count)) (number_in 10 first) else None) ≡ Some w →
      SpellsWork (kind ∷ first ∷ count ∷ byte ∷ []) w
  by true is e = fill-from first count byte w e kind (is_kind kind (codes "W") is)
  by false is e = cc
work-from (kind ∷ first ∷ count ∷ byte ∷ more ∷ rest) w e = cc

work-to : (more : List (List ℕ)) (w : Work) → SpellsWork more w → work_in more ≡ Some w
work-to (kind ∷ first ∷ count ∷ []) (Read f c) s = rw (s.0, (number_in-exact 10 first f).1 s.1, (ranged-exact 1 2048 count c).1 s.2) refl
work-to (kind ∷ first ∷ count ∷ byte ∷ []) (Fill f c b) s = rw (s.0, (number_in-exact 10 first f).1 s.1, (ranged-exact 1 2048 count c).1 s.2, (byte-exact byte b).1 s.3) refl
work-to (kind ∷ first ∷ digits ∷ []) (Put f d) s = rw (s.0, (number_in-exact 10 first f).1 s.1, (sector-exact digits d).1 s.2) refl
work-to (kind ∷ []) Flush s = rw s refl
work-to _ _ s = absurd s

-- all fields

show-from : (guests : ℕ) (kind first count : List ℕ) (says : Line) → show_in kind first count ≡ Some says → SpellsFields guests (kind ∷ first ∷ count ∷ []) says
show-from guests kind first count says e = by (bytes_eq kind (codes "S")) refl e where
  by : (b : Bool) → bytes_eq kind (codes "S") ≡ b → (if b then option_and_then (λ f. option_and_then (λ c. Some (Shows f c)) (count_of_field count)) (number_in 10 first) else None) ≡ Some says →
      SpellsFields guests (kind ∷ first ∷ count ∷ []) says
  by true is e =
      let f = found _ (number_in 10 first) says e in
      let c = found _ (count_of_field count) says f.2 in
      let same : Shows f.0 c.0 ≡ says = cc in
      subst (SpellsFields guests (kind ∷ first ∷ count ∷ [])) same (is_kind kind (codes "S") is, (number_in-exact 10 first f.0).0 f.1, (ranged-exact 1 2048 count c.0).0 c.1)
  by false is e = cc

asks-from : (guests : ℕ) (guest : List ℕ) (more : List (List ℕ)) (says : Line) →
    option_and_then (λ g. option_and_then (λ w. Some (Asks g w)) (work_in more)) (guest_in guests guest) ≡ Some says → SpellsFields guests (guest ∷ more) says
asks-from guests guest more says e =
    let g = found _ (guest_in guests guest) says e in
    let w = found _ (work_in more) says g.2 in
    let same : Asks g.0 w.0 ≡ says = cc in
    subst (SpellsFields guests (guest ∷ more)) same ((ranged-exact 1 guests guest g.0).0 g.1, work-from more w.0 w.1)

fields-from : (guests : ℕ) (fs : List (List ℕ)) (says : Line) → line_of_fields guests fs ≡ Some says → SpellsFields guests fs says
fields-from guests [] says e = cc
fields-from guests (guest ∷ []) says e = asks-from guests guest [] says e
fields-from guests (guest ∷ a ∷ []) says e = asks-from guests guest (a ∷ []) says e
fields-from guests (kind ∷ first ∷ count ∷ []) says e = show-from guests kind first count says e
fields-from guests (guest ∷ a ∷ b ∷ c ∷ more) says e = asks-from guests guest (a ∷ b ∷ c ∷ more) says e

asks-to : (guests : ℕ) (guest : List ℕ) (more : List (List ℕ)) (g : ℕ) (w : Work) → IsGuest guests guest g → SpellsWork more w →
    option_and_then (λ g. option_and_then (λ w. Some (Asks g w)) (work_in more)) (guest_in guests guest) ≡ Some (Asks g w)
asks-to guests guest more g w is spells = rw ((ranged-exact 1 guests guest g).1 is, work-to more w spells) refl

fields-to : (guests : ℕ) (fs : List (List ℕ)) (says : Line) → SpellsFields guests fs says → line_of_fields guests fs ≡ Some says
fields-to guests _ Nothing s = absurd s
fields-to guests (guest ∷ []) (Asks g w) s = asks-to guests guest [] g w s.0 s.1
fields-to guests (guest ∷ a ∷ []) (Asks g w) s = asks-to guests guest (a ∷ []) g w s.0 s.1
fields-to guests (guest ∷ a ∷ b ∷ []) (Asks g w) s = absurd (no_two a b w s.1) where
  no_two : (a b : List ℕ) (w : Work) → SpellsWork (a ∷ b ∷ []) w → ⊥
  no_two a b (Read f c) s = s
  no_two a b (Fill f c x) s = s
  no_two a b (Put f d) s = s
  no_two a b Flush s = s
fields-to guests (guest ∷ a ∷ b ∷ c ∷ more) (Asks g w) s = asks-to guests guest (a ∷ b ∷ c ∷ more) g w s.0 s.1
fields-to guests (kind ∷ first ∷ count ∷ []) (Shows f c) s = rw (s.0, (number_in-exact 10 first f).1 s.1, (ranged-exact 1 2048 count c).1 s.2) refl
fields-to guests _ _ s = absurd s

-- no number begins with `#`
no_number : (field : List ℕ) (n : ℕ) → IsNumber (35 ∷ field) n → ⊥
no_number field n s =
    let plain : ArePlain 10 (35 ∷ field) = spells-plain 10 (35 ∷ field) n s in
    let digit : (48 ≤ 35) × (35 ≤ 57) = plain.digits 0 (omega arith) in omega arith

-- a line that begins with `#` has no fields that say anything
silent-none : (guests : ℕ) (parts : List (List ℕ)) (says : Line) → SpellsFields guests (onto_first 35 parts) says → ⊥
silent-none guests _ Nothing s = s
silent-none guests [] (Asks g w) s = no_number [] g s.0.0
silent-none guests (part ∷ parts) (Asks g w) s = no_number part g s.0.0
silent-none guests (part ∷ first ∷ count ∷ []) (Shows f c) s = let head : 35 ≡ 83 = ap (λ (bs : List ℕ). get_or bs 0 0) (s.0) in absurd (omega (arith, head))
silent-none guests _ _ s = s

no_work : (w : Work) → SpellsWork [] w → ⊥
no_work (Read f c) s = s
no_work (Fill f c b) s = s
no_work (Put f d) s = s
no_work Flush s = s

-- what the fields say, the line says
of_fields : (guests b : ℕ) (line : List ℕ) (says : Line) → SpellsFields guests (fields (b ∷ line)) says → SpellsLine guests (b ∷ line) says
of_fields guests b line Nothing s = absurd s
of_fields guests b line (Asks g w) s = s
of_fields guests b line (Shows f c) s = s

silent-line : (guests b : ℕ) (line : List ℕ) (says : Line) → b ≡ 35 → SpellsLine guests (b ∷ line) says → Some Nothing ≡ Some says
silent-line guests b line Nothing is s = refl
silent-line guests b line (Asks g w) is s = absurd (silent-none guests (fields line) (Asks g w) (subst (λ (x : ℕ). SpellsFields guests (fields (x ∷ line)) (Asks g w)) is s))
silent-line guests b line (Shows f c) is s = absurd (silent-none guests (fields line) (Shows f c) (subst (λ (x : ℕ). SpellsFields guests (fields (x ∷ line)) (Shows f c)) is s))

spoken-line : (guests b : ℕ) (line : List ℕ) (says : Line) → (b ≡ 35 → ⊥) → SpellsLine guests (b ∷ line) says → line_of_fields guests (fields (b ∷ line)) ≡ Some says
spoken-line guests b line Nothing not s = absurd (not s)
spoken-line guests b line (Asks g w) not s = fields-to guests (fields (b ∷ line)) (Asks g w) s
spoken-line guests b line (Shows f c) not s = fields-to guests (fields (b ∷ line)) (Shows f c) s

empty-line : (guests : ℕ) (says : Line) → SpellsLine guests [] says → Some Nothing ≡ Some says
empty-line guests Nothing s = refl
empty-line guests (Asks g w) s = absurd (no_work w s.1)
empty-line guests (Shows f c) s = absurd s

-- the function finds what the grammar says, and nothing else
pub line-exact : (guests : ℕ) (line : List ℕ) (says : Line) → (line_in guests line ≡ Some says) ↔ SpellsLine guests line says
line-exact guests [] says = (λ e. let same : Nothing ≡ says = cc in subst (SpellsLine guests []) same tt, empty-line guests says)
line-exact guests (b ∷ line) says = by (eqb b 35) refl where
  by : (d : Bool) → eqb b 35 ≡ d → ((if d then Some Nothing else line_of_fields guests (fields (b ∷ line))) ≡ Some says) ↔ SpellsLine guests (b ∷ line) says
  by true is = (
    λ e. let same : Nothing ≡ says = cc in subst (SpellsLine guests (b ∷ line)) same (eqb-true b 35 is),
    silent-line guests b line says (eqb-true b 35 is),
  )
  by false is = (
    λ e. of_fields guests b line says (fields-from guests (fields (b ∷ line)) says e),
    spoken-line guests b line says (λ same. false≢true (sym is ∙ eq-eqb b 35 same)),
  )

-- a line says one thing at most
pub line-unique : (guests : ℕ) (line : List ℕ) (a b : Line) → SpellsLine guests line a → SpellsLine guests line b → a ≡ b
line-unique guests line a b first second =
    let one : Some a ≡ Some b = sym ((line-exact guests line a).1 first) ∙ (line-exact guests line b).1 second in cc

follows-order : (before : List Line) (shown : Bool) (says : Line) → list_any is_show before ≡ shown → may_follow shown says ≡ true → InOrder before says
follows-order before shown Nothing is may = tt
follows-order before true (Asks g w) is may = cc
follows-order before false (Asks g w) is may = is
follows-order before shown (Shows f c) is may = tt

order-follows : (before : List Line) (shown : Bool) (says : Line) → list_any is_show before ≡ shown → InOrder before says → may_follow shown says ≡ true
order-follows before shown Nothing is order = refl
order-follows before shown (Asks g w) is order = rw (sym is ∙ order) refl
order-follows before shown (Shows f c) is order = refl

-- no line is good where nothing is found
pub good-none : (guests : ℕ) (before : List Line) (line : List ℕ) (answer : Option Line) → answer ≡ None → None ≡ line_in guests line → (says : Line) → (answer ≡ Some says) ↔ IsGood guests before line says
good-none guests before line answer none nothing says = (
  λ e. let no : None ≡ Some says = sym none ∙ e in cc,
  λ good. let no : None ≡ Some says = nothing ∙ (line-exact guests line says).1 good.spells in cc,
)

-- what is found is good, and nothing else, where it may follow
pub good-some : (guests : ℕ) (before : List Line) (line : List ℕ) (shown : Bool) (there : Line) → length line ≤ 1100 → Some there ≡ line_in guests line → list_any is_show before ≡ shown → may_follow shown there ≡ true →
    (says : Line) → (Some there ≡ Some says) ↔ IsGood guests before line says
good-some guests before line shown there short found shows may says = (
  λ e.
      let same : there ≡ says = cc in
      record { short = short; spells = (line-exact guests line says).0 (sym found ∙ e); order = follows-order before shown says shows (subst (λ (l : Line). may_follow shown l ≡ true) same may) },
  λ good. found ∙ (line-exact guests line says).1 good.spells,
)
