-- Lists of tickets, into which one is put and from which one is taken.
use Rattle.std.proofs.Common.{◌≡◌, ◌+◌, ◌⊎◌, inl, inr, List, [], ◌∷◌, ◌++◌, length, ap, sym, subst, arith, length-append}
use Rattle.std.specs.Prelude.{◌≢◌}
use Rattle.std.specs.List.{AllByRecursion, Contains}
use Rattle.std.proofs.lemmas.List.Elements.{All-from_recursion, All-contains, Contains-append_left, Contains-append_right, Contains-append_cases, Contains-push, Contains-push_cases}
use Rattle.vd_lists.proofs.Elements.{each_without, each_with}
use Rattle.vd_device.specs.declared.ticket.Ticket.{Ticket}
use Rattle.vd_device.specs.Tickets.{HasAmong}
use Rattle.vd_mem.specs.Flying.{HaveDistinctNumbers}

pub all-more : (P Q : Ticket → Type 0) → ((t : Ticket) → P t → Q t) → (ts : List Ticket) → AllByRecursion P ts → AllByRecursion Q ts
all-more P Q f [] all = tt
all-more P Q f (t ∷ ts) all = (f t all.0, all-more P Q f ts all.1)

-- of two facts of each
pub all-both : (P R Q : Ticket → Type 0) → ((t : Ticket) → P t → R t → Q t) → (ts : List Ticket) → AllByRecursion P ts → AllByRecursion R ts → AllByRecursion Q ts
all-both P R Q f [] all other = tt
all-both P R Q f (t ∷ ts) all other = (f t all.0 other.0, all-both P R Q f ts all.1 other.1)

pub all-put : (P : Ticket → Type 0) (t : Ticket) (others all : List Ticket) → HasAmong t others all → AllByRecursion P others → P t → AllByRecursion P all
all-put P t others all among each here =
    subst (AllByRecursion P) (sym among.with_it) (each_with P among.before among.after t here (subst (AllByRecursion P) among.without each))

pub all-take : (P : Ticket → Type 0) (t : Ticket) (others all : List Ticket) → HasAmong t others all → AllByRecursion P all → P t × AllByRecursion P others
all-take P t others all among each =
    let parts = each_without P among.before among.after t (subst (AllByRecursion P) among.with_it each) in
    (parts.0, subst (AllByRecursion P) (sym among.without) parts.1)

pub all-at : (P : Ticket → Type 0) (ts : List Ticket) (t : Ticket) → AllByRecursion P ts → Contains ts t → P t
all-at P ts t all among = All-contains P ts t (All-from_recursion P ts all) among

-- how many there are
pub put-length : (t : Ticket) (others all : List Ticket) → HasAmong t others all → length all ≡ length others + 1
put-length t others all among =
    let w = ap length among.with_it in let o = ap length among.without in
    omega (arith, length-append among.before (t ∷ among.after), length-append among.before among.after)

-- Those that are there.

pub contains-put : (t : Ticket) (others all : List Ticket) → HasAmong t others all → (u : Ticket) → Contains others u → Contains all u
contains-put t others all among u there =
    subst (λ (ts : List Ticket). Contains ts u) (sym among.with_it)
    (elim (Contains-append_cases among.before among.after u (subst (λ (ts : List Ticket). Contains ts u) among.without there)) [
      | inl front ↦ Contains-append_left among.before (t ∷ among.after) u front
      | inr back ↦ Contains-append_right among.before (t ∷ among.after) u (Contains-append_right (t ∷ []) among.after u back)
    ])

pub contains-it : (t : Ticket) (others all : List Ticket) → HasAmong t others all → Contains all t
contains-it t others all among =
    subst (λ (ts : List Ticket). Contains ts t) (sym among.with_it)
    (Contains-append_right among.before (t ∷ among.after) t (Contains-append_left (t ∷ []) among.after t (Contains-push [] t)))

-- each is the one that is taken, or one of the others
pub contains-take : (t : Ticket) (others all : List Ticket) → HasAmong t others all → (u : Ticket) → Contains all u → (t ≡ u) ⊎ Contains others u
contains-take t others all among u there =
    let back : Contains others u → (t ≡ u) ⊎ Contains others u = λ c. inr c in
    elim (Contains-append_cases among.before (t ∷ among.after) u (subst (λ (ts : List Ticket). Contains ts u) among.with_it there)) [
      | inl front ↦ inr (subst (λ (ts : List Ticket). Contains ts u) (sym among.without) (Contains-append_left among.before among.after u front))
      | inr later ↦ elim (Contains-append_cases (t ∷ []) among.after u later) [
        | inl here ↦ elim (Contains-push_cases [] t u here) [ inl none ↦ absurd (omega (arith, none.1)) | inr same ↦ inl same ]
        | inr rest ↦ inr (subst (λ (ts : List Ticket). Contains ts u) (sym among.without) (Contains-append_right among.before among.after u rest))
      ]
    ]

-- No two have one number.

abbrev pub IsOther : Ticket → Ticket → Type 0
IsOther t u = u.number ≢ t.number

other-turned : (t u : Ticket) → IsOther t u → IsOther u t
other-turned t u other same = other (sym same)

distinct-insert : (before after : List Ticket) (t : Ticket) → HaveDistinctNumbers (before ++ after) → AllByRecursion (IsOther t) (before ++ after) → HaveDistinctNumbers (before ++ t ∷ after)
distinct-insert [] after t distinct others = (others, distinct)
distinct-insert (u ∷ before) after t distinct others =
    (each_with (IsOther u) before after t (other-turned t u others.0) distinct.0, distinct-insert before after t distinct.1 others.1)

distinct-remove : (before after : List Ticket) (t : Ticket) → HaveDistinctNumbers (before ++ t ∷ after) → HaveDistinctNumbers (before ++ after) × AllByRecursion (IsOther t) (before ++ after)
distinct-remove [] after t distinct = (distinct.1, distinct.0)
distinct-remove (u ∷ before) after t distinct =
    let head = each_without (IsOther u) before after t distinct.0 in let rest = distinct-remove before after t distinct.1 in
    ((head.1, rest.0), (other-turned u t head.0, rest.1))

pub distinct-put : (t : Ticket) (others all : List Ticket) → HasAmong t others all → HaveDistinctNumbers others → AllByRecursion (IsOther t) others → HaveDistinctNumbers all
distinct-put t others all among distinct other =
    subst HaveDistinctNumbers (sym among.with_it) (distinct-insert among.before among.after t (subst HaveDistinctNumbers among.without distinct) (subst (AllByRecursion (IsOther t)) among.without other))

pub distinct-take : (t : Ticket) (others all : List Ticket) → HasAmong t others all → HaveDistinctNumbers all → HaveDistinctNumbers others × AllByRecursion (IsOther t) others
distinct-take t others all among distinct =
    let parts = distinct-remove among.before among.after t (subst HaveDistinctNumbers among.with_it distinct) in
    (subst HaveDistinctNumbers (sym among.without) parts.0, subst (AllByRecursion (IsOther t)) (sym among.without) parts.1)

-- the one with the ticket's number is that ticket
pub same-number : (t : Ticket) (others all : List Ticket) → HasAmong t others all → HaveDistinctNumbers all → (u : Ticket) → Contains all u → u.number ≡ t.number → t ≡ u
same-number t others all among distinct u there same =
    elim (contains-take t others all among u there) [
      | inl it ↦ it
      | inr other ↦ absurd (all-at (IsOther t) others u (distinct-take t others all among distinct).1 other same)
    ]
