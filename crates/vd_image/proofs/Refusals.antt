-- An image is consistent exactly where it is refused for nothing.
use Rattle.std.proofs.Common.{ℕ, zero, suc, ◌≡◌, ◌<◌, ◌⊎◌, inl, inr, Option, Some, None, arith, refl, ap, sym, subst, ◌∙◌}
use Rattle.std.proofs.lemmas.Bool.{cases_lt, cases_eq}
use Rattle.vd_image.specs.Image.{Mapping, Format, Layout, Image, Maps, GivesStorage, IsGoodMapping, IsGoodSlot, IsConsistent}
use Rattle.vd_image.specs.Refusals.{Refusal, BadEntry, BadRecord, DoubleChunk, IsFirstNot, IsFirstWithStorage, Refuses, Entry_bad, Record_bad, Chunk_double}
use Rattle.vd_image.proofs.Deciding.{maps_some, maps_one}

-- a consistent image is refused for nothing
pub consistent_not_refused : (f : Format) (l : Layout) (image : Image) (generation : ℕ) → IsConsistent f l image generation → (r : Refusal) → Refuses f l image generation r → ⊥
consistent_not_refused f l image generation is (BadEntry c) (Entry_bad d first) = first.fails (is.mappings d first.within)
consistent_not_refused f l image generation is (BadRecord k) (Record_bad i all first) = first.fails (is.records i first.within)
consistent_not_refused f l image generation is (DoubleChunk x y) (Chunk_double a b p all good less gives also first) = let same = is.one_to_one a b p gives also in omega arith

-- the first number of which something doesn't hold, if there is one
pub first_not : (P : ℕ → Type 0) (top : ℕ) → ((n : ℕ) → n < top → P n ⊎ (P n → ⊥)) → ((n : ℕ) → n < top → P n) ⊎ ((n : ℕ) × IsFirstNot P top n)
first_not P zero decide = inl (λ n less. absurd (omega (arith, less)))
first_not P (suc top) decide = elim (first_not P top (λ n less. decide n (omega arith))) [
  | inr found ↦ inr (found.0, record { within = let w = found.1.within in omega arith; fails = found.1.fails; before = found.1.before })
  | inl all ↦ elim (decide top (omega arith)) [
    | inl here ↦ inl (λ n less. elim (cases_lt n top) [ inl below ↦ all n below | inr above ↦ (let same : top ≡ n = omega arith in subst P same here) ])
    | inr not ↦ inr (top, record { within = omega arith; fails = not; before = all })
  ]
]

-- whether some number below `top` does
pub some_below : (P : ℕ → Type 0) (top : ℕ) → ((n : ℕ) → n < top → P n ⊎ (P n → ⊥)) → ((n : ℕ) × (n < top) × P n) ⊎ ((n : ℕ) → n < top → P n → ⊥)
some_below P zero decide = inr (λ n less. absurd (omega (arith, less)))
some_below P (suc top) decide = elim (decide top (omega arith)) [
  | inl here ↦ inl (top, omega arith, here)
  | inr not ↦ elim (some_below P top (λ n less. decide n (omega arith))) [
    | inl found ↦ inl (found.0, omega (arith, found.1), found.2)
    | inr none ↦ inr (λ n less is. elim (cases_lt n top) [ inl below ↦ none n below is | inr above ↦ (let same : n ≡ top = omega arith in not (subst P same is)) ])
  ]
]

-- the two chunks have one storage
abbrev IsTwin : Format → Layout → Image → ℕ → ℕ → ℕ → Type 0
IsTwin f l image generation b a = (p : ℕ) × GivesStorage f l image generation a p × GivesStorage f l image generation b p

-- whether two chunks that have mappings have one storage
twin : (f : Format) (l : Layout) (image : Image) (generation a b : ℕ) (m n : Mapping) → Maps f l image generation a m → Maps f l image generation b n → IsTwin f l image generation b a ⊎ (IsTwin f l image generation b a → ⊥)
twin f l image generation a b m n first second = by_storage m.storage refl n.storage refl
  where
    of_first : (p : ℕ) → GivesStorage f l image generation a p → m.storage ≡ Some p
    of_first p g = subst (λ (y : Mapping). y.storage ≡ Some p) (maps_one f l image generation a g.0 m g.1 first) g.2

    of_second : (p : ℕ) → GivesStorage f l image generation b p → n.storage ≡ Some p
    of_second p g = subst (λ (y : Mapping). y.storage ≡ Some p) (maps_one f l image generation b g.0 n g.1 second) g.2

    by_storage : (x : Option ℕ) → m.storage ≡ x → (y : Option ℕ) → n.storage ≡ y → IsTwin f l image generation b a ⊎ (IsTwin f l image generation b a → ⊥)
    by_storage None e y k = inr (λ t. absurd (let is = of_first t.0 t.1 in cc))
    by_storage (Some p) e None k = inr (λ t. absurd (let is = of_second t.0 t.2 in cc))
    by_storage (Some p) e (Some q) k = elim (cases_eq p q) [
      | inl same ↦ inl (p, (m, first, e), (n, second, k ∙ ap Some (sym same)))
      | inr differ ↦ inr (λ t. differ (let x = of_first t.0 t.1 in let y = of_second t.0 t.2 in cc))
    ]

-- a chunk that has storage exists
gives_within : (f : Format) (l : Layout) (image : Image) (generation c p : ℕ) → ((k : ℕ) → k < l.slots → IsGoodSlot f l image generation k) → GivesStorage f l image generation c p → c < l.chunks
gives_within f l image generation c p good (m, inl last, is) =
    subst (λ (d : ℕ). d < l.chunks) last.names ((good last.slot last.counts.within last.counts.item last.counts.reads last.counts.current).facts last.place last.fact last.counts.stands).0
gives_within f l image generation c p good (m, inr page, is) = page.1

-- An image is consistent or is refused for something, where it can be told which mappings and records are in the grammar.
pub consistent_or_refused : (f : Format) (l : Layout) (image : Image) (generation : ℕ)
    → ((c : ℕ) → c < l.chunks → IsGoodMapping f l image c ⊎ (IsGoodMapping f l image c → ⊥))
    → ((k : ℕ) → k < l.slots → IsGoodSlot f l image generation k ⊎ (IsGoodSlot f l image generation k → ⊥))
    → IsConsistent f l image generation ⊎ ((r : Refusal) × Refuses f l image generation r)
consistent_or_refused f l image generation mappings slots = elim (first_not (IsGoodMapping f l image) l.chunks mappings) [
  | inr bad ↦ inr (BadEntry bad.0, Entry_bad bad.0 bad.1)
  | inl good ↦ elim (first_not (IsGoodSlot f l image generation) l.slots slots) [
    | inr bad ↦ inr (BadRecord bad.0, Record_bad bad.0 good bad.1)
    | inl good_slots ↦ elim (first_not (IsFirstWithStorage f l image generation) l.chunks (λ b within. is_new good good_slots b within)) [
      | inl new ↦ inl (record { mappings = good; records = good_slots; one_to_one = λ c d p first second. one good_slots new c d p first second })
      | inr bad ↦ (let twin = found good good_slots bad.0 bad.1.within bad.1.fails in inr (DoubleChunk twin.0 bad.0, Chunk_double twin.0 bad.0 twin.1 good good_slots twin.2 twin.3 twin.4 bad.1))
    ]
  ]
]
  where
    twins : ((c : ℕ) → c < l.chunks → IsGoodMapping f l image c) → ((k : ℕ) → k < l.slots → IsGoodSlot f l image generation k) → (b : ℕ) → b < l.chunks
        → ((a : ℕ) × (a < b) × IsTwin f l image generation b a) ⊎ ((a : ℕ) → a < b → IsTwin f l image generation b a → ⊥)
    twins good good_slots b within = some_below (IsTwin f l image generation b) b (λ a less.
        let first = maps_some f l image generation good_slots good a (omega arith) in
        let second = maps_some f l image generation good_slots good b within in
        twin f l image generation a b first.0 second.0 first.1 second.1)

    is_new : ((c : ℕ) → c < l.chunks → IsGoodMapping f l image c) → ((k : ℕ) → k < l.slots → IsGoodSlot f l image generation k) → (b : ℕ) → b < l.chunks
        → IsFirstWithStorage f l image generation b ⊎ (IsFirstWithStorage f l image generation b → ⊥)
    is_new good good_slots b within = elim (twins good good_slots b within) [
      | inl t ↦ inr (λ new. new t.0 t.2.0 t.1 t.2.1 t.2.2)
      | inr none ↦ inl (λ a p less first second. none a less (p, first, second))
    ]

    found : ((c : ℕ) → c < l.chunks → IsGoodMapping f l image c) → ((k : ℕ) → k < l.slots → IsGoodSlot f l image generation k) → (b : ℕ) → b < l.chunks → (IsFirstWithStorage f l image generation b → ⊥)
        → (a : ℕ) × (p : ℕ) × (a < b) × GivesStorage f l image generation a p × GivesStorage f l image generation b p
    found good good_slots b within not = elim (twins good good_slots b within) [
      | inl t ↦ (t.0, t.2.0, t.1, t.2.1, t.2.2)
      | inr none ↦ absurd (not (λ a p less first second. none a less (p, first, second)))
    ]

    one : ((k : ℕ) → k < l.slots → IsGoodSlot f l image generation k) → ((b : ℕ) → b < l.chunks → IsFirstWithStorage f l image generation b) → (c d p : ℕ) → GivesStorage f l image generation c p → GivesStorage f l image generation d p → c ≡ d
    one good_slots new c d p first second = elim (cases_lt c d) [
      | inl less ↦ absurd (new d (gives_within f l image generation d p good_slots second) c p less first second)
      | inr more ↦ elim (cases_lt d c) [
        | inl less ↦ absurd (new c (gives_within f l image generation c p good_slots first) d p less second first)
        | inr equal ↦ omega arith
      ]
    ]

-- An image is refused for one thing alone.

first_one : (P : ℕ → Type 0) (top m n : ℕ) → IsFirstNot P top m → IsFirstNot P top n → m ≡ n
first_one P top m n first second = elim (cases_lt m n) [
  | inl less ↦ absurd (first.fails (second.before m less))
  | inr more ↦ elim (cases_lt n m) [ inl less ↦ absurd (second.fails (first.before n less)) | inr equal ↦ omega arith ]
]

-- of three chunks with one storage the second isn't new
twins_one : (f : Format) (l : Layout) (image : Image) (generation a c b p q : ℕ) → a < c → c < b → IsFirstNot (IsFirstWithStorage f l image generation) l.chunks b
    → GivesStorage f l image generation a p → GivesStorage f l image generation b p → GivesStorage f l image generation c q → GivesStorage f l image generation b q → ⊥
twins_one f l image generation a c b p q less before first gives_a gives_b gives_c also =
    let mapping = maps_one f l image generation b also.0 gives_b.0 also.1 gives_b.1 in
    let there : gives_b.0.storage ≡ Some q = subst (λ (w : Mapping). w.storage ≡ Some q) mapping also.2 in
    let given = gives_b.2 in
    let same : q ≡ p = cc in
    first.before c before a p less gives_a (subst (λ (n : ℕ). GivesStorage f l image generation c n) same gives_c)

pub refused_for_one : (f : Format) (l : Layout) (image : Image) (generation : ℕ) (r q : Refusal) → Refuses f l image generation r → Refuses f l image generation q → r ≡ q
refused_for_one f l image generation r q (Entry_bad c first) (Entry_bad d second) = ap BadEntry (first_one (IsGoodMapping f l image) l.chunks c d first second)
refused_for_one f l image generation r q (Entry_bad c first) (Record_bad k all second) = absurd (first.fails (all c first.within))
refused_for_one f l image generation r q (Entry_bad c first) (Chunk_double a b p all good less gives also second) = absurd (first.fails (all c first.within))
refused_for_one f l image generation r q (Record_bad k all first) (Entry_bad c second) = absurd (second.fails (all c second.within))
refused_for_one f l image generation r q (Record_bad k all first) (Record_bad i every second) = ap BadRecord (first_one (IsGoodSlot f l image generation) l.slots k i first second)
refused_for_one f l image generation r q (Record_bad k all first) (Chunk_double a b p every good less gives also second) = absurd (first.fails (good k first.within))
refused_for_one f l image generation r q (Chunk_double a b p all good less gives also first) (Entry_bad c second) = absurd (second.fails (all c second.within))
refused_for_one f l image generation r q (Chunk_double a b p all good less gives also first) (Record_bad k every second) = absurd (second.fails (good k second.within))
refused_for_one f l image generation r q (Chunk_double a b p all good less gives also first) (Chunk_double c d n every fine lower gives_c also_d second) =
    ap (λ (x : ℕ). DoubleChunk x b) firsts ∙ ap (λ (y : ℕ). DoubleChunk c y) seconds
  where
    seconds : b ≡ d
    seconds = first_one (IsFirstWithStorage f l image generation) l.chunks b d first second

    also_b : GivesStorage f l image generation b n
    also_b = subst (λ (y : ℕ). GivesStorage f l image generation y n) (sym seconds) also_d

    firsts : a ≡ c
    firsts = elim (cases_lt a c) [
      | inl before ↦ absurd (twins_one f l image generation a c b p n before (let e = seconds in omega arith) first gives also gives_c also_b)
      | inr not_before ↦ elim (cases_lt c a) [
        | inl after ↦ absurd (twins_one f l image generation c a b n p after less first gives_c also_b gives also)
        | inr equal ↦ omega arith
      ]
    ]
