-- A pass that holds its region can write its piece, or read it.
use Rattle.std.proofs.Common.{◌≡◌, ◌≢◌, ℕ, ◌+◌, ◌^◌, ◌≤◌, ◌⊎◌, Bool, true, List, length, refl, sym, ◌∙◌, ap, subst, inl, inr, arith, Option, Some, slice_get}
use Rattle.std.proofs.lemmas.Bool.{cases_eq}
use Rattle.vd_law.specs.declared.entry.Sector.{Sector}
use Rattle.vd_law.specs.Entries.{Write, Entry}
use Rattle.vd_device.specs.declared.ticket.Ticket.{Ticket}
use Rattle.vd_device.specs.declared.ticket.Kind.TheVariants.{Write as WriteKind}
use Rattle.vd_device.specs.Tickets.{IsFree, AreRangesApart as RangesApart}
use Rattle.vd_passes.specs.declared.shape.Shape.{Shape}
use Rattle.vd_passes.specs.declared.pass.Pass.{Pass}
use Rattle.vd_passes.specs.declared.pass.Phase.{Phase}
use Rattle.vd_passes.specs.declared.pass.Phase.TheVariants.{Idle, Asked as HasAsked, Held, Fetching, Filled, Issuing, Looking, Flushing, Ready}
use Rattle.vd_passes.specs.Standings.{Standing, standing}
use Rattle.vd_passes.specs.Passes.{has_region, tickets_of, HasNone, HasInFlight, IsPiece, IsStored, IsStoreLook, IsBaseLook, IsRequestOf, IsAsHistorySays}
use Rattle.vd_passes.specs.Coherent.{IsCoherent}
use Rattle.vd_passes.specs.Steps.{IsAt, HasAskedWrite, CanWrite, CanRead}
use Rattle.vd_passes.proofs.Lists.{some-inj, few-tickets, all-tickets}
use Rattle.vd_passes.proofs.Regions.{region-of, issuing-write, issuing-place, both-read}
use Rattle.vd_device.specs.declared.store.Store.{Ghosts as StoreGhosts}
use Rattle.vd_device.specs.declared.base.Base.{Ghosts as BaseGhosts}
use Rattle.vd_passes.specs.Requests.{requests}

-- a read of a piece is no write
look-reads : (q : Pass) (shape : Shape) (fresh : List Bool) (t u : Ticket) → IsStoreLook shape fresh q t ⊎ IsBaseLook shape fresh q t → q.ticket ≡ Some u → u.kind ≡ WriteKind → ⊥
look-reads q shape fresh t u (inl store) is kind = let e = ap (λ (x : Ticket). x.kind) (some-inj (sym store.has ∙ is)) in let k = store.kind in cc
look-reads q shape fresh t u (inr base) is kind = let n = base.none in cc

-- a pass that has a write in flight is issuing, or its flush writes below the storage
pub writes-there : (ph : Phase) (q : Pass) (shape : Shape) (fresh : List Bool) (u : Ticket) → HasInFlight ph shape fresh q → q.ticket ≡ Some u → u.kind ≡ WriteKind → ((ph ≡ Issuing) × IsStored shape.block fresh q u) ⊎ ((ph ≡ Flushing) × (u.first + u.count ≤ shape.storage_at))
writes-there Idle q shape fresh u has is kind = absurd (let n = has.ticket in cc)
writes-there HasAsked q shape fresh u has is kind = absurd (let n = has.ticket in cc)
writes-there Held q shape fresh u has is kind = absurd (let n = has.ticket in cc)
writes-there Fetching q shape fresh u has is kind = absurd (let n = has.2 in cc)
writes-there Filled q shape fresh u has is kind = absurd (let n = has.0.ticket in cc)
writes-there Issuing q shape fresh u has is kind = inl (refl, subst (λ t. IsStored shape.block fresh q t) (some-inj (sym has.1 ∙ is)) has.4)
writes-there Looking q shape fresh u has is kind = absurd (look-reads q shape fresh has.0 u has.1 is kind)
writes-there Flushing q shape fresh u has is kind = elim (has.1 u is) [
  | inl flush ↦ absurd (cc)
  | inr low ↦ inr (refl, low.1)
]
writes-there Ready q shape fresh u has is kind = absurd (let n = has.ticket in cc)

-- what a pass has stored lies in the place of its block
pub stored-in : (q : Pass) (u : Ticket) (shape : Shape) (fresh : List Bool) → IsPiece shape q → IsStored shape.block fresh q u → (q.at ≤ u.first) × (u.first + u.count ≤ q.at + shape.block)
stored-in q u shape fresh piece (inl own) = let a = piece.from in let b = piece.to in let e = own.0 in let f = own.1 in (omega arith, omega arith)
stored-in q u shape fresh piece (inr whole) = let e = whole.0 in let f = whole.1 in (omega arith, omega arith)

-- ranges in places that are apart are apart
ranges-apart : (block x y first count other_first other_count : ℕ) → (x + block ≤ y) ⊎ (y + block ≤ x) → x ≤ first → first + count ≤ x + block → y ≤ other_first → other_first + other_count ≤ y + block → RangesApart first count other_first other_count
ranges-apart block x y first count other_first other_count (inl before) a b c d = inl (omega arith)
ranges-apart block x y first count other_first other_count (inr behind) a b c d = inr (omega arith)

-- the pass holds its region, and has nothing in flight
abbrev pub IsHolding : Pass → Type 0
IsHolding p = (p.phase ≡ Held) ⊎ (p.phase ≡ Filled)

pub holding-region : (p : Pass) → IsHolding p → has_region p.phase ≡ true
holding-region p (inl held) = region-of _ Held refl held
holding-region p (inr filled) = region-of _ Filled refl filled

pub holding-not : (p : Pass) (phase : Phase) → IsHolding p → Held ≢ phase → Filled ≢ phase → p.phase ≢ phase
holding-not p phase (inl held) not_held not_filled e = not_held (sym held ∙ e)
holding-not p phase (inr filled) not_held not_filled e = not_filled (sym filled ∙ e)

module _ {shape : Shape} {fresh : List Bool} {places : ℕ → Option ℕ} {t : Standing} {p : Pass} (stands : IsAsHistorySays shape fresh places t p) (holding : IsHolding p) where
  pub holding-none : HasNone p
  holding-none = elim holding [
    | inl held ↦ subst (λ ph. HasInFlight ph shape fresh p) held stands.ticket
    | inr filled ↦ (subst (λ ph. HasInFlight ph shape fresh p) filled stands.ticket).0
  ]

  pub holding-busy : p.phase ≢ Idle
  holding-busy = holding-not p Idle holding (λ e. absurd (cc)) (λ e. absurd (cc))

  pub holding-unready : p.phase ≢ Ready
  holding-unready = holding-not p Ready holding (λ e. absurd (cc)) (λ e. absurd (cc))

module _ {shape : Shape} {fresh : List Bool} {places : ℕ → Option ℕ} {passes : List Pass} {history : List Entry} {S B : Type 0} {g : StoreGhosts S} {h : BaseGhosts B} {store : S} {base : B}
    (co : IsCoherent g h (requests shape fresh passes history) places store base) (i : ℕ) where
  -- The content that was asked is as long as the request.
  pub request-is : (p : Pass) → slice_get passes i ≡ Some p → IsHolding p → (first : ℕ) (content : List Sector) → (standing history i).progress.asked ≡ Some (Write first content) → IsRequestOf p (Write first content)
  request-is p there holding first content asked = let b = (co.each i p there).busy (holding-busy (co.each i p there) holding) in subst (IsRequestOf p) (some-inj (sym b.1 ∙ asked)) b.2

  pub asked-long : (content : List Sector) → HasAskedWrite history i content → (p : Pass) → slice_get passes i ≡ Some p → IsHolding p → length content ≡ p.count
  asked-long content asked p there holding = (request-is p there holding asked.0 content asked.1).2

  -- one whose block has its place
  module _ (p : Pass) (there : slice_get passes i ≡ Some p) (holding : IsHolding p) (known : (p.write ≡ true) ⊎ (slice_get fresh p.block ≡ Some true)) where
    stands : IsAsHistorySays shape fresh places (standing history i) p
    stands = co.each i p there

    region : has_region p.phase ≡ true
    region = holding-region p holding

    placed : places p.block ≡ Some p.at
    placed = stands.at region known

    -- a pass that issues is another, and writes another block
    other-block : (j : ℕ) (q : Pass) → slice_get passes j ≡ Some q → q.phase ≡ Issuing → q.block ≢ p.block
    other-block j q at is same = elim (cases_eq j i) [
      | inl e ↦ let now = ap (λ (x : Pass). x.phase) (some-inj (sym at ∙ ap (slice_get passes) e ∙ there)) in holding-not p Issuing holding (λ f. absurd (cc)) (λ f. absurd (cc)) (sym now ∙ is)
      | inr ne ↦ let no = (both-read co i p there region j q at (region-of _ Issuing refl is) same ne).1 in let writes = issuing-write (co.each j q at) is in cc
    ]

    -- no write in flight touches the place of the block
    apart : (first count : ℕ) → p.at ≤ first → first + count ≤ p.at + shape.block → (j : ℕ) (q : Pass) (u : Ticket) → slice_get passes j ≡ Some q → q.ticket ≡ Some u → u.kind ≡ WriteKind → RangesApart u.first u.count first count
    apart first count from to j q u at is kind =
        let theirs = co.each j q at in
        elim (writes-there q.phase q shape fresh u theirs.ticket is kind) [
          | inl w ↦
              let lies = stored-in q u shape fresh (theirs.piece (region-of _ Issuing refl w.0)) w.1 in
              ranges-apart shape.block q.at p.at u.first u.count first count (co.placed.apart q.block p.block q.at p.at (issuing-place theirs w.0) placed (other-block j q at w.0)) lies.0 lies.1 from to
          | inr low ↦ inl (let inside = (co.placed.inside p.block p.at placed).0 in let below = low.1 in omega arith)
        ]

    free : (first count : ℕ) → p.at ≤ first → first + count ≤ p.at + shape.block → IsFree (g.flight store) (g.depth store) first count
    free first count from to = (tickets_of passes, co.flight, (let few = co.few in let deep = co.deep in omega (arith, few-tickets passes)), all-tickets _ passes (apart first count from to))

    within : p.first + p.count ≤ 2 ^ 26
    within = let range = (stands.range (holding-busy stands holding)).0 in let size = co.shaped.size in omega arith

    pub ready-read : CanRead g shape store p
    ready-read =
        record {
          piece = stands.piece region;
          none = holding-none stands holding;
          room = (co.placed.inside p.block p.at placed).1;
          small = co.shaped.small;
          bounded = co.shaped.bounded;
          end = within;
          free = free;
        }

    pub ready-write : CanWrite g shape store p
    ready-write = record { read = ready-read; buffer = stands.buffer }

  pub can-read : IsAt passes i (λ p. (p.phase ≡ Held) × (slice_get fresh p.block ≡ Some true)) → IsAt passes i (CanRead g shape store)
  can-read at = (at.0, at.1, ready-read at.0 at.1 (inl at.2.0) (inr at.2.1))

  pub can-write : IsAt passes i (λ p. ((p.phase ≡ Held) ⊎ (p.phase ≡ Filled)) × (p.write ≡ true)) → IsAt passes i (CanWrite g shape store)
  can-write at = (at.0, at.1, ready-write at.0 at.1 at.2.0 (inl at.2.1))

  -- and the content that was asked has the piece
  pub can-write-asked : (content : List Sector) → HasAskedWrite history i content → IsAt passes i (λ p. ((p.phase ≡ Held) ⊎ (p.phase ≡ Filled)) × (p.write ≡ true))
      → IsAt passes i (λ p. CanWrite g shape store p × (length content ≡ p.count))
  can-write-asked content asked at = (at.0, at.1, (ready-write at.0 at.1 at.2.0 (inl at.2.1), asked-long content asked at.0 at.1 at.2.0))
