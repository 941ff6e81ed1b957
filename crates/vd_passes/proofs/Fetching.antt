-- A block is read from the base: the read begins, ends, or isn't needed.
use Rattle.std.proofs.Common.{◌≡◌, ℕ, ◌+◌, ◌-◌, ◌*◌, ◌^◌, ◌≤◌, Bool, true, false, List, [], ◌++◌, length, replicate, refl, sym, ◌∙◌, ap, subst, inl, inr, arith, length-append, Option, Some, None, slice_get, slice_set}
use Rattle.std.proofs.lemmas.List.{length-replicate}
use Rattle.vd_law.specs.declared.entry.Sector.{Sector}
use Rattle.vd_law.specs.Entries.{Entry}
use Rattle.vd_device.specs.declared.ticket.Ticket.{Ticket}
use Rattle.vd_device.specs.declared.ticket.Kind.TheVariants.{Read as ReadKind}
use Rattle.vd_device.specs.declared.settled.Settled.{Settled}
use Rattle.vd_device.specs.declared.settled.Settled.TheVariants as settled
use Rattle.vd_device.specs.Tickets.{IsClear, Puts}
use Rattle.vd_device.specs.Calls.{Settles, Gives, IsHeld}
use Rattle.vd_passes.specs.declared.shape.Shape.{Shape}
use Rattle.vd_passes.specs.declared.pass.Pass.{Pass}
use Rattle.vd_passes.specs.declared.pass.Phase.{Phase}
use Rattle.vd_passes.specs.declared.pass.Phase.TheVariants.{Idle, Asked as HasAsked, Held, Fetching, Filled, Issuing, Looking, Flushing, Ready}
use Rattle.vd_passes.specs.declared.pass.Fault.TheVariants as fault
use Rattle.vd_passes.specs.Laying.{count_below, IsRest, Backs}
use Rattle.vd_passes.specs.Standings.{standing}
use Rattle.vd_passes.specs.Passes.{has_region, pending_of, writes_in, fetches_of, IsFetch, HasNone, HasInFlight, IsAsHistorySays, after_fetch, after_filled, after_fault}
use Rattle.vd_passes.specs.Coherent.{IsCoherent, IsFaithful}
use Rattle.vd_passes.specs.Steps.{IsAt, CanReadBase, IsWaitingForBase, Fetches, FillsZeros, FetchSettled, after_base_read}
use Rattle.vd_passes.proofs.Lists.{some-inj, tickets-same, fetches-put, fetches-taken, fetches-same, few-fetches, all-fetches}
use Rattle.vd_passes.proofs.Places.{block-after}
use Rattle.vd_passes.proofs.Regions.{region-of, fetch-ticket, held-ticket, look-ticket}
use Rattle.vd_passes.proofs.NotIssuing.{quiet-coherent, still-faithful, apart-kept, apart-free}
use Rattle.vd_passes.proofs.Onward.{not-idle, moved-stands, failed-stands}
use Rattle.vd_format.specs.Background.{zero_sector}
use Rattle.vd_device.specs.declared.store.Store.{Ghosts as StoreGhosts}
use Rattle.vd_device.specs.declared.base.Base.{Ghosts as BaseGhosts}
use Rattle.vd_passes.specs.Requests.{RequestState, requests}
use Rattle.vd_passes.proofs.Growing.{AreAlike, alike-same, alike-base}

-- it holds the region of a block that isn't fresh, to write a piece of it
abbrev pub IsToFill : List Bool → Pass → Type 0
IsToFill fresh p = (p.phase ≡ Held) × (p.write ≡ true) × (slice_get fresh p.block ≡ Some false)

-- What the base doesn't have is zeros.
pub zeros-are-rest : (rest : ℕ → Sector) (limit : ℕ) (base : List Sector) → Backs rest limit base → (first count : ℕ) → count_below limit first count ≡ 0 → IsRest rest first (replicate count zero_sector)
zeros-are-rest rest limit base backs first count nothing =
    let same : count - 0 ≡ count = omega arith in
    subst (λ (n : ℕ). IsRest rest first (replicate n zero_sector)) same (backs first count [] (sym nothing) (λ some. absurd (omega arith)))

-- what was read of it is the rest, with zeros behind it
pub read-is-rest : (rest : ℕ → Sector) (limit : ℕ) (base : List Sector) → Backs rest limit base → (first count : ℕ) (front : List Sector) → length front ≡ count_below limit first count → IsHeld first front base
    → IsRest rest first (front ++ replicate (count - length front) zero_sector)
read-is-rest rest limit base backs first count front long held = backs first count front long (λ some. held)

pub length-padded : (content : List Sector) (count : ℕ) → length content ≤ count → length (content ++ replicate (count - length content) zero_sector) ≡ count
length-padded content count fits =
    let a = length-append content (replicate (count - length content) zero_sector) in
    let z : length (replicate (count - length content) zero_sector) ≡ count - length content = length-replicate (count - length content) zero_sector in omega arith

-- what a pass has in flight on the base is a read
base-reads : (ph : Phase) (shape : Shape) (fresh : List Bool) (q : Pass) (u : Ticket) → HasInFlight ph shape fresh q → q.fetch ≡ Some u → u.kind ≡ ReadKind
base-reads Idle shape fresh q u has is = absurd (let n = has.fetch in cc)
base-reads HasAsked shape fresh q u has is = absurd (let n = has.fetch in cc)
base-reads Held shape fresh q u has is = absurd (let n = has.fetch in cc)
base-reads Fetching shape fresh q u has is = ap (λ (t : Ticket). t.kind) (some-inj (sym is ∙ has.1)) ∙ has.3.kind
base-reads Filled shape fresh q u has is = absurd (let n = has.0.fetch in cc)
base-reads Issuing shape fresh q u has is = absurd (let n = has.2 in cc)
base-reads Looking shape fresh q u has is = elim has.1 [
  | inl store ↦ absurd (let n = store.none in cc)
  | inr base ↦ ap (λ (t : Ticket). t.kind) (some-inj (sym is ∙ base.has)) ∙ base.kind
]
base-reads Flushing shape fresh q u has is = absurd (let n = has.0 in cc)
base-reads Ready shape fresh q u has is = absurd (let n = has.fetch in cc)

module _ {shape : Shape} {fresh : List Bool} {places : ℕ → Option ℕ} {passes : List Pass} {history : List Entry} {S B : Type 0} {g : StoreGhosts S} {h : BaseGhosts B} {store : S} {base : B}
    (co : IsCoherent g h (requests shape fresh passes history) places store base) (i : ℕ) where
  end-within : (p : Pass) → slice_get passes i ≡ Some p → has_region p.phase ≡ true → p.first + p.count ≤ 2 ^ 26
  end-within p there has = let range = ((co.each i p there).range (not-idle p.phase has)).0 in let size = co.shaped.size in omega arith

  -- A pass that holds its region can read from the base.
  pub can-read-base : IsAt passes i (λ p. p.phase ≡ Held) → IsAt passes i (CanReadBase h shape base)
  can-read-base at =
      let p = at.0 in let there = at.1 in let has = region-of _ Held refl at.2 in let stands = co.each i p there in
      let limit = co.shaped.limit in let tracked = co.shaped.tracked in let size = co.shaped.size in (
        p,
        there,
        record {
          piece = stands.piece has;
          none = held-ticket stands at.2;
          small = co.shaped.small;
          limit = omega arith;
          limited = omega arith;
          end = end-within p there has;
          in_disk = let e = block-after shape.block p.block shape.blocks (stands.piece has).in_disk in omega arith;
          buffer = stands.buffer;
          free = λ first count. (
            fetches_of passes,
            co.base_flight,
            (let few = co.few in let deep = co.base_deep in omega (arith, few-fetches passes)),
            all-fetches (IsClear first count) passes (λ j q u at_j is kind. absurd (let k = base-reads q.phase shape fresh q u (co.each j q at_j).ticket is in cc)),
          );
        },
      )

  module _ (p : Pass) (there : slice_get passes i ≡ Some p) (has : has_region p.phase ≡ true) (t : Ticket) (is : p.fetch ≡ Some t) where
    -- the pass has this read in flight
    waiting : p.ticket ≡ None → IsWaitingForBase h shape base p
    waiting none = let stands = co.each i p there in let gone : Pass = record p { fetch = None } in record {
      ticket = t;
      has = is;
      none = none;
      is = base-reads p.phase shape fresh p t stands.ticket is;
      mine = (fetches_of (slice_set passes i gone), fetches_of passes, fetches-taken passes i p gone t there is refl, co.base_flight);
      piece = stands.piece has;
      end = end-within p there has;
      buffer = stands.buffer;
    }

  pub waiting-for-fetch : IsAt passes i (λ p. p.phase ≡ Fetching) → IsAt passes i (IsWaitingForBase h shape base)
  waiting-for-fetch at = let f = fetch-ticket (co.each i at.0 at.1) at.2 in (at.0, at.1, waiting at.0 at.1 (region-of _ Fetching refl at.2) f.0 f.1 f.2)

  -- a fetch reads a block at most
  pub fetch-count : (at : IsAt passes i (λ p. p.phase ≡ Fetching)) (t : Ticket) → at.0.fetch ≡ Some t → t.count ≤ shape.block
  fetch-count at t is = let f = fetch-ticket (co.each i at.0 at.1) at.2 in let c = f.3.count in
      let same : t.count ≡ f.0.count = ap (λ (x : Ticket). x.count) (some-inj (sym is ∙ f.1)) in omega arith

  -- a pass that reads its piece from the base: its block isn't fresh
  pub waiting-for-base : IsAt passes i (λ p. (p.phase ≡ Looking) × (slice_get fresh p.block ≡ Some false)) → IsAt passes i (IsWaitingForBase h shape base)
  waiting-for-base at = let l = look-ticket (co.each i at.0 at.1) at.2.0 in elim l.1 [
    | inl store ↦ absurd (let local = store.local in let not_fresh = at.2.1 in cc)
    | inr base ↦ (at.0, at.1, waiting at.0 at.1 (region-of _ Looking refl at.2.0) l.0 base.has base.none)
  ]

  -- one that holds its region to write a block that isn't fresh
  module _ (p : Pass) (there : slice_get passes i ≡ Some p) (to_fill : IsToFill fresh p) where
    stands : IsAsHistorySays shape fresh places (standing history i) p
    stands = co.each i p there

    region : has_region p.phase ≡ true
    region = region-of _ Held refl to_fill.0

    none : HasNone p
    none = held-ticket stands to_fill.0

    pub fetch-coherent : (t : Ticket) (base' : B) → AreAlike g h store store base base' → t.kind ≡ ReadKind → t.first ≡ shape.block * p.block → t.count ≡ count_below shape.limit (shape.block * p.block) shape.block → Puts t (h.flight base) (h.flight base')
        → IsCoherent g h (requests shape fresh (slice_set passes i (after_fetch p t)) history) places store base'
    fetch-coherent t base' alike kind first count puts = quiet-coherent co i p there (λ e. absurd (let h = to_fill.0 in cc)) (after_fetch p t) (λ e. absurd (cc)) store base' alike
        (moved-stands stands region Fetching p.ticket (Some t) p.buffer refl (ap (λ (ph : Phase). pending_of ph p.piece) (sym to_fill.0)) (λ e. to_fill.1) (λ e. absurd (cc))
        (t, refl, none.ticket, record { kind = kind; first = first; count = count }, to_fill.2) stands.buffer)
        (apart-kept passes co.apart i p (after_fetch p t) there region refl refl)
        (subst (g.flight store) (sym (tickets-same passes i p (after_fetch p t) there refl)) co.flight)
        (puts _ _ (fetches-put passes i p (after_fetch p t) t there none.fetch refl) co.base_flight)

    abbrev zeros : List Sector
    zeros = replicate shape.block zero_sector

    pub zeros-coherent : IsCoherent g h (requests shape fresh (slice_set passes i (after_filled p zeros)) history) places store base
    zeros-coherent = quiet-coherent co i p there (λ e. absurd (let h = to_fill.0 in cc)) (after_filled p zeros) (λ e. absurd (cc)) store base alike-same
        (moved-stands stands region Filled p.ticket None zeros refl (ap (λ (ph : Phase). pending_of ph p.piece) (sym to_fill.0)) (λ e. to_fill.1) (λ e. absurd (cc))
        (record { ticket = none.ticket; fetch = refl }, to_fill.2) (length-replicate shape.block zero_sector))
        (apart-kept passes co.apart i p (after_filled p zeros) there region refl refl)
        (subst (g.flight store) (sym (tickets-same passes i p (after_filled p zeros) there refl)) co.flight)
        (subst (h.flight base) (sym (fetches-same passes i p (after_filled p zeros) there (sym none.fetch))) co.base_flight)

  -- one that reads its block from the base
  module _ (p : Pass) (there : slice_get passes i ≡ Some p) (fetching : p.phase ≡ Fetching) (t : Ticket) (has : p.fetch ≡ Some t) where
    now : IsAsHistorySays shape fresh places (standing history i) p
    now = co.each i p there

    holds : has_region p.phase ≡ true
    holds = region-of _ Fetching refl fetching

    fetch : HasInFlight Fetching shape fresh p
    fetch = fetch-ticket now fetching

    same : fetch.0 ≡ t
    same = some-inj (sym fetch.1 ∙ has)

    is-fetch : IsFetch shape p t
    is-fetch = subst (IsFetch shape p) same fetch.3

    within : (content : List Sector) → length content ≡ t.count → length content ≡ count_below shape.limit (shape.block * p.block) shape.block
    within content long = long ∙ is-fetch.count

    full : (content : List Sector) → length content ≡ t.count → length (content ++ replicate (shape.block - length content) zero_sector) ≡ shape.block
    full content long = length-padded content shape.block (let w = within content long in omega arith)

    pub fetched-coherent : (answer : Settled) (content : List Sector) (base' : B) (out out' : List Sector) → AreAlike g h store store base base' → length content ≡ t.count → Settles answer t out out' (h.flight base) (h.flight base')
        → IsCoherent g h (requests shape fresh (slice_set passes i (after_base_read answer p t shape.block content)) history) places store base'
    fetched-coherent settled.Done content base' out out' alike long takes =
        let buffer = content ++ replicate (shape.block - length content) zero_sector in let p' = after_filled p buffer in
        quiet-coherent co i p there (λ e. absurd (cc)) p' (λ e. absurd (cc)) store base' alike
        (moved-stands now holds Filled p.ticket None buffer refl (ap (λ (ph : Phase). pending_of ph p.piece) (sym fetching)) (λ e. now.write (ap writes_in fetching)) (λ e. absurd (cc))
        (record { ticket = fetch.2; fetch = refl }, fetch.4) (full content long))
        (apart-kept passes co.apart i p p' there holds refl refl)
        (subst (g.flight store) (sym (tickets-same passes i p p' there refl)) co.flight)
        (takes _ _ (fetches-taken passes i p p' t there has refl) co.base_flight)
    fetched-coherent (settled.NotYet late) content base' out out' alike long keeps =
        quiet-coherent co i p there (λ e. absurd (cc)) p (λ e. absurd (cc)) store base' alike now (apart-kept passes co.apart i p p there holds refl refl)
        (subst (g.flight store) (sym (tickets-same passes i p p there refl)) co.flight)
        (keeps.2 _ (subst (h.flight base) (sym (fetches-same passes i p p there refl)) co.base_flight))
    fetched-coherent (settled.Failed number) content base' out out' alike long fails =
        let p' = after_fault (fault.Base t.number) p in let piece = now.piece holds in
        quiet-coherent co i p there (λ e. absurd (cc)) p' (λ e. absurd (cc)) store base' alike
        (failed-stands now holds (fault.Base t.number) (ap (λ (ph : Phase). pending_of ph p.piece) fetching) ((let s = piece.some in let n = piece.no_more in omega arith), refl))
        (λ k r at ne. apart-free p' r refl)
        (subst (g.flight store) (sym (tickets-same passes i p p' there (sym fetch.2))) co.flight)
        (fails.2 _ _ (fetches-taken passes i p p' t there has refl) co.base_flight)

    module _ {start : List Sector} {rest : ℕ → Sector} (fa : IsFaithful g start rest (requests shape fresh passes history) places store) where
      pub fetched-faithful : (answer : Settled) (content held : List Sector) → length content ≡ t.count → Gives answer t content held → Backs rest shape.limit held
          → IsFaithful g start rest (requests shape fresh (slice_set passes i (after_base_read answer p t shape.block content)) history) places store
      fetched-faithful settled.Done content held long gives backs =
          let buffer = content ++ replicate (shape.block - length content) zero_sector in let p' = after_filled p buffer in
          still-faithful co i p there (λ e. absurd (cc)) p' (λ e. absurd (cc)) fa (λ u is. is)
          (λ e. read-is-rest rest shape.limit held backs (shape.block * p.block) shape.block content (within content long) (subst (λ (n : ℕ). IsHeld n content held) is-fetch.first (gives is-fetch.kind)))
      fetched-faithful (settled.NotYet late) content held long gives backs =
          still-faithful co i p there (λ e. absurd (cc)) p (λ e. absurd (cc)) fa (λ u is. is) (fa.buffers i p there)
      fetched-faithful (settled.Failed number) content held long gives backs =
          still-faithful co i p there (λ e. absurd (cc)) (after_fault (fault.Base t.number) p) (λ e. absurd (cc)) fa (λ u is. absurd (cc)) (λ e. absurd (cc))

-- The steps, as their records say them.
module _ {shape : Shape} {fresh : List Bool} {places : ℕ → Option ℕ} {passes : List Pass} {history : List Entry} {r' : RequestState} {i : ℕ} {S B : Type 0} {g : StoreGhosts S} {h : BaseGhosts B} {store : S} {base : B}
    (co : IsCoherent g h (requests shape fresh passes history) places store base) where
  module _ {base' : B} (at : IsAt passes i (IsToFill fresh)) (step : Fetches h i (requests shape fresh passes history) r' base base') where
    this : at.0 ≡ step.pass
    this = some-inj (sym at.1 ∙ step.there)

    to_fill : IsToFill fresh step.pass
    to_fill = subst (IsToFill fresh) this at.2

    pub fetches-coherent : IsCoherent g h r' places store base'
    fetches-coherent = rw step.after (fetch-coherent co i step.pass step.there to_fill step.ticket base' (alike-base step.call.keeps) step.kind step.first step.count step.call.flight)

    pub fetches-faithful : {start : List Sector} {rest : ℕ → Sector} {tells : Type 0} → (tells → IsFaithful g start rest (requests shape fresh passes history) places store) → tells → IsFaithful g start rest r' places store
    fetches-faithful {start} {rest} {tells} fa told = rw step.after (still-faithful co i step.pass step.there (λ e. absurd (let h = to_fill.0 in cc)) (after_fetch step.pass step.ticket) (λ e. absurd (cc)) (fa told) (λ u is. is) (λ e. absurd (cc)))

  module _ (at : IsAt passes i (IsToFill fresh)) (step : FillsZeros i (requests shape fresh passes history) r') where
    filled-pass : at.0 ≡ step.pass
    filled-pass = some-inj (sym at.1 ∙ step.there)

    filled-held : IsToFill fresh step.pass
    filled-held = subst (IsToFill fresh) filled-pass at.2

    pub fills_zeros-coherent : IsCoherent g h r' places store base
    fills_zeros-coherent = rw step.after (zeros-coherent co i step.pass step.there filled-held)

    pub fills_zeros-faithful : {start : List Sector} {rest : ℕ → Sector} {tells : Type 0} (held : List Sector) → (tells → Backs rest shape.limit held)
        → (tells → IsFaithful g start rest (requests shape fresh passes history) places store) → tells → IsFaithful g start rest r' places store
    fills_zeros-faithful {start} {rest} {tells} held backs fa told =
        rw step.after (still-faithful co i step.pass step.there (λ e. absurd (let h = filled-held.0 in cc)) (after_filled step.pass (replicate shape.block zero_sector)) (λ e. absurd (cc)) (fa told) (λ u is. is)
        (λ e. zeros-are-rest rest shape.limit held (backs told) (shape.block * step.pass.block) shape.block step.nothing))

  module _ {base' : B} {answer : Settled} (at : IsAt passes i (λ p. p.phase ≡ Fetching)) (step : FetchSettled h answer i (requests shape fresh passes history) r' base base') where
    fetching-pass : step.pass.phase ≡ Fetching
    fetching-pass = ap (λ (x : Pass). x.phase) (some-inj (sym step.there ∙ at.1)) ∙ at.2

    pub fetch_settled-coherent : IsCoherent g h r' places store base'
    fetch_settled-coherent = rw step.after (fetched-coherent co i step.pass step.there fetching-pass step.ticket step.has answer step.content base' step.front step.content (alike-base step.call.keeps) step.long step.call.settles)

    pub fetch_settled-faithful : {start : List Sector} {rest : ℕ → Sector} {tells : Type 0} → (tells → h.tells base') → (tells → Backs rest shape.limit (h.content base'))
        → (tells → IsFaithful g start rest (requests shape fresh passes history) places store) → tells → IsFaithful g start rest r' places store
    fetch_settled-faithful {start} {rest} {tells} base_told backs fa told =
        rw step.after (fetched-faithful co i step.pass step.there fetching-pass step.ticket step.has (fa told) answer step.content (h.content base') step.long (step.call.gives (base_told told)) (backs told))
