-- What is known of the passes before a step.
use Rattle.std.proofs.Common.{◌≡◌, ℕ, ◌<◌, ◌⊎◌, Bool, true, false, List, sym, ◌∙◌, ap, subst, inl, inr, arith, Option, Some, None, slice_get}
use Rattle.std.proofs.lemmas.Bool.{cases_eq}
use Rattle.vd_law.specs.declared.entry.Sector.{Sector}
use Rattle.vd_law.specs.declared.entry.CallId.{CallId}
use Rattle.vd_law.specs.Entries.{Entry}
use Rattle.vd_law.specs.Histories.{HistoryState}
use Rattle.vd_device.specs.declared.ticket.Ticket.{Ticket}
use Rattle.vd_device.specs.Tickets.{ticket_id}
use Rattle.vd_format.specs.declared.header.Header.{Header}
use Rattle.vd_table.specs.Tables.{TableState}
use Rattle.vd_crash.specs.facts.Safe.{Opening}
use Rattle.vd_crash.specs.flushes.Stage.{Flight, HasTicket, HasBlock, HasCall}
use Rattle.vd_crash.specs.primitives.Core.{StageTicket, StageFlush}
use Rattle.vd_crash.specs.primitives.Primitives.{State, MayIssue}
use Rattle.vd_keeper.specs.Keeping.{KeeperState}
use Rattle.vd_passes.specs.declared.shape.Shape.{Shape}
use Rattle.vd_passes.specs.declared.pass.Pass.{Pass}
use Rattle.vd_passes.specs.declared.pass.Phase.TheVariants.{Issuing}
use Rattle.vd_passes.specs.Passes.{has_region, writes_in, call_id}
use Rattle.vd_passes.specs.Steps.{IsAt}
use Rattle.vd_safety.specs.Mirrors.{core_state, Mirrors}
use Rattle.vd_safety.proofs.Updates.{some-inj}
use Rattle.vd_safety.proofs.Surroundings.{Surroundings}
use Rattle.vd_safety.proofs.Flying.{is_bare, flying, idle-flight, pending-none}
use Rattle.vd_safety.proofs.Stages.{stage-waits}

-- the pass of a number is one
pub at-this : (passes : List Pass) (i : ℕ) (P : Pass → Type 0) (p : Pass) → slice_get passes i ≡ Some p → IsAt passes i P → P p
at-this passes i P p there at = subst P (some-inj (sym at.1 ∙ there)) at.2

module _ {h : Header} {o : Opening} {shape : Shape} {table : TableState} {fresh : List Bool} {k : KeeperState} {flusher : Option ℕ} {passes : List Pass} {history : HistoryState} {log : List Entry} {base : List Sector} {last : ℕ} {s : State}
    (around : Surroundings h o shape (core_state table fresh k flusher passes history) base last) (is : Mirrors o (core_state table fresh k flusher passes history) log s) where
  -- A ticket that is given now is none of the passes',
  pub new-ticket : (t : Ticket) → last < t.number → (i : ℕ) (p : Pass) (u : Ticket) → slice_get passes i ≡ Some p → p.ticket ≡ Some u → ticket_id u ≡ ticket_id t → ⊥
  new-ticket t later i p u there has same = let e : u.number ≡ t.number = ap (λ (c : CallId). c.call) same in let old = around.numbers i p u there has in omega arith

  -- in no flight,
  pub ticket-flight : (t : Ticket) → last < t.number → (l : ℕ) → HasTicket (s.flights l) (ticket_id t) → ⊥
  ticket-flight t later l has =
      let f = flying (λ (g : Flight). HasTicket g (ticket_id t)) (λ x. x) (λ c a n x. x) passes s.flights l is.flights has in
      new-ticket t later l f.0 f.3.0 f.1 f.3.3 (subst (λ (g : Flight). HasTicket g (ticket_id t)) f.3.4 has)

  -- and none that the flush under way waits for.
  pub ticket-stage : (t : Ticket) → last < t.number → StageTicket s.stage (ticket_id t) ⊎ StageFlush s.stage (ticket_id t) → ⊥
  ticket-stage t later waits = stage-waits flusher o k passes s.stage (ticket_id t) is.stage waits (new-ticket t later)

  issuing-write : (l : ℕ) (q : Pass) → slice_get passes l ≡ Some q → q.phase ≡ Issuing → q.write ≡ true
  issuing-write l q there issuing = (around.each l q there).write (ap writes_in issuing)

  -- A pass that holds a block is the only one that may issue it.
  pub only-issuer : (i l : ℕ) (p q : Pass) → slice_get passes i ≡ Some p → has_region p.phase ≡ true → slice_get passes l ≡ Some q → q.phase ≡ Issuing → q.block ≡ p.block → l ≡ i
  only-issuer i l p q there region at issuing same = elim (cases_eq l i) [
    | inl e ↦ e
    | inr ne ↦ absurd (let a = around.apart l i q p at there ne (ap has_region issuing) region same in let f = a.0 in let w = issuing-write l q at issuing in cc)
  ]

  -- Where it hasn't anything in flight nobody does,
  pub no-issuer : (i l : ℕ) (p q : Pass) → slice_get passes i ≡ Some p → has_region p.phase ≡ true → is_bare p.phase ≡ true → slice_get passes l ≡ Some q → q.phase ≡ Issuing → q.block ≡ p.block → ⊥
  no-issuer i l p q there region bare at issuing same =
      let e = only-issuer i l p q there region at issuing same in
      let f : q ≡ p = some-inj (sym at ∙ ap (slice_get passes) e ∙ there) in
      let g : is_bare p.phase ≡ false = ap (λ (x : Pass). is_bare x.phase) (sym f) ∙ ap is_bare issuing in
      cc

  pub none-pending : (i : ℕ) (p : Pass) → slice_get passes i ≡ Some p → has_region p.phase ≡ true → is_bare p.phase ≡ true → s.memory.pending p.block ≡ None
  none-pending i p there region bare = pending-none fresh passes p.block (s.memory.pending p.block) (λ l q at issuing same not_fresh. no-issuer i l p q there region bare at issuing same) (is.pending p.block)

  -- and it may issue it.
  pub may-issue : (i : ℕ) (p : Pass) (t : Ticket) → slice_get passes i ≡ Some p → has_region p.phase ≡ true → is_bare p.phase ≡ true → last < t.number → MayIssue s.flights s.stage i p.block (call_id i p) (ticket_id t)
  may-issue i p t there region bare later = record {
    idle = idle-flight passes s.flights i p is.flights there bare;
    block = λ l has.
        let f = flying (λ (g : Flight). HasBlock g p.block) (λ x. x) (λ c a n x. x) passes s.flights l is.flights has in
        no-issuer i l p f.0 there region bare f.1 f.2 (subst (λ (g : Flight). HasBlock g p.block) f.3.4 has);
    ticket_new = ticket-flight t later;
    stage_new = λ waits. ticket-stage t later (inl waits);
    call_new = λ l has.
        let f = flying (λ (g : Flight). HasCall g (call_id i p)) (λ x. x) (λ c a n x. x) passes s.flights l is.flights has in
        let same : call_id l f.0 ≡ call_id i p = subst (λ (g : Flight). HasCall g (call_id i p)) f.3.4 has in
        let e : l ≡ i = ap (λ (c : CallId). c.pass) same in
        let g : f.0 ≡ p = some-inj (sym f.1 ∙ ap (slice_get passes) e ∙ there) in
        let b : is_bare p.phase ≡ false = ap (λ (x : Pass). is_bare x.phase) (sym g) ∙ ap is_bare f.2 in
        absurd cc;
  }
