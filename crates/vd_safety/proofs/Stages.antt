-- The stage of the flush under way, where what a pass or the keeper has changes beside it.
use Rattle.std.proofs.Common.{◌≡◌, ℕ, ◌⊎◌, Bool, true, false, List, refl, ◌∙◌, ap, subst, inl, inr, Option, Some, None, slice_get, slice_set}
use Rattle.vd_law.specs.declared.entry.CallId.{CallId}
use Rattle.vd_device.specs.declared.ticket.Ticket.{Ticket}
use Rattle.vd_device.specs.Tickets.{ticket_id}
use Rattle.vd_crash.specs.facts.Safe.{Opening}
use Rattle.vd_crash.specs.flushes.Stage.{FlushProgress}
use Rattle.vd_crash.specs.primitives.Core.{Stage, StageTicket, StageFlush}
use Rattle.vd_keeper.specs.declared.stage.Stage as stages
use Rattle.vd_keeper.specs.declared.stage.Stage.TheVariants as stage
use Rattle.vd_keeper.specs.Keeping.{KeeperState}
use Rattle.vd_passes.specs.declared.pass.Pass.{Pass}
use Rattle.vd_passes.specs.Passes.{call_id}
use Rattle.vd_safety.specs.Mirrors.{IsProgressOf, Nowhere, InRecordOf, InPageOf, IsStageBy, IsBegunOf, IsStageOf}
use Rattle.vd_safety.proofs.Updates.{get-set-other}

-- the pass that flushes is another
pub stage-set : (flusher : Option ℕ) (o : Opening) (k : KeeperState) (passes : List Pass) (i : ℕ) (p' : Pass) (s : Stage) → (flusher ≡ Some i → ⊥) → IsStageOf flusher o k passes s → IsStageOf flusher o k (slice_set passes i p') s
stage-set None o k passes i p' s other is = is
stage-set (Some j) o k passes i p' s other is = (is.0, (is.1.0, get-set-other passes i j p' (λ e. other (ap Some e)) ∙ is.1.1, is.1.2))

-- The keeper owes more.
abbrev owes : List Bool → KeeperState → KeeperState
owes owed k = record k { owed = owed }

progress-owes : (owed : List Bool) (k : KeeperState) (pr : FlushProgress) (InRecord InPage : ℕ → Type 0) → IsProgressOf k pr InRecord InPage → IsProgressOf (owes owed k) pr InRecord InPage
progress-owes owed k pr InRecord InPage is = record { snapshot = is.snapshot; recorded = is.recorded; paged = is.paged; written_unmarked = is.written_unmarked; in_page = is.in_page; caught_up = is.caught_up }

by-owes : (stage : stages.Stage) (head : Bool) (ticket : Option Ticket) (owed : List Bool) (o : Opening) (k : KeeperState) (call : CallId) (s : Stage) → IsStageBy stage head ticket o k call s → IsStageBy stage head ticket o (owes owed k) call s
by-owes stage.Rest head ticket owed o k call s is = is
by-owes stage.DataFlush head None owed o k call s is = is
by-owes stage.DataFlush head (Some t) owed o k call s is = is
by-owes stage.Puts head None owed o k call s is = (is.0, is.1, is.2, is.3, progress-owes owed k is.3 Nowhere Nowhere is.4, is.5)
by-owes stage.Puts false (Some t) owed o k call s is =
    (is.0, is.1, is.2, is.3, is.4, is.5, is.6, progress-owes owed k is.3 (InRecordOf o k is.3.first is.4 is.6) (InPageOf o is.4) is.7, is.8)
by-owes stage.Puts true (Some t) owed o k call s is = (is.0, is.1, is.2, is.3, is.4, is.5, progress-owes owed k is.3 Nowhere Nowhere is.6, is.7)
by-owes stage.Syncs false None owed o k call s is = (is.0, is.1, is.2, is.3, progress-owes owed k is.3 Nowhere Nowhere is.4, is.5)
by-owes stage.Syncs false (Some t) owed o k call s is = (is.0, is.1, is.2, is.3, is.4, progress-owes owed k is.4 Nowhere Nowhere is.5, is.6)
by-owes stage.Syncs true None owed o k call s is = (is.0, is.1, is.2, is.3, is.4, is.5, progress-owes owed k is.4 Nowhere Nowhere is.6, is.7)
by-owes stage.Syncs true (Some t) owed o k call s is = (is.0, is.1, is.2, is.3, is.4, is.5, is.6, progress-owes owed k is.5 Nowhere Nowhere is.7, is.8)
by-owes stage.Seals false ticket owed o k call s is = (is.0, is.1, is.2, is.3, progress-owes owed k is.3 Nowhere Nowhere is.4, is.5, is.6)
by-owes stage.Seals true ticket owed o k call s is = (is.0, is.1, is.2, is.3, is.4, is.5, is.6, progress-owes owed k is.5 Nowhere Nowhere is.7, is.8)
by-owes stage.Broken head ticket owed o k call s is = is

begun-owes : (owed : List Bool) (k : KeeperState) → IsBegunOf k → IsBegunOf (owes owed k)
begun-owes owed k is =
    record { surely = is.surely; behind = is.behind; nothing = is.nothing; headless = is.headless; unput = is.unput; unlogged = is.unlogged; all_logged = is.all_logged; recycled = is.recycled }

pub stage-owes : (owed : List Bool) (flusher : Option ℕ) (o : Opening) (k : KeeperState) (passes : List Pass) (s : Stage) → IsStageOf flusher o k passes s → IsStageOf flusher o (record k { owed = owed }) passes s
stage-owes owed None o k passes s is = is
stage-owes owed (Some i) o k passes s is = (begun-owes owed k is.0, (is.1.0, is.1.1, by-owes k.stage k.head is.1.0.ticket owed o k (call_id i is.1.0) s is.1.2))

-- The ticket that a stage waits for, of a put or of a store flush, is the flushing pass's.
abbrev Waits : CallId → Stage → Type 0
Waits t s = StageTicket s t ⊎ StageFlush s t

abbrev IsOf : Option Ticket → CallId → Type 0
IsOf ticket t = (u : Ticket) × (ticket ≡ Some u) × (ticket_id u ≡ t)

put-of : (u : Ticket) (t : CallId) → (ticket_id u ≡ t) ⊎ ⊥ → IsOf (Some u) t
put-of u t (inl e) = (u, refl, e)
put-of u t (inr e) = absurd e

flush-of : (u : Ticket) (t : CallId) → ⊥ ⊎ (ticket_id u ≡ t) → IsOf (Some u) t
flush-of u t (inl e) = absurd e
flush-of u t (inr e) = (u, refl, e)

neither : {X : Type 0} → ⊥ ⊎ ⊥ → X
neither (inl e) = absurd e
neither (inr e) = absurd e

waits-by : (stage : stages.Stage) (head : Bool) (ticket : Option Ticket) (o : Opening) (k : KeeperState) (call : CallId) (s : Stage) (t : CallId) → IsStageBy stage head ticket o k call s → Waits t s → IsOf ticket t
waits-by stage.Rest head ticket o k call s t is waits = absurd is
waits-by stage.DataFlush head None o k call s t is waits = absurd is
waits-by stage.DataFlush head (Some u) o k call s t is waits = flush-of u t (subst (Waits t) is.5 waits)
waits-by stage.Puts head None o k call s t is waits = neither (subst (Waits t) is.5 waits)
waits-by stage.Puts false (Some u) o k call s t is waits = put-of u t (subst (Waits t) is.8 waits)
waits-by stage.Puts true (Some u) o k call s t is waits = put-of u t (subst (Waits t) is.7 waits)
waits-by stage.Syncs false None o k call s t is waits = neither (subst (Waits t) is.5 waits)
waits-by stage.Syncs false (Some u) o k call s t is waits = flush-of u t (subst (Waits t) is.6 waits)
waits-by stage.Syncs true None o k call s t is waits = neither (subst (Waits t) is.7 waits)
waits-by stage.Syncs true (Some u) o k call s t is waits = flush-of u t (subst (Waits t) is.8 waits)
waits-by stage.Seals false ticket o k call s t is waits = neither (subst (Waits t) is.6 waits)
waits-by stage.Seals true ticket o k call s t is waits = neither (subst (Waits t) is.8 waits)
waits-by stage.Broken head ticket o k call s t is waits = absurd is

-- so each pass's ticket being another, it waits for another
pub stage-waits : (flusher : Option ℕ) (o : Opening) (k : KeeperState) (passes : List Pass) (s : Stage) (t : CallId) → IsStageOf flusher o k passes s → StageTicket s t ⊎ StageFlush s t
    → ((i : ℕ) (p : Pass) (u : Ticket) → slice_get passes i ≡ Some p → p.ticket ≡ Some u → ticket_id u ≡ t → ⊥) → ⊥
stage-waits None o k passes s t is waits none = neither (subst (Waits t) is waits)
stage-waits (Some i) o k passes s t is waits none = let w = waits-by k.stage k.head is.1.0.ticket o k (call_id i is.1.0) s t is.1.2 waits in none i is.1.0 w.0 is.1.1 w.1 w.2
