-- What a core keeps so that each store fault is traced: where a pass's call stands in the history and in the store's log.
use Rattle.std.specs.Prelude.{ℕ, ◌≡◌, ◌≢◌, ◌≤◌, List, length, Some, slice_get}
use Rattle.vd_law.specs.Entries.{Asked, Entry, Ask}
use Rattle.vd_device.specs.declared.ticket.Ticket.{Ticket}
use Rattle.vd_passes.specs.declared.pass.Pass.{Pass}
use Rattle.vd_passes.specs.declared.pass.Phase.TheVariants.{Idle, Issuing, Looking, Ready}
use Rattle.vd_passes.specs.declared.pass.Fault.TheVariants as fault
use Rattle.vd_passes.specs.Passes.{call_id, IsRequestOf}
use Rattle.vd_passes.specs.Tracing.{IsReadIn, IsTicketOf, IsTraced, AreTraced}

-- the Ask of the pass's request stands in the history, with a number that the log has passed
pub record IsAsked (i : ℕ) (p : Pass) (history : List Entry) (numbers : List ℕ) (log : List Entry) : Type 0 where
  pub at : ℕ
  pub request : Asked
  pub asked : slice_get history at ≡ Some (Ask (call_id i p) request)
  pub of_pass : IsRequestOf p request
  pub number : ℕ
  pub numbered : slice_get numbers at ≡ Some number
  pub passed : number ≤ length log

-- what is known of a pass
pub record IsFollowedPass (i : ℕ) (p : Pass) (history : List Entry) (numbers : List ℕ) (log : List Entry) : Type 0 where
  pub asked : p.phase ≢ Idle → IsAsked i p history numbers log
  pub issuing : p.phase ≡ Issuing → (t : Ticket) → p.ticket ≡ Some t → (request : Asked) → IsRequestOf p request → IsTicketOf request log history numbers (call_id i p) t.number (length history)
  pub looking : p.phase ≡ Looking → (t : Ticket) → p.ticket ≡ Some t → IsReadIn log t.number
  pub failed : p.phase ≡ Ready → (ticket : ℕ) → p.fault ≡ Some (fault.Store ticket) → IsTraced log history numbers (call_id i p) ticket (length history) (length log)

pub record IsFollowed (passes : List Pass) (history : List Entry) (numbers : List ℕ) (log : List Entry) : Type 0 where
  pub many : length numbers ≡ length history
  pub each : (i : ℕ) (p : Pass) → slice_get passes i ≡ Some p → IsFollowedPass i p history numbers log
  pub replied : AreTraced log history numbers
