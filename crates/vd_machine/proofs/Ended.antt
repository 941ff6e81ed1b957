-- A pass after the settle of its write.
use Rattle.std.proofs.Common.{◌≡◌, ℕ, Bool, List, [], ◌∷◌, ◌++◌, refl, sym, ◌∙◌, ap, append-nil, arith}
use Rattle.vd_law.specs.declared.entry.CallId.{CallId}
use Rattle.vd_law.specs.Entries.{Entry}
use Rattle.vd_law.specs.Histories.{HistoryState}
use Rattle.vd_passes.specs.declared.shape.Shape.{Shape}
use Rattle.vd_passes.specs.declared.pass.Pass.{Pass}
use Rattle.vd_passes.specs.Requests.{requests}
use Rattle.vd_passes.specs.Passes.{call_id}
use Rattle.vd_machine.specs.Adding.{AddsEntries}
use Rattle.vd_machine.proofs.Entries.{id-is}

-- what the passes work on, part by part
pub requests-are : {shape : Shape} {fresh fresh' : List Bool} {passes passes' : List Pass} {entries entries' : List Entry} → fresh' ≡ fresh → passes' ≡ passes → entries' ≡ entries → requests shape fresh' passes' entries' ≡ requests shape fresh passes entries
requests-are {shape} {fresh} {fresh'} {passes} {passes'} {entries} {entries'} blocks is added =
    ap (λ (bs : List Bool). requests shape bs passes' entries') blocks ∙ ap (λ (ps : List Pass). requests shape fresh ps entries') is ∙ ap (λ (es : List Entry). requests shape fresh passes es) added

-- no entry was added
pub extends-none : (history : HistoryState) → AddsEntries [] 0 history history
extends-none history = record { numbers = sym (append-nil history.numbers); opened = refl; room = refl; events_left = omega arith; sectors_left = omega arith }

-- an entry of the call that is the pass's
pub own-entry : (entry_of : CallId → Entry) (id : CallId) (i : ℕ) (q : Pass) (entries entries' : List Entry) → id.pass ≡ i → id.call ≡ q.call → entries' ≡ entries ++ entry_of id ∷ [] → entries' ≡ entries ++ entry_of (call_id i q) ∷ []
own-entry entry_of id i q entries entries' pass call entry = entry ∙ ap (λ (c : CallId). entries ++ entry_of c ∷ []) (id-is id i q.call pass call)
