-- What each step of a flush does to the keeper, to its pass and to the store.
use Rattle.std.specs.Prelude.{ℕ, ◌≡◌, ◌+◌, ◌⊎◌, true, false, [], ◌∷◌, Some, None}
use Rattle.vd_law.specs.declared.entry.Sector.{Sector}
use Rattle.vd_device.specs.declared.ticket.Ticket.{Ticket}
use Rattle.vd_device.specs.declared.ticket.Kind.TheVariants.{Write, Flush}
use Rattle.vd_device.specs.declared.settled.Settled.{Settled}
use Rattle.vd_device.specs.declared.settled.Settled.TheVariants as settled
use Rattle.vd_device.specs.declared.store.Store as store
use Rattle.vd_device.specs.Tickets.{IsInFlight}
use Rattle.vd_format.specs.declared.header.Header.{Header}
use Rattle.vd_format.specs.Layouts.{map_start, slots_start}
use Rattle.vd_table.specs.Tables.{TableState}
use Rattle.vd_keeper.specs.declared.stage.Route.{Route}
use Rattle.vd_keeper.specs.declared.stage.Put.{Put}
use Rattle.vd_keeper.specs.declared.stage.Put.TheVariants as puts
use Rattle.vd_keeper.specs.Keeping.{KeeperState}
use Rattle.vd_keeper.specs.Flushes.{last_generation}
use Rattle.vd_keeper.specs.Moves.{is_worn_out, after_begin, after_call, after_break, after_seal, IsNextPut}
use Rattle.vd_passes.specs.Requests.{RequestState}
use Rattle.vd_passes.specs.declared.pass.Pass.{Pass}
use Rattle.vd_passes.specs.declared.pass.Phase.TheVariants.{Asked, Flushing}
use Rattle.vd_passes.specs.declared.pass.Fault.TheVariants.{Worn}
use Rattle.vd_machine.specs.declared.outcome.Outcome.{Outcome}
use Rattle.vd_machine.specs.declared.outcome.Outcome.TheVariants as outcome
use Rattle.vd_passes.specs.Steps.{SubmitsMeta, MetaSettled, EndsFlush}

-- the sector of the store that is written, and its content
abbrev pub place_of_put : Header → Put → ℕ
place_of_put h (puts.Record slot sector) = slots_start h + slot
place_of_put h (puts.Page at sector) = map_start h + at
place_of_put h (puts.Head sector) = 0

abbrev pub put_sector : Put → Sector
put_sector (puts.Record slot sector) = sector
put_sector (puts.Page at sector) = sector
put_sector (puts.Head sector) = sector

-- what a step of a flush changes beside the store: the keeper of the metadata, and what the passes work on
pub record MetaState : Type 0 where
  pub keeping : KeeperState
  pub requests : RequestState

abbrev pub meta_state : KeeperState → RequestState → MetaState
meta_state keeping r = record { keeping = keeping; requests = r }

-- a recycle is needed at the last generation, so that no flush was begun
pub record IsWornOut (route : Route) (i : ℕ) (k : KeeperState) (r r' : RequestState) : Type 0 where
  pub worn : is_worn_out route k ≡ true
  pub ends : EndsFlush (Some (Worn last_generation)) i r r'

-- what the settle of a call of a flush makes of the keeper
abbrev pub keeper_after : Settled → KeeperState → KeeperState
keeper_after settled.Done k = after_call k.stage k
keeper_after (settled.NotYet same) k = k
keeper_after (settled.Failed number) k = after_break k

module _ {S : Type 0} (g : store.Ghosts S) where
  -- a flush has begun: what is owed is its snapshot, and in the same step the data flush is submitted
  pub record BeginsFlush (route : Route) (i : ℕ) (m m' : MetaState) (s s' : S) : Type 0 where
    pub sends : SubmitsMeta g [] i m.requests m'.requests s s'
    pub kind : sends.ticket.kind ≡ Flush
    pub asked : sends.pass.phase ≡ Asked
    pub not_worn : is_worn_out route m.keeping ≡ false
    pub after : m'.keeping ≡ after_begin route m.keeping

  -- the next record, sector of the map or header is submitted, in its place
  pub record PutsNext (table : TableState) (i : ℕ) (m m' : MetaState) (s s' : S) : Type 0 where
    pub put : Put
    pub next : IsNextPut table m.keeping put m'.keeping
    pub sends : SubmitsMeta g (put_sector put ∷ []) i m.requests m'.requests s s'
    pub kind : sends.ticket.kind ≡ Write
    pub under_way : sends.pass.phase ≡ Flushing
    pub at : sends.ticket.first ≡ place_of_put m.keeping.header put

  -- a flush of what was put is submitted
  pub record SyncsPuts (i : ℕ) (r r' : RequestState) (s s' : S) : Type 0 where
    pub sends : SubmitsMeta g [] i r r' s s'
    pub kind : sends.ticket.kind ≡ Flush
    pub under_way : sends.pass.phase ≡ Flushing

  -- a call of the flush is settled
  pub record SettlesMeta (answer : Settled) (i : ℕ) (m m' : MetaState) (s s' : S) : Type 0 where
    pub settles : MetaSettled g answer i m.requests m'.requests s s'
    pub after : m'.keeping ≡ keeper_after answer m.keeping

  -- the pass has a call of a flush in flight
  pub record IsWaitingMeta (s : S) (p : Pass) : Type 0 where
    pub ticket : Ticket
    pub has : p.ticket ≡ Some ticket
    pub none : p.fetch ≡ None
    pub kind : (ticket.kind ≡ Write) ⊎ (ticket.kind ≡ Flush)
    pub mine : IsInFlight (g.flight s) ticket

-- the flush is over
pub record SealsFlush (i : ℕ) (m m' : MetaState) : Type 0 where
  pub ends : EndsFlush None i m.requests m'.requests
  pub after : m'.keeping ≡ after_seal m.keeping

-- how it went on
abbrev pub outcome_of : Settled → Outcome
outcome_of settled.Done = outcome.Done
outcome_of (settled.NotYet same) = outcome.Late
outcome_of (settled.Failed number) = outcome.Failed
