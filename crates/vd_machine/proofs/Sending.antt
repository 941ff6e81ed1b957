-- The steps of a flush, by what the calls of the store and of the keeper ensure.
use Rattle.std.proofs.Common.{◌≡◌, ◌⊎◌, ℕ, ◌<◌, List, [], ◌∷◌, length, true, false, get_or, refl, sym, ap, subst, inl, inr, ◌∙◌, arith, Some, None, slice_get}
use Rattle.std.specs.Prelude.{nat_eq}
use Rattle.std.proofs.lemmas.Bool.{eqb-true, and_parts}
use Rattle.vd_law.specs.declared.entry.Sector.{Sector}
use Rattle.vd_device.specs.declared.store.Store as store
use Rattle.vd_device.specs.declared.ticket.Ticket.{Ticket}
use Rattle.vd_device.specs.declared.ticket.Kind.TheVariants.{Write, Flush}
use Rattle.vd_device.specs.declared.settled.Settled.{Settled}
use Rattle.vd_device.specs.Calls.{ask_flush_entry, issue_entry}
use Rattle.vd_device.specs.Stores.{Submits, SettlesCall}
use Rattle.vd_device.specs.Tickets.{IsTicket}
use Rattle.vd_format.specs.Layouts.{storage_start}
use Rattle.vd_table.specs.Tables.{TableState}
use Rattle.vd_keeper.specs.declared.stage.Put.{Put}
use Rattle.vd_keeper.specs.declared.stage.Route.{Route}
use Rattle.vd_keeper.specs.Keeping.{KeeperState}
use Rattle.vd_keeper.specs.Flushes.{is_recycle, last_generation}
use Rattle.vd_keeper.specs.Moves.{way_of, is_worn_out, after_begin, after_seal, IsNextPut}
use Rattle.vd_passes.specs.declared.pass.Pass.{Pass}
use Rattle.vd_passes.specs.declared.pass.Phase.{Phase}
use Rattle.vd_passes.specs.declared.pass.Phase.TheVariants.{Asked, Flushing}
use Rattle.vd_passes.specs.declared.pass.Fault.TheVariants.{Worn}
use Rattle.vd_passes.specs.Passes.{after_meta, after_flush, IsMeta}
use Rattle.vd_passes.specs.Requests.{RequestState, with_pass}
use Rattle.vd_passes.specs.Steps.{IsAt, SubmitsMeta, meta_entry, meta_settled}
use Rattle.vd_machine.specs.Flushing.{place_of_put, put_sector, keeper_after, meta_state, BeginsFlush, IsWornOut, PutsNext, SyncsPuts, SettlesMeta, SealsFlush}
use Rattle.vd_lists.proofs.Places.{read_place}
use Rattle.vd_machine.proofs.Members.{picked}
use Rattle.vd_machine.proofs.Submitting.{flush-no-write, flush-submits, write-submits, settles-nothing}

-- the pass serves a flush in this phase, and has nothing in flight
abbrev pub ServesFlush : Phase → Pass → Type 0
ServesFlush phase p = (p.phase ≡ phase) × (p.flush ≡ true) × (p.ticket ≡ None)

module _ {S : Type 0} (g : store.Ghosts S) {i : ℕ} {r : RequestState} (q p : Pass) (t : Ticket) (s s' : S) (value : q ≡ get_or r.passes i q) (after : p ≡ after_meta q t) where
  -- the pass has submitted this call
  sent : (phase : Phase) (content : List Sector) → IsAt r.passes i (ServesFlush phase) → (phase ≡ Asked) ⊎ (phase ≡ Flushing) → IsMeta r.shape t → (t.kind ≡ Write → t.count ≡ length content)
      → Submits g t (meta_entry t.kind t content) s s' → (x : SubmitsMeta g content i r (with_pass i p r) s s') × (x.ticket ≡ t) × (x.pass.phase ≡ phase)
  sent phase content at phases is_meta count call =
      let known : ServesFlush phase q = subst (ServesFlush phase) (picked r.passes i at q value) at.2 in (
        record {
          pass = q;
          ticket = t;
          there = read_place r.passes i at.0 q at.1 value;
          serves = known.1;
          phase = subst (λ (f : Phase). (f ≡ Asked) ⊎ (f ≡ Flushing)) (sym known.0) phases;
          none = known.2;
          after = ap (λ (x : Pass). with_pass i x r) after;
          is_meta = is_meta;
          count = count;
          call = call;
        },
        refl,
        known.0,
      )

  pub begins-flush : {route : Route} {k k' : KeeperState} → IsAt r.passes i (ServesFlush Asked) → t.kind ≡ Flush → Submits g t (ask_flush_entry t) s s' → is_worn_out route k ≡ false → k' ≡ after_begin route k
      → BeginsFlush g route i (meta_state k r) (meta_state k' (with_pass i p r)) s s'
  begins-flush at kind call not_worn begun =
      let done = sent Asked [] at (inl refl) (inl kind) (flush-no-write t kind) (flush-submits g t s s' kind call) in
      record { sends = done.0; kind = ap (λ (x : Ticket). x.kind) done.1 ∙ kind; asked = done.2; not_worn = not_worn; after = begun }

  pub syncs-puts : IsAt r.passes i (ServesFlush Flushing) → t.kind ≡ Flush → Submits g t (ask_flush_entry t) s s' → SyncsPuts g i r (with_pass i p r) s s'
  syncs-puts at kind call =
      let done = sent Flushing [] at (inr refl) (inl kind) (flush-no-write t kind) (flush-submits g t s s' kind call) in
      record { sends = done.0; kind = ap (λ (x : Ticket). x.kind) done.1 ∙ kind; under_way = done.2 }

  pub puts-next : {table : TableState} {k k' : KeeperState} {put : Put} {at : ℕ} {sector : Sector} → IsAt r.passes i (ServesFlush Flushing) → IsNextPut table k put k' → IsTicket t Write at 1
      → Submits g t (issue_entry t (sector ∷ [])) s s' → at ≡ place_of_put k.header put → sector ≡ put_sector put → place_of_put k.header put < storage_start k.header → r.shape.storage_at ≡ storage_start k.header
      → PutsNext g table i (meta_state k r) (meta_state k' (with_pass i p r)) s s'
  puts-next {table} {k} {k'} {put} {at} {sector} free next ticket call place same_sector below storage =
      let done = sent Flushing (put_sector put ∷ []) free (inr refl) (inr (ticket.kind_is, omega (arith, below, place, storage, ticket.first_is, ticket.count_is))) (λ write. ticket.count_is)
      (write-submits g t sector (put_sector put) s s' ticket.kind_is same_sector call) in
      record {
        put = put;
        next = next;
        sends = done.0;
        kind = ap (λ (x : Ticket). x.kind) done.1 ∙ ticket.kind_is;
        under_way = done.2;
        at = ap (λ (x : Ticket). x.first) done.1 ∙ ticket.first_is ∙ place;
      }

module _ {S : Type 0} (g : store.Ghosts S) (answer : Settled) {i : ℕ} {r : RequestState} {k : KeeperState} (q : Pass) (t : Ticket) (out : List Sector) (s s' : S) where
  -- a call of the flush is settled: neither a write nor a flush reads
  pub settles-meta : {r' : RequestState} {k' : KeeperState} → slice_get r.passes i ≡ Some q → q.phase ≡ Flushing → q.ticket ≡ Some t → out ≡ [] → SettlesCall g answer t [] out s s'
      → r' ≡ with_pass i (meta_settled answer q t) r → k' ≡ keeper_after answer k → SettlesMeta g answer i (meta_state k r) (meta_state k' r') s s'
  settles-meta there phase has none call after kept = record {
    settles = record { pass = q; ticket = t; there = there; phase = phase; has = has; after = after; call = settles-nothing none call };
    after = kept;
  }

module _ {i : ℕ} {r : RequestState} (q p : Pass) (value : q ≡ get_or r.passes i q) where
  -- the flush is over
  pub seals-flush : {k k' : KeeperState} → IsAt r.passes i (ServesFlush Flushing) → p ≡ after_flush q None → k' ≡ after_seal k → SealsFlush i (meta_state k r) (meta_state k' (with_pass i p r))
  seals-flush at over sealed =
      let known : ServesFlush Flushing q = subst (ServesFlush Flushing) (picked r.passes i at q value) at.2 in
      record {
        ends = record {
          pass = q;
          there = read_place r.passes i at.0 q at.1 value;
          serves = known.1;
          none = known.2;
          cause = inl (refl, known.0);
          after = ap (λ (x : Pass). with_pass i x r) over;
        };
        after = sealed;
      }

  -- it is not begun: the generation is the last
  pub is-worn-out : {route : Route} {k : KeeperState} (generation : ℕ) → IsAt r.passes i (ServesFlush Asked) → is_worn_out route k ≡ true → generation ≡ k.header.generation
      → p ≡ after_flush q (Some (Worn generation)) → IsWornOut route i k r (with_pass i p r)
  is-worn-out {route} {k} generation at worn is over =
      let known : ServesFlush Asked q = subst (ServesFlush Asked) (picked r.passes i at q value) at.2 in
      let last : generation ≡ last_generation = is ∙ eqb-true k.header.generation last_generation (and_parts (is_recycle (way_of route k)) (nat_eq k.header.generation last_generation) worn).1 in
      record {
        worn = worn;
        ends = record {
          pass = q;
          there = read_place r.passes i at.0 q at.1 value;
          serves = known.1;
          none = known.2;
          cause = inr (last_generation, refl, known.0);
          after = ap (λ (x : Pass). with_pass i x r) (over ∙ ap (λ (n : ℕ). after_flush q (Some (Worn n))) last);
        };
      }
