use Rattle.std.proofs.Common.{◌≡◌, ◌<◌, ◌∙◌, ℕ, Some, Option, length, sym, ap, refl}
use Rattle.std.specs.List.{slice_get}
use Rattle.std.proofs.lemmas.Option.{slice_get_read}
use Rattle.vd_lists.proofs.Changes.{slice_set_unchanged}
use Rattle.vd_table.proofs.Hindrances.{other_first, self_first, lower_first}
use Rattle.vd_table.proofs.table.Table.set.Goals as goal
use Rattle.vd_table.proofs.table.Table.set.Goals.{After-index-2}

-- what stands at the chunk, and at the storage chunk
at_chunk : (c : After-index-2) → slice_get c.self.inside.storage.items c.args.chunk ≡ Some c.index.result.now
at_chunk c =
    let inside : c.args.chunk < length c.self.inside.storage.items = rw (← c.self.view_is) at c.requires.chunk in
    slice_get_read c.self.inside.storage.items (length c.self.inside.storage.items) c.args.chunk c.index.result.now refl inside c.index.ensures

at_storage : (c : After-index-2) → slice_get c.self.inside.owners.items c.args.p ≡ Some c.index-2.result.now
at_storage c =
    let inside : c.args.p < length c.self.inside.owners.items = rw (← c.self.view_is) at c.requires.storage in
    slice_get_read c.self.inside.owners.items (length c.self.inside.owners.items) c.args.p c.index-2.result.now refl inside c.index-2.ensures

pub returns-in-Some-Some-clause-given : goal.returns-in-Some-Some-clause-given
returns-in-Some-Some-clause-given c =
    let k = (goal.at.returns-in-Some-Some-clause-given c).After-index-2 in
    let owned : slice_get c.self.inside.storage.items c.args.chunk ≡ Some (Some c.args.p) = c.self.invariant.owned c.args.chunk c.args.p (at_storage k ∙ ap (λ (o : Option ℕ). Some o) (c.in-Some-Some.is-1 ∙ ap (λ (n : ℕ). Some n) c.if-owner-chunk.true)) in
    ap (λ chunks. record { chunks = chunks; storage = c.args.self.now.storage }) (sym (slice_set_unchanged c.args.self.now.chunks c.args.chunk (Some c.args.p) (rw (← c.self.view_is) owned)))

pub returns-in-None-Some-clause-taken : goal.returns-in-None-Some-clause-taken
returns-in-None-Some-clause-taken c =
    let k = (goal.at.returns-in-None-Some-clause-taken c).After-index-2 in
    rw (← c.self.view_is) (other_first c.self.inside.storage.items c.self.inside.owners.items c.self.inside.free c.self.invariant c.args.chunk c.args.p c.in-None-Some.owner
    (at_chunk k ∙ ap (λ (o : Option ℕ). Some o) c.in-None-Some.is-0) (at_storage k ∙ ap (λ (o : Option ℕ). Some o) c.in-None-Some.is-1))

pub returns-in-Some-None-clause-taken : goal.returns-in-Some-None-clause-taken
returns-in-Some-None-clause-taken c =
    let k = (goal.at.returns-in-Some-None-clause-taken c).After-index-2 in
    rw (← c.self.view_is) (self_first c.self.inside.storage.items c.self.inside.owners.items c.self.inside.free c.self.invariant c.args.chunk c.args.p c.in-Some-None.field-0-0
    (at_chunk k ∙ ap (λ (o : Option ℕ). Some o) c.in-Some-None.is-0) (at_storage k ∙ ap (λ (o : Option ℕ). Some o) c.in-Some-None.is-1))

pub returns-in-Some-Some-2-clause-taken : goal.returns-in-Some-Some-2-clause-taken
returns-in-Some-Some-2-clause-taken c =
    let k = (goal.at.returns-in-Some-Some-2-clause-taken c).After-index-2 in
    rw (← c.self.view_is, c.min-by.ensures) (lower_first c.self.inside.storage.items c.self.inside.owners.items c.self.inside.free c.self.invariant c.args.chunk c.args.p c.in-Some-Some.field-0-0 c.in-Some-Some.owner
    (at_chunk k ∙ ap (λ (o : Option ℕ). Some o) c.in-Some-Some.is-0) (at_storage k ∙ ap (λ (o : Option ℕ). Some o) c.in-Some-Some.is-1) c.if-owner-chunk.false)
