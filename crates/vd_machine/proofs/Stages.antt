-- The stages of a flush under way, and what its pass has in flight there.
use Rattle.std.proofs.Common.{◌≡◌, ◌≢◌, ◌⊎◌, inl, inr, ℕ, ◌<◌, Bool, true, false, not, cond, List, length, sym, refl, ap, ◌∙◌, arith, length-set, get_or-set_same, Some, None, set}
use Rattle.std.specs.Prelude.{◌&&◌, nat_lt}
use Rattle.std.specs.List.{list_any}
use Rattle.std.proofs.lemmas.Bool.{and_parts, false≢true, ltb-true, not-true, not_from_true}
use Rattle.std.proofs.lemmas.List.{length-replicate}
use Rattle.std.proofs.lemmas.List.Folds.{list_any_at}
use Rattle.vd_device.specs.declared.ticket.Ticket.{Ticket}
use Rattle.vd_device.specs.declared.ticket.Kind.{Kind}
use Rattle.vd_device.specs.declared.ticket.Kind.TheVariants.{Write, Flush}
use Rattle.vd_table.specs.Tables.{TableState}
use Rattle.vd_keeper.specs.declared.stage.Stage.{Stage}
use Rattle.vd_keeper.specs.declared.stage.Stage.TheVariants.{Rest, DataFlush, Puts, Syncs, Seals, Broken}
use Rattle.vd_keeper.specs.declared.stage.Way as way
use Rattle.vd_keeper.specs.declared.stage.Way.TheVariants as ways
use Rattle.vd_keeper.specs.declared.stage.Put.{Put}
use Rattle.vd_keeper.specs.Keeping.{KeeperState, no_marks, pages_of}
use Rattle.vd_keeper.specs.Entries.{chunks_with}
use Rattle.vd_keeper.specs.Flushes.{IsKeeping, is_recycle}
use Rattle.vd_keeper.specs.Moves.{HasPutDue, IsNextPut, Next_record, Next_page, Next_header, none_of, after_call, after_data, after_put, after_sync, is_settling}
use Rattle.vd_keeper.proofs.Begun.{settling-possible, staged-kept, data-onward, puts-onward, syncs-onward, after-data-onward, after-put-onward, after-sync-onward, after-put-in-stage}
use Rattle.vd_keeper.proofs.Counts.{due-records, due-recycle}
use Rattle.vd_keeper.proofs.Moving.{lowest-inside}
use Rattle.vd_passes.specs.declared.pass.Pass.{Pass}
use Rattle.vd_machine.specs.Attending.{HasUnflushedPuts, IsAtStage}
use Rattle.vd_machine.proofs.Due.{staged-due, owed-due}

pub no-ticket : {A : Type 0} (p : Pass) (t : Ticket) → p.ticket ≡ None → p.ticket ≡ Some t → A
no-ticket p t none some = absurd (let e : None ≡ Some t = sym none ∙ some in cc)

same-kind : (p : Pass) (t u : Ticket) (kind : Kind) → p.ticket ≡ Some t → p.ticket ≡ Some u → u.kind ≡ kind → t.kind ≡ kind
same-kind p t u kind is is' kind_is = let e : Some t ≡ Some u = sym is ∙ is' in let same : t ≡ u = cc in ap (λ (x : Ticket). x.kind) same ∙ kind_is

-- ---- what was put

records-recycle : {A : Type 0} (w : way.Way) → w ≡ ways.Records → is_recycle w ≡ true → A
records-recycle w records recycle = absurd (false≢true (sym (ap is_recycle records) ∙ recycle))

staged-put : (k : KeeperState) (s : Stage) → HasUnflushedPuts k → HasUnflushedPuts (record k { stage = s })
staged-put k s put = record { some = put.some; pages = put.pages }

-- a set with a member has one
some-put : (put : List Bool) (page : ℕ) → page < length put → none_of (set put page true) ≡ false
some-put put page inside =
    let len : page < length (set put page true) = omega (arith, length-set put page true) in
    not_from_true (list_any (λ (b : Bool). b) (set put page true)) (list_any_at (λ (b : Bool). b) (set put page true) page false len (get_or-set_same put page true false inside))

-- a put that is in flight
pub put-out : (table : TableState) (k k' : KeeperState) (put : Put) → IsKeeping k → HasPutDue k → IsNextPut table k put k' → HasUnflushedPuts k'
put-out table k k' put kept due (Next_record sector records bytes) = record { some = due.some; pages = records-recycle k.way records }
put-out table k k' put kept due (Next_page page sector recycle lowest bytes) = record {
  some = due.some;
  pages = λ is head. some-put k.put page (omega (arith, lowest-inside k.marked 0 page lowest, kept.marked_size, kept.put_size));
}
put-out table k k' put kept due (Next_header sector recycle none bytes) = record { some = due.some; pages = λ is head. absurd (false≢true (sym head)) }

-- ---- the stage that comes next

-- once the guest's data is durable
data-stage : (k : KeeperState) (w : way.Way) (p : Pass) → k.way ≡ w → (k.way ≢ ways.Nothing → HasPutDue k) → IsAtStage (after_data w) (record k { stage = after_data k.way }) (record p { ticket = None })
data-stage k ways.Nothing p e due = refl
data-stage k ways.Records p e due = inl (refl, staged-due k (after_data k.way) k.put (due (λ n. absurd (let f : ways.Records ≡ ways.Nothing = sym e ∙ n in cc))))
data-stage k (ways.Recycle t) p e due = inl (refl, staged-due k (after_data k.way) k.put (due (λ n. absurd (let f : ways.Recycle t ≡ ways.Nothing = sym e ∙ n in cc))))

-- once a put is done
records-stage : (k : KeeperState) (s : Stage) (p : Pass) (more : Bool) → k.way ≡ ways.Records → HasUnflushedPuts k → nat_lt k.logged (length (chunks_with k.header k.snapshot)) ≡ more
    → IsAtStage (cond {A = Stage} more Puts Syncs) (record k { stage = s }) (record p { ticket = None })
records-stage k s p true e put is = inl (refl, staged-due k s k.put (due-records k e (ltb-true k.logged (length (chunks_with k.header k.snapshot)) is)))
records-stage k s p false e put is = (staged-put k s put, records-recycle k.way e, inl refl)

no-more : (head none : Bool) → (not head && not none) ≡ false → head ≡ false → none ≡ true
no-more head true e off = refl
no-more true false e off = absurd (false≢true (sym off))
no-more false false e off = absurd (false≢true (sym e))

recycle-stage : (k : KeeperState) (s : Stage) (p : Pass) (t : ℕ) (more : Bool) → k.way ≡ ways.Recycle t → HasUnflushedPuts k → (not k.head && not (none_of k.marked)) ≡ more
    → IsAtStage (cond {A = Stage} more Puts Syncs) (record k { stage = s }) (record p { ticket = None })
recycle-stage k s p t true e put is = inl (refl, staged-due k s k.put (due-recycle k t e (not-true k.head (and_parts (not k.head) (not (none_of k.marked)) is).0)))
recycle-stage k s p t false e put is = (staged-put k s put, λ recycle head. no-more k.head (none_of k.marked) is head, inl refl)

put-stage : (k : KeeperState) (w : way.Way) (p : Pass) → k.way ≡ w → HasUnflushedPuts k → IsAtStage (after_put k w) (record k { stage = after_put k k.way }) (record p { ticket = None })
put-stage k ways.Nothing p e put = absurd (put.some e)
put-stage k ways.Records p e put = records-stage k (after_put k k.way) p (nat_lt k.logged (length (chunks_with k.header k.snapshot))) e put refl
put-stage k (ways.Recycle t) p e put = recycle-stage k (after_put k k.way) p t (not k.head && not (none_of k.marked)) e put refl

-- once what was put is durable
head-stage : (k : KeeperState) (s : Stage) (put : List Bool) (p : Pass) (t : ℕ) (head : Bool) → k.way ≡ ways.Recycle t → k.head ≡ head → IsAtStage (cond {A = Stage} head Seals Puts) (record k { stage = s; put = put }) (record p { ticket = None })
head-stage k s put p t true e is = refl
head-stage k s put p t false e is = inl (refl, staged-due k s put (due-recycle k t e is))

sync-stage : (k : KeeperState) (put : List Bool) (w : way.Way) (p : Pass) → k.way ≡ w → IsAtStage (after_sync k.head w) (record k { stage = after_sync k.head k.way; put = put }) (record p { ticket = None })
sync-stage k put ways.Nothing p e = refl
sync-stage k put ways.Records p e = refl
sync-stage k put (ways.Recycle t) p e = head-stage k (after_sync k.head k.way) put p t k.head e refl

-- the call in flight is done
pub done-stage : (k : KeeperState) (s : Stage) (p : Pass) (t : Ticket) → p.ticket ≡ Some t → IsAtStage s k p → IsAtStage (after_call s k).stage (after_call s k) (record p { ticket = None })
unfolding after_call
done-stage k DataFlush p t out at = data-stage k k.way p refl at.1
done-stage k Puts p t out at = elim at [ inl none ↦ no-ticket p t none.0 out | inr put ↦ put-stage k k.way p refl put.1 ]
done-stage k Syncs p t out at = sync-stage k (no_marks (pages_of k.header)) k.way p refl
done-stage k Rest p t out at = absurd at
done-stage k Seals p t out at = no-ticket p t at out
done-stage k Broken p t out at = absurd at

-- ---- what it leaves

-- what a step of a flush under way leaves as it was
pub record IsLeft (k k' : KeeperState) : Type 0 where
  pub header : k'.header ≡ k.header
  pub stale : k'.stale ≡ k.stale
  pub owed : k'.owed ≡ k.owed
  pub way : k'.way ≡ k.way

pub gone-left : (k : KeeperState) (s : Stage) → IsLeft k (after_call s k)
unfolding after_call
gone-left k DataFlush = record { header = refl; stale = refl; owed = refl; way = refl }
gone-left k Puts = record { header = refl; stale = refl; owed = refl; way = refl }
gone-left k Syncs = record { header = refl; stale = refl; owed = refl; way = refl }
gone-left k Rest = record { header = refl; stale = refl; owed = refl; way = refl }
gone-left k Seals = record { header = refl; stale = refl; owed = refl; way = refl }
gone-left k Broken = record { header = refl; stale = refl; owed = refl; way = refl }

pub gone-kept : (k : KeeperState) (s : Stage) → IsKeeping k → k.stage ≡ s → IsKeeping (after_call s k)
unfolding after_call
gone-kept k DataFlush kept e =
    let on = after-data-onward k.way in
    staged-kept k (after_data k.way) k.put kept (settling-possible k DataFlush kept e data-onward.rest data-onward.broken) kept.put_size on.rest on.broken
gone-kept k Puts kept e =
    let on = after-put-onward k k.way in
    staged-kept k (after_put k k.way) k.put kept (settling-possible k Puts kept e puts-onward.rest puts-onward.broken) kept.put_size on.rest on.broken
gone-kept k Syncs kept e =
    let on = after-sync-onward k.head k.way in
    staged-kept k (after_sync k.head k.way) (no_marks (pages_of k.header)) kept (settling-possible k Syncs kept e syncs-onward.rest syncs-onward.broken) (length-replicate (pages_of k.header) false) on.rest on.broken
gone-kept k Rest kept e = kept
gone-kept k Seals kept e = kept
gone-kept k Broken kept e = kept

-- sectors of the map are put only in these stages
abbrev pub IsPutInStage : KeeperState → Type 0
IsPutInStage k = (k.stage ≡ Puts) ⊎ (k.stage ≡ Syncs) ⊎ (k.put ≡ no_marks (pages_of k.header))

pub still-none-put : (k : KeeperState) (s : Stage) → IsPutInStage k → k.stage ≡ s → (s ≡ Puts → ⊥) → (s ≡ Syncs → ⊥) → k.put ≡ no_marks (pages_of k.header)
still-none-put k s put_in_stage e puts syncs = elim put_in_stage [
  | inl is ↦ absurd (puts (sym e ∙ is))
  | inr other ↦ elim other [ inl is ↦ absurd (syncs (sym e ∙ is)) | inr none ↦ none ]
]

data-puts : DataFlush ≡ Puts → ⊥
data-puts e = absurd cc

data-syncs : DataFlush ≡ Syncs → ⊥
data-syncs e = absurd cc

pub gone-in-stage : (k : KeeperState) (s : Stage) → IsPutInStage k → k.stage ≡ s → IsPutInStage (after_call s k)
unfolding after_call
gone-in-stage k DataFlush put_in_stage e = inr (inr (still-none-put k DataFlush put_in_stage e data-puts data-syncs))
gone-in-stage k Puts put_in_stage e = elim (after-put-in-stage k k.way) [ inl puts ↦ inl puts | inr syncs ↦ inr (inl syncs) ]
gone-in-stage k Syncs put_in_stage e = inr (inr refl)
gone-in-stage k Rest put_in_stage e = put_in_stage
gone-in-stage k Seals put_in_stage e = put_in_stage
gone-in-stage k Broken put_in_stage e = put_in_stage

-- what is owed doesn't matter
pub owed-stage : (k : KeeperState) (owed : List Bool) (s : Stage) (p : Pass) → IsAtStage s k p → IsAtStage s (record k { owed = owed }) p
owed-stage k owed DataFlush p at = (at.0, λ some. owed-due k owed (at.1 some))
owed-stage k owed Puts p at = elim at [ inl none ↦ inl (none.0, owed-due k owed none.1) | inr out ↦ inr (out.0, record { some = out.1.some; pages = out.1.pages }) ]
owed-stage k owed Syncs p at = (record { some = at.0.some; pages = at.0.pages }, at.1, at.2)
owed-stage k owed Rest p at = absurd at
owed-stage k owed Seals p at = at
owed-stage k owed Broken p at = absurd at

-- ---- what is in flight

-- where a call is, it can be settled
pub out-stage : (k : KeeperState) (s : Stage) (p : Pass) (t : Ticket) → p.ticket ≡ Some t → IsAtStage s k p → (is_settling s ≡ true) × ((t.kind ≡ Write) ⊎ (t.kind ≡ Flush))
out-stage k DataFlush p t out at = (refl, inr (same-kind p t at.0.0 Flush out at.0.1 at.0.2))
out-stage k Puts p t out at = elim at [ inl none ↦ no-ticket p t none.0 out | inr put ↦ (refl, inl (same-kind p t put.0.0 Write out put.0.1 put.0.2)) ]
out-stage k Syncs p t out at = elim at.2 [ inl none ↦ no-ticket p t none out | inr sync ↦ (refl, inr (same-kind p t sync.0 Flush out sync.1 sync.2)) ]
out-stage k Rest p t out at = absurd at
out-stage k Seals p t out at = no-ticket p t at out
out-stage k Broken p t out at = absurd at

-- where none is, the flush puts, makes durable what it put, or is over
pub none-stage : (k : KeeperState) (s : Stage) (p : Pass) → p.ticket ≡ None → IsAtStage s k p → (s ≡ Puts) ⊎ (s ≡ Syncs) ⊎ (s ≡ Seals)
none-stage k DataFlush p none at = no-ticket p at.0.0 none at.0.1
none-stage k Puts p none at = inl refl
none-stage k Syncs p none at = inr (inl refl)
none-stage k Seals p none at = inr (inr refl)
none-stage k Rest p none at = absurd at
none-stage k Broken p none at = absurd at
