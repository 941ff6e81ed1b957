-- Where a flush has something to put.
use Rattle.std.proofs.Common.{◌≡◌, ◌≢◌, inl, inr, ℕ, ◌<◌, Bool, true, false, not, cond, List, length, sym, refl, ap, ◌∙◌, arith, subst}
use Rattle.std.specs.Prelude.{◌&&◌, nat_lt}
use Rattle.std.proofs.lemmas.Bool.{cases_eq, and_parts, false≢true, ltb-true, not-true}
use Rattle.vd_bits.specs.Blocks.{Blocks}
use Rattle.vd_format.specs.declared.header.Header.{Header}
use Rattle.vd_format.specs.Layouts.{blocks_of}
use Rattle.vd_format.proofs.Rules.{chunk_within}
use Rattle.vd_keeper.specs.declared.stage.Stage.{Stage}
use Rattle.vd_keeper.specs.declared.stage.Stage.TheVariants.{DataFlush, Puts, Syncs, Seals}
use Rattle.vd_keeper.specs.declared.stage.Way as way
use Rattle.vd_keeper.specs.declared.stage.Way.TheVariants as ways
use Rattle.vd_keeper.specs.declared.stage.Route.{Route}
use Rattle.vd_keeper.specs.Keeping.{KeeperState, no_marks, pages_of}
use Rattle.vd_keeper.specs.Entries.{chunks_with}
use Rattle.vd_keeper.specs.Flushes.{IsKeeping}
use Rattle.vd_keeper.specs.Moves.{HasPutDue, none_of, after_begin, after_call, after_data, after_put, after_sync}
use Rattle.vd_keeper.specs.Sets.{chunks_from}
use Rattle.vd_keeper.proofs.Flushed.{chunks-with, way-records}
use Rattle.vd_keeper.proofs.Begun.{gone-on-data, gone-on-puts, gone-on-syncs}
use Rattle.vd_keeper.proofs.Counts.{none-of-set, due-records, due-recycle}

-- some block has some chunk
pub some-chunks : (h : Header) (blocks : List Bool) → 0 < h.chunk → length blocks ≡ blocks_of h → none_of blocks ≡ false → 0 < length (chunks_with h blocks)
some-chunks h blocks some size has =
    let b : Blocks = record { chunk = h.chunk; bits = blocks } in
    let same : length (chunks_from b 0) ≡ length (chunks_with h blocks) = ap (λ (cs : List ℕ). length cs) (chunks-with h b refl size) in
    elim (cases_eq (length (chunks_with h blocks)) 0) [
      | inl none ↦ absurd (false≢true (sym has ∙ none-of-set b some (same ∙ none)))
      | inr more ↦ omega (arith, more)
    ]

-- a flush that has begun has something to put, or nothing to log
pub begun-due : (route : Route) (k : KeeperState) → IsKeeping k → (after_begin route k).way ≢ ways.Nothing → HasPutDue (after_begin route k)
begun-due route k kept some = record {
  some = some;
  records = λ records.
      let within = chunk_within k.header kept.valid in
      some-chunks k.header k.owed (omega (arith, within.0)) kept.owed_size (way-records route k records).1;
  recycle = λ recycle. refl;
}

-- neither the stage nor what was put matters
pub staged-due : (k : KeeperState) (s : Stage) (put : List Bool) → HasPutDue k → HasPutDue (record k { stage = s; put = put })
staged-due k s put due = record { some = due.some; records = due.records; recycle = due.recycle }

-- nor does what is owed
pub owed-due : (k : KeeperState) (owed : List Bool) → HasPutDue k → HasPutDue (record k { owed = owed })
owed-due k owed due = record { some = due.some; records = due.records; recycle = due.recycle }

seals-puts : Seals ≡ Puts → ⊥
seals-puts e = absurd cc

syncs-puts : Syncs ≡ Puts → ⊥
syncs-puts e = absurd cc

-- a choice of the stage Puts was one by its test
chosen : (test : Bool) → cond {A = Stage} test Puts Syncs ≡ Puts → test ≡ true
chosen true e = refl
chosen false e = absurd (syncs-puts e)

not-chosen : (test : Bool) → cond {A = Stage} test Seals Puts ≡ Puts → test ≡ false
not-chosen true e = absurd (seals-puts e)
not-chosen false e = refl

-- once the guest's data is durable
data-some : (w : way.Way) → after_data w ≡ Puts → w ≢ ways.Nothing
data-some w e none = seals-puts (ap after_data (sym none) ∙ e)

pub data-due : (k : KeeperState) → k.stage ≡ DataFlush → (k.way ≢ ways.Nothing → HasPutDue k) → (after_call k.stage k).stage ≡ Puts → HasPutDue (after_call k.stage k)
data-due k stage due puts =
    let is = gone-on-data k k.stage stage in
    subst HasPutDue is (staged-due k (after_data k.way) k.put (due (data-some k.way (ap (λ (x : KeeperState). x.stage) is ∙ puts))))

-- once a put is done
put-left : (k : KeeperState) (w : way.Way) → k.way ≡ w → after_put k w ≡ Puts → HasPutDue k
put-left k ways.Nothing e puts = absurd (syncs-puts puts)
put-left k ways.Records e puts = due-records k e (ltb-true k.logged (length (chunks_with k.header k.snapshot)) (chosen (nat_lt k.logged (length (chunks_with k.header k.snapshot))) puts))
put-left k (ways.Recycle t) e puts = due-recycle k t e (not-true k.head (and_parts (not k.head) (not (none_of k.marked)) (chosen (not k.head && not (none_of k.marked)) puts)).0)

pub put-due : (k : KeeperState) → k.stage ≡ Puts → (after_call k.stage k).stage ≡ Puts → HasPutDue (after_call k.stage k)
put-due k stage puts =
    let is = gone-on-puts k k.stage (after_put k k.way) stage refl in
    subst HasPutDue is (staged-due k (after_put k k.way) k.put (put-left k k.way refl (ap (λ (x : KeeperState). x.stage) is ∙ puts)))

-- once the map is durable
sync-left : (k : KeeperState) (w : way.Way) → k.way ≡ w → after_sync k.head w ≡ Puts → HasPutDue k
sync-left k ways.Nothing e puts = absurd (seals-puts puts)
sync-left k ways.Records e puts = absurd (seals-puts puts)
sync-left k (ways.Recycle t) e puts = due-recycle k t e (not-chosen k.head puts)

pub sync-due : (k : KeeperState) → k.stage ≡ Syncs → (after_call k.stage k).stage ≡ Puts → HasPutDue (after_call k.stage k)
sync-due k stage puts =
    let is = gone-on-syncs k k.stage (after_sync k.head k.way) (no_marks (pages_of k.header)) stage refl refl in
    subst HasPutDue is (staged-due k (after_sync k.head k.way) (no_marks (pages_of k.header)) (sync-left k k.way refl (ap (λ (x : KeeperState). x.stage) is ∙ puts)))
