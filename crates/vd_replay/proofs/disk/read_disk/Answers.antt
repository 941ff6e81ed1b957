use Rattle.std.proofs.Common.{ℕ, ◌+◌, ◌-◌, ◌≤◌, ◌<◌, ◌≡◌, length, take, drop, sym, ◌∙◌, subst, arith}
use Rattle.vd_format.specs.Layouts.{store_need}
use Rattle.vd_device.proofs.QuietLaws.{reads_twice, ready_again, fault_of_longer, base_reads_twice, base_fault_of_longer}
use Rattle.std.proofs.lemmas.Result.{err_from_is_err_and}
use borrow.Rule.Slice.PartMut.{put_mid}
use Rattle.vd_replay.specs.Disks.{FitsInTicket}
use Rattle.vd_replay.proofs.DiskLaws.{run_inside, fault_of_run, part_length, part_size, part_front, part_middle, more_shown, wanted_by_run, store_spared, base_spared, disk_is}
use Rattle.vd_replay.proofs.disk.read_disk.Goals as goal

pub read_run-requires-clause-ready : goal.read_run-requires-clause-ready
read_run-requires-clause-ready g c = ready_again c.sectors_at_rest-sectors.ensures.ready c.loop-done.invariant.quiet

pub read_run-requires-clause-inside : goal.read_run-requires-clause-inside
read_run-requires-clause-inside g c =
    let n = c.run_from-count.result in
    let room : store_need c.args.state.now.header ≤ g.S.Store.sectors c.loop-done.store = (let same = c.loop-done.invariant.quiet.keeps.counts.sectors in let r = c.requires.readable.room in omega arith) in
    let fits : c.loop-done.done + n ≤ length c.loop-done.out = (let m = c.run_from-count.ensures.most in omega arith) in
    subst (λ (k : ℕ). FitsInTicket c.source_of-source.result k (g.S.Store.sectors c.loop-done.store)) (sym (part_length c.loop-done.out c.loop-done.done n fits))
    (run_inside c.args.state.now (c.args.first + c.loop-done.done) n (g.S.Store.sectors c.loop-done.store) c.source_of-source.result c.run_from-count.ensures.some (let m = c.run_from-count.ensures.most in omega arith) c.requires.readable.sized.valid room c.run_from-count.ensures.run)

pub returns-in_err-read_run-clause-fault : goal.returns-in_err-read_run-clause-fault
returns-in_err-read_run-clause-fault g c =
    let p = err_from_is_err_and c.from_residual.result c.from_residual.ensures.1 in
    let inv = c.loop-done.invariant in
    rw (p.1, p.2)
    (fault_of_run c.source_of-source.result c.in_err-read_run.field-0.0 (λ number fault. fault_of_longer inv.quiet c.read_run.ensures.quiet fault) (λ number fault. base_fault_of_longer inv.base_quiet fault)
    c.in_err-read_run.ensures.fault)

pub returns-in_err-read_run-clause-base_quiet : goal.returns-in_err-read_run-clause-base_quiet
returns-in_err-read_run-clause-base_quiet g c = base_reads_twice c.loop-done.invariant.base_quiet c.read_run.ensures.base_quiet

pub returns-in_err-read_run-clause-asks : goal.returns-in_err-read_run-clause-asks
returns-in_err-read_run-clause-asks g c =
    let p = err_from_is_err_and c.from_residual.result c.from_residual.ensures.1 in
    let inv = c.loop-done.invariant in
    let n = c.loop-done.done in
    let within : n < length c.args.out.now = (let t = c.loop-done-test.true in let size = inv.size in omega arith) in
    let part = take (n + c.run_from-count.result - n) (drop n c.loop-done.out) in
    let at = c.source_of-source.ensures.source in
    let same = inv.base_quiet.keeps.counts.sectors in
    record {
      failed = rw (p.1, p.2)
          (wanted_by_run _ _ c.args.state.now (g.B.Base.sectors c.loop-done.base) (g.B.Base.sectors c.args.base.now) c.args.first (length c.args.out.now) n (length part) c.source_of-source.result c.in_err-read_run.field-0.0
          same within at c.in_err-read_run.ensures.fault c.in_err-read_run.ensures.needed);
      store = λ none. store_spared _ _ c.args.state.now c.args.first (length c.args.out.now) n _ c.source_of-source.result within at c.read_run.ensures.spared none ∙ inv.store_same none;
      base = λ none. base_spared _ _ c.args.state.now (g.B.Base.sectors c.loop-done.base) (g.B.Base.sectors c.args.base.now) c.args.first (length c.args.out.now) n (length part) c.source_of-source.result same within at c.read_run.ensures.spared none
          ∙ inv.base_same none;
    }

pub returns-in_err-read_run-clause-quiet : goal.returns-in_err-read_run-clause-quiet
returns-in_err-read_run-clause-quiet g c = reads_twice c.loop-done.invariant.quiet c.read_run.ensures.quiet

pub loop-done-preserved : goal.loop-done-preserved
loop-done-preserved g c =
    let inv = c.loop-done.invariant in
    let n = c.loop-done.done in
    let count = c.run_from-count.result in
    let within : n < length c.args.out.now = (let t = c.loop-done-test.true in let size = inv.size in omega arith) in
    let at = c.source_of-source.ensures.source in
    let fits : n + count ≤ length c.loop-done.out = (let m = c.run_from-count.ensures.most in omega arith) in
    let part : length c.read_run.new.out ≡ count = c.read_run.ensures.size ∙ part_length c.loop-done.out n count fits in
    let size : length (put_mid n (n + count - n) c.loop-done.out c.read_run.new.out) ≡ length c.loop-done.out = part_size c.loop-done.out c.read_run.new.out n count fits part in
    record {
      quiet = reads_twice inv.quiet c.read_run.ensures.quiet;
      base_quiet = base_reads_twice inv.base_quiet c.read_run.ensures.base_quiet;
      store_same = λ none. store_spared _ _ c.args.state.now c.args.first (length c.args.out.now) n _ c.source_of-source.result within at c.read_run.ensures.spared none ∙ inv.store_same none;
      base_same = λ none. base_spared _ _ c.args.state.now (g.B.Base.sectors c.loop-done.base) (g.B.Base.sectors c.args.base.now) c.args.first (length c.args.out.now) n
          (length (take (n + count - n) (drop n c.loop-done.out))) c.source_of-source.result inv.base_quiet.keeps.counts.sectors within at c.read_run.ensures.spared none ∙ inv.base_same none;
      size = size ∙ inv.size;
      most = omega (arith, size, fits);
      shown = λ told also.
          more_shown (g.S.Store.disk c.loop-done.store).held (g.S.Store.disk c.read_run.new.store).held (g.B.Base.content c.loop-done.base) (g.B.Base.content c.read_run.new.base) c.args.state.now c.args.first n count c.loop-done.out c.read_run.new.out
          (put_mid n (n + count - n) c.loop-done.out c.read_run.new.out) c.source_of-source.result (c.read_run.ensures.quiet.held told) (c.read_run.ensures.base_quiet.keeps.telling.content also)
          (λ i less. part_front c.loop-done.out c.read_run.new.out n (n + count - n) i (omega arith) less) (λ i less. part_middle c.loop-done.out c.read_run.new.out n (n + count - n) count i (omega arith) part less)
          c.run_from-count.ensures.run (c.in_ok-read_run.ensures.read told also) (inv.shown (c.read_run.ensures.quiet.keeps.telling.told_before told) (c.read_run.ensures.base_quiet.keeps.telling.told_before also));
    }

pub returns-clause-read : goal.returns-clause-read
returns-clause-read g c told also says =
    disk_is (g.S.Store.disk c.loop-done.store).held (g.B.Base.content c.loop-done.base) c.args.state.now c.args.first c.loop-done.done c.loop-done.out c.requires.readable.sized (let t = c.loop-done-test.false in omega arith)
    (c.loop-done.invariant.shown told also) says
