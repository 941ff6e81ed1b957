use Rattle.std.proofs.Common.{subst}
use Rattle.vd_device.specs.declared.patient.Patient.{Patient}
use Rattle.vd_device.specs.Stores.{KeepsStore}
use Rattle.vd_device.specs.Bases.{KeepsBase}
use Rattle.vd_device.proofs.Keeping.{keeps-on, base-keeps-on}
use Rattle.vd_device.specs.Patients.{patient_store, patient_base}
use Rattle.vd_run.proofs.RunningLaws.{script_served}
use Rattle.vd_run.proofs.ServedLaws.{opened_unused, opened_size, served_run}
use Rattle.vd_run.proofs.AgainLaws.{may_hold}
use Rattle.vd_device.proofs.DeviceLaws.{patient_leaves}
use Rattle.vd_run.proofs.running.serve_trace.Goals as goal

pub serve-requires-clause-unused : goal.serve-requires-clause-unused
serve-requires-clause-unused g c = opened_unused c.in-Ok.ensures.opened

pub serve-requires-clause-servable : goal.serve-requires-clause-servable
serve-requires-clause-servable g c = script_served c.args.state.header.size _ c.args.trace.now c.requires.ready.opens.inside (opened_size c.requires.ready.opened.whole.sized.valid c.in-Ok.ensures.opened)

pub returns-in-Ok-clause-run : goal.returns-in-Ok-clause-run
returns-in-Ok-clause-run g c =
    let f = c.finish-store.ensures in
    let last = rw (c.into_inner-store.ensures, f.store) at c.look-in-Ok.ensures in
    let serving = c.serve.ensures in
    let closing = c.close-closing.ensures in
    let ready = c.requires.ready in
    let opened = rw (c.new.ensures, c.new-2.ensures) at c.in-Ok.ensures.opened in
    rw (c.into_inner-store.ensures, c.into_inner-in-Ok.ensures, f.store, f.base, f.history)
    (λ first from. served_run g.S.Store g.B.Base c.args.state _ c.args.store c.args.base c.in-Ok.core c.serve.new.core c.close-closing.new.core c.args.trace.now c.close-closing.result
    ready.opened.whole.sized ready.opens.version ready.says c.look.ensures.ready.told c.look.ensures.running c.look.ensures.honest opened
    serving.served serving.disk closing.closed closing.disk
    f.known f.ended last.recorded (λ t. may_hold _ (last.honest t) (last.order t) (last.size t)) first from)

pub returns-in-Ok-clause-leaves : goal.returns-in-Ok-clause-leaves
returns-in-Ok-clause-leaves g c =
    let f = c.finish-store.ensures in
    let serving = c.serve.ensures in
    let closing = c.close-closing.ensures in
    let idle = rw f.store at f.none_in_flight in
    let base_idle = rw f.base at f.none_in_base_flight in
    let opened = rw (c.new.ensures, c.new-2.ensures) at c.in-Ok.ensures.opened in
    rw (c.into_inner-store.ensures, c.into_inner-in-Ok.ensures, f.store, f.base)
    (patient_leaves g.S.Store g.B.Base _ c.close-closing.new.core.store _ c.close-closing.new.core.base idle base_idle
    (subst (λ (p : Patient g.row.S.Denot). KeepsStore (patient_store g.S.Store) p c.close-closing.new.core.store) opened.store_is
    (keeps-on (patient_store g.S.Store) c.in-Ok.core.store c.serve.new.core.store c.close-closing.new.core.store serving.keeps closing.keeps))
    (subst (λ (p : Patient g.row.B.Denot). KeepsBase (patient_base g.B.Base) p c.close-closing.new.core.base) opened.base_is
    (base-keeps-on (patient_base g.B.Base) c.in-Ok.core.base c.serve.new.core.base c.close-closing.new.core.base serving.base_keeps closing.base_keeps)))
