-- Each primitive of a flush keeps all that a core keeps, and what its marks say.
use Rattle.std.proofs.Common.{◌+◌, [], ◌∷◌, ◌++◌, false, sym}
use Rattle.vd_image.specs.Log.{Flush, Fine, Ask, Done, Reply}
use Rattle.vd_crash.specs.facts.Safe.{Opening}
use Rattle.vd_crash.specs.primitives.Core.{IsCore, Resting, Sending, Working, Putting, Syncing}
use Rattle.vd_crash.specs.primitives.FlushSteps.{puts_header, has_header, syncs_header, synced_header, progress_synced, IsFlushPrimitive, Begins, Data_flushed, Flush_fails, Syncs, Synced, Seals, Seals_recycle, IsWorking, IsPutPrimitive, Puts_record, Puts_page, Put_done, Puts_header, Header_done, Syncs_header, Header_synced}
use Rattle.vd_crash.specs.primitives.Keeping.{IsMarkedCore}
use Rattle.vd_crash.specs.primitives.States.{State}
use Rattle.vd_crash.proofs.flushes.Marks.{marks_sealed, clean_caught_up}
use Rattle.vd_crash.proofs.primitives.FlushSteps.{core_begin, core_data_flushed, core_fails, core_put_done, core_sync, core_synced, core_next_done, core_sync_next, core_next_synced, core_seal_records, core_seal_recycle}
use Rattle.vd_crash.proofs.primitives.MarkSteps.{MarksHold, marks_quiet, marks_elsewhere, marks_page, marks_synced, marks_recycled}
use Rattle.vd_crash.proofs.primitives.PassKeeping.{at_stage}
use Rattle.vd_crash.proofs.primitives.Primitives.{does_put_record, does_put_page, does_put_header}

-- a core whose flush has nothing in flight
working : (o : Opening) (s : State) (w : IsWorking s) → IsMarkedCore o s → IsCore o s.log s.history s.memory s.flights (Working w.call w.entry w.number w.data_at w.progress)
working o s w c = at_stage o s (Working w.call w.entry w.number w.data_at w.progress) w.stage c

pub flush_core : (o : Opening) (s t : State) → IsFlushPrimitive o s t → IsMarkedCore o s → IsCore o t.log t.history t.memory t.flights t.stage
flush_core o s t (Begins call ticket a n is asked) c = core_begin o s.log s.history s.memory s.flights call ticket a n (at_stage o s Resting is c) asked
flush_core o s t (Data_flushed h paged clean) c =
    let core = at_stage o s (Sending h.call h.entry h.number h.data_at h.snapshot h.ticket) h.stage c in
    let marks = marks_quiet o s.log s.history s.memory s.marked (Reply h.ticket Fine) core.holds.apart (λ a v covers. covers) c.clean_pages in
    let after = core_data_flushed o s.log s.history s.memory s.flights h.call h.ticket h.entry h.number h.data_at h.snapshot (λ d. false) core (λ d is. absurd cc) in
    core_data_flushed o s.log s.history s.memory s.flights h.call h.ticket h.entry h.number h.data_at h.snapshot paged core (λ d is.
    let k = clean d is in
    (k.within, clean_caught_up o (s.log ++ Reply h.ticket Fine ∷ []) s.history s.memory h.snapshot h.call h.entry h.number h.data_at s.marked d after.holds after.so_far.way marks k.within k.unmarked k.none k.not_lost k.no_drop))
flush_core o s t (Flush_fails e quiet none) c = core_fails o s.log s.history s.memory s.flights s.stage e c.core quiet none
flush_core o s t (Syncs h ticket) c = core_sync o s.log s.history s.memory s.flights h.call ticket h.entry h.number h.data_at h.progress (working o s h c)
flush_core o s t (Synced h) c =
    let f = h.flush in
    let core = at_stage o s (Syncing f.call f.entry f.number f.data_at f.progress f.asked f.ticket) f.stage c in
    core_synced o s.log s.history s.memory s.flights f.call f.ticket f.entry f.number f.data_at f.asked f.progress h.slotted h.paged core h.slots h.pages
flush_core o s t (Seals h) c =
    let f = h.flush in
    core_seal_records o s.log s.history s.memory s.flights h.owes.flights h.owes.pass f.call f.entry f.number f.data_at f.progress h.sealing (working o s f c) h.owes.idle h.owes.put h.logged h.sure h.slotted h.lost_slotted
flush_core o s t (Seals_recycle h) c =
    let f = h.flush in
    core_seal_recycle o s.log s.history s.memory s.flights h.owes.flights h.owes.pass f.call f.entry f.number f.data_at h.by h.asked f.progress f.value f.next h.sealing h.tried (at_stage o s (synced_header f h.by h.asked) h.stage c) h.owes.idle h.owes.put h.logged h.none_tried

pub flush_marks : (o : Opening) (s t : State) → IsFlushPrimitive o s t → IsMarkedCore o s → MarksHold o t.log t.history t.memory t.marked
flush_marks o s t (Begins call ticket a n is asked) c = marks_quiet o s.log s.history s.memory s.marked (Ask ticket Flush) c.core.holds.apart (λ d v covers. covers) c.clean_pages
flush_marks o s t (Data_flushed h paged clean) c = marks_quiet o s.log s.history s.memory s.marked (Reply h.ticket Fine) c.core.holds.apart (λ d v covers. covers) c.clean_pages
flush_marks o s t (Flush_fails e quiet none) c = marks_quiet o s.log s.history s.memory s.marked e c.core.holds.apart quiet c.clean_pages
flush_marks o s t (Syncs h ticket) c = marks_quiet o s.log s.history s.memory s.marked (Ask ticket Flush) c.core.holds.apart (λ d v covers. covers) c.clean_pages
flush_marks o s t (Synced h) c =
    let f = h.flush in
    let core = at_stage o s (Syncing f.call f.entry f.number f.data_at f.progress f.asked f.ticket) f.stage c in
    let after = core_synced o s.log s.history s.memory s.flights f.call f.ticket f.entry f.number f.data_at f.asked f.progress h.slotted h.paged core h.slots h.pages in
    marks_synced o (s.log ++ Reply f.ticket Fine ∷ []) s.history s.memory s.marked h.marked f.call f.entry f.number f.data_at (progress_synced f.progress h.slotted h.paged) after.holds after.so_far h.cleared
    (marks_quiet o s.log s.history s.memory s.marked (Reply f.ticket Fine) c.core.holds.apart (λ d v covers. covers) c.clean_pages)
flush_marks o s t (Seals h) c =
    let f = h.flush in
    marks_sealed o s.log s.history s.memory s.marked f.call f.entry f.number f.data_at f.progress h.sealing c.core.holds (working o s f c).so_far h.logged h.pages h.lost_pages c.clean_pages
flush_marks o s t (Seals_recycle h) c =
    let f = h.flush in
    let core = at_stage o s (synced_header f h.by h.asked) h.stage c in
    marks_recycled o s.log s.history s.memory h.marked f.call f.entry f.number f.data_at (s.memory.index.generation + 1) f.next.tracked f.progress h.sealing h.tried core.holds core.so_far.0 h.logged core.so_far.2.paged

pub put_core : (o : Opening) (s t : State) → IsPutPrimitive o s t → IsMarkedCore o s → IsCore o t.log t.history t.memory t.flights t.stage
put_core o s t (Puts_record h) c =
    let f = h.flush in
    does_put_record o s.log s.history s.memory s.flights f.call h.ticket f.entry f.number f.data_at f.progress h.event h.value h.item (working o s f c) h.put.ticket_new h.put.issues h.room h.put.only h.put.covers h.reads h.wanted
put_core o s t (Puts_page h) c =
    let f = h.flush in
    does_put_page o s.log s.history s.memory s.flights f.call h.ticket f.entry f.number f.data_at f.progress h.event h.value h.page (working o s f c) h.put.ticket_new h.put.issues h.within h.put.only h.put.covers h.wanted h.once
put_core o s t (Put_done h recorded written logged) c =
    core_put_done o s.log s.history s.memory s.flights h.call h.ticket h.entry h.number h.data_at h.event h.sector h.value h.progress recorded written
    (at_stage o s (Putting h.call h.entry h.number h.data_at h.progress h.sector h.event h.value h.ticket) h.stage c) logged
put_core o s t (Puts_header h) c =
    let f = h.flush in
    does_put_header o s.log s.history s.memory s.flights f.call h.ticket f.entry f.number f.data_at f.progress h.event h.value h.next h.tried (working o s f c) h.put.ticket_new h.put.issues h.put.only h.put.covers h.header
put_core o s t (Header_done h i ticket is) c = core_next_done o s.log s.history s.memory s.flights h.call ticket h.entry h.number h.data_at i h.progress h.value h.next (at_stage o s (puts_header h i ticket) is c)
put_core o s t (Syncs_header h by ticket is) c = core_sync_next o s.log s.history s.memory s.flights h.call ticket h.entry h.number h.data_at by h.progress h.value h.next (at_stage o s (has_header h by) is c)
put_core o s t (Header_synced h by r ticket is) c = core_next_synced o s.log s.history s.memory s.flights h.call ticket h.entry h.number h.data_at by r h.progress h.value h.next (at_stage o s (syncs_header h by r ticket) is c)

pub put_marks : (o : Opening) (s t : State) → IsPutPrimitive o s t → IsMarkedCore o s → MarksHold o t.log t.history t.memory t.marked
put_marks o s t (Puts_record h) c =
    let apart = c.core.holds.apart in
    marks_elsewhere o s.log s.history s.memory s.marked h.event (o.layout.slot_at s.memory.index.cursor) h.value s.memory.index.sure s.memory.index.tried (s.memory.index.cursor + 1) c.core.holds
    (λ a b within same. apart.place_slot a b s.memory.index.cursor within h.room same) (λ d within same. apart.map_slot d s.memory.index.cursor within h.room same) h.put.only c.clean_pages
put_marks o s t (Puts_page h) c =
    let f = h.flush in
    marks_page o s.log s.history s.memory s.marked f.call f.entry f.number f.data_at f.progress h.event h.value h.page c.core.holds (working o s f c).so_far h.within h.put.only h.wanted c.clean_pages
put_marks o s t (Put_done h recorded written logged) c = marks_quiet o s.log s.history s.memory s.marked (Done h.ticket) c.core.holds.apart (λ d v covers. covers) c.clean_pages
put_marks o s t (Puts_header h) c =
    let apart = c.core.holds.apart in
    marks_elsewhere o s.log s.history s.memory s.marked h.event o.layout.header_at h.value false h.tried s.memory.index.cursor c.core.holds
    (λ a b within same. apart.place_header a b within same) (λ d within same. apart.header_map d within (sym same)) h.put.only c.clean_pages
put_marks o s t (Header_done h i ticket is) c = marks_quiet o s.log s.history s.memory s.marked (Done ticket) c.core.holds.apart (λ d v covers. covers) c.clean_pages
put_marks o s t (Syncs_header h by ticket is) c = marks_quiet o s.log s.history s.memory s.marked (Ask ticket Flush) c.core.holds.apart (λ d v covers. covers) c.clean_pages
put_marks o s t (Header_synced h by r ticket is) c = marks_quiet o s.log s.history s.memory s.marked (Reply ticket Fine) c.core.holds.apart (λ d v covers. covers) c.clean_pages
