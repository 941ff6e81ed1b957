-- Each primitive of the passes keeps all that a core keeps, and what its marks say.
use Rattle.std.proofs.Common.{ℕ, ◌≡◌, [], ◌∷◌, ◌++◌, inl, inr, Bool, true, refl, sym, subst, ◌∙◌}
use Rattle.std.proofs.lemmas.Bool.{cases_eq}
use Rattle.vd_image.specs.Log.{Fine, Done, Broke, Reply, May}
use Rattle.vd_crash.specs.facts.Safe.{Opening}
use Rattle.vd_crash.specs.facts.Facts.{IsClaimSettled}
use Rattle.vd_crash.specs.facts.Words.{IsUpdated}
use Rattle.vd_crash.specs.flushes.Blocks.{issue_of, with_owed}
use Rattle.vd_crash.specs.flushes.Moves.{entry_now}
use Rattle.vd_crash.specs.flushes.Stage.{Flight, Writing, FlightHolds}
use Rattle.vd_crash.specs.primitives.Core.{IsCore, Stage, Resting}
use Rattle.vd_crash.specs.primitives.Keeping.{IsMarkedCore}
use Rattle.vd_crash.specs.primitives.PassSteps.{PieceEnd, IsQuietPrimitive, Tells, Notes, Takes, Adopts, Marks, Answers, IsWritePrimitive, Issues, Issues_whole, Copies, Drops, IsEndPrimitive, Ends_local, Ends_whole, Fails, Fails_whole, Copied, Copy_fails}
use Rattle.vd_crash.specs.primitives.States.{State}
use Rattle.vd_crash.proofs.facts.Steps.{quiet_event}
use Rattle.vd_crash.proofs.facts.Writes.{no_done, no_ends, same_follows, issue_whole, put_copy}
use Rattle.vd_crash.proofs.flushes.Marks.{marks_more}
use Rattle.vd_crash.proofs.flushes.Passes.{writing_mirrored}
use Rattle.vd_crash.proofs.primitives.DropSteps.{core_drop, marks_drop}
use Rattle.vd_crash.proofs.primitives.EndSteps.{core_done, core_done_whole, core_broke, core_broke_whole, core_copied, core_copy_broke}
use Rattle.vd_crash.proofs.primitives.FlushSteps.{core_answer}
use Rattle.vd_crash.proofs.primitives.IssueSteps.{core_issue, core_issue_whole, core_copy}
use Rattle.vd_crash.proofs.primitives.MarkSteps.{MarksHold, marks_event, marks_quiet, marks_entry, marks_blocks, marks_table}
use Rattle.vd_crash.proofs.primitives.PassSteps.{core_tells, core_notes, core_takes}
use Rattle.vd_crash.proofs.primitives.Primitives.{core_adopt}

-- a core with its stage written out
pub at_stage : (o : Opening) (s : State) (stage : Stage) → s.stage ≡ stage → IsMarkedCore o s → IsCore o s.log s.history s.memory s.flights stage
at_stage o s stage is c = subst (λ (x : Stage). IsCore o s.log s.history s.memory s.flights x) is c.core

pub quiet_core : (o : Opening) (s t : State) → IsQuietPrimitive o s t → IsMarkedCore o s → IsCore o t.log t.history t.memory t.flights t.stage
quiet_core o s t (Tells e h) c = core_tells o s.log s.history s.memory s.flights s.stage e c.core h.writes_nothing h.passes h.flush h.asks_none
quiet_core o s t (Notes event h) c =
    core_notes o s.log s.history s.memory s.flights s.stage event c.core h.writes_nothing h.no_done h.no_issue h.other_calls (λ id a n asked same. absurd (h.no_answer id a n asked same))
quiet_core o s t (Takes table grows is_table) c = core_takes o s.log s.history s.memory s.flights s.stage table c.core grows is_table
quiet_core o s t (Adopts owed is h) c =
    subst (λ (x : Stage). IsCore o s.log s.history (with_owed s.memory owed) s.flights x) (sym is) (core_adopt o s.log s.history s.memory s.flights owed (at_stage o s Resting is c) h.still h.local)
quiet_core o s t (Marks more grows) c = c.core
quiet_core o s t (Answers h) c = core_answer o s.log s.history s.memory s.flights h.flights s.stage h.pass h.call h.entry h.number c.core h.owes h.put h.once

pub quiet_marks : (o : Opening) (s t : State) → IsQuietPrimitive o s t → IsMarkedCore o s → MarksHold o t.log t.history t.memory t.marked
quiet_marks o s t (Tells e h) c = marks_quiet o s.log s.history s.memory s.marked e c.core.holds.apart h.writes_nothing c.clean_pages
quiet_marks o s t (Notes event h) c =
    marks_entry o s.log s.history s.memory s.marked (entry_now s.log event) c.core.holds refl (λ b q given. no_ends o s.log s.history s.memory.discards.drops (entry_now s.log event) h.no_done b q) c.clean_pages
quiet_marks o s t (Takes table grows is_table) c = marks_table o s.log s.history s.memory s.marked table grows c.clean_pages
quiet_marks o s t (Adopts owed is h) c = marks_blocks o s.log s.history s.memory s.marked s.memory.fresh s.memory.born owed s.memory.pending (λ g known. known) c.clean_pages
quiet_marks o s t (Marks more grows) c = marks_more o (May o.before s.log) (IsClaimSettled o s.log s.history s.memory s.memory.discards.reach) s.memory.index s.marked more grows c.clean_pages
quiet_marks o s t (Answers h) c =
    marks_entry o s.log s.history s.memory s.marked (entry_now s.log (Reply h.call Fine)) c.core.holds refl (λ b q given. no_ends o s.log s.history s.memory.discards.drops (entry_now s.log (Reply h.call Fine)) (λ id same. absurd cc) b q) c.clean_pages

pub write_core : (o : Opening) (s t : State) → IsWritePrimitive o s t → IsMarkedCore o s → IsCore o t.log t.history t.memory t.flights t.stage
write_core o s t (Issues i h) c =
    let g = i.piece in
    core_issue o s.log s.history s.memory s.flights i.flights s.stage i.pass g.block g.storage g.call i.ticket g.first g.content g.event c.core i.may i.put i.issues h.local h.given h.same
write_core o s t (Issues_whole i w) c =
    let g = i.piece in
    core_issue_whole o s.log s.history s.memory w.pending s.flights i.flights s.stage i.pass g.block g.storage g.call i.ticket g.first g.content g.event c.core i.may i.put i.issues w.not_local w.none w.in_range w.given w.put w.whole
write_core o s t (Copies d w) c =
    core_copy o s.log s.history s.memory w.pending s.flights d.flights s.stage d.pass d.block d.storage d.ticket d.event c.core d.may.idle d.may.block d.may.ticket_new d.may.stage_new d.put d.issues w.not_local w.none w.in_range w.given w.put w.whole
write_core o s t (Drops h) c =
    let d = h.drop in
    core_drop o s.log s.history s.memory s.flights s.stage d.call d.first d.content d.chunk d.fresh d.stale d.owed d.discards c.core d.within d.writes d.discarded h.no_call h.no_block d.none_pending

pub write_marks : (o : Opening) (s t : State) → IsWritePrimitive o s t → IsMarkedCore o s → MarksHold o t.log t.history t.memory t.marked
write_marks o s t (Issues i h) c =
    let g = i.piece in
    let x = entry_now s.log (issue_of g) in
    marks_event o s.log (s.history ++ x ∷ []) s.memory s.marked g.event c.core.holds.apart
    (λ a v covers. let r = h.same.back a v covers in (g.storage, r.0, c.core.holds.facts.storage_one_to_one.within (o.layout.chunk_of g.block) g.storage h.given, r.2))
    (same_follows o s.log s.history s.memory g.call g.first g.content g.event g.block g.storage c.core.holds h.given h.same)
    (marks_entry o s.log s.history s.memory s.marked x c.core.holds refl (λ d q also. no_ends o s.log s.history s.memory.discards.drops x (λ call. no_done g.call call g.first g.content) d q) c.clean_pages)
write_marks o s t (Issues_whole i w) c =
    let g = i.piece in
    let x = entry_now s.log (issue_of g) in
    marks_blocks o (s.log ++ g.event ∷ []) (s.history ++ x ∷ []) s.memory s.marked s.memory.fresh s.memory.born s.memory.owed w.pending (λ d known. known)
    (marks_event o s.log (s.history ++ x ∷ []) s.memory s.marked g.event c.core.holds.apart
    (λ a v covers. let r = w.whole.back a v covers in (g.storage, r.0, c.core.holds.facts.storage_one_to_one.within (o.layout.chunk_of g.block) g.storage w.given, r.2))
    (issue_whole o s.log s.history s.memory w.pending g.call g.first g.content g.event g.block g.storage c.core.holds w.not_local w.none w.in_range w.given w.put w.whole).2
    (marks_entry o s.log s.history s.memory s.marked x c.core.holds refl (λ d q also. no_ends o s.log s.history s.memory.discards.drops x (λ call. no_done g.call call g.first g.content) d q) c.clean_pages))
write_marks o s t (Copies d w) c =
    marks_blocks o (s.log ++ d.event ∷ []) s.history s.memory s.marked s.memory.fresh s.memory.born s.memory.owed w.pending (λ g known. known)
    (marks_event o s.log s.history s.memory s.marked d.event c.core.holds.apart
    (λ a v covers. let r = w.whole.back a v covers in (d.storage, r.0, c.core.holds.facts.storage_one_to_one.within (o.layout.chunk_of d.block) d.storage w.given, r.2))
    (put_copy o s.log s.history s.memory w.pending d.event d.block d.storage c.core.holds w.not_local w.none w.in_range w.given w.put w.whole).1 c.clean_pages)
write_marks o s t (Drops h) c =
    let d = h.drop in
    marks_drop o s.log s.history s.memory s.marked s.flights s.stage d.call d.first d.content d.chunk d.fresh d.stale d.owed d.discards c.core d.within d.writes d.discarded h.no_call h.no_block d.none_pending c.clean_pages

pub end_core : (o : Opening) (s t : State) → IsEndPrimitive o s t → IsMarkedCore o s → IsCore o t.log t.history t.memory t.flights t.stage
end_core o s t (Ends_local e owed fresh w) c =
    core_done o s.log s.history s.memory owed s.flights e.flights s.stage e.pass e.block e.entry e.number e.call e.ticket c.core e.in_flight e.put fresh w.still w.only w.logged
end_core o s t (Ends_whole e owed at w l) c =
    core_done_whole o s.log s.history s.memory l.fresh l.born owed l.pending s.flights e.flights s.stage e.pass e.block e.entry e.number e.call e.ticket c.core e.in_flight e.put at l.put_fresh l.put_born l.put_pending w.still w.only w.logged
end_core o s t (Fails e) c = core_broke o s.log s.history s.memory s.flights e.flights s.stage e.pass e.block e.entry e.number e.call e.ticket c.core e.in_flight e.put
end_core o s t (Fails_whole e pending put) c =
    core_broke_whole o s.log s.history s.memory pending s.flights e.flights s.stage e.pass e.block e.entry e.number e.call e.ticket c.core e.in_flight e.put put
end_core o s t (Copied d l) c =
    core_copied o s.log s.history s.memory l.fresh l.born l.pending s.flights d.flights s.stage d.pass d.block d.number d.ticket c.core d.in_flight d.put l.put_fresh l.put_born l.put_pending
end_core o s t (Copy_fails d pending put) c = core_copy_broke o s.log s.history s.memory pending s.flights d.flights s.stage d.pass d.block d.number d.ticket c.core d.in_flight d.put put

still_local : (old new : ℕ → Bool) (b : ℕ) → IsUpdated old new b true → (c : ℕ) → old c ≡ true → new c ≡ true
still_local old new b put c is = elim (cases_eq c b) [ inl same ↦ subst (λ (y : ℕ). new y ≡ true) (sym same) put.same | inr other ↦ put.other c other ∙ is ]

-- after the end of a pass's write, for the store and then for the guest
marks_done : (o : Opening) (s : State) (e : PieceEnd s) → IsMarkedCore o s → MarksHold o (s.log ++ Done e.ticket ∷ []) (s.history ++ entry_now (s.log ++ Done e.ticket ∷ []) (Done e.call) ∷ []) s.memory s.marked
marks_done o s e c =
    let writing : FlightHolds o s.log s.history s.memory (Writing e.block e.entry e.number e.call e.ticket) = subst (λ (g : Flight). FlightHolds o s.log s.history s.memory g) e.in_flight (c.core.in_flight.each e.pass) in
    let holds = quiet_event o s.log s.history s.memory (Done e.ticket) (λ a v covers. covers) c.core.holds in
    marks_entry o (s.log ++ Done e.ticket ∷ []) s.history s.memory s.marked (entry_now (s.log ++ Done e.ticket ∷ []) (Done e.call)) holds refl (writing_mirrored o s.log s.history s.memory e.block e.call e.ticket e.entry e.number writing.0 holds)
    (marks_quiet o s.log s.history s.memory s.marked (Done e.ticket) c.core.holds.apart (λ a v covers. covers) c.clean_pages)

marks_broke : (o : Opening) (s : State) (e : PieceEnd s) → IsMarkedCore o s → MarksHold o (s.log ++ Broke e.ticket ∷ []) (s.history ++ entry_now (s.log ++ Broke e.ticket ∷ []) (Broke e.call) ∷ []) s.memory s.marked
marks_broke o s e c =
    let log = s.log ++ Broke e.ticket ∷ [] in
    let x = entry_now log (Broke e.call) in
    marks_entry o log s.history s.memory s.marked x (quiet_event o s.log s.history s.memory (Broke e.ticket) (λ a v covers. covers) c.core.holds) refl
    (λ b q given. no_ends o log s.history s.memory.discards.drops x (λ id same. absurd cc) b q)
    (marks_quiet o s.log s.history s.memory s.marked (Broke e.ticket) c.core.holds.apart (λ a v covers. covers) c.clean_pages)

pub end_marks : (o : Opening) (s t : State) → IsEndPrimitive o s t → IsMarkedCore o s → MarksHold o t.log t.history t.memory t.marked
end_marks o s t (Ends_local e owed fresh w) c =
    marks_blocks o (s.log ++ Done e.ticket ∷ []) (s.history ++ entry_now (s.log ++ Done e.ticket ∷ []) (Done e.call) ∷ []) s.memory s.marked s.memory.fresh s.memory.born owed s.memory.pending (λ g known. known) (marks_done o s e c)
end_marks o s t (Ends_whole e owed at w l) c =
    marks_blocks o (s.log ++ Done e.ticket ∷ []) (s.history ++ entry_now (s.log ++ Done e.ticket ∷ []) (Done e.call) ∷ []) s.memory s.marked l.fresh l.born owed l.pending (still_local s.memory.fresh l.fresh e.block l.put_fresh) (marks_done o s e c)
end_marks o s t (Fails e) c =
    marks_blocks o (s.log ++ Broke e.ticket ∷ []) (s.history ++ entry_now (s.log ++ Broke e.ticket ∷ []) (Broke e.call) ∷ []) s.memory s.marked s.memory.fresh s.memory.born s.memory.owed s.memory.pending (λ g known. known) (marks_broke o s e c)
end_marks o s t (Fails_whole e pending put) c =
    marks_blocks o (s.log ++ Broke e.ticket ∷ []) (s.history ++ entry_now (s.log ++ Broke e.ticket ∷ []) (Broke e.call) ∷ []) s.memory s.marked s.memory.fresh s.memory.born s.memory.owed pending (λ g known. known) (marks_broke o s e c)
end_marks o s t (Copied d l) c =
    marks_blocks o (s.log ++ Done d.ticket ∷ []) s.history s.memory s.marked l.fresh l.born s.memory.owed l.pending (still_local s.memory.fresh l.fresh d.block l.put_fresh)
    (marks_quiet o s.log s.history s.memory s.marked (Done d.ticket) c.core.holds.apart (λ a v covers. covers) c.clean_pages)
end_marks o s t (Copy_fails d pending put) c =
    marks_blocks o (s.log ++ Broke d.ticket ∷ []) s.history s.memory s.marked s.memory.fresh s.memory.born s.memory.owed pending (λ g known. known)
    (marks_quiet o s.log s.history s.memory s.marked (Broke d.ticket) c.core.holds.apart (λ a v covers. covers) c.clean_pages)
