-- Each entry of the other history comes behind those that were taken over, as its continuation.
use Rattle.std.proofs.Common.{ℕ, ◌+◌, ◌<◌, ◌≤◌, ◌^◌, List, ◌++◌, length, take, ap, sym, ◌∙◌, subst, arith}
use Rattle.std.specs.Prelude.{slice_get, map}
use Rattle.std.proofs.lemmas.List.{take_all}
use Rattle.vd_law.specs.declared.entry.CallId.{CallId}
use Rattle.vd_law.specs.Entries.{Entry, entry_of, call_of, past}
use Rattle.vd_law.specs.Calls.{last_call}
use Rattle.vd_law.specs.Logs.{content_of, IsShort}
use Rattle.vd_law.specs.Histories.{HistoryState, IsRising, last_number}
use Rattle.vd_law.specs.Contents.{could, may}
use Rattle.vd_law.specs.Rules.{IsLegal}
use Rattle.vd_law.specs.Joining.{raised_entry}
use Rattle.vd_log.proofs.JoinLegal.{legal-joined, could-at, may-at}
use Rattle.vd_log.proofs.JoinSteps.{count_before, content-raised, sectors_more, sectors-le, later-more, entries_more, numbers_more}
use Rattle.vd_log.proofs.history.History.join.Goals as goal
use Rattle.vd_lists.proofs.Elements.{all_at_place}

pub raised-requires : goal.raised-requires
raised-requires c =
    let old = c.args.self.now.log.entries in let next = c.args.next.now.log.entries in let e = entry_of c.event-event.result in
    let at = ap (λ (h : HistoryState). slice_get h.log.entries c.loop-i.i) (sym c.next.view_is) ∙ c.event-event.ensures in
    let fits = all_at_place (λ (e : Entry). last_call (past old) (call_of e).pass + (call_of e).call < 2 ^ 64) next c.loop-i.i e c.requires.calls at in
    let by = count_before old _ c.self-in-loop-i.inside.log.entries c.len-before.result c.call_of.result.pass (call_of e).pass c.last_call-by.result c.last_call-by.ensures
    (ap (λ (h : HistoryState). h.log.entries) c.self-in-loop-i.view_is ∙ c.loop-i.invariant.entries)
    (c.len-before.ensures.count ∙ ap (λ (h : HistoryState). length h.log.entries) c.self.view_is)
    (ap (λ (id : CallId). id.pass) c.call_of.ensures) in
    omega (arith, fits, by)

pub add-requires-clause-short : goal.add-requires-clause-short
add-requires-clause-short c =
    let old = c.args.self.now.log.entries in let e = entry_of c.event-event.result in
    let calls : ℕ → ℕ = λ pass. last_call (past old) pass in
    let by = count_before old _ c.self-in-loop-i.inside.log.entries c.len-before.result c.call_of.result.pass (call_of e).pass c.last_call-by.result c.last_call-by.ensures
    (ap (λ (h : HistoryState). h.log.entries) c.self-in-loop-i.view_is ∙ c.loop-i.invariant.entries)
    (c.len-before.ensures.count ∙ ap (λ (h : HistoryState). length h.log.entries) c.self.view_is)
    (ap (λ (id : CallId). id.pass) c.call_of.ensures) in
    let size = ap (λ (x : Entry). length (content_of x)) (c.raised.ensures calls (sym by)) ∙ ap length (content-raised calls e) in
    omega (arith, size, all_at_place IsShort c.next.inside.log.entries c.loop-i.i e c.next.invariant.short c.event-event.ensures)

pub add-requires-clause-sectors : goal.add-requires-clause-sectors
add-requires-clause-sectors c =
    let old = c.args.self.now.log.entries in let next = c.args.next.now.log.entries in let e = entry_of c.event-event.result in
    let calls : ℕ → ℕ = λ pass. last_call (past old) pass in
    let at = ap (λ (h : HistoryState). slice_get h.log.entries c.loop-i.i) (sym c.next.view_is) ∙ c.event-event.ensures in
    let by = count_before old _ c.self-in-loop-i.inside.log.entries c.len-before.result c.call_of.result.pass (call_of e).pass c.last_call-by.result c.last_call-by.ensures
    (ap (λ (h : HistoryState). h.log.entries) c.self-in-loop-i.view_is ∙ c.loop-i.invariant.entries)
    (c.len-before.ensures.count ∙ ap (λ (h : HistoryState). length h.log.entries) c.self.view_is)
    (ap (λ (id : CallId). id.pass) c.call_of.ensures) in
    let is = c.raised.ensures calls (sym by) in
    let size = ap (λ (x : Entry). length (content_of x)) is ∙ ap length (content-raised calls e) in
    omega (arith, size, sectors_more next c.loop-i.i e at, sectors-le next (c.loop-i.i + 1), c.loop-i.invariant.sectors, c.requires.sectors)

pub add-requires-clause-later : goal.add-requires-clause-later
add-requires-clause-later c =
    let first = c.args.self.now in let next = c.args.next.now in
    let rising = subst (λ (h : HistoryState). IsRising h.opened h.numbers) c.next.view_is c.next.invariant.rising in
    let same = ap (λ (d : ℕ). last_number d c.loop-i.self.numbers) c.loop-i.invariant.opened ∙ ap (last_number first.opened) c.loop-i.invariant.numbers in
    omega (arith, same, later-more first.opened next.opened first.numbers next.numbers c.loop-i.i c.at.result c.requires.later rising c.at.ensures)

pub loop-i-preserved : goal.loop-i-preserved
loop-i-preserved c =
    let old = c.args.self.now.log.entries in let next = c.args.next.now.log.entries in let e = entry_of c.event-event.result in
    let calls : ℕ → ℕ = λ pass. last_call (past old) pass in
    let at = ap (λ (h : HistoryState). slice_get h.log.entries c.loop-i.i) (sym c.next.view_is) ∙ c.event-event.ensures in
    let by = count_before old _ c.self-in-loop-i.inside.log.entries c.len-before.result c.call_of.result.pass (call_of e).pass c.last_call-by.result c.last_call-by.ensures
    (ap (λ (h : HistoryState). h.log.entries) c.self-in-loop-i.view_is ∙ c.loop-i.invariant.entries)
    (c.len-before.ensures.count ∙ ap (λ (h : HistoryState). length h.log.entries) c.self.view_is)
    (ap (λ (id : CallId). id.pass) c.call_of.ensures) in
    let is = c.raised.ensures calls (sym by) in
    let size = ap (λ (x : Entry). length (content_of x)) is ∙ ap length (content-raised calls e) in
    record {
      entries = entries_more calls old next c.loop-i.self.log.entries c.add.new.self.log.entries c.loop-i.i e (entry_of c.raised.result) at is c.loop-i.invariant.entries c.add.ensures.entries;
      numbers = numbers_more c.args.self.now.numbers c.args.next.now.numbers c.loop-i.self.numbers c.add.new.self.numbers c.loop-i.i c.at.result c.at.ensures c.loop-i.invariant.numbers c.add.ensures.numbers;
      opened = c.add.ensures.opened ∙ c.loop-i.invariant.opened;
      events = omega (arith, c.add.ensures.takes.events, c.loop-i.invariant.events);
      sectors = omega (arith, size, sectors_more next c.loop-i.i e at, c.add.ensures.takes.sectors, c.loop-i.invariant.sectors);
    }

pub returns-clause-legal : goal.returns-clause-legal
returns-clause-legal c = λ start legal quiet goes_on.
    let old = c.args.self.now.log.entries in let next = c.args.next.now.log.entries in
    let all : length next ≤ c.loop-i.i = omega (arith, c.len-i-end.ensures.count, ap (λ (h : HistoryState). length h.log.entries) c.next.view_is, c.loop-i-test.false) in
    let entries = c.loop-i.invariant.entries ∙ ap (λ (es : List Entry). old ++ map (raised_entry (λ pass. last_call (past old) pass)) es) (take_all c.loop-i.i next all) in
    subst (IsLegal start) (sym entries) (legal-joined start old next legal quiet goes_on)

pub returns-clause-could : goal.returns-clause-could
returns-clause-could c = λ start n s inside legal quiet.
    let old = c.args.self.now.log.entries in let next = c.args.next.now.log.entries in
    let all : length next ≤ c.loop-i.i = omega (arith, c.len-i-end.ensures.count, ap (λ (h : HistoryState). length h.log.entries) c.next.view_is, c.loop-i-test.false) in
    let entries = c.loop-i.invariant.entries ∙ ap (λ (es : List Entry). old ++ map (raised_entry (λ pass. last_call (past old) pass)) es) (take_all c.loop-i.i next all) in
    ap (λ (es : List Entry). could start (take (length old + n) es) s) entries ∙ could-at start old next n s inside legal quiet

pub returns-clause-may : goal.returns-clause-may
returns-clause-may c = λ start n s inside legal quiet goes_on.
    let old = c.args.self.now.log.entries in let next = c.args.next.now.log.entries in
    let all : length next ≤ c.loop-i.i = omega (arith, c.len-i-end.ensures.count, ap (λ (h : HistoryState). length h.log.entries) c.next.view_is, c.loop-i-test.false) in
    let entries = c.loop-i.invariant.entries ∙ ap (λ (es : List Entry). old ++ map (raised_entry (λ pass. last_call (past old) pass)) es) (take_all c.loop-i.i next all) in
    ap (λ (es : List Entry). may start (take (length old + n) es) s) entries ∙ may-at start old next n s inside legal quiet goes_on
