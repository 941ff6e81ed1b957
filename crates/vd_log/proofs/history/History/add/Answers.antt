use Rattle.std.proofs.Common.{ℕ, ◌≤◌, List, [], ◌∷◌, ◌++◌, length, take, ap, sym, ◌∙◌, subst, arith, length-append}
use Rattle.std.specs.List.{All}
use Rattle.std.proofs.lemmas.List.Elements.{All-push}
use Rattle.vd_law.specs.Entries.{Entry, entry_of}
use Rattle.vd_law.specs.Logs.{IsShort}
use Rattle.vd_law.specs.Histories.{HistoryState, IsRising, last_number, count_up_to, entries_up_to}
use Rattle.vd_law.proofs.Numbers.{rising-push, entries-later}
use Rattle.vd_log.proofs.history.History.add.Goals as goal

pub invariant_of-self : goal.invariant_of-self
invariant_of-self c =
    let numbers_more = ap length c.append.ensures.numbers ∙ length-append c.self.inside.numbers.items (c.args.at ∷ []) in
    let entries_more = ap length c.add.ensures.entries ∙ length-append c.self.inside.log.entries (entry_of c.args.event ∷ []) in
    record {
      each = omega (arith, numbers_more, entries_more, c.self.invariant.each);
      short = subst (All IsShort) (sym c.add.ensures.entries) (All-push IsShort c.self.inside.log.entries (entry_of c.args.event) c.self.invariant.short c.requires.short);
      rising = subst (IsRising c.self.inside.opened) (sym c.append.ensures.numbers) (rising-push _ _ _ c.self.invariant.rising (subst (λ (h : HistoryState). last_number h.opened h.numbers ≤ c.args.at) (sym c.self.view_is) c.requires.later));
      reserved = omega (arith, numbers_more, c.add.ensures.events, c.append.ensures.room, c.self.invariant.reserved);
    }

pub returns-clause-earlier : goal.returns-clause-earlier
returns-clause-earlier c k later =
    let ns = c.self.inside.numbers.items in let es = c.self.inside.log.entries in let e = entry_of c.args.event in
    ap (λ (numbers : List ℕ). take (count_up_to k numbers) c.add.new.self.entries) c.append.ensures.numbers
    ∙ ap (λ (entries : List Entry). take (count_up_to k (ns ++ c.args.at ∷ [])) entries) c.add.ensures.entries
    ∙ entries-later k ns c.args.at es e c.self.invariant.each later
    ∙ ap (λ (h : HistoryState). entries_up_to k h) c.self.view_is
