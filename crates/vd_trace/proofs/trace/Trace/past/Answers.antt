use Rattle.std.proofs.Common.{◌≡◌, List, find, nat_lt, ◌+◌, ◌∙◌, ap, sym}
use Rattle.std.specs.Option.{option_map}
use Rattle.vd_trace.specs.declared.kept.Item.{Item}
use Rattle.vd_trace.specs.declared.kept.Shown.{Shown}
use Rattle.vd_trace.specs.Scripts.{asks_past, shows_past}
use Rattle.vd_trace.specs.Keeping.{end_in}
use Rattle.vd_trace.proofs.Requests.{items-past, lines-past}
use Rattle.vd_trace.proofs.trace.Trace.past.Goals as goal

pub returns : goal.returns
returns c =
    let asks : c.items_past.result ≡ asks_past c.args.size c.args.self.now.asks = rw (← c.self.view_is)
    (c.items_past.ensures ∙ ap (λ (items : List Item). option_map (λ i. i.number) (find (λ i. nat_lt c.args.size (end_in i.work)) items)) c.as_slice.ensures.value
    ∙ sym (items-past c.self.inside.sectors.items c.self.inside.items.items c.args.size)) in
    let shows : c.lines_past.result ≡ shows_past c.args.size c.args.self.now.shows = rw (← c.self.view_is)
    (c.lines_past.ensures ∙ ap (λ (shows : List Shown). option_map (λ s. s.number) (find (λ s. nat_lt c.args.size (s.first + s.count)) shows)) c.as_slice-2.ensures.value
    ∙ sym (lines-past c.self.inside.shows.items c.args.size)) in
    rw (← asks, ← shows) c.or.ensures
