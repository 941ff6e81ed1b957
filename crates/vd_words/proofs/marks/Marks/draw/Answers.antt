use Rattle.std.proofs.Common.{rules, arith, ◌≡◌, sym, ap, ◌∙◌, subst, false}
use Rattle.vd_words.specs.Counts.{count_past}
use Rattle.vd_words.proofs.Keeps.{draws}
use Rattle.vd_words.proofs.marks.Marks.draw.Goals as goal

pub fetch_add-number-requires : goal.fetch_add-number-requires
fetch_add-number-requires c =
    let shared = c.deref.result.now.shared in
    let key = ap (λ t. t.shared.key) c.deref.ensures ∙ c.self.invariant.0 in
    let words = ap (λ t. t.shared.table_id.words) c.deref.ensures ∙ c.self.invariant.1 in
    let limit = ap (λ p. p.drawn) key in
    let scans = ap (λ p. p.scans) key in
    let unended : c.scan.inside.ended ≡ false = ap (λ v. v.ended) c.scan.view_is ∙ c.requires.unended in
    let same : c.scan.inside.limit ≡ shared.key.drawn = ap (λ v. v.limit) c.scan.view_is ∙ c.requires.own.1 ∙ sym (ap (λ v. v.drawn) c.self.view_is) ∙ sym limit in
    let none_past = c.scan.invariant.3 unended in (
      search rules,
      omega arith,
      draws shared.key shared.table_id.slots c.scan.inside.seat.id c.scan.inside.seat.me (omega arith) (omega arith)
          (subst (λ k. count_past k c.scan.inside.seat.me.0.drawn ≡ 0) same none_past),
    )
