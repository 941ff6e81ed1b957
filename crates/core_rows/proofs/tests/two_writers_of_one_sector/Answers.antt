use Rattle.std.proofs.Common.{◌∙◌}
use Rattle.core_rows.proofs.Runs.{carried, same-said}
use Rattle.core_rows.proofs.tests.two_writers_of_one_sector.Goals as goal

pub kept_out-by-requires-2 : goal.kept_out-by-requires-2
kept_out-by-requires-2 g c = record { asked = carried c.asks_write-2.new.core.passes c.kept_out-by.new.core.passes 2 (c.kept_out-by.ensures.others 2 (λ e. cc)) (c.asks_write-2.ensures.asked c.if-not-asks_write-2.false) }

pub end_write-requires-clause-busy : goal.end_write-requires-clause-busy
end_write-requires-clause-busy g c = carried c.kept_out-by.new.core.passes c.kept_out-by-2.new.core.passes 1 (c.kept_out-by-2.ensures.others 1 (λ e. cc)) c.kept_out-by.ensures.busy

pub end_write-requires-clause-asked : goal.end_write-requires-clause-asked
end_write-requires-clause-asked g c =
    same-said 1 _ (c.kept_out-by-2.ensures.history ∙ c.kept_out-by.ensures.history) (c.asks_write-2.ensures.said 1 _ (λ e. cc) (c.asks_write.ensures.content c.if-not-asks_write.false))

pub end_write-requires-2-clause-busy : goal.end_write-requires-2-clause-busy
end_write-requires-2-clause-busy g c = carried c.kept_out-by-2.new.core.passes c.end_write.new.core.passes 2 (c.end_write.ensures.others 2 (λ e. cc)) c.kept_out-by-2.ensures.busy

pub end_write-requires-2-clause-asked : goal.end_write-requires-2-clause-asked
end_write-requires-2-clause-asked g c =
    c.end_write.ensures.asked 2 _ (same-said 2 _ (c.kept_out-by-2.ensures.history ∙ c.kept_out-by.ensures.history) (c.asks_write-2.ensures.content c.if-not-asks_write-2.false))

pub read-requires-clause-idle : goal.read-requires-clause-idle
read-requires-clause-idle g c = carried c.end_write.new.core.passes c.end_write-2.new.core.passes 1 (c.end_write-2.ensures.others 1 (λ e. cc)) c.in-Some.ensures.idle
