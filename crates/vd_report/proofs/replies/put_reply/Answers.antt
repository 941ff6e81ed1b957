use Rattle.std.proofs.Common.{◌∙◌, sym, ◌≡◌, Some, take}
use Rattle.std.specs.List.{flat_map, slice_range}
use Rattle.vd_law.specs.Entries.{Reply, past}
use Rattle.vd_report.specs.Replies.{seen_in, seen_since_ask}
use Rattle.vd_report.proofs.Guests.{reply_text-own}
use Rattle.vd_report.proofs.replies.put_reply.Goals as goal

pub returns-in-Reply-clause-writes : goal.returns-in-Reply-clause-writes
returns-in-Reply-clause-writes g c = λ told e at.
    let there : Some e ≡ Some (Reply c.in-Reply.id c.in-Reply.answer) = sym at ∙ c.in-Reply.ensures in
    let is : e ≡ Reply c.in-Reply.id c.in-Reply.answer = cc in
    let seen : flat_map (seen_in c.in-Reply.id.pass) (slice_range c.args.log.now.entries c.args.asked c.args.at) ≡ seen_since_ask (past (take c.args.at c.args.log.now.entries)) c.args.guest
    = rw c.if-id-guest.true c.requires.seen in
    rw (reply_text-own (past (take c.args.at c.args.log.now.entries)) e c.in-Reply.id c.in-Reply.answer c.args.guest _ is c.if-id-guest.true seen) (c.put_call.ensures.writes told)
