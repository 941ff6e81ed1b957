use Rattle.std.proofs.Common.{refl, inl, inr, arith}
use Rattle.vd_machine.proofs.issuing.submit_piece.Goals as goal

pub returns-in_default : goal.returns-in_default
returns-in_default g c =
    let done = c.submit_write-in_default.ensures in let p = c.args.p.now in
    elim c.requires.phase [
      | inl held ↦ record {
        stored = c.args.part.now;
        buffer = p.buffer;
        after = refl;
        kind = done.ticket.kind_is;
        count = done.ticket.count_is;
        way = inl (held, refl, refl, (let from = c.requires.ready.read.piece.from in let first = done.ticket.first_is in omega (arith, from, first)));
        call = record { next = done.next; rises = done.rises; flight = done.flight; counts = done.counts; takes = done.takes };
      }
      | inr filled ↦ absurd (c.in_default.not-Filled filled)
    ]
