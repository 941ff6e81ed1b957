-- The log of a store in memory stays in order.
use Rattle.std.proofs.Common.{◌+◌, List, [], ◌∷◌, ◌++◌, Option, Some, None, length, sym, subst}
use Rattle.std.specs.Prelude.{slice_range}
use Rattle.vd_law.specs.declared.entry.Sector.{Sector}
use Rattle.vd_law.specs.Entries.{Entry, Past, past}
use Rattle.vd_law.specs.Rules.{Each, IsShown}
use Rattle.vd_law.proofs.Appending.{past-push}
use Rattle.vd_device.specs.declared.ticket.Ticket.{Ticket}
use Rattle.vd_device.specs.declared.ticket.Kind.{Kind}
use Rattle.vd_device.specs.declared.ticket.Kind.TheVariants.{Read, Write, Flush}
use Rattle.vd_device.specs.Calls.{done_entry, failed_entry}
use Rattle.vd_device.specs.Disks.{Disk, IsHonest}
use Rattle.vd_device.specs.Orders.{BeginsAlone, WritesInside, IsInOrder}
use Rattle.vd_faults.specs.declared.rule.Keep.{Keep}
use Rattle.vd_mem.specs.StoreState.{last_entry}
use Rattle.vd_mem.proofs.Sectors.{range-held}
use Rattle.vd_mem.proofs.Flying.{grown}

-- what one more entry has to keep
pub record Follows (d : Disk) (e : Entry) : Type 0 where
  pub alone : BeginsAlone (past d.log) e
  pub inside : WritesInside (length d.start) (past d.log) e
  pub shown : IsShown d.start (past d.log) e

each-push : (P : Past → Entry → Type 0) (log : List Entry) (e : Entry) → Each P (past log) → P (past log) e → Each P (past (log ++ e ∷ []))
each-push P log e before now = subst (Each P) (sym (past-push log e)) (before, now)

pub order-push : (d : Disk) (e : Entry) (held : List Sector) → IsInOrder d → Follows d e → IsInOrder (grown d e held)
order-push d e held order follows = record {
  alone = each-push BeginsAlone d.log e order.alone follows.alone;
  inside = each-push (WritesInside (length d.start)) d.log e order.inside follows.inside;
  shown = each-push (IsShown d.start) d.log e order.shown follows.shown;
}

-- The last entry of a ticket: a read is given what is held.

done-follows : (k : Kind) (d : Disk) (t : Ticket) → IsHonest d → Follows d (done_entry k t (slice_range d.held t.first (t.first + t.count)))
done-follows Read d t honest = record { alone = tt; inside = tt; shown = λ s v at. honest s v (range-held t.first t.count d.held s v at) }
done-follows Write d t honest = record { alone = tt; inside = tt; shown = tt }
done-follows Flush d t honest = record { alone = tt; inside = tt; shown = tt }

failed-follows : (k : Kind) (d : Disk) (t : Ticket) → Follows d (failed_entry k t)
failed-follows Read d t = record { alone = tt; inside = tt; shown = tt }
failed-follows Write d t = record { alone = tt; inside = tt; shown = tt }
failed-follows Flush d t = record { alone = tt; inside = tt; shown = tt }

pub last-follows : (failure : Option Keep) (d : Disk) (t : Ticket) → IsHonest d → Follows d (last_entry failure t d.held)
last-follows None d t honest = done-follows t.kind d t honest
last-follows (Some keep) d t honest = failed-follows t.kind d t
