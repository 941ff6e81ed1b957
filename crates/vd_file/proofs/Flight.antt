-- Tickets that come and go.
use Rattle.std.proofs.Common.{◌≡◌, ◌+◌, ◌<◌, List, ◌∷◌, ◌++◌, length, refl, arith}
use Rattle.vd_device.specs.declared.ticket.Ticket.{Ticket}
use Rattle.vd_device.specs.Tickets.{Puts, Takes, IsInFlight}
use Rattle.std.specs.Prelude.{Bool, true, false, IsFalse, if◌then◌else◌}
use Rattle.vd_lists.proofs.Elements.{each_without, each_with}
use Rattle.vd_lists.proofs.Lists.{length_with}
use Rattle.vd_law.specs.declared.entry.Sector.{Sector}
use Rattle.vd_device.specs.declared.settled.Waited.{Waited}
use Rattle.vd_device.specs.declared.settled.Waited.TheVariants.{Done, Failed}
use Rattle.vd_device.specs.Calls.{Settles, settled_of}
use Rattle.vd_file.specs.Standing.{FileState, ReadsInside, AreFlying}

pub put : (s s' : FileState) (t : Ticket) → s'.flying ≡ s.flying + 1 → s'.sectors ≡ s.sectors → ReadsInside s.sectors t → Puts t (AreFlying s) (AreFlying s')
put s s' t more same it others all among flying = record {
  many = rw among.with_it (let o : s.flying ≡ length (among.before ++ among.after) = rw (← among.without) flying.many in omega (arith, length_with among.before among.after t));
  inside = rw (same, among.with_it) (each_with _ among.before among.after t it (rw among.without at flying.inside));
}

pub taken : (s s' : FileState) (t : Ticket) → s'.flying + 1 ≡ s.flying → s'.sectors ≡ s.sectors → Takes t (AreFlying s) (AreFlying s')
taken s s' t fewer same others all among flying = record {
  many = rw among.without (let a : s.flying ≡ length (among.before ++ t ∷ among.after) = rw (← among.with_it) flying.many in omega (arith, length_with among.before among.after t));
  inside = rw (same, among.without) (each_without _ among.before among.after t (rw among.with_it at flying.inside)).1;
}

pub known : (s : FileState) (t : Ticket) → IsInFlight (AreFlying s) t → ReadsInside s.sectors t × (0 < s.flying)
known s t (others, all, among, flying) =
    let a : s.flying ≡ length (among.before ++ t ∷ among.after) = rw (← among.with_it) flying.many in
    ((each_without _ among.before among.after t (rw among.with_it at flying.inside)).0, omega (arith, length_with among.before among.after t))

-- a wait that ends the ticket, and gives nothing where it failed
pub settles : (is_done : Bool) (answer : Waited) (t : Ticket) (out out' : List Sector) (old new : List Ticket → Type 0)
    → answer ≡ (if is_done then Done else Failed t.number) → (IsFalse is_done → out' ≡ out) → Takes t old new → Settles (settled_of answer) t out out' old new
settles true answer t out out' old new e unread takes = rw e takes
settles false answer t out out' old new e unread takes = rw e (refl, unread refl, takes)

-- whether a flush failed is nothing to the tickets
pub takes_on : (s s' : FileState) (unsure : Bool) (t : Ticket) → Takes t (AreFlying (record s { unsure = unsure })) (AreFlying s') → Takes t (AreFlying s) (AreFlying s')
takes_on s s' unsure t takes others all among flying = takes others all among (record { many = flying.many; inside = flying.inside })
