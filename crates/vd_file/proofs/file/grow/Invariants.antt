use Rattle.std.proofs.Common.{◌≡◌, ◌≤◌, length, vec_capacity}
use Rattle.vd_file.proofs.file.grow.Given as goal

abbrev pub invariant-loop : goal.invariant-loop
invariant-loop l = (l.counter ≡ length l.room.items) × (vec_capacity l.initial.room ≤ vec_capacity l.room)
