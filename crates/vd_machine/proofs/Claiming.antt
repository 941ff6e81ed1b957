-- The chunks of a write's range, and the room that a request needs.
use Rattle.std.proofs.Common.{◌≢◌, ℕ, suc, ◌+◌, ◌-◌, ◌*◌, ◌/◌, ◌<◌, ◌≤◌, length, refl, sym, ◌∙◌, ap, arith, Some}
use Rattle.std.proofs.Math.Nat.{div-mul-le_self, add-div_right, mul-suc, mul_comm}
use Rattle.std.proofs.lemmas.Nat.{le-div}
use Rattle.vd_law.specs.Entries.{Asked, Read, Write, Flush}
use Rattle.vd_law.specs.Logs.{asked_content}
use Rattle.vd_law.specs.Rules.{IsInside}
use Rattle.vd_table.specs.Tables.{TableState, Has}
use Rattle.vd_passes.specs.declared.shape.Shape.{Shape}
use Rattle.vd_passes.specs.Places.{place_of, KeepsPlaces}
use Rattle.vd_passes.proofs.Places.{block-below}
use Rattle.vd_passes.proofs.PlacesGiven.{place-some, has-place, place-from}
use Rattle.vd_passes.proofs.Asking.{IsPlaced}
use Rattle.vd_machine.specs.Asking.{run_from, run_count, HasSize}
use Rattle.vd_law.specs.Needs.{request_room, sectors_asked}

-- what a request needs at the least: its Ask and its Reply, and the sectors that the Ask tells
pub need-events : (block : ℕ) (r : Asked) → 2 ≤ (request_room block r).events
need-events block (Read first count) = omega arith
need-events block (Write first content) = omega arith
need-events block Flush = omega arith

pub need-sectors : (block : ℕ) (r : Asked) → length (asked_content r) ≤ (request_room block r).sectors
need-sectors block (Read first count) = omega arith
need-sectors block (Write first content) = omega arith
need-sectors block Flush = omega arith

-- a request that isn't a flush has sectors
pub some-sectors : (r : Asked) → HasSize r → r ≢ Flush → 0 < sectors_asked r
some-sectors (Read first count) size other = size.0
some-sectors (Write first content) size other = size.0
some-sectors Flush size other = absurd (other refl)

-- a range in a disk lies in a greater one, and is no longer
pub inside-more : (r : Asked) (size more : ℕ) → size ≤ more → IsInside size r → IsInside more r
inside-more (Read first count) size more less inside = omega arith
inside-more (Write first content) size more less inside = omega arith
inside-more Flush size more less inside = tt

pub inside-fits : (r : Asked) (size : ℕ) → IsInside size r → sectors_asked r ≤ size
inside-fits (Read first count) size inside = omega arith
inside-fits (Write first content) size inside = omega arith
inside-fits Flush size inside = omega arith

pub quotient-rises : (k m n : ℕ) → 0 < k → m ≤ n → m / k ≤ n / k
quotient-rises k m n some less = le-div (m / k) n k some (let h = div-mul-le_self m k in omega arith)

pub quotient-near : (k m n : ℕ) → 0 < k → m ≤ n + 1 → m / k ≤ n / k + 1
quotient-near k m n some near = let h = quotient-rises k m (n + k) some (omega arith) in let e = add-div_right n some in omega arith

-- The chunks of a range in the disk are chunks of the table.
pub run-inside : (shape : Shape) (r : Asked) (n : ℕ) → ((b : ℕ) → b < shape.blocks → b / shape.chunk < n) → 0 < shape.block → 0 < shape.chunk → HasSize r → IsInside (shape.block * shape.blocks) r
    → run_from shape r + run_count shape r ≤ n
run-inside shape (Read first count) n chunks some_block some_chunk size inside = omega arith
run-inside shape (Write first content) n chunks some_block some_chunk size inside =
    let some = size.0 in
    let last = chunks ((first + length content - 1) / shape.block) (block-below shape.block shape.blocks (first + length content - 1) some_block (omega arith)) in
    let rises = quotient-rises shape.chunk (first / shape.block) ((first + length content - 1) / shape.block) some_chunk (quotient-rises shape.block first (first + length content - 1) some_block (omega arith)) in
    omega arith
run-inside shape Flush n chunks some_block some_chunk size inside = omega arith

-- Where each of them has storage, each block of the range has a place.
pub run-placed : (shape : Shape) (table : TableState) (r : Asked) → 0 < shape.block → 0 < shape.chunk → ((chunk : ℕ) → run_from shape r ≤ chunk → chunk < run_from shape r + run_count shape r → (p : ℕ) × Has table chunk p)
    → IsPlaced shape.block (place_of shape table.chunks) r
run-placed shape table (Read first count) some_block some_chunk all = tt
run-placed shape table (Write first content) some_block some_chunk all = λ b from to.
    let next = mul-suc shape.block b in let swap = mul_comm shape.block b in
    let low : first / shape.block < suc b = block-below shape.block (suc b) first some_block (omega arith) in
    let high : b ≤ (first + length content - 1) / shape.block = le-div b (first + length content - 1) shape.block some_block (omega arith) in
    let above = quotient-rises shape.chunk (first / shape.block) b some_chunk (omega arith) in
    let below = quotient-rises shape.chunk b ((first + length content - 1) / shape.block) some_chunk high in
    let has = all (b / shape.chunk) above (omega arith) in
    has-place shape table.chunks b has.0 has.1
run-placed shape table Flush some_block some_chunk all = tt

-- Blocks keep their places where chunks keep their storage.
pub claim-extends : (shape : Shape) (table table' : TableState) → ((chunk p : ℕ) → Has table chunk p → Has table' chunk p) → KeepsPlaces (place_of shape table.chunks) (place_of shape table'.chunks)
claim-extends shape table table' kept b x at =
    let from = place-from shape table.chunks b x at in
    place-some shape table'.chunks b from.0 (kept (b / shape.chunk) from.0 from.1) ∙ ap Some (sym from.2)
