use Rattle.std.proofs.Common.{◌≡◌, ℕ, ◌+◌, ◌*◌, ◌<◌, ◌≤◌, Bool, true, false, List, length, drop, sym, ap, ◌∙◌, refl, arith}
use Rattle.std.specs.Prelude.{◌&&◌, nat_le, slice_range}
use Rattle.std.proofs.lemmas.Bool.{and_left, and_right, lt-leb, le-leb}
use Rattle.std.proofs.lemmas.Slice.{between_to_end}
use Rattle.vd_format.specs.Numbers.{are_zeros}
use Rattle.vd_format.proofs.SlotReading.{record_facts-in, record_facts-none}
use Rattle.vd_format.proofs.journal.records.record_facts.Goals as goal
use Rattle.vd_format.proofs.journal.records.record_facts.Goals.{then-count-lt1-via-then-count-lt1, then-count-lt1-via-else-count-lt1+then-count-gt-MOST_FACTS, then-not-are_zeros-via-then-not-are_zeros, then-not-are_zeros-via-else-not-are_zeros+then-not-are_zeros-2}

-- the tests before the facts
tests : List ℕ → ℕ → Bool
tests bytes count = nat_le 1 count && nat_le count 24 && are_zeros (slice_range bytes 20 24) && are_zeros (drop (24 + 20 * count) bytes)

too_few : (bytes : List ℕ) (count : ℕ) → count < 1 → tests bytes count ≡ false
unfolding tests
too_few bytes count low = rw (lt-leb 1 count low) refl

too_many : (bytes : List ℕ) (count : ℕ) → 24 < count → tests bytes count ≡ false
unfolding tests
too_many bytes count high =
    let none : nat_le count 24 ≡ false = lt-leb count 24 high in
    and_left (nat_le 1 count && nat_le count 24 && are_zeros (slice_range bytes 20 24)) (are_zeros (drop (24 + 20 * count) bytes)) (and_left (nat_le 1 count && nat_le count 24) (are_zeros (slice_range bytes 20 24)) (and_right (nat_le 1 count) (nat_le count 24) none))

inner_bytes : (bytes : List ℕ) (count : ℕ) → are_zeros (slice_range bytes 20 24) ≡ false → tests bytes count ≡ false
unfolding tests
inner_bytes bytes count none =
    and_left (nat_le 1 count && nat_le count 24 && are_zeros (slice_range bytes 20 24)) (are_zeros (drop (24 + 20 * count) bytes)) (and_right (nat_le 1 count && nat_le count 24) (are_zeros (slice_range bytes 20 24)) none)

outer_bytes : (bytes : List ℕ) (count : ℕ) → are_zeros (drop (24 + 20 * count) bytes) ≡ false → tests bytes count ≡ false
unfolding tests
outer_bytes bytes count none = and_right (nat_le 1 count && nat_le count 24 && are_zeros (slice_range bytes 20 24)) (are_zeros (drop (24 + 20 * count) bytes)) none

all_pass : (bytes : List ℕ) (count : ℕ) → 1 ≤ count → count ≤ 24 → are_zeros (slice_range bytes 20 24) ≡ true → are_zeros (drop (24 + 20 * count) bytes) ≡ true → tests bytes count ≡ true
unfolding tests
all_pass bytes count low high inner outer = rw (le-leb 1 count low, le-leb count 24 high, inner, outer) refl

pub returns-then-count-lt1 : goal.returns-then-count-lt1
unfolding tests
returns-then-count-lt1 c =
    let bytes = c.args.bytes.now in
    let count = c.u32_at-count.result in
    elim c.then-count-lt1.branch [
      | then-count-lt1-via-then-count-lt1 w ↦ sym (record_facts-none c.args.shape.now bytes count (sym c.u32_at-count.ensures) (too_few bytes count (omega arith)))
      | then-count-lt1-via-else-count-lt1+then-count-gt-MOST_FACTS w ↦ sym (record_facts-none c.args.shape.now bytes count (sym c.u32_at-count.ensures) (too_many bytes count (omega arith)))
    ]

pub returns-then-not-are_zeros : goal.returns-then-not-are_zeros
unfolding tests
returns-then-not-are_zeros c =
    let bytes = c.args.bytes.now in
    let count = c.u32_at-count.result in
    elim c.then-not-are_zeros.branch [
      | then-not-are_zeros-via-then-not-are_zeros w ↦ sym (record_facts-none c.args.shape.now bytes count (sym c.u32_at-count.ensures) (inner_bytes bytes count (sym c.are_zeros.ensures ∙ w.if-not-are_zeros.true)))
      | then-not-are_zeros-via-else-not-are_zeros+then-not-are_zeros-2 w ↦ sym (record_facts-none c.args.shape.now bytes count (sym c.u32_at-count.ensures)
          (outer_bytes bytes count (ap are_zeros (sym (between_to_end bytes (24 + 20 * count) (length bytes) (omega arith))) ∙ sym w.are_zeros-else-not-are_zeros.ensures ∙ w.if-not-are_zeros-2.true)))
    ]

pub returns : goal.returns
unfolding tests
returns c =
    let bytes = c.args.bytes.now in
    let count = c.u32_at-count.result in
    let inner = sym c.are_zeros.ensures ∙ c.if-not-are_zeros.false in
    let outer = ap are_zeros (sym (between_to_end bytes (24 + 20 * count) (length bytes) (omega arith))) ∙ sym c.are_zeros-else-not-are_zeros.ensures ∙ c.if-not-are_zeros-2.false in
    c.read_facts.ensures ∙ sym (record_facts-in c.args.shape.now bytes count (sym c.u32_at-count.ensures) (all_pass bytes count (omega arith) (omega arith) inner outer))
