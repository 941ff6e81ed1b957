-- Moving the members of a set, one by one.
use Rattle.std.proofs.Common.{◌≡◌, ℕ, ◌<◌, Bool, true, false, List, length, get_or, set, replicate, sym, refl, ap, ◌∙◌, arith, length-set}
use Rattle.std.specs.List.{slice_get}
use Rattle.std.proofs.lemmas.Option.{get_or_from_slice_get, slice_get_within}
use Rattle.vd_bits.specs.Marks.{IsLowest, NoneFrom, count_true}
use Rattle.vd_bits.proofs.SetLaws.{count-set_false}
use Rattle.vd_keeper.specs.Entries.{union_of}
use Rattle.vd_keeper.proofs.Rows.{moved, is-nothing, either-nothing}

-- some members are moved
pub record IsJoining (from0 into0 from into : List Bool) : Type 0 where
  pub size : length into ≡ length from
  pub same : length from ≡ length from0
  pub both : union_of into from ≡ union_of into0 from0

-- a lowest member is inside
pub lowest-inside : (marked : List Bool) (from at : ℕ) → IsLowest marked from at → at < length marked
lowest-inside marked from at lowest = slice_get_within marked at true lowest.is_marked

pub fewer : (marked : List Bool) (from at : ℕ) → IsLowest marked from at → count_true (set marked at false) < count_true marked
fewer marked from at lowest = omega (arith, count-set_false marked at (lowest-inside marked from at lowest) lowest.is_marked)

pub none-left : (marked : List Bool) (n : ℕ) → NoneFrom marked 0 → length marked ≡ n → marked ≡ replicate n false
none-left marked n none size = is-nothing marked n size (λ i h. get_or_from_slice_get marked i false false (none i (omega arith) (omega arith)))

pub joined-one : (from0 into0 from into : List Bool) (at : ℕ) → IsJoining from0 into0 from into → IsLowest from 0 at → IsJoining from0 into0 (set from at false) (set into at true)
joined-one from0 into0 from into at joining lowest = record {
  size = omega (arith, joining.size, length-set from at false, length-set into at true);
  same = omega (arith, joining.same, length-set from at false);
  both = moved into from at joining.size (get_or_from_slice_get from at true false lowest.is_marked) ∙ joining.both;
}

pub joined-all : (from0 into0 from into : List Bool) → IsJoining from0 into0 from into → NoneFrom from 0 → into ≡ union_of into0 from0
joined-all from0 into0 from into joining none =
    sym (either-nothing into (length from) joining.size) ∙ ap (λ (rest : List Bool). union_of into rest) (sym (none-left from (length from) none refl)) ∙ joining.both
