-- How many replies of each kind the guests had.
use Rattle.std.specs.Prelude.{ℕ, ◌≡◌, ◌+◌, ◌-◌, ◌^◌, ◌<◌, Bool, if◌then◌else◌, List}
use Rattle.vd_law.specs.Entries.{Entry}
use Rattle.vd_law.specs.declared.entry.Answer.{Answer}
use Rattle.vd_law.specs.Rules.{is_ok}
use Rattle.vd_report.specs.declared.sum.Sum.{Sum}
use Rattle.vd_report.specs.Replies.{is_full, is_fault, is_worn, replies}

abbrev pub rise_if : Bool → ℕ
rise_if b = if b then 1 else 0

-- the sum counts the replies of these entries
pub record SumsReplies (guests : ℕ) (entries : List Entry) (sum : Sum) : Type 0 where
  pub ok : sum.ok ≡ replies is_ok guests entries
  pub full : sum.full ≡ replies is_full guests entries
  pub fault : sum.fault ≡ replies is_fault guests entries
  pub worn : sum.worn ≡ replies is_worn guests entries

-- each count can rise
pub record CanRise (sum : Sum) : Type 0 where
  pub ok : sum.ok < 2 ^ 64 - 1
  pub full : sum.full < 2 ^ 64 - 1
  pub fault : sum.fault < 2 ^ 64 - 1
  pub worn : sum.worn < 2 ^ 64 - 1

-- the count of each kind rises by one where it is of that kind
pub record CountsMore (sum next : Sum) (kind : (Answer → Bool) → Bool) : Type 0 where
  pub ok : next.ok ≡ sum.ok + rise_if (kind is_ok)
  pub full : next.full ≡ sum.full + rise_if (kind is_full)
  pub fault : next.fault ≡ sum.fault + rise_if (kind is_fault)
  pub worn : next.worn ≡ sum.worn + rise_if (kind is_worn)
