use Rattle.vd_crash.proofs.primitives.Using.{kept_background, kept_zeros, kept_unwritten, kept_local, kept_wanted, kept_recycle, kept_lower_tracked}
use Rattle.vd_crash.proofs.primitives.what_is_kept.Goals as goal

pub returns : goal.returns
returns c = record { background = kept_background; zeros = kept_zeros; unwritten = kept_unwritten; local = kept_local; wanted = kept_wanted; same_tracked = kept_recycle; lower_tracked = kept_lower_tracked }
