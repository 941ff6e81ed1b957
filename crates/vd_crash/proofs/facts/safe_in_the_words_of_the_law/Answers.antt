use Rattle.vd_crash.proofs.facts.CrashSafe.{crash_safe}
use Rattle.vd_crash.proofs.facts.safe_in_the_words_of_the_law.Goals as goal

pub returns : goal.returns
returns c = crash_safe
