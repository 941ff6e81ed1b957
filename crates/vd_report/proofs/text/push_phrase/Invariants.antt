use Rattle.std.proofs.Common.{◌≡◌, ◌+◌, ◌*◌, ◌≤◌, ◌++◌, length, take}
use Rattle.vd_report.specs.Lines.{phrase}
use Rattle.vd_report.proofs.text.push_phrase.Given as goal

abbrev pub invariant-loop-number : goal.invariant-loop-number
invariant-loop-number l = record {
  items : l.text.items ≡ l.fn.text.items ++ phrase l.words (take l.number-index l.numbers);
  longer : length l.text.items ≤ length l.fn.text.items + length l.words + 21 * l.number-index;
}
