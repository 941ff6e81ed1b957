use Rattle.std.proofs.Common.{◌≡◌, length, take}
use Rattle.vd_format.specs.declared.map.Shape2.{Shape2}
use Rattle.vd_format.specs.Records.{AreFacts}
use Rattle.vd_replay.specs.Pages.{AreEntries}
use Rattle.vd_replay.specs.Journal.{put_facts}
use Rattle.vd_replay.proofs.journal.apply.Given as goal

abbrev pub invariant-loop-place : goal.invariant-loop-place
invariant-loop-place l = record {
  put : l.map ≡ put_facts l.fn.map (take l.place l.facts);
  size : length l.map ≡ length l.fn.map;
  grammar : (shape : Shape2) → AreFacts shape l.facts → AreEntries shape (length l.fn.map) l.fn.map → AreEntries shape (length l.fn.map) l.map;
}
