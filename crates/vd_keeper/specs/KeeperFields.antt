-- What the fields of a keeper stand for, and what holds of them.
use Rattle.std.specs.Prelude.{◌≡◌, ◌⊎◌, ◌≤◌, length, drop}
use Rattle.vd_format.specs.Layouts.{blocks_of, chunks_of}
use Rattle.vd_keeper.specs.declared.keeper.Keeper.TheInside.{Inside}
use Rattle.vd_keeper.specs.declared.stage.Stage.TheVariants.{Puts, Syncs}
use Rattle.vd_keeper.specs.Keeping.{KeeperState, AreDisjoint, no_marks, pages_of}
use Rattle.vd_keeper.specs.Entries.{union_of, chunks_with}
use Rattle.vd_keeper.specs.Flushes.{IsKeeping}
use Rattle.vd_keeper.specs.Sets.{chunks_from}

abbrev pub keeper_state : Inside → KeeperState
keeper_state i = record {
  header = i.header;
  sure = i.sure;
  next = i.next;
  stage = i.stage;
  way = i.way;
  stale = i.stale.bits;
  owed = union_of i.later.bits i.snapshot.bits;
  snapshot = i.snapshot.bits;
  marked = i.marked;
  put = i.put;
  logged = i.logged;
  head = i.head;
}

pub record IsKeeper (i : Inside) : Type 0 where
  pub keeping : IsKeeping (keeper_state i)
  pub stale_chunk : i.stale.chunk ≡ i.header.chunk
  pub later_chunk : i.later.chunk ≡ i.header.chunk
  pub snapshot_chunk : i.snapshot.chunk ≡ i.header.chunk
  pub later_size : length i.later.bits ≡ blocks_of i.header
  -- no block is both owed later and of the flush under way
  pub apart : AreDisjoint i.later.bits i.snapshot.bits
  -- sectors of the map are put only while puts are made durable
  pub put_in_stage : (i.stage ≡ Puts) ⊎ (i.stage ≡ Syncs) ⊎ (i.put ≡ no_marks (pages_of i.header))
  -- the chunks that no record has yet are those from `from` on
  pub logged : i.logged ≤ chunks_of i.header
  pub rest : chunks_from i.snapshot i.from ≡ drop i.logged (chunks_with i.header i.snapshot.bits)
