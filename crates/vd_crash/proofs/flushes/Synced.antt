-- What was put last and is done is all that may be left once a sync is answered well.
use Rattle.std.proofs.Common.{ℕ, ◌≡◌, ◌+◌, ◌<◌, ◌≤◌, inl, inr, List, [], ◌∷◌, ◌++◌, length, arith, subst}
use Rattle.std.proofs.lemmas.Bool.{cases_lt}
use Rattle.vd_image.specs.Log.{Sector, Entry, Done, Covers, Writes, Flushes, IsSure, May, IsOpen}
use Rattle.vd_crash.specs.facts.Safe.{NumberedEntry, Opening}
use Rattle.vd_crash.specs.facts.Facts.{IsClaimSettled}
use Rattle.vd_image.proofs.Logs.{writes_push, writes_pushed, ends_push, ends_end, sure_by, may_since, writes_one}
use Rattle.vd_crash.specs.flushes.Flushing.{IsLast, Snapshot, IsRecorded, IsWrittenPage, HasPage, IsCaughtUp}
use Rattle.vd_crash.specs.facts.Memory.{Memory}
use Rattle.vd_crash.specs.facts.Metadata.{Left, RecordNames, IsNamed, Need, chunk_in, SlotsHave, IsInSlots}

-- what was put last and is done before a flush that is answered well is all that may be left
pub only_last : (start : ℕ → Sector) (log : List Entry) (s : ℕ) (v u : Sector) (by q : ℕ) → IsLast log s v by → Flushes log q → by ≤ q → May start log s u → v ≡ u
only_last start log s v u by q last flushes order may =
    let sure : IsSure log last.at = sure_by log last.at last.done q last.ends (let b = last.before in omega arith) flushes in
    let source = may_since start log last.at s v u last.writes sure may in
    elim (cases_lt last.at source.0) [
      | inl more ↦ absurd (last.last source.0 u more source.2)
      | inr less ↦
          let same : source.0 ≡ last.at = omega (arith, source.1) in
          writes_one log last.at s v u last.writes (subst (λ (i : ℕ). Writes log i s u) same source.2)
    ]

pub last_push : (log : List Entry) (e : Entry) (s : ℕ) (v : Sector) (by : ℕ) → ((u : Sector) → Covers e s u → ⊥) → IsLast log s v by → IsLast (log ++ e ∷ []) s v by
last_push log e s v by other h = record {
  at = h.at;
  done = h.done;
  before = h.before;
  writes = writes_push log e h.at s v h.writes;
  ends = ends_push log e h.at h.done h.ends;
  last = λ j u after w. elim (writes_pushed log e j s u w) [ inl old ↦ h.last j u after old | inr new ↦ other u new.1 ];
}

-- a put that is done
pub last_done : (log : List Entry) (s i : ℕ) (v : Sector) → Writes log i s v → ((j : ℕ) (u : Sector) → i < j → Writes log j s u → ⊥) → (h : IsOpen log i)
    → IsLast (log ++ Done h.id ∷ []) s v (length log + 1)
last_done log s i v w none h = record {
  at = i;
  done = length log;
  before = omega arith;
  writes = writes_push log (Done h.id) i s v w;
  ends = ends_end log i h;
  last = λ j u after also. elim (writes_pushed log (Done h.id) j s u also) [ inl old ↦ none j u after old | inr new ↦ new.1 ];
}

-- after a sync: what a record names, in a slot since the flush began
pub in_slots : (o : Opening) (log : List Entry) (m : Memory) (first by q b : ℕ) → IsRecorded o log m first by b → Flushes log q → by ≤ q
    → IsNamed o (May o.before log) m.index.generation m.index.cursor first (o.layout.chunk_of b)
in_slots o log m first by q b h flushes order = record {
  slot = h.slot;
  since = h.since;
  below = h.below;
  within = h.within;
  names = λ v left. subst (λ (y : Sector). RecordNames o m.index.generation (o.layout.chunk_of b) y) (only_last o.before log (o.layout.slot_at h.slot) h.value v by q h.last flushes order left) h.names;
}

-- what is wanted of a chunk is in its slot
pub named_in_slots : (o : Opening) (left : Left) (generation cursor first : ℕ) (t : Need) → IsNamed o left generation cursor first (chunk_in o t) → SlotsHave o left generation first t → IsInSlots o left generation cursor t
named_in_slots o left generation cursor first t h have = record {
  slot = h.slot;
  below = h.below;
  within = h.within;
  names = h.names;
  later = λ k v item after within is reads current. have k v item (let l = h.since in omega arith) within is reads current;
}

-- after a sync: a page of the map
pub caught_up : (o : Opening) (log : List Entry) (history : List NumberedEntry) (m : Memory) (p : Snapshot) (by q c : ℕ) → HasPage o log history m p by c → Flushes log q → by ≤ q → IsCaughtUp o (May o.before log) (IsClaimSettled o log history m p.begun) m p c
caught_up o log history m p by q c h flushes order = λ v left. subst (λ (y : Sector). IsWrittenPage o (IsClaimSettled o log history m p.begun) m p c y) (only_last o.before log (o.layout.map_at c) h.value v by q h.last flushes order left) h.written
