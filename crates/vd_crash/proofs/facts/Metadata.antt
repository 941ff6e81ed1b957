-- What may be left of the metadata, where less may be left or more blocks are settled.
use Rattle.std.proofs.Common.{ℕ, Bool, true, ◌+◌, ◌≡◌, ◌<◌, inl, inr, List, [], ◌∷◌, ◌++◌, Some, Option}
use Rattle.vd_image.specs.Log.{Sector, Entry, Covers, May}
use Rattle.vd_image.specs.Image.{Mapping, Record, IsApart}
use Rattle.vd_crash.specs.facts.Safe.{Opening}
use Rattle.vd_image.proofs.Logs.{may_pushed}
use Rattle.vd_crash.specs.facts.Memory.{Index}
use Rattle.vd_crash.specs.facts.Metadata.{Claim, Stored, Zero, Left, IsRight, IsRightPage, IsNamed, IsPageLeft, IsRecordLeft, Need, Local, Off_base, chunk_in, IsInPage, SlotsHave, IsInSlots, IsLocalLeft, IsDue, IsHeaderLeft, IsMetadata}

-- no more may be left of the metadata
pub record NoMore (o : Opening) (new old : Left) : Type 0 where
  pub header : (v : Sector) → new o.layout.header_at v → old o.layout.header_at v
  pub map : (c : ℕ) (v : Sector) → c < o.layout.chunks → new (o.layout.map_at c) v → old (o.layout.map_at c) v
  pub slots : (k : ℕ) (v : Sector) → k < o.layout.slots → new (o.layout.slot_at k) v → old (o.layout.slot_at k) v

pub page_less : (o : Opening) (new old : Left) (t : Need) → NoMore o new old → IsInPage o old t → IsInPage o new t
page_less o new old t less h = record { within = h.within; page = λ v left. h.page v (less.map (chunk_in o t) v h.within left) }

pub slots_have_less : (o : Opening) (new old : Left) (generation from : ℕ) (t : Need) → NoMore o new old → SlotsHave o old generation from t → SlotsHave o new generation from t
slots_have_less o new old generation from t less h = λ k v item after within left. h k v item after within (less.slots k v within left)

pub slots_less : (o : Opening) (new old : Left) (generation cursor : ℕ) (t : Need) → NoMore o new old → IsInSlots o old generation cursor t → IsInSlots o new generation cursor t
slots_less o new old generation cursor t less h = record {
  slot = h.slot;
  below = h.below;
  within = h.within;
  names = λ v left. h.names v (less.slots h.slot v h.within left);
  later = slots_have_less o new old generation h.slot t less h.later;
}

pub local_less : (o : Opening) (new old : Left) (generation cursor : ℕ) (t : Need) → NoMore o new old → IsLocalLeft o old generation cursor t → IsLocalLeft o new generation cursor t
local_less o new old generation cursor t less (inl h) = inl (slots_less o new old generation cursor t less h)
local_less o new old generation cursor t less (inr h) = inr (page_less o new old t less h.0, slots_have_less o new old generation 0 t less h.1)

pub named_less : (o : Opening) (new old : Left) (generation cursor from c : ℕ) → NoMore o new old → IsNamed o old generation cursor from c → IsNamed o new generation cursor from c
named_less o new old generation cursor from c less h = record { slot = h.slot; since = h.since; below = h.below; within = h.within; names = λ v left. h.names v (less.slots h.slot v h.within left) }

pub right_more : (o : Opening) (settled more : Claim → Type 0) (old new : ℕ → Option ℕ) (c : ℕ) (m : Mapping) → ((t : Claim) → settled t → more t) → ((d p : ℕ) → old d ≡ Some p → new d ≡ Some p) → IsRight o settled old c m → IsRight o more new c m
right_more o settled more old new c m better grows h = record { grammar = h.grammar; storage_agrees = λ p is. grows c p (h.storage_agrees p is); blocks_settled = λ b has. better (Stored b) (h.blocks_settled b has); kind_settled = λ zeros. better (Zero c) (h.kind_settled zeros) }

pub right_page_more : (o : Opening) (settled more : Claim → Type 0) (old new : ℕ → Option ℕ) (c : ℕ) (v : Sector) → ((t : Claim) → settled t → more t) → ((d p : ℕ) → old d ≡ Some p → new d ≡ Some p) → IsRightPage o settled old c v → IsRightPage o more new c v
right_page_more o settled more old new c v better grows h = record { mapping = h.mapping; reads = h.reads; right = right_more o settled more old new c h.mapping better grows h.right }

-- A page or a record stays right where more blocks are settled and more storage is given, or named where it was named.
pub page_more : (o : Opening) (new old : Left) (settled more : Claim → Type 0) (x y : Index) (c : ℕ) (v : Sector) → ((t : Claim) → settled t → more t) → ((d p : ℕ) → x.table d ≡ Some p → y.table d ≡ Some p)
    → (IsNamed o old x.generation x.cursor 0 c → (x.sure ≡ true) → (y.sure ≡ true) × IsNamed o new y.generation y.cursor 0 c)
    → IsPageLeft o old settled x c v → IsPageLeft o new more y c v
page_more o new old settled more x y c v better grows named h = record {
  mapping = h.mapping;
  reads = h.reads;
  grammar = h.grammar;
  right = elim h.right [ inl right ↦ inl (right_more o settled more x.table y.table c h.mapping better grows right) | inr is ↦ inr (named is.1 is.0) ];
}

pub record_more : (o : Opening) (new old : Left) (settled more : Claim → Type 0) (x y : Index) (k : ℕ) (r : Record) → ((t : Claim) → settled t → more t) → ((d p : ℕ) → x.table d ≡ Some p → y.table d ≡ Some p)
    → ((c : ℕ) → IsNamed o old x.generation x.cursor (k + 1) c → IsNamed o new y.generation y.cursor (k + 1) c)
    → IsRecordLeft o old settled x k r → IsRecordLeft o new more y k r
record_more o new old settled more x y k r better grows named h = record {
  grammar = h.grammar;
  right = λ place fact stands. elim (h.right place fact stands) [
    | inl right ↦ inl (right_more o settled more x.table y.table fact.chunk fact.mapping better grows right)
    | inr is ↦ inr (named fact.chunk is)
  ];
}

pub header_less : (o : Opening) (new old : Left) (x : Index) (v : Sector) → NoMore o new old → IsHeaderLeft o old x v → IsHeaderLeft o new x v
header_less o new old x v less h = record {
  header = h.header;
  reads = h.reads;
  geometry = h.geometry;
  generation = h.generation;
  background = λ s within not_stale. elim (h.background s within not_stale) [ inl e ↦ inl e | inr next ↦ inr (next.0, next.1, page_less o new old (Off_base (o.layout.block_of s)) less next.2) ];
}

pub metadata_less : (o : Opening) (new old : Left) (settled more : Claim → Type 0) (x : Index) → NoMore o new old → ((t : Claim) → settled t → more t)
    → IsMetadata o old settled x → IsMetadata o new more x
metadata_less o new old settled more x less better h = record {
  header_known = λ v left. header_less o new old x v less (h.header_known v (less.header v left));
  header_sure = λ sure v header left. h.header_sure sure v header (less.header v left);
  pages = λ c v within left. page_more o new old settled more x x c v better (λ d p given. given) (λ named sure. (sure, named_less o new old x.generation x.cursor 0 c less named)) (h.pages c v within (less.map c v within left));
  no_newer_record = λ k v r within left. h.no_newer_record k v r within (less.slots k v within left);
  records = λ k v r within left reads current.
      record_more o new old settled more x x k r better (λ d p given. given) (λ c named. named_less o new old x.generation x.cursor (k + 1) c less named) (h.records k v r within (less.slots k v within left) reads current);
  none_beyond = λ k v r after within left. h.none_beyond k v r after within (less.slots k v within left);
  due_everywhere = λ t due. let s = h.due_everywhere t due in (
    local_less o new old x.generation x.cursor t less s.0,
    elim s.1 [ inl page ↦ inl (page_less o new old t less page) | inr sure ↦ inr sure ],
  );
}

-- the same may be left, and more blocks are settled
pub metadata_same : (o : Opening) (left : Left) (settled more : Claim → Type 0) (x : Index) → ((t : Claim) → settled t → more t)
    → IsMetadata o left settled x → IsMetadata o left more x
metadata_same o left settled more x better h = record {
  header_known = h.header_known;
  header_sure = h.header_sure;
  none_beyond = h.none_beyond;
  due_everywhere = h.due_everywhere;
  pages = λ c v within l. page_more o left left settled more x x c v better (λ d p given. given) (λ named sure. (sure, named)) (h.pages c v within l);
  no_newer_record = h.no_newer_record;
  records = λ k v r within l reads current. record_more o left left settled more x x k r better (λ d p given. given) (λ c named. named) (h.records k v r within l reads current);
}

-- an event that writes to places of storage alone
abbrev pub WritesPlaces : Opening → Entry → Type 0
WritesPlaces o e = (s : ℕ) (v : Sector) → Covers e s v → (p : ℕ) × (t : ℕ) × (p < o.layout.storage) × (o.layout.place p t ≡ s)

pub no_more_metadata : (o : Opening) (log : List Entry) (e : Entry) → IsApart o.layout → WritesPlaces o e → NoMore o (May o.before (log ++ e ∷ [])) (May o.before log)
no_more_metadata o log e apart places = record {
  header = λ v h. elim (may_pushed o.before log e o.layout.header_at v h) [
    | inl k ↦ k
    | inr k ↦ let q = places o.layout.header_at v k in absurd (apart.place_header q.0 q.1 q.2 q.3)
  ];
  map = λ c v within h. elim (may_pushed o.before log e (o.layout.map_at c) v h) [
    | inl k ↦ k
    | inr k ↦ let q = places (o.layout.map_at c) v k in absurd (apart.place_map q.0 q.1 c q.2 within q.3)
  ];
  slots = λ i v within h. elim (may_pushed o.before log e (o.layout.slot_at i) v h) [
    | inl k ↦ k
    | inr k ↦ let q = places (o.layout.slot_at i) v k in absurd (apart.place_slot q.0 q.1 i q.2 within q.3)
  ];
}

-- more storage is given
pub metadata_grown : (o : Opening) (left : Left) (settled more : Claim → Type 0) (x : Index) (table : ℕ → Option ℕ) → ((c p : ℕ) → x.table c ≡ Some p → table c ≡ Some p) → ((t : Claim) → settled t → more t)
    → IsMetadata o left settled x → IsMetadata o left more (record x { table = table })
metadata_grown o left settled more x table grows better h = record {
  header_known = λ v l. let k = h.header_known v l in record { header = k.header; reads = k.reads; geometry = k.geometry; generation = k.generation; background = k.background };
  header_sure = h.header_sure;
  none_beyond = h.none_beyond;
  due_everywhere = h.due_everywhere;
  pages = λ c v within l. page_more o left left settled more x (record x { table = table }) c v better grows (λ named sure. (sure, named)) (h.pages c v within l);
  no_newer_record = h.no_newer_record;
  records = λ k v r within l reads current. record_more o left left settled more x (record x { table = table }) k r better grows (λ c named. named) (h.records k v r within l reads current);
}

-- the same may be left, and fewer blocks are stale
pub metadata_fewer : (o : Opening) (left : Left) (settled more : Claim → Type 0) (x : Index) (stale : ℕ → Bool) → ((b : ℕ) → stale b ≡ true → x.stale b ≡ true) → ((t : Claim) → settled t → more t)
    → IsMetadata o left settled x → IsMetadata o left more (record x { stale = stale })
metadata_fewer o left settled more x stale was better h = record {
  header_known = λ v l. let k = h.header_known v l in record { header = k.header; reads = k.reads; geometry = k.geometry; generation = k.generation; background = k.background };
  header_sure = h.header_sure;
  none_beyond = h.none_beyond;
  due_everywhere = λ t due. h.due_everywhere t (old t due);
  pages = λ c v within l. page_more o left left settled more x (record x { stale = stale }) c v better (λ d p given. given) (λ named sure. (sure, named)) (h.pages c v within l);
  no_newer_record = h.no_newer_record;
  records = λ k v r within l reads current. record_more o left left settled more x (record x { stale = stale }) k r better (λ d p given. given) (λ c named. named) (h.records k v r within l reads current);
}
  where
    old : (t : Need) → IsDue (record x { stale = stale }) t → IsDue x t
    old (Local b) due = was b due
    old (Off_base b) due = due
