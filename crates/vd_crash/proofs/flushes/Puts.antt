-- What the put of a record, a page of the map or a header leaves of the metadata.
use Rattle.std.proofs.Common.{ℕ, ◌≡◌, ◌+◌, ◌<◌, ◌≤◌, ◌⊎◌, inl, inr, List, [], ◌∷◌, ◌++◌, Some, Bool, true, false, arith, refl, sym, subst}
use Rattle.vd_image.specs.Log.{Sector, Entry, May}
use Rattle.vd_image.specs.Image.{Record, IsCurrent, IsApart}
use Rattle.vd_crash.specs.facts.Safe.{Opening}
use Rattle.vd_image.proofs.Logs.{may_pushed}
use Rattle.vd_crash.proofs.facts.Metadata.{right_more, page_more, record_more}
use Rattle.vd_crash.specs.facts.Memory.{Index}
use Rattle.vd_crash.specs.facts.Metadata.{Claim, Left, IsRightPage, IsNamed, IsPageLeft, IsRecordLeft, Need, Local, Off_base, chunk_in, PageHas, IsInPage, FactsHave, SlotsHave, IsInSlots, IsDue, IsHeaderLeft, IsMetadata}
pub use Rattle.vd_crash.specs.facts.Words.{WritesOnly}

-- one more content may be left, in one sector
abbrev pub OneMore : Left → Left → ℕ → Sector → Type 0
OneMore new old a v = (s : ℕ) (u : Sector) → new s u → old s u ⊎ ((s ≡ a) × (u ≡ v))

pub one_more : (o : Opening) (log : List Entry) (e : Entry) (a : ℕ) (v : Sector) → WritesOnly e a v → OneMore (May o.before (log ++ e ∷ [])) (May o.before log) a v
one_more o log e a v only s u h = elim (may_pushed o.before log e s u h) [ inl k ↦ inl k | inr k ↦ inr (only s u k) ]

pub elsewhere : (new old : Left) (a : ℕ) (v : Sector) → OneMore new old a v → (s : ℕ) (u : Sector) → (s ≡ a → ⊥) → new s u → old s u
elsewhere new old a v more s u other h = elim (more s u h) [ inl k ↦ k | inr k ↦ absurd (other k.0) ]

-- a block stays in its page, where the put is elsewhere or has the block
pub page_put : (o : Opening) (new old : Left) (a : ℕ) (v : Sector) (t : Need) → OneMore new old a v
    → (chunk_in o t < o.layout.chunks → o.layout.map_at (chunk_in o t) ≡ a → PageHas o t v) → IsInPage o old t → IsInPage o new t
page_put o new old a v t more has h = record {
  within = h.within;
  page = λ u left. elim (more (o.layout.map_at (chunk_in o t)) u left) [
    | inl k ↦ h.page u k
    | inr k ↦ subst (λ (y : Sector). PageHas o t y) (sym k.1) (has h.within k.0)
  ];
}

-- the facts of slots still have the block, where the put is in no slot, or is a record whose facts have it
pub slots_have_put : (o : Opening) (new old : Left) (a : ℕ) (v : Sector) (generation from : ℕ) (t : Need) → OneMore new old a v
    → ((k : ℕ) (r : Record) → k < o.layout.slots → o.layout.slot_at k ≡ a → o.format.record_of v ≡ Some r → IsCurrent r generation → FactsHave o t r)
    → SlotsHave o old generation from t → SlotsHave o new generation from t
slots_have_put o new old a v generation from t more has h k u r after within left reads current = elim (more (o.layout.slot_at k) u left) [
  | inl was ↦ h k u r after within was reads current
  | inr now ↦ has k r within now.0 (subst (λ (y : Sector). o.format.record_of y ≡ Some r) now.1 reads) current
]

-- a chunk stays named, where the put is not in a slot before the cursor
pub named_put : (o : Opening) (new old : Left) (a : ℕ) (v : Sector) (generation cursor more_cursor from c : ℕ) → OneMore new old a v → cursor ≤ more_cursor
    → ((k : ℕ) → k < cursor → k < o.layout.slots → o.layout.slot_at k ≡ a → ⊥) → IsNamed o old generation cursor from c → IsNamed o new generation more_cursor from c
named_put o new old a v generation cursor more_cursor from c more further other h = record {
  slot = h.slot;
  since = h.since;
  within = h.within;
  below = let l = h.below in omega arith;
  names = λ u left. h.names u (elsewhere new old a v more (o.layout.slot_at h.slot) u (other h.slot h.below h.within) left);
}

-- a block stays local by its slot, where the put is not in a slot before the cursor
pub slots_put : (o : Opening) (new old : Left) (a : ℕ) (v : Sector) (generation cursor more_cursor : ℕ) (t : Need) → OneMore new old a v → cursor ≤ more_cursor
    → ((k : ℕ) → k < cursor → k < o.layout.slots → o.layout.slot_at k ≡ a → ⊥)
    → ((k : ℕ) (r : Record) → k < o.layout.slots → o.layout.slot_at k ≡ a → o.format.record_of v ≡ Some r → IsCurrent r generation → FactsHave o t r)
    → IsInSlots o old generation cursor t → IsInSlots o new generation more_cursor t
slots_put o new old a v generation cursor more_cursor t more further other has h = record {
  slot = h.slot;
  within = h.within;
  below = let l = h.below in omega arith;
  names = λ u left. h.names u (elsewhere new old a v more (o.layout.slot_at h.slot) u (other h.slot h.below h.within) left);
  later = slots_have_put o new old a v generation h.slot t more has h.later;
}

pub header_put : (o : Opening) (new old : Left) (x : Index) (v : Sector) → ((b : ℕ) → x.tried b ≡ true → IsInPage o old (Off_base b) → IsInPage o new (Off_base b))
    → IsHeaderLeft o old x v → IsHeaderLeft o new x v
header_put o new old x v pages h = record {
  header = h.header;
  reads = h.reads;
  geometry = h.geometry;
  generation = h.generation;
  background = λ s within not_stale. elim (h.background s within not_stale) [ inl e ↦ inl e | inr k ↦ inr (k.0, k.1, pages (o.layout.block_of s) k.1 k.2) ];
}

-- a record of the kept generation, into the slot at the cursor, that has the stale blocks of its chunks
pub slot_put : (o : Opening) (new old : Left) (settled more : Claim → Type 0) (x : Index) (v : Sector) (r : Record) → IsApart o.layout → x.cursor < o.layout.slots
    → OneMore new old (o.layout.slot_at x.cursor) v → o.format.record_of v ≡ Some r → IsCurrent r x.generation
    → IsRecordLeft o new more (record x { cursor = x.cursor + 1 }) x.cursor r → ((t : Need) → IsDue x t → FactsHave o t r) → ((t : Claim) → settled t → more t)
    → IsMetadata o old settled x → IsMetadata o new more (record x { cursor = x.cursor + 1 })
slot_put o new old settled more x v r apart room one reads current item has better h = record {
  header_known = λ u left. let k = header_put o new old x u (λ b tried page. in_page (Off_base b) page) (h.header_known u (in_header u left)) in
      record { header = k.header; reads = k.reads; geometry = k.geometry; generation = k.generation; background = k.background };
  header_sure = λ sure u header left. h.header_sure sure u header (in_header u left);
  pages = λ c u within left. page_more o new old settled more x y c u better (λ d p given. given) (λ is sure. (sure, named 0 c is)) (h.pages c u within (elsewhere new old a v one (o.layout.map_at c) u (apart.map_slot c x.cursor within room) left));
  no_newer_record = λ k u s within left is. elim (one (o.layout.slot_at k) u left) [
    | inl was ↦ h.no_newer_record k u s within was is
    | inr now ↦ (let same : s ≡ r = read_one s u now.1 is in subst (λ (z : Record). z.generation ≤ x.generation) (sym same) (let g = current.1 in omega arith))
  ];
  records = λ k u s within left is e. elim (one (o.layout.slot_at k) u left) [
    | inl was ↦ record_more o new old settled more x y k s better (λ d p given. given) (λ c is. named (k + 1) c is) (h.records k u s within was is e)
    | inr now ↦
        let same : s ≡ r = read_one s u now.1 is in
        let slot : k ≡ x.cursor = apart.slots k x.cursor within room now.0 in
        subst (λ (i : ℕ). IsRecordLeft o new more y i s) (sym slot) (subst (λ (z : Record). IsRecordLeft o new more y x.cursor z) (sym same) item)
  ];
  none_beyond = λ k u s after within left is. h.none_beyond k u s (omega arith) within (elsewhere new old a v one (o.layout.slot_at k) u
      (λ same. let e : k ≡ x.cursor = apart.slots k x.cursor within room same in omega arith) left) is;
  due_everywhere = λ t due. let s = h.due_everywhere t due in (
    elim s.0 [
      | inl slots ↦ inl (slots_put o new old a v x.generation x.cursor (x.cursor + 1) t one (omega arith)
          (λ k below within same. let e : k ≡ x.cursor = apart.slots k x.cursor within room same in omega arith) (λ k r within same is now. facts t due r is) slots)
      | inr page ↦ inr (in_page t page.0, slots_have_put o new old a v x.generation 0 t one (λ k r within same is now. facts t due r is) page.1)
    ],
    elim s.1 [ inl page ↦ inl (in_page t page) | inr sure ↦ inr sure ],
  );
}
  where
    a : ℕ
    a = o.layout.slot_at x.cursor

    y : Index
    y = record x { cursor = x.cursor + 1 }

    named : (from c : ℕ) → IsNamed o old x.generation x.cursor from c → IsNamed o new x.generation (x.cursor + 1) from c
    named from c is = named_put o new old a v x.generation x.cursor (x.cursor + 1) from c one (omega arith) (λ k below within same. let e : k ≡ x.cursor = apart.slots k x.cursor within room same in omega arith) is

    in_header : (u : Sector) → new o.layout.header_at u → old o.layout.header_at u
    in_header u left = elsewhere new old a v one o.layout.header_at u (apart.header_slot x.cursor room) left

    in_page : (t : Need) → IsInPage o old t → IsInPage o new t
    in_page t page = page_put o new old a v t one (λ within same. absurd (apart.map_slot (chunk_in o t) x.cursor within room same)) page

    read_one : (s : Record) (u : Sector) → u ≡ v → o.format.record_of u ≡ Some s → s ≡ r
    read_one s u same is = let k : o.format.record_of v ≡ Some s = subst (λ (z : Sector). o.format.record_of z ≡ Some s) same is in cc

    facts : (t : Need) → IsDue x t → (s : Record) → o.format.record_of v ≡ Some s → FactsHave o t s
    facts t due s is = subst (λ (z : Record). FactsHave o t z) (sym (read_one s v refl is)) (has t due)

-- every image must have it, or a header depends on it that was tried
abbrev pub IsDueOrTried : Index → Need → Type 0
IsDueOrTried x (Local b) = x.stale b ≡ true
IsDueOrTried x (Off_base b) = (x.off_base b ≡ true) ⊎ (x.tried b ≡ true)

pub is_due : (x : Index) (t : Need) → IsDue x t → IsDueOrTried x t
is_due x (Local b) due = due
is_due x (Off_base b) due = inl due

-- a page of the map, with what every image must have of its chunks, and that on which a header depends that was tried
pub map_put : (o : Opening) (new old : Left) (settled more : Claim → Type 0) (x : Index) (v : Sector) (page : ℕ) → IsApart o.layout → page < o.layout.chunks
    → OneMore new old (o.layout.map_at page) v
    → ((c : ℕ) → c < o.layout.chunks → o.layout.map_at c ≡ o.layout.map_at page → IsRightPage o more x.table c v)
    → ((t : Need) → chunk_in o t < o.layout.chunks → o.layout.map_at (chunk_in o t) ≡ o.layout.map_at page → IsDueOrTried x t → PageHas o t v)
    → ((t : Claim) → settled t → more t) → IsMetadata o old settled x → IsMetadata o new more x
map_put o new old settled more x v page apart room one right has better h = record {
  header_known = λ u left. header_put o new old x u (λ b tried old_page. in_page (Off_base b) (inr tried) old_page) (h.header_known u (in_header u left));
  header_sure = λ sure u header left. h.header_sure sure u header (in_header u left);
  pages = λ c u within left. elim (one (o.layout.map_at c) u left) [
    | inl was ↦ page_more o new old settled more x x c u better (λ d p given. given) (λ is sure. (sure, named 0 c is)) (h.pages c u within was)
    | inr now ↦ subst (λ (y : Sector). IsPageLeft o new more x c y) (sym now.1) (let r = right c within now.0 in record { mapping = r.mapping; reads = r.reads; grammar = r.right.grammar; right = inl r.right })
  ];
  no_newer_record = λ k u s within left is. h.no_newer_record k u s within (in_slot k u within left) is;
  records = λ k u s within left is same. record_more o new old settled more x x k s better (λ d p given. given) (λ c is. named (k + 1) c is) (h.records k u s within (in_slot k u within left) is same);
  none_beyond = λ k u s after within left is. h.none_beyond k u s after within (in_slot k u within left) is;
  due_everywhere = λ t due. let s = h.due_everywhere t due in (
    elim s.0 [
      | inl slots ↦ inl (slots_put o new old a v x.generation x.cursor x.cursor t one (omega arith) (λ k below within same. apart.map_slot page k room within (sym same))
          (λ k r within same. absurd (apart.map_slot page k room within (sym same))) slots)
      | inr old_page ↦ inr (in_page t (is_due x t due) old_page.0, slots_have_put o new old a v x.generation 0 t one (λ k r within same. absurd (apart.map_slot page k room within (sym same))) old_page.1)
    ],
    elim s.1 [ inl old_page ↦ inl (in_page t (is_due x t due) old_page) | inr sure ↦ inr sure ],
  );
}
  where
    a : ℕ
    a = o.layout.map_at page

    named : (from c : ℕ) → IsNamed o old x.generation x.cursor from c → IsNamed o new x.generation x.cursor from c
    named from c is = named_put o new old a v x.generation x.cursor x.cursor from c one (omega arith) (λ k below within same. apart.map_slot page k room within (sym same)) is

    in_header : (u : Sector) → new o.layout.header_at u → old o.layout.header_at u
    in_header u left = elsewhere new old a v one o.layout.header_at u (apart.header_map page room) left

    in_slot : (k : ℕ) (u : Sector) → k < o.layout.slots → new (o.layout.slot_at k) u → old (o.layout.slot_at k) u
    in_slot k u within left = elsewhere new old a v one (o.layout.slot_at k) u (λ same. apart.map_slot page k room within (sym same)) left

    in_page : (t : Need) → IsDueOrTried x t → IsInPage o old t → IsInPage o new t
    in_page t kept old_page = page_put o new old a v t one (λ within same. has t within same kept) old_page

-- a header of the next generation, once every page is right and each stale block is in its page
pub next_header_put : (o : Opening) (new old : Left) (settled more : Claim → Type 0) (x : Index) (v : Sector) (tried : ℕ → Bool) → IsApart o.layout
    → OneMore new old o.layout.header_at v
    → ((c : ℕ) (u : Sector) → c < o.layout.chunks → old (o.layout.map_at c) u → IsRightPage o settled x.table c u)
    → ((t : Need) → IsDue x t → IsInPage o old t) → ((b : ℕ) → x.tried b ≡ true → tried b ≡ true)
    → IsHeaderLeft o old (record x { sure = false; tried = tried }) v
    → ((t : Claim) → settled t → more t) → IsMetadata o old settled x → IsMetadata o new more (record x { sure = false; tried = tried })
next_header_put o new old settled more x v tried apart one right pages wider next better h = record {
  header_known = λ u left. elim (one o.layout.header_at u left) [
    | inl was ↦
        (let k = h.header_known u was in
        record {
          header = k.header;
          reads = k.reads;
          geometry = k.geometry;
          generation = k.generation;
          background = λ s within not_stale. elim (k.background s within not_stale) [ inl e ↦ inl e | inr t ↦ inr (t.0, wider (o.layout.block_of s) t.1, in_page (Off_base (o.layout.block_of s)) t.2) ];
        })
    | inr now ↦ subst (λ (y : Sector). IsHeaderLeft o new (record x { sure = false; tried = tried }) y) (sym now.1)
        (header_put o new old (record x { sure = false; tried = tried }) v (λ b t k. in_page (Off_base b) k) next)
  ];
  header_sure = λ sure. absurd cc;
  pages = λ c u within left.
      let r = right c u within (elsewhere new old a v one (o.layout.map_at c) u (λ same. apart.header_map c within (sym same)) left) in
      record { mapping = r.mapping; reads = r.reads; grammar = r.right.grammar; right = inl (right_more o settled more x.table x.table c r.mapping better (λ d p given. given) r.right) };
  no_newer_record = λ k u s within left is. h.no_newer_record k u s within (in_slot k u within left) is;
  records = λ k u s within left is same. record_more o new old settled more x y k s better (λ d p given. given)
      (λ c is. named_put o new old a v x.generation x.cursor x.cursor (k + 1) c one (omega arith) (λ i below inside same_at. apart.header_slot i inside (sym same_at)) is) (h.records k u s within (in_slot k u within left) is same);
  none_beyond = λ k u s after within left is. h.none_beyond k u s after within (in_slot k u within left) is;
  due_everywhere = λ t due. (
    elim (h.due_everywhere t due).0 [
      | inl slots ↦ inl (slots_put o new old a v x.generation x.cursor x.cursor t one (omega arith) (λ k below within same. apart.header_slot k within (sym same))
          (λ k r within same. absurd (apart.header_slot k within (sym same))) slots)
      | inr page ↦ inr (in_page t page.0, slots_have_put o new old a v x.generation 0 t one (λ k r within same. absurd (apart.header_slot k within (sym same))) page.1)
    ],
    inl (in_page t (pages t due)),
  );
}
  where
    a : ℕ
    a = o.layout.header_at

    y : Index
    y = record x { sure = false; tried = tried }

    in_slot : (k : ℕ) (u : Sector) → k < o.layout.slots → new (o.layout.slot_at k) u → old (o.layout.slot_at k) u
    in_slot k u within left = elsewhere new old a v one (o.layout.slot_at k) u (λ same. apart.header_slot k within (sym same)) left

    in_page : (t : Need) → IsInPage o old t → IsInPage o new t
    in_page t page = page_put o new old a v t one (λ within same. absurd (apart.header_map (chunk_in o t) within (sym same))) page
