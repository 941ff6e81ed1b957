-- What the end of a write leaves of all facts.
use Rattle.std.proofs.Common.{ℕ, ◌≡◌, ◌+◌, ◌<◌, ◌⊎◌, inl, inr, List, [], ◌∷◌, ◌++◌, length, Some, None, Option, Bool, true, false, arith, refl, ap, sym, subst, ◌∙◌}
use Rattle.std.proofs.lemmas.Bool.{cases_eq}
use Rattle.vd_image.specs.Log.{Sector, CallId, Entry, Done, Covers, Writes, Ends, May, IsOpen}
use Rattle.vd_crash.specs.facts.Safe.{NumberedEntry, events, Opening}
use Rattle.vd_crash.specs.facts.Facts.{OwnWrites, IsDroppedAfter, IsClaimSettled, IsFresh, IsFlushedSince, IsSettled, IsWrittenBefore, IsPending, Holds}
use Rattle.vd_image.proofs.Logs.{at_below}
use Rattle.vd_crash.proofs.facts.Growth.{EndsMirrored, kept_grown}
use Rattle.vd_crash.proofs.facts.Metadata.{metadata_same, metadata_grown}
use Rattle.vd_crash.proofs.facts.Steps.{next_ordinary, with_blocks, facts_entry, issued_entry, pending_entry}
use Rattle.vd_crash.specs.facts.Words.{with_table, Grows}
use Rattle.vd_crash.proofs.facts.Writes.{IsUpdated, shown_blocks, facts_same}
use Rattle.vd_crash.specs.facts.Memory.{Memory, IsTable}
use Rattle.vd_crash.specs.facts.Metadata.{Claim, Stored, Zero}
use Rattle.vd_crash.proofs.facts.HistoryGrowth.{length_events, guest_writes_below, guest_ends_pushed, guest_open_pushed, same_drops, drop_old, own_pushed, dropped_after_push, ends_below, open_below, own_writes_old}
use Rattle.std.proofs.lemmas.List.{length_push}

-- A write of a whole block is done, and the block is local from now on. (An entry that says so to the guest comes next.)
pub born : (o : Opening) (log : List Entry) (history : List NumberedEntry) (m : Memory) (fresh : ℕ → Bool) (since : ℕ → ℕ) (pending : ℕ → Option ℕ) (b i d : ℕ)
    → Holds o log history m → m.pending b ≡ Some i → Ends log i d → IsUpdated m.fresh fresh b true → IsUpdated m.born since b (length log) → IsUpdated m.pending pending b None
    → Holds o log history (with_blocks m fresh since m.owed pending)
born o log history m fresh since pending b i d h is ends put_fresh put_born put_pending = record {
  apart = h.apart;
  facts = record {
    numbers = h.facts.numbers;
    opening = h.facts.opening;
    discards = h.facts.discards;
    answered = h.facts.answered;
    zeros = h.facts.zeros;
    storage_one_to_one = h.facts.storage_one_to_one;
    contents_allowed = λ c also. elim (cases_eq c b) [
      | inl same ↦ subst (λ (y : ℕ). IsFresh o log history m.discards.drops m.index.table y (since y)) (sym same) (subst (λ (y : ℕ). IsFresh o log history m.discards.drops m.index.table b y) (sym put_born.same) now)
      | inr other ↦ subst (λ (y : ℕ). IsFresh o log history m.discards.drops m.index.table c y) (sym (put_born.other c other)) (h.facts.contents_allowed c (sym (put_fresh.other c other) ∙ also))
    ];
    metadata = metadata_same o (May o.before log) (IsClaimSettled o log history m m.discards.reach) (IsClaimSettled o log history (with_blocks m fresh since m.owed pending) m.discards.reach) m.index (shown_blocks o log history m fresh since m.owed pending more m.discards.reach) h.facts.metadata;
  };
  blocks = record {
    born = λ c also. elim (cases_eq c b) [
      | inl same ↦ (let k : since b ≡ length log = put_born.same in let l : since c ≡ since b = ap since same in omega arith)
      | inr other ↦ (let k = h.blocks.born c (sym (put_fresh.other c other) ∙ also) in let l = put_born.other c other in omega arith)
    ];
    stale_settled = λ c stale. settled c (h.blocks.stale_settled c stale);
    stale_off = h.blocks.stale_off;
    owed_local = λ c owed. more c (h.blocks.owed_local c owed);
    off_base_known = h.blocks.off_base_known;
    dropped = h.blocks.dropped;
    lost_zeros = h.blocks.lost_zeros;
    zeros_off = h.blocks.zeros_off;
    reach = h.blocks.reach;
    background_same = h.blocks.background_same;
    tried = h.blocks.tried;
    unlogged_untouched = h.blocks.unlogged_untouched;
    issues_stored = h.blocks.issues_stored;
    pending = λ c k at. elim (cases_eq c b) [
      | inl same ↦ absurd (let none : pending b ≡ None = put_pending.same in let some_k : pending b ≡ Some k = subst (λ (y : ℕ). pending y ≡ Some k) same at in cc)
      | inr other ↦
          let old = h.blocks.pending c k (sym (put_pending.other c other) ∙ at) in
          (put_fresh.other c other ∙ old.0, old.1)
    ];
    idle = λ c j n s v not_fresh none block w is_open. elim (cases_eq c b) [
      | inl same ↦ absurd (let set : fresh b ≡ true = put_fresh.same in let unset : fresh b ≡ false = subst (λ (y : ℕ). fresh y ≡ false) same not_fresh in cc)
      | inr other ↦ h.blocks.idle c j n s v (sym (put_fresh.other c other) ∙ not_fresh) (sym (put_pending.other c other) ∙ none) block w is_open
    ];
  };
}
  where
    more : (c : ℕ) → m.fresh c ≡ true → fresh c ≡ true
    more c also = elim (cases_eq c b) [
      | inl same ↦ subst (λ (y : ℕ). fresh y ≡ true) (sym same) put_fresh.same
      | inr other ↦ put_fresh.other c other ∙ also
    ]

    was : (m.fresh b ≡ false) × IsPending o log history m.discards.drops m.index.table b i
    was = h.blocks.pending b i is

    settled : (c : ℕ) → IsSettled log m c → IsSettled log (with_blocks m fresh since m.owed pending) c
    settled c k = elim (cases_eq c b) [
      | inl same ↦ absurd (let set : m.fresh b ≡ true = subst (λ (y : ℕ). m.fresh y ≡ true) same k.0 in let unset = was.0 in cc)
      | inr other ↦ (more c k.0, subst (λ (y : ℕ). IsFlushedSince log y) (sym (put_born.other c other)) k.1)
    ]

    before_drop : (j : ℕ) → IsWrittenBefore o m.discards.drops history (length history) b j → IsDroppedAfter m.discards.drops history j (o.layout.chunk_of b)
    before_drop j w = elim (h.blocks.unlogged_untouched b j w) [
      | inl logged ↦ elim logged [
        | inl stale ↦ absurd (let set = (h.blocks.stale_settled b stale).0 in let unset = was.0 in cc)
        | inr owed ↦ absurd (let set = h.blocks.owed_local b owed in let unset = was.0 in cc)
      ]
      | inr dropped ↦ dropped
    ]

    now : IsFresh o log history m.discards.drops m.index.table b (length log)
    now reach = record {
      storage = was.1.storage;
      since = i + 1;
      given = was.1.given;
      in_range = was.1.in_range;
      stands = record {
        later = λ k s v block after w. absurd (was.1.quiet k s v block (omega arith) w);
        mirrored = λ j e n t s v block w end. inr (let d = before_drop j (record {
          end = e;
          number = n;
          end_number = t;
          sector = s;
          value = v;
          block = block;
          writes = w;
          ends = end;
          before = at_below history e (record { event = end.event; number = t }) end.numbered;
        }) in (d.0, d.1, d.2, d.3, let n = was.1.newest d.0 d.1 d.2 in omega arith));
        running = λ j n s v block w is_open. let k = was.1.running j n s v block w is_open in omega arith;
      };
      origin = inr (i, refl, was.1.whole, inr (d, ends, at_below log d (Done ends.id) ends.done));
      newest = λ j n drop less. let k = was.1.newest j n drop in omega arith;
    }

-- A write of a whole block is given up. No guest write to the block is open any more.
pub given_up : (o : Opening) (log : List Entry) (history : List NumberedEntry) (m : Memory) (pending : ℕ → Option ℕ) (b : ℕ)
    → Holds o log history m → IsUpdated m.pending pending b None
    → ((j n s : ℕ) (v : Sector) → o.layout.block_of s ≡ b → OwnWrites m.discards.drops history j n s v → IsOpen (events history) j → ⊥)
    → Holds o log history (with_blocks m m.fresh m.born m.owed pending)
given_up o log history m pending b h put closed = record {
  apart = h.apart;
  facts = facts_same o log history m m.owed pending h.facts;
  blocks = record {
    born = h.blocks.born;
    stale_settled = h.blocks.stale_settled;
    stale_off = h.blocks.stale_off;
    owed_local = h.blocks.owed_local;
    off_base_known = h.blocks.off_base_known;
    dropped = h.blocks.dropped;
    lost_zeros = h.blocks.lost_zeros;
    zeros_off = h.blocks.zeros_off;
    reach = h.blocks.reach;
    background_same = h.blocks.background_same;
    tried = h.blocks.tried;
    unlogged_untouched = h.blocks.unlogged_untouched;
    issues_stored = h.blocks.issues_stored;
    pending = λ c k at. elim (cases_eq c b) [
      | inl same ↦ absurd (let none : pending b ≡ None = put.same in let some_k : pending b ≡ Some k = subst (λ (y : ℕ). pending y ≡ Some k) same at in cc)
      | inr other ↦ h.blocks.pending c k (sym (put.other c other) ∙ at)
    ];
    idle = λ c j n s v not_fresh none block w is_open. elim (cases_eq c b) [
      | inl same ↦ closed j n s v (block ∙ same) w is_open
      | inr other ↦ h.blocks.idle c j n s v not_fresh (sym (put.other c other) ∙ none) block w is_open
    ];
  };
}

-- Whose write is done for the guest, its store write was done before.
pub done_mirrored : (o : Opening) (log : List Entry) (history : List NumberedEntry) (m : Memory) (call : CallId) (b : ℕ) → Holds o log history m
    → ((j n s : ℕ) (v : Sector) → OwnWrites m.discards.drops history j n s v → (is_open : IsOpen (events history) j) → is_open.id ≡ call → (o.layout.block_of s ≡ b) × ((d : ℕ) × Ends log n d))
    → (c q : ℕ) → m.index.table (o.layout.chunk_of c) ≡ Some q → EndsMirrored o log history m.discards.drops c q (record { event = Done call; number = length log })
done_mirrored o log history m call b h mine c q given j n s v is_open block w done =
    let k = mine j n s v w is_open (let e : Done call ≡ Done is_open.id = done in cc) in
    let i = (h.blocks.issues_stored j n s v w).1 in
    let there : m.index.table (o.layout.chunk_of (o.layout.block_of s)) ≡ Some q = subst (λ (y : ℕ). m.index.table (o.layout.chunk_of y) ≡ Some q) (sym block) given in
    let i_given = i.given is_open in
    let same : i.storage ≡ q = cc in
    record { writes = subst (λ (y : ℕ). Writes log n (o.layout.place y s) v) same i.writes; done = k.1.0; ends = k.1.1; before = at_below log k.1.0 (Done k.1.1.id) k.1.1.done }

-- A guest's write to a local block is done: its store write was done before.
pub write_done : (o : Opening) (log : List Entry) (history : List NumberedEntry) (m : Memory) (owed : ℕ → Bool) (call : CallId) (b : ℕ)
    → Holds o log history m → m.fresh b ≡ true
    → ((j n s : ℕ) (v : Sector) → OwnWrites m.discards.drops history j n s v → (is_open : IsOpen (events history) j) → is_open.id ≡ call → (o.layout.block_of s ≡ b) × ((d : ℕ) × Ends log n d))
    → ((c : ℕ) → m.owed c ≡ true → owed c ≡ true) → ((c : ℕ) → owed c ≡ true → (m.owed c ≡ true) ⊎ (c ≡ b)) → (m.index.stale b ≡ true) ⊎ (owed b ≡ true)
    → Holds o log (history ++ record { event = Done call; number = length log } ∷ []) (with_blocks m m.fresh m.born owed m.pending)
write_done o log history m owed call b h fresh mine more only logged = record {
  apart = h.apart;
  facts = facts_entry o log history m owed x h.facts refl (λ s v covers. absurd covers) ends (λ id a n asked reply. absurd cc);
  blocks = record {
    born = h.blocks.born;
    stale_settled = h.blocks.stale_settled;
    stale_off = h.blocks.stale_off;
    owed_local = λ c is. elim (only c is) [ inl old ↦ h.blocks.owed_local c old | inr same ↦ subst (λ (y : ℕ). m.fresh y ≡ true) (sym same) fresh ];
    off_base_known = h.blocks.off_base_known;
    background_same = h.blocks.background_same;
    tried = λ c is. elim (h.blocks.tried c is) [ inl off ↦ inl off | inr (inl also) ↦ inr (inl (more c also)) | inr (inr lost) ↦ inr (inr lost) ];
    unlogged_untouched = λ c j w. written c j w;
    issues_stored = λ j n s v w. let was = old j n s v (own_pushed m.discards.drops m.discards.drops history x j n s v alike w) in
        issued_entry o log history m.index.table x j n s v (guest_writes_below history j n s v was.0) (h.blocks.issues_stored j n s v was);
    pending = λ c i is. let k = h.blocks.pending c i is in (k.0, pending_entry o log history m.discards.drops m.index.table x c i none k.1 (omega arith));
    idle = λ c j n s v not_fresh pending block w is_open.
        let w_old = old j n s v (own_pushed m.discards.drops m.discards.drops history x j n s v alike w) in
        h.blocks.idle c j n s v not_fresh pending block w_old (guest_open_pushed history x j (guest_writes_below history j n s v w_old.0) is_open);
    dropped = λ j n c drop. h.blocks.dropped j n c (drop_old m.discards.drops history x j n c none drop);
    lost_zeros = h.blocks.lost_zeros;
    zeros_off = h.blocks.zeros_off;
    reach = let l = length_push history x in let k = h.blocks.reach in omega arith;
  };
}
  where
    x : NumberedEntry
    x = record { event = Done call; number = length log }

    none : m.discards.drops (length history) ≡ None
    none = next_ordinary o m.discards.drops history h.facts.discards

    alike : (j : ℕ) → j < length history → m.discards.drops j ≡ m.discards.drops j
    alike = same_drops m.discards.drops (length history)

    old : (j n s : ℕ) (v : Sector) → OwnWrites m.discards.drops history j n s v ⊎ ((j ≡ length history) × (x.number ≡ n) × Covers x.event s v × (m.discards.drops (length history) ≡ None)) → OwnWrites m.discards.drops history j n s v
    old j n s v (inl k) = k
    old j n s v (inr k) = absurd k.2

    ends : (c q : ℕ) → m.index.table (o.layout.chunk_of c) ≡ Some q → EndsMirrored o log history m.discards.drops c q x
    ends = done_mirrored o log history m call b h mine

    written : (c j : ℕ) → IsWrittenBefore o m.discards.drops (history ++ x ∷ []) (length (history ++ x ∷ [])) c j → ((m.index.stale c ≡ true) ⊎ (owed c ≡ true)) ⊎ IsDroppedAfter m.discards.drops (history ++ x ∷ []) j (o.layout.chunk_of c)
    written c j w = elim (guest_ends_pushed history x j w.end w.end_number w.ends) [
      | inl k ↦
          let below : w.end < length (events history) = at_below (events history) w.end (Done k.ends.id) k.ends.done in
          elim (h.blocks.unlogged_untouched c j (record {
            end = w.end;
            number = w.number;
            end_number = w.end_number;
            sector = w.sector;
            value = w.value;
            block = w.block;
            before = let l = length_events history in omega arith;
            ends = k;
            writes = own_writes_old m.discards.drops m.discards.drops history x j w.number w.sector w.value alike (ends_below history j w.end w.end_number k) w.writes;
          })) [
            | inl is ↦ inl (elim is [ inl stale ↦ inl stale | inr also ↦ inr (more c also) ])
            | inr dropped ↦ inr (dropped_after_push m.discards.drops m.discards.drops history x j (o.layout.chunk_of c) alike dropped)
          ]
      | inr k ↦
          let w_old = own_writes_old m.discards.drops m.discards.drops history x j w.number w.sector w.value alike (open_below history j k.2.0) w.writes in
          let at = mine j w.number w.sector w.value w_old k.2.0 (let e : Done call ≡ Done k.2.0.id = k.2.1 in cc) in
          let one : b ≡ c = sym at.0 ∙ w.block in
          inl (elim logged [
            | inl stale ↦ inl (subst (λ (y : ℕ). m.index.stale y ≡ true) one stale)
            | inr is ↦ inr (subst (λ (y : ℕ). owed y ≡ true) one is)
          ])
    ]

-- what is shown stays so where more storage is given
pub shown_taken : (o : Opening) (log : List Entry) (history : List NumberedEntry) (m : Memory) (table : ℕ → Option ℕ) → Grows m.index.table table → (reach : ℕ) (t : Claim) → IsClaimSettled o log history m reach t → IsClaimSettled o log history (with_table m table) reach t
shown_taken o log history m table grows reach (Stored b) h = (kept_grown o log history m.discards.drops m.index.table table b reach reach 0 0 (λ p given. grows (o.layout.chunk_of b) p given) (λ j n drop less. less) (λ w good. good) h.0, h.1)
shown_taken o log history m table grows reach (Zero c) h = h

-- a chunk takes storage
pub storage_taken : (o : Opening) (log : List Entry) (history : List NumberedEntry) (m : Memory) (table : ℕ → Option ℕ)
    → Holds o log history m → Grows m.index.table table → IsTable o.layout.storage table → Holds o log history (with_table m table)
storage_taken o log history m table h grows is_table = record {
  apart = h.apart;
  facts = record {
    numbers = h.facts.numbers;
    opening = h.facts.opening;
    discards = h.facts.discards;
    answered = h.facts.answered;
    zeros = h.facts.zeros;
    storage_one_to_one = is_table;
    metadata = metadata_grown o (May o.before log) (IsClaimSettled o log history m m.discards.reach) (IsClaimSettled o log history (with_table m table) m.discards.reach) m.index table grows (shown_taken o log history m table grows m.discards.reach) h.facts.metadata;
    contents_allowed = λ b fresh reach. kept_grown o log history m.discards.drops m.index.table table b reach reach (m.born b) (m.born b) (λ p given. grows (o.layout.chunk_of b) p given) (λ j n drop less. less) (λ w good. good) (h.facts.contents_allowed b fresh reach);
  };
  blocks = record {
    born = h.blocks.born;
    stale_settled = h.blocks.stale_settled;
    stale_off = h.blocks.stale_off;
    owed_local = h.blocks.owed_local;
    off_base_known = h.blocks.off_base_known;
    dropped = h.blocks.dropped;
    lost_zeros = h.blocks.lost_zeros;
    zeros_off = h.blocks.zeros_off;
    reach = h.blocks.reach;
    background_same = h.blocks.background_same;
    tried = h.blocks.tried;
    unlogged_untouched = h.blocks.unlogged_untouched;
    idle = h.blocks.idle;
    issues_stored = λ j n s v w. let k = h.blocks.issues_stored j n s v w in (k.0, record { storage = k.1.storage; given = λ is_open. grows (o.layout.chunk_of (o.layout.block_of s)) k.1.storage (k.1.given is_open); writes = k.1.writes });
    pending = λ b i is. let k = h.blocks.pending b i is in (
      k.0,
      record {
        storage = k.1.storage;
        given = grows (o.layout.chunk_of b) k.1.storage k.1.given;
        in_range = k.1.in_range;
        within = k.1.within;
        opened = k.1.opened;
        whole = k.1.whole;
        quiet = k.1.quiet;
        running = k.1.running;
        newest = k.1.newest;
      },
    );
  };
}
