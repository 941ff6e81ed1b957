-- The run, primitive by primitive.
use Rattle.std.proofs.Common.{ℕ, zero, suc, ◌≡◌, ◌≢◌, ◌+◌, ◌<◌, ◌⊎◌, ◌↔◌, ◌||◌, inl, inr, Bool, true, false, List, [], ◌∷◌, ◌++◌, length, Some, None, refl, sym, ap, ◌∙◌, subst, arith}
use Rattle.std.specs.Prelude.{◌==◌, if◌then◌else◌}
use Rattle.std.proofs.lemmas.Bool.{cases_eq, eq-eqb, ne_eqb, or_cases, or_left, or_right, both_ways}
use Rattle.vd_image.specs.Log.{Sector, CallId, Entry, Write, Flush, Fine, Ask, Issue, Done, Reply, At}
use Rattle.vd_image.specs.Image.{Fact}
use Rattle.vd_image.proofs.Logs.{at_below}
use Rattle.vd_crash.specs.facts.Safe.{NumberedEntry, Opening}
use Rattle.vd_crash.specs.facts.Facts.{HasEntry}
use Rattle.vd_crash.specs.facts.Words.{IsDropWrite, IsDiscarded, IsUpdated, AreOthers, WritesOnly, Sealing, discarded_memory, with_index, sealed_memory}
use Rattle.vd_crash.specs.facts.Opened.{IsAtOpening}
use Rattle.vd_crash.specs.flushes.Moves.{entry_now}
use Rattle.vd_crash.specs.flushes.Flushing.{Snapshot, snapshot_of, IsOffAfter, IsReleased, IsLogged, IsWantedRecord, IsWantedMapping}
use Rattle.vd_crash.specs.flushes.Stage.{Flight, Idle, Answering, FlushProgress, IsLoggedBy}
use Rattle.vd_crash.specs.primitives.Core.{Resting, Sending, Working, Putting, Syncing}
use Rattle.vd_crash.specs.primitives.Primitives.{State, state, at_rest, nothing_put, IsPrimitive, Interleaves, Nothing, Then}
use Rattle.vd_crash.proofs.primitives.Parts.{Notes, Begins, Data_flushed, Puts_record, Put_done, Syncs, Synced, Seals, Answers, Drops, Marks}
use Rattle.vd_discard.specs.Released.{loss, IsReleasing}
use Rattle.vd_crash.specs.facts.Memory.{Discards, Memory}

-- one value is put at one place
abbrev put : {X : Type 0} → (ℕ → X) → ℕ → X → ℕ → X
put old b y c = if c == b then y else old c

is_put : {X : Type 0} (old : ℕ → X) (b : ℕ) (y : X) → IsUpdated old (put old b y) b y
is_put old b y = record {
  same = ap (λ (t : Bool). if t then y else old b) (eq-eqb b b refl);
  other = λ c ne. ap (λ (t : Bool). if t then y else old c) (ne_eqb c b ne);
}

-- the blocks of the chunk are left out
abbrev without : Opening → ℕ → (ℕ → Bool) → ℕ → Bool
without o c old b = if o.layout.chunk_of b == c then false else old b

without_in : (o : Opening) (c : ℕ) (old : ℕ → Bool) (b : ℕ) → o.layout.chunk_of b ≡ c → without o c old b ≡ false
without_in o c old b is = ap (λ (t : Bool). if t then false else old b) (eq-eqb (o.layout.chunk_of b) c is)

without_out : (o : Opening) (c : ℕ) (old : ℕ → Bool) (b : ℕ) → o.layout.chunk_of b ≢ c → without o c old b ≡ old b
without_out o c old b ne = ap (λ (t : Bool). if t then false else old b) (ne_eqb (o.layout.chunk_of b) c ne)

others : (o : Opening) (c : ℕ) (old : ℕ → Bool) → AreOthers o old (without o c old) c
others o c old b = (
  λ is. elim (cases_eq (o.layout.chunk_of b) c) [
    | inl same ↦ absurd (both_ways _ (without_in o c old b same) is)
    | inr ne ↦ (sym (without_out o c old b ne) ∙ is, ne)
  ],
  λ both. without_out o c old b both.1 ∙ both.0,
)

-- none is left where there was none
none_left : (o : Opening) (c : ℕ) (old : ℕ → Bool) (b : ℕ) → old b ≡ false → without o c old b ≡ true → ⊥
none_left o c old b none is = both_ways (old b) none ((((others o c old b).0) is).0)

-- the only chunk that is lost
lost_only : (old : ℕ → Bool) (c e : ℕ) → old e ≡ false → put old c true e ≡ true → e ≡ c
lost_only old c e none is = elim (cases_eq e c) [
  | inl same ↦ same
  | inr ne ↦ absurd (both_ways (old e) none (sym ((is_put old c true).other e ne) ∙ is))
]

-- the one sector of a write
one_sector : (t : CallId) (a : ℕ) (v : Sector) → WritesOnly (Issue t a (v ∷ [])) a v
one_sector t a v s u (zero, at, is) = (at ∙ omega arith, cc)
one_sector t a v s u (suc n, at, is) = absurd (cc)

abbrev drops_of : Memory → ℕ → Discards
drops_of m c = record { drops = put m.discards.drops 1 (Some c); zeros = put m.discards.zeros c true; lost = put m.discards.lost c true; reach = m.discards.reach }

is_discarded : (o : Opening) (m : Memory) (c : ℕ) → IsDiscarded o m 1 c (without o c m.fresh) (without o c m.index.stale) (without o c m.owed) (drops_of m c)
is_discarded o m c = record {
  fresh_others = others o c m.fresh;
  stale_others = others o c m.index.stale;
  owed_others = others o c m.owed;
  drops = is_put m.discards.drops 1 (Some c);
  zeros = is_put m.discards.zeros c true;
  lost = is_put m.discards.lost c true;
  reach = refl;
}

abbrev after_drop : Opening → Memory → ℕ → Memory
after_drop o m c = discarded_memory m (without o c m.fresh) (without o c m.index.stale) (without o c m.owed) (drops_of m c)

abbrev asked_drop : List Entry → CallId → ℕ → List Sector → List NumberedEntry
asked_drop log d first content = entry_now log (Ask d (Write first content)) ∷ []

abbrev dropped : List Entry → CallId → ℕ → List Sector → List NumberedEntry
dropped log d first content = entry_now log (Ask d (Write first content)) ∷ entry_now log (Issue d first content) ∷ entry_now log (Done d) ∷ []

abbrev answered : List Entry → CallId → ℕ → List Sector → List NumberedEntry
answered log d first content = entry_now log (Ask d (Write first content)) ∷ entry_now log (Issue d first content) ∷ entry_now log (Done d) ∷ entry_now log (Reply d Fine) ∷ []

abbrev asked_flush : List Entry → CallId → CallId → ℕ → List Sector → List NumberedEntry
asked_flush log d f first content = entry_now log (Ask d (Write first content)) ∷ entry_now log (Issue d first content) ∷ entry_now log (Done d) ∷ entry_now log (Reply d Fine) ∷ entry_now log (Ask f Flush) ∷ []

asked_first : (x y : NumberedEntry) → Some x ≡ Some y → x.event ≡ y.event
asked_first x y same = cc

-- a write is no flush
no_flush : (d f : CallId) (first : ℕ) (content : List Sector) → Ask d (Write first content) ≡ Ask f Flush → ⊥
no_flush d f first content same = cc

no_issue : (d f : CallId) (first : ℕ) (content : List Sector) → Issue d first content ≡ Ask f Flush → ⊥
no_issue d f first content same = cc

no_done : (d f : CallId) → Done d ≡ Ask f Flush → ⊥
no_done d f same = cc

no_reply : (d f : CallId) → Reply d Fine ≡ Ask f Flush → ⊥
no_reply d f same = cc

-- no flush but this one is asked for
flush_asked : (log : List Entry) (d f : CallId) (first : ℕ) (content : List Sector) (b i : ℕ) → HasEntry (asked_flush log d f first content) b i (Ask f Flush) → b ≡ 4
flush_asked log d f first content zero i at = absurd (no_flush d f first content (asked_first _ _ at))
flush_asked log d f first content (suc zero) i at = absurd (no_issue d f first content (asked_first _ _ at))
flush_asked log d f first content (suc (suc zero)) i at = absurd (no_done d f (asked_first _ _ at))
flush_asked log d f first content (suc (suc (suc zero))) i at = absurd (no_reply d f (asked_first _ _ at))
flush_asked log d f first content (suc (suc (suc (suc zero)))) i at = refl
flush_asked log d f first content (suc (suc (suc (suc (suc b))))) i at = absurd (cc)

none_asked : (log : List Entry) (d : CallId) (first : ℕ) (content : List Sector) (c : CallId) (a n : ℕ) → HasEntry (dropped log d first content) a n (Ask c Flush) → ⊥
none_asked log d first content c zero n at = no_flush d c first content (asked_first _ _ at)
none_asked log d first content c (suc zero) n at = no_issue d c first content (asked_first _ _ at)
none_asked log d first content c (suc (suc zero)) n at = no_done d c (asked_first _ _ at)
none_asked log d first content c (suc (suc (suc a))) n at = cc

abbrev snapshot : Opening → List Entry → Memory → ℕ → CallId → CallId → ℕ → List Sector → Snapshot
snapshot o log m c d f first content = snapshot_of (after_drop o m c) (asked_flush log d f first content)

wanted_not : (o : Opening) (log : List Entry) (m : Memory) (c : ℕ) (d f : CallId) (first : ℕ) (content : List Sector) (b : ℕ) → o.layout.chunk_of b ≡ c → (snapshot o log m c d f first content).wanted b ≡ true → ⊥
wanted_not o log m c d f first content b is want = elim (or_cases (without o c m.index.stale b) (without o c m.owed b) want) [
  | inl stale ↦ both_ways _ (without_in o c m.index.stale b is) stale
  | inr owed ↦ both_ways _ (without_in o c m.owed b is) owed
]

wanted_mapping : (o : Opening) (log : List Entry) (m : Memory) (c : ℕ) (d f : CallId) (first : ℕ) (content : List Sector) → o.layout.discards ≡ true
    → IsWantedMapping o (after_drop o m c) (snapshot o log m c d f first content) c (record { storage = None; zeros = true; has = λ b. false })
wanted_mapping o log m c d f first content allowed = record {
  kind = sym ((is_put m.discards.zeros c true).same);
  in_grammar = λ no. absurd (both_ways o.layout.discards no allowed);
  blocks = λ b. (λ no. absurd (both_ways false refl no), λ both. absurd (wanted_not o log m c d f first content b both.0 both.1));
  storage = λ s. (λ no. absurd (cc), λ both. absurd (both_ways false refl both.1.1));
}

wanted_record : (o : Opening) (log : List Entry) (m : Memory) (c : ℕ) (d f : CallId) (first : ℕ) (content : List Sector) → c < o.layout.chunks → o.layout.discards ≡ true
    → IsWantedRecord o (after_drop o m c) (snapshot o log m c d f first content) (loss m.index.generation c)
wanted_record o log m c d f first content within allowed = record { current = (refl, refl); well_formed = refl; rising = rises; facts = each }
  where
    only : Fact
    only = record { chunk = c; mapping = record { storage = None; zeros = true; has = λ b. false } }

    rises : (i j : ℕ) (x y : Fact) → i < j → At (only ∷ []) i x → At (only ∷ []) j y → x.chunk < y.chunk
    rises i zero x y before at there = absurd (omega arith)
    rises i (suc j) x y before at there = absurd (cc)

    each : (place : ℕ) (fact : Fact) → At (only ∷ []) place fact → (fact.chunk < o.layout.chunks) × IsWantedMapping o (after_drop o m c) (snapshot o log m c d f first content) fact.chunk fact.mapping
    each zero fact at = subst (λ (x : Fact). (x.chunk < o.layout.chunks) × IsWantedMapping o (after_drop o m c) (snapshot o log m c d f first content) x.chunk x.mapping) (let e : only ≡ fact = cc in e) (within, wanted_mapping o log m c d f first content allowed)
    each (suc place) fact at = absurd (cc)

abbrev sealing : Opening → Memory → ℕ → Sealing
sealing o m c = record {
  table = put m.index.table c None;
  stale = without o c m.index.stale;
  off_base = λ b. m.index.off_base b || (without o c m.owed b || put m.discards.lost c true (o.layout.chunk_of b));
  owed = without o c m.owed;
  lost = λ e. false;
  reach = 5;
}

logged : (o : Opening) (log : List Entry) (m : Memory) (c : ℕ) (d f : CallId) (first : ℕ) (content : List Sector) (cursor : ℕ) → IsAtOpening o log m
    → IsLogged o (asked_flush log d f first content) (with_index (after_drop o m c) m.index.sure m.index.tried cursor) (snapshot o log m c d f first content) (sealing o m c)
logged o log m c d f first content cursor start = record {
  stale_was = λ b is. inl is;
  stale_still = λ b is. is;
  snapped = λ b is. absurd (none_left o c m.owed b (start.owed b) is);
  off_is = off;
  owed_was = λ b is. is;
  owed_still = λ b is. inl is;
  lost_was = λ e is. absurd (both_ways false refl is);
  lost_still = λ j n e since drop. let b = at_below (asked_flush log d f first content) j _ drop.stands in absurd (omega arith);
  reach = refl;
  table = each;
}
  where
    off : (b : ℕ) → ((sealing o m c).off_base b ≡ true) ↔ IsOffAfter o (with_index (after_drop o m c) m.index.sure m.index.tried cursor) (snapshot o log m c d f first content) b
    off b = (
      λ is. elim (or_cases (m.index.off_base b) (without o c m.owed b || put m.discards.lost c true (o.layout.chunk_of b)) is) [
        | inl was ↦ inl was
        | inr more ↦ inr (or_cases (without o c m.owed b) (put m.discards.lost c true (o.layout.chunk_of b)) more)
      ],
      λ any. elim any [
        | inl was ↦ or_left (m.index.off_base b) _ was
        | inr more ↦ or_right (m.index.off_base b) _ (elim more [
          | inl owed ↦ or_left (without o c m.owed b) _ owed
          | inr lost ↦ or_right (without o c m.owed b) _ lost
        ])
      ],
    )

    each : (e : ℕ) → ((sealing o m c).table e ≡ m.index.table e) ⊎ IsReleased o (with_index (after_drop o m c) m.index.sure m.index.tried cursor) (snapshot o log m c d f first content) (sealing o m c).table e
    each e = elim (cases_eq e c) [
      | inl same ↦ inr (record {
        none = ap (sealing o m c).table same ∙ (is_put m.index.table c None).same;
        lost = ap (put m.discards.lost c true) same ∙ (is_put m.discards.lost c true).same;
        unwanted = λ b is want. wanted_not o log m c d f first content b (is ∙ same) want;
        not_local = λ b is local. both_ways _ (without_in o c m.fresh b (is ∙ same)) local;
        calm = λ b is. start.pending b;
      })
      | inr ne ↦ inl ((is_put m.index.table c None).other e ne)
    ]

pub releasing : (o : Opening) (log : List Entry) (m : Memory) (marked : ℕ → Bool) (c first : ℕ) (content : List Sector) (v : Sector) (d f t : CallId) → IsAtOpening o log m → c < o.layout.chunks → o.layout.discards ≡ true → m.index.cursor < o.layout.slots
    → IsDropWrite o c (Issue d first content) → o.format.record_of v ≡ Some (loss m.index.generation c) → IsReleasing o (at_rest log m marked) c first content d f
releasing o log m marked c first content v d f t start within allowed room writes reads = record {
  after = after_flush;
  run = Then _ _ _ (Then _ _ _ flush_run sealed_step) replied_step;
  zeros = (is_put m.discards.zeros c true).same;
  released = (is_put m.index.table c None).same;
  history = refl;
}
  where
    idle : ℕ → Flight
    idle k = Idle

    all : ℕ → Bool
    all a = true

    none : ℕ → Bool
    none a = false

    of_chunk : ℕ → Bool
    of_chunk b = o.layout.chunk_of b == c

    n : ℕ
    n = length log

    m1 : Memory
    m1 = after_drop o m c

    m2 : Memory
    m2 = with_index m1 m1.index.sure m1.index.tried (m1.index.cursor + 1)

    h : List NumberedEntry
    h = asked_flush log d f first content

    log1 : List Entry
    log1 = log ++ Ask t Flush ∷ []

    log2 : List Entry
    log2 = log1 ++ Reply t Fine ∷ []

    put_entry : Entry
    put_entry = Issue t (o.layout.slot_at m.index.cursor) (v ∷ [])

    log3 : List Entry
    log3 = log2 ++ put_entry ∷ []

    log4 : List Entry
    log4 = log3 ++ Done t ∷ []

    log5 : List Entry
    log5 = log4 ++ Ask t Flush ∷ []

    log6 : List Entry
    log6 = log5 ++ Reply t Fine ∷ []

    p1 : FlushProgress
    p1 = nothing_put (snapshot_of m1 h) m1.index.cursor none

    p2 : FlushProgress
    p2 = record { snapshot = p1.snapshot; first = p1.first; by = length log3 + 1; recorded = of_chunk; written = none; slotted = p1.slotted; paged = p1.paged }

    p3 : FlushProgress
    p3 = record { snapshot = p2.snapshot; first = p2.first; by = p2.by; recorded = p2.recorded; written = p2.written; slotted = of_chunk; paged = none }

    answering : ℕ → Flight
    answering = put idle 0 (Answering f 4 n)

    idle_again : ℕ → Flight
    idle_again = put answering 0 Idle

    z : Sealing
    z = sealing o m c

    m3 : Memory
    m3 = sealed_memory m2 m2.index.generation m2.index.tracked m2.index.sure m2.index.tried m2.index.cursor z

    after_flush : State
    after_flush = state log6 (h ++ entry_now log6 (Reply f Fine) ∷ []) m3 all idle_again Resting

    marked_run : Interleaves o (at_rest log m marked) (state log [] m all idle Resting)
    marked_run = Then _ _ _ (Nothing (at_rest log m marked)) (Marks log [] m marked all idle Resting (λ a is. refl))

    asked_run : Interleaves o (at_rest log m marked) (state log (asked_drop log d first content) m all idle Resting)
    asked_run = Then _ _ _ marked_run (Notes log [] m all idle Resting (Ask d (Write first content)) (λ s u covers. covers) (λ id e. cc) (λ id is. is) (λ k id has. absurd has) (λ id a i at e. cc))

    dropped_run : Interleaves o (at_rest log m marked) (state log (dropped log d first content) m1 all idle Resting)
    dropped_run = Then _ _ _ asked_run (Drops log (asked_drop log d first content) m all idle Resting d first content c (without o c m.fresh) (without o c m.index.stale) (without o c m.owed) (drops_of m c) within writes (is_discarded o m c)
        (λ k has. has) (λ k b has is. has) (λ b is. start.pending b))

    answered_run : Interleaves o (at_rest log m marked) (state log (answered log d first content) m1 all idle Resting)
    answered_run = Then _ _ _ dropped_run (Notes log (dropped log d first content) m1 all idle Resting (Reply d Fine) (λ s u covers. covers) (λ id e. cc) (λ id is. is) (λ k id has. absurd has) (λ id a i at e. none_asked log d first content id a i at))

    flush_asked_run : Interleaves o (at_rest log m marked) (state log h m1 all idle Resting)
    flush_asked_run = Then _ _ _ answered_run (Notes log (answered log d first content) m1 all idle Resting (Ask f Flush) (λ s u covers. covers) (λ id e. cc) (λ id is. is) (λ k id has. absurd has) (λ id a i at e. cc))

    begun_run : Interleaves o (at_rest log m marked) (state log1 h m1 all idle (Sending f 4 n n (snapshot_of m1 h) t))
    begun_run = Then _ _ _ flush_asked_run (Begins log h m1 all idle f t 4 n refl)

    data_run : Interleaves o (at_rest log m marked) (state log2 h m1 all idle (Working f 4 n n p1))
    data_run = Then _ _ _ begun_run (Data_flushed log1 h m1 all idle f t 4 n n (snapshot_of m1 h) none (λ e is. absurd (both_ways false refl is)))

    put_run : Interleaves o (at_rest log m marked) (state log3 h m2 all idle (Putting f 4 n n p1 (o.layout.slot_at m.index.cursor) (length log2) v t))
    put_run = Then _ _ _ data_run (Puts_record log2 h m1 all idle f t 4 n n p1 put_entry v (loss m.index.generation c) (λ k has. has) refl room (one_sector t (o.layout.slot_at m.index.cursor) v) (0, omega arith, refl) reads
        (wanted_record o log m c d f first content within allowed))

    named : IsLoggedBy o m2 (o.layout.slot_at m.index.cursor) v of_chunk none p1
    named = record {
      records = λ b is. inr (m.index.cursor, refl, omega arith, omega arith, room, record { item = loss m.index.generation c; fact = record { chunk = c; mapping = record { storage = None; zeros = true; has = λ e. false } }; place = 0; reads = reads; current = (refl, refl); stands = refl; is = sym (is_chunk b is) });
      pages = λ e is. absurd (both_ways false refl is);
    }
      where
        is_chunk : (b : ℕ) → of_chunk b ≡ true → o.layout.chunk_of b ≡ c
        is_chunk b is = elim (cases_eq (o.layout.chunk_of b) c) [
          | inl same ↦ same
          | inr ne ↦ absurd (both_ways (of_chunk b) (ne_eqb (o.layout.chunk_of b) c ne) is)
        ]

    done_run : Interleaves o (at_rest log m marked) (state log4 h m2 all idle (Working f 4 n n p2))
    done_run = Then _ _ _ put_run (Put_done log3 h m2 all idle f t 4 n n (length log2) (o.layout.slot_at m.index.cursor) v p1 of_chunk none named)

    syncs_run : Interleaves o (at_rest log m marked) (state log5 h m2 all idle (Syncing f 4 n n p2 (length log4) t))
    syncs_run = Then _ _ _ done_run (Syncs log4 h m2 all idle f t 4 n n p2)

    flush_run : Interleaves o (at_rest log m marked) (state log6 h m2 all idle (Working f 4 n n p3))
    flush_run = Then _ _ _ syncs_run (Synced log5 h m2 all idle f t 4 n n (length log4) p2 of_chunk none all (λ b is. inr is) (λ e is. absurd (both_ways false refl is)) (λ e inside is. absurd (both_ways true is refl)))

    sealed_step : IsPrimitive o (state log6 h m2 all idle (Working f 4 n n p3)) (state log6 h m3 all answering Resting)
    sealed_step = Seals log6 h m2 all idle answering 0 f 4 n n p3 z refl (is_put idle 0 (Answering f 4 n)) (logged o log m c d f first content (m.index.cursor + 1) start) start.sure
        (λ b is. absurd (none_left o c m.owed b (start.owed b) is)) (λ b is. eq-eqb (o.layout.chunk_of b) c (lost_only m.discards.lost c (o.layout.chunk_of b) (start.lost (o.layout.chunk_of b)) is)) (λ b is. inl refl) (λ e is. inl refl)

    replied_step : IsPrimitive o (state log6 h m3 all answering Resting) after_flush
    replied_step = Answers log6 h m3 all answering idle_again Resting 0 f 4 n (is_put idle 0 (Answering f 4 n)).same (is_put answering 0 Idle) (flush_asked log d f first content)
