-- Asking and replying keep a core coherent, and true to its devices.
use Rattle.std.proofs.Common.{◌≡◌, ◌≢◌, ℕ, ◌+◌, ◌*◌, ◌<◌, ◌≤◌, Bool, true, false, List, [], ◌∷◌, ◌++◌, length, refl, sym, ◌∙◌, ap, subst, arith, Option, Some, slice_get, slice_set}
use Rattle.std.specs.List.{Contains}
use Rattle.std.proofs.lemmas.List.{append_assoc}
use Rattle.vd_law.specs.declared.entry.Sector.{Sector}
use Rattle.vd_law.specs.declared.entry.CallId.{CallId}
use Rattle.vd_law.specs.declared.entry.Answer.{Answer}
use Rattle.vd_law.specs.declared.entry.Answer.TheVariants.{Full}
use Rattle.vd_law.specs.Entries.{Asked, Read, Write, Flush, Entry, Ask, Reply, past}
use Rattle.vd_law.specs.Calls.{no_progress, progress_after}
use Rattle.vd_law.specs.Rules.{Each, IsInside, IsReply, IsRegular, IsShown}
use Rattle.vd_passes.specs.declared.shape.Shape.{Shape}
use Rattle.vd_passes.specs.declared.pass.Pass.{Pass}
use Rattle.vd_passes.specs.declared.pass.Phase.TheVariants.{Idle, Issuing, Ready}
use Rattle.vd_passes.specs.Standings.{Standing, standing}
use Rattle.vd_passes.specs.Places.{ArePlaces, KeepsPlaces}
use Rattle.vd_passes.specs.Tracks.{Track, track, writes}
use Rattle.vd_passes.specs.Coherent.{IsCoherent, IsFaithful, AgreesInSector}
use Rattle.vd_passes.specs.Steps.{IsAt, HasAskedWrite, Asks, AsksFull, Replies}
use Rattle.vd_passes.proofs.Tracks.{track-more, track-writes, ask-same, reply-same}
use Rattle.vd_passes.proofs.Standing.{last_of, next_of, standing-other, standing-own, standing-ask, regular-ask, regular-reply, shown-push}
use Rattle.vd_passes.proofs.Lists.{some-inj, tickets-same, fetches-same}
use Rattle.vd_passes.proofs.Growing.{alike-same, grown-coherent, grown-faithful}
use Rattle.vd_passes.proofs.NotIssuing.{not-issuing-coherent, not-issuing-faithful, apart-free}
use Rattle.vd_passes.proofs.Replying.{answers, answers-full}
use Rattle.vd_passes.specs.Passes.{has_region, writes_in, call_id, HasNone, HasInFlight, pending_of, IsAsHistorySays, after_ask, after_reply}
use Rattle.vd_law.specs.Needs.{sectors_asked}
use Rattle.vd_device.specs.declared.store.Store.{Ghosts as StoreGhosts}
use Rattle.vd_device.specs.declared.base.Base.{Ghosts as BaseGhosts}
use Rattle.vd_passes.specs.Requests.{RequestState, requests}

-- each block that a write touches has a place
abbrev pub IsPlaced : (block : ℕ) → (ℕ → Option ℕ) → Asked → Type 0
IsPlaced block places (Read first count) = Unit {0}
IsPlaced block places (Write first content) = (b : ℕ) → block * b < first + length content → first < block * b + block → (x : ℕ) × (places b ≡ Some x)
IsPlaced block places Flush = Unit {0}

-- How a call stands that has asked its request alone.
abbrev pub asked_for : ℕ → Asked → Standing
asked_for call request = record { call = call; progress = record no_progress { asked = Some request } }

pub stands-asked : {shape : Shape} {fresh : List Bool} {places : ℕ → Option ℕ} {t : Standing} {p : Pass} (r : Asked) (events sectors : ℕ) → IsAsHistorySays shape fresh places t p → p.phase ≡ Idle
    → (r ≢ Flush → 0 < sectors_asked r) → IsInside (shape.block * shape.blocks) r → IsPlaced shape.block places r → IsAsHistorySays shape fresh places (asked_for (p.call + 1) r) (after_ask p r events sectors)
stands-asked {shape} {fresh} {places} {t} {p} (Read first count) events sectors stands idle some inside placed =
    let none : HasNone p = subst (λ ph. HasInFlight ph shape fresh p) idle stands.ticket in record {
      call = refl;
      idle = λ e. absurd (cc);
      busy = λ e. (Read first count, refl, (refl, refl, refl, refl));
      unanswered = λ e. refl;
      done = λ e. refl;
      range = λ e. (inside, omega arith);
      pending = λ e. refl;
      whole = λ e f. (refl, refl);
      ready = λ e. absurd (cc);
      write = λ e. absurd (cc);
      read = λ e. absurd (cc);
      left = λ e f. some (λ h. cc);
      flush = λ e. absurd (cc);
      no_flush = λ e. absurd (cc);
      unstarted = λ e f. refl;
      placed = λ e w. absurd (cc);
      piece = λ e. absurd (cc);
      at = λ e. absurd (cc);
      ticket = record { ticket = none.ticket; fetch = none.fetch };
      buffer = stands.buffer;
    }
stands-asked {shape} {fresh} {places} {t} {p} (Write first content) events sectors stands idle some inside placed =
    let none : HasNone p = subst (λ ph. HasInFlight ph shape fresh p) idle stands.ticket in record {
      call = refl;
      idle = λ e. absurd (cc);
      busy = λ e. (Write first content, refl, (refl, refl, refl, refl));
      unanswered = λ e. refl;
      done = λ e. refl;
      range = λ e. (inside, omega arith);
      pending = λ e. refl;
      whole = λ e f. (refl, refl);
      ready = λ e. absurd (cc);
      write = λ e. absurd (cc);
      read = λ e. absurd (cc);
      left = λ e f. some (λ h. cc);
      flush = λ e. absurd (cc);
      no_flush = λ e. absurd (cc);
      unstarted = λ e f. refl;
      placed = λ e w b from to. placed b from to;
      piece = λ e. absurd (cc);
      at = λ e. absurd (cc);
      ticket = record { ticket = none.ticket; fetch = none.fetch };
      buffer = stands.buffer;
    }
stands-asked {shape} {fresh} {places} {t} {p} Flush events sectors stands idle some inside placed =
    let none : HasNone p = subst (λ ph. HasInFlight ph shape fresh p) idle stands.ticket in record {
      call = refl;
      idle = λ e. absurd (cc);
      busy = λ e. (Flush, refl, (refl, refl, refl, refl));
      unanswered = λ e. refl;
      done = λ e. refl;
      range = λ e. (omega arith, omega arith);
      pending = λ e. refl;
      whole = λ e f. (refl, refl);
      ready = λ e. absurd (cc);
      write = λ e. absurd (cc);
      read = λ e. absurd (cc);
      left = λ e f. absurd (cc);
      flush = λ e. refl;
      no_flush = λ e. absurd (cc);
      unstarted = λ e f. refl;
      placed = λ e w. absurd (cc);
      piece = λ e. absurd (cc);
      at = λ e. absurd (cc);
      ticket = record { ticket = none.ticket; fetch = none.fetch };
      buffer = stands.buffer;
    }

-- A pass whose last call has its reply.
pub stands-idle : {shape : Shape} {fresh : List Bool} {places : ℕ → Option ℕ} (t : Standing) (p : Pass) → p.phase ≡ Idle → t.call ≡ p.call → t.progress.answered ≡ true → HasNone p → length p.buffer ≡ shape.block → IsAsHistorySays shape fresh places t p
stands-idle {shape} {fresh} {places} t p idle call answered none buffer = record {
  call = call;
  idle = λ e f. answered;
  busy = λ e. absurd (e idle);
  unanswered = λ e. absurd (e idle);
  done = λ e. absurd (e idle);
  range = λ e. absurd (e idle);
  pending = λ e. absurd (e idle);
  whole = λ e. absurd (e idle);
  ready = λ e. absurd (cc);
  write = λ e. absurd (let w = ap writes_in idle in cc);
  read = λ e. absurd (cc);
  left = λ e. absurd (cc);
  flush = λ e. absurd (cc);
  no_flush = λ e. absurd (let h = ap has_region idle in cc);
  unstarted = λ e. absurd (e idle);
  placed = λ e. absurd (e idle);
  piece = λ e. absurd (let h = ap has_region idle in cc);
  at = λ e. absurd (let h = ap has_region idle in cc);
  ticket = subst (λ ph. HasInFlight ph shape fresh p) (sym idle) none;
  buffer = buffer;
}

-- A step of a pass with entries that tell no content, where it has nothing in flight before or after it.
module _ {shape : Shape} {fresh : List Bool} {places : ℕ → Option ℕ} {passes : List Pass} {history : List Entry} {S B : Type 0} {g : StoreGhosts S} {h : BaseGhosts B} {store : S} {base : B}
    (co : IsCoherent g h (requests shape fresh passes history) places store base) (i : ℕ) (p : Pass) (there : slice_get passes i ≡ Some p) (none : HasNone p) (before : p.phase ≢ Issuing)
    (p' : Pass) (none' : HasNone p') (after : has_region p'.phase ≡ false) (history' : List Entry)
    (same : (start : List Sector) (s : ℕ) → track start history' s ≡ track start history s) where
  not-after : p'.phase ≢ Issuing
  not-after e = absurd (let h = ap has_region e in cc)

  quiet : (s : ℕ) → writes history' s ≡ writes history s
  quiet s = sym (track-writes [] history' s) ∙ ap (λ (t : Track). t.writes) (same [] s) ∙ track-writes [] history s

  pub wordless-coherent : IsRegular (shape.block * shape.blocks) history' → ((j : ℕ) → j ≢ i → standing history' j ≡ standing history j) → IsAsHistorySays shape fresh places (standing history' i) p'
      → IsCoherent g h (requests shape fresh (slice_set passes i p') history') places store base
  wordless-coherent regular others next = not-issuing-coherent co i p there before p' not-after history' quiet store base alike-same regular others next
      (λ k r at ne. apart-free p' r after)
      (subst (g.flight store) (sym (tickets-same passes i p p' there (none'.ticket ∙ sym none.ticket))) co.flight)
      (subst (h.flight base) (sym (fetches-same passes i p p' there (none'.fetch ∙ sym none.fetch))) co.base_flight)

  pub wordless-faithful : {start : List Sector} {rest : ℕ → Sector} → IsFaithful g start rest (requests shape fresh passes history) places store → Each (IsShown start) (past history')
      → IsFaithful g start rest (requests shape fresh (slice_set passes i p') history') places store
  wordless-faithful {start} {rest} fa shown = not-issuing-faithful co i p there before p' not-after history' quiet fa store (omega arith) shown
      (λ t is. absurd (let e = sym is ∙ none'.ticket in cc))
      (λ a low. refl)
      (λ s inside. subst (λ (x : Track). AgreesInSector (requests shape fresh passes history) places rest s x (track (g.disk store).start (g.disk store).log)) (sym (same start s)) (fa.stands s inside))
      (λ a w v among. subst (λ (g : Track). Contains g.contents v) (sym (same start w.sector)) among)
      (λ is. absurd (let h = ap has_region is in cc))

-- one more entry that tells no content
same-after-ask : (history : List Entry) (id : CallId) (request : Asked) (start : List Sector) (s : ℕ) → track start (history ++ Ask id request ∷ []) s ≡ track start history s
same-after-ask history id request start s = track-more start history (Ask id request) s ∙ ask-same s (track start history s) id request

same-after-reply : (history : List Entry) (id : CallId) (answer : Answer) (start : List Sector) (s : ℕ) → track start (history ++ Reply id answer ∷ []) s ≡ track start history s
same-after-reply history id answer start s = track-more start history (Reply id answer) s ∙ reply-same s (track start history s) id answer

-- The call that a pass asks is the next one of its number, and the one that it serves the last.
next-is : {shape : Shape} {fresh : List Bool} {places : ℕ → Option ℕ} (history : List Entry) (i : ℕ) {p : Pass} → IsAsHistorySays shape fresh places (standing history i) p → next_of history i ≡ record { pass = i; call = p.call + 1 }
next-is {shape} {fresh} {places} history i {p} stands = ap (λ (n : ℕ). record { pass = i; call = n + 1 }) stands.call

last-is : {shape : Shape} {fresh : List Bool} {places : ℕ → Option ℕ} (history : List Entry) (i : ℕ) {p : Pass} → IsAsHistorySays shape fresh places (standing history i) p → last_of history i ≡ call_id i p
last-is {shape} {fresh} {places} history i {p} stands = ap (λ (n : ℕ). record { pass = i; call = n }) stands.call

-- What an Ask leaves of the histories' other passes, and makes of its own.
module _ {shape : Shape} {fresh : List Bool} {places : ℕ → Option ℕ} (history : List Entry) (i : ℕ) {p : Pass} (stands : IsAsHistorySays shape fresh places (standing history i) p)
    (regular : IsRegular (shape.block * shape.blocks) history) (idle : p.phase ≡ Idle) (request : Asked) (inside : IsInside (shape.block * shape.blocks) request) where
  regular-asked : IsRegular (shape.block * shape.blocks) (history ++ Ask (record { pass = i; call = p.call + 1 }) request ∷ [])
  regular-asked = subst (λ (id : CallId). IsRegular (shape.block * shape.blocks) (history ++ Ask id request ∷ [])) (next-is history i stands)
      (regular-ask i request regular (λ some. stands.idle idle (subst (λ (n : ℕ). 0 < n) stands.call some)) inside)

  standing-asked : standing (history ++ Ask (record { pass = i; call = p.call + 1 }) request ∷ []) i ≡ asked_for (p.call + 1) request
  standing-asked = ap (λ (id : CallId). standing (history ++ Ask id request ∷ []) i) (sym (next-is history i stands)) ∙ standing-ask (shape.block * shape.blocks) history i request regular
      ∙ ap (λ (n : ℕ). asked_for (n + 1) request) stands.call

  others-asked : (j : ℕ) → j ≢ i → standing (history ++ Ask (record { pass = i; call = p.call + 1 }) request ∷ []) j ≡ standing history j
  others-asked j ne = standing-other history (Ask (record { pass = i; call = p.call + 1 }) request) j (λ e. ne (sym e))

after-none : (p : Pass) (r : Asked) (events sectors : ℕ) → HasNone p → HasNone (after_ask p r events sectors)
after-none p (Read first count) events sectors none = record { ticket = none.ticket; fetch = none.fetch }
after-none p (Write first content) events sectors none = record { ticket = none.ticket; fetch = none.fetch }
after-none p Flush events sectors none = record { ticket = none.ticket; fetch = none.fetch }

after-region : (p : Pass) (r : Asked) (events sectors : ℕ) → has_region (after_ask p r events sectors).phase ≡ false
after-region p (Read first count) events sectors = refl
after-region p (Write first content) events sectors = refl
after-region p Flush events sectors = refl

after-call : (p : Pass) (r : Asked) (events sectors : ℕ) → (after_ask p r events sectors).call ≡ p.call + 1
after-call p (Read first count) events sectors = refl
after-call p (Write first content) events sectors = refl
after-call p Flush events sectors = refl

-- A pass asks a request, for which blocks may have got their places.
module _ {shape : Shape} {fresh : List Bool} {places places' : ℕ → Option ℕ} {passes : List Pass} {history : List Entry} {r' : RequestState} {events_left sectors_left i : ℕ} {S B : Type 0} {g : StoreGhosts S} {h : BaseGhosts B} {store : S} {base : B}
    (request : Asked) (co : IsCoherent g h (requests shape fresh passes history) places store base) (at : IsAt passes i (λ p. p.phase ≡ Idle))
    (some : request ≢ Flush → 0 < sectors_asked request) (inside : IsInside (shape.block * shape.blocks) request)
    (extends : KeepsPlaces places places') (placed : ArePlaces shape.block shape.storage_at (g.sectors store) places') (has : IsPlaced shape.block places' request)
    (step : Asks request events_left sectors_left i (requests shape fresh passes history) r') where
  abbrev asking : Pass
  asking = step.pass

  abbrev asked : Pass
  asked = after_ask asking request events_left sectors_left

  asking-idle : asking.phase ≡ Idle
  asking-idle = ap (λ (x : Pass). x.phase) (some-inj (sym step.there ∙ at.1)) ∙ at.2

  grown : IsCoherent g h (requests shape fresh passes history) places' store base
  grown = grown-coherent co places' extends placed

  asking-stands : IsAsHistorySays shape fresh places' (standing history i) asking
  asking-stands = grown.each i asking step.there

  asking-none : HasNone asking
  asking-none = subst (λ ph. HasInFlight ph shape fresh asking) asking-idle asking-stands.ticket

  asking-not : asking.phase ≢ Issuing
  asking-not e = let a = asking-idle in cc

  abbrev ask-id : CallId
  ask-id = record { pass = i; call = asking.call + 1 }

  ask-after : r' ≡ requests shape fresh (slice_set passes i asked) (history ++ Ask ask-id request ∷ [])
  ask-after = step.after ∙ ap (λ (n : ℕ). requests shape fresh (slice_set passes i asked) (history ++ Ask (record { pass = i; call = n }) request ∷ [])) (after-call asking request events_left sectors_left)

  pub asks-coherent : IsCoherent g h r' places' store base
  asks-coherent = rw ask-after
      (wordless-coherent grown i asking step.there asking-none asking-not asked (after-none asking request events_left sectors_left asking-none) (after-region asking request events_left sectors_left)
      (history ++ Ask ask-id request ∷ []) (same-after-ask history ask-id request)
      (regular-asked history i asking-stands grown.regular asking-idle request inside)
      (others-asked history i asking-stands grown.regular asking-idle request inside)
      (subst (λ (t : Standing). IsAsHistorySays shape fresh places' t asked) (sym (standing-asked history i asking-stands grown.regular asking-idle request inside))
      (stands-asked request events_left sectors_left asking-stands asking-idle some inside has)))

  pub asks-faithful : {start : List Sector} {rest : ℕ → Sector} → IsFaithful g start rest (requests shape fresh passes history) places store → IsFaithful g start rest r' places' store
  asks-faithful {start} {rest} fa = rw ask-after
      (wordless-faithful grown i asking step.there asking-none asking-not asked (after-none asking request events_left sectors_left asking-none) (after-region asking request events_left sectors_left)
      (history ++ Ask ask-id request ∷ []) (same-after-ask history ask-id request)
      (grown-faithful co places' extends fa)
      (shown-push start history (Ask ask-id request) fa.shown tt))

  -- after the ask of a write its content is the one that was asked
  pub asks-content : (first : ℕ) (content : List Sector) → request ≡ Write first content → HasAskedWrite r'.entries i content
  asks-content first content is = (first, rw ask-after (ap (λ (t : Standing). t.progress.asked) (standing-asked history i asking-stands grown.regular asking-idle request inside) ∙ ap Some is))

-- A pass asks a write for which too little storage is free.
module _ {shape : Shape} {fresh : List Bool} {places : ℕ → Option ℕ} {passes : List Pass} {history : List Entry} {r' : RequestState} {needed free i : ℕ} {S B : Type 0} {g : StoreGhosts S} {h : BaseGhosts B} {store : S} {base : B}
    (first : ℕ) (content : List Sector) (co : IsCoherent g h (requests shape fresh passes history) places store base) (at : IsAt passes i (λ p. p.phase ≡ Idle))
    (some : 0 < length content) (inside : first + length content ≤ shape.block * shape.blocks)
    (step : AsksFull (Write first content) needed free i (requests shape fresh passes history) r') where
  abbrev full-pass : Pass
  full-pass = step.pass

  abbrev refused : Pass
  refused = record full-pass { call = full-pass.call + 1 }

  full-idle : full-pass.phase ≡ Idle
  full-idle = ap (λ (x : Pass). x.phase) (some-inj (sym step.there ∙ at.1)) ∙ at.2

  full-stands : IsAsHistorySays shape fresh places (standing history i) full-pass
  full-stands = co.each i full-pass step.there

  full-none : HasNone full-pass
  full-none = subst (λ ph. HasInFlight ph shape fresh full-pass) full-idle full-stands.ticket

  full-not : full-pass.phase ≢ Issuing
  full-not e = let a = full-idle in cc

  abbrev full-id : CallId
  full-id = record { pass = i; call = full-pass.call + 1 }

  abbrev full-asked : List Entry
  full-asked = history ++ Ask full-id (Write first content) ∷ []

  abbrev full-reply : Entry
  full-reply = Reply full-id (Full needed free)

  full-state : r' ≡ requests shape fresh (slice_set passes i refused) (full-asked ++ full-reply ∷ [])
  full-state = step.after ∙ ap (requests shape fresh (slice_set passes i refused)) (sym (append_assoc history (Ask full-id (Write first content) ∷ []) (full-reply ∷ [])))

  full-standing : standing full-asked i ≡ asked_for (full-pass.call + 1) (Write first content)
  full-standing = standing-asked history i full-stands co.regular full-idle (Write first content) inside

  full-last : last_of full-asked i ≡ full-id
  full-last = ap (λ (t : Standing). record { pass = i; call = t.call }) full-standing

  full-regular : IsRegular (shape.block * shape.blocks) (full-asked ++ full-reply ∷ [])
  full-regular = subst (λ (id : CallId). IsRegular (shape.block * shape.blocks) (full-asked ++ Reply id (Full needed free) ∷ [])) full-last
      (regular-reply i (Write first content) (Full needed free) (regular-asked history i full-stands co.regular full-idle (Write first content) inside)
      (record { asked = ap (λ (t : Standing). t.progress.asked) full-standing; unanswered = ap (λ (t : Standing). t.progress.answered) full-standing })
      (subst (λ (t : Standing). IsReply (Write first content) t.progress (Full needed free)) (sym full-standing) (answers-full first content needed free some)))

  full-after : standing (full-asked ++ full-reply ∷ []) i ≡ record { call = full-pass.call + 1; progress = progress_after (asked_for (full-pass.call + 1) (Write first content)).progress full-reply }
  full-after = standing-own full-asked full-reply i (sym full-last) tt ∙ ap (λ (t : Standing). record t { progress = progress_after t.progress full-reply }) full-standing

  full-others : (j : ℕ) → j ≢ i → standing (full-asked ++ full-reply ∷ []) j ≡ standing history j
  full-others j ne = standing-other full-asked full-reply j (λ e. ne (sym e)) ∙ others-asked history i full-stands co.regular full-idle (Write first content) inside j ne

  full-same : (start : List Sector) (s : ℕ) → track start (full-asked ++ full-reply ∷ []) s ≡ track start history s
  full-same start s = same-after-reply full-asked full-id (Full needed free) start s ∙ same-after-ask history full-id (Write first content) start s

  refused-none : HasNone refused
  refused-none = record { ticket = full-none.ticket; fetch = full-none.fetch }

  refused-region : has_region refused.phase ≡ false
  refused-region = ap has_region full-idle

  pub asks_full-coherent : IsCoherent g h r' places store base
  asks_full-coherent = rw full-state
      (wordless-coherent co i full-pass step.there full-none full-not refused refused-none refused-region (full-asked ++ full-reply ∷ []) full-same full-regular full-others
      (subst (λ (t : Standing). IsAsHistorySays shape fresh places t refused) (sym full-after) (stands-idle _ refused full-idle refl refl refused-none full-stands.buffer)))

  pub asks_full-faithful : {start : List Sector} {rest : ℕ → Sector} → IsFaithful g start rest (requests shape fresh passes history) places store → IsFaithful g start rest r' places store
  asks_full-faithful {start} {rest} fa = rw full-state
      (wordless-faithful co i full-pass step.there full-none full-not refused refused-none refused-region (full-asked ++ full-reply ∷ []) full-same fa
      (shown-push start full-asked full-reply (shown-push start history (Ask full-id (Write first content)) fa.shown tt) tt))

-- A pass that is ready has its reply.
module _ {shape : Shape} {fresh : List Bool} {places : ℕ → Option ℕ} {passes : List Pass} {history : List Entry} {r' : RequestState} {i : ℕ} {S B : Type 0} {g : StoreGhosts S} {h : BaseGhosts B} {store : S} {base : B} {answer : Answer}
    (co : IsCoherent g h (requests shape fresh passes history) places store base) (at : IsAt passes i (λ p. p.phase ≡ Ready))
    (step : Replies answer i (requests shape fresh passes history) r') where
  abbrev ready-pass : Pass
  ready-pass = step.pass

  abbrev replied : Pass
  replied = after_reply ready-pass

  was-ready : ready-pass.phase ≡ Ready
  was-ready = ap (λ (x : Pass). x.phase) (some-inj (sym step.there ∙ at.1)) ∙ at.2

  was-busy : ready-pass.phase ≢ Idle
  was-busy e = let a = was-ready in cc

  ready-stands : IsAsHistorySays shape fresh places (standing history i) ready-pass
  ready-stands = co.each i ready-pass step.there

  ready-none : HasNone ready-pass
  ready-none = subst (λ ph. HasInFlight ph shape fresh ready-pass) was-ready ready-stands.ticket

  ready-not : ready-pass.phase ≢ Issuing
  ready-not e = let a = was-ready in cc

  abbrev reply : Entry
  reply = Reply (call_id i ready-pass) answer

  reply-regular : IsRegular (shape.block * shape.blocks) (history ++ reply ∷ [])
  reply-regular =
      let b = ready-stands.busy was-busy in
      subst (λ (id : CallId). IsRegular (shape.block * shape.blocks) (history ++ Reply id answer ∷ [])) (last-is history i ready-stands)
      (regular-reply i b.0 answer co.regular (record { asked = b.1; unanswered = ready-stands.unanswered was-busy })
      (subst (λ (a : Answer). IsReply b.0 (standing history i).progress a) (sym step.is)
      (answers ready-pass b.0 (standing history i).progress ready-pass.fault b.2 (ready-stands.done was-busy)
      (ready-stands.pending was-busy ∙ ap (λ ph. pending_of ph ready-pass.piece) was-ready) (ready-stands.unstarted was-busy) (ready-stands.ready was-ready))))

  reply-after : standing (history ++ reply ∷ []) i ≡ record (standing history i) { progress = progress_after (standing history i).progress reply }
  reply-after = standing-own history reply i (sym (last-is history i ready-stands)) tt

  replied-none : HasNone replied
  replied-none = record { ticket = ready-none.ticket; fetch = ready-none.fetch }

  pub replies-coherent : IsCoherent g h r' places store base
  replies-coherent = rw step.after
      (wordless-coherent co i ready-pass step.there ready-none ready-not replied replied-none refl (history ++ reply ∷ []) (same-after-reply history (call_id i ready-pass) answer)
      reply-regular
      (λ j ne. standing-other history reply j (λ e. ne (sym e)))
      (subst (λ (t : Standing). IsAsHistorySays shape fresh places t replied) (sym reply-after) (stands-idle _ replied refl ready-stands.call refl replied-none ready-stands.buffer)))

  pub replies-faithful : {start : List Sector} {rest : ℕ → Sector} → IsFaithful g start rest (requests shape fresh passes history) places store → IsFaithful g start rest r' places store
  replies-faithful {start} {rest} fa = rw step.after
      (wordless-faithful co i ready-pass step.there ready-none ready-not replied replied-none refl (history ++ reply ∷ []) (same-after-reply history (call_id i ready-pass) answer) fa
      (shown-push start history reply fa.shown tt))
