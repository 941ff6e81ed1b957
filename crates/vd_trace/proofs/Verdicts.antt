-- A trace is read in one way, and has no line that is bad or too much.
use Rattle.std.proofs.Common.{◌≡◌, ℕ, zero, suc, ◌⊎◌, inl, inr, List, [], ◌∷◌, ◌++◌, length, take, replicate, Some, ap, refl, sym, ◌∙◌, subst, arith, append-nil, append_assoc}
use Rattle.std.proofs.lemmas.List.Elements.{All-nil}
use Rattle.std.proofs.lemmas.List.{get_or-replicate, length-replicate, length-map}
use Rattle.std.specs.Prelude.{slice_get, map, Vec}
use Rattle.std.specs.declared.alloc.Global.{Global}
use Rattle.std.specs.Str.Lines.{lines}
use Rattle.vd_trace.specs.declared.kept.Draft.{Draft}
use Rattle.vd_trace.specs.declared.line.Line.{Line}
use Rattle.vd_trace.specs.declared.error.TraceError.{TraceError}
use Rattle.vd_trace.specs.declared.error.TraceError.TheVariants.{Bad, TooMuch, Source, NoMemory}
use Rattle.vd_trace.specs.Lines.{IsGood, KeepsLimits}
use Rattle.vd_trace.specs.Traces.{SpellsLines, SpellsTrace, GoesTo, IsFirstBad, IsFirstTooMuch, script_of}
use Rattle.vd_trace.specs.Keeping.{lists, asking_of, showing_of, KeepsLines, HasReadLines}
use Rattle.vd_trace.specs.Streaming.{EndsBy}
use Rattle.vd_trace.specs.Texts.{IsScript}
use Rattle.vd_trace.specs.TraceFields.{IsTrace}
use Rattle.vd_trace.proofs.LineLaws.{line-unique}
use Rattle.vd_trace.proofs.Ranges.{script-ranged}

pub spells-unique : (guests : ℕ) (before : List Line) (all : List (List ℕ)) (a b : List Line) → SpellsLines guests before all a → SpellsLines guests before all b → a ≡ b
spells-unique guests before [] [] [] first second = refl
spells-unique guests before [] (x ∷ a) b first second = absurd first
spells-unique guests before [] [] (y ∷ b) first second = absurd second
spells-unique guests before (line ∷ all) [] b first second = absurd first
spells-unique guests before (line ∷ all) (x ∷ a) [] first second = absurd second
spells-unique guests before (line ∷ all) (x ∷ a) (y ∷ b) first second =
    let same : y ≡ x = line-unique guests line y x second.0.spells first.0.spells in
    let rest : a ≡ b = spells-unique guests (before ++ x ∷ []) all a b first.2 (subst (λ (z : Line). SpellsLines guests (before ++ z ∷ []) all b) same second.2) in
    cc

-- the line at a place of a trace, behind those before it
pub record IsAt (guests : ℕ) (before : List Line) (all : List (List ℕ)) (says : List Line) (n : ℕ) (line : List ℕ) : Type 0 where
  pub here : Line
  pub good : IsGood guests (before ++ take n says) line here
  pub within : KeepsLimits (before ++ take n says) here
  pub front : SpellsLines guests before (take n all) (take n says)

spells-at : (guests : ℕ) (before : List Line) (all : List (List ℕ)) (says : List Line) (n : ℕ) (line : List ℕ) → SpellsLines guests before all says → slice_get all n ≡ Some line → IsAt guests before all says n line
spells-at guests before [] says n line spelled there = cc
spells-at guests before (x ∷ all) [] n line spelled there = absurd spelled
spells-at guests before (x ∷ all) (s ∷ says) zero line spelled there =
    let same : x ≡ line = cc in
    let none : before ≡ before ++ [] = sym (append-nil before) in
    record {
      here = s;
      good = subst (λ (b : List Line). IsGood guests b line s) none (subst (λ (l : List ℕ). IsGood guests before l s) same spelled.0);
      within = subst (λ (b : List Line). KeepsLimits b s) none spelled.1;
      front = tt;
    }
spells-at guests before (x ∷ all) (s ∷ says) (suc n) line spelled there =
    let more = spells-at guests (before ++ s ∷ []) all says n line spelled.2 there in
    let whole : (before ++ s ∷ []) ++ take n says ≡ before ++ (s ∷ take n says) = append_assoc before (s ∷ []) (take n says) in
    record {
      here = more.here;
      good = subst (λ (b : List Line). IsGood guests b line more.here) whole more.good;
      within = subst (λ (b : List Line). KeepsLimits b more.here) whole more.within;
      front = (spelled.0, spelled.1, more.front);
    }

-- what stands before a place that a trace goes to is what it says there
goes-at : (guests : ℕ) (all : List (List ℕ)) (says : List Line) (number : ℕ) (before : List Line) (line : List ℕ) → SpellsLines guests [] all says → GoesTo guests all number before line →
    (here : Line) × IsGood guests before line here × KeepsLimits before here
goes-at guests all says number before line spelled goes =
    let at = spells-at guests [] all says (length before) line spelled goes.there in
    let same : take (length before) says ≡ before = spells-unique guests [] (take (length before) all) (take (length before) says) before at.front goes.good in
    (at.here, subst (λ (b : List Line). IsGood guests b line at.here) same at.good, subst (λ (b : List Line). KeepsLimits b at.here) same at.within)

not-bad : (guests : ℕ) (all : List (List ℕ)) (says : List Line) (number : ℕ) → SpellsLines guests [] all says → IsFirstBad guests all number → ⊥
not-bad guests all says number spelled bad = let at = goes-at guests all says number bad.0 bad.1 spelled bad.2 in bad.3 at.0 at.1

not-much : (guests : ℕ) (all : List (List ℕ)) (says : List Line) (number : ℕ) → SpellsLines guests [] all says → IsFirstTooMuch guests all number → ⊥
not-much guests all says number spelled much =
    let at = goes-at guests all says number much.0 much.1 spelled much.3 in
    let same : at.0 ≡ much.2 = line-unique guests much.1 at.0 much.2 at.1.spells much.4.spells in
    much.5 (subst (KeepsLimits much.0) same at.2)

-- a trace is refused for its lines by no error
pub accepts-err : (guests : ℕ) (bytes : List ℕ) (says : List Line) (told : Type 0) (e : TraceError) → told → SpellsTrace guests bytes says → EndsBy guests (lines bytes) told e → (e ≡ Source) ⊎ (e ≡ NoMemory)
accepts-err guests bytes says told (Bad number) now spelled ends = absurd (not-bad guests (lines bytes) says number spelled (ends now))
accepts-err guests bytes says told (TooMuch number) now spelled ends = absurd (not-much guests (lines bytes) says number spelled (ends now))
accepts-err guests bytes says told Source now spelled ends = inl refl
accepts-err guests bytes says told NoMemory now spelled ends = inr refl

-- nothing is kept of no lines
pub empty-read : (draft : Draft) → draft.items.items ≡ [] → draft.sectors.items ≡ [] → draft.shows.items ≡ [] → lists draft.places.items ≡ replicate draft.guests [] → draft.lines ≡ 0 → draft.total ≡ 0 → HasReadLines [] draft
empty-read draft items sectors shows places count total = record {
  says = [];
  spelled = tt;
  kept = record {
    items = record {
      told = ap (map (asking_of draft.sectors.items)) items;
      stored = rw items (All-nil _);
      guests_in = rw items (All-nil _);
      sized = rw items (All-nil _);
      many = ap length places ∙ length-replicate draft.guests [];
      placed = λ k inside. rw (places, items) (get_or-replicate draft.guests k [] [] inside);
    };
    shows = ap (map showing_of) shows;
    lines = count;
    total = total;
    few = omega arith;
    small = omega arith;
    items_few = omega (arith, ap length items);
    sectors_few = omega (arith, ap length sectors);
    asked_few = rw items (omega arith);
  };
}

-- what is kept of these lines is their script
pub kept-script : (draft : Draft) (says : List Line) → KeepsLines says draft →
    record { guests = length draft.places.items; asks = map (asking_of draft.sectors.items) draft.items.items; shows = map showing_of draft.shows.items } ≡ script_of draft.guests says
kept-script draft says keeps =
    let many : length draft.places.items ≡ draft.guests = sym (length-map draft.places.items (λ (v : Vec ℕ Global). v.items)) ∙ keeps.items.many in
    rw (many, keeps.items.told, keeps.shows) refl

pub accepts-ok : (guests : ℕ) (bytes : List ℕ) (says : List Line) (draft : Draft) → draft.guests ≡ guests → SpellsTrace guests bytes says → HasReadLines (lines bytes) draft →
    record { guests = length draft.places.items; asks = map (asking_of draft.sectors.items) draft.items.items; shows = map showing_of draft.shows.items } ≡ script_of guests says
accepts-ok guests bytes says draft is spelled read =
    let own : SpellsLines guests [] (lines bytes) read.says = rw is at read.spelled in
    let same : read.says ≡ says = spells-unique guests [] (lines bytes) read.says says own spelled in
    kept-script draft read.says read.kept ∙ ap (λ (n : ℕ). script_of n read.says) is ∙ ap (script_of guests) same

-- what is kept of lines that were read is a trace
pub kept-trace : (draft : Draft) (done : List (List ℕ)) → HasReadLines done draft → IsTrace (record { items = draft.items; sectors = draft.sectors; places = draft.places; shows = draft.shows })
kept-trace draft done read =
    let keeps = read.kept in
    let many : length draft.places.items ≡ draft.guests = sym (length-map draft.places.items (λ (v : Vec ℕ Global). v.items)) ∙ keeps.items.many in
    record {
      items = rw (many, keeps.items.told) keeps.items;
      few = omega (arith, keeps.items_few, keeps.few);
      small = omega (arith, keeps.asked_few, keeps.small);
      script = subst IsScript (sym (kept-script draft read.says keeps)) (script-ranged draft.guests done read.says read.spelled keeps.few keeps.small);
    }
