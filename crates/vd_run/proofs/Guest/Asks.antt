-- Which requests a pass has asked, as entries are added.
use Rattle.std.proofs.Common.{◌≡◌, ℕ, ◌+◌, ◌≤◌, List, [], ◌∷◌, ◌++◌, length, refl, sym, ◌∙◌, ap, subst, inl, inr, append_assoc, append-nil, arith, Option}
use Rattle.std.specs.List.{AllByRecursion}
use Rattle.std.proofs.lemmas.List.Concat.{flat_map-append}
use Rattle.vd_law.specs.declared.entry.Room.{Room}
use Rattle.vd_law.specs.declared.entry.Sector.{Sector}
use Rattle.vd_law.specs.declared.entry.Answer.{Answer}
use Rattle.vd_law.specs.Entries.{Asked, Read, Write, Flush, Entry, Ask, Issue, Done, Broke, Seen, Reply, IsNoAsk}
use Rattle.vd_law.specs.Logs.{asked_content}
use Rattle.vd_law.specs.Histories.{HistoryState}
use Rattle.vd_table.specs.Tables.{TableState}
use Rattle.vd_passes.specs.declared.shape.Shape.{Shape}
use Rattle.vd_passes.specs.declared.pass.Pass.{Pass}
use Rattle.vd_passes.specs.Requests.{RequestState}
use Rattle.vd_passes.specs.Steps.{HasAskedWrite}
use Rattle.vd_drive.proofs.Serving.{write-stays}
use Rattle.vd_core.specs.declared.outcome.Step.{Step}
use Rattle.vd_machine.specs.Asking.{AskEnds, EndsFull, EndsAsked, Exceeds, Suffices, ask_state}
use Rattle.vd_drive.specs.Moves.{Drives, work}
use Rattle.vd_run.specs.Serving.{asked_by, requests_in, AddsAnsweredFlush}
use Rattle.vd_run.specs.Driving.{IsAskOf, Serves}
use Rattle.vd_law.specs.Needs.{request_room}
use Rattle.vd_lists.proofs.Elements.{each_append}

-- entries that are no Asks
no-requests : (pass : ℕ) (more : List Entry) → AllByRecursion IsNoAsk more → requests_in more pass ≡ []
no-requests pass [] none = refl
no-requests pass (Ask id request ∷ more) none = absurd none.0
no-requests pass (Issue id first content ∷ more) none = no-requests pass more none.1
no-requests pass (Done id ∷ more) none = no-requests pass more none.1
no-requests pass (Broke id ∷ more) none = no-requests pass more none.1
no-requests pass (Seen id first content ∷ more) none = no-requests pass more none.1
no-requests pass (Reply id answer ∷ more) none = no-requests pass more none.1

no-asks-of : (pass : ℕ) (more : List Entry) → AllByRecursion IsNoAsk more → AllByRecursion (IsAskOf pass) more
no-asks-of pass [] none = tt
no-asks-of pass (Ask id request ∷ more) none = absurd none.0
no-asks-of pass (Issue id first content ∷ more) none = (tt, no-asks-of pass more none.1)
no-asks-of pass (Done id ∷ more) none = (tt, no-asks-of pass more none.1)
no-asks-of pass (Broke id ∷ more) none = (tt, no-asks-of pass more none.1)
no-asks-of pass (Seen id first content ∷ more) none = (tt, no-asks-of pass more none.1)
no-asks-of pass (Reply id answer ∷ more) none = (tt, no-asks-of pass more none.1)

-- A step of a driver leaves what is served.
pub serves-on : {step : Step} {request : Asked} {block shape_block : ℕ} {passes passes' : List Pass} {entries between entries' : List Entry} {left mid left' : Room}
    → Drives step shape_block 1 (work passes between mid) (work passes' entries' left') → Serves request block entries between left mid → Serves request block entries entries' left left'
serves-on {entries = entries} {between = between} drives serves =
    let moves = drives.moves in record {
      asked = ap (λ (es : List Entry). requests_in es 1) moves.entries_after ∙ flat_map-append (asked_by 1) between moves.more
          ∙ ap (λ (rs : List Asked). requests_in between 1 ++ rs) (no-requests 1 moves.more moves.none_asked) ∙ append-nil (requests_in between 1) ∙ serves.asked;
      alone = λ before. subst (AllByRecursion (IsAskOf 1)) (sym moves.entries_after) (each_append (IsAskOf 1) between moves.more (serves.alone before) (no-asks-of 1 moves.more moves.none_asked));
      events_left = let a = serves.events_left in let b = drives.events_left in omega arith;
      sectors_left = let a = serves.sectors_left in let b = drives.sectors_left in omega arith;
    }

-- What pass 1 has asked to write stays what it has asked.
asked-after : (history more : List Entry) (content : List Sector) → AllByRecursion IsNoAsk more → HasAskedWrite history 1 content → HasAskedWrite (history ++ more) 1 content
asked-after history [] content none asked = subst (λ (h : List Entry). HasAskedWrite h 1 content) (sym (append-nil history)) asked
asked-after history (e ∷ more) content none asked =
    subst (λ (h : List Entry). HasAskedWrite h 1 content) (append_assoc history (e ∷ []) more) (asked-after (history ++ e ∷ []) more content none.1 (write-stays history e 1 content none.0 asked))

pub still-asked : {step : Step} {block : ℕ} {passes passes' : List Pass} {entries entries' : List Entry} {left left' : Room} (content : List Sector)
    → Drives step block 1 (work passes entries left) (work passes' entries' left') → HasAskedWrite entries 1 content → HasAskedWrite entries' 1 content
still-asked {entries = entries} content drives asked =
    let moves = drives.moves in subst (λ (h : List Entry). HasAskedWrite h 1 content) (sym moves.entries_after) (asked-after entries moves.more content moves.none_asked asked)

-- An Ask alone and a Full take no more than the request needs.
some-needed : (block : ℕ) (request : Asked) → (2 ≤ (request_room block request).events) × (length (asked_content request) ≤ (request_room block request).sectors)
some-needed block (Read first count) = (omega arith, omega arith)
some-needed block (Write first content) = (omega arith, omega arith)
some-needed block Flush = (omega arith, omega arith)

pub too-much : {X : Type 0} {need left : Room} → Exceeds need left → Suffices need left → X
too-much (inl less) (events, sectors) = absurd (omega (arith, less, events))
too-much (inr less) (events, sectors) = absurd (omega (arith, less, sectors))

module _ {request : Asked} {shape shape' : Shape} {events : ℕ} {table table' : TableState} {passes passes' : List Pass} {history history' : HistoryState} {left left' : Room} where
  full-serves : {needed free : ℕ} → EndsFull request needed free events 1 (ask_state shape table passes history left) (ask_state shape' table' passes' history' left') → Serves request shape.block history.log.entries history'.log.entries left left'
  full-serves full =
      let needed = some-needed shape.block request in
      let more_events = ap (λ (r : Room). r.events) full.left_after in let more_sectors = ap (λ (r : Room). r.sectors) full.left_after in record {
        asked = ap (λ (r : RequestState). requests_in r.entries 1) (full.asks []).after ∙ flat_map-append (asked_by 1) history.log.entries _;
        alone = λ before. subst (AllByRecursion (IsAskOf 1)) (sym (ap (λ (r : RequestState). r.entries) (full.asks []).after)) (each_append (IsAskOf 1) history.log.entries _ before (refl, (tt, tt)));
        events_left = omega (arith, more_events, needed.0);
        sectors_left = omega (arith, more_sectors, needed.1);
      }

  asked-serves : EndsAsked request events 1 (ask_state shape table passes history left) (ask_state shape' table' passes' history' left') → Serves request shape.block history.log.entries history'.log.entries left left'
  asked-serves asked =
      let more_events = ap (λ (r : Room). r.events) asked.left_after in let more_sectors = ap (λ (r : Room). r.sectors) asked.left_after in record {
        asked = ap (λ (r : RequestState). requests_in r.entries 1) (asked.asks []).after ∙ flat_map-append (asked_by 1) history.log.entries _;
        alone = λ before. subst (AllByRecursion (IsAskOf 1)) (sym (ap (λ (r : RequestState). r.entries) (asked.asks []).after)) (each_append (IsAskOf 1) history.log.entries _ before (refl, tt));
        events_left = omega (arith, more_events);
        sectors_left = omega (arith, more_sectors);
      }

  -- A request for which there is room is asked,
  pub ask-serves : (result : Option Answer) → Suffices (request_room shape.block request) left → AskEnds result request events 1 (ask_state shape table passes history left) (ask_state shape' table' passes' history' left') → Serves request shape.block history.log.entries history'.log.entries left left'
  ask-serves result room (inl (exceeds, is, same)) = too-much exceeds room
  ask-serves result room (inr (inl (needed, free, is, full))) = full-serves full
  ask-serves result room (inr (inr (none, asked))) = asked-serves asked

-- whatever is answered, there is as much storage
pub ask-keeps : {request : Asked} {shape shape' : Shape} {pass events : ℕ} {table table' : TableState} {passes passes' : List Pass} {history history' : HistoryState} {left left' : Room} (result : Option Answer)
    → AskEnds result request events pass (ask_state shape table passes history left) (ask_state shape' table' passes' history' left')
    → (length table'.chunks ≡ length table.chunks) × (table'.storage ≡ table.storage)
ask-keeps result (inl (exceeds, is, same)) = (ap (λ (t : TableState). length t.chunks) same.table_same, ap (λ (t : TableState). t.storage) same.table_same)
ask-keeps result (inr (inl (needed, free, is, full))) = (ap (λ (t : TableState). length t.chunks) full.table_same, ap (λ (t : TableState). t.storage) full.table_same)
ask-keeps result (inr (inr (none, asked))) = (asked.claims.chunks, asked.claims.storage)

-- a flush by pass 1 is one request of its
pub flush-serves : {answer : Answer} {block : ℕ} {entries entries' : List Entry} {left left' : Room} → AddsAnsweredFlush 1 answer entries entries' → (left.events ≤ left'.events + 2) × (left.sectors ≤ left'.sectors)
    → Serves Flush block entries entries' left left'
flush-serves {entries = entries} flushes room = record {
  asked = ap (λ (es : List Entry). requests_in es 1) flushes.after ∙ flat_map-append (asked_by 1) entries _;
  alone = λ before. subst (AllByRecursion (IsAskOf 1)) (sym flushes.after) (each_append (IsAskOf 1) entries _ before (refl, (tt, tt)));
  events_left = room.0;
  sectors_left = (let sectors = room.1 in omega arith);
}
