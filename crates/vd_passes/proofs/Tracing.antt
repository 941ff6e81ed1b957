-- What is known of the places of calls stays known while the history and the store's log grow at their ends.
use Rattle.std.proofs.Common.{◌≡◌, ◌≢◌, ℕ, zero, suc, ◌+◌, ◌<◌, ◌≤◌, ◌⊎◌, Bool, true, false, if◌then◌else◌, List, [], ◌∷◌, ◌++◌, length, refl, sym, ◌∙◌, ap, subst, inl, inr, arith, length-append, append-nil, Some, None, slice_get, slice_set}
use Rattle.std.specs.Prelude.{nat_lt}
use Rattle.std.proofs.lemmas.Option.{slice_get_within}
use Rattle.vd_lists.proofs.Places.{slice_get_front}
use Rattle.vd_law.specs.declared.entry.Sector.{Sector}
use Rattle.vd_law.specs.declared.entry.CallId.{CallId}
use Rattle.vd_law.specs.declared.entry.Answer.TheVariants.{StoreFault}
use Rattle.vd_law.specs.Entries.{Asked, Read, Write, Flush, Entry, Ask, Issue, Reply}
use Rattle.vd_device.specs.declared.ticket.Ticket.{Ticket}
use Rattle.vd_device.specs.declared.ticket.Kind.{Kind}
use Rattle.vd_device.specs.declared.ticket.Kind.TheVariants as kind
use Rattle.vd_device.specs.Calls.{failed_entry}
use Rattle.vd_passes.specs.declared.pass.Pass.{Pass}
use Rattle.vd_passes.specs.declared.pass.Phase.{Phase}
use Rattle.vd_passes.specs.declared.pass.Phase.TheVariants.{Idle, Asked as HasAsked, Issuing, Looking, Ready}
use Rattle.vd_passes.specs.declared.pass.Fault.TheVariants as fault
use Rattle.vd_passes.specs.Passes.{call_id, IsRequestOf, IsNew, after_piece, after_spending}
use Rattle.vd_passes.specs.Tracing.{IsFailure, FailsBetween, IsReadIn, IsIssueAt, IsLastIssue, IsTicketOf, IsTraced, AreTraced}
use Rattle.vd_passes.specs.Following.{IsAsked, IsFollowedPass, IsFollowed}
use Rattle.vd_passes.proofs.Lists.{some-inj, at-set}
use Rattle.vd_passes.proofs.Regions.{request-kept}

-- Lists that grow at their ends.

-- the one list is the front of the other
pub record IsFront {X : Type 0} (xs ys : List X) : Type 0 where
  pub rest : List X
  pub is : ys ≡ xs ++ rest

pub front-same : {X : Type 0} {xs ys : List X} → IsFront xs ys → (k : ℕ) → k < length xs → slice_get ys k ≡ slice_get xs k
front-same {X} {xs} {ys} front k inside = ap (λ (zs : List X). slice_get zs k) front.is ∙ slice_get_front xs front.rest k inside

pub front-get : {X : Type 0} {xs ys : List X} → IsFront xs ys → (k : ℕ) (x : X) → slice_get xs k ≡ Some x → slice_get ys k ≡ Some x
front-get {X} {xs} {ys} front k x there = front-same front k (slice_get_within xs k x there) ∙ there

pub front-long : {X : Type 0} {xs ys : List X} → IsFront xs ys → length xs ≤ length ys
front-long {X} {xs} {ys} front = omega (arith, ap length front.is, length-append xs front.rest)

pub front-pushed : {X : Type 0} (xs : List X) (x : X) → IsFront xs (xs ++ x ∷ [])
front-pushed xs x = record { rest = x ∷ []; is = refl }

pub front-itself : {X : Type 0} (xs : List X) → IsFront xs xs
front-itself xs = record { rest = []; is = sym (append-nil xs) }

pub length-pushed : {X : Type 0} (xs : List X) (x : X) → length (xs ++ x ∷ []) ≡ suc (length xs)
length-pushed xs x = omega (arith, length-append xs (x ∷ []))

pub last-pushed : {X : Type 0} (xs : List X) (x : X) → slice_get (xs ++ x ∷ []) (length xs) ≡ Some x
last-pushed [] x = refl
last-pushed (y ∷ xs) x = last-pushed xs x

-- a member of the longer list is an old one or the last
pub at-pushed : {X : Type 0} (xs : List X) (e x : X) (k : ℕ) → slice_get (xs ++ e ∷ []) k ≡ Some x → ((k < length xs) × (slice_get xs k ≡ Some x)) ⊎ ((k ≡ length xs) × (x ≡ e))
at-pushed [] e x zero h = inr (refl, some-inj (sym h))
at-pushed [] e x (suc k) h = absurd (cc)
at-pushed (y ∷ xs) e x zero h = inl (omega arith, h)
at-pushed (y ∷ xs) e x (suc k) h = elim (at-pushed xs e x k h) [
  | inl old ↦ inl (omega arith, old.1)
  | inr new ↦ inr (ap suc new.0, new.1)
]

-- Single places.

pub read_in-kept : {log log' : List Entry} → IsFront log log' → (ticket : ℕ) → IsReadIn log ticket → IsReadIn log' ticket
read_in-kept {log} {log'} more ticket is = (is.0, is.1, is.2, front-get more is.0 _ is.3)

pub issue_at-kept : {log log' : List Entry} → IsFront log log' → (ticket at : ℕ) → IsIssueAt log ticket at → IsIssueAt log' ticket at
issue_at-kept {log} {log'} more ticket at is = (is.0, is.1, front-get more at _ is.2)

pub fails-kept : {log log' : List Entry} {ticket from now now' : ℕ} → IsFront log log' → now ≤ now' → FailsBetween log ticket from now → FailsBetween log' ticket from now'
fails-kept {log} {log'} {ticket} {from} {now} {now'} more later was = record {
  at = was.at;
  entry = was.entry;
  there = front-get more was.at was.entry was.there;
  fails = was.fails;
  after = was.after;
  before = omega (arith, was.before);
}

-- Issues of a call.

-- the entry is no Issue of this call
abbrev pub IsNoIssueOf : CallId → Entry → Type 0
IsNoIssueOf id (Issue other first content) = other ≢ id
IsNoIssueOf id e = Unit {0}

-- the Issues of the call before place to' of the longer history are those before place `to` of the shorter one
pub record KeepsIssues (id : CallId) (history history' : List Entry) (to to' : ℕ) : Type 0 where
  pub rise : to ≤ to'
  pub old : (k first : ℕ) (content : List Sector) → k < to' → slice_get history' k ≡ Some (Issue id first content) → (k < to) × (slice_get history k ≡ Some (Issue id first content))

pub issues-below : {history history' : List Entry} → IsFront history history' → (id : CallId) (to : ℕ) → to ≤ length history → KeepsIssues id history history' to to
issues-below {history} {history'} more id to inside = record {
  rise = omega arith;
  old = λ k first content before is. (before, sym (front-same more k (omega arith)) ∙ is);
}

pub issues-pushed : (history : List Entry) (e : Entry) (id : CallId) → IsNoIssueOf id e → KeepsIssues id history (history ++ e ∷ []) (length history) (length (history ++ e ∷ []))
issues-pushed history e id none = record {
  rise = omega (arith, length-pushed history e);
  old = λ k first content before is. elim (at-pushed history e (Issue id first content) k is) [
    | inl was ↦ was
    | inr new ↦ absurd (subst (IsNoIssueOf id) (sym new.1) none refl)
  ];
}

pub last_issue-kept : {history history' : List Entry} {id : CallId} {at to to' : ℕ} → IsFront history history' → KeepsIssues id history history' to to' → IsLastIssue history id at to → IsLastIssue history' id at to'
last_issue-kept {history} {history'} {id} {at} {to} {to'} more keeps was = record {
  first = was.first;
  content = was.content;
  there = front-get more at _ was.there;
  before = let a = was.before in let b = keeps.rise in omega arith;
  last = λ k other rest after before is. let o = keeps.old k other rest before is in was.last k other rest after o.0 o.1;
}

-- Tickets and failures, as the log, the history and its numbers grow.
module _ {log log' history history' : List Entry} {numbers numbers' : List ℕ} (told : IsFront log log') (added : IsFront history history') (numbered : IsFront numbers numbers') where
  pub ticket-kept : {id : CallId} {to to' : ℕ} → KeepsIssues id history history' to to' → (request : Asked) (ticket : ℕ) → IsTicketOf request log history numbers id ticket to → IsTicketOf request log' history' numbers' id ticket to'
  ticket-kept {id} {to} {to'} keeps (Read first count) ticket is = read_in-kept told ticket is
  ticket-kept {id} {to} {to'} keeps (Write first content) ticket is = (is.0, is.1, last_issue-kept added keeps is.2, front-get numbered is.0 is.1 is.3, issue_at-kept told ticket is.1 is.4)
  ticket-kept {id} {to} {to'} keeps Flush ticket is = tt

  pub traced-kept : {id : CallId} {ticket to to' now now' : ℕ} → KeepsIssues id history history' to to' → now ≤ now' → IsTraced log history numbers id ticket to now → IsTraced log' history' numbers' id ticket to' now'
  traced-kept {id} {ticket} {to} {to'} {now} {now'} keeps later was = record {
    at = was.at;
    request = was.request;
    asked = front-get added was.at _ was.asked;
    number = was.number;
    numbered = front-get numbered was.at was.number was.numbered;
    failed = fails-kept told later was.failed;
    ticket_is = ticket-kept keeps was.request ticket was.ticket_is;
  }

-- Replies.

pub are_traced-told : {log log' history : List Entry} {numbers : List ℕ} → IsFront log log' → AreTraced log history numbers → AreTraced log' history numbers
are_traced-told {log} {log'} {history} {numbers} told was to id ticket done now is numbered =
    traced-kept told (front-itself history) (front-itself numbers)
    (issues-below (front-itself history) id to (let inside = slice_get_within history to _ is in omega arith)) (omega arith) (was to id ticket done now is numbered)

-- one more entry, which is traced where it tells a store fault
pub are_traced-pushed : {log history : List Entry} {numbers : List ℕ} → length numbers ≡ length history → AreTraced log history numbers → (e : Entry) (n : ℕ)
    → ((id : CallId) (ticket done : ℕ) → e ≡ Reply id (StoreFault ticket done) → IsTraced log history numbers id ticket (length history) n) → AreTraced log (history ++ e ∷ []) (numbers ++ n ∷ [])
are_traced-pushed {log} {history} {numbers} many was e n new to id ticket done now is numbered =
    let keeps : (at : ℕ) → at ≤ length history → KeepsIssues id history (history ++ e ∷ []) at at = issues-below (front-pushed history e) id in
    elim (at-pushed history e (Reply id (StoreFault ticket done)) to is) [
      | inl old ↦ traced-kept (front-itself log) (front-pushed history e) (front-pushed numbers n) (keeps to (omega (arith, old.0))) (omega arith)
          (was to id ticket done now old.1 (sym (front-same (front-pushed numbers n) to (omega (arith, old.0, many))) ∙ numbered))
      | inr last ↦
          let number : n ≡ now = some-inj (sym (last-pushed numbers n) ∙ ap (slice_get (numbers ++ n ∷ [])) (many ∙ sym last.0) ∙ numbered) in
          traced-kept (front-itself log) (front-pushed history e) (front-pushed numbers n)
          (subst (λ (at : ℕ). KeepsIssues id history (history ++ e ∷ []) (length history) at) (sym last.0) (keeps (length history) (omega arith))) (omega (arith, number)) (new id ticket done (sym last.1))
    ]

-- Passes.

-- A pass keeps what is known of it where no Issue of its call is added while it issues or has failed.
pub grown-pass : {log log' history history' : List Entry} {numbers numbers' : List ℕ} {i : ℕ} {p : Pass} → IsFront log log' → IsFront history history' → IsFront numbers numbers'
    → ((p.phase ≡ Issuing) ⊎ (p.phase ≡ Ready) → KeepsIssues (call_id i p) history history' (length history) (length history')) → IsFollowedPass i p history numbers log → IsFollowedPass i p history' numbers' log'
grown-pass {log} {log'} {history} {history'} {numbers} {numbers'} {i} {p} told added numbered keeps was = record {
  asked = λ busy. let a = was.asked busy in record {
    at = a.at;
    request = a.request;
    asked = front-get added a.at _ a.asked;
    of_pass = a.of_pass;
    number = a.number;
    numbered = front-get numbered a.at a.number a.numbered;
    passed = let c = a.passed in let d = front-long told in omega arith;
  };
  issuing = λ is t has request of_pass. ticket-kept told added numbered (keeps (inl is)) request t.number (was.issuing is t has request of_pass);
  looking = λ is t has. read_in-kept told t.number (was.looking is t has);
  failed = λ is ticket why. traced-kept told added numbered (keeps (inr is)) (front-long told) (was.failed is ticket why);
}

-- All passes.
module _ {passes : List Pass} {history : List Entry} {numbers : List ℕ} {log : List Entry} (followed : IsFollowed passes history numbers log) where
  -- The log grows.
  pub less-followed : {log' : List Entry} (more : List Entry) → log' ≡ log ++ more → IsFollowed passes history numbers log'
  less-followed {log'} more is = let told : IsFront log log' = record { rest = more; is = is } in record {
    many = followed.many;
    each = λ j q there. grown-pass told (front-itself history) (front-itself numbers) (λ busy. issues-below (front-itself history) (call_id j q) (length history) (omega arith)) (followed.each j q there);
    replied = are_traced-told told followed.replied;
  }

  -- One more entry, which is no Issue of a pass that issues or has failed, and which is traced where it tells a store fault.
  pub pushed-followed : (e : Entry) (n : ℕ) → ((j : ℕ) (q : Pass) → slice_get passes j ≡ Some q → (q.phase ≡ Issuing) ⊎ (q.phase ≡ Ready) → IsNoIssueOf (call_id j q) e)
      → ((id : CallId) (ticket done : ℕ) → e ≡ Reply id (StoreFault ticket done) → IsTraced log history numbers id ticket (length history) n) → IsFollowed passes (history ++ e ∷ []) (numbers ++ n ∷ []) log
  pushed-followed e n none new = record {
    many = let m = followed.many in omega (arith, length-pushed history e, length-pushed numbers n);
    each = λ j q there. grown-pass (front-itself log) (front-pushed history e) (front-pushed numbers n) (λ busy. issues-pushed history e (call_id j q) (none j q there busy)) (followed.each j q there);
    replied = are_traced-pushed followed.many followed.replied e n new;
  }

  -- A pass changes.
  pub set-followed : {i : ℕ} {p p' : Pass} → slice_get passes i ≡ Some p → IsFollowedPass i p' history numbers log → IsFollowed (slice_set passes i p') history numbers log
  set-followed {i} {p} {p'} there now = record {
    many = followed.many;
    each = λ j q at. elim (at-set passes i j p' p q there at) [
      | inl same ↦ subst (λ (k : ℕ). IsFollowedPass k q history numbers log) (sym same.0) (subst (λ (x : Pass). IsFollowedPass i x history numbers log) (sym same.1) now)
      | inr other ↦ followed.each j q other.1
    ];
    replied = followed.replied;
  }

  pub followed-traced : AreTraced log history numbers
  followed-traced = followed.replied

-- before anything is asked
pub new-followed : {passes : List Pass} {buffer : List Sector} → ((i : ℕ) (p : Pass) → slice_get passes i ≡ Some p → IsNew buffer p) → (log : List Entry) → IsFollowed passes [] [] log
new-followed {passes} {buffer} new log = record {
  many = refl;
  each = λ i p there. let idle = (new i p there).phase in record {
    asked = λ busy. absurd (busy idle);
    issuing = λ is. absurd (cc);
    looking = λ is. absurd (cc);
    failed = λ is. absurd (cc);
  };
  replied = λ to id ticket done now is. absurd (cc);
}

-- What is known of a pass after a step of its own.

-- A pass that goes on with its request, and neither issues, nor looks, nor has failed by the store.
module _ {history : List Entry} {numbers : List ℕ} {log : List Entry} {i : ℕ} {p : Pass} (was : IsFollowedPass i p history numbers log) (busy : p.phase ≢ Idle) (p' : Pass)
    (call : p'.call ≡ p.call) (write : p'.write ≡ p.write) (first : p'.first ≡ p.first) (count : p'.count ≡ p.count) (flush : p'.flush ≡ p.flush) where
  pub asked-on : IsAsked i p' history numbers log
  asked-on = let a = was.asked busy in record {
    at = a.at;
    request = a.request;
    asked = a.asked ∙ ap (λ (c : ℕ). Some (Ask (record { pass = i; call = c }) a.request)) (sym call);
    of_pass = request-kept p p' a.request write first count flush a.of_pass;
    number = a.number;
    numbered = a.numbered;
    passed = a.passed;
  }

  pub goes-on : p'.phase ≢ Issuing → p'.phase ≢ Looking → (p'.phase ≡ Ready → (ticket : ℕ) → p'.fault ≢ Some (fault.Store ticket)) → IsFollowedPass i p' history numbers log
  goes-on issues_not looks_not fails_not = record {
    asked = λ b. asked-on;
    issuing = λ is. absurd (issues_not is);
    looking = λ is. absurd (looks_not is);
    failed = λ is ticket why. absurd (fails_not is ticket why);
  }

  pub fails-on : (ticket : ℕ) → p'.phase ≡ Ready → p'.fault ≡ Some (fault.Store ticket) → IsTraced log history numbers (call_id i p) ticket (length history) (length log) → IsFollowedPass i p' history numbers log
  fails-on ticket ready why traced = record {
    asked = λ b. asked-on;
    issuing = λ is. absurd (cc);
    looking = λ is. absurd (cc);
    failed = λ is other names.
        let same : ticket ≡ other = cc in
        subst (λ (t : ℕ). IsTraced log history numbers (call_id i p') t (length history) (length log)) same
        (subst (λ (c : ℕ). IsTraced log history numbers (record { pass = i; call = c }) ticket (length history) (length log)) (sym call) traced);
  }

-- a piece has ended: the pass has asked or is ready
ended-not : (b : Bool) (ph : Phase) → HasAsked ≢ ph → Ready ≢ ph → (if b then HasAsked else Ready) ≢ ph
ended-not true ph asked ready = asked
ended-not false ph asked ready = ready

-- A pass whose piece has ended, whatever it has used of its room.
pub piece-ended : {history : List Entry} {numbers : List ℕ} {log : List Entry} {i : ℕ} {p : Pass} → IsFollowedPass i p history numbers log → p.phase ≢ Idle → p.fault ≡ None → (events sectors : ℕ)
    → IsFollowedPass i (after_spending events sectors (after_piece p)) history numbers log
piece-ended {history} {numbers} {log} {i} {p} was busy whole events sectors =
    let left = nat_lt (p.done + p.piece) p.count in
    goes-on was busy (after_spending events sectors (after_piece p)) refl refl refl refl refl (ended-not left Issuing (λ e. cc) (λ e. cc)) (ended-not left Looking (λ e. cc) (λ e. cc)) (λ is ticket why. cc)

pub idle-pass : {history : List Entry} {numbers : List ℕ} {log : List Entry} {i : ℕ} {p : Pass} → p.phase ≡ Idle → IsFollowedPass i p history numbers log
idle-pass {history} {numbers} {log} {i} {p} idle = record {
  asked = λ busy. absurd (busy idle);
  issuing = λ is. absurd (cc);
  looking = λ is. absurd (cc);
  failed = λ is. absurd (cc);
}

-- The store's call of a pass fails with the next entry of the store's log.

pub failure : (k : Kind) (t : Ticket) → IsFailure t.number (failed_entry k t)
failure kind.Read t = (refl, refl)
failure kind.Write t = refl
failure kind.Flush t = (refl, refl)

pub traced-now : {history : List Entry} {numbers : List ℕ} {log log' : List Entry} {i : ℕ} {p : Pass} → IsFollowedPass i p history numbers log → p.phase ≢ Idle → (ticket : ℕ) (e : Entry) → log' ≡ log ++ e ∷ [] → IsFailure ticket e
    → ((request : Asked) → IsRequestOf p request → IsTicketOf request log history numbers (call_id i p) ticket (length history)) → IsTraced log' history numbers (call_id i p) ticket (length history) (length log')
traced-now {history} {numbers} {log} {log'} {i} {p} was busy ticket e is fails ticket_is =
    let a = was.asked busy in
    record {
      at = a.at;
      request = a.request;
      asked = a.asked;
      number = a.number;
      numbered = a.numbered;
      failed = record {
        at = length log;
        entry = e;
        there = ap (λ (l : List Entry). slice_get l (length log)) is ∙ last-pushed log e;
        fails = fails;
        after = a.passed;
        before = omega (arith, ap length is, length-pushed log e);
      };
      ticket_is = ticket-kept (record { rest = e ∷ []; is = is }) (front-itself history) (front-itself numbers) (issues-below (front-itself history) (call_id i p) (length history) (omega arith)) a.request ticket (ticket_is a.request a.of_pass);
    }
