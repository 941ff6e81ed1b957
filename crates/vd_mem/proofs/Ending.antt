-- A ticket ends.
use Rattle.std.proofs.Common.{◌≡◌, ℕ, ◌+◌, ◌-◌, ◌^◌, ◌<◌, ◌≤◌, Bool, true, false, List, [], ◌∷◌, Option, Some, None, length, refl, ap, sym, ◌∙◌, subst, inl, inr, arith, length-append}
use Rattle.std.specs.Prelude.{if◌then◌else◌, slice_get, slice_range}
use Rattle.std.specs.Option.{option_map_or}
use Rattle.vd_law.specs.declared.entry.Sector.{Sector}
use Rattle.vd_law.specs.declared.entry.Answer.TheVariants.{Ok as Fine, StoreFault}
use Rattle.vd_law.specs.Entries.{Entry, Done as Write_done, Broke, Seen, Reply, call_of}
use Rattle.vd_law.specs.Logs.{content_of}
use Rattle.vd_law.specs.Contents.{sector_in}
use Rattle.vd_device.specs.declared.ticket.Ticket.{Ticket}
use Rattle.vd_device.specs.declared.ticket.Kind.{Kind}
use Rattle.vd_device.specs.declared.ticket.Kind.TheVariants.{Read, Write, Flush}
use Rattle.vd_device.specs.declared.settled.Settled.{Settled}
use Rattle.vd_device.specs.declared.settled.Settled.TheVariants.{Done, NotYet, Failed}
use Rattle.vd_device.specs.Tickets.{HasAmong, Takes, ticket_id}
use Rattle.vd_device.specs.Calls.{next_number, done_entry, failed_entry, settle_entries, Gives, Settles, IsCaused, IsUndone}
use Rattle.vd_device.specs.Disks.{Disk, IsHonest, AreWrites, GrowsBy, HasStopped}
use Rattle.vd_device.specs.Orders.{IsInOrder}
use Rattle.vd_faults.specs.declared.rule.Keep.{Keep}
use Rattle.vd_faults.specs.declared.rule.Keep.TheVariants.{Old, New}
use Rattle.vd_faults.specs.Tapes.{added, content_at, events_told}
use Rattle.vd_mem.specs.StoreState.{MemStoreState, StillRuns, disk_of, can_add, over_at, carried_out, last_entry, last_held, is_done, left_by, ended_by}
use Rattle.vd_mem.specs.Ends.{CanCarryOut}
use Rattle.vd_mem.specs.Flying.{HasOpenWrite, IsLoggedAs, IsCall, AreCalls, IsTicketWithin, Flies}
use Rattle.vd_mem.specs.Sound.{IsSoundMemStore}
use Rattle.vd_faults.proofs.Choosing.{takes-runs, stopped-over}
use Rattle.vd_mem.proofs.Taking.{Took}
use Rattle.vd_mem.proofs.Flights.{all-take, put-length}
use Rattle.vd_mem.proofs.Sectors.{range-held}
use Rattle.vd_mem.proofs.Opens.{IsOff}
use Rattle.vd_mem.proofs.Flying.{grown, writes-answered, writes-ended, calls-take}
use Rattle.vd_mem.proofs.Orders.{order-push, last-follows}
use Rattle.vd_mem.proofs.Honest.{kept-grows, broke-more, reply-more, seen-grows, broke-written-grows, done-grows}
use Rattle.std.proofs.lemmas.Bool.{cond_both}

-- The last entries of a ticket of this kind.

done-call : (k : Kind) (t : Ticket) (out : List Sector) → call_of (done_entry k t out) ≡ ticket_id t
done-call Read t out = refl
done-call Write t out = refl
done-call Flush t out = refl

failed-call : (k : Kind) (t : Ticket) → call_of (failed_entry k t) ≡ ticket_id t
failed-call Read t = refl
failed-call Write t = refl
failed-call Flush t = refl

last-call : (failure : Option Keep) (t : Ticket) (held : List Sector) → call_of (last_entry failure t held) ≡ ticket_id t
last-call None t held = done-call t.kind t (slice_range held t.first (t.first + t.count))
last-call (Some keep) t held = failed-call t.kind t

done-off : (k : Kind) (t : Ticket) (out : List Sector) (s : ℕ) → IsOff (done_entry k t out) s
done-off Read t out s = tt
done-off Write t out s = tt
done-off Flush t out s = tt

failed-off : (k : Kind) (t : Ticket) (s : ℕ) → IsOff (failed_entry k t) s
failed-off Read t s = tt
failed-off Write t s = tt
failed-off Flush t s = tt

last-off : (failure : Option Keep) (t : Ticket) (held : List Sector) (s : ℕ) → IsOff (last_entry failure t held) s
last-off None t held s = done-off t.kind t (slice_range held t.first (t.first + t.count)) s
last-off (Some keep) t held s = failed-off t.kind t s

-- the writes that are open then
module _ (d : Disk) (held : List Sector) (t : Ticket) (others all : List Ticket) (among : HasAmong t others all) (before : AreWrites all d) where
  done-writes : (k : Kind) (out : List Sector) → t.kind ≡ k → AreWrites others (grown d (done_entry k t out) held)
  done-writes Read out kind = writes-answered d (done_entry Read t out) held t others all (λ p s. refl) (λ write. let e = sym kind ∙ write in cc) among before
  done-writes Write out kind = writes-ended d (done_entry Write t out) held t others all (λ p s. refl) among before
  done-writes Flush out kind = writes-answered d (done_entry Flush t out) held t others all (λ p s. refl) (λ write. let e = sym kind ∙ write in cc) among before

  failed-writes : (k : Kind) → t.kind ≡ k → AreWrites others (grown d (failed_entry k t) held)
  failed-writes Read kind = writes-answered d (failed_entry Read t) held t others all (λ p s. refl) (λ write. let e = sym kind ∙ write in cc) among before
  failed-writes Write kind = writes-ended d (failed_entry Write t) held t others all (λ p s. refl) among before
  failed-writes Flush kind = writes-answered d (failed_entry Flush t) held t others all (λ p s. refl) (λ write. let e = sym kind ∙ write in cc) among before

  last-writes : (failure : Option Keep) (now : List Sector) → AreWrites others (grown d (last_entry failure t now) held)
  last-writes None now = done-writes t.kind (slice_range now t.first (t.first + t.count)) refl
  last-writes (Some keep) now = failed-writes t.kind refl

-- What is held then.

carried : (start : List Sector) (log : List Entry) (t : Ticket) (w : HasOpenWrite start log t) → content_at log t.mark ≡ w.content
carried start log t w = ap (λ (o : Option Entry). option_map_or content_of o []) w.issue

module _ (d : Disk) (t : Ticket) (others all : List Ticket) (among : HasAmong t others all) (last : ℕ) (calls : AreCalls last d all) (fits : t.first + t.count ≤ length d.held) (honest : IsHonest d) where
  put-grows : (w : HasOpenWrite d.start d.log t) → (e : Entry) → GrowsBy (e ∷ []) d (grown d e (over_at t.first w.content d.held)) → GrowsBy (e ∷ []) d (grown d e (carried_out Write t d.log d.held))
  put-grows w e g = subst (λ (c : List Sector). GrowsBy (e ∷ []) d (grown d e (over_at t.first c d.held))) (sym (carried d.start d.log t w)) g

  done-ends : (k : Kind) → IsLoggedAs k d.start d.log t → GrowsBy (done_entry k t (slice_range d.held t.first (t.first + t.count)) ∷ []) d (grown d (done_entry k t (slice_range d.held t.first (t.first + t.count))) (carried_out k t d.log d.held))
  done-ends Read w = seen-grows d (ticket_id t) t.first t.count honest
  done-ends Write w = put-grows w (Write_done (ticket_id t)) (done-grows d t w.content w.size fits w.only_open honest others all among calls.distinct calls.writes)
  done-ends Flush w = kept-grows d (Reply (ticket_id t) Fine) (reply-more (ticket_id t) Fine) honest

  old-ends : (k : Kind) → GrowsBy (failed_entry k t ∷ []) d (grown d (failed_entry k t) d.held)
  old-ends Read = kept-grows d (failed_entry Read t) (reply-more (ticket_id t) (StoreFault t.number 0)) honest
  old-ends Write = kept-grows d (failed_entry Write t) (broke-more (ticket_id t)) honest
  old-ends Flush = kept-grows d (failed_entry Flush t) (reply-more (ticket_id t) (StoreFault t.number 0)) honest

  new-ends : (k : Kind) → IsLoggedAs k d.start d.log t → GrowsBy (failed_entry k t ∷ []) d (grown d (failed_entry k t) (carried_out k t d.log d.held))
  new-ends Read w = old-ends Read
  new-ends Write w = put-grows w (Broke (ticket_id t)) (broke-written-grows d t w.content w.size fits w.only_open honest)
  new-ends Flush w = old-ends Flush

  here : IsCall last d.start d.log t
  here = (all-take (IsCall last d.start d.log) t others all among calls.each).0

  last-grows : (failure : Option Keep) → GrowsBy (last_entry failure t d.held ∷ []) d (grown d (last_entry failure t d.held) (last_held failure t d.log d.held))
  last-grows None = done-ends t.kind here.stands
  last-grows (Some Old) = old-ends t.kind
  last-grows (Some New) = new-ends t.kind here.stands

  can-carry : (k : Kind) → IsLoggedAs k d.start d.log t → CanCarryOut k t d.log d.held
  can-carry Read w = tt
  can-carry Write w = (here.placed, omega (arith, ap length (carried d.start d.log t w), w.size, fits))
  can-carry Flush w = tt

-- The store then.
module _ (m : MemStoreState) (t : Ticket) (failure : Option Keep) (sound : IsSoundMemStore m) where
  abbrev e : Entry
  e = last_entry failure t m.held

  abbrev rest : MemStoreState
  rest = left_by t (is_done failure (can_add m e)) m

  abbrev in_log : MemStoreState
  in_log = record rest { log = added e m.log; held = last_held failure t m.log.entries m.held }

  abbrev stopped : MemStoreState
  stopped = record rest { over = next_number m.over }

  inside : (others all : List Ticket) → HasAmong t others all → Flies m all → t.first + t.count ≤ length m.held
  inside others all among flight = let range = (all-take (IsTicketWithin (length m.start)) t others all among flight.within).0 in omega (arith, range.0, sound.size)

  grows-so : (others all : List Ticket) → HasAmong t others all → Flies m all → StillRuns m → GrowsBy (e ∷ []) (disk_of m) (disk_of in_log)
  grows-so others all among flight runs =
      last-grows (disk_of m) t others all among m.last (flight.calls runs) (inside others all among flight) (sound.told runs).honest failure

  pub end-placed : (others all : List Ticket) → HasAmong t others all → Flies m all → StillRuns m → CanCarryOut t.kind t m.log.entries m.held
  end-placed others all among flight runs =
      let calls = flight.calls runs in
      can-carry (disk_of m) t others all among m.last calls (inside others all among flight) (sound.told runs).honest t.kind
      (all-take (IsCall m.last m.start m.log.entries) t others all among calls.each).0.stands

  pub end-within : (others all : List Ticket) → HasAmong t others all → Flies m all → t.first + t.count ≤ length m.held
  end-within others all among flight = inside others all among flight

  pub end-few : (others all : List Ticket) → HasAmong t others all → Flies m all → t.count ≤ 2048
  end-few others all among flight = (all-take (IsTicketWithin (length m.start)) t others all among flight.within).0.1

  pub end-takes : Takes t (Flies m) (Flies (ended_by failure t m))
  end-takes others all among flight =
      let count : m.flying - 1 ≡ length others = omega (arith, flight.many, put-length t others all among) in
      let range = (all-take (IsTicketWithin (length m.start)) t others all among flight.within).1 in
      cond_both (can_add m e) in_log stopped (λ (m' : MemStoreState). Flies m' others)
      (λ can. record {
        many = count;
        within = range;
        calls = λ runs. let before = flight.calls runs in
            calls-take m.last (disk_of m) e in_log.held t others all (last-call failure t m.held) (last-off failure t m.held)
            (last-writes (disk_of m) in_log.held t others all among before.writes failure m.held) among before;
      })
      (λ full. record { many = count; within = range; calls = λ runs. stopped-over m.over runs })

  -- where it still runs, the last entry was added
  pub end-grows : (others all : List Ticket) → HasAmong t others all → Flies m all → StillRuns (ended_by failure t m) → (can_add m e ≡ true) × GrowsBy (e ∷ []) (disk_of m) (disk_of (ended_by failure t m)) × ((ended_by failure t m).held ≡ in_log.held)
  end-grows others all among flight =
      cond_both (can_add m e) in_log stopped (λ (m' : MemStoreState). StillRuns m' → (can_add m e ≡ true) × GrowsBy (e ∷ []) (disk_of m) (disk_of m') × (m'.held ≡ in_log.held))
      (λ can runs. (can, grows-so others all among flight runs, refl))
      (λ full runs. stopped-over m.over runs)

  pub end-sound : (others all : List Ticket) → HasAmong t others all → Flies m all → length (ended_by failure t m).log.entries < 2 ^ 63 → IsSoundMemStore (ended_by failure t m)
  end-sound others all among flight short = record {
    size = cond_both (can_add m e) in_log stopped (λ (m' : MemStoreState). length m'.held ≡ length m'.start)
        (λ can. (grows-so others all among flight (takes-runs m.log m.fuse m.over e can)).size ∙ sound.size)
        (λ full. sound.size);
    short = short;
    told = λ runs. record {
      numbers = cond_both (can_add m e) in_log stopped (λ (m' : MemStoreState). StillRuns m' → m'.last ≤ length m'.log.entries)
          (λ can now. omega (arith, (sound.told now).numbers, length-append m.log.entries (e ∷ [])))
          (λ full now. stopped-over m.over now) runs;
      honest = (end-grows others all among flight runs).1.honest;
      order = cond_both (can_add m e) in_log stopped (λ (m' : MemStoreState). StillRuns m' → IsInOrder (disk_of m'))
          (λ can now. order-push (disk_of m) e in_log.held (sound.told now).order (last-follows failure (disk_of m) t (sound.told now).honest))
          (λ full now. stopped-over m.over now) runs;
    };
    flight = (others, end-takes others all among flight);
  }

  -- these are the ticket's last entry where it was added
  pub end-took : (others all : List Ticket) → HasAmong t others all → Flies m all → (es : List Entry) → (can_add m e ≡ true → es ≡ e ∷ []) → Took es m (ended_by failure t m)
  end-took others all among flight es last =
      cond_both (can_add m e) in_log stopped (λ (m' : MemStoreState). Took es m m')
      (λ can. let runs = takes-runs m.log m.fuse m.over e can in
      inl (record { before = runs; after = runs; grows = subst (λ (x : List Entry). GrowsBy x (disk_of m) (disk_of in_log)) (sym (last can)) (grows-so others all among flight runs) }))
      (λ full. inr (record { start = refl; log = refl; over = refl }))

  -- where the store has stopped, the last entry was not added
  pub end-full : HasStopped (events_told (ended_by failure t m).log (ended_by failure t m).over) (disk_of (ended_by failure t m)) → can_add m e ≡ false
  end-full =
      cond_both (can_add m e) in_log stopped (λ (m' : MemStoreState). HasStopped (events_told m'.log m'.over) (disk_of m') → can_add m e ≡ false)
      (λ can above. let runs = takes-runs m.log m.fuse m.over e can in absurd (omega arith))
      (λ full above. full)

-- What was answered.

abbrev pub answered : (done : Bool) → ℕ → Settled
answered done number = if done then Done else Failed number

pub answer-settles : (done : Bool) (answer : Settled) (n : ℕ) (t : Ticket) (out out' : List Sector) (old new : List Ticket → Type 0) → answer ≡ answered done n → n ≡ t.number → (done ≡ false → out' ≡ out) → Takes t old new → Settles answer t out out' old new
answer-settles true answer n t out out' old new is number unread takes = subst (λ (a : Settled). Settles a t out out' old new) (sym is) takes
answer-settles false answer n t out out' old new is number unread takes = subst (λ (a : Settled). Settles a t out out' old new) (sym is) (number, unread refl, takes)

pub answer-caused : (done : Bool) (answer : Settled) (n faults faults' late late' : ℕ) → answer ≡ answered done n → faults' ≡ (if done then faults else next_number faults) → faults ≤ faults' → late' ≡ late → IsCaused answer faults faults' late late'
answer-caused true answer n faults faults' late late' is rose calm same = subst (λ (a : Settled). IsCaused a faults faults' late late') (sym is) (calm, omega (arith, same))
answer-caused false answer n faults faults' late late' is rose calm same = subst (λ (a : Settled). IsCaused a faults faults' late late') (sym is) ((calm, omega (arith, same)), omega (arith, rose))

-- the same entry, whatever a ticket that reads nothing was lent
done-same : (k : Kind) (t : Ticket) (out out' : List Sector) → (k ≡ Read → out' ≡ out) → done_entry k t out' ≡ done_entry k t out
done-same Read t out out' same = ap (λ (o : List Sector). Seen (ticket_id t) t.first o) (same refl)
done-same Write t out out' same = refl
done-same Flush t out out' same = refl

abbrev pub read_by : Ticket → List Sector → List Sector
read_by t held = slice_range held t.first (t.first + t.count)

same-held : (k : Kind) (t : Ticket) (log : List Entry) (held : List Sector) → k ≡ Read → carried_out k t log held ≡ held
same-held Read t log held is = refl
same-held Write t log held is = cc
same-held Flush t log held is = refl

done-gives : (t : Ticket) (d d' : Disk) (out' : List Sector) → d'.held ≡ carried_out t.kind t d.log d.held → (t.kind ≡ Read → out' ≡ read_by t d.held) → Gives Done t out' d'.held
done-gives t d d' out' now read = λ is s v at. ap (λ (h : List Sector). slice_get h s) (now ∙ same-held t.kind t d.log d.held is)
    ∙ range-held t.first t.count d.held s v (ap (λ (o : List Sector). sector_in t.first o s) (sym (read is)) ∙ at)

-- what a read of a ticket that ended so gave
pub answer-gives : (failure : Option Keep) (can : Bool) (answer : Settled) (n : ℕ) (t : Ticket) (d d' : Disk) (out' : List Sector) → answer ≡ answered (is_done failure can) n → can ≡ true
    → d'.held ≡ last_held failure t d.log d.held → (is_done failure can ≡ true → t.kind ≡ Read → out' ≡ read_by t d.held) → Gives answer t out' d'.held
answer-gives None can answer n t d d' out' is added now read =
    let done : answer ≡ Done = is ∙ ap (λ (b : Bool). answered b n) added in
    subst (λ (a : Settled). Gives a t out' d'.held) (sym done) (done-gives t d d' out' now (read added))
answer-gives (Some keep) can answer n t d d' out' is added now read = subst (λ (a : Settled). Gives a t out' d'.held) (sym is) tt

-- the entries of a settle that answers so
pub answer-entries : (failure : Option Keep) (can : Bool) (answer : Settled) (n : ℕ) (t : Ticket) (held out' : List Sector) → answer ≡ answered (is_done failure can) n
    → (is_done failure can ≡ true → t.kind ≡ Read → out' ≡ read_by t held) → can ≡ true → settle_entries answer t out' ≡ last_entry failure t held ∷ []
answer-entries None can answer n t held out' is read added =
    ap (λ (a : Settled). settle_entries a t out') (is ∙ ap (λ (b : Bool). answered b n) added) ∙ ap (λ (x : Entry). x ∷ []) (done-same t.kind t (read_by t held) out' (read added))
answer-entries (Some keep) can answer n t held out' is read added = ap (λ (a : Settled). settle_entries a t out') is

pub few-entries : (answer : Settled) (t : Ticket) (out : List Sector) → length (settle_entries answer t out) ≤ 1
few-entries Done t out = omega arith
few-entries (NotYet same) t out = omega arith
few-entries (Failed number) t out = omega arith

-- where its last entry was not added, it failed
pub answer-undone : (failure : Option Keep) (can : Bool) (answer : Settled) (n : ℕ) → answer ≡ answered (is_done failure can) n → can ≡ false → IsUndone answer
answer-undone None can answer n is full = subst IsUndone (sym (is ∙ ap (λ (b : Bool). answered b n) full)) tt
answer-undone (Some keep) can answer n is full = subst IsUndone (sym is) tt
