-- The writes of each sector are counted, entry by entry.
use Rattle.std.proofs.Common.{◌≡◌, ℕ, suc, ◌+◌, ◌^◌, ◌<◌, ◌≤◌, min, max, inl, inr, List, [], ◌∷◌, ◌++◌, Option, Some, None, length, take, refl, ap, sym, ◌∙◌, arith, length-append}
use Rattle.std.specs.Prelude.{slice_get}
use Rattle.std.specs.Option.{option_map, option_to_list}
use Rattle.std.specs.List.{fold}
use Rattle.std.proofs.lemmas.Bool.{cases_lt}
use Rattle.std.proofs.lemmas.Option.{slice_get_cases, same_Some}
use Rattle.std.proofs.lemmas.List.{append-nil, length-take-le, take_all}
use Rattle.vd_lists.proofs.Options.{cases_option}
use Rattle.vd_law.specs.declared.entry.Sector.{Sector}
use Rattle.vd_law.specs.declared.entry.CallId.{CallId}
use Rattle.vd_law.specs.Entries.{Entry, Ask, Issue, Done, Broke, Seen, Reply, Past, nothing, ◌▸◌, past}
use Rattle.vd_law.specs.Contents.{sector_in, issued_contents, open_write, issue_number, last_done, firm_after}
use Rattle.vd_law.proofs.Appending.{last_done-le}
use Rattle.vd_law.proofs.Going.{past-more}
use Rattle.vd_device.specs.Calls.{next_number}
use Rattle.vd_faults.specs.declared.versions.Versions.{Versions}
use Rattle.vd_faults.specs.Tapes.{TapeState}
use Rattle.vd_faults.specs.Traced.{EndsLastWrites, IsOrigin, IsTracedTape}
use Rattle.vd_faults.specs.Versions.{changed_if, one_more, made_firm, HasCountedWrites}

-- No sector has more writes than there are entries.

size : Past → ℕ
size nothing = 0
size (p ▸ e) = suc (size p)

written-size : (p : Past) (s : ℕ) → length (issued_contents p s) ≤ size p
unfolding size
written-size nothing s = omega arith
written-size (p ▸ Ask id request) s = omega (arith, written-size p s)
written-size (p ▸ Issue id first content) s = omega (arith, written-size p s, length-append (issued_contents p s) (option_to_list (sector_in first content s)), one_at_most (sector_in first content s))
  where
    one_at_most : (o : Option Sector) → length (option_to_list o) ≤ 1
    one_at_most None = omega arith
    one_at_most (Some v) = omega arith
written-size (p ▸ Done id) s = omega (arith, written-size p s)
written-size (p ▸ Broke id) s = omega (arith, written-size p s)
written-size (p ▸ Seen id first content) s = omega (arith, written-size p s)
written-size (p ▸ Reply id answer) s = omega (arith, written-size p s)

size-fold : (es : List Entry) (p : Past) → size (fold ◌▸◌ p es) ≡ size p + length es
unfolding size
size-fold [] p = omega arith
size-fold (e ∷ es) p = omega (arith, size-fold es (p ▸ e))

pub written-le : (es : List Entry) (s : ℕ) → length (issued_contents (past es) s) ≤ length es
unfolding size
written-le es s = omega (arith, written-size (past es) s, size-fold es nothing)

-- A change of the versions of a sector, where it has some.

pub change-none : (change : Versions → Versions) (o : Option Sector) (x : Option Versions) (v : Versions) → o ≡ None → changed_if change o x ≡ Some v → x ≡ Some v
change-none change o x v none at = ap (λ (c : Option Sector). changed_if change c x) (sym none) ∙ at

pub change-some : (change : Versions → Versions) (o : Option Sector) (c : Sector) (x : Option Versions) (v : Versions) → o ≡ Some c → changed_if change o x ≡ Some v → (u : Versions) × (x ≡ Some u) × (v ≡ change u)
change-some change o c x v some at = mapped x (ap (λ (c : Option Sector). changed_if change c x) (sym some) ∙ at)
  where
    mapped : (x : Option Versions) → option_map change x ≡ Some v → (u : Versions) × (x ≡ Some u) × (v ≡ change u)
    mapped None same = cc
    mapped (Some u) same = (u, refl, some_same (change u) v same)
      where
        some_same : (a b : Versions) → Some a ≡ Some b → b ≡ a
        some_same a b e = cc

module _ (log : List Entry) (sealed i : ℕ) (e : Entry) (at : slice_get log i ≡ Some e) where
  abbrev p : Past
  p = past (take i log)

  more : past (take (i + 1) log) ≡ p ▸ e
  more = past-more log i e at

  -- beyond the sealed entries nothing counts as done
  done-past : (s : ℕ) → sealed ≤ i → last_done (past (take (min (i + 1) sealed) log)) s ≡ last_done (past (take (min i sealed) log)) s
  done-past s late = let same : min (i + 1) sealed ≡ min i sealed = omega arith in ap (λ (k : ℕ). last_done (past (take k log)) s) same

  done-more : (s : ℕ) → i < sealed → last_done (past (take (min (i + 1) sealed) log)) s ≡ last_done (p ▸ e) s
  done-more s early = let same : min (i + 1) sealed ≡ i + 1 = omega arith in ap (λ (k : ℕ). last_done (past (take k log)) s) same ∙ ap (λ (q : Past). last_done q s) more

  done-now : (s : ℕ) → i < sealed → last_done (past (take (min i sealed) log)) s ≡ last_done p s
  done-now s early = let same : min i sealed ≡ i = omega arith in ap (λ (k : ℕ). last_done (past (take k log)) s) same

  -- an entry that ends no write
  done-same : (s : ℕ) → last_done (p ▸ e) s ≡ last_done p s → last_done (past (take (min (i + 1) sealed) log)) s ≡ last_done (past (take (min i sealed) log)) s
  done-same s same =
      elim (cases_lt i sealed) [
        | inl early ↦ done-more s early ∙ same ∙ sym (done-now s early)
        | inr late ↦ done-past s late
      ]

  -- an entry that changes nothing
  pub counted-same : (s : ℕ) (v : Versions) → issued_contents (p ▸ e) s ≡ issued_contents p s → last_done (p ▸ e) s ≡ last_done p s → HasCountedWrites log sealed i s v → HasCountedWrites log sealed (i + 1) s v
  counted-same s v writes done c = record {
    writes = c.writes ∙ ap length (sym writes) ∙ ap (λ (q : Past). length (issued_contents q s)) (sym more);
    done = c.done ∙ sym (done-same s done);
  }

  pub counted-late : (s : ℕ) (v : Versions) → issued_contents (p ▸ e) s ≡ issued_contents p s → sealed ≤ i → HasCountedWrites log sealed i s v → HasCountedWrites log sealed (i + 1) s v
  counted-late s v writes late c = record {
    writes = c.writes ∙ ap length (sym writes) ∙ ap (λ (q : Past). length (issued_contents q s)) (sym more);
    done = c.done ∙ sym (done-past s late);
  }

-- A write is issued.
module _ (log : List Entry) (sealed i : ℕ) (id : CallId) (first : ℕ) (content : List Sector) (at : slice_get log i ≡ Some (Issue id first content)) (short : length log < 2 ^ 64) (within : i < length log) where
  pub counted-issue : (s : ℕ) (x : Option Versions) (v : Versions) → ((u : Versions) → x ≡ Some u → HasCountedWrites log sealed i s u) → changed_if one_more (sector_in first content s) x ≡ Some v → HasCountedWrites log sealed (i + 1) s v
  counted-issue s x v before now =
      let e : Entry = Issue id first content in let old = issued_contents (past (take i log)) s in
      elim (cases_option (sector_in first content s)) [
        | inl none ↦ counted-same log sealed i e at s v (ap (λ (o : Option Sector). old ++ option_to_list o) none ∙ nil old) refl (before v (change-none one_more (sector_in first content s) x v none now))
        | inr some ↦
            let u = change-some one_more (sector_in first content s) some.0 x v some.1 now in let c = before u.0 u.1 in
            let few = written-le (take i log) s in let long = length-take-le i log (omega (arith, within)) in
            record {
              writes = ap (λ (w : Versions). w.written) u.2 ∙ (let one : next_number u.0.written ≡ length (old ++ some.0 ∷ []) = omega (arith, c.writes, few, long, short, within, length-append old (some.0 ∷ [])) in one)
                  ∙ ap (λ (o : Option Sector). length (old ++ option_to_list o)) (sym some.1) ∙ ap (λ (q : Past). length (issued_contents q s)) (sym (more log sealed i e at));
              done = ap (λ (w : Versions). w.chosen) u.2 ∙ c.done ∙ sym (done-same log sealed i e at s refl);
            }
      ]
    where
      nil : (ws : List Sector) → ws ++ [] ≡ ws
      nil ws = append-nil ws

-- A write is done among the sealed entries.
module _ (n : ℕ) (log : List Entry) (sealed i : ℕ) (id : CallId) (first : ℕ) (content : List Sector) (at : slice_get log i ≡ Some (Done id)) (early : i < sealed) (ends : EndsLastWrites n (past (take i log)) id first content) where
  pub counted-done : (s : ℕ) (x : Option Versions) (v : Versions) → ((u : Versions) → x ≡ Some u → HasCountedWrites log sealed i s u) → changed_if made_firm (sector_in first content s) x ≡ Some v → HasCountedWrites log sealed (i + 1) s v
  counted-done s x v before now =
      let e : Entry = Done id in let q = past (take i log) in
      elim (cases_option (sector_in first content s)) [
        | inl none ↦ counted-same log sealed i e at s v refl
            (ap (λ o. max (last_done q s) (issue_number o)) (ends.off s none) ∙ (let same : max (last_done q s) 0 ≡ last_done q s = omega arith in same))
            (before v (change-none made_firm (sector_in first content s) x v none now))
        | inr some ↦
            let u = change-some made_firm (sector_in first content s) some.0 x v some.1 now in let c = before u.0 u.1 in
            record {
              writes = ap (λ (w : Versions). w.written) u.2 ∙ c.writes ∙ ap (λ (r : Past). length (issued_contents r s)) (sym (more log sealed i e at));
              done = ap (λ (w : Versions). w.chosen) u.2
                  ∙ (let last : u.0.written ≡ max (last_done q s) (issue_number (open_write q id s)) = omega (arith, c.writes, ends.on s some.0 some.1, last_done-le q s) in last)
                  ∙ sym (done-more log sealed i e at s early);
            }
      ]

-- before the first entry, and after the last
pub counted-first : (log : List Entry) (sealed s : ℕ) (v : Versions) → v ≡ record { written = 0; chosen = 0 } → HasCountedWrites log sealed 0 s v
counted-first log sealed s v same = record {
  writes = ap (λ (w : Versions). w.written) same;
  done = ap (λ (w : Versions). w.chosen) same ∙ (let none : 0 ≡ min 0 sealed = omega arith in ap (λ (k : ℕ). last_done (past (take k log)) s) none);
}

pub counted-writes : (log : List Entry) (sealed s : ℕ) (v : Versions) → HasCountedWrites log sealed (length log) s v → v.written ≡ length (issued_contents (past log) s)
counted-writes log sealed s v c = c.writes ∙ ap (λ (l : List Entry). length (issued_contents (past l) s)) (take_all (length log) log (omega arith))

pub counted-firm : (log : List Entry) (sealed s : ℕ) (v : Versions) → sealed ≤ length log → firm_after (past log) s ≡ last_done (past (take sealed log)) s → HasCountedWrites log sealed (length log) s v → v.chosen ≡ firm_after (past log) s
counted-firm log sealed s v within firm c =
    c.done ∙ (let all : min (length log) sealed ≡ sealed = omega arith in ap (λ (k : ℕ). last_done (past (take k log)) s) all) ∙ sym firm

-- What the origins give for a pass.

pub done-origin : (n : ℕ) (tape : TapeState) (i place : ℕ) → IsTracedTape n tape → (at : (id : CallId) × (slice_get tape.log.entries i ≡ Some (Done id))) → slice_get tape.origins i ≡ Some place → IsOrigin n tape.log.entries (past (take i tape.log.entries)) at.0 place
done-origin n tape i place traced at began = traced.each i (Done at.0) place at.1 began

-- the event at the origin is the Issue
pub origin-event : (log : List Entry) (place : ℕ) (found : Entry) (id : CallId) (first : ℕ) (content : List Sector) → slice_get log place ≡ Some found → slice_get log place ≡ Some (Issue id first content) → found ≡ Issue id first content
origin-event log place found id first content at is = same_Some found (Issue id first content) (sym at ∙ is)

pub issue-inside : (n : ℕ) (tape : TapeState) (i : ℕ) (id : CallId) (first : ℕ) (content : List Sector) → IsTracedTape n tape → i < length tape.log.entries → slice_get tape.log.entries i ≡ Some (Issue id first content) → first + length content ≤ n
issue-inside n tape i id first content traced within at =
    elim (slice_get_cases tape.origins i).1 [
      | inl some ↦ traced.each i (Issue id first content) some.0 at some.2
      | inr past ↦ absurd (omega (arith, past.0, traced.all, within))
    ]
