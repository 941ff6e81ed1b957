-- What one more entry changes in what is known of a sector.
use Rattle.std.proofs.Common.{◌≡◌, ℕ, ◌+◌, ◌-◌, ◌<◌, ◌≤◌, Bool, true, false, List, [], ◌∷◌, ◌++◌, length, map, refl, sym, ◌∙◌, ap, inl, inr, ◌⊎◌, append-nil, arith, Option, Some, None, slice_get}
use Rattle.std.specs.Prelude.{if◌then◌else◌}
use Rattle.std.specs.List.{Contains, filter, find, list_any}
use Rattle.std.specs.Option.{option_to_list}
use Rattle.std.proofs.lemmas.Bool.Decides.{leb_tells}
use Rattle.std.proofs.lemmas.List.Elements.{Contains-push, Contains-push_cases}
use Rattle.std.proofs.lemmas.Option.{slice_get_cases, slice_get_within}
use Rattle.std.proofs.lemmas.Bool.{cases_Bool}
use Rattle.vd_law.specs.declared.entry.Sector.{Sector}
use Rattle.vd_law.specs.declared.entry.CallId.{CallId}
use Rattle.vd_law.specs.declared.entry.Answer.{Answer}
use Rattle.vd_law.specs.Entries.{Asked, Entry, Ask, Issue, Done, Broke, Seen, Reply, same_call, Past, ◌▸◌, past}
use Rattle.vd_law.specs.Contents.{sector_in, issued_contents, Open, open_after_issue, is_of, is_of_another, open_write, could, could_after, open_writes, contents_after_seen}
use Rattle.vd_law.specs.Contents as contents
use Rattle.vd_law.proofs.Appending.{past-push}
use Rattle.vd_law.proofs.Opening.{same_call-refl, same_call-is}
use Rattle.vd_law.proofs.Sectors.{sector_in-place}
use Rattle.vd_device.specs.Disks.{Disk, Adds, GrowsBy}
use Rattle.vd_passes.specs.Tracks.{Track, content_by, track, writes, writes_without, contents_with_done, contents_with_seen, track_after_issue, track_after_seen, follow}

-- what is known of a sector after p
after : List Sector → Past → ℕ → Track
after start p s = record { contents = could_after start p s; writes = map content_by (open_writes p s) }

known : List Sector → List (CallId × Sector) → Track
known contents writes = record { contents = contents; writes = writes }

same-track : {contents contents' : List Sector} {writes writes' : List (CallId × Sector)} → contents ≡ contents' → writes ≡ writes' → known contents writes ≡ known contents' writes'
same-track {contents} {contents'} {writes} {writes'} c w = ap (λ (x : List Sector). known x writes) c ∙ ap (λ (x : List (CallId × Sector)). known contents' x) w

map-closed : (id : CallId) (ws : List Open) → map content_by (filter (is_of_another id) ws) ≡ writes_without id (map content_by ws)
map-closed id [] = refl
map-closed id (w ∷ ws) = elim (cases_Bool (same_call w.call id)) [
  | inl own ↦ rw own (map-closed id ws)
  | inr other ↦ rw other (ap (λ (x : List (CallId × Sector)). (w.call, w.content) ∷ x) (map-closed id ws))
]

map-settled : (id : CallId) (ws : List Open) (cs : List Sector) → contents.contents_after_done (find (is_of id) ws) cs ≡ contents_with_done id (map content_by ws) cs
map-settled id [] cs = refl
map-settled id (w ∷ ws) cs = elim (cases_Bool (same_call w.call id)) [
  | inl own ↦ rw own refl
  | inr other ↦ rw other (map-settled id ws cs)
]

map-seen : (id : CallId) (v : Sector) (ws : List Open) (cs : List Sector) → (if list_any (is_of_another id) ws then cs else v ∷ []) ≡ contents_with_seen v (writes_without id (map content_by ws)) cs
map-seen id v [] cs = refl
map-seen id v (w ∷ ws) cs = elim (cases_Bool (same_call w.call id)) [
  | inl own ↦ rw own (map-seen id v ws cs)
  | inr other ↦ rw other refl
]

follow-issue : (id : CallId) (number : ℕ) (o : Option Sector) (cs : List Sector) (ws : List Open)
    → known (cs ++ option_to_list o) (map content_by (open_after_issue id number o ++ ws)) ≡ track_after_issue id o (known cs (map content_by ws))
unfolding known
follow-issue id number None cs ws = same-track (append-nil cs) refl
follow-issue id number (Some v) cs ws = refl

follow-seen : (id : CallId) (o : Option Sector) (cs : List Sector) (ws : List Open)
    → known (contents_after_seen o (list_any (is_of_another id) ws) cs) (map content_by ws) ≡ track_after_seen id o (known cs (map content_by ws))
unfolding known
follow-seen id None cs ws = refl
follow-seen id (Some v) cs ws = same-track (map-seen id v ws cs) refl

after-more : (start : List Sector) (p : Past) (e : Entry) (s : ℕ) → after start (p ▸ e) s ≡ follow s (after start p s) e
unfolding after follow known
after-more start p (Ask id request) s = refl
after-more start p (Issue id first content) s = follow-issue id (length (issued_contents p s) + 1) (sector_in first content s) (could_after start p s) (open_writes p s)
after-more start p (Done id) s = same-track (map-settled id (open_writes p s) (could_after start p s)) (map-closed id (open_writes p s))
after-more start p (Broke id) s = same-track refl (map-closed id (open_writes p s))
after-more start p (Seen id first content) s = follow-seen id (sector_in first content s) (could_after start p s) (open_writes p s)
after-more start p (Reply id answer) s = refl

begun-writes : (id : CallId) (o : Option Sector) (t u : Track) → t.writes ≡ u.writes → (track_after_issue id o t).writes ≡ (track_after_issue id o u).writes
begun-writes id None t u same = same
begun-writes id (Some c) t u same = ap (λ (ws : List (CallId × Sector)). (id, c) ∷ ws) same

looked-alike : (id : CallId) (o : Option Sector) (t u : Track) → t.writes ≡ u.writes → (track_after_seen id o t).writes ≡ (track_after_seen id o u).writes
looked-alike id None t u same = same
looked-alike id (Some v) t u same = same

looked-writes : (id : CallId) (o : Option Sector) (t : Track) → (track_after_seen id o t).writes ≡ t.writes
looked-writes id None t = refl
looked-writes id (Some v) t = refl

-- the writes that are open don't depend on what stood there
pub same-writes : (s : ℕ) (e : Entry) (t u : Track) → t.writes ≡ u.writes → (follow s t e).writes ≡ (follow s u e).writes
unfolding follow
same-writes s (Ask id request) t u same = same
same-writes s (Issue id first content) t u same = begun-writes id (sector_in first content s) t u same
same-writes s (Done id) t u same = ap (writes_without id) same
same-writes s (Broke id) t u same = ap (writes_without id) same
same-writes s (Seen id first content) t u same = looked-alike id (sector_in first content s) t u same
same-writes s (Reply id answer) t u same = same

cases-option : (o : Option Sector) → (o ≡ None) ⊎ ((c : Sector) × (o ≡ Some c))
cases-option None = inl refl
cases-option (Some c) = inr (c, refl)

pub track-more : (start : List Sector) (log : List Entry) (e : Entry) (s : ℕ) → track start (log ++ e ∷ []) s ≡ follow s (track start log s) e
unfolding track after writes
track-more start log e s = ap (λ (p : Past). after start p s) (past-push log e) ∙ after-more start (past log) e s

pub track-writes : (start : List Sector) (log : List Entry) (s : ℕ) → (track start log s).writes ≡ writes log s
unfolding track
track-writes start log s = refl

pub track-contents : (start : List Sector) (log : List Entry) (s : ℕ) → (track start log s).contents ≡ could start log s
unfolding track
track-contents start log s = refl

-- the writes of the guest after one more entry
pub writes-more : (log : List Entry) (e : Entry) (s : ℕ) (t : Track) → t.writes ≡ writes log s → writes (log ++ e ∷ []) s ≡ (follow s t e).writes
writes-more log e s t same = sym (track-writes [] (log ++ e ∷ []) s) ∙ ap (λ (x : Track). x.writes) (track-more [] log e s) ∙ same-writes s e (track [] log s) t (track-writes [] log s ∙ sym same)

map-none : (ws : List Open) → map content_by ws ≡ [] → ws ≡ []
map-none [] none = refl
map-none (w ∷ ws) none = cc

pub writes-none : (log : List Entry) (s : ℕ) → writes log s ≡ [] → open_writes (past log) s ≡ []
unfolding writes
writes-none log s none = map-none (open_writes (past log) s) none

-- what is known of a sector of a store after one more event, and after none
pub disk-track : {e : Entry} {old new : Disk} (a : ℕ) → Adds e old new → track new.start new.log a ≡ follow a (track old.start old.log a) e
disk-track {e} {old} {new} a adds = ap (λ (x : List Sector). track x new.log a) adds.start ∙ ap (λ (l : List Entry). track old.start l a) adds.log ∙ track-more old.start old.log e a

pub disk-same : {old new : Disk} (a : ℕ) → GrowsBy [] old new → track new.start new.log a ≡ track old.start old.log a
disk-same {old} {new} a grows = ap (λ (x : List Sector). track x new.log a) grows.start ∙ ap (λ (l : List Entry). track old.start l a) (grows.log ∙ append-nil old.log)

-- Calls that are the same, and not.
pub same-itself : (a : CallId) → same_call a a ≡ true
same-itself a = same_call-refl a

pub same-false : (a b : CallId) → (a.pass ≡ b.pass → a.call ≡ b.call → ⊥) → same_call a b ≡ false
same-false a b ne = elim (cases_Bool (same_call a b)) [ inl h ↦ (let e = same_call-is a b h in absurd (ne (ap (λ (x : CallId). x.pass) e) (ap (λ (x : CallId). x.call) e))) | inr h ↦ h ]

-- Where a content has a sector.
pub cases-at : (first : ℕ) (content : List Sector) (s : ℕ) → (sector_in first content s ≡ None) ⊎ ((c : Sector) × (sector_in first content s ≡ Some c))
cases-at first content s = cases-option (sector_in first content s)

pub some-at : (first : ℕ) (content : List Sector) (s : ℕ) (c : Sector) → first ≤ s → slice_get content (s - first) ≡ Some c → sector_in first content s ≡ Some c
some-at first content s c from h = elim (leb_tells first s) [
  | inl inside ↦ ap (λ (b : Bool). if b then slice_get content (s - first) else None) inside.0 ∙ h
  | inr outside ↦ absurd (omega (arith, outside.1, from))
]

pub at-inside : (first : ℕ) (content : List Sector) (s : ℕ) → first ≤ s → s < first + length content → (c : Sector) × (sector_in first content s ≡ Some c)
at-inside first content s from to = elim (cases-at first content s) [
  | inr on ↦ on
  | inl off ↦ absurd (elim (slice_get_cases content (s - first)).1 [ inl f ↦ (let on = some-at first content s f.0 from f.2 in cc) | inr past_it ↦ omega (arith, past_it.0, from, to) ])
]

pub at-range : (first : ℕ) (content : List Sector) (s : ℕ) (c : Sector) → sector_in first content s ≡ Some c → (first ≤ s) × (s < first + length content)
at-range first content s c h = let place = sector_in-place first content s c h in let inside = slice_get_within content (s - first) c place.1 in (place.0, omega (arith, place.0, inside))

pub at-some : (first : ℕ) (content : List Sector) (s : ℕ) (c : Sector) → sector_in first content s ≡ Some c → slice_get content (s - first) ≡ Some c
at-some first content s c h = (sector_in-place first content s c h).1

pub none-before : (first : ℕ) (content : List Sector) (s : ℕ) → s < first → sector_in first content s ≡ None
none-before first content s less = elim (cases-at first content s) [ inl off ↦ off | inr on ↦ absurd (omega (arith, (at-range first content s on.0 on.1).0, less)) ]

pub none-past : (first : ℕ) (content : List Sector) (s : ℕ) → first + length content ≤ s → sector_in first content s ≡ None
none-past first content s past_it = elim (cases-at first content s) [ inl off ↦ off | inr on ↦ absurd (omega (arith, (at-range first content s on.0 on.1).1, past_it)) ]

-- The entries, one by one.
pub ask-same : (s : ℕ) (t : Track) (id : CallId) (request : Asked) → follow s t (Ask id request) ≡ t
unfolding follow
ask-same s t id request = refl

pub reply-same : (s : ℕ) (t : Track) (id : CallId) (answer : Answer) → follow s t (Reply id answer) ≡ t
unfolding follow
reply-same s t id answer = refl

pub issue-at : (s : ℕ) (t : Track) (id : CallId) (first : ℕ) (content : List Sector) (c : Sector) → sector_in first content s ≡ Some c → follow s t (Issue id first content) ≡ record { contents = t.contents ++ c ∷ []; writes = (id, c) ∷ t.writes }
unfolding follow
issue-at s t id first content c h = ap (λ (o : Option Sector). track_after_issue id o t) h

pub issue-off : (s : ℕ) (t : Track) (id : CallId) (first : ℕ) (content : List Sector) → sector_in first content s ≡ None → follow s t (Issue id first content) ≡ t
unfolding follow
issue-off s t id first content h = ap (λ (o : Option Sector). track_after_issue id o t) h

-- a write is done, or has failed, where none is open, where it is the one that is open, and where another is
pub done-none : (s : ℕ) (t : Track) (id : CallId) → t.writes ≡ [] → ((follow s t (Done id)).contents ≡ t.contents) × ((follow s t (Done id)).writes ≡ [])
unfolding follow
done-none s t id h = (ap (λ (ws : List (CallId × Sector)). contents_with_done id ws t.contents) h, ap (writes_without id) h)

pub done-own : (s : ℕ) (t : Track) (id : CallId) (c : Sector) → t.writes ≡ (id, c) ∷ [] → ((follow s t (Done id)).contents ≡ c ∷ []) × ((follow s t (Done id)).writes ≡ [])
unfolding follow
done-own s t id c h = (
  ap (λ (ws : List (CallId × Sector)). contents_with_done id ws t.contents) h ∙ ap (λ (b : Bool). if b then c ∷ [] else t.contents) (same-itself id),
  ap (writes_without id) h ∙ ap (λ (b : Bool). if b then [] else ((id, c) ∷ [])) (same-itself id),
)

pub done-other : (s : ℕ) (t : Track) (id other : CallId) (c : Sector) → t.writes ≡ (other, c) ∷ [] → same_call other id ≡ false → ((follow s t (Done id)).contents ≡ t.contents) × ((follow s t (Done id)).writes ≡ t.writes)
unfolding follow
done-other s t id other c h ne = (
  ap (λ (ws : List (CallId × Sector)). contents_with_done id ws t.contents) h ∙ ap (λ (b : Bool). if b then c ∷ [] else t.contents) ne,
  ap (writes_without id) h ∙ ap (λ (b : Bool). if b then [] else ((other, c) ∷ [])) ne ∙ sym h,
)

pub broke-contents : (s : ℕ) (t : Track) (id : CallId) → (follow s t (Broke id)).contents ≡ t.contents
unfolding follow
broke-contents s t id = refl

pub broke-none : (s : ℕ) (t : Track) (id : CallId) → t.writes ≡ [] → (follow s t (Broke id)).writes ≡ []
unfolding follow
broke-none s t id h = ap (writes_without id) h

pub broke-own : (s : ℕ) (t : Track) (id : CallId) (c : Sector) → t.writes ≡ (id, c) ∷ [] → (follow s t (Broke id)).writes ≡ []
unfolding follow
broke-own s t id c h = ap (writes_without id) h ∙ ap (λ (b : Bool). if b then [] else ((id, c) ∷ [])) (same-itself id)

pub broke-other : (s : ℕ) (t : Track) (id other : CallId) (c : Sector) → t.writes ≡ (other, c) ∷ [] → same_call other id ≡ false → (follow s t (Broke id)).writes ≡ t.writes
unfolding follow
broke-other s t id other c h ne = ap (writes_without id) h ∙ ap (λ (b : Bool). if b then [] else ((other, c) ∷ [])) ne ∙ sym h

pub seen-writes : (s : ℕ) (t : Track) (id : CallId) (first : ℕ) (content : List Sector) → (follow s t (Seen id first content)).writes ≡ t.writes
unfolding follow
seen-writes s t id first content = looked-writes id (sector_in first content s) t

pub seen-at : (s : ℕ) (t : Track) (id : CallId) (first : ℕ) (content : List Sector) (v : Sector) → sector_in first content s ≡ Some v → t.writes ≡ [] → (follow s t (Seen id first content)).contents ≡ v ∷ []
unfolding follow
seen-at s t id first content v h none = ap (λ (o : Option Sector). (track_after_seen id o t).contents) h ∙ ap (λ (ws : List (CallId × Sector)). contents_with_seen v (writes_without id ws) t.contents) none

pub seen-off : (s : ℕ) (t : Track) (id : CallId) (first : ℕ) (content : List Sector) → sector_in first content s ≡ None → follow s t (Seen id first content) ≡ t
unfolding follow
seen-off s t id first content h = ap (λ (o : Option Sector). track_after_seen id o t) h

-- the one content of a list
pub only-one : (v w : Sector) → Contains (w ∷ []) v → v ≡ w
only-one v w there = elim (Contains-push_cases [] w v there) [ inl none ↦ absurd (omega (arith, none.1)) | inr same ↦ sym same ]

pub is-one : (v : Sector) → Contains (v ∷ []) v
is-one v = Contains-push [] v
