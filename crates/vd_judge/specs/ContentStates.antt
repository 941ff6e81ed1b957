-- What the code's states of a sector stand for.
use Rattle.std.specs.Prelude.{IsTrue, ◌↔◌, drop, ◌≡◌, ℕ, max, Bool, false, not, ◌&&◌, ◌||◌, List, [], ◌∷◌, ◌++◌, length, Option, None, is_some, if◌then◌else◌}
use Rattle.std.specs.Option.{option_map}
use Rattle.vd_law.specs.declared.entry.Sector.{Sector}
use Rattle.vd_law.specs.declared.entry.CallId.{CallId}
use Rattle.vd_judge.specs.declared.contents.OpenWrite.{OpenWrite}
use Rattle.vd_judge.specs.declared.contents.Track.{Track}
use Rattle.std.specs.List.{Contains}
use Rattle.vd_judge.specs.declared.contents.Search.{Search}
use Rattle.vd_judge.specs.declared.contents.Change as change
use Rattle.vd_judge.specs.declared.contents.Change.TheVariants as changes
use Rattle.vd_law.specs.Entries.{Entry, Issue, call_of, same_call, Past, nothing, ◌▸◌}
use Rattle.vd_law.specs.Calls.{before_ask}
use Rattle.vd_law.specs.Contents.{sector_in, issued_contents, Open, open_write, could_after, last_done, firm_after, versions}

abbrev pub open_of : OpenWrite → Open
open_of w = record { call = w.call; number = w.number; content = w.content.now }

-- how many Issues there were on a sector, and the one that a call has open
abbrev pub track_of : Track → ℕ × Option Open
track_of track = (track.written, option_map open_of track.current)

abbrev pub count_and_open : Past → CallId → ℕ → ℕ × Option Open
count_and_open p id s = (length (issued_contents p s), open_write p id s)

-- that after a Done or a Broke, of the call or of another
abbrev pub open_after_end : Bool → ℕ × Option Open → ℕ × Option Open
open_after_end of_call track = (track.0, if of_call then None else track.1)

-- what an entry makes of the contents of a sector
abbrev pub contents_after_change : change.Change → List Sector → List Sector
contents_after_change changes.Same contents = contents
contents_after_change (changes.More v) contents = contents ++ v.now ∷ []
contents_after_change (changes.Only v) contents = v.now ∷ []

-- e makes this of what sector s could hold after p
abbrev pub IsChangeBy : Past → Entry → ℕ → change.Change → Type 0
IsChangeBy p e s change = (start : List Sector) → could_after start (p ▸ e) s ≡ contents_after_change change (could_after start p s)

-- e makes what was done before its Ask firm, as the good end of a flush does, or nothing
abbrev pub MakesFirm : Past → Entry → Bool → Type 0
MakesFirm p e firms = (s : ℕ) → firm_after (p ▸ e) s ≡ (if firms then max (firm_after p s) (last_done (before_ask p (call_of e)) s) else firm_after p s)

-- whether a call that has an Issue on the sector in q, and isn't this one, has it open after p
abbrev pub some_open : Past → CallId → ℕ → Past → Bool
some_open p id s nothing = false
some_open p id s (q ▸ Issue c first content) =
    some_open p id s q || (is_some (sector_in first content s) && (not (same_call c id) && is_some (open_write p c s)))
some_open p id s (q ▸ _) = some_open p id s q

-- the search of v among the versions of the sector from `firm` on
pub record IsSearch (start : List Sector) (p : Past) (s firm : ℕ) (v : Sector) (search : Search) : Type 0 where
  pub number : search.number ≡ length (issued_contents p s)
  pub found : IsTrue search.found ↔ Contains (drop firm (versions start p s)) v
