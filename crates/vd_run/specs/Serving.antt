-- One guest is served: its requests are asked in order, each has its reply, and nobody else asks. In the end a flush closes the image.
use Rattle.std.specs.Prelude.{ℕ, ◌≡◌, ◌==◌, if◌then◌else◌, Bool, true, List, [], ◌∷◌, ◌++◌, length, Option, Some, None, slice_get}
use Rattle.std.specs.List.{All, flat_map}
use Rattle.vd_law.specs.declared.entry.Answer.{Answer}
use Rattle.vd_law.specs.Entries.{Asked, Flush, Entry, Ask, Reply, call_of}
use Rattle.vd_law.specs.Rules.{IsInside}
use Rattle.vd_passes.specs.declared.pass.Pass.{Pass}
use Rattle.vd_passes.specs.declared.pass.Phase.TheVariants.{Idle}

-- the requests that a pass has asked, in order
abbrev pub asked_by : (pass : ℕ) → Entry → List Asked
asked_by pass (Ask id request) = if id.pass == pass then request ∷ [] else []
asked_by pass e = []

abbrev pub requests_in : List Entry → (pass : ℕ) → List Asked
requests_in history pass = flat_map (asked_by pass) history

abbrev pub ArePassesIdle : List Pass → Type 0
ArePassesIdle passes = (i : ℕ) (p : Pass) → slice_get passes i ≡ Some p → p.phase ≡ Idle

-- it is a flush, or a read or a write of sectors that a disk of this size has
abbrev pub IsServable : (size : ℕ) → Asked → Type 0
IsServable size Flush = Unit {0}
IsServable size request = IsInside size request

-- both of two passes are idle, and no flush is under way
pub record IsResting (passes : List Pass) (flusher : Option ℕ) : Type 0 where
  pub two : length passes ≡ 2
  pub idle : ArePassesIdle passes
  pub free : flusher ≡ None

-- two passes that have asked nothing
pub record IsUnused (passes : List Pass) (flusher : Option ℕ) (history : List Entry) : Type 0 where
  pub resting : IsResting passes flusher
  pub empty : history ≡ []

-- Guest 1 has asked these requests and no others, and each has its reply.
pub record IsServed (requests : List Asked) (passes : List Pass) (history : List Entry) : Type 0 where
  pub asked : requests_in history 1 ≡ requests
  pub alone : All (λ e. (call_of e).pass ≡ 1) history
  pub idle : ArePassesIdle passes

-- A pass has asked a flush and had this answer, and nothing else was added.
pub record AddsAnsweredFlush (pass : ℕ) (answer : Answer) (history history' : List Entry) : Type 0 where
  pub call : ℕ
  pub after : history' ≡ history ++ Ask (record { pass = pass; call = call }) Flush ∷ Reply (record { pass = pass; call = call }) answer ∷ []

-- every local block is one that every image has
abbrev pub AreInEveryImage : (fresh stale : List Bool) → Type 0
AreInEveryImage fresh stale = (block : ℕ) → slice_get fresh block ≡ Some true → slice_get stale block ≡ Some true

-- pass 0 has flushed, and this was its answer
abbrev pub Closes : Answer → (history history' : List Entry) → Type 0
Closes answer history history' = AddsAnsweredFlush 0 answer history history'
