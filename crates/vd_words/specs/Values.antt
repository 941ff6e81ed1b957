-- What contracts see of marks, a pen and a scan.
use Rattle.std.specs.Prelude.{◌≡◌, ℕ, ◌<◌, ◌≤◌, Bool, true, false, List, ◌++◌, [], ◌∷◌, Option, MatchOption, replicate, ◌+◌, length}
use Rattle.atomic_table.specs.Seated.{TableId}
use Rattle.vd_words.specs.declared.view.Plan.{Plan}
use Rattle.vd_words.specs.declared.view.View.{View}
use Rattle.vd_words.specs.Counts.{times, count_past, times_seen}
use Rattle.vd_words.specs.Rule.{word_count, has_mark}
use Rattle.std.specs.List.{All, sum_by, count_by}

pub record MarksValue : Type 0 where
  pub id : TableId
  pub blocks : ℕ
  pub drawn : ℕ
  pub scans : ℕ

pub record PenValue : Type 0 where
  pub id : TableId
  pub blocks : ℕ
  pub marked : List ℕ

pub record ScanValue : Type 0 where
  pub id : TableId
  pub limit : ℕ
  pub draws : List ℕ
  pub looks : List (ℕ × Bool)
  pub found : List ℕ
  pub ended : Bool

-- the scan is one of these marks'
abbrev pub IsScanOf : MarksValue → ScanValue → Type 0
IsScanOf marks scan = (scan.id ≡ marks.id) × (scan.limit ≡ marks.drawn)

abbrev pub IsPenOf : MarksValue → PenValue → Type 0
IsPenOf marks pen = (pen.id ≡ marks.id) × (pen.blocks ≡ marks.blocks)

-- One number more was drawn, no less than how many this scan had drawn. The answer is that number where it is below the limit, and else none, and the scan has ended
pub record Draws (old new : ScanValue) (answer : Option ℕ) : Type 0 where
  pub number : ℕ
  pub least : length old.draws ≤ number
  pub added : new.draws ≡ old.draws ++ number ∷ []
  pub answered : MatchOption answer ((old.limit ≤ number) × (new.ended ≡ true)) (λ n. (n ≡ number) × (number < old.limit) × (new.ended ≡ false))

-- One look more, at the block. The answer is the block's bit in the word that the look found
pub record AddsLook (old new : ScanValue) (block : ℕ) (answer : Bool) : Type 0 where
  pub word : ℕ
  pub added : new ≡ record old { looks = old.looks ++ (block, answer) ∷ []; found = old.found ++ word ∷ [] }
  pub answered : answer ≡ has_mark word block

-- the table has a bit for the block
abbrev pub IsBoardFor : TableId → Plan → ℕ → Type 0
IsBoardFor id plan block = (id.words ≡ word_count plan.blocks) × (block < plan.blocks)

abbrev pub new_scan : TableId → ℕ → ScanValue
new_scan id limit = record { id = id; limit = limit; draws = []; looks = []; found = []; ended = false }

-- new marks, a pen that has marked nothing, and scans that have done nothing
pub record IsMade (blocks drawn scans : ℕ) (marks : MarksValue) (pen : PenValue) (list : List ScanValue) : Type 0 where
  pub sizes : (marks.blocks ≡ blocks) × (marks.drawn ≡ drawn) × (marks.scans ≡ scans)
  pub pen_is : pen ≡ record { id = marks.id; blocks = blocks; marked = [] }
  pub scans_are : list ≡ replicate scans (new_scan marks.id drawn)

-- how often the scans drew a number
abbrev pub times_drawn : ℕ → List ScanValue → ℕ
times_drawn x scans = sum_by (λ s. times x s.draws) scans

-- how often the scans saw a block marked
abbrev pub times_looked : ℕ → List ScanValue → ℕ
times_looked block scans = sum_by (λ s. times_seen block s.looks) scans

abbrev pub count_ended : List ScanValue → ℕ
count_ended scans = count_by (λ s. s.ended) scans

-- the second view has the parts, draws and looks of the scans beside those of the first
pub record Gathers (scans : List ScanValue) (old new : View) : Type 0 where
  pub parts : new.parts ≡ old.parts + sum_by (λ _. 1) scans
  pub marked : new.marked ≡ old.marked
  pub drawn : (x : ℕ) → times x new.drawn ≡ times x old.drawn + times_drawn x scans
  pub looked : (b : ℕ) → times_seen b new.looks ≡ times_seen b old.looks + times_looked b scans
  pub ended : (limit : ℕ) → All (λ s. s.limit ≡ limit) scans → count_ended scans ≤ count_past limit new.drawn
