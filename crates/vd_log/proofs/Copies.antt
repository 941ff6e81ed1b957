-- What is remembered of contents when sectors are put behind the others, and copies of one sector.
use Rattle.std.proofs.Common.{◌≡◌, ℕ, ◌+◌, ◌-◌, ◌<◌, ◌≤◌, List, [], ◌++◌, length, take, drop, refl, ap, sym, ◌∙◌, subst, arith, length-append}
use Rattle.std.specs.Prelude.{replicate, slice_index_or}
use Rattle.std.proofs.lemmas.List.{get_or-drop, get_or-take, get_or-replicate, take-take, take-replicate, length-replicate}
use Rattle.std.proofs.Math.Seq.{drop-append_seam}
use Rattle.std.specs.List.{All}
use Rattle.std.proofs.lemmas.List.Elements.{All-weaker, All-replicate}
use Rattle.vd_law.specs.declared.entry.Sector.{Sector}
use Rattle.vd_log.specs.declared.sharing.Stretch.{Stretch}
use Rattle.vd_log.specs.declared.sharing.Shared.{Shared}
use Rattle.vd_log.specs.StoredEntries.{content_in, IsAmong, IsOfOneSector, IsShared}
use Rattle.vd_log.proofs.Storing.{content_at-append}

pub run-append : (xs ys : List Sector) (run : Stretch) → IsOfOneSector xs run → IsOfOneSector (xs ++ ys) run
run-append xs ys run is = (let long = length-append xs ys in let within = is.0 in omega (arith, long, within), is.1, content_at-append xs ys run is.0 ∙ is.2)

pub shared-append : (xs ys : List Sector) (shared : Shared) → IsShared xs shared → IsShared (xs ++ ys) shared
shared-append xs ys shared is =
    let long = length-append xs ys in record {
      next = (let next = is.next in omega (arith, long, next));
      places = is.places;
      each_place = All-weaker (IsAmong (length xs)) (IsAmong (length (xs ++ ys))) (λ (s : Stretch) within. omega (arith, long, within)) shared.places.items is.each_place;
      runs = is.runs;
      each_run = All-weaker (IsOfOneSector xs) (IsOfOneSector (xs ++ ys)) (λ (r : Stretch) run. run-append xs ys r run) shared.runs.items is.each_run;
    }

-- a run whose first sector is this one has copies of it at its front
pub run-front : (sectors : List Sector) (run : Stretch) (first d : Sector) (count : ℕ) → IsOfOneSector sectors run → 0 < count → count ≤ run.count → slice_index_or sectors run.start d ≡ first
    → content_in sectors (record { start = run.start; count = count }) ≡ replicate count first
run-front sectors run first d count is some less same =
    let rest : List Sector = drop run.start sectors in
    let all : take run.count rest ≡ replicate run.count is.1 = ap (λ (n : ℕ). take n rest) (sym (behind run.start run.count)) ∙ is.2 in
    let begins : first ≡ is.1 =
    sym same ∙ ap (λ (n : ℕ). slice_index_or sectors n d) (omega arith) ∙ sym (get_or-drop run.start sectors 0 d)
    ∙ sym (get_or-take run.count rest 0 d (omega (arith, some, less)))
    ∙ ap (λ (ws : List Sector). slice_index_or ws 0 d) all ∙ get_or-replicate run.count 0 is.1 d (omega (arith, some, less)) in
    ap (λ (n : ℕ). take n rest) (behind run.start count)
    ∙ sym (take-take count run.count rest less)
    ∙ ap (take count) all ∙ take-replicate count run.count is.1 less ∙ ap (λ (v : Sector). replicate count v) (sym begins)
  where
    behind : (start count : ℕ) → (start + count) - start ≡ count
    behind start count = omega arith

-- nothing is remembered
abbrev pub nothing : Stretch
nothing = record { start = 0; count = 0 }

pub none-shared : (shared : Shared) → shared.next ≡ nothing → shared.places.items ≡ replicate 4096 nothing → shared.runs.items ≡ replicate 256 nothing → IsShared [] shared
none-shared shared next places runs = record {
  next = (let start : shared.next.start ≡ 0 = ap (λ (s : Stretch). s.start) next in let count : shared.next.count ≡ 0 = ap (λ (s : Stretch). s.count) next in omega (arith, start, count));
  places = ap length places ∙ length-replicate 4096 nothing;
  each_place = subst (All (IsAmong 0)) (sym places) (All-replicate (IsAmong 0) 4096 nothing (omega arith));
  runs = ap length runs ∙ length-replicate 256 nothing;
  each_run = subst (All (IsOfOneSector [])) (sym runs) (All-replicate (IsOfOneSector []) 256 nothing (omega arith, record { bytes = replicate 512 0 }, refl));
}

-- copies that were put behind the others
pub kept-copies : (xs : List Sector) (x : Sector) (n count : ℕ) (run : Stretch) → run.start ≡ length xs → count ≤ n → content_in (xs ++ replicate n x) (record { start = run.start; count = count }) ≡ replicate count x
kept-copies xs x n count run start less =
    ap (λ (m : ℕ). take ((m + count) - m) (drop m (xs ++ replicate n x))) start
    ∙ ap (λ (m : ℕ). take m (drop (length xs) (xs ++ replicate n x))) (size (length xs) count)
    ∙ ap (take count) (drop-append_seam xs (replicate n x)) ∙ take-replicate count n x less
  where
    size : (start count : ℕ) → (start + count) - start ≡ count
    size start count = omega arith

pub kept-run : (xs : List Sector) (x : Sector) (n : ℕ) (run : Stretch) → run.start ≡ length xs → run.count ≡ n → IsOfOneSector (xs ++ replicate n x) run
kept-run xs x n run start count = (
  (let long = length-append xs (replicate n x) in let copies = length-replicate n x in omega (arith, long, copies, start, count)),
  x,
  kept-copies xs x n run.count run start (omega (arith, count)),
)
