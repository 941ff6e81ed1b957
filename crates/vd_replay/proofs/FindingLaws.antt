-- What the first sector of a store says.
use Rattle.std.proofs.Common.{ℕ, ◌≡◌, ◌<◌, ◌≤◌, List, [], ◌∷◌, length, Option, Result, Ok, Err, ap, sym, ◌∙◌, subst, arith}
use Rattle.std.specs.Prelude.{slice_index_or, IfOk, IfErr}
use Rattle.vd_law.specs.declared.entry.Sector.{Sector}
use Rattle.vd_format.specs.declared.header.Header.{Header}
use Rattle.vd_format.specs.declared.header.HeaderError.{HeaderError}
use Rattle.vd_format.specs.Headers.{IsValid, header_of}
use Rattle.vd_device.specs.Quiet.{sectors_from}
use Rattle.vd_format.specs.Layouts.{store_need}
use Rattle.vd_image.specs.Openings.{RefusesOpening, TooSmall, No_sectors, Header_bad, Store_small}
use Rattle.vd_replay.specs.Images.{image_of}
use Rattle.vd_replay.specs.Finding.{Found, Agrees, IsWrong, NotFound, ForStore}
use Rattle.vd_replay.specs.Filling.{IsOfReading}
use Rattle.vd_replay.specs.declared.error.OpenError.{OpenError}
use Rattle.vd_replay.specs.declared.error.OpenError.TheVariants as error

-- what holds of the ticket of each store fault, where this does
pub for_store : {P Q : ℕ → Type 0} (e : OpenError) → ((ticket : ℕ) → P ticket → Q ticket) → ForStore P e → ForStore Q e
for_store (error.Store ticket) more is = more ticket is
for_store (error.Header e) more is = tt
for_store (error.TooSmall need have) more is = tt
for_store error.OldVersion more is = tt
for_store (error.BadEntry chunk value) more is = tt
for_store (error.BadRecord slot) more is = tt
for_store (error.DoubleChunk a b) more is = tt
for_store (error.Changed field) more is = tt
for_store error.NotBuilt more is = tt
for_store error.NoMemory more is = tt

-- the same, of an error of a reading
pub reading_fault : {P Q : ℕ → Type 0} (e : OpenError) → ((ticket : ℕ) → P ticket → Q ticket) → IsOfReading P e → ForStore Q e
reading_fault (error.Store ticket) more is = more ticket is
reading_fault (error.Header e) more is = absurd is
reading_fault (error.TooSmall need have) more is = absurd is
reading_fault error.OldVersion more is = absurd is
reading_fault (error.BadEntry chunk value) more is = tt
reading_fault (error.BadRecord slot) more is = tt
reading_fault (error.DoubleChunk a b) more is = tt
reading_fault (error.Changed field) more is = absurd is
reading_fault error.NotBuilt more is = tt
reading_fault error.NoMemory more is = absurd is

pub no_sectors : (kept : Option Header) (held : List Sector) → length held ≡ 0 → NotFound kept held (error.TooSmall 1 0)
no_sectors kept held none = (No_sectors none, λ h some. absurd (omega arith))

-- the sector that was read is the first of the image
pub first_sector : (held out : List Sector) (d : Sector) → out ≡ sectors_from held 0 1 → 0 < length held → slice_index_or out 0 d ≡ image_of held 0
first_sector [] out d read some = absurd (omega (arith, some))
first_sector (x ∷ held) out d read some = ap (λ (xs : List Sector). slice_index_or xs 0 d) read

pub bad_header : (kept : Option Header) (held : List Sector) (e : HeaderError) → 0 < length held → header_of (image_of held 0) ≡ Err e → NotFound kept held (error.Header e)
bad_header kept held e some bad = Header_bad e some bad

pub wrong_header : (kept : Option Header) (held : List Sector) (h : Header) (have : ℕ) (e : OpenError) → have ≡ length held → 0 < length held → header_of (image_of held 0) ≡ Ok h → IsWrong kept h have e → NotFound kept held e
wrong_header kept held h have (error.Changed field) size some reads wrong = (h, some, reads, wrong)
wrong_header kept held h have (error.TooSmall need n) size some reads wrong = (
  subst (λ (k : ℕ). RefusesOpening (length held) (image_of held) (TooSmall need k)) (sym (wrong.2 ∙ size))
      (subst (λ (k : ℕ). RefusesOpening (length held) (image_of held) (TooSmall k (length held))) (sym wrong.1) (Store_small h some reads (let s = wrong.3 in omega arith))),
  (λ g more also. (let same : h ≡ g = cc in subst (Agrees kept) same wrong.0)),
)
wrong_header kept held h have (error.Store ticket) size some reads wrong = absurd wrong
wrong_header kept held h have (error.Header e) size some reads wrong = absurd wrong
wrong_header kept held h have error.OldVersion size some reads wrong = absurd wrong
wrong_header kept held h have (error.BadEntry chunk value) size some reads wrong = absurd wrong
wrong_header kept held h have (error.BadRecord slot) size some reads wrong = absurd wrong
wrong_header kept held h have (error.DoubleChunk a b) size some reads wrong = absurd wrong
wrong_header kept held h have error.NotBuilt size some reads wrong = absurd wrong
wrong_header kept held h have error.NoMemory size some reads wrong = absurd wrong

-- what is judged to be the header is found
pub found_header : (T : Type 0) (r : Result Header OpenError) (held : List Sector) (h : Header) (have : ℕ) → IfOk r (λ (g : Header). g ≡ h) → IfOk r (λ (g : Header). store_need g ≤ have)
    → (T → (have ≡ length held) × (0 < length held) × (header_of (image_of held 0) ≡ Ok h)) → IfOk r (λ (g : Header). T → Found held g)
found_header T (Ok g) held h have same room knows = λ told. let k = knows told in let size = k.0 in record { some = k.1; reads = k.2 ∙ ap Ok (sym same); room = (let r = room in omega arith) }
found_header T (Err e) held h have same room knows = tt

pub not_found_header : (T : Type 0) (r : Result Header OpenError) (kept : Option Header) (held : List Sector) (h : Header) (have : ℕ) → IfErr r (IsWrong kept h have)
    → (T → (have ≡ length held) × (0 < length held) × (header_of (image_of held 0) ≡ Ok h)) → IfErr r (λ (e : OpenError). T → NotFound kept held e)
not_found_header T (Ok g) kept held h have wrong knows = tt
not_found_header T (Err e) kept held h have wrong knows = λ told. let k = knows told in wrong_header kept held h have e k.0 k.1 k.2 wrong

pub valid_header : (r : Result Header OpenError) (h : Header) → IsValid h → IfOk r (λ (g : Header). g ≡ h) → IfOk r IsValid
valid_header (Ok g) h valid same = subst IsValid (sym same) valid
valid_header (Err e) h valid same = tt

-- where the answer is good, P holds
pub on_good : (P : Type 0) (r : Result Header OpenError) → P → IfOk r (λ (g : Header). P)
on_good P (Ok g) p = p
on_good P (Err e) p = tt
