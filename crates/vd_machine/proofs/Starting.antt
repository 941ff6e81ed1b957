-- What a store had told at opening stays while it goes on; and what a clean and honest store held is its image then.
use Rattle.std.proofs.Common.{◌≡◌, ℕ, ◌<◌, ◌≤◌, List, [], ◌∷◌, length, take, refl, sym, ◌∙◌, ap, subst, arith, length-append, Contains}
use Rattle.std.proofs.lemmas.List.{take-append-le, take_all}
use Rattle.vd_law.specs.declared.entry.Sector.{Sector}
use Rattle.vd_law.specs.Entries.{Entry}
use Rattle.vd_device.specs.Disks.{Disk, IsHonest, GrowsBy, StoppedSince}
use Rattle.vd_device.specs.Frames.{GoesOn}
use Rattle.vd_image.specs.CrashImages.{sectors_or}
use Rattle.vd_image.proofs.CrashImages.{at_inside}
use Rattle.vd_passes.specs.Tracks.{track}
use Rattle.vd_passes.proofs.Tracks.{track-contents}
use Rattle.vd_machine.specs.Start.{opening_at, WasClean, first_or_zeros, image_at}

-- the store has gone on by some entries
abbrev pub HasGrown : Disk → Disk → Type 0
HasGrown disk disk' = (events : List Entry) × GrowsBy events disk disk'

pub since-more : {disk disk' : Disk} (opened : ℕ) → HasGrown disk disk' → opened ≤ length disk.log → opened ≤ length disk'.log
since-more {disk} {disk'} opened on since = let log = ap length on.1.log in let long = length-append disk.log on.0 in omega (arith, log, long, since)

-- the opening lies within the log, which goes on
pub opening-goes-on : (opened : ℕ) (disk disk' : Disk) → GoesOn disk disk' → opened ≤ length disk.log → opening_at opened disk' ≡ opening_at opened disk
opening-goes-on opened disk disk' on within =
    ap (λ (xs : List Sector). opening_at opened (record { start = xs; log = disk'.log; held = disk'.held })) on.start
    ∙ ap (λ (xs : List Entry). record { start = disk.start; log = xs }) (ap (take opened) on.log ∙ take-append-le opened disk.log on.more within)

-- the log stands
pub opening-stood : (opened events : ℕ) (disk disk' : Disk) → StoppedSince events disk disk' → opening_at opened disk' ≡ opening_at opened disk
opening-stood opened events disk disk' stood =
    ap (λ (xs : List Sector). opening_at opened (record { start = xs; log = disk'.log; held = disk'.held })) stood.start
    ∙ ap (λ (xs : List Entry). opening_at opened (record { start = disk.start; log = xs; held = disk'.held })) stood.log

pub opening-same : {disk disk' : Disk} (opened : ℕ) → HasGrown disk disk' → opened ≤ length disk.log → opening_at opened disk' ≡ opening_at opened disk
opening-same {disk} {disk'} opened grown since = opening-goes-on opened disk disk' (record { start = grown.1.start; more = grown.0; log = grown.1.log }) since

-- all that was told is what has been told up to now
pub all-told : (disk : Disk) (opened : ℕ) → opened ≡ length disk.log → take opened disk.log ≡ disk.log
all-told disk opened same = take_all opened disk.log (omega arith)

first-in : (xs : List Sector) (v : Sector) → Contains xs v → Contains xs (first_or_zeros xs)
first-in [] v there = absurd (let within = there.1 in omega arith)
first-in (x ∷ xs) v there = (0, omega arith, refl)

-- In a clean store what a sector may hold is what its image has.
pub clean-one : (disk : Disk) (opened a : ℕ) (v : Sector) → opened ≡ length disk.log → WasClean (opening_at opened disk) → Contains (track disk.start disk.log a).contents v → v ≡ image_at (opening_at opened disk) a
unfolding image_at
clean-one disk opened a v same clean there =
    let log = all-told disk opened same in
    let contents = (track disk.start (take opened disk.log) a).contents in
    let here : Contains contents v = subst (λ (xs : List Entry). Contains (track disk.start xs a).contents v) (sym log) there in
    (clean a).one v (first_or_zeros contents) here (first-in contents v here)

-- and where it is honest, it holds its image
pub clean-held : (disk : Disk) (opened a : ℕ) (other : Sector) → opened ≡ length disk.log → IsHonest disk → WasClean (opening_at opened disk) → a < length disk.held → image_at (opening_at opened disk) a ≡ sectors_or other disk.held a
clean-held disk opened a other same honest clean inside =
    let v = sectors_or other disk.held a in
    let could = honest a v (at_inside other disk.held a inside) in
    sym (clean-one disk opened a v same clean (subst (λ (xs : List Sector). Contains xs v) (sym (track-contents disk.start disk.log a)) could))
