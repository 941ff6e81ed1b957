-- What a crash leaves of a new image that is being written.
use Rattle.std.proofs.Common.{ℕ, zero, suc, ◌≡◌, ◌+◌, ◌-◌, ◌<◌, ◌≤◌, ◌⊎◌, inl, inr, List, [], ◌∷◌, ◌++◌, length, take, Some, refl, ap, sym, ◌∙◌, subst, arith, length-append, append-nil, lit<, lit≤}
use Rattle.std.specs.Prelude.{slice_get}
use Rattle.std.specs.List.{AllByRecursion}
use Rattle.std.proofs.lemmas.List.{append_assoc, take-append-le}
use Rattle.std.proofs.lemmas.Option.{slice_get_within}
use Rattle.std.proofs.lemmas.Bool.Decides.{leb_tells}
use Rattle.std.proofs.Math.Seq.{take-append-add}
use Rattle.vd_law.specs.declared.entry.Sector.{Sector}
use Rattle.vd_law.specs.declared.entry.CallId.{CallId}
use Rattle.vd_law.specs.declared.entry.Answer.TheVariants as answers
use Rattle.vd_law.specs.Entries.{Entry, Ask, Issue, Done, Broke, Seen, Reply, past}
use Rattle.vd_format.specs.Headers.{IsValid, header_of}
use Rattle.vd_format.specs.Layouts.{storage_start, store_need}
use Rattle.vd_format.specs.declared.header.Header.{Header}
use Rattle.vd_device.specs.Disks.{Disk}
use Rattle.vd_image.specs.Log.{At}
use Rattle.vd_image.specs.Decoders.{this_version}
use Rattle.vd_image.specs.CrashImages.{sectors_or, IsCrashImage}
use Rattle.vd_image.specs.Made.{header_sector}
use Rattle.vd_image.proofs.CrashImages.{at_inside, past_end}
use Rattle.vd_make.specs.Putting.{IsPut, IsNoSuccess, PutsRange, MayHave, IsDurable, EachFrom, Story, Begun, Blanked, Headed, IsImageWritten}
use Rattle.vd_make.specs.Images.{IsNewImage, IsNoImage, IsEntryOfMaking, HasFlushed, MakesSafely, HasNewImage}
use Rattle.vd_make.proofs.VersionLaws.{Fits, fits_weaker, Left, left_more}
use Rattle.vd_make.proofs.PutLaws.{each_event, fits_inside, fits_outside}
use Rattle.vd_make.proofs.StoryLaws.{firm_after_puts}
use Rattle.vd_make.proofs.NewImages.{new_image, zeros_no_image}
use Rattle.vd_format.specs.Background.{zero_sector}
use Rattle.vd_lists.proofs.Elements.{each_append, each_take}

-- Where a success stands in a log.

behind_quiet : (quiet rest : List Entry) (i : ℕ) (id : CallId) → AllByRecursion IsNoSuccess quiet → slice_get (quiet ++ rest) i ≡ Some (Reply id answers.Ok) → length quiet ≤ i
behind_quiet [] rest i id none is = omega arith
behind_quiet (e ∷ es) rest zero id none is = let same : e ≡ Reply id answers.Ok = (let s : Some e ≡ Some (Reply id answers.Ok) = is in cc) in absurd (subst IsNoSuccess same none.0)
behind_quiet (e ∷ es) rest (suc i) id none is = let h = behind_quiet es rest i id none.1 is in omega (arith, h)

-- it stands behind events without one
behind : (old quiet rest : List Entry) (i : ℕ) (id : CallId) → AllByRecursion IsNoSuccess quiet → length old ≤ i → slice_get (old ++ (quiet ++ rest)) i ≡ Some (Reply id answers.Ok) → length old + length quiet ≤ i
behind [] quiet rest i id none from is = let h = behind_quiet quiet rest i id none is in omega (arith, h)
behind (x ∷ xs) quiet rest zero id none from is = absurd (omega (arith, from))
behind (x ∷ xs) quiet rest (suc i) id none from is = let h = behind xs quiet rest i id none (omega (arith, from)) is in omega (arith, h)

-- a front that reaches into the second part
take_into : (k : ℕ) (xs ys : List Entry) → length xs ≤ k → take k (xs ++ ys) ≡ xs ++ take (k - length xs) ys
take_into k xs ys more = ap (λ (n : ℕ). take n (xs ++ ys)) (omega (arith, more)) ∙ take-append-add xs ys (k - length xs)

-- What stands in a sector of an image that a crash leaves.

image_sector : (P : Sector → Type 0) (start : List Sector) (log : List Entry) (image : List Sector) (s : ℕ) → IsCrashImage start log image → P zero_sector → Left P start (past log) s → P (sectors_or zero_sector image s)
image_sector P start log image s crash zeros left = elim (leb_tells (length image) s) [
  | inl outside ↦ subst P (sym (past_end zero_sector image s outside.1)) zeros
  | inr inside ↦ left (sectors_or zero_sector image s) (crash.sectors s (sectors_or zero_sector image s) (at_inside zero_sector image s inside.1))
]

-- The same of what is held.
held_sector : (v : Sector) (held : List Sector) (s : ℕ) → v ≡ zero_sector ⊎ (s < length held) → ((x : Sector) → slice_get held s ≡ Some x → x ≡ v) → sectors_or zero_sector held s ≡ v
held_sector v held s known each = elim (leb_tells (length held) s) [
  | inl outside ↦ elim known [ inl zeros ↦ past_end zero_sector held s outside.1 ∙ sym zeros | inr inside ↦ absurd (let o = outside.1 in omega (arith, o, inside)) ]
  | inr inside ↦ each (sectors_or zero_sector held s) (at_inside zero_sector held s inside.1)
]

-- while nothing but zeros was written behind it, a first sector of zeros stays
blank_at : (first more : List Entry) (mid new : Disk) (end k : ℕ) (image : List Sector) → IsDurable zero_sector 0 1 first mid → PutsRange zero_sector 1 end more mid new → length mid.log ≤ k → IsCrashImage new.start (take k new.log) image → IsNoImage image
blank_at first more mid new end k image kept puts from crash =
    let part = take (k - length mid.log) more in
    let log : take k new.log ≡ mid.log ++ part = ap (take k) puts.log ∙ take_into k mid.log more from in
    let fits = each_event (IsPut zero_sector 1 end) (Fits (λ x. x ≡ zero_sector) 0) (fits_outside (λ x. x ≡ zero_sector) zero_sector 1 end 0 (inl (lit< tt))) part (each_take (IsPut zero_sector 1 end) (k - length mid.log) more puts.only) in
    let there : Left (λ x. x ≡ zero_sector) new.start (past mid.log) 0 = subst (λ (start : List Sector). Left (λ x. x ≡ zero_sector) start (past mid.log) 0) (sym puts.start) (kept.firm 0 (lit≤ tt) (lit< tt)) in
    let left = subst (λ (l : List Entry). Left (λ x. x ≡ zero_sector) new.start (past l) 0) (sym log) (left_more (λ x. x ≡ zero_sector) new.start mid.log part 0 fits there) in
    ap header_of (image_sector (λ x. x ≡ zero_sector) new.start (take k new.log) image 0 crash refl left) ∙ zeros_no_image

-- a moment after the flush's success
reaches : (old mid new : Disk) (first more : List Entry) (k : ℕ) → mid.log ≡ old.log ++ first → IsDurable zero_sector 0 1 first mid → new.log ≡ mid.log ++ more → HasFlushed (length old.log) k new.log → length mid.log ≤ k
reaches old mid new first more k grown kept log (i, id, from, below, is) =
    let whole : new.log ≡ old.log ++ (kept.before ++ (Reply kept.id answers.Ok ∷ more)) =
    log ∙ ap (λ (l : List Entry). l ++ more) (grown ∙ ap (λ (es : List Entry). old.log ++ es) kept.ends)
    ∙ append_assoc old.log (kept.before ++ Reply kept.id answers.Ok ∷ []) more
    ∙ ap (λ (es : List Entry). old.log ++ es) (append_assoc kept.before (Reply kept.id answers.Ok ∷ []) more) in
    let far = behind old.log kept.before (Reply kept.id answers.Ok ∷ more) i id kept.quiet from (ap (λ (l : List Entry). slice_get l i) (sym whole) ∙ is) in
    let size : length mid.log ≡ length old.log + (length kept.before + 1) =
    ap length (grown ∙ ap (λ (es : List Entry). old.log ++ es) kept.ends) ∙ length-append old.log (kept.before ++ Reply kept.id answers.Ok ∷ [])
    ∙ ap (λ (n : ℕ). length old.log + n) (length-append kept.before (Reply kept.id answers.Ok ∷ [])) in
    omega (arith, far, below, size)

-- no success among these events
never : (old new : Disk) (more : List Entry) (k : ℕ) → new.log ≡ old.log ++ more → AllByRecursion IsNoSuccess more → HasFlushed (length old.log) k new.log → ⊥
never old new more k log quiet (i, id, from, below, is) =
    let whole : new.log ≡ old.log ++ (more ++ []) = log ∙ ap (λ (es : List Entry). old.log ++ es) (sym (append-nil more)) in
    let far = behind old.log more [] i id quiet from (ap (λ (l : List Entry). slice_get l i) (sym whole) ∙ is) in
    let within = slice_get_within new.log i (Reply id answers.Ok) is in
    let size : length new.log ≡ length old.log + length more = ap length log ∙ length-append old.log more in
    omega (arith, far, within, size)

-- once all is zeros but the header, the image is none or the new one
abbrev Either : Header → Sector → Type 0
Either h x = (x ≡ zero_sector) ⊎ (x ≡ header_sector h)

header_at : (h : Header) (more : List Entry) (ready new : Disk) (k : ℕ) (image : List Sector) → IsValid h → h.version ≡ this_version → store_need h ≤ length new.start
    → MayHave zero_sector ready 0 → EachFrom 1 (storage_start h) (MayHave zero_sector ready) → PutsRange (header_sector h) 0 1 more ready new → length ready.log ≤ k → IsCrashImage new.start (take k new.log) image → IsNoImage image ⊎ IsNewImage h image
header_at h more ready new k image valid version room zeros rest puts from crash =
    let part = take (k - length ready.log) more in
    let log : take k new.log ≡ ready.log ++ part = ap (take k) puts.log ∙ take_into k ready.log more from in
    let only = each_take (IsPut (header_sector h) 0 1) (k - length ready.log) more puts.only in
    let start = λ (P : Sector → Type 0) (s : ℕ) (l : Left P ready.start (past ready.log) s). subst (λ (xs : List Sector). Left P xs (past ready.log) s) (sym puts.start) l in
    let back = λ (P : Sector → Type 0) (s : ℕ) (l : Left P new.start (past (ready.log ++ part)) s). subst (λ (es : List Entry). Left P new.start (past es) s) (sym log) l in
    let first = image_sector (Either h) new.start (take k new.log) image 0 crash (inl refl)
    (back (Either h) 0 (left_more (Either h) new.start ready.log part 0
    (each_event (IsPut (header_sector h) 0 1) (Fits (Either h) 0) (λ e put. fits_weaker (λ x. x ≡ header_sector h) (Either h) (λ x same. inr same) 0 e (fits_inside (header_sector h) 0 1 0 e put)) part only)
    (start (Either h) 0 (λ x there. inl (zeros x there))))) in
    let second : (s : ℕ) → 1 ≤ s → s < storage_start h → sectors_or zero_sector image s ≡ zero_sector = λ s low high. (
    image_sector (λ x. x ≡ zero_sector) new.start (take k new.log) image s crash refl
    (back (λ x. x ≡ zero_sector) s (left_more (λ x. x ≡ zero_sector) new.start ready.log part s
    (each_event (IsPut (header_sector h) 0 1) (Fits (λ x. x ≡ zero_sector) s) (fits_outside (λ x. x ≡ zero_sector) (header_sector h) 0 1 s (inr low)) part only)
    (start (λ x. x ≡ zero_sector) s (rest s low high))))) in
    elim first [
      | inl none ↦ inl (ap header_of none ∙ zeros_no_image)
      | inr header ↦ inr (new_image h image valid version (let size = crash.size in omega (arith, room, size)) header second)
    ]

-- The events of making.

making_zeros : (h : Header) (from to : ℕ) → to ≤ storage_start h → (e : Entry) → IsPut zero_sector from to e → IsEntryOfMaking h e
making_zeros h from to within (Ask id request) put = tt
making_zeros h from to within (Issue id first content) put = (omega (arith, within, put.1), inl put.2)
making_zeros h from to within (Done id) put = tt
making_zeros h from to within (Broke id) put = tt
making_zeros h from to within (Seen id first content) put = put
making_zeros h from to within (Reply id answer) put = tt

making_header : (h : Header) (e : Entry) → IsPut (header_sector h) 0 1 e → IsEntryOfMaking h e
making_header h (Ask id request) put = tt
making_header h (Issue id first content) put = (omega (arith, put.1), inr (put.1, put.2))
making_header h (Done id) put = tt
making_header h (Broke id) put = tt
making_header h (Seen id first content) put = put
making_header h (Reply id answer) put = tt

-- a store on which nothing is done
pub nothing_safe : (h : Header) (d : Disk) → MakesSafely h d d
nothing_safe h d = record {
  start = refl;
  more = [];
  log = sym (append-nil d.log);
  writes = tt;
  safe = λ k image flushed crash. absurd (never d d [] k (sym (append-nil d.log)) tt flushed);
}

safe_begun : (h : Header) (old new : Disk) (more : List Entry) → PutsRange zero_sector 0 1 more old new → AllByRecursion IsNoSuccess more → MakesSafely h old new
safe_begun h old new more puts quiet = record {
  start = puts.start;
  more = more;
  log = puts.log;
  writes = each_event (IsPut zero_sector 0 1) (IsEntryOfMaking h) (making_zeros h 0 1 (omega arith)) more puts.only;
  safe = λ k image flushed crash. absurd (never old new more k puts.log quiet flushed);
}

safe_blanked : (h : Header) (old mid new : Disk) (first more : List Entry) → PutsRange zero_sector 0 1 first old mid → IsDurable zero_sector 0 1 first mid → PutsRange zero_sector 1 (storage_start h) more mid new → MakesSafely h old new
safe_blanked h old mid new first more puts kept last = record {
  start = last.start ∙ puts.start;
  more = first ++ more;
  log = last.log ∙ ap (λ (l : List Entry). l ++ more) puts.log ∙ append_assoc old.log first more;
  writes = each_append (IsEntryOfMaking h) first more (each_event (IsPut zero_sector 0 1) (IsEntryOfMaking h) (making_zeros h 0 1 (omega arith)) first puts.only)
      (each_event (IsPut zero_sector 1 (storage_start h)) (IsEntryOfMaking h) (making_zeros h 1 (storage_start h) (omega arith)) more last.only);
  safe = λ k image flushed crash. inl (blank_at first more mid new (storage_start h) k image kept last (reaches old mid new first more k puts.log kept last.log flushed) crash);
}

safe_headed : (h : Header) (old mid ready new : Disk) (first second more : List Entry) → IsValid h → h.version ≡ this_version → store_need h ≤ length old.start → PutsRange zero_sector 0 1 first old mid → IsDurable zero_sector 0 1 first mid
    → PutsRange zero_sector 1 (storage_start h) second mid ready → EachFrom 1 (storage_start h) (MayHave zero_sector ready) → PutsRange (header_sector h) 0 1 more ready new → MakesSafely h old new
safe_headed h old mid ready new first second more valid version room puts kept zeros rest last =
    let log : new.log ≡ mid.log ++ (second ++ more) = last.log ∙ ap (λ (l : List Entry). l ++ more) zeros.log ∙ append_assoc mid.log second more in
    record {
      start = last.start ∙ zeros.start ∙ puts.start;
      more = first ++ (second ++ more);
      log = log ∙ ap (λ (l : List Entry). l ++ (second ++ more)) puts.log ∙ append_assoc old.log first (second ++ more);
      writes = each_append (IsEntryOfMaking h) first (second ++ more) (each_event (IsPut zero_sector 0 1) (IsEntryOfMaking h) (making_zeros h 0 1 (omega arith)) first puts.only)
          (each_append (IsEntryOfMaking h) second more (each_event (IsPut zero_sector 1 (storage_start h)) (IsEntryOfMaking h) (making_zeros h 1 (storage_start h) (omega arith)) second zeros.only)
          (each_event (IsPut (header_sector h) 0 1) (IsEntryOfMaking h) (making_header h) more last.only));
      safe = λ k image flushed crash. (
          let from = reaches old mid new first (second ++ more) k puts.log kept log flushed in
          elim (leb_tells (length ready.log) k) [
            | inl late ↦ header_at h more ready new k image valid version (let same = ap length (last.start ∙ zeros.start ∙ puts.start) in omega (arith, room, same))
                (firm_after_puts (λ x. x ≡ zero_sector) zero_sector 1 (storage_start h) 0 second mid ready (inl (lit< tt)) zeros (kept.firm 0 (lit≤ tt) (lit< tt))) rest last late.1 crash
            | inr early ↦ inl (blank_at first second mid ready (storage_start h) k image kept zeros from (earlier k image early.1 crash))
          ]);
    }
  where
    earlier : (k : ℕ) (image : List Sector) → k < length ready.log → IsCrashImage new.start (take k new.log) image → IsCrashImage ready.start (take k ready.log) image
    earlier k image early crash =
        let log : take k new.log ≡ take k ready.log = ap (take k) last.log ∙ take-append-le k ready.log more (omega (arith, early)) in
        subst (λ (l : List Entry). IsCrashImage ready.start l image) log (subst (λ (xs : List Sector). IsCrashImage xs (take k new.log) image) last.start crash)

-- However far the image was written, its making is safe.
pub story_safe : (h : Header) (old new : Disk) → IsValid h → h.version ≡ this_version → store_need h ≤ length old.start → Story (header_sector h) zero_sector (storage_start h) old new → MakesSafely h old new
story_safe h old new valid version room (Begun more puts quiet) = safe_begun h old new more puts quiet
story_safe h old new valid version room (Blanked first more mid puts kept last) = safe_blanked h old mid new first more puts kept last
story_safe h old new valid version room (Headed first second more mid ready puts kept zeros rest last) = safe_headed h old mid ready new first second more valid version room puts kept zeros rest last

pub story_size : (header zeros : Sector) (end : ℕ) (old new : Disk) → Story header zeros end old new → length new.held ≡ length old.held
story_size header zeros end old new (Begun more puts quiet) = puts.size
story_size header zeros end old new (Blanked first more mid puts kept last) = last.size ∙ puts.size
story_size header zeros end old new (Headed first second more mid ready puts kept blank rest last) = last.size ∙ blank.size ∙ puts.size

pub story_start : (header zeros : Sector) (end : ℕ) (old new : Disk) → Story header zeros end old new → new.start ≡ old.start
story_start header zeros end old new (Begun more puts quiet) = puts.start
story_start header zeros end old new (Blanked first more mid puts kept last) = last.start ∙ puts.start
story_start header zeros end old new (Headed first second more mid ready puts kept blank rest last) = last.start ∙ blank.start ∙ puts.start

-- An image that was written whole is held, and is all that a crash leaves.
pub written_new : (h : Header) (d : Disk) → IsValid h → h.version ≡ this_version → store_need h ≤ length d.start → store_need h ≤ length d.held → IsImageWritten (header_sector h) zero_sector (storage_start h) d → HasNewImage h d
written_new h d valid version start held written = record {
  held = new_image h d.held valid version held
      (held_sector (header_sector h) d.held 0 (inr (omega (arith, held))) written.first_held)
      (λ s low high. held_sector zero_sector d.held s (inl refl) (written.rest_held s low high));
  durable = λ image crash. (
      let size = crash.size in
      let first : At image 0 (sectors_or zero_sector image 0) = at_inside zero_sector image 0 (omega (arith, start, size)) in
      new_image h image valid version (omega (arith, start, size))
      (written.first (sectors_or zero_sector image 0) (crash.sectors 0 (sectors_or zero_sector image 0) first))
      (λ s low high. image_sector (λ x. x ≡ zero_sector) d.start d.log image s crash refl (written.rest s low high)));
}
