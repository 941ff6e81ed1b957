-- A trace that is written line by line.
use Rattle.std.proofs.Common.{◌≡◌, ℕ, ◌+◌, ◌<◌, List, [], ◌∷◌, ◌++◌, length, take, drop, get_or, Result, Err, refl, sym, ◌∙◌, ap, append-nil, append_assoc}
use Rattle.std.proofs.lemmas.List.{take_more, take-append-drop}
use Rattle.std.proofs.lemmas.List.Concat.{flat_map-append}
use Rattle.std.proofs.lemmas.List.Folds.{flat_map-map}
use Rattle.std.specs.Prelude.{IsErr, codes, decimal, map}
use Rattle.std.specs.List.{flat_map, join_with_byte}
use Rattle.vd_io.specs.Streams.{WritesText}
use Rattle.vd_io.proofs.Composing.{writes-failed, writes-after}
use Rattle.vd_law.specs.declared.entry.Sector.{Sector}
use Rattle.vd_trace.specs.declared.kept.Item.{Item}
use Rattle.vd_trace.specs.declared.kept.Shown.{Shown}
use Rattle.vd_trace.specs.declared.line.Line.TheVariants.{Asks}
use Rattle.vd_trace.specs.declared.line.Work.{Work}
use Rattle.vd_trace.specs.declared.line.Work.TheVariants.{Read, Fill, Put, Flush}
use Rattle.vd_trace.specs.Texts.{work_fields, trace_line_text, asking_line, showing_line}
use Rattle.vd_trace.specs.Printing.{item_text, trace_shown_text}
use Rattle.vd_trace.specs.Keeping.{asking_of, showing_of}

-- the lines of the first, and then those of the others
parts : {X : Type 0} (f : X → List ℕ) (xs : List X) (i : ℕ) (d : X) → i < length xs → flat_map f xs ≡ (flat_map f (take i xs) ++ f (get_or xs i d)) ++ flat_map f (drop (i + 1) xs)
parts f xs i d inside =
    ap (flat_map f) (sym (take-append-drop (i + 1) xs)) ∙ flat_map-append f (take (i + 1) xs) (drop (i + 1) xs)
    ∙ ap (λ (t : List ℕ). t ++ flat_map f (drop (i + 1) xs))
    (ap (flat_map f) (take_more xs i d inside) ∙ flat_map-append f (take i xs) (get_or xs i d ∷ []) ∙ ap (λ (t : List ℕ). flat_map f (take i xs) ++ t) (append-nil (f (get_or xs i d))))

-- where the line of one failed behind those before it, the text of all fails
pub pieces-failed : {X E : Type 0} (f : X → List ℕ) (xs : List X) (i : ℕ) (d : X) {result : Result (Unit {0}) E} {e : E} {before between after : List ℕ} →
    i < length xs → IsErr result → between ≡ before ++ flat_map f (take i xs) → WritesText (f (get_or xs i d)) (Err e) between after → WritesText (flat_map f xs) result before after
pieces-failed f xs i d inside failed wrote part = rw (parts f xs i d inside) (writes-failed _ failed (writes-after _ wrote part))

-- the guest, and what it asks
asks-joined : (guest : ℕ) (w : Work) → join_with_byte 32 (decimal guest ∷ work_fields w) ≡ (decimal guest ++ codes " ") ++ join_with_byte 32 (work_fields w)
asks-joined guest (Read f c) = sym (append_assoc (decimal guest) (codes " ") (join_with_byte 32 (work_fields (Read f c))))
asks-joined guest (Fill f c b) = sym (append_assoc (decimal guest) (codes " ") (join_with_byte 32 (work_fields (Fill f c b))))
asks-joined guest (Put f s) = sym (append_assoc (decimal guest) (codes " ") (join_with_byte 32 (work_fields (Put f s))))
asks-joined guest Flush = sym (append_assoc (decimal guest) (codes " ") (join_with_byte 32 (work_fields Flush)))

pub asks-written : (guest : ℕ) (w : Work) (first kind work whole : List ℕ) → first ≡ decimal guest → kind ≡ first ++ codes " " → work ≡ kind ++ join_with_byte 32 (work_fields w) → whole ≡ work ++ codes "\n" →
    whole ≡ trace_line_text (Asks guest w)
asks-written guest w first kind work whole is-first is-kind is-work is-whole = rw (is-whole, is-work, is-kind, is-first, asks-joined guest w) refl

-- the text of what is kept
pub kept-text : (sectors : List Sector) (items : List Item) (shows : List Shown) →
    flat_map trace_line_text (map asking_line (map (asking_of sectors) items) ++ map showing_line (map showing_of shows)) ≡ flat_map (item_text sectors) items ++ flat_map trace_shown_text shows
kept-text sectors items shows =
    flat_map-append trace_line_text (map asking_line (map (asking_of sectors) items)) (map showing_line (map showing_of shows))
    ∙ ap (λ (t : List ℕ). t ++ flat_map trace_line_text (map showing_line (map showing_of shows)))
    (flat_map-map trace_line_text asking_line (map (asking_of sectors) items) ∙ flat_map-map (λ a. trace_line_text (asking_line a)) (asking_of sectors) items)
    ∙ ap (λ (t : List ℕ). flat_map (item_text sectors) items ++ t) (flat_map-map trace_line_text showing_line (map showing_of shows) ∙ flat_map-map (λ s. trace_line_text (showing_line s)) showing_of shows)
