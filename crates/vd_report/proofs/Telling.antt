-- What a guest has seen, told entry by entry.
use Rattle.std.proofs.Common.{◌≡◌, ℕ, ◌+◌, ◌<◌, ◌≤◌, List, [], ◌∷◌, ◌++◌, length, get_or, Some, Result, Ok, Err, sym, ◌∙◌, ap, append-nil, arith}
use Rattle.std.proofs.lemmas.List.Concat.{flat_map-append}
use Rattle.std.proofs.lemmas.Option.{slice_get-get_or}
use Rattle.std.specs.Prelude.{IsErr, slice_get, codes}
use Rattle.std.specs.List.{flat_map, slice_range}
use Rattle.vd_law.specs.declared.entry.Sector.{Sector}
use Rattle.vd_law.specs.Entries.{Entry, Done}
use Rattle.vd_io.specs.Streams.{WritesText}
use Rattle.vd_io.proofs.Composing.{writes-failed, writes-after}
use Rattle.vd_report.specs.Tokens.{token, tokens}
use Rattle.vd_report.specs.Replies.{seen_in}
use Rattle.vd_report.proofs.Ranges.{slice_range-split, slice_range-more}

-- the tokens of what the entries from one place to another show the guest
abbrev pub shown : (guest : ℕ) → List Entry → (from to : ℕ) → List ℕ
shown guest es from to = tokens (flat_map (seen_in guest) (slice_range es from to))

tokens-append : (xs ys : List Sector) → tokens (xs ++ ys) ≡ tokens xs ++ tokens ys
tokens-append xs ys = flat_map-append (λ s. codes " " ++ token s.bytes) xs ys

abbrev pub blank : Entry
blank = Done (record { pass = 0; call = 0 })

abbrev pub entry_at : List Entry → ℕ → Entry
entry_at es at = get_or es at blank

pub at-entry_at : (es : List Entry) (at : ℕ) → at < length es → slice_get es at ≡ Some (entry_at es at)
at-entry_at es at inside = slice_get-get_or es at blank inside

pub shown-more : (guest : ℕ) (es : List Entry) (from at : ℕ) → from ≤ at → at < length es → shown guest es from (at + 1) ≡ shown guest es from at ++ tokens (seen_in guest (entry_at es at))
shown-more guest es from at before inside =
    ap (λ (part : List Entry). tokens (flat_map (seen_in guest) part)) (slice_range-more es from at blank before inside)
    ∙ ap tokens (flat_map-append (seen_in guest) (slice_range es from at) (entry_at es at ∷ []) ∙ ap (λ (last : List Sector). flat_map (seen_in guest) (slice_range es from at) ++ last) (append-nil (seen_in guest (entry_at es at))))
    ∙ tokens-append (flat_map (seen_in guest) (slice_range es from at)) (seen_in guest (entry_at es at))

pub shown-split : (guest : ℕ) (es : List Entry) (from mid to : ℕ) → from ≤ mid → mid ≤ to → shown guest es from to ≡ shown guest es from mid ++ shown guest es mid to
shown-split guest es from mid to before after =
    ap (λ (part : List Entry). tokens (flat_map (seen_in guest) part)) (slice_range-split es from mid to before after)
    ∙ ap tokens (flat_map-append (seen_in guest) (slice_range es from mid) (slice_range es mid to))
    ∙ tokens-append (flat_map (seen_in guest) (slice_range es from mid)) (flat_map (seen_in guest) (slice_range es mid to))

-- where what one entry shows failed, all fails
pub shown-failed : {E : Type 0} (guest : ℕ) (es : List Entry) (from at to : ℕ) {result : Result (Unit {0}) E} {e : E} {before between after : List ℕ} →
    from ≤ at → at < to → to ≤ length es → IsErr result → between ≡ before ++ shown guest es from at →
    ((x : Entry) → slice_get es at ≡ Some x → WritesText (tokens (seen_in guest x)) (Err e) between after) → WritesText (shown guest es from to) result before after
shown-failed guest es from at to first inside within failed wrote part =
    rw (shown-split guest es from (at + 1) to (omega arith) (omega arith), shown-more guest es from at first (omega arith))
    (writes-failed _ failed (writes-after _ wrote (part (entry_at es at) (at-entry_at es at (omega arith)))))

-- where it went well, one more is written
pub shown-going : {E : Type 0} {u : Unit {0}} (guest : ℕ) (es : List Entry) (from at : ℕ) (before : List ℕ) {between after : List ℕ} →
    from ≤ at → at < length es → between ≡ before ++ shown guest es from at →
    ((x : Entry) → slice_get es at ≡ Some x → WritesText {E = E} (tokens (seen_in guest x)) (Ok u) between after) → after ≡ before ++ shown guest es from (at + 1)
shown-going guest es from at before first inside wrote part =
    let more = writes-after (shown guest es from at) wrote (part (entry_at es at) (at-entry_at es at inside)) in
    more.ok ∙ ap (λ (text : List ℕ). before ++ text) (sym (shown-more guest es from at first inside))
