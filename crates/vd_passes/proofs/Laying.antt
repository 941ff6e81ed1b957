-- What the store is given for a piece, sector by sector.
use Rattle.std.proofs.Common.{◌≡◌, ℕ, ◌+◌, ◌-◌, ◌*◌, ◌<◌, ◌≤◌, ◌⊎◌, Bool, false, List, [], ◌∷◌, ◌++◌, length, take, drop, ◌∙◌, ap, inl, inr, arith, Some, None, slice_get, length-drop, length-append}
use Rattle.std.proofs.lemmas.List.{length-take-le}
use Rattle.vd_lists.proofs.Lists.{length_behind}
use Rattle.vd_lists.proofs.Places.{slice_get_either, slice_get_longer, slice_get_behind, slice_get_taken, slice_get_dropped}
use Rattle.vd_law.specs.declared.entry.Sector.{Sector}
use Rattle.vd_law.specs.Contents.{sector_in}
use Rattle.vd_device.specs.declared.ticket.Ticket.{Ticket}
use Rattle.vd_law.specs.Entries.{Entry}
use Rattle.vd_passes.specs.declared.shape.Shape.{Shape}
use Rattle.vd_passes.specs.declared.pass.Pass.{Pass}
use Rattle.vd_passes.specs.declared.pass.Phase.TheVariants.{Filled}
use Rattle.vd_passes.specs.Laying.{content_with_part, extent, IsRest, Lays}
use Rattle.vd_passes.specs.Passes.{IsPiece, IsStored}
use Rattle.vd_passes.specs.Requests.{requests}
use Rattle.vd_passes.specs.Steps.{IsGiven}
use Rattle.vd_passes.proofs.Tracks.{at-range, at-some, some-at, none-before, none-past}

-- a content of which a part is another is as long as it was
pub length-laid : (k : ℕ) (part content : List Sector) → k + length part ≤ length content → length (content_with_part k part content) ≡ length content
length-laid k part content fits =
    let a = length_behind k part content (omega arith) in
    let b : length (drop (k + length part) content) ≡ length content - (k + length part) = length-drop (k + length part) content in
    let c : length (content_with_part k part content) ≡ length (take k content ++ part) + length (drop (k + length part) content) = length-append (take k content ++ part) (drop (k + length part) content) in
    omega arith

-- a laid content has the part's sector, or the part has none there and it is the one that stood there
laid-source : (first k : ℕ) (part content : List Sector) (s : ℕ) (c : Sector) → k + length part ≤ length content → first ≤ s → slice_get (content_with_part k part content) (s - first) ≡ Some c
    → (sector_in (first + k) part s ≡ Some c) ⊎ ((sector_in (first + k) part s ≡ None) × (sector_in first content s ≡ Some c))
laid-source first k part content s c fits from h =
    let t : length (take k content) ≡ k = length-take-le k content (omega arith) in
    let u = length_behind k part content (omega arith) in
    elim (slice_get_either (take k content ++ part) (drop (k + length part) content) (s - first) c h) [
      | inl a ↦ elim (slice_get_either (take k content) part (s - first) c a.1) [
        | inl d ↦ inr (none-before (first + k) part s (let x = d.0 in omega arith), some-at first content s c from (slice_get_taken content k (s - first) c d.1))
        | inr d ↦ inl (some-at (first + k) part s c (let x = d.0 in omega arith) (let e : s - (first + k) ≡ s - first - length (take k content) = omega arith in rw e d.1))
      ]
      | inr a ↦ inr (
        none-past (first + k) part s (let x = a.0 in omega arith),
        some-at first content s c from (slice_get_dropped content (k + length part) (s - first - length (take k content ++ part)) (s - first) c (let x = a.0 in omega arith) a.1),
      )
    ]

laid-part : (first k : ℕ) (part content : List Sector) (s : ℕ) (c : Sector) → k + length part ≤ length content → sector_in (first + k) part s ≡ Some c → slice_get (content_with_part k part content) (s - first) ≡ Some c
laid-part first k part content s c fits h =
    let r = at-range (first + k) part s c h in let from = r.0 in
    let t : length (take k content) ≡ k = length-take-le k content (omega arith) in
    slice_get_longer (take k content ++ part) (drop (k + length part) content) (s - first) c
    (slice_get_behind (take k content) part (s - first) (s - (first + k)) (omega arith) ∙ at-some (first + k) part s c h)

-- the piece itself is stored in its place
pub lays-piece : (rest : ℕ → Sector) (block b at first : ℕ) (part : List Sector) (stored_first : ℕ) (is_rest : Type 0) → stored_first + block * b ≡ at + first → Lays rest block b at (extent first part) (extent stored_first part) is_rest
lays-piece rest block b at first part stored_first is_rest place = record {
  source = λ a s c here h. let r = at-range stored_first part a c h in let from = r.0 in
      inl (some-at first part s c (omega arith) (let e : s - first ≡ a - stored_first = omega arith in rw e (at-some stored_first part a c h)));
  whole = λ a s c here h. let r = at-range first part s c h in let from = r.0 in
      some-at stored_first part a c (omega arith) (let e : a - stored_first ≡ s - first = omega arith in rw e (at-some first part s c h));
}

-- The block is stored, and the piece laid into the rest of it.
pub lays-block : (rest : ℕ → Sector) (block b at first k : ℕ) (part content : List Sector) (is_rest : Type 0) → first ≡ block * b + k → k + length part ≤ length content → IsRest rest (block * b) content → is_rest
    → Lays rest block b at (extent first part) (extent at (content_with_part k part content)) is_rest
lays-block rest block b at first k part content is_rest place fits is_all holds = record {
  source = λ a s c here h.
      let r = at-range at (content_with_part k part content) a c h in let from = r.0 in
      let e : a - at ≡ s - block * b = omega arith in
      let got = rw e at (at-some at (content_with_part k part content) a c h) in
      elim (laid-source (block * b) k part content s c fits (omega arith) got) [
        | inl own ↦ inl (rw place own)
        | inr fill ↦ inr (rw place fill.0, is_all s c fill.1, holds)
      ];
  whole = λ a s c here h.
      let g = rw place at h in
      let r = at-range (block * b + k) part s c g in let from = r.0 in
      let e : a - at ≡ s - block * b = omega arith in
      some-at at (content_with_part k part content) a c (omega arith) (rw e (laid-part (block * b) k part content s c fits g));
}

module _ {shape : Shape} {fresh : List Bool} {passes : List Pass} {history : List Entry} {pass : Pass} {part : List Sector} {ticket : Ticket} {stored buffer : List Sector}
    (given : IsGiven (requests shape fresh passes history) pass part ticket stored buffer) (piece : IsPiece shape pass) (long : length part ≡ pass.piece) (room : length pass.buffer ≡ shape.block) where
  fits : pass.first + pass.done - shape.block * pass.block + length part ≤ length pass.buffer
  fits = let from = piece.from in let to = piece.to in omega arith

  -- the buffer keeps its length
  pub given-buffer : length buffer ≡ shape.block
  given-buffer = elim given.way [
    | inl held ↦ ap length held.1 ∙ room
    | inr filled ↦ ap length filled.1 ∙ length-laid (pass.first + pass.done - shape.block * pass.block) part pass.buffer fits ∙ room
  ]

  module _ (not_fresh : pass.phase ≡ Filled → slice_get fresh pass.block ≡ Some false) where
    -- the ticket is that of a write of the piece, or of the whole block
    pub given-stored : IsStored shape.block fresh pass ticket
    given-stored = elim given.way [
      | inl held ↦ inl (held.4, given.count ∙ ap length held.0 ∙ long, held.3)
      | inr filled ↦ inr (filled.3, given.count ∙ ap length filled.0 ∙ given-buffer, not_fresh filled.2)
    ]

    -- it is the piece, and where the block was filled the rest round it
    pub given-lays : (rest : ℕ → Sector) → (pass.phase ≡ Filled → IsRest rest (shape.block * pass.block) pass.buffer)
        → Lays rest shape.block pass.block pass.at (extent (pass.first + pass.done) part) (extent ticket.first stored) (slice_get fresh pass.block ≡ Some false)
    given-lays rest filled_rest = elim given.way [
      | inl held ↦ rw held.0 (lays-piece rest shape.block pass.block pass.at (pass.first + pass.done) part ticket.first (slice_get fresh pass.block ≡ Some false) held.4)
      | inr filled ↦ rw (filled.0, filled.1, filled.3) (lays-block rest shape.block pass.block pass.at (pass.first + pass.done) (pass.first + pass.done - shape.block * pass.block) part pass.buffer (slice_get fresh pass.block ≡ Some false)
          (let from = piece.from in omega arith) fits (filled_rest filled.2) (not_fresh filled.2))
    ]
