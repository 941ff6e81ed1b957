-- A new image is at its opening, so that what the laws ask can be had, over real bytes.
use Rattle.std.proofs.Common.{ℕ, zero, suc, ◌≡◌, inl, inr, List, [], ◌∷◌, None, true, false, arith, refl, sym, subst}
use Rattle.vd_image.specs.Log.{Sector, Entry, Fine, Flush, Ask, Reply, At, Covers, Writes}
use Rattle.vd_image.specs.Image.{Header}
use Rattle.vd_image.specs.Layouts.{IsValid, layout_of}
use Rattle.vd_image.specs.Decoders.{this_version, format_of}
use Rattle.vd_image.specs.Made.{made_image}
use Rattle.vd_image.proofs.Layouts.{parts_apart}
use Rattle.vd_image.proofs.Made.{made_opens, made_base, made_no_later, made_gives_none, made_slot_unread, made_disk}
use Rattle.vd_crash.specs.facts.Safe.{Opening}
use Rattle.vd_crash.specs.facts.Opened.{IsAtOpening}
use Rattle.vd_format.specs.Layouts.{store_need}
use Rattle.vd_image.specs.Openings.{Opens}
use Rattle.vd_crash.specs.facts.Memory.{Memory}
use Rattle.vd_format.specs.Background.{zero_sector, background}

-- the opening of a new image over this base
abbrev new_opening : Header → (ℕ → Sector) → Opening
new_opening h base = record {
  format = format_of h;
  layout = layout_of h;
  base = base;
  zeros = zero_sector;
  before = made_image h;
  held = made_image h;
  disk = background base zero_sector h.tracked;
  was_local = λ b. false;
  opened = 2;
}

abbrev opening_log : List Entry
opening_log = Ask (record { pass = 0; call = 1 }) Flush ∷ Reply (record { pass = 0; call = 1 }) Fine ∷ []

abbrev new_memory : Header → Memory
new_memory h = record {
  index = record { generation = h.generation; tracked = h.tracked; sure = true; table = λ c. None; stale = λ b. false; off_base = λ b. false; tried = λ b. false; cursor = 0 };
  fresh = λ b. false;
  born = λ b. 0;
  owed = λ b. false;
  pending = λ b. None;
  discards = record { drops = λ j. None; zeros = λ c. false; lost = λ c. false; reach = 0 };
}

nothing_written : (i s : ℕ) (v : Sector) → Writes opening_log i s v → ⊥
nothing_written i s v w = by_place i w.event w.stands w.covers
  where
    by_event : (e f : Entry) → e ≡ f → ((t : ℕ) (u : Sector) → Covers e t u → ⊥) → Covers f s v → ⊥
    by_event e f same none covers = none s v (subst (λ (x : Entry). Covers x s v) (sym same) covers)

    by_place : (j : ℕ) (e : Entry) → At opening_log j e → Covers e s v → ⊥
    by_place zero e at covers = by_event (Ask (record { pass = 0; call = 1 }) Flush) e (let a = at in cc) (λ t u c. c) covers
    by_place (suc zero) e at covers = by_event (Reply (record { pass = 0; call = 1 }) Fine) e (let a = at in cc) (λ t u c. c) covers
    by_place (suc (suc j)) e at covers = absurd (let a = at in cc)

pub new_at_opening : (h : Header) (base : ℕ → Sector) → IsValid h → h.version ≡ this_version → IsAtOpening (new_opening h base) opening_log (new_memory h)
new_at_opening h base valid version = record {
  apart = parts_apart h valid;
  opened = refl;
  left = λ s v may. elim may [ inl k ↦ k.value | inr k ↦ absurd (nothing_written k.at s v k.writes) ];
  flush = 0;
  flushes = record { id = record { pass = 0; call = 1 }; reply = 1; asked = refl; replied = refl; later = omega arith; next = λ m request after before found. omega arith };
  sound = record { header = h; reads = opens.reads; geometry = refl; consistent = opens.consistent; no_later = made_no_later h };
  disk = λ s v has. made_disk h base s v valid has;
  sure = refl;
  generation = refl;
  tracked = refl;
  table = λ c p. ((λ is. absurd cc), λ gives. absurd (made_gives_none h h.generation c p gives));
  fresh = λ b. ((λ is. absurd cc), λ local. absurd (made_gives_none h h.generation ((layout_of h).chunk_of b) local.0 (local.1.0, local.1.1, local.1.2.0)));
  in_range = λ b is. absurd cc;
  was_local = λ b is. absurd cc;
  stale = λ b. refl;
  zeros = λ c. (λ is. absurd cc, λ w. absurd (let base = made_base h h.generation c w.0 w.1 in let zeros = w.2 in cc));
  off_base = λ b. (λ is. absurd cc, λ known. elim known [ inl is ↦ absurd cc | inr is ↦ absurd cc ]);
  drops = λ j. refl;
  lost = λ c. refl;
  reach = refl;
  cursor = λ k r within reads current. absurd (made_slot_unread h k r reads);
  owed = λ b. refl;
  tried = λ b. refl;
  pending = λ b. refl;
  born = λ b. refl;
}
  where
    opens : Opens (store_need h) (made_image h) h
    opens = made_opens h valid version

-- each header of this version has an opening, over each base
pub opening_can_be_met : (h : Header) (base : ℕ → Sector) → IsValid h → h.version ≡ this_version
    → (o : Opening) × (o.format ≡ format_of h) × (o.layout ≡ layout_of h) × ((s : ℕ) → o.base s ≡ base s) × (log : List Entry) × (m : Memory) × IsAtOpening o log m
opening_can_be_met h base valid version = (new_opening h base, refl, refl, λ s. refl, opening_log, new_memory h, new_at_opening h base valid version)
