-- How a pass stands after it has gone on in its region, or a device has failed it.
use Rattle.std.proofs.Common.{◌≡◌, ◌≢◌, ℕ, Bool, true, false, List, length, refl, sym, ◌∙◌, ap, subst, Option, Some}
use Rattle.vd_law.specs.declared.entry.Sector.{Sector}
use Rattle.vd_device.specs.declared.ticket.Ticket.{Ticket}
use Rattle.vd_passes.specs.declared.shape.Shape.{Shape}
use Rattle.vd_passes.specs.declared.pass.Pass.{Pass}
use Rattle.vd_passes.specs.declared.pass.Phase.{Phase}
use Rattle.vd_passes.specs.declared.pass.Phase.TheVariants.{Idle, Asked as HasAsked, Looking, Flushing, Ready}
use Rattle.vd_passes.specs.declared.pass.Fault.{Fault}
use Rattle.vd_passes.specs.Standings.{Standing}
use Rattle.vd_passes.specs.Passes.{has_region, pending_of, writes_in, HasInFlight, HasOutcome, IsAsHistorySays, after_fault}
use Rattle.vd_passes.proofs.Regions.{request-kept}

-- a phase in which a pass holds its region is none of these
pub not-idle : (ph : Phase) → has_region ph ≡ true → ph ≢ Idle
not-idle ph has e = let h = ap has_region e in absurd (cc)

pub not-asked : (ph : Phase) → has_region ph ≡ true → ph ≢ HasAsked
not-asked ph has e = let h = ap has_region e in absurd (cc)

pub not-ready : (ph : Phase) → has_region ph ≡ true → ph ≢ Ready
not-ready ph has e = let h = ap has_region e in absurd (cc)

pub not-flushing : (ph : Phase) → has_region ph ≡ true → ph ≢ Flushing
not-flushing ph has e = let h = ap has_region e in absurd (cc)

module _ {shape : Shape} {fresh : List Bool} {places : ℕ → Option ℕ} {t : Standing} {p : Pass} (stands : IsAsHistorySays shape fresh places t p) (region : has_region p.phase ≡ true) where
  -- in its region it is now in another phase
  abbrev pub moved : Phase → (ticket fetch : Option Ticket) → (buffer : List Sector) → Pass
  moved ph ticket fetch buffer = record p { phase = ph; ticket = ticket; fetch = fetch; buffer = buffer }

  pub moved-stands : (ph : Phase) (ticket fetch : Option Ticket) (buffer : List Sector) → has_region ph ≡ true → pending_of ph p.piece ≡ pending_of p.phase p.piece
      → (writes_in ph ≡ true → p.write ≡ true) → (ph ≡ Looking → p.write ≡ false) → HasInFlight ph shape fresh (moved ph ticket fetch buffer) → length buffer ≡ shape.block
      → IsAsHistorySays shape fresh places t (moved ph ticket fetch buffer)
  moved-stands ph ticket fetch buffer has pending write read ticket_is long =
      let busy = not-idle p.phase region in
      record {
        call = stands.call;
        idle = λ e. absurd (not-idle ph has e);
        busy = λ e. let b = stands.busy busy in (b.0, b.1, request-kept p (moved ph ticket fetch buffer) b.0 refl refl refl refl b.2);
        unanswered = λ e. stands.unanswered busy;
        done = λ e. stands.done busy;
        range = λ e. stands.range busy;
        pending = λ e. stands.pending busy ∙ sym pending;
        whole = λ e f. stands.whole busy (not-ready p.phase region);
        ready = λ e. absurd (not-ready ph has e);
        write = write;
        read = read;
        left = λ e. absurd (not-asked ph has e);
        flush = λ e. absurd (not-flushing ph has e);
        no_flush = λ e. stands.no_flush region;
        unstarted = λ e f. absurd (let n = stands.no_flush region in cc);
        placed = λ e. stands.placed busy;
        piece = λ e. let piece = stands.piece region in record { some = piece.some; no_more = piece.no_more; from = piece.from; to = piece.to; in_disk = piece.in_disk; ends = piece.ends };
        at = λ e. stands.at region;
        ticket = ticket_is;
        buffer = long;
      }

  -- A device has failed it where it had written nothing of its piece.
  pub failed-stands : (why : Fault) → pending_of p.phase p.piece ≡ 0 → HasOutcome (after_fault why p) false (Some why) → IsAsHistorySays shape fresh places t (after_fault why p)
  failed-stands why pending outcome =
      let busy = not-idle p.phase region in let whole = stands.whole busy (not-ready p.phase region) in
      record {
        call = stands.call;
        idle = λ e. absurd (cc);
        busy = λ e. let b = stands.busy busy in (b.0, b.1, request-kept p (after_fault why p) b.0 refl refl refl refl b.2);
        unanswered = λ e. stands.unanswered busy;
        done = λ e. stands.done busy;
        range = λ e. stands.range busy;
        pending = λ e. stands.pending busy ∙ pending;
        whole = λ e f. absurd (f refl);
        ready = λ e. subst (λ (b : Bool). HasOutcome (after_fault why p) b (Some why)) (sym whole.0) outcome;
        write = λ e. absurd (cc);
        read = λ e. absurd (cc);
        left = λ e. absurd (cc);
        flush = λ e. absurd (cc);
        no_flush = λ e. absurd (cc);
        unstarted = λ e f. absurd (let n = stands.no_flush region in cc);
        placed = λ e. stands.placed busy;
        piece = λ e. absurd (cc);
        at = λ e. absurd (cc);
        ticket = record { ticket = refl; fetch = refl };
        buffer = stands.buffer;
      }
