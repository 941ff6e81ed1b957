-- A pass after the settle of what it has in flight.
use Rattle.std.proofs.Common.{◌≡◌, ℕ, ◌-◌, Bool, List, ◌++◌, length, replicate, sym, ◌∙◌, ap, Some, None, slice_get, slice_set}
use Rattle.vd_law.specs.declared.entry.Sector.{Sector}
use Rattle.vd_law.specs.Entries.{Entry}
use Rattle.vd_device.specs.declared.base.Base as base
use Rattle.vd_device.specs.declared.ticket.Ticket.{Ticket}
use Rattle.vd_device.specs.declared.settled.Settled.{Settled}
use Rattle.vd_passes.specs.declared.shape.Shape.{Shape}
use Rattle.vd_passes.specs.declared.pass.Pass.{Pass}
use Rattle.vd_passes.specs.declared.pass.Fault.TheVariants as fault
use Rattle.vd_passes.specs.Buffers.{BufferSettled}
use Rattle.vd_passes.specs.Passes.{after_filled, after_fault}
use Rattle.vd_passes.specs.Requests.{requests}
use Rattle.vd_passes.specs.Steps.{FetchSettled, after_base_read}
use Rattle.vd_format.specs.Background.{zero_sector}

-- A base read of a block.
pub fetch-settled : {answer : Settled} {shape : Shape} {i : ℕ} {passes passes' : List Pass} {B : Type 0} {h : base.Ghosts B} {b b' : B} {old new : List Sector} {q : Pass} {ticket : Ticket}
    → slice_get passes i ≡ Some q → q.fetch ≡ Some ticket → (settled : BufferSettled h answer ticket old new b b') → passes' ≡ slice_set passes i (after_base_read answer q ticket shape.block settled.content)
    → (fresh : List Bool) (entries : List Entry) → FetchSettled h answer i (requests shape fresh passes entries) (requests shape fresh passes' entries) b b'
fetch-settled {shape = shape} {q = q} {ticket} there has settled after fresh entries = record {
  pass = q;
  ticket = ticket;
  front = settled.front;
  content = settled.content;
  there = there;
  has = has;
  long = settled.long;
  after = ap (λ (ps : List Pass). requests shape fresh ps entries) after;
  call = settled.settles;
}

module _ (q r s : Pass) (took : r ≡ record q { fetch = None }) where
  pub filled-after : (block : ℕ) (content buffer : List Sector) → length q.buffer ≡ block → buffer ≡ content ++ replicate (length r.buffer - length content) zero_sector → s ≡ after_filled (record r { buffer = buffer }) buffer
      → s ≡ after_filled q (content ++ replicate (block - length content) zero_sector)
  filled-after block content buffer long is after =
      after ∙ ap (λ (x : Pass). after_filled (record x { buffer = buffer }) buffer) took
      ∙ ap (λ (xs : List Sector). after_filled q xs) (is ∙ ap (λ (n : ℕ). content ++ replicate (n - length content) zero_sector) (ap (λ (x : Pass). length x.buffer) took ∙ long))

  pub late-after : (t same : Ticket) (buffer : List Sector) → q.fetch ≡ Some t → same ≡ t → buffer ≡ r.buffer → s ≡ record (record r { buffer = buffer }) { fetch = Some same } → s ≡ q
  late-after t same buffer has is kept after =
      after ∙ ap (λ (xs : List Sector). record r { buffer = xs; fetch = Some same }) kept ∙ ap (λ (x : Pass). record x { fetch = Some same }) took
      ∙ ap (λ (u : Ticket). record q { fetch = Some u }) is ∙ ap (λ f. record q { fetch = f }) (sym has)

  pub failed-after : (number n : ℕ) (buffer : List Sector) → n ≡ number → buffer ≡ r.buffer → s ≡ after_fault (fault.Base n) (record r { buffer = buffer }) → s ≡ after_fault (fault.Base number) q
  failed-after number n buffer is kept after =
      after ∙ ap (λ (xs : List Sector). after_fault (fault.Base n) (record r { buffer = xs })) kept ∙ ap (λ (x : Pass). after_fault (fault.Base n) x) took
      ∙ ap (λ (m : ℕ). after_fault (fault.Base m) q) is
