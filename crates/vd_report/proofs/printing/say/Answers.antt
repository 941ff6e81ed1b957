use Rattle.std.proofs.Common.{ℕ, zero, suc, ◌≡◌, ◌<◌, ◌≤◌, inr, refl, ap, ◌∙◌, arith}
use Rattle.vd_report.specs.Ending.{status_unwritten}
use Rattle.vd_report.proofs.printing.say.Goals as goal

cut : (n : ℕ) → n < 2 → 6 ≡ status_unwritten n
cut zero less = refl
cut (suc zero) less = refl
cut (suc (suc n)) less = absurd (omega arith)

kept : (n : ℕ) → 2 ≤ n → n ≡ status_unwritten n
kept zero more = absurd (omega arith)
kept (suc zero) more = absurd (omega arith)
kept (suc (suc n)) more = refl

pub returns-in-Err : goal.returns-in-Err
returns-in-Err g c = record {
  ends = record {
    keeps = record { told_before = c.put_line.ensures.told_before; no_fewer_faults = c.put_line.ensures.no_fewer_faults };
    printed = inr (cut c.status_of-status.result c.if-status-lt2.true ∙ ap status_unwritten c.status_of-status.ensures, c.in-Err.ensures.cause, (λ told. (c.in-Err.ensures.writes told).err));
  };
}

pub returns-in-Err-2 : goal.returns-in-Err-2
returns-in-Err-2 g c = record {
  ends = record {
    keeps = record { told_before = c.put_line.ensures.told_before; no_fewer_faults = c.put_line.ensures.no_fewer_faults };
    printed = inr (kept c.status_of-status.result c.if-status-lt2.false ∙ ap status_unwritten c.status_of-status.ensures, c.in-Err-2.ensures.cause, (λ told. (c.in-Err-2.ensures.writes told).err));
  };
}
