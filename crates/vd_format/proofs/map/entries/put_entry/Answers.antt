use Rattle.std.proofs.Common.{◌≡◌, ℕ, ◌+◌, Bool, true, false, cond, refl, ap, ◌∙◌}
use Rattle.std.specs.Int.{from_bool}
use Rattle.vd_format.specs.Numbers.{u32_bytes, put_at}
use Rattle.vd_format.specs.Entries.{kind_of}
use Rattle.vd_format.proofs.Writing.{entry_put}
use Rattle.vd_format.proofs.map.entries.put_entry.Goals as goal

kind_is : (zeros : Bool) → from_bool zeros ≡ cond zeros 1 0
kind_is true = refl
kind_is false = refl

pub returns : goal.returns
returns c =
    let kind : c.from.result ≡ kind_of c.args.entry.now = c.from.ensures ∙ kind_is c.args.entry.now.zeros in
    entry_put c.args.bytes.now c.put_u32.new.bytes c.put_u32-2.new.bytes c.put_u64.new.bytes c.args.at c.args.entry.now c.requires c.put_u32.ensures
    (c.put_u32-2.ensures ∙ ap (λ (n : ℕ). put_at c.put_u32.new.bytes (c.args.at + 4) (u32_bytes n)) kind) c.put_u64.ensures
