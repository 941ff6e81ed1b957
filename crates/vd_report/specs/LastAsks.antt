-- From where on the entries are of a guest's last call.
use Rattle.std.specs.Prelude.{ℕ, ◌==◌, if◌then◌else◌}
use Rattle.vd_law.specs.Entries.{Entry, Ask}

-- after one more entry, at this place: there, where it is an Ask of the guest
abbrev pub asked_next : Entry → (guest asked at : ℕ) → ℕ
asked_next (Ask id request) guest asked at = if id.pass == guest then at else asked
asked_next e guest asked at = asked
