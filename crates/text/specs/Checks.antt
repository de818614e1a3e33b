-- When a candidate is not written, and what the buffer holds afterwards. Assumes nothing.
use Rattle.std.specs.Prelude.{ℕ, Bool, not, ◌&&◌, List, [], ◌∷◌, length, Some, None, Option, ◌==◌, nat_le, nat_lt}
use Rattle.std.specs.List.{list_all}
use Rattle.ir.specs.Entities.{too_few}
use Rattle.ir.specs.Refusals.{because, first}
use Rattle.ir.specs.declared.entities.Value.{Value}
use Rattle.ir.specs.declared.refusal.Cause.TheVariants.{BadName}
use Rattle.ir.specs.declared.refusal.Refusal.{Refusal}
use Rattle.souper.specs.declared.rows.Row.{Row}
use Rattle.text.specs.Buffer.{over}
use Rattle.text.specs.Text.{text_of}

-- printable ASCII but the backtick, which ends the name
abbrev pub is_name_byte : ℕ → Bool
is_name_byte b = nat_le 32 b && (nat_le b 126 && not (b == 96))

-- at most 64 such bytes, maybe none
abbrev pub is_name : List ℕ → Bool
is_name name = nat_le (length name) 64 && list_all is_name_byte name

-- a buffer of so many bytes is too short for as many as are needed; the refusal names these, as far as 32 bits go
unfoldable pub no_room : ℕ → ℕ → Bool × Refusal
no_room room needed = (nat_lt room needed, too_few needed)

-- what may stand against writing, in the order in which it is looked for: a buffer that is too short, and then a name that is not fit
abbrev pub faults : ℕ → Value → List ℕ → List Row → List (Bool × Refusal)
faults room root name rows = no_room room (length (text_of root name rows)) ∷ (not (is_name name), because BadName) ∷ []

-- the refusal, if there is one
abbrev pub refusal : ℕ → Value → List ℕ → List Row → Option Refusal
refusal room root name rows = first (faults room root name rows)

-- the text over the front of the buffer, unless it is refused
abbrev pub over_unless : Option Refusal → List ℕ → List ℕ → List ℕ
over_unless None bytes was = over bytes was
over_unless (Some why) bytes was = was
