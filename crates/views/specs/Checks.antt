-- What refuses one more pin. Assumes nothing.
use Rattle.std.specs.Prelude.{ℕ, Bool, not, ◌&&◌, ◌||◌, List, [], ◌∷◌, ◌++◌, length, ℤ, is_some, Some, None, Option, nat_lt}
use Rattle.ir.specs.Entities.{value}
use Rattle.ir.specs.Refusals.{because, first}
use Rattle.ir.specs.Widths.{is_integer, is_immediate}
use Rattle.ir.specs.declared.refusal.Cause.TheVariants.{NotLive, Immediate, NotPinnable, PinsFull}
use Rattle.ir.specs.declared.refusal.Refusal.{Refusal}
use Rattle.flow.specs.Meaning.{Flow, width_of, original_of, def_of, is_variable, live}
use Rattle.views.specs.Pins.{pinned_to}
use Rattle.views.specs.declared.pin.Pin.{Pin}

-- the number is in the range of the value's type, if that is an integer's
abbrev pub in_range : Flow → ℕ → ℤ → Bool
in_range g v z = not (is_integer (width_of g v)) || is_immediate (width_of g v) z

-- an integer variable whose original is not pinned
abbrev pub is_free : Flow → List Pin → ℕ → Bool
is_free g ps v = is_integer (width_of g v) && (is_variable (def_of g v) && not (is_some (pinned_to ps (original_of g v))))

-- the checks of a pin of the value v to the constant z, in their order
abbrev pub pin_checks : Flow → List Pin → ℕ → ℤ → List (Bool × Refusal)
pin_checks g ps v z =
    (not (live g v), because NotLive)
    ∷ (not (in_range g v z), because Immediate)
    ∷ (not (is_free g ps v), because NotPinnable)
    ∷ (not (nat_lt (length ps) 16), because PinsFull)
    ∷ []

-- one more pin, unless it is refused
abbrev pub pushed : Option Refusal → List Pin → Pin → List Pin
pushed None ps p = ps ++ (p ∷ [])
pushed (Some why) ps p = ps

-- the pins after a pin of the value v to the constant z
abbrev pub pins_after : Flow → List Pin → ℕ → ℤ → List Pin
pins_after g ps v z = pushed (first (pin_checks g ps v z)) ps (record { original = value (original_of g v); imm = z })
