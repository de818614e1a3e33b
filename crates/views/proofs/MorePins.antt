-- A pin that is not refused leaves all pins such that their variables can be shown as their constants. Assumes nothing.
use Rattle.std.proofs.Common.{◌≡◌, ℕ, Bool, true, false, not, ◌&&◌, ◌||◌, List, [], ◌∷◌, ◌++◌, ℤ, refl, ap, ◌∙◌}
use Rattle.std.proofs.lemmas.Bool.{both_ways, and_from, and_parts}
use Rattle.std.proofs.lemmas.List.Folds.{list_all-append}
use Rattle.ir.specs.Entities.{value}
use Rattle.ir.specs.Widths.{is_integer, is_immediate}
use Rattle.flow.specs.Meaning.{Flow, Lawful, Node, width_of, original_of, def_of, is_variable, live}
use Rattle.flow.proofs.Paths.{live_exists}
use Rattle.views.specs.Checks.{in_range, is_free}
use Rattle.views.specs.Pins.{can_pin, Pinnable}
use Rattle.views.specs.RedefinedLaws.{node_original}
use Rattle.views.specs.declared.pin.Pin.{Pin}

fits : (integer immediate : Bool) → not integer || immediate ≡ true → integer ≡ true → immediate ≡ true
fits true immediate h e = h
fits false immediate h e = absurd (both_ways false refl e)

pub more_pinnable : (g : Flow) (ps : List Pin) (v : ℕ) (z : ℤ) → Lawful g → Pinnable g ps → live g v ≡ true → in_range g v z ≡ true → is_free g ps v ≡ true
    → Pinnable g (ps ++ (record { original = value (original_of g v); imm = z } ∷ []))
more_pinnable g ps v z lawful all alive range free =
    let pin : Pin = record { original = value (original_of g v); imm = z } in
    let parts = and_parts (is_integer (width_of g v)) _ free in
    let variable = (and_parts (is_variable (def_of g v)) _ parts.1).0 in
    let can : can_pin g pin ≡ true =
    ap (λ (n : Node). is_variable n.def && (is_integer n.width && is_immediate n.width z)) (node_original g lawful v (live_exists g v alive))
    ∙ and_from _ _ variable (and_from _ _ parts.0 (fits (is_integer (width_of g v)) _ range parts.0)) in
    list_all-append (can_pin g) ps (pin ∷ []) ∙ and_from _ _ all (and_from _ _ can refl)
