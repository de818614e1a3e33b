-- Pinned variables, and the graph that shows them as constants. Assumes nothing.
use Rattle.std.specs.Prelude.{◌≡◌, ℕ, Bool, true, ◌&&◌, List, ℤ, Option, ◌==◌}
use Rattle.std.specs.List.{find, list_all}
use Rattle.std.specs.Option.{option_map, option_map_or}
use Rattle.ir.specs.Bitvectors.{unsigned}
use Rattle.ir.specs.Widths.{is_integer, is_immediate}
use Rattle.flow.specs.Meaning.{Flow, Node, width_of, def_of, is_variable}
use Rattle.flow.specs.declared.definition.ValueDef.{ValueDef}
use Rattle.flow.specs.declared.definition.ValueDef.TheVariants.{Constant}
use Rattle.views.specs.Redefined.{redefined}
use Rattle.views.specs.declared.pin.Pin.{Pin}

-- the constant that an original is pinned to
abbrev pub pinned_to : List Pin → ℕ → Option ℤ
pinned_to ps o = option_map (λ (p : Pin). p.imm) (find (λ (p : Pin). p.original.0 == o) ps)

-- the definition behind the pins: the constant where the value's original is pinned, else what it is
abbrev pub pinned_def : List Pin → Node → ValueDef
pinned_def ps n = option_map_or Constant (pinned_to ps n.original) n.def

-- the graph with the pinned variables as constants, under all their aliases
abbrev pub pinned : List Pin → Flow → Flow
pinned ps = redefined (pinned_def ps)

-- the pin is of an integer variable, and its constant is in the range of the variable's type
abbrev pub can_pin : Flow → Pin → Bool
can_pin g p = is_variable (def_of g p.original.0) && (is_integer (width_of g p.original.0) && is_immediate (width_of g p.original.0) p.imm)

-- each pin can be made
abbrev pub Pinnable : Flow → List Pin → Type 0
Pinnable g ps = list_all (can_pin g) ps ≡ true

-- the numbers of the variables: a pinned one has the number that its constant means at its width
abbrev pub pinned_inputs : Flow → List Pin → (ℕ → ℕ) → ℕ → ℕ
pinned_inputs g ps inputs o = option_map_or (unsigned (width_of g o)) (pinned_to ps o) (inputs o)
