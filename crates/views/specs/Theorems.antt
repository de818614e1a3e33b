-- What a reader may rely on behind the views. Assumes nothing.
use Rattle.std.specs.Prelude.{◌≡◌, ℕ, ◌<◌, true, ◌↔◌, List, length, ℤ, Some, None}
use Rattle.flow.specs.Meaning.{Flow, Reach, original_of, def_of, uses, has}
use Rattle.flow.specs.Number.{number_of}
use Rattle.flow.specs.declared.definition.ValueDef.TheVariants.{Constant}
use Rattle.views.specs.Originals.{resolved, with_originals}
use Rattle.views.specs.Pins.{pinned, pinned_to, pinned_inputs}
use Rattle.views.specs.Redefined.{SameValues}
use Rattle.views.specs.declared.pin.Pin.{Pin}

-- The graph g behind pins: the values whose originals are pinned are constants, and all else is as it is in g.
pub record BehindPins (g : Flow) (ps : List Pin) : Type 0 where
  pub values : SameValues g (pinned ps g)
  pub constants : (v : ℕ) (z : ℤ) → v < length g → pinned_to ps (original_of g v) ≡ Some z → def_of (pinned ps g) v ≡ Constant z
  pub others : (v : ℕ) → v < length g → pinned_to ps (original_of g v) ≡ None → def_of (pinned ps g) v ≡ def_of g v
  -- a value reaches what it reaches in g
  pub reach : (v u : ℕ) → Reach (pinned ps g) v u ↔ Reach g v u
  -- a value has the number that it has in g where the pinned variables hold the numbers that they are pinned to
  pub numbers : (inputs : ℕ → ℕ) (v : ℕ) → number_of (pinned ps g) inputs v ≡ number_of g (pinned_inputs g ps inputs) v

-- The graph g with resolved operands: no operand is an alias, and all else is as it is in g.
pub record BehindOriginals (g : Flow) : Type 0 where
  pub values : SameValues g (resolved g)
  pub definitions : (v : ℕ) → v < length g → def_of (resolved g) v ≡ with_originals g (def_of g v)
  pub operands : (v w : ℕ) → has (uses (resolved g) v) w ≡ true → original_of (resolved g) w ≡ w
  -- an original reaches the originals of what it reaches in g
  pub reach : (v u : ℕ) → original_of g v ≡ v → Reach (resolved g) v u ↔ ((w : ℕ) × Reach g v w × (original_of g w ≡ u))
  -- no number changes
  pub numbers : (inputs : ℕ → ℕ) (v : ℕ) → number_of (resolved g) inputs v ≡ number_of g inputs v
