-- The width of a live value. Assumes nothing.
use Rattle.std.proofs.Common.{◌≡◌, ℕ, Bool, true, false, ◌||◌, T, eqb, refl}
use Rattle.std.proofs.lemmas.Bool.{both_ways}
use Rattle.ir.specs.Widths.{is_integer}
use Rattle.flow.specs.Meaning.{Flow, Lawful, width_of, def_of, present, live, is_type, DefFits}
use Rattle.flow.specs.declared.definition.ValueDef.{ValueDef}
use Rattle.flow.specs.declared.definition.ValueDef.TheVariants.{Constant, Operation, Variable, Deleted}

integer_type : (w : ℕ) → T (is_integer w) → T (is_type w)
integer_type w t = at (eqb w 1) t
  where
    at : (b : Bool) → T (is_integer w) → T (b || is_integer w)
    at true t' = tt
    at false t' = t'

def_type : (g : Flow) (w : ℕ) (d : ValueDef) → DefFits g w d → present d ≡ true → T (is_type w)
def_type g w (Constant z) f h = integer_type w f.0
def_type g w (Operation o c args) f h = integer_type w f.0
def_type g w Variable f h = f
def_type g w Deleted f h = absurd (both_ways false refl h)

-- a live value has the width of a row
pub live_type : (g : Flow) → Lawful g → (v : ℕ) → live g v ≡ true → T (is_type (width_of g v))
live_type g lawful v h = def_type g (width_of g v) (def_of g v) (lawful.fits v) h
