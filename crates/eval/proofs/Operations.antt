-- The first operand of an operation has a width. Assumes nothing.
use Rattle.std.proofs.Common.{◌≡◌, ℕ, ◌<◌, Bool, true, false, ◌||◌, T, eqb, List, [], ◌∷◌, map, length, get_or, subst, arith, eqb→eq}
use Rattle.ir.specs.Entities.{values}
use Rattle.ir.specs.Widths.{Signature, is_integer}
use Rattle.ir.specs.declared.condcodes.IntCC.{IntCC}
use Rattle.ir.specs.declared.instructions.Operands.{Operands}
use Rattle.ir.specs.declared.opcodes.Opcode.{Opcode}
use Rattle.ir.specs.declared.opcodes.Opcode.TheVariants.{Iconst, Iadd, Imul, Udiv, Sdiv, Urem, Srem, Band, Bor, Bxor, Bnot, Ishl, Sshr, Ushr, Select, Uextend, Sextend, Icmp, Popcnt, Bitrev, Clz, Ctz, SaddSat, SsubSat, UsubSat, Opaque}
use Rattle.flow.specs.Meaning.{Flow, Lawful, width_of, def_of, is_type, DefFits}
use Rattle.flow.specs.declared.definition.ValueDef.TheVariants.{Operation}
use Rattle.eval.specs.Known.{IsWidth}

or_split : (a b : Bool) {P : Type 0} → T (a || b) → (T a → P) → (T b → P) → P
or_split true b t f h = f tt
or_split false b t f h = h t

pub integer_width : (w : ℕ) → T (is_integer w) → IsWidth w
integer_width w t =
    or_split (eqb w 8 || eqb w 16 || eqb w 32) (eqb w 64) t
    (λ s. or_split (eqb w 8 || eqb w 16) (eqb w 32) s
    (λ r. or_split (eqb w 8) (eqb w 16) r (λ a. omega (arith, eqb→eq w 8 a)) (λ a. omega (arith, eqb→eq w 16 a)))
    (λ a. omega (arith, eqb→eq w 32 a)))
    (λ a. omega (arith, eqb→eq w 64 a))

pub type_width : (w : ℕ) → T (is_type w) → IsWidth w
type_width w t = or_split (eqb w 1) (is_integer w) t (λ a. omega (arith, eqb→eq w 1 a)) (integer_width w)

-- every operation has an operand
some_operand : (o : Opcode) (w : ℕ) → Signature o w [] → ⊥
some_operand Iconst w s = s
some_operand Iadd w s = cc
some_operand Imul w s = cc
some_operand Udiv w s = cc
some_operand Sdiv w s = cc
some_operand Urem w s = cc
some_operand Srem w s = cc
some_operand Band w s = cc
some_operand Bor w s = cc
some_operand Bxor w s = cc
some_operand Bnot w s = cc
some_operand Ishl w s = let e = s.1 in cc
some_operand Sshr w s = let e = s.1 in cc
some_operand Ushr w s = let e = s.1 in cc
some_operand Select w s = let e = s.1 in cc
some_operand Uextend w s = let e = s.1 in cc
some_operand Sextend w s = let e = s.1 in cc
some_operand Icmp w s = let e = s.1 in cc
some_operand Popcnt w s = cc
some_operand Bitrev w s = cc
some_operand Clz w s = cc
some_operand Ctz w s = cc
some_operand SaddSat w s = cc
some_operand SsubSat w s = cc
some_operand UsubSat w s = cc
some_operand Opaque w s = s

pub first_operand_width : (g : Flow) → Lawful g → (v : ℕ) (o : Opcode) (c : IntCC) (args : Operands) → def_of g v ≡ Operation o c args → IsWidth (width_of g (get_or (values args) 0 0))
first_operand_width g lawful v o c args e =
    let fits = subst (DefFits g (width_of g v)) e (lawful.fits v) in
    at (values args) fits.1 fits.2
  where
    at : (vs : List ℕ) → ((k : ℕ) → k < length vs → T (is_integer (width_of g (get_or vs k 0)))) → Signature o (width_of g v) (map (width_of g) vs) → IsWidth (width_of g (get_or vs 0 0))
    at [] is s = absurd (some_operand o (width_of g v) s)
    at (u ∷ us) is s = integer_width (width_of g u) (is 0 (omega arith))
