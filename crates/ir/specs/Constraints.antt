-- What the opcodes ask of counts, widths and immediates, as tests; operations of one kind ask the same.
-- Assumes nothing.
use Rattle.std.specs.Prelude.{◌≡◌, ℕ, Bool, true, false, ◌&&◌, T, List, map, ℤ, ◌==◌, nat_le, nat_lt}
use Rattle.std.specs.List.{AllByRecursion}
use Rattle.ir.specs.Entities.{values, arg_count, arg_widths}
use Rattle.ir.specs.Widths.{Signature, is_integer, is_immediate}
use Rattle.ir.specs.declared.constraints.OpcodeConstraints.{OpcodeConstraints}
use Rattle.ir.specs.declared.constraints.OpcodeConstraints.TheVariants.{Constant, Unary, Binary, Shift, Select, Extend, Compare, Opaque}
use Rattle.ir.specs.declared.instructions.Operands.{Operands}
use Rattle.ir.specs.declared.opcodes.Opcode.{Opcode}
use Rattle.ir.specs.declared.opcodes.Opcode.TheVariants as op

abbrev pub constraints_of : Opcode → OpcodeConstraints
constraints_of op.Iconst = Constant
constraints_of op.Iadd = Binary
constraints_of op.Imul = Binary
constraints_of op.Udiv = Binary
constraints_of op.Sdiv = Binary
constraints_of op.Urem = Binary
constraints_of op.Srem = Binary
constraints_of op.Band = Binary
constraints_of op.Bor = Binary
constraints_of op.Bxor = Binary
constraints_of op.Bnot = Unary
constraints_of op.Ishl = Shift
constraints_of op.Sshr = Shift
constraints_of op.Ushr = Shift
constraints_of op.Select = Select
constraints_of op.Uextend = Extend
constraints_of op.Sextend = Extend
constraints_of op.Icmp = Compare
constraints_of op.Popcnt = Unary
constraints_of op.Bitrev = Unary
constraints_of op.Clz = Unary
constraints_of op.Ctz = Unary
constraints_of op.SaddSat = Binary
constraints_of op.SsubSat = Binary
constraints_of op.UsubSat = Binary
constraints_of op.Opaque = Opaque

-- are these the constraints of an operation
abbrev pub is_operation : OpcodeConstraints → Bool
is_operation Constant = false
is_operation Unary = true
is_operation Binary = true
is_operation Shift = true
is_operation Select = true
is_operation Extend = true
is_operation Compare = true
is_operation Opaque = false

-- may an instruction have so many operands
abbrev pub arg_count_fits : OpcodeConstraints → ℕ → Bool
arg_count_fits Constant n = n == 0
arg_count_fits Unary n = n == 1
arg_count_fits Binary n = n == 2
arg_count_fits Shift n = n == 2
arg_count_fits Select n = n == 3
arg_count_fits Extend n = n == 1
arg_count_fits Compare n = n == 2
arg_count_fits Opaque n = nat_le n 3

-- may an instruction have so many results
abbrev pub result_count_fits : OpcodeConstraints → ℕ → Bool
result_count_fits Constant n = n == 1
result_count_fits Unary n = n == 1
result_count_fits Binary n = n == 1
result_count_fits Shift n = n == 1
result_count_fits Select n = n == 1
result_count_fits Extend n = n == 1
result_count_fits Compare n = n == 1
result_count_fits Opaque n = nat_le n 2

-- does a result of the width w go with operands of the widths a, b and c
abbrev pub widths_fit : OpcodeConstraints → ℕ → ℕ → ℕ → ℕ → Bool
widths_fit Constant w a b c = is_integer w
widths_fit Unary w a b c = is_integer w && a == w
widths_fit Binary w a b c = is_integer w && (a == w && b == w)
widths_fit Shift w a b c = is_integer w && (a == w && is_integer b)
widths_fit Select w a b c = is_integer w && (is_integer a && (b == w && c == w))
widths_fit Extend w a b c = is_integer w && (is_integer a && nat_lt a w)
widths_fit Compare w a b c = w == 8 && (is_integer a && b == a)
widths_fit Opaque w a b c = true

-- does the immediate go with the width of the result
abbrev pub immediate_fits : OpcodeConstraints → ℕ → ℤ → Bool
immediate_fits Constant w z = is_immediate w z
immediate_fits Unary w z = true
immediate_fits Binary w z = true
immediate_fits Shift w z = true
immediate_fits Select w z = true
immediate_fits Extend w z = true
immediate_fits Compare w z = true
immediate_fits Opaque w z = true

-- ---- the tests and what they decide

-- an operation's result of width w and operands of the widths ws fit the opcode: all are integers, and the widths are in the opcode's relation
pub record OperationFits (o : Opcode) (w : ℕ) (ws : List ℕ) : Type 0 where
  pub integer : T (is_integer w)
  pub operands : AllByRecursion (λ v. T (is_integer v)) ws
  pub signature : Signature o w ws

-- the tests pass exactly where they fit, t telling the widths of values
pub record TestsExact (o : Opcode) (t : ℕ → ℕ) (w : ℕ) (args : Operands) : Type 0 where
  pub sound : widths_fit (constraints_of o) w (arg_widths t args).0 (arg_widths t args).1 (arg_widths t args).2 ≡ true → OperationFits o w (map t (values args))
  pub complete : OperationFits o w (map t (values args)) → widths_fit (constraints_of o) w (arg_widths t args).0 (arg_widths t args).1 (arg_widths t args).2 ≡ true

abbrev pub WidthsDecided : Type 0
WidthsDecided =
    (o : Opcode) (t : ℕ → ℕ) (w : ℕ) (args : Operands) → is_operation (constraints_of o) ≡ true → arg_count_fits (constraints_of o) (arg_count args) ≡ true → TestsExact o t w args
