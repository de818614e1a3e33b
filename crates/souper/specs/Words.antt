-- Souper's words: what each asks of its operands, what it computes, and where it is undefined.
-- Assumes nothing.
use Rattle.std.specs.Prelude.{ℕ, ◌-◌, ◌/◌, ◌%◌, cond, not, ◌||◌, List, Some, Option, ◌==◌, bit_and, bit_or, bit_xor, count_ones, int_le, int_lt, nat_le, nat_lt, slice_index}
use Rattle.std.specs.Int.Count.{count_leading_zeros, count_trailing_zeros}
use Rattle.ir.specs.Bitvectors.{signed, wrapping_add, wrapping_mul, signed_div, signed_rem, quotient_overflows, shift_left, shift_right, signed_shift_right, sign_extend, bit_reverse, signed_saturating_add, signed_saturating_sub, truth}
use Rattle.ir.specs.Operations.{unless}
use Rattle.ir.specs.declared.words.Word.{Word}
use Rattle.ir.specs.declared.words.Word.TheVariants.{Var, Add, Mul, Udiv, Sdiv, Urem, Srem, And, Or, Xor, Shl, Ashr, Lshr, Select, Zext, Sext, Eq, Ne, Slt, Sle, Ult, Ule, Ctpop, Bitreverse, Ctlz, Cttz, SaddSat, SsubSat, UsubSat}
use Rattle.souper.specs.declared.kind.Kind.{Kind}
use Rattle.souper.specs.declared.kind.Kind.TheVariants as kind

-- what a word asks of its operands
abbrev pub kind_of : Word → Kind
kind_of Var = kind.Variable
kind_of Add = kind.Binary
kind_of Mul = kind.Binary
kind_of Udiv = kind.Binary
kind_of Sdiv = kind.Binary
kind_of Urem = kind.Binary
kind_of Srem = kind.Binary
kind_of And = kind.Binary
kind_of Or = kind.Binary
kind_of Xor = kind.Binary
kind_of Shl = kind.Binary
kind_of Ashr = kind.Binary
kind_of Lshr = kind.Binary
kind_of Select = kind.Choice
kind_of Zext = kind.Extension
kind_of Sext = kind.Extension
kind_of Eq = kind.Comparison
-- a select's helper compares with a zero that has no width
kind_of Ne = kind.Inequality
kind_of Slt = kind.Comparison
kind_of Sle = kind.Comparison
kind_of Ult = kind.Comparison
kind_of Ule = kind.Comparison
kind_of Ctpop = kind.Unary
kind_of Bitreverse = kind.Unary
kind_of Ctlz = kind.Unary
kind_of Cttz = kind.Unary
kind_of SaddSat = kind.Binary
kind_of SsubSat = kind.Binary
kind_of UsubSat = kind.Binary

-- What a word gives at the operands xs: a number, or nothing where it is undefined.
-- w is the width of its row, v the width of its first operand, and input what a variable holds.
abbrev pub apply : Word → ℕ → ℕ → ℕ → List ℕ → Option ℕ
apply Var input w v xs = Some input
apply Add input w v xs = Some (wrapping_add w (slice_index xs 0) (slice_index xs 1))
apply Mul input w v xs = Some (wrapping_mul w (slice_index xs 0) (slice_index xs 1))
apply Udiv input w v xs = unless (slice_index xs 1 == 0) (slice_index xs 0 / slice_index xs 1)
apply Sdiv input w v xs = unless (slice_index xs 1 == 0 || quotient_overflows w (slice_index xs 0) (slice_index xs 1)) (signed_div w (slice_index xs 0) (slice_index xs 1))
apply Urem input w v xs = unless (slice_index xs 1 == 0) (slice_index xs 0 % slice_index xs 1)
apply Srem input w v xs = unless (slice_index xs 1 == 0 || quotient_overflows w (slice_index xs 0) (slice_index xs 1)) (signed_rem w (slice_index xs 0) (slice_index xs 1))
apply And input w v xs = Some (bit_and (slice_index xs 0) (slice_index xs 1))
apply Or input w v xs = Some (bit_or (slice_index xs 0) (slice_index xs 1))
apply Xor input w v xs = Some (bit_xor (slice_index xs 0) (slice_index xs 1))
apply Shl input w v xs = unless (nat_le w (slice_index xs 1)) (shift_left w (slice_index xs 0) (slice_index xs 1))
apply Ashr input w v xs = unless (nat_le w (slice_index xs 1)) (signed_shift_right w (slice_index xs 0) (slice_index xs 1))
apply Lshr input w v xs = unless (nat_le w (slice_index xs 1)) (shift_right (slice_index xs 0) (slice_index xs 1))
apply Select input w v xs = Some (cond (slice_index xs 0 == 0) (slice_index xs 2) (slice_index xs 1))
apply Zext input w v xs = Some (slice_index xs 0)
apply Sext input w v xs = Some (sign_extend v w (slice_index xs 0))
apply Eq input w v xs = Some (truth (slice_index xs 0 == slice_index xs 1))
apply Ne input w v xs = Some (truth (not (slice_index xs 0 == slice_index xs 1)))
apply Slt input w v xs = Some (truth (int_lt (signed v (slice_index xs 0)) (signed v (slice_index xs 1))))
apply Sle input w v xs = Some (truth (int_le (signed v (slice_index xs 0)) (signed v (slice_index xs 1))))
apply Ult input w v xs = Some (truth (nat_lt (slice_index xs 0) (slice_index xs 1)))
apply Ule input w v xs = Some (truth (nat_le (slice_index xs 0) (slice_index xs 1)))
apply Ctpop input w v xs = Some (count_ones (slice_index xs 0))
apply Bitreverse input w v xs = Some (bit_reverse w (slice_index xs 0))
apply Ctlz input w v xs = Some (count_leading_zeros w (slice_index xs 0))
apply Cttz input w v xs = Some (count_trailing_zeros w (slice_index xs 0))
apply SaddSat input w v xs = Some (signed_saturating_add w (slice_index xs 0) (slice_index xs 1))
apply SsubSat input w v xs = Some (signed_saturating_sub w (slice_index xs 0) (slice_index xs 1))
apply UsubSat input w v xs = Some (slice_index xs 0 - slice_index xs 1)
