-- The code of each case stands for that case.
-- Assumes nothing.
use Rattle.std.proofs.Common.{◌≡◌, Some, refl}
use Rattle.ir.specs.Codes.{opcode_code, intcc_code, opcode_at, intcc_at}
use Rattle.ir.specs.declared.opcodes.Opcode.{Opcode}
use Rattle.ir.specs.declared.opcodes.Opcode.TheVariants.{Iconst, Iadd, Imul, Udiv, Sdiv, Urem, Srem, Band, Bor, Bxor, Bnot, Ishl, Sshr, Ushr, Select, Uextend, Sextend, Icmp, Popcnt, Bitrev, Clz, Ctz, SaddSat, SsubSat, UsubSat, Opaque}
use Rattle.ir.specs.declared.condcodes.IntCC.{IntCC}
use Rattle.ir.specs.declared.condcodes.IntCC.TheVariants.{Equal, NotEqual, SignedLessThan, SignedGreaterThanOrEqual, SignedGreaterThan, SignedLessThanOrEqual, UnsignedLessThan, UnsignedGreaterThanOrEqual, UnsignedGreaterThan, UnsignedLessThanOrEqual}

pub opcode_code_lem : (o : Opcode) → opcode_at (opcode_code o) ≡ Some o
opcode_code_lem Iconst = refl
opcode_code_lem Iadd = refl
opcode_code_lem Imul = refl
opcode_code_lem Udiv = refl
opcode_code_lem Sdiv = refl
opcode_code_lem Urem = refl
opcode_code_lem Srem = refl
opcode_code_lem Band = refl
opcode_code_lem Bor = refl
opcode_code_lem Bxor = refl
opcode_code_lem Bnot = refl
opcode_code_lem Ishl = refl
opcode_code_lem Sshr = refl
opcode_code_lem Ushr = refl
opcode_code_lem Select = refl
opcode_code_lem Uextend = refl
opcode_code_lem Sextend = refl
opcode_code_lem Icmp = refl
opcode_code_lem Popcnt = refl
opcode_code_lem Bitrev = refl
opcode_code_lem Clz = refl
opcode_code_lem Ctz = refl
opcode_code_lem SaddSat = refl
opcode_code_lem SsubSat = refl
opcode_code_lem UsubSat = refl
opcode_code_lem Opaque = refl

pub intcc_code_lem : (c : IntCC) → intcc_at (intcc_code c) ≡ Some c
intcc_code_lem Equal = refl
intcc_code_lem NotEqual = refl
intcc_code_lem SignedLessThan = refl
intcc_code_lem SignedGreaterThanOrEqual = refl
intcc_code_lem SignedGreaterThan = refl
intcc_code_lem SignedLessThanOrEqual = refl
intcc_code_lem UnsignedLessThan = refl
intcc_code_lem UnsignedGreaterThanOrEqual = refl
intcc_code_lem UnsignedGreaterThan = refl
intcc_code_lem UnsignedLessThanOrEqual = refl
