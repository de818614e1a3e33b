-- How a caller knows the opcodes, conditions, words, types and refusals: by their numbers, and by their names and words.
-- One definition for each enum gives every case all that it is known by. Assumes nothing.
use Rattle.std.specs.Prelude.{◌≡◌, ℕ, cond, List, [], ◌∷◌, Some, None, Ok, Err, codes, Option, Result, ◌==◌, ◌≢◌, slice_get}
use Rattle.std.specs.Option.{unwrap_or}
use Rattle.ir.specs.declared.opcodes.Opcode.{Opcode}
use Rattle.ir.specs.declared.opcodes.Opcode.TheVariants.{Iconst, Iadd, Imul, Udiv, Sdiv, Urem, Srem, Band, Bor, Bxor, Bnot, Ishl, Sshr, Ushr, Select, Uextend, Sextend, Icmp, Popcnt, Bitrev, Clz, Ctz, SaddSat, SsubSat, UsubSat, Opaque}
use Rattle.ir.specs.declared.condcodes.IntCC.{IntCC}
use Rattle.ir.specs.declared.condcodes.IntCC.TheVariants.{Equal, NotEqual, SignedLessThan, SignedGreaterThanOrEqual, SignedGreaterThan, SignedLessThanOrEqual, UnsignedLessThan, UnsignedGreaterThanOrEqual, UnsignedGreaterThan, UnsignedLessThanOrEqual}
use Rattle.ir.specs.declared.refusal.Cause.{Cause}
use Rattle.ir.specs.declared.refusal.Cause.TheVariants.{NotLive, Unknown, WrongCount, Widths, Immediate, TableFull, Attached, ResolvesToDestination, Loop, NotPinnable, PinsFull, NotRecords, BrokenLayout, TooShort, NotInteger, InputTooWide, Trapped, Undefined, BadName, WidthCheck}
use Rattle.ir.specs.declared.types.Type as T
use Rattle.ir.specs.declared.types.Type.TheVariants.{Invalid, Other, I8, I16, I32, I64}
use Rattle.ir.specs.declared.words.Word.{Word}
use Rattle.ir.specs.declared.words.Word.TheVariants as word

-- what a number stands for, or the refusal of an unknown one
abbrev pub known : {A : Type 0} → Option A → Result A Cause
known None = Err Unknown
known (Some x) = Ok x

-- ---- opcodes

-- an opcode's code, its name in the IR, and Souper's word for it if one word stands for it whatever the condition
pub record OpcodeEntry : Type 0 where
  pub code : ℕ
  pub name : List ℕ
  pub word : Option Word

abbrev pub opcode_entry : Opcode → OpcodeEntry
opcode_entry Iconst = record { code = 0; name = codes "iconst"; word = None }
opcode_entry Iadd = record { code = 1; name = codes "iadd"; word = Some word.Add }
opcode_entry Imul = record { code = 2; name = codes "imul"; word = Some word.Mul }
opcode_entry Udiv = record { code = 3; name = codes "udiv"; word = Some word.Udiv }
opcode_entry Sdiv = record { code = 4; name = codes "sdiv"; word = Some word.Sdiv }
opcode_entry Urem = record { code = 5; name = codes "urem"; word = Some word.Urem }
opcode_entry Srem = record { code = 6; name = codes "srem"; word = Some word.Srem }
opcode_entry Band = record { code = 7; name = codes "band"; word = Some word.And }
opcode_entry Bor = record { code = 8; name = codes "bor"; word = Some word.Or }
opcode_entry Bxor = record { code = 9; name = codes "bxor"; word = Some word.Xor }
opcode_entry Bnot = record { code = 10; name = codes "bnot"; word = Some word.Xor }
opcode_entry Ishl = record { code = 11; name = codes "ishl"; word = Some word.Shl }
opcode_entry Sshr = record { code = 12; name = codes "sshr"; word = Some word.Ashr }
opcode_entry Ushr = record { code = 13; name = codes "ushr"; word = Some word.Lshr }
opcode_entry Select = record { code = 14; name = codes "select"; word = Some word.Select }
opcode_entry Uextend = record { code = 15; name = codes "uextend"; word = Some word.Zext }
opcode_entry Sextend = record { code = 16; name = codes "sextend"; word = Some word.Sext }
-- a comparison's word is that of its condition
opcode_entry Icmp = record { code = 17; name = codes "icmp"; word = None }
opcode_entry Popcnt = record { code = 18; name = codes "popcnt"; word = Some word.Ctpop }
opcode_entry Bitrev = record { code = 19; name = codes "bitrev"; word = Some word.Bitreverse }
opcode_entry Clz = record { code = 20; name = codes "clz"; word = Some word.Ctlz }
opcode_entry Ctz = record { code = 21; name = codes "ctz"; word = Some word.Cttz }
opcode_entry SaddSat = record { code = 22; name = codes "sadd_sat"; word = Some word.SaddSat }
opcode_entry SsubSat = record { code = 23; name = codes "ssub_sat"; word = Some word.SsubSat }
opcode_entry UsubSat = record { code = 24; name = codes "usub_sat"; word = Some word.UsubSat }
opcode_entry Opaque = record { code = 25; name = codes "opaque"; word = None }

abbrev pub opcode_code : Opcode → ℕ
opcode_code o = (opcode_entry o).code

abbrev pub opcode_name : Opcode → List ℕ
opcode_name o = (opcode_entry o).name

abbrev pub opcode_word : Opcode → Option Word
opcode_word o = (opcode_entry o).word

-- every opcode, in the order of the codes
abbrev pub opcodes : List Opcode
opcodes = Iconst ∷ Iadd ∷ Imul ∷ Udiv ∷ Sdiv ∷ Urem ∷ Srem ∷ Band ∷ Bor ∷ Bxor ∷ Bnot ∷ Ishl ∷ Sshr ∷ Ushr ∷ Select ∷ Uextend ∷ Sextend ∷ Icmp ∷ Popcnt ∷ Bitrev ∷ Clz ∷ Ctz ∷ SaddSat ∷ SsubSat ∷ UsubSat ∷ Opaque ∷ []

-- what a code stands for, none where it is unknown
abbrev pub opcode_at : ℕ → Option Opcode
opcode_at n = slice_get opcodes n

-- ---- conditions

-- a condition's code, its name in the IR, and Souper's word for it if there is one
pub record IntCCEntry : Type 0 where
  pub code : ℕ
  pub name : List ℕ
  pub word : Option Word

abbrev pub intcc_entry : IntCC → IntCCEntry
intcc_entry Equal = record { code = 0; name = codes "eq"; word = Some word.Eq }
intcc_entry NotEqual = record { code = 1; name = codes "ne"; word = Some word.Ne }
intcc_entry SignedLessThan = record { code = 2; name = codes "slt"; word = Some word.Slt }
intcc_entry SignedGreaterThanOrEqual = record { code = 3; name = codes "sge"; word = None }
intcc_entry SignedGreaterThan = record { code = 4; name = codes "sgt"; word = None }
intcc_entry SignedLessThanOrEqual = record { code = 5; name = codes "sle"; word = Some word.Sle }
intcc_entry UnsignedLessThan = record { code = 6; name = codes "ult"; word = Some word.Ult }
intcc_entry UnsignedGreaterThanOrEqual = record { code = 7; name = codes "uge"; word = None }
intcc_entry UnsignedGreaterThan = record { code = 8; name = codes "ugt"; word = None }
intcc_entry UnsignedLessThanOrEqual = record { code = 9; name = codes "ule"; word = Some word.Ule }

abbrev pub intcc_code : IntCC → ℕ
intcc_code c = (intcc_entry c).code

abbrev pub intcc_name : IntCC → List ℕ
intcc_name c = (intcc_entry c).name

abbrev pub intcc_word : IntCC → Option Word
intcc_word c = (intcc_entry c).word

-- every condition, in the order of the codes
abbrev pub intccs : List IntCC
intccs = Equal ∷ NotEqual ∷ SignedLessThan ∷ SignedGreaterThanOrEqual ∷ SignedGreaterThan ∷ SignedLessThanOrEqual ∷ UnsignedLessThan ∷ UnsignedGreaterThanOrEqual ∷ UnsignedGreaterThan ∷ UnsignedLessThanOrEqual ∷ []

-- what a code stands for, none where it is unknown
abbrev pub intcc_at : ℕ → Option IntCC
intcc_at n = slice_get intccs n

-- ---- Souper's words

abbrev pub word_text : Word → List ℕ
word_text word.Var = codes "var"
word_text word.Add = codes "add"
word_text word.Mul = codes "mul"
word_text word.Udiv = codes "udiv"
word_text word.Sdiv = codes "sdiv"
word_text word.Urem = codes "urem"
word_text word.Srem = codes "srem"
word_text word.And = codes "and"
word_text word.Or = codes "or"
word_text word.Xor = codes "xor"
word_text word.Shl = codes "shl"
word_text word.Ashr = codes "ashr"
word_text word.Lshr = codes "lshr"
word_text word.Select = codes "select"
word_text word.Zext = codes "zext"
word_text word.Sext = codes "sext"
word_text word.Eq = codes "eq"
word_text word.Ne = codes "ne"
word_text word.Slt = codes "slt"
word_text word.Sle = codes "sle"
word_text word.Ult = codes "ult"
word_text word.Ule = codes "ule"
word_text word.Ctpop = codes "ctpop"
word_text word.Bitreverse = codes "bitreverse"
word_text word.Ctlz = codes "ctlz"
word_text word.Cttz = codes "cttz"
word_text word.SaddSat = codes "sadd.sat"
word_text word.SsubSat = codes "ssub.sat"
word_text word.UsubSat = codes "usub.sat"

-- ---- types

-- the bits of an integer type, 1 for any other type, 0 for the type of a deleted or missing value
abbrev pub type_bits : T.Type → ℕ
type_bits Invalid = 0
type_bits Other = 1
type_bits I8 = 8
type_bits I16 = 16
type_bits I32 = 32
type_bits I64 = 64

-- the type of a live value that has so many bits
abbrev pub type_at : ℕ → Option T.Type
type_at n = cond (n == 1) (Some Other) (cond (n == 8) (Some I8) (cond (n == 16) (Some I16) (cond (n == 32) (Some I32) (cond (n == 64) (Some I64) None))))

-- the type of so many bits, the invalid one where no live value has so many
abbrev pub type_or : ℕ → T.Type
type_or n = unwrap_or (type_at n) Invalid

-- a type's name, as a script writes it
abbrev pub type_name : T.Type → List ℕ
type_name Invalid = codes "invalid"
type_name Other = codes "other"
type_name I8 = codes "i8"
type_name I16 = codes "i16"
type_name I32 = codes "i32"
type_name I64 = codes "i64"

-- ---- refusals

-- a refusal's number, and what it means in words
pub record CauseEntry : Type 0 where
  pub number : ℕ
  pub meaning : List ℕ

abbrev pub cause_entry : Cause → CauseEntry
cause_entry NotLive = record { number = 1; meaning = codes "nothing live is there" }
cause_entry Unknown = record { number = 2; meaning = codes "unknown opcode, condition or type" }
cause_entry WrongCount = record { number = 3; meaning = codes "wrong count of operands or results" }
cause_entry Widths = record { number = 4; meaning = codes "widths do not fit" }
cause_entry Immediate = record { number = 5; meaning = codes "immediate out of range" }
cause_entry TableFull = record { number = 6; meaning = codes "table full" }
cause_entry Attached = record { number = 7; meaning = codes "the value is attached" }
cause_entry ResolvesToDestination = record { number = 8; meaning = codes "the source resolves to the destination" }
cause_entry Loop = record { number = 9; meaning = codes "a value would use itself" }
cause_entry NotPinnable = record { number = 10; meaning = codes "no integer variable, or pinned already" }
cause_entry PinsFull = record { number = 11; meaning = codes "no more pins" }
cause_entry NotRecords = record { number = 12; meaning = codes "not whole records, or too many" }
cause_entry BrokenLayout = record { number = 13; meaning = codes "record layout broken" }
cause_entry TooShort = record { number = 14; meaning = codes "lent memory too short" }
cause_entry NotInteger = record { number = 15; meaning = codes "not an integer" }
cause_entry InputTooWide = record { number = 16; meaning = codes "input too wide" }
cause_entry Trapped = record { number = 17; meaning = codes "an operation trapped" }
cause_entry Undefined = record { number = 18; meaning = codes "a row is undefined" }
cause_entry BadName = record { number = 19; meaning = codes "name unfit for printing" }
cause_entry WidthCheck = record { number = 20; meaning = codes "width check failed" }

-- every cause, in the order of the numbers
abbrev pub causes : List Cause
causes = NotLive ∷ Unknown ∷ WrongCount ∷ Widths ∷ Immediate ∷ TableFull ∷ Attached ∷ ResolvesToDestination ∷ Loop ∷ NotPinnable ∷ PinsFull ∷ NotRecords ∷ BrokenLayout ∷ TooShort ∷ NotInteger ∷ InputTooWide ∷ Trapped ∷ Undefined ∷ BadName ∷ WidthCheck ∷ []

abbrev pub cause_number : Cause → ℕ
cause_number c = (cause_entry c).number

abbrev pub cause_meaning : Cause → List ℕ
cause_meaning c = (cause_entry c).meaning

-- ---- numbers and cases go with each other, one to one

-- a code stands for the opcode that has it, and no other code does
pub record OpcodeCodes : Type 0 where
  pub back : (o : Opcode) → opcode_at (opcode_code o) ≡ Some o
  pub forth : (n : ℕ) (o : Opcode) → opcode_at n ≡ Some o → opcode_code o ≡ n

pub record IntCCCodes : Type 0 where
  pub back : (c : IntCC) → intcc_at (intcc_code c) ≡ Some c
  pub forth : (n : ℕ) (c : IntCC) → intcc_at n ≡ Some c → intcc_code c ≡ n

-- the same for the bits of each type but the invalid one
pub record TypeBits : Type 0 where
  pub back : (t : T.Type) → (type_bits t ≢ 0) → type_at (type_bits t) ≡ Some t
  pub forth : (n : ℕ) (t : T.Type) → type_at n ≡ Some t → type_bits t ≡ n

-- no two refusals have one number
abbrev pub CauseNumbers : Type 0
CauseNumbers = (a b : Cause) → cause_number a ≡ cause_number b → a ≡ b
