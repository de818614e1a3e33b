-- The numbers of opcodes, conditions, types and refusals go with their cases, one to one.
-- Assumes nothing.
use Rattle.std.proofs.Common.{◌≡◌, ℕ, zero, suc, ◌+◌, Bool, true, false, cond, eqb, List, [], ◌∷◌, get_or, slice_get, Some, None, Option, sym, refl, ap, ◌∙◌, arith}
use Rattle.std.proofs.lemmas.Bool.{eqb-true}
use Rattle.ir.specs.Codes.{opcode_code, opcodes, intcc_code, intccs, type_bits, type_at, cause_number, OpcodeCodes, IntCCCodes, TypeBits, CauseNumbers}
use Rattle.ir.specs.declared.refusal.Cause.{Cause}
use Rattle.ir.specs.declared.refusal.Cause.TheVariants.{NotLive, Unknown, WrongCount, Widths, Immediate, TableFull, Attached, ResolvesToDestination, Loop, NotPinnable, PinsFull, NotRecords, BrokenLayout, TooShort, NotInteger, InputTooWide, Trapped, Undefined, BadName, WidthCheck}
use Rattle.ir.specs.declared.types.Type as T
use Rattle.ir.specs.declared.types.Type.TheVariants.{Invalid, Other, I8, I16, I32, I64}
use Rattle.ir.proofs.Decoding.{opcode_code_lem, intcc_code_lem}
use Rattle.ir.proofs.Options.{none_is_no_some}

-- a table whose entries, from number n on, have their own places as codes
abbrev Coded : {A : Type 0} → (A → ℕ) → ℕ → List A → Type 0
Coded code n [] = Unit {0}
Coded code n (x ∷ xs) = (code x ≡ n) × Coded code (suc n) xs

at_place : {A : Type 0} (code : A → ℕ) (n : ℕ) (xs : List A) → Coded code n xs → (k : ℕ) (x : A) → slice_get xs k ≡ Some x → code x ≡ k + n
at_place code n [] c k x e = none_is_no_some x e
at_place code n (y ∷ xs) c zero x e = let same : y ≡ x = cc in ap code (sym same) ∙ c.0 ∙ omega arith
at_place code n (y ∷ xs) c (suc k) x e = omega (arith, at_place code (suc n) xs c.1 k x e)

coded_opcodes : Coded opcode_code 0 opcodes
coded_opcodes = (refl, (refl, (refl, (refl, (refl, (refl, (refl, (refl, (refl, (refl, (refl, (refl, (refl, (refl, (refl, (refl, (refl, (refl, (refl, (refl, (refl, (refl, (refl, (refl, (refl, (refl, tt))))))))))))))))))))))))))

coded_intccs : Coded intcc_code 0 intccs
coded_intccs = (refl, (refl, (refl, (refl, (refl, (refl, (refl, (refl, (refl, (refl, tt))))))))))

pub opcode_codes : OpcodeCodes
opcode_codes = record { back = opcode_code_lem; forth = λ n o e. at_place opcode_code 0 opcodes coded_opcodes n o e ∙ omega arith }

pub intcc_codes : IntCCCodes
intcc_codes = record { back = intcc_code_lem; forth = λ n c e. at_place intcc_code 0 intccs coded_intccs n c e ∙ omega arith }

-- ---- types

type_back : (t : T.Type) → (type_bits t ≡ 0 → ⊥) → type_at (type_bits t) ≡ Some t
type_back Invalid h = absurd (h refl)
type_back Other h = refl
type_back I8 h = refl
type_back I16 h = refl
type_back I32 h = refl
type_back I64 h = refl

-- one test of the list: the number tested for, or one of the rest
tested : (n bits : ℕ) (u t : T.Type) (rest : Option T.Type) (b : Bool) → eqb n bits ≡ b → type_bits u ≡ bits → (rest ≡ Some t → type_bits t ≡ n) → cond b (Some u) rest ≡ Some t → type_bits t ≡ n
tested n bits u t rest true test is more e = let same : u ≡ t = cc in ap type_bits (sym same) ∙ is ∙ sym (eqb-true n bits test)
tested n bits u t rest false test is more e = more e

type_forth : (n : ℕ) (t : T.Type) → type_at n ≡ Some t → type_bits t ≡ n
type_forth n t =
    tested n 1 Other t _ (eqb n 1) refl refl
    (tested n 8 I8 t _ (eqb n 8) refl refl
    (tested n 16 I16 t _ (eqb n 16) refl refl
    (tested n 32 I32 t _ (eqb n 32) refl refl
    (tested n 64 I64 t None (eqb n 64) refl refl (λ e. none_is_no_some t e)))))

pub type_bits_lem : TypeBits
type_bits_lem = record { back = type_back; forth = type_forth }

-- ---- refusals

-- the causes by their numbers
causes : List Cause
causes = NotLive ∷ NotLive ∷ Unknown ∷ WrongCount ∷ Widths ∷ Immediate ∷ TableFull ∷ Attached ∷ ResolvesToDestination ∷ Loop ∷ NotPinnable ∷ PinsFull ∷ NotRecords ∷ BrokenLayout ∷ TooShort ∷ NotInteger ∷ InputTooWide ∷ Trapped ∷ Undefined ∷ BadName ∷ WidthCheck ∷ []

cause_at : (c : Cause) → get_or causes (cause_number c) NotLive ≡ c
unfolding causes
cause_at NotLive = refl
cause_at Unknown = refl
cause_at WrongCount = refl
cause_at Widths = refl
cause_at Immediate = refl
cause_at TableFull = refl
cause_at Attached = refl
cause_at ResolvesToDestination = refl
cause_at Loop = refl
cause_at NotPinnable = refl
cause_at PinsFull = refl
cause_at NotRecords = refl
cause_at BrokenLayout = refl
cause_at TooShort = refl
cause_at NotInteger = refl
cause_at InputTooWide = refl
cause_at Trapped = refl
cause_at Undefined = refl
cause_at BadName = refl
cause_at WidthCheck = refl

pub cause_numbers : CauseNumbers
cause_numbers a b e = sym (cause_at a) ∙ ap (λ n. get_or causes n NotLive) e ∙ cause_at b
