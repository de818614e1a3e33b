-- What a new instruction's codes and counts say of its checks and its row. Assumes nothing.
use Rattle.std.proofs.Common.{◌≡◌, Bool, true, false, cond, not, ◌&&◌, length, is_some, Some, None, Ok, Err, Option, Result, unwrap_or, ok_or, sym, refl, ap, ◌∙◌}
use Rattle.std.proofs.lemmas.Result.{err_from_is_err_and}
use Rattle.std.specs.Result.{IsErrAnd}
use Rattle.ir.specs.Codes.{known, opcode_at, intcc_at}
use Rattle.ir.specs.Constraints.{constraints_of, arg_count_fits, result_count_fits}
use Rattle.ir.specs.Entities.{operands_of}
use Rattle.ir.specs.Refusals.{because, first, answer_unless}
use Rattle.ir.specs.declared.condcodes.IntCC.TheVariants.{Equal}
use Rattle.ir.specs.declared.instructions.Operands.{Operands}
use Rattle.ir.specs.declared.instructions.Operands.TheVariants.{Nullary}
use Rattle.ir.specs.declared.opcodes.Opcode.TheVariants.{Opaque}
use Rattle.ir.specs.declared.refusal.Cause.{Cause}
use Rattle.ir.specs.declared.refusal.Cause.TheVariants.{Unknown, WrongCount}
use Rattle.ir.specs.declared.refusal.Refusal.{Refusal}
use Rattle.rows.specs.Rows.{Rows}
use Rattle.calls.specs.Calls.{InstCall, AppendInst}
use Rattle.rows.specs.declared.instruction.InstructionData.{InstructionData}
use Rattle.ir.proofs.Answered.{passed, refused}
use Rattle.plain.specs.Feed.{checks, row_checks, inst_row, names_known, counts_fit, types_known, results_from}

-- what the exit of a `?` returns
pub exit_is : {T : Type 0} (r : Result T Refusal) (why : Refusal) → IsErrAnd r (λ y. y ≡ why) → r ≡ Err why
exit_is r why e = let p = err_from_is_err_and r e in p.1 ∙ ap Err p.2

pub unknown_is : {A : Type 0} (o : Option A) (e : Cause) → Err e ≡ known o → (o ≡ None) × (e ≡ Unknown)
unknown_is None e h = let same : e ≡ Unknown = cc in (refl, same)
unknown_is (Some x) e h = cc

pub known_is : {A : Type 0} (o : Option A) (x : A) → Ok x ≡ known o → o ≡ Some x
known_is None x h = cc
known_is (Some y) x h = let same : x ≡ y = cc in ap Some (sym same)

operands_are : (o : Option Operands) (a : Operands) → Ok a ≡ ok_or o WrongCount → o ≡ Some a
operands_are None a h = cc
operands_are (Some b) a h = let same : a ≡ b = cc in ap Some (sym same)

and_false : (b : Bool) → (b && false) ≡ false
and_false true = refl
and_false false = refl

module _ (p : Rows) (n : InstCall) where
  unknown : names_known n ≡ false → first (checks p 1024 (AppendInst n)) ≡ Some (because Unknown)
  unknown e = ap (λ b. cond (not b) (Some (because Unknown)) (cond (not (counts_fit n)) (Some (because WrongCount)) (first (row_checks p (inst_row p n) n.types)))) e

  pub unknown_opcode : (why : Cause) → Err why ≡ known (opcode_at n.opcode) → Err (because why) ≡ answer_unless (first (checks p 1024 (AppendInst n))) (inst_row p n)
  unknown_opcode why h =
      let u = unknown_is (opcode_at n.opcode) why h in
      ap (λ w. Err (because w)) u.1
      ∙ sym (ap (λ o. answer_unless o (inst_row p n)) (unknown (ap (λ o. is_some o && (is_some (intcc_at n.cond) && types_known n.types)) u.0)))

  pub unknown_cond : (why : Cause) → Err why ≡ known (intcc_at n.cond) → Err (because why) ≡ answer_unless (first (checks p 1024 (AppendInst n))) (inst_row p n)
  unknown_cond why h =
      let u = unknown_is (intcc_at n.cond) why h in
      ap (λ w. Err (because w)) u.1
      ∙ sym
      (ap (λ o. answer_unless o (inst_row p n))
      (unknown (ap (λ c. is_some (opcode_at n.opcode) && (is_some c && types_known n.types)) u.0 ∙ and_false (is_some (opcode_at n.opcode)))))

  -- the row is what the codes and the lists stand for, and the counts fit
  pub record Decoded (row : InstructionData) : Type 0 where
    pub opcode : Ok row.opcode ≡ known (opcode_at n.opcode)
    pub cond_lem : Ok row.cond ≡ known (intcc_at n.cond)
    pub args : Ok row.args ≡ ok_or (operands_of n.args) WrongCount
    pub imm : row.imm ≡ n.imm
    pub results : row.results ≡ results_from n.types (length p.values)
    pub block : row.block ≡ n.block
    pub types : types_known n.types ≡ true
    pub counts : (arg_count_fits (constraints_of row.opcode) (length n.args) && result_count_fits (constraints_of row.opcode) (length n.types)) ≡ true

  module _ (row : InstructionData) (d : Decoded row) where
    row_is : inst_row p n ≡ row
    row_is =
        ap (λ o. record (inst_row p n) { opcode = unwrap_or o Opaque }) (known_is (opcode_at n.opcode) row.opcode d.opcode)
        ∙ ap (λ c. record (inst_row p n) { opcode = row.opcode; cond = unwrap_or c Equal }) (known_is (intcc_at n.cond) row.cond d.cond_lem)
        ∙ ap (λ a. record (inst_row p n) { opcode = row.opcode; cond = row.cond; args = unwrap_or a Nullary }) (operands_are (operands_of n.args) row.args d.args)
        ∙ ap (λ z. record row { imm = z; results = results_from n.types (length p.values); block = n.block }) (sym d.imm)
        ∙ ap (λ r. record row { results = r; block = n.block }) (sym d.results)
        ∙ ap (λ b. record row { block = b }) (sym d.block)

    names : names_known n ≡ true
    names =
        ap (λ o. is_some o && (is_some (intcc_at n.cond) && types_known n.types)) (known_is (opcode_at n.opcode) row.opcode d.opcode)
        ∙ ap (λ c. is_some c && types_known n.types) (known_is (intcc_at n.cond) row.cond d.cond_lem) ∙ d.types

    counts_are : counts_fit n ≡ true
    counts_are =
        ap (λ o. arg_count_fits (constraints_of (unwrap_or o Opaque)) (length n.args) && result_count_fits (constraints_of (unwrap_or o Opaque)) (length n.types))
        (known_is (opcode_at n.opcode) row.opcode d.opcode)
        ∙ d.counts

    decoded : first (checks p 1024 (AppendInst n)) ≡ first (row_checks p row n.types)
    decoded =
        ap (λ b. cond (not b) (Some (because Unknown)) (cond (not (counts_fit n)) (Some (because WrongCount)) (first (row_checks p (inst_row p n) n.types)))) names
        ∙ ap (λ b. cond (not b) (Some (because WrongCount)) (first (row_checks p (inst_row p n) n.types))) counts_are
        ∙ ap (λ r. first (row_checks p r n.types)) row_is

  pub row_refused : (row : InstructionData) → Decoded row → (why : Refusal) → Err why ≡ answer_unless (first (row_checks p row n.types)) (tt {0})
      → Err why ≡ answer_unless (first (checks p 1024 (AppendInst n))) (inst_row p n)
  row_refused row d why e = sym (ap (λ o. answer_unless o (inst_row p n)) (decoded row d ∙ refused (first (row_checks p row n.types)) (tt {0}) why e))

  pub row_given : (row : InstructionData) → Decoded row → Ok (tt {0}) ≡ answer_unless (first (row_checks p row n.types)) (tt {0})
      → Ok row ≡ answer_unless (first (checks p 1024 (AppendInst n))) (inst_row p n)
  row_given row d e =
      ap Ok (sym (row_is row d)) ∙ sym (ap (λ o. answer_unless o (inst_row p n)) (decoded row d ∙ (passed (first (row_checks p row n.types)) (tt {0}) (tt {0}) e).0))
