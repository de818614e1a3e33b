use Rattle.std.proofs.Common.{refl, ◌∙◌, rules}
use Rattle.rows.specs.declared.instruction.InstructionData.{InstructionData}
use Rattle.calls.specs.Calls.{inst_of}
use Rattle.dfg.specs.Held.{held}
use Rattle.dfg.proofs.Decoding.{exit_is, unknown_opcode, unknown_cond, row_refused, row_given}
use Rattle.dfg.proofs.tables.Tables.new_row.Goals as goal

pub returns-in_err-opcode : goal.returns-in_err-opcode
returns-in_err-opcode c =
    exit_is _ _ c.from_residual.ensures.1 ∙ unknown_opcode (held c.args.self.now) (inst_of c.args.new.now) c.in_err-opcode.field-0.0 c.in_err-opcode.ensures

pub returns-in_err-cond : goal.returns-in_err-cond
returns-in_err-cond c =
    exit_is _ _ c.from_residual-in_err-cond.ensures.1 ∙ unknown_cond (held c.args.self.now) (inst_of c.args.new.now) c.in_err-cond.field-0.0 c.in_err-cond.ensures

pub returns-in_err-check_row : goal.returns-in_err-check_row
returns-in_err-check_row c =
    let row : InstructionData =
    record {
      opcode = c.in_ok-opcode.opcode;
      cond = c.in_ok-cond.cond;
      imm = c.args.new.now.imm;
      args = c.in_ok-try_from.field-0;
      results = c.results_from.result;
      block = c.args.new.now.block;
    } in
    exit_is _ _ c.from_residual-in_err-check_row.ensures.1
    ∙ row_refused (held c.args.self.now) (inst_of c.args.new.now) row
    (record {
      opcode = c.in_ok-opcode.ensures;
      cond_lem = c.in_ok-cond.ensures;
      args = search rules;
      imm = search rules;
      results = search rules;
      block = refl;
      types = search rules;
      counts = search rules;
    })
    c.in_err-check_row.field-0.0 (search rules)

pub returns : goal.returns
returns c =
    row_given (held c.args.self.now) (inst_of c.args.new.now) _
    (record {
      opcode = c.in_ok-opcode.ensures;
      cond_lem = c.in_ok-cond.ensures;
      args = search rules;
      imm = search rules;
      results = search rules;
      block = refl;
      types = search rules;
      counts = search rules;
    })
    (search rules)
