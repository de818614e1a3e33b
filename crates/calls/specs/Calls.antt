-- Building calls by their arguments alone. Assumes nothing.
use Rattle.std.specs.Prelude.{ℕ, List, ℤ, vec_items}
use Rattle.ir.specs.declared.entities.Block.{Block}
use Rattle.ir.specs.declared.entities.Inst.{Inst}
use Rattle.ir.specs.declared.entities.Value.{Value}
use Rattle.calls.specs.declared.call.BuildCall.{BuildCall}
use Rattle.calls.specs.declared.call.BuildCall.TheVariants as call
use Rattle.calls.specs.declared.call.NewInst.{NewInst}

-- an instruction to append: the codes of its opcode, its condition and its results' types, its immediate and its operands
pub record InstCall : Type 0 where
  pub block : Block
  pub opcode : ℕ
  pub cond : ℕ
  pub imm : ℤ
  pub args : List Value
  pub types : List ℕ

pub data Call : Type 0 where
  MakeBlock : Call
  -- the block, and the bits of the parameter's type
  AppendBlockParam : Block → ℕ → Call
  AppendInst : InstCall → Call
  ClearResults : Inst → Call
  -- the destination, then the source
  ChangeToAlias : Value → Value → Call
  ResolveAllAliases : Call

abbrev pub inst_of : NewInst → InstCall
inst_of n =
    record {
      block = n.block;
      opcode = n.opcode;
      cond = n.cond;
      imm = n.imm;
      args = vec_items n.args;
      types = vec_items n.types;
    }

-- what a call asks
abbrev pub call_of : BuildCall → Call
call_of call.MakeBlock = MakeBlock
call_of (call.AppendBlockParam block ty) = AppendBlockParam block ty
call_of (call.AppendInst new) = AppendInst (inst_of new)
call_of (call.ClearResults inst) = ClearResults inst
call_of (call.ChangeToAlias dest src) = ChangeToAlias dest src
call_of call.ResolveAllAliases = ResolveAllAliases
