use Rattle.std.proofs.Common.{◌≡◌, ℕ, List, ◌++◌, ◌∷◌, [], length, Ok, Some, None, sym, ap, ◌∙◌, subst, rules}
use Rattle.ir.specs.Options.{or_else}
use Rattle.rows.specs.Rows.{Rows}
use Rattle.rows.specs.declared.instruction.InstructionData.{InstructionData}
use Rattle.rows.specs.WellFormed.{WellFormed}
use Rattle.calls.specs.Calls.{InstCall, AppendInst, inst_of}
use Rattle.plain.specs.Feed.{refusal, grown, inst_row, result_rows, next_inst}
use Rattle.plain.proofs.Accepted.{inst_accepted}
use Rattle.ir.proofs.Answered.{passed, refused}
use Rattle.plain.proofs.Feeding.{call_refused, call_done}
use Rattle.plain.proofs.Kept.{inst_kept}
use Rattle.dfg.specs.Plain.{plain}
use Rattle.dfg.proofs.Decoding.{exit_is}
use Rattle.dfg.proofs.dfg.DataFlowGraph.append_inst.Goals as goal

-- the row that was answered, and the types behind the reference
pushed : (p : Rows) (n : InstCall) (row : InstructionData) (types : List ℕ) → types ≡ n.types → row ≡ inst_row p n
    → record p { values = p.values ++ result_rows types (length p.insts); insts = p.insts ++ row ∷ [] } ≡ grown p (AppendInst n)
pushed p n row types e is =
    ap (λ ts. record p { values = p.values ++ result_rows ts (length p.insts); insts = p.insts ++ row ∷ [] }) e
    ∙ ap (λ r. record p { values = p.values ++ result_rows n.types (length p.insts); insts = p.insts ++ r ∷ [] }) is

pub returns-in_err-row : goal.returns-in_err-row
returns-in_err-row c =
    let p : Rows = plain c.args.self.now in
    let n : InstCall = inst_of c.args.new.now in
    let why : refusal p 1024 (AppendInst n) ≡ Some c.in_err-row.field-0.0 = ap (λ o. or_else o None) (refused _ _ _ c.in_err-row.ensures) in
    let done = call_refused 1024 p (AppendInst n) (next_inst p) _ why in
    record { after = done.0; value = exit_is _ _ c.from_residual.ensures.1 ∙ done.1 }

pub push_inst-requires : goal.push_inst-requires
push_inst-requires c =
    let p : Rows = plain c.args.self.now in
    let n : InstCall = inst_of c.args.new.now in
    let a = inst_accepted p n (passed _ _ _ c.in_ok-row.ensures).0 in
    record { insts = a.inst_room; few = search (rules, a.few_results); values = search (rules, a.value_room) }

pub invariant_of-self : goal.invariant_of-self
invariant_of-self c =
    let g = c.args.self.now in
    let p : Rows = plain g in
    let n : InstCall = inst_of c.args.new.now in
    let row = passed _ _ _ c.in_ok-row.ensures in
    let after = c.push_inst.ensures.after ∙ pushed p n _ _ c.deref.ensures.value row.1 in
    record { well_formed = subst WellFormed (sym after) (inst_kept p n row.0 g.well_formed) }

pub returns : goal.returns
returns c =
    let p : Rows = plain c.args.self.now in
    let n : InstCall = inst_of c.args.new.now in
    let row = passed _ _ _ c.in_ok-row.ensures in
    let done = call_done 1024 p (AppendInst n) (next_inst p) (ap (λ o. or_else o None) row.0) in
    record {
      after = c.push_inst.ensures.after ∙ pushed p n _ _ c.deref.ensures.value row.1 ∙ done.0;
      value = ap Ok c.push_inst.ensures.inst ∙ done.1;
    }
