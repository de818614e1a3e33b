-- Each building call keeps a plain graph well-formed. Assumes nothing.
use Rattle.std.proofs.Common.{◌≡◌, ℕ, ◌<◌, Bool, true, false, cond, [], ◌∷◌, length, Some, None, sym, refl, subst, arith}
use Rattle.ir.specs.declared.refusal.Refusal.{Refusal}
use Rattle.std.proofs.lemmas.List.{append-nil}
use Rattle.std.proofs.lemmas.Bool.{lt-ltb}
use Rattle.ir.specs.declared.entities.Block.{Block}
use Rattle.ir.specs.declared.entities.Inst.{Inst}
use Rattle.ir.specs.declared.entities.Value.{Value}
use Rattle.flow.specs.Loops.{Path}
use Rattle.flow.specs.Meaning.{through}
use Rattle.flow.proofs.Loops.{path_reach}
use Rattle.flow.proofs.Walks.{walk_is_post_order}
use Rattle.rows.specs.Meaning.{flow}
use Rattle.rows.specs.Rows.{Rows, no_inst, all_live, original}
use Rattle.rows.specs.WellFormed.{WellFormed}
use Rattle.rows.proofs.Lawfulness.{lawful}
use Rattle.rows.proofs.Tables.{longer}
use Rattle.ir.specs.Refusals.{first}
use Rattle.plain.specs.Feed.{checks, grown, inst_row}
use Rattle.plain.specs.Loops as loops
use Rattle.plain.specs.Loops.{reaches_through}
use Rattle.plain.proofs.Accepted.{inst_accepted}
use Rattle.plain.proofs.Changes.{clear_sound, alias_sound, resolve_sound, clear_blocks, resolve_blocks}
use Rattle.plain.proofs.Growth.{Grown, values_fit, blocks_fit}
use Rattle.rows.proofs.Leaning.{uses_in, uses_are}
use Rattle.plain.proofs.NoLoops.{more_no_loop, clear_no_loop, resolve_no_loop, alias_no_loop}
use Rattle.plain.proofs.Steps.{param_grown, inst_grown, param_sound, inst_sound, rows_end}
use Rattle.plain.proofs.Through.{none_through}
use Rattle.calls.specs.Calls.{MakeBlock, AppendBlockParam, AppendInst, ClearResults, ChangeToAlias, ResolveAllAliases}
use Rattle.calls.specs.Calls.{InstCall}
use Rattle.rows.specs.declared.instruction.InstructionData.{InstructionData}

pub block_kept : (p : Rows) → p.blocks < 64 → WellFormed p → WellFormed (grown p MakeBlock)
block_kept p room w =
    let q : Rows = grown p MakeBlock in
    let s = w.0 in
    let g : Grown p q =
    record {
      values = [];
      insts = [];
      values_are = sym (append-nil p.values);
      insts_are = sym (append-nil p.insts);
      blocks = omega arith;
    } in (
      ((s.0.0, s.0.1, omega arith), values_fit p q g s.1 s.2 tt, s.2, s.3, s.4),
      blocks_fit p q g s.1 s.2 w.1 tt,
      more_no_loop p q g s tt s.2 w.2,
    )

pub param_kept : (p : Rows) (b : Block) (ty : ℕ) → first (checks p 1024 (AppendBlockParam b ty)) ≡ None → WellFormed p
    → WellFormed (grown p (AppendBlockParam b ty))
unfolding param_grown
param_kept p b ty e w =
    let q : Rows = grown p (AppendBlockParam b ty) in
    let s = w.0 in
    let g : Grown p q = param_grown p b ty in (
      param_sound p b ty e s,
      blocks_fit p q g s.1 s.2 w.1 tt,
      more_no_loop p q g s (refl, tt) s.2 w.2,
    )

pub inst_kept : (p : Rows) (n : InstCall) → first (checks p 1024 (AppendInst n)) ≡ None → WellFormed p → WellFormed (grown p (AppendInst n))
unfolding inst_grown
inst_kept p n e w =
    let q : Rows = grown p (AppendInst n) in
    let s = w.0 in
    let a = inst_accepted p n e in
    let g : Grown p q = inst_grown p n in (
      inst_sound p n e s,
      blocks_fit p q g s.1 s.2 w.1 (lt-ltb n.block.0 p.blocks a.in_block, tt),
      more_no_loop p q g s (rows_end n.types (length p.insts))
          (longer (λ (row : InstructionData). all_live p row.args ≡ true) (λ (row : InstructionData). all_live p row.args ≡ true) p.insts (inst_row p n ∷ []) no_inst
          (λ row h. h) s.2 (a.operands, tt) refl)
          w.2,
    )

pub clear_kept : (p : Rows) (i : Inst) → i.0 < length p.insts → WellFormed p → WellFormed (grown p (ClearResults i))
clear_kept p i l w = (clear_sound p i l w.0, clear_blocks p i l w.1, clear_no_loop p i l w.2)

pub resolve_kept : (p : Rows) → WellFormed p → WellFormed (grown p ResolveAllAliases)
resolve_kept p w = (resolve_sound p w.0, resolve_blocks p w.1, resolve_no_loop p w.0 w.2)

-- a source that reaches nothing that leads through the destination
clear_of : (p : Rows) (d r : ℕ) → WellFormed p → reaches_through p d r ≡ false → (v : ℕ) → Path (uses_in p) r v → loops.through p.values d v ≡ false
unfolding reaches_through
clear_of p d r w e v path =
    let q = path_reach (flow p) (subst (λ us. Path us r v) (uses_are p) path) in
    none_through p.values d _ v e ((walk_is_post_order (flow p) (lawful p w.0 w.2) r).complete v (through q.0 q.1 q.2))

pub alias_kept : (p : Rows) (marks : ℕ) (dest src : Value) → first (checks p marks (ChangeToAlias dest src)) ≡ None
    → reaches_through p dest.0 (original p src.0) ≡ false → WellFormed p → WellFormed (grown p (ChangeToAlias dest src))
alias_kept p marks dest src e free w = (
  alias_sound p marks dest src e w.0,
  w.1,
  alias_no_loop p marks dest src e w.0 (clear_of p dest.0 (original p src.0) w free) w.2,
)

pub no_refusal : (b : Bool) (why : Refusal) → cond b (Some why) None ≡ None → b ≡ false
no_refusal true why e = cc
no_refusal false why e = refl
