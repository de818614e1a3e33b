use Rattle.std.proofs.Common.{◌≡◌, None, [], ◌∷◌, ◌++◌, unwrap_or, sym, ap, ◌∙◌, subst, rules}
use Rattle.ir.specs.Refusals.{first}
use Rattle.ir.specs.declared.types.Type.TheVariants.{Invalid}
use Rattle.rows.specs.Rows.{Rows}
use Rattle.rows.specs.WellFormed.{WellFormed}
use Rattle.rows.specs.declared.value.ValueData.TheVariants.{Param}
use Rattle.dfg.specs.Plain.{plain}
use Rattle.plain.specs.Attached.{param_count}
use Rattle.plain.specs.Feed.{checks}
use Rattle.plain.proofs.Kept.{param_kept}
use Rattle.calls.specs.Calls.{AppendBlockParam}
use Rattle.dfg.proofs.Decoding.{known_is}
use Rattle.dfg.proofs.dfg.DataFlowGraph.append_block_param.Goals as goal

pub invariant_of-self : goal.invariant_of-self
invariant_of-self c =
    let g = c.args.self.now in
    let p : Rows = plain g in
    let b = c.args.block in
    let free : first (checks p 1024 (AppendBlockParam b c.args.ty)) ≡ None = search rules in
    let type_is = known_is _ _ c.in_ok-ty.ensures in
    let after = c.push_param.ensures.after ∙ ap (λ t. record p { values = p.values ++ Param (unwrap_or t Invalid) (param_count p.values b.0) b ∷ [] }) (sym type_is) in
    record { well_formed = subst WellFormed (sym after) (param_kept p b c.args.ty free g.well_formed) }
