use Rattle.std.proofs.Common.{◌≡◌, find, length, unwrap_or, ap, ◌∙◌, arith}
use Rattle.std.specs.List.{range_with_len}
use Rattle.ir.specs.Entities.{value}
use Rattle.ir.specs.declared.entities.Value.{Value}
use Rattle.rows.specs.Rows.{Rows}
use Rattle.rows.proofs.Lawfulness.{length_flow}
use Rattle.dfg.specs.Plain.{plain}
use Rattle.dfg.specs.Finders.{marked_but}
use Rattle.plain.specs.Loops.{closes, lowest_in_loop}
use Rattle.dfg.proofs.Marking.{marks_close, first_value}
use Rattle.plain.proofs.Through.{find_same}
use Rattle.dfg.proofs.alias_loops.NewAlias.lowest_in_loop.Goals as goal

pub returns : goal.returns
unfolding lowest_in_loop
returns c =
    let a = c.args.self.now in
    let g = a.graph.now in
    let p : Rows = plain g in
    let d = a.dest.0 in
    let r = a.original.0 in
    let marked = c.mark_reaching-marked.result in
    let n = c.num_values-count.result in
    let count : n ≡ length p.values = c.num_values-count.ensures ∙ length_flow p in
    record {
      lowest =
          ap (λ (w : Value). w.0) (c.unwrap_or.ensures ∙ ap (λ o. unwrap_or o (value n)) c.lowest_marked.ensures)
          ∙ first_value (marked_but marked r) (range_with_len 0 n) n
          ∙ ap (λ n. unwrap_or (find (marked_but marked r) (range_with_len 0 n)) n) count
          ∙ ap (λ o. unwrap_or o (length p.values))
          (find_same (marked_but marked r) (closes p d r) (length p.values) 0
          (λ u lt. marks_close p d r marked c.mark_reaching-marked.ensures.marked u (omega (arith, g.well_formed.0.0.0))));
      marks = c.mark_reaching-marked.ensures.marks;
    }
