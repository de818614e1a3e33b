use Rattle.std.proofs.Common.{◌≡◌, ℕ, suc, ◌+◌, ◌-◌, length, sym, ap, ◌∙◌, arith}
use Rattle.rows.specs.Rows.{Rows, step_in, is_alias, follow}
use Rattle.rows.proofs.Aliases.{follow_end, not_alias}
use Rattle.rows.proofs.read_rows.ReadRows.resolve_aliases.Goals as goal

pub loop-preserved : goal.loop-preserved
loop-preserved g c =
    let p : Rows = g.Self.ReadRows.rows c.args.self.now in
    let v : ℕ = c.loop.current.0 in
    let left : ℕ = length p.values - (c.loop.counter + 1) in
    let one_less : suc left ≡ length p.values - c.loop.counter = omega (arith, c.num_values-end.ensures) in
    ap (λ row. follow p.values left (step_in v row)) c.in-Alias.ensures ∙ ap (λ k. follow p.values k v) one_less ∙ c.loop.invariant

pub returns-in_default : goal.returns-in_default
returns-in_default g c =
    let p : Rows = g.Self.ReadRows.rows c.args.self.now in
    let at_end = ap is_alias (sym c.value_data.ensures) ∙ not_alias c.value_data.result c.in_default.not-Alias in
    sym (follow_end p.values (length p.values - c.loop.counter) c.loop.current.0 at_end) ∙ c.loop.invariant
