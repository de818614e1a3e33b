use Rattle.std.proofs.Common.{◌≡◌, ◌-◌, length}
use Rattle.rows.specs.Rows.{Rows, follow, original}
use Rattle.rows.proofs.read_rows.ReadRows.resolve_aliases.Given as goal

-- the steps that are left lead on to the same end
abbrev pub invariant-loop : goal.invariant-loop
invariant-loop g l =
    let p : Rows = g.Self.ReadRows.rows l.self in
    follow p.values (length p.values - l.counter) l.current.0 ≡ original p l.fn.v.0
