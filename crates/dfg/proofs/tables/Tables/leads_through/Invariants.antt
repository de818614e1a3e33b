use Rattle.std.proofs.Common.{◌≡◌, length}
use Rattle.rows.proofs.Aliases.{depth}
use Rattle.dfg.specs.Held.{held}
use Rattle.plain.specs.Loops.{through}
use Rattle.dfg.proofs.tables.Tables.leads_through.Given as goal

-- the aliases that are left lead through the destination if all of them do, and become fewer
abbrev pub invariant-loop-original : goal.invariant-loop-original
invariant-loop-original l = through (held l.self).values l.dest.0 l.v.0 ≡ through (held l.self).values l.dest.0 l.initial.v.0

abbrev pub decreases-loop-original : goal.decreases-loop-original
decreases-loop-original l = depth (held l.self).values (length (held l.self).values) l.v.0
