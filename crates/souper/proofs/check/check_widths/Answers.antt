use Rattle.std.proofs.Common.{Err, ap, ◌∙◌}
use Rattle.souper.specs.Check.{verdict}
use Rattle.souper.proofs.Checks.{check_exact}
use Rattle.souper.proofs.check.check_widths.Goals as goal

pub returns-in-None-clause-passed : goal.returns-in-None-clause-passed
returns-in-None-clause-passed c = check_exact c.args.rows.now _ (ap verdict c.in-None.ensures)

pub returns-in-Some-clause-passed : goal.returns-in-Some-clause-passed
returns-in-Some-clause-passed c = check_exact c.args.rows.now _ (ap Err c.broken_at.ensures ∙ ap verdict c.in-Some.ensures)
