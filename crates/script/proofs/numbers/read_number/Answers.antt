use Rattle.std.proofs.Common.{sym, ◌∙◌}
use Rattle.script.proofs.numbers.read_number.Goals as goal

pub returns : goal.returns
returns g c =
    rw (sym c.read_decimal.ensures ∙ c.in_ok-n.was) (c.try_from.result, c.try_from.ensures, c.ok.ensures.value)
