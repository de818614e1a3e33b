use Rattle.std.proofs.Common.{ap, ◌∙◌}
use Rattle.std.proofs.lemmas.Slice.Eq.{strip_prefix_is}
use Rattle.std.proofs.lemmas.Bool.Decides.{Decides-eqb}
use Rattle.script.specs.Numbers.{behind}
use Rattle.script.proofs.Readings.{stripped}
use Rattle.script.proofs.numbers.strip.Goals as goal

pub returns : goal.returns
returns c =
    let word = c.args.word.now in
    let prefix = c.as_bytes.result.now in
    let found = strip_prefix_is Decides-eqb word prefix c.strip_prefix.result c.strip_prefix.ensures.cases in
    stripped word prefix c.strip_prefix.result found ∙ ap (λ p. behind p word) c.as_bytes.ensures.value
