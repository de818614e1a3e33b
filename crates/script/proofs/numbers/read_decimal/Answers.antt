use Rattle.std.proofs.Common.{◌≡◌, lit<, ◌∙◌, rules}
use Rattle.std.proofs.lemmas.Iterator.{YieldsList-from_slice}
use Rattle.script.proofs.Readings.{with_digit, folded, try_fold_is, by_digits, started}
use Rattle.script.proofs.numbers.read_decimal.Goals as goal

pub returns : goal.returns
returns c =
    let word = c.args.word.now in
    let read : c.try_fold.result ≡ folded with_digit 0 word = try_fold_is with_digit _ _ 0 _ c.try_fold.ensures.ran (YieldsList-from_slice word c.iter.ensures.rest) (λ p q b x v k. search rules) in
    read ∙ by_digits 0 word (lit< tt) ∙ started word (search rules)
