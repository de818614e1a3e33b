use Rattle.std.proofs.Common.{sym, arith, rules, tests}
use Rattle.std.proofs.lemmas.List.Sums.{prefix_len_is}
use Rattle.script.specs.Text.{is_space}
use Rattle.script.proofs.text.space_len.Goals as goal

pub returns-then-not-is_space : goal.returns-then-not-is_space
returns-then-not-is_space c =
    sym (prefix_len_is is_space c.args.bytes.now c.loop-n.n 0 (omega arith) c.loop-n.invariant (λ lt. search (rules, tests)))

pub returns : goal.returns
returns c = sym (prefix_len_is is_space c.args.bytes.now _ 0 (omega arith) (λ k lt. c.loop-n.invariant k (omega arith)) (λ lt. absurd (omega arith)))
