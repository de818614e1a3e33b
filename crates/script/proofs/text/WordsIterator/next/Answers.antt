use Rattle.std.proofs.Common.{◌∙◌, length, not, take, drop, sym, ap, rules, arith}
use Rattle.std.proofs.lemmas.Bool.{eqb-true}
use Rattle.std.proofs.lemmas.List.Sums.{prefix_len-le-length}
use Rattle.script.specs.Text.{is_space}
use Rattle.script.proofs.Pieces.{no_word, next_word}
use Rattle.script.proofs.text.WordsIterator.next.Goals as goal
use Rattle.script.proofs.text.WordsIterator.next.Goals.{then-is_empty-2, else-is_empty-2}

pub split_at-requires : goal.split_at-requires
split_at-requires c = omega (arith, c.space_len.ensures, prefix_len-le-length is_space c.self.inside.rest.now)

pub split_at-requires-2 : goal.split_at-requires-2
split_at-requires-2 c = omega (arith, c.word_len.ensures, prefix_len-le-length (λ b. not (is_space b)) c.split_at.result.1.now)

pub returns-clause-steps : goal.returns-clause-steps
returns-clause-steps c =
    let line = c.self.inside.rest.now in
    let rest = c.split_at.result.1.now in
    let word = c.split_at-2.result.0.now in
    let after = c.split_at-2.result.1.now in
    let skipped = c.split_at.ensures.back ∙ ap (λ n. drop n line) c.space_len.ensures in
    let front = c.split_at-2.ensures.front ∙ ap (λ n. take n rest) c.word_len.ensures in
    let back = c.split_at-2.ensures.back ∙ ap (λ n. drop n rest) c.word_len.ensures in
    elim c.if-is_empty-2.branch [
      | then-is_empty-2 w ↦
          let none = no_word line rest word after (eqb-true _ _ (sym w.if-is_empty-2.ensures)) skipped front back in
          rw w.result-is (sym c.self.view_is ∙ none.0, none.1)
      | else-is_empty-2 w ↦
          rw w.result-is (sym c.self.view_is ∙ next_word line rest word after (search rules) skipped front back)
    ]

pub returns-clause-goes : goal.returns-clause-goes
returns-clause-goes c =
    let e = returns-clause-steps c in
    elim c.if-is_empty-2.branch [
      | then-is_empty-2 w ↦ rw w.result-is (search rules)
      | else-is_empty-2 w ↦ rw w.result-is (search (rules, ap length (rw w.result-is at e)))
    ]
