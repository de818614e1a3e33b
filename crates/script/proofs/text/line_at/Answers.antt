use Rattle.std.proofs.Common.{ap, refl, slice_get, ◌∙◌, ◌-◌}
use Rattle.std.proofs.lemmas.Iterator.Consumers.{nth_from_yields_List, YieldsList-from_first}
use Rattle.script.specs.Text.{lines}
use Rattle.script.proofs.Pieces.{line_or}
use Rattle.script.proofs.text.line_at.Goals as goal

pub returns : goal.returns
returns c =
    let ls = lines c.args.text.now in
    let found = nth_from_yields_List c.nth.result _ _ c.nth.ensures.ran (YieldsList-from_first (λ x. x.now) (λ s. s) ls c.of.ensures.value) in
    ap (λ x. x.now) c.unwrap_or.ensures ∙ line_or ls (c.args.number - 1) c.nth.result _ refl (found ∙ ap (slice_get ls) c.saturating_sub.ensures)
