use Rattle.std.proofs.Common.{◌≡◌, length}
use Rattle.script.specs.Script.{items_of, items_said, no_items}
use Rattle.script.proofs.line.LineReader.items.Given as goal

abbrev pub invariant-loop-word : goal.invariant-loop-word
invariant-loop-word l =
    (items_of (items_said l.items) l.self.words ≡ items_of no_items l.fn.self.words) × (l.self.number ≡ l.fn.self.number)

abbrev pub decreases-loop-word : goal.decreases-loop-word
decreases-loop-word l = length l.self.words
