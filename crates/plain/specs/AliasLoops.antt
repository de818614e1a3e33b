-- When a new alias is refused for a loop: exactly if the altered graph would have one. Assumes nothing.
use Rattle.std.specs.Prelude.{◌≡◌, ℕ, None, Ok, Err, Result}
use Rattle.ir.specs.Codes.{cause_number}
use Rattle.ir.specs.declared.entities.Value.{Value}
use Rattle.ir.specs.declared.refusal.Refusal.{Refusal}
use Rattle.flow.specs.Loops.{LowestInLoop}
use Rattle.flow.specs.Meaning.{Flow, NoLoop}
use Rattle.rows.specs.Meaning.{flow}
use Rattle.rows.specs.Rows.{Rows}
use Rattle.calls.specs.Calls.{ChangeToAlias}
use Rattle.ir.specs.Refusals.{first}
use Rattle.plain.specs.Feed.{checks, grown}

-- the answer of a call that would alter the graph: it is altered if there is then no loop,
-- and else refused with 9, at the lowest value that would be in one
abbrev pub Judged : Flow → Result (Unit {0}) Refusal → Type 0
Judged altered (Ok done) = NoLoop altered
Judged altered (Err why) = (cause_number why.cause ≡ 9) × LowestInLoop altered why.place

-- once the other checks have passed, an alias from dest to src is judged by the loops of the graph with that alias
abbrev pub JudgedByLoops : Rows → ℕ → Value → Value → Result (Unit {0}) Refusal → Type 0
JudgedByLoops p marks dest src r =
    first (checks p marks (ChangeToAlias dest src)) ≡ None → Judged (flow (grown p (ChangeToAlias dest src))) r
