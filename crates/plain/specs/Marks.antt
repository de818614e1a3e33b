-- What a building call leaves in the lent marks. Assumes nothing.
use Rattle.std.specs.Prelude.{ℕ, List, ◌++◌, length, drop, replicate, Some, None, Option}
use Rattle.ir.specs.declared.refusal.Refusal.{Refusal}
use Rattle.rows.specs.Rows.{Rows}
use Rattle.calls.specs.Calls.{Call, MakeBlock, AppendBlockParam, AppendInst, ClearResults, ChangeToAlias, ResolveAllAliases}
use Rattle.ir.specs.Refusals.{first}
use Rattle.plain.specs.Feed.{checks}

-- the marks after a walk: the first 1,024 are zero, and those behind stay
abbrev pub swept : List ℕ → List ℕ
swept marks = replicate 1024 0 ++ drop 1024 marks

abbrev pub swept_unless : Option Refusal → List ℕ → List ℕ
swept_unless None marks = swept marks
swept_unless (Some why) marks = marks

-- the marks after a call: only a new alias walks, once no check before the one for loops refuses it
abbrev pub marks_after : Rows → Call → List ℕ → List ℕ
marks_after p MakeBlock marks = marks
marks_after p (AppendBlockParam b ty) marks = marks
marks_after p (AppendInst n) marks = marks
marks_after p (ClearResults i) marks = marks
marks_after p (ChangeToAlias dest src) marks = swept_unless (first (checks p (length marks) (ChangeToAlias dest src))) marks
marks_after p ResolveAllAliases marks = marks
