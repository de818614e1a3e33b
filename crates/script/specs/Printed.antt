-- How it is told why a script is not read. Assumes nothing.
use Rattle.std.specs.Prelude.{ℕ, List, ◌++◌, codes, decimal}
use Rattle.script.specs.declared.error.ScriptError.{ScriptError}
use Rattle.script.specs.declared.error.ScriptError.TheVariants.{Memory, Line}

abbrev pub error_text : ScriptError → List ℕ
error_text Memory = codes "memory ran out"
error_text (Line n) = codes "line " ++ decimal n ++ codes " cannot be read"
