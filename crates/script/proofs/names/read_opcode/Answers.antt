use Rattle.std.proofs.Common.{rules, tests}
use Rattle.std.specs.Str.{bytes_eq}
use Rattle.std.proofs.lemmas.Iterator.{YieldsList-from_slice}
use Rattle.std.proofs.lemmas.Iterator.Search.{find_from_yields_List}
use Rattle.ir.specs.Codes.{opcodes, opcode_name, opcode_code}
use Rattle.script.specs.Names.{opcode_named}
use Rattle.script.proofs.Readings.{code_found}
use Rattle.script.proofs.names.read_opcode.Goals as goal

pub returns : goal.returns
unfolding opcode_named
returns c =
    let word = c.args.word.now in
    let found = find_from_yields_List (λ x. bytes_eq word (opcode_name x)) _ _ c.find.result c.find.ensures.ran (YieldsList-from_slice opcodes c.iter.ensures.rest) (λ x b q k. search (rules, tests)) in
    let e = code_found opcode_name opcode_code opcodes word c.find.result found in
    search (rules, e)
