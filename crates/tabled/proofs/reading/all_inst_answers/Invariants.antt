use Rattle.std.proofs.Common.{◌≡◌, map, take, vec_items}
use Rattle.tabled.specs.Tables.{row_of}
use Rattle.tabled.proofs.reading.all_inst_answers.Given as goal

-- the answers so far are of the first instructions
abbrev pub invariant-loop-inst : goal.invariant-loop-inst
invariant-loop-inst g l = map row_of (vec_items l.insts) ≡ take l.inst (g.G.LaidOut.layout l.graph).insts
