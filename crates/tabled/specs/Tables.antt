-- What tables of answers mean. Assumes nothing.
use Rattle.std.specs.Prelude.{List, map}
use Rattle.ir.specs.Codes.{type_bits}
use Rattle.flow.specs.Layout.{InstRow}
use Rattle.flow.specs.Meaning.{Flow, Node}
use Rattle.tabled.specs.declared.tabled.InstAnswers.{InstAnswers}
use Rattle.tabled.specs.declared.tabled.ValueAnswers.{ValueAnswers}

-- what the answers of a value say of it
abbrev pub node_of : ValueAnswers → Node
node_of a = record { width = type_bits a.ty; original = a.original.0; def = a.def }

abbrev pub nodes : List ValueAnswers → Flow
nodes values = map node_of values

-- what the answers of an instruction say of it
abbrev pub row_of : InstAnswers → InstRow
row_of a = record { block = a.block; result = a.result }

abbrev pub rows : List InstAnswers → List InstRow
rows insts = map row_of insts
