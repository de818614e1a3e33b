-- Worked graphs and their candidates. Assumes nothing.
use Rattle.std.specs.Prelude.{◌≡◌, ℕ, List, [], ◌∷◌, ◌++◌, map, pos, negsuc, vec_items}
use Rattle.std.specs.List.{AllByRecursion}
use Rattle.ir.specs.declared.condcodes.IntCC.TheVariants.{Equal, SignedGreaterThanOrEqual, UnsignedLessThan}
use Rattle.ir.specs.declared.entities.Value.{Value}
use Rattle.ir.specs.declared.opcodes.Opcode.TheVariants as op
use Rattle.ir.specs.declared.words.Word.{Word}
use Rattle.ir.specs.declared.words.Word.TheVariants as word
use Rattle.flow.specs.Meaning.{Flow}
use Rattle.flow.specs.Walk.{walk, step_count}
use Rattle.rows.specs.Meaning.{flow, layout}
use Rattle.rows.specs.Rows.{Rows}
use Rattle.calls.specs.Calls.{Call, MakeBlock, ResolveAllAliases}
use Rattle.souper.specs.Counted.{counted}
use Rattle.souper.specs.Rows.{given, variable_of}
use Rattle.souper.specs.Translation.{translation}
use Rattle.souper.specs.declared.rows.Operand.{Operand}
use Rattle.souper.specs.declared.rows.Operand.TheVariants.{Row as row, Constant as constant, Zero}
use Rattle.souper.specs.declared.rows.Row.{Row}
use Rattle.harvest.specs.Harvest.{Harvested}
use Rattle.harvest.specs.Roots.{roots}
use Rattle.harvest.specs.declared.harvest.Lhs.{Lhs}
use Rattle.examples.specs.Building.{built, param, inst_in, inst, iconst, icmp, clear, times_3_plus_7, alias_used}

-- a candidate: its root, the values that the root's walk shows, their rows, and how many counted operations and steps there are
pub record Expected : Type 0 where
  pub root : ℕ
  pub shown : List ℕ
  pub rows : List Row
  pub counted : ℕ
  pub steps : ℕ

-- building calls, and the candidates of the graph that they make
pub record Example : Type 0 where
  pub calls : List Call
  pub candidates : List Expected

abbrev pub candidate_at : Flow → Value → Expected
candidate_at g v =
    record {
      root = v.0;
      shown = walk g v.0;
      rows = translation g (walk g v.0);
      counted = counted g (walk g v.0);
      steps = step_count g v.0;
    }

-- the candidates of a graph, in layout order
abbrev pub candidates_of : Rows → List Expected
candidates_of p = map (candidate_at (flow p)) (roots (flow p) (layout p))

-- the graph that the calls make has these candidates
abbrev pub Holds : Example → Type 0
Holds e = candidates_of (built e.calls) ≡ e.candidates

-- a row that is no variable
abbrev pub line : ℕ → Word → List Operand → Row
line w word xs = record { width = w; word = word; operands = given xs }

abbrev pub examples : List Example
examples =
    -- a parameter times 3, plus 7
    record {
      calls = times_3_plus_7;
      candidates =
          record {
            root = 4;
            shown = 0 ∷ 1 ∷ 2 ∷ 3 ∷ 4 ∷ [];
            rows = variable_of 32 ∷ line 32 word.Mul (row 0 ∷ constant 32 (pos 3) ∷ []) ∷ line 32 word.Add (row 1 ∷ constant 32 (pos 7) ∷ []) ∷ [];
            counted = 2;
            steps = 10;
          }
          ∷ [];
    }
    -- an operation alone is no candidate
    ∷ record { calls = MakeBlock ∷ param 32 ∷ param 32 ∷ inst op.Iadd 32 (0 ∷ 1 ∷ []) ∷ []; candidates = [] }
    -- nor is a comparison alone
    ∷ record { calls = MakeBlock ∷ param 32 ∷ param 32 ∷ icmp UnsignedLessThan 0 1 ∷ []; candidates = [] }
    -- nor is a constant
    ∷ record { calls = MakeBlock ∷ iconst 32 (pos 5) ∷ []; candidates = [] }
    -- nor is a result that its instruction lists no more
    ∷ record {
      calls = MakeBlock ∷ param 32 ∷ inst op.Iadd 32 (0 ∷ 0 ∷ []) ∷ inst op.Imul 32 (1 ∷ 0 ∷ []) ∷ clear 1 ∷ [];
      candidates = [];
    }
    -- a select: a helper before it compares its condition with zero
    ∷ record {
      calls = MakeBlock ∷ param 8 ∷ param 32 ∷ inst op.Iadd 32 (1 ∷ 1 ∷ []) ∷ inst op.Select 32 (0 ∷ 2 ∷ 1 ∷ []) ∷ [];
      candidates =
          record {
            root = 3;
            shown = 0 ∷ 1 ∷ 2 ∷ 3 ∷ [];
            rows =
                variable_of 8
                ∷ variable_of 32
                ∷ line 32 word.Add (row 1 ∷ row 1 ∷ [])
                ∷ line 1 word.Ne (row 0 ∷ Zero ∷ [])
                ∷ line 32 word.Select (row 3 ∷ row 2 ∷ row 1 ∷ [])
                ∷ [];
            counted = 2;
            steps = 10;
          }
          ∷ [];
    }
    -- a select whose condition is a constant has no helper
    ∷ record {
      calls = MakeBlock ∷ param 32 ∷ iconst 8 (pos 5) ∷ inst op.Iadd 32 (0 ∷ 0 ∷ []) ∷ inst op.Select 32 (1 ∷ 2 ∷ 0 ∷ []) ∷ [];
      candidates =
          record {
            root = 3;
            shown = 1 ∷ 0 ∷ 2 ∷ 3 ∷ [];
            rows =
                variable_of 32
                ∷ line 32 word.Add (row 0 ∷ row 0 ∷ [])
                ∷ line 32 word.Select (constant 1 (pos 1) ∷ row 1 ∷ row 0 ∷ [])
                ∷ [];
            counted = 2;
            steps = 10;
          }
          ∷ [];
    }
    -- a comparison: its word gives one bit, and the row behind it extends that to eight
    ∷ record {
      calls = MakeBlock ∷ param 32 ∷ inst op.Iadd 32 (0 ∷ 0 ∷ []) ∷ icmp UnsignedLessThan 1 0 ∷ [];
      candidates =
          record {
            root = 2;
            shown = 0 ∷ 1 ∷ 2 ∷ [];
            rows =
                variable_of 32
                ∷ line 32 word.Add (row 0 ∷ row 0 ∷ [])
                ∷ line 1 word.Ult (row 1 ∷ row 0 ∷ [])
                ∷ line 8 word.Zext (row 2 ∷ [])
                ∷ [];
            counted = 2;
            steps = 8;
          }
          ∷ [];
    }
    -- an alias of a parameter is a variable of its own
    ∷ record {
      calls = alias_used;
      candidates =
          record {
            root = 3;
            shown = 0 ∷ 1 ∷ 2 ∷ 3 ∷ [];
            rows =
                variable_of 32
                ∷ variable_of 32
                ∷ line 32 word.Mul (row 0 ∷ row 1 ∷ [])
                ∷ line 32 word.Add (row 2 ∷ row 2 ∷ [])
                ∷ [];
            counted = 2;
            steps = 9;
          }
          ∷ [];
    }
    -- but once aliases are resolved, what used it uses the parameter
    ∷ record {
      calls = alias_used ++ ResolveAllAliases ∷ [];
      candidates =
          record {
            root = 3;
            shown = 0 ∷ 2 ∷ 3 ∷ [];
            rows =
                variable_of 32
                ∷ line 32 word.Mul (row 0 ∷ row 0 ∷ [])
                ∷ line 32 word.Add (row 1 ∷ row 1 ∷ [])
                ∷ [];
            counted = 2;
            steps = 8;
          }
          ∷ [];
    }
    -- a shift of two widths is a variable and not counted, and its operands are reached all the same
    ∷ record {
      calls =
          MakeBlock ∷ param 32 ∷ param 8 ∷ inst op.Ishl 32 (0 ∷ 1 ∷ []) ∷ inst op.Iadd 32 (2 ∷ 0 ∷ []) ∷ inst op.Iadd 32 (3 ∷ 3 ∷ []) ∷ [];
      candidates =
          record {
            root = 4;
            shown = 0 ∷ 1 ∷ 2 ∷ 3 ∷ 4 ∷ [];
            rows =
                variable_of 32
                ∷ variable_of 8
                ∷ variable_of 32
                ∷ line 32 word.Add (row 2 ∷ row 0 ∷ [])
                ∷ line 32 word.Add (row 3 ∷ row 3 ∷ [])
                ∷ [];
            counted = 2;
            steps = 12;
          }
          ∷ [];
    }
    -- a comparison that Souper has no word for is a root if it reaches two counted operations, and its row is a variable
    ∷ record {
      calls =
          MakeBlock ∷ param 32 ∷ inst op.Iadd 32 (0 ∷ 0 ∷ []) ∷ inst op.Imul 32 (0 ∷ 0 ∷ []) ∷ icmp SignedGreaterThanOrEqual 1 2 ∷ [];
      candidates =
          record {
            root = 3;
            shown = 0 ∷ 1 ∷ 2 ∷ 3 ∷ [];
            rows =
                variable_of 32
                ∷ line 32 word.Add (row 0 ∷ row 0 ∷ [])
                ∷ line 32 word.Mul (row 0 ∷ row 0 ∷ [])
                ∷ variable_of 8
                ∷ [];
            counted = 2;
            steps = 11;
          }
          ∷ [];
    }
    -- the bits inverted are those of an exclusive or with -1
    ∷ record {
      calls = MakeBlock ∷ param 32 ∷ inst op.Bnot 32 (0 ∷ []) ∷ inst op.Iadd 32 (1 ∷ 0 ∷ []) ∷ [];
      candidates =
          record {
            root = 2;
            shown = 0 ∷ 1 ∷ 2 ∷ [];
            rows =
                variable_of 32
                ∷ line 32 word.Xor (row 0 ∷ constant 32 (negsuc 0) ∷ [])
                ∷ line 32 word.Add (row 1 ∷ row 0 ∷ [])
                ∷ [];
            counted = 2;
            steps = 7;
          }
          ∷ [];
    }
    -- the candidates come in layout order: that of block 0 before that of block 1, which was made first
    ∷ record {
      calls =
          MakeBlock
          ∷ MakeBlock
          ∷ param 32
          ∷ inst op.Iadd 32 (0 ∷ 0 ∷ [])
          ∷ inst_in 1 op.Imul Equal (pos 0) 32 (1 ∷ 0 ∷ [])
          ∷ inst op.Bxor 32 (0 ∷ 1 ∷ [])
          ∷ [];
      candidates =
          record {
            root = 3;
            shown = 0 ∷ 1 ∷ 3 ∷ [];
            rows =
                variable_of 32
                ∷ line 32 word.Add (row 0 ∷ row 0 ∷ [])
                ∷ line 32 word.Xor (row 0 ∷ row 1 ∷ [])
                ∷ [];
            counted = 2;
            steps = 8;
          }
          ∷ record {
            root = 2;
            shown = 0 ∷ 1 ∷ 2 ∷ [];
            rows =
                variable_of 32
                ∷ line 32 word.Add (row 0 ∷ row 0 ∷ [])
                ∷ line 32 word.Mul (row 1 ∷ row 0 ∷ [])
                ∷ [];
            counted = 2;
            steps = 8;
          }
          ∷ [];
    }
    ∷ []

abbrev pub ExamplesHold : Type 0
ExamplesHold = AllByRecursion Holds examples

-- ---- the harvest of a graph is its candidates

-- a candidate of a harvest, as the table above writes it
abbrev pub expected_of : Flow → Lhs → Expected
expected_of g lhs =
    record {
      root = lhs.root.0;
      shown = walk g lhs.root.0;
      rows = vec_items lhs.rows;
      counted = lhs.counted;
      steps = lhs.steps;
    }

-- Whatever list is the harvest of a graph, its roots, rows, counted operations and steps are those of the graph's candidates. So the
-- harvest of each graph above is the list that stands there.
abbrev pub HarvestIsListed : Type 0
HarvestIsListed = (p : Rows) (all : List Lhs) → Harvested (flow p) (layout p) all → map (expected_of (flow p)) all ≡ candidates_of p
