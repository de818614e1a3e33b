-- The order of a graph's instructions. Assumes nothing.
use Rattle.std.specs.Prelude.{◌≡◌, ℕ, zero, suc, ◌-◌, ◌<◌, ◌≤◌, true, cond, ◌⊎◌, List, [], ◌∷◌, ◌++◌, map, length, drop, Some, None, Ok, Err, Option, Result, ◌==◌, nat_lt, slice_index, slice_index_or}
use Rattle.ir.specs.Entities.{not_live}
use Rattle.ir.specs.declared.entities.Block.{Block}
use Rattle.ir.specs.declared.entities.Value.{Value}
use Rattle.ir.specs.declared.refusal.Refusal.{Refusal}
use Rattle.flow.specs.Meaning.{Flow, live, has}
use Rattle.flow.specs.Walk.{Distinct}

-- an instruction: its block, and its single result if it has exactly one live result
pub record InstRow : Type 0 where
  pub block : Block
  pub result : Option Value

pub record Layout : Type 0 where
  pub num_blocks : ℕ
  -- by instruction number
  pub insts : List InstRow

abbrev pub no_inst : InstRow
no_inst = record { block = record { 0 = 64 }; result = None }

abbrev pub inst_at : Layout → ℕ → InstRow
inst_at l i = slice_index_or l.insts i no_inst

-- an answer about an instruction, refused where there is no such instruction
abbrev pub asked_inst : {A : Type 0} → Layout → ℕ → A → Result A Refusal
asked_inst l i answer = cond (nat_lt i (length l.insts)) (Ok answer) (Err not_live)

pub record LawfulLayout (g : Flow) (l : Layout) : Type 0 where
  pub few_blocks : l.num_blocks ≤ 64
  pub few_insts : length l.insts ≤ 1024
  pub block_exists : (i : ℕ) → i < length l.insts → (inst_at l i).block.0 < l.num_blocks
  pub result_live : (i : ℕ) (v : Value) → (inst_at l i).result ≡ Some v → live g v.0 ≡ true

-- ---- layout order: block by block, and in a block by instruction number

-- the instructions of a block
abbrev pub in_block : ℕ → List InstRow → List InstRow
in_block b [] = []
in_block b (i ∷ is) = cond (i.block.0 == b) (i ∷ in_block b is) (in_block b is)

-- the instructions of n blocks from block b on
abbrev pub in_blocks : Layout → ℕ → ℕ → List InstRow
in_blocks l b zero = []
in_blocks l b (suc n) = in_block b l.insts ++ in_blocks l (suc b) n

-- the instructions from the instruction `index` of the block b on
abbrev pub onward : Layout → ℕ → ℕ → List InstRow
onward l b index = cond (nat_lt b l.num_blocks) (drop index (in_block b l.insts) ++ in_blocks l (suc b) (l.num_blocks - suc b)) []

-- all instructions
abbrev pub in_order : Layout → List InstRow
in_order l = in_blocks l 0 l.num_blocks

-- ---- the same by instruction numbers

-- the numbers of the instructions of block b, among those from number i on
abbrev pub numbers_in : ℕ → ℕ → List InstRow → List ℕ
numbers_in b i [] = []
numbers_in b i (x ∷ xs) = cond (x.block.0 == b) (i ∷ numbers_in b (suc i) xs) (numbers_in b (suc i) xs)

-- the numbers of the instructions of n blocks from block b on
abbrev pub numbers_from : Layout → ℕ → ℕ → List ℕ
numbers_from l b zero = []
numbers_from l b (suc n) = numbers_in b 0 l.insts ++ numbers_from l (suc b) n

-- the instruction numbers in layout order
abbrev pub order_of : Layout → List ℕ
order_of l = numbers_from l 0 l.num_blocks

-- instruction i comes before instruction j: its block has the lower number, or they share a block and i is the lower number
abbrev pub Before : Layout → ℕ → ℕ → Type 0
Before l i j = ((inst_at l i).block.0 < (inst_at l j).block.0) ⊎ (((inst_at l i).block.0 ≡ (inst_at l j).block.0) × (i < j))

-- Layout order is by block number, then by instruction number: it has each instruction once, nothing else, and each before those behind it.
pub record InLayoutOrder (l : Layout) : Type 0 where
  pub rows : in_order l ≡ map (inst_at l) (order_of l)
  pub each : (i : ℕ) → i < length l.insts → has (order_of l) i ≡ true
  pub only : (i : ℕ) → has (order_of l) i ≡ true → i < length l.insts
  pub once : Distinct (order_of l)
  pub ordered : (j k : ℕ) → j < k → k < length (order_of l) → Before l (slice_index (order_of l) j) (slice_index (order_of l) k)

abbrev pub LayoutOrder : Type 0
LayoutOrder = (g : Flow) (l : Layout) → LawfulLayout g l → InLayoutOrder l
