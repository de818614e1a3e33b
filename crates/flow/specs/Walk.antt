-- The walk of a value, and what it is. Assumes nothing.
use Rattle.std.specs.Prelude.{◌≡◌, ℕ, zero, suc, ◌+◌, ◌<◌, ◌≤◌, true, false, cond, ◌⊎◌, ◌↔◌, List, [], ◌∷◌, ◌++◌, length, take, ◌==◌, slice_index}
use Rattle.flow.specs.Meaning.{Flow, Lawful, Reach, uses, live, has}

-- The walks of vs, one after another. A walk takes the values met before it to those met after it.
abbrev pub walks : (ℕ → List ℕ → List ℕ) → List ℕ → List ℕ → List ℕ
walks walk [] met = met
walks walk (v ∷ vs) met = walks walk vs (walk v met)

-- One value's walk, given the walks of what it uses: nothing more if it was met; else the walks of what it uses, in operand order, then the value.
abbrev pub visit : Flow → (ℕ → List ℕ → List ℕ) → ℕ → List ℕ → List ℕ
visit g walk v met = cond (has met v) met (walks walk (uses g v) met ++ (v ∷ []))

-- The walk to a depth of n. That the depth does not matter past the count of values is `Unfolds`.
unfoldable pub walk_to : ℕ → Flow → ℕ → List ℕ → List ℕ
walk_to zero g v met = met
walk_to (suc n) g v met = visit g (walk_to n g) v met

unfoldable pub walk_from : Flow → ℕ → List ℕ → List ℕ
walk_from g = walk_to (suc (length g)) g

-- The walk of a value, as the list of the values that it shows.
unfoldable pub walk : Flow → ℕ → List ℕ
walk g v = walk_from g v []

-- What the walk is, with no depth in it.
abbrev pub Unfolds : Type 0
Unfolds = (g : Flow) → Lawful g → (v : ℕ) (met : List ℕ) → walk_from g v met ≡ visit g (walk_from g) v met

abbrev pub Distinct : List ℕ → Type 0
Distinct [] = Unit {0}
Distinct (v ∷ vs) = (has vs v ≡ false) × Distinct vs

-- vs is a post-order of what root reaches.
pub record PostOrder (g : Flow) (root : ℕ) (vs : List ℕ) : Type 0 where
  pub reached : (v : ℕ) → has vs v ≡ true → Reach g root v
  pub complete : (v : ℕ) → Reach g root v → has vs v ≡ true
  pub once : Distinct vs
  pub operands_first : (i w : ℕ) → i < length vs → has (uses g (slice_index vs i)) w ≡ true → has (take i vs) w ≡ true
  pub root_last : (us : List ℕ) × (vs ≡ us ++ (root ∷ []))

abbrev pub WalkIsPostOrder : Type 0
WalkIsPostOrder = (g : Flow) → Lawful g → (v : ℕ) → PostOrder g v (walk g v)

-- How many operands the operations among vs have.
abbrev pub operand_count : Flow → List ℕ → ℕ
operand_count g [] = 0
operand_count g (v ∷ vs) = length (uses g v) + operand_count g vs

-- The steps of a completed walk: one for the root, one for each value reached and one for each operand of a reached operation.
abbrev pub step_count : Flow → ℕ → ℕ
step_count g root = 1 + (length (walk g root) + operand_count g (walk g root))

-- vs lists the values that root reaches, each once, in any order.
pub record Reached (g : Flow) (root : ℕ) (vs : List ℕ) : Type 0 where
  pub once : Distinct vs
  pub complete : (v : ℕ) → Reach g root v → has vs v ≡ true
  pub only : (v : ℕ) → has vs v ≡ true → Reach g root v

-- The steps, with no walk in it: 1 + the values reached + the operands of the operations reached.
abbrev pub StepsCount : Type 0
StepsCount = (g : Flow) → Lawful g → (root : ℕ) (vs : List ℕ) → Reached g root vs → step_count g root ≡ 1 + (length vs + operand_count g vs)

-- No walk of a lawful graph takes more than 1 + 1,024 + 3 * 1,024 steps.
abbrev pub StepsFew : Type 0
StepsFew = (g : Flow) → Lawful g → (root : ℕ) → live g root ≡ true → step_count g root ≤ 4097

-- ---- reach

abbrev pub ReachIsTransitive : Type 0
ReachIsTransitive = (g : Flow) (v w u : ℕ) → Reach g v w → Reach g w u → Reach g v u

-- A value reaches itself and what each value that it uses reaches, and nothing else.
abbrev pub ReachUnfolds : Type 0
ReachUnfolds = (g : Flow) (v u : ℕ) → Reach g v u ↔ (u ≡ v) ⊎ ((w : ℕ) × (has (uses g v) w ≡ true) × Reach g w u)

-- ---- what a walk, and each front of one, is

-- Distinct live values, each behind what it uses.
pub record Topological (g : Flow) (vs : List ℕ) : Type 0 where
  pub once : Distinct vs
  pub alive : (v : ℕ) → has vs v ≡ true → live g v ≡ true
  pub operands_first : (i w : ℕ) → i < length vs → has (uses g (slice_index vs i)) w ≡ true → has (take i vs) w ≡ true

abbrev pub WalkIsTopological : Type 0
WalkIsTopological = (g : Flow) → Lawful g → (v : ℕ) → live g v ≡ true → Topological g (walk g v)

-- The first place of v in a list, and the list's length where v is not in it.
unfoldable pub place_of : List ℕ → ℕ → ℕ
place_of [] v = 0
place_of (u ∷ us) v = cond (u == v) 0 (suc (place_of us v))

abbrev pub In : List ℕ → ℕ → Type 0
In vs v = place_of vs v < length vs

-- Live values, each behind what it uses, by places.
pub record Ordered (g : Flow) (vs : List ℕ) : Type 0 where
  pub alive : (v : ℕ) → In vs v → live g v ≡ true
  pub operands_first : (v k : ℕ) → In vs v → k < length (uses g v) → place_of vs (slice_index (uses g v) k) < place_of vs v
