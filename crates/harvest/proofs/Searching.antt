-- What one turn of the search for a root keeps. Assumes nothing.
use Rattle.std.proofs.Common.{◌≡◌, ℕ, zero, suc, ◌+◌, ◌-◌, ◌<◌, ◌≤◌, Bool, true, false, cond, eqb, List, [], ◌∷◌, ◌++◌, length, take, drop, get_or, Some, None, sym, refl, ap, ◌∙◌, subst, ⊎_elim, add-one, append-nil, arith, length-append}
use Rattle.std.proofs.Math.Seq.{drop-append-add, get_or-append_seam}
use Rattle.std.specs.List.{cons_option}
use Rattle.std.proofs.lemmas.List.{drop_more, drop_all, take_more, take-append-drop}
use Rattle.std.proofs.lemmas.Bool.{lt-ltb, le-ltb, ne_eqb, cases_lt, cond-true, cond-false}
use Rattle.ir.specs.declared.entities.Value.{Value}
use Rattle.flow.specs.Layout.{Layout, InstRow, inst_at, no_inst, in_block, in_blocks, onward, in_order}
use Rattle.flow.specs.Meaning.{Flow, Lawful}
use Rattle.harvest.specs.Roots.{root_at, roots_at, roots_from}
use Rattle.harvest.specs.Candidates.{NextRoot}
use Rattle.harvest.specs.declared.place.Place.{Place}
use Rattle.harvest.proofs.Candidates.{is_root_at, root_candidate}

-- ---- instructions of a block

in_block_append : (b : ℕ) (xs ys : List InstRow) → in_block b (xs ++ ys) ≡ in_block b xs ++ in_block b ys
in_block_append b [] ys = refl
in_block_append b (x ∷ xs) ys = at (eqb x.block.0 b) (in_block_append b xs ys)
  where
    at : (t : Bool) → in_block b (xs ++ ys) ≡ in_block b xs ++ in_block b ys → cond t (x ∷ in_block b (xs ++ ys)) (in_block b (xs ++ ys)) ≡ cond t (x ∷ in_block b xs) (in_block b xs) ++ in_block b ys
    at true e = ap (λ l. x ∷ l) e
    at false e = e

in_block_few : (b : ℕ) (xs : List InstRow) → length (in_block b xs) ≤ length xs
in_block_few b [] = omega arith
in_block_few b (x ∷ xs) = at (eqb x.block.0 b) (in_block_few b xs)
  where
    at : (t : Bool) → length (in_block b xs) ≤ length xs → length (cond t (x ∷ in_block b xs) (in_block b xs)) ≤ suc (length xs)
    at true h = omega arith
    at false h = omega arith

-- the instructions from the start of a block on
pub onward_start : (l : Layout) (b : ℕ) → onward l b 0 ≡ in_blocks l b (l.num_blocks - b)
onward_start l b = ⊎_elim
    (λ lt. let e : l.num_blocks - b ≡ suc (l.num_blocks - suc b) = omega arith in cond-true _ _ _ (lt-ltb b l.num_blocks lt) ∙ sym (ap (in_blocks l b) e))
    (λ le. let e : l.num_blocks - b ≡ 0 = omega arith in cond-false _ _ _ (le-ltb b l.num_blocks le) ∙ sym (ap (in_blocks l b) e))
    (cases_lt b l.num_blocks)

-- from the first block on, that is all
pub onward_all : (l : Layout) → onward l 0 0 ≡ in_order l
onward_all l = onward_start l 0 ∙ (let e : l.num_blocks - 0 ≡ l.num_blocks = omega arith in ap (in_blocks l 0) e)

-- the instructions from an index on, where so many of the block's were passed
pub onward_passed : (l : Layout) (b first index inst : ℕ) → b < l.num_blocks → index ≡ length (in_block b (take inst l.insts)) → index ≤ first
    → onward l b first ≡ drop (first - index) (in_block b (drop inst l.insts)) ++ in_blocks l (suc b) (l.num_blocks - suc b)
onward_passed l b first index inst lt passed le =
    let parts : in_block b l.insts ≡ in_block b (take inst l.insts) ++ in_block b (drop inst l.insts) =
    ap (in_block b) (sym (take-append-drop inst l.insts)) ∙ in_block_append b (take inst l.insts) (drop inst l.insts) in
    let n : first ≡ length (in_block b (take inst l.insts)) + (first - index) = omega (arith, passed, le) in
    cond-true _ _ _ (lt-ltb b l.num_blocks lt)
    ∙ ap (λ xs. xs ++ in_blocks l (suc b) (l.num_blocks - suc b))
    (ap (drop first) parts ∙ ap (λ k. drop k (in_block b (take inst l.insts) ++ in_block b (drop inst l.insts))) n ∙ drop-append-add (in_block b (take inst l.insts)) (in_block b (drop inst l.insts)) (first - index))

-- ---- the search

-- the index in a block at which the search begins
abbrev pub start_at : Place → ℕ → ℕ
start_at from b = cond (eqb b from.block) from.index 0

-- the roots are those from the block b on
pub record Blocks (g : Flow) (l : Layout) (from : Place) (b : ℕ) : Type 0 where
  pub left : roots_from g l from ≡ roots_at g (onward l b (start_at from b))

-- what is left at an instruction: of the block b, `index` of its instructions were passed, and the first root may stand at its instruction `first`
abbrev pub rest : Layout → ℕ → ℕ → ℕ → ℕ → List InstRow
rest l b first index inst = drop (first - index) (in_block b (drop inst l.insts)) ++ in_blocks l (suc b) (l.num_blocks - suc b)

pub record Insts (g : Flow) (l : Layout) (from : Place) (b first index inst : ℕ) : Type 0 where
  pub left : roots_from g l from ≡ roots_at g (rest l b first index inst)
  pub passed : index ≡ length (in_block b (take inst l.insts))

module _ (g : Flow) (l : Layout) (from : Place) where
  module _ (b : ℕ) (lt : b < l.num_blocks) where
    pub insts_end : (first index inst : ℕ) → length l.insts ≤ inst → from.block ≤ b → Insts g l from b first index inst → Blocks g l from (b + 1)
    insts_end first index inst le low t =
        let none : drop inst l.insts ≡ [] = drop_all inst l.insts le in
        let one : b + 1 ≡ suc b = omega arith in
        let ne : b + 1 ≡ from.block → ⊥ = λ e. omega arith in
        let s : start_at from (b + 1) ≡ 0 = cond-false _ _ _ (ne_eqb (b + 1) from.block ne) in
        let r : rest l b first index inst ≡ in_blocks l (suc b) (l.num_blocks - suc b) =
        ap (λ xs. drop (first - index) (in_block b xs) ++ in_blocks l (suc b) (l.num_blocks - suc b)) none ∙ ap (λ xs. xs ++ in_blocks l (suc b) (l.num_blocks - suc b)) (drop_nil (first - index)) in
        let o : onward l (b + 1) (start_at from (b + 1)) ≡ in_blocks l (suc b) (l.num_blocks - suc b) =
        ap (onward l (b + 1)) s ∙ onward_start l (b + 1) ∙ ap (λ n. in_blocks l n (l.num_blocks - n)) one in
        record { left = t.left ∙ ap (roots_at g) (r ∙ sym o) }
      where
        drop_nil : (n : ℕ) → drop {A = InstRow} n [] ≡ []
        drop_nil zero = refl
        drop_nil (suc n) = refl

    -- a block whose first instructions were passed
    pub insts_start : (first index inst : ℕ) → first ≡ start_at from b → index ≡ length (in_block b (take inst l.insts)) → index ≤ first → Blocks g l from b → Insts g l from b first index inst
    insts_start first index inst is passed le t = record {
      left = t.left ∙ ap (roots_at g) (ap (onward l b) (sym is) ∙ onward_passed l b first index inst lt passed le);
      passed = passed;
    }

    module _ (first index inst : ℕ) (i : inst < length l.insts) (t : Insts g l from b first index inst) where
      front : drop inst l.insts ≡ inst_at l inst ∷ drop (inst + 1) l.insts
      front = drop_more l.insts inst no_inst i

      passed_more : in_block b (take (inst + 1) l.insts) ≡ in_block b (take inst l.insts) ++ in_block b (inst_at l inst ∷ [])
      passed_more = ap (in_block b) (take_more l.insts inst no_inst i) ∙ in_block_append b (take inst l.insts) (inst_at l inst ∷ [])

      pub index_low : index ≤ inst
      index_low = omega (arith, t.passed, in_block_few b (take inst l.insts), take_length)
        where
          take_length : length (take inst l.insts) ≤ inst
          take_length = short inst l.insts
            where
              short : (n : ℕ) (xs : List InstRow) → length (take n xs) ≤ n
              short zero xs = omega arith
              short (suc n) [] = omega arith
              short (suc n) (x ∷ xs) = omega (arith, short n xs)

      -- an instruction of another block
      pub insts_other : eqb (inst_at l inst).block.0 b ≡ false → Insts g l from b first index (inst + 1)
      insts_other other =
          let same : in_block b (drop inst l.insts) ≡ in_block b (drop (inst + 1) l.insts) = ap (in_block b) front ∙ cond-false _ _ _ other in
          let r : rest l b first index inst ≡ rest l b first index (inst + 1) = ap (λ xs. drop (first - index) xs ++ in_blocks l (suc b) (l.num_blocks - suc b)) same in
          let p : in_block b (take (inst + 1) l.insts) ≡ in_block b (take inst l.insts) = passed_more ∙ ap (λ xs. in_block b (take inst l.insts) ++ xs) (cond-false _ _ _ other) ∙ append-nil _ in
          record { left = t.left ∙ ap (roots_at g) r; passed = t.passed ∙ sym (ap length p) }

      module _ (own : eqb (inst_at l inst).block.0 b ≡ true) where
        own_front : in_block b (drop inst l.insts) ≡ inst_at l inst ∷ in_block b (drop (inst + 1) l.insts)
        own_front = ap (in_block b) front ∙ cond-true _ _ _ own

        pub one_more : length (in_block b (take (inst + 1) l.insts)) ≡ index + 1
        one_more =
            let e : in_block b (inst_at l inst ∷ []) ≡ inst_at l inst ∷ [] = cond-true _ _ _ own in
            omega (arith, ap length passed_more, length-append (in_block b (take inst l.insts)) (in_block b (inst_at l inst ∷ [])), ap length e, t.passed)

        -- an instruction in front of the first place
        pub insts_skip : index < first → Insts g l from b first (index + 1) (inst + 1)
        insts_skip less =
            let n : first - index ≡ suc (first - (index + 1)) = omega arith in
            let r : rest l b first index inst ≡ rest l b first (index + 1) (inst + 1) =
            ap (λ xs. drop (first - index) xs ++ in_blocks l (suc b) (l.num_blocks - suc b)) own_front
            ∙ ap (λ k. drop k (inst_at l inst ∷ in_block b (drop (inst + 1) l.insts)) ++ in_blocks l (suc b) (l.num_blocks - suc b)) n in
            record { left = t.left ∙ ap (roots_at g) r; passed = sym one_more }

        module _ (reached : first ≤ index) where
          here : rest l b first index inst ≡ inst_at l inst ∷ rest l b first (index + 1) (inst + 1)
          here =
              let n : first - index ≡ 0 = omega arith in
              let m : 0 ≡ first - (index + 1) = omega arith in
              ap (λ xs. drop (first - index) xs ++ in_blocks l (suc b) (l.num_blocks - suc b)) own_front
              ∙ ap (λ k. drop k (inst_at l inst ∷ in_block b (drop (inst + 1) l.insts)) ++ in_blocks l (suc b) (l.num_blocks - suc b)) n
              ∙ ap (λ k. inst_at l inst ∷ (drop k (in_block b (drop (inst + 1) l.insts)) ++ in_blocks l (suc b) (l.num_blocks - suc b))) m

          -- no root at the instruction
          pub insts_none : root_at g (inst_at l inst) ≡ None → Insts g l from b first (index + 1) (inst + 1)
          insts_none none = record {
            left = t.left ∙ ap (roots_at g) here ∙ ap (λ o. cons_option o (roots_at g (rest l b first (index + 1) (inst + 1)))) none;
            passed = sym one_more;
          }

          behind : onward l b (index + 1) ≡ rest l b first (index + 1) (inst + 1)
          behind =
              let m : (index + 1) - (index + 1) ≡ first - (index + 1) = omega arith in
              onward_passed l b (index + 1) (index + 1) (inst + 1) lt (sym one_more) (omega arith)
              ∙ ap (λ k. drop k (in_block b (drop (inst + 1) l.insts)) ++ in_blocks l (suc b) (l.num_blocks - suc b)) m

          -- the instruction stands in its block at its index
          parts : in_block b l.insts ≡ in_block b (take inst l.insts) ++ (inst_at l inst ∷ in_block b (drop (inst + 1) l.insts))
          parts =
              ap (in_block b) (sym (take-append-drop inst l.insts)) ∙ in_block_append b (take inst l.insts) (drop inst l.insts)
              ∙ ap (λ xs. in_block b (take inst l.insts) ++ xs) own_front

          there : get_or (in_block b l.insts) index no_inst ≡ inst_at l inst
          there =
              ap (λ xs. get_or xs index no_inst) parts ∙ ap (λ k. get_or (in_block b (take inst l.insts) ++ (inst_at l inst ∷ in_block b (drop (inst + 1) l.insts))) k no_inst) t.passed
              ∙ get_or-append_seam (in_block b (take inst l.insts)) (inst_at l inst) (in_block b (drop (inst + 1) l.insts)) no_inst

          inside : index < length (in_block b l.insts)
          inside = omega (arith, t.passed, ap length parts, length-append (in_block b (take inst l.insts)) (inst_at l inst ∷ in_block b (drop (inst + 1) l.insts)))

          -- the root at the instruction is the first
          pub insts_found : Lawful g → (root : Value) → root_at g (inst_at l inst) ≡ Some root → (next : Place) → next.block ≡ b → next.index ≡ index + 1 → NextRoot g l from root next
          insts_found lawful root found next eb ei =
              let o : onward l next.block next.index ≡ rest l b first (index + 1) (inst + 1) = ap (λ k. onward l k next.index) eb ∙ ap (onward l b) ei ∙ behind in
              let is = is_root_at g (inst_at l inst) root found in
              let at : get_or (in_block next.block l.insts) index no_inst ≡ inst_at l inst = ap (λ k. get_or (in_block k l.insts) index no_inst) eb ∙ there in
              record {
                is_candidate = root_candidate g l lawful inst root.0 i found;
                first = t.left ∙ ap (roots_at g) here ∙ ap (λ o. cons_option o (roots_at g (rest l b first (index + 1) (inst + 1)))) found ∙ ap (λ xs. root ∷ roots_at g xs) (sym o);
                behind = record {
                  index = index;
                  one_more = ei ∙ add-one index;
                  block = omega (arith, eb);
                  inside = omega (arith, ap (λ k. length (in_block k l.insts)) eb, inside);
                  result = ap (λ (x : InstRow). x.result) at ∙ is.0;
                };
              }

pub with_index : {g : Flow} {l : Layout} {from : Place} {b first index inst after : ℕ} → after ≡ index → Insts g l from b first index inst → Insts g l from b first after inst
with_index {g} {l} {from} {b} {first} {index} {inst} is t = subst (λ k. Insts g l from b first k inst) (sym is) t
