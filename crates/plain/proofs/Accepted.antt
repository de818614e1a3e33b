-- What is known of a call that no check refuses. Assumes nothing.
use Rattle.std.proofs.Common.{◌≡◌, ℕ, ◌+◌, ◌<◌, ◌≤◌, Bool, true, false, cond, ◌≢◌, List, [], ◌∷◌, length, is_some, Some, None, Option, unwrap_or, sym, refl, subst, arith}
use Rattle.std.specs.List.{AllByRecursion as All}
use Rattle.std.proofs.lemmas.Bool.{and_parts, or_parts, not-false, leb-false, leb-true, ltb-false, eqb-true, eqb-false}
use Rattle.ir.specs.Codes.{type_bits, type_at, opcode_at, intcc_at}
use Rattle.ir.proofs.Limits.{few_args}
use Rattle.ir.specs.Constraints.{arg_count_fits, result_count_fits, immediate_fits}
use Rattle.ir.specs.Entities.{arg_count, operands_of}
use Rattle.ir.specs.declared.constraints.OpcodeConstraints.{OpcodeConstraints}
use Rattle.ir.specs.declared.constraints.OpcodeConstraints.TheVariants.{Constant, Unary, Binary, Shift, Select, Extend, Compare, Opaque}
use Rattle.ir.specs.declared.instructions.Operands.TheVariants.{Nullary}
use Rattle.ir.specs.declared.entities.Block.{Block}
use Rattle.ir.specs.declared.entities.Value.{Value}
use Rattle.ir.specs.declared.refusal.Refusal.{Refusal}
use Rattle.rows.specs.Rows.{Rows, all_live, live, width_at, original}
use Rattle.plain.specs.Attached.{attached}
use Rattle.ir.specs.Refusals.{first}
use Rattle.plain.specs.Feed.{checks, constraints_in, args_of, types_known, first_type, inst_row, row_widths_fit}
use Rattle.calls.specs.Calls.{AppendBlockParam, AppendInst, ChangeToAlias}
use Rattle.calls.specs.Calls.{InstCall}

-- where no cause is found, none stands
none_of : (b : Bool) (why : Refusal) (rest : Option Refusal) → cond b (Some why) rest ≡ None → (b ≡ false) × (rest ≡ None)
none_of true why rest e = cc
none_of false why rest e = (refl, e)

pub none_stands : (cs : List (Bool × Refusal)) → first cs ≡ None → All (λ c. c.0 ≡ false) cs
none_stands [] e = tt
none_stands (c ∷ cs) e = let k = none_of c.0 c.1 (first cs) e in (k.0, none_stands cs k.1)

pub record NewParam (p : Rows) (b : Block) (ty : ℕ) : Type 0 where
  pub known_type : is_some (type_at ty) ≡ true
  pub in_block : b.0 < p.blocks
  pub room : length p.values < 1024

pub param_accepted : (p : Rows) (b : Block) (ty : ℕ) → first (checks p 1024 (AppendBlockParam b ty)) ≡ None → NewParam p b ty
param_accepted p b ty e =
    let k = none_stands (checks p 1024 (AppendBlockParam b ty)) e in
    record {
      known_type = not-false (is_some (type_at ty)) k.0;
      in_block = leb-false p.blocks b.0 k.1.0;
      room = leb-false 1024 (length p.values) k.1.1.0;
    }

pub record New (p : Rows) (n : InstCall) : Type 0 where
  pub types : types_known n.types ≡ true
  pub arg_count_lem : arg_count_fits (constraints_in n) (arg_count (args_of n)) ≡ true
  pub result_count : result_count_fits (constraints_in n) (length n.types) ≡ true
  pub few_results : length n.types ≤ 2
  pub in_block : n.block.0 < p.blocks
  pub operands : all_live p (args_of n) ≡ true
  pub widths : row_widths_fit p (inst_row p n) n.types ≡ true
  pub imm : immediate_fits (constraints_in n) (type_bits (first_type n.types)) n.imm ≡ true
  pub inst_room : length p.insts < 1024
  pub value_room : length p.values + length n.types ≤ 1024

-- no opcode gives more than two results
few_results_of : (s : OpcodeConstraints) (n : ℕ) → result_count_fits s n ≡ true → n ≤ 2
few_results_of Constant n e = omega (arith, eqb-true n 1 e)
few_results_of Unary n e = omega (arith, eqb-true n 1 e)
few_results_of Binary n e = omega (arith, eqb-true n 1 e)
few_results_of Shift n e = omega (arith, eqb-true n 1 e)
few_results_of Select n e = omega (arith, eqb-true n 1 e)
few_results_of Extend n e = omega (arith, eqb-true n 1 e)
few_results_of Compare n e = omega (arith, eqb-true n 1 e)
few_results_of Opaque n e = leb-true n 2 e

arg_count_is : (args : List Value) → length args ≤ 3 → arg_count (unwrap_or (operands_of args) Nullary) ≡ length args
arg_count_is [] h = refl
arg_count_is (a ∷ []) h = refl
arg_count_is (a ∷ b ∷ []) h = refl
arg_count_is (a ∷ b ∷ c ∷ []) h = refl
arg_count_is (a ∷ b ∷ c ∷ d ∷ more) h = absurd (omega arith)

pub inst_accepted : (p : Rows) (n : InstCall) → first (checks p 1024 (AppendInst n)) ≡ None → New p n
inst_accepted p n e =
    let k = none_stands (checks p 1024 (AppendInst n)) e in
    let at = or_parts _ _ k.1.1.0 in
    let full = or_parts _ _ k.1.1.1.1.1.0 in
    let counts = and_parts _ _ (not-false _ k.1.0) in
    record {
      types = (and_parts (is_some (intcc_at n.cond)) _ (and_parts (is_some (opcode_at n.opcode)) _ (not-false _ k.0)).1).1;
      arg_count_lem = subst (λ x. arg_count_fits (constraints_in n) x ≡ true) (sym (arg_count_is n.args (few_args (constraints_in n) (length n.args) counts.0))) counts.0;
      result_count = counts.1;
      few_results = few_results_of (constraints_in n) (length n.types) counts.1;
      in_block = leb-false p.blocks n.block.0 at.0;
      operands = not-false _ at.1;
      widths = not-false _ k.1.1.1.0;
      imm = not-false _ k.1.1.1.1.0;
      inst_room = leb-false 1024 (length p.insts) full.0;
      value_room = ltb-false 1024 (length p.values + length n.types) full.1;
    }

pub record AliasOf (p : Rows) (marks : ℕ) (dest src : Value) : Type 0 where
  pub dest_live : live p dest.0 ≡ true
  pub src_live : live p src.0 ≡ true
  pub widths : width_at p dest.0 ≡ width_at p src.0
  pub free : attached p dest.0 ≡ false
  pub other : original p src.0 ≢ dest.0
  pub room : 1024 ≤ marks

pub alias_accepted : (p : Rows) (marks : ℕ) (dest src : Value) → first (checks p marks (ChangeToAlias dest src)) ≡ None → AliasOf p marks dest src
alias_accepted p marks dest src e =
    let k = none_stands (checks p marks (ChangeToAlias dest src)) e in
    record {
      dest_live = (and_parts _ (live p src.0) (not-false _ k.0)).0;
      src_live = (and_parts (live p dest.0) _ (not-false _ k.0)).1;
      widths = eqb-true _ _ (not-false _ k.1.0);
      free = k.1.1.0;
      other = eqb-false (original p src.0) dest.0 k.1.1.1.0;
      room = ltb-false marks 1024 k.1.1.1.1.0;
    }
