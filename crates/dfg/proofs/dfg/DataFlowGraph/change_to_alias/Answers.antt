use Rattle.std.proofs.Common.{◌≡◌, ℕ, true, false, ltb, ◌++◌, length, drop, Ok, Some, None, Option, set, sym, ap, ◌∙◌, subst}
use Rattle.ir.specs.Entities.{value}
use Rattle.ir.specs.Options.{or_else}
use Rattle.ir.specs.Refusals.{first, answer_unless}
use Rattle.ir.specs.declared.entities.Value.{Value}
use Rattle.ir.specs.declared.refusal.Refusal.{Refusal}
use Rattle.flow.specs.Meaning as meaning
use Rattle.rows.specs.Meaning.{flow}
use Rattle.rows.specs.Rows.{Rows, original, value_at, type_in, is_alias}
use Rattle.rows.specs.WellFormed.{WellFormed}
use Rattle.rows.specs.declared.value.ValueData.TheVariants.{Alias}
use Rattle.rows.proofs.Lawfulness.{live_in, live_is, original_width}
use Rattle.calls.specs.Calls.{Call, ChangeToAlias}
use Rattle.plain.specs.AliasLoops.{Judged}
use Rattle.plain.specs.Feed.{checks, refusal, grown}
use Rattle.plain.specs.Loops.{loop_refusal, reaches_through}
use Rattle.plain.specs.Marks.{swept_unless}
use Rattle.plain.proofs.Accepted.{AliasOf, alias_accepted}
use Rattle.plain.proofs.AliasLoops.{judged}
use Rattle.ir.proofs.Answered.{passed, refused}
use Rattle.plain.proofs.Feeding.{call_refused, call_done}
use Rattle.plain.proofs.Kept.{alias_kept, no_refusal}
use Rattle.dfg.specs.Plain.{plain}
use Rattle.dfg.proofs.Decoding.{exit_is}
use Rattle.dfg.proofs.dfg.DataFlowGraph.change_to_alias.Goals as goal

-- the checks have passed, and answered the original
module _ (p : Rows) (m : ℕ) (dest src o : Value) (answer : Ok o ≡ answer_unless (first (checks p m (ChangeToAlias dest src))) (value (original p src.0))) where
  free : first (checks p m (ChangeToAlias dest src)) ≡ None
  free = (passed _ _ _ answer).0

  is : o ≡ value (original p src.0)
  is = (passed _ _ _ answer).1

  accepted : AliasOf p m dest src
  accepted = alias_accepted p m dest src free

  -- what the check for loops says of the original that was answered, it says of the call
  loops : {r : Option Refusal} → loop_refusal p dest.0 o.0 ≡ r → loop_refusal p dest.0 (original p src.0) ≡ r
  loops e = ap (λ (v : Value). loop_refusal p dest.0 v.0) (sym is) ∙ e

  last : {r : Option Refusal} → loop_refusal p dest.0 o.0 ≡ r → refusal p m (ChangeToAlias dest src) ≡ r
  last e = ap (λ x. or_else x (loop_refusal p dest.0 (original p src.0))) free ∙ loops e

  after : record p { values = set p.values dest.0 (Alias (type_in (value_at p dest.0)) o) } ≡ grown p (ChangeToAlias dest src)
  after = ap (λ v. record p { values = set p.values dest.0 (Alias (type_in (value_at p dest.0)) v) }) is

pub returns-in_err-original : goal.returns-in_err-original
returns-in_err-original c =
    let p : Rows = plain c.args.self.now in
    let m : ℕ = length c.args.marks.now in
    let call : Call = ChangeToAlias c.args.dest c.args.src in
    let why : Refusal = c.in_err-original.field-0.0 in
    let stands : first (checks p m call) ≡ Some why = refused _ _ _ c.in_err-original.ensures in
    let done = call_refused m p call (tt {0}) why (ap (λ o. or_else o (loop_refusal p c.args.dest.0 (original p c.args.src.0))) stands) in
    record {
      after = done.0;
      value = exit_is _ _ c.from_residual.ensures.1 ∙ done.1;
      marks = sym (ap (λ o. swept_unless o c.args.marks.now) stands);
      loops = λ free. let z : ◌≡◌ {A = Option Refusal} (Some why) None = sym stands ∙ free in let no : ⊥ = cc in absurd no;
    }

pub invariant_of-alias : goal.invariant_of-alias
invariant_of-alias c =
    let g = c.args.self.now in
    let p : Rows = plain g in
    let m : ℕ = length c.args.marks.now in
    let src = c.args.src.0 in
    let e = c.in_ok-original.ensures in
    record {
      alive =
          subst (λ (v : Value). meaning.live (flow p) v.0 ≡ true) (sym (is p m _ _ _ e))
          (live_is p g.well_formed.0 (original p src) (ap (λ w. ltb 0 w) (original_width p g.well_formed.0 src) ∙ (accepted p m _ _ _ e).src_live));
    }

pub returns-in_err-check_loops : goal.returns-in_err-check_loops
returns-in_err-check_loops c =
    let g = c.args.self.now in
    let p : Rows = plain g in
    let m : ℕ = length c.args.marks.now in
    let call : Call = ChangeToAlias c.args.dest c.args.src in
    let e = c.in_ok-original.ensures in
    let why = refused _ _ _ c.in_err-check_loops.ensures.answer in
    let exit = exit_is _ _ c.from_residual-in_err-check_loops.ensures.1 in
    let done = call_refused m p call (tt {0}) _ (last p m _ _ _ e why) in
    record {
      after = done.0;
      value = exit ∙ done.1;
      marks = ap (λ l. l ++ drop 1024 c.args.marks.now) c.check_loops.ensures.marks ∙ sym (ap (λ o. swept_unless o c.args.marks.now) (free p m _ _ _ e));
      loops = λ passed.
          subst (Judged (flow (grown p call))) (ap (λ o. answer_unless o (tt {0})) (loops p m _ _ _ e why) ∙ sym exit)
          (judged p m c.args.dest c.args.src passed g.well_formed);
    }

pub set_alias-requires : goal.set_alias-requires
set_alias-requires c =
    let g = c.args.self.now in
    let p : Rows = plain g in
    let m : ℕ = length c.args.marks.now in
    let e = c.in_ok-original.ensures in
    let a = accepted p m _ _ _ e in
    record {
      within = live_in p c.args.dest.0 a.dest_live;
      ends = subst (λ (v : Value). is_alias (value_at p v.0) ≡ false) (sym (is p m _ _ _ e)) (g.well_formed.0.4 c.args.src.0);
      other = λ same. a.other (ap (λ (v : Value). v.0) (sym (is p m _ _ _ e)) ∙ same);
    }

pub invariant_of-self : goal.invariant_of-self
invariant_of-self c =
    let g = c.args.self.now in
    let p : Rows = plain g in
    let m : ℕ = length c.args.marks.now in
    let e = c.in_ok-original.ensures in
    let none = loops p m _ _ _ e (passed _ _ _ c.in_ok-check_loops.ensures.answer).0 in
    record {
      well_formed =
          subst WellFormed (sym (c.set_alias.ensures ∙ after p m _ _ _ e))
          (alias_kept p m c.args.dest c.args.src (free p m _ _ _ e)
          (no_refusal (reaches_through p c.args.dest.0 (original p c.args.src.0)) _ none) g.well_formed);
    }

pub returns : goal.returns
returns c =
    let g = c.args.self.now in
    let p : Rows = plain g in
    let m : ℕ = length c.args.marks.now in
    let call : Call = ChangeToAlias c.args.dest c.args.src in
    let e = c.in_ok-original.ensures in
    let none = (passed _ _ _ c.in_ok-check_loops.ensures.answer).0 in
    let done = call_done m p call (tt {0}) (last p m _ _ _ e none) in
    record {
      after = c.set_alias.ensures ∙ after p m _ _ _ e ∙ done.0;
      value = done.1;
      marks = ap (λ l. l ++ drop 1024 c.args.marks.now) c.check_loops.ensures.marks ∙ sym (ap (λ o. swept_unless o c.args.marks.now) (free p m _ _ _ e));
      loops = λ passed.
          subst (Judged (flow (grown p call))) (ap (λ o. answer_unless o (tt {0})) (loops p m _ _ _ e none))
          (judged p m c.args.dest c.args.src passed g.well_formed);
    }
