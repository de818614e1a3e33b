-- The aliases of a value lead to its original, and to nothing else. Assumes nothing.
use Rattle.std.proofs.Common.{◌≡◌, ℕ, zero, suc, true, List, length, get_or, sym, refl, ap, ◌∙◌, subst, inl, inr}
use Rattle.std.proofs.lemmas.Bool.{cases_Bool, false≢true}
use Rattle.ir.specs.declared.entities.Value.{Value}
use Rattle.ir.specs.declared.types.Type as T
use Rattle.rows.specs.Originals.{LeadsTo, end, along, OriginalsAreEnds}
use Rattle.rows.specs.Rows.{step_in, is_alias, follow}
use Rattle.rows.specs.declared.value.ValueData.{ValueData}
use Rattle.rows.specs.declared.value.ValueData.TheVariants.{Inst, Param, Alias, Union, Deleted}
use Rattle.rows.proofs.Aliases.{Ends, follow_end}

alias_is : (row : ValueData) → is_alias row ≡ true → (ty : T.Type) × (o : Value) × (row ≡ Alias ty o)
alias_is (Inst ty num inst) e = absurd (false≢true e)
alias_is (Param ty num block) e = absurd (false≢true e)
alias_is (Alias ty o) e = (ty, o, refl)
alias_is (Union ty x y) e = absurd (false≢true e)
alias_is Deleted e = absurd (false≢true e)

leads_on : (rows : List ValueData) (k v : ℕ) → Ends rows (follow rows k v) → LeadsTo rows v (follow rows k v)
leads_on rows zero v e = end e
leads_on rows (suc k) v e =
    elim (cases_Bool (is_alias (get_or rows v Deleted))) [
      | inl a ↦
          let s = alias_is (get_or rows v Deleted) a in
          let at : step_in v (get_or rows v Deleted) ≡ s.1.0 = ap (step_in v) s.2 in
          along s.0 s.1 s.2
          (subst (λ w. LeadsTo rows w (follow rows k (step_in v (get_or rows v Deleted)))) at (leads_on rows k (step_in v (get_or rows v Deleted)) e))
      | inr a ↦ subst (LeadsTo rows v) (sym (follow_end rows (suc k) v a)) (end a)
    ]

only_end : (rows : List ValueData) {v u : ℕ} → LeadsTo rows v u → (k : ℕ) → Ends rows (follow rows k v) → follow rows k v ≡ u
only_end rows {v} (end a) k e = follow_end rows k v a
only_end rows (along ty o is r) zero e = absurd (false≢true (sym e ∙ ap is_alias is))
only_end rows {v} (along ty o is r) (suc k) e =
    let at : step_in v (get_or rows v Deleted) ≡ o.0 = ap (step_in v) is in
    ap (follow rows k) at ∙ only_end rows r k (subst (λ w. Ends rows (follow rows k w)) at e)

pub originals_are_ends : OriginalsAreEnds
originals_are_ends p settled v = record {
  leads = leads_on p.values (length p.values) v (settled v);
  only = λ u l. only_end p.values l (length p.values) (settled v);
}
