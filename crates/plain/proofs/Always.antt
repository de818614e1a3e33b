-- Whatever calls are fed to it, the plain graph stays well-formed, and so lawful. Assumes nothing.
use Rattle.std.proofs.Common.{◌≡◌, ℕ, List, [], ◌∷◌, length, Some, None, Option, sym, refl, ap, subst}
use Rattle.std.proofs.lemmas.Bool.{leb-false}
use Rattle.ir.specs.declared.refusal.Refusal.{Refusal}
use Rattle.rows.specs.Meaning.{flow}
use Rattle.rows.specs.Rows.{Rows, empty, original}
use Rattle.rows.specs.WellFormed.{WellFormed}
use Rattle.rows.proofs.Lawfulness.{empty_well_formed, lawful, laid_out}
use Rattle.calls.specs.Calls.{Call, MakeBlock, AppendBlockParam, AppendInst, ClearResults, ChangeToAlias, ResolveAllAliases}
use Rattle.plain.specs.AliasLoops.{Judged}
use Rattle.ir.specs.Options.{or_else}
use Rattle.ir.proofs.Options.{neither}
use Rattle.ir.specs.Refusals.{first, answer_unless}
use Rattle.plain.specs.Feed.{checks, last_check, refusal, grown, fed_unless, fed_all, fed}
use Rattle.plain.specs.Loops.{loop_refusal, reaches_through}
use Rattle.plain.specs.Theorems.{StaysWellFormed, AlwaysLawful, AliasesJudged}
use Rattle.plain.proofs.Accepted.{none_stands}
use Rattle.plain.proofs.AliasLoops.{judged}
use Rattle.plain.proofs.Kept.{block_kept, param_kept, inst_kept, clear_kept, resolve_kept, alias_kept, no_refusal}

-- a call that is not refused
accepted_kept : (p : Rows) (marks : ℕ) (c : Call) → first (checks p marks c) ≡ None → last_check p c ≡ None → WellFormed p → WellFormed (grown p c)
accepted_kept p marks MakeBlock e l w = block_kept p (leb-false 64 p.blocks (none_stands (checks p marks MakeBlock) e).0) w
accepted_kept p marks (AppendBlockParam b ty) e l w = param_kept p b ty e w
accepted_kept p marks (AppendInst n) e l w = inst_kept p n e w
accepted_kept p marks (ClearResults i) e l w = clear_kept p i (leb-false (length p.insts) i.0 (none_stands (checks p marks (ClearResults i)) e).0) w
accepted_kept p marks (ChangeToAlias dest src) e l w = alias_kept p marks dest src e (no_refusal (reaches_through p dest.0 (original p src.0)) _ l) w
accepted_kept p marks ResolveAllAliases e l w = resolve_kept p w

unless_kept : (o : Option Refusal) (p q : Rows) → (o ≡ None → WellFormed q) → WellFormed p → WellFormed (fed_unless o p q)
unless_kept None p q after w = after refl
unless_kept (Some why) p q after w = w

pub stays_well_formed : StaysWellFormed
stays_well_formed p marks c w =
    unless_kept (refusal p marks c) p (grown p c) (λ e. let n = neither (first (checks p marks c)) (last_check p c) e in accepted_kept p marks c n.0 n.1 w) w

all_well_formed : (p : Rows) (cs : List Call) → WellFormed p → WellFormed (fed_all p cs)
all_well_formed p [] w = w
all_well_formed p (c ∷ cs) w = all_well_formed (fed p c) cs (stays_well_formed p 1024 c w)

pub always_lawful : AlwaysLawful
always_lawful cs =
    let w = all_well_formed empty cs empty_well_formed in
    record { flow_graph = lawful (fed_all empty cs) w.0 w.2; laid_out = laid_out (fed_all empty cs) w.0 w.1 }

pub aliases_judged : AliasesJudged
aliases_judged p marks dest src w passed =
    subst (λ o. Judged (flow (grown p (ChangeToAlias dest src))) (answer_unless o tt)) (sym (ap (λ o. or_else o (loop_refusal p dest.0 (original p src.0))) passed))
    (judged p marks dest src passed w)
