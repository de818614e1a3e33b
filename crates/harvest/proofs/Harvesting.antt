-- The candidates of a graph, one after another. Assumes nothing.
use Rattle.std.proofs.Common.{◌≡◌, List, [], ◌∷◌, ◌++◌, map, take, vec_items, sym, refl, ap, ◌∙◌, subst}
use Rattle.std.specs.List.{AllByRecursion as All}
use Rattle.std.proofs.ByRecursion.{All-push}
use Rattle.std.proofs.lemmas.List.{take_at}
use Rattle.ir.specs.declared.entities.Value.{Value}
use Rattle.flow.specs.Layout.{Layout, LawfulLayout}
use Rattle.flow.specs.Meaning.{Flow, Lawful}
use Rattle.flow.specs.Walk.{walk}
use Rattle.souper.specs.Translation.{translation}
use Rattle.souper.specs.declared.rows.Row.{Row}
use Rattle.harvest.specs.Candidates.{NextRoot}
use Rattle.harvest.specs.Harvest.{Harvested, InTurn, start}
use Rattle.harvest.specs.Roots.{roots, roots_at, roots_from}
use Rattle.harvest.specs.Written.{LhsOf, WrittenOf}
use Rattle.harvest.specs.declared.harvest.Lhs.{Lhs}
use Rattle.harvest.specs.declared.place.Place.{Place}
use Rattle.harvest.specs.declared.written.Written.{Written}
use Rattle.harvest.proofs.Candidates.{exactly}
use Rattle.harvest.proofs.Searching.{onward_all}

-- The rows copied of what was written of a root are the root's.
pub lhs_copied : (g : Flow) (before after : List Row) (w : Written) (lhs : Lhs) → WrittenOf g before after w
    → lhs.root ≡ w.root → vec_items lhs.rows ≡ take w.rows after → lhs.counted ≡ w.counted → lhs.steps ≡ w.steps → LhsOf g lhs.root.0 (vec_items lhs.rows) lhs.counted lhs.steps
lhs_copied g before after w lhs is root rows operations steps =
    let items : vec_items lhs.rows ≡ translation g (walk g w.root.0) = rows ∙ ap (take w.rows) is.table ∙ take_at (translation g (walk g w.root.0)) _ w.rows (sym is.count) in
    subst (λ (v : Value). LhsOf g v.0 (vec_items lhs.rows) lhs.counted lhs.steps) (sym root)
    (subst (λ l. LhsOf g w.root.0 l lhs.counted lhs.steps) (sym items)
    (subst (λ n. LhsOf g w.root.0 (translation g (walk g w.root.0)) n lhs.steps) (sym operations) (subst (λ n. LhsOf g w.root.0 (translation g (walk g w.root.0)) w.counted n) (sym steps) is.lhs)))

module _ (g : Flow) (l : Layout) where
  -- each is the next from the place behind the one before it, and the last place is `end`
  pub Chain : Place → List Lhs → Place → Type 0
  Chain from [] end = from ≡ end
  Chain from (lhs ∷ rest) end = NextRoot g l from lhs.root lhs.next × Chain lhs.next rest end

  chain_push : (from mid : Place) (all : List Lhs) (lhs : Lhs) → Chain from all mid → NextRoot g l mid lhs.root lhs.next → Chain from (all ++ (lhs ∷ [])) lhs.next
  unfolding Chain
  chain_push from mid [] lhs c n = (subst (λ p. NextRoot g l p lhs.root lhs.next) (sym c) n, refl)
  chain_push from mid (x ∷ all) lhs c n = (c.0, chain_push x.next mid all lhs c.1 n)

  chain_ends : (from end : Place) (all : List Lhs) → Chain from all end → roots_from g l end ≡ [] → InTurn g l from all
  unfolding Chain
  chain_ends from end [] c none = ap (roots_from g l) c ∙ none
  chain_ends from end (x ∷ all) c none = (c.0, chain_ends x.next end all c.1 none)

  turns : (from : Place) (all : List Lhs) → InTurn g l from all → map (λ (lhs : Lhs). lhs.root) all ≡ roots_from g l from
  turns from [] t = sym t
  turns from (x ∷ all) t = ap (λ xs. x.root ∷ xs) (turns x.next all t.1) ∙ sym t.0.first

  from_start : roots_from g l start ≡ roots g l
  from_start = ap (roots_at g) (onward_all l)

  -- those found so far
  pub record Found (from : Place) (all : List Lhs) : Type 0 where
    pub chain : Chain start all from
    pub each : All (λ (lhs : Lhs). LhsOf g lhs.root.0 (vec_items lhs.rows) lhs.counted lhs.steps) all

  pub found_none : (from : Place) → from ≡ start → Found from []
  unfolding Chain
  found_none from e = record { chain = sym e; each = tt }

  pub found_more : (from : Place) (all : List Lhs) (lhs : Lhs) → Found from all → NextRoot g l from lhs.root lhs.next → LhsOf g lhs.root.0 (vec_items lhs.rows) lhs.counted lhs.steps → Found lhs.next (all ++ (lhs ∷ []))
  found_more from all lhs f next is = record {
    chain = chain_push start from all lhs f.chain next;
    each = All-push (λ (x : Lhs). LhsOf g x.root.0 (vec_items x.rows) x.counted x.steps) all lhs f.each is;
  }

  pub found_all : Lawful g → LawfulLayout g l → (from : Place) (all : List Lhs) → Found from all → roots_from g l from ≡ [] → Harvested g l all
  found_all lawful laid from all f none =
      let t = chain_ends start from all f.chain none in
      let order = turns start all t ∙ from_start in
      record { order = order; exactly = exactly g l lawful laid all order; in_turn = t; each = f.each }
