-- What the next candidate from a place on is. Assumes nothing.
use Rattle.std.specs.Prelude.{◌≡◌, ℕ, suc, ◌<◌, List, [], ◌∷◌, length, Some, None, Ok, Err, Option, Result, slice_index_or}
use Rattle.ir.specs.declared.entities.Value.{Value}
use Rattle.ir.specs.declared.refusal.Refusal.{Refusal}
use Rattle.flow.specs.Layout.{Layout, in_block, no_inst}
use Rattle.flow.specs.Meaning.{Flow}
use Rattle.souper.specs.declared.rows.Row.{Row}
use Rattle.harvest.specs.Roots.{IsCandidate, roots_from}
use Rattle.harvest.specs.Written.{WrittenOf}
use Rattle.harvest.specs.declared.candidate.Candidate.{Candidate}
use Rattle.harvest.specs.declared.place.Place.{Place}
use Rattle.harvest.specs.declared.search.Found.{Found}

-- A place right behind an instruction with the single result v: in its block, and one more than its index there.
pub record Behind (l : Layout) (v : Value) (place : Place) : Type 0 where
  pub index : ℕ
  pub one_more : place.index ≡ suc index
  pub block : place.block < l.num_blocks
  pub inside : index < length (in_block place.block l.insts)
  pub result : (slice_index_or (in_block place.block l.insts) index no_inst).result ≡ Some v

-- root is the first root from a place on, and next is the place right behind its instruction.
pub record NextRoot (g : Flow) (l : Layout) (from : Place) (root : Value) (next : Place) : Type 0 where
  pub is_candidate : IsCandidate g l root.0
  pub first : roots_from g l from ≡ root ∷ roots_from g l next
  pub behind : Behind l root next

-- what a search finds from a place on
abbrev pub FoundFrom : Flow → Layout → Place → Option Found → Type 0
FoundFrom g l from None = roots_from g l from ≡ []
FoundFrom g l from (Some f) = NextRoot g l from f.root f.next

-- What the next candidate from a place on is, and what the table then holds. There is none where no root is left.
abbrev pub NextFrom : Flow → Layout → Place → List Row → List Row → Result (Option Candidate) Refusal → Type 0
NextFrom g l from before after (Err why) = ⊥
NextFrom g l from before after (Ok None) = (roots_from g l from ≡ []) × (after ≡ before)
NextFrom g l from before after (Ok (Some c)) = NextRoot g l from c.written.root c.next × WrittenOf g before after c.written

-- where a harvest from a place on stands after an answer: behind the candidate, and where it was if there is none
abbrev pub place_after : Place → Result (Option Candidate) Refusal → Place
place_after from (Err why) = from
place_after from (Ok None) = from
place_after from (Ok (Some c)) = c.next
