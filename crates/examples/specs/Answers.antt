-- Building calls and their answers. Assumes nothing.
use Rattle.std.specs.Prelude.{◌≡◌, List, [], ◌∷◌, ◌++◌, replicate, pos, negsuc, Ok, Err, Result}
use Rattle.std.specs.List.{AllByRecursion}
use Rattle.ir.specs.Refusals.{because}
use Rattle.ir.specs.declared.opcodes.Opcode.TheVariants as op
use Rattle.ir.specs.declared.refusal.Cause.TheVariants.{NotLive, Unknown, WrongCount, Widths, Immediate, TableFull, Attached, ResolvesToDestination, Loop}
use Rattle.ir.specs.declared.refusal.Refusal.{Refusal}
use Rattle.calls.specs.Calls.{Call, MakeBlock, ResolveAllAliases}
use Rattle.calls.specs.declared.answer.Answer.{Answer}
use Rattle.calls.specs.declared.answer.Answer.TheVariants as made
use Rattle.plain.specs.Feed.{answers_to}
use Rattle.examples.specs.Building.{built, param, inst, iconst, alias, detached}

-- a call, those before it, and its answer
pub record Asked : Type 0 where
  pub before : List Call
  pub call : Call
  pub answer : Result Answer Refusal

-- the call has this answer where the graph is what those before it make
abbrev pub AnswerHolds : Asked → Type 0
AnswerHolds a = answers_to (built a.before) (a.call ∷ []) ≡ a.answer ∷ []

abbrev pub asked : List Asked
asked =
    -- a constant of 8 bits is 255 at most, and not below 0
    record { before = MakeBlock ∷ []; call = iconst 8 (pos 255); answer = Ok (made.Inst (record { 0 = 0 })) }
    ∷ record { before = MakeBlock ∷ []; call = iconst 8 (pos 256); answer = Err (because Immediate) }
    ∷ record { before = MakeBlock ∷ []; call = iconst 8 (negsuc 0); answer = Err (because Immediate) }
    -- one of 64 bits is a signed number
    ∷ record { before = MakeBlock ∷ []; call = iconst 64 (negsuc 0); answer = Ok (made.Inst (record { 0 = 0 })) }
    -- no type has 24 bits
    ∷ record { before = MakeBlock ∷ []; call = param 24; answer = Err (because Unknown) }
    -- there are 64 blocks at most
    ∷ record { before = replicate 64 MakeBlock; call = MakeBlock; answer = Err (because TableFull) }
    -- there is no block to have a parameter
    ∷ record { before = []; call = param 32; answer = Err (because NotLive) }
    -- a sum has two operands, of one width, and each there
    ∷ record { before = MakeBlock ∷ param 32 ∷ []; call = inst op.Iadd 32 (0 ∷ []); answer = Err (because WrongCount) }
    ∷ record { before = MakeBlock ∷ param 32 ∷ param 8 ∷ []; call = inst op.Iadd 32 (0 ∷ 1 ∷ []); answer = Err (because Widths) }
    ∷ record { before = MakeBlock ∷ param 32 ∷ []; call = inst op.Iadd 32 (0 ∷ 1 ∷ []); answer = Err (because NotLive) }
    -- a shift may have two widths
    ∷ record { before = MakeBlock ∷ param 32 ∷ param 8 ∷ []; call = inst op.Ishl 32 (0 ∷ 1 ∷ []); answer = Ok (made.Inst (record { 0 = 0 })) }
    -- a value that is attached does not become an alias, and one that is not does
    ∷ record { before = MakeBlock ∷ param 32 ∷ param 32 ∷ []; call = alias 1 0; answer = Err (because Attached) }
    ∷ record { before = detached; call = alias 1 0; answer = Ok made.Done }
    -- but not of itself
    ∷ record { before = detached; call = alias 1 1; answer = Err (because ResolvesToDestination) }
    -- nor of what uses it: value 1 would use itself
    ∷ record {
      before = detached ++ inst op.Imul 32 (1 ∷ 0 ∷ []) ∷ [];
      call = alias 1 2;
      answer = Err (record { cause = Loop; place = 1 });
    }
    -- an alias may be used, until all are resolved: then it is there no more
    ∷ record { before = detached ++ alias 1 0 ∷ []; call = inst op.Bnot 32 (1 ∷ []); answer = Ok (made.Inst (record { 0 = 1 })) }
    ∷ record { before = detached ++ alias 1 0 ∷ ResolveAllAliases ∷ []; call = inst op.Bnot 32 (1 ∷ []); answer = Err (because NotLive) }
    ∷ []

abbrev pub AnswersHold : Type 0
AnswersHold = AllByRecursion AnswerHolds asked
