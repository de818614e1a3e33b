-- The lines of a text, and the words of a line. Assumes nothing.
use Rattle.std.specs.Prelude.{ℕ, Bool, cond, ◌||◌, List, [], ◌∷◌, ◌++◌, Some, None, Option, ◌==◌}

-- a space, a tab or a carriage return
abbrev pub is_space : ℕ → Bool
is_space b = b == 32 || (b == 9 || b == 13)

-- a line feed
abbrev pub is_feed : ℕ → Bool
is_feed b = b == 10

-- a piece before others: an empty one is none
abbrev pub before : List ℕ → List (List ℕ) → List (List ℕ)
before [] pieces = pieces
before (b ∷ bs) pieces = (b ∷ bs) ∷ pieces

-- the words of what begins with `word`, of which no byte is a space
abbrev pub words_after : List ℕ → List ℕ → List (List ℕ)
words_after word [] = before word []
words_after word (b ∷ bs) = cond (is_space b) (before word (words_after [] bs)) (words_after (word ++ b ∷ []) bs)

-- the words of a line: what stands between spaces
abbrev pub words : List ℕ → List (List ℕ)
words bs = words_after [] bs

-- the lines of what begins with `line`, of which no byte is a line feed
abbrev pub lines_after : List ℕ → List ℕ → List (List ℕ)
lines_after line [] = before line []
lines_after line (b ∷ bs) = cond (is_feed b) (line ∷ lines_after [] bs) (lines_after (line ++ b ∷ []) bs)

-- the lines of a text: what ends in a line feed; the last may lack it
abbrev pub lines : List ℕ → List (List ℕ)
lines bs = lines_after [] bs

-- ---- the words to come

abbrev pub first : {X : Type 0} → List X → Option X
first [] = None
first (x ∷ xs) = Some x

abbrev pub others : {X : Type 0} → List X → List X
others [] = []
others (x ∷ xs) = xs
