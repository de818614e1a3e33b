-- Bytes put into a lent buffer. Assumes nothing.
use Rattle.std.specs.Prelude.{ℕ, ◌+◌, List, [], ◌∷◌, ◌++◌, length, drop, slice_set}

-- `bytes` over what stood at the front; what stood behind them stays
abbrev pub over : List ℕ → List ℕ → List ℕ
over bytes was = bytes ++ drop (length bytes) was

-- a place in a buffer, and what the buffer holds
abbrev pub Cursor : Type 0
Cursor = ℕ × List ℕ

-- One byte after another, each over what stood at its place, if the buffer goes so far. So much is always counted, and where there
-- is room for all, all is written.
unfoldable pub put : List ℕ → Cursor → Cursor
put [] c = c
put (b ∷ bytes) c = put bytes (c.0 + 1, slice_set c.1 c.0 b)
