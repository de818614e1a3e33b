-- Decimal numbers, and what goes by one. Assumes nothing.
use Rattle.std.specs.Prelude.{ℕ, ◌+◌, ◌-◌, ◌*◌, ◌^◌, Bool, cond, ◌&&◌, List, [], ◌∷◌, ℤ, pos, neg_ℤ, take, drop, Some, None, codes, Option, ◌==◌, nat_le}
use Rattle.std.specs.List.{position}
use Rattle.std.specs.Option.{option_map}
use Rattle.ir.specs.Options.{and_then}
use Rattle.ir.specs.declared.entities.Block.{Block}
use Rattle.ir.specs.declared.entities.Inst.{Inst}
use Rattle.ir.specs.declared.entities.Value.{Value}

-- '0' to '9'
abbrev pub is_digit : ℕ → Bool
is_digit b = nat_le 48 b && nat_le b 57

-- the number that is written by digits behind those that write n
abbrev pub decimal_after : ℕ → List ℕ → Option ℕ
decimal_after n [] = Some n
decimal_after n (b ∷ bs) = cond (is_digit b) (decimal_after (n * 10 + (b - 48)) bs) None

-- the number that a word writes by one digit or more
abbrev pub decimal : List ℕ → Option ℕ
decimal [] = None
decimal (b ∷ bs) = decimal_after 0 (b ∷ bs)

abbrev pub below : ℕ → Option ℕ → Option ℕ
below limit None = None
below limit (Some n) = cond (nat_le limit n) None (Some n)

-- the number below the limit that a word writes
abbrev pub number : ℕ → List ℕ → Option ℕ
number limit word = below limit (decimal word)

-- what stands behind a prefix
abbrev pub behind : List ℕ → List ℕ → Option (List ℕ)
behind [] word = Some word
behind (p ∷ ps) [] = None
behind (p ∷ ps) (b ∷ bs) = cond (p == b) (behind ps bs) None

-- a number of 32 bits behind a prefix
abbrev pub numbered : List ℕ → List ℕ → Option ℕ
numbered prefix word = and_then (behind prefix word) (number (2 ^ 32))

abbrev pub block_of : List ℕ → Option Block
block_of word = option_map (λ n. record { 0 = n }) (numbered (codes "block") word)

abbrev pub inst_of : List ℕ → Option Inst
inst_of word = option_map (λ n. record { 0 = n }) (numbered (codes "inst") word)

abbrev pub value_of : List ℕ → Option Value
value_of word = option_map (λ n. record { 0 = n }) (numbered (codes "v") word)

-- the negative of what stands behind a '-', at most 2 ^ 63, or a number below 2 ^ 63
abbrev pub immediate_from : List ℕ → Option (List ℕ) → Option ℤ
immediate_from word None = option_map (λ n. pos n) (number (2 ^ 63) word)
immediate_from word (Some digits) = option_map (λ n. neg_ℤ (pos n)) (number (2 ^ 63 + 1) digits)

abbrev pub immediate_of : List ℕ → Option ℤ
immediate_of word = immediate_from word (behind (codes "-") word)

-- ---- pins

-- what is shown as what: a value, '=' (61) and an immediate
abbrev pub pin_at : List ℕ → ℕ → Option (Value × ℤ)
pin_at word at = and_then (value_of (take at word)) (λ v. option_map (λ z. (v, z)) (immediate_of (drop (at + 1) word)))

abbrev pub pin_of : List ℕ → Option (Value × ℤ)
pin_of word = and_then (position (λ b. b == 61) word) (pin_at word)
