-- What a walk leaves in marks of just the length that it needs. Assumes nothing.
use Rattle.std.proofs.Common.{◌≡◌, ℕ, List, ◌++◌, length, replicate, append-nil, ap, ◌∙◌, arith}
use Rattle.std.proofs.Math.ListN.{drop_of_length-le}
use Rattle.plain.specs.Marks.{swept}

pub swept_whole : (marks : List ℕ) → length marks ≡ 1024 → swept marks ≡ replicate 1024 0
swept_whole marks whole = ap (λ rest. replicate 1024 0 ++ rest) (drop_of_length-le marks {i = 1024} (omega arith)) ∙ append-nil (replicate 1024 0)
