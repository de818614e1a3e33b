-- One more item is written behind those before it. Assumes nothing.
use Rattle.std.proofs.Common.{◌≡◌, ℕ, ◌+◌, ◌<◌, List, [], ◌∷◌, ◌++◌, length, take, get_or, codes, sym, ap, ◌∙◌, append_assoc, add-one}
use Rattle.std.proofs.Math.Seq.{take-suc}
use Rattle.std.proofs.lemmas.List.{append-nil}
use Rattle.calls.specs.Printed.{each}

each_append : {X : Type 0} (text : X → List ℕ) (xs : List X) (x : X) → each text xs ++ (codes " " ++ text x) ≡ each text (xs ++ (x ∷ []))
each_append text [] x = sym (append-nil (codes " " ++ text x))
each_append text (y ∷ ys) x = append_assoc (codes " " ++ text y) (each text ys) (codes " " ++ text x) ∙ ap (λ rest. codes " " ++ text y ++ rest) (each_append text ys x)

pub each_next : {X : Type 0} (text : X → List ℕ) (xs : List X) (k : ℕ) (d : X) → k < length xs → each text (take k xs) ++ (codes " " ++ text (get_or xs k d)) ≡ each text (take (k + 1) xs)
each_next text xs k d lt = each_append text (take k xs) (get_or xs k d) ∙ ap (each text) (sym (take-suc xs k d lt)) ∙ ap (λ n. each text (take n xs)) (sym (add-one k))
