-- The first word of a line and the first line of a text, as they are cut off. Assumes nothing.
use Rattle.std.proofs.Common.{◌≡◌, ℕ, suc, ◌+◌, ◌<◌, ◌≤◌, Bool, true, false, not, List, [], ◌∷◌, ◌++◌, length, get_or, slice_get, slice_index_or, take, drop, cond, Some, None, Option, MatchOption, Bor, ◌⊎◌, sym, refl, ap, ◌∙◌, ⊎_elim, append_assoc, append-nil, drop-cons, length-append, length-drop, arith}
use Rattle.std.proofs.Math.ListN.{get_or-append}
use Rattle.std.proofs.Math.Seq.{get_or-append_seam}
use Rattle.std.specs.Bool.{MatchBool}
use Rattle.std.specs.List.{position_or_len, prefix_len, IsFirstMatchOrLen}
use Rattle.std.specs.Option.{unwrap_or, option_map}
use Rattle.std.proofs.lemmas.Option.{unwrap_or-slice_get}
use Rattle.std.proofs.lemmas.Bool.{cases_Bool, cond-true, cond-false, false≢true}
use Rattle.std.proofs.lemmas.List.Folds.{length-prefix_len}
use Rattle.std.proofs.lemmas.List.Sums.{prefix_len_stops}
use Rattle.script.specs.Text.{is_space, is_feed, before, words, words_after, lines, lines_after}

-- how many spaces stand in front, and how many bytes before the first space
abbrev pub spaces : List ℕ → ℕ
spaces = prefix_len is_space

abbrev pub word_len : List ℕ → ℕ
word_len = position_or_len is_space

module _ (b : ℕ) (bs : List ℕ) where
  spaces-yes : is_space b ≡ true → spaces (b ∷ bs) ≡ suc (spaces bs)
  spaces-yes t = cond-true _ _ _ t ∙ omega arith

  spaces-no : is_space b ≡ false → spaces (b ∷ bs) ≡ 0
  spaces-no t = cond-false _ _ _ t

  word_len-yes : is_space b ≡ true → word_len (b ∷ bs) ≡ 0
  word_len-yes t = cond-false _ _ _ (ap not t)

  word_len-no : is_space b ≡ false → word_len (b ∷ bs) ≡ suc (word_len bs)
  word_len-no t = cond-true _ _ _ (ap not t) ∙ omega arith

-- ---- words

-- spaces in front say nothing
unspaced : (bs : List ℕ) → words bs ≡ words (drop (spaces bs) bs)
unspaced [] = refl
unspaced (b ∷ bs) =
    ⊎_elim
    (λ t. cond-true _ _ _ t ∙ unspaced bs ∙ sym (ap (λ n. words (drop n (b ∷ bs))) (spaces-yes b bs t)))
    (λ t. sym (ap (λ n. words (drop n (b ∷ bs))) (spaces-no b bs t)))
    (cases_Bool (is_space b))

-- where a word ends
word_ends : (w bs : List ℕ) → words_after w bs ≡ before (w ++ take (word_len bs) bs) (words (drop (word_len bs) bs))
word_ends w [] = ap (λ l. before l []) (sym (append-nil w))
word_ends w (b ∷ bs) =
    let cut : ℕ → List (List ℕ) = λ n. before (w ++ take n (b ∷ bs)) (words (drop n (b ∷ bs))) in
    ⊎_elim
    (λ t. cond-true _ _ _ t ∙ sym (ap cut (word_len-yes b bs t) ∙ ap (λ l. before l (words (b ∷ bs))) (append-nil w) ∙ ap (before w) (cond-true _ _ _ t)))
    (λ t. cond-false _ _ _ t ∙ word_ends (w ++ b ∷ []) bs ∙ sym (ap cut (word_len-no b bs t) ∙ ap (λ l. before l (words (drop (word_len bs) bs))) (sym (append_assoc w (b ∷ []) (take (word_len bs) bs)))))
    (cases_Bool (is_space b))

-- a line whose spaces are skipped, cut at the end of the word
word_cut : (bs rest word after : List ℕ) → rest ≡ drop (spaces bs) bs → word ≡ take (word_len rest) rest → after ≡ drop (word_len rest) rest → words bs ≡ before word (words after)
word_cut bs rest word after r w a =
    unspaced bs ∙ ap words (sym r) ∙ word_ends [] rest
    ∙ ap (λ l. before l (words (drop (word_len rest) rest))) (sym w) ∙ ap (λ l. before word (words l)) (sym a)

-- a word that is not empty is the first
pub next_word : (bs rest word after : List ℕ) → 0 < length word → rest ≡ drop (spaces bs) bs → word ≡ take (word_len rest) rest → after ≡ drop (word_len rest) rest → words bs ≡ word ∷ words after
next_word bs rest [] after some r w a = absurd (omega arith)
next_word bs rest (b ∷ word) after some r w a = word_cut bs rest (b ∷ word) after r w a

-- where no word stands behind the spaces, none is left
pub no_word : (bs rest word after : List ℕ) → length word ≡ 0 → rest ≡ drop (spaces bs) bs → word ≡ take (word_len rest) rest → after ≡ drop (word_len rest) rest → (words bs ≡ []) × (words after ≡ [])
no_word bs [] word after none r w a = (unspaced bs ∙ ap words (sym r), ap words a)
no_word bs (b ∷ rest) word after none r w a =
    let lt : spaces bs < length bs = omega (arith, length-drop (spaces bs) bs, ap length r) in
    let here : b ≡ get_or bs (spaces bs) 0 = ap (λ l. get_or l 0 0) (r ∙ drop-cons bs (spaces bs) 0 lt) in
    let some : word_len (b ∷ rest) ≡ suc (word_len rest) = word_len-no b rest (ap is_space here ∙ prefix_len_stops is_space bs 0 lt) in
    absurd (omega (arith, some, ap length w, length-prefix_len (λ b. not (is_space b)) (b ∷ rest)))

-- ---- lines

lines_after_few : (w bs : List ℕ) → length (lines_after w bs) ≤ length w + length bs
lines_after_few [] [] = omega arith
lines_after_few (b ∷ w) [] = omega arith
lines_after_few w (b ∷ bs) =
    ⊎_elim
    (λ t. let e : lines_after w (b ∷ bs) ≡ w ∷ lines bs = cond-true _ _ _ t in omega (arith, ap length e, lines_after_few [] bs))
    (λ t. let e : lines_after w (b ∷ bs) ≡ lines_after (w ++ b ∷ []) bs = cond-false _ _ _ t in omega (arith, ap length e, lines_after_few (w ++ b ∷ []) bs, length-append w (b ∷ [])))
    (cases_Bool (is_feed b))

-- a text has no more lines than bytes
pub lines_few : (bs : List ℕ) → length (lines bs) ≤ length bs
lines_few bs = omega (arith, lines_after_few [] bs)

-- no byte of it ends a line
abbrev pub Unfed : List ℕ → Type 0
Unfed l = (k : ℕ) → k < length l → is_feed (get_or l k 0) ≡ false

-- a line that ends in a line feed
pub line_fed : (w l : List ℕ) (b : ℕ) (bs : List ℕ) → Unfed l → is_feed b ≡ true → lines_after w (l ++ b ∷ bs) ≡ (w ++ l) ∷ lines bs
line_fed w [] b bs h t = cond-true _ _ _ t ∙ ap (λ l. l ∷ lines bs) (sym (append-nil w))
line_fed w (c ∷ l) b bs h t =
    cond-false _ _ _ (h 0 (omega arith)) ∙ line_fed (w ++ c ∷ []) l b bs (λ k lt. h (suc k) (omega arith)) t
    ∙ ap (λ l. l ∷ lines bs) (append_assoc w (c ∷ []) l)

-- a last line that lacks it
line_last : (w l : List ℕ) → Unfed l → lines_after w l ≡ before (w ++ l) []
line_last w [] h = ap (λ l. before l []) (sym (append-nil w))
line_last w (c ∷ l) h =
    cond-false _ _ _ (h 0 (omega arith)) ∙ line_last (w ++ c ∷ []) l (λ k lt. h (suc k) (omega arith))
    ∙ ap (λ l. before l []) (append_assoc w (c ∷ []) l)

-- the first line, as a split of the text at the first line feed cuts it off, and the text behind it
pub next_line : (bs line rest after : List ℕ) (done : Bool) → 0 < length bs → MatchBool done (bs ≡ line) ((b : ℕ) × (bs ≡ line ++ (b ∷ rest))) → IsFirstMatchOrLen is_feed bs (length line) → after ≡ cond done [] rest → lines bs ≡ line ∷ lines after
next_line [] line rest after true some cut first e = absurd (omega arith)
next_line (c ∷ bs) line rest after true some cut first e =
    let all = c ∷ bs in
    line_last [] all (λ k lt. first.0 k 0 (omega arith) (omega (arith, lt, ap length cut))) ∙ ap (λ l. l ∷ []) cut ∙ ap (λ l. line ∷ lines l) (sym e)
next_line bs line rest after false some cut first e =
    let b = cut.0 in
    let here : get_or bs (length line) 0 ≡ b = ap (λ l. get_or l (length line) 0) cut.1 ∙ get_or-append_seam line b rest 0 in
    let clear : Unfed line = λ k lt. ap is_feed (sym (ap (λ l. get_or l k 0) cut.1 ∙ get_or-append line (b ∷ rest) 0 k lt)) ∙ first.0 k 0 (omega arith) lt in
    ap lines cut.1 ∙ line_fed [] line b rest clear (ap is_feed (sym here) ∙ first.1 (omega (arith, ap length cut.1, length-append line (b ∷ rest))) 0)
    ∙ ap (λ l. line ∷ lines l) (sym e)

-- what the split gives next is the text behind the line feed, and nothing where there is none
pub text_behind : (r : Option (Bor (List ℕ))) (d : Bor (List ℕ)) (done last : Bool) (rest more : List ℕ) (n : ℕ) (Q : Bor (List ℕ) → Type 0) → n ≡ 1 → d.now ≡ [] → MatchOption r ((n ≡ 0) ⊎ (done ≡ true)) (λ x. (0 < n) × (n ≡ 1 → last ≡ true) × MatchBool last (rest ≡ x.now) ((b : ℕ) × (rest ≡ x.now ++ (b ∷ more))) × (done ≡ false) × Q x) → (unwrap_or r d).now ≡ cond done [] rest
text_behind None d done last rest more n Q one none h =
    ⊎_elim (λ z. absurd (omega arith)) (λ t. none ∙ sym (cond-true _ _ _ t)) h
text_behind (Some x) d done true rest more n Q one none h = sym (cond-false _ _ _ h.3 ∙ h.2)
text_behind (Some x) d done false rest more n Q one none h = absurd (false≢true (h.1 one))

-- the line at a place, or else nothing
pub line_or : (ls : List (List ℕ)) (n : ℕ) (r : Option (Bor (List ℕ))) (d : Bor (List ℕ)) → d.now ≡ [] → option_map (λ x. x.now) r ≡ slice_get ls n → (unwrap_or r d).now ≡ slice_index_or ls n []
line_or ls n None d none e = none ∙ ap (λ o. unwrap_or o []) e ∙ unwrap_or-slice_get ls n []
line_or ls n (Some x) d none e = ap (λ o. unwrap_or o []) e ∙ unwrap_or-slice_get ls n []
