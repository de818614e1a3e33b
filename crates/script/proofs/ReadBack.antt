-- What is written reads back. Assumes nothing.
use Rattle.std.proofs.Common.{◌≡◌, ℕ, zero, suc, ◌+◌, ◌-◌, ◌*◌, ◌/◌, ◌%◌, ◌^◌, ◌<◌, ◌≤◌, Bool, true, false, not, ◌&&◌, ◌||◌, eqb, ltb, List, [], ◌∷◌, ◌++◌, map, length, get_or, ℤ, pos, negsuc, neg_ℤ, Some, None, Ok, codes, decimal, sym, refl, ap, ◌∙◌, append_assoc, append-nil, arith, length-append}
use lib.Signed.{mag}
use Rattle.std.specs.Fmt.{signed_decimal}
use Rattle.std.specs.List.{AllByRecursion as All, find}
use Rattle.std.specs.Str.{bytes_eq}
use Rattle.std.specs.Option.{option_map}
use Rattle.std.proofs.lemmas.Fmt.{decimal_by_steps}
use Rattle.std.proofs.lemmas.Bool.{and_parts, and_from, and_left, or_parts, or_from, not-true, not_from_false, cond-true, cond-false, ne_eqb, le-leb, lt-leb, ltb-true}
use Rattle.ir.specs.Codes.{opcodes, opcode_name, opcode_code}
use Rattle.ir.specs.Printed.{block_text, inst_text, value_text}
use Rattle.ir.specs.declared.entities.Block.{Block}
use Rattle.ir.specs.declared.entities.Inst.{Inst}
use Rattle.ir.specs.declared.entities.Value.{Value}
use Rattle.calls.specs.Calls as calls
use Rattle.calls.specs.Calls.{Call, InstCall}
use Rattle.script.specs.declared.items.Item.TheVariants.{Operand, Immediate, Condition}
use Rattle.script.specs.Text.{is_space, is_feed, before, words, words_after, lines}
use Rattle.ir.specs.Options.{and_then, or_else}
use Rattle.script.specs.Numbers.{is_digit, decimal_after, below, number, behind, numbered, block_of, inst_of, value_of, immediate_from, immediate_of}
use Rattle.script.specs.Names.{type_named, type_of, opcode_named, opcode_of, condition_named, condition_of}
use Rattle.script.specs.Script.{ItemsSaid, item_of, with_item, no_items, items_of, types_of, none, one, saying, Says, line_of, lines_of}
use Rattle.script.specs.Spelled.{item_words, spelled, spaced, written, Fits, InstFits, ReadsBack}
use Rattle.script.proofs.Pieces.{Unfed, line_fed}
use Rattle.script.proofs.Readings.{behind_front}

-- ---- numbers

abbrev Figure : ℕ → Type 0
Figure b = (48 ≤ b) × (b ≤ 57)

-- one digit or more, which write n
record Writes (n : ℕ) (ds : List ℕ) : Type 0 where
  some : 0 < length ds
  figures : All Figure ds
  value : decimal_after 0 ds ≡ Some n

digit_true : (b : ℕ) → Figure b → is_digit b ≡ true
digit_true b h = and_from _ _ (le-leb 48 b h.0) (le-leb b 57 h.1)

after_append : (ds : List ℕ) (m c k : ℕ) → All Figure ds → decimal_after m ds ≡ Some k → decimal_after m (ds ++ c ∷ []) ≡ decimal_after k (c ∷ [])
after_append [] m c k h e = let same : m ≡ k = cc in ap (λ j. decimal_after j (c ∷ [])) same
after_append (d ∷ ds) m c k h e =
    cond-true _ _ _ (digit_true d h.0) ∙ after_append ds (m * 10 + (d - 48)) c k h.1 (sym (cond-true _ _ _ (digit_true d h.0)) ∙ e)

figures_more : (ds : List ℕ) (c : ℕ) → All Figure ds → Figure c → All Figure (ds ++ c ∷ [])
figures_more [] c h f = (f, tt)
figures_more (d ∷ ds) c h f = (h.0, figures_more ds c h.1 f)

writes : (n : ℕ) → n < 2 ^ 64 → Writes n (decimal n)
writes =
    decimal_by_steps Writes
    (λ n small. record {
      some = omega arith;
      figures = ((omega arith, omega arith), tt);
      value = cond-true _ _ _ (digit_true (48 + n) (omega arith, omega arith)) ∙ ap Some (omega arith);
    })
    (λ n ds big h. record {
      some = omega (arith, length-append ds ((48 + n % 10) ∷ []));
      figures = figures_more ds (48 + n % 10) h.figures (omega arith, omega arith);
      value = after_append ds 0 (48 + n % 10) (n / 10) h.figures h.value ∙ cond-true _ _ _ (digit_true (48 + n % 10) (omega arith, omega arith)) ∙ ap Some (omega arith);
    })

number_of : (limit n : ℕ) (ds : List ℕ) → n < limit → Writes n ds → number limit ds ≡ Some n
number_of limit n [] lt w = absurd (omega (arith, w.some))
number_of limit n (d ∷ ds) lt w = ap (below limit) w.value ∙ cond-false _ _ _ (lt-leb limit n lt)

number_reads : (limit n : ℕ) → n < limit → n < 2 ^ 64 → number limit (decimal n) ≡ Some n
number_reads limit n lt fits = number_of limit n (decimal n) lt (writes n fits)

numbered_reads : (p : List ℕ) (n : ℕ) → n < 2 ^ 32 → numbered p (p ++ decimal n) ≡ Some n
numbered_reads p n lt = ap (λ o. and_then o (number (2 ^ 32))) (behind_front p (decimal n)) ∙ number_reads (2 ^ 32) n lt (omega arith)

block_reads : (b : Block) → b.0 < 2 ^ 32 → block_of (block_text b) ≡ Some b
block_reads b lt = ap (option_map (λ n. record { 0 = n })) (numbered_reads (codes "block") b.0 lt)

inst_reads : (i : Inst) → i.0 < 2 ^ 32 → inst_of (inst_text i) ≡ Some i
inst_reads i lt = ap (option_map (λ n. record { 0 = n })) (numbered_reads (codes "inst") i.0 lt)

value_reads : (v : Value) → v.0 < 2 ^ 32 → value_of (value_text v) ≡ Some v
value_reads v lt = ap (option_map (λ n. record { 0 = n })) (numbered_reads (codes "v") v.0 lt)

-- ---- names that a number is not

-- a letter stands first in the name of each case
abbrev lettered : {X : Type 0} → (X → List ℕ) → List X → Bool
lettered name [] = true
lettered name (x ∷ xs) = ltb 57 (get_or (name x) 0 0) && lettered name xs

apart : (d : ℕ) (ds name : List ℕ) → d ≤ 57 → ltb 57 (get_or name 0 0) ≡ true → bytes_eq (d ∷ ds) name ≡ false
apart d ds [] low high = refl
apart d ds (c ∷ cs) low high = let far : 57 < c = ltb-true 57 c high in and_left _ _ (ne_eqb d c (λ e. omega arith))

unnamed : {X : Type 0} (name : X → List ℕ) (d : ℕ) (ds : List ℕ) (xs : List X) → d ≤ 57 → lettered name xs ≡ true → find (λ x. bytes_eq (d ∷ ds) (name x)) xs ≡ None
unnamed name d ds [] low h = refl
unnamed name d ds (x ∷ xs) low h =
    let parts = and_parts (ltb 57 (get_or (name x) 0 0)) (lettered name xs) h in
    cond-false _ _ _ (apart d ds (name x) low parts.0) ∙ unnamed name d ds xs low parts.1

opcode_of_lem : (n : ℕ) (ds : List ℕ) → n < 2 ^ 8 → Writes n ds → opcode_of ds ≡ Some n
unfolding opcode_named
opcode_of_lem n [] lt w = absurd (omega (arith, w.some))
opcode_of_lem n (d ∷ ds) lt w =
    ap (λ o. or_else (option_map opcode_code o) (number 256 (d ∷ ds))) (unnamed opcode_name d ds opcodes w.figures.0.1 refl) ∙ number_of 256 n (d ∷ ds) lt w

type_of_lem : (n : ℕ) (ds : List ℕ) → n < 2 ^ 16 → Writes n ds → type_of ds ≡ Some n
type_of_lem n [] lt w = absurd (omega (arith, w.some))
type_of_lem n (d ∷ ds) lt w =
    let low : d ≤ 57 = w.figures.0.1 in
    let no_name : type_named (d ∷ ds) ≡ None =
    cond-false _ _ _ (apart d ds (codes "i8") low refl) ∙ cond-false _ _ _ (apart d ds (codes "i16") low refl)
    ∙ cond-false _ _ _ (apart d ds (codes "i32") low refl)
    ∙ cond-false _ _ _ (apart d ds (codes "i64") low refl)
    ∙ cond-false _ _ _ (apart d ds (codes "other") low refl) in
    ap (λ o. or_else o (number 65536 (d ∷ ds))) no_name ∙ number_of 65536 n (d ∷ ds) lt w

type_reads : (n : ℕ) → n < 2 ^ 16 → type_of (decimal n) ≡ Some n
type_reads n lt = type_of_lem n (decimal n) lt (writes n (omega arith))

-- ---- items

condition_reads : (n : ℕ) → n < 2 ^ 8 → item_of (codes "cc" ++ decimal n) ≡ Some (Condition n)
unfolding condition_named
condition_reads n lt = ap (option_map Condition) (number_reads 256 n lt (omega arith))

operand_reads : (v : Value) → v.0 < 2 ^ 32 → item_of (value_text v) ≡ Some (Operand v)
operand_reads v lt =
    ap (λ o. or_else (option_map Operand o) (or_else (option_map Immediate (immediate_of (value_text v))) (option_map Condition (condition_of (value_text v))))) (value_reads v lt)

-- an immediate: what it is, and that it is no arrow
record IsImmediate (z : ℤ) (w : List ℕ) : Type 0 where
  item : item_of w ≡ Some (Immediate z)
  no_arrow : bytes_eq w (codes "->") ≡ false

positive : (n : ℕ) (ds : List ℕ) → n < 2 ^ 63 → Writes n ds → IsImmediate (pos n) ds
positive n [] lt w = absurd (omega (arith, w.some))
positive n (d ∷ ds) lt w =
    let figure : Figure d = w.figures.0 in
    let no_value : value_of (d ∷ ds) ≡ None = ap (λ o. option_map (λ k. record { 0 = k }) (and_then o (number (2 ^ 32)))) (cond-false _ _ _ (ne_eqb 118 d (λ e. omega arith))) in
    let no_minus : behind (codes "-") (d ∷ ds) ≡ None = cond-false _ _ _ (ne_eqb 45 d (λ e. omega arith)) in
    let reads : immediate_of (d ∷ ds) ≡ Some (pos n) = ap (immediate_from (d ∷ ds)) no_minus ∙ ap (option_map (λ k. pos k)) (number_of (2 ^ 63) n (d ∷ ds) lt w) in
    record {
      item = ap (λ o. or_else (option_map Operand o) (or_else (option_map Immediate (immediate_of (d ∷ ds))) (option_map Condition (condition_of (d ∷ ds))))) no_value
          ∙ ap (λ o. or_else (option_map Immediate o) (option_map Condition (condition_of (d ∷ ds)))) reads;
      no_arrow = and_left _ _ (ne_eqb d 45 (λ e. omega arith));
    }

negative : (n : ℕ) (ds : List ℕ) → n < 2 ^ 63 → Writes (suc n) ds → IsImmediate (negsuc n) (45 ∷ ds)
negative n [] lt w = absurd (omega (arith, w.some))
negative n (d ∷ ds) lt w =
    let figure : Figure d = w.figures.0 in
    let reads : immediate_of (45 ∷ d ∷ ds) ≡ Some (negsuc n) = ap (option_map (λ k. neg_ℤ (pos k))) (number_of (2 ^ 63 + 1) (suc n) (d ∷ ds) (omega arith) w) in
    record {
      item = ap (λ o. or_else (option_map Immediate o) (option_map Condition (condition_of (45 ∷ d ∷ ds)))) reads;
      no_arrow = and_left (eqb d 62) (bytes_eq ds []) (ne_eqb d 62 (λ e. omega arith));
    }

immediate_reads : (z : ℤ) → mag z < 2 ^ 63 → IsImmediate z (signed_decimal z)
immediate_reads (pos n) lt = positive n (decimal n) lt (writes n (omega arith))
immediate_reads (negsuc n) lt = negative n (decimal (suc n)) lt (writes (suc n) (omega arith))

-- the operands, behind what came
operands_read : (said : ItemsSaid) (args : List Value) (rest : List (List ℕ)) → All (λ v. v.0 < 2 ^ 32) args → items_of said (map value_text args ++ codes "->" ∷ rest) ≡ Some (record { args = said.args ++ args; imm = said.imm; cond = said.cond }, rest)
operands_read said [] rest h = ap (λ l. Some (record { args = l; imm = said.imm; cond = said.cond }, rest)) (sym (append-nil said.args))
operands_read said (v ∷ vs) rest h =
    ap (λ o. and_then (and_then o (with_item said)) (λ more. items_of more (map value_text vs ++ codes "->" ∷ rest))) (operand_reads v h.0)
    ∙ operands_read (record { args = said.args ++ v ∷ []; imm = said.imm; cond = said.cond }) vs rest h.1
    ∙ ap (λ l. Some (record { args = l; imm = said.imm; cond = said.cond }, rest)) (append_assoc said.args (v ∷ []) vs)

types_read : (came types : List ℕ) → All (λ t. t < 2 ^ 16) types → types_of came (map decimal types) ≡ Some (came ++ types)
types_read came [] h = ap Some (sym (append-nil came))
types_read came (t ∷ ts) h =
    ap (λ o. and_then o (λ t. types_of (came ++ t ∷ []) (map decimal ts))) (type_reads t h.0) ∙ types_read (came ++ t ∷ []) ts h.1
    ∙ ap Some (append_assoc came (t ∷ []) ts)

items_read : (new : InstCall) → InstFits new → items_of no_items (item_words new) ≡ Some (record { args = new.args; imm = Some new.imm; cond = Some new.cond }, map decimal new.types)
items_read new h =
    let imm = immediate_reads new.imm h.imm in
    let behind_cond = signed_decimal new.imm ∷ (map value_text new.args ++ codes "->" ∷ map decimal new.types) in
    let behind_imm = map value_text new.args ++ codes "->" ∷ map decimal new.types in
    let said : ItemsSaid = record { args = []; imm = None; cond = Some new.cond } in
    ap (λ o. and_then (and_then o (with_item no_items)) (λ more. items_of more behind_cond)) (condition_reads new.cond h.cond)
    ∙ cond-false _ _ _ imm.no_arrow
    ∙ ap (λ o. and_then (and_then o (with_item said)) (λ more. items_of more behind_imm)) imm.item
    ∙ operands_read (record { args = []; imm = Some new.imm; cond = Some new.cond }) new.args (map decimal new.types) h.args

-- ---- calls

call_reads : (call : Call) → Fits call → line_of (spelled call) ≡ Says call
call_reads calls.MakeBlock h = refl
call_reads (calls.AppendBlockParam block ty) h =
    ap (λ o. saying (and_then o (λ b. one type_of (calls.AppendBlockParam b) (decimal ty ∷ [])))) (block_reads block h.0)
    ∙ ap (λ o. saying (and_then o (λ t. none (calls.AppendBlockParam block t) []))) (type_reads ty h.1)
call_reads (calls.AppendInst new) h =
    let e₁ = block_reads new.block h.block in
    let e₂ = opcode_of_lem new.opcode (decimal new.opcode) h.opcode (writes new.opcode (omega (arith, h.opcode))) in
    let e₃ = items_read new h in
    let e₄ = types_read [] new.types h.types in
    rw (e₁, e₂, e₃, e₄) refl
call_reads (calls.ClearResults i) h = ap (λ o. saying (and_then o (λ i. none (calls.ClearResults i) []))) (inst_reads i h)
call_reads (calls.ChangeToAlias dest src) h =
    ap (λ o. saying (and_then o (λ d. one value_of (calls.ChangeToAlias d) (value_text src ∷ [])))) (value_reads dest h.0)
    ∙ ap (λ o. saying (and_then o (λ s. none (calls.ChangeToAlias dest s) []))) (value_reads src h.1)
call_reads calls.ResolveAllAliases h = refl

-- ---- words and lines

-- no byte is a space or a line feed
abbrev plain : List ℕ → Bool
plain [] = true
plain (b ∷ bs) = not (is_space b || is_feed b) && plain bs

-- no byte is a line feed
abbrev unfed : List ℕ → Bool
unfed [] = true
unfed (b ∷ bs) = not (is_feed b) && unfed bs

abbrev Proper : List ℕ → Type 0
Proper w = (0 < length w) × (plain w ≡ true)

module _ (b : ℕ) (bs : List ℕ) (h : plain (b ∷ bs) ≡ true) where
  clear : (is_space b ≡ false) × (is_feed b ≡ false)
  clear = or_parts (is_space b) (is_feed b) (not-true _ (and_parts _ (plain bs) h).0)

  plain_rest : plain bs ≡ true
  plain_rest = (and_parts (not (is_space b || is_feed b)) (plain bs) h).1

word_first : (w v rest : List ℕ) → plain w ≡ true → words_after v (w ++ 32 ∷ rest) ≡ before (v ++ w) (words rest)
word_first [] v rest h = ap (λ l. before l (words rest)) (sym (append-nil v))
word_first (b ∷ w) v rest h =
    cond-false _ _ _ (clear b w h).0 ∙ word_first w (v ++ b ∷ []) rest (plain_rest b w h)
    ∙ ap (λ l. before l (words rest)) (append_assoc v (b ∷ []) w)

before_some : (w : List ℕ) (ws : List (List ℕ)) → 0 < length w → before w ws ≡ w ∷ ws
before_some [] ws h = absurd (omega arith)
before_some (b ∷ w) ws h = refl

words_back : (ws : List (List ℕ)) → All Proper ws → words (spaced ws) ≡ ws
words_back [] h = refl
words_back (w ∷ ws) h =
    word_first w [] (spaced ws) h.0.1 ∙ before_some w (words (spaced ws)) h.0.0 ∙ ap (λ l. w ∷ l) (words_back ws h.1)

unfed_at : (l : List ℕ) → unfed l ≡ true → Unfed l
unfed_at [] h k lt = absurd (omega arith)
unfed_at (b ∷ l) h zero lt = not-true _ (and_parts (not (is_feed b)) (unfed l) h).0
unfed_at (b ∷ l) h (suc k) lt = unfed_at l (and_parts (not (is_feed b)) (unfed l) h).1 k (omega arith)

unfed_more : (w rest : List ℕ) → plain w ≡ true → unfed rest ≡ true → unfed (w ++ 32 ∷ rest) ≡ true
unfed_more [] rest h r = r
unfed_more (b ∷ w) rest h r = and_from _ _ (not_from_false _ (clear b w h).1) (unfed_more w rest (plain_rest b w h) r)

spaced_unfed : (ws : List (List ℕ)) → All Proper ws → unfed (spaced ws) ≡ true
spaced_unfed [] h = refl
spaced_unfed (w ∷ ws) h = unfed_more w (spaced ws) h.0.1 (spaced_unfed ws h.1)

-- ---- the words of a call

figures_plain : (ds : List ℕ) → All Figure ds → plain ds ≡ true
figures_plain [] h = refl
figures_plain (d ∷ ds) h =
    let low : 48 ≤ d = h.0.0 in
    and_from _ _ (not_from_false _ (or_from _ _ (or_from _ _ (ne_eqb d 32 (λ e. omega arith)) (or_from _ _ (ne_eqb d 9 (λ e. omega arith)) (ne_eqb d 13 (λ e. omega arith)))) (ne_eqb d 10 (λ e. omega arith)))) (figures_plain ds h.1)

plain_decimal : (n : ℕ) → n < 2 ^ 64 → plain (decimal n) ≡ true
plain_decimal n lt = figures_plain (decimal n) (writes n lt).figures

proper_decimal : (n : ℕ) → n < 2 ^ 64 → Proper (decimal n)
proper_decimal n lt = ((writes n lt).some, plain_decimal n lt)

proper_block : (b : Block) → b.0 < 2 ^ 32 → Proper (block_text b)
proper_block b lt = (omega arith, plain_decimal b.0 (omega arith))

proper_inst : (i : Inst) → i.0 < 2 ^ 32 → Proper (inst_text i)
proper_inst i lt = (omega arith, plain_decimal i.0 (omega arith))

proper_value : (v : Value) → v.0 < 2 ^ 32 → Proper (value_text v)
proper_value v lt = (omega arith, plain_decimal v.0 (omega arith))

proper_signed : (z : ℤ) → mag z < 2 ^ 63 → Proper (signed_decimal z)
proper_signed (pos n) lt = proper_decimal n (omega arith)
proper_signed (negsuc n) lt = (omega arith, plain_decimal (suc n) (omega arith))

proper_types : (ts : List ℕ) → All (λ t. t < 2 ^ 16) ts → All Proper (map decimal ts)
proper_types [] h = tt
proper_types (t ∷ ts) h = (let lt : t < 2 ^ 16 = h.0 in proper_decimal t (omega arith), proper_types ts h.1)

proper_values : (vs : List Value) (rest : List (List ℕ)) → All (λ v. v.0 < 2 ^ 32) vs → All Proper rest → All Proper (map value_text vs ++ rest)
proper_values [] rest h r = r
proper_values (v ∷ vs) rest h r = (proper_value v h.0, proper_values vs rest h.1 r)

proper : (call : Call) → Fits call → All Proper (spelled call)
proper calls.MakeBlock h = ((omega arith, refl), tt)
proper (calls.AppendBlockParam block ty) h =
    let lt : ty < 2 ^ 16 = h.1 in ((omega arith, refl), (proper_block block h.0, (proper_decimal ty (omega arith), tt)))
proper (calls.AppendInst new) h =
    let opcode : new.opcode < 2 ^ 8 = h.opcode in
    let cond_fits : new.cond < 2 ^ 8 = h.cond in
    let types = proper_types new.types h.types in
    let operands = proper_values new.args (codes "->" ∷ map decimal new.types) h.args ((omega arith, refl), types) in
    let items : All Proper (item_words new) = ((omega arith, plain_decimal new.cond (omega arith)), (proper_signed new.imm h.imm, operands)) in
    ((omega arith, refl), (proper_block new.block h.block, (proper_decimal new.opcode (omega arith), items)))
proper (calls.ClearResults i) h = ((omega arith, refl), (proper_inst i h, tt))
proper (calls.ChangeToAlias dest src) h = ((omega arith, refl), (proper_value dest h.0, (proper_value src h.1, tt)))
proper calls.ResolveAllAliases h = ((omega arith, refl), tt)

-- ---- the script

line_said : (said : List Call) (n : ℕ) (call : Call) (l : List ℕ) (rest : List (List ℕ)) → line_of (words l) ≡ Says call → lines_of said n (l ∷ rest) ≡ lines_of (said ++ call ∷ []) (n + 1) rest
line_said said n call l rest e = rw (e, lines_of) refl

script_back : (said : List Call) (n : ℕ) (calls : List Call) → All Fits calls → lines_of said n (lines (written calls)) ≡ Ok (said ++ calls)
script_back said n [] h = ap Ok (sym (append-nil said))
script_back said n (call ∷ calls) h =
    let words_fit = proper call h.0 in
    ap (lines_of said n) (line_fed [] (spaced (spelled call)) 10 (written calls) (unfed_at _ (spaced_unfed (spelled call) words_fit)) refl)
    ∙ line_said said n call (spaced (spelled call)) (lines (written calls)) (ap line_of (words_back (spelled call) words_fit) ∙ call_reads call h.0)
    ∙ script_back (said ++ call ∷ []) (n + 1) calls h.1
    ∙ ap Ok (append_assoc said (call ∷ []) calls)

pub reads_back : ReadsBack
reads_back calls h = script_back [] 0 calls h
