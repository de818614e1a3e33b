use Rattle.std.proofs.Common.{◌≡◌, ℕ, ◌≤◌, List, length, le_trans, sym, refl, ap, ◌∙◌, length-append, rules}
use Rattle.ir.specs.declared.entities.Value.{Value}
use Rattle.souper.specs.Rows.{row_at}
use Rattle.souper.specs.declared.rows.Row.{Row}
use Rattle.text.specs.Buffer.{put}
use Rattle.text.specs.Text.{ending, row_line, text_of}
use Rattle.text.proofs.Buffers.{put_behind, put_length, put_over, put_within}
use Rattle.text.proofs.Texts.{text_before, text_begins, text_before_fits, text_more, text_ends, row_line_fits}
use Rattle.text.proofs.candidate.write_text.Goals as goal

pub loop-number-init : goal.loop-number-init
loop-number-init c = c.write_heading-at.ensures ∙ ap (λ l. put l (0, c.args.text.now)) (text_begins c.args.root c.args.name.now c.args.rows.now)

-- what was written ends within the buffer
within : (root : Value) (name : List ℕ) (rows : List Row) (was text : List ℕ) (r at : ℕ) → length (text_of root name rows) ≤ length was
    → (at, text) ≡ put (text_before root name rows r) (0, was) → at ≤ length text
within root name rows was text r at room so_far = put_within _ _ _ _ (le_trans (text_before_fits root name rows r) room) so_far

-- ---- the next row's line goes into the rest

pub slice_bounds-write_row-count : goal.slice_bounds-write_row-count
slice_bounds-write_row-count c = within c.args.root c.args.name.now c.args.rows.now _ _ c.loop-number.number _ c.requires c.loop-number.invariant

pub slice_bounds-write_row-start : goal.slice_bounds-write_row-start
slice_bounds-write_row-start c = within c.args.root c.args.name.now c.args.rows.now _ _ c.loop-number.number _ c.requires c.loop-number.invariant

pub overflow_add-at : goal.overflow_add-at
overflow_add-at c =
    let a = c.args in
    let r = c.loop-number.number in
    let before = put_length (text_before a.root a.name.now a.rows.now r) _ _ _ c.loop-number.invariant in
    let line = put_length (row_line r (row_at a.rows.now r)) _ _ _ c.write_row-at.ensures in
    search (rules, c.requires, before, line, row_line_fits a.root a.name.now a.rows.now r c.loop-number-test.true)

pub loop-number-preserved : goal.loop-number-preserved
loop-number-preserved c =
    let a = c.args in
    let r = c.loop-number.number in
    let room = le_trans (text_before_fits a.root a.name.now a.rows.now r) c.requires in
    put_behind _ (row_line r (row_at a.rows.now r)) _ _ _ _ _ _ room c.loop-number.invariant refl c.write_row-at.ensures
    ∙ ap (λ l. put l (0, a.text.now)) (sym (text_more a.root a.name.now a.rows.now r c.loop-number-test.true))

-- ---- and so does the ending

pub slice_bounds-write_ending-count : goal.slice_bounds-write_ending-count
slice_bounds-write_ending-count c = within c.args.root c.args.name.now c.args.rows.now _ _ c.loop-number.number _ c.requires c.loop-number.invariant

pub slice_bounds-write_ending-start : goal.slice_bounds-write_ending-start
slice_bounds-write_ending-start c = within c.args.root c.args.name.now c.args.rows.now _ _ c.loop-number.number _ c.requires c.loop-number.invariant

pub overflow_add-result : goal.overflow_add-result
overflow_add-result c =
    let a = c.args in
    let r = c.loop-number.number in
    let before = text_before a.root a.name.now a.rows.now r in
    let last = ending a.rows.now in
    search (
      rules,
      c.requires,
      put_length before _ _ _ c.loop-number.invariant,
      put_length last _ _ _ c.write_ending.ensures,
      ap length (text_ends a.root a.name.now a.rows.now r c.loop-number-test.false),
      length-append before last,
    )

pub returns : goal.returns
returns c =
    let a = c.args in
    let r = c.loop-number.number in
    let room = le_trans (text_before_fits a.root a.name.now a.rows.now r) c.requires in
    let all =
    put_behind _ (ending a.rows.now) _ _ _ _ _ _ room c.loop-number.invariant refl c.write_ending.ensures
    ∙ ap (λ l. put l (0, a.text.now)) (sym (text_ends a.root a.name.now a.rows.now r c.loop-number-test.false)) in
    record {
      len = put_length (text_of a.root a.name.now a.rows.now) _ _ _ all;
      written = ap (λ p. p.1) all ∙ put_over (text_of a.root a.name.now a.rows.now) a.text.now c.requires;
    }
