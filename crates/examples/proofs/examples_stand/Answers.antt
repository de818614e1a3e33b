use lib.Count.{ones, count_leading_zeros, count_trailing_zeros}
use Rattle.ir.specs.Bitvectors.{signed, unsigned, wrapping_add, wrapping_mul, signed_div, signed_rem, complement, shift_left, shift_right, signed_shift_right, sign_extend, bit_reverse, signed_saturating_add, signed_saturating_sub}
use Rattle.flow.specs.Number.{number_of, value_step}
use Rattle.flow.specs.Rounds.{rounds}
use Rattle.flow.specs.Walk.{walk, walk_from, walk_to}
use Rattle.rows.specs.Meaning.{flow, layout}
use Rattle.plain.specs.Attached.{param_count}
use Rattle.plain.specs.Loops.{through, reaches_through, closes, lowest_in_loop}
use Rattle.souper.specs.Rows.{row_number, row_step}
use Rattle.souper.specs.Translation.{translation, start_of, row_of}
use Rattle.examples.proofs.Harvests.{harvest_is_listed}
use Rattle.examples.proofs.examples_stand.Goals as goal

-- each entry is computed
pub returns : goal.returns
unfolding ones count_leading_zeros count_trailing_zeros signed unsigned wrapping_add wrapping_mul signed_div signed_rem complement shift_left shift_right signed_shift_right sign_extend bit_reverse signed_saturating_add signed_saturating_sub number_of value_step rounds walk walk_from walk_to flow layout param_count through reaches_through closes lowest_in_loop row_number row_step translation start_of row_of
returns c = record { candidates = search; harvested = harvest_is_listed; numbers = search; answers = search }
