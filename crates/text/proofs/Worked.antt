-- The worked candidates have the texts that they are to have.
use Rattle.std.proofs.Common.{refl}
use Rattle.std.specs.Fmt.{digits}
use Rattle.text.specs.Text.{text_of, heading, row_lines, row_line, ending}
use Rattle.text.specs.Worked.{SumText, ChoiceText}

pub sum_text : SumText
unfolding text_of heading row_lines row_line ending digits
sum_text = refl

pub choice_text : ChoiceText
unfolding text_of heading row_lines row_line ending digits
choice_text = refl
