use Rattle.souper.proofs.Fits.{translation_fits}
use Rattle.souper.proofs.Grows.{translation_grows}
use Rattle.souper.proofs.Sound.{translation_sound, defined_rows_sound}
use Rattle.souper.proofs.WalkRows.{translation_is_rows_of_walk}
use Rattle.souper.proofs.translation_stands.Goals as goal

pub returns : goal.returns
returns c = record {
  sound = translation_sound;
  defined = defined_rows_sound;
  fits = translation_fits;
  rows = translation_is_rows_of_walk;
  grows = translation_grows;
}
