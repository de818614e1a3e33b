use Rattle.image.proofs.Accepting.{accepted_exactly, one_verdict}
use Rattle.image.proofs.Firsts.{first_is_named}
use Rattle.image.proofs.laws.image_stands.Goals as goal

pub returns : goal.returns
returns c = record { exact = accepted_exactly; one = one_verdict; first = first_is_named }
