use Rattle.eval.proofs.Evaluating.{fitting_more, fitting_stops}
use Rattle.eval.proofs.inputs.InputCheckerVisitor.show.Goals as goal

pub returns-then-input_fits : goal.returns-then-input_fits
returns-then-input_fits g c = λ a shown f. fitting_more _ _ _ _ shown c.args.v.0 f c.if-input_fits.ensures

pub returns-else-input_fits : goal.returns-else-input_fits
returns-else-input_fits g c = λ a shown f. fitting_stops _ _ _ _ shown c.args.v.0 f c.if-input_fits.ensures
