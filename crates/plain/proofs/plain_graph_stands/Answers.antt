use Rattle.plain.proofs.Always.{stays_well_formed, always_lawful, aliases_judged}
use Rattle.plain.proofs.plain_graph_stands.Goals as goal

pub returns : goal.returns
returns c = record { well_formed = stays_well_formed; lawful = always_lawful; aliases = aliases_judged }
