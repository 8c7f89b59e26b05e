use Rattle.runs.proofs.Runs.{laws}
use Rattle.runs.proofs.every_run_is_lawful.Goals as goal

pub returns : goal.returns
returns c = laws
