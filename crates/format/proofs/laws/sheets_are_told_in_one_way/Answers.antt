use Rattle.format.proofs.Exactness.{one_telling}
use Rattle.format.proofs.laws.sheets_are_told_in_one_way.Goals as goal

pub returns : goal.returns
returns c = one_telling
