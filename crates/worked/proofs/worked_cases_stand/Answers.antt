use Rattle.std.proofs.Common.{refl}
use Rattle.format.specs.Layouts.{field_at}
use Rattle.worked.proofs.worked_cases_stand.Goals as goal

pub returns : goal.returns
unfolding field_at
returns c = record {
  largest_written = refl;
  largest_read = refl;
  too_large = refl;
  padded = refl;
  cut = refl;
  most_axles = refl;
  too_many_axles = refl;
  most_counted = refl;
  too_many_counted = refl;
  none_to_count = refl;
}
