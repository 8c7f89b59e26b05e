-- What stands once for each line of a section. Assumes nothing.
use Rattle.events.specs.declared.field.Direction.{Direction}
use Rattle.events.specs.declared.field.Direction.TheVariants.{Up, Down}
use Rattle.section.specs.declared.per_line.PerLine.{PerLine}

abbrev pub each : {T : Type 0} → (Direction → T) → PerLine T
each f = record { up = f Up; down = f Down }

abbrev pub on : {T : Type 0} → Direction → PerLine T → T
on Up p = p.up
on Down p = p.down

-- p with x on the line l
abbrev pub with_on : {T : Type 0} → Direction → PerLine T → T → PerLine T
with_on Up p x = record { up = x; down = p.down }
with_on Down p x = record { up = p.up; down = x }
