-- The two lines of a section. Assumes nothing.
use Rattle.events.specs.declared.field.Direction.{Direction}
use Rattle.events.specs.declared.field.Direction.TheVariants.{Up, Down}

abbrev pub other_direction : Direction → Direction
other_direction Up = Down
other_direction Down = Up
