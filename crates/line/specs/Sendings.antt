-- A code with the end of the line that sends it. Assumes nothing.
use Rattle.events.specs.declared.field.Code.{Code}
use Rattle.events.specs.declared.field.Direction.{Direction}
use Rattle.events.specs.declared.field.Station.{Station}
use Rattle.line.specs.Codes.{role_of}
use Rattle.line.specs.declared.sending.Sending.{Sending}

abbrev pub sending_by : Station → Direction → Code → Sending
sending_by a l c = record { code = c; role = role_of l a }
