-- The number and the offset of each fault. Assumes nothing.
use Rattle.std.specs.Prelude.{ℕ, Some, None, Option}
use Rattle.format.specs.declared.fault.Reason.{Reason}
use Rattle.format.specs.declared.fault.Reason.TheVariants.{Ends, Form, Value}
use Rattle.format.specs.declared.fault.RunFault.{RunFault}
use Rattle.format.specs.declared.fault.RunFault.TheVariants.{Read, Sections, Memory}
use Rattle.format.specs.declared.fault.Stop.{Stop}

abbrev pub reason_number : Reason → ℕ
reason_number Ends = 1
reason_number Form = 2
reason_number Value = 3

-- a section count outside 1 to 8 is told at the sheet's first byte; want of memory is no fault of the sheet
abbrev pub stop_of : RunFault → Option Stop
stop_of (Read f) = Some (record { number = reason_number f.reason; offset = f.offset })
stop_of Sections = Some (record { number = 4; offset = 0 })
stop_of Memory = None
