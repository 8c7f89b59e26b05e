-- What reading the section count answers, which a sheet begins with. Assumes nothing.
use Rattle.std.specs.Prelude.{ℕ, if◌then◌else◌, ◌&&◌, List, length, Ok, Err, Result, nat_le}
use Rattle.format.specs.declared.fault.Reason.TheVariants.{Value}
use Rattle.format.specs.declared.fault.RunFault.{RunFault}
use Rattle.format.specs.declared.fault.RunFault.TheVariants.{Read, Sections}
use Rattle.format.specs.Numbers.{Answer, fault, number_at}

-- a section count is 1 to 8
abbrev pub counted : Answer ℕ → Result (ℕ × ℕ) RunFault
counted (Ok x) = if nat_le 1 x.0 && nat_le x.0 8 then Ok x else Err Sections
counted (Err f) = Err (Read f)

-- the section count at p, with the place after it
abbrev pub count_at : List ℕ → ℕ → Result (ℕ × ℕ) RunFault
count_at s p = counted (number_at s p)

-- what a sheet begins with; that it is too long is told first
abbrev pub opening : List ℕ → Result (ℕ × ℕ) RunFault
opening s = if nat_le (length s) 65536 then count_at s 0 else Err (Read (fault Value 65536))
