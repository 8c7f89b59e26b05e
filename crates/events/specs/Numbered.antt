-- What reading a number as a value of a field gives. Assumes nothing.
use Rattle.std.specs.Prelude.{ℕ, Some, None, Ok, Err, Option, Result}
use Rattle.events.specs.Fields.{Field}
use Rattle.events.specs.declared.numbered.NoSuchValue.{NoSuchValue}

-- the value, or else the number, which stands for none
abbrev pub value_or : {T : Type 0} → ℕ → Option T → Result T NoSuchValue
value_or n (Some x) = Ok x
value_or n None = Err (record { 0 = n })

abbrev pub read : {T : Type 0} → Field T → ℕ → Result T NoSuchValue
read f n = value_or n (f.value n)
