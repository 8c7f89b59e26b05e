-- What reading a number answers, byte by byte. Assumes nothing.
use Rattle.std.specs.Prelude.{ℕ, ◌+◌, ◌-◌, ◌*◌, ◌<◌, if◌then◌else◌, List, [], ◌∷◌, length, drop, Ok, Err, Result, ◌==◌, nat_le, nat_lt, slice_index}
use Rattle.format.specs.declared.fault.ReadFault.{ReadFault}
use Rattle.format.specs.declared.fault.Reason.{Reason}
use Rattle.format.specs.declared.fault.Reason.TheVariants.{Ends, Form}

abbrev pub fault : Reason → ℕ → ReadFault
fault r p = record { reason = r; offset = p }

-- what reading answers: the value with the place after it, or a fault
abbrev pub Answer : Type 0 → Type 0
Answer T = Result (T × ℕ) ReadFault

-- the number at p, whose bytes before have given h
abbrev pub third_byte : ℕ → ℕ → List ℕ → Answer ℕ
third_byte p h [] = Err (fault Ends p)
third_byte p h (c ∷ cs) =
    if nat_lt c 128 then (if nat_le (h * 128 + c) 65535 then Ok (h * 128 + c, p + 3) else Err (fault Form (p + 2)))
    else Err (fault Form p)

abbrev pub second_byte : ℕ → ℕ → List ℕ → Answer ℕ
second_byte p h [] = Err (fault Ends p)
second_byte p h (b ∷ bs) = if nat_lt b 128 then Ok (h * 128 + b, p + 2) else third_byte p (h * 128 + (b - 128)) bs

abbrev pub first_byte : ℕ → List ℕ → Answer ℕ
first_byte p [] = Err (fault Ends p)
first_byte p (a ∷ bs) =
    if nat_lt a 128 then Ok (a, p + 1) else if a == 128 then Err (fault Form p) else second_byte p (a - 128) bs

-- the number that begins at p; one that is missing altogether is told at the sheet's end
abbrev pub number_at : List ℕ → ℕ → Answer ℕ
number_at s p = if nat_lt p (length s) then first_byte p (drop p s) else Err (fault Ends (length s))

-- each element of s is a byte
abbrev pub Bytes : List ℕ → Type 0
Bytes s = (k : ℕ) → slice_index s k < 256
