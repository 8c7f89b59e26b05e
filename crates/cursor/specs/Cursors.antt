-- What a call on a cursor answers, and where it leaves the cursor. Assumes nothing.
use Rattle.std.specs.Prelude.{◌≡◌, ℕ, ◌<◌, ◌≤◌, List, length, Ok, Err, Result}
use Rattle.format.specs.declared.fault.ReadFault.{ReadFault}
use Rattle.format.specs.declared.fault.Reason.TheVariants.{Value}
use Rattle.format.specs.Numbers.{fault}
use Rattle.cursor.specs.declared.Cursor.{Cursor}

-- the bytes that the cursor was lent
abbrev pub sheet_of : Cursor → List ℕ
sheet_of c = c.sheet.now

-- a cursor stands at the first byte of s, unless s is too long
abbrev pub Opens : List ℕ → Result Cursor ReadFault → Type 0
Opens s (Ok c) = (length s ≤ 65536) × (sheet_of c ≡ s) × (c.at ≡ 0)
Opens s (Err f) = (65536 < length s) × (f ≡ fault Value 65536)

-- a value is answered with the place after it; a fault keeps the place
abbrev pub Moved : {T E : Type 0} → Result (T × ℕ) E → ℕ → ℕ → Result T E → Type 0
Moved told p q (Ok x) = told ≡ Ok (x, q)
Moved told p q (Err f) = (told ≡ Err f) × (q ≡ p)

-- a value is answered with the place after it; a fault leaves the place open
abbrev pub Went : {T E : Type 0} → Result (T × ℕ) E → ℕ → Result T E → Type 0
Went told q (Ok x) = told ≡ Ok (x, q)
Went told q (Err f) = told ≡ Err f

-- the call answers r, as `reads` does at the cursor's place, and takes the cursor from c to d; a fault does not move it
pub record Moves {T E : Type 0} (reads : List ℕ → ℕ → Result (T × ℕ) E) (c d : Cursor) (r : Result T E) : Type 0 where
  pub sheet : sheet_of d ≡ sheet_of c
  pub answer : Moved (reads (sheet_of c) c.at) c.at d.at r

-- the same, but a fault may have moved it
pub record Goes {T E : Type 0} (reads : List ℕ → ℕ → Result (T × ℕ) E) (c d : Cursor) (r : Result T E) : Type 0 where
  pub sheet : sheet_of d ≡ sheet_of c
  pub answer : Went (reads (sheet_of c) c.at) d.at r
