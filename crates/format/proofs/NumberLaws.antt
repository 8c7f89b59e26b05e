-- What is answered at a number is what stands there. Assumes nothing.
use Rattle.std.proofs.Common.{◌≡◌, ℕ, suc, ◌+◌, ◌-◌, ◌*◌, ◌<◌, ◌≤◌, ◌⊎◌, List, [], ◌∷◌, ◌++◌, length, drop, Ok, Err, sym, refl, ap, ◌∙◌, inl, inr, ⊎_elim, arith}
use Rattle.std.proofs.lemmas.List.{drop_all, get_or-drop, length-append}
use Rattle.std.proofs.lemmas.Bool.Decides.{nat_tests}
use Rattle.std.proofs.lemmas.Bool.{cases_lt, cases_eq, lt-ltb, le-ltb, le-leb, lt-leb, eq-eqb, ne_eqb}
use Rattle.events.specs.Written.{written_number}
use Rattle.format.specs.declared.fault.Reason.TheVariants.{Ends, Form}
use Rattle.format.specs.Numbers.{Answer, Bytes, fault, first_byte, number_at, second_byte, third_byte}
use Rattle.format.specs.Sheets.{Begins, Cut, Malformed, Stands}
use Rattle.format.proofs.Standing.{begins_stands, stands_inside}

pub written_long : (n : ℕ) → 1 ≤ length (written_number n)
written_long n = grind (arith, nat_tests)

-- a sheet's bytes from p on, which may be none
pub from_first : (s : List ℕ) (p : ℕ) → p ≤ length s → number_at s p ≡ first_byte p (drop p s)
from_first s p h = grind (arith, nat_tests, drop_all)

-- What stands at a number is answered.

first_reads : (n p : ℕ) (rest : List ℕ) → n ≤ 65535 → first_byte p (written_number n ++ rest) ≡ Ok (n, p + length (written_number n))
first_reads n p rest h = grind (arith, nat_tests)

pub number_reads : (s : List ℕ) (p q n : ℕ) → n ≤ 65535 → Stands s p q (written_number n) → number_at s p ≡ Ok (n, q)
number_reads s p q n h a = rw (lt-ltb p (length s) (stands_inside a (written_long n)), a.bytes, a.after) (first_reads n p _ h)

cut_reads : (p : ℕ) (bs : List ℕ) → Cut bs → first_byte p bs ≡ Err (fault Ends p)
cut_reads p [] c = refl
cut_reads p (a ∷ []) c = let e = c.whole in grind (arith, nat_tests)
cut_reads p (a ∷ b ∷ []) c = let e = c.whole in grind (arith, nat_tests)
cut_reads p (a ∷ b ∷ d ∷ ds) c = let e = simp length-append at (ap length c.whole) in grind (arith, nat_tests)

pub cut_ends : (s : List ℕ) (p : ℕ) → p ≤ length s → Cut (drop p s) → number_at s p ≡ Err (fault Ends p)
cut_ends s p h c = from_first s p h ∙ cut_reads p (drop p s) c

malformed_reads : (p o : ℕ) (bs : List ℕ) → Malformed bs p o → first_byte p bs ≡ Err (fault Form o)
malformed_reads p o bs m =
    ⊎_elim
    (λ x. rw x.0 (⊎_elim (λ y. rw y.1) (λ y. let i = y.high_one in let j = y.high_two in let k = y.high_three in rw y.whole (grind (arith, nat_tests))) x.1))
    (λ x. let i = x.1.large in let j = x.1.three_bytes in rw (x.0, x.1.begins.whole) (grind (arith, nat_tests)))
    m

pub malformed_stops : (s : List ℕ) (p o : ℕ) → p ≤ length s → Malformed (drop p s) p o → number_at s p ≡ Err (fault Form o)
malformed_stops s p o h m = from_first s p h ∙ malformed_reads p o (drop p s) m

-- What is answered at a number stands there.

-- bs, which stands at p, is what the answer says
abbrev pub NumberTold : ℕ → List ℕ → Answer ℕ → Type 0
NumberTold p bs (Ok x) = Begins bs x.0 × (x.0 ≤ 65535) × (x.1 ≡ p + length (written_number x.0))
NumberTold p bs (Err f) = ((f ≡ fault Ends p) × Cut bs) ⊎ ((o : ℕ) × (f ≡ fault Form o) × Malformed bs p o)

module _ (a : ℕ) (h : 128 < a) (k : a < 256) where
  -- any byte above 128 begins a number of two bytes, and goes on so to one of three
  two_are : (b : ℕ) → b < 128 → written_number ((a - 128) * 128 + b) ≡ a ∷ b ∷ []
  two_are b l = grind (arith, nat_tests)

  cut_one : Cut (a ∷ [])
  cut_one = record { number = (a - 128) * 128 + 0; three_bytes = omega arith; next = 0; more = []; whole = sym (two_are 0 (omega arith)) }

  module _ (b : ℕ) (i : 128 ≤ b) (j : b < 256) where
    three_are : (c : ℕ) → c < 128 → written_number (((a - 128) * 128 + (b - 128)) * 128 + c) ≡ a ∷ b ∷ c ∷ []
    three_are c l = grind (arith, nat_tests)

    cut_two : Cut (a ∷ b ∷ [])
    cut_two = record {
      number = ((a - 128) * 128 + (b - 128)) * 128 + 0;
      three_bytes = omega arith;
      next = 0;
      more = [];
      whole = sym (three_are 0 (omega arith));
    }

    third_told : (p : ℕ) (cs : List ℕ) → NumberTold p (a ∷ b ∷ cs) (third_byte p ((a - 128) * 128 + (b - 128)) cs)
    third_told p [] = inl (refl, cut_two)
    third_told p (c ∷ cs) =
        let n : ℕ = ((a - 128) * 128 + (b - 128)) * 128 + c in
        ⊎_elim
        (λ l.
        let is : written_number n ≡ a ∷ b ∷ c ∷ [] = three_are c l in
        let begun : Begins (a ∷ b ∷ c ∷ cs) n = record { rest = cs; whole = rw is } in
        ⊎_elim
        (λ m. let small : n ≤ 65535 = omega arith in rw (lt-ltb c 128 l, le-leb n 65535 small) (begun, small, rw is))
        (λ m.
        let big : 65535 < n = omega arith in
        let three : n < 2097152 = omega arith in
        rw (lt-ltb c 128 l, lt-leb n 65535 big) (inr (p + 2, refl, inr (refl, record { number = n; begins = begun; large = big; three_bytes = three }))))
        (cases_lt n 65536))
        (λ l. rw (le-ltb c 128 l) (inr (p, refl, inl (refl, inr (record { one = a; two = b; three = c; rest = cs; whole = refl; high_one = h; high_two = i; high_three = l })))))
        (cases_lt c 128)

  second_told : (p : ℕ) (bs : List ℕ) → Bytes bs → NumberTold p (a ∷ bs) (second_byte p (a - 128) bs)
  second_told p [] B = inl (refl, cut_one)
  second_told p (b ∷ bs) B =
      ⊎_elim
      (λ l. let is = two_are b l in rw (lt-ltb b 128 l) (record { rest = bs; whole = rw is }, omega arith, rw is))
      (λ l. rw (le-ltb b 128 l) (third_told b l (B 0) p bs))
      (cases_lt b 128)

first_told : (p : ℕ) (bs : List ℕ) → Bytes bs → NumberTold p bs (first_byte p bs)
first_told p [] B = inl (refl, record { number = 0; three_bytes = omega arith; next = 0; more = []; whole = refl })
first_told p (a ∷ bs) B =
    ⊎_elim
    (λ l. let is : written_number a ≡ a ∷ [] = rw (lt-ltb a 128 l) in rw (lt-ltb a 128 l) (record { rest = bs; whole = rw is }, omega arith, rw is))
    (λ l.
    ⊎_elim
    (λ z. rw (le-ltb a 128 l, eq-eqb a 128 z) (inr (p, refl, inl (refl, inl (bs, rw z)))))
    (λ z. rw (le-ltb a 128 l, ne_eqb a 128 z) (second_told a (omega arith) (B 0) p bs (λ k. B (suc k))))
    (cases_eq a 128))
    (cases_lt a 128)

pub number_told : (s : List ℕ) (p : ℕ) (r : Answer ℕ) → Bytes s → p ≤ length s → number_at s p ≡ r → NumberTold p (drop p s) r
number_told s p r B h e = rw (← e, from_first s p h) (first_told p (drop p s) (λ k. rw get_or-drop (B (p + k))))

pub number_wrote : (s : List ℕ) (p q n : ℕ) → Bytes s → p ≤ length s → number_at s p ≡ Ok (n, q) → Stands s p q (written_number n) × (n ≤ 65535)
number_wrote s p q n B h e = let t = number_told s p (Ok (n, q)) B h e in (rw t.2 (begins_stands t.0), t.1)
