-- What stands in a list from one place up to another. Assumes nothing.
use Rattle.std.proofs.Common.{◌≡◌, ℕ, ◌+◌, ◌<◌, ◌≤◌, List, [], ◌++◌, length, drop, refl, ap, append_assoc, append-nil, arith}
use Rattle.std.proofs.lemmas.List.{length-append, length-drop, drop-drop}
use Rattle.std.proofs.Math.Seq.{drop-length, drop-append_seam}
use Rattle.events.specs.Written.{written_number}
use Rattle.format.specs.Sheets.{Begins, Stands}

pub stands_none : (s : List ℕ) (p : ℕ) → Stands s p p []
stands_none s p = record { after = omega arith; bytes = refl }

-- a whole list stands from its beginning to its end
pub stands_whole : (s xs : List ℕ) → s ≡ xs → Stands s 0 (length s) xs
stands_whole s xs e = record { after = omega (arith, ap length e); bytes = rw (drop-length, append-nil) e }

pub stands_join : {s : List ℕ} {p q r : ℕ} {xs ys : List ℕ} → Stands s p q xs → Stands s q r ys → Stands s p r (xs ++ ys)
stands_join a b = record { after = simp length-append (omega arith); bytes = rw (append_assoc, ← b.bytes) a.bytes }

-- what a list goes on with from p stands there
pub stands_first : (s : List ℕ) (p : ℕ) (xs ys : List ℕ) → drop p s ≡ xs ++ ys → (Stands s p (p + length xs) xs) × (drop (p + length xs) s ≡ ys)
stands_first s p xs ys e =
    let rest : drop (p + length xs) s ≡ ys = rw (← drop-drop (length xs) p s, e, drop-append_seam) in
    (record { after = refl; bytes = rw rest e }, rest)

-- where a number begins it stands, and where it stands it begins
pub begins_stands : {s : List ℕ} {p n : ℕ} → Begins (drop p s) n → Stands s p (p + length (written_number n)) (written_number n)
begins_stands {s} {p} b = (stands_first s p _ b.rest b.whole).0

pub stands_begins : {s : List ℕ} {p q n : ℕ} → Stands s p q (written_number n) → Begins (drop p s) n
stands_begins {s} {p} {q} t = record { rest = drop q s; whole = t.bytes }

module _ {s : List ℕ} {p r : ℕ} (xs ys : List ℕ) (a : Stands s p r (xs ++ ys)) where
  pub stands_front : Stands s p (p + length xs) xs
  stands_front = (stands_first s p xs _ (rw append_assoc at a.bytes)).0

  pub stands_back : Stands s (p + length xs) r ys
  stands_back = record {
    after = let e = simp length-append at a.after in omega arith;
    bytes = (stands_first s p xs _ (rw append_assoc at a.bytes)).1;
  }

-- where something stands, the list has not ended
pub stands_inside : {s : List ℕ} {p q : ℕ} {xs : List ℕ} → Stands s p q xs → 1 ≤ length xs → p < length s
stands_inside a h = let e = simp (length-append, length-drop) at (ap length a.bytes) in omega arith

-- what stands there ends within the list
pub stands_within : {s : List ℕ} {p q : ℕ} {xs : List ℕ} → p ≤ length s → Stands s p q xs → q ≤ length s
stands_within h a = let e = simp (length-append, length-drop) at (ap length a.bytes) in omega arith
