-- What is answered at a layout is what stands there, proved once for every layout. Assumes nothing.
use Rattle.std.proofs.Common.{◌≡◌, ℕ, ◌≤◌, ◌⊎◌, List, [], ◌∷◌, ◌++◌, length, Some, None, Ok, Err, Option, refl, subst, inl, inr, ⊎_elim, append_assoc, append-nil, arith}
use Rattle.std.specs.List.{flat_map}
use Rattle.events.specs.Fields.{Field}
use Rattle.events.specs.Written.{written_number}
use Rattle.format.specs.declared.fault.ReadFault.{ReadFault}
use Rattle.format.specs.declared.fault.Reason.TheVariants.{Value}
use Rattle.format.specs.Layouts.{Layout, done, field, and_then, field_at, layout_at, valued}
use Rattle.format.specs.Numbers.{Answer, Bytes, fault, number_at}
use Rattle.format.specs.Sheets.{Stands}
use Rattle.format.proofs.NumberLaws.{number_reads, number_wrote}
use Rattle.format.proofs.Standing.{stands_none, stands_join, stands_front, stands_back, stands_within}

-- The ways through a layout.

-- n stands for the value x of f
pub record Means {A : Type 0} (f : Field A) (n : ℕ) (x : A) : Type 0 where
  pub value : f.value n ≡ Some x
  pub fits : n ≤ 65535

-- the numbers ns make x
abbrev pub Makes : {T : Type 0} → Layout T → List ℕ → T → Type 0
Makes (done y) [] x = y ≡ x
Makes (done y) (n ∷ ns) x = ⊥
Makes (field f k) [] x = ⊥
Makes (field {A} f k) (n ∷ ns) x = (a : A) × Means f n a × Makes (k a) ns x

-- after the numbers ns one more is wanted
abbrev pub Wants : {T : Type 0} → Layout T → List ℕ → Type 0
Wants (done y) ns = ⊥
Wants (field f k) [] = Unit {0}
Wants (field {A} f k) (n ∷ ns) = (a : A) × Means f n a × Wants (k a) ns

-- after the numbers ns a number m is wanted that stands for no value
abbrev pub Bars : {T : Type 0} → Layout T → List ℕ → ℕ → Type 0
Bars (done y) ns m = ⊥
Bars (field f k) [] m = f.value m ≡ None
Bars (field {A} f k) (n ∷ ns) m = (a : A) × Means f n a × Bars (k a) ns m

pub makes_wants : {T : Type 0} (l : Layout T) (ns : List ℕ) (n : ℕ) (more : List ℕ) (x : T) → Makes l (ns ++ n ∷ more) x → Wants l ns
makes_wants (done y) [] n more x m = absurd m
makes_wants (done y) (i ∷ ns) n more x m = absurd m
makes_wants (field f k) [] n more x m = tt
makes_wants (field f k) (i ∷ ns) n more x m = (m.0, m.1, makes_wants (k m.0) ns n more x m.2)

-- no way goes on with a number that stands for no value
pub bars_makes : {T : Type 0} (l : Layout T) (ns : List ℕ) (n : ℕ) (more : List ℕ) (x : T) → Bars l ns n → Makes l (ns ++ n ∷ more) x → ⊥
bars_makes (done y) ns n more x b m = b
bars_makes (field f k) [] n more x b m = cc (m.1.value, b)
bars_makes {T} (field f k) (i ∷ ns) n more x b m =
    let same : m.0 ≡ b.0 = cc (m.1.value, b.1.value) in
    bars_makes (k b.0) ns n more x b.2 (subst (λ a. Makes (k a) (ns ++ n ∷ more) x) same m.2)

-- each field of a layout has a value, so that every beginning can be completed
abbrev pub Filled : {T : Type 0} → Layout T → Type 0
Filled (done y) = Unit {0}
Filled (field {A} f k) = ((n : ℕ) × (a : A) × Means f n a) × ((n : ℕ) (a : A) → Means f n a → Filled (k a))

pub completed : {T : Type 0} (l : Layout T) → Filled l → (ns : List ℕ) × (x : T) × Makes l ns x
completed (done y) g = ([], y, refl)
completed (field f k) g =
    let rest = completed (k g.0.1) (g.1 _ _ g.0.2) in
    (g.0.0 ∷ rest.0, rest.1, (g.0.1, g.0.2, rest.2))

pub wants_makes : {T : Type 0} (l : Layout T) → Filled l → (ns : List ℕ) → Wants l ns → (n : ℕ) × (more : List ℕ) × (x : T) × Makes l (ns ++ n ∷ more) x
wants_makes (done y) g ns w = absurd w
wants_makes (field f k) g [] w =
    let rest = completed (k g.0.1) (g.1 _ _ g.0.2) in
    (g.0.0, rest.0, rest.1, (g.0.1, g.0.2, rest.2))
wants_makes (field f k) g (i ∷ ns) w =
    let rest = wants_makes (k w.0) (g.1 _ _ w.1) ns w.2 in
    (rest.0, rest.1, rest.2, (w.0, w.1, rest.3))

-- a number that is wanted stands for a value, and some way goes on with it, or for none
valued_or_not : {A : Type 0} (f : Field A) (n : ℕ) → ((a : A) × (f.value n ≡ Some a)) ⊎ (f.value n ≡ None)
valued_or_not {A} f n = elim (f.value n) as (λ o. ((a : A) × (o ≡ Some a)) ⊎ (o ≡ None)) [ Some a ↦ inl (a, refl) | None ↦ inr refl ]

pub wanted_number :
    {T : Type 0} (l : Layout T) → Filled l → (ns : List ℕ) (n : ℕ) → n ≤ 65535 → Wants l ns
    → Bars l ns n ⊎ ((more : List ℕ) × (x : T) × Makes l (ns ++ n ∷ more) x)
wanted_number (done y) g ns n h w = absurd w
wanted_number (field f k) g [] n h w =
    ⊎_elim
    (λ v.
    let m : Means f n v.0 = record { value = v.1; fits = h } in
    let rest = completed (k v.0) (g.1 _ _ m) in
    inr (rest.0, rest.1, (v.0, m, rest.2)))
    inl
    (valued_or_not f n)
wanted_number (field f k) g (i ∷ ns) n h w =
    ⊎_elim
    (λ b. inl (w.0, w.1, b))
    (λ m. inr (m.0, m.1, (w.0, w.1, m.2)))
    (wanted_number (k w.0) (g.1 _ _ w.1) ns n h w.2)

-- The numbers of what a layout makes.

-- a field whose values have one number each, and that has a value
pub record Sound {A : Type 0} (f : Field A) : Type 0 where
  pub back : (n : ℕ) (a : A) → Means f n a → n ≡ f.number a
  pub number : ℕ
  pub one : A
  pub means : Means f number one

-- what the layout makes after the numbers ns has these numbers, and is good
abbrev pub Writes : {T : Type 0} → (T → List ℕ) → (T → Type 0) → Layout T → List ℕ → Type 0
Writes numbers good (done x) ns = (numbers x ≡ ns) × good x
Writes numbers good (field {A} f k) ns = Sound f × ((n : ℕ) (a : A) → Means f n a → Writes numbers good (k a) (ns ++ f.number a ∷ []))

module _ {T : Type 0} (numbers : T → List ℕ) (good : T → Type 0) where
  pub makes_written : (l : Layout T) (front ns : List ℕ) (x : T) → Writes numbers good l front → Makes l ns x → (numbers x ≡ front ++ ns) × good x
  makes_written (done y) front [] x w m = rw (← m, append-nil) w
  makes_written (done y) front (n ∷ ns) x w m = absurd m
  makes_written (field f k) front [] x w m = absurd m
  makes_written (field f k) front (n ∷ ns) x w m =
      rw (append_assoc, ← w.0.back n m.0 m.1) at (makes_written (k m.0) (front ++ f.number m.0 ∷ []) ns x (w.1 _ _ m.1) m.2)

  pub written_filled : (l : Layout T) (front : List ℕ) → Writes numbers good l front → Filled l
  written_filled (done y) front w = tt
  written_filled (field f k) front w =
      ((w.0.number, w.0.one, w.0.means), λ n a m. written_filled (k a) (front ++ f.number a ∷ []) (w.1 n a m))

-- What stands at a layout is answered.

field_reads : {A : Type 0} (f : Field A) (s : List ℕ) (p q n : ℕ) (a : A) → Means f n a → Stands s p q (written_number n) → field_at f s p ≡ Ok (a, q)
unfolding field_at
field_reads f s p q n a m t = rw (number_reads s p q n m.fits t, m.value)

pub layout_reads :
    {T : Type 0} (l : Layout T) (s : List ℕ) (p q : ℕ) (ns : List ℕ) (x : T)
    → Makes l ns x → Stands s p q (flat_map written_number ns) → layout_at l s p ≡ Ok (x, q)
layout_reads (done y) s p q [] x m t = let same : q ≡ p = omega arith in cc
layout_reads (done y) s p q (n ∷ ns) x m t = absurd m
layout_reads (field f k) s p q [] x m t = absurd m
layout_reads (field f k) s p q (n ∷ ns) x m t =
    rw (field_reads f s p _ n m.0 m.1 (stands_front _ _ t))
    (layout_reads (k m.0) s _ q ns x m.2 (stands_back _ _ t))

-- a fault at a number that is wanted is the layout's
pub wants_fault :
    {T : Type 0} (l : Layout T) (s : List ℕ) (p q : ℕ) (ns : List ℕ) (g : ReadFault)
    → Wants l ns → Stands s p q (flat_map written_number ns) → number_at s q ≡ Err g → layout_at l s p ≡ Err g
unfolding field_at
wants_fault (done y) s p q ns g w t e = absurd w
wants_fault (field f k) s p q [] g w t e = let same : p ≡ q = omega arith in rw (same, e)
wants_fault (field f k) s p q (n ∷ ns) g w t e =
    rw (field_reads f s p _ n w.0 w.1 (stands_front _ _ t))
    (wants_fault (k w.0) s _ q ns g w.2 (stands_back _ _ t) e)

-- so is a number that stands for no value
pub bars_fault :
    {T : Type 0} (l : Layout T) (s : List ℕ) (p q r : ℕ) (ns : List ℕ) (n : ℕ)
    → Bars l ns n → Stands s p q (flat_map written_number ns) → number_at s q ≡ Ok (n, r) → layout_at l s p ≡ Err (fault Value q)
unfolding field_at
bars_fault (done y) s p q r ns n b t e = absurd b
bars_fault (field f k) s p q r [] n b t e = let same : p ≡ q = omega arith in rw (same, e, b)
bars_fault (field f k) s p q r (m ∷ ns) n b t e =
    rw (field_reads f s p _ m b.0 b.1 (stands_front _ _ t))
    (bars_fault (k b.0) s _ q r ns n b.2 (stands_back _ _ t) e)

-- What is answered at a layout stands there.

-- s, read from p, makes x with numbers that end at q, or stops after some with the fault g
pub record Made {T : Type 0} (l : Layout T) (s : List ℕ) (p q : ℕ) (x : T) : Type 0 where
  pub numbers : List ℕ
  pub makes : Makes l numbers x
  pub stands : Stands s p q (flat_map written_number numbers)

pub record Stopped {T : Type 0} (l : Layout T) (s : List ℕ) (p : ℕ) (g : ReadFault) : Type 0 where
  pub numbers : List ℕ
  pub place : ℕ
  pub stands : Stands s p place (flat_map written_number numbers)
  pub wants : Wants l numbers
  pub cause : (number_at s place ≡ Err g) ⊎ ((n : ℕ) × (r : ℕ) × (number_at s place ≡ Ok (n, r)) × (g ≡ fault Value place) × Bars l numbers n)

abbrev pub Answered : {T : Type 0} → Layout T → List ℕ → ℕ → Answer T → Type 0
Answered l s p (Ok x) = Made l s p x.1 x.0
Answered l s p (Err g) = Stopped l s p g

module _ {T A : Type 0} (f : Field A) (k : A → Layout T) (s : List ℕ) (p : ℕ) (B : Bytes s) (h : p ≤ length s) where
  after_field :
      (n q : ℕ) (a : A) → Means f n a → Stands s p q (written_number n)
      → (r : Answer T) → Answered (k a) s q r → Answered (field f k) s p r
  after_field n q a m t (Ok x) d = record { numbers = n ∷ d.numbers; makes = (a, m, d.makes); stands = stands_join t d.stands }
  after_field n q a m t (Err g) d = record {
    numbers = n ∷ d.numbers;
    place = d.place;
    stands = stands_join t d.stands;
    wants = (a, m, d.wants);
    cause = ⊎_elim inl (λ c. inr (c.0, c.1, c.2, c.3, (a, m, c.4))) d.cause;
  }

  valued_answer :
      (n q : ℕ) → number_at s p ≡ Ok (n, q) → ((a : A) → Answered (k a) s q (layout_at (k a) s q))
      → (o : Option A) → f.value n ≡ o → Answered (field f k) s p (and_then (valued p q o) (λ x q. layout_at (k x) s q))
  valued_answer n q e rest None v = record { numbers = []; place = p; stands = stands_none s p; wants = tt; cause = inr (n, q, e, refl, v) }
  valued_answer n q e rest (Some a) v =
      let w = number_wrote s p q n B h e in
      after_field n q a (record { value = v; fits = w.1 }) w.0 (layout_at (k a) s q) (rest a)

  number_answer :
      ((q : ℕ) → q ≤ length s → (a : A) → Answered (k a) s q (layout_at (k a) s q))
      → (o : Answer ℕ) → number_at s p ≡ o
      → Answered (field f k) s p (and_then (and_then o (λ n q. valued p q (f.value n))) (λ x q. layout_at (k x) s q))
  number_answer rest (Ok x) e =
      valued_answer x.0 x.1 e (rest x.1 (stands_within h (number_wrote s p x.1 x.0 B h e).0)) (f.value x.0) refl
  number_answer rest (Err g) e = record { numbers = []; place = p; stands = stands_none s p; wants = tt; cause = inl e }

pub layout_told : {T : Type 0} (l : Layout T) (s : List ℕ) (p : ℕ) → Bytes s → p ≤ length s → Answered l s p (layout_at l s p)
unfolding field_at
layout_told (done y) s p B h = record { numbers = []; makes = refl; stands = stands_none s p }
layout_told (field f k) s p B h = number_answer f k s p B h (λ q i a. layout_told (k a) s q B i) (number_at s p) refl
