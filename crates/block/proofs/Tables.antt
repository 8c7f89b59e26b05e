-- Places in a table of sections over a row of detectors. Assumes nothing.
use Rattle.std.proofs.Common.{◌≡◌, ℕ, zero, suc, ◌+◌, ◌*◌, ◌<◌, ◌≢◌, List, [], ◌∷◌, length, get_or, drop, set, replicate, sym, refl, ap, ◌∙◌, subst, add-one, arith, true, ltb, cond, Some, None, Option, IsSome}
use Rattle.std.proofs.lemmas.Bool.{lt-ltb}
use Rattle.std.proofs.lemmas.Option.{same_Some}
use Rattle.std.proofs.lemmas.List.Elements.{All-cons, All-head, All-nil, All-tail}
use Rattle.std.specs.List.{All}
use Rattle.std.proofs.lemmas.List.{get_or-drop, get_or-set_other, set-get_or}
use Rattle.bank.specs.Places.{no_detector, read_at}
use Rattle.block.specs.Tables.{Consistent, states, with_detectors, with_section}
use Rattle.detector.specs.Meaning.{Meaning, fresh, reading_of}
use Rattle.detector.specs.declared.Action.{Action}
use Rattle.detector.specs.declared.Reading.{Reading}
use Rattle.runs.specs.Benches.{BenchState, no_section, section_at}
use Rattle.section.specs.States.{SectionState, told}
use Rattle.section.specs.declared.per_line.PerLine.{PerLine}
use Rattle.section.specs.declared.section.Section.{Section}

abbrev pub state : Section → Meaning → Meaning → SectionState
state s u d = record { section = s; up = u; down = d }

abbrev twice : ℕ → ℕ
twice zero = zero
twice (suc n) = suc (suc (twice n))

twice_is : (n : ℕ) → twice n ≡ 2 * n
twice_is zero = refl
twice_is (suc n) = omega (arith, twice_is n)

pub length_states : (ss : List Section) (ms : List Meaning) → length (states ss ms) ≡ length ss
length_states [] ms = refl
length_states (s ∷ ss) ms = ap suc (length_states ss (drop 2 ms))

pub all_states : (ss : List Section) (ms : List Meaning) → All Consistent ss → All (λ v. Consistent v.section) (states ss ms)
all_states [] ms kept = All-nil (λ v. Consistent v.section)
all_states (s ∷ ss) ms kept =
    All-cons (λ v. Consistent v.section) _ _ (All-head Consistent s ss kept) (all_states ss (drop 2 ms) (All-tail Consistent s ss kept))

at_twice : (ss : List Section) (ms : List Meaning) (i : ℕ) (d : SectionState) (e : Section) → i < length ss → get_or (states ss ms) i d ≡ state (get_or ss i e) (get_or ms (twice i) no_detector) (get_or ms (suc (twice i)) no_detector)
at_twice [] ms i d e h = absurd (omega arith)
at_twice (s ∷ ss) ms zero d e h = refl
at_twice (s ∷ ss) [] (suc i) d e h = at_twice ss [] i d e (omega arith)
at_twice (s ∷ ss) (m ∷ []) (suc i) d e h = at_twice ss [] i d e (omega arith)
at_twice (s ∷ ss) (m ∷ n ∷ ms) (suc i) d e h = at_twice ss ms i d e (omega arith)

set_twice : (ss : List Section) (ms : List Meaning) (i : ℕ) (s : Section) (u d : Meaning) → i < length ss → suc (twice i) < length ms → states (set ss i s) (set (set ms (twice i) u) (suc (twice i)) d) ≡ set (states ss ms) i (state s u d)
set_twice [] ms i s u d h j = absurd (omega arith)
set_twice (t ∷ ss) [] i s u d h j = absurd (omega arith)
set_twice (t ∷ ss) (m ∷ []) i s u d h j = absurd (omega arith)
set_twice (t ∷ ss) (m ∷ n ∷ ms) zero s u d h j = refl
set_twice (t ∷ ss) (m ∷ n ∷ ms) (suc i) s u d h j = ap (λ l. state t m n ∷ l) (set_twice ss ms i s u d (omega arith) (omega arith))

-- the section i has the detectors 2 i and 2 i + 1
pub state_at : (ss : List Section) (ms : List Meaning) (i : ℕ) (d : SectionState) (e : Section) → i < length ss → get_or (states ss ms) i d ≡ state (get_or ss i e) (get_or ms (2 * i) no_detector) (get_or ms (2 * i + 1) no_detector)
state_at ss ms i d e h = rw (← twice_is i, add-one (twice i)) (at_twice ss ms i d e h)

pub set_state : (ss : List Section) (ms : List Meaning) (i : ℕ) (s : Section) (u d : Meaning) → i < length ss → 2 * i + 1 < length ms → states (set ss i s) (set (set ms (2 * i) u) (2 * i + 1) d) ≡ set (states ss ms) i (state s u d)
set_state ss ms i s u d h j = rw (← twice_is i, add-one (twice i)) (set_twice ss ms i s u d h (omega (arith, twice_is i)))

all_fresh : (n : ℕ) (s : Section) (ms : List Meaning) → ((k : ℕ) → get_or ms k no_detector ≡ fresh) → states (replicate n s) ms ≡ replicate n (state s fresh fresh)
all_fresh zero s ms each = refl
all_fresh (suc n) s ms each =
    let here : state s (get_or ms 0 no_detector) (get_or ms 1 no_detector) ≡ state s fresh fresh = cc (each 0, each 1) in
    let rest = all_fresh n s (drop 2 ms) (λ k. get_or-drop 2 ms k no_detector ∙ each (2 + k)) in
    cc

fresh_detectors : (n k : ℕ) → get_or (replicate n fresh) k no_detector ≡ fresh
fresh_detectors zero k = refl
fresh_detectors (suc n) zero = refl
fresh_detectors (suc n) (suc k) = fresh_detectors n k

-- sections alike over fresh detectors
pub states_fresh : (n m : ℕ) (s : Section) → states (replicate n s) (replicate m fresh) ≡ replicate n (state s fresh fresh)
states_fresh n m s = all_fresh n s (replicate m fresh) (fresh_detectors m)

-- a reading that was there is that of the detector
read_within : (ms : List Meaning) (k n : ℕ) (o : Option Reading) (u : Reading) → n ≡ k → k < length ms → o ≡ read_at n ms → o ≡ Some u → u ≡ reading_of (get_or ms k no_detector)
read_within ms k n o u e room read some =
    let here : ltb k (length ms) ≡ true = lt-ltb k (length ms) room in
    same_Some u (reading_of (get_or ms k no_detector)) (sym some ∙ read ∙ ap (λ x. read_at x ms) e ∙ ap (λ w. cond w (Some (reading_of (get_or ms k no_detector))) None) here)

-- a detector that the row has is read
pub is_read : (ms : List Meaning) (n k : ℕ) (o : Option Reading) → n ≡ k → k < length ms → o ≡ read_at n ms → IsSome o
is_read ms n k o e room read =
    let here : ltb k (length ms) ≡ true = lt-ltb k (length ms) room in
    subst IsSome (sym (read ∙ ap (λ x. read_at x ms) e ∙ ap (λ w. cond w (Some (reading_of (get_or ms k no_detector))) None) here)) refl

-- a bench that such a table stands for, at one of its sections
module _ (ss : List Section) (ms : List Meaning) (b : BenchState) (stands : states ss ms ≡ b) (i : ℕ) (within : i < length b) where
  pub there : i < length ss
  there = omega (arith, length_states ss ms, ap length stands)

  abbrev here : SectionState
  here = section_at i b

  abbrev up : Meaning
  up = get_or ms (2 * i) no_detector

  abbrev down : Meaning
  down = get_or ms (2 * i + 1) no_detector

  pub stands_at : (s : Section) → here ≡ state (get_or ss i s) up down
  stands_at s = ap (section_at i) (sym stands) ∙ state_at ss ms i no_section s there

  pub record_at : (s : Section) → s ≡ get_or ss i s → s ≡ here.section
  record_at s found = found ∙ ap (λ (v : SectionState). v.section) (sym (stands_at s))

  pub up_at : (x : ℕ) (o : Option Reading) (u : Reading) → x ≡ 2 * i → 2 * i + 1 < length ms → o ≡ read_at x ms → o ≡ Some u → u ≡ reading_of here.up
  up_at x o u e room first some = read_within ms (2 * i) x o u e (omega arith) first some ∙ ap (λ (v : SectionState). reading_of v.up) (sym (stands_at here.section))

  pub down_at : (x : ℕ) (o : Option Reading) (d : Reading) → x ≡ 2 * i + 1 → 2 * i + 1 < length ms → o ≡ read_at x ms → o ≡ Some d → d ≡ reading_of here.down
  down_at x o d e room first some = read_within ms (2 * i + 1) x o d e room first some ∙ ap (λ (v : SectionState). reading_of v.down) (sym (stands_at here.section))

  pub put_at : (s : Section) → 2 * i + 1 < length ms → states (set ss i s) ms ≡ set b i (with_section s here)
  put_at s room =
      let as_they_were : set (set ms (2 * i) up) (2 * i + 1) down ≡ ms = ap (λ l. set l (2 * i + 1) down) (set-get_or ms (2 * i) no_detector) ∙ set-get_or ms (2 * i + 1) no_detector in
      ap (states (set ss i s)) (sym as_they_were) ∙ set_state ss ms i s up down there room ∙ ap (λ l. set l i (state s up down)) stands ∙ ap (λ v. set b i (with_section s v)) (sym (stands_at s))

  pub told_at :
      (n : PerLine ℕ) (o p : Option Action) (ms' ms'' : List Meaning) → n ≡ record { up = 2 * i; down = 2 * i + 1 } → 2 * i + 1 < length ms
      → ms' ≡ set ms n.up (told o (get_or ms n.up no_detector)) → ms'' ≡ set ms' n.down (told p (get_or ms' n.down no_detector))
      → states ss ms'' ≡ set b i (with_detectors (told o here.up) (told p here.down) here)
  told_at n o p ms' ms'' e room first second =
      let s = here.section in
      let u = told o up in
      let d = told p down in
      let apart : 2 * i + 1 ≢ 2 * i = omega arith in
      let one : ms' ≡ set ms (2 * i) u = first ∙ ap (λ k. set ms k (told o (get_or ms k no_detector))) (ap (λ (q : PerLine ℕ). q.up) e) in
      let row : ms'' ≡ set (set ms (2 * i) u) (2 * i + 1) d =
      second ∙ ap (λ k. set ms' k (told p (get_or ms' k no_detector))) (ap (λ (q : PerLine ℕ). q.down) e) ∙ ap (λ l. set l (2 * i + 1) (told p (get_or l (2 * i + 1) no_detector))) one
      ∙ ap (λ m. set (set ms (2 * i) u) (2 * i + 1) (told p m)) (get_or-set_other ms (2 * i) (2 * i + 1) u no_detector apart) in
      let kept : set ss i (get_or ss i s) ≡ ss = set-get_or ss i s in
      ap (λ l. states l ms'') (sym kept) ∙ ap (states (set ss i (get_or ss i s))) row ∙ set_state ss ms i (get_or ss i s) u d there room
      ∙ ap (λ l. set l i (state (get_or ss i s) u d)) stands ∙ ap (λ (v : SectionState). set b i (with_detectors (told o v.up) (told p v.down) v)) (sym (stands_at s))
