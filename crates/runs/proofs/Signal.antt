-- The stop signal, told in full and told step by step: the two agree. Assumes nothing.
use Rattle.std.proofs.Common.{◌≡◌, Bool, true, false, cond, not, ◌&&◌, ◌||◌, Decides, refl, ◌∙◌, arith}
use Rattle.std.proofs.lemmas.Bool.{and_parts, and_from}
use Rattle.std.proofs.Math.Bool.{or-true}
use Rattle.runs.specs.Histories.{History, Step, ◌▸◌, followed_by, start}
use Rattle.runs.specs.Laws.{Place, ReversedUnderClear, clear_after, gives_train, passes, puts_back, reverses, spends, suspends, throughout}

-- the control put back, a train passed, the line suspended
abbrev pub puts_on : Place → Step → Bool
puts_on p x = puts_back p x || (passes p x || suspends p x)

-- a consent to a train stands unused
abbrev pub train_stands : Place → History → Bool
train_stands p start = false
train_stands p (h ▸ x) = gives_train p x h || (not (spends p x h) && train_stands p h)

-- the control was reversed under such a line clear, which is still unused, and nothing since has put the signal on
abbrev pub reversal_stands : Place → History → Bool
reversal_stands p start = false
reversal_stands p (h ▸ x) =
    not (spends p x h) && (cond (reverses p x) (train_stands p h) (not (puts_on p x) && reversal_stands p h) && clear_after p x)

joined_up : (a b c : History) → followed_by (followed_by a b) c ≡ followed_by a (followed_by b c)
joined_up a b start = refl
joined_up a b (c ▸ x) = rw (joined_up a b c) refl

-- where each of the later steps passes a test, the last does, and each before it
last_passes : (test : Step → History → Bool) (h later : History) (x : Step) → throughout test h (later ▸ x) ≡ true
    → (test x (followed_by h later) ≡ true) × (throughout test h later ≡ true)
last_passes test h later x k = and_parts (test x (followed_by h later)) (throughout test h later) k

still : (b : Bool) {s t a r z : Bool} → s ≡ true → t ≡ true → a ≡ true → r ≡ true → z ≡ true → (s && (cond b t (a && r) && z)) ≡ true
still b hs ht ha hr hz = grind arith

three : {s t z : Bool} → (s && (t && z)) ≡ true → (s ≡ true) × (t ≡ true) × (z ≡ true)
three h = grind arith

four : {s a r z : Bool} → (s && ((a && r) && z)) ≡ true → (s ≡ true) × (a ≡ true) × (r ≡ true) × (z ≡ true)
four h = grind arith

module _ (p : Place) where
  abbrev unspent : Step → History → Bool
  unspent x h = not (spends p x h)

  abbrev alone : Step → History → Bool
  alone x h = not (puts_on p x)

  abbrev clear : Step → History → Bool
  clear x h = clear_after p x

  -- back from the full telling

  train_back : (earlier : History) (c : Step) (later : History) → gives_train p c earlier ≡ true
      → throughout unspent (earlier ▸ c) later ≡ true → train_stands p (followed_by (earlier ▸ c) later) ≡ true
  train_back earlier c start g u = rw g refl
  train_back earlier c (later ▸ x) g u =
      let k = last_passes unspent (earlier ▸ c) later x u in
      rw (k.0, train_back earlier c later g k.1, or-true)

  back : (earlier : History) (c : Step) (between : History) (r : Step) (since : History)
      → gives_train p c earlier ≡ true
      → throughout unspent (earlier ▸ c) (followed_by (between ▸ r) since) ≡ true
      → reverses p r ≡ true
      → throughout alone (followed_by (earlier ▸ c) between ▸ r) since ≡ true
      → clear_after p r ≡ true
      → throughout clear (followed_by (earlier ▸ c) between ▸ r) since ≡ true
      → reversal_stands p (followed_by (followed_by (earlier ▸ c) between ▸ r) since) ≡ true
  back earlier c between r start g u v a z w =
      let k = last_passes unspent (earlier ▸ c) between r u in
      rw (k.0, v, train_back earlier c between g k.1, z) refl
  back earlier c between r (since ▸ x) g u v a z w =
      let rest = followed_by (between ▸ r) since in
      let whole = followed_by (earlier ▸ c) between ▸ r in
      let joined = joined_up (earlier ▸ c) (between ▸ r) since in
      let k = last_passes unspent (earlier ▸ c) rest x u in
      let q = last_passes alone whole since x a in
      let y = last_passes clear whole since x w in
      let stands = rw (← joined) at (train_back earlier c rest g k.1) in
      let left = rw (← joined) at k.0 in
      still (reverses p x) left stands q.0 (back earlier c between r since g k.1 v q.1 z y.1) y.0

  -- and forward to it

  record ConsentFound (t : History) : Type 0 where
    earlier : History
    consent : Step
    between : History
    whole : t ≡ followed_by (earlier ▸ consent) between
    consented : gives_train p consent earlier ≡ true
    still_unused : throughout unspent (earlier ▸ consent) between ≡ true

  found : (t : History) → train_stands p t ≡ true → ConsentFound t
  found start k = cc
  found (h ▸ x) k = go (gives_train p x h) refl (λ j. found h j)
    where
      go : (b : Bool) → gives_train p x h ≡ b → (train_stands p h ≡ true → ConsentFound h) → ConsentFound (h ▸ x)
      go true e before = record { earlier = h; consent = x; between = start; whole = refl; consented = e; still_unused = refl }
      go false e before =
          let parts : (unspent x h ≡ true) × (train_stands p h ≡ true) = and_parts (unspent x h) (train_stands p h) (rw e at k) in
          let f = before parts.1 in
          record {
            earlier = f.earlier;
            consent = f.consent;
            between = f.between ▸ x;
            whole = cc f.whole;
            consented = f.consented;
            still_unused = and_from _ _ (rw f.whole at parts.0) f.still_unused;
          }

  forward : (t : History) → reversal_stands p t ≡ true → ReversedUnderClear p t
  forward start k = cc
  forward (h ▸ x) k = go (reverses p x) refl (λ j. forward h j)
    where
      go : (b : Bool) → reverses p x ≡ b → (reversal_stands p h ≡ true → ReversedUnderClear p h) → ReversedUnderClear p (h ▸ x)
      go true e before =
          let parts : (unspent x h ≡ true) × (train_stands p h ≡ true) × (clear_after p x ≡ true) = three (rw e at k) in
          let f = found h parts.1 in
          record {
            earlier = f.earlier;
            consent = f.consent;
            between = f.between;
            reversal = x;
            since = start;
            whole = cc f.whole;
            consented = f.consented;
            still_unused = and_from _ _ (rw f.whole at parts.0) f.still_unused;
            reversed = e;
            left_alone = refl;
            clear_at_once = parts.2;
            clear_since = refl;
          }
      go false e before =
          let parts : (unspent x h ≡ true) × (alone x h ≡ true) × (reversal_stands p h ≡ true) × (clear_after p x ≡ true) = four (rw e at k) in
          let f = before parts.2 in
          let joined = joined_up (f.earlier ▸ f.consent) (f.between ▸ f.reversal) f.since in
          record {
            earlier = f.earlier;
            consent = f.consent;
            between = f.between;
            reversal = f.reversal;
            since = f.since ▸ x;
            whole = cc f.whole;
            consented = f.consented;
            still_unused = and_from _ _ (rw (f.whole ∙ joined) at parts.0) f.still_unused;
            reversed = f.reversed;
            left_alone = and_from _ _ parts.1 f.left_alone;
            clear_at_once = f.clear_at_once;
            clear_since = and_from _ _ parts.3 f.clear_since;
          }

  pub tellings_agree : (t : History) → Decides (reversal_stands p t) (ReversedUnderClear p t)
  tellings_agree t = (
    forward t,
    λ f. rw f.whole
        (back f.earlier f.consent f.between f.reversal f.since f.consented f.still_unused f.reversed f.left_alone f.clear_at_once f.clear_since),
  )
