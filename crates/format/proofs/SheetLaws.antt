-- A sheet is told in one way, and each answer is what its bytes are. Assumes nothing.
use Rattle.std.proofs.Common.{◌≡◌, ℕ, ◌+◌, ◌<◌, ◌≤◌, ◌⊎◌, ◌&&◌, leb, List, [], ◌∷◌, length, drop, Some, None, Ok, Err, Option, Result, refl, ◌∙◌, inl, inr, ⊎_elim, append-nil, arith}
use Rattle.std.proofs.lemmas.List.{length-append, length-drop, drop_all}
use Rattle.std.proofs.lemmas.Bool.{cases_Bool, cases_lt, le-leb, lt-leb}
use Rattle.std.proofs.lemmas.Bool.Decides.{nat_tests}
use Rattle.std.specs.List.{flat_map, AllByRecursion}
use Rattle.events.specs.declared.event.SectionEvent.{SectionEvent}
use Rattle.events.specs.Written.{kind_of, written_event, written_number, written_sheet, Proper}
use Rattle.events.specs.Fields.{kind_number}
use Rattle.format.specs.declared.fault.ReadFault.{ReadFault}
use Rattle.format.specs.declared.fault.Reason.{Reason}
use Rattle.format.specs.declared.fault.Reason.TheVariants.{Ends, Form, Value}
use Rattle.format.specs.declared.fault.RunFault.{RunFault}
use Rattle.format.specs.declared.fault.RunFault.TheVariants.{Read, Sections, Memory}
use Rattle.format.specs.Layouts.{event_at}
use Rattle.format.specs.Numbers.{Answer, Bytes, fault, number_at}
use Rattle.format.specs.Openings.{counted, opening}
use Rattle.format.specs.Sheets.{Begins, GoesOn, Malformed, Nothing, Outcome, ReadUpTo, SectionCount, Sheet, Stands, StopsFor, Tells, Wanted}
use Rattle.format.proofs.EventLaws.{bars_stuck, event_reads, event_told, number_stops, value_stops, wants_begun}
use Rattle.format.proofs.NumberLaws.{cut_ends, malformed_stops, number_reads, number_told, number_wrote, written_long}
use Rattle.format.proofs.Standing.{begins_stands, stands_begins, stands_front, stands_back, stands_inside, stands_join, stands_whole, stands_within}

-- The section count.

-- what is answered at the section count stands there
abbrev pub Opened : List ℕ → Result (ℕ × ℕ) RunFault → Type 0
Opened s (Ok x) = (length s ≤ 65536) × SectionCount x.0 × Stands s 0 x.1 (written_number x.0)
Opened s (Err f) = Tells s (Err f) None []

wanted_within : (s : List ℕ) (o : ℕ) (c : Option ℕ) (es : List SectionEvent) (ns : List ℕ) → Wanted s o c es ns → o ≤ length s
wanted_within s o None es ns w = omega arith
wanted_within s o (Some n) es ns w = stands_within (omega arith) w.stands

-- a fault at a number that is wanted is told where that stands
number_tells :
    (s : List ℕ) (c : Option ℕ) (es : List SectionEvent) (ns : List ℕ) (o : ℕ) (f : ReadFault)
    → Bytes s → length s ≤ 65536 → Wanted s o c es ns → (c ≡ None) ⊎ (0 < length ns + length (drop o s)) → number_at s o ≡ Err f
    → StopsFor f.reason s f.offset c es
number_tells s c es ns o f B h u i e =
    ⊎_elim
    (λ t. rw t.0 (record { short = h; numbers = ns; wanted = u; cut = t.1; inside = i }))
    (λ t. rw t.1 (record { short = h; numbers = ns; place = o; wanted = u; malformed = t.2 }))
    (number_told s o (Err f) B (wanted_within s o c es ns u) e)

count_or_not : (n q : ℕ) → (SectionCount n × (counted (Ok (n, q)) ≡ Ok (n, q))) ⊎ ((SectionCount n → ⊥) × (counted (Ok (n, q)) ≡ Err Sections))
count_or_not n q =
    ⊎_elim
    (λ t. inl (record { some = grind (arith, nat_tests); few = grind (arith, nat_tests) }, rw t))
    (λ t. inr (λ c. grind (arith, nat_tests), rw t))
    (cases_Bool (leb 1 n && leb n 8))

counted_told : (s : List ℕ) → Bytes s → length s ≤ 65536 → (r : Answer ℕ) → number_at s 0 ≡ r → Opened s (counted r)
counted_told s B h (Ok x) e =
    let w = number_wrote s 0 x.1 x.0 B (omega arith) e in
    ⊎_elim
    (λ t. rw t.1 (h, t.0, w.0))
    (λ t. rw t.1 (record { short = h; number = x.0; fits = w.1; begins = stands_begins w.0; outside = t.0; nothing = (refl, refl) }))
    (count_or_not x.0 x.1)
counted_told s B h (Err f) e = number_tells s None [] [] 0 f B h (refl, refl, refl) (inl refl) e

opening_told : (s : List ℕ) (r : Result (ℕ × ℕ) RunFault) → Bytes s → opening s ≡ r → Opened s r
opening_told s r B e =
    ⊎_elim
    (λ l. rw (← e, lt-leb (length s) 65536 l) (inr (record { long = l; end = refl; nothing = (refl, refl) })))
    (λ l. rw (← e, le-leb (length s) 65536 l) (counted_told s B l (number_at s 0) refl))
    (cases_lt 65536 (length s))

opening_number : (s : List ℕ) (r : Answer ℕ) → length s ≤ 65536 → number_at s 0 ≡ r → opening s ≡ counted r
opening_number s r h e = rw (le-leb (length s) 65536 h, e)

pub opening_reads : (s : List ℕ) (n q : ℕ) → length s ≤ 65536 → SectionCount n → Stands s 0 q (written_number n) → opening s ≡ Ok (n, q)
opening_reads s n q h c t =
    opening_number s (Ok (n, q)) h (number_reads s 0 q n (omega (arith, c.few)) t) ∙ rw (le-leb 1 n c.some, le-leb n 8 c.few)

opening_miscounts : (s : List ℕ) (n q : ℕ) → length s ≤ 65536 → number_at s 0 ≡ Ok (n, q) → (SectionCount n → ⊥) → opening s ≡ Err Sections
opening_miscounts s n q h e out = opening_number s (Ok (n, q)) h e ∙ ⊎_elim (λ t. absurd (out t.0)) (λ t. t.1) (count_or_not n q)

-- How reading goes.

-- reading comes to its end at p
abbrev pub Ended : List ℕ → ℕ → Outcome → Type 0
Ended s p r = ((length s ≤ p) × (r ≡ Ok tt)) ⊎ ((f : ReadFault) × (p < length s) × (event_at s p ≡ Err f) × (r ≡ Err (Read f)))

-- the count n is read up to q, and the events es from there up to p
pub record Sofar (s : List ℕ) (n q p : ℕ) (es : List SectionEvent) : Type 0 where
  pub opened : opening s ≡ Ok (n, q)
  pub proper : AllByRecursion Proper es
  pub stands : Stands s q p (flat_map written_event es)

pub record Counted (s : List ℕ) (r : Outcome) (sections : Option ℕ) (es : List SectionEvent) : Type 0 where
  pub n : ℕ
  pub q : ℕ
  pub p : ℕ
  pub counts : sections ≡ Some n
  pub sofar : Sofar s n q p es
  pub ended : Ended s p r

pub record Uncounted (s : List ℕ) (r : Outcome) (sections : Option ℕ) (es : List SectionEvent) : Type 0 where
  pub why : RunFault
  pub answer : r ≡ Err why
  pub opened : opening s ≡ Err why
  pub nothing : Nothing sections es

-- the course of a reading, by what is answered at each place
abbrev pub Course : List ℕ → Outcome → Option ℕ → List SectionEvent → Type 0
Course s r sections es = Uncounted s r sections es ⊎ Counted s r sections es

-- What a sheet tells is what is answered.

pub sofar_opened : {s : List ℕ} {n q p : ℕ} {es : List SectionEvent} → Bytes s → Sofar s n q p es → Opened s (Ok (n, q))
sofar_opened B h = opening_told _ _ B h.opened

-- the count and the events stand one after another
pub sofar_whole : {s : List ℕ} {n q p : ℕ} {es : List SectionEvent} → Bytes s → Sofar s n q p es → Stands s 0 p (written_sheet n es)
sofar_whole B h = stands_join (sofar_opened B h).2 h.stands

-- an event that stops has begun, or the sheet goes on
something_left : (s : List ℕ) (p o : ℕ) (ns : List ℕ) → p < length s → Stands s p o (flat_map written_number ns) → 0 < length ns + length (drop o s)
something_left s p o [] h t = omega (arith, length-drop o s)
something_left s p o (n ∷ ns) h t = omega arith

event_stops :
    {s : List ℕ} {n q p : ℕ} {es : List SectionEvent} {f : ReadFault}
    → Bytes s → Sofar s n q p es → p < length s → event_at s p ≡ Err f → StopsFor f.reason s f.offset (Some n) es
event_stops {s} {n} {q} {p} {es} {f} B h l e =
    let o = sofar_opened B h in
    let t = event_told s p (Err f) B (omega arith) e in
    let within : t.place ≤ length s = stands_within (omega arith) t.stands in
    let u : ReadUpTo s t.place n es t.numbers = record {
      sections = o.1;
      proper = h.proper;
      begun = wants_begun t.numbers t.wants;
      stands = stands_join (sofar_whole B h) t.stands;
    } in
    ⊎_elim
    (λ c. number_tells s (Some n) es t.numbers t.place f B o.0 u (inr (something_left s p t.place t.numbers l t.stands)) c)
    (λ c.
    let w = number_wrote s t.place c.1 c.0 B within c.2 in
    rw c.3
    (inl (record {
      short = o.0;
      numbers = t.numbers;
      count = n;
      counted = refl;
      read = u;
      number = c.0;
      fits = w.1;
      begins = stands_begins w.0;
      stuck = bars_stuck t.numbers c.0 c.4;
    })))
    t.cause

pub course_tells : (s : List ℕ) (r : Outcome) (c : Option ℕ) (es : List SectionEvent) → Bytes s → Course s r c es → Tells s r c es
course_tells s r c es B t =
    ⊎_elim
    (λ u. rw (u.answer, u.nothing.0, u.nothing.1) (opening_told s (Err u.why) B u.opened))
    (λ d.
    let h = d.sofar in
    let o = sofar_opened B h in
    ⊎_elim
    (λ e.
    let whole = sofar_whole B h in
    let bytes = rw (drop_all d.p s e.0, append-nil) at whole.bytes in
    rw e.1 (d.n, d.counts, record { bytes = bytes; short = o.0; sections = o.1; proper = h.proper }))
    (λ e. rw (e.3, d.counts) (event_stops B h e.1 e.2))
    d.ended)
    t

-- What a sheet is, is answered.

pub event_long : (e : SectionEvent) → 1 ≤ length (written_event e)
event_long e = simp length-append (omega (arith, written_long (kind_number (kind_of e.event))))

numbers_long : (ns : List ℕ) → length ns ≤ length (flat_map written_number ns)
numbers_long [] = omega arith
numbers_long (n ∷ ns) = simp length-append (omega (arith, written_long n, numbers_long ns))

module _ (s : List ℕ) where
  sofar_read :
      (n p : ℕ) (es : List SectionEvent) → length s ≤ 65536 → SectionCount n → AllByRecursion Proper es → Stands s 0 p (written_sheet n es)
      → Sofar s n (0 + length (written_number n)) p es
  sofar_read n p es h c i t = record { opened = opening_reads s n _ h c (stands_front _ _ t); proper = i; stands = stands_back _ _ t }

  module _ (o n : ℕ) (es : List SectionEvent) (ns : List ℕ) (h : length s ≤ 65536) (u : ReadUpTo s o n es ns) where
    whole : Stands s 0 (0 + length (written_sheet n es)) (written_sheet n es)
    whole = stands_front _ _ u.stands

    begun : Stands s (0 + length (written_sheet n es)) o (flat_map written_number ns)
    begun = stands_back _ _ u.stands

    inside_event : 0 < length ns + length (drop o s) → 0 + length (written_sheet n es) < length s
    inside_event i =
        let within : o ≤ length s = stands_within (omega arith) u.stands in
        omega (arith, numbers_long ns, begun.after, length-drop o s)

    stopped : (f : ReadFault) → 0 < length ns + length (drop o s) → event_at s (0 + length (written_sheet n es)) ≡ Err f → Course s (Err (Read f)) (Some n) es
    stopped f i e = inr (record { n = n; q = _; p = _; counts = refl; sofar = sofar_read n _ es h u.sections u.proper whole; ended = inr (f, inside_event i, e, refl) })

    number_fault : (f : ReadFault) → number_at s o ≡ Err f → 0 < length ns + length (drop o s) → Course s (Err (Read f)) (Some n) es
    number_fault f e i = stopped f i (number_stops s _ o ns f u.begun begun e)

    value_fault : (m r : ℕ) → number_at s o ≡ Ok (m, r) → m ≤ 65535 → (GoesOn ns m → ⊥) → o < length s → Course s (Err (Read (fault Value o))) (Some n) es
    value_fault m r e fits stuck l = stopped (fault Value o) (omega (arith, length-drop o s)) (value_stops s _ o r ns m fits u.begun stuck begun e)

    -- the same at what begins there
    begun_fault : (m : ℕ) → m ≤ 65535 → Begins (drop o s) m → (GoesOn ns m → ⊥) → Course s (Err (Read (fault Value o))) (Some n) es
    begun_fault m fits b stuck =
        let at = begins_stands b in
        value_fault m _ (number_reads s o _ m fits at) fits stuck (stands_inside at (written_long m))

malformed_some : {bs : List ℕ} {p o : ℕ} → Malformed bs p o → 0 < length bs
malformed_some m = grind (arith, length-append, written_long)

module _ (s : List ℕ) where
  wanted_fault :
      (o : ℕ) (c : Option ℕ) (es : List SectionEvent) (ns : List ℕ) (f : ReadFault)
      → length s ≤ 65536 → Wanted s o c es ns → (c ≡ None) ⊎ (0 < length ns + length (drop o s)) → number_at s o ≡ Err f → Course s (Err (Read f)) c es
  wanted_fault o None es ns f h w i e =
      inl (record { why = Read f; answer = refl; opened = opening_number s (Err f) h (rw w.0 at e); nothing = (refl, w.1) })
  wanted_fault o (Some n) es ns f h w i e = number_fault s o n es ns h w f e (⊎_elim (λ z. cc) (λ z. z) i)

  stops_course : (reason : Reason) (o : ℕ) (c : Option ℕ) (es : List SectionEvent) → StopsFor reason s o c es → Course s (Err (Read (fault reason o))) c es
  stops_course Ends o c es t =
      wanted_fault o c es t.numbers _ t.short t.wanted t.inside (cut_ends s o (wanted_within s o c es t.numbers t.wanted) t.cut)
  stops_course Form o c es t =
      let within = wanted_within s t.place c es t.numbers t.wanted in
      wanted_fault t.place c es t.numbers _ t.short t.wanted (inr (omega (arith, malformed_some t.malformed))) (malformed_stops s t.place o within t.malformed)
  stops_course Value o c es t =
      ⊎_elim
      (λ v. rw v.counted (begun_fault s o v.count es v.numbers v.short v.read v.number v.fits v.begins v.stuck))
      (λ l. rw l.end (inl (record { why = Read (fault Value 65536); answer = refl; opened = rw (lt-leb (length s) 65536 l.long); nothing = l.nothing })))
      t

  sheet_course : (n : ℕ) (es : List SectionEvent) → Sheet s n es → Course s (Ok tt) (Some n) es
  sheet_course n es h =
      inr (record {
        n = n;
        q = _;
        p = length s;
        counts = refl;
        sofar = sofar_read s n _ es h.short h.sections h.proper (stands_whole s (written_sheet n es) h.bytes);
        ended = inl (omega arith, refl);
      })

  pub tells_course : (r : Outcome) (c : Option ℕ) (es : List SectionEvent) → Tells s r c es → (r ≡ Err Memory) ⊎ Course s r c es
  tells_course (Ok x) c es t = inr (rw t.1 (sheet_course t.0 es t.2))
  tells_course (Err (Read f)) c es t = inr (stops_course f.reason f.offset c es t)
  tells_course (Err Sections) c es t =
      inr (inl (record {
        why = Sections;
        answer = refl;
        opened = opening_miscounts s t.number _ t.short (number_reads s 0 _ t.number t.fits (begins_stands t.begins)) t.outside;
        nothing = t.nothing;
      }))
  tells_course (Err Memory) c es t = inl refl

-- Reading has one course.

module _ (s : List ℕ) where
  ended_one : (p : ℕ) (r t : Outcome) → Ended s p r → Ended s p t → r ≡ t
  ended_one p r t a b = grind arith

  -- reading does not end where an event stands
  ended_event : (p q : ℕ) (r : Outcome) (e : SectionEvent) → Proper e → Stands s p q (written_event e) → Ended s p r → ⊥
  ended_event p q r e h t d =
      let inside = stands_inside t (event_long e) in
      let read = event_reads e s p q h t in
      grind arith

  -- the same events are read up to where reading ends
  events_one :
      (es ds : List SectionEvent) (p q u : ℕ) (r t : Outcome)
      → Stands s p q (flat_map written_event es) → AllByRecursion Proper es → Ended s q r
      → Stands s p u (flat_map written_event ds) → AllByRecursion Proper ds → Ended s u t
      → (r ≡ t) × (es ≡ ds)
  events_one [] [] p q u r t a i x b j y =
      let same : q ≡ u = omega arith in
      (ended_one u r t (rw same at x) y, refl)
  events_one [] (d ∷ ds) p q u r t a i x b j y =
      let same : q ≡ p = omega arith in
      absurd (ended_event p _ r d j.0 (stands_front _ _ b) (rw same at x))
  events_one (e ∷ es) [] p q u r t a i x b j y =
      let same : u ≡ p = omega arith in
      absurd (ended_event p _ t e i.0 (stands_front _ _ a) (rw same at y))
  events_one (e ∷ es) (d ∷ ds) p q u r t a i x b j y =
      let m = event_reads e s p _ i.0 (stands_front _ _ a) in
      let n = event_reads d s p _ j.0 (stands_front _ _ b) in
      let same : ◌≡◌ {A = SectionEvent × ℕ} (d, p + length (written_event d)) (e, p + length (written_event e)) = cc in
      let first : d ≡ e = λ k. (same k).0 in
      let rest = events_one es ds _ q u r t (stands_back _ _ a) i.1 x (stands_back (written_event e) _ (rw first at b)) j.1 y in
      (rest.0, cc (first, rest.1))

  pub course_one : (r t : Outcome) (c d : Option ℕ) (es ds : List SectionEvent) → Course s r c es → Course s t d ds → (r ≡ t) × (c ≡ d) × (es ≡ ds)
  course_one r t c d es ds a b =
      ⊎_elim
      (λ x. ⊎_elim (λ y. (cc, cc, cc)) (λ y. absurd (cc (x.opened, y.sofar.opened))) b)
      (λ x.
      ⊎_elim
      (λ y. absurd (cc (y.opened, x.sofar.opened)))
      (λ y.
      let same : ◌≡◌ {A = ℕ × ℕ} (y.n, y.q) (x.n, x.q) = cc (x.sofar.opened, y.sofar.opened) in
      let count : y.n ≡ x.n = λ k. (same k).0 in
      let place : y.q ≡ x.q = λ k. (same k).1 in
      let rest = events_one es ds x.q x.p y.p r t x.sofar.stands x.sofar.proper x.ended (rw place at y.sofar.stands) y.sofar.proper y.ended in
      (rest.0, cc (x.counts, y.counts, count), rest.1))
      b)
      a
