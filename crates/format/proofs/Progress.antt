-- What has been read of a sheet, event by event, and what is told where reading ends. Assumes nothing.
use Rattle.std.proofs.Common.{◌≡◌, ℕ, ◌+◌, ◌<◌, ◌≤◌, cond, ltb, List, [], ◌∷◌, ◌++◌, length, Some, None, Ok, Err, Option, Result, refl, subst, inl, inr, arith}
use Rattle.std.proofs.ByRecursion.{All-push}
use Rattle.std.proofs.lemmas.List.{length-append, flat_map_more}
use Rattle.std.proofs.lemmas.Bool.{le-leb, lt-leb}
use Rattle.std.proofs.lemmas.Bool.Decides.{nat_tests}
use Rattle.std.specs.List.{flat_map}
use Rattle.events.specs.declared.event.LocatedEvent.{LocatedEvent}
use Rattle.events.specs.declared.event.SectionEvent.{SectionEvent}
use Rattle.events.specs.Written.{located, written_event, written_number, Proper}
use Rattle.format.specs.declared.fault.ReadFault.{ReadFault}
use Rattle.format.specs.declared.fault.RunFault.{RunFault}
use Rattle.format.specs.declared.fault.RunFault.TheVariants.{Read, Memory}
use Rattle.format.specs.declared.fault.Reason.TheVariants.{Value}
use Rattle.format.specs.Layouts.{and_then, event_at, next_at}
use Rattle.format.specs.Numbers.{Answer, Bytes, fault}
use Rattle.format.specs.Openings.{count_at, opening}
use Rattle.format.specs.Sheets.{Outcome, Stands, Told}
use Rattle.format.proofs.EventLaws.{event_wrote}
use Rattle.format.proofs.SheetLaws.{Course, Ended, Sofar, course_tells, event_long, sofar_opened, sofar_whole}
use Rattle.format.proofs.Standing.{stands_join, stands_none}

-- The next event.

abbrev at_place : ℕ → SectionEvent → LocatedEvent
at_place p e = record { offset = p; told = e }

-- what is answered at p, where an event's answer is r: an event is wanted before the sheet's end, and none at it
abbrev next : List ℕ → ℕ → Answer SectionEvent → Answer (Option LocatedEvent)
next s p r = cond (ltb p (length s)) (and_then r (λ e q. Ok (Some (at_place p e), q))) (Ok (None, p))

next_some : (s : List ℕ) (p q : ℕ) (r : Answer SectionEvent) (v : LocatedEvent) → next s p r ≡ Ok (Some v, q) → (p < length s) × (v.offset ≡ p) × (r ≡ Ok (v.told, q))
next_some s p q (Ok x) v e = grind (arith, nat_tests)
next_some s p q (Err f) v e = grind (arith, nat_tests)

next_none : (s : List ℕ) (p q : ℕ) (r : Answer SectionEvent) → next s p r ≡ Ok (None, q) → length s ≤ p
next_none s p q (Ok x) e = grind (arith, nat_tests)
next_none s p q (Err f) e = grind (arith, nat_tests)

next_err : (s : List ℕ) (p : ℕ) (r : Answer SectionEvent) (f : ReadFault) → next s p r ≡ Err f → (p < length s) × (r ≡ Err f)
next_err s p (Ok x) f e = grind (arith, nat_tests)
next_err s p (Err g) f e = grind (arith, nat_tests)

-- What has been read.

-- the count n and the events vs have been read of s, up to p
pub record Progress (s : List ℕ) (n p : ℕ) (vs : List LocatedEvent) : Type 0 where
  pub q : ℕ
  pub es : List SectionEvent
  pub sofar : Sofar s n q p es
  pub places : vs ≡ located (length (written_number n)) es
  pub bytes : Bytes s

pub start : {s : List ℕ} {n q : ℕ} → Bytes s → opening s ≡ Ok (n, q) → Progress s n q []
start {s} {n} {q} B e = record {
  q = q;
  es = [];
  sofar = record { opened = e; proper = tt; stands = stands_none s q };
  places = refl;
  bytes = B;
}

located_push :
    (p q : ℕ) (es : List SectionEvent) (e : SectionEvent) → q ≡ p + length (flat_map written_event es) → located p es ++ at_place q e ∷ [] ≡ located p (es ++ e ∷ [])
located_push p q [] e h = let same : q ≡ p = omega arith in cc
located_push p q (d ∷ es) e h =
    let rest = located_push (p + length (written_event d)) q es e (omega (arith, length-append (written_event d) (flat_map written_event es))) in
    cc

-- the event that is told next stands at p
next_wrote :
    (s : List ℕ) (n p r : ℕ) (vs : List LocatedEvent) (v : LocatedEvent)
    → Progress s n p vs → next_at s p ≡ Ok (Some v, r) → (p < length s) × (v.offset ≡ p) × (Stands s p r (written_event v.told) × Proper v.told)
next_wrote s n p r vs v h e =
    let d = next_some s p r (event_at s p) v e in
    (d.0, d.1, event_wrote v.told s p r h.bytes (omega arith) d.2)

-- one event more, which lies further on
pub more :
    {s : List ℕ} {n p r : ℕ} {vs : List LocatedEvent} {v : LocatedEvent}
    → Progress s n p vs → next_at s p ≡ Ok (Some v, r) → Progress s n r (vs ++ v ∷ []) × (p < length s) × (p < r)
more {s} {n} {p} {r} {vs} {v} h e =
    let w = next_wrote s n p r vs v h e in
    let t = h.sofar in
    let count = (sofar_opened h.bytes t).2 in
    let here : v.offset ≡ length (written_number n) + length (flat_map written_event h.es) = omega (arith, w.1, t.stands.after, count.after) in (
      record {
        q = h.q;
        es = h.es ++ v.told ∷ [];
        sofar = record {
          opened = t.opened;
          proper = All-push Proper h.es v.told t.proper w.2.1;
          stands = subst (Stands s h.q r) (flat_map_more written_event [] h.es v.told) (stands_join t.stands w.2.0);
        };
        places = rw h.places (located_push (length (written_number n)) v.offset h.es v.told here);
        bytes = h.bytes;
      },
      w.0,
      omega (arith, w.2.0.after, event_long v.told),
    )

-- Where reading ends.

told_ended : (s : List ℕ) (n p : ℕ) (r : Outcome) (vs : List LocatedEvent) → Progress s n p vs → Ended s p r → Told s r (Some n) vs
told_ended s n p r vs h d =
    let course : Course s r (Some n) h.es = inr (record { n = n; q = h.q; p = p; counts = refl; sofar = h.sofar; ended = d }) in
    record { es = h.es; tells = course_tells s r (Some n) h.es h.bytes course; places = h.places }

pub told_end : {s : List ℕ} {n p r : ℕ} {vs : List LocatedEvent} → Progress s n p vs → next_at s p ≡ Ok (None, r) → Told s (Ok tt) (Some n) vs
told_end {s} {n} {p} {r} {vs} h e = told_ended s n p (Ok tt) vs h (inl (next_none s p r (event_at s p) e, refl))

pub told_fault : {s : List ℕ} {n p : ℕ} {vs : List LocatedEvent} {f : ReadFault} → Progress s n p vs → next_at s p ≡ Err f → Told s (Err (Read f)) (Some n) vs
told_fault {s} {n} {p} {vs} {f} h e = let d = next_err s p (event_at s p) f e in told_ended s n p (Err (Read f)) vs h (inr (f, d.0, d.1, refl))

pub told_memory :
    {s : List ℕ} {n p r : ℕ} {vs : List LocatedEvent} {v : LocatedEvent}
    → Progress s n p vs → next_at s p ≡ Ok (Some v, r) → Told s (Err Memory) (Some n) vs
told_memory {s} {n} {p} {r} {vs} {v} h e =
    let o = sofar_opened h.bytes h.sofar in
    let w = next_wrote s n p r vs v h e in
    record {
      es = h.es;
      tells = record {
        short = o.0;
        count = n;
        counted = refl;
        section_count = o.1;
        proper = h.sofar.proper;
        place = p;
        stands = sofar_whole h.bytes h.sofar;
        next = v.told;
        next_proper = w.2.1;
        after = r;
        next_stands = w.2.0;
      };
      places = h.places;
    }

pub told_opening : {s : List ℕ} {f : RunFault} → Bytes s → opening s ≡ Err f → Told s (Err f) None []
told_opening {s} {f} B e = record {
  es = [];
  tells = course_tells s (Err f) None [] B (inl (record { why = f; answer = refl; opened = e; nothing = (refl, refl) }));
  places = refl;
}

-- the opening, by the steps of the code
pub opening_long : (s : List ℕ) → 65536 < length s → opening s ≡ Err (Read (fault Value 65536))
opening_long s h = rw (lt-leb (length s) 65536 h)

pub opening_short : (s : List ℕ) (r : Result (ℕ × ℕ) RunFault) → length s ≤ 65536 → count_at s 0 ≡ r → opening s ≡ r
opening_short s r h e = rw (le-leb (length s) 65536 h) e
