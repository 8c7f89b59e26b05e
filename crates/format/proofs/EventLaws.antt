-- The numbers of each kind of event, and what is answered at an event. Assumes nothing.
use Rattle.std.proofs.Common.{◌≡◌, ℕ, ◌≤◌, true, List, [], ◌∷◌, ◌++◌, length, Some, Ok, Err, sym, refl, ap, ◌∙◌, subst, ⊎_elim, arith}
use Rattle.std.proofs.lemmas.Bool.Decides.{nat_tests}
use Rattle.std.specs.List.{flat_map}
use Rattle.events.specs.Listed.{listed_back, code_back, consent_back, direction_back, kind_back, place_back, position_back, station_back, turn_back}
use Rattle.events.specs.declared.event.Event.{Event}
use Rattle.events.specs.declared.event.Event.TheVariants as event
use Rattle.events.specs.declared.event.SectionEvent.{SectionEvent}
use Rattle.events.specs.declared.field.Code.TheVariants.{IsLineClear}
use Rattle.events.specs.declared.field.Consent.TheVariants.{Withheld}
use Rattle.events.specs.declared.field.Direction.TheVariants.{Up}
use Rattle.events.specs.declared.field.Kind.{Kind}
use Rattle.events.specs.declared.field.Kind.TheVariants as kind
use Rattle.events.specs.declared.field.Place.TheVariants.{Arrived}
use Rattle.events.specs.declared.field.Position.TheVariants.{Normal}
use Rattle.events.specs.declared.field.Station.TheVariants.{Zero}
use Rattle.events.specs.declared.field.Turn.TheVariants.{Straight}
use Rattle.events.specs.Fields.{Field, first_numbered, listed, from_to, axle_counts, sections, tracks}
use Rattle.events.specs.Fields.{stations, station_number, every_station}
use Rattle.events.specs.Fields.{directions, direction_number, every_direction}
use Rattle.events.specs.Fields.{codes, code_number, every_code}
use Rattle.events.specs.Fields.{turns, turn_number, every_turn}
use Rattle.events.specs.Fields.{consents, consent_number, every_consent}
use Rattle.events.specs.Fields.{positions, position_number, every_position}
use Rattle.events.specs.Fields.{places, place_number, every_place}
use Rattle.events.specs.Fields.{kinds, kind_number, every_kind}
use Rattle.events.specs.Written.{written_number, fields_in, holds, kind_of, numbers_in, within_values, written_event, Proper}
use Rattle.format.specs.declared.fault.ReadFault.{ReadFault}
use Rattle.format.specs.declared.fault.Reason.TheVariants.{Value}
use Rattle.format.specs.Layouts.{Layout, done, field, and_then, event_at, field_at, fields_of, layout_at}
use Rattle.format.specs.Numbers.{Answer, Bytes, fault, number_at}
use Rattle.format.specs.Sheets.{Begun, GoesOn, Stands}
use Rattle.format.proofs.LayoutLaws.{Answered, Bars, Filled, Makes, Means, Sound, Wants, Writes}
use Rattle.format.proofs.LayoutLaws.{bars_fault, bars_makes, layout_reads, layout_told, makes_wants, makes_written, wanted_number, wants_fault, wants_makes, written_filled}

-- Each field has a number for each value and a value for each of its numbers.

-- a field each value of which is what its number stands for
record Covered {T : Type 0} (f : Field T) : Type 0 where
  means : (x : T) → Means f (f.number x) x
  sound : Sound f

covered :
    {T : Type 0} (number : T → ℕ) (xs : List T) (one : T)
    → ((x : T) → first_numbered number xs (number x) ≡ Some x) → ((x : T) → number x ≤ 65535) → Covered (listed number xs)
covered number xs one back fits =
    let means : (x : _) → Means (listed number xs) (number x) x = λ x. record { value = back x; fits = fits x } in
    record { means = means; sound = record { back = λ n x m. listed_back number xs n x m.value; number = number one; one = one; means = means one } }

station : Covered stations
station = covered station_number every_station Zero station_back (λ x. grind arith)

direction : Covered directions
direction = covered direction_number every_direction Up direction_back (λ x. grind arith)

code : Covered codes
code = covered code_number every_code IsLineClear code_back (λ x. grind arith)

turn : Covered turns
turn = covered turn_number every_turn Straight turn_back (λ x. grind arith)

consent : Covered consents
consent = covered consent_number every_consent Withheld consent_back (λ x. grind arith)

position : Covered positions
position = covered position_number every_position Normal position_back (λ x. grind arith)

place : Covered places
place = covered place_number every_place Arrived place_back (λ x. grind arith)

event_kind : Covered kinds
event_kind = covered kind_number every_kind kind.Call kind_back (λ x. grind arith)

-- a field that is held by some numbers, each of which stands for itself
record Ranged (f : Field ℕ) : Type 0 where
  means : (n : ℕ) → holds f n ≡ true → Means f n n
  held : (n m : ℕ) → Means f n m → holds f m ≡ true
  sound : Sound f

ranged : (least most : ℕ) → least ≤ most → most ≤ 65535 → Ranged (from_to least most)
ranged least most h k =
    let means : (n : ℕ) → holds (from_to least most) n ≡ true → Means (from_to least most) n n =
    λ n i. record { value = grind (arith, nat_tests); fits = grind (arith, nat_tests) } in
    record {
      means = means;
      held = λ n m i. let e = i.value in grind (arith, nat_tests);
      sound = record {
        back = λ n m i. let e = i.value in grind (arith, nat_tests);
        number = least;
        one = least;
        means = means least (grind (arith, nat_tests));
      };
    }

axles : Ranged axle_counts
axles = ranged 1 250 (omega arith) (omega arith)

track : Ranged tracks
track = ranged 0 6 (omega arith) (omega arith)

section_means : (n : ℕ) → n ≤ 65535 → Means sections n n
section_means n h = record { value = refl; fits = h }

-- The fields of an event are those of its kind, one line for each kind.

fields_follow : (e : Event) → within_values e ≡ true → Makes (fields_of (kind_of e)) (fields_in e) e
fields_follow (event.Call a) w = (a, station.means a, refl)
fields_follow (event.Answer a) w = (a, station.means a, refl)
fields_follow (event.Send l a c t) w = (l, direction.means l, (a, station.means a, (c, code.means c, (t, turn.means t, refl))))
fields_follow (event.Acknowledge a y t) w = (a, station.means a, (y, consent.means y, (t, turn.means t, refl)))
fields_follow (event.Error a) w = (a, station.means a, refl)
fields_follow (event.StopControl l p) w = (l, direction.means l, (p, position.means p, refl))
fields_follow (event.HomeControl l p) w = (l, direction.means l, (p, position.means p, refl))
fields_follow (event.Enters l k) w = (l, direction.means l, (k, axles.means k w, refl))
fields_follow (event.Leave l k) w = (l, direction.means l, (k, axles.means k w, refl))
fields_follow (event.TrolleyStarts l) w = (l, direction.means l, refl)
fields_follow (event.TrolleyEnds l e) w = (l, direction.means l, (e, place.means e, refl))
fields_follow (event.Fails l) w = (l, direction.means l, refl)
fields_follow (event.Reset l a) w = (l, direction.means l, (a, station.means a, refl))
fields_follow (event.Resume l a) w = (l, direction.means l, (a, station.means a, refl))
fields_follow (event.Roll l k) w = (l, direction.means l, (k, track.means k w, refl))

-- an event of the kind k within its values
abbrev Good : Kind → Event → Type 0
Good k e = (kind_of e ≡ k) × (within_values e ≡ true)

fields_written : (k : Kind) → Writes fields_in (Good k) (fields_of k) []
fields_written kind.Call = (station.sound, λ _ _ _. (refl, (refl, refl)))
fields_written kind.Answer = (station.sound, λ _ _ _. (refl, (refl, refl)))
fields_written kind.Send = (direction.sound, λ _ _ _. (station.sound, λ _ _ _. (code.sound, λ _ _ _. (turn.sound, λ _ _ _. (refl, (refl, refl))))))
fields_written kind.Acknowledge = (station.sound, λ _ _ _. (consent.sound, λ _ _ _. (turn.sound, λ _ _ _. (refl, (refl, refl)))))
fields_written kind.Error = (station.sound, λ _ _ _. (refl, (refl, refl)))
fields_written kind.StopControl = (direction.sound, λ _ _ _. (position.sound, λ _ _ _. (refl, (refl, refl))))
fields_written kind.HomeControl = (direction.sound, λ _ _ _. (position.sound, λ _ _ _. (refl, (refl, refl))))
fields_written kind.Enters = (direction.sound, λ _ _ _. (axles.sound, λ n k m. (refl, (refl, axles.held n k m))))
fields_written kind.Leave = (direction.sound, λ _ _ _. (axles.sound, λ n k m. (refl, (refl, axles.held n k m))))
fields_written kind.TrolleyStarts = (direction.sound, λ _ _ _. (refl, (refl, refl)))
fields_written kind.TrolleyEnds = (direction.sound, λ _ _ _. (place.sound, λ _ _ _. (refl, (refl, refl))))
fields_written kind.Fails = (direction.sound, λ _ _ _. (refl, (refl, refl)))
fields_written kind.Reset = (direction.sound, λ _ _ _. (station.sound, λ _ _ _. (refl, (refl, refl))))
fields_written kind.Resume = (direction.sound, λ _ _ _. (station.sound, λ _ _ _. (refl, (refl, refl))))
fields_written kind.Roll = (direction.sound, λ _ _ _. (track.sound, λ n k m. (refl, (refl, track.held n k m))))

-- The section is put before the fields.

abbrev in_section : ℕ → Layout Event → Layout SectionEvent
in_section n (done e) = done (record { section = n; event = e })
in_section n (field f k) = field f (λ x. in_section n (k x))

abbrev pub event_layout : Layout SectionEvent
event_layout = field kinds (λ k. field sections (λ n. in_section n (fields_of k)))

abbrev at_section : ℕ → Event → SectionEvent
at_section n e = record { section = n; event = e }

section_makes : (n : ℕ) (l : Layout Event) (ns : List ℕ) (e : Event) → Makes l ns e → Makes (in_section n l) ns (at_section n e)
section_makes n (done d) [] e m = ap (at_section n) m
section_makes n (done d) (i ∷ ns) e m = absurd m
section_makes n (field f k) [] e m = absurd m
section_makes n (field f k) (i ∷ ns) e m = (m.0, m.1, section_makes n (k m.0) ns e m.2)

section_made : (n : ℕ) (l : Layout Event) (ns : List ℕ) (x : SectionEvent) → Makes (in_section n l) ns x → (e : Event) × (at_section n e ≡ x) × Makes l ns e
section_made n (done d) [] x m = (d, m, refl)
section_made n (done d) (i ∷ ns) x m = absurd m
section_made n (field f k) [] x m = absurd m
section_made n (field f k) (i ∷ ns) x m = let r = section_made n (k m.0) ns x m.2 in (r.0, r.1, (m.0, m.1, r.2))

section_filled : (n : ℕ) (l : Layout Event) → Filled l → Filled (in_section n l)
section_filled n (done d) g = tt
section_filled n (field f k) g = (g.0, λ i a m. section_filled n (k a) (g.1 i a m))

event_follows : (e : SectionEvent) → Proper e → Makes event_layout (numbers_in e) e
event_follows e p = (
  kind_of e.event,
  event_kind.means (kind_of e.event),
  (e.section, section_means e.section p.section_fits, section_makes e.section (fields_of (kind_of e.event)) (fields_in e.event) e.event (fields_follow e.event p.in_values)),
)

event_made : (ns : List ℕ) (e : SectionEvent) → Makes event_layout ns e → (ns ≡ numbers_in e) × Proper e
event_made [] e m = absurd m
event_made (i ∷ []) e m = absurd m.2
event_made (i ∷ j ∷ ns) e m =
    let k = m.0 in
    let n = m.2.0 in
    let d = section_made n (fields_of k) ns e m.2.2 in
    let w = makes_written fields_in (Good k) (fields_of k) [] ns d.0 (fields_written k) d.2 in
    let first : i ≡ kind_number (kind_of d.0) = cc (event_kind.sound.back i k m.1, w.1.0) in
    let second : j ≡ n = cc (m.2.1.value) in
    rw (← d.1) (cc (first, second, w.0), record { section_fits = rw second at m.2.1.fits; in_values = w.1.1 })

event_filled : Filled event_layout
event_filled = (
  (0, kind.Call, event_kind.means kind.Call),
  λ _ k _. ((0, 0, section_means 0 (omega arith)), λ _ n _. section_filled n (fields_of k) (written_filled fields_in (Good k) (fields_of k) [] (fields_written k))),
)

-- The same in the words of the format.

-- an event that goes on is made with all its numbers
event_goes : {ns : List ℕ} {n : ℕ} (g : GoesOn ns n) → Makes event_layout (ns ++ n ∷ g.more) g.event
event_goes g = rw g.numbers (event_follows g.event g.proper)

goes_event : (ns : List ℕ) (n : ℕ) (more : List ℕ) (e : SectionEvent) → Makes event_layout (ns ++ n ∷ more) e → GoesOn ns n
goes_event ns n more e m = let d = event_made (ns ++ n ∷ more) e m in record { event = e; proper = d.1; more = more; numbers = d.0 }

begun_wants : (ns : List ℕ) → Begun ns → Wants event_layout ns
begun_wants ns b = makes_wants event_layout ns b.0 b.1.more b.1.event (event_goes b.1)

pub wants_begun : (ns : List ℕ) → Wants event_layout ns → Begun ns
wants_begun ns w = let m = wants_makes event_layout event_filled ns w in (m.0, goes_event ns m.0 m.1 m.2 m.3)

pub bars_stuck : (ns : List ℕ) (n : ℕ) → Bars event_layout ns n → GoesOn ns n → ⊥
bars_stuck ns n b g = bars_makes event_layout ns n g.more g.event b (event_goes g)

stuck_bars : (ns : List ℕ) (n : ℕ) → n ≤ 65535 → Begun ns → (GoesOn ns n → ⊥) → Bars event_layout ns n
stuck_bars ns n h b stuck =
    ⊎_elim (λ x. x) (λ m. absurd (stuck (goes_event ns n m.0 m.1 m.2))) (wanted_number event_layout event_filled ns n h (begun_wants ns b))

-- An event is read as its layout is.

then_then : {A B C : Type 0} (r : Answer A) (f : A → ℕ → Answer B) (g : B → ℕ → Answer C) → and_then (and_then r f) g ≡ and_then r (λ x q. and_then (f x q) g)
then_then (Ok x) f g = refl
then_then (Err e) f g = refl

section_at : (n : ℕ) (l : Layout Event) (s : List ℕ) (p : ℕ) → layout_at (in_section n l) s p ≡ and_then (layout_at l s p) (λ e q. Ok (at_section n e, q))
section_at n (done e) s p = refl
section_at n (field {A} f k) s p = simp (then_then, λ (x : A). section_at n (k x) s)

event_is : (s : List ℕ) (p : ℕ) → layout_at event_layout s p ≡ event_at s p
unfolding field_at
event_is s p = simp (then_then, section_at)

-- an event is read exactly where its written form stands
pub event_reads : (e : SectionEvent) (s : List ℕ) (p q : ℕ) → Proper e → Stands s p q (written_event e) → event_at s p ≡ Ok (e, q)
event_reads e s p q h t = sym (event_is s p) ∙ layout_reads event_layout s p q (numbers_in e) e (event_follows e h) t

-- what is answered at an event stands there
pub event_told : (s : List ℕ) (p : ℕ) (r : Answer SectionEvent) → Bytes s → p ≤ length s → event_at s p ≡ r → Answered event_layout s p r
event_told s p r B h e = subst (Answered event_layout s p) (event_is s p ∙ e) (layout_told event_layout s p B h)

pub event_wrote : (e : SectionEvent) (s : List ℕ) (p q : ℕ) → Bytes s → p ≤ length s → event_at s p ≡ Ok (e, q) → Stands s p q (written_event e) × Proper e
event_wrote e s p q B h a =
    let m = event_told s p (Ok (e, q)) B h a in
    let d = event_made m.numbers e m.makes in
    (rw d.0 at m.stands, d.1)

-- an event stops where a number of it does
pub number_stops : (s : List ℕ) (p q : ℕ) (ns : List ℕ) (f : ReadFault) → Begun ns → Stands s p q (flat_map written_number ns) → number_at s q ≡ Err f → event_at s p ≡ Err f
number_stops s p q ns f b t e = sym (event_is s p) ∙ wants_fault event_layout s p q ns f (begun_wants ns b) t e

pub value_stops :
    (s : List ℕ) (p q r : ℕ) (ns : List ℕ) (n : ℕ)
    → n ≤ 65535 → Begun ns → (GoesOn ns n → ⊥) → Stands s p q (flat_map written_number ns) → number_at s q ≡ Ok (n, r) → event_at s p ≡ Err (fault Value q)
value_stops s p q r ns n h b stuck t e = sym (event_is s p) ∙ bars_fault event_layout s p q r ns n (stuck_bars ns n h b stuck) t e
