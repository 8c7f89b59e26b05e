-- The laws over every run, on every line: counted from events and answers, refused events included. Of the record only
-- the unused line clear is read, of the signals only the stop signal that is spoken of, and of the detectors what they
-- read. Assumes nothing.
use Rattle.std.specs.Prelude.{◌≡◌, ℕ, ◌+◌, ◌-◌, ◌<◌, ◌≤◌, Bool, true, false, if◌then◌else◌, not, ◌&&◌, ◌||◌, List, [], Decides, ◌==◌, nat_lt, slice_index}
use Rattle.answer.specs.Answers.{answer_number}
use Rattle.detector.specs.Meaning.{reads_clear}
use Rattle.events.specs.Fields.{code_number, consent_number, direction_number, position_number, station_number}
use Rattle.events.specs.Written.{fields_in, is_kind}
use Rattle.events.specs.declared.event.Event.{Event}
use Rattle.events.specs.declared.field.Code.{Code}
use Rattle.events.specs.declared.field.Code.TheVariants as code
use Rattle.events.specs.declared.field.Consent.TheVariants as consent
use Rattle.events.specs.declared.field.Direction.{Direction}
use Rattle.events.specs.declared.field.Kind.{Kind}
use Rattle.events.specs.declared.field.Kind.TheVariants as kind
use Rattle.events.specs.declared.field.Position.TheVariants as position
use Rattle.line.specs.Codes.{despatcher}
use Rattle.line.specs.Records.{implies, is_off, train_or_trolley}
use Rattle.line.specs.declared.row.Row.{Row}
use Rattle.section.specs.Sections.{row_of}
use Rattle.section.specs.States.{detector_on}
use Rattle.runs.specs.Benches.{BenchState, fresh_bench, section_at}
use Rattle.runs.specs.Histories.{History, Leads, Step, ◌▸◌, followed_by, start}

-- one line of the bench
pub record Place : Type 0 where
  pub section : ℕ
  pub line : Direction

abbrev pub row_at : Place → BenchState → Row
row_at p b = row_of p.line (section_at p.section b).section

-- What a step says of a line, by its event and its answer.

-- the fields of an event, in the order of the sheet
abbrev pub field : ℕ → Event → ℕ
field n e = slice_index (fields_in e) n

-- the event is at the section of the line
abbrev pub in_section : Place → Step → Bool
in_section p x = x.event.section == p.section

abbrev pub answered : ℕ → Step → Bool
answered n x = answer_number x.answer == n

-- an event of a kind that names its line first, and names this one
abbrev pub event_on : Kind → Place → Step → Bool
event_on k p x = in_section p x && (is_kind k x.event.event && direction_number p.line == field 0 x.event.event)

abbrev pub accepted_on : Kind → Place → Step → Bool
accepted_on k p x = event_on k p x && answered 0 x

-- the fields of the last accepted send in the section: line, station, code and turn
abbrev pub last_send : ℕ → History → List ℕ
last_send i start = []
last_send i (h ▸ x) =
    if x.event.section == i && (is_kind kind.Send x.event.event && answered 0 x) then fields_in x.event.event
    else last_send i h

abbrev pub sent_code : Code → Place → List ℕ → Bool
sent_code c p sent = slice_index sent 2 == code_number c && direction_number p.line == slice_index sent 0

-- an accepted consent to the code: it belongs to the line and code of the last accepted send
abbrev pub consent_to : Code → Place → Step → History → Bool
consent_to c p x h =
    in_section p x
    && (answered 0 x
    && (is_kind kind.Acknowledge x.event.event
    && (field 1 x.event.event == consent_number consent.Given
    && sent_code c p (last_send p.section h))))

unfoldable pub gives_train : Place → Step → History → Bool
gives_train p x h = consent_to code.IsLineClear p x h

unfoldable pub gives_trolley : Place → Step → History → Bool
gives_trolley p x h = consent_to code.Trolley p x h

unfoldable pub cancels : Place → Step → History → Bool
cancels p x h = consent_to code.CancelLast p x h

unfoldable pub blocks : Place → Step → History → Bool
blocks p x h = consent_to code.BlockForward p x h || consent_to code.BlockBack p x h

-- obstruction removed is accepted: a blocking forward ends with its acknowledgement, a blocking back with its sending
unfoldable pub unblocks : Place → Step → History → Bool
unblocks p x h =
    (consent_to code.ObstructionRemoved p x h && slice_index (last_send p.section h) 1 == station_number (despatcher p.line))
    || (accepted_on kind.Send p x
    && (field 2 x.event.event == code_number code.ObstructionRemoved
    && not (field 1 x.event.event == station_number (despatcher p.line))))

-- a train enters under its line clear
unfoldable pub enters : Place → Step → Bool
enters p x = accepted_on kind.Enters p x

unfoldable pub trolley_starts : Place → Step → Bool
trolley_starts p x = accepted_on kind.TrolleyStarts p x

unfoldable pub trolley_ends : Place → Step → Bool
trolley_ends p x = accepted_on kind.TrolleyEnds p x

unfoldable pub reverses : Place → Step → Bool
reverses p x = accepted_on kind.StopControl p x && field 1 x.event.event == position_number position.Reversed

unfoldable pub puts_back : Place → Step → Bool
puts_back p x = accepted_on kind.StopControl p x && field 1 x.event.event == position_number position.Normal

-- a train passes the stop signal, at off or at on
unfoldable pub passes : Place → Step → Bool
passes p x = event_on kind.Enters p x && (answered 0 x || answered 90 x)

unfoldable pub leaves : Place → Step → Bool
leaves p x = event_on kind.Leave p x && (answered 0 x || answered 91 x)

-- the line is suspended: by 90 on it, or by 91 on either line of its section
unfoldable pub suspends : Place → Step → Bool
suspends p x = (event_on kind.Enters p x && answered 90 x) || (in_section p x && (is_kind kind.Leave x.event.event && answered 91 x))

unfoldable pub calls_reset : Place → Step → Bool
calls_reset p x = accepted_on kind.Reset p x

unfoldable pub calls_resume : Place → Step → Bool
calls_resume p x = accepted_on kind.Resume p x

-- the axles of an event that tells axles
unfoldable pub axles : Step → ℕ
axles x = field 1 x.event.event

-- the stop signal was off just before
unfoldable pub off_before : Place → Step → Bool
off_before p x = is_off (row_at p x.before).signals.stop

-- the detector read clear after
unfoldable pub clear_after : Place → Step → Bool
clear_after p x = reads_clear (detector_on p.line (section_at p.section x.after))

abbrev pub one_if : Bool → ℕ
one_if b = if b then 1 else 0

-- Each second accepted call completes a reset, or a resumption.

abbrev pub half_called : (Place → Step → Bool) → Place → History → Bool
half_called calls p start = false
half_called calls p (h ▸ x) = if calls p x then not (half_called calls p h) else half_called calls p h

abbrev pub completes_reset : Place → Step → History → Bool
completes_reset p x h = calls_reset p x && half_called calls_reset p h

abbrev pub completes_resumption : Place → Step → History → Bool
completes_resumption p x h = calls_resume p x && half_called calls_resume p h

-- The account of line clears.

pub record Account : Type 0 where
  pub given : ℕ
  pub used : ℕ
  pub cancelled : ℕ
  pub withdrawn : ℕ

abbrev pub spent : Account → ℕ
spent a = a.used + a.cancelled + a.withdrawn

abbrev pub account : Place → History → Account
account p start = record { given = 0; used = 0; cancelled = 0; withdrawn = 0 }
account p (h ▸ x) = record {
  given = (account p h).given + one_if (gives_train p x h || gives_trolley p x h);
  used = (account p h).used + one_if (enters p x || trolley_starts p x);
  -- a consent to a cancel counts while more was given than is used, cancelled and withdrawn
  cancelled = (account p h).cancelled + one_if (cancels p x h && nat_lt (spent (account p h)) (account p h).given);
  -- a resumption withdraws that excess
  withdrawn = (account p h).withdrawn + (if completes_resumption p x h then (account p h).given - spent (account p h) else 0);
}

-- the line clear that the record shows as not used yet
abbrev pub unused : Row → ℕ
unused r = one_if (train_or_trolley r.permission && not r.permission.used)

-- The stop signal.

-- a line clear is used, cancelled or withdrawn
abbrev pub spends : Place → Step → History → Bool
spends p x h = (enters p x || trolley_starts p x) || (cancels p x h || completes_resumption p x h)

-- each of the later steps passes the test, taken with all that came before it
abbrev pub throughout : (Step → History → Bool) → History → History → Bool
throughout test h start = true
throughout test h (later ▸ x) = test x (followed_by h later) && throughout test h later

-- The control was reversed, after the consent that gave a train's line clear which is still unused; and since then it was
-- not put back, no train passed, the line was not suspended, and the detector read clear throughout.
pub record ReversedUnderClear (p : Place) (h : History) : Type 0 where
  pub earlier : History
  pub consent : Step
  pub between : History
  pub reversal : Step
  pub since : History
  pub whole : h ≡ followed_by (followed_by (earlier ▸ consent) between ▸ reversal) since
  pub consented : gives_train p consent earlier ≡ true
  pub still_unused : throughout (λ x h. not (spends p x h)) (earlier ▸ consent) (followed_by (between ▸ reversal) since) ≡ true
  pub reversed : reverses p reversal ≡ true
  pub left_alone : throughout (λ x h. not (puts_back p x || (passes p x || suspends p x))) (followed_by (earlier ▸ consent) between ▸ reversal) since ≡ true
  pub clear_at_once : clear_after p reversal ≡ true
  pub clear_since : throughout (λ x h. clear_after p x) (followed_by (earlier ▸ consent) between ▸ reversal) since ≡ true

-- Who occupies the line.

-- the trains whose axles exceed those that left since, where `out` axles left in what came later
abbrev pub trains : Place → ℕ → History → ℕ
trains p out start = 0
trains p out (h ▸ x) = one_if (passes p x && nat_lt out (axles x)) + trains p (out + (if leaves p x then axles x else 0)) h

abbrev pub trolley : Place → History → Bool
trolley p start = false
trolley p (h ▸ x) = trolley_starts p x || (not (trolley_ends p x || completes_resumption p x h) && trolley p h)

abbrev pub blocking : Place → History → Bool
blocking p start = false
blocking p (h ▸ x) = blocks p x h || (not (unblocks p x h || completes_resumption p x h) && blocking p h)

abbrev pub occupants : Place → History → ℕ
occupants p h = trains p 0 h + one_if (trolley p h) + one_if (blocking p h)

-- no train passed the signal at on, and every completed reset and resumption found the line empty just before
abbrev pub orderly : Place → History → Bool
orderly p start = true
orderly p (h ▸ x) =
    implies (passes p x) (off_before p x)
    && (implies (completes_reset p x h || completes_resumption p x h) (occupants p h == 0) && orderly p h)

-- The laws.

pub record Lawful (p : Place) (r : Row) (h : History) : Type 0 where
  -- line clears given are used, cancelled, withdrawn or unused, and at most one is unused
  pub account : (account p h).given ≡ (account p h).used + (account p h).cancelled + (account p h).withdrawn + unused r
  pub one_unused : unused r ≤ 1
  -- the stop signal is off exactly where its control stands reversed under a line clear that is still unused
  pub signal : Decides (is_off r.signals.stop) (ReversedUnderClear p h)
  -- where no train passed at on and no line was reset or resumed under an occupant, there is at most one occupant
  pub occupancy : orderly p h ≡ true → occupants p h ≤ 1

-- on every line of every section, after any list of events from fresh sections
abbrev pub Laws : Type 0
Laws =
    (count : ℕ) (h : History) (b : BenchState) → Leads (fresh_bench count) h b
    → (p : Place) → p.section < count → Lawful p (row_at p b) h
