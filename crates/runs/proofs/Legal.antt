-- What the rules guarantee before each change of a line, since all that its event needs holds. Assumes nothing.
use Rattle.std.proofs.Common.{◌≡◌, Bool, true, not, ◌&&◌, ◌||◌, [], ◌∷◌, Ok, refl, arith}
use Rattle.std.proofs.lemmas.Bool.Decides.{nat_tests}
use Rattle.answer.specs.Answers.{Needs, checked}
use Rattle.bell.specs.declared.Bell.{Bell}
use Rattle.bell.specs.declared.Bell.TheVariants.{Pending}
use Rattle.detector.specs.Meaning.{Meaning, reading_of, reads_clear}
use Rattle.events.specs.declared.event.Event.{Event}
use Rattle.events.specs.declared.event.Event.TheVariants as event
use Rattle.events.specs.declared.field.Code.{Code}
use Rattle.events.specs.declared.field.Code.TheVariants as code
use Rattle.events.specs.declared.field.Consent.{Consent}
use Rattle.events.specs.declared.field.Consent.TheVariants as consent
use Rattle.events.specs.declared.field.Direction.{Direction}
use Rattle.events.specs.declared.field.Direction.TheVariants.{Up, Down}
use Rattle.events.specs.declared.field.Position.TheVariants.{Reversed}
use Rattle.events.specs.declared.field.Turn.{Turn}
use Rattle.line.specs.Changes.{Change, blocked_back, blocked_forward, cancelled, left, left_unexpected, passed, passed_at_on, resume_called, stop_reversed, train_entering, train_given, train_out, trolley_ended, trolley_given, trolley_started, unblocked}
use Rattle.line.specs.Codes.{acknowledge_needs, acknowledging_makes, role_of}
use Rattle.line.specs.Records.{both_normal, clear_for_train, end_is, is_blocked, is_off, needle_is, permit_is, running_trolley, train_or_trolley, unused_trolley, used_train}
use Rattle.line.specs.declared.role.Role.{Role}
use Rattle.line.specs.declared.role.Role.TheVariants.{Receiving}
use Rattle.line.specs.declared.row.End.TheVariants.{Arrived, Returned}
use Rattle.line.specs.declared.row.Needle.TheVariants.{Closed, Clear, TrainOnLine}
use Rattle.line.specs.declared.row.Permission.{Permission}
use Rattle.line.specs.declared.row.Permit.TheVariants.{Trolley}
use Rattle.line.specs.declared.row.Row.{Row}
use Rattle.line.specs.declared.row.Signals.{Signals}
use Rattle.section.specs.Sections.{change_on, pending_makes, pending_needs, row_of}
use Rattle.section.specs.States.{SectionState, detector_on, state_needs, state_readings}

-- What the rules guarantee before a change: of what was permitted, of the signals and of the detector.

abbrev pub permission_before : Change → Permission → Bool
permission_before train_given g = needle_is Closed g
permission_before trolley_given g = needle_is Closed g
permission_before blocked_forward g = needle_is Closed g
permission_before blocked_back g = needle_is Closed g
permission_before train_entering g = (needle_is Clear g && used_train g) || (permit_is Trolley g && g.used)
permission_before train_out g = (needle_is TrainOnLine g && train_or_trolley g) && end_is Arrived g
permission_before cancelled g = clear_for_train g || (permit_is Trolley g && (not g.used || end_is Returned g))
permission_before unblocked g = is_blocked g
permission_before stop_reversed g = clear_for_train g
permission_before (left k) g = used_train g
permission_before (left_unexpected k) g = not (used_train g)
permission_before trolley_started g = unused_trolley g
permission_before (trolley_ended e) g = running_trolley g
permission_before c g = true

abbrev pub signals_before : Change → Signals → Bool
signals_before cancelled g = not (is_off g.stop) && both_normal g
signals_before stop_reversed g = not g.suspended
signals_before (passed k) g = is_off g.stop
signals_before (passed_at_on k) g = not (is_off g.stop)
signals_before (resume_called a) g = g.suspended && both_normal g
signals_before c g = true

abbrev pub detector_before : Change → Meaning → Bool
detector_before train_out m = reads_clear m
detector_before stop_reversed m = reads_clear m
detector_before (resume_called a) m = reads_clear m
detector_before c m = true

abbrev pub Legal : Change → Row → Meaning → Type 0
Legal c r m = (permission_before c r.permission ≡ true) × (signals_before c r.signals ≡ true) × (detector_before c m ≡ true)

-- every condition of a list holds
abbrev pub Holds : Needs → Type 0
Holds [] = Unit {0}
Holds (n ∷ ns) = (n.0 ≡ true) × Holds ns

-- all that an event needs holds where it is not refused
pub held : (ns : Needs) → checked ns ≡ Ok tt → Holds ns
held [] e = tt
held (n ∷ ns) e = let parts : (n.0 ≡ true) × (checked ns ≡ Ok tt) = grind arith in (parts.0, held ns parts.1)

-- The last clause of each proof by cases stands for every case that no clause above it takes; those above it tell apart
-- the lines, codes and positions.

acknowledging_legal : (r : Row) (m : Meaning) (c : Code) (x : Role) (y : Consent) (t : Turn)
    → Holds (acknowledge_needs c x y t (reading_of m) r) → Legal (acknowledging_makes c x y) r m
acknowledging_legal r m code.ObstructionRemoved Receiving consent.Given t k = (refl, refl, refl)
acknowledging_legal r m c x y t k = grind (arith, nat_tests)

pending_legal : (v : SectionState) (l : Direction) (b : Bell) (y : Consent) (t : Turn)
    → Holds (pending_needs b y t (state_readings v) v.section) → Legal (pending_makes b y l) (row_of l v.section) (detector_on l v)
pending_legal v Up (Pending caller Up c) y t k = acknowledging_legal v.section.lines.up v.up c (role_of Up caller) y t k
pending_legal v Down (Pending caller Down c) y t k = acknowledging_legal v.section.lines.down v.down c (role_of Down caller) y t k
pending_legal v l b y t k = (refl, refl, refl)

pub legal : (v : SectionState) (l : Direction) (e : Event) → Holds (state_needs v e) → Legal (change_on l v.section e) (row_of l v.section) (detector_on l v)
legal v l (event.Acknowledge a y t) k = pending_legal v l v.section.bell y t k.1
legal v l (event.Send n a code.TrainOut t) k = grind (arith, nat_tests)
legal v l (event.StopControl n Reversed) k = grind (arith, nat_tests)
legal v l e k = grind (arith, nat_tests)
