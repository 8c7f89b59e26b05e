-- What a sheet is, and when and where reading one stops. Assumes nothing.
use Rattle.std.specs.Prelude.{◌≡◌, ℕ, ◌+◌, ◌<◌, ◌≤◌, ◌⊎◌, List, [], ◌∷◌, ◌++◌, length, drop, Some, None, Ok, Err, Option, Result}
use Rattle.std.specs.List.{flat_map, AllByRecursion}
use Rattle.events.specs.declared.event.LocatedEvent.{LocatedEvent}
use Rattle.events.specs.declared.event.SectionEvent.{SectionEvent}
use Rattle.events.specs.Written.{written_number, numbers_in, written_event, written_sheet, located, Proper}
use Rattle.format.specs.declared.fault.Reason.{Reason}
use Rattle.format.specs.declared.fault.Reason.TheVariants.{Ends, Form, Value}
use Rattle.format.specs.declared.fault.RunFault.{RunFault}
use Rattle.format.specs.declared.fault.RunFault.TheVariants.{Read, Sections, Memory}
use Rattle.format.specs.Numbers.{fault}

-- What is accepted.

-- a bench has 1 to 8 sections
pub record SectionCount (n : ℕ) : Type 0 where
  pub some : 1 ≤ n
  pub few : n ≤ 8

-- s is the sheet of a section count and a list of events
pub record Sheet (s : List ℕ) (count : ℕ) (es : List SectionEvent) : Type 0 where
  pub bytes : s ≡ written_sheet count es
  pub short : length s ≤ 65536
  pub sections : SectionCount count
  pub proper : AllByRecursion Proper es

abbrev pub Accepted : List ℕ → Type 0
Accepted s = (count : ℕ) × (es : List SectionEvent) × Sheet s count es

-- How far reading had come.

-- xs stands in s from the place p up to q
pub record Stands (s : List ℕ) (p q : ℕ) (xs : List ℕ) : Type 0 where
  pub after : q ≡ p + length xs
  pub bytes : drop p s ≡ xs ++ drop q s

-- some proper event has the numbers ns first, and then n
pub record GoesOn (ns : List ℕ) (n : ℕ) : Type 0 where
  pub event : SectionEvent
  pub proper : Proper event
  pub more : List ℕ
  pub numbers : ns ++ n ∷ more ≡ numbers_in event

-- the numbers ns begin an event, which has more of them
abbrev pub Begun : List ℕ → Type 0
Begun ns = (n : ℕ) × GoesOn ns n

-- s begins with the written form of a section count, the events es and the numbers ns of one more event, up to p
pub record ReadUpTo (s : List ℕ) (p count : ℕ) (es : List SectionEvent) (ns : List ℕ) : Type 0 where
  pub sections : SectionCount count
  pub proper : AllByRecursion Proper es
  pub begun : Begun ns
  pub stands : Stands s 0 p (written_sheet count es ++ flat_map written_number ns)

-- a number is wanted at p: the section count, or one of an event
abbrev pub Wanted : List ℕ → ℕ → Option ℕ → List SectionEvent → List ℕ → Type 0
Wanted s p None es ns = (p ≡ 0) × (es ≡ []) × (ns ≡ [])
Wanted s p (Some count) es ns = ReadUpTo s p count es ns

-- What stands where a number is wanted.

-- bs begins with the written form of n
pub record Begins (bs : List ℕ) (n : ℕ) : Type 0 where
  pub rest : List ℕ
  pub whole : bs ≡ written_number n ++ rest

-- bs is the written form of a number of three bytes at most, but for its last byte or bytes
pub record Cut (bs : List ℕ) : Type 0 where
  pub number : ℕ
  pub three_bytes : number < 2097152
  pub next : ℕ
  pub more : List ℕ
  pub whole : bs ++ next ∷ more ≡ written_number number

-- the first byte is 128, so that the number has a shorter form
abbrev pub Padded : List ℕ → Type 0
Padded bs = (rest : List ℕ) × (bs ≡ 128 ∷ rest)

-- the third byte does not end the number
pub record Endless (bs : List ℕ) : Type 0 where
  pub one : ℕ
  pub two : ℕ
  pub three : ℕ
  pub rest : List ℕ
  pub whole : bs ≡ one ∷ two ∷ three ∷ rest
  pub high_one : 128 < one
  pub high_two : 128 ≤ two
  pub high_three : 128 ≤ three

-- a number of three bytes that is above 65,535
pub record TooLarge (bs : List ℕ) : Type 0 where
  pub number : ℕ
  pub begins : Begins bs number
  pub large : 65535 < number
  pub three_bytes : number < 2097152

-- bs, which stands at p, is no number, which is told at o: at its first byte, or at its last where it is too large
abbrev pub Malformed : List ℕ → ℕ → ℕ → Type 0
Malformed bs p o = ((o ≡ p) × (Padded bs ⊎ Endless bs)) ⊎ ((o ≡ p + 2) × TooLarge bs)

-- What is refused, and where.

-- 1: the sheet ends inside a number or an event; the number that is cut short, or missing, is told at o
pub record EndsInside (s : List ℕ) (o : ℕ) (sections : Option ℕ) (es : List SectionEvent) : Type 0 where
  pub short : length s ≤ 65536
  pub numbers : List ℕ
  pub wanted : Wanted s o sections es numbers
  pub cut : Cut (drop o s)
  -- the sheet may end between two events
  pub inside : (sections ≡ None) ⊎ (0 < length numbers + length (drop o s))

-- 2: a number is not well formed
pub record BadForm (s : List ℕ) (o : ℕ) (sections : Option ℕ) (es : List SectionEvent) : Type 0 where
  pub short : length s ≤ 65536
  pub numbers : List ℕ
  pub place : ℕ
  pub wanted : Wanted s place sections es numbers
  pub malformed : Malformed (drop place s) place o

-- 3: a number with which no event goes on
pub record BadValue (s : List ℕ) (o : ℕ) (sections : Option ℕ) (es : List SectionEvent) : Type 0 where
  pub short : length s ≤ 65536
  pub numbers : List ℕ
  pub count : ℕ
  pub counted : sections ≡ Some count
  pub read : ReadUpTo s o count es numbers
  pub number : ℕ
  pub fits : number ≤ 65535
  pub begins : Begins (drop o s) number
  pub stuck : GoesOn numbers number → ⊥

-- nothing was told
abbrev pub Nothing : Option ℕ → List SectionEvent → Type 0
Nothing sections es = (sections ≡ None) × (es ≡ [])

-- 3: the sheet is too long
pub record TooLong (s : List ℕ) (o : ℕ) (sections : Option ℕ) (es : List SectionEvent) : Type 0 where
  pub long : 65536 < length s
  pub end : o ≡ 65536
  pub nothing : Nothing sections es

-- 4: the section count is not 1 to 8
pub record BadCount (s : List ℕ) (sections : Option ℕ) (es : List SectionEvent) : Type 0 where
  pub short : length s ≤ 65536
  pub number : ℕ
  pub fits : number ≤ 65535
  pub begins : Begins s number
  pub outside : SectionCount number → ⊥
  pub nothing : Nothing sections es

abbrev pub StopsFor : Reason → List ℕ → ℕ → Option ℕ → List SectionEvent → Type 0
StopsFor Ends s o sections es = EndsInside s o sections es
StopsFor Form s o sections es = BadForm s o sections es
StopsFor Value s o sections es = BadValue s o sections es ⊎ TooLong s o sections es

-- What is answered.

abbrev pub Outcome : Type 0
Outcome = Result (Unit {0}) RunFault

-- memory is wanted for one more event, which stands next
pub record WantsMemory (s : List ℕ) (sections : Option ℕ) (es : List SectionEvent) : Type 0 where
  pub short : length s ≤ 65536
  pub count : ℕ
  pub counted : sections ≡ Some count
  pub section_count : SectionCount count
  pub proper : AllByRecursion Proper es
  pub place : ℕ
  pub stands : Stands s 0 place (written_sheet count es)
  pub next : SectionEvent
  pub next_proper : Proper next
  pub after : ℕ
  pub next_stands : Stands s place after (written_event next)

-- the answer to s, the section count told and the events told
abbrev pub Tells : List ℕ → Outcome → Option ℕ → List SectionEvent → Type 0
Tells s (Ok _) sections es = (count : ℕ) × (sections ≡ Some count) × Sheet s count es
Tells s (Err (Read f)) sections es = StopsFor f.reason s f.offset sections es
Tells s (Err Sections) sections es = BadCount s sections es
Tells s (Err Memory) sections es = WantsMemory s sections es

-- every sheet is told in one way, if memory lasts
abbrev pub OneTelling : Type 0
OneTelling =
    (s : List ℕ) (r t : Outcome) (c d : Option ℕ) (es ds : List SectionEvent)
    → Tells s r c es → Tells s t d ds → (r ≡ Err Memory) ⊎ ((t ≡ Err Memory) ⊎ ((r ≡ t) × (c ≡ d) × (es ≡ ds)))

-- where the first event stands
abbrev pub first_place : Option ℕ → ℕ
first_place None = 0
first_place (Some count) = length (written_number count)

-- the same, with each event at its place
pub record Told (s : List ℕ) (r : Outcome) (sections : Option ℕ) (events : List LocatedEvent) : Type 0 where
  pub es : List SectionEvent
  pub tells : Tells s r sections es
  pub places : events ≡ located (first_place sections) es

-- r is the answer `answer` exactly when P, if memory lasts
pub record Exactly (r answer : Outcome) (P : Type 0) : Type 0 where
  pub only_when : r ≡ answer → P
  pub whenever : P → (r ≡ answer) ⊎ (r ≡ Err Memory)

abbrev pub StopsSo : Reason → List ℕ → ℕ → Type 0
StopsSo reason s o = (sections : Option ℕ) × (es : List SectionEvent) × StopsFor reason s o sections es

-- each answer is given exactly when it is due
pub record AnswersExactly (s : List ℕ) (r : Outcome) : Type 0 where
  pub accepted : Exactly r (Ok tt) (Accepted s)
  pub stopped : (reason : Reason) (o : ℕ) → Exactly r (Err (Read (fault reason o))) (StopsSo reason s o)
  pub miscounted : Exactly r (Err Sections) ((sections : Option ℕ) × (es : List SectionEvent) × BadCount s sections es)

-- a count and events have one written form, and s has at most one reading
pub record OneReading (s : List ℕ) : Type 0 where
  pub one_form : (t : List ℕ) (count : ℕ) (es : List SectionEvent) → Sheet s count es → Sheet t count es → s ≡ t
  pub one_meaning : (c d : ℕ) (es ds : List SectionEvent) → Sheet s c es → Sheet s d ds → (c ≡ d) × (es ≡ ds)
