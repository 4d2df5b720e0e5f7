-- What calls of the switch come to, one after another.
use Rattle.std.specs.Prelude.{◌≡◌, ◌⊎◌, ℕ, ◌<◌, slice_get, nat_lt, Bool, true, false, if◌then◌else◌, List, [], ◌∷◌, ◌++◌, length, Option, Some, None, Result, Ok, Err}
use Rattle.std.specs.Global.{Vec}
use Rattle.host_frames.specs.Frames.{IsBodyOf, IsSpelling, Said, Tells, Transfers}
use Rattle.host_frames.specs.declared.frame.Notice.TheVariants.{Begin}
use Rattle.host_frames.specs.declared.frame.Transfer.TheVariants.{Key}
use Rattle.i8080_words.specs.declared.refusal.Fault.{Fault}
use Rattle.outside_switch.specs.Causes.{CameOn, MayCut}
use Rattle.outside_switch.specs.Heeds.{HeedsBody}
use Rattle.outside_switch.specs.declared.heard.BodyOutcome.{BodyOutcome}
use Rattle.outside_switch.specs.declared.heard.BodyOutcome.TheVariants.{Nothing}
use Rattle.outside_switch.specs.Lines.{AtPlace, IsClosed, IsNamed, LineGoes, MayBeGiven, NoneWaits, OneLine, Posts}
use Rattle.outside_switch.specs.Meets.{Meets, MeetsWith, Seen}
use Rattle.outside_switch.specs.Passing.{Passed, passed_by_calls}
use Rattle.outside_switch.specs.declared.line.HostLine.{HostLine}

-- only the line of one place became another
pub record Lines (place : ℕ) (Becomes : HostLine → HostLine → Type 0) (old new : Seen) : Type 0 where
  pub lines : AtPlace place Becomes old.lines new.lines
  pub devices : new.devices ≡ old.devices

-- a body came from the host at a place
pub record Takes (place : ℕ) (body : Vec ℕ) (old new : Seen) : Type 0 where
  pub lines : OneLine place (LineGoes (body ∷ []) []) old.lines new.lines
  pub devices : new.devices ≡ old.devices

-- a host was told to begin a generation with that one at a place, once the host of the generation is counted
pub record Begins (place generation : ℕ) (old new : Seen) : Type 0 where
  pub to : ℕ
  pub bytes : Vec ℕ
  pub spelled : IsSpelling (Tells (Begin generation place)) bytes.items
  pub counted : generation < new.devices.hosts
  pub meets : Meets None old new
  pub passes : passed_by_calls meets.called ≡ []
  pub pushed : meets.pushed ≡ record { place = to; bytes = bytes } ∷ []

-- that, or only the host of the generation is counted
abbrev pub BeginsSo : ℕ → ℕ → Bool → Seen → Seen → Type 0
BeginsSo place generation true old new = Begins place generation old new
BeginsSo place generation false old new = MeetsWith [] None old new

-- one move
pub data Moves (old new : Seen) : Type 0 where
  -- nobody said anything
  Acts : Meets None old new → Moves old new
  -- what a host said was met
  Hears : (taken : Seen) (place : ℕ) (body : Vec ℕ) (said : Said) → Takes place body old taken →
      IsBodyOf said body.items → Meets (Some (record { place = place; said = said })) taken new → Moves old new
  -- what came from a host was dropped
  Drops : (place : ℕ) (body : Vec ℕ) → Takes place body old new → Moves old new
  -- a host is cut off, for a cause
  Closes : (place : ℕ) → MayCut old.lines place → Lines place IsClosed old new → Moves old new
  -- a host is this one of the law from now on: it was given to a generation, and has its number
  Names : (begun : Seen) (place generation : ℕ) → MayBeGiven generation place old.lines →
      Begins place generation old begun → Lines place (IsNamed generation) begun new → Moves old new

-- how it went on from its first state, move by move
pub data Goes (first : Seen) : Seen → Type 0 where
  Rests : Goes first first
  Next : {mid : Seen} (new : Seen) → Goes first mid → Moves mid new → Goes first new

-- what passed between the devices and the user by a move, and on the way
abbrev pub passed_by : {old new : Seen} → Moves old new → List Passed
passed_by (Acts meets) = passed_by_calls meets.called
passed_by (Hears taken place body said takes is meets) = passed_by_calls meets.called
passed_by (Drops place body takes) = []
passed_by (Closes place cause closes) = []
passed_by (Names begun place generation may begins names) = passed_by_calls begins.meets.called

abbrev pub passed_in : {first last : Seen} → Goes first last → List Passed
passed_in Rests = []
passed_in (Next new before move) = passed_in before ++ passed_by move

pub record GoesWith (passed : List Passed) (first last : Seen) : Type 0 where
  pub way : Goes first last
  pub passes : passed_in way ≡ passed

-- what a host said was met, and then it may be cut off
pub record HearsFrame (passed : List Passed) (place : ℕ) (said : Said) (old new : Seen) : Type 0 where
  pub met : Seen
  pub meets : MeetsWith passed (Some (record { place = place; said = said })) old met
  pub goes : GoesWith [] met new

-- a body was dropped, or what it says was met
abbrev pub HearsBody : List Passed → ℕ → List ℕ → Seen → Seen → Type 0
HearsBody passed place body old new =
    GoesWith passed old new ⊎ ((said : Said) × IsBodyOf said body × HearsFrame passed place said old new)

-- a body came from the host at a place, or none waits
abbrev pub NextSo : ℕ → Option (Vec ℕ) → Seen → Seen → Type 0
NextSo place (Some body) old new = Takes place body old new
NextSo place None old new = MeetsWith [] None old new × (new.devices ≡ old.devices) × NoneWaits (slice_get new.lines place)

abbrev pub HeedsNext : ℕ → List Bool → Option (Vec ℕ) → Seen → Seen → BodyOutcome → Type 0
HeedsNext place rooms None taken new heard = (new ≡ taken) × (heard ≡ Nothing)
HeedsNext place rooms (Some body) taken new heard =
    HeedsBody place rooms body.items taken.lines taken.devices new.devices heard

-- a host was told to begin a generation, and another one has its number now; or nobody has another number
pub record Begun (place generation : ℕ) (old new : Seen) : Type 0 where
  pub told : Seen
  pub may : MayBeGiven generation place old.lines
  pub begins : Begins place generation old told
  pub names : Lines place (IsNamed generation) told new

abbrev pub BegunSo : ℕ → ℕ → Bool → Seen → Seen → Type 0
BegunSo place generation true old new = Begun place generation old new
BegunSo place generation false old new = MeetsWith [] None old new

-- the key of an index was sent to the host at a place, or lost; one that is not kept is not sent
abbrev pub SendsKey : Result ℕ Fault → ℕ → ℕ → ℕ → Bool → List HostLine → List HostLine → Type 0
SendsKey (Ok byte) place port index is_sent old new = Posts place (Transfers (Key port index byte)) is_sent old new
SendsKey (Err why) place port index is_sent old new = (is_sent ≡ false) × (new ≡ old)

-- What was heard of the host at a place: nothing, and then no body of it is known to wait; or what becomes known of the body
-- that came.
pub record HearsNext (place : ℕ) (rooms : List Bool) (old new : Seen) (heard : BodyOutcome) : Type 0 where
  pub body : Option (Vec ℕ)
  pub taken : Seen
  pub next : NextSo place body old taken
  pub heeds : HeedsNext place rooms body taken new heard
  pub on : CameOn taken.lines new.lines

-- ---- before it goes

-- which host of the law is at a place at first: those of generation 1
abbrev pub first_number : ℕ → Option ℕ
first_number place = if nat_lt place 2 then Some place else None

-- one place more, and its line
pub record Adds (line : HostLine) (old new : Seen) : Type 0 where
  pub number : line.number ≡ first_number (length old.lines)
  pub lines : new.lines ≡ old.lines ++ line ∷ []
  pub devices : new.devices ≡ old.devices
