-- What is said to the hosts: what one of them said to another, but for the place in it, or what the devices answered.
use Rattle.std.specs.Prelude.{◌≡◌, ◌⊎◌, ℕ, List, Option, Some, None}
use Rattle.host_law.specs.Frame as law
use Rattle.pair_protocol.specs.Lawful.{Among}
use Rattle.host_frames.specs.Frames.{IsSpelling, Said, Packet, Tells}
use Rattle.host_frames.specs.Meaning.{IsTold, Means}
use Rattle.host_frames.specs.declared.frame.Notice.TheVariants.{Join, Progress}
use Rattle.outside_switch.specs.Lines.{Pushed, number_at}
use Rattle.outside_switch.specs.declared.line.HostLine.{HostLine}

-- what the host at a place said
pub record Saying : Type 0 where
  pub place : ℕ
  pub said : Said

-- a packet, a Join and a Progress name the place where they go, and come with the place where they are from
pub data IsPassed (from to : ℕ) (number : Option ℕ) : Said → Said → Type 0 where
  OfPacket : (bytes : List ℕ) → IsPassed from to number (Packet to bytes) (Packet from bytes)
  OfProgress : (entries count : ℕ) →
      IsPassed from to number (Tells (Progress to entries count)) (Tells (Progress from entries count))
  -- only the host of its number is told to join a generation
  OfJoin : (generation drives count : ℕ) → number ≡ Some generation →
      IsPassed from to number (Tells (Join generation to drives count)) (Tells (Join generation from drives count))

-- the host at a place may be this one of the law: it is its number, if it has one
abbrev pub IsHost : Option ℕ → ℕ → Type 0
IsHost None host = Unit {0}
IsHost (Some number) host = host ≡ number

-- a frame was spelled that means only what the devices have sent
abbrev pub IsAnswer : List HostLine → List law.Frame → Pushed → Said → Type 0
IsAnswer lines written p said = (drives host : ℕ) (frame : law.Frame) → IsHost (number_at lines p.place) host →
    Means drives host said frame → Among frame written

abbrev pub IsFrom : List HostLine → Option Saying → List law.Frame → Pushed → Said → Type 0
IsFrom lines None written p said = IsAnswer lines written p said
IsFrom lines (Some heard) written p said =
    IsPassed heard.place p.place (number_at lines p.place) heard.said said ⊎ IsAnswer lines written p said

pub record IsRight (lines : List HostLine) (heard : Option Saying) (written : List law.Frame) (p : Pushed) : Type 0 where
  pub said : Said
  pub spelled : IsSpelling said p.bytes.items
  pub from : IsFrom lines heard written p said

-- what the host at a place said brings what it means
abbrev pub Brings : ℕ → List HostLine → Option Saying → List law.Frame → Type 0
Brings drives lines None frames = Unit {0}
Brings drives lines (Some heard) frames = (host : ℕ) × IsHost (number_at lines heard.place) host × IsTold drives host heard.said frames
