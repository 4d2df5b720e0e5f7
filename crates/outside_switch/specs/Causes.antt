-- For what causes a host is cut off, by what has come from it.
use Rattle.std.specs.Prelude.{◌≡◌, ℕ, ◌<◌, Bool, true, false, not, nat_lt, List, [], length, Option, None, Some, slice_get}
use Rattle.host_frames.specs.Frames.{IsBodyOf, Said, Packet, Transfers, Tells}
use Rattle.host_frames.specs.StreamReading.{contents_of}
use Rattle.host_frames.specs.declared.frame.Notice.TheVariants.{Join, Progress, Report, Suspect}
use Rattle.host_frames.specs.declared.frame.Transfer.TheVariants.{Byte, Get, Inspected, Write}
use Rattle.outside_switch.specs.Heeds.{open_in}
use Rattle.outside_switch.specs.declared.line.HostLine.{HostLine}
use Rattle.pair_protocol.specs.Faithful.{IsPrefix}
use Rattle.pair_protocol.specs.Lawful.{Among}
use Rattle.rtrb.specs.Ring.{received}

-- ---- what has come

-- the bodies that have come from the host at a place, from the first on
abbrev pub came_in : Option HostLine → List (List ℕ)
came_in None = []
came_in (Some line) = contents_of (received line.from)

abbrev pub came_at : List HostLine → ℕ → List (List ℕ)
came_at lines place = came_in (slice_get lines place)

-- whatever has come stays, and more may come after it
abbrev pub CameOn : List HostLine → List HostLine → Type 0
CameOn old new = (place : ℕ) → IsPrefix (came_at old place) (came_at new place)

-- ---- causes

-- whether a frame means nothing among so many places: it names none of them, or is one that only hosts are sent
abbrev pub means_nothing : ℕ → Said → Bool
means_nothing places (Packet host bytes) = not (nat_lt host places)
means_nothing places (Tells (Join generation host drives count)) = not (nat_lt host places)
means_nothing places (Tells (Progress host entries count)) = not (nat_lt host places)
means_nothing places (Tells (Suspect generation)) = false
means_nothing places (Tells (Report report)) = false
means_nothing places (Tells notice) = true
means_nothing places (Transfers (Byte port number byte)) = false
means_nothing places (Transfers (Write write)) = false
means_nothing places (Transfers (Get address)) = false
means_nothing places (Transfers (Inspected number count bytes)) = false
means_nothing places (Transfers transfer) = true

-- what came from a host, among so many places, is why it may be cut off
pub data MayBeCut (places : ℕ) (came : List (List ℕ)) : Type 0 where
  -- its stream has ended, which an empty body says
  HasEnded : Among [] came → MayBeCut places came
  -- a body is no frame
  IsNoFrame : (body : List ℕ) → Among body came → ((said : Said) → IsBodyOf said body → ⊥) → MayBeCut places came
  -- a frame means nothing
  MeansNothing : (body : List ℕ) (said : Said) → Among body came → IsBodyOf said body → means_nothing places said ≡ true →
      MayBeCut places came
  -- it has sent more than the bound of a flood
  HasFlooded : 32768 < length came → MayBeCut places came

-- the same, of the host at a place
abbrev pub MayCut : List HostLine → ℕ → Type 0
MayCut lines place = MayBeCut (length lines) (came_at lines place)

-- whoever is cut off has given a cause
abbrev pub AreCutForCause : List HostLine → Type 0
AreCutForCause lines = (place : ℕ) → place < length lines → open_in (slice_get lines place) ≡ false → MayCut lines place
