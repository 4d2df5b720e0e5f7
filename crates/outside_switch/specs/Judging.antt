-- What becomes of a host by what it sends.
use Rattle.std.specs.Prelude.{◌≡◌, ℕ, ◌-◌, ◌<◌, ◌≤◌, nat_le, Bool, false, true, List, length, slice_get}
use Rattle.outside_switch.specs.Causes.{came_at}
use Rattle.outside_switch.specs.Goes.{HearsNext}
use Rattle.outside_switch.specs.Heeds.{OthersStay, open_in}
use Rattle.outside_switch.specs.Meets.{seen}
use Rattle.outside_switch.specs.declared.heard.BodyOutcome.{BodyOutcome}
use Rattle.outside_switch.specs.declared.switch.Switch.{Switch}
use Rattle.outside_switch.specs.Floods.{accepted_one, came_of, count_at, has_flooded, refused_one, rested, sent_one}
use Rattle.outside_switch.specs.declared.flood.Came.{Came}
use Rattle.outside_switch.specs.declared.flood.Came.TheVariants.{Accepted, Nothing, Refused, Taken}
use Rattle.outside_switch.specs.declared.flood.Flood.{Flood}
use Rattle.outside_switch.specs.declared.session.Session.{Session}

-- whether a host is at a place and not cut off
abbrev pub is_open : {D : Type 0} → Switch D → ℕ → Bool
is_open switch place = open_in (slice_get switch.lines.items place)

-- whoever has sent too much is cut off
abbrev pub FloodersAreCut : {D S : Type 0} → Session D S → Type 0
FloodersAreCut s = (place : ℕ) → has_flooded s.flood place ≡ true → is_open s.switch place ≡ false

-- no more bodies are counted of a host than have come from it
abbrev pub AreCounted : {D S : Type 0} → Session D S → Type 0
AreCounted s = (place : ℕ) → count_at s.flood.sent place ≤ length (came_at s.switch.lines.items place)

-- one body has come from a host that is not counted
abbrev pub HasOneMore : {D S : Type 0} → ℕ → Session D S → Type 0
HasOneMore place s = count_at s.flood.sent place < length (came_at s.switch.lines.items place)

-- the counts are these now, and no host is cut off
pub record IsCounted {D S : Type 0} (flood : Flood) (old new : Session D S) : Type 0 where
  pub flood_is : new.flood ≡ flood
  pub switch : new.switch ≡ old.switch

-- the counts are these now, and this host is cut off, and no other
pub record IsCutOff {D S : Type 0} (place : ℕ) (flood : Flood) (old new : Session D S) : Type 0 where
  pub flood_is : new.flood ≡ flood
  pub cut : is_open new.switch place ≡ false
  pub others : OthersStay place old.switch.lines.items new.switch.lines.items

-- a body was taken, which is one too many or not
abbrev pub TakesOne : {D S : Type 0} → Bool → ℕ → Session D S → Session D S → Type 0
TakesOne true place old new = IsCutOff place (refused_one place (sent_one place old.flood)) old new
TakesOne false place old new = IsCounted (sent_one place old.flood) old new

-- by what became of the next body of the host at a place
abbrev pub Judges : {D S : Type 0} → Came → ℕ → Session D S → Session D S → Type 0
Judges Nothing place old new = IsCounted (rested place old.flood) old new
Judges Refused place old new = IsCounted (refused_one place old.flood) old new
Judges Taken place old new = TakesOne (has_flooded (sent_one place old.flood) place) place old new
Judges Accepted place old new = IsCounted (accepted_one place old.flood) old new

-- it was heard
pub record HearsOne {D S : Type 0} (place : ℕ) (heard : BodyOutcome) (old new : Session D S) : Type 0 where
  pub rooms : List Bool
  pub hears : HearsNext place rooms (seen old.switch) (seen new.switch) heard
  pub flood : new.flood ≡ old.flood

-- and counted
pub record HearsAndCounts {D S : Type 0} (place : ℕ) (old new : Session D S) : Type 0 where
  pub heard : BodyOutcome
  pub met : Session D S
  pub hears : HearsOne place heard old met
  pub judges : Judges (came_of heard (is_open old.switch place)) place met new

-- whether it is time for a tick: the last one was 50,000 microseconds ago
abbrev pub is_due : ℕ → ℕ → Bool
is_due now ticked = nat_le 50000 (now - ticked)
