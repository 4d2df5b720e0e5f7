-- What the disk has of a sector: the newest of its writes that have arrived.
use Rattle.std.specs.Prelude.{◌≡◌, ℕ, ◌<◌, ◌≤◌, List, slice_get, Option, Some, None, MatchOption, Result, Ok}
use Rattle.disk_dcdd.specs.declared.address.SectorAddress.{SectorAddress}
use Rattle.i8080_words.specs.declared.refusal.Fault.{Fault}
use Rattle.pair_events.specs.declared.event.Event.{Event}
use Rattle.pair_events.specs.declared.event.Event.TheVariants as event
use Rattle.pair_events.specs.declared.reply.Reply.{Reply}
use Rattle.sequence_diagram.specs.Waits.{HasCargo}
use Rattle.sequence_diagram.specs.declared.kept.Arrival.{Arrival}
use Rattle.sequence_diagram.specs.declared.moment.Cargo.{Cargo}
use Rattle.sequence_diagram.specs.declared.moment.Cargo.TheVariants as cargo
use Rattle.sequence_diagram.specs.declared.moment.Moment.{Moment}

-- the write that a message carries
abbrev pub write_of : Option Cargo → Option Arrival
write_of (Some (cargo.Write number address)) = Some (record { number = number; address = address })
write_of other = None

-- what has arrived is no newer write of a sector than this one; it is this one
abbrev pub IsAtMost : SectorAddress → ℕ → Option Arrival → Type 0
IsAtMost address number (Some arrival) = arrival.address ≡ address → arrival.number ≤ number
IsAtMost address number None = Unit {0}

abbrev pub IsOne : SectorAddress → ℕ → Option Arrival → Type 0
IsOne address number (Some arrival) = (arrival.address ≡ address) × (arrival.number ≡ number)
IsOne address number None = ⊥

module _ (moments : List Moment) where
  -- what has arrived at the disk at a place of a run, if the disk has answered it
  abbrev pub HasArrivalBy : ℕ → Event → Result Reply Fault → Option Arrival → Type 0
  HasArrivalBy place (event.Put message) (Ok answer) found =
      (carried : Option Cargo) × (HasCargo moments place carried × (found ≡ write_of carried))
  HasArrivalBy place happened answer found = found ≡ None

  abbrev pub HasArrival : ℕ → Option Arrival → Type 0
  HasArrival place found = MatchOption (slice_get moments place) (found ≡ None)
      (λ moment. HasArrivalBy place moment.event moment.answer found)

  -- the greatest number of a write of a sector that has arrived before a place of the run; 0 if none has
  pub record IsNewest (place : ℕ) (address : SectorAddress) (newest : ℕ) : Type 0 where
    pub none_newer : (k : ℕ) → k < place → (found : Option Arrival) × (HasArrival k found × IsAtMost address newest found)
    pub is_one : 0 < newest → (k : ℕ) × ((k < place) × ((found : Option Arrival) × (HasArrival k found × IsOne address newest found)))
