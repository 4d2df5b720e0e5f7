-- What a terminal has accepted in a run, and how that is said below its picture.
use Rattle.std.specs.Prelude.{◌≡◌, ℕ, zero, suc, ◌-◌, ◌==◌, nat_lt, Bool, true, false, if◌then◌else◌, List, [], ◌∷◌, ◌++◌, drop, length, slice_get, Option, Some, None, MatchOption, Result, Ok, codes}
use Rattle.std.specs.Fmt.{decimal}
use Rattle.std.specs.List.{flat_map}
use Rattle.i8080_words.specs.declared.refusal.Fault.{Fault}
use Rattle.pair_events.specs.Printed.{◌␣◌}
use Rattle.pair_events.specs.declared.reply.Reply.{Reply}
use Rattle.pair_events.specs.declared.reply.Reply.TheVariants as reply
use Rattle.sequence_diagram.specs.Waits.{HasCargo}
use Rattle.sequence_diagram.specs.Words.{named_byte}
use Rattle.sequence_diagram.specs.declared.moment.Cargo.{Cargo}
use Rattle.sequence_diagram.specs.declared.moment.Cargo.TheVariants as cargo
use Rattle.sequence_diagram.specs.declared.moment.Moment.{Moment}

-- the byte for the terminal of a port that a message carries
abbrev pub byte_for : ℕ → Option Cargo → Option ℕ
byte_for port (Some (cargo.Byte other number byte)) = if other == port then Some byte else None
byte_for port other = None

abbrev pub bytes_of : Option ℕ → List ℕ
bytes_of (Some byte) = byte ∷ []
bytes_of None = []

module _ (moments : List Moment) (port : ℕ) where
  -- the byte that the terminal accepted at a place of the run
  abbrev pub IsAcceptedBy : ℕ → Result Reply Fault → Option ℕ → Type 0
  IsAcceptedBy place (Ok reply.Accepted) found =
      (carried : Option Cargo) × (HasCargo moments place carried × (found ≡ byte_for port carried))
  IsAcceptedBy place answer found = found ≡ None

  abbrev pub IsAcceptedAt : ℕ → Option ℕ → Type 0
  IsAcceptedAt place found = MatchOption (slice_get moments place) (found ≡ None)
      (λ moment. IsAcceptedBy place moment.answer found)

  -- the bytes that it has accepted in so many events: with each event the one that it accepted then, if it did, after the others
  abbrev pub HasAccepted : ℕ → List ℕ → Type 0
  HasAccepted zero bytes = bytes ≡ []
  HasAccepted (suc place) bytes = (before : List ℕ) × (HasAccepted place before × ((found : Option ℕ)
      × (IsAcceptedAt place found × (bytes ≡ before ++ bytes_of found))))

-- the last sixteen bytes are said, and that there are more
abbrev pub begun_text : ℕ → Bool → List ℕ
begun_text port false = codes "terminal" ␣ decimal port ++ codes " has accepted"
begun_text port true = codes "terminal" ␣ decimal port ++ codes " has accepted .."

abbrev pub spaced_bytes : List ℕ → List ℕ
spaced_bytes bytes = flat_map (λ (byte : ℕ). 32 ∷ named_byte byte) bytes

abbrev pub accepted_text : ℕ → List ℕ → List ℕ
accepted_text port [] = codes "terminal" ␣ decimal port ++ codes " has accepted nothing"
accepted_text port (byte ∷ bytes) =
    begun_text port (nat_lt 16 (length (byte ∷ bytes))) ++ spaced_bytes (drop (length (byte ∷ bytes) - 16) (byte ∷ bytes))
