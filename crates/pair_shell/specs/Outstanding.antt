-- The names of what is outstanding at a guest.
use Rattle.std.specs.Prelude.{◌≡◌, ℕ, ◌+◌, ◌-◌, ◌^◌, min, if◌then◌else◌, is_some, Option, Some, None, List, [], ◌∷◌, ◌++◌, length, map}
use Rattle.std.specs.List.{flat_map, range_with_len}
use Rattle.disk_dcdd.specs.declared.sector.Place.{Place}
use Rattle.event_callbacks.specs.declared.operations.OpId.{OpId}
use Rattle.event_callbacks.specs.declared.operations.OpId.TheVariants as id
use Rattle.guest_lockstep.specs.Machine.{Machine}
use Rattle.ft_world.specs.Guests.{machine_at}
use Rattle.pair_protocol.specs.World.{World}

abbrev pub write_at : Place → OpId
write_at place = id.Write place.number

module _ {S : Type 0} (M : Machine S) (s : S) where
  -- a byte of a port, if it is outstanding
  abbrev pub byte_out : ℕ → ℕ → List OpId
  byte_out port number = if is_some (M.find s (id.Byte port number)) then id.Byte port number ∷ [] else []

  -- those of so many bytes of a port from this one on
  abbrev pub bytes_to : ℕ → ℕ → ℕ → List OpId
  bytes_to port due count = flat_map (λ place. byte_out port (min (due + place) (2 ^ 64 - 1))) (range_with_len 0 count)

  -- those of the sixteen bytes from the one that is due on
  abbrev pub bytes_from : ℕ → Option ℕ → List OpId
  bytes_from port None = []
  bytes_from port (Some due) = bytes_to port due 16

  abbrev pub bytes_out : ℕ → List OpId
  bytes_out port = bytes_from port (M.due_byte s port)

  -- the bytes of both ports, and the writes at these places
  abbrev pub names_out : List Place → List OpId
  names_out places = (bytes_out 0 ++ bytes_out 1) ++ map write_at places

-- the names at a node are those of a guest with the machine that it shows; if it shows none, there are none
abbrev pub AreNames : {B S : Type 0} → (B → S) → (B → List Place) → Machine S → Option S → List OpId → Type 0
AreNames state writes M None names = names ≡ []
AreNames {B} state writes M (Some s) names = (guest : B) × (state guest ≡ s) × (names ≡ names_out M s (writes guest))

-- so many operations are outstanding at a node
abbrev pub AreOut : {B S : Type 0} → (B → S) → (B → List Place) → Machine S → World S → ℕ → ℕ → Type 0
AreOut state writes M w n count =
    (names : List OpId) × AreNames state writes M (machine_at w.nodes n) names × (count ≡ length names)
