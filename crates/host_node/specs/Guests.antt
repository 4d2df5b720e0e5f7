-- What the guest of a host says of itself: which ports have room for a key, whether it polls, and which of its writes are outstanding.
use Rattle.disk_dcdd.specs.declared.sector.Place.{Place}
use Rattle.event_callbacks.specs.declared.devices.TheConstants.{PORTS}
use Rattle.guest_lockstep.specs.Machine.{Machine}
use Rattle.host_node.specs.Looks.{HasGuest}
use Rattle.host_node.specs.declared.host.Hosted.{Hosted}
use Rattle.std.specs.List.{find}
use Rattle.std.specs.Option.{option_map, option_map_or}
use Rattle.std.specs.Prelude.{◌≡◌, ℕ, nat_le, nat_lt, Bool, false, true, ◌||◌, if◌then◌else◌, Option, Some, None, List, length}

-- the number of the first write from this number on; writes are in order of number
abbrev pub number_from : List Place → (from : ℕ) → Option ℕ
number_from writes from = option_map (λ (write : Place). write.number) (find (λ (write : Place). nat_le from write.number) writes)

-- whether a port keeps a key; one that there is not keeps none
abbrev pub keeps_at : (ℕ → Bool) → (port : ℕ) → Bool
keeps_at keeps port = if nat_lt port PORTS then keeps port else false

-- whether a guest polls; one that there is not does not
abbrev pub PollsIf : {B : Type 0} → (B → Type 0) → Option B → Bool → Type 0
PollsIf polls None given = given ≡ false
PollsIf polls (Some guest) true = polls guest
PollsIf polls (Some guest) false = polls guest → ⊥

module _ {B S : Type 0} {H : Type 0} (state : B → S) (M : Machine S) where
  -- what a guest with the state of the host's says, or this if the host has none
  pub record Says {A : Type 0} (says : B → A) (h : Hosted B H) (without given : A) : Type 0 where
    pub guest : Option B
    pub has : HasGuest state M h (option_map state guest)
    pub is : given ≡ option_map_or says guest without

  -- whether a key that came to a port now would be kept
  abbrev pub KeepsKey : (B → ℕ → Bool) → Hosted B H → (port : ℕ) → Bool → Type 0
  KeepsKey keeps h port given = Says (λ guest. keeps_at (keeps guest) port) h false given

  -- no guest with the state of the host's would keep one
  abbrev pub KeepsNoKey : (B → ℕ → Bool) → Hosted B H → (port : ℕ) → Type 0
  KeepsNoKey keeps h port = (guest : B) → HasGuest state M h (Some (state guest)) → keeps_at (keeps guest) port ≡ false

  -- a key is offered to a guest that idles, and to one that would keep it
  abbrev pub OffersKey : (B → ℕ → Bool) → Hosted B H → (port : ℕ) → (is_idle : Bool) → Bool → Type 0
  OffersKey keeps h port is_idle given = (kept : Bool) × KeepsKey keeps h port kept × (given ≡ (is_idle || kept))

  -- the number of the first outstanding write of its guest from this number on
  abbrev pub HasWriteFrom : (B → List Place) → Hosted B H → (from : ℕ) → Option ℕ → Type 0
  HasWriteFrom writes h from given = Says (λ guest. number_from (writes guest) from) h None given

  -- how many writes of its guest are outstanding
  abbrev pub HasWrites : (B → List Place) → Hosted B H → ℕ → Type 0
  HasWrites writes h given = Says (λ guest. length (writes guest)) h 0 given

  -- whether its guest polls
  pub record IsPolling (polls : B → Type 0) (h : Hosted B H) (given : Bool) : Type 0 where
    pub guest : Option B
    pub has : HasGuest state M h (option_map state guest)
    pub is : PollsIf polls guest given
