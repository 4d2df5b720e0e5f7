-- Renewal: a live node and a spare host become a whole pair again; and a host that lost parts of its image gets them.
use Rattle.std.specs.Prelude.{◌≡◌, ℕ, zero, suc, ◌+◌, ◌*◌, ◌<◌, true, Option, Some, None, List, [], ◌∷◌, slice_get}
use Rattle.guest_lockstep.specs.Machine.{Machine}
use Rattle.guest_lockstep.specs.declared.reads.Reads.{Reads}
use Rattle.pair_events.specs.declared.event.Event.{Event}
use Rattle.pair_events.specs.declared.event.Event.TheVariants.{BeginPair, SendPart, PartComes}
use Rattle.pair_protocol.specs.Copying.{Copying}
use Rattle.pair_protocol.specs.Node.{Node, Primary, Joining, Spare, gathered}
use Rattle.pair_protocol.specs.Refusals.{last_generation}
use Rattle.pair_protocol.specs.Reply.{Reply}
use Rattle.pair_protocol.specs.Row.{Run}
use Rattle.pair_protocol.specs.World.{World, opening, winner_in}
use Rattle.pair_progress.specs.CatchingUp.{IsPair}
use Rattle.pair_progress.specs.Leads.{Leads}
use Rattle.pair_progress.specs.Takeover.{IsLive}

-- a pair that begins: nobody has won, both nodes are up, and the host has not all parts of the image yet
pub record HasBegun {S : Type 0} (w : World S) (n host generation : ℕ) : Type 0 where
  pub x : Node S
  pub y : Node S
  pub primary : slice_get w.nodes n ≡ Some x
  pub joining : slice_get w.nodes host ≡ Some y
  pub primary_up : x.running ≡ true
  pub joining_up : y.running ≡ true
  pub primary_role : x.role ≡ Primary
  pub joining_role : y.role ≡ Joining
  pub primary_generation : x.generation ≡ generation
  pub joining_generation : y.generation ≡ generation
  pub undecided : winner_in w.winners generation ≡ None
  pub lacks_some : gathered y.parts ≡ None

-- how many parts have not come
abbrev pub missing : List (Option (List ℕ)) → ℕ
missing [] = zero
missing (None ∷ slots) = suc (missing slots)
missing (Some part ∷ slots) = missing slots

-- parts of the image are sent and arrive
abbrev pub IsOfParts : ℕ → ℕ → Event → Type 0
IsOfParts n host (SendPart a index) = a ≡ n
IsOfParts n host (PartComes message b) = b ≡ host
IsOfParts n host e = ⊥

-- whatever was lost before, two events for each part that has not come make a whole pair
abbrev pub HostsJoin : {S : Type 0} → Machine S → Copying S → World S → Type 0
HostsJoin M C w = (n host generation : ℕ) (pair : HasBegun w n host generation) →
    Leads M C w (IsOfParts n host) (2 * missing pair.y.parts) (λ new. IsPair new n host generation)

-- in every world of a run a host that joins lacks a part, so it is such a host
abbrev pub JoinersLack : {S : Type 0} → Machine S → Copying S → World S → Type 0
JoinersLack {S} M C w = (n : ℕ) (x : Node S) → slice_get w.nodes n ≡ Some x → x.role ≡ Joining → gathered x.parts ≡ None

abbrev pub JoinersInRunsLack : (S : Type 0) → Type 0
JoinersInRunsLack S =
    (M : Machine S) (C : Copying S) → 0 < C.part_count → (reads : Reads) (events : List Event) (replies : List Reply)
    (w : World S) → Run M C (opening M reads) events replies w → JoinersLack M C w

-- a pair begins, and the parts of its image are sent and arrive
abbrev pub IsRenewal : ℕ → ℕ → Event → Type 0
IsRenewal n host (BeginPair a b) = (a ≡ n) × (b ≡ host)
IsRenewal n host (SendPart a index) = a ≡ n
IsRenewal n host (PartComes message b) = b ≡ host
IsRenewal n host e = ⊥

-- while a generation is left: one event, and two for each part, make a whole pair
abbrev pub Renews : {S : Type 0} → Machine S → Copying S → World S → Type 0
Renews {S} M C w = (n host generation : ℕ) → IsLive w n generation → generation < last_generation →
    (y : Node S) → slice_get w.nodes host ≡ Some y → y.role ≡ Spare →
    Leads M C w (IsRenewal n host) (2 * C.part_count + 1) (λ new. IsPair new n host (suc generation))
