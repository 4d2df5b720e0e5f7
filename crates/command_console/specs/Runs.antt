-- What the processes of a pair do together: one moves after another, in any order, and streams deliver only what was written.
use Rattle.std.specs.Prelude.{◌≡◌, ◌⊎◌, ℕ, Some, List, [], ◌++◌, slice_get, slice_set}
use Rattle.host_frames.specs.StreamReading.{contents_of}
use Rattle.guest_lockstep.specs.Machine.{Machine}
use Rattle.guest_parts.specs.Guest.{Guest}
use Rattle.host_node.specs.Goes as host
use Rattle.host_node.specs.declared.host.HostNode.{HostNode}
use Rattle.outside_switch.specs.Goes as outside
use Rattle.outside_switch.specs.Lines.{pushed_to}
use Rattle.outside_switch.specs.Meets.{Seen}
use Rattle.outside_switch.specs.Passing.{Passed}
use Rattle.outside_switch.specs.Runs.{pushed_by}
use Rattle.command_console.specs.Processes.{Delivered, IsFromHost, Processes}

-- The body that the outside takes in a move was delivered. An empty one, which no host says, comes from the thread that has read to the
-- end of a stream; it is dropped.
abbrev pub TakesDelivered : {B : Type 0} {H : Type 0} → List (HostNode B H) → {old new : Seen} → outside.Moves old new → Type 0
TakesDelivered hosts (outside.Acts meets) = Unit {0}
TakesDelivered hosts (outside.Hears taken place body said takes is meets) = IsFromHost hosts place body.items
TakesDelivered hosts (outside.Drops place body takes) = (body.items ≡ []) ⊎ IsFromHost hosts place body.items
TakesDelivered hosts (outside.Closes place cause closes) = Unit {0}
TakesDelivered hosts (outside.Names begun place generation may begins names) = Unit {0}

-- one process moves
pub data Turns {B S : Type 0} {H : Type 0} (state : B → S) (M : Machine S) (copied : B → Guest) (old : Processes B H)
    : Processes B H → Type 0 where
  -- a host, to which only bodies of frames came that the outside has pushed to its place
  HostMoves : (place : ℕ) (h new : HostNode B H) → slice_get old.hosts place ≡ Some h → host.Moves state M copied h new →
      Delivered new.mail.came (contents_of (pushed_to place old.pushed)) →
      Turns state M copied old (record old { hosts = slice_set old.hosts place new })
  -- the outside, which takes only bodies of frames that the host at the place has said, and ends of streams
  OutsideMoves : (new : Seen) (move : outside.Moves old.outside new) → TakesDelivered old.hosts move →
      Turns state M copied old
      (record { hosts = old.hosts; outside = new; pushed = old.pushed ++ pushed_by move })

-- one after another
pub data Runs {B S : Type 0} {H : Type 0} (state : B → S) (M : Machine S) (copied : B → Guest) (first : Processes B H)
    : Processes B H → Type 0 where
  Rests : Runs state M copied first first
  Next : {mid : Processes B H} (new : Processes B H) → Runs state M copied first mid → Turns state M copied mid new →
      Runs state M copied first new

-- ---- what passes between the outside and its user meanwhile: bytes that are shown, and keys that are typed

abbrev pub passed_by_turn : {B S : Type 0} {H : Type 0} {state : B → S} {M : Machine S} {copied : B → Guest}
    {old new : Processes B H} → Turns state M copied old new → List Passed
passed_by_turn (HostMoves place h next at move delivered) = []
passed_by_turn (OutsideMoves seen move delivered) = outside.passed_by move

abbrev pub passed_on : {B S : Type 0} {H : Type 0} {state : B → S} {M : Machine S} {copied : B → Guest}
    {first last : Processes B H} → Runs state M copied first last → List Passed
passed_on Rests = []
passed_on (Next new before turn) = passed_on before ++ passed_by_turn turn

-- ---- each process does what its loop promises, and nothing else

-- the host at a place went there by its moves
pub record HostWent {B S : Type 0} {H : Type 0} (state : B → S) (M : Machine S) (copied : B → Guest) (place : ℕ)
    (h : HostNode B H) (last : Processes B H) : Type 0 where
  pub new : HostNode B H
  pub there : slice_get last.hosts place ≡ Some new
  pub went : host.Goes state M copied h new

abbrev pub EachHasGone : (B H S : Type 0) → Type 0
EachHasGone B H S =
    (state : B → S) (M : Machine S) (copied : B → Guest) (first last : Processes B H)
    (way : Runs state M copied first last) →
    ((place : ℕ) (h : HostNode B H) → slice_get first.hosts place ≡ Some h → HostWent state M copied place h last)
    × outside.GoesWith (passed_on way) first.outside last.outside
