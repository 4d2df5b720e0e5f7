-- What a host does: its node makes a run of the law's host, which takes frames that came to it, and sends what goes from it.
use Rattle.std.specs.Prelude.{◌≡◌, ◌⊎◌, ℕ, List, [], ◌∷◌, ◌++◌}
use Rattle.clone_state.specs.Copies.{CopiesAs}
use Rattle.guest_lockstep.specs.Machine.{Machine}
use Rattle.guest_parts.specs.Guest.{Guest}
use Rattle.host_frames.specs.Frames.{IsSpelling, Said, Tells}
use Rattle.host_frames.specs.Meaning.{Brings, Speaks}
use Rattle.host_frames.specs.declared.frame.Notice.TheVariants.{Join}
use Rattle.host_law.specs.Frame.{Act, Came, Frame, sent, taken}
use Rattle.host_law.specs.Host.{HostRun}
use Rattle.host_node.specs.Hosts.{HasJoined, IsHosted, IsNumber}
use Rattle.host_node.specs.Mail.{IsFrom}
use Rattle.host_node.specs.declared.host.HostNode.{HostNode}
use Rattle.pair_protocol.specs.Copying.{Copying}
use Rattle.pair_protocol.specs.Lawful.{Among}
use Rattle.pair_protocol.specs.Node.{Node}

-- frames that went spell just what was sent, all of it and in order
pub data Says (drives me : ℕ) : List (List ℕ) → List Frame → Type 0 where
  Nothing : Says drives me [] []
  Then : {rest : List (List ℕ)} {more : List Frame} (bytes : List ℕ) (said : Said) (frames : List Frame) →
      IsSpelling said bytes → Speaks drives me said frames → Says drives me rest more →
      Says drives me (bytes ∷ rest) (frames ++ more)

-- a run of the law's host of this number, which takes only frames that were sent before, and with which these frames went
pub record Ran {S : Type 0} (M : Machine S) (C : Copying S) (drives me : ℕ) (x : Node S) (frames : List Frame)
    (said : List (List ℕ)) (y : Node S) : Type 0 where
  pub acts : List Act
  pub run : HostRun M C me x acts y
  pub came : Came (taken acts) frames
  pub says : Says drives me said (sent acts)

-- what each of these bodies means is among the frames that were sent before
abbrev pub AllBring : (drives me : ℕ) → List (List ℕ) → List Frame → Type 0
AllBring drives me bodies frames = (body : List ℕ) → Among body bodies → Brings drives me body frames

-- such a run, after which the host has the law's node
pub record RunsTo {B S : Type 0} {H : Type 0} (state : B → S) (M : Machine S) (C : Copying S) (drives me : ℕ) (x : Node S)
    (frames : List Frame) (said : List (List ℕ)) (new : HostNode B H) : Type 0 where
  pub y : Node S
  pub ran : Ran M C drives me x frames said y
  pub is : IsHosted state M C drives me new y

-- a body came that asks the host of this number to join
pub record IsAsked (came : List (List ℕ)) (number : ℕ) : Type 0 where
  pub place : ℕ
  pub drives : ℕ
  pub count : ℕ
  pub from : IsFrom came (Tells (Join number place drives count))

-- One move of a host: bodies came, and then frames went, and whatever node of the law the host has, this node has made a run
-- that leads to the one that it has then. It holds of whatever list of frames has what the bodies mean that ever came, and of
-- the number that the host has then. A spare gets its number from a body that came, and keeps it. The mail stays at its rings.
pub record Moves {B S : Type 0} {H : Type 0} (state : B → S) (M : Machine S) (copied : B → Guest) (old new : HostNode B H)
    : Type 0 where
  pub heard : List (List ℕ)
  pub said : List (List ℕ)
  pub came : new.mail.came ≡ old.mail.came ++ heard
  pub gone : new.mail.gone ≡ old.mail.gone ++ said
  pub stays : HasJoined old.node → HasJoined new.node × (new.number ≡ old.number)
  pub joins : HasJoined new.node → HasJoined old.node ⊎ IsAsked new.mail.came new.number
  pub drives : new.drives ≡ old.drives
  pub rings : new.mail.rings ≡ old.mail.rings
  pub runs : (C : Copying S) (me : ℕ) → CopiesAs state copied old.drives C.parts C.part_count C.assemble →
      IsNumber me new → (x : Node S) → IsHosted state M C old.drives me old x → (frames : List Frame) →
      AllBring old.drives me new.mail.came frames → RunsTo state M C old.drives me x frames said new

-- From one state of a host to a later one, move by move: what it says in one may be answered before the next.
pub data Goes {B S : Type 0} {H : Type 0} (state : B → S) (M : Machine S) (copied : B → Guest) (first : HostNode B H)
    : HostNode B H → Type 0 where
  Rests : Goes state M copied first first
  Next : {mid : HostNode B H} (new : HostNode B H) → Goes state M copied first mid → Moves state M copied mid new →
      Goes state M copied first new
