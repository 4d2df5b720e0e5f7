-- The arrival of what was sent last.
use Rattle.std.specs.Prelude.{◌≡◌, ℕ, IfSome, Option, None, slice_get}
use Rattle.std.specs.Option.{IsSomeAnd}
use Rattle.guest_lockstep.specs.Machine.{Machine}
use Rattle.ft_world.specs.Shows.{Agree}
use Rattle.ft_world.specs.Words.{IsMessage}
use Rattle.ft_world.specs.declared.message.Message.{Message}
use Rattle.ft_world.specs.declared.message.Message.TheVariants as message
use Rattle.pair_events.specs.declared.event.Event.{Event}
use Rattle.pair_events.specs.declared.event.Event.TheVariants.{Acknowledge, Arrive, DeliverAcknowledgement, DeliverLog, Fetch, Fetched, PartComes, Put, PutReply, Send, SendPart}
use Rattle.pair_protocol.specs.Copying.{Copying}
use Rattle.pair_protocol.specs.Refusals.{refusal}
use Rattle.pair_protocol.specs.Reply.{MessageIs}
use Rattle.pair_protocol.specs.Rows.{Does}
use Rattle.pair_protocol.specs.Settled.{highest}
use Rattle.pair_protocol.specs.World.{World}
use Rattle.pair_shell.specs.Serves.{AreAll, IsOfALaw, Serves}
use Rattle.pair_shell.specs.declared.serving.ServingNodes.{ServingNodes}
use Rattle.pair_shell.specs.declared.serving.ServingNodes.TheVariants as serving

-- a message arrives at a node
abbrev pub ComesToNode : Event → Type 0
ComesToNode (DeliverLog m n) = Unit {0}
ComesToNode (DeliverAcknowledgement m n) = Unit {0}
ComesToNode (PutReply m n) = Unit {0}
ComesToNode (PartComes m n) = Unit {0}
ComesToNode (Fetched m n) = Unit {0}
ComesToNode e = ⊥

-- a byte arrives at its terminal, a write at the disk, and any other message at a node, each by an event of its own
abbrev pub ArrivesAs : Message → ℕ → Event → Type 0
ArrivesAs (message.Byte port number byte) m (Arrive k) = k ≡ m
ArrivesAs (message.Write write) m (Put k) = k ≡ m
ArrivesAs (message.Log bytes) m (DeliverLog k n) = k ≡ m
ArrivesAs (message.Ack bytes) m (DeliverAcknowledgement k n) = k ≡ m
ArrivesAs (message.Part bytes) m (PartComes k n) = k ≡ m
ArrivesAs (message.Written number) m (PutReply k n) = k ≡ m
ArrivesAs (message.Sector read) m (Fetched k n) = k ≡ m
ArrivesAs found m e = ⊥

-- who takes what was sent: a live node what goes to a device, or comes from the disk; a pair also what its nodes send each other
abbrev pub IsTakenBy : ServingNodes → Message → Type 0
IsTakenBy (serving.Draining n) (message.Sector read) = Unit {0}
IsTakenBy (serving.Alone n) (message.Byte port number byte) = Unit {0}
IsTakenBy (serving.Alone n) (message.Write write) = Unit {0}
IsTakenBy (serving.Alone n) (message.Written number) = Unit {0}
IsTakenBy (serving.Joining n host) (message.Part bytes) = Unit {0}
IsTakenBy (serving.Pair n backup) (message.Part bytes) = ⊥
IsTakenBy (serving.Pair n backup) found = Unit {0}
IsTakenBy who found = ⊥

-- the message of this number comes next, if those who serve take it
pub record ComesNext {S : Type 0} (w : World S) (who : ServingNodes) (m : ℕ) (next : Option Event) : Type 0 where
  pub found : Option Message
  pub shown : Agree IsMessage found (slice_get w.messages m)
  pub comes : IfSome found (λ sent. IsTakenBy who sent → IsSomeAnd next (ArrivesAs sent m))

-- those are the ones of so many hosts who serve
pub record SentComesNext {S : Type 0} (w : World S) (hosts generation m : ℕ) (next : Option Event) : Type 0 where
  pub who : ServingNodes
  pub serves : Serves w generation who
  pub all : AreAll w hosts generation who
  pub comes : ComesNext w who m next

-- those who serve get messages, unless they are to ask the arbiter
abbrev pub MayReceive : ServingNodes → Type 0
MayReceive serving.Nobody = ⊥
MayReceive (serving.Primary n) = ⊥
MayReceive (serving.Backup n) = ⊥
MayReceive (serving.Draining n) = Unit {0}
MayReceive (serving.Alone n) = Unit {0}
MayReceive (serving.Joining n host) = Unit {0}
MayReceive (serving.Pair n backup) = Unit {0}

-- a node is sent an entry, an acknowledgement, a part of an image, or the sector that it asks the disk for
abbrev pub IsForNode : Event → Type 0
IsForNode (Send n index) = Unit {0}
IsForNode (Acknowledge n) = Unit {0}
IsForNode (SendPart n index) = Unit {0}
IsForNode (Fetch n) = Unit {0}
IsForNode e = ⊥

-- the event before was such an event of a law, which no rule refused, and it sent this message
pub record HasJustSent {S : Type 0} (M : Machine S) (C : Copying S) (w : World S) (m : ℕ) : Type 0 where
  pub before : World S
  pub e : Event
  pub for_node : IsForNode e
  pub of_a_law : IsOfALaw before (highest before.nodes) e
  pub passed : refusal M C before e ≡ None
  pub does : Does M C before e (MessageIs m) w
