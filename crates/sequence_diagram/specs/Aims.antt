-- Where a message should arrive that an event has sent.
use Rattle.std.specs.Prelude.{◌≡◌, ℕ, zero, suc, ◌==◌, if◌then◌else◌, List, [], ◌∷◌, take, slice_get, unwrap_or, Option, Some, None, MatchOption, Result, Ok}
use Rattle.std.specs.Option.{option_map}
use Rattle.event_callbacks.specs.declared.operations.OpId.TheVariants as id
use Rattle.i8080_words.specs.declared.refusal.Fault.{Fault}
use Rattle.pair_events.specs.declared.event.Event.{Event}
use Rattle.pair_events.specs.declared.event.Event.TheVariants as event
use Rattle.pair_events.specs.declared.reply.Reply.{Reply}
use Rattle.pair_events.specs.declared.reply.Reply.TheVariants as reply
use Rattle.sequence_diagram.specs.Arrows.{HasArrow}
use Rattle.sequence_diagram.specs.Places.{node_of, sender_of}
use Rattle.sequence_diagram.specs.declared.arrows.Arrow.{Arrow}
use Rattle.sequence_diagram.specs.declared.moment.Moment.{Moment}
use Rattle.sequence_diagram.specs.declared.place.Lifeline.{Lifeline}
use Rattle.sequence_diagram.specs.declared.place.Lifeline.TheVariants.{Terminal, Node, Disk}

-- ---- the other node of a node's pair

-- the node with which it is paired by an event
abbrev pub paired_by : ℕ → Event → Result Reply Fault → Option ℕ
paired_by node (event.BeginPair first host) (Ok (reply.Generation generation)) =
    if first == node then Some host else (if host == node then Some first else None)
paired_by node happened answer = None

abbrev pub paired_with : ℕ → Moment → Option ℕ
paired_with node moment = paired_by node moment.event moment.answer

-- after some events the one with which it was paired last; without one it is this
abbrev pub peer_after : ℕ → ℕ → List Moment → ℕ
peer_after node peer [] = peer
peer_after node peer (moment ∷ moments) = peer_after node (unwrap_or (paired_with node moment) peer) moments

-- nodes 0 and 1 are the first pair
abbrev pub first_peer : ℕ → ℕ
first_peer zero = 1
first_peer (suc node) = 0

module _ (moments : List Moment) where
  -- before a place of the run
  abbrev pub peer_at : ℕ → ℕ → ℕ
  peer_at place node = peer_after node (first_peer node) (take place moments)

  -- where the message was sent that the event at a place has brought
  abbrev sender_by : Option Arrow → Option Lifeline
  sender_by (Some arrow) = option_map (λ (m : Moment). sender_of m.event) (slice_get moments arrow.sent)
  sender_by None = None

  abbrev pub HasOrigin : ℕ → Option Lifeline → Type 0
  HasOrigin place found = (arrow : Option Arrow) × (HasArrow moments place arrow × (found ≡ sender_by arrow))

  -- an entry, an acknowledgement or a part goes to the peer, a released operation to its device, the answer to a write to the one
  -- that wrote, and any other message to the node of its event
  abbrev pub HasAimBy : ℕ → Event → Option Lifeline → Type 0
  HasAimBy place (event.Send node index) found = found ≡ Some (Node (peer_at place node))
  HasAimBy place (event.Acknowledge node) found = found ≡ Some (Node (peer_at place node))
  HasAimBy place (event.SendPart node index) found = found ≡ Some (Node (peer_at place node))
  HasAimBy place (event.Release node (id.Byte port number)) found = found ≡ Some (Terminal port)
  HasAimBy place (event.Release node (id.Write number)) found = found ≡ Some Disk
  HasAimBy place (event.Put message) found = HasOrigin place found
  HasAimBy place other found = found ≡ option_map Node (node_of other)

  abbrev pub HasAim : ℕ → Option Lifeline → Type 0
  HasAim place found = MatchOption (slice_get moments place) (found ≡ None) (λ moment. HasAimBy place moment.event found)
