-- Inputs that events offer to a node: the input, why the node refuses it, and which events offer it.
use Rattle.std.specs.Prelude.{◌≡◌, ℕ, ◌<◌, Option, slice_get}
use Rattle.disk_dcdd.specs.declared.controller.TheConstants.{DRIVES}
use Rattle.disk_dcdd.specs.declared.sector.TheConstants.{SECTORS}
use Rattle.event_callbacks.specs.declared.devices.TheConstants.{PORTS}
use Rattle.guest_lockstep.specs.Machine.{Machine}
use Rattle.guest_lockstep.specs.declared.input.Input.{Input}
use Rattle.guest_lockstep.specs.declared.input.Input.TheVariants as input
use Rattle.i8080_words.specs.declared.refusal.Fault.{Fault}
use Rattle.pair_protocol.specs.Reply.{Taken}
use Rattle.pair_protocol.specs.Node.{Node}
use Rattle.pair_protocol.specs.Refusals as refusals
use Rattle.pair_protocol.specs.Refusals.{at_node, refusal}
use Rattle.pair_protocol.specs.Row.{Leaves}
use Rattle.pair_protocol.specs.Rows.{Does, MayNeedMemory, Takes}
use Rattle.pair_protocol.specs.World.{World}
use Rattle.pair_events.specs.declared.event.Event.{Event}
use Rattle.ft_world.specs.Standing.{Course, machine_of}
use Rattle.shared_disk.specs.Arrivals.{read_address}
use Rattle.ft_world.specs.declared.offer.Offer.{Offer}
use Rattle.ft_world.specs.declared.offer.Offer.TheVariants as offer

-- the input
abbrev pub input_of : Offer → Input
input_of (offer.Key port index byte) = input.Rx port byte
input_of (offer.Sent port number) = input.Sent port
input_of (offer.Written number) = input.Written number
input_of (offer.Sector read) = input.Sector read.drive read.sector read.number read.bytes

-- why a node refuses it
abbrev pub offer_refusal : {S : Type 0} → Machine S → Offer → Node S → Option Fault
offer_refusal M (offer.Key port index byte) x = refusals.take_key_refusal M port index x
offer_refusal M (offer.Sent port number) x = refusals.tell_sent_refusal M port number x
offer_refusal M (offer.Written number) x = refusals.put_reply_refusal M number x
offer_refusal M (offer.Sector read) x = refusals.get_reply_refusal M (read_address read) read.number read.bytes x

-- a machine has such a port, or such a sector
abbrev pub IsOffer : Offer → Type 0
IsOffer (offer.Key port index byte) = port < PORTS
IsOffer (offer.Sent port number) = port < PORTS
IsOffer (offer.Written number) = Unit {0}
IsOffer (offer.Sector read) = (read.drive < DRIVES) × (read.sector < SECTORS)

-- an event offers this input to the node of a number: it is refused as the node refuses the input, which may need memory;
-- then the world stays; and if the node takes the input, that is what the event does
pub record Offers {S : Type 0} (M : Machine S) (c : Course S) (n : ℕ) (o : Offer) (e : Event) : Type 0 where
  pub refused : refusal (machine_of M c) c.copying c.world e
      ≡ at_node (slice_get c.world.nodes n) (offer_refusal M o)
  pub memory : MayNeedMemory (machine_of M c) c.world e
  pub leaves : (fault : Fault) → Leaves c.world e fault c.world
  pub does : (new : World S) → Takes (machine_of M c) c.world n (input_of o) Taken new
      → Does (machine_of M c) c.copying c.world e Taken new
