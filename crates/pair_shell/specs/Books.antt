-- What a session's book says after an event, and when a day begins.
use Rattle.std.specs.Prelude.{◌≡◌, ℕ, List, Option, Some, None, option_map, Result, Ok, slice_get}
use Rattle.event_callbacks.specs.declared.operations.Operation.{Operation}
use Rattle.event_callbacks.specs.declared.operations.Operation.TheVariants as operation
use Rattle.ft_world.specs.Shows.{IsStatusAt}
use Rattle.ft_world.specs.Standing.{Course, machine_of}
use Rattle.ft_world.specs.declared.hosts.NodeStatus.{NodeStatus}
use Rattle.ft_world.specs.declared.message.Message.{Message}
use Rattle.ft_world.specs.declared.message.Message.TheVariants as message
use Rattle.guest_lockstep.specs.Machine.{Machine}
use Rattle.guest_lockstep.specs.declared.timed.Timed.{Timed}
use Rattle.i8080_words.specs.declared.refusal.Fault.{Fault}
use Rattle.pair_events.specs.declared.event.Event.{Event}
use Rattle.pair_events.specs.declared.reply.Reply.{Reply}
use Rattle.pair_events.specs.declared.reply.Reply.TheVariants as reply
use Rattle.pair_events.specs.declared.reply.Role.{Role}
use Rattle.pair_events.specs.declared.reply.Role.TheVariants.{Alone}
use Rattle.pair_protocol.specs.Settled.{Settled}
use Rattle.pair_protocol.specs.World as protocol
use Rattle.shell_language.specs.Notes.{all_settled, progress, restarted}
use Rattle.shell_language.specs.Noting.{letters_after, noted, posted}
use Rattle.shell_language.specs.declared.book.Book.{Book}
use Rattle.shell_language.specs.declared.book.Brings.{Brings}
use Rattle.shell_language.specs.declared.book.Brings.TheVariants as brings

-- what a message of the protocol brings
abbrev pub released_brings : Operation → Brings
released_brings (operation.Byte port number byte) = brings.Byte port
released_brings (operation.Write write) = brings.Write

abbrev pub brings_of : protocol.Message → Brings
brings_of (protocol.LogEntry generation index entry) = brings.Entry
brings_of (protocol.Acknowledgement generation held replayed) = brings.Acknowledgement
brings_of (protocol.ImagePart generation index part) = brings.Part
brings_of (protocol.Released operation) = released_brings operation
brings_of (protocol.WriteDone number) = brings.Written number
brings_of (protocol.SectorRead address number bytes) = brings.Sector

-- the same of a message as it runs
abbrev pub brings_in : Message → Brings
brings_in (message.Log bytes) = brings.Entry
brings_in (message.Ack bytes) = brings.Acknowledgement
brings_in (message.Part bytes) = brings.Part
brings_in (message.Byte port number byte) = brings.Byte port
brings_in (message.Write write) = brings.Write
brings_in (message.Written number) = brings.Written number
brings_in (message.Sector read) = brings.Sector

-- what the message of a number brings, and the one that an answer names
abbrev pub brought_by : List protocol.Message → ℕ → Option Brings
brought_by messages message = option_map brings_of (slice_get messages message)

abbrev pub sent_in : List protocol.Message → Result Reply Fault → Option Brings
sent_in messages (Ok (reply.Message message)) = brought_by messages message
sent_in messages answer = None

-- an event is noted that was answered so in a world with these messages, and with it the message that it has sent
pub record IsNoted (messages : List protocol.Message) (happened : Event) (answer : Result Reply Fault) (old new : Book)
    : Type 0 where
  pub letters : new.letters.items ≡ letters_after happened answer (sent_in messages answer) old.letters.items
  pub progress_is : progress new
      ≡ noted happened answer (posted (sent_in messages answer) old.letters.items) (progress old)

module _ {S : Type 0} (M : Machine S) (c : Course S) where
  -- a book begins again, with the same messages: from the inputs that are settled
  pub record BeginsAgain (old new : Book) : Type 0 where
    pub letters : new.letters ≡ old.letters
    pub inputs : List Timed
    pub count : ℕ
    pub settled : Settled (machine_of M c) c.world inputs count
    pub progress_is : progress new ≡ all_settled inputs (restarted (progress old))

  -- the book of a node's day: if the node is alone it begins again, and if not it goes on
  abbrev pub IsBookOf : Role → Book → Book → Type 0
  IsBookOf Alone old new = BeginsAgain old new
  IsBookOf other old new = new ≡ old

  abbrev pub IsBookBy : Option NodeStatus → Book → Book → Type 0
  IsBookBy (Some status) old new = IsBookOf status.role old new
  IsBookBy None old new = new ≡ old

  -- the same by what the node of this number shows of itself
  pub record HasBook (number : ℕ) (old new : Book) : Type 0 where
    pub status : Option NodeStatus
    pub is_there : IsStatusAt M (slice_get c.world.nodes number) status
    pub book : IsBookBy status old new
