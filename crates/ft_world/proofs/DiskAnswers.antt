-- The disk's answers arrive at a node: a write is done, or a sector was read. The message brings the same as in the
-- world that is shown, so the event is refused alike, as the node refuses the input.
use Rattle.ft_world.proofs.Words.{Agree, Applies, Course, Guest, IsMessage, Machine, Message, Node, Record, Running, SectorRead, Shows, Unknown, at_fetched, at_sector_read, at_write_done, machine_of, read_address, same_some, sector_of, written_of}
use Rattle.std.proofs.Common.{◌≡◌, ◌∙◌, Err, List, None, Some, ap, refl, ℕ}
use Rattle.std.specs.Option.{option_and_then}
use Rattle.std.specs.Prelude.{Option, slice_get}
use Rattle.pair_protocol.specs.World as world
use Rattle.ft_world.specs.Offers.{Offers}
use Rattle.pair_events.specs.declared.event.Event.TheVariants as event
use Rattle.ft_world.specs.declared.message.Message.TheVariants as message
use Rattle.ft_world.specs.declared.offer.Offer.TheVariants as offer
use Rattle.ft_world.proofs.Applying.{refuses}

-- A write is done.

brings_done : (o : Option Message) (q : Option world.Message) (number : ℕ) → Agree IsMessage o q →
    option_and_then written_of o ≡ Some number → q ≡ Some (world.WriteDone number)
brings_done (Some (message.Written k)) (Some (world.WriteDone d)) number a e =
    ap (λ n. Some (world.WriteDone n)) (a ∙ same_some k number _ refl e)
brings_done (Some (message.Written k)) q number a e = absurd a
brings_done (Some (message.Byte p n b)) q number a e = (cc)
brings_done (Some (message.Log bytes)) q number a e = (cc)
brings_done (Some (message.Ack bytes)) q number a e = (cc)
brings_done (Some (message.Part bytes)) q number a e = (cc)
brings_done (Some (message.Write write)) q number a e = (cc)
brings_done (Some (message.Sector r)) q number a e = (cc)
brings_done None q number a e = (cc)

none_done : {S : Type 0} (M : Machine S) (here : Option (Node S)) (o : Option Message) (q : Option world.Message) →
    Agree IsMessage o q → option_and_then written_of o ≡ None → at_write_done M here q ≡ Some Unknown
none_done M here None None a e = refl
none_done M here None (Some y) a e = absurd a
none_done M here (Some (message.Written k)) q a e = (cc)
none_done M here (Some (message.Log bytes)) (Some (world.LogEntry g i x)) a e = refl
none_done M here (Some (message.Log bytes)) q a e = absurd a
none_done M here (Some (message.Ack bytes)) (Some (world.Acknowledgement g h r)) a e = refl
none_done M here (Some (message.Part bytes)) (Some (world.ImagePart g i k)) a e = refl
none_done M here (Some (message.Ack bytes)) q a e = absurd a
none_done M here (Some (message.Part bytes)) q a e = absurd a
none_done M here (Some (message.Byte p n b)) (Some (world.Released x)) a e = refl
none_done M here (Some (message.Byte p n b)) q a e = absurd a
none_done M here (Some (message.Write write)) (Some (world.Released x)) a e = refl
none_done M here (Some (message.Write write)) q a e = absurd a
none_done M here (Some (message.Sector r)) (Some (world.SectorRead ad n bs)) a e = refl
none_done M here (Some (message.Sector r)) q a e = absurd a

pub done_unknown : {B H D S : Type 0} (state : B → S) (copied : B → Guest) (M : Machine S) (records : D → List Record)
    (old : Running B H D) (c : Course S) (m n : ℕ) → option_and_then written_of (slice_get old.messages m) ≡ None →
    Shows state copied M records old c → Applies state copied M records c (event.PutReply m n) (Err Unknown) old
done_unknown state copied M records old c m n brings h =
    refuses state copied M records old old c (event.PutReply m n) Unknown h refl
    (none_done (machine_of M c) (slice_get c.world.nodes n) (slice_get old.messages m) (slice_get c.world.messages m)
    (h.parts.messages.each m) brings)
    refl

-- the message is the world's
done_there : {B H D S : Type 0} (state : B → S) (copied : B → Guest) (M : Machine S) (records : D → List Record) (old : Running B H D)
    (c : Course S) (m number : ℕ) → option_and_then written_of (slice_get old.messages m) ≡ Some number →
    Shows state copied M records old c → slice_get c.world.messages m ≡ Some (world.WriteDone number)
done_there state copied M records old c m number brings h =
    brings_done (slice_get old.messages m) (slice_get c.world.messages m) number (h.parts.messages.each m) brings

pub done_offered : {B H D S : Type 0} (state : B → S) (copied : B → Guest) (M : Machine S) (records : D → List Record)
    (old : Running B H D) (c : Course S) (m n number : ℕ) → option_and_then written_of (slice_get old.messages m) ≡ Some number →
    Shows state copied M records old c → Offers M c n (offer.Written number) (event.PutReply m n)
done_offered state copied M records old c m n number brings h =
    let there = done_there state copied M records old c m number brings h in
    record {
      refused = ap (λ q. at_write_done (machine_of M c) (slice_get c.world.nodes n) q) there;
      memory = tt;
      leaves = (λ fault. refl);
      does = (λ new takes. record { number = number; message = there; input = takes });
    }

-- A sector was read.

brings_read : (o : Option Message) (q : Option world.Message) (read : SectorRead) → Agree IsMessage o q →
    option_and_then sector_of o ≡ Some read →
    q ≡ Some (world.SectorRead (read_address read) read.number read.bytes)
brings_read (Some (message.Sector r)) (Some (world.SectorRead address number bytes)) read (at, k, bs, drive, sector) e =
    let here = r.value in
    ap (λ z. Some (world.SectorRead z number bytes)) at ∙ ap (λ z. Some (world.SectorRead (read_address here) z bytes)) k
    ∙ ap (λ z. Some (world.SectorRead (read_address here) here.number z)) bs
    ∙ ap (λ (v : SectorRead). Some (world.SectorRead (read_address v) v.number v.bytes)) (same_some here read _ refl e)
brings_read (Some (message.Sector r)) q read a e = absurd a
brings_read (Some (message.Byte p n b)) q read a e = (cc)
brings_read (Some (message.Log bytes)) q read a e = (cc)
brings_read (Some (message.Ack bytes)) q read a e = (cc)
brings_read (Some (message.Part bytes)) q read a e = (cc)
brings_read (Some (message.Write write)) q read a e = (cc)
brings_read (Some (message.Written k)) q read a e = (cc)
brings_read None q read a e = (cc)

pub none_read : {S : Type 0} (M : Machine S) (here : Option (Node S)) (o : Option Message) (q : Option world.Message) →
    Agree IsMessage o q → option_and_then sector_of o ≡ None →
    (at_sector_read M here q ≡ Some Unknown) × (at_fetched M here q ≡ Some Unknown)
none_read M here None None a e = (refl, refl)
none_read M here None (Some y) a e = absurd a
none_read M here (Some (message.Sector r)) q a e = absurd (cc)
none_read M here (Some (message.Log bytes)) (Some (world.LogEntry g i x)) a e = (refl, refl)
none_read M here (Some (message.Log bytes)) q a e = absurd a
none_read M here (Some (message.Ack bytes)) (Some (world.Acknowledgement g h r)) a e = (refl, refl)
none_read M here (Some (message.Part bytes)) (Some (world.ImagePart g i k)) a e = (refl, refl)
none_read M here (Some (message.Ack bytes)) q a e = absurd a
none_read M here (Some (message.Part bytes)) q a e = absurd a
none_read M here (Some (message.Byte p n b)) (Some (world.Released x)) a e = (refl, refl)
none_read M here (Some (message.Byte p n b)) q a e = absurd a
none_read M here (Some (message.Write write)) (Some (world.Released x)) a e = (refl, refl)
none_read M here (Some (message.Write write)) q a e = absurd a
none_read M here (Some (message.Written k)) (Some (world.WriteDone d)) a e = (refl, refl)
none_read M here (Some (message.Written k)) q a e = absurd a

pub read_unknown : {B H D S : Type 0} (state : B → S) (copied : B → Guest) (M : Machine S) (records : D → List Record)
    (old : Running B H D) (c : Course S) (m n : ℕ) → option_and_then sector_of (slice_get old.messages m) ≡ None →
    Shows state copied M records old c → Applies state copied M records c (event.GetReply m n) (Err Unknown) old
read_unknown state copied M records old c m n brings h =
    refuses state copied M records old old c (event.GetReply m n) Unknown h refl
    (none_read (machine_of M c) (slice_get c.world.nodes n) (slice_get old.messages m) (slice_get c.world.messages m)
    (h.parts.messages.each m) brings).0
    refl

pub read_there : {B H D S : Type 0} (state : B → S) (copied : B → Guest) (M : Machine S) (records : D → List Record) (old : Running B H D)
    (c : Course S) (m : ℕ) (read : SectorRead) → option_and_then sector_of (slice_get old.messages m) ≡ Some read →
    Shows state copied M records old c →
    slice_get c.world.messages m ≡ Some (world.SectorRead (read_address read) read.number read.bytes)
read_there state copied M records old c m read brings h =
    brings_read (slice_get old.messages m) (slice_get c.world.messages m) read (h.parts.messages.each m) brings

pub read_offered : {B H D S : Type 0} (state : B → S) (copied : B → Guest) (M : Machine S) (records : D → List Record)
    (old : Running B H D) (c : Course S) (m n : ℕ) (read : SectorRead) →
    option_and_then sector_of (slice_get old.messages m) ≡ Some read → Shows state copied M records old c →
    Offers M c n (offer.Sector read) (event.GetReply m n)
read_offered state copied M records old c m n read brings h =
    let there = read_there state copied M records old c m read brings h in
    record {
      refused = ap (λ q. at_sector_read (machine_of M c) (slice_get c.world.nodes n) q) there;
      memory = tt;
      leaves = (λ fault. refl);
      does = (λ new takes. record {
        address = read_address read;
        number = read.number;
        bytes = read.bytes;
        message = there;
        input = takes;
      });
    }
