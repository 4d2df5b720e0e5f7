-- A write arrives at the disk. A write that was released is to a sector of the disk, so only the device itself can
-- fail; or memory runs out for its answer.
use Rattle.ft_world.proofs.Words.{Accepts, Agree, Applies, AreMessages, Course, DeviceFails, Fault, Guest, IsDisk, IsMessage, Machine, Message, NeedsMemory, PutsWrite, Record, Reply, Row, Running, SectorWrite, Shows, Unknown, address_of, machine_of, reply_of, same_some, with_put, write_of, write_refusal}
use Rattle.std.proofs.Common.{◌≡◌, [], ◌∷◌, ◌++◌, ◌∙◌, Err, List, None, Ok, Some, ap, inl, inr, refl, subst, sym, ℕ}
use Rattle.std.specs.Option.{option_and_then}
use Rattle.std.specs.Prelude.{Option, Result, slice_get}
use Rattle.event_callbacks.specs.declared.operations.Operation.TheVariants as operation
use Rattle.pair_protocol.specs.Reply as protocol
use Rattle.pair_protocol.specs.World as world
use Rattle.pair_events.specs.declared.event.Event.TheVariants as event
use Rattle.pair_protocol.proofs.SharedDevices.{disk_put, not_put}
use Rattle.ft_world.specs.declared.message.Message.TheVariants as message
use Rattle.ft_world.proofs.Applying.{applies, refuses, unchanged}
use Rattle.ft_world.proofs.Released.{writes_on_disk}
use Rattle.ft_world.proofs.Sending.{messages_push}

pub brings_write : (o : Option Message) (q : Option world.Message) (write : SectorWrite) → Agree IsMessage o q →
    option_and_then write_of o ≡ Some write → q ≡ Some (world.Released (operation.Write write))
brings_write (Some (message.Write v)) (Some (world.Released x)) write a e =
    ap (λ y. Some (world.Released y)) (a ∙ ap operation.Write (same_some v.value write _ refl e))
brings_write (Some (message.Write v)) q write a e = absurd a
brings_write (Some (message.Byte p n b)) q write a e = (cc)
brings_write (Some (message.Log bytes)) q write a e = (cc)
brings_write (Some (message.Ack bytes)) q write a e = (cc)
brings_write (Some (message.Part bytes)) q write a e = (cc)
brings_write (Some (message.Written n)) q write a e = (cc)
brings_write (Some (message.Sector r)) q write a e = (cc)
brings_write None q write a e = (cc)

brings_none : (o : Option Message) (q : Option world.Message) → Agree IsMessage o q →
    option_and_then write_of o ≡ None → write_refusal q ≡ Some Unknown
brings_none None None a e = refl
brings_none None (Some y) a e = absurd a
brings_none (Some (message.Write v)) q a e = (cc)
brings_none (Some (message.Log bytes)) (Some (world.LogEntry g i x)) a e = refl
brings_none (Some (message.Log bytes)) q a e = absurd a
brings_none (Some (message.Ack bytes)) (Some (world.Acknowledgement g h r)) a e = refl
brings_none (Some (message.Part bytes)) (Some (world.ImagePart g i k)) a e = refl
brings_none (Some (message.Ack bytes)) q a e = absurd a
brings_none (Some (message.Part bytes)) q a e = absurd a
brings_none (Some (message.Byte p n b)) (Some (world.Released (operation.Byte u v w))) a e = refl
brings_none (Some (message.Byte p n b)) (Some (world.Released (operation.Write v))) a e = (cc)
brings_none (Some (message.Byte p n b)) q a e = absurd a
brings_none (Some (message.Written n)) (Some (world.WriteDone d)) a e = refl
brings_none (Some (message.Written n)) q a e = absurd a
brings_none (Some (message.Sector r)) (Some (world.SectorRead ad n bs)) a e = refl
brings_none (Some (message.Sector r)) q a e = absurd a

pub puts_unknown : {B H D S : Type 0} (state : B → S) (copied : B → Guest) (M : Machine S) (records : D → List Record)
    (old : Running B H D) (c : Course S) (m : ℕ) → option_and_then write_of (slice_get old.messages m) ≡ None →
    Shows state copied M records old c → Applies state copied M records c (event.Put m) (Err Unknown) old
puts_unknown state copied M records old c m brings h =
    refuses state copied M records old old c (event.Put m) Unknown h refl
    (brings_none (slice_get old.messages m) (slice_get c.world.messages m) (h.parts.messages.each m) brings) refl

pub puts_applies : {B H D S : Type 0} (state : B → S) (copied : B → Guest) (M : Machine S) (records : D → List Record)
    (old : Running B H D) (c : Course S) (m : ℕ) (write : SectorWrite) (answer : Result Reply Fault)
    (ms : List Message) (disk : D) → option_and_then write_of (slice_get old.messages m) ≡ Some write →
    Shows state copied M records old c →
    PutsWrite old.messages (records old.disk) write answer ms (records disk) →
    Applies state copied M records c (event.Put m) answer (record old { messages = ms; disk = disk })
puts_applies state copied M records old c m write (Ok r) ms disk brings h (said, sends, after) =
    let N = machine_of M c in
    let there = brings_write (slice_get old.messages m) (slice_get c.world.messages m) write
    (h.parts.messages.each m) brings in
    let on_disk = writes_on_disk N c.copying h.drives m c.world write h.machine h.reached there in
    let met = h.parts.disk.there (address_of write) on_disk in
    applies state copied M records old c (event.Put m) (Ok r) (with_put c.world write)
    (record old { messages = ms; disk = disk }) h
    (Accepts (ap write_refusal there) (record {
      write = write;
      message = there;
      reply = ap reply_of said ∙ ap protocol.MessageIs h.parts.messages.count;
      after = refl;
    }))
    (record {
      hosts = h.parts.hosts;
      messages = subst (λ l. AreMessages l (c.world.messages ++ world.WriteDone write.number ∷ [])) (sym sends)
          (messages_push old.messages c.world.messages (message.Written write.number)
          (world.WriteDone write.number) h.parts.messages refl);
      terminals = h.parts.terminals;
      winners = h.parts.winners;
      disk = subst (λ l. IsDisk N h.drives l (c.world.puts ++ write ∷ [])) (sym after)
          (disk_put N h.drives (records old.disk) c.world.puts write met.0 h.parts.disk met.1);
      generation = h.parts.generation;
      backup = h.parts.backup;
    })
puts_applies state copied M records old c m write (Err fault) ms disk brings h (why, same, kept) =
    let N = machine_of M c in
    let there = brings_write (slice_get old.messages m) (slice_get c.world.messages m) write
    (h.parts.messages.each m) brings in
    let on_disk = writes_on_disk N c.copying h.drives m c.world write h.machine h.reached there in
    let met = h.parts.disk.there (address_of write) on_disk in
    let free : write_refusal (slice_get c.world.messages m) ≡ None = ap write_refusal there in
    let refused = λ (f : Fault). Row N c.copying c.world (event.Put m) (protocol.Refused f) c.world in
    let row : refused fault = elim why [
      | inl is ↦ subst refused (sym is) (NeedsMemory free tt)
      | inr is ↦ subst refused (sym (not_put (records old.disk) (address_of write) met.0 fault met.1 is))
          (DeviceFails free refl)
    ] in
    unchanged state copied M records old (record old { messages = ms; disk = disk }) c (event.Put m) fault h
    (record {
      hosts = h.parts.hosts;
      messages = subst (λ l. AreMessages l c.world.messages) (sym same) h.parts.messages;
      terminals = h.parts.terminals;
      winners = h.parts.winners;
      disk = subst (λ l. IsDisk N h.drives l c.world.puts) (sym kept) h.parts.disk;
      generation = h.parts.generation;
      backup = h.parts.backup;
    })
    row
