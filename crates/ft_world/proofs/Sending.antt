-- A message is sent: one more is appended, here and in the world that is shown. What a node is asked for is refused as
-- its part says, or is what the node has.
use Rattle.ft_world.proofs.Words.{Accepts, Applies, AreMessages, Course, Does, Event, Ever, Fault, Guest, IsMessage, IsSpelled, Machine, MayNeedMemory, Message, Node, Reads, Record, Reply, Running, Says, SendsEntry, Shows, ShowsParts, acknowledge_refusal, machine_of, refusal, replay_told, reply_of, reported_by, send_refusal, told_by, with_message}
use Rattle.std.proofs.Common.{◌≡◌, ◌+◌, [], ◌∷◌, ◌++◌, ◌∙◌, Err, List, None, Ok, ap, length, refl, subst, sym, ℕ}
use Rattle.std.specs.Prelude.{Result, unwrap_or}
use Rattle.std.specs.Global.{Vec}
use Rattle.std.proofs.lemmas.List.{length-append}
use Rattle.guest_lockstep.specs.declared.reads.Reads.TheVariants.{Logged, Shared}
use Rattle.log_channel.specs.declared.packet.Packet.TheVariants as packet
use Rattle.log_channel.proofs.PacketLaws.{is_only}
use Rattle.pair_protocol.specs.Reply as protocol
use Rattle.pair_protocol.specs.World as sent
use Rattle.ft_world.proofs.AtHosts.{AsksNode}
use Rattle.ft_world.proofs.AtOneNode.{asks_refused, node_asked}
use Rattle.pair_events.specs.declared.event.Event.TheVariants as event
use Rattle.ft_world.specs.declared.message.Message.TheVariants as message
use Rattle.ft_world.proofs.Agreeing.{agree-push}
use Rattle.ft_world.proofs.Applying.{applies, needs_memory}

pub messages_push : (ms : List Message) (ss : List sent.Message) (m : Message) (s : sent.Message) → AreMessages ms ss →
    IsMessage m s → AreMessages (ms ++ m ∷ []) (ss ++ s ∷ [])
messages_push ms ss m s h i = record {
  count = length-append ms (m ∷ []) ∙ ap (λ n. n + 1) h.count ∙ sym (length-append ss (s ∷ []));
  each = agree-push IsMessage ms ss m s i h.each;
}

-- the messages change, and nothing else
pub with_messages : {B H D S : Type 0} (state : B → S) (copied : B → Guest) (M : Machine S) (records : D → List Record) (drives : ℕ)
    (old : Running B H D) (c : Course S) (ms : List Message) (ss : List sent.Message) →
    ShowsParts state M records drives old c → AreMessages ms ss →
    ShowsParts state M records drives (record old { messages = ms })
    (record c { world = record c.world { messages = ss } })
with_messages state copied M records drives old c ms ss p are = record {
  hosts = p.hosts;
  messages = are;
  terminals = p.terminals;
  winners = p.winners;
  disk = p.disk;
  generation = p.generation;
  backup = p.backup;
}

-- an event that sends a message
pub says_applies : {B H D S : Type 0} (state : B → S) (copied : B → Guest) (M : Machine S) (records : D → List Record) (old : Running B H D)
    (c : Course S) (e : Event) (m : Message) (s : sent.Message) (answer : Result Reply Fault) (ms : List Message) →
    Shows state copied M records old c → IsMessage m s → refusal (machine_of M c) c.copying c.world e ≡ None →
    MayNeedMemory (machine_of M c) c.world e →
    Does (machine_of M c) c.copying c.world e (protocol.MessageIs (length c.world.messages))
    (with_message c.world s) →
    Says old.messages m answer ms → Applies state copied M records c e answer (record old { messages = ms })
says_applies state copied M records old c e m s (Ok r) ms h i free takes does (said, after) =
    let is : reply_of r ≡ protocol.MessageIs (length c.world.messages) =
    ap reply_of said ∙ ap protocol.MessageIs h.parts.messages.count in
    applies state copied M records old c e (Ok r) (with_message c.world s) (record old { messages = ms }) h
    (Accepts free
    (subst (λ q. Does (machine_of M c) c.copying c.world e q (with_message c.world s)) (sym is) does))
    (with_messages state copied M records h.drives old c ms (c.world.messages ++ s ∷ []) h.parts
    (subst (λ l. AreMessages l (c.world.messages ++ s ∷ [])) (sym after)
    (messages_push old.messages c.world.messages m s h.parts.messages i)))
says_applies state copied M records old c e m s (Err fault) ms h i free takes does (is, same) =
    needs_memory state copied M records old (record old { messages = ms }) c e fault h
    (ap (λ l. record old { messages = l }) same) free takes is

-- A primary sends an entry of its log.

pub sends_refused : {B H D S : Type 0} (state : B → S) (copied : B → Guest) (M : Machine S) (records : D → List Record)
    (old : Running B H D) (c : Course S) (n index : ℕ) (fault : Fault) → Shows state copied M records old c →
    AsksNode c.world n (send_refusal index) Ever (λ bytes x. SendsEntry index x bytes) (Err fault) →
    Applies state copied M records c (event.Send n index) (Err fault) old
sends_refused state copied M records old c n index fault h a =
    asks_refused h (event.Send n index) fault refl (λ s. tt) refl a

pub sends_applies : {B H D S : Type 0} (state : B → S) (copied : B → Guest) (M : Machine S) (records : D → List Record)
    (old : Running B H D) (c : Course S) (n index : ℕ) (bytes : Vec ℕ) (answer : Result Reply Fault)
    (ms : List Message) → Shows state copied M records old c →
    AsksNode c.world n (send_refusal index) Ever (λ bytes x. SendsEntry index x bytes) (Ok bytes) →
    Says old.messages (message.Log bytes) answer ms →
    Applies state copied M records c (event.Send n index) answer (record old { messages = ms })
sends_applies state copied M records old c n index bytes answer ms h a said =
    let k = node_asked c.world n (send_refusal index) bytes a in
    let x = k.1.x in
    let s = k.1.said in
    says_applies state copied M records old c (event.Send n index) (message.Log bytes)
    (sent.LogEntry x.generation index s.e) answer ms h
    (is_only bytes.items (packet.Log x.generation index s.e) s.spelled.0 s.spelled.1) k.0 tt
    (record {
      e = s.e;
      node = record { x = x; there = k.1.there; said = s.entry };
      says = record { reply = refl; after = refl };
    })
    said

-- A backup acknowledges all that it holds.

-- the packet spells what it holds, and how much of that is replayed if its log leaves sectors to the shared disk
abbrev pub SpellsHeld : {S : Type 0} → Vec ℕ → Node S → Type 0
SpellsHeld bytes x = IsSpelled (packet.Ack x.generation (length x.held) (reported_by x.reads x.replayed)) bytes

told_reported : (reads : Reads) (replayed : ℕ) → told_by reads replayed ≡ unwrap_or (reported_by reads replayed) 0
told_reported Logged replayed = refl
told_reported Shared replayed = refl

pub acknowledges_refused : {B H D S : Type 0} (state : B → S) (copied : B → Guest) (M : Machine S) (records : D → List Record)
    (old : Running B H D) (c : Course S) (n : ℕ) (fault : Fault) → Shows state copied M records old c →
    AsksNode c.world n acknowledge_refusal Ever SpellsHeld (Err fault) →
    Applies state copied M records c (event.Acknowledge n) (Err fault) old
acknowledges_refused state copied M records old c n fault h a =
    asks_refused h (event.Acknowledge n) fault refl (λ s. tt) refl a

pub acknowledges_applies : {B H D S : Type 0} (state : B → S) (copied : B → Guest) (M : Machine S) (records : D → List Record)
    (old : Running B H D) (c : Course S) (n : ℕ) (bytes : Vec ℕ) (answer : Result Reply Fault) (ms : List Message) →
    Shows state copied M records old c → AsksNode c.world n acknowledge_refusal Ever SpellsHeld (Ok bytes) →
    Says old.messages (message.Ack bytes) answer ms →
    Applies state copied M records c (event.Acknowledge n) answer (record old { messages = ms })
acknowledges_applies state copied M records old c n bytes answer ms h a said =
    let k = node_asked c.world n acknowledge_refusal bytes a in
    let x = k.1.x in
    says_applies state copied M records old c (event.Acknowledge n) (message.Ack bytes)
    (sent.Acknowledgement x.generation (length x.held) (replay_told x)) answer ms h
    (let reports = reported_by x.reads x.replayed in (
      reports,
      is_only bytes.items (packet.Ack x.generation (length x.held) reports) k.1.said.0 k.1.said.1,
      told_reported x.reads x.replayed,
    ))
    k.0 tt
    (record {
      held = length x.held;
      replayed = replay_told x;
      node = record { x = x; there = k.1.there; said = (refl, refl) };
      says = record { reply = refl; after = refl };
    }) said
