-- A node releases an operation to its device, and a terminal is told how many of its keys a node has covered. Each is
-- refused if there is no such port, and then as the node refuses it. Neither changes a node: a release sends one more
-- message, and a terminal keeps the greatest number that it was told, here and in the world.
use Rattle.ft_world.proofs.Words.{Accepts, Applies, AreTerminals, Course, Fault, Guest, HasCovered, HasOutstanding, IsMessage, IsTerminal, Machine, Message, Never, Node, Operation, PORTS, Record, Releases, Reply, Running, Screen, Shows, Unknown, World, after_telling, answered, at_node, fault_if, first_of, keys_covered-booted, machine_of, no_device, no_port, no_such, operation_of, release_refusal, same_some, screen_in, terminal_in, told_refusal, with_told}
use Rattle.std.proofs.Common.{◌≡◌, ◌<◌, ◌≤◌, [], ◌∷◌, ◌∙◌, Err, List, None, Ok, Some, ap, refl, subst, sym, ℕ}
use Rattle.std.specs.Prelude.{Option, Result, length, max, nat_le, slice_get, slice_set}
use Rattle.event_callbacks.specs.declared.operations.OpId.{OpId}
use Rattle.event_callbacks.specs.declared.operations.OpId.TheVariants as id
use Rattle.pair_protocol.specs.World as world
use Rattle.ft_world.proofs.AtHosts.{AsksNode}
use Rattle.pair_events.specs.declared.event.Event.TheVariants as event
use Rattle.pair_events.specs.declared.reply.Reply.TheVariants as reply
use Rattle.ft_world.specs.declared.message.Message.TheVariants as message
use Rattle.ft_world.proofs.Applying.{applies, needs_memory, refuses}
use Rattle.ft_world.proofs.AtOneNode.{asks_refused, elsewhere_of, first_stands, node_asked, second_of}
use Rattle.ft_world.proofs.AtTerminals.{port_missing, port_there, screen_is, terminals_set, with_screens}
use Rattle.ft_world.proofs.Sending.{says_applies}
use Rattle.ft_world.proofs.AtInputs.{is_refused}

-- ---- an operation is released

-- its device is there if the world has it
device_is : {S : Type 0} (w : World S) (name : OpId) → length w.terminals ≡ PORTS → no_such w name ≡ no_device name
device_is w (id.Byte port number) e = ap (λ n. fault_if (nat_le n port) Unknown) e
device_is w (id.Write number) e = refl

passes : (o : Option Fault) (done : Unit {0}) → ◌≡◌ {A = Result (Unit {0}) Fault} (Ok done) (answered o) → o ≡ None
passes None done e = refl
passes (Some f) done e = absurd (cc)

released_is : (m : Message) (o : Operation) → operation_of m ≡ Some o → IsMessage m (world.Released o)
released_is (message.Byte port number byte) o e = sym (same_some _ o _ refl e)
released_is (message.Write write) o e = sym (same_some _ o _ refl e)
released_is m o e = (cc)

pub releases_nowhere : {B H D S : Type 0} (state : B → S) (copied : B → Guest) (M : Machine S) (records : D → List Record)
    (old : Running B H D) (c : Course S) (n : ℕ) (name : OpId) (fault : Fault) → Shows state copied M records old c →
    ◌≡◌ {A = Result (Unit {0}) Fault} (Err fault) (answered (no_device name)) →
    Applies state copied M records c (event.Release n name) (Err fault) old
releases_nowhere state copied M records old c n name fault h e =
    refuses state copied M records old old c (event.Release n name) fault h refl
    (first_stands (no_such c.world name) (at_node (slice_get c.world.nodes n) (release_refusal (machine_of M c) name))
    fault (device_is c.world name h.parts.terminals.count ∙ is_refused (no_device name) fault e)) refl

-- the device is there, so what is left is the node's part
node_left : {B H D S : Type 0} (state : B → S) (copied : B → Guest) (M : Machine S) (records : D → List Record) (old : Running B H D)
    (c : Course S) (n : ℕ) (name : OpId) (done : Unit {0}) → Shows state copied M records old c →
    ◌≡◌ {A = Result (Unit {0}) Fault} (Ok done) (answered (no_device name)) →
    first_of (no_such c.world name ∷ at_node (slice_get c.world.nodes n) (release_refusal M name) ∷ [])
    ≡ at_node (slice_get c.world.nodes n) (release_refusal M name)
node_left state copied M records old c n name done h e =
    second_of (no_such c.world name) (at_node (slice_get c.world.nodes n) (release_refusal M name))
    (device_is c.world name h.parts.terminals.count ∙ passes (no_device name) done e)

pub releases_refused : {B H D S : Type 0} (state : B → S) (copied : B → Guest) (M : Machine S) (records : D → List Record)
    (old : Running B H D) (c : Course S) (n : ℕ) (name : OpId) (done : Unit {0}) (fault : Fault) →
    Shows state copied M records old c → ◌≡◌ {A = Result (Unit {0}) Fault} (Ok done) (answered (no_device name)) →
    AsksNode c.world n (release_refusal M name) Never (HasOutstanding M name) (Err fault) →
    Applies state copied M records c (event.Release n name) (Err fault) old
releases_refused state copied M records old c n name done fault h e a =
    asks_refused h (event.Release n name) fault (node_left state copied M records old c n name done h e)
    (λ never. absurd never.said) refl a

pub releases_applies : {B H D S : Type 0} (state : B → S) (copied : B → Guest) (M : Machine S) (records : D → List Record)
    (old : Running B H D) (c : Course S) (n : ℕ) (name : OpId) (done : Unit {0}) (o : Operation)
    (answer : Result Reply Fault) (ms : List Message) → Shows state copied M records old c →
    ◌≡◌ {A = Result (Unit {0}) Fault} (Ok done) (answered (no_device name)) →
    AsksNode c.world n (release_refusal M name) Never (HasOutstanding M name) (Ok o) →
    Releases old.messages o answer ms →
    Applies state copied M records c (event.Release n name) answer (record old { messages = ms })
releases_applies state copied M records old c n name done o (Ok r) ms h e a (m, is, said) =
    let k = node_asked c.world n (release_refusal M name) o a in
    says_applies state copied M records old c (event.Release n name) m (world.Released o) (Ok r) ms h
    (released_is m o is) (node_left state copied M records old c n name done h e ∙ k.0) tt
    (record { o = o; node = k.1; says = record { reply = refl; after = refl } })
    said
releases_applies state copied M records old c n name done o (Err fault) ms h e a (is, same) =
    let k = node_asked c.world n (release_refusal M name) o a in
    needs_memory state copied M records old (record old { messages = ms }) c (event.Release n name) fault h
    (ap (λ l. record old { messages = l }) same) (node_left state copied M records old c n name done h e ∙ k.0) tt is

-- ---- a terminal is told

pub tells_nowhere : {B H D S : Type 0} (state : B → S) (copied : B → Guest) (M : Machine S) (records : D → List Record)
    (old : Running B H D) (c : Course S) (n port : ℕ) → Shows state copied M records old c → PORTS ≤ port →
    Applies state copied M records c (event.Told n port) (Err Unknown) old
tells_nowhere state copied M records old c n port h high =
    refuses state copied M records old old c (event.Told n port) Unknown h refl
    (first_stands (no_port c.world port) (at_node (slice_get c.world.nodes n) told_refusal) Unknown
    (port_missing c.world port h.parts.terminals.count high)) refl

tells_left : {B H D S : Type 0} (state : B → S) (copied : B → Guest) (M : Machine S) (records : D → List Record) (old : Running B H D)
    (c : Course S) (n port : ℕ) → Shows state copied M records old c → port < PORTS →
    first_of (no_port c.world port ∷ at_node (slice_get c.world.nodes n) told_refusal ∷ [])
    ≡ at_node (slice_get c.world.nodes n) told_refusal
tells_left state copied M records old c n port h low =
    second_of (no_port c.world port) (at_node (slice_get c.world.nodes n) told_refusal)
    (port_there c.world port h.parts.terminals.count low)

pub tells_refused : {B H D S : Type 0} (state : B → S) (copied : B → Guest) (M : Machine S) (records : D → List Record)
    (old : Running B H D) (c : Course S) (n port : ℕ) (fault : Fault) → Shows state copied M records old c → port < PORTS →
    AsksNode c.world n told_refusal Never (HasCovered M port) (Err fault) →
    Applies state copied M records c (event.Told n port) (Err fault) old
tells_refused state copied M records old c n port fault h low a =
    asks_refused h (event.Told n port) fault (tells_left state copied M records old c n port h low)
    (λ never. absurd never.said) refl a

told_is : (s : Screen) (t : world.Terminal) (keys : ℕ) → IsTerminal s t →
    IsTerminal (after_telling s keys) (record t { told = max t.told keys })
told_is s t keys i = record { accepted = i.accepted; typed = i.typed; told = ap (λ n. max n keys) i.told }

-- a node has as many keys covered if its machine began elsewhere
has_covered : {S : Type 0} (M : Machine S) (c : Course S) (port keys : ℕ) (x : Node S) → HasCovered M port keys x →
    HasCovered (machine_of M c) port keys x
has_covered M c port keys x s = s ∙ sym (keys_covered-booted M c.boot c.sectors x port x.role)

pub tells_applies : {B H D S : Type 0} (state : B → S) (copied : B → Guest) (M : Machine S) (records : D → List Record)
    (old : Running B H D) (c : Course S) (n port keys : ℕ) (screens : List Screen) → Shows state copied M records old c →
    port < PORTS → AsksNode c.world n told_refusal Never (HasCovered M port) (Ok keys) →
    screens ≡ slice_set old.terminals port (after_telling (screen_in old.terminals port) keys) →
    Applies state copied M records c (event.Told n port) (Ok (reply.Told keys)) (record old { terminals = screens })
tells_applies state copied M records old c n port keys screens h low a after =
    let k = node_asked c.world n told_refusal keys a in
    let ts = c.world.terminals in
    let i = screen_is old.terminals ts port h.parts.terminals low in
    let are = terminals_set old.terminals ts port (after_telling (screen_in old.terminals port) keys)
    (record (terminal_in ts port) { told = max (terminal_in ts port).told keys }) h.parts.terminals
    (told_is (screen_in old.terminals port) (terminal_in ts port) keys i) in
    applies state copied M records old c (event.Told n port) (Ok (reply.Told keys)) (with_told c.world port keys)
    (record old { terminals = screens }) h
    (Accepts (tells_left state copied M records old c n port h low ∙ k.0) (record { keys = keys; node = elsewhere_of (λ x s. has_covered M c port keys x s) k.1; reply = refl; after = refl }))
    (with_screens state copied M records h.drives old c screens (with_told c.world port keys).terminals h.parts
    (subst (λ l. AreTerminals l (with_told c.world port keys).terminals) (sym after) are))
