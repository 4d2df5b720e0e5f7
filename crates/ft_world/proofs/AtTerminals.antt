-- Events at a terminal: a byte is typed there, a byte arrives, or the terminal is told how many keys are covered. The
-- screen of a port has what the arrivals of the terminal gave, so one more byte leaves both alike.
use Rattle.ft_world.proofs.Words.{Accepts, Agree, Applies, AreTerminals, Arrives, Course, Fault, Guest, IsMessage, IsTerminal, Machine, Message, PORTS, Record, Reply, Running, Screen, Shows, ShowsParts, Types, Unknown, World, accepted, accepted-one, accepted_after, accepted_in, after_arrival, after_key, arrival-counts, blank, byte_of, byte_refusal, comes_next, no_port, no_terminal, reply_of, same_some, screen_in, terminal-set, terminal_in, with_arrival, with_key}
use Rattle.std.proofs.Common.{◌≡◌, ◌+◌, ◌<◌, ◌≤◌, [], ◌∷◌, ◌++◌, ◌∙◌, Bool, Err, List, None, Ok, Some, ap, arith, cond, eqb-true, false, inl, inr, length, refl, subst, sym, true, ℕ}
use Rattle.std.specs.Option.{option_and_then}
use Rattle.std.specs.Prelude.{Option, Result, nat_le, nat_lt, slice_get, slice_set, ◌==◌}
use Rattle.std.proofs.lemmas.Bool.{le-leb, le-ltb, lt-leb}
use Rattle.std.proofs.lemmas.List.{append-nil, length-set, set_past}
use Rattle.std.proofs.lemmas.Option.{slice_get-get_or}
use Rattle.event_callbacks.specs.declared.operations.Operation.TheVariants as operation
use Rattle.pair_protocol.specs.Reply as protocol
use Rattle.pair_protocol.specs.World as world
use Rattle.pair_events.specs.declared.event.Event.TheVariants as event
use Rattle.ft_world.specs.declared.message.Message.TheVariants as message
use Rattle.pair_events.specs.declared.reply.Reply.TheVariants as reply
use Rattle.ft_world.proofs.Agreeing.{agree-both, agree-set}
use Rattle.ft_world.proofs.Applying.{applies, refuses, stands, stands_not, needs_memory}

-- the screen of a port, and its terminal
pub screen_is : (screens : List Screen) (ts : List world.Terminal) (port : ℕ) → AreTerminals screens ts → port < PORTS →
    IsTerminal (screen_in screens port) (terminal_in ts port)
screen_is screens ts port h low =
    agree-both IsTerminal (slice_get screens port) (slice_get ts port) (screen_in screens port) (terminal_in ts port)
    (slice_get-get_or screens port blank (subst (λ n. port < n) (sym h.ports) low))
    (slice_get-get_or ts port no_terminal (subst (λ n. port < n) (sym h.count) low))
    (h.each port)

pub terminals_set : (screens : List Screen) (ts : List world.Terminal) (port : ℕ) (s : Screen) (t : world.Terminal) →
    AreTerminals screens ts → IsTerminal s t → AreTerminals (slice_set screens port s) (slice_set ts port t)
terminals_set screens ts port s t h i = record {
  ports = length-set screens port s ∙ h.ports;
  count = length-set ts port t ∙ h.count;
  each = agree-set IsTerminal screens ts port s t i h.each;
}

-- there is such a port, and there is none
pub port_there : {S : Type 0} (w : World S) (port : ℕ) → length w.terminals ≡ PORTS → port < PORTS →
    no_port w port ≡ None
port_there w port e low =
    stands_not (nat_le (length w.terminals) port) Unknown
    (lt-leb (length w.terminals) port (subst (λ n. port < n) (sym e) low))

pub port_missing : {S : Type 0} (w : World S) (port : ℕ) → length w.terminals ≡ PORTS → PORTS ≤ port →
    no_port w port ≡ Some Unknown
port_missing w port e high =
    stands (nat_le (length w.terminals) port) Unknown
    (le-leb (length w.terminals) port (subst (λ n. n ≤ port) (sym e) high))

-- the terminals change, and nothing else
pub with_screens : {B H D S : Type 0} (state : B → S) (copied : B → Guest) (M : Machine S) (records : D → List Record) (drives : ℕ)
    (old : Running B H D) (c : Course S) (screens : List Screen) (ts : List world.Terminal) →
    ShowsParts state M records drives old c → AreTerminals screens ts →
    ShowsParts state M records drives (record old { terminals = screens })
    (record c { world = record c.world { terminals = ts } })
with_screens state copied M records drives old c screens ts p are = record {
  hosts = p.hosts;
  messages = p.messages;
  terminals = are;
  winners = p.winners;
  disk = p.disk;
  generation = p.generation;
  backup = p.backup;
}

-- A byte is typed.

key_is : (s : Screen) (t : world.Terminal) (byte : ℕ) → IsTerminal s t →
    IsTerminal (after_key s byte) (record t { typed = t.typed ++ byte ∷ [] })
key_is s t byte i = record { accepted = i.accepted; typed = ap (λ l. l ++ byte ∷ []) i.typed; told = i.told }

pub types_applies : {B H D S : Type 0} (state : B → S) (copied : B → Guest) (M : Machine S) (records : D → List Record)
    (old : Running B H D) (c : Course S) (port byte : ℕ) (answer : Result Reply Fault) (screens : List Screen) →
    Shows state copied M records old c → Types old.terminals port byte answer screens →
    Applies state copied M records c (event.TypeByte port byte) answer (record old { terminals = screens })
types_applies state copied M records old c port byte (Ok r) screens h (low, said, after) =
    let ts = c.world.terminals in
    let i = screen_is old.terminals ts port h.parts.terminals low in
    let are = terminals_set old.terminals ts port (after_key (screen_in old.terminals port) byte)
    (record (terminal_in ts port) { typed = (terminal_in ts port).typed ++ byte ∷ [] }) h.parts.terminals
    (key_is (screen_in old.terminals port) (terminal_in ts port) byte i) in
    applies state copied M records old c (event.TypeByte port byte) (Ok r) (with_key c.world port byte)
    (record old { terminals = screens }) h
    (Accepts (port_there c.world port h.parts.terminals.count low) (record {
      reply = ap reply_of said ∙ ap (λ l. protocol.TypedAt (length l)) i.typed;
      after = refl;
    }))
    (with_screens state copied M records h.drives old c screens (with_key c.world port byte).terminals h.parts
    (subst (λ l. AreTerminals l (with_key c.world port byte).terminals) (sym after) are))
types_applies state copied M records old c port byte (Err fault) screens h (inl (is, high), same) =
    subst (λ f. Applies state copied M records c (event.TypeByte port byte) (Err f) (record old { terminals = screens }))
    (sym is)
    (refuses state copied M records old (record old { terminals = screens }) c (event.TypeByte port byte) Unknown h
    (ap (λ l. record old { terminals = l }) same)
    (port_missing c.world port h.parts.terminals.count high) refl)
types_applies state copied M records old c port byte (Err fault) screens h (inr (is, low), same) =
    needs_memory state copied M records old (record old { terminals = screens }) c (event.TypeByte port byte) fault h
    (ap (λ l. record old { terminals = l }) same) (port_there c.world port h.parts.terminals.count low) tt is

-- A byte arrives.

arrived_accepted : (s : Screen) (byte : ℕ) (b : Bool) →
    (cond b (record s { accepted = s.accepted ++ byte ∷ [] }) s).accepted ≡ s.accepted ++ cond b (byte ∷ []) []
arrived_accepted s byte true = refl
arrived_accepted s byte false = sym (append-nil s.accepted)

arrived_typed : (s : Screen) (byte : ℕ) (b : Bool) →
    (cond b (record s { accepted = s.accepted ++ byte ∷ [] }) s).typed ≡ s.typed
arrived_typed s byte true = refl
arrived_typed s byte false = refl

arrived_told : (s : Screen) (byte : ℕ) (b : Bool) →
    (cond b (record s { accepted = s.accepted ++ byte ∷ [] }) s).told ≡ s.told
arrived_told s byte true = refl
arrived_told s byte false = refl

arrival_is : (s : Screen) (t : world.Terminal) (number byte : ℕ) → IsTerminal s t →
    IsTerminal (after_arrival s number byte)
    (record t { arrivals = t.arrivals ++ record { number = number; byte = byte } ∷ [] })
arrival_is s t number byte i = record {
  accepted = arrived_accepted s byte (number == length s.accepted + 1)
      ∙ ap (λ l. l ++ cond (number == length l + 1) (byte ∷ []) []) i.accepted
      ∙ sym (accepted-one t.arrivals (record { number = number; byte = byte }));
  typed = arrived_typed s byte (number == length s.accepted + 1) ∙ i.typed;
  told = arrived_told s byte (number == length s.accepted + 1) ∙ i.told;
}

-- the message brings this byte, or none
released : (o : Option Message) (q : Option world.Message) (port number byte : ℕ) → Agree IsMessage o q →
    option_and_then byte_of o ≡ Some (port, number, byte) →
    q ≡ Some (world.Released (operation.Byte port number byte))
released (Some (message.Byte p n b)) (Some (world.Released x)) port number byte a e =
    let t : (p, n, b) ≡ (port, number, byte) = same_some _ _ _ refl e in
    ap (λ y. Some (world.Released y)) (a ∙ ap (λ (t : ℕ × ℕ × ℕ). operation.Byte t.0 t.1 t.2) t)
released (Some (message.Byte p n b)) q port number byte a e = absurd a
released (Some (message.Log bytes)) q port number byte a e = (cc)
released (Some (message.Ack bytes)) q port number byte a e = (cc)
released (Some (message.Part bytes)) q port number byte a e = (cc)
released (Some (message.Write write)) q port number byte a e = (cc)
released (Some (message.Written n)) q port number byte a e = (cc)
released (Some (message.Sector r)) q port number byte a e = (cc)
released None q port number byte a e = (cc)

not_released : (o : Option Message) (q : Option world.Message) → Agree IsMessage o q →
    option_and_then byte_of o ≡ None → byte_refusal q ≡ Some Unknown
not_released None None a e = refl
not_released None (Some y) a e = absurd a
not_released (Some (message.Byte p n b)) q a e = (cc)
not_released (Some (message.Log bytes)) (Some (world.LogEntry g i x)) a e = refl
not_released (Some (message.Log bytes)) q a e = absurd a
not_released (Some (message.Ack bytes)) (Some (world.Acknowledgement g h r)) a e = refl
not_released (Some (message.Part bytes)) (Some (world.ImagePart g i k)) a e = refl
not_released (Some (message.Ack bytes)) q a e = absurd a
not_released (Some (message.Part bytes)) q a e = absurd a
not_released (Some (message.Write write)) (Some (world.Released (operation.Write v))) a e = refl
not_released (Some (message.Write write)) (Some (world.Released (operation.Byte p n b))) a e = (cc)
not_released (Some (message.Write write)) q a e = absurd a
not_released (Some (message.Written n)) (Some (world.WriteDone d)) a e = refl
not_released (Some (message.Written n)) q a e = absurd a
not_released (Some (message.Sector r)) (Some (world.SectorRead ad n bs)) a e = refl
not_released (Some (message.Sector r)) q a e = absurd a

reply_if : (b : Bool) →
    reply_of (cond b reply.Accepted reply.Dropped) ≡ cond b protocol.Accepted protocol.Dropped
reply_if true = refl
reply_if false = refl

pub arrives_applies : {B H D S : Type 0} (state : B → S) (copied : B → Guest) (M : Machine S) (records : D → List Record)
    (old : Running B H D) (c : Course S) (m port number byte : ℕ) (answer : Result Reply Fault) (screens : List Screen) →
    option_and_then byte_of (slice_get old.messages m) ≡ Some (port, number, byte) →
    Shows state copied M records old c → Arrives old.terminals port number byte answer screens →
    Applies state copied M records c (event.Arrive m) answer (record old { terminals = screens })
arrives_applies state copied M records old c m port number byte (Ok r) screens brings h (inl (low, said, after)) =
    let ts = c.world.terminals in
    let t = terminal_in ts port in
    let s = screen_in old.terminals port in
    let a : world.Arrival = record { number = number; byte = byte } in
    let i = screen_is old.terminals ts port h.parts.terminals low in
    let there = released (slice_get old.messages m) (slice_get c.world.messages m) port number byte
    (h.parts.messages.each m) brings in
    let are = terminals_set old.terminals ts port (after_arrival s number byte)
    (record t { arrivals = t.arrivals ++ a ∷ [] }) h.parts.terminals (arrival_is s t number byte i) in
    let now = terminal-set ts port (record t { arrivals = t.arrivals ++ a ∷ [] })
    (subst (λ n. port < n) (sym h.parts.terminals.count) low) in
    applies state copied M records old c (event.Arrive m) (Ok r) (with_arrival c.world port a)
    (record old { terminals = screens }) h
    (Accepts (ap byte_refusal there) (record {
      port = port;
      number = number;
      byte = byte;
      message = there;
      reply = ap reply_of said ∙ reply_if (comes_next s number)
          ∙ ap (λ l. cond (number == length l + 1) protocol.Accepted protocol.Dropped) i.accepted
          ∙ ap (λ b. cond b protocol.Accepted protocol.Dropped) (sym (arrival-counts t.arrivals a))
          ∙ ap (λ (u : world.Terminal). cond
          (nat_lt (length (accepted_after 0 t.arrivals)) (length (accepted_after 0 u.arrivals)))
          protocol.Accepted protocol.Dropped) (sym now);
      after = refl;
    }))
    (with_screens state copied M records h.drives old c screens (with_arrival c.world port a).terminals h.parts
    (subst (λ l. AreTerminals l (with_arrival c.world port a).terminals) (sym after) are))
arrives_applies state copied M records old c m port number byte (Ok r) screens brings h (inr (high, said, after)) =
    let ts = c.world.terminals in
    let t = terminal_in ts port in
    let a : world.Arrival = record { number = number; byte = byte } in
    let there = released (slice_get old.messages m) (slice_get c.world.messages m) port number byte
    (h.parts.messages.each m) brings in
    let same : slice_set ts port (record t { arrivals = t.arrivals ++ a ∷ [] }) ≡ ts =
    set_past ts port (record t { arrivals = t.arrivals ++ a ∷ [] })
    (subst (λ n. n ≤ port) (sym h.parts.terminals.count) high) in
    applies state copied M records old c (event.Arrive m) (Ok r) (with_arrival c.world port a)
    (record old { terminals = screens }) h
    (Accepts (ap byte_refusal there) (record {
      port = port;
      number = number;
      byte = byte;
      message = there;
      reply = ap reply_of said
          ∙ ap (λ b. cond b protocol.Accepted protocol.Dropped)
          (sym (le-ltb (length (accepted_in ts port)) (length (accepted_in ts port)) (omega arith)))
          ∙ ap (λ us. cond (nat_lt (length (accepted_in ts port)) (length (accepted_in us port)))
          protocol.Accepted protocol.Dropped) (sym same);
      after = refl;
    }))
    (with_screens state copied M records h.drives old c screens (with_arrival c.world port a).terminals h.parts
    (subst (λ us. AreTerminals screens us) (sym same)
    (subst (λ l. AreTerminals l ts) (sym after) h.parts.terminals)))
arrives_applies state copied M records old c m port number byte (Err fault) screens brings h (is, low, next, same) =
    let s = screen_in old.terminals port in
    let i = screen_is old.terminals c.world.terminals port h.parts.terminals low in
    let there = released (slice_get old.messages m) (slice_get c.world.messages m) port number byte
    (h.parts.messages.each m) brings in
    let n = eqb-true number (length s.accepted + 1) next in
    let l : length s.accepted ≡ length (accepted c.world port) = ap length i.accepted in
    needs_memory state copied M records old (record old { terminals = screens }) c (event.Arrive m) fault h
    (ap (λ l. record old { terminals = l }) same) (ap byte_refusal there)
    (record { port = port; number = number; byte = byte; message = there; next = omega (arith, n, l) }) is

pub arrives_unknown : {B H D S : Type 0} (state : B → S) (copied : B → Guest) (M : Machine S) (records : D → List Record)
    (old : Running B H D) (c : Course S) (m : ℕ) → option_and_then byte_of (slice_get old.messages m) ≡ None →
    Shows state copied M records old c → Applies state copied M records c (event.Arrive m) (Err Unknown) old
arrives_unknown state copied M records old c m brings h =
    refuses state copied M records old old c (event.Arrive m) Unknown h refl
    (not_released (slice_get old.messages m) (slice_get c.world.messages m) (h.parts.messages.each m) brings) refl
