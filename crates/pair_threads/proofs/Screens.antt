-- The terminals' worker: a byte that is counted arrives, and is accepted if it is the next one.
use Rattle.std.proofs.Common.{◌≡◌, ℕ, Bool, true, false, List, ◌++◌, length, map, Option, Some, sym, ap, ◌∙◌}
use Rattle.std.specs.Prelude.{not}
use Rattle.std.proofs.lemmas.List.{map_push}
use Rattle.pair_threads.proofs.Words.{Arrived, Byte, Core, Knowledge, Operation, accepted_after, arrival_of, arrives, byte_arrived, bytes_accepted, with_known}
use Rattle.pair_protocol.proofs.Promises.OneMore.{accepted-one}
use Rattle.pair_rule.specs.declared.payload.PortByte.{PortByte}
use Rattle.pair_threads.specs.Screens.{HasInHand, next_byte, port_of}

-- the bytes that are accepted of these arrivals
abbrev accepted_of : List Arrived → List ℕ
accepted_of arrivals = accepted_after 0 (map arrival_of arrivals)

one_arrives : (hand : Option Operation) (arrivals : List Arrived) (port : ℕ) (b : PortByte)
    → hand ≡ Some (Byte port b.number b.byte)
    → accepted_of (arrives hand arrivals) ≡ accepted_of arrivals ++ next_byte (length (accepted_of arrivals)) b
one_arrives hand arrivals port b is =
    let a : Arrived = record { number = b.number; byte = b.byte } in
    ap (λ h. accepted_of (arrives h arrivals)) is ∙ ap (accepted_after 0) (map_push arrival_of arrivals a)
    ∙ accepted-one (map arrival_of arrivals) (arrival_of a)

pub counted : (second : Bool) (b : PortByte) (k : Knowledge) → HasInHand second b k
    → bytes_accepted (port_of second) (byte_arrived (port_of second) k)
    ≡ bytes_accepted (port_of second) k ++ next_byte (length (bytes_accepted (port_of second) k)) b
counted false b k hand = one_arrives k.terminal.hand0 k.terminal.arrivals0 0 b hand
counted true b k hand = one_arrives k.terminal.hand1 k.terminal.arrivals1 1 b hand

-- so its terminal has accepted it, and the other one has what it had
pub screen_after : (second : Bool) (b : PortByte) (old new : Core) (items after : List ℕ) → HasInHand second b old.known
    → items ≡ bytes_accepted (port_of second) old.known → new ≡ with_known (byte_arrived (port_of second)) old
    → after ≡ items ++ next_byte (length items) b → after ≡ bytes_accepted (port_of second) new.known
screen_after second b old new items after hand is counts more =
    more ∙ ap (λ l. l ++ next_byte (length l) b) is ∙ sym (counted second b old.known hand)
    ∙ ap (λ (c : Core). bytes_accepted (port_of second) c.known) (sym counts)

pub other_screen : (second : Bool) (old new : Core) (items : List ℕ)
    → items ≡ bytes_accepted (port_of (not second)) old.known → new ≡ with_known (byte_arrived (port_of second)) old
    → items ≡ bytes_accepted (port_of (not second)) new.known
other_screen false old new items is counts = is ∙ ap (λ (c : Core). bytes_accepted 1 c.known) (sym counts)
other_screen true old new items is counts = is ∙ ap (λ (c : Core). bytes_accepted 0 c.known) (sym counts)
