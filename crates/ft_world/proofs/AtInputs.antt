-- Events by which a node takes an input: it keeps its role and its generation. A key was typed, and a byte was accepted,
-- exactly if it was in the world that is shown, so their events are refused alike.
use Rattle.ft_world.proofs.Words.{Applies, AreTerminals, Course, Event, Ever, Fault, Guest, Host, Machine, PORTS, Record, Running, Screen, Shows, Took, Took-booted, Unknown, answered, at_node, blank, fault_if, machine_of, no_terminal, not_accepted, not_typed, refusal, screen_in, terminal_in}
use Rattle.std.proofs.Common.{◌≡◌, ◌≤◌, ◌∙◌, Err, List, None, Ok, Some, ap, inl, inr, length, refl, subst, sym, ℕ}
use Rattle.std.specs.Prelude.{Option, Result, is_none, nat_lt, ok_or, slice_get, ◌==◌, ◌||◌}
use Rattle.std.proofs.lemmas.Bool.Decides.{leb_tells}
use Rattle.std.proofs.lemmas.List.{get_or_past}
use Rattle.pair_protocol.specs.Refusals as refusals
use Rattle.pair_protocol.specs.World as world
use Rattle.ft_world.proofs.AtHosts.{AtHost}
use Rattle.ft_world.specs.Devices as table
use Rattle.ft_world.specs.Offers.{Offers, input_of, offer_refusal}
use Rattle.pair_events.specs.declared.event.Event.TheVariants as event
use Rattle.pair_events.specs.declared.reply.Reply.TheVariants as reply
use Rattle.ft_world.specs.declared.offer.Offer.{Offer}
use Rattle.ft_world.specs.declared.offer.Offer.TheVariants as offer
use Rattle.ft_world.proofs.Applying.{refuses}
use Rattle.ft_world.proofs.AtOneNode.{elsewhere, first_stands, node_applies, node_refused, second_of}
use Rattle.ft_world.proofs.AtTerminals.{screen_is}
use Rattle.ft_world.proofs.Keeping.{took_stays}
use Rattle.ft_world.proofs.Reading.{accepted_is}

-- A node takes an input that an event offers, or refuses it.

module _ {B H D S : Type 0} {state : B → S} {copied : B → Guest} {M : Machine S} {records : D → List Record} {old : Running B H D}
    {c : Course S} (h : Shows state copied M records old c) {n : ℕ} {o : Offer} {e : Event} (hosts : List (Host B H))
    (offers : Offers M c n o e) where
  pub offer_applies :
      AtHost {A = Unit {0}} state M c.copying h.drives c.world n (offer_refusal M o) Ever (λ done. Took M (input_of o)) (Ok tt) hosts →
      Applies state copied M records c e (Ok reply.Taken) (record old { hosts = hosts })
  offer_applies a =
      node_applies h e reply.Taken hosts offers.refused (λ x y none t. took_stays t)
      (λ new at. offers.does new (record { at = elsewhere (λ x y t. Took-booted M c.boot c.sectors t) at; reply = refl })) a

  pub offer_refused : (fault : Fault) →
      AtHost {A = Unit {0}} state M c.copying h.drives c.world n (offer_refusal M o) Ever (λ done. Took M (input_of o)) (Err fault) hosts →
      Applies state copied M records c e (Err fault) (record old { hosts = hosts })
  offer_refused fault a = node_refused h e fault hosts offers.refused (λ s. offers.memory) (offers.leaves fault) a

-- A key that was typed at a terminal.

typed_is : (screens : List Screen) (ts : List world.Terminal) (port : ℕ) → AreTerminals screens ts →
    (screen_in screens port).typed ≡ (terminal_in ts port).typed
typed_is screens ts port h = elim (leb_tells PORTS port) [
  | inl p ↦ ap (λ (s : Screen). s.typed) (get_or_past screens port blank (subst (λ n. n ≤ port) (sym h.ports) p.1))
      ∙ ap (λ (t : world.Terminal). t.typed)
      (sym (get_or_past ts port no_terminal (subst (λ n. n ≤ port) (sym h.count) p.1)))
  | inr p ↦ (screen_is screens ts port h p.1).typed
]

key_found : (o : Option ℕ) (byte : ℕ) → ◌≡◌ {A = Result ℕ Fault} (Ok byte) (ok_or o Unknown) → o ≡ Some byte
key_found None byte e = (cc)
key_found (Some k) byte e = (cc)

key_missing : (o : Option ℕ) (fault : Fault) → ◌≡◌ {A = Result ℕ Fault} (Err fault) (ok_or o Unknown) →
    (o ≡ None) × (fault ≡ Unknown)
key_missing None fault e = (refl, (cc))
key_missing (Some k) fault e = (cc)

-- the key of the screen is the terminal's
key_in_world : {B H D S : Type 0} (state : B → S) (copied : B → Guest) (M : Machine S) (records : D → List Record) (old : Running B H D)
    (c : Course S) (port index : ℕ) → Shows state copied M records old c →
    slice_get (terminal_in c.world.terminals port).typed index
    ≡ slice_get (screen_in old.terminals port).typed index
key_in_world state copied M records old c port index h =
    ap (λ l. slice_get l index) (sym (typed_is old.terminals c.world.terminals port h.parts.terminals))

pub key_unknown : {B H D S : Type 0} (state : B → S) (copied : B → Guest) (M : Machine S) (records : D → List Record)
    (old : Running B H D) (c : Course S) (n port index : ℕ) (fault : Fault) → Shows state copied M records old c →
    ◌≡◌ {A = Result ℕ Fault} (Err fault) (ok_or (slice_get (screen_in old.terminals port).typed index) Unknown) →
    Applies state copied M records c (event.TakeKey n port index) (Err fault) old
key_unknown state copied M records old c n port index fault h e =
    let k = key_missing (slice_get (screen_in old.terminals port).typed index) fault e in
    refuses state copied M records old old c (event.TakeKey n port index) fault h refl
    (first_stands (not_typed c.world port index)
    (at_node (slice_get c.world.nodes n) (refusals.take_key_refusal (machine_of M c) port index)) fault
    (ap (λ o. fault_if (is_none o) Unknown) (key_in_world state copied M records old c port index h ∙ k.0)
    ∙ ap Some (sym k.1)))
    refl

-- it was typed, so what is left is the node's part
key_typed : {B H D S : Type 0} (state : B → S) (copied : B → Guest) (M : Machine S) (records : D → List Record) (old : Running B H D)
    (c : Course S) (n port index byte : ℕ) → Shows state copied M records old c →
    ◌≡◌ {A = Result ℕ Fault} (Ok byte) (ok_or (slice_get (screen_in old.terminals port).typed index) Unknown) →
    (slice_get (terminal_in c.world.terminals port).typed index ≡ Some byte)
    × (refusal (machine_of M c) c.copying c.world (event.TakeKey n port index)
    ≡ at_node (slice_get c.world.nodes n) (refusals.take_key_refusal M port index))
key_typed state copied M records old c n port index byte h e =
    let typed = key_in_world state copied M records old c port index h
    ∙ key_found (slice_get (screen_in old.terminals port).typed index) byte e in (
      typed,
      second_of (not_typed c.world port index)
          (at_node (slice_get c.world.nodes n) (refusals.take_key_refusal (machine_of M c) port index))
          (ap (λ o. fault_if (is_none o) Unknown) typed),
    )

pub key_offered : {B H D S : Type 0} (state : B → S) (copied : B → Guest) (M : Machine S) (records : D → List Record)
    (old : Running B H D) (c : Course S) (n port index byte : ℕ) → Shows state copied M records old c →
    ◌≡◌ {A = Result ℕ Fault} (Ok byte) (ok_or (slice_get (screen_in old.terminals port).typed index) Unknown) →
    Offers M c n (offer.Key port index byte) (event.TakeKey n port index)
key_offered state copied M records old c n port index byte h e =
    let k = key_typed state copied M records old c n port index byte h e in
    record {
      refused = k.1;
      memory = tt;
      leaves = (λ fault. refl);
      does = (λ new takes. record { byte = byte; typed = k.0; input = takes });
    }

-- A byte that its terminal has accepted.

not_accepted_is : {B H D S : Type 0} (state : B → S) (copied : B → Guest) (M : Machine S) (records : D → List Record) (old : Running B H D)
    (c : Course S) (port number : ℕ) → Shows state copied M records old c →
    not_accepted c.world port number ≡ table.not_accepted old.terminals port number
not_accepted_is state copied M records old c port number h =
    ap (λ l. fault_if (number == 0 || nat_lt (length l) number) Unknown)
    (sym (accepted_is old.terminals c.world.terminals port h.parts.terminals))

nothing_refused : (o : Option Fault) → ◌≡◌ {A = Result (Unit {0}) Fault} (Ok tt) (answered o) → o ≡ None
nothing_refused None e = refl
nothing_refused (Some fault) e = (cc)

pub is_refused : (o : Option Fault) (fault : Fault) → ◌≡◌ {A = Result (Unit {0}) Fault} (Err fault) (answered o) →
    o ≡ Some fault
is_refused None fault e = (cc)
is_refused (Some f) fault e = let k : f ≡ fault = (cc) in ap Some k

pub sent_unknown : {B H D S : Type 0} (state : B → S) (copied : B → Guest) (M : Machine S) (records : D → List Record)
    (old : Running B H D) (c : Course S) (n port number : ℕ) (fault : Fault) → Shows state copied M records old c →
    ◌≡◌ {A = Result (Unit {0}) Fault} (Err fault) (answered (table.not_accepted old.terminals port number)) →
    Applies state copied M records c (event.TellSent n port number) (Err fault) old
sent_unknown state copied M records old c n port number fault h e =
    refuses state copied M records old old c (event.TellSent n port number) fault h refl
    (first_stands (not_accepted c.world port number)
    (at_node (slice_get c.world.nodes n) (refusals.tell_sent_refusal (machine_of M c) port number)) fault
    (not_accepted_is state copied M records old c port number h
    ∙ is_refused (table.not_accepted old.terminals port number) fault e))
    refl

pub sent_offered : {B H D S : Type 0} (state : B → S) (copied : B → Guest) (M : Machine S) (records : D → List Record)
    (old : Running B H D) (c : Course S) (n port number : ℕ) → Shows state copied M records old c →
    ◌≡◌ {A = Result (Unit {0}) Fault} (Ok tt) (answered (table.not_accepted old.terminals port number)) →
    Offers M c n (offer.Sent port number) (event.TellSent n port number)
sent_offered state copied M records old c n port number h e = record {
  refused = second_of (not_accepted c.world port number)
      (at_node (slice_get c.world.nodes n) (refusals.tell_sent_refusal (machine_of M c) port number))
      (not_accepted_is state copied M records old c port number h
      ∙ nothing_refused (table.not_accepted old.terminals port number) e);
  memory = tt;
  leaves = (λ fault. refl);
  does = (λ new takes. takes);
}
