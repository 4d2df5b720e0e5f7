-- No rule refuses what arrives at a device.
use Rattle.std.proofs.Common.{◌≡◌, ℕ, Option, Some, None, refl, ap, ◌∙◌}
use Rattle.std.specs.Option.{IsSomeAnd}
use Rattle.std.specs.Prelude.{IfSome, slice_get}
use Rattle.guest_lockstep.specs.Machine.{Machine}
use Rattle.pair_events.specs.declared.event.Event.{Event}
use Rattle.pair_events.specs.declared.event.Event.TheVariants.{Arrive, DeliverAcknowledgement, DeliverLog, Fetched, PartComes, Put, PutReply}
use Rattle.pair_protocol.specs.Copying.{Copying}
use Rattle.pair_protocol.specs.Refusals.{byte_refusal, refusal, write_refusal}
use Rattle.pair_protocol.specs.World as protocol
use Rattle.pair_protocol.specs.World.{Released, World}
use Rattle.ft_world.specs.Shows.{Agree}
use Rattle.ft_world.specs.Words.{IsMessage}
use Rattle.ft_world.specs.declared.message.Message.{Message}
use Rattle.ft_world.specs.declared.message.Message.TheVariants as message
use Rattle.pair_shell.specs.Arriving.{ArrivesAs, ComesNext, ComesToNode, IsTakenBy}
use Rattle.pair_shell.specs.declared.serving.ServingNodes.{ServingNodes}

abbrev IsWrite : Message → Type 0
IsWrite (message.Write write) = Unit {0}
IsWrite found = ⊥

byte_comes : (port number byte : ℕ) (sent : Option protocol.Message) →
    Agree IsMessage (Some (message.Byte port number byte)) sent → byte_refusal sent ≡ None
byte_comes port number byte (Some (Released o)) there = ap (λ z. byte_refusal (Some (Released z))) there
byte_comes port number byte sent there = absurd there

write_comes : (found : Message) (sent : Option protocol.Message) → IsWrite found → Agree IsMessage (Some found) sent →
    write_refusal sent ≡ None
write_comes (message.Write write) (Some (Released o)) is there = ap (λ z. write_refusal (Some (Released z))) there
write_comes (message.Write write) sent is there = absurd there
write_comes found sent is there = absurd is

pub arrives : {S : Type 0} (M : Machine S) (C : Copying S) (w : World S) (found : Message) (m : ℕ) (e : Event) →
    ArrivesAs found m e → (ComesToNode e → ⊥) → Agree IsMessage (Some found) (slice_get w.messages m) →
    refusal M C w e ≡ None
arrives M C w (message.Byte port number byte) m (Arrive k) is here there =
    ap (λ j. byte_refusal (slice_get w.messages j)) is ∙ byte_comes port number byte (slice_get w.messages m) there
arrives M C w (message.Write write) m (Put k) is here there =
    ap (λ j. write_refusal (slice_get w.messages j)) is
    ∙ write_comes (message.Write write) (slice_get w.messages m) tt there
arrives M C w (message.Log bytes) m (DeliverLog k n) is here there = absurd (here tt)
arrives M C w (message.Ack bytes) m (DeliverAcknowledgement k n) is here there = absurd (here tt)
arrives M C w (message.Part bytes) m (PartComes k n) is here there = absurd (here tt)
arrives M C w (message.Written number) m (PutReply k n) is here there = absurd (here tt)
arrives M C w (message.Sector read) m (Fetched k n) is here there = absurd (here tt)
arrives M C w found m e is here there = absurd is

no_some : (o : Option Event) (P : Event → Type 0) → ((e : Event) → o ≡ Some e → ⊥) → IsSomeAnd o P → ⊥
no_some None P none is = is
no_some (Some e) P none is = none e refl

-- what is taken by nobody keeps no other event from being next
pub other_next : {S : Type 0} (w : World S) (who : ServingNodes) (m : ℕ) (first next : Option Event) →
    ((e : Event) → first ≡ Some e → ⊥) → ComesNext w who m first → ComesNext w who m next
other_next w who m first next none comes =
    record { found = comes.found; shown = comes.shown; comes = go comes.found comes.comes }
  where
    go : (found : Option Message) → IfSome found (λ sent. IsTakenBy who sent → IsSomeAnd first (ArrivesAs sent m)) →
        IfSome found (λ sent. IsTakenBy who sent → IsSomeAnd next (ArrivesAs sent m))
    go None is = tt
    go (Some sent) is = λ taken. absurd (no_some first (ArrivesAs sent m) none (is taken))

pub some_none : {A : Type 0} {a : A} → None ≡ Some a → ⊥
some_none is = (cc)
