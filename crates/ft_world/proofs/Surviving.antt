-- A whole node that asks has won, since nothing refuses it.
use Rattle.ft_world.proofs.Words.{Event, Fault, Guest, Happens, Machine, OutOfMemory, Record, Reply, Running, answer_of, machine_of, reply_of}
use Rattle.std.proofs.Common.{◌≡◌, Err, List, Ok, inl, inr, refl}
use Rattle.std.specs.Prelude.{Result, ◌⊎◌}
use Rattle.pair_protocol.specs.Reply as protocol
use Rattle.pair_protocol.proofs.Survival.{wins}
use Rattle.pair_events.specs.declared.event.Event.TheVariants as event
use Rattle.pair_events.specs.declared.reply.Reply.TheVariants as reply
use Rattle.ft_world.specs.Surviving.{HasWonOrLacksMemory, Survives}

-- one reply alone says that a node has won
won_alone : (r : Reply) → reply_of r ≡ protocol.Won → r ≡ reply.Won
won_alone reply.Won e = refl
won_alone r e = (cc)

no_refusal : (r : Reply) (fault : Fault) → reply_of r ≡ protocol.Refused fault → r ≡ reply.Won
no_refusal reply.Won fault e = refl
no_refusal r fault e = absurd (cc)

answered_so : (answer : Result Reply Fault) → (answer_of answer ≡ protocol.Won) ⊎ (answer_of answer ≡ protocol.Refused OutOfMemory)
    → HasWonOrLacksMemory answer
answered_so (Ok r) (inl e) = won_alone r e
answered_so (Ok r) (inr e) = no_refusal r OutOfMemory e
answered_so (Err fault) (inl e) = (cc)
answered_so (Err fault) (inr e) = (cc)

pub survives : {B H D S : Type 0} (state : B → S) (copied : B → Guest) (M : Machine S) (records : D → List Record)
    (old new : Running B H D) (e : Event) (answer : Result Reply Fault)
    → Happens state copied M records old e answer new → Survives state copied M records old e answer
survives state copied M records old new (event.Suspect n) answer happens = λ c h x may.
    let a = happens c h in
    answered_so answer (wins (machine_of M c) c.copying c.world a.after n x (answer_of answer) may a.row)
survives state copied M records old new e answer happens = tt
