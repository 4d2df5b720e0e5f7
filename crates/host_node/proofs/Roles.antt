-- A host that is no spare stays none, whatever step it makes, and its log carries sectors as it did.
use Rattle.std.proofs.Common.{ℕ, ◌≡◌, ◌≢◌, Bool, true, false, Option, Some, None, List, refl, sym, ap, ◌∙◌, subst}
use Rattle.event_callbacks.specs.declared.operations.Operation.{Operation}
use Rattle.guest_lockstep.specs.Machine.{Machine}
use Rattle.guest_lockstep.specs.declared.input.Input.{Input}
use Rattle.guest_lockstep.specs.declared.replay_end.ReplayEnd.{ReplayEnd}
use Rattle.guest_lockstep.specs.declared.replay_end.ReplayEnd.TheVariants as end
use Rattle.guest_lockstep.specs.declared.running.StopReason.{StopReason}
use Rattle.host_law.specs.Frame.{Act}
use Rattle.host_law.specs.Host as host
use Rattle.host_law.specs.Host.{HostStep}
use Rattle.log_entry.specs.declared.entry.Entry.{Entry}
use Rattle.pair_protocol.specs.Copying.{Copying}
use Rattle.pair_protocol.specs.Effects as effect
use Rattle.pair_protocol.specs.Effects.{Advances, GotPart, Held, Replays, after_drain, stepped, took}
use Rattle.pair_protocol.specs.Node.{Node, Role, Primary, Backup, Joining, Draining, Alone, Spare, won_role, plainly_steps, passes_mark, passes_input, passes_read}
use Rattle.pair_protocol.specs.Reply.{Reply}

-- a node becomes no spare, and its log carries sectors as before
pub record Keeps {S : Type 0} (x y : Node S) : Type 0 where
  pub other : x.role ≢ Spare → y.role ≢ Spare
  pub reads : y.reads ≡ x.reads

-- its role is the same, too
abbrev Stays : {S : Type 0} → Node S → Node S → Type 0
Stays x y = (y.role ≡ x.role) × (y.reads ≡ x.reads)

keeps : {S : Type 0} (x y : Node S) → Stays x y → Keeps x y
keeps x y same = record { other = λ other e. other (sym same.0 ∙ e); reads = same.1 }

stays : {S : Type 0} (x y : Node S) → y ≡ x → Stays x y
stays x y same = (ap (λ n. n.role) same, ap (λ n. n.reads) same)

and_then : {S : Type 0} (x y z : Node S) → Stays x y → Stays y z → Stays x z
and_then x y z p q = (q.0 ∙ p.0, q.1 ∙ p.1)

module _ {S : Type 0} (M : Machine S) where
  of_stepped : (x : Node S) (r : Role) (s : S) (gives : Option Operation) → Stays x (stepped M x r s gives)
  of_stepped x Primary s gives = (refl, refl)
  of_stepped x Alone s gives = (refl, refl)
  of_stepped x Backup s gives = (refl, refl)
  of_stepped x Joining s gives = (refl, refl)
  of_stepped x Draining s gives = (refl, refl)
  of_stepped x Spare s gives = (refl, refl)

  of_took : (x : Node S) (r : Role) (s : S) (i : Input) → Stays x (took M x r s i)
  of_took x Primary s i = (refl, refl)
  of_took x Alone s i = (refl, refl)
  of_took x Backup s i = (refl, refl)
  of_took x Joining s i = (refl, refl)
  of_took x Draining s i = (refl, refl)
  of_took x Spare s i = (refl, refl)

  of_advances : (x y : Node S) (turns made : ℕ) (why : StopReason) → Advances M x turns y made why → Stays x y
  of_advances x y turns made why effect.NoneLeft = (refl, refl)
  of_advances x y turns made why (effect.Ends spent) = (refl, refl)
  of_advances x y turns made why (effect.Waits a b) = (refl, refl)
  of_advances x y turns made why (effect.Short a b) = (refl, refl)
  of_advances x y turns made why (effect.Gives s o step) = of_stepped x x.role s (Some o)
  of_advances x y turns made why (effect.Goes {turns = fewer} {made = less} s step more) =
      and_then x (stepped M x x.role s None) y (of_stepped x x.role s None)
      (of_advances (stepped M x x.role s None) y fewer less why more)

  of_replays : (x y : Node S) (turns made : ℕ) → Replays M x turns y made → Stays x y
  of_replays x y turns made effect.NoTurns = (refl, refl)
  of_replays x y turns made (effect.AtEnd a) = (refl, refl)
  of_replays x y turns made (effect.AwaitsBytes a) = (refl, refl)
  of_replays x y turns made (effect.NoMemory a) = (refl, refl)
  of_replays x y turns made (effect.OneStep {turns = fewer} {made = less} e s gives a b c more) =
      of_replays (plainly_steps x s) y fewer less more
  of_replays x y turns made (effect.OneMark {turns = fewer} {made = less} e a b c more) =
      of_replays (passes_mark x) y fewer less more
  of_replays x y turns made (effect.OneInput {turns = fewer} {made = less} e i s a b c d more) =
      of_replays (passes_input x s) y fewer less more
  of_replays x y turns made (effect.OneRead {turns = fewer} {made = less} drive sector number bytes s a b c more) =
      of_replays (passes_read x s) y fewer less more

  -- after an input
  of_taken : (x y : Node S) (s : S) (i : Input) → y ≡ took M x x.role s i → Keeps x y
  of_taken x y s i after =
      keeps x y (and_then x (took M x x.role s i) y (of_took x x.role s i) (stays (took M x x.role s i) y after))

drained : {S : Type 0} (z : Node S) (why : ReplayEnd) → Keeps z (after_drain z why)
drained z end.Turns = record { other = λ other. other; reads = refl }
drained z end.End = record { other = λ other e. cc; reads = refl }
drained z end.Wait = record { other = λ other. other; reads = refl }
drained z end.Memory = record { other = λ other. other; reads = refl }

held : {S : Type 0} (x y : Node S) (index : ℕ) (e : Entry) (next : Bool) → Held index e next x y → Stays x y
held x y index e true p = (ap (λ z. z.role) p.1, ap (λ z. z.reads) p.1)
held x y index e false p = (ap (λ z. z.role) p.1, ap (λ z. z.reads) p.1)

got : {S : Type 0} (C : Copying S) (index : ℕ) (part : List ℕ) (x y : Node S) (r : Reply) → GotPart C index part x r y
    → Keeps x y
got C index part x y r (effect.Again a) = record { other = λ other. other; reads = refl }
got C index part x y r (effect.Comes a b) = record { other = λ other. other; reads = refl }
got C index part x y r (effect.Completes parts s a b c) = record { other = λ other e. cc; reads = refl }

won : (r : Role) → r ≢ Spare → won_role r ≢ Spare
won Primary other = λ e. cc
won Backup other = λ e. cc
won Joining other = other
won Draining other = other
won Alone other = other
won Spare other = other

-- the node itself
same : {S : Type 0} (x : Node S) → Keeps x x
same x = record { other = λ other. other; reads = refl }

-- whatever step the host makes, which was no spare
pub keeps_so : {S : Type 0} (M : Machine S) (C : Copying S) (me : ℕ) (x y : Node S) (act : Act) → HostStep M C me x act y
    → x.role ≢ Spare → Keeps x y
keeps_so M C me x y act (host.Steps turns made count why z p q) none = keeps x y (of_advances M x y turns made why q.advances)
keeps_so M C me x y act (host.Replays turns made why z p q) none = keeps x y (of_replays M x y turns made q.moves)
keeps_so M C me x y act (host.Drains turns made why z p q) none =
    (let r = of_replays M x q.z turns made q.replayed.moves in
    let d = drained q.z why in
    subst (λ n. Keeps x n) (sym q.after) (record {
      other = λ other. d.other ((keeps x q.z r).other other);
      reads = d.reads ∙ r.1;
    }))
keeps_so M C me x y act (host.Freshens p) none = same x
keeps_so M C me x y act (host.Stops z p q) none = keeps x y (ap (λ n. n.role) q, ap (λ n. n.reads) q)
keeps_so M C me x y act (host.TakesKey port index byte z p q) none = of_taken M x y q.s _ q.after
keeps_so M C me x y act (host.TakesAcceptance port number count z p a b q) none = of_taken M x y q.s _ q.after
keeps_so M C me x y act (host.TakesDone number z p q) none = of_taken M x y q.s _ q.after
keeps_so M C me x y act (host.TakesSector address number bytes z p q) none = of_taken M x y q.s _ q.after
keeps_so M C me x y act (host.TakesRead address number bytes z p q) none = keeps x y (ap (λ n. n.role) q, ap (λ n. n.reads) q)
keeps_so M C me x y act (host.AsksUnder sector address p q) none = same x
keeps_so M C me x y act (host.AsksWanted address p q) none = same x
keeps_so M C me x y act (host.SendsEntry index e p q) none = same x
keeps_so M C me x y act (host.TakesEntry generation index e next z p q) none = keeps x y (held x y index e next q)
keeps_so M C me x y act (host.Acknowledges number replayed p q) none = same x
keeps_so M C me x y act (host.TakesAcknowledgement generation number replayed covered z p q) none =
    keeps x y (ap (λ n. n.role) q.1, ap (λ n. n.reads) q.1)
keeps_so M C me x y act (host.Releases name o p q r) none = same x
keeps_so M C me x y act (host.Tells port keys p q r) none = same x
keeps_so M C me x y act (host.Asks p) none = same x
keeps_so M C me x y act (host.Wins p q) none = record { other = λ other. won x.role other; reads = refl }
keeps_so M C me x y act (host.Loses z p q) none = keeps x y (ap (λ n. n.role) q, ap (λ n. n.reads) q)
keeps_so M C me x y act (host.BeginsPair p) none = record { other = λ other e. cc; reads = refl }
keeps_so M C me x y act (host.Joins count reads list p) none = absurd (none p)
keeps_so M C me x y act (host.SendsPart index part p q) none = same x
keeps_so M C me x y act (host.TakesPart generation index part r z p q) none = got C index part x y r q
keeps_so M C me x y act (host.Drops frame) none = same x
keeps_so M C me x y act (host.Strays alike alone stray) none = same x
