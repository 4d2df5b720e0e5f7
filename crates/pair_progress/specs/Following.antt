-- Following a list: an event has one outcome, unless memory or the disk fails. So whoever makes the events of a list that are
-- all carried out, and is never told of a failure, is where the list leads.
use Rattle.std.specs.Prelude.{◌≡◌, List, length}
use Rattle.guest_lockstep.specs.Machine.{Machine}
use Rattle.pair_events.specs.declared.event.Event.{Event}
use Rattle.pair_protocol.specs.Copying.{Copying}
use Rattle.pair_protocol.specs.Reply.{Reply}
use Rattle.pair_protocol.specs.Row.{Row, Run}
use Rattle.pair_protocol.specs.World.{World}
use Rattle.pair_progress.specs.Leads.{CarriedOut, Fails, NoneFails}

-- two rows of one event, neither of which fails, lead to one world
abbrev pub HasOneOutcome : {S : Type 0} → Machine S → Copying S → World S → Type 0
HasOneOutcome {S} M C w = (e : Event) (r q : Reply) (new other : World S) → Row M C w e r new → Row M C w e q other →
    (Fails r → ⊥) → (Fails q → ⊥) → new ≡ other

-- so a run of the events of such a list, in which nothing fails and no host is added, leads where the list does
abbrev pub IsFollowed : {S : Type 0} → Machine S → Copying S → World S → Type 0
IsFollowed {S} M C w = (events : List Event) (replies : List Reply) (new end : World S) → CarriedOut M C w events new →
    Run M C w events replies end → NoneFails replies → length end.nodes ≡ length w.nodes → end ≡ new
