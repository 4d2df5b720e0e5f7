-- Events that are carried out: one after another, as a run, and as actions.
use Rattle.std.proofs.Common.{◌≡◌, ℕ, suc, ◌+◌, ◌≤◌, None, List, [], ◌∷◌, ◌++◌, length-append, arith}
use Rattle.pair_protocol.proofs.Words.{Copying, Machine, Reached, World}
use Rattle.pair_events.specs.declared.event.Event.{Event}
use Rattle.pair_protocol.specs.Refusals.{refusal}
use Rattle.pair_protocol.specs.Reply.{Reply}
use Rattle.pair_protocol.specs.Row.{Accepts}
use Rattle.pair_protocol.specs.Rows.{Does}
use Rattle.pair_protocol.proofs.Promises.Runs.{changes_reach}
use Rattle.pair_protocol.proofs.RowActions.{row_changes}
use Rattle.pair_progress.specs.Leads.{Fails, CarriedOut, Each, First, Leads, Nothing}

pub carried-append : {S : Type 0} (M : Machine S) (C : Copying S) (w mid new : World S) (events more : List Event) →
    CarriedOut M C w events mid → CarriedOut M C mid more new → CarriedOut M C w (events ++ more) new
carried-append M C w mid new events more Nothing k = k
carried-append M C w mid new _ more (First {mid = v} {events = es} r fine p d rest) k =
    First r fine p d (carried-append M C v mid new es more rest k)

pub one_reaches : {S : Type 0} (M : Machine S) (C : Copying S) (w new : World S) (e : Event) (r : Reply) → Reached M C w →
    refusal M C w e ≡ None → Does M C w e r new → Reached M C new
one_reaches M C w new e r reached p d = changes_reach M C w new reached (row_changes M C w new e r (Accepts p d))

pub carried_reaches : {S : Type 0} (M : Machine S) (C : Copying S) (w new : World S) (events : List Event) →
    Reached M C w → CarriedOut M C w events new → Reached M C new
carried_reaches M C w new events reached Nothing = reached
carried_reaches M C w new _ reached (First {mid = v} {e = e} {events = es} r fine p d rest) =
    carried_reaches M C v new es (one_reaches M C w v e r reached p d) rest

pub each-append : (Kind : Event → Type 0) (events more : List Event) → Each Kind events → Each Kind more →
    Each Kind (events ++ more)
each-append Kind [] more a b = b
each-append Kind (e ∷ events) more a b = (a.0, each-append Kind events more a.1 b)

module _ {S : Type 0} (M : Machine S) (C : Copying S) (w : World S) (Kind : Event → Type 0) (most : ℕ)
    (End : World S → Type 0) where
  -- no event is needed
  pub is_there : End w → Leads M C w Kind most End
  is_there e = record { events = []; new = w; done = Nothing; kind = tt; few = omega arith; end = e }

  -- one event, and then others
  pub and_then : (mid : World S) (e : Event) (r : Reply) → (Fails r → ⊥) → Kind e → refusal M C w e ≡ None →
      Does M C w e r mid → Leads M C mid Kind most End → Leads M C w Kind (suc most) End
  and_then mid e r fine k p d l = record {
    events = e ∷ l.events;
    new = l.new;
    done = First r fine p d l.done;
    kind = (k, l.kind);
    few = (let f = l.few in omega (arith, f));
    end = l.end;
  }

  -- more are enough too
  pub at_most : (more : ℕ) → most ≤ more → Leads M C w Kind most End → Leads M C w Kind more End
  at_most more le l = record {
    events = l.events;
    new = l.new;
    done = l.done;
    kind = l.kind;
    few = (let f = l.few in omega (arith, f, le));
    end = l.end;
  }

  -- some events, and then others
  pub joined : (more : ℕ) (Later : World S → Type 0) → Reached M C w → Leads M C w Kind most End →
      ((new : World S) → Reached M C new → End new → Leads M C new Kind more Later) → Leads M C w Kind (most + more) Later
  joined more Later reached l next =
      let k = next l.new (carried_reaches M C w l.new l.events reached l.done) l.end in
      record {
        events = l.events ++ k.events;
        new = k.new;
        done = carried-append M C w l.new k.new l.events k.events l.done k.done;
        kind = each-append Kind l.events k.events l.kind k.kind;
        few = (let a = l.few in let b = k.few in let e = length-append l.events k.events in omega (arith, a, b, e));
        end = k.end;
      }

each_as : (Kind Other : Event → Type 0) → ((e : Event) → Kind e → Other e) → (events : List Event) → Each Kind events →
    Each Other events
each_as Kind Other so [] k = tt
each_as Kind Other so (e ∷ events) k = (so e k.0, each_as Kind Other so events k.1)

-- the same events, of a wider kind
pub as_kind : {S : Type 0} (M : Machine S) (C : Copying S) (w : World S) (Kind Other : Event → Type 0) (most : ℕ)
    (End : World S → Type 0) → ((e : Event) → Kind e → Other e) → Leads M C w Kind most End → Leads M C w Other most End
as_kind M C w Kind Other most End so l = record {
  events = l.events;
  new = l.new;
  done = l.done;
  kind = each_as Kind Other so l.events l.kind;
  few = l.few;
  end = l.end;
}
