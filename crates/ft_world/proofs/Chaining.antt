-- One more event has happened after the others.
use Rattle.std.proofs.Common.{◌≡◌, ◌<◌, ◌+◌, ◌∷◌, ◌++◌, [], Bool, List, get_or, length, subst, sym, take, ℕ}
use Rattle.std.specs.Prelude.{Option, Result}
use Rattle.std.proofs.lemmas.List.{take_more}
use Rattle.ft_world.proofs.Words.{Event, Fault, Guest, HasApplied, HaveApplied, Machine, Record, Reply, Running}
use Rattle.ft_world.specs.Chaining.{First, Nothing}

module _ {B H D S : Type 0} (state : B → S) (copied : B → Guest) (M : Machine S) (records : D → List Record)
    (may_fail : D → Option ℕ) (writes : S → ℕ → Bool) (stale : B → ℕ → Bool) where
  applied_then : (start old new : Running B H D) (events : List Event) (answers : List (Result Reply Fault)) (e : Event)
      (answer : Result Reply Fault) → HaveApplied state copied M records may_fail writes stale start events answers old
      → HasApplied state copied M records may_fail writes stale old e answer new
      → HaveApplied state copied M records may_fail writes stale start (events ++ e ∷ []) (answers ++ answer ∷ []) new
  applied_then start old new events answers e answer Nothing one = First one Nothing
  applied_then start old new events answers e answer (First {mid = v} {events = es} {answers = rs} first rest) one =
      First first (applied_then v old new es rs e answer rest one)

  -- the event at a place in a list, after those before it
  pub applied_on : (start old new : Running B H D) (events : List Event) (k : ℕ) (d : Event)
      (answers after : List (Result Reply Fault)) (answer : Result Reply Fault) → k < length events
      → after ≡ answers ++ answer ∷ [] → HaveApplied state copied M records may_fail writes stale start (take k events) answers old
      → HasApplied state copied M records may_fail writes stale old (get_or events k d) answer new
      → HaveApplied state copied M records may_fail writes stale start (take (k + 1) events) after new
  applied_on start old new events k d answers after answer low is so_far one =
      subst (λ l. HaveApplied state copied M records may_fail writes stale start (take (k + 1) events) l new) (sym is)
      (subst (λ l. HaveApplied state copied M records may_fail writes stale start l (answers ++ answer ∷ []) new)
      (sym (take_more events k d low))
      (applied_then start old new (take k events) answers (get_or events k d) answer so_far one))
