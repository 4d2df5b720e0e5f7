-- What a node that serves refuses, if its log is not full: only what its guest refuses.
use Rattle.std.proofs.Common.{◌≡◌, ℕ, suc, ◌-◌, ◌<◌, inl, inr, Bool, true, false, cond, not, Option, Some, None, is_none, List, [], ◌∷◌, length, refl, ap, ◌∙◌, arith, eq-eqb}
use Rattle.std.specs.Prelude.{slice_get, ◌==◌, ◌&&◌, nat_le}
use Rattle.guest_lockstep.specs.Lockstep as guest
use Rattle.guest_lockstep.specs.declared.input.Input.TheVariants.{Rx}
use Rattle.i8080_words.specs.declared.refusal.Fault.{Fault}
use Rattle.i8080_words.specs.declared.refusal.Fault.TheVariants.{Idle, LogFull, Spent, Unknown, WrongNumber}
use Rattle.pair_events.specs.declared.event.Event.TheVariants.{Step, TakeKey}
use Rattle.pair_protocol.proofs.Words.{Alone, Copying, IsCopying, Lawful, Machine, Node, Primary, Reached, Spare, World, is_role, terminal, with_node}
use Rattle.pair_protocol.specs.Effects.{took}
use Rattle.pair_protocol.specs.Lawful.{top}
use Rattle.pair_protocol.specs.NodeStands.{IsReached}
use Rattle.pair_protocol.specs.Refusals.{at_node, fault_if, first_of, keys_spent, log_full, log_size, log_spent, not_typed, refusal, serves, step_refusal, take_key_refusal}
use Rattle.pair_protocol.specs.Reply.{Taken}
use Rattle.pair_protocol.specs.Rows.{TakesKey}
use Rattle.pair_protocol.proofs.Promises.NodeStands.{nodes_stand}
use Rattle.pair_progress.specs.Completion.{Responds}
use Rattle.pair_progress.specs.Going.{IsGoingOn, MayGoOn}
use Rattle.pair_progress.specs.Leads.{CarriedOut, First, Leads, Nothing}
use Rattle.pair_progress.specs.CatchingUp.{IsCaughtUp}
use Rattle.pair_progress.specs.Takeover.{IsItsOwn, IsLive, MayServe, takeover_events}
use Rattle.pair_progress.proofs.Completing.{live_not_full, live_not_spent, live_real, live_serves, not_up_to}
use Rattle.pair_progress.proofs.Leading.{carried_reaches}
use Rattle.pair_progress.proofs.Passing.{acts_first, at_here, in_role, not_if, not_spare, passed}
use Rattle.pair_progress.proofs.Takeover.{takes_over}

two_faults : (spent idle : Bool) →
    first_of (fault_if spent Spent ∷ fault_if idle Idle ∷ []) ≡ cond spent (Some Spent) (cond idle (Some Idle) None)
two_faults true idle = refl
two_faults false true = refl
two_faults false false = refl

-- the first refusals do not apply
skipped : (o : Option Fault) (rest : List (Option Fault)) → o ≡ None → first_of (o ∷ rest) ≡ first_of rest
skipped o rest none = ap (λ z. first_of (z ∷ rest)) none

part_of : {S : Type 0} (o : Option (Node S)) (x : Node S) (part : Node S → Option Fault) → o ≡ Some x →
    is_role x.role Spare ≡ false → at_node o part ≡ part x
part_of o x part there real =
    ap (λ z. at_node z part) there ∙ ap (λ b. cond b (Some Unknown) (part x)) real

module _ {S : Type 0} (M : Machine S) (C : Copying S) (responds : Responds M) (w : World S) (n : ℕ) (x : Node S)
    (there : slice_get w.nodes n ≡ Some x) (real : is_role x.role Spare ≡ false) (serving : serves x ≡ None)
    (not_full : log_full x ≡ None) (not_spent : log_spent x ≡ None) (at : IsReached M x.machine) where
  steps : (turns : ℕ) → refusal M C w (Step n (suc turns)) ≡ guest.step_refusal M x.machine
  steps turns =
      part_of (slice_get w.nodes n) x (step_refusal M (suc turns)) there real
      ∙ skipped (serves x) _ serving
      ∙ skipped (log_full x) _ not_full
      ∙ skipped (log_spent x) _ not_spent
      ∙ two_faults (M.is_spent x.machine) (is_none (M.step x.machine))

  module _ (port byte : ℕ) (two : port < 2) (room : M.keys x.machine port < top)
      (typed : slice_get (terminal w port).typed (M.keys x.machine port) ≡ Some byte) where
    k : ℕ
    k = M.keys x.machine port

    may_take : refusal M C w (TakeKey n port (M.keys x.machine port)) ≡ None
    may_take =
        passed (not_typed w port (M.keys x.machine port)) _ (ap (λ o. fault_if (is_none o) Unknown) typed)
        (passed (at_node (slice_get w.nodes n) (take_key_refusal M port (M.keys x.machine port))) []
        (at_here (slice_get w.nodes n) x (take_key_refusal M port (M.keys x.machine port)) there real
        (passed (serves x) _ serving
        (passed (fault_if (not (M.keys x.machine port == M.keys x.machine port)) WrongNumber) _
        (ap (λ b. fault_if (not b) WrongNumber) (eq-eqb (M.keys x.machine port) (M.keys x.machine port) refl))
        (passed (log_full x) _ not_full
        (passed (log_spent x) _ not_spent
        (passed (keys_spent M port x) []
        (not_if (nat_le top (M.keys x.machine port)) Spent (not_up_to top (M.keys x.machine port) room)) refl)))))) refl)

    takes_it : (new : World S) × CarriedOut M C w (TakeKey n port (M.keys x.machine port) ∷ []) new
    takes_it =
        let t = responds.takes_key at.0 x.machine port byte at.1 two room in
        let y : Node S = took M x x.role t.0 (Rx port byte) in
        let taken : TakesKey M w n port (M.keys x.machine port) Taken (with_node w n y) = record {
          byte = byte;
          typed = typed;
          input = record {
            at = record { x = x; there = there; y = y; done = record { s = t.0; takes = t.1; after = refl }; after = refl };
            reply = refl;
          };
        } in
        (with_node w n y, First Taken (λ f. f) may_take taken Nothing)

  pub goes_on : MayGoOn M C w n x
  goes_on = record { steps = steps; keys = takes_it }

pub live_goes_on : {S : Type 0} (M : Machine S) (C : Copying S) → Lawful M → IsCopying M C → Responds M → (w : World S) →
    Reached M C w → (n generation : ℕ) (live : IsLive w n generation) → MayGoOn M C w n live.x
live_goes_on M C laws copies responds w r n generation live =
    goes_on M C responds w n live.x live.there (live_real M live.x live.up live.alone) (live_serves M live.x live.up live.alone)
    (live_not_full M live.x live.up live.alone) (live_not_spent M live.x live.up live.alone)
    ((nodes_stand M C laws copies w r n live.x live.there).machine (inl (inr live.alone)))

pub caught_up_goes_on : {S : Type 0} (M : Machine S) (C : Copying S) → Lawful M → IsCopying M C → Responds M → (w : World S) →
    Reached M C w → (n m generation : ℕ) (all : IsCaughtUp w n m generation) → length all.pair.x.log < top →
    MayGoOn M C w n all.pair.x
caught_up_goes_on M C laws copies responds w r n m generation all few =
    let x = all.pair.x in
    let covered = all.covered in
    goes_on M C responds w n x all.pair.primary (not_spare x.role Primary all.pair.primary_role refl)
    (in_role x (Primary ∷ Alone ∷ []) (acts_first x Primary (Alone ∷ []) all.pair.primary_up all.pair.primary_role refl))
    (not_if (is_role x.role Primary && nat_le log_size (length x.log - x.covered)) LogFull
    (ap (λ q. is_role q Primary && nat_le log_size (length x.log - x.covered)) all.pair.primary_role
    ∙ not_up_to log_size (length x.log - x.covered) (omega (arith, covered))))
    (not_if (is_role x.role Primary && nat_le top (length x.log)) Spent
    (ap (λ q. is_role q Primary && nat_le top (length x.log)) all.pair.primary_role
    ∙ not_up_to top (length x.log) few))
    ((nodes_stand M C laws copies w r n x all.pair.primary).machine (inl (inl all.pair.primary_role)))

pub serves_on : {S : Type 0} (M : Machine S) (C : Copying S) → Lawful M → IsCopying M C → Responds M → (w : World S) →
    Reached M C w → (n : ℕ) (x : Node S) → MayServe w n x →
    Leads M C w (IsItsOwn n) (takeover_events x x.role) (λ new. IsGoingOn M C new n x.generation)
serves_on M C laws copies responds w r n x may =
    let l = takes_over M C laws copies w r n x may in
    record {
      events = l.events;
      new = l.new;
      done = l.done;
      kind = l.kind;
      few = l.few;
      end = record {
        live = l.end;
        goes_on = live_goes_on M C laws copies responds l.new (carried_reaches M C w l.new l.events r l.done) n
            x.generation l.end;
      };
    }
