-- Steps of a node that serves, in whatever role. A quiet step leaves it what it is, so the protocol's run is put together
-- from its end: after the quiet steps comes the last step, or what stops the guest.
use Rattle.std.proofs.Common.{◌≡◌, ℕ, suc, ◌+◌, ◌-◌, ◌<◌, Bool, true, false, cond, Option, Some, None, is_none, refl, subst, ap, ◌∙◌, arith}
use Rattle.ft_node.proofs.Words.{Advances, AllTurns, Begin, Ends, Fault, Goes, Idle, IsRefused, Machine, More, Node, NoneLeft, Operation, Quiet, RunsOn, Short, Spent, Stopped, Waits, fault_of, id_of, stepped}
use Rattle.guest_lockstep.specs.Lockstep.{step_refusal}
use Rattle.guest_lockstep.specs.Running as running
use Rattle.guest_lockstep.specs.declared.running.StopReason.{StopReason}
use Rattle.guest_lockstep.specs.declared.running.StopReason.TheVariants as reason
use Rattle.pair_protocol.specs.Effects.{Gives}

none_is : {A : Type 0} (o : Option A) → is_none o ≡ true → o ≡ None
none_is None e = refl
none_is (Some value) e = absurd cc

-- a machine that is refused its next step is spent, or waits, or is short of memory
stops : {S : Type 0} (M : Machine S) (x : Node S) (turns : ℕ)
    → Advances M x (suc turns) x 0 (reason.Refused (fault_of (step_refusal M x.machine)))
stops {S} M x turns = by (M.is_spent x.machine) (is_none (M.step x.machine)) refl refl
  where
    by : (spent idle : Bool) → M.is_spent x.machine ≡ spent → is_none (M.step x.machine) ≡ idle
        → Advances M x (suc turns) x 0
        (reason.Refused (fault_of (cond spent (Some Spent) (cond idle (Some Idle) None))))
    by true idle is none = Ends is
    by false true is none = Waits is (none_is (M.step x.machine) none)
    by false false is none = Short is none

left_over : (turns n : ℕ) → n < turns → turns ≡ n + suc (turns - suc n)
left_over turns n within = omega arith

one_more : (total m rest : ℕ) → total ≡ suc m + rest → total ≡ m + suc rest
one_more total m rest e = omega arith

none_ahead : {S : Type 0} (M : Machine S) (x z : Node S) (rest made turns steps : ℕ) (why : StopReason)
    → turns ≡ 0 + rest → steps ≡ 0 + made → Advances M x rest z made why → Advances M x turns z steps why
none_ahead M x z rest made turns steps why e f a =
    let same : rest ≡ turns = omega arith in
    let also : made ≡ steps = omega arith in
    subst (λ turns. Advances M x turns z steps why) same (subst (λ steps. Advances M x rest z steps why) also a)

-- the node of a machine, as long as it gives nothing, and what it is after each reason to stop
module _ {S : Type 0} (M : Machine S) (Is : S → Node S → Type 0) (After : StopReason → S → Node S → Type 0)
    (at : (s : S) (x : Node S) → Is s x → x.machine ≡ s)
    (quiet : (s t : S) (x : Node S) → Is s x → M.step s ≡ Some (t, None) → Is t (stepped M x x.role t None))
    (gives : (s t : S) (x : Node S) (o : Operation) → Is s x → M.step s ≡ Some (t, Some o)
    → After (reason.Operation (id_of o)) t (stepped M x x.role t (Some o)))
    (turned : (s : S) (x : Node S) → Is s x → After reason.Turns s x)
    (refused : (s : S) (x : Node S) (fault : Fault) → Is s x → After (reason.Refused fault) s x) where
  record RunsQuietly (t : S) (x : Node S) (n : ℕ) : Type 0 where
    pub y : Node S
    pub is : Is t y
    pub ahead : (rest made turns steps : ℕ) (z : Node S) (why : StopReason) → turns ≡ n + rest → steps ≡ n + made
        → Advances M y rest z made why → Advances M x turns z steps why

  quietly : (s t : S) (x : Node S) (n : ℕ) → Is s x → Quiet M s n t → RunsQuietly t x n
  quietly s t x n is Begin = record {
    y = x;
    is = is;
    ahead = λ rest made turns steps z why e f a. none_ahead M x z rest made turns steps why e f a;
  }
  quietly s t x n is (More {n = m} {t = v} q allowed moved) =
      let before = quietly s v x m is q in
      record {
        y = stepped M before.y before.y.role t None;
        is = quiet v t before.y before.is moved;
        ahead = λ rest made turns steps z why e f a.
            before.ahead (suc rest) (suc made) turns steps z why (one_more turns m rest e) (one_more steps m made f)
            (Goes t (ap M.step (at v before.y before.is) ∙ moved) a);
      }

  pub record StepsTo (turns : ℕ) (x : Node S) (r : Stopped) (t : S) : Type 0 where
    pub y : Node S
    pub advances : Advances M x turns y r.steps r.reason
    pub after : After r.reason t y

  pub steps_to : (s t : S) (x : Node S) (turns : ℕ) (r : Stopped) → Is s x → RunsOn M s turns r t → StepsTo turns x r t
  steps_to s t x turns _ is (AllTurns q) =
      let run = quietly s t x turns is q in
      record {
        y = run.y;
        advances = run.ahead 0 0 turns turns run.y reason.Turns (omega arith) (omega arith) NoneLeft;
        after = turned t run.y run.is;
      }
  steps_to s t x turns _ is (running.Gives {n = n} {t = v} {given = o} lt q allowed made) =
      let run = quietly s v x n is q in
      let e : suc n ≡ n + 1 = omega arith in
      record {
        y = stepped M run.y run.y.role t (Some o);
        advances =
            run.ahead (suc (turns - suc n)) 1 turns (suc n) (stepped M run.y run.y.role t (Some o))
            (reason.Operation (id_of o)) (left_over turns n lt) e (Gives t o (ap M.step (at v run.y run.is) ∙ made));
        after = gives v t run.y o run.is made;
      }
  steps_to s t x turns _ is (IsRefused {n = n} lt q) =
      let run = quietly s t x n is q in
      let why = reason.Refused (fault_of (step_refusal M t)) in
      record {
        y = run.y;
        advances =
            run.ahead (suc (turns - suc n)) 0 turns n run.y why (left_over turns n lt) (omega arith)
            (subst (λ s. Advances M run.y (suc (turns - suc n)) run.y 0 (reason.Refused (fault_of (step_refusal M s))))
            (at t run.y run.is) (stops M run.y (turns - suc n)));
        after = refused t run.y (fault_of (step_refusal M t)) run.is;
      }
