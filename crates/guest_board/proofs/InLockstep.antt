-- What a board's calls do to its guest is what the calls of a machine in lockstep do to it.
use Rattle.std.proofs.Common.{◌≡◌, ◌≢◌, true, false, cond, ◌||◌, Option, Some, None, is_none, option_map, Result, Ok, Err, IfOk, refl, ap, subst, ◌∙◌, ⊎_elim}
use Rattle.guest_board.proofs.Words.{Executes, Fault, Guest, Idle, IsAnswer, OpId, Operation, OutOfMemory, Spent, Stepped, Steps, StepsUnless, answer_by, by_name, exec_answer, guest_after, is_idle, is_spent, name_by, named, next, some_altair, step_from, step_of, wired_after}
use Rattle.i8080_words.specs.declared.registers.Stepped.TheVariants as kinds
use Rattle.guest_board.specs.declared.executed.Step.{Step}
use Rattle.guest_board.proofs.Stepping.{acts}

no_refusal : (kind : Stepped) (given : Option Operation) (fault : Fault) → kind ≢ kinds.Idle
    → Err fault ≡ by_name (answer_by kind given) → fault ≡ OutOfMemory
no_refusal kinds.Ran given fault steps e = absurd cc
no_refusal kinds.Accepted given fault steps e = absurd cc
no_refusal kinds.Idle given fault steps e = absurd (steps refl)

-- an answer in which only the operation's name counts
abbrev name_of : Result Step Fault → Result (Option OpId) Fault
name_of (Ok step) = Ok (name_by step)
name_of (Err fault) = Err fault

made : (g new : Guest) (answer : Result Step Fault) → (step_of g).kind ≢ kinds.Idle
    → IsAnswer (by_name (answer_by (step_of g).kind (wired_after g).given)) answer → new ≡ guest_after answer g
    → IfOk answer (λ step. option_map named (step_from g) ≡ Some (new, name_by step))
    → Steps some_altair g (name_of answer) new
made g new (Ok step) steps is after so = so
made g new (Err fault) steps is after so = (
  ⊎_elim (no_refusal (step_of g).kind (wired_after g).given fault steps)
      (λ t. let e : Err fault ≡ Err OutOfMemory = t.0 in let same : fault ≡ OutOfMemory = cc in same) is,
  after,
)

refused : (g new : Guest) (answer : Result Step Fault) (fault : Fault) → IsAnswer (Err fault) answer
    → new ≡ guest_after answer g → (name_of answer ≡ Err fault) × (new ≡ g)
refused g new answer fault is after =
    ⊎_elim
    (λ e. let same : answer ≡ Err fault = e in (ap name_of same, after ∙ ap (λ a. guest_after a g) same))
    (λ t. let ok : false ≡ true = t.1 in cc)
    is

executes : (g new : Guest) (answer : Result Step Fault) → IsAnswer (by_name (exec_answer g)) answer
    → new ≡ guest_after answer g → IfOk answer (λ step. option_map named (step_from g) ≡ Some (new, name_by step))
    → Executes some_altair g (name_of answer) new
executes g new answer =
    elim (is_spent g) as (λ s.
    let made_so : Option (Guest × Option Operation) = cond (s || is_idle g) None (Some (next g, (wired_after g).given)) in
    IsAnswer (by_name (cond s (Err Spent) (cond (is_idle g) (Err Idle) (answer_by (step_of g).kind (wired_after g).given)))) answer
    → new ≡ guest_after answer g → IfOk answer (λ step. option_map named (step_from g) ≡ Some (new, name_by step))
    → StepsUnless some_altair g (cond s (Some Spent) (cond (is_none made_so) (Some Idle) None)) (name_of answer) new) [
      | true ↦ λ is after step. refused g new answer Spent is after
      | false ↦
          elim (is_idle g) as (λ i.
          let made_so : Option (Guest × Option Operation) = cond i None (Some (next g, (wired_after g).given)) in
          is_idle g ≡ i
          → IsAnswer (by_name (cond i (Err Idle) (answer_by (step_of g).kind (wired_after g).given))) answer
          → new ≡ guest_after answer g → IfOk answer (λ step. option_map named (step_from g) ≡ Some (new, name_by step))
          → StepsUnless some_altair g (cond (is_none made_so) (Some Idle) None) (name_of answer) new) [
            | true ↦ λ e is after step. refused g new answer Idle is after
            | false ↦ λ e is after step. made g new answer (acts g e) is after step
          ] refl
    ]

pub executes_as : (g new : Guest) (answer : Result Step Fault) (name : Result (Option OpId) Fault)
    → name_of answer ≡ name → IsAnswer (by_name (exec_answer g)) answer → new ≡ guest_after answer g
    → IfOk answer (λ step. option_map named (step_from g) ≡ Some (new, name_by step))
    → Executes some_altair g name new
executes_as g new answer name same is after step =
    subst (λ name. Executes some_altair g name new) same (executes g new answer is after step)
