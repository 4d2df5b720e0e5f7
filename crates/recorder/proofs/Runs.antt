-- How an advance ends, by how the guest's run ended. If a step was executed, the first was not refused; so what refuses
-- the first step refuses the advance, and what refuses a later one is only why it stopped.
use Rattle.std.proofs.Common.{◌≡◌, ℕ, zero, suc, ◌<◌, inl, inr, Option, Some, None, Ok, Err, refl, sym, ap, subst, ◌∙◌, arith}
use Rattle.event_callbacks.specs.declared.operations.OpId.{OpId}
use Rattle.guest_lockstep.proofs.QuietSteps.{start_allowed, first_allowed, none_made}
use Rattle.guest_lockstep.specs.Lockstep.{step_refusal}
use Rattle.guest_lockstep.specs.Machine.{Machine}
use Rattle.guest_lockstep.specs.Running.{Begin, RunsOn, AllTurns, Gives, IsRefused, fault_of, stopped}
use Rattle.guest_lockstep.specs.declared.running.StopReason.TheVariants as reason
use Rattle.guest_lockstep.specs.declared.running.Stopped.{Stopped}
use Rattle.i8080_words.specs.declared.refusal.Fault.{Fault}
use Rattle.log_buffer.specs.Logs.{Logging}
use Rattle.recorder.specs.Recording.{advance_refusal, AdvancesUnless, logged}

module _ {S L : Type 0} (M : Machine S) (K : Logging L) (s t : S) (turns : ℕ) where
  -- ---- some steps were executed

  pub some_steps : (r : Stopped) → 0 < turns → RunsOn M s turns r t → r.reason ≡ reason.Turns → 0 < r.steps
  some_steps _ some (AllTurns q) is = some
  some_steps _ some (Gives lt q allowed made) is = absurd cc
  some_steps _ some (IsRefused lt q) is = absurd cc

  pub last_step : (r : Stopped) (name : OpId) → RunsOn M s turns r t → r.reason ≡ reason.Operation name → 0 < r.steps
  last_step _ name (AllTurns q) is = absurd cc
  last_step _ name (Gives lt q allowed made) is = omega arith
  last_step _ name (IsRefused lt q) is = absurd cc

  not_refused : (r : Stopped) → RunsOn M s turns r t → 0 < r.steps → step_refusal M s ≡ None
  not_refused _ (AllTurns q) some = first_allowed M s t turns some q
  not_refused _ (Gives {n = n} {t = v} lt q allowed made) some = start_allowed M s v n q allowed
  not_refused _ (IsRefused {n = n} lt q) some = first_allowed M s t n some q

  pub ended : (log new : L) (r : Stopped) → RunsOn M s turns r t → 0 < r.steps → new ≡ logged K log (M.count t) r.reason
      → AdvancesUnless M K s log turns (step_refusal M s) (Ok r) t new
  ended log new r runs some log_is =
      subst (λ refusal. AdvancesUnless M K s log turns refusal (Ok r) t new) (sym (not_refused r runs some))
      (record { runs = runs; log_is = log_is }, inr some)

  -- ---- the first one was refused

  refused_as : (log : L) (refusal : Option Fault) → 0 < turns → t ≡ s
      → AdvancesUnless M K s log turns refusal (Err (fault_of refusal)) t log
  refused_as log (Some fault) some stays = (refl, stays, refl)
  refused_as log None some stays = (refl, some, stays, refl)

  pub refused : (log : L) (r : Stopped) (fault : Fault) → 0 < turns → RunsOn M s turns r t
      → r.reason ≡ reason.Refused fault → r.steps ≡ 0
      → AdvancesUnless M K s log turns (step_refusal M s) (Err fault) t log
  refused log _ fault some (AllTurns q) is none = absurd cc
  refused log _ fault some (Gives lt q allowed made) is none = absurd cc
  refused log _ fault some (IsRefused {n = n} lt q) is none =
      let here : t ≡ s = none_made M s t n none q in
      let fault_is : fault_of (step_refusal M s) ≡ fault =
      ap (λ s. fault_of (step_refusal M s)) (sym here) ∙ (let e : fault_of (step_refusal M t) ≡ fault = cc in e) in
      subst (λ fault. AdvancesUnless M K s log turns (step_refusal M s) (Err fault) t log) fault_is
      (refused_as log (step_refusal M s) some here)

-- ---- no turns

pub no_turns : {S L : Type 0} (M : Machine S) (K : Logging L) (s : S) (log : L) (turns : ℕ) → turns ≡ 0
    → AdvancesUnless M K s log turns (advance_refusal M K s log turns) (Ok (stopped 0 reason.Turns)) s log
no_turns M K s log zero e = (record { runs = AllTurns Begin; log_is = refl }, inl refl)
no_turns M K s log (suc turns) e = absurd (omega arith)
