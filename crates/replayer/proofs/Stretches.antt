-- What a stretch of moves meets. Each step that the machine executes by itself raises its count by one; so as many of
-- them as the first entry is ahead all begin below its count, and each is a move by the entries. If the first of them is
-- refused, it ran out of memory, or the entries do not fit; an entry at the machine's count is a stretch of one move.
use Rattle.std.proofs.Common.{◌≡◌, ℕ, ◌+◌, ◌<◌, ◌≤◌, true, false, cond, is_none, List, ◌∷◌, drop, slice_get, Option, Some, None, Ok, Err, refl, sym, ap, subst, ◌∙◌, arith}
use Rattle.guest_lockstep.proofs.QuietSteps.{none_made, quiet_count}
use Rattle.guest_lockstep.specs.Lockstep.{step_refusal}
use Rattle.guest_lockstep.specs.Machine.{Machine}
use Rattle.guest_lockstep.specs.Recorded.{Counts}
use Rattle.guest_lockstep.specs.Running.{Quiet, Begin, More, RunsOn, AllTurns, Gives, IsRefused, fault_of}
use Rattle.guest_lockstep.specs.declared.running.StopReason.TheVariants.{Refused}
use Rattle.guest_lockstep.specs.declared.running.Stopped.{Stopped}
use Rattle.event_callbacks.specs.declared.operations.Operation.{Operation}
use Rattle.i8080_words.specs.declared.refusal.Fault.{Fault}
use Rattle.i8080_words.specs.declared.refusal.Fault.TheVariants.{Spent, Idle, Malformed}
use Rattle.log_entry.specs.Entries.{count_of}
use Rattle.log_entry.specs.declared.entry.Entry.{Entry}
use Rattle.log_channel.proofs.SentEntries.{first_and_rest}
use Rattle.replayer.specs.Checking.{AnswersStretch, Diverges, Refuses, NoMemory, NoneFits, seen}
use Rattle.replayer.specs.Replaying.{Moves, Steps, Replays, NoMoves, Then, stop_at}
use Rattle.replayer.proofs.OneMove.{no_step_toward}

-- ---- steps up to the first entry

replays_quiet : {S : Type 0} (M : Machine S) (s t : S) (held es : List Entry) (fetched : Option (List ℕ)) (e : Entry)
    (n : ℕ) → Counts M → held ≡ e ∷ es → M.count s + n ≤ count_of e → Quiet M s n t
    → Replays M s held fetched n t held fetched
replays_quiet M s t held es fetched e n counts are within Begin = NoMoves
replays_quiet M s t held es fetched e n counts are within (More {n = m} {t = v} quiet allowed made) =
    let count = quiet_count M s v m counts quiet in
    Then (replays_quiet M s v held es fetched e m counts are (omega arith) quiet) (Steps are (omega arith) made)

-- a run of no more steps than the first entry is ahead
replays_run : {S : Type 0} (M : Machine S) (s t : S) (held es : List Entry) (fetched : Option (List ℕ)) (e : Entry)
    (most : ℕ) (ran : Stopped) → Counts M → held ≡ e ∷ es → M.count s + most ≤ count_of e → RunsOn M s most ran t
    → (ran.steps ≤ most) × Replays M s held fetched ran.steps t held fetched
replays_run M s t held es fetched e most ran counts are within (AllTurns quiet) =
    (omega arith, replays_quiet M s t held es fetched e most counts are within quiet)
replays_run M s t held es fetched e most ran counts are within (Gives {n = n} {t = v} lt quiet allowed made) =
    let count = quiet_count M s v n counts quiet in (
      omega arith,
      Then (replays_quiet M s v held es fetched e n counts are (omega arith) quiet)
          (Steps are (omega arith) made),
    )
replays_run M s t held es fetched e most ran counts are within (IsRefused {n = n} lt quiet) =
    (omega arith, replays_quiet M s t held es fetched e n counts are (omega arith) quiet)

pub steps_made : {S : Type 0} (M : Machine S) (s t : S) (held : List Entry) (fetched : Option (List ℕ)) (e : Entry)
    (turns most : ℕ) (ran : Stopped) → Counts M → slice_get held 0 ≡ Some e → M.count s + most ≤ count_of e
    → most ≤ turns
    → RunsOn M s most ran t → 0 < ran.steps → AnswersStretch M s held fetched turns (Ok ran.steps) t held fetched
steps_made M s t held fetched e turns most ran counts first within few runs some =
    let all = replays_run M s t held (drop 1 held) fetched e most ran counts (first_and_rest held e first) within runs in
    let steps = all.0 in
    (some, omega arith, all.1)

-- ---- out of memory

-- a run that was refused its first step is where it was, for the reason of that step
refused_at_once : {S : Type 0} (M : Machine S) (s t : S) (most : ℕ) (ran : Stopped) (fault : Fault) → 0 < most
    → ran.reason ≡ Refused fault → ran.steps ≡ 0 → RunsOn M s most ran t
    → (fault ≡ fault_of (step_refusal M s)) × (t ≡ s)
refused_at_once M s t most ran fault some why none (AllTurns quiet) = absurd (omega arith)
refused_at_once M s t most ran fault some why none (Gives lt quiet allowed made) = absurd (omega arith)
refused_at_once M s t most ran fault some why none (IsRefused {n = n} lt quiet) =
    let same : t ≡ s = none_made M s t n none quiet in
    let here : fault_of (step_refusal M t) ≡ fault = cc in
    (sym here ∙ ap (λ t. fault_of (step_refusal M t)) same, same)

-- it ran out of memory, or the machine makes no step by itself
pub refused_step : {S : Type 0} (M : Machine S) (s t : S) (held : List Entry) (fetched : Option (List ℕ)) (e : Entry)
    (turns most : ℕ) (ran : Stopped) (fault : Fault) → Counts M → stop_at M s held fetched ≡ None
    → slice_get held 0 ≡ Some e → M.count s < count_of e → 0 < most → RunsOn M s most ran t
    → ran.reason ≡ Refused fault → ran.steps ≡ 0
    → AnswersStretch M s held fetched turns (Err (seen fault)) t held fetched
refused_step {S} M s t held fetched e turns most ran fault counts ready first later some runs why none =
    let refused = refused_at_once M s t most ran fault some why none runs in
    (subst (λ f. Refuses M s held fetched (seen f)) (sym refused.0) cause, refused.1, refl, refl)
  where
    unmade : (step : Option (S × Option Operation)) → M.step s ≡ step
        → Refuses M s held fetched (seen (fault_of (cond (is_none step) (Some Idle) None)))
    unmade None is = NoneFits (no_step_toward M s held fetched e ready first later is)
    unmade (Some made) is =
        let are : held ≡ e ∷ drop 1 held = first_and_rest held e first in
        NoMemory (record { first = e; rest = drop 1 held; held_are = are; later = later })
        (λ d. d.no_move made.0 held fetched (Steps are later is))

    cause : Refuses M s held fetched (seen (fault_of (step_refusal M s)))
    cause = elim (M.is_spent s) as (λ b. M.is_spent s ≡ b
        → Refuses M s held fetched (seen (fault_of (cond b (Some Spent) (cond (is_none (M.step s)) (Some Idle) None))))) [
          | true ↦ λ spent. NoneFits (no_step_toward M s held fetched e ready first later (counts.spent s spent))
          | false ↦ λ spent. unmade (M.step s) refl
        ] refl

-- ---- an entry

pub one_move : {S : Type 0} (M : Machine S) (s t : S) (held left : List Entry) (fetched still : Option (List ℕ))
    (turns : ℕ) → 0 < turns → Moves M s held fetched t left still
    → AnswersStretch M s held fetched turns (Ok 1) t left still
one_move M s t held left fetched still turns some one = (omega arith, omega arith, Then NoMoves one)

-- an entry that does not fit is a refusal, and nothing is done
pub fits_nowhere : {S : Type 0} (M : Machine S) (s t : S) (held : List Entry) (fetched : Option (List ℕ)) (turns : ℕ)
    → t ≡ s → Diverges M s held fetched → AnswersStretch M s held fetched turns (Err Malformed) t held fetched
fits_nowhere M s t held fetched turns same stuck = (NoneFits stuck, same, refl, refl)
