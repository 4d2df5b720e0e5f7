-- What an advance records. Steps that give nothing push nothing, so one by one they record as many steps and no entry;
-- the step that gives an operation is recorded after them, with its mark.
use Rattle.std.proofs.Common.{◌≡◌, ℕ, zero, suc, ◌+◌, List, [], ◌∷◌, ◌++◌, Some, None, refl, sym, ap, subst, ◌∙◌, arith}
use Rattle.std.proofs.lemmas.List.{append-nil}
use Rattle.event_callbacks.specs.declared.operations.Operation.{Operation}
use Rattle.guest_lockstep.specs.Machine.{Machine, Move, Do}
use Rattle.guest_lockstep.specs.Recorded.{Counts, Recorded}
use Rattle.guest_lockstep.specs.declared.reads.Reads.{Reads}
use Rattle.log_buffer.specs.Log.{Log, kept, pushed}
use Rattle.log_entry.specs.Entries.{entries}
use Rattle.log_entry.specs.declared.entry.Entry.{Entry}
use Rattle.log_entry.specs.declared.entry.Entry.TheVariants.{Mark}
use Rattle.guest_lockstep.specs.Reach.{inputs, steps}
use Rattle.recorder.specs.Laws.{RecordsSteps}
use Rattle.guest_lockstep.proofs.QuietSteps.{quiet_count}
use Rattle.guest_lockstep.specs.Running.{Quiet, Begin, More, RunsOn, AllTurns, Gives, IsRefused}
use Rattle.guest_lockstep.specs.declared.running.Stopped.{Stopped}
use Rattle.recorder.specs.Recording.{Advances, logged}

-- steps that give nothing, followed by other moves
abbrev pub quiet_moves : ℕ → List Move → List Move
quiet_moves zero moves = moves
quiet_moves (suc n) moves = quiet_moves n (Do None ∷ moves)

quiet_runs : {S : Type 0} (M : Machine S) (s t u : S) (n : ℕ) (moves : List Move) → Quiet M s n t
    → Recorded M t moves u → Recorded M s (quiet_moves n moves) u
quiet_runs M s t u n moves Begin r = r
quiet_runs M s t u n moves (More {n = m} {t = v} q allowed made) r =
    quiet_runs M s v u m (Do None ∷ moves) q (t, made, r)

entries-quiet_moves : (reads : Reads) (n count : ℕ) (moves : List Move)
    → entries reads count (quiet_moves n moves) ≡ entries reads (n + count) moves
entries-quiet_moves reads zero count moves =
    let e : count ≡ 0 + count = omega arith in ap (λ count. entries reads count moves) e
entries-quiet_moves reads (suc n) count moves =
    let e : suc (n + count) ≡ suc n + count = omega arith in
    entries-quiet_moves reads n count (Do None ∷ moves) ∙ ap (λ count. entries reads count moves) e

steps-quiet_moves : (n : ℕ) (moves : List Move) → steps (quiet_moves n moves) ≡ n + steps moves
steps-quiet_moves zero moves = omega arith
steps-quiet_moves (suc n) moves = let e = steps-quiet_moves n (Do None ∷ moves) in omega arith

inputs-quiet_moves : (n count : ℕ) (moves : List Move) → inputs count (quiet_moves n moves) ≡ inputs (n + count) moves
inputs-quiet_moves zero count moves =
    let e : count ≡ 0 + count = omega arith in ap (λ count. inputs count moves) e
inputs-quiet_moves (suc n) count moves =
    let e : suc (n + count) ≡ suc n + count = omega arith in
    inputs-quiet_moves n count (Do None ∷ moves) ∙ ap (λ count. inputs count moves) e

quietly : {S : Type 0} (M : Machine S) (reads : Reads) (s t : S) (log : Log) (n : ℕ) (a : Stopped) → a.steps ≡ n
    → Quiet M s n t
    → RecordsSteps M reads s log a t log
quietly M reads s t log n a made q = record {
  moves = quiet_moves n [];
  records = record {
    runs = quiet_runs M s t t n [] q refl;
    first = refl;
    pushes =
        sym (append-nil log.entries)
        ∙ ap (λ (behind : List Entry). log.entries ++ behind) (sym (entries-quiet_moves reads n (M.count s) []));
  };
  steps_are = steps-quiet_moves n [] ∙ (let e : n + 0 ≡ a.steps = omega arith in e);
  no_input = inputs-quiet_moves n (M.count s) [];
}

with_mark : {S : Type 0} (M : Machine S) (reads : Reads) (s t u : S) (log : Log) (n : ℕ) (a : Stopped)
    (given : Operation)
    → Counts M → a.steps ≡ suc n → Quiet M s n t → M.step t ≡ Some (u, Some given)
    → RecordsSteps M reads s log a u (pushed log (Mark (M.count u)))
with_mark M reads s t u log n a given counts made q st =
    let last : List Move = Do (Some given) ∷ [] in
    let count : M.count u ≡ suc (n + M.count s) =
    (let one = counts.by_step t u (Some given) st in let others = quiet_count M s t n counts q in omega arith) in
    record {
      moves = quiet_moves n last;
      records = record {
        runs = quiet_runs M s t u n last q (u, st, refl);
        first = refl;
        pushes =
            ap (λ (behind : List Entry). log.entries ++ behind)
            (ap (λ count. Mark count ∷ []) count ∙ sym (entries-quiet_moves reads n (M.count s) last));
      };
      steps_are = steps-quiet_moves n last ∙ (let e : n + 1 ≡ a.steps = omega arith in e);
      no_input = inputs-quiet_moves n (M.count s) last;
    }

pub records_steps : {S : Type 0} (M : Machine S) (reads : Reads) (s t : S) (log new : Log) (turns : ℕ) (a : Stopped)
    → Counts M → Advances M kept s log turns a t new → RecordsSteps M reads s log a t new
records_steps {S} M reads s t log new turns a counts v = subst (λ l. RecordsSteps M reads s log a t l) (sym v.log_is)
    (by a t v.runs)
  where
    by : (a : Stopped) (t : S) → RunsOn M s turns a t → RecordsSteps M reads s log a t (logged kept log (M.count t) a.reason)
    by _ t (AllTurns q) = quietly M reads s t log turns _ refl q
    by _ t (IsRefused {n = n} lt q) = quietly M reads s t log n _ refl q
    by _ t (Gives {n = n} {t = v} {given = given} lt q r st) = with_mark M reads s v t log n _ given counts refl q st
