-- How a replay ends. Its moves are moves by the entries that were held, so whatever holds after any such moves holds
-- after them; and it ended because no turns were left, no entry was held, the first waited for bytes, or a step ran out
-- of memory.
use Rattle.std.proofs.Common.{◌≡◌, ℕ, suc, ◌+◌, ◌<◌, ◌≤◌, Bool, true, false, List, [], ◌∷◌, length, Option, Some, None, is_none, cond, Result, Ok, Err, refl, sym, ap, subst, ◌∙◌, arith, eq-eqb}
use Rattle.std.specs.Prelude.{◌==◌}
use Rattle.std.specs.Option.{unwrap_or}
use Rattle.std.proofs.lemmas.Bool.{eqb-true, ne_eqb}
use Rattle.std.proofs.lemmas.Option.{same_Some}
use Rattle.guest_lockstep.specs.Machine.{Machine}
use Rattle.guest_lockstep.specs.Recorded.{Counts}
use Rattle.guest_lockstep.specs.declared.replay_end.ReplayEnd.{ReplayEnd}
use Rattle.guest_lockstep.specs.declared.replay_end.ReplayEnd.TheVariants.{Turns, End, Wait, Memory}
use Rattle.i8080_words.specs.declared.refusal.Fault.{Fault}
use Rattle.i8080_words.specs.declared.refusal.Fault.TheVariants.{OutOfMemory}
use Rattle.log_entry.specs.Entries.{count_of, last_count, read_of}
use Rattle.log_entry.specs.Standing.{IsOnTrace}
use Rattle.log_entry.specs.declared.entry.Entry.{Entry}
use Rattle.replayer.specs.Checking.{AnswersUntrusted, AnswersStretch, CameOrDiverged, AllFit, SomeFit, Refuses, NoMemory, NoneFits, why_after}
use Rattle.replayer.specs.Replaying.{Replays, NoMoves, Then, IsBehind, Ends, AllTurns, AtEnd, Waits, NeedsMemory, Came, Answers, wanted, wanted_of, stop_at, replay_end}
use Rattle.replayer.specs.Standing.{StaysOnEach}
use Rattle.replayer.specs.declared.replayer.Replayed.{Replayed}
use Rattle.replayer.proofs.Below.{stays_below}
use Rattle.replayer.proofs.OneMove.{runs_do_not_diverge, still_on}
use Rattle.replayer.proofs.Standing.{stays_on}

pub goes_on : {S : Type 0} (M : Machine S) (s t : S) (held now : List Entry) (fetched come : Option (List ℕ)) (n : ℕ)
    (u : S) (left : List Entry) (still : Option (List ℕ)) (k : ℕ) → Replays M s held fetched n t now come
    → Replays M t now come k u left still → Replays M s held fetched (n + k) u left still
goes_on M s t held now fetched come n u left still k before NoMoves =
    let e : n ≡ n + 0 = omega arith in subst (λ n. Replays M s held fetched n t now come) e before
goes_on M s t held now fetched come n u left still k before
    (Then {n = m} {t = v} {now = later} {come = kept} after one) =
    let e : suc (n + m) ≡ n + suc m = omega arith in
    subst (λ n. Replays M s held fetched n u left still) e
    (Then (goes_on M s t held now fetched come n v later kept m before after) one)

-- a guest with nothing more replayed than before
nothing_more : {S : Type 0} (M : Machine S) (s t u : S) (held left now : List Entry)
    (fetched still come : Option (List ℕ))
    (n : ℕ) → u ≡ t → now ≡ left → come ≡ still → Replays M s held fetched n t left still
    → Replays M s held fetched n u now come
nothing_more M s t u held left now fetched still come n same_state same_left same_bytes before =
    subst (λ u. Replays M s held fetched n u now come) (sym same_state)
    (subst (λ l. Replays M s held fetched n t l come) (sym same_left)
    (subst (λ f. Replays M s held fetched n t left f) (sym same_bytes) before))

-- what an answer says was replayed
pub replayed : {S : Type 0} (M : Machine S) (s t : S) (held left : List Entry) (fetched still : Option (List ℕ))
    (turns : ℕ) (r : Result Replayed Fault) → AnswersUntrusted M s held fetched turns r t left still
    → (n : ℕ) × Replays M s held fetched n t left still
replayed M s t held left fetched still turns (Ok r) (AllFit came fits) = (r.moves, came.replays)
replayed M s t held left fetched still turns (Ok r) (SomeFit some lt came stuck) = (r.moves, came.replays)
replayed M s t held left fetched still turns (Err fault) a =
    (0, nothing_more M s s t held held left fetched fetched still 0 a.2 a.3 a.4 NoMoves)

-- nothing was done if no move was made
pub nothing_done : {S : Type 0} (M : Machine S) (s : S) (held : List Entry) (fetched : Option (List ℕ)) (t : S)
    (left : List Entry) (still : Option (List ℕ)) (n : ℕ) → n ≡ 0 → Replays M s held fetched n t left still
    → (t ≡ s) × (left ≡ held) × (still ≡ fetched)
nothing_done M s held fetched t left still n e NoMoves = (refl, refl, refl)
nothing_done M s held fetched t left still n e (Then before one) = absurd (omega arith)

-- ---- no entry is held, or the first waits for bytes

is_empty : (left : List Entry) → (length left == 0) ≡ true → left ≡ []
is_empty [] e = refl
is_empty (x ∷ xs) e = let none = eqb-true (length (x ∷ xs)) 0 e in absurd (omega arith)

-- the word for it
word : (empty none : Bool) (other why : ReplayEnd) → cond empty (Some End) (cond none None (Some Wait)) ≡ Some why
    → why ≡ cond empty End (cond none other Wait)
word true none other why e = sym (same_Some End why e)
word false true other why e = absurd cc
word false false other why e = sym (same_Some Wait why e)

pub at_stop : {S : Type 0} (M : Machine S) (s t : S) (held left : List Entry) (fetched still : Option (List ℕ))
    (turns n : ℕ) (why : ReplayEnd) → n < turns → Replays M s held fetched n t left still
    → stop_at M t left still ≡ Some why
    → AnswersUntrusted M s held fetched turns (Ok (record { moves = n; why = why })) t left still
at_stop {S} M s t held left fetched still turns n why lt before stop = AllFit (record {
  replays = before;
  ends = ends (length left == 0) (is_none (wanted M t left still)) refl refl stop;
  why =
      word (length left == 0) (is_none (wanted M t left still)) (cond (n == turns) Turns Memory) why stop;
}) (λ lt d. let none : Some why ≡ None = sym stop ∙ d.ready in cc)
  where
    ends : (empty none : Bool) → (length left == 0) ≡ empty → is_none (wanted M t left still) ≡ none
        → cond empty (Some End) (cond none None (Some Wait)) ≡ Some why → Ends M turns n t left still
    ends true none no_entry is e = subst (λ l. Ends M turns n t l still) (sym (is_empty left no_entry)) (AtEnd lt)
    ends false true no_entry is e = absurd cc
    ends false false no_entry is e = Waits lt is

-- ---- out of memory

behind_still : {S : Type 0} (M : Machine S) (v t : S) (now left : List Entry) → t ≡ v → left ≡ now → IsBehind M v now
    → IsBehind M t left
behind_still M v t now left same_state same_left behind =
    subst (λ t. IsBehind M t left) (sym same_state) (subst (λ l. IsBehind M v l) (sym same_left) behind)

same_refusal : {S : Type 0} (M : Machine S) (v t : S) (now left : List Entry) (come still : Option (List ℕ))
    (fault : Fault) → t ≡ v → left ≡ now → still ≡ come → Refuses M v now come fault → Refuses M t left still fault
same_refusal M v t now left come still fault same_state same_left same_bytes why =
    subst (λ t. Refuses M t left still fault) (sym same_state)
    (subst (λ l. Refuses M v l still fault) (sym same_left)
    (subst (λ f. Refuses M v now f fault) (sym same_bytes) why))

pub refused : {S : Type 0} (M : Machine S) (s v t : S) (held now left : List Entry)
    (fetched come still : Option (List ℕ)) (turns most n : ℕ) (fault : Fault) → n < turns → n ≡ 0
    → Replays M s held fetched n v now come → AnswersStretch M v now come most (Err fault) t left still
    → AnswersUntrusted M s held fetched turns (Err fault) t left still
refused M s v t held now left fetched come still turns most n fault lt none before a =
    let here : (v ≡ s) × (now ≡ held) × (come ≡ fetched) = nothing_done M s held fetched v now come n none before in (
      omega arith,
      same_refusal M v s now held come fetched fault (sym here.0) (sym here.1) (sym here.2) a.0,
      a.1 ∙ here.0,
      a.2 ∙ here.1,
      a.3 ∙ here.2,
    )

less_not_same : (a b : ℕ) → a < b → (a == b) ≡ false
less_not_same a b lt = ne_eqb a b (λ same. omega arith)

some_left : (e : Entry) (es : List Entry) → (length (e ∷ es) == 0) ≡ false
some_left e es = ne_eqb (length (e ∷ es)) 0 (λ same. omega arith)

-- an entry at a later count is no read that waits
behind_waits_not : {S : Type 0} (M : Machine S) (t : S) (left : List Entry) (still : Option (List ℕ))
    → (behind : IsBehind M t left) → wanted M t left still ≡ None
behind_waits_not M t left still behind =
    ap (λ l. wanted M t l still) behind.held_are
    ∙ ap (λ b. wanted_of still (cond b (read_of behind.first) None))
    (less_not_same (M.count t) (count_of behind.first) behind.later)
    ∙ none still
  where
    none : (still : Option (List ℕ)) → wanted_of still None ≡ None
    none None = refl
    none (Some bytes) = refl

memory : {S : Type 0} (M : Machine S) (t : S) (left : List Entry) (still : Option (List ℕ)) (turns n : ℕ) → n < turns
    → (behind : IsBehind M t left) → Memory ≡ replay_end M t left still turns n
memory M t left still turns n lt behind =
    sym
    (ap (λ l. cond (length l == 0) End (cond (is_none (wanted M t left still)) (cond (n == turns) Turns Memory) Wait))
    behind.held_are
    ∙ ap (λ b. cond b End (cond (is_none (wanted M t left still)) (cond (n == turns) Turns Memory) Wait))
    (some_left behind.first behind.rest)
    ∙ ap (λ w. cond (is_none w) (cond (n == turns) Turns Memory) Wait) (behind_waits_not M t left still behind)
    ∙ ap (λ b. cond b Turns Memory) (less_not_same n turns lt))

-- ---- all turns

all_made : (empty none all : Bool) → all ≡ true
    → unwrap_or (cond empty (Some End) (cond none None (Some Wait))) Turns
    ≡ cond empty End (cond none (cond all Turns Memory) Wait)
all_made true none all e = refl
all_made false true all e = ap (λ b. cond b Turns Memory) (sym e)
all_made false false all e = refl

came_all : {S : Type 0} (M : Machine S) (s t : S) (held left : List Entry) (fetched still : Option (List ℕ))
    (turns n : ℕ) (why : ReplayEnd) → n ≡ turns → Replays M s held fetched n t left still
    → why ≡ unwrap_or (stop_at M t left still) Turns
    → Came M s held fetched turns (record { moves = n; why = why }) t left still
came_all M s t held left fetched still turns n why all before is = record {
  replays = before;
  ends = subst (λ n. Ends M turns n t left still) (sym all) AllTurns;
  why =
      is
      ∙ all_made (length left == 0) (is_none (wanted M t left still)) (n == turns) (eq-eqb n turns all);
}

pub all_turns : {S : Type 0} (M : Machine S) (s t : S) (held left : List Entry) (fetched still : Option (List ℕ))
    (turns n : ℕ) (why : ReplayEnd) → n ≡ turns → Replays M s held fetched n t left still
    → why ≡ unwrap_or (stop_at M t left still) Turns
    → AnswersUntrusted M s held fetched turns (Ok (record { moves = n; why = why })) t left still
all_turns M s t held left fetched still turns n why all before is =
    AllFit (came_all M s t held left fetched still turns n why all before is) (λ lt d. absurd (omega arith))

-- ---- a stretch is refused after some moves

-- a replay of as many turns as it made moves, which ended where the entries fit no longer
so_far : {S : Type 0} (M : Machine S) (s t : S) (held left : List Entry) (fetched still : Option (List ℕ)) (n : ℕ)
    → Replays M s held fetched n t left still → stop_at M t left still ≡ None
    → Came M s held fetched n (record { moves = n; why = Turns }) t left still
so_far M s t held left fetched still n before ready =
    came_all M s t held left fetched still n n Turns refl before
    (sym (ap (λ stop. unwrap_or stop Turns) ready))

pub stopped : {S : Type 0} (M : Machine S) (s v t : S) (held now left : List Entry)
    (fetched come still : Option (List ℕ)) (turns most n : ℕ) (fault : Fault) → n < turns → 0 < n
    → Replays M s held fetched n v now come → AnswersStretch M v now come most (Err fault) t left still
    → AnswersUntrusted M s held fetched turns (Ok (record { moves = n; why = why_after fault })) t left still
stopped {S} M s v t held now left fetched come still turns most n fault lt some before a =
    go fault (same_refusal M v t now left come still fault a.1 a.2 a.3 a.0)
  where
    here : Replays M s held fetched n t left still
    here = nothing_more M s v t held now left fetched come still n a.1 a.2 a.3 before

    go : (fault : Fault) → Refuses M t left still fault
        → CameOrDiverged M s held fetched turns (record { moves = n; why = why_after fault }) t left still
    go fault (NoMemory behind fits) = AllFit (record {
      replays = here;
      ends = NeedsMemory some lt behind;
      why = memory M t left still turns n lt behind;
    }) (λ lt. fits)
    go fault (NoneFits stuck) = SomeFit some lt (so_far M s t held left fetched still n here stuck.ready) stuck

-- ---- over the entries of a recorded run

pub exactly : {S : Type 0} (M : Machine S) (s t : S) (held left : List Entry) (fetched still : Option (List ℕ))
    (turns : ℕ) (r : Result Replayed Fault) → Counts M → IsOnTrace M s held fetched
    → AnswersUntrusted M s held fetched turns r t left still → Answers M s held fetched turns r t left still
exactly M s t held left fetched still turns (Ok r) counts on (AllFit came fits) = came
exactly M s t held left fetched still turns (Ok r) counts on (SomeFit some lt came stuck) =
    absurd (runs_do_not_diverge M t left still counts
    (still_on M s t held left fetched still r.moves counts on came.replays) stuck)
exactly {S} M s t held left fetched still turns (Err fault) counts on a =
    let why = go fault a.1 in (why.0, a.0, why.1, a.2, a.3, a.4)
  where
    go : (fault : Fault) → Refuses M s held fetched fault → (fault ≡ OutOfMemory) × IsBehind M s held
    go fault (NoMemory behind fits) = (refl, behind)
    go fault (NoneFits stuck) = absurd (runs_do_not_diverge M s held fetched counts on stuck)

-- ---- what holds after a replay, whatever it returns

pub stays_on_each : {S : Type 0} (M : Machine S) (s t : S) (held left : List Entry) (fetched still : Option (List ℕ))
    (turns : ℕ) (r : Result Replayed Fault) → Counts M → AnswersUntrusted M s held fetched turns r t left still
    → StaysOnEach M s held fetched t left still
stays_on_each M s t held left fetched still turns r counts a = λ reads owes moves last stands.
    let before = replayed M s t held left fetched still turns r a in
    stays_on M reads s held fetched t last left still before.0 owes moves counts before.1 stands

pub still_on_trace : {S : Type 0} (M : Machine S) (s t : S) (held left : List Entry) (fetched still : Option (List ℕ))
    (turns : ℕ) (r : Result Replayed Fault) → Counts M → AnswersUntrusted M s held fetched turns r t left still
    → IsOnTrace M s held fetched → IsOnTrace M t left still
still_on_trace M s t held left fetched still turns r counts a on =
    let before = replayed M s t held left fetched still turns r a in
    still_on M s t held left fetched still before.0 counts on before.1

pub below_last : {S : Type 0} (M : Machine S) (s t : S) (held left : List Entry) (fetched still : Option (List ℕ))
    (turns : ℕ) (r : Result Replayed Fault) → Counts M → AnswersUntrusted M s held fetched turns r t left still
    → IsOnTrace M s held fetched → M.count t ≤ last_count (M.count s) held
below_last M s t held left fetched still turns r counts a on =
    let before = replayed M s t held left fetched still turns r a in
    stays_below M s t held left fetched still before.0 counts before.1 on
