-- A replayer keeps to every recorded run that it was on. A step is the run's next move, and the mark of what it gave is
-- owed after it; the mark that is owed is passed; an input is the run's next move, and its entry is popped with it, as is
-- a read, which the run's next move takes with the bytes that have arrived.
-- So after each move what was popped, with the mark that may be owed, is the entries of the moves that were made.
use Rattle.std.proofs.Common.{◌≡◌, ℕ, suc, Bool, true, false, List, [], ◌∷◌, ◌++◌, Option, Some, None, refl, sym, ap, subst, ◌∙◌}
use Rattle.std.proofs.lemmas.List.{append-nil, append_assoc}
use Rattle.std.proofs.lemmas.Option.{same_Some}
use Rattle.event_callbacks.specs.declared.operations.Operation.{Operation}
use Rattle.guest_lockstep.specs.Machine.{Machine, Move, Do, Take}
use Rattle.guest_lockstep.specs.Recorded.{Counts, Accepts, Recorded}
use Rattle.guest_lockstep.specs.declared.input.Input.{Input}
use Rattle.guest_lockstep.specs.declared.input.Input.TheVariants.{Sector}
use Rattle.guest_lockstep.specs.declared.reads.Reads.{Reads}
use Rattle.guest_lockstep.proofs.Moves.{recorded-append}
use Rattle.log_entry.specs.Entries.{entries, marks}
use Rattle.log_entry.specs.Standing.{owed, Stands, TakesFetched}
use Rattle.log_entry.specs.declared.entry.Entry.{Entry}
use Rattle.log_entry.specs.declared.entry.Entry.TheVariants.{Read}
use Rattle.recorder.proofs.Recorded.{entries-append}
use Rattle.replayer.specs.Replaying.{Moves, Steps, Passes, TakesInput, ReadsSector, Replays, NoMoves, Then}
use Rattle.replayer.specs.Standing.{StaysOn}
use Rattle.replayer.proofs.Fronts.{NextDoes, next_does, NextTakes, next_takes, next_reads, NextPasses, next_passes, none_for, none_at_step, takes_none, mark_not_read, input_not_read}

-- ---- after a step

gave : Option Operation → Bool
gave None = false
gave (Some given) = true

-- what a step leaves owed is its entry
owed-marks : (count : ℕ) (gives : Option Operation) → owed count (gave gives) ≡ marks count gives
unfolding gave
owed-marks count None = refl
owed-marks count (Some given) = refl

after_step : {S : Type 0} (M : Machine S) (reads : Reads) (s t u last : S) (held left : List Entry)
    (still : Option (List ℕ)) (owes : Bool) (moves : List Move) (gives : Option Operation) → Counts M
    → (x : StaysOn M reads s held owes moves last t left still) → M.step t ≡ Some (u, gives)
    → NextDoes M t last x.owes_still x.rest → StaysOn M reads s held owes moves last u left still
after_step M reads s t u last held left still owes moves gives counts x made next =
    let same : (next.t, next.gives) ≡ (u, gives) =
    same_Some (next.t, next.gives) (u, gives) (sym next.made ∙ made) in
    let rest_is : x.rest ≡ Do gives ∷ next.rest =
    next.moves_are ∙ ap (λ (p : _ × Option Operation). Do p.1 ∷ next.rest) same in
    let runs_on : Recorded M u next.rest last =
    subst (λ (p : _ × Option Operation). Recorded M p.0 next.rest last) same next.runs in
    let count : M.count u ≡ suc (M.count t) = counts.by_step t u gives made in
    let owes_is : owed (M.count u) (gave gives) ≡ marks (suc (M.count t)) gives =
    owed-marks (M.count u) gives ∙ ap (λ n. marks n gives) count in
    let step : List Move = Do gives ∷ [] in
    let step_entries : entries reads (M.count t) step ≡ marks (suc (M.count t)) gives =
    append-nil (marks (suc (M.count t)) gives) in
    let popped_before : x.popped ≡ owed (M.count s) owes ++ entries reads (M.count s) x.made =
    sym (append-nil x.popped) ∙ ap (λ b. x.popped ++ owed (M.count t) b) (sym next.owes_none) ∙ x.popped_are in
    record {
      made = x.made ++ step;
      rest = next.rest;
      popped = x.popped;
      owes_still = gave gives;
      moves_are =
          x.moves_are ∙ ap (λ (r : List Move). x.made ++ r) rest_is ∙ sym (append_assoc x.made step next.rest);
      runs = recorded-append M s t u x.made step x.runs (u, made, refl);
      stands = record {
        runs = runs_on;
        later = x.stands.later;
        next_ones =
            x.stands.next_ones
            ∙ ap (λ b. owed (M.count t) b ++ entries reads (M.count t) x.rest) next.owes_none
            ∙ ap (λ (r : List Move). entries reads (M.count t) r) rest_is
            ∙ ap (λ n. marks (suc (M.count t)) gives ++ entries reads n next.rest) (sym count)
            ∙ ap (λ (m : List Entry). m ++ entries reads (M.count u) next.rest) (sym owes_is);
        takes = takes_none left still next.rest (none_at_step left still x.rest next.rest gives rest_is x.stands.takes);
      };
      held_are = x.held_are;
      popped_are =
          ap (λ (m : List Entry). x.popped ++ m) (owes_is ∙ sym step_entries)
          ∙ ap (λ (p : List Entry). p ++ entries reads (M.count t) step) popped_before
          ∙ append_assoc (owed (M.count s) owes) (entries reads (M.count s) x.made) (entries reads (M.count t) step)
          ∙ ap (λ (m : List Entry). owed (M.count s) owes ++ m)
          (sym (entries-append M reads s t x.made step counts x.runs));
    }

-- ---- after an entry

-- one more entry is popped
popped_one : (held popped left es : List Entry) (e : Entry) → held ≡ popped ++ left → left ≡ e ∷ es
    → held ≡ (popped ++ e ∷ []) ++ es
popped_one held popped left es e held_are left_are =
    held_are ∙ ap (λ (l : List Entry). popped ++ l) left_are ∙ sym (append_assoc popped (e ∷ []) es)

-- what follows the first entry that is held
behind : {S : Type 0} (M : Machine S) (reads : Reads) (t last : S) (left es : List Entry) (e : Entry)
    (still : Option (List ℕ)) (owes : Bool) (moves : List Move) → (x : Stands M reads t left still owes moves last)
    → left ≡ e ∷ es
    → e ∷ (es ++ x.later) ≡ owed (M.count t) owes ++ entries reads (M.count t) moves
behind M reads t last left es e still owes moves x left_are =
    ap (λ (l : List Entry). l ++ x.later) (sym left_are) ∙ x.next_ones

after_mark : {S : Type 0} (M : Machine S) (reads : Reads) (s t last : S) (held left es : List Entry)
    (still : Option (List ℕ)) (owes : Bool) (moves : List Move) (e : Entry)
    (x : StaysOn M reads s held owes moves last t left still) → left ≡ e ∷ es → still ≡ None
    → NextPasses reads (M.count t) e (es ++ x.stands.later) x.owes_still x.rest
    → StaysOn M reads s held owes moves last t es still
after_mark M reads s t last held left es still owes moves e x left_are none next = record {
  made = x.made;
  rest = x.rest;
  popped = x.popped ++ e ∷ [];
  owes_still = false;
  moves_are = x.moves_are;
  runs = x.runs;
  stands = record {
    runs = x.stands.runs;
    later = x.stands.later;
    next_ones = next.next_ones;
    takes = takes_none es still x.rest none;
  };
  held_are = popped_one held x.popped left es e x.held_are left_are;
  popped_are =
      append-nil (x.popped ++ e ∷ []) ∙ ap (λ e. x.popped ++ e ∷ []) next.entry_is
      ∙ ap (λ b. x.popped ++ owed (M.count t) b) (sym next.owes_one) ∙ x.popped_are;
}

after_input : {S : Type 0} (M : Machine S) (reads : Reads) (s t u last : S) (held left es : List Entry)
    (still after : Option (List ℕ)) (owes : Bool) (moves : List Move) (e : Entry) (input : Input) → Counts M
    → (x : StaysOn M reads s held owes moves last t left still) → left ≡ e ∷ es → after ≡ None
    → M.take t input ≡ Some u → NextTakes M reads t last e (es ++ x.stands.later) x.owes_still x.rest input
    → StaysOn M reads s held owes moves last u es after
after_input M reads s t u last held left es still after owes moves e input counts x left_are none taken next =
    let same : next.t ≡ u = same_Some next.t u (sym next.accepts.taken ∙ taken) in
    let accepts : Accepts M t input u = subst (λ u. Accepts M t input u) same next.accepts in
    let runs_on : Recorded M u next.rest last = subst (λ u. Recorded M u next.rest last) same next.runs in
    let count : M.count u ≡ M.count t = counts.by_input t u input taken in
    let one : List Move = Take input ∷ [] in
    let popped_before : x.popped ≡ owed (M.count s) owes ++ entries reads (M.count s) x.made =
    sym (append-nil x.popped) ∙ ap (λ b. x.popped ++ owed (M.count t) b) (sym next.owes_none) ∙ x.popped_are in
    record {
      made = x.made ++ one;
      rest = next.rest;
      popped = x.popped ++ e ∷ [];
      owes_still = false;
      moves_are =
          x.moves_are ∙ ap (λ (r : List Move). x.made ++ r) next.moves_are ∙ sym (append_assoc x.made one next.rest);
      runs = recorded-append M s t u x.made one x.runs (u, accepts, refl);
      stands = record {
        runs = runs_on;
        later = x.stands.later;
        next_ones = next.next_ones ∙ ap (λ n. entries reads n next.rest) (sym count);
        takes = takes_none es after next.rest none;
      };
      held_are = popped_one held x.popped left es e x.held_are left_are;
      popped_are =
          append-nil (x.popped ++ e ∷ []) ∙ ap (λ e. x.popped ++ e ∷ []) next.entry_is
          ∙ ap (λ (p : List Entry). p ++ entries reads (M.count t) one) popped_before
          ∙ append_assoc (owed (M.count s) owes) (entries reads (M.count s) x.made) (entries reads (M.count t) one)
          ∙ ap (λ (m : List Entry). owed (M.count s) owes ++ m)
          (sym (entries-append M reads s t x.made one counts x.runs));
    }

-- ---- after any moves

-- what is held begins with this entry, so the bytes that have come are for it
first_takes : (left es : List Entry) (e : Entry) (still : Option (List ℕ)) (moves : List Move) → left ≡ e ∷ es
    → TakesFetched still left moves → TakesFetched still (e ∷ es) moves
first_takes left es e still moves left_are takes = subst (λ l. TakesFetched still l moves) left_are takes

further : {S : Type 0} (M : Machine S) (reads : Reads) (s t u last : S) (held now left : List Entry)
    (come still : Option (List ℕ)) (owes : Bool) (moves : List Move) → Counts M → Moves M t now come u left still
    → StaysOn M reads s held owes moves last t now come → StaysOn M reads s held owes moves last u left still
further M reads s t u last held now left come still owes moves counts
    (Steps {gives = gives} {e = e} {es = es} now_is lt made) x =
    after_step M reads s t u last held now come owes moves gives counts x made
    (next_does M reads t last e (es ++ x.stands.later) x.owes_still x.rest x.stands.runs
    (behind M reads t last now es e come x.owes_still x.rest x.stands now_is) lt)
further M reads s t u last held now left come still owes moves counts (Passes {e = e} {es = es} now_is at has) x =
    after_mark M reads s t last held now es come owes moves e x now_is
    (none_for e es come x.rest (mark_not_read e has) (first_takes now es e come x.rest now_is x.stands.takes))
    (next_passes reads (M.count t) e (es ++ x.stands.later) x.owes_still x.rest
    (behind M reads t last now es e come x.owes_still x.rest x.stands now_is) at has)
further M reads s t u last held now left come still owes moves counts
    (TakesInput {e = e} {es = es} {input = input} now_is at has accepts) x =
    after_input M reads s t u last held now es come come owes moves e input counts x now_is
    (none_for e es come x.rest (input_not_read e input has)
    (first_takes now es e come x.rest now_is x.stands.takes))
    accepts.taken
    (next_takes M reads t last e (es ++ x.stands.later) x.owes_still x.rest input x.stands.runs
    (behind M reads t last now es e come x.owes_still x.rest x.stands now_is) at has)
further M reads s t u last held now left come still owes moves counts
    (ReadsSector {count = count} {drive = drive} {sector = sector} {number = number} {bytes = bytes} {es = es} now_is at
    bytes_are accepts) x =
    let e = Read count drive sector number in
    after_input M reads s t u last held now es come None owes moves e (Sector drive sector number bytes) counts x now_is
    refl accepts.taken
    (next_reads M reads t last count drive sector number es x.stands.later x.owes_still x.rest bytes x.stands.runs
    (behind M reads t last now es e come x.owes_still x.rest x.stands now_is)
    (subst (λ f. TakesFetched f (e ∷ es) x.rest) bytes_are (first_takes now es e come x.rest now_is x.stands.takes)))

pub stays_on : {S : Type 0} (M : Machine S) (reads : Reads) (s : S) (held : List Entry) (fetched : Option (List ℕ))
    (t last : S) (left : List Entry) (still : Option (List ℕ)) (n : ℕ) (owes : Bool) (moves : List Move) → Counts M
    → Replays M s held fetched n t left still → Stands M reads s held fetched owes moves last
    → StaysOn M reads s held owes moves last t left still
stays_on M reads s held fetched t last left still n owes moves counts NoMoves stands = record {
  made = [];
  rest = moves;
  popped = [];
  owes_still = owes;
  moves_are = refl;
  runs = refl;
  stands = stands;
  held_are = refl;
  popped_are = sym (append-nil (owed (M.count s) owes));
}
stays_on M reads s held fetched t last left still n owes moves counts
    (Then {n = m} {t = v} {now = now} {come = come} before one) stands =
    further M reads s v t last held now left come still owes moves counts one
    (stays_on M reads s held fetched v last now come m owes moves counts before stands)
