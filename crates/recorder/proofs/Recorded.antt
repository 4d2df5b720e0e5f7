-- Recorded runs and what they push. A run after a run is a run, and since a machine's count rises by one at a step and
-- is unchanged by an input, the entries of the second begin at the count where the first ends. So the entries of both
-- are those of the first followed by those of the second, and what each pushes is what the whole run pushes.
use Rattle.std.proofs.Common.{◌≡◌, ◌+◌, arith, List, [], ◌∷◌, ◌++◌, sym, ap, ◌∙◌}
use Rattle.std.proofs.lemmas.List.{append_assoc}
pub use Rattle.guest_lockstep.proofs.Moves.{recorded-append as Recorded-append}
use Rattle.guest_lockstep.specs.Machine.{Machine, Move, Do, Take}
use Rattle.guest_lockstep.specs.Recorded.{Counts, Recorded}
use Rattle.guest_lockstep.specs.declared.reads.Reads.{Reads}
use Rattle.log_buffer.specs.Log.{Log}
use Rattle.log_entry.proofs.TraceEntries as traces
use Rattle.log_entry.specs.Entries.{entries}
use Rattle.log_entry.specs.declared.entry.Entry.{Entry}
use Rattle.guest_lockstep.specs.Reach.{steps}
use Rattle.recorder.specs.Laws.{Records}

pub count-Recorded : {S : Type 0} (M : Machine S) (s t : S) (moves : List Move) → Counts M → Recorded M s moves t
    → M.count t ≡ M.count s + steps moves
count-Recorded M s t [] counts r = let e = ap M.count r in omega arith
count-Recorded M s t (Do gives ∷ moves) counts r =
    let one = counts.by_step s r.0 gives r.1 in
    let others = count-Recorded M r.0 t moves counts r.2 in
    omega arith
count-Recorded M s t (Take input ∷ moves) counts r =
    let none = counts.by_input s r.0 input r.1.taken in
    let others = count-Recorded M r.0 t moves counts r.2 in
    omega arith

-- the entries of more moves begin at the count where the others end
pub entries-append : {S : Type 0} (M : Machine S) (reads : Reads) (s t : S) (moves more : List Move) → Counts M
    → Recorded M s moves t
    → entries reads (M.count s) (moves ++ more) ≡ entries reads (M.count s) moves ++ entries reads (M.count t) more
entries-append M reads s t moves more counts r =
    traces.entries-append reads (M.count s) moves more
    ∙ ap (λ n. entries reads (M.count s) moves ++ entries reads n more) (sym (count-Recorded M s t moves counts r))

pub Records-append : {S : Type 0} (M : Machine S) (reads : Reads) (s t u : S) (log middle new : Log)
    (moves more : List Move) → Counts M → Records M reads s log moves t middle → Records M reads t middle more u new
    → Records M reads s log (moves ++ more) u new
Records-append M reads s t u log middle new moves more counts a b =
    let es = entries reads (M.count s) moves in
    let later = entries reads (M.count t) more in
    record {
      runs = Recorded-append M s t u moves more a.runs b.runs;
      first = b.first ∙ a.first;
      pushes =
          b.pushes ∙ ap (λ (before : List Entry). before ++ later) a.pushes ∙ append_assoc log.entries es later
          ∙ ap (λ (behind : List Entry). log.entries ++ behind)
          (sym (entries-append M reads s t moves more counts a.runs));
    }
