-- The trace of the first entries of a recorded run, whose sectors are those of the machine's own disk; a second run of
-- these entries, up to the count of the last, is that trace; and what is acknowledged by them was given in it.
use Rattle.std.proofs.Common.{◌≡◌, ℕ, zero, suc, ◌<◌, ◌≤◌, inl, inr, List, [], ◌∷◌, ◌++◌, length, take, Some, None, refl, sym, ap, subst, ◌∙◌, arith, length-append}
use Rattle.std.proofs.Math.Seq.{take-append_seam}
use Rattle.pair_threads.proofs.Words.{Among, Counts, Do, Entry, IsAcknowledged, IsPrefix, IsTraceOf, IsWhereItLeads, Lawful, Logged, Machine, Move, Operation, Owns, Reach, Runs, Take, among-prefix, among-right, entries, front, inputs, inputs_of, inputs_of-entries, last_count, operations, operations-append, operations-prefix, owns-prefix, steps}
use Rattle.pair_protocol.specs.Traces.{cut}
use Rattle.pair_protocol.proofs.Traces.Cuts.{cut-longer, cut-prefix}
use Rattle.pair_protocol.proofs.Traces.OneTrace.{first_entries}
use Rattle.pair_protocol.proofs.Traces.Recorded.{recorded-runs}
use Rattle.replayer.specs.Following.{Ran}

no_longer : (list more all : List Entry) → all ≡ list ++ more → length list ≤ length all
no_longer list more all is = (let a = length-append list more in let b = ap length is in omega (arith, a, b))

-- ---- operations

-- an operation stands in the moves up to its mark
marked_there : (n c : ℕ) (before rest : List Move) (o : Operation) → length (entries Logged c before) < n
    → Among o (operations (cut n (before ++ Do (Some o) ∷ rest)))
marked_there zero c before rest o lt = absurd (omega (arith, lt))
marked_there (suc n) c [] rest o lt = inl refl
marked_there (suc n) c (Do None ∷ before) rest o lt = marked_there (suc n) (suc c) before rest o lt
marked_there (suc n) c (Do (Some p) ∷ before) rest o lt =
    inr (marked_there n (suc c) before rest o (let l = lt in omega (arith, l)))
marked_there (suc n) c (Take i ∷ before) rest o lt = marked_there n c before rest o (let l = lt in omega (arith, l))

sooner : (a seen n : ℕ) → a < seen → seen ≤ n → a < n
sooner a seen n lt le = omega (arith, lt, le)

pub given_first : (n seen : ℕ) (moves : List Move) (o : Operation) → seen ≤ n → IsAcknowledged moves seen o
    → Among o (operations (cut n moves))
given_first n seen moves o le a =
    subst (λ l. Among o (operations (cut n l))) (sym a.given)
    (marked_there n 0 a.front a.rest o (sooner (length (entries Logged 0 a.front)) seen n a.marked le))

pub given_at_all : (seen : ℕ) (moves : List Move) (o : Operation) → IsAcknowledged moves seen o → Among o (operations moves)
given_at_all seen moves o a =
    subst (λ l. Among o (operations l)) (sym a.given)
    (subst (Among o) (sym (operations-append a.front (Do (Some o) ∷ a.rest)))
    (among-right o (operations a.front) (o ∷ operations a.rest) (inl refl)))

-- ---- traces

module _ {S : Type 0} (M : Machine S) (lawful : Lawful M) (moves : List Move) (s : S) (runs : Runs M M.boot moves s)
    (owns : Owns M [] M.boot moves) where
  reach : Reach M (inputs 0 moves) (steps moves) moves
  reach = record { last = s; runs = runs; owns = owns; list_is = refl; count_is = refl }

  -- the run of the whole list, at its own count
  pub all_of_it : (list : List Entry) → entries Logged 0 moves ≡ list → IsTraceOf M list (M.count s) moves s
  all_of_it list are = record {
    reach = record {
      last = s;
      runs = runs;
      owns = owns;
      list_is = sym (inputs_of-entries Logged 0 moves) ∙ ap inputs_of are;
      count_is = sym (lawful.counts moves s runs);
    };
    ends = refl;
    entries_are = are;
  }

  module _ (list more : List Entry) (are : entries Logged 0 moves ≡ list ++ more) where
    -- the run up to the last of the first entries
    pub first_part : (u : S) × IsTraceOf M list (last_count 0 list) (cut (length list) moves) u
    first_part =
        let e : take (length list) (entries Logged 0 moves) ≡ list = ap (take (length list)) are ∙ take-append_seam list more in
        let f = first_entries M (inputs 0 moves) (steps moves) Logged (length list) moves reach
        (no_longer list more (entries Logged 0 moves) are) in
        let r : Reach M (inputs_of list) (last_count 0 list) (cut (length list) moves) =
        subst (λ l. Reach M (inputs_of l) (last_count 0 l) (cut (length list) moves)) e f.1 in
        (r.last, record { reach = r; ends = refl; entries_are = f.0 ∙ e })

    module _ (counts : Counts M) (t : S) (r : Ran M M.boot list t) (here : M.count t ≡ last_count (M.count M.boot) list) where
      boot : M.count M.boot ≡ 0
      boot = lawful.counts [] M.boot refl

      made : Runs M M.boot r.moves t
      made = recorded-runs M M.boot t r.moves r.runs

      pub same_entries : entries Logged 0 r.moves ≡ list
      same_entries = ap (λ c. entries Logged c r.moves) (sym boot) ∙ r.entries_are

      at : M.count t ≡ last_count 0 list
      at = here ∙ ap (λ c. last_count c list) boot

      -- a run that repeats the first entries, and ends at the last: it has the first moves
      pub first_moves : IsPrefix r.moves moves
      first_moves =
          let p = front M counts M.boot t s 0 r.moves moves more boot made (at ∙ ap (last_count 0) (sym same_entries)) runs
          (are ∙ ap (λ l. l ++ more) (sym same_entries)) in (p.0, sym p.1)

      pub first_owns : Owns M [] M.boot r.moves
      first_owns = owns-prefix M M.boot r.moves moves first_moves owns

      pub repeated : IsWhereItLeads M list t
      repeated = (
        r.moves,
        record {
          reach = record {
            last = t;
            runs = made;
            owns = first_owns;
            list_is = sym (inputs_of-entries Logged 0 r.moves) ∙ ap inputs_of same_entries;
            count_is = sym (lawful.counts r.moves t made) ∙ at;
          };
          ends = refl;
          entries_are = same_entries;
        },
      )

      -- and gave what is acknowledged by them
      pub given_there : (seen : ℕ) (o : Operation) → seen ≤ length list → IsAcknowledged moves seen o → Among o (operations r.moves)
      given_there seen o le a =
          among-prefix o (operations (cut (length list) r.moves)) (operations r.moves)
          (operations-prefix (cut (length list) r.moves) r.moves (cut-prefix (length list) r.moves))
          (subst (λ l. Among o (operations l)) same_cut (given_first (length list) seen moves o le a))
        where
          all_there : length list ≤ length (entries Logged 0 r.moves)
          all_there = (let b = ap length same_entries in omega (arith, b))

          same_cut : cut (length list) moves ≡ cut (length list) r.moves
          same_cut = ap (cut (length list)) (sym first_moves.1) ∙ cut-longer Logged (length list) 0 r.moves first_moves.0 all_there
