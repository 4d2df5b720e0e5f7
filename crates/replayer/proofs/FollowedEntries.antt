-- Following an entry. Runs of one machine that give nothing agree as far as both go, so what ends one of them early
-- ends each longer one: an operation before the entry's count, an input that is refused at it, or a count that is
-- past it leave no way to reach the entry. A guest that reaches it has made one more move of a recorded run, which
-- logs it.
use Rattle.std.proofs.Common.{◌≡◌, ℕ, suc, ◌+◌, ◌<◌, ◌≤◌, ◌⊎◌, false, is_some, List, [], ◌∷◌, ◌++◌, Option, Some, None, Ok, Err, inl, inr, refl, sym, ap, subst, ◌∙◌, arith}
use Rattle.std.proofs.lemmas.Bool.Decides.{leb_tells}
use Rattle.std.proofs.lemmas.List.{append-nil}
use Rattle.event_callbacks.specs.declared.operations.OpId.{OpId}
use Rattle.event_callbacks.specs.declared.operations.Operation.{Operation}
use Rattle.guest_lockstep.specs.Lockstep.{Executes, StepsUnless, step_refusal}
use Rattle.guest_lockstep.specs.Machine.{Machine, Move, Do, Take}
use Rattle.guest_lockstep.specs.Recorded.{Accepts, Counts, Recorded}
use Rattle.guest_lockstep.specs.Running.{Quiet, Begin, More, RunsOn, AllTurns, Gives, IsRefused, fault_of}
use Rattle.guest_lockstep.specs.declared.input.Input.{Input}
use Rattle.guest_lockstep.specs.declared.input.Input.TheVariants as input
use Rattle.guest_lockstep.specs.declared.running.StopReason.TheVariants as reason
use Rattle.guest_lockstep.specs.declared.running.Stopped.{Stopped}
use Rattle.guest_lockstep.proofs.QuietSteps.{none_made, quiet_count}
use Rattle.guest_lockstep.specs.declared.reads.Reads.TheVariants.{Logged}
use Rattle.guest_lockstep.proofs.Moves.{recorded-append}
use Rattle.i8080_words.specs.declared.refusal.Fault.{Fault}
use Rattle.log_entry.specs.Entries.{count_of, entries, entry_of, input_of, timed_of}
use Rattle.log_entry.specs.declared.entry.Entry.{Entry}
use Rattle.log_entry.specs.declared.entry.Entry.TheVariants as entry
use Rattle.log_entry.proofs.TraceEntries.{count_entry}
use Rattle.recorder.proofs.Recorded.{entries-append}
use Rattle.replayer.specs.Following.{Follows, Logs, Reaches, Strays, GivesNothing, GivesAtLast, Ran, FollowingIsRecording}
use Rattle.replayer.specs.declared.following.Followed.TheVariants.{Stepped, Differs}

pub none_there : {A : Type 0} (o : Option A) → is_some o ≡ false → o ≡ None
none_there None e = refl
none_there (Some x) e = absurd cc

-- ---- entries of one move

input_again : (count : ℕ) (i : Input) → input_of (entry_of Logged count i) ≡ Some i
input_again count (input.Rx port byte) = refl
input_again count (input.Sent port) = refl
input_again count (input.Sector drive sector number bytes) = refl
input_again count (input.Written number) = refl

the_entry : (e f : Entry) → ◌≡◌ {A = List Entry} (e ∷ []) (f ∷ []) → e ≡ f
the_entry e f same = cc

module _ {S : Type 0} (M : Machine S) where
  -- the move that logs an entry gives an operation at its count, or takes its input there
  data Does (s : S) (e : Entry) (t : S) : Type 0 where
    Operates : {o : Operation} → M.step s ≡ Some (t, Some o) → e ≡ entry.Mark (suc (M.count s)) → Does s e t
    Inputs : {i : Input} → Accepts M s i t → e ≡ entry_of Logged (M.count s) i → Does s e t

  does : (s : S) (e : Entry) (t : S) → Logs M s e t → Does s e t
  does s e t l = go l.move l.runs l.entry
    where
      go : (move : Move) → Recorded M s (move ∷ []) t → entries Logged (M.count s) (move ∷ []) ≡ e ∷ [] → Does s e t
      go (Do None) r logged = absurd cc
      go (Do (Some o)) r logged =
          Operates (subst (λ u. M.step s ≡ Some (u, Some o)) r.2 r.1) (sym (the_entry _ e logged))
      go (Take i) r logged =
          Inputs (subst (λ u. Accepts M s i u) r.2 r.1) (sym (the_entry _ e logged))

  -- ---- runs that give nothing

  abbrev state_in : S → Option (S × Option Operation) → S
  state_in s None = s
  state_in s (Some step) = step.0

  abbrev operation_in : Option (S × Option Operation) → Option Operation
  operation_in None = None
  operation_in (Some step) = step.1

  same_state : (t u : S) (o : Option (S × Option Operation)) → o ≡ Some (t, None) → o ≡ Some (u, None) → t ≡ u
  same_state t u o a b =
      let both : ◌≡◌ {A = Option (S × Option Operation)} (Some (t, None)) (Some (u, None)) = sym a ∙ b in
      ap (state_in t) both

  pub same_end : (s t u : S) (n m : ℕ) → n ≡ m → Quiet M s n t → Quiet M s m u → t ≡ u
  same_end s t u _ _ e Begin Begin = refl
  same_end s t u _ _ e Begin (More q allowed made) = absurd (omega (arith, e))
  same_end s t u _ _ e (More q allowed made) Begin = absurd (omega (arith, e))
  same_end s t u _ _ e (More {n = n} {t = v} q allowed made) (More {n = m} {t = w} r also makes) =
      let inner : n ≡ m = omega (arith, e) in
      same_state t u (M.step v) made
      (subst (λ x. M.step x ≡ Some (u, None)) (sym (same_end s v w n m inner q r)) makes)

  -- a longer run goes on from where a shorter one ends, by a step that gives nothing
  goes_past : (s v w : S) (n k : ℕ) → n < k → Quiet M s n v → Quiet M s k w → (x : S) × (M.step v ≡ Some (x, None))
  goes_past s v w n _ lt q Begin = absurd (omega arith)
  goes_past s v w n _ lt q (More {n = j} {t = x} r allowed made) = elim (leb_tells j n) [
    | inl p ↦ (
      w,
      subst (λ y. M.step y ≡ Some (w, None))
          (same_end s x v j n (let le = p.1 in omega (arith, lt, le)) r q) made,
    )
    | inr p ↦ goes_past s v x n j p.1 q r
  ]

  gives_one : (t u : S) (o : Operation) (step : Option (S × Option Operation)) → step ≡ Some (t, Some o)
      → step ≡ Some (u, None) → ⊥
  gives_one t u o step a b =
      let both : ◌≡◌ {A = Option (S × Option Operation)} (Some (t, Some o)) (Some (u, None)) = sym a ∙ b in
      let no : Some o ≡ None = ap operation_in both in
      cc

  -- ---- an entry that is never reached

  module _ (counts : Counts M) where
    -- it is past, or a mark at the guest's own count
    past : (s u : S) (e : Entry) → (count_of e ≤ M.count s)
        → ((i : Input) → input_of e ≡ Some i → count_of e < M.count s)
        → Reaches M s e u → ⊥
    past s u e le input_past r = go (does r.last e u r.logs)
      where
        at : M.count r.last ≡ r.steps + M.count s
        at = quiet_count M s r.last r.steps counts r.quietly

        go : Does r.last e u → ⊥
        go (Operates o is) =
            let count : count_of e ≡ suc (M.count r.last) = ap count_of is in
            let a = at in omega (arith, count, le, a)
        go (Inputs {i = i} a is) =
            let count : count_of e ≡ M.count r.last = ap count_of is ∙ count_entry Logged (M.count r.last) i in
            let lt = input_past i (ap input_of is ∙ input_again (M.count r.last) i) in
            let b = at in omega (arith, count, lt, b)

    -- its input is refused at the guest's count
    refused : (s u : S) (e : Entry) (i : Input) → M.count s ≡ count_of e → input_of e ≡ Some i
        → ((t : S) → Accepts M s i t → ⊥) → Reaches M s e u → ⊥
    refused s u e i here of_e none r = go (does r.last e u r.logs)
      where
        at : M.count r.last ≡ r.steps + M.count s
        at = quiet_count M s r.last r.steps counts r.quietly

        go : Does r.last e u → ⊥
        go (Operates o is) = let no : None ≡ Some i = sym (ap input_of is) ∙ of_e in cc
        go (Inputs {i = j} a is) =
            let count : count_of e ≡ M.count r.last = ap count_of is ∙ count_entry Logged (M.count r.last) j in
            let b = at in
            let zero : r.steps ≡ 0 = omega (arith, count, here, b) in
            let same : r.last ≡ s = none_made M s r.last r.steps zero r.quietly in
            let one : Some j ≡ Some i = sym (ap input_of is ∙ input_again (M.count r.last) j) ∙ of_e in
            none u (subst (λ k. Accepts M s k u) (let e : j ≡ i = cc in e) (subst (λ t. Accepts M t j u) same a))

    -- an operation came before it, or at its count in place of it if it is no mark
    given_first : (s v t u : S) (n : ℕ) (o : Operation) (e : Entry) → Quiet M s n v → M.step v ≡ Some (t, Some o)
        → suc (n + M.count s) ≤ count_of e → (timed_of e ≡ None → suc (n + M.count s) < count_of e)
        → Reaches M s e u → ⊥
    given_first s v t u n o e q made le mark_later r = go (does r.last e u r.logs)
      where
        at : M.count r.last ≡ r.steps + M.count s
        at = quiet_count M s r.last r.steps counts r.quietly

        no_longer : n < r.steps → ⊥
        no_longer lt = let x = goes_past s v r.last n r.steps lt q r.quietly in gives_one t x.0 o (M.step v) made x.1

        short : r.steps ≤ n
        short = elim (leb_tells r.steps n) [ inl p ↦ p.1 | inr p ↦ absurd (no_longer p.1) ]

        go : Does r.last e u → ⊥
        go (Operates o' is) =
            let count : count_of e ≡ suc (M.count r.last) = ap count_of is in
            let lt = mark_later (ap timed_of is) in
            let b = at in let few = short in omega (arith, count, lt, b, few)
        go (Inputs {i = i} a is) =
            let count : count_of e ≡ M.count r.last = ap count_of is ∙ count_entry Logged (M.count r.last) i in
            let b = at in let few = short in omega (arith, count, le, b, few)

  -- ---- what a run of steps does

  refuses : (s : S) (refusal : Option Fault) → StepsUnless M s refusal (Err (fault_of refusal)) s
  refuses s None = (refl, refl)
  refuses s (Some fault) = (refl, refl)

  mark_is : (e : Entry) → timed_of e ≡ None → e ≡ entry.Mark (count_of e)
  mark_is (entry.Mark count) none = refl
  mark_is (entry.Rx count port byte) none = absurd cc
  mark_is (entry.Sent count port) none = absurd cc
  mark_is (entry.Sector count drive sector number bytes) none = absurd cc
  mark_is (entry.Written count number) none = absurd cc
  mark_is (entry.Read count drive sector number) none = absurd cc

  -- a run of at most this many steps, toward an entry that is this many ahead
  module _ (counts : Counts M) (s t : S) (e : Entry) (turns limit ahead : ℕ)
      (there : ahead + M.count s ≡ count_of e) (few : limit ≤ turns) (within : limit ≤ ahead) where
    pub all_made : (r : Stopped) → RunsOn M s limit r t → r.reason ≡ reason.Turns → (0 < limit) ⊎ (turns ≡ 0)
        → Follows M s e turns (Ok (Stepped r.steps)) t
    all_made _ (AllTurns q) is some =
        let count = quiet_count M s t limit counts q in
        let le : M.count t ≤ count_of e = omega (arith, count, there, within) in
        (few, some, le, q)
    all_made _ (Gives lt q allowed made) is some = absurd cc
    all_made _ (IsRefused lt q) is some = absurd cc

    pub some_made : (r : Stopped) (fault : Fault) → RunsOn M s limit r t → r.reason ≡ reason.Refused fault
        → 0 < r.steps → Follows M s e turns (Ok (Stepped r.steps)) t
    some_made _ fault (AllTurns q) is some = absurd cc
    some_made _ fault (Gives lt q allowed made) is some = absurd cc
    some_made _ fault (IsRefused {n = n} lt q) is some =
        let count = quiet_count M s t n counts q in
        let le : M.count t ≤ count_of e = omega (arith, count, there, within, lt) in
        let enough : n ≤ turns = omega (arith, lt, few) in
        (enough, inl some, le, q)

    pub none_allowed : (r : Stopped) (fault : Fault) → RunsOn M s limit r t → r.reason ≡ reason.Refused fault
        → r.steps ≡ 0 → 0 < ahead → Follows M s e turns (Err fault) t
    none_allowed _ fault (AllTurns q) is none some = absurd cc
    none_allowed _ fault (Gives lt q allowed made) is none some = absurd cc
    none_allowed _ fault (IsRefused {n = n} lt q) is none some =
        let same : t ≡ s = none_made M s t n none q in
        let by : fault_of (step_refusal M t) ≡ fault = cc in
        let later : M.count s < count_of e = omega (arith, there, some) in (
          later,
          same,
          subst (λ f. Executes M s (Err f) s) (ap (λ u. fault_of (step_refusal M u)) (sym same) ∙ by)
              (refuses s (step_refusal M s)),
        )

    pub mark_made : (r : Stopped) (name : OpId) → RunsOn M s limit r t → r.reason ≡ reason.Operation name
        → r.steps ≡ ahead → timed_of e ≡ None → Reaches M s e t
    mark_made _ name (AllTurns q) is at none = absurd cc
    mark_made _ name (IsRefused lt q) is at none = absurd cc
    mark_made _ name (Gives {n = n} {t = v} {given = o} lt q allowed made) is at none =
        let before = quiet_count M s v n counts q in
        let count : suc (M.count v) ≡ count_of e = omega (arith, before, there, at) in
        record {
          steps = n;
          last = v;
          quietly = q;
          logs = record {
            move = Do (Some o);
            runs = (t, made, refl);
            entry = ap (λ c. entry.Mark c ∷ []) count ∙ ap (λ f. f ∷ []) (sym (mark_is e none));
          };
        }

    pub strays : (r : Stopped) (name : OpId) → RunsOn M s limit r t → r.reason ≡ reason.Operation name
        → (timed_of e ≡ None → r.steps ≡ ahead → ⊥) → Follows M s e turns (Ok Differs) t
    strays _ name (AllTurns q) is other = absurd cc
    strays _ name (IsRefused lt q) is other = absurd cc
    strays _ name (Gives {n = n} {t = v} {given = o} lt q allowed made) is other =
        let le : suc (n + M.count s) ≤ count_of e = omega (arith, lt, within, there) in (
          GivesAtLast q made,
          λ u. given_first counts s v t u n o e q made le (λ none. before (other none)),
        )
      where
        before : (suc n ≡ ahead → ⊥) → suc (n + M.count s) < count_of e
        before never = elim (leb_tells ahead (suc n)) [
          | inl p ↦ absurd (never (let le = p.1 in omega (arith, lt, within, le)))
          | inr p ↦ let lt = p.1 in omega (arith, lt, there)
        ]

  -- an input that is taken at its count
  pub input_taken : (s t : S) (e : Entry) (i : Input) → M.count s ≡ count_of e → input_of e ≡ Some i → Accepts M s i t
      → Reaches M s e t
  input_taken s t e i here of_e a = record {
    steps = 0;
    last = s;
    quietly = Begin;
    logs = record {
      move = Take i;
      runs = (t, a, refl);
      entry = ap (λ c. entry_of Logged c i ∷ []) here ∙ ap (λ f. f ∷ []) (entry_is e i of_e);
    };
  }
    where
      entry_is : (e : Entry) (i : Input) → input_of e ≡ Some i → entry_of Logged (count_of e) i ≡ e
      entry_is (entry.Mark count) i none = absurd cc
      entry_is (entry.Rx count port byte) i is = cc
      entry_is (entry.Sent count port) i is = cc
      entry_is (entry.Sector count drive sector number bytes) i is = cc
      entry_is (entry.Written count number) i is = cc
      entry_is (entry.Read count drive sector number) i none = absurd cc

  pub input_refused : Counts M → (s t : S) (e : Entry) (i : Input) (turns : ℕ) → M.count s ≡ count_of e
      → input_of e ≡ Some i → t ≡ s → ((u : S) → Accepts M s i u → ⊥) → Follows M s e turns (Ok Differs) t
  input_refused counts s t e i turns here of_e same none = (
    subst (λ u. Strays M s u) (sym same) (GivesNothing Begin),
    λ u. refused counts s u e i here of_e none,
  )

  pub is_past : Counts M → (s : S) (e : Entry) (turns : ℕ) → count_of e < M.count s
      → Follows M s e turns (Ok Differs) s
  is_past counts s e turns lt = (
    GivesNothing Begin,
    λ u. past counts s u e (let l = lt in omega (arith, l)) (λ i of_e. lt),
  )

  pub mark_is_past : Counts M → (s : S) (e : Entry) (turns : ℕ) → M.count s ≡ count_of e → input_of e ≡ None
      → Follows M s e turns (Ok Differs) s
  mark_is_past counts s e turns here none = (
    GivesNothing Begin,
    λ u. past counts s u e (let h = here in omega (arith, h))
        (λ i of_e. absurd (let no : None ≡ Some i = sym none ∙ of_e in cc)),
  )

-- ---- a list of entries

-- steps that give nothing log nothing
record Unlogged {S : Type 0} (M : Machine S) (s t : S) : Type 0 where
  moves : List Move
  runs : Recorded M s moves t
  none : entries Logged (M.count s) moves ≡ []

unlogged : {S : Type 0} (M : Machine S) → Counts M → (s : S) (n : ℕ) (t : S) → Quiet M s n t → Unlogged M s t
unlogged M counts s n t Begin = record { moves = []; runs = refl; none = refl }
unlogged M counts s _ u (More {n = n} {t = t} q allowed made) =
    let before = unlogged M counts s n t q in
    record {
      moves = before.moves ++ Do None ∷ [];
      runs = recorded-append M s t u before.moves (Do None ∷ []) before.runs (u, made, refl);
      none =
          entries-append M Logged s t before.moves (Do None ∷ []) counts before.runs
          ∙ append-nil (entries Logged (M.count s) before.moves)
          ∙ before.none;
    }

pub following_is_recording : {S : Type 0} → FollowingIsRecording S
following_is_recording {S} M counts start s list ran = record { quietly = quietly; reaches = reaches }
  where
    quietly : (n : ℕ) (t : S) → Quiet M s n t → Ran M start list t
    quietly n t q =
        let more = unlogged M counts s n t q in
        record {
          moves = ran.moves ++ more.moves;
          runs = recorded-append M start s t ran.moves more.moves ran.runs more.runs;
          entries_are =
              entries-append M Logged start s ran.moves more.moves counts ran.runs
              ∙ ap (λ l. entries Logged (M.count start) ran.moves ++ l) more.none
              ∙ append-nil (entries Logged (M.count start) ran.moves) ∙ ran.entries_are;
        }

    reaches : (e : Entry) (t : S) → Reaches M s e t → Ran M start (list ++ e ∷ []) t × (M.count t ≡ count_of e)
    reaches e t r =
        let before = quietly r.steps r.last r.quietly in (
          record {
            moves = before.moves ++ r.logs.move ∷ [];
            runs = recorded-append M start r.last t before.moves (r.logs.move ∷ []) before.runs r.logs.runs;
            entries_are =
                entries-append M Logged start r.last before.moves (r.logs.move ∷ []) counts before.runs
                ∙ ap (λ l. entries Logged (M.count start) before.moves ++ l) r.logs.entry
                ∙ ap (λ l. l ++ e ∷ []) before.entries_are;
          },
          ends (does M r.last e t r.logs),
        )
      where
        ends : Does M r.last e t → M.count t ≡ count_of e
        ends (Operates {o = o} made is) = counts.by_step r.last t (Some o) made ∙ sym (ap count_of is)
        ends (Inputs {i = i} a is) =
            counts.by_input r.last t i a.taken ∙ sym (count_entry Logged (M.count r.last) i) ∙ sym (ap count_of is)
