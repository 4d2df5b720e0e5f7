-- The guest of a primary's worker: each step and each input is one more move of its recorded run, with its entry; what it
-- gives is named, and what is released while all is acknowledged has its mark among the entries seen.
use Rattle.std.proofs.Common.{◌≡◌, ◌≢◌, ℕ, zero, suc, ◌+◌, ◌≤◌, ◌⊎◌, inl, inr, List, [], ◌∷◌, ◌++◌, length, Option, Some, None, refl, sym, ap, subst, ◌∙◌, arith, length-append, append-nil}
use mathlib.Core.Option.{some}
use lib.ListN.{get_elem?}
use Rattle.std.specs.Prelude.{Contains, slice_get}
use Rattle.std.proofs.lemmas.List.Elements.{Contains-append_left, Contains-push}
use Rattle.pair_threads.proofs.Words.{Accepts, Among, AreAnswers, ComesAndGoes, Counts, DiskAnswer, Do, Entry, Idle, Input, IsAcknowledged, IsAnswer, IsGiven, Leads, Logged, Machine, Mark, Move, OpId, Operation, OutOfMemory, PrimaryView, Recorded, Take, among_last, among-left, completed_by, entries, entry_of, id_of, name_cases, operations, same_some, step_refusal, steps, with_release}
use Rattle.guest_lockstep.specs.Running.{Quiet, Begin, More, RunsOn, AllTurns, Gives, IsRefused, fault_of}
use Rattle.guest_lockstep.specs.declared.running.StopReason.TheVariants as reason
use Rattle.guest_lockstep.specs.declared.running.Stopped.{Stopped}
use Rattle.i8080_words.specs.declared.refusal.Fault.{Fault}
use Rattle.guest_lockstep.specs.declared.input.Input.TheVariants as input
use Rattle.pair_protocol.proofs.Traces.Moves as trace
use Rattle.pair_rule.specs.declared.payload.DiskAnswer.TheVariants as answer
use Rattle.pair_rule.proofs.ShownNodes.{among_either, later_covered, longer_covered}
use Rattle.recorder.proofs.Recorded.{Recorded-append, entries-append}

-- ---- a given operation stands in the moves, and its mark comes before their last entry

record GivenAt (moves : List Move) (o : Operation) : Type 0 where
  front : List Move
  rest : List Move
  at : moves ≡ front ++ Do (Some o) ∷ rest

given_after : (m : Move) (moves : List Move) (o : Operation) → GivenAt moves o → GivenAt (m ∷ moves) o
given_after m moves o g = record { front = m ∷ g.front; rest = g.rest; at = ap (λ l. m ∷ l) g.at }

given_at : (moves : List Move) (o : Operation) → Among o (operations moves) → GivenAt moves o
given_at [] o at = absurd at
given_at (Do None ∷ moves) o at = given_after (Do None) moves o (given_at moves o at)
given_at (Do (Some p) ∷ moves) o (inl same) =
    record { front = []; rest = moves; at = ap (λ q. Do (Some q) ∷ moves) (sym same) }
given_at (Do (Some p) ∷ moves) o (inr at) = given_after (Do (Some p)) moves o (given_at moves o at)
given_at (Take i ∷ moves) o at = given_after (Take i) moves o (given_at moves o at)

-- how many entries there are does not depend on where moves begin
as_many : (c d : ℕ) (moves : List Move) → length (entries Logged c moves) ≡ length (entries Logged d moves)
as_many c d [] = refl
as_many c d (Do None ∷ moves) = as_many (suc c) (suc d) moves
as_many c d (Do (Some o) ∷ moves) = ap suc (as_many (suc c) (suc d) moves)
as_many c d (Take i ∷ moves) = ap suc (as_many c d moves)

acknowledged : (count : ℕ) (moves : List Move) (seen : ℕ) (o : Operation) → length (entries Logged count moves) ≤ seen
    → Among o (operations moves) → IsAcknowledged moves seen o
acknowledged count moves seen o all at =
    let g = given_at moves o at in
    let later = Do (Some o) ∷ g.rest in
    record {
      front = g.front;
      rest = g.rest;
      given = g.at;
      marked =
          (let joined = ap (entries Logged count) g.at ∙ trace.entries-append Logged count g.front later in
          let whole = ap length joined in
          let parts = length-append (entries Logged count g.front) (entries Logged (count + steps g.front) later) in
          let same = as_many count 0 g.front in
          let a = all in
          omega (arith, whole, parts, same, a));
    }

-- ---- what moves say of the disk is among its answers

module _ {S : Type 0} (M : Machine S) where
  -- along longer moves
  answers-append : (answers : List DiskAnswer) (s t : S) (xs ys : List Move) → Recorded M s xs t → AreAnswers M answers s xs
      → AreAnswers M answers t ys → AreAnswers M answers s (xs ++ ys)
  answers-append answers s t [] ys r h k = subst (λ v. AreAnswers M answers v ys) (sym r) k
  answers-append answers s t (Do o ∷ xs) ys r h k = λ u e.
      let q : r.0 ≡ u = ap (λ (p : S × Option Operation). p.0) (same_some (r.0, o) (u, o) (M.step s) r.1 e) in
      answers-append answers u t xs ys (subst (λ v. Recorded M v xs t) q r.2) (h u e) k
  answers-append answers s t (Take i ∷ xs) ys r h k = (
    h.0,
    λ u e.
        let q : r.0 ≡ u = same_some r.0 u (M.take s i) r.1.taken e in
        answers-append answers u t xs ys (subst (λ v. Recorded M v xs t) q r.2) (h.1 u e) k,
  )

  -- and among more answers
  still_answer : (answers more : List DiskAnswer) (s : S) (i : Input) → IsAnswer M answers s i
      → IsAnswer M (answers ++ more) s i
  still_answer answers more s (input.Rx port byte) h = h
  still_answer answers more s (input.Sent port) h = h
  still_answer answers more s (input.Sector drive sector number bytes) h =
      (h.0, among-left (answer.Read h.0) answers more h.1, h.2, h.3, h.4)
  still_answer answers more s (input.Written number) h = among-left (answer.Written number) answers more h

  still_answers : (answers more : List DiskAnswer) (s : S) (moves : List Move) → AreAnswers M answers s moves
      → AreAnswers M (answers ++ more) s moves
  still_answers answers more s [] h = tt
  still_answers answers more s (Do o ∷ moves) h = λ u e. still_answers answers more u moves (h u e)
  still_answers answers more s (Take i ∷ moves) h =
      (still_answer answers more s i h.0, λ u e. still_answers answers more u moves (h.1 u e))

-- ---- moves

module _ {S : Type 0} (M : Machine S) (counts : Counts M) (laws : ComesAndGoes M) (boot s : S) (list : List Entry)
    (names : List OpId) (view : PrimaryView) (leads : Leads M boot list names view s) where
  -- the moves with one more, and their entries
  abbrev longer : Move → List Move
  longer m = leads.moves ++ m ∷ []

  longer_runs : (m : Move) (t : S) → Recorded M s (m ∷ []) t → Recorded M boot (longer m) t
  longer_runs m t one = Recorded-append M boot s t leads.moves (m ∷ []) leads.runs one

  longer_answers : (m : Move) → AreAnswers M view.answers s (m ∷ []) → AreAnswers M view.answers boot (longer m)
  longer_answers m one = answers-append M view.answers boot s leads.moves (m ∷ []) leads.runs leads.answered one

  longer_entries : (m : Move) → entries Logged (M.count boot) (longer m) ≡ list ++ entries Logged (M.count s) (m ∷ [])
  longer_entries m =
      entries-append M Logged boot s leads.moves (m ∷ []) counts leads.runs
      ∙ ap (λ l. l ++ entries Logged (M.count s) (m ∷ [])) leads.entries_are

  still_given : (m : Move) (more : List OpId) (name : OpId) (o : Operation) → IsGiven names leads.moves name o
      → IsGiven (names ++ more) (longer m) name o
  still_given m more name o g = record {
    named = Contains-append_left names more name g.named;
    given = subst (Among o) (sym (trace.operations-append leads.moves (m ∷ [])))
        (among-left o (operations leads.moves) (operations (m ∷ [])) g.given);
  }

  still_named : (m : Move) (name : OpId) (o : Operation) → IsGiven names leads.moves name o
      → IsGiven names (longer m) name o
  still_named m name o g = record { named = g.named; given = (still_given m [] name o g).given }

  pub silent : (t : S) → M.step s ≡ Some (t, None) → Leads M boot list names view t
  silent t made = record {
    moves = longer (Do None);
    runs = longer_runs (Do None) t (t, made, refl);
    entries_are = longer_entries (Do None) ∙ append-nil list;
    outstanding = λ name o found. still_named (Do None) name o
        (leads.outstanding name o (sym (laws.quiet s t made name) ∙ found));
    covered = λ o at. longer_covered leads.moves (Do None ∷ []) view.seen o (leads.covered o at);
    answered = longer_answers (Do None) (λ u e. tt);
  }

  pub gives : (t : S) (o : Operation) → M.step s ≡ Some (t, Some o)
      → Leads M boot (list ++ Mark (M.count t) ∷ []) (names ++ id_of o ∷ []) view t
  gives t o made = record {
    moves = longer (Do (Some o));
    runs = longer_runs (Do (Some o)) t (t, made, refl);
    entries_are = longer_entries (Do (Some o)) ∙ ap (λ c. list ++ Mark c ∷ []) (sym (counts.by_step s t (Some o) made));
    outstanding = λ name p found. named name p found (name_cases name (id_of o));
    covered = λ p at. longer_covered leads.moves (Do (Some o) ∷ []) view.seen p (leads.covered p at);
    answered = longer_answers (Do (Some o)) (λ u e. tt);
  }
    where
      one_operation : (p q : Operation) (x : Option Operation) → x ≡ Some p → x ≡ Some q → p ≡ q
      one_operation p q x a b = let e : ◌≡◌ {A = Option Operation} (Some p) (Some q) = sym a ∙ b in cc

      named : (name : OpId) (p : Operation) → M.find t name ≡ Some p → (name ≡ id_of o) ⊎ (name ≢ id_of o)
          → IsGiven (names ++ id_of o ∷ []) (longer (Do (Some o))) name p
      named name p found (inl same) =
          let it : o ≡ p = one_operation o p (M.find t (id_of o)) (laws.comes s t o made).0 (ap (M.find t) (sym same) ∙ found) in
          record {
            named = subst (Contains (names ++ id_of o ∷ [])) (sym same) (Contains-push names (id_of o));
            given = subst (Among p) (sym (trace.operations-append leads.moves (Do (Some o) ∷ [])))
                (subst (λ q. Among p (operations leads.moves ++ q ∷ [])) (sym it) (among_last p (operations leads.moves)));
          }
      named name p found (inr other) =
          still_given (Do (Some o)) (id_of o ∷ []) name p
          (leads.outstanding name p (sym ((laws.comes s t o made).1 name other) ∙ found))

  pub takes : (t : S) (i : Input) → Accepts M s i t → IsAnswer M view.answers s i
      → Leads M boot (list ++ entry_of Logged (M.count s) i ∷ []) names view t
  takes t i accepts says = record {
    moves = longer (Take i);
    runs = longer_runs (Take i) t (t, accepts, refl);
    entries_are = longer_entries (Take i);
    outstanding = λ name o found. still_named (Take i) name o
        (leads.outstanding name o (before name o found (completed_by M s i) refl));
    covered = λ o at. longer_covered leads.moves (Take i ∷ []) view.seen o (leads.covered o at);
    answered = longer_answers (Take i) (says, λ u e. tt);
  }
    where
      no_longer : (o : Operation) (x : Option Operation) → x ≡ None → x ≡ Some o → ⊥
      no_longer o x a b = let e : ◌≡◌ {A = Option Operation} None (Some o) = sym a ∙ b in cc

      before : (name : OpId) (o : Operation) → M.find t name ≡ Some o → (done : Option OpId) → completed_by M s i ≡ done
          → M.find s name ≡ Some o
      before name o found None is = sym (laws.stays s t i accepts.taken is name) ∙ found
      before name o found (Some gone) is = elim (name_cases name gone) [
        | inl same ↦ absurd
            (no_longer o (M.find t name) (ap (M.find t) same ∙ (laws.goes s t i gone accepts.taken is).0) found)
        | inr other ↦ sym ((laws.goes s t i gone accepts.taken is).1 name other) ∙ found
      ]

  -- ---- what a seat sees, releases and hears

  pub sees : (more : ℕ) → view.seen ≤ more → Leads M boot list names (record view { seen = more }) s
  sees more le = record {
    moves = leads.moves;
    runs = leads.runs;
    entries_are = leads.entries_are;
    outstanding = leads.outstanding;
    covered = λ o at. later_covered leads.moves view.seen more o le (leads.covered o at);
    answered = leads.answered;
  }

  pub releases : (name : OpId) (o : Operation) → M.find s name ≡ Some o → view.seen ≡ length list
      → Leads M boot list names (with_release o view) s
  releases name o found all = record {
    moves = leads.moves;
    runs = leads.runs;
    entries_are = leads.entries_are;
    outstanding = leads.outstanding;
    covered = λ p at. elim (among_either p o view.released at) [
      | inl old ↦ leads.covered p old
      | inr same ↦ subst (IsAcknowledged leads.moves view.seen) (sym same)
          (acknowledged (M.count boot) leads.moves view.seen o
          (let a = all in let e = ap length leads.entries_are in omega (arith, a, e))
          (leads.outstanding name o found).given)
    ];
    answered = leads.answered;
  }

  pub hears : (a : DiskAnswer) → Leads M boot list names (record view { answers = view.answers ++ a ∷ [] }) s
  hears a = record {
    moves = leads.moves;
    runs = leads.runs;
    entries_are = leads.entries_are;
    outstanding = leads.outstanding;
    covered = leads.covered;
    answered = still_answers M view.answers (a ∷ []) boot leads.moves leads.answered;
  }

pub quietly : {S : Type 0} (M : Machine S) → Counts M → ComesAndGoes M → (boot s : S) (list : List Entry)
    (names : List OpId) (view : PrimaryView) (n : ℕ) (t : S) → Quiet M s n t
    → Leads M boot list names view s → Leads M boot list names view t
quietly M counts laws boot s list names view _ _ Begin leads = leads
quietly M counts laws boot s list names view _ u (More {n = n} {t = t} q free made) leads =
    silent M counts laws boot t list names view
    (quietly M counts laws boot s list names view n t q leads) u made

-- ---- a guest that runs by itself

module _ {S : Type 0} (M : Machine S) (counts : Counts M) (laws : ComesAndGoes M) (boot s t : S) (list : List Entry)
    (names : List OpId) (view : PrimaryView) (turns : ℕ) (leads : Leads M boot list names view s) where
  pub made_all : (r : Stopped) → RunsOn M s turns r t → r.reason ≡ reason.Turns → Leads M boot list names view t
  made_all _ (AllTurns q) is = quietly M counts laws boot s list names view turns t q leads
  made_all _ (Gives lt q allowed made) is = absurd cc
  made_all _ (IsRefused lt q) is = absurd cc

  pub stopped_there : (r : Stopped) (fault : Fault) → RunsOn M s turns r t → r.reason ≡ reason.Refused fault
      → Leads M boot list names view t
  stopped_there _ fault (AllTurns q) is = absurd cc
  stopped_there _ fault (Gives lt q allowed made) is = absurd cc
  stopped_there _ fault (IsRefused {n = n} lt q) is = quietly M counts laws boot s list names view n t q leads

  pub gave_one : (r : Stopped) (name : OpId) → RunsOn M s turns r t → r.reason ≡ reason.Operation name
      → Leads M boot (list ++ Mark (M.count t) ∷ []) (names ++ name ∷ []) view t
  gave_one _ name (AllTurns q) is = absurd cc
  gave_one _ name (IsRefused lt q) is = absurd cc
  gave_one _ name (Gives {n = n} {t = v} {given = o} lt q allowed made) is =
      let same : id_of o ≡ name = cc in
      subst (λ id. Leads M boot (list ++ Mark (M.count t) ∷ []) (names ++ id ∷ []) view t) same
      (gives M counts laws boot v list names view
      (quietly M counts laws boot s list names view n v q leads) t o made)

-- a guest that was refused for want of an input idles
fault_idles : (o : Option Fault) → fault_of o ≡ Idle → o ≡ Some Idle
fault_idles None is = absurd cc
fault_idles (Some f) is = ap Some is

pub idles_there : {S : Type 0} (M : Machine S) (s t : S) (turns : ℕ) (r : Stopped) → RunsOn M s turns r t
    → r.reason ≡ reason.Refused Idle → step_refusal M t ≡ Some Idle
idles_there M s t turns _ (AllTurns q) is = absurd cc
idles_there M s t turns _ (Gives lt q allowed made) is = absurd cc
idles_there M s t turns _ (IsRefused lt q) is =
    fault_idles (step_refusal M t) (let e : fault_of (step_refusal M t) ≡ Idle = cc in e)

-- a guest that was refused a step is out of memory, or refuses it itself
fault_is : (o : Option Fault) (fault : Fault) → fault_of o ≡ fault → (fault ≡ OutOfMemory) ⊎ (o ≡ Some fault)
fault_is None fault is = inl (sym is)
fault_is (Some f) fault is = inr (ap Some is)

pub refused_there : {S : Type 0} (M : Machine S) (s t : S) (turns : ℕ) (r : Stopped) (fault : Fault) → RunsOn M s turns r t
    → r.reason ≡ reason.Refused fault → (fault ≡ OutOfMemory) ⊎ (step_refusal M t ≡ Some fault)
refused_there M s t turns _ fault (AllTurns q) is = absurd cc
refused_there M s t turns _ fault (Gives lt q allowed made) is = absurd cc
refused_there M s t turns _ fault (IsRefused lt q) is =
    fault_is (step_refusal M t) fault (let e : fault_of (step_refusal M t) ≡ fault = cc in e)

-- ---- an entry of a list, by its index

pub at_index : (list known : List Entry) → list ≡ known → (i : ℕ) (e : Entry) → slice_get list i ≡ Some e
    → get_elem? known i ≡ some e
at_index list known same i e is = subst (λ l. get_elem? l i ≡ some e) same (there list i is)
  where
    there : (l : List Entry) (n : ℕ) → slice_get l n ≡ Some e → get_elem? l n ≡ some e
    there [] n at = absurd cc
    there (x ∷ l) zero at = ap some cc
    there (x ∷ l) (suc n) at = there l n at
