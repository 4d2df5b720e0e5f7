-- Steps of a primary. Quiet steps leave its log, its notes and its operations as they were; a last step that gives an
-- operation pushes its mark and notes it.
use Rattle.std.proofs.Common.{◌≡◌, ℕ, ◌<◌, ◌≤◌, Option, Some, None, Ok, Err, [], ◌∷◌, length, drop, length-append, refl, sym, ap, subst, ◌∙◌, arith}
use Rattle.std.proofs.lemmas.List.{append-nil, drop-append-le}
use Rattle.std.proofs.lemmas.List.Elements.{All-push}
use Rattle.i8080_words.specs.declared.limits.TheConstants.{GREATEST_NUMBER}
use Rattle.ft_node.proofs.Words.{AdvancesUnless, ComesAndGoes, Covering, Fault, IsEntry, IsPrimary, Log, Machine, Node, Operation, Reads, Sending, Stopped, Unless, advance_refusal, buffered, id_of, log, logged, next_of, noted, primary_steps, pushed, reads_in, stepped}
use Rattle.log_entry.specs.declared.entry.Entry.TheVariants.{Mark}
use Rattle.pair_protocol.specs.Refusals as refusals
use Rattle.guest_lockstep.specs.declared.running.StopReason.{StopReason}
use Rattle.log_buffer.specs.Logs.{Logging}
use Rattle.ft_node.specs.Calls as calls
use Rattle.ft_node.specs.declared.ran.Ran.{Ran}
use Rattle.ft_node.proofs.PrimaryInputs.{next_behind, same_primary}
use Rattle.ft_node.proofs.PrimaryNotes.{Covers-kept, Covers-noted, keeps_all, noted_after}
use Rattle.ft_node.proofs.PrimaryPlaces.{made_some}
use Rattle.ft_node.proofs.PrimaryRefusals.{Keeps, steps_refused}
use Rattle.ft_node.proofs.ServingSteps.{steps_to}

-- ---- one step

quiet_primary : {S : Type 0} {K : Option S → Type 0} {reads : Reads} (M : Machine S) (s t : S) (l : Log) (sd : Sending) (c : Covering) (x : Node S)
    → ComesAndGoes M → IsPrimary M K reads s l sd c x → M.step s ≡ Some (t, None)
    → IsPrimary M K reads t l sd c (stepped M x x.role t None)
quiet_primary {S} {K} {reads} M s t l sd c x laws p made =
    subst (λ r. IsPrimary M K reads t l sd c (stepped M x r t None)) (sym p.role)
    (record {
      role = p.role;
      up = p.up;
      generation = p.generation;
      reads_are = p.reads_are;
      machine = refl;
      kept = p.kept ∙ ap (λ es. log x.covered (drop x.covered es)) (sym (append-nil x.log));
      within = subst (λ es. x.covered ≤ length es) (sym (append-nil x.log)) p.within;
      entries = p.entries;
      acknowledged = p.acknowledged;
      told = p.told;
      covers =
          Covers-kept M x c t c.notes c.last_read x.list [] p.covers p.within
          (keeps_all M x.machine t c.notes (laws.quiet x.machine t (ap M.step p.machine ∙ made)))
          (p.covers.last_read ∙ ap reads_in (sym (append-nil x.log)));
      image = p.image;
    })

giving_primary : {S : Type 0} {K : Option S → Type 0} {reads : Reads} (M : Machine S) (s t : S) (l : Log) (sd : Sending) (c : Covering) (x : Node S)
    (given : Operation) → ComesAndGoes M → IsPrimary M K reads s l sd c x → M.step s ≡ Some (t, Some given)
    → IsEntry (Mark (M.count t))
    → IsPrimary M K reads t (pushed l (Mark (M.count t))) sd (noted_after c (id_of given) (next_of l))
    (stepped M x x.role t (Some given))
giving_primary {S} {K} {reads} M s t l sd c x given laws p made valid =
    subst
    (λ r. IsPrimary M K reads t (pushed l (Mark (M.count t))) sd (noted_after c (id_of given) (next_of l))
    (stepped M x r t (Some given)))
    (sym p.role)
    (subst
    (λ n. IsPrimary M K reads t (pushed l (Mark (M.count t))) sd (noted_after c (id_of given) n)
    (primary_steps M x t (Some given)))
    (next_behind M s l sd c x p)
    (record {
      role = p.role;
      up = p.up;
      generation = p.generation;
      reads_are = p.reads_are;
      machine = refl;
      kept =
          ap (λ l. pushed l (Mark (M.count t))) p.kept
          ∙ ap (log x.covered) (sym (drop-append-le x.covered x.log (Mark (M.count t) ∷ []) p.within));
      within =
          let longer = length-append x.log (Mark (M.count t) ∷ []) in
          let within = p.within in
          omega arith;
      entries = All-push IsEntry l.entries (Mark (M.count t)) p.entries valid;
      acknowledged = p.acknowledged;
      told = p.told;
      covers = Covers-noted M x c t given laws (ap M.step p.machine ∙ made) p.covers p.within;
      image = p.image;
    }))

-- ---- what a call answers

-- what a primary is after a run, if the mark of an operation that the run gave can be spelled
abbrev After : {S : Type 0} → (Option S → Type 0) → Reads → Machine S → Log → Sending → Covering → StopReason → S → Node S → Type 0
After K reads M l sd c why t y = IsEntry (Mark (M.count t)) → IsPrimary M K reads t (logged buffered l (M.count t) why) sd (noted c why (next_of l)) y

-- some steps were made, or none were asked for
pub steps_made : {S : Type 0} {K : Option S → Type 0} {reads : Reads} (M : Machine S) (s t : S) (l new : Log) (sd : Sending) (c later : Covering) (x : Node S)
    (turns count : ℕ) (a : Stopped) → ComesAndGoes M → IsPrimary M K reads s l sd c x → Keeps x l
    → AdvancesUnless M buffered s l turns (advance_refusal M buffered s l turns) (Ok a) t new → count ≡ M.count t
    → count ≤ GREATEST_NUMBER → later ≡ noted c a.reason (next_of l)
    → calls.Steps M turns x (Ok (record { steps = a.steps; count = count; why = a.reason })) (IsPrimary M K reads t new sd later)
steps_made {S} {K} {reads} M s t l new sd c later x turns count a laws p k made count_is within after =
    let ran : Ran = record { steps = a.steps; count = count; why = a.reason } in
    let some = made_some M buffered s t l new turns a (advance_refusal M buffered s l turns) made in
    let valid : IsEntry (Mark (M.count t)) = omega arith in
    let to = steps_to M (λ s x. IsPrimary M K reads s l sd c x) (After K reads M l sd c) (λ s x p. p.machine)
    (λ s t x p moved. quiet_primary M s t l sd c x laws p moved)
    (λ s t x o p moved valid. giving_primary M s t l sd c x o laws p moved valid)
    (λ s x p valid. p) (λ s x fault p valid. p) s t x turns a p some.1.0.runs in
    let primary = to.after valid in
    let is : refusals.step_refusal M turns x ≡ None =
    steps_refused M x l turns k ∙ ap (λ s. advance_refusal M buffered s l turns) p.machine ∙ some.0 in
    subst
    (λ r. Unless r (Ok ran) (IsPrimary M K reads t new sd later x)
    (calls.Makes x (calls.SteppedBy M turns ran) (IsPrimary M K reads t new sd later)))
    (sym is)
    (record {
      y = to.y;
      done = record {
        advances = to.advances;
        some = some.1.1;
        counted = count_is ∙ ap M.count (sym primary.machine);
      };
      after =
          subst (λ c. IsPrimary M K reads t new sd c to.y) (sym after)
          (subst (λ kept. IsPrimary M K reads t kept sd (noted c a.reason (next_of l)) to.y) (sym some.1.0.log_is) primary);
    })

pub not_made : {S L : Type 0} (M : Machine S) (K : Logging L) (s t : S) (l new : L) (turns : ℕ) (fault : Fault) (r : Option Fault)
    (stays : Type 0) (does : Ran → Type 0) → AdvancesUnless M K s l turns r (Err fault) t new
    → ((t ≡ s) → (new ≡ l) → stays)
    → Unless {A = Ran} r (Err fault) stays (calls.Gives {A = Ran} (Err fault) ((0 < turns) × stays) does)
not_made M K s t l new turns fault None stays does made same = (made.0, (made.1, same made.2 made.3))
not_made M K s t l new turns fault (Some first) stays does made same =
    let answer = made.0 in
    let is : fault ≡ first = cc in
    (ap (λ f. Err f) is, same made.1 made.2)

-- none was made
pub steps_not_made : {S : Type 0} {K : Option S → Type 0} {reads : Reads} (M : Machine S) (s t : S) (l new : Log) (sd : Sending) (c : Covering) (x : Node S)
    (turns : ℕ) (fault : Fault) → IsPrimary M K reads s l sd c x → Keeps x l
    → AdvancesUnless M buffered s l turns (advance_refusal M buffered s l turns) (Err fault) t new
    → calls.Steps M turns x (Err fault) (IsPrimary M K reads t new sd c)
steps_not_made {S} {K} {reads} M s t l new sd c x turns fault p k made =
    subst
    (λ r. Unless {A = Ran} r (Err fault) (IsPrimary M K reads t new sd c x)
    (calls.Gives {A = Ran} (Err fault) ((0 < turns) × IsPrimary M K reads t new sd c x)
    (λ ran. calls.Makes x (calls.SteppedBy M turns ran) (IsPrimary M K reads t new sd c))))
    (sym (steps_refused M x l turns k ∙ ap (λ s. advance_refusal M buffered s l turns) p.machine))
    (not_made M buffered s t l new turns fault (advance_refusal M buffered s l turns) (IsPrimary M K reads t new sd c x)
    (λ ran. calls.Makes x (calls.SteppedBy M turns ran) (IsPrimary M K reads t new sd c)) made
    (λ same logged. same_primary M s t l new sd c x same logged p))
