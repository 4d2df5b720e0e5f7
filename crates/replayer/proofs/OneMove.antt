-- What the first entry that is held allows. If it is at a later count, a step can be executed, and is refused only when
-- out of memory; it is never at an earlier one; if it is at the machine's count, its input, if it has one, is accepted,
-- and it is popped with that move. The input of a read is the sector with the bytes that have arrived.
use Rattle.std.proofs.Common.{◌≡◌, ℕ, ◌<◌, ◌≤◌, Bool, true, false, List, [], ◌∷◌, ◌++◌, Option, Some, None, refl, sym, ap, subst, ◌∙◌, arith, drop, slice_get, cond, is_none, is_some, length, eq-eqb, inl, inr, option_map}
use Rattle.std.specs.Prelude.{◌==◌}
use Rattle.std.proofs.lemmas.Bool.Decides.{leb_tells}
use Rattle.std.proofs.lemmas.Option.{same_Some}
use Rattle.event_callbacks.specs.declared.operations.Operation.{Operation}
use Rattle.guest_lockstep.specs.Lockstep.{step_refusal}
use Rattle.guest_lockstep.specs.Machine.{Machine}
use Rattle.guest_lockstep.specs.Recorded.{Counts, Accepts}
use Rattle.guest_lockstep.specs.declared.input.Input.{Input}
use Rattle.guest_lockstep.specs.declared.input.Input.TheVariants.{Sector}
use Rattle.guest_lockstep.specs.declared.replay_end.ReplayEnd.TheVariants.{End, Wait}
use Rattle.i8080_words.specs.declared.refusal.Fault.TheVariants.{Spent, Idle}
use Rattle.log_entry.specs.Entries.{count_of, entries, input_of, bare_of, read_of}
use Rattle.log_entry.specs.Standing.{owed, IsOnTrace, TakesFetched}
use Rattle.log_entry.specs.declared.entry.Entry.{Entry}
use Rattle.log_entry.specs.declared.entry.Entry.TheVariants as entry
use Rattle.log_channel.proofs.SentEntries.{first_and_rest}
use Rattle.replayer.specs.Checking.{Diverges, bytes_after}
use Rattle.replayer.specs.Replaying.{Moves, Steps, Passes, TakesInput, ReadsSector, Replays, input_with, read_at, wanted, wanted_of, stop_at}
use Rattle.replayer.specs.Standing.{StaysOn}
use Rattle.replayer.proofs.Fronts.{not_behind, NextDoes, next_does, NextTakes, next_takes, next_reads}
use Rattle.replayer.proofs.Standing.{stays_on}

-- moves by the entries that are held keep to the run
pub still_on : {S : Type 0} (M : Machine S) (s t : S) (held left : List Entry) (fetched still : Option (List ℕ)) (n : ℕ)
    → Counts M → IsOnTrace M s held fetched → Replays M s held fetched n t left still → IsOnTrace M t left still
still_on M s t held left fetched still n counts on moves =
    let x : StaysOn M on.reads s held on.owes on.moves on.last t left still =
    stays_on M on.reads s held fetched t on.last left still n on.owes on.moves counts moves on.stands in
    record { reads = on.reads; owes = x.owes_still; moves = x.rest; last = on.last; stands = x.stands }

-- the entries from the first that is held on
next_ones : {S : Type 0} (M : Machine S) (s : S) (held : List Entry) (fetched : Option (List ℕ)) (e : Entry)
    (on : IsOnTrace M s held fetched) → slice_get held 0 ≡ Some e
    → e ∷ (drop 1 held ++ on.stands.later) ≡ owed (M.count s) on.owes ++ entries on.reads (M.count s) on.moves
next_ones M s held fetched e on first =
    ap (λ (h : List Entry). h ++ on.stands.later) (sym (first_and_rest held e first)) ∙ on.stands.next_ones

-- ---- a step

-- a machine that executes a step is neither spent nor idle
step_allowed : {S : Type 0} (M : Machine S) (s t : S) (gives : Option Operation) → Counts M
    → M.step s ≡ Some (t, gives) → step_refusal M s ≡ None
step_allowed M s t gives counts made =
    elim (M.is_spent s) as
    (λ b. M.is_spent s ≡ b → cond b (Some Spent) (cond (is_none (M.step s)) (Some Idle) None) ≡ None) [
      | true ↦ λ spent. let none = counts.spent s spent in absurd cc
      | false ↦ λ spent. rw made refl
    ] refl

pub record MayStep {S : Type 0} (M : Machine S) (s : S) : Type 0 where
  pub t : S
  pub gives : Option Operation
  pub made : M.step s ≡ Some (t, gives)
  pub allowed : step_refusal M s ≡ None

pub may_step : {S : Type 0} (M : Machine S) (s : S) (held : List Entry) (fetched : Option (List ℕ)) (e : Entry)
    → Counts M → IsOnTrace M s held fetched → slice_get held 0 ≡ Some e → M.count s < count_of e → MayStep M s
may_step M s held fetched e counts on first later =
    let next : NextDoes M s on.last on.owes on.moves =
    next_does M on.reads s on.last e (drop 1 held ++ on.stands.later) on.owes on.moves on.stands.runs
    (next_ones M s held fetched e on first) later in
    record {
      t = next.t;
      gives = next.gives;
      made = next.made;
      allowed = step_allowed M s next.t next.gives counts next.made;
    }

-- ---- an entry

pub not_before : {S : Type 0} (M : Machine S) (s : S) (held : List Entry) (fetched : Option (List ℕ)) (e : Entry)
    → IsOnTrace M s held fetched → slice_get held 0 ≡ Some e → M.count s ≤ count_of e
not_before M s held fetched e on first =
    not_behind on.reads (M.count s) e (drop 1 held ++ on.stands.later) on.owes on.moves
    (next_ones M s held fetched e on first)

stands_at : {S : Type 0} (M : Machine S) (s : S) (held : List Entry) (fetched : Option (List ℕ)) (e : Entry)
    → IsOnTrace M s held fetched → slice_get held 0 ≡ Some e → (M.count s < count_of e → ⊥) → M.count s ≡ count_of e
stands_at M s held fetched e on first no_later = let le = not_before M s held fetched e on first in omega arith

-- the bytes that have come are for the first entry
first_takes : {S : Type 0} (M : Machine S) (s : S) (held : List Entry) (fetched : Option (List ℕ)) (e : Entry)
    (on : IsOnTrace M s held fetched) → slice_get held 0 ≡ Some e → TakesFetched fetched (e ∷ drop 1 held) on.moves
first_takes M s held fetched e on first =
    subst (λ h. TakesFetched fetched h on.moves) (first_and_rest held e first) on.stands.takes

pub record MayTake {S : Type 0} (M : Machine S) (s : S) (input : Input) : Type 0 where
  pub t : S
  pub accepts : Accepts M s input t

-- how an entry gives an input: it carries it, or it is a read whose bytes have come
data Gives (fetched : Option (List ℕ)) (e : Entry) (input : Input) : Type 0 where
  Carries : input_of e ≡ Some input → Gives fetched e input
  ReadsIt : {count drive sector number : ℕ} {bytes : List ℕ} → e ≡ entry.Read count drive sector number
      → fetched ≡ Some bytes → input ≡ Sector drive sector number bytes → Gives fetched e input

gives : (fetched : Option (List ℕ)) (e : Entry) (input : Input) → input_with fetched e ≡ Some input
    → Gives fetched e input
gives fetched (entry.Mark count) input has = absurd cc
gives fetched (entry.Rx count port byte) input has = Carries has
gives fetched (entry.Sent count port) input has = Carries has
gives fetched (entry.Sector count drive sector number bytes) input has = Carries has
gives fetched (entry.Written count number) input has = Carries has
gives None (entry.Read count drive sector number) input has = absurd cc
gives (Some bytes) (entry.Read count drive sector number) input has =
    ReadsIt refl refl (sym (same_Some (Sector drive sector number bytes) input has))

pub may_take : {S : Type 0} (M : Machine S) (s : S) (held : List Entry) (fetched : Option (List ℕ)) (e : Entry)
    (input : Input) → IsOnTrace M s held fetched → slice_get held 0 ≡ Some e → (M.count s < count_of e → ⊥)
    → input_with fetched e ≡ Some input → MayTake M s input
may_take M s held fetched e input on first no_later has = go (gives fetched e input has)
  where
    all : e ∷ (drop 1 held ++ on.stands.later) ≡ owed (M.count s) on.owes ++ entries on.reads (M.count s) on.moves
    all = next_ones M s held fetched e on first

    go : Gives fetched e input → MayTake M s input
    go (Carries carried) =
        let next : NextTakes M on.reads s on.last e (drop 1 held ++ on.stands.later) on.owes on.moves input =
        next_takes M on.reads s on.last e (drop 1 held ++ on.stands.later) on.owes on.moves input on.stands.runs all
        (stands_at M s held fetched e on first no_later) carried in
        record { t = next.t; accepts = next.accepts }
    go (ReadsIt {count = count} {drive = drive} {sector = sector} {number = number} {bytes = bytes} is come takes) =
        let read = entry.Read count drive sector number in
        let next : NextTakes M on.reads s on.last read (drop 1 held ++ on.stands.later) on.owes on.moves
        (Sector drive sector number bytes) =
        next_reads M on.reads s on.last count drive sector number (drop 1 held) on.stands.later on.owes on.moves bytes
        on.stands.runs (ap (λ e. e ∷ (drop 1 held ++ on.stands.later)) (sym is) ∙ all)
        (subst (λ f. TakesFetched f (read ∷ drop 1 held) on.moves) come
        (subst (λ e. TakesFetched fetched (e ∷ drop 1 held) on.moves) is
        (first_takes M s held fetched e on first))) in
        record { t = next.t; accepts = subst (λ i. Accepts M s i next.t) (sym takes) next.accepts }

-- an entry that carries its input is no read
no_read : (e : Entry) (input : Input) → input_of e ≡ Some input → is_some (read_of e) ≡ false
no_read (entry.Mark count) input has = refl
no_read (entry.Rx count port byte) input has = refl
no_read (entry.Sent count port) input has = refl
no_read (entry.Sector count drive sector number bytes) input has = refl
no_read (entry.Written count number) input has = refl
no_read (entry.Read count drive sector number) input has = absurd cc

-- an entry whose input is accepted is popped, and of bytes those of a read are no longer kept
pub takes : {S : Type 0} (M : Machine S) (s t : S) (held left : List Entry) (fetched still : Option (List ℕ))
    (e : Entry) (input : Input) → slice_get held 0 ≡ Some e → M.count s ≡ count_of e
    → input_with fetched e ≡ Some input → Accepts M s input t → left ≡ drop 1 held → still ≡ bytes_after fetched e
    → Moves M s held fetched t left still
takes {S} M s t held left fetched still e input first at has accepts popped kept =
    subst (λ still. Moves M s held fetched t left still) (sym kept)
    (subst (λ left. Moves M s held fetched t left (bytes_after fetched e)) (sym popped) (go (gives fetched e input has)))
  where
    go : Gives fetched e input → Moves M s held fetched t (drop 1 held) (bytes_after fetched e)
    go (Carries carried) =
        subst (λ b. Moves M s held fetched t (drop 1 held) (cond b None fetched)) (sym (no_read e input carried))
        (TakesInput (first_and_rest held e first) at carried accepts)
    go (ReadsIt is come takes) =
        subst (λ b. Moves M s held fetched t (drop 1 held) (cond b None fetched))
        (sym (ap (λ e. is_some (read_of e)) is))
        (ReadsSector (first_and_rest held e first ∙ ap (λ e. e ∷ drop 1 held) is) (at ∙ ap count_of is) come
        (subst (λ i. Accepts M s i t) takes accepts))

-- ---- a mark

-- it neither has no entry nor waits
pub ready_none : (empty : Bool) (read : Option (ℕ × ℕ × ℕ))
    → cond empty (Some End) (cond (is_none read) None (Some Wait)) ≡ None → read ≡ None
ready_none true read e = absurd cc
ready_none false None e = refl
ready_none false (Some read) e = absurd cc

-- so some entry is held
pub not_empty : {S : Type 0} (M : Machine S) (s : S) (held : List Entry) (fetched : Option (List ℕ))
    → stop_at M s held fetched ≡ None → held ≡ [] → ⊥
not_empty M s held fetched ready none =
    let no : Some End ≡ None = sym (ap (λ h. stop_at M s h fetched) none) ∙ ready in cc

not_waiting : {S : Type 0} (M : Machine S) (s : S) (held : List Entry) (fetched : Option (List ℕ)) (e : Entry)
    → slice_get held 0 ≡ Some e → M.count s ≡ count_of e → stop_at M s held fetched ≡ None
    → wanted_of fetched (read_of e) ≡ None
not_waiting M s held fetched e first at ready =
    let here : wanted M s held fetched ≡ wanted_of fetched (read_of e) =
    ap (λ o. wanted_of fetched (read_at (M.count s) o)) first
    ∙ ap (λ b. wanted_of fetched (cond b (read_of e) None)) (eq-eqb (M.count s) (count_of e) at) in
    sym here ∙ ready_none (length held == 0) (wanted M s held fetched) ready

-- an entry that gives no input and does not wait for bytes is a mark
no_input : (fetched : Option (List ℕ)) (e : Entry) → input_with fetched e ≡ None → wanted_of fetched (read_of e) ≡ None
    → bare_of e ≡ None
no_input fetched (entry.Mark count) none ready = refl
no_input fetched (entry.Rx count port byte) none ready = absurd cc
no_input fetched (entry.Sent count port) none ready = absurd cc
no_input fetched (entry.Sector count drive sector number bytes) none ready = absurd cc
no_input fetched (entry.Written count number) none ready = absurd cc
no_input None (entry.Read count drive sector number) none ready = absurd cc
no_input (Some bytes) (entry.Read count drive sector number) none ready = absurd cc

pub passes : {S : Type 0} (M : Machine S) (s : S) (held left : List Entry) (fetched : Option (List ℕ)) (e : Entry)
    → slice_get held 0 ≡ Some e → M.count s ≡ count_of e → input_with fetched e ≡ None
    → stop_at M s held fetched ≡ None → left ≡ drop 1 held → Moves M s held fetched s left fetched
passes M s held left fetched e first at none ready popped =
    subst (λ left. Moves M s held fetched s left fetched) (sym popped)
    (Passes (first_and_rest held e first) at (no_input fetched e none (not_waiting M s held fetched e first at ready)))

-- ---- entries that do not fit

same_front : (held es : List Entry) (e f : Entry) → held ≡ f ∷ es → slice_get held 0 ≡ Some e → f ≡ e
same_front held es e f are first =
    let both : Some f ≡ Some e = sym (ap (λ (h : List Entry). slice_get h 0) are) ∙ first in cc

carried_with : (fetched : Option (List ℕ)) (e : Entry) (input : Input) → input_of e ≡ Some input
    → input_with fetched e ≡ Some input
carried_with fetched (entry.Mark count) input has = absurd cc
carried_with fetched (entry.Rx count port byte) input has = has
carried_with fetched (entry.Sent count port) input has = has
carried_with fetched (entry.Sector count drive sector number bytes) input has = has
carried_with fetched (entry.Written count number) input has = has
carried_with fetched (entry.Read count drive sector number) input has = absurd cc

mark_has_none : (fetched : Option (List ℕ)) (e : Entry) → bare_of e ≡ None → input_with fetched e ≡ None
mark_has_none fetched (entry.Mark count) bare = refl
mark_has_none fetched (entry.Rx count port byte) bare = absurd cc
mark_has_none fetched (entry.Sent count port) bare = absurd cc
mark_has_none fetched (entry.Sector count drive sector number bytes) bare = absurd cc
mark_has_none fetched (entry.Written count number) bare = absurd cc
mark_has_none fetched (entry.Read count drive sector number) bare = absurd cc

-- the first entry allows neither a step nor a move at its count
diverges_at : {S : Type 0} (M : Machine S) (s : S) (held : List Entry) (fetched : Option (List ℕ)) (e : Entry)
    → stop_at M s held fetched ≡ None → slice_get held 0 ≡ Some e
    → (M.count s < count_of e → (t : S) (gives : Option Operation) → M.step s ≡ Some (t, gives) → ⊥)
    → (M.count s ≡ count_of e → (bare_of e ≡ None → ⊥)
    × ((input : Input) (t : S) → input_with fetched e ≡ Some input → Accepts M s input t → ⊥))
    → Diverges M s held fetched
diverges_at {S} M s held fetched e ready first no_step no_entry = record { ready = ready; no_move = none }
  where
    none : (t : S) (left : List Entry) (still : Option (List ℕ)) → Moves M s held fetched t left still → ⊥
    none t left still (Steps {gives = gives} {e = f} {es = es} are later made) =
        let same : f ≡ e = same_front held es e f are first in
        no_step (subst (λ f. M.count s < count_of f) same later) t gives made
    none t left still (Passes {e = f} {es = es} are here bare) =
        let same : f ≡ e = same_front held es e f are first in
        (no_entry (here ∙ ap count_of same)).0 (ap bare_of (sym same) ∙ bare)
    none t left still (TakesInput {e = f} {es = es} {input = input} are here has accepts) =
        let same : f ≡ e = same_front held es e f are first in
        (no_entry (here ∙ ap count_of same)).1 input t
        (carried_with fetched e input (ap input_of (sym same) ∙ has)) accepts
    none t left still (ReadsSector {count = count} {drive = drive} {sector = sector} {number = number} {bytes = bytes} {es = es} are here come accepts) =
        let read = entry.Read count drive sector number in
        let same : read ≡ e = same_front held es e read are first in
        (no_entry (here ∙ ap count_of same)).1 (Sector drive sector number bytes) t
        (ap (input_with fetched) (sym same) ∙ ap (λ f. option_map (Sector drive sector number) f) come) accepts

-- its count is past
pub is_past : {S : Type 0} (M : Machine S) (s : S) (held : List Entry) (fetched : Option (List ℕ)) (e : Entry)
    → stop_at M s held fetched ≡ None → slice_get held 0 ≡ Some e → count_of e < M.count s → Diverges M s held fetched
is_past M s held fetched e ready first past =
    diverges_at M s held fetched e ready first (λ later t gives made. absurd (omega arith)) (λ at. absurd (omega arith))

-- the machine makes no step toward it
pub no_step_toward : {S : Type 0} (M : Machine S) (s : S) (held : List Entry) (fetched : Option (List ℕ)) (e : Entry)
    → stop_at M s held fetched ≡ None → slice_get held 0 ≡ Some e → M.count s < count_of e → M.step s ≡ None
    → Diverges M s held fetched
no_step_toward {S} M s held fetched e ready first later no_step =
    diverges_at M s held fetched e ready first none (λ at. absurd (omega arith))
  where
    none : M.count s < count_of e → (t : S) (gives : Option Operation) → M.step s ≡ Some (t, gives) → ⊥
    none l t gives made = let no : None ≡ Some (t, gives) = sym no_step ∙ made in cc

-- its input is not accepted
pub not_accepted : {S : Type 0} (M : Machine S) (s : S) (held : List Entry) (fetched : Option (List ℕ)) (e : Entry)
    (input : Input) → stop_at M s held fetched ≡ None → slice_get held 0 ≡ Some e → M.count s ≡ count_of e
    → input_with fetched e ≡ Some input → ((t : S) → Accepts M s input t → ⊥) → Diverges M s held fetched
not_accepted {S} M s held fetched e input ready first at has refused =
    diverges_at M s held fetched e ready first (λ later t gives made. absurd (omega arith)) (λ here. (
      λ bare. let no : None ≡ Some input = sym (mark_has_none fetched e bare) ∙ has in cc,
      λ other t gives accepts. refused t
          (subst (λ i. Accepts M s i t) (same_Some other input (sym gives ∙ has)) accepts),
    ))

-- the entries of a recorded run fit
pub runs_do_not_diverge : {S : Type 0} (M : Machine S) (s : S) (held : List Entry) (fetched : Option (List ℕ)) → Counts M
    → IsOnTrace M s held fetched → Diverges M s held fetched → ⊥
runs_do_not_diverge M s [] fetched counts on stuck = not_empty M s [] fetched stuck.ready refl
runs_do_not_diverge {S} M s (e ∷ es) fetched counts on stuck = elim (leb_tells (count_of e) (M.count s)) [
  | inl p ↦ at_it (let le = p.1 in let before = not_before M s (e ∷ es) fetched e on refl in omega arith)
  | inr p ↦
      let may : MayStep M s = may_step M s (e ∷ es) fetched e counts on refl p.1 in
      stuck.no_move may.t (e ∷ es) fetched (Steps refl p.1 may.made)
]
  where
    at_it : M.count s ≡ count_of e → ⊥
    at_it at = go (input_with fetched e) refl
      where
        go : (o : Option Input) → input_with fetched e ≡ o → ⊥
        go None none =
            stuck.no_move s es fetched (passes M s (e ∷ es) es fetched e refl at none stuck.ready refl)
        go (Some input) has =
            let may : MayTake M s input =
            may_take M s (e ∷ es) fetched e input on refl (λ later. omega arith) has in
            stuck.no_move may.t es (bytes_after fetched e)
            (takes M s may.t (e ∷ es) es fetched (bytes_after fetched e) e input refl at has may.accepts refl refl)
