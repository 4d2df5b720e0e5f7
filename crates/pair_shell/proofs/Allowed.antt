-- No rule refuses the events by which a node goes live, and completes what is outstanding.
use Rattle.std.proofs.Common.{◌≡◌, ℕ, ◌≤◌, ◌<◌, ◌+◌, inl, inr, true, false, cond, not, Option, Some, None, is_none, [], ◌∷◌, length, refl, sym, ap, ◌∙◌, arith, eqb-true, eq-eqb}
use Rattle.std.specs.Option.{option_and_then}
use Rattle.std.specs.Prelude.{slice_get, ◌==◌, ◌||◌, is_some, nat_le, nat_lt}
use Rattle.event_callbacks.specs.declared.operations.OpId.{OpId}
use Rattle.event_callbacks.specs.declared.operations.OpId.TheVariants as id
use Rattle.event_callbacks.specs.declared.operations.Operation.{Operation}
use Rattle.guest_lockstep.specs.Machine.{Machine, refusal_of}
use Rattle.guest_lockstep.specs.Reach.{acceptances, inputs}
use Rattle.guest_lockstep.specs.declared.input.Input.TheVariants as input
use Rattle.i8080_words.specs.declared.refusal.Fault.TheVariants.{Lost, NotDue, NotWhole, Unknown, WrongNumber, WrongRole}
use Rattle.pair_events.specs.declared.event.Event.TheVariants.{Drain, Fetch, Release, Suspect, TellSent}
use Rattle.pair_protocol.specs.Change.{Reached}
use Rattle.pair_protocol.specs.Copying.{Copying, IsCopying}
use Rattle.pair_protocol.specs.Lawful.{Lawful}
use Rattle.pair_protocol.specs.Node.{Node, Role, Primary, Backup, Joining, Draining, Alone, Spare, is_role}
use Rattle.pair_protocol.specs.Refusals.{ask_refusal, at_node, drain_refusal, fault_if, fetch_refusal, is_number, is_other, log_full, log_spent, no_such, not_accepted, refusal, release_refusal, serves, suspect_refusal, tell_sent_refusal}
use Rattle.pair_protocol.specs.World.{World, accepted, winner_in}
use Rattle.pair_protocol.proofs.Keeps.Alone.{AloneAt, alone}
use Rattle.pair_protocol.proofs.Promises.Faithful.{reached}
use Rattle.pair_protocol.proofs.Traces.Lists.{bool_cases}
use Rattle.pair_progress.specs.Completion.{Responds}
use Rattle.pair_progress.specs.Takeover.{IsLive}
use Rattle.pair_progress.proofs.Completing.{live_not_full, live_not_spent, live_real, live_releases, live_serves, not_less, not_up_to}
use Rattle.pair_progress.proofs.Passing.{acts_first, at_here, in_role, not_if, not_spare, passed}
use Rattle.pair_progress.proofs.TwoTerminals.{two_terminals}
use Rattle.ft_node.specs.Guests.{machine_in, shown_machine}
use Rattle.ft_world.specs.Guests.{machine_at}
use Rattle.pair_shell.specs.Allowed.{IsStage, going_on}
use Rattle.pair_shell.specs.First.{IsDueOrOut}
use Rattle.pair_shell.specs.Serves.{Acts, ActsAndMayServe}
use Rattle.pair_shell.specs.declared.completing.OperationStage.{OperationStage}
use Rattle.pair_shell.specs.declared.completing.OperationStage.TheVariants as stage

pub not_zero : (k : ℕ) → 1 ≤ k → (k == 0) ≡ false
not_zero k le = elim (bool_cases (k == 0)) [
  | inl t ↦ absurd (let e = eqb-true k 0 t in omega (arith, e, le))
  | inr f ↦ f
]

none_is : {A : Type 0} (o : Option A) → true ≡ is_none o → o ≡ None
none_is None is = refl
none_is (Some x) is = absurd (cc)

some_is : {A : Type 0} (o : Option A) → is_some o ≡ true → (x : A) × (o ≡ Some x)
some_is None is = absurd (cc)
some_is (Some x) is = (x, refl)

module _ {S : Type 0} (M : Machine S) (C : Copying S) (w : World S) where
  -- a whole node asks the arbiter
  asks : (n : ℕ) (x : Node S) → slice_get w.nodes n ≡ Some x → x.running ≡ true → is_role x.role Spare ≡ false →
      is_role x.role Joining ≡ false → winner_in w.winners x.generation ≡ None → refusal M C w (Suspect n) ≡ None
  asks n x there up real whole none =
      at_here (slice_get w.nodes n) x (ask_refusal w n) there real
      (passed (suspect_refusal x) (fault_if (is_other (winner_in w.winners x.generation) n) Lost ∷ [])
      (passed (fault_if (not x.running) WrongRole) (fault_if (is_role x.role Joining) NotWhole ∷ [])
      (ap (λ b. fault_if (not b) WrongRole) up)
      (passed (fault_if (is_role x.role Joining) NotWhole) [] (ap (λ b. fault_if b NotWhole) whole) refl))
      (passed (fault_if (is_other (winner_in w.winners x.generation) n) Lost) []
      (ap (λ o. fault_if (is_other o n) Lost) none) refl))

  -- of a generation that nobody has won
  unwon : (n generation : ℕ) (role : Role) (a : ActsAndMayServe w n role generation) → (role ≡ Draining → ⊥) →
      (role ≡ Alone → ⊥) → winner_in w.winners a.acts.x.generation ≡ None
  unwon n generation role a not_draining not_alone = elim a.may_serve.who [
    | inl p ↦ p.1
    | inr (inl d) ↦ absurd (not_draining (sym a.acts.role_is ∙ d))
    | inr (inr d) ↦ absurd (not_alone (sym a.acts.role_is ∙ d))
  ]

  pub primary_asks : (n generation : ℕ) → ActsAndMayServe w n Primary generation → refusal M C w (Suspect n) ≡ None
  primary_asks n generation a =
      asks n a.acts.x a.acts.there a.acts.up (ap (λ q. is_role q Spare) a.acts.role_is)
      (ap (λ q. is_role q Joining) a.acts.role_is)
      (unwon n generation Primary a (λ e. let no : Primary ≡ Draining = e in (cc)) (λ e. let no : Primary ≡ Alone = e in (cc)))

  pub backup_asks : (n generation : ℕ) → ActsAndMayServe w n Backup generation → refusal M C w (Suspect n) ≡ None
  backup_asks n generation a =
      asks n a.acts.x a.acts.there a.acts.up (ap (λ q. is_role q Spare) a.acts.role_is)
      (ap (λ q. is_role q Joining) a.acts.role_is)
      (unwon n generation Backup a (λ e. let no : Backup ≡ Draining = e in (cc)) (λ e. let no : Backup ≡ Alone = e in (cc)))

  -- a winner drains, or asks the disk
  pub drains : (n turns generation : ℕ) → Acts w n Draining generation → refusal M C w (Drain n turns) ≡ None
  drains n turns generation a =
      at_here (slice_get w.nodes n) a.x drain_refusal a.there (not_spare a.x.role Draining a.role_is refl)
      (in_role a.x (Draining ∷ []) (acts_first a.x Draining [] a.up a.role_is refl))

  pub fetches : (n : ℕ) → true ≡ is_none (at_node (slice_get w.nodes n) (fetch_refusal M)) → refusal M C w (Fetch n) ≡ None
  fetches n is = none_is (at_node (slice_get w.nodes n) (fetch_refusal M)) is

-- ---- a live node

-- it shows its machine
pub live_machine : {S : Type 0} (w : World S) (n generation : ℕ) (s : S) (live : IsLive w n generation) →
    Some s ≡ machine_at w.nodes n → s ≡ live.x.machine
live_machine w n generation s live is =
    let at : machine_at w.nodes n ≡ shown_machine live.x = ap (λ o. option_and_then (λ y. shown_machine y) o) live.there in
    let up : shown_machine live.x ≡ machine_in live.x.role live.x.machine =
    ap (λ b. cond b (machine_in live.x.role live.x.machine) None) live.up in
    let alone : machine_in live.x.role live.x.machine ≡ Some live.x.machine =
    ap (λ q. machine_in q live.x.machine) live.alone in
    let both : Some s ≡ Some live.x.machine = is ∙ at ∙ up ∙ alone in
    (cc)

module _ {S : Type 0} (M : Machine S) (C : Copying S) (laws : Lawful M) (copies : IsCopying M C) (responds : Responds M)
    (w : World S) (r : Reached M C w) (n generation : ℕ) (live : IsLive w n generation) where
  at : AloneAt M C w (reached M C laws copies w r) live.x
  at = alone M C w (reached M C laws copies w r) n live.x
      (record { there = live.there; up = live.up; role_is = live.alone })

  real : is_role live.x.role Spare ≡ false
  real = live_real M live.x live.up live.alone

  -- it releases what is outstanding
  releases : (name : OpId) (o : Operation) → M.find live.x.machine name ≡ Some o → no_such w name ≡ None →
      refusal M C w (Release n name) ≡ None
  releases name o found such =
      passed (no_such w name) (at_node (slice_get w.nodes n) (release_refusal M name) ∷ []) such
      (passed (at_node (slice_get w.nodes n) (release_refusal M name)) []
      (at_here (slice_get w.nodes n) live.x (release_refusal M name) live.there real
      (live_releases M live.x live.up live.alone name o found)) refl)

  -- it is told of the byte that is due
  told : (port k : ℕ) → M.due_byte live.x.machine port ≡ Some k → tell_sent_refusal M port k live.x ≡ None
  told port k due =
      passed (serves live.x) _ (live_serves M live.x live.up live.alone)
      (passed (refusal_of M live.x.machine (input.Sent port)) _ (ap (λ o. cond (is_none o) (Some NotDue) None) due)
      (passed (fault_if (not (is_number (M.due_byte live.x.machine port) k)) WrongNumber) _
      (ap (λ o. fault_if (not (is_number o k)) WrongNumber) due
      ∙ ap (λ b. fault_if (not b) WrongNumber) (eq-eqb k k refl))
      (passed (log_full live.x) _ (live_not_full M live.x live.up live.alone)
      (passed (log_spent live.x) [] (live_not_spent M live.x live.up live.alone) refl))))

  tells : (port k : ℕ) → M.due_byte live.x.machine port ≡ Some k → k ≤ length (accepted w port) →
      refusal M C w (TellSent n port k) ≡ None
  tells port k due le =
      let next : k ≡ acceptances port (inputs 0 (reached M C laws copies w r).trace) + 1 =
      laws.due (reached M C laws copies w r).trace live.x.machine port k at.runs due in
      passed (not_accepted w port k) (at_node (slice_get w.nodes n) (tell_sent_refusal M port k) ∷ [])
      (not_if (k == 0 || nat_lt (length (accepted w port)) k) Unknown
      (ap (λ b. b || nat_lt (length (accepted w port)) k) (not_zero k (omega (arith, next)))
      ∙ not_less (length (accepted w port)) k le))
      (passed (at_node (slice_get w.nodes n) (tell_sent_refusal M port k)) []
      (at_here (slice_get w.nodes n) live.x (tell_sent_refusal M port k) live.there real (told port k due)) refl)

  there_is : (port : ℕ) → port < 2 → nat_le (length w.terminals) port ≡ false
  there_is port lt = let t = two_terminals M C w r in not_up_to (length w.terminals) port (omega (arith, t, lt))

  byte_goes : (port number : ℕ) → IsDueOrOut M live.x.machine (id.Byte port number) →
      refusal M C w (Release n (id.Byte port number)) ≡ None
  byte_goes port number due =
      let b = responds.found (reached M C laws copies w r).trace live.x.machine port number at.runs due.1 in
      releases (id.Byte port number) b.0 b.1 (not_if (nat_le (length w.terminals) port) Unknown (there_is port due.0))

  write_goes : (number : ℕ) → IsDueOrOut M live.x.machine (id.Write number) → refusal M C w (Release n (id.Write number)) ≡ None
  write_goes number out =
      let f = some_is (M.find live.x.machine (id.Write number)) out in releases (id.Write number) f.0 f.1 refl

  -- the operation that is completed first goes on
  pub goes : (name : OpId) (s : OperationStage) → IsDueOrOut M live.x.machine name → IsStage M w n name s →
      refusal M C w (going_on n name s) ≡ None
  goes (id.Byte port number) stage.Held due is = byte_goes port number due
  goes (id.Byte port number) stage.Covered due is = byte_goes port number due
  goes (id.Byte port number) stage.Accepted due is = tells port number due.1 is
  goes (id.Write number) stage.Held out is = write_goes number out
  goes (id.Write number) stage.Covered out is = write_goes number out
  goes (id.Write number) stage.Accepted out is = absurd is
