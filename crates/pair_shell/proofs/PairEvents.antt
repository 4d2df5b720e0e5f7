-- No rule refuses the events by which a pair logs, repeats and completes, nor a part of an image that is sent.
use Rattle.std.proofs.Common.{◌≡◌, ℕ, ◌+◌, ◌-◌, ◌<◌, ◌≤◌, inl, inr, cond, not, Some, None, is_none, [], ◌∷◌, ◌++◌, length, refl, sym, ap, ◌∙◌, arith, eq-eqb}
use Rattle.std.specs.Option.{option_and_then}
use Rattle.std.specs.Prelude.{slice_get, unwrap_or, ◌==◌, ◌&&◌, ◌||◌, nat_le, nat_lt}
use Rattle.std.proofs.lemmas.Option.{slice_get_cases}
use Rattle.event_callbacks.specs.declared.operations.OpId.{OpId}
use Rattle.event_callbacks.specs.declared.operations.OpId.TheVariants as id
use Rattle.guest_lockstep.specs.Machine.{Machine, refusal_of}
use Rattle.guest_lockstep.specs.Reach.{acceptances, inputs}
use Rattle.guest_lockstep.specs.declared.input.Input.TheVariants as input
use Rattle.i8080_words.specs.declared.refusal.Fault.TheVariants.{LogFull, NotDue, Spent, Unknown, WrongNumber}
use Rattle.pair_events.specs.declared.event.Event.{Event}
use Rattle.pair_events.specs.declared.event.Event.TheVariants.{Send, Acknowledge, Replay, Release, TellSent, SendPart}
use Rattle.pair_protocol.specs.Change.{Reached}
use Rattle.pair_protocol.specs.Copying.{Copying, IsCopying}
use Rattle.pair_protocol.specs.Lawful.{Lawful, top}
use Rattle.pair_protocol.specs.Node.{Node, Primary, Backup, Alone, acts_as, is_role}
use Rattle.pair_protocol.specs.Refusals.{acknowledge_refusal, at_node, fault_if, has_part, is_number, log_full, log_size, log_spent, no_such, not_accepted, refusal, release_refusal, replay_refusal, send_part_refusal, serves, tell_sent_refusal}
use Rattle.pair_protocol.specs.World.{World, accepted}
use Rattle.pair_protocol.proofs.Invariant.{Inv}
use Rattle.pair_protocol.proofs.Invariant.Acting.{ActingPrimary, acting_primary, line_at}
use Rattle.pair_protocol.proofs.Keeps.Primary.{primary-runs}
use Rattle.pair_protocol.proofs.Promises.Faithful.{reached}
use Rattle.pair_progress.specs.CatchingUp.{IsPair}
use Rattle.pair_progress.specs.Completion.{Responds}
use Rattle.pair_progress.proofs.CatchingUp.{may_send}
use Rattle.pair_progress.proofs.Completing.{not_less, not_up_to}
use Rattle.pair_progress.proofs.Fetching.{some_of}
use Rattle.pair_progress.proofs.Imaged.{imaged}
use Rattle.pair_progress.proofs.Passing.{acts_first, at_here, in_role, not_if, not_spare, passed}
use Rattle.pair_progress.proofs.TwoTerminals.{two_terminals}
use Rattle.ft_node.specs.Guests.{machine_in, shown_machine}
use Rattle.ft_node.specs.Standings.{followed_by, logged_by, shown_standing, standing_in}
use Rattle.ft_node.specs.declared.ran.Standing.{Standing}
use Rattle.ft_world.specs.Guests.{machine_at}
use Rattle.pair_shell.specs.Allowed.{HasIndexes, IsPartOf, IsStage, going_on}
use Rattle.pair_shell.specs.First.{IsDueOrOut}
use Rattle.pair_shell.specs.Serves.{IsJoined}
use Rattle.pair_shell.specs.Shown.{shown_at}
use Rattle.pair_shell.specs.declared.completing.OperationStage.{OperationStage}
use Rattle.pair_shell.specs.declared.completing.OperationStage.TheVariants as stage
use Rattle.pair_shell.proofs.Allowed.{not_zero}

abbrev nothing_shown : Standing
nothing_shown = record { entries = 0; done = 0 }

module _ {S : Type 0} (M : Machine S) (C : Copying S) (w : World S) (n m generation : ℕ) (p : IsPair w n m generation) where
  -- what its nodes show
  pub primary_shows : shown_at w.nodes n ≡ logged_by p.x
  primary_shows =
      ap (λ o. unwrap_or (option_and_then (λ (y : Node S). shown_standing y) o) nothing_shown) p.primary
      ∙ ap (λ b. unwrap_or (cond b (standing_in p.x.role p.x) None) nothing_shown) p.primary_up
      ∙ ap (λ q. unwrap_or (standing_in q p.x) nothing_shown) p.primary_role

  pub backup_shows : shown_at w.nodes m ≡ followed_by p.y
  backup_shows =
      ap (λ o. unwrap_or (option_and_then (λ (y : Node S). shown_standing y) o) nothing_shown) p.backup
      ∙ ap (λ b. unwrap_or (cond b (standing_in p.y.role p.y) None) nothing_shown) p.backup_up
      ∙ ap (λ q. unwrap_or (standing_in q p.y) nothing_shown) p.backup_role

  pub primary_machine : (s : S) → Some s ≡ machine_at w.nodes n → s ≡ p.x.machine
  primary_machine s is =
      let at : machine_at w.nodes n ≡ shown_machine p.x = ap (λ o. option_and_then (λ y. shown_machine y) o) p.primary in
      let up : shown_machine p.x ≡ machine_in p.x.role p.x.machine =
      ap (λ b. cond b (machine_in p.x.role p.x.machine) None) p.primary_up in
      let leads : machine_in p.x.role p.x.machine ≡ Some p.x.machine =
      ap (λ q. machine_in q p.x.machine) p.primary_role in
      let both : Some s ≡ Some p.x.machine = is ∙ at ∙ up ∙ leads in
      (cc)

  -- the backup acknowledges and repeats
  pub backup_acknowledges : refusal M C w (Acknowledge m) ≡ None
  backup_acknowledges =
      at_here (slice_get w.nodes m) p.y acknowledge_refusal p.backup (not_spare p.y.role Backup p.backup_role refl)
      (in_role p.y (Backup ∷ []) (acts_first p.y Backup [] p.backup_up p.backup_role refl))

  pub backup_replays : (turns : ℕ) → refusal M C w (Replay m turns) ≡ None
  backup_replays turns =
      at_here (slice_get w.nodes m) p.y replay_refusal p.backup (not_spare p.y.role Backup p.backup_role refl)
      (in_role p.y (Backup ∷ []) (acts_first p.y Backup [] p.backup_up p.backup_role refl))

-- an entry that the backup lacks is sent
pub entry_goes : {S : Type 0} (M : Machine S) (C : Copying S) → Lawful M → IsCopying M C → (w : World S) → Reached M C w →
    (n m generation : ℕ) → IsPair w n m generation → (index entries : ℕ) → index ≡ (shown_at w.nodes m).entries →
    entries ≡ (shown_at w.nodes n).entries → index < entries → refusal M C w (Send n index) ≡ None
entry_goes M C laws copies w r n m generation p index entries held logged less =
    let h : index ≡ length p.y.held = held ∙ ap (λ (s : Standing). s.entries) (backup_shows M C w n m generation p) in
    let l : entries ≡ length p.x.log = logged ∙ ap (λ (s : Standing). s.entries) (primary_shows M C w n m generation p) in
    elim (slice_get_cases p.x.log (length p.y.held)).1 [
      | inl g ↦ ap (λ k. refusal M C w (Send n k)) h ∙ may_send M C laws copies n m generation w r p g.0 g.2
      | inr g ↦ absurd (let k = g.0 in omega (arith, h, l, less, k))
    ]

-- ---- its primary completes what is outstanding

module _ {S : Type 0} (M : Machine S) (C : Copying S) (laws : Lawful M) (copies : IsCopying M C) (responds : Responds M)
    (w : World S) (r : Reached M C w) (n m generation : ℕ) (p : IsPair w n m generation)
    (room : length p.x.log - p.x.covered < log_size) (left : HasIndexes w) where
  told : (port k : ℕ) → M.due_byte p.x.machine port ≡ Some k → tell_sent_refusal M port k p.x ≡ None
  told port k due =
      passed (serves p.x) _
      (in_role p.x (Primary ∷ Alone ∷ []) (acts_first p.x Primary (Alone ∷ []) p.primary_up p.primary_role refl))
      (passed (refusal_of M p.x.machine (input.Sent port)) _ (ap (λ o. cond (is_none o) (Some NotDue) None) due)
      (passed (fault_if (not (is_number (M.due_byte p.x.machine port) k)) WrongNumber) _
      (ap (λ o. fault_if (not (is_number o k)) WrongNumber) due
      ∙ ap (λ b. fault_if (not b) WrongNumber) (eq-eqb k k refl))
      (passed (log_full p.x) _
      (not_if (is_role p.x.role Primary && nat_le log_size (length p.x.log - p.x.covered)) LogFull
      (ap (λ z. is_role z Primary && nat_le log_size (length p.x.log - p.x.covered)) p.primary_role
      ∙ not_up_to log_size (length p.x.log - p.x.covered) room))
      (passed (log_spent p.x) []
      (not_if (is_role p.x.role Primary && nat_le top (length p.x.log)) Spent
      (ap (λ z. is_role z Primary && nat_le top (length p.x.log)) p.primary_role
      ∙ not_up_to top (length p.x.log) (left n p.x p.primary))) refl))))

  tells : (port k : ℕ) → M.due_byte p.x.machine port ≡ Some k → k ≤ length (accepted w port) →
      refusal M C w (TellSent n port k) ≡ None
  tells port k due le =
      passed (not_accepted w port k) (at_node (slice_get w.nodes n) (tell_sent_refusal M port k) ∷ [])
      (not_if (k == 0 || nat_lt (length (accepted w port)) k) Unknown
      (ap (λ b. b || nat_lt (length (accepted w port)) k) (not_zero k (omega (arith, next)))
      ∙ not_less (length (accepted w port)) k le))
      (passed (at_node (slice_get w.nodes n) (tell_sent_refusal M port k)) []
      (at_here (slice_get w.nodes n) p.x (tell_sent_refusal M port k) p.primary
      (not_spare p.x.role Primary p.primary_role refl) (told port k due)) refl)
    where
      i : Inv M C w
      i = reached M C laws copies w r

      leads : ActingPrimary M C w i n p.x
      leads = acting_primary M C w i n p.x (record { there = p.primary; up = p.primary_up; role_is = p.primary_role })

      next : k ≡ acceptances port (inputs 0 ((line_at i p.x).base ++ (line_at i p.x).own)) + 1
      next = laws.due ((line_at i p.x).base ++ (line_at i p.x).own) p.x.machine port k
          (primary-runs M C w i p.x leads.is_primary) due

  -- it releases what is covered
  releases : (name : OpId) → no_such w name ≡ None → at_node (slice_get w.nodes n) (release_refusal M name) ≡ None →
      refusal M C w (Release n name) ≡ None
  releases name such may =
      passed (no_such w name) (at_node (slice_get w.nodes n) (release_refusal M name) ∷ []) such
      (passed (at_node (slice_get w.nodes n) (release_refusal M name)) [] may refl)

  there_is : (port number : ℕ) → port < 2 → no_such w (id.Byte port number) ≡ None
  there_is port number lt =
      not_if (nat_le (length w.terminals) port) Unknown
      (let t = two_terminals M C w r in not_up_to (length w.terminals) port (omega (arith, t, lt)))

  -- the operation that is completed first goes on, unless it is held
  pub goes_in_pair : (name : OpId) (s : OperationStage) → IsDueOrOut M p.x.machine name → IsStage M w n name s →
      (s ≡ stage.Held → ⊥) → refusal M C w (going_on n name s) ≡ None
  goes_in_pair (id.Byte port number) stage.Held due is held = absurd (held refl)
  goes_in_pair (id.Byte port number) stage.Covered due is held =
      releases (id.Byte port number) (there_is port number due.0) is
  goes_in_pair (id.Byte port number) stage.Accepted due is held = tells port number due.1 is
  goes_in_pair (id.Write number) stage.Held out is held = absurd (held refl)
  goes_in_pair (id.Write number) stage.Covered out is held = releases (id.Write number) refl is
  goes_in_pair (id.Write number) stage.Accepted out is held = absurd is

-- ---- a part of an image is sent

module _ {S : Type 0} (M : Machine S) (C : Copying S) (laws : Lawful M) (copies : IsCopying M C) (w : World S)
    (r : Reached M C w) (n host generation : ℕ) (j : IsJoined w n host generation) where
  abbrev x : Node S
  x = j.primary.acts.x

  i : Inv M C w
  i = reached M C laws copies w r

  leads : ActingPrimary M C w i n x
  leads = acting_primary M C w i n x
      (record { there = j.primary.acts.there; up = j.primary.acts.up; role_is = j.primary.acts.role_is })

  has : (s : S) × (x.image ≡ Some s)
  has = some_of x.image
      ((imaged M C laws copies w r).image n host x j.joining.x j.primary.acts.there j.joining.there j.primary.acts.role_is
      j.joining.role_is (j.primary.acts.generation_is ∙ sym j.joining.generation_is))

  counted : length (C.parts has.0) ≡ C.part_count
  counted = ap (λ s. length (C.parts s)) (leads.is_primary.image has.0 has.1)
      ∙ copies.counted (line_at i x).base (line_at i x).mid (i.each x.generation).sound.based

  pub part_goes : (parts index : ℕ) → parts ≤ C.part_count → index < parts → refusal M C w (SendPart n index) ≡ None
  part_goes parts index few less = elim (slice_get_cases (C.parts has.0) index).1 [
    | inl g ↦ at_here (slice_get w.nodes n) x (send_part_refusal C index) j.primary.acts.there
        (not_spare x.role Primary j.primary.acts.role_is refl)
        (not_if (not (acts_as x (Primary ∷ [])) || not (has_part C x.image index)) Unknown
        (ap (λ b. not b || not (has_part C x.image index))
        (acts_first x Primary [] j.primary.acts.up j.primary.acts.role_is refl)
        ∙ ap (λ o. not (has_part C o index)) has.1
        ∙ ap (λ o. not (not (is_none o))) g.2))
    | inr g ↦ absurd (let k = g.0 in let e = counted in omega (arith, few, less, k, e))
  ]

  pub part_goes_so : (parts : ℕ) (e : Event) → parts ≤ C.part_count → IsPartOf n parts e → refusal M C w e ≡ None
  part_goes_so parts (SendPart a index) few is =
      ap (λ k. refusal M C w (SendPart k index)) is.0 ∙ part_goes parts index few is.1
  part_goes_so parts e few is = absurd is
