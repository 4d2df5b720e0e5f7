-- The primary sends what its backup lacks, entry by entry, and the backup holds each and acknowledges them all.
use Rattle.std.proofs.Common.{◌≡◌, ℕ, zero, suc, ◌+◌, ◌-◌, ◌*◌, ◌≤◌, inl, inr, true, max, not, Some, None, is_none, List, [], ◌∷◌, ◌++◌, length, length-append, refl, sym, ap, subst, ◌∙◌, arith, append-nil, eq-eqb}
use Rattle.std.specs.Prelude.{slice_get, ◌||◌, nat_lt}
use Rattle.std.proofs.lemmas.Option.{slice_get_cases}
use Rattle.i8080_words.specs.declared.refusal.Fault.TheVariants.{BadAck, Unknown, WrongGeneration}
use Rattle.pair_events.specs.declared.event.Event.TheVariants.{Acknowledge, DeliverAcknowledgement, DeliverLog, Send}
use Rattle.pair_protocol.proofs.Words.{Acknowledgement, Backup, Copying, Entry, IsCopying, IsPrefix, Lawful, LogEntry, Machine, Node, Primary, Reached, World, acts_as, entries, hears, holds, replay_told, steps, with_message, with_node}
use Rattle.pair_protocol.specs.Refusals.{acknowledge_refusal, at_acknowledgement, at_log_entry, deliver_acknowledgement_refusal, deliver_log_refusal, fault_if, first_of, generation_refusal, refusal, role_refusal, send_refusal}
use Rattle.pair_protocol.specs.Reply.{HeldIs, MessageIs, New}
use Rattle.pair_protocol.specs.Rows.{Acknowledges, DeliversAcknowledgement, DeliversLog, Sends}
use Rattle.pair_protocol.proofs.Invariant.Acting.{acting_backup, acting_primary}
use Rattle.pair_protocol.proofs.Invariant.{Inv}
use Rattle.pair_protocol.proofs.Promises.Faithful.{reached}
use Rattle.pair_protocol.proofs.Traces.Lists.{get-at, get_set, get_set_other, same_some}
use Rattle.pair_progress.specs.Leads.{Leads}
use Rattle.pair_progress.specs.CatchingUp.{IsCaughtUp, IsLogging, IsPair}
use Rattle.pair_progress.proofs.Completing.{not_less}
use Rattle.pair_progress.proofs.Leading.{and_then, at_most, is_there, one_reaches}
use Rattle.pair_progress.proofs.Passing.{acts_first, at_here, in_role, not_if, not_spare, passed}

-- a prefix that is as long as the whole is the whole
pub whole_prefix : {A : Type 0} (front all : List A) → IsPrefix front all → length all ≤ length front → front ≡ all
whole_prefix {A} front all p le = go p.0 p.1
  where
    go : (rest : List A) → front ++ rest ≡ all → front ≡ all
    go [] is = sym (append-nil front) ∙ is
    go (a ∷ rest) is =
        absurd (let e = ap length is in let l = length-append front (a ∷ rest) in omega (arith, e, l, le))

module _ {S : Type 0} (M : Machine S) (C : Copying S) (laws : Lawful M) (copies : IsCopying M C) (n m generation : ℕ) where
  module _ (w : World S) (r : Reached M C w) (p : IsPair w n m generation) where
    -- what is held begins the log, and no more is covered than is held
    abbrev i : Inv M C w
    i = reached M C laws copies w r

    pub log_is : p.x.log ≡ entries (i.each generation).line.reads (steps (i.each generation).line.base)
        (i.each generation).line.own
    log_is = subst
        (λ k. p.x.log ≡ entries (i.each k).line.reads (steps (i.each k).line.base) (i.each k).line.own) p.primary_generation
        ((acting_primary M C w i n p.x
        (record { there = p.primary; up = p.primary_up; role_is = p.primary_role })).is_primary.logged p.primary_role).log

    pub held_is : IsPrefix p.y.held
        (entries (i.each generation).line.reads (steps (i.each generation).line.base) (i.each generation).line.own)
    held_is = subst
        (λ k. IsPrefix p.y.held (entries (i.each k).line.reads (steps (i.each k).line.base) (i.each k).line.own))
        p.backup_generation
        (acting_backup M C w i m p.y Backup
        (record { there = p.backup; up = p.backup_up; role_is = p.backup_role }) tt).is_backup.held

    pub front : IsPrefix p.y.held p.x.log
    front = subst (IsPrefix p.y.held) (sym log_is) held_is

    pub covered_few : p.x.covered ≤ length p.y.held
    covered_few =
        let a : p.x.covered ≤ length (i.each generation).line.held =
        subst (λ k. p.x.covered ≤ length (i.each k).line.held) p.primary_generation
        (acting_primary M C w i n p.x
        (record { there = p.primary; up = p.primary_up; role_is = p.primary_role })).is_primary.covered in
        let b : p.y.held ≡ (i.each generation).line.held =
        subst (λ k. p.y.held ≡ (i.each k).line.held) p.backup_generation
        (acting_backup M C w i m p.y Backup
        (record { there = p.backup; up = p.backup_up; role_is = p.backup_role }) tt).held in
        let c = ap length b in
        omega (arith, a, c)

    pub apart : n ≡ m → ⊥
    apart same =
        let e : p.x ≡ p.y =
        same_some p.x p.y (slice_get w.nodes n) p.primary (ap (slice_get w.nodes) same ∙ p.backup) in
        let k : Primary ≡ Backup = sym p.primary_role ∙ ap (λ (z : Node S). z.role) e ∙ p.backup_role in
        (cc)

    pub same_generation : p.x.generation ≡ p.y.generation
    same_generation = p.primary_generation ∙ sym p.backup_generation

    -- ---- an entry is sent and held

    module _ (e : Entry) (got : slice_get p.x.log (length p.y.held) ≡ Some e) where
      abbrev pub sent : World S
      sent = with_message w (LogEntry p.x.generation (length p.y.held) e)

      pub may_send : refusal M C w (Send n (length p.y.held)) ≡ None
      may_send = at_here (slice_get w.nodes n) p.x (send_refusal (length p.y.held)) p.primary
          (not_spare p.x.role Primary p.primary_role refl)
          (not_if (not (acts_as p.x (Primary ∷ []))
          || (nat_lt (length p.y.held) p.x.covered || is_none (slice_get p.x.log (length p.y.held)))) Unknown
          (ap (λ b. not b || (nat_lt (length p.y.held) p.x.covered || is_none (slice_get p.x.log (length p.y.held))))
          (acts_first p.x Primary [] p.primary_up p.primary_role refl)
          ∙ ap (λ b. b || is_none (slice_get p.x.log (length p.y.held)))
          (not_less (length p.y.held) p.x.covered covered_few)
          ∙ ap is_none got))

      pub sends : Sends w n (length p.y.held) (MessageIs (length w.messages)) sent
      sends = record {
        e = e;
        node = record { x = p.x; there = p.primary; said = got };
        says = record { reply = refl; after = refl };
      }

      sent_reached : Reached M C sent
      sent_reached = one_reaches M C w sent (Send n (length p.y.held)) (MessageIs (length w.messages)) r may_send sends

      message : slice_get sent.messages (length w.messages) ≡ Some (LogEntry p.x.generation (length p.y.held) e)
      message = get-at w.messages [] (LogEntry p.x.generation (length p.y.held) e)

      abbrev pub then : World S
      then = with_node sent m (holds p.y e)

      pub may_hold : refusal M C sent (DeliverLog (length w.messages) m) ≡ None
      may_hold = ap (λ z. at_log_entry (slice_get w.nodes m) z) message
          ∙ at_here (slice_get w.nodes m) p.y (deliver_log_refusal p.x.generation) p.backup
          (not_spare p.y.role Backup p.backup_role refl)
          (passed (role_refusal (Backup ∷ []) p.y) (generation_refusal p.x.generation p.y ∷ [])
          (in_role p.y (Backup ∷ []) (acts_first p.y Backup [] p.backup_up p.backup_role refl))
          (ap (λ b. first_of (fault_if (not b) WrongGeneration ∷ []))
          (eq-eqb p.x.generation p.y.generation same_generation)))

      pub delivers : DeliversLog sent (length w.messages) m New then
      delivers = record {
        generation = p.x.generation;
        index = length p.y.held;
        e = e;
        message = message;
        next = true;
        at = record { x = p.y; there = p.backup; y = holds p.y e; done = (refl, refl); after = refl };
        reply = refl;
      }

      pub then_reached : Reached M C then
      then_reached = one_reaches M C sent then (DeliverLog (length w.messages) m) New sent_reached may_hold delivers

      abbrev pub then_pair : IsPair then n m generation
      then_pair = record {
        x = p.x;
        y = holds p.y e;
        primary = get_set_other w.nodes m n (holds p.y e) apart ∙ p.primary;
        backup = get_set w.nodes m p.y (holds p.y e) p.backup;
        primary_up = p.primary_up;
        backup_up = p.backup_up;
        primary_role = p.primary_role;
        backup_role = p.backup_role;
        primary_generation = p.primary_generation;
        backup_generation = p.backup_generation;
        undecided = p.undecided;
      }

      one_entry : (most : ℕ) → Leads M C then (IsLogging n m) most (λ new. IsCaughtUp new n m generation) →
          Leads M C w (IsLogging n m) (suc (suc most)) (λ new. IsCaughtUp new n m generation)
      one_entry most rest =
          and_then M C w (IsLogging n m) (suc most) (λ new. IsCaughtUp new n m generation) sent (Send n (length p.y.held))
          (MessageIs (length w.messages)) (λ f. f) refl may_send sends
          (and_then M C sent (IsLogging n m) most (λ new. IsCaughtUp new n m generation) then
          (DeliverLog (length w.messages) m) New (λ f. f) refl may_hold delivers rest)

    -- ---- all is held, and it is acknowledged

    module _ (all : p.y.held ≡ p.x.log) where
      abbrev pub told : World S
      told = with_message w (Acknowledgement p.y.generation (length p.y.held) (replay_told p.y))

      pub may_tell : refusal M C w (Acknowledge m) ≡ None
      may_tell = at_here (slice_get w.nodes m) p.y acknowledge_refusal p.backup
          (not_spare p.y.role Backup p.backup_role refl)
          (in_role p.y (Backup ∷ []) (acts_first p.y Backup [] p.backup_up p.backup_role refl))

      pub tells : Acknowledges w m (MessageIs (length w.messages)) told
      tells = record {
        held = length p.y.held;
        replayed = replay_told p.y;
        node = record { x = p.y; there = p.backup; said = (refl, refl) };
        says = record { reply = refl; after = refl };
      }

      pub told_message : slice_get told.messages (length w.messages)
          ≡ Some (Acknowledgement p.y.generation (length p.y.held) (replay_told p.y))
      told_message = get-at w.messages [] (Acknowledgement p.y.generation (length p.y.held) (replay_told p.y))

      pub same_length : length p.y.held ≡ length p.x.log
      same_length = ap length all

      abbrev pub heard : World S
      heard = with_node told n (hears p.x (length p.y.held) (replay_told p.y))

      pub may_hear : refusal M C told (DeliverAcknowledgement (length w.messages) n) ≡ None
      may_hear = ap (λ z. at_acknowledgement (slice_get w.nodes n) z) told_message
          ∙ at_here (slice_get w.nodes n) p.x (deliver_acknowledgement_refusal p.y.generation (length p.y.held)) p.primary
          (not_spare p.x.role Primary p.primary_role refl)
          (passed (role_refusal (Primary ∷ []) p.x)
          (generation_refusal p.y.generation p.x ∷ fault_if (nat_lt (length p.x.log) (length p.y.held)) BadAck ∷ [])
          (in_role p.x (Primary ∷ []) (acts_first p.x Primary [] p.primary_up p.primary_role refl))
          (passed (generation_refusal p.y.generation p.x) (fault_if (nat_lt (length p.x.log) (length p.y.held)) BadAck ∷ [])
          (ap (λ b. fault_if (not b) WrongGeneration) (eq-eqb p.y.generation p.x.generation (sym same_generation)))
          (ap (λ b. first_of (fault_if b BadAck ∷ []))
          (not_less (length p.x.log) (length p.y.held) (let s = same_length in omega (arith, s))))))

      pub hearing : DeliversAcknowledgement told (length w.messages) n (HeldIs (max p.x.covered (length p.y.held))) heard
      hearing = record {
        generation = p.y.generation;
        held = length p.y.held;
        replayed = replay_told p.y;
        message = told_message;
        covered = max p.x.covered (length p.y.held);
        at = record {
          x = p.x;
          there = p.primary;
          y = hears p.x (length p.y.held) (replay_told p.y);
          done = (refl, refl);
          after = refl;
        };
        reply = refl;
      }

      abbrev pub caught_up : IsCaughtUp heard n m generation
      caught_up = record {
        pair = record {
          x = hears p.x (length p.y.held) (replay_told p.y);
          y = p.y;
          primary = get_set w.nodes n p.x (hears p.x (length p.y.held) (replay_told p.y)) p.primary;
          backup =
              get_set_other w.nodes n m (hears p.x (length p.y.held) (replay_told p.y)) (λ same. apart (sym same)) ∙ p.backup;
          primary_up = p.primary_up;
          backup_up = p.backup_up;
          primary_role = p.primary_role;
          backup_role = p.backup_role;
          primary_generation = p.primary_generation;
          backup_generation = p.backup_generation;
          undecided = p.undecided;
        };
        held = all;
        covered = (let s = same_length in let c = covered_few in omega (arith, s, c));
      }

      acknowledged : Leads M C w (IsLogging n m) 2 (λ new. IsCaughtUp new n m generation)
      acknowledged =
          and_then M C w (IsLogging n m) 1 (λ new. IsCaughtUp new n m generation) told (Acknowledge m)
          (MessageIs (length w.messages)) (λ f. f) refl may_tell tells
          (and_then M C told (IsLogging n m) 0 (λ new. IsCaughtUp new n m generation) heard
          (DeliverAcknowledgement (length w.messages) n) (HeldIs (max p.x.covered (length p.y.held))) (λ f. f) refl may_hear
          hearing
          (is_there M C heard (IsLogging n m) 0 (λ new. IsCaughtUp new n m generation) caught_up))

  -- entry by entry
  pub catches_up : (k : ℕ) (w : World S) → Reached M C w → (p : IsPair w n m generation) →
      length p.x.log ≤ length p.y.held + k →
      Leads M C w (IsLogging n m) (2 * k + 2) (λ new. IsCaughtUp new n m generation)
  catches_up zero w r p few =
      acknowledged w r p (whole_prefix p.y.held p.x.log (front w r p) (omega (arith, few)))
  catches_up (suc k) w r p few = elim (slice_get_cases p.x.log (length p.y.held)).1 [
    | inl g ↦
        (let l = length-append p.y.held (g.0 ∷ []) in
        at_most M C w (IsLogging n m) (suc (suc (2 * k + 2))) (λ new. IsCaughtUp new n m generation) (2 * suc k + 2)
        (omega arith)
        (one_entry w r p g.0 g.2 (2 * k + 2)
        (catches_up k (then w r p g.0 g.2) (then_reached w r p g.0 g.2) (then_pair w r p g.0 g.2) (omega (arith, few, l)))))
    | inr g ↦ at_most M C w (IsLogging n m) 2 (λ new. IsCaughtUp new n m generation) (2 * suc k + 2) (omega arith)
        (acknowledged w r p (whole_prefix p.y.held p.x.log (front w r p) g.0))
  ]

pub pairs_catch_up : {S : Type 0} (M : Machine S) (C : Copying S) → Lawful M → IsCopying M C → (w : World S) →
    Reached M C w → (n m generation : ℕ) (p : IsPair w n m generation) →
    Leads M C w (IsLogging n m) (2 * (length p.x.log - length p.y.held) + 2) (λ new. IsCaughtUp new n m generation)
pairs_catch_up M C laws copies w r n m generation p =
    catches_up M C laws copies n m generation (length p.x.log - length p.y.held) w r p (omega arith)
