-- The backup of a whole pair is sent all that it lacks of the log, and then it replays all of it.
use Rattle.std.proofs.Common.{◌≡◌, ℕ, zero, suc, ◌+◌, ◌-◌, ◌*◌, ◌≤◌, inl, inr, Bool, true, false, cond, Option, None, is_none, List, [], ◌∷◌, length, length-append, refl, sym, ap, subst, ◌∙◌, arith, eq-eqb}
use Rattle.std.specs.Prelude.{◌==◌, slice_get}
use Rattle.std.proofs.lemmas.Option.{slice_get_cases}
use Rattle.guest_lockstep.specs.declared.replay_end.ReplayEnd.{ReplayEnd}
use Rattle.guest_lockstep.specs.declared.replay_end.ReplayEnd.TheVariants as ended
use Rattle.pair_events.specs.declared.event.Event.TheVariants.{DeliverLog, Replay, Send}
use Rattle.pair_protocol.proofs.Words.{Acts, Backup, Copying, Entry, IsCopying, Lawful, Machine, Node, Reached, World, fetches, sector_record, winner_in, with_node}
use Rattle.pair_protocol.specs.Effects.{replay_end, wanted}
use Rattle.pair_protocol.specs.ReadsKept.{StillReplays}
use Rattle.pair_protocol.specs.Refusals.{refusal, replay_refusal}
use Rattle.pair_protocol.specs.Reply.{MessageIs, Moved, New}
use Rattle.pair_protocol.specs.Rows.{ReplaysHeld}
use Rattle.pair_protocol.proofs.Promises.Faithful.{reached}
use Rattle.pair_protocol.proofs.Promises.Settling.{highest_is}
use Rattle.pair_protocol.proofs.Traces.Lists.{get_set, get_set_other}
use Rattle.pair_progress.specs.Leads.{Fails, Leads}
use Rattle.pair_progress.specs.CatchingUp.{IsPair, lacks}
use Rattle.pair_progress.specs.Settling.{IsPairing}
use Rattle.pair_progress.specs.Takeover.{to_fetch}
use Rattle.pair_progress.proofs.Acting.{undecided_top}
use Rattle.pair_progress.proofs.Fetching.{Waiting, answered, answered_fewer, answered_reached, answered_there, far_at, fetch_first, waiting}
use Rattle.pair_progress.proofs.Leading.{and_then, at_most, is_there, one_reaches}
use Rattle.pair_progress.proofs.Passing.{acts_first, at_here, in_role, not_spare}
use Rattle.pair_progress.proofs.CatchingUp as catching
use Rattle.pair_progress.proofs.Replaying.{Far, moves_some}

module _ {S : Type 0} (M : Machine S) (C : Copying S) (laws : Lawful M) (copies : IsCopying M C) (n m generation : ℕ) where
  -- ---- all is sent and held

  pub record AllHeld (x : Node S) (replayed : ℕ) (fetched : Option (List ℕ)) (w : World S) : Type 0 where
    pub q : IsPair w n m generation
    pub x_is : q.x ≡ x
    pub held : q.y.held ≡ q.x.log
    pub replayed_is : q.y.replayed ≡ replayed
    pub fetched_is : q.y.fetched ≡ fetched

  pub sends_all : (k : ℕ) (w : World S) → Reached M C w → (p : IsPair w n m generation) →
      length p.x.log ≤ length p.y.held + k →
      Leads M C w (IsPairing n m) (2 * k) (AllHeld p.x p.y.replayed p.y.fetched)
  sends_all zero w r p few =
      is_there M C w (IsPairing n m) (2 * zero) (AllHeld p.x p.y.replayed p.y.fetched) (record {
        q = p;
        x_is = refl;
        held = catching.whole_prefix p.y.held p.x.log (catching.front M C laws copies n m generation w r p)
            (omega (arith, few));
        replayed_is = refl;
        fetched_is = refl;
      })
  sends_all (suc k) w r p few = elim (slice_get_cases p.x.log (length p.y.held)).1 [
    | inl g ↦
        (let l = length-append p.y.held (g.0 ∷ []) in
        at_most M C w (IsPairing n m) (suc (suc (2 * k))) (AllHeld p.x p.y.replayed p.y.fetched) (2 * suc k) (omega arith)
        (and_then M C w (IsPairing n m) (suc (2 * k)) (AllHeld p.x p.y.replayed p.y.fetched)
        (catching.sent M C laws copies n m generation w r p g.0 g.2) (Send n (length p.y.held)) (MessageIs (length w.messages))
        (λ f. f) refl
        (catching.may_send M C laws copies n m generation w r p g.0 g.2)
        (catching.sends M C laws copies n m generation w r p g.0 g.2)
        (and_then M C (catching.sent M C laws copies n m generation w r p g.0 g.2) (IsPairing n m) (2 * k)
        (AllHeld p.x p.y.replayed p.y.fetched) (catching.then M C laws copies n m generation w r p g.0 g.2)
        (DeliverLog (length w.messages) m) New (λ f. f) refl (catching.may_hold M C laws copies n m generation w r p g.0 g.2)
        (catching.delivers M C laws copies n m generation w r p g.0 g.2)
        (sends_all k (catching.then M C laws copies n m generation w r p g.0 g.2)
        (catching.then_reached M C laws copies n m generation w r p g.0 g.2)
        (catching.then_pair M C laws copies n m generation w r p g.0 g.2) (omega (arith, few, l))))))
    | inr g ↦ is_there M C w (IsPairing n m) (2 * suc k) (AllHeld p.x p.y.replayed p.y.fetched) (record {
      q = p;
      x_is = refl;
      held = catching.whole_prefix p.y.held p.x.log (catching.front M C laws copies n m generation w r p) g.0;
      replayed_is = refl;
      fetched_is = refl;
    })
  ]

  -- ---- all is replayed

  pub record AllReplayed (x : Node S) (held : List Entry) (w : World S) : Type 0 where
    pub q : IsPair w n m generation
    pub x_is : q.x ≡ x
    pub held_is : q.y.held ≡ held
    pub replayed_is : q.y.replayed ≡ length q.y.held

  module _ (w : World S) (r : Reached M C w) (p : IsPair w n m generation) (f : Far M p.y) where
    apart : n ≡ m → ⊥
    apart = catching.apart M C laws copies n m generation w r p

    may_replay : refusal M C w (Replay m f.made) ≡ None
    may_replay = at_here (slice_get w.nodes m) p.y replay_refusal p.backup (not_spare p.y.role Backup p.backup_role refl)
        (in_role p.y (Backup ∷ []) (acts_first p.y Backup [] p.backup_up p.backup_role refl))

    abbrev next : World S
    next = with_node w m f.y

    abbrev why : ReplayEnd
    why = replay_end M f.y f.made f.made

    -- all moves that were asked for are made, if something is left
    whole : Fails (Moved f.made why) → ⊥
    whole = go (f.y.replayed == length f.y.held) (is_none (wanted M f.y)) (f.made == f.made) (eq-eqb f.made f.made refl)
      where
        go : (all none same : Bool) → same ≡ true →
            Fails (Moved f.made (cond all ended.End (cond none (cond same ended.Turns ended.Memory) ended.Wait))) → ⊥
        go true none same is f = f
        go false true true is f = f
        go false true false is f = absurd (cc)
        go false false same is f = f

    replays : ReplaysHeld M w m f.made (Moved f.made why) next
    replays = record {
      made = f.made;
      why = why;
      at = record {
        x = p.y;
        there = p.backup;
        y = f.y;
        done = record { moves = f.moves; some = moves_some M p.y f.made; ends = refl };
        after = refl;
      };
      reply = refl;
    }

    next_reached : Reached M C next
    next_reached = one_reaches M C w next (Replay m f.made) (Moved f.made why) r may_replay replays

    abbrev next_pair : IsPair next n m generation
    next_pair = record {
      x = p.x;
      y = f.y;
      primary = get_set_other w.nodes m n f.y apart ∙ p.primary;
      backup = get_set w.nodes m p.y f.y p.backup;
      primary_up = p.primary_up;
      backup_up = f.running ∙ p.backup_up;
      primary_role = p.primary_role;
      backup_role = f.role ∙ p.backup_role;
      primary_generation = p.primary_generation;
      backup_generation = f.generation ∙ p.backup_generation;
      undecided = p.undecided;
    }

    acts_on : Acts next m f.y Backup
    acts_on = record { there = next_pair.backup; up = next_pair.backup_up; role_is = next_pair.backup_role }

    still : StillReplays next m f.y
    still =
        let i = reached M C laws copies next next_reached in
        let none : winner_in next.winners f.y.generation ≡ None =
        ap (winner_in w.winners) (f.generation ∙ p.backup_generation) ∙ p.undecided in
        record {
          there = next_pair.backup;
          highest_is = undecided_top M C next i m f.y next_pair.backup
              (λ k. (let e = sym next_pair.backup_role ∙ k in (cc))) none
              ∙ sym (highest_is M C next i);
          who = inl (next_pair.backup_role, none);
        }

    module _ (a : Waiting M f.y) where
      abbrev then : World S
      then = answered M C laws copies next next_reached m f.y Backup acts_on (inl refl) still a

      abbrev bytes : List ℕ
      bytes = (sector_record M next.puts (M.address f.y.machine a.drive a.sector)).bytes

      abbrev z : Node S
      z = fetches f.y bytes

      then_reached : Reached M C then
      then_reached = answered_reached M C laws copies next next_reached m f.y Backup acts_on (inl refl) still a

      abbrev then_pair : IsPair then n m generation
      then_pair = record {
        x = p.x;
        y = fetches f.y bytes;
        primary = get_set_other next.nodes m n (fetches f.y bytes) apart ∙ next_pair.primary;
        backup = answered_there M C laws copies next next_reached m f.y Backup acts_on (inl refl) still a;
        primary_up = p.primary_up;
        backup_up = f.running ∙ p.backup_up;
        primary_role = p.primary_role;
        backup_role = f.role ∙ p.backup_role;
        primary_generation = p.primary_generation;
        backup_generation = f.generation ∙ p.backup_generation;
        undecided = p.undecided;
      }

      then_fewer : (k : ℕ) → to_fetch f.y ≤ suc k → to_fetch z ≤ k
      then_fewer = answered_fewer M C laws copies next next_reached m f.y Backup acts_on (inl refl) still a

      go_on : (most : ℕ) (End : World S → Type 0) → Leads M C then (IsPairing n m) most End →
          Leads M C w (IsPairing n m) (suc (suc (suc most))) End
      go_on most End rest =
          and_then M C w (IsPairing n m) (suc (suc most)) End next (Replay m f.made) (Moved f.made why)
          whole refl may_replay replays
          (fetch_first M C laws copies next next_reached m f.y Backup acts_on (inl refl) still a (IsPairing n m) most End refl
          (λ k. refl) rest)

    -- nothing is left
    all_done : (most : ℕ) → f.y.replayed ≡ length f.y.held → Leads M C w (IsPairing n m) (suc most) (AllReplayed p.x p.y.held)
    all_done most e =
        and_then M C w (IsPairing n m) most (AllReplayed p.x p.y.held) next (Replay m f.made) (Moved f.made why)
        whole refl may_replay replays
        (is_there M C next (IsPairing n m) most (AllReplayed p.x p.y.held)
        (record { q = next_pair; x_is = refl; held_is = f.held; replayed_is = e }))

  pub replays_all : (k : ℕ) (w : World S) → Reached M C w → (p : IsPair w n m generation) → to_fetch p.y ≤ k →
      Leads M C w (IsPairing n m) (1 + 3 * k) (AllReplayed p.x p.y.held)
  replays_all zero w r p few =
      let f = far_at M C laws copies w r m p.y p.backup (inl p.backup_role) in
      elim f.ends [
        | inl e ↦ all_done w r p f 0 e
        | inr h ↦ absurd (let a = waiting M f.y h in let s = a.some in let l = f.fewer in omega (arith, s, l, few))
      ]
  replays_all (suc k) w r p few =
      let f = far_at M C laws copies w r m p.y p.backup (inl p.backup_role) in
      elim f.ends [
        | inl e ↦ at_most M C w (IsPairing n m) 1 (AllReplayed p.x p.y.held) (1 + 3 * suc k) (omega arith)
            (all_done w r p f 0 e)
        | inr h ↦
            (let a = waiting M f.y h in
            at_most M C w (IsPairing n m) (suc (suc (suc (1 + 3 * k)))) (AllReplayed p.x p.y.held) (1 + 3 * suc k) (omega arith)
            (go_on w r p f a (1 + 3 * k) (AllReplayed p.x p.y.held)
            (subst (λ es. Leads M C (then w r p f a) (IsPairing n m) (1 + 3 * k) (AllReplayed p.x es)) f.held
            (replays_all k (then w r p f a) (then_reached w r p f a) (then_pair w r p f a)
            (then_fewer w r p f a k (let l = f.fewer in omega (arith, l, few)))))))
      ]
