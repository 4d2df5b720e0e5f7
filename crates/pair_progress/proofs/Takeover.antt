-- A node that may still serve goes live by itself: a primary that asks the arbiter is alone; a backup that has asked drains,
-- and whenever it waits for a sector it asks the disk.
use Rattle.std.proofs.Common.{◌≡◌, ℕ, zero, suc, ◌+◌, ◌*◌, ◌≤◌, ◌⊎◌, inl, inr, true, false, cond, Some, None, is_none, List, [], ◌∷◌, length, refl, sym, ap, subst, ◌∙◌, arith, eq-eqb, eqb-true}
use Rattle.std.specs.Prelude.{slice_get, ◌==◌}
use Rattle.std.proofs.lemmas.Option.{slice_get_within}
use Rattle.guest_lockstep.specs.declared.replay_end.ReplayEnd.{ReplayEnd}
use Rattle.guest_lockstep.specs.declared.replay_end.ReplayEnd.TheVariants.{End, Memory, Turns, Wait}
use Rattle.log_entry.specs.declared.entry.Entry.TheVariants as entry
use Rattle.pair_events.specs.declared.event.Event.TheVariants.{Drain, Suspect}
use Rattle.pair_protocol.proofs.Words.{Acts, Alone, Backup, Copying, Draining, IsCopying, Lawful, Machine, Node, Primary, Reached, Role, World, fetches, goes_live, sector_record, winner_in, wins, with_node, with_winner, won_role}
use Rattle.pair_protocol.specs.Effects.{after_drain, replay_end, wanted}
use Rattle.pair_protocol.specs.ReadsKept.{StillReplays}
use Rattle.pair_protocol.specs.Refusals.{drain_refusal, refusal}
use Rattle.pair_protocol.specs.Reply.{Won}
use Rattle.pair_protocol.specs.Rows.{Drains, Suspects, drain_reply}
use Rattle.pair_protocol.specs.Survival.{MayWin}
use Rattle.pair_protocol.proofs.Promises.Faithful.{reached}
use Rattle.pair_protocol.proofs.Promises.Settling.{highest_is}
use Rattle.pair_protocol.proofs.Survival.{nothing_refuses}
use Rattle.pair_protocol.proofs.Traces.Lists.{bool_cases, get_set}
use Rattle.pair_progress.specs.Leads.{Leads}
use Rattle.pair_progress.specs.Takeover.{IsItsOwn, IsLive, MayServe, takeover_events, to_fetch}
use Rattle.pair_progress.proofs.Acting.{draining_top}
use Rattle.pair_progress.proofs.Fetching.{Waiting, answered, answered_fewer, answered_reached, answered_there, far_at, fetch_first, waiting}
use Rattle.pair_progress.proofs.Leading.{and_then, at_most, is_there, one_reaches}
use Rattle.pair_progress.proofs.Passing.{acts_first, at_here, in_role, not_spare}
use Rattle.pair_progress.proofs.Replaying.{Far, moves_some}

-- why moves end: nothing is left, or a sector is awaited
pub end_is : {S : Type 0} (M : Machine S) (y : Node S) (turns made : ℕ) → y.replayed ≡ length y.held →
    End ≡ replay_end M y turns made
end_is M y turns made e =
    sym (ap (λ b. cond b End (cond (is_none (wanted M y)) (cond (made == turns) Turns Memory) Wait))
    (eq-eqb y.replayed (length y.held) e))

pub wait_is : {S : Type 0} (M : Machine S) (y : Node S) (turns made : ℕ) → Waiting M y → Wait ≡ replay_end M y turns made
wait_is M y turns made a =
    sym (ap (λ b. cond b End (cond (is_none (wanted M y)) (cond (made == turns) Turns Memory) Wait)) more
    ∙ ap (λ o. cond (is_none o) (cond (made == turns) Turns Memory) Wait) a.is_wanted)
  where
    more : (y.replayed == length y.held) ≡ false
    more = elim (bool_cases (y.replayed == length y.held)) [
      | inl t ↦ absurd (let l = slice_get_within y.held y.replayed
          (entry.Read (M.count y.machine) a.drive a.sector a.number) a.at in
          let e = eqb-true y.replayed (length y.held) t in omega (arith, l, e))
      | inr f ↦ f
    ]

module _ {S : Type 0} (M : Machine S) (C : Copying S) (laws : Lawful M) (copies : IsCopying M C) where
  module _ (w : World S) (n : ℕ) (x : Node S) (there : slice_get w.nodes n ≡ Some x) (up : x.running ≡ true)
      (role : x.role ≡ Draining) (f : Far M x) where
    may_drain : refusal M C w (Drain n f.made) ≡ None
    may_drain = at_here (slice_get w.nodes n) x drain_refusal there (not_spare x.role Draining role refl)
        (in_role x (Draining ∷ []) (acts_first x Draining [] up role refl))

    drained : (why : ReplayEnd) → why ≡ replay_end M f.y f.made f.made →
        Drains M w n f.made (drain_reply f.made why) (with_node w n (after_drain f.y why))
    drained why is = record {
      made = f.made;
      why = why;
      at = record {
        x = x;
        there = there;
        y = after_drain f.y why;
        done = record {
          z = f.y;
          replayed = record { moves = f.moves; some = moves_some M x f.made; ends = is };
          after = refl;
        };
        after = refl;
      };
      reply = refl;
    }

    -- nothing is left, so it is live
    live_now : (most : ℕ) → f.y.replayed ≡ length f.y.held →
        Leads M C w (IsItsOwn n) (suc most) (λ new. IsLive new n x.generation)
    live_now most e =
        and_then M C w (IsItsOwn n) most (λ new. IsLive new n x.generation) (with_node w n (goes_live f.y)) (Drain n f.made)
        (drain_reply f.made End) (λ f. f) refl may_drain (drained End (end_is M f.y f.made f.made e))
        (is_there M C (with_node w n (goes_live f.y)) (IsItsOwn n) most (λ new. IsLive new n x.generation) (record {
          x = goes_live f.y;
          there = get_set w.nodes n x (goes_live f.y) there;
          up = f.running ∙ up;
          alone = refl;
          generation_is = f.generation;
        }))

    -- or it waits, in this world
    abbrev waits_in : World S
    waits_in = with_node w n f.y

    acts_on : Acts waits_in n f.y Draining
    acts_on = record { there = get_set w.nodes n x f.y there; up = f.running ∙ up; role_is = f.role ∙ role }

    module _ (r : Reached M C w) (a : Waiting M f.y) where
      then_reached : Reached M C waits_in
      then_reached = one_reaches M C w waits_in (Drain n f.made) (drain_reply f.made Wait) r may_drain
          (drained Wait (wait_is M f.y f.made f.made a))

      still : StillReplays waits_in n f.y
      still =
          let i = reached M C laws copies waits_in then_reached in
          record {
            there = acts_on.there;
            highest_is = draining_top M C waits_in i n f.y acts_on.there acts_on.role_is ∙ sym (highest_is M C waits_in i);
            who = inr acts_on.role_is;
          }

      abbrev then : World S
      then = answered M C laws copies waits_in then_reached n f.y Draining acts_on (inr refl) still a

      abbrev bytes : List ℕ
      bytes = (sector_record M waits_in.puts (M.address f.y.machine a.drive a.sector)).bytes

      is_reached : Reached M C then
      is_reached = answered_reached M C laws copies waits_in then_reached n f.y Draining acts_on (inr refl) still a

      is_there_then : slice_get then.nodes n ≡ Some (fetches f.y bytes)
      is_there_then = answered_there M C laws copies waits_in then_reached n f.y Draining acts_on (inr refl) still a

      is_fewer : (k : ℕ) → to_fetch f.y ≤ suc k → to_fetch (fetches f.y bytes) ≤ k
      is_fewer = answered_fewer M C laws copies waits_in then_reached n f.y Draining acts_on (inr refl) still a

      go_on : (most : ℕ) → Leads M C then (IsItsOwn n) most (λ new. IsLive new n x.generation) →
          Leads M C w (IsItsOwn n) (suc (suc (suc most))) (λ new. IsLive new n x.generation)
      go_on most rest =
          and_then M C w (IsItsOwn n) (suc (suc most)) (λ new. IsLive new n x.generation) waits_in (Drain n f.made)
          (drain_reply f.made Wait) (λ f. f) refl may_drain (drained Wait (wait_is M f.y f.made f.made a))
          (fetch_first M C laws copies waits_in then_reached n f.y Draining acts_on (inr refl) still a (IsItsOwn n) most
          (λ new. IsLive new n x.generation) refl (λ m. refl) rest)

  -- a node that drains is live after at most this many events
  pub drains : (k : ℕ) (w : World S) → Reached M C w → (n : ℕ) (x : Node S) → slice_get w.nodes n ≡ Some x →
      x.running ≡ true → x.role ≡ Draining → to_fetch x ≤ k →
      Leads M C w (IsItsOwn n) (1 + 3 * k) (λ new. IsLive new n x.generation)
  drains zero w r n x there up role few =
      let f = far_at M C laws copies w r n x there (inr role) in
      elim f.ends [
        | inl e ↦ live_now w n x there up role f 0 e
        | inr h ↦ absurd (let a = waiting M f.y h in let s = a.some in let l = f.fewer in omega (arith, s, l, few))
      ]
  drains (suc k) w r n x there up role few =
      let f = far_at M C laws copies w r n x there (inr role) in
      elim f.ends [
        | inl e ↦ at_most M C w (IsItsOwn n) 1 (λ new. IsLive new n x.generation) (1 + 3 * suc k) (omega arith)
            (live_now w n x there up role f 0 e)
        | inr h ↦
            (let a = waiting M f.y h in
            let z = fetches f.y (bytes w n x there up role f r a) in
            let fewer : to_fetch z ≤ k =
            is_fewer w n x there up role f r a k (let l = f.fewer in omega (arith, l, few)) in
            at_most M C w (IsItsOwn n) (suc (suc (suc (1 + 3 * k)))) (λ new. IsLive new n x.generation) (1 + 3 * suc k)
            (omega arith)
            (go_on w n x there up role f r a (1 + 3 * k)
            (subst (λ g. Leads M C (then w n x there up role f r a) (IsItsOwn n) (1 + 3 * k) (λ new. IsLive new n g))
            f.generation
            (drains k (then w n x there up role f r a) (is_reached w n x there up role f r a) n z
            (is_there_then w n x there up role f r a) (f.running ∙ up) (f.role ∙ role) fewer))))
      ]

  module _ (w : World S) (r : Reached M C w) (n : ℕ) (x : Node S) (m : MayWin w n x) where
    abbrev won : World S
    won = with_winner w n x

    asked_won : Suspects w n Won won
    asked_won = record { x = x; there = m.there; reply = refl; after = inl (m.undecided, refl) }

    won_reached : Reached M C won
    won_reached = one_reaches M C w won (Suspect n) Won r (nothing_refuses M C w n x m) asked_won

    won_there : slice_get won.nodes n ≡ Some (wins x)
    won_there = get_set w.nodes n x (wins x) m.there

    asks : (most : ℕ) → Leads M C won (IsItsOwn n) most (λ new. IsLive new n x.generation) →
        Leads M C w (IsItsOwn n) (suc most) (λ new. IsLive new n x.generation)
    asks most rest = and_then M C w (IsItsOwn n) most (λ new. IsLive new n x.generation) won (Suspect n) Won (λ f. f) refl
        (nothing_refuses M C w n x m) asked_won rest

  may_win : (w : World S) (n : ℕ) (x : Node S) → slice_get w.nodes n ≡ Some x → x.running ≡ true →
      (x.role ≡ Primary) ⊎ (x.role ≡ Backup) → winner_in w.winners x.generation ≡ None → MayWin w n x
  may_win w n x there up role none = record {
    there = there;
    up = up;
    undecided = none;
    a_node = λ s. elim role [ inl p ↦ (cc) | inr b ↦ (cc) ];
    whole = λ s. elim role [ inl p ↦ (cc) | inr b ↦ (cc) ];
  }

  -- so many events are enough for a node in this role
  pub takes_over : (w : World S) → Reached M C w → (n : ℕ) (x : Node S) → MayServe w n x →
      Leads M C w (IsItsOwn n) (takeover_events x x.role) (λ new. IsLive new n x.generation)
  takes_over w r n x m = elim m.who [
    | inl h ↦ elim h.0 [ inl p ↦ as_primary p h.1 | inr b ↦ as_backup b h.1 ]
    | inr h ↦ elim h [ inl d ↦ as_draining d | inr a ↦ as_alone a ]
  ]
    where
      enough : (q : Role) (most : ℕ) → x.role ≡ q → most ≡ takeover_events x q →
          Leads M C w (IsItsOwn n) most (λ new. IsLive new n x.generation) →
          Leads M C w (IsItsOwn n) (takeover_events x x.role) (λ new. IsLive new n x.generation)
      enough q most role is l = subst (λ k. Leads M C w (IsItsOwn n) k (λ new. IsLive new n x.generation))
          (is ∙ ap (takeover_events x) (sym role)) l

      as_primary : x.role ≡ Primary → winner_in w.winners x.generation ≡ None →
          Leads M C w (IsItsOwn n) (takeover_events x x.role) (λ new. IsLive new n x.generation)
      as_primary role none =
          let may = may_win w n x m.there m.up (inl role) none in
          enough Primary 1 role refl
          (asks w r n x may 0
          (is_there M C (won w r n x may) (IsItsOwn n) 0 (λ new. IsLive new n x.generation) (record {
            x = wins x;
            there = won_there w r n x may;
            up = m.up;
            alone = ap won_role role;
            generation_is = refl;
          })))

      as_backup : x.role ≡ Backup → winner_in w.winners x.generation ≡ None →
          Leads M C w (IsItsOwn n) (takeover_events x x.role) (λ new. IsLive new n x.generation)
      as_backup role none =
          let may = may_win w n x m.there m.up (inr role) none in
          enough Backup (suc (1 + 3 * to_fetch x)) role (omega arith)
          (asks w r n x may (1 + 3 * to_fetch x)
          (drains (to_fetch x) (won w r n x may) (won_reached w r n x may) n (wins x) (won_there w r n x may) m.up
          (ap won_role role) (let l : to_fetch x ≤ to_fetch x = omega arith in l)))

      as_draining : x.role ≡ Draining →
          Leads M C w (IsItsOwn n) (takeover_events x x.role) (λ new. IsLive new n x.generation)
      as_draining role = enough Draining (1 + 3 * to_fetch x) role refl
          (drains (to_fetch x) w r n x m.there m.up role (let l : to_fetch x ≤ to_fetch x = omega arith in l))

      as_alone : x.role ≡ Alone →
          Leads M C w (IsItsOwn n) (takeover_events x x.role) (λ new. IsLive new n x.generation)
      as_alone role = enough Alone 0 role refl
          (is_there M C w (IsItsOwn n) 0 (λ new. IsLive new n x.generation) (record {
            x = x;
            there = m.there;
            up = m.up;
            alone = role;
            generation_is = refl;
          }))
