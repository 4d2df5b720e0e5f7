-- A host that may still serve goes live: it asks the arbiter, drains, and asks the disk for the sectors that it lacks.
use Rattle.std.proofs.Common.{◌≡◌, ℕ, zero, suc, ◌+◌, ◌*◌, ◌≤◌, ◌⊎◌, inl, inr, Bool, true, cond, not, Option, Some, None, [], ◌∷◌, length, refl, sym, ap, subst, ◌∙◌, arith}
use Rattle.std.specs.Prelude.{slice_get}
use Rattle.guest_lockstep.specs.declared.replay_end.ReplayEnd.{ReplayEnd}
use Rattle.guest_lockstep.specs.declared.replay_end.ReplayEnd.TheVariants.{End, Wait}
use Rattle.pair_protocol.proofs.Words.{Alone, Backup, Copying, Draining, IsCopying, Joining, Lawful, Machine, Node, Primary, Role, Spare, World, goes_live, is_role, winner_in, wins, won_role}
use Rattle.pair_protocol.specs.Effects.{after_drain, replay_end}
use Rattle.pair_protocol.specs.ReadsKept.{StillReplays}
use Rattle.pair_protocol.specs.Refusals.{drain_refusal, fault_if, first_of, suspect_refusal}
use Rattle.pair_protocol.proofs.Promises.Faithful.{reached}
use Rattle.pair_protocol.proofs.Promises.Settling.{highest_is}
use Rattle.pair_protocol.proofs.Traces.Lists.{get_set}
use Rattle.pair_progress.specs.Takeover.{IsLive, to_fetch}
use Rattle.pair_progress.proofs.Acting.{draining_top}
use Rattle.pair_progress.proofs.Fetching.{Waiting, far_at, waiting}
use Rattle.pair_progress.proofs.Passing.{acts_first, in_role}
use Rattle.pair_progress.proofs.Replaying.{Far, moves_some}
use Rattle.pair_progress.proofs.Takeover.{end_is, wait_is}
use Rattle.host_law.specs.Frame.{answering, quiet}
use Rattle.host_law.specs.Host.{Passes}
use Rattle.host_law.specs.Host as host
use Rattle.host_law.specs.Outside as outside
use Rattle.host_law.proofs.Following.{node-there}
use Rattle.host_law.proofs.Words.{AsksArbiter, Fault, Fleet, HasWon, HostStep, NotWhole, Outside, OutsideStep, Shows, Unknown, WrongRole}
use Rattle.host_progress.specs.Exchanges.{HostsReach}
use Rattle.host_progress.specs.Laws.{HostMayServe, Only, takeover_steps}
use Rattle.host_progress.proofs.Answering.{by_itself, in_three}
use Rattle.host_progress.proofs.Exchanging.{at_most, is_there}
use Rattle.host_progress.proofs.Fetching.{fetches_it, fewer_left, passes_at}

-- a node that is up and whole may ask the arbiter
may_ask : {S : Type 0} (x : Node S) → x.running ≡ true → (x.role ≡ Primary) ⊎ (x.role ≡ Backup) → Passes x suspect_refusal
may_ask x up whole = elim whole [
  | inl is ↦ ap (λ r. refused r x.running) is ∙ ap (refused Primary) up
  | inr is ↦ ap (λ r. refused r x.running) is ∙ ap (refused Backup) up
]
  where
    refused : Role → Bool → Option Fault
    refused r up =
        cond (is_role r Spare) (Some Unknown)
        (first_of (fault_if (not up) WrongRole ∷ fault_if (is_role r Joining) NotWhole ∷ []))

-- no node in this role is spare
not_that : {S : Type 0} (x : Node S) (r : Role) → (r ≡ Spare → ⊥) → x.role ≡ r → x.role ≡ Spare → ⊥
not_that x r k is s = k (sym is ∙ s)

module _ {S : Type 0} (M : Machine S) (C : Copying S) (laws : Lawful M) (copies : IsCopying M C) (n generation : ℕ) where
  abbrev Lives : Fleet S → ℕ → Type 0
  Lives f most = HostsReach M C f (Only n) most (λ new. IsLive new n generation)

  -- a live host shows a live node
  is_live : (f : Fleet S) (w : World S) → Shows M C f w → (most : ℕ) (x : Node S) → slice_get f.hosts n ≡ Some x →
      x.running ≡ true → x.role ≡ Alone → x.generation ≡ generation → Lives f most
  is_live f w h most x there up role g =
      is_there M C (Only n) (λ new. IsLive new n generation) f w most h (record {
        x = x;
        there = node-there M C f w h n x there (not_that x Alone (λ e. (cc)) role);
        up = up;
        alone = role;
        generation_is = g;
      })

  module _ (f : Fleet S) (w : World S) (h : Shows M C f w) (x : Node S) (there : slice_get f.hosts n ≡ Some x)
      (up : x.running ≡ true) (role : x.role ≡ Draining) (g : x.generation ≡ generation) (far : Far M x) where
    may_drain : Passes x drain_refusal
    may_drain = passes_at x Draining drain_refusal role refl
        (in_role x (Draining ∷ []) (acts_first x Draining [] up role refl))

    drains_to : (why : ReplayEnd) → why ≡ replay_end M far.y far.made far.made →
        HostStep M C n x quiet (after_drain far.y why)
    drains_to why is = host.Drains far.made far.made why (after_drain far.y why) may_drain (record {
      z = far.y;
      replayed = record { moves = far.moves; some = moves_some M x far.made; ends = is };
      after = refl;
    })

    -- nothing is left, so it is live
    live_now : (most : ℕ) → far.y.replayed ≡ length far.y.held → Lives f (suc most)
    live_now most e =
        by_itself M C laws copies (Only n) (λ new. IsLive new n generation) f w h n x there refl most (goes_live far.y)
        (drains_to End (end_is M far.y far.made far.made e))
        (λ l v shown hosts o. is_live l v shown most (goes_live far.y)
        (ap (λ xs. slice_get xs n) hosts ∙ get_set f.hosts n x (goes_live far.y) there) (far.running ∙ up) refl
        (far.generation ∙ g))

    -- or it waits for a sector, which comes
    go_on : (k : ℕ) → Waiting M far.y → to_fetch far.y ≤ suc k →
        ((l : Fleet S) (v : World S) → Shows M C l v → (y : Node S) → slice_get l.hosts n ≡ Some y → y.running ≡ true →
        y.role ≡ Draining → y.generation ≡ generation → to_fetch y ≤ k → Lives l (1 + 4 * k)) → Lives f (suc (suc (suc (suc (1 + 4 * k)))))
    go_on k a few rest =
        by_itself M C laws copies (Only n) (λ new. IsLive new n generation) f w h n x there refl (suc (suc (suc (1 + 4 * k)))) far.y
        (drains_to Wait (wait_is M far.y far.made far.made a))
        (λ l v shown hosts o.
        (let at : slice_get l.hosts n ≡ Some far.y =
        ap (λ xs. slice_get xs n) hosts ∙ get_set f.hosts n x far.y there in
        let is : far.y.role ≡ Draining = far.role ∙ role in
        let node = node-there M C l v shown n far.y at (not_that far.y Draining (λ e. (cc)) is) in
        let i = reached M C laws copies v shown.reached in
        let still : StillReplays v n far.y = record {
          there = node;
          highest_is = draining_top M C v i n far.y node is ∙ sym (highest_is M C v i);
          who = inr is;
        } in
        fetches_it M C laws copies l v shown n far.y at (far.running ∙ up) Draining is (inr refl) still a (Only n)
        (λ new. IsLive new n generation) refl (1 + 4 * k)
        (λ next u next_shown next_hosts next_o. rest next u next_shown _
        (ap (λ xs. slice_get xs n) next_hosts ∙ get_set l.hosts n far.y _ at) (far.running ∙ up) is (far.generation ∙ g)
        (fewer_left M C laws copies l v shown n far.y at (far.running ∙ up) Draining is (inr refl) still a k few))))

  -- a host that drains is live after at most so many steps
  drains : (k : ℕ) (f : Fleet S) (w : World S) → Shows M C f w → (x : Node S) → slice_get f.hosts n ≡ Some x →
      x.running ≡ true → x.role ≡ Draining → x.generation ≡ generation → to_fetch x ≤ k → Lives f (1 + 4 * k)
  drains zero f w h x there up role g few =
      let far = far_at M C laws copies w h.reached n x (node-there M C f w h n x there (not_that x Draining (λ e. (cc)) role))
      (inr role) in
      elim far.ends [
        | inl e ↦ live_now f w h x there up role g far 0 e
        | inr waits ↦ absurd (let a = waiting M far.y waits in let s = a.some in let l = far.fewer in
            omega (arith, s, l, few))
      ]
  drains (suc k) f w h x there up role g few =
      let far = far_at M C laws copies w h.reached n x (node-there M C f w h n x there (not_that x Draining (λ e. (cc)) role))
      (inr role) in
      elim far.ends [
        | inl e ↦ at_most M C (Only n) (λ new. IsLive new n generation) f 1 (1 + 4 * suc k) (omega arith)
            (live_now f w h x there up role g far 0 e)
        | inr waits ↦ at_most M C (Only n) (λ new. IsLive new n generation) f (suc (suc (suc (suc (1 + 4 * k))))) (1 + 4 * suc k) (omega arith)
            (go_on f w h x there up role g far k (waiting M far.y waits) (let l = far.fewer in omega (arith, l, few))
            (drains k))
      ]

  -- a host asks the arbiter, which has named nobody, or this host
  asks : (f : Fleet S) (w : World S) → Shows M C f w → (x : Node S) → slice_get f.hosts n ≡ Some x → x.running ≡ true →
      (whole : (x.role ≡ Primary) ⊎ (x.role ≡ Backup)) →
      (winner_in f.outside.winners x.generation ≡ None) ⊎ (winner_in f.outside.winners x.generation ≡ Some n) → (most : ℕ) →
      ((l : Fleet S) (v : World S) → Shows M C l v → slice_get l.hosts n ≡ Some (wins x) → Lives l most) → Lives f (suc (suc (suc most)))
  asks f w h x there up whole free most rest = elim free [
    | inl none ↦ answered _ (outside.IsFirst n x.generation none)
    | inr mine ↦ answered _ (outside.IsAgain n x.generation mine)
  ]
    where
      answered : (o : Outside) →
          OutsideStep M f.outside (answering (AsksArbiter n x.generation) (HasWon x.generation n)) o → Lives f (suc (suc (suc most)))
      answered o step =
          in_three M C laws copies (Only n) (λ new. IsLive new n generation) f w h n x there refl most
          (AsksArbiter n x.generation) (host.Asks (may_ask x up whole)) (HasWon x.generation n) o step n x (wins x) there refl
          (host.Wins (may_ask x up whole) whole)
          (λ l v shown hosts same. rest l v shown
          (ap (λ xs. slice_get xs n) hosts ∙ get_set f.hosts n x (wins x) there))

pub takes_over : {S : Type 0} (M : Machine S) (C : Copying S) → Lawful M → IsCopying M C → (f : Fleet S) (w : World S) →
    Shows M C f w → (n : ℕ) (x : Node S) → HostMayServe f n x →
    HostsReach M C f (Only n) (takeover_steps x x.role) (λ new. IsLive new n x.generation)
takes_over {S} M C laws copies f w h n x may = elim may.who [
  | inl who ↦ elim who.0 [
    | inl role ↦ enough Primary (suc (suc (suc 0))) role refl
        (asks M C laws copies n x.generation f w h x may.there may.up (inl role) who.1 0
        (λ l v shown there. is_live M C laws copies n x.generation l v shown 0 (wins x) there may.up (ap won_role role) refl))
    | inr role ↦ enough Backup (suc (suc (suc (1 + 4 * to_fetch x)))) role (omega arith)
        (asks M C laws copies n x.generation f w h x may.there may.up (inr role) who.1 (1 + 4 * to_fetch x)
        (λ l v shown there. drains M C laws copies n x.generation (to_fetch x) l v shown (wins x) there may.up
        (ap won_role role) refl (let le : to_fetch x ≤ to_fetch x = omega arith in le)))
  ]
  | inr who ↦ elim who [
    | inl role ↦ enough Draining (1 + 4 * to_fetch x) role refl
        (drains M C laws copies n x.generation (to_fetch x) f w h x may.there may.up role refl
        (let le : to_fetch x ≤ to_fetch x = omega arith in le))
    | inr role ↦ enough Alone 0 role refl
        (is_live M C laws copies n x.generation f w h 0 x may.there may.up role refl)
  ]
]
  where
    enough : (q : Role) (most : ℕ) → x.role ≡ q → most ≡ takeover_steps x q →
        HostsReach M C f (Only n) most (λ new. IsLive new n x.generation) →
        HostsReach M C f (Only n) (takeover_steps x x.role) (λ new. IsLive new n x.generation)
    enough q most role is l = subst (λ k. HostsReach M C f (Only n) k (λ new. IsLive new n x.generation))
        (is ∙ ap (takeover_steps x) (sym role)) l
