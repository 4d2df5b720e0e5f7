-- The backup's host replays all that it holds, and asks the disk for what it lacks.
use Rattle.std.proofs.Common.{◌≡◌, ℕ, zero, suc, ◌+◌, ◌*◌, ◌≤◌, inl, inr, None, List, [], ◌∷◌, length, refl, sym, ap, subst, ◌∙◌, arith}
use Rattle.std.specs.Prelude.{slice_set}
use Rattle.pair_protocol.proofs.Words.{Backup, Copying, Entry, IsCopying, Lawful, Machine, Node, World, winner_in}
use Rattle.pair_protocol.specs.Effects.{replay_end}
use Rattle.pair_protocol.specs.ReadsKept.{StillReplays}
use Rattle.pair_protocol.specs.Refusals.{replay_refusal}
use Rattle.pair_protocol.proofs.Promises.Faithful.{reached}
use Rattle.pair_protocol.proofs.Promises.Settling.{highest_is}
use Rattle.pair_progress.specs.Takeover.{to_fetch}
use Rattle.pair_progress.proofs.Acting.{undecided_top}
use Rattle.pair_progress.proofs.Fetching.{Waiting, far_at, waiting}
use Rattle.pair_progress.proofs.Passing.{acts_first, in_role}
use Rattle.pair_progress.proofs.Replaying.{Far, moves_some}
use Rattle.pair_progress.proofs.WholeLog as log
use Rattle.host_law.specs.Frame.{quiet}
use Rattle.host_law.specs.Host.{Passes}
use Rattle.host_law.specs.Host as host
use Rattle.host_law.proofs.Words.{Fleet, HostStep, Shows}
use Rattle.host_progress.specs.Exchanges.{HostsReach}
use Rattle.host_progress.specs.Laws.{Either}
use Rattle.host_progress.proofs.Answering.{by_itself}
use Rattle.host_progress.proofs.CatchingUp.{HavePair, backup_now, shown_pair}
use Rattle.host_progress.proofs.Exchanging.{at_most, is_there}
use Rattle.host_progress.proofs.Fetching.{fetches_it, fewer_left, has_fetched, passes_at}
use Rattle.host_progress.proofs.Showing.{backup_real}

module _ {S : Type 0} (M : Machine S) (C : Copying S) (laws : Lawful M) (copies : IsCopying M C) (n m generation : ℕ) where
  abbrev AllReplayed : Node S → List Entry → World S → Type 0
  AllReplayed = log.AllReplayed M C laws copies n m generation

  abbrev Replays : Fleet S → ℕ → Node S → List Entry → Type 0
  Replays f most x held = HostsReach M C f (Either n m) most (AllReplayed x held)

  module _ (f : Fleet S) (w : World S) (h : Shows M C f w) (x y : Node S) (p : HavePair M C laws copies n m generation f x y)
      (far : Far M y) where
    may_replay : Passes y replay_refusal
    may_replay = passes_at y Backup replay_refusal p.backup_role refl
        (in_role y (Backup ∷ []) (acts_first y Backup [] p.backup_up p.backup_role refl))

    replays : HostStep M C m y quiet far.y
    replays = host.Replays far.made far.made (replay_end M far.y far.made far.made) far.y may_replay
        (record { moves = far.moves; some = moves_some M y far.made; ends = refl })

    next : (l : Fleet S) → l.hosts ≡ slice_set f.hosts m far.y → HavePair M C laws copies n m generation l x far.y
    next l hosts =
        backup_now M C laws copies n m generation f w h x y p far.y far.running far.role far.generation l hosts

    -- nothing is left
    all_done : (most : ℕ) → far.y.replayed ≡ length far.y.held → Replays f (suc most) x y.held
    all_done most e =
        by_itself M C laws copies (Either n m) (AllReplayed x y.held) f w h m y p.backup (inr refl) most far.y replays
        (λ l v shown hosts o. is_there M C (Either n m) (AllReplayed x y.held) l v most shown (record {
          q = shown_pair M C laws copies n m generation l v shown x far.y (next l hosts);
          x_is = refl;
          held_is = far.held;
          replayed_is = e;
        }))

    -- or it waits for a sector, which comes
    go_on : (k : ℕ) → Waiting M far.y → to_fetch far.y ≤ suc k →
        ((l : Fleet S) (v : World S) → Shows M C l v → (z : Node S) → HavePair M C laws copies n m generation l x z →
        to_fetch z ≤ k → Replays l (1 + 4 * k) x z.held) → Replays f (suc (suc (suc (suc (1 + 4 * k))))) x y.held
    go_on k a few rest =
        by_itself M C laws copies (Either n m) (AllReplayed x y.held) f w h m y p.backup (inr refl)
        (suc (suc (suc (1 + 4 * k)))) far.y replays
        (λ l v shown hosts o.
        (let pair = next l hosts in
        let q = shown_pair M C laws copies n m generation l v shown x far.y pair in
        let i = reached M C laws copies v shown.reached in
        let none : winner_in v.winners far.y.generation ≡ None = ap (winner_in v.winners) pair.backup_generation ∙ q.undecided in
        let still : StillReplays v m far.y = record {
          there = q.backup;
          highest_is = undecided_top M C v i m far.y q.backup (backup_real far.y pair.backup_role) none
              ∙ sym (highest_is M C v i);
          who = inl (pair.backup_role, none);
        } in
        let z = has_fetched M C laws copies l v shown m far.y pair.backup pair.backup_up Backup pair.backup_role (inl refl) still a in
        fetches_it M C laws copies l v shown m far.y pair.backup pair.backup_up Backup pair.backup_role (inl refl) still a
        (Either n m) (AllReplayed x y.held) (inr refl) (1 + 4 * k)
        (λ t u seen hosts_t o_t. subst (λ es. Replays t (1 + 4 * k) x es) far.held
        (rest t u seen z
        (backup_now M C laws copies n m generation l v shown x far.y pair z refl refl refl t hosts_t)
        (fewer_left M C laws copies l v shown m far.y pair.backup pair.backup_up Backup pair.backup_role (inl refl) still a k
        few)))))

  far_here : (f : Fleet S) (w : World S) → Shows M C f w → (x y : Node S) →
      HavePair M C laws copies n m generation f x y → Far M y
  far_here f w h x y p =
      let q = shown_pair M C laws copies n m generation f w h x y p in
      far_at M C laws copies w h.reached m y q.backup (inl p.backup_role)

  pub replays_all : (k : ℕ) (f : Fleet S) (w : World S) → Shows M C f w → (x y : Node S) →
      HavePair M C laws copies n m generation f x y → to_fetch y ≤ k → Replays f (1 + 4 * k) x y.held
  replays_all zero f w h x y p few =
      let far = far_here f w h x y p in
      elim far.ends [
        | inl e ↦ all_done f w h x y p far 0 e
        | inr waits ↦ absurd (let a = waiting M far.y waits in let s = a.some in let l = far.fewer in
            omega (arith, s, l, few))
      ]
  replays_all (suc k) f w h x y p few =
      let far = far_here f w h x y p in
      elim far.ends [
        | inl e ↦ at_most M C (Either n m) (AllReplayed x y.held) f 1 (1 + 4 * suc k) (omega arith)
            (all_done f w h x y p far 0 e)
        | inr waits ↦ at_most M C (Either n m) (AllReplayed x y.held) f (suc (suc (suc (suc (1 + 4 * k))))) (1 + 4 * suc k)
            (omega arith)
            (go_on f w h x y p far k (waiting M far.y waits) (let l = far.fewer in omega (arith, l, few))
            (λ l v shown z pair less. replays_all k l v shown x z pair less))
      ]
