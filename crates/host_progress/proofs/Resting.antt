-- One operation after another is completed, until nothing is outstanding at a live host.
use Rattle.std.proofs.Common.{◌≡◌, ℕ, zero, suc, ◌*◌, ◌≤◌, inl, inr, true, Some, List, length, refl, sym, ap, ◌∙◌, arith}
use Rattle.std.specs.Prelude.{slice_get, slice_set}
use Rattle.event_callbacks.proofs.Names.{name_cases}
use Rattle.pair_protocol.proofs.Words.{Alone, Copying, IsCopying, Lawful, Machine, Node, OpId, World}
use Rattle.pair_protocol.specs.Effects.{took}
use Rattle.pair_protocol.proofs.Keeps.Alone.{alone}
use Rattle.pair_protocol.proofs.Promises.Faithful.{reached}
use Rattle.pair_protocol.proofs.Traces.Lists.{get_set}
use Rattle.pair_progress.specs.Completion.{CoverAll, IsAtRest, Responds}
use Rattle.pair_progress.specs.Takeover.{IsLive}
use Rattle.pair_progress.proofs.Completing.{live_not_full, live_not_spent, live_real, live_releases, live_serves}
use Rattle.pair_progress.proofs.Names.{among, count_out, count-falls, count-length, some_out}
use Rattle.pair_progress.proofs.Resting.{covered_none, exact, none_and_some}
use Rattle.host_law.proofs.Following.{node-there}
use Rattle.host_law.proofs.Words.{Fleet, Shows}
use Rattle.host_progress.specs.Exchanges.{HostsReach}
use Rattle.host_progress.specs.Laws.{Only}
use Rattle.host_progress.proofs.Completing.{HasCompleted, MayComplete, completed, completes}
use Rattle.host_progress.proofs.Exchanging.{at_most, is_there}
use Rattle.host_progress.proofs.Showing.{alone_joins, alone_real, host_there}

-- what is covered by a list of names still is after a completion, and fewer of them are outstanding
module _ {S : Type 0} (M : Machine S) (x : Node S) (c : HasCompleted M x) (names : List OpId)
    (cover : CoverAll M x.machine names) where
  pub cover_after : CoverAll M c.t names
  cover_after name o is = elim (name_cases name c.gone) [
    | inl same ↦ none_and_some (M.find c.t name) o (ap (M.find c.t) same ∙ c.now) is
    | inr differ ↦ cover name o (sym (c.others name differ) ∙ is)
  ]

  pub falls : (k : ℕ) → count_out (M.find x.machine) names ≤ suc k → count_out (M.find c.t) names ≤ k
  falls k few =
      let l = count-falls (M.find x.machine) (M.find c.t) c.gone c.o c.was c.now c.others names (cover c.gone c.o c.was) in
      omega (arith, l, few)

module _ {S : Type 0} (M : Machine S) (C : Copying S) (laws : Lawful M) (copies : IsCopying M C) (responds : Responds M)
    (n generation : ℕ) where
  abbrev Rests : World S → Type 0
  Rests new = IsAtRest M new n generation

  -- a live host refuses no completion
  abbrev may_complete : (f : Fleet S) (w : World S) → Shows M C f w → (live : IsLive w n generation) → MayComplete M live.x
  may_complete f w h live =
      let i = reached M C laws copies w h.reached in
      let at = alone M C w i n live.x (record { there = live.there; up = live.up; role_is = live.alone }) in
      record {
        real = live_real M live.x live.up live.alone;
        serving = live_serves M live.x live.up live.alone;
        not_full = live_not_full M live.x live.up live.alone;
        not_spent = live_not_spent M live.x live.up live.alone;
        releases = live_releases M live.x live.up live.alone;
        moves = i.trace;
        runs = at.runs;
      }

  pub there_in : (f : Fleet S) (w : World S) → Shows M C f w → (live : IsLive w n generation) →
      slice_get f.hosts n ≡ Some live.x
  there_in f w h live = host_there M C f w h n live.x live.there (λ e. alone_joins live.x live.alone e)

  -- it is live after a completion
  abbrev still_live : (f l : Fleet S) (v : World S) → Shows M C l v → (x : Node S) → slice_get f.hosts n ≡ Some x →
      x.running ≡ true → x.role ≡ Alone → x.generation ≡ generation → (c : HasCompleted M x) →
      l.hosts ≡ slice_set f.hosts n (completed M x c) → IsLive v n generation
  still_live f l v shown x there up role g c hosts =
      let y = took M x Alone c.t c.j in
      let at : slice_get l.hosts n ≡ Some y =
      ap (λ xs. slice_get xs n) hosts ∙ get_set f.hosts n x (completed M x c) there
      ∙ ap (λ q. Some (took M x q c.t c.j)) role in
      record {
        x = y;
        there = node-there M C l v shown n y at (alone_real x role);
        up = up;
        alone = role;
        generation_is = g;
      }

  pub settles : (k : ℕ) (f : Fleet S) (w : World S) → Shows M C f w → (live : IsLive w n generation) (names : List OpId) →
      CoverAll M live.x.machine names → count_out (M.find live.x.machine) names ≤ k →
      HostsReach M C f (Only n) (4 * k) Rests
  settles zero f w h live names cover few =
      let none = covered_none M C laws copies responds n generation names (M.find live.x.machine) cover (omega (arith, few)) in
      is_there M C (Only n) Rests f w (4 * zero) h (record {
        live = live;
        none = none;
        exact = exact M C laws copies responds n generation w h.reached live none;
      })
  settles (suc k) f w h live names cover few =
      go (count_out (M.find live.x.machine) names) refl (settles k)
    where
      go : (c : ℕ) → count_out (M.find live.x.machine) names ≡ c →
          ((l : Fleet S) (v : World S) → Shows M C l v → (on : IsLive v n generation) (names : List OpId) →
          CoverAll M on.x.machine names → count_out (M.find on.x.machine) names ≤ k →
          HostsReach M C l (Only n) (4 * k) Rests) → HostsReach M C f (Only n) (4 * suc k) Rests
      go zero is later =
          let none = covered_none M C laws copies responds n generation names (M.find live.x.machine) cover is in
          is_there M C (Only n) Rests f w (4 * suc k) h (record {
            live = live;
            none = none;
            exact = exact M C laws copies responds n generation w h.reached live none;
          })
      go (suc c) is later =
          let out = some_out (M.find live.x.machine) names c is in
          let at = there_in f w h live in
          at_most M C (Only n) Rests f (suc (suc (suc (suc (4 * k))))) (4 * suc k) (omega arith)
          (completes M C laws copies responds n (Only n) refl Rests (4 * k) live.x (may_complete f w h live) f w h at
          (reached M C laws copies w h.reached).global.came.done out.0 out.1 out.2
          (λ c l v shown hosts. later l v shown
          (still_live f l v shown live.x at live.up live.alone live.generation_is c hosts) names
          (cover_after M live.x c names cover) (falls M live.x c names cover k few)))

pub completes_all : {S : Type 0} (M : Machine S) (C : Copying S) → Lawful M → IsCopying M C → Responds M → (f : Fleet S)
    (w : World S) → Shows M C f w → (n generation : ℕ) (live : IsLive w n generation) (names : List OpId) →
    CoverAll M live.x.machine names →
    HostsReach M C f (Only n) (4 * length names) (λ new. IsAtRest M new n generation)
completes_all M C laws copies responds f w h n generation live names cover =
    settles M C laws copies responds n generation (length names) f w h live names cover
    (count-length (M.find live.x.machine) names)

pub completes_soon : {S : Type 0} (M : Machine S) (C : Copying S) → Lawful M → IsCopying M C → Responds M → (f : Fleet S)
    (w : World S) → Shows M C f w → (n generation : ℕ) → IsLive w n generation →
    HostsReach M C f (Only n) 160 (λ new. IsAtRest M new n generation)
completes_soon M C laws copies responds f w h n generation live =
    let i = reached M C laws copies w h.reached in
    let at = alone M C w i n live.x (record { there = live.there; up = live.up; role_is = live.alone }) in
    let few = laws.few i.trace live.x.machine at.runs in
    let le = few.few in
    at_most M C (Only n) (λ new. IsAtRest M new n generation) f (4 * length few.names) 160 (omega (arith, le))
    (completes_all M C laws copies responds f w h n generation live few.names
    (λ name o found. among few.names name (few.all name o found)))
