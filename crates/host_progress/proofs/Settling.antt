-- The hosts of a whole pair come to rest: once the backup has replayed the log and acknowledged it, nothing that is
-- outstanding waits, and it is completed; and then the entries of the completions are sent and acknowledged.
use Rattle.std.proofs.Common.{◌≡◌, ℕ, zero, suc, ◌+◌, ◌-◌, ◌*◌, ◌<◌, ◌≤◌, inl, inr, Bool, true, false, max, not, Option, Some, None, is_none, List, [], ◌∷◌, ◌++◌, drop, length, length-append, refl, sym, ap, ◌∙◌, arith, lt-ltb, le-leb}
use Rattle.std.specs.Prelude.{slice_get, slice_set, ◌&&◌, nat_le}
use Rattle.event_callbacks.proofs.Names.{name_cases}
use Rattle.guest_lockstep.specs.declared.reads.Reads.TheVariants.{Logged, Shared}
use Rattle.i8080_words.specs.declared.refusal.Fault.TheVariants.{LogFull, NotCovered, NotDue, Spent}
use Rattle.pair_protocol.proofs.Words.{Alone, Copying, Entry, IsCopying, Lawful, Machine, Node, Note, OpId, Operation, Primary, Reads, Spare, World, covers, entries, entry_of, is_role, note_of, primary_takes, replay_told, steps, told_by}
use Rattle.pair_protocol.specs.Effects.{took}
use Rattle.pair_protocol.specs.Lawful.{top}
use Rattle.pair_protocol.specs.Refusals.{fault_if, log_size, release_refusal, serves}
use Rattle.pair_protocol.specs.Waiting.{reads_in}
use Rattle.pair_protocol.proofs.Invariant.Acting.{acting_primary}
use Rattle.pair_protocol.proofs.Keeps.Primary.{primary-runs}
use Rattle.pair_protocol.proofs.Promises.Faithful.{reached}
use Rattle.pair_protocol.proofs.Waiting.{no_reads}
use Rattle.pair_progress.specs.CatchingUp.{IsPair, lacks}
use Rattle.pair_progress.specs.Completion.{CoverAll, Responds}
use Rattle.pair_progress.specs.Settling.{IsPairAtRest, reads_left}
use Rattle.pair_progress.specs.Takeover.{less_fetched, reads_among, to_fetch}
use Rattle.pair_progress.proofs.Completing.{not_up_to}
use Rattle.pair_progress.proofs.Names.{count_out, count-length, some_out}
use Rattle.pair_progress.proofs.Noted.{all_kept, reads_in-few}
use Rattle.pair_progress.proofs.Noted as Noted
use Rattle.pair_progress.proofs.PairExact.{pair_exact}
use Rattle.pair_progress.proofs.Passing.{acts_first, in_role, not_if, not_spare, passed}
use Rattle.pair_progress.proofs.Resting.{covered_none, none_and_some}
use Rattle.pair_progress.proofs.Settling.{Emptied}
use Rattle.pair_progress.proofs.WholeLog as log
use Rattle.host_law.proofs.Words.{Fleet, Shows}
use Rattle.host_progress.specs.Exchanges.{HostsReach}
use Rattle.host_progress.specs.Laws.{Either}
use Rattle.host_progress.proofs.CatchingUp.{HavePair, acknowledges, all_covered, have_pair, heard, primary_now, sends_all, shown_pair}
use Rattle.host_progress.proofs.Completing.{HasCompleted, MayComplete, completed, completes}
use Rattle.host_progress.proofs.Exchanging.{at_most, is_there}
use Rattle.host_progress.proofs.Recovering.{joined}
use Rattle.host_progress.proofs.Replaying.{replays_all}
use Rattle.host_progress.proofs.Resting.{cover_after, falls}
use Rattle.host_progress.proofs.Showing.{backup_real, primary_real}

-- ---- what is covered

covers_all : (acknowledged reported : ℕ) (note : Option Note) →
    ((a : Note) → note ≡ Some a → (a.index < acknowledged) × (a.after ≤ reported)) → covers acknowledged reported note ≡ true
covers_all acknowledged reported None few = refl
covers_all acknowledged reported (Some a) few =
    let f = few a refl in
    ap (λ b. b && nat_le a.after reported) (lt-ltb a.index acknowledged f.0) ∙ le-leb a.after reported f.1

and_not : (a b : Bool) → b ≡ true → (a && not b) ≡ false
and_not true b is = ap not is
and_not false b is = refl

module _ {S : Type 0} (M : Machine S) (C : Copying S) (laws : Lawful M) (copies : IsCopying M C) (responds : Responds M)
    (n m generation : ℕ) where
  abbrev Have : Fleet S → Node S → Node S → Type 0
  Have = HavePair M C laws copies n m generation

  abbrev AllHeld : Node S → ℕ → Option (List ℕ) → World S → Type 0
  AllHeld = log.AllHeld M C laws copies n m generation

  abbrev AllReplayed : Node S → List Entry → World S → Type 0
  AllReplayed = log.AllReplayed M C laws copies n m generation

  abbrev Empty : ℕ → World S → Type 0
  Empty = Emptied M C laws copies responds n m generation

  abbrev AtRest : World S → Type 0
  AtRest new = IsPairAtRest M new n m generation

  abbrev Reach : Fleet S → ℕ → (World S → Type 0) → Type 0
  Reach f most End = HostsReach M C f (Either n m) most End

  -- all that is logged is held
  holds_all : (k : ℕ) (f : Fleet S) (w : World S) → Shows M C f w → (x y : Node S) → Have f x y →
      length x.log ≤ length y.held + k → Reach f (3 * k) (AllHeld x y.replayed y.fetched)
  holds_all k f w h x y p few =
      at_most M C (Either n m) (AllHeld x y.replayed y.fetched) f (3 * k + 0) (3 * k) (omega arith)
      (sends_all M C laws copies n m generation (Either n m) (inl refl) (inr refl) (AllHeld x y.replayed y.fetched) k f w h x y
      p few 0
      (λ l v shown z pair all replayed fetched. is_there M C (Either n m) (AllHeld x y.replayed y.fetched) l v 0 shown (record {
        q = shown_pair M C laws copies n m generation l v shown x z pair;
        x_is = refl;
        held = all;
        replayed_is = replayed;
        fetched_is = fetched;
      })))

  -- ---- all is acknowledged, so nothing that is outstanding waits

  -- this many operations may still be completed before the next acknowledgement, and so many were
  record Ready (k used : ℕ) (x y : Node S) : Type 0 where
    pub covered_all : (name : OpId) (o : Operation) → M.find x.machine name ≡ Some o →
        covers x.covered x.reported (note_of x.notes name) ≡ true
    pub room : length x.log + k ≤ x.covered + log_size
    pub left : length x.log + k ≤ top
    pub lacking : length x.log ≤ length y.held + used

  module _ (f : Fleet S) (w : World S) (h : Shows M C f w) (x y : Node S) (p : Have f x y) (held : y.held ≡ x.log)
      (replayed : y.replayed ≡ length y.held) where
    -- the reads that any operation waits for are reported
    waits_none : (name : OpId) (a : Note) → note_of x.notes name ≡ Some a →
        (a.index < max x.covered (length y.held)) × (a.after ≤ max x.reported (replay_told y))
    waits_none name a is = go kept.0 (x_kept.reads_are x_real) (y_kept.reads_are y_real)
      where
        q : IsPair w n m generation
        q = shown_pair M C laws copies n m generation f w h x y p

        kept : (reads : Reads) × ((j : ℕ) (z : Node S) → slice_get w.nodes j ≡ Some z → Noted.Kept reads z)
        kept = all_kept M C w h.reached

        at_x : slice_get w.nodes n ≡ Some x
        at_x = (shown_pair M C laws copies n m generation f w h x y p).primary

        at_y : slice_get w.nodes m ≡ Some y
        at_y = (shown_pair M C laws copies n m generation f w h x y p).backup

        x_kept : Noted.Kept kept.0 x
        x_kept = kept.1 n x at_x

        y_kept : Noted.Kept kept.0 y
        y_kept = kept.1 m y at_y

        x_real : x.role ≡ Spare → ⊥
        x_real = primary_real x p.primary_role

        y_real : y.role ≡ Spare → ⊥
        y_real = backup_real y p.backup_role

        few : (a.index < length x.log) × (a.after ≤ reads_in x.log)
        few = x_kept.notes_are name a is

        same_length : length y.held ≡ length x.log
        same_length = ap length held

        go : (reads : Reads) → x.reads ≡ reads → y.reads ≡ reads →
            (a.index < max x.covered (length y.held)) × (a.after ≤ max x.reported (replay_told y))
        go Shared xr yr =
            let told : replay_told y ≡ y.replayed = ap (λ z. told_by z y.replayed) yr in
            let s = same_length in
            let i = few.0 in
            let b = few.1 in
            let l = reads_in-few x.log in
            (omega (arith, i, s), omega (arith, told, s, replayed, b, l))
        go Logged xr yr =
            let inv = reached M C laws copies w h.reached in
            let leads = acting_primary M C w inv n x
            (record { there = at_x; up = p.primary_up; role_is = p.primary_role }) in
            let line = (inv.each x.generation).line in
            let none : reads_in x.log ≡ 0 =
            ap reads_in ((leads.is_primary.logged p.primary_role).log
            ∙ ap (λ z. entries z (steps line.base) line.own) (sym leads.is_primary.reads ∙ xr))
            ∙ no_reads (steps line.base) line.own in
            let s = same_length in
            let i = few.0 in
            let b = few.1 in
            (omega (arith, i, s), omega (arith, b, none))

    abbrev heard_here : Node S
    heard_here = heard M C laws copies n m generation (Either n m) (inl refl) (inr refl) AtRest f w h x y p held

    ready : (k : ℕ) → k ≤ log_size → length x.log + k ≤ top → Ready k 0 heard_here y
    ready k size left = record {
      covered_all = λ name o found. covers_all (max x.covered (length y.held)) (max x.reported (replay_told y))
          (note_of x.notes name) (waits_none name);
      room = (let s = ap length held in omega (arith, s, size));
      left = left;
      lacking = (let s = ap length held in omega (arith, s));
    }

  -- ---- what is outstanding is completed

  module _ (f : Fleet S) (w : World S) (h : Shows M C f w) (x y : Node S) (p : Have f x y) (k used : ℕ)
      (a : Ready (suc k) used x y) where
    serving : serves x ≡ None
    serving = in_role x (Primary ∷ Alone ∷ [])
        (acts_first x Primary (Alone ∷ []) p.primary_up p.primary_role refl)

    releases : (name : OpId) (o : Operation) → M.find x.machine name ≡ Some o → release_refusal M name x ≡ None
    releases name o found =
        passed (serves x) _ serving
        (passed (fault_if (is_none (M.find x.machine name)) NotDue) _ (ap (λ z. fault_if (is_none z) NotDue) found)
        (passed (fault_if (is_role x.role Primary
        && not (covers x.covered x.reported (note_of x.notes name))) NotCovered) []
        (not_if (is_role x.role Primary && not (covers x.covered x.reported (note_of x.notes name))) NotCovered
        (and_not (is_role x.role Primary) (covers x.covered x.reported (note_of x.notes name))
        (a.covered_all name o found))) refl))

    at_x : slice_get w.nodes n ≡ Some x
    at_x = (shown_pair M C laws copies n m generation f w h x y p).primary

    abbrev may_complete : MayComplete M x
    may_complete =
        let i = reached M C laws copies w h.reached in
        record {
          real = not_spare x.role Primary p.primary_role refl;
          serving = serving;
          not_full = not_if (is_role x.role Primary && nat_le log_size (length x.log - x.covered)) LogFull
              (ap (λ z. is_role z Primary && nat_le log_size (length x.log - x.covered)) p.primary_role
              ∙ not_up_to log_size (length x.log - x.covered) (let l = a.room in omega (arith, l)));
          not_spent = not_if (is_role x.role Primary && nat_le top (length x.log)) Spent
              (ap (λ z. is_role z Primary && nat_le top (length x.log)) p.primary_role
              ∙ not_up_to top (length x.log) (let l = a.left in omega (arith, l)));
          releases = releases;
          moves = (i.each x.generation).line.base ++ (i.each x.generation).line.own;
          runs = primary-runs M C w i x
              (acting_primary M C w i n x
              (record { there = at_x; up = p.primary_up; role_is = p.primary_role })).is_primary;
        }

    module _ (c : HasCompleted M x) (l : Fleet S) (hosts : l.hosts ≡ slice_set f.hosts n (completed M x c)) where
      abbrev then : Node S
      then = primary_takes M x c.t c.j

      then_pair : Have l then y
      then_pair = primary_now M C laws copies n m generation f w h x y p then refl refl refl l
          (hosts ∙ ap (λ q. slice_set f.hosts n (took M x q c.t c.j)) p.primary_role)

      ready_then : Ready k (suc used) then y
      ready_then = record {
        covered_all = λ name o found. elim (name_cases name c.gone) [
          | inl same ↦ none_and_some (M.find c.t name) o (ap (M.find c.t) same ∙ c.now) found
          | inr differ ↦ a.covered_all name o (sym (c.others name differ) ∙ found)
        ];
        room = (let l = a.room in let e = length-append x.log (entry_of x.reads (M.count x.machine) c.j ∷ []) in
            omega (arith, l, e));
        left = (let l = a.left in let e = length-append x.log (entry_of x.reads (M.count x.machine) c.j ∷ []) in
            omega (arith, l, e));
        lacking = (let l = a.lacking in let e = length-append x.log (entry_of x.reads (M.count x.machine) c.j ∷ []) in
            omega (arith, l, e));
      }

  completes_all : (most k used : ℕ) → used + k ≤ most → (f : Fleet S) (w : World S) → Shows M C f w → (x y : Node S) →
      Have f x y → Ready k used x y → (names : List OpId) → CoverAll M x.machine names →
      count_out (M.find x.machine) names ≤ k → Reach f (4 * k) (Empty most)
  completes_all most zero used le f w h x y p a names cover few =
      is_there M C (Either n m) (Empty most) f w (4 * zero) h (record {
        q = shown_pair M C laws copies n m generation f w h x y p;
        none = covered_none M C laws copies responds n generation names (M.find x.machine) cover (omega (arith, few));
        lacking = (let l = a.lacking in omega (arith, l, le));
      })
  completes_all most (suc k) used le f w h x y p a names cover few =
      go (count_out (M.find x.machine) names) refl (completes_all most k (suc used) (omega (arith, le)))
    where
      go : (c : ℕ) → count_out (M.find x.machine) names ≡ c →
          ((l : Fleet S) (v : World S) → Shows M C l v → (a b : Node S) → Have l a b → Ready k (suc used) a b →
          (names : List OpId) → CoverAll M a.machine names → count_out (M.find a.machine) names ≤ k →
          Reach l (4 * k) (Empty most)) → Reach f (4 * suc k) (Empty most)
      go zero is later =
          is_there M C (Either n m) (Empty most) f w (4 * suc k) h (record {
            q = shown_pair M C laws copies n m generation f w h x y p;
            none = covered_none M C laws copies responds n generation names (M.find x.machine) cover is;
            lacking = (let l = a.lacking in omega (arith, l, le));
          })
      go (suc c) is later =
          let out = some_out (M.find x.machine) names c is in
          at_most M C (Either n m) (Empty most) f (suc (suc (suc (suc (4 * k))))) (4 * suc k) (omega arith)
          (completes M C laws copies responds n (Either n m) (inl refl) (Empty most) (4 * k) x
          (may_complete f w h x y p k used a) f w h p.primary
          ((reached M C laws copies w h.reached).each x.generation).came.done out.0 out.1 out.2
          (λ c l v shown hosts. later l v shown (primary_takes M x c.t c.j) y (then_pair f w h x y p k used a c l hosts)
          (ready_then f w h x y p k used a c l hosts) names (cover_after M x c names cover) (falls M x c names cover k few)))

  -- ---- at last: the entries of the completions are sent and acknowledged

  rests : (k : ℕ) (f : Fleet S) (w : World S) → Shows M C f w → (x y : Node S) → Have f x y →
      ((name : OpId) → M.find x.machine name ≡ None) → length x.log ≤ length y.held + k → Reach f (3 * k + 3) AtRest
  rests k f w h x y p none few =
      sends_all M C laws copies n m generation (Either n m) (inl refl) (inr refl) AtRest k f w h x y p few 3
      (λ l v shown z pair all replayed fetched.
      acknowledges M C laws copies n m generation (Either n m) (inl refl) (inr refl) AtRest l v shown x z pair all 0
      (λ t u seen end.
      (let a = heard M C laws copies n m generation (Either n m) (inl refl) (inr refl) AtRest l v shown x z pair all in
      let q = shown_pair M C laws copies n m generation t u seen a z end in
      is_there M C (Either n m) AtRest t u 0 seen (record {
        all = record {
          pair = q;
          held = all;
          covered = all_covered M C laws copies n m generation (Either n m) (inl refl) (inr refl) AtRest l v shown x z pair all;
        };
        none = none;
        exact = pair_exact M C laws copies responds n m generation u seen.reached q all none;
      }))))

  pub comes_to_rest : (f : Fleet S) (w : World S) → Shows M C f w → (x y : Node S) → Have f x y → (names : List OpId) →
      CoverAll M x.machine names → length names ≤ log_size → length x.log + length names ≤ top →
      Reach f (3 * lacks x y + 4 * reads_left x y + 7 * length names + 7) AtRest
  comes_to_rest f w h x y p names cover size left =
      at_most M C (Either n m) AtRest f
      (3 * lacks x y + ((1 + 4 * reads_left x y) + suc (suc (suc (4 * length names + (3 * length names + 3))))))
      (3 * lacks x y + 4 * reads_left x y + 7 * length names + 7) (omega arith)
      (joined M C f (Either n m) (3 * lacks x y)
      ((1 + 4 * reads_left x y) + suc (suc (suc (4 * length names + (3 * length names + 3)))))
      (AllHeld x y.replayed y.fetched) AtRest (holds_all (lacks x y) f w h x y p (omega arith)) held_then)
    where
      -- all is replayed
      replayed_then : (l : Fleet S) (v : World S) → Shows M C l v → (held : List Entry) → held ≡ x.log → AllReplayed x held v →
          Reach l (suc (suc (suc (4 * length names + (3 * length names + 3))))) AtRest
      replayed_then l v shown held all e =
          let q = e.q in
          let pair = have_pair M C laws copies n m generation l v shown q in
          let held_here : q.y.held ≡ q.x.log = e.held_is ∙ all ∙ ap (λ (z : Node S). z.log) (sym e.x_is) in
          let room : length q.x.log + length names ≤ top =
          (let l = ap (λ (z : Node S). length z.log) e.x_is in omega (arith, l, left)) in
          let cover_here : CoverAll M q.x.machine names =
          (λ name o found. cover name o (ap (λ (z : Node S). M.find z.machine name) (sym e.x_is) ∙ found)) in
          let a = heard_here l v shown q.x q.y pair held_here e.replayed_is in
          acknowledges M C laws copies n m generation (Either n m) (inl refl) (inr refl) AtRest l v shown q.x q.y pair held_here
          (4 * length names + (3 * length names + 3))
          (λ t u seen now. joined M C t (Either n m) (4 * length names) (3 * length names + 3) (Empty (length names)) AtRest
          (completes_all (length names) (length names) 0 (omega arith) t u seen a q.y now
          (ready l v shown q.x q.y pair held_here e.replayed_is (length names) size room) names cover_here
          (count-length (M.find q.x.machine) names))
          (λ s d at_s empty. rests (length names) s d at_s empty.q.x empty.q.y
          (have_pair M C laws copies n m generation s d at_s empty.q) empty.none empty.lacking))

      held_then : (l : Fleet S) (v : World S) → Shows M C l v → AllHeld x y.replayed y.fetched v →
          Reach l ((1 + 4 * reads_left x y) + suc (suc (suc (4 * length names + (3 * length names + 3))))) AtRest
      held_then l v shown b =
          let q = b.q in
          let fetches_left : to_fetch q.y ≡ reads_left x y =
          ap (λ z. less_fetched z (reads_among (drop q.y.replayed q.y.held))) b.fetched_is
          ∙ ap (λ z. less_fetched y.fetched (reads_among (drop z q.y.held))) b.replayed_is
          ∙ ap (λ es. less_fetched y.fetched (reads_among (drop y.replayed es)))
          (b.held ∙ ap (λ (z : Node S). z.log) b.x_is) in
          joined M C l (Either n m) (1 + 4 * reads_left x y)
          (suc (suc (suc (4 * length names + (3 * length names + 3))))) (AllReplayed q.x q.y.held) AtRest
          (replays_all M C laws copies n m generation (reads_left x y) l v shown q.x q.y
          (have_pair M C laws copies n m generation l v shown q) (omega (arith, fetches_left)))
          (λ t u seen e. replayed_then t u seen q.y.held (b.held ∙ ap (λ (z : Node S). z.log) b.x_is)
          (record {
            q = e.q;
            x_is = e.x_is ∙ b.x_is;
            held_is = e.held_is;
            replayed_is = e.replayed_is;
          }))

pub pairs_settle : {S : Type 0} (M : Machine S) (C : Copying S) → Lawful M → IsCopying M C → Responds M → (f : Fleet S)
    (w : World S) → Shows M C f w → (n m generation : ℕ) (p : IsPair w n m generation) (names : List OpId) →
    CoverAll M p.x.machine names → length names ≤ log_size → length p.x.log + length names ≤ top →
    HostsReach M C f (Either n m) (3 * lacks p.x p.y + 4 * reads_left p.x p.y + 7 * length names + 7)
    (λ new. IsPairAtRest M new n m generation)
pairs_settle M C laws copies responds f w h n m generation p names cover size left =
    comes_to_rest M C laws copies responds n m generation f w h p.x p.y
    (have_pair M C laws copies n m generation f w h p) names cover size left
