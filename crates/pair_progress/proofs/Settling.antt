-- A whole pair comes to rest: once the backup has replayed the log and acknowledged it, nothing that is outstanding waits,
-- and it is completed; and then the entries of the completions are sent and acknowledged.
use Rattle.std.proofs.Common.{◌≡◌, ℕ, zero, suc, ◌+◌, ◌-◌, ◌*◌, ◌<◌, ◌≤◌, inl, inr, Bool, true, false, max, not, Option, Some, None, is_none, List, [], ◌∷◌, ◌++◌, drop, length, length-append, refl, sym, ap, ◌∙◌, arith, lt-ltb, le-leb}
use Rattle.std.specs.Prelude.{slice_get, ◌&&◌, nat_le}
use Rattle.event_callbacks.proofs.Names.{name_cases}
use Rattle.guest_lockstep.specs.declared.reads.Reads.TheVariants.{Logged, Shared}
use Rattle.i8080_words.specs.declared.refusal.Fault.TheVariants.{LogFull, NotCovered, NotDue, Spent}
use Rattle.pair_events.specs.declared.event.Event.{Event}
use Rattle.pair_events.specs.declared.event.Event.TheVariants.{Acknowledge, Arrive, DeliverAcknowledgement, Put, PutReply, Release, TellSent}
use Rattle.pair_protocol.proofs.Words.{Alone, Among, Copying, Entry, IsCopying, Lawful, Machine, Node, Note, OpId, Operation, Primary, Reached, Reads, Spare, World, covers, entries, entry_of, is_role, note_of, primary_takes, replay_told, steps, told_by, winner_in}
use Rattle.pair_protocol.specs.Effects.{took}
use Rattle.pair_protocol.specs.Lawful.{top}
use Rattle.pair_protocol.specs.Refusals.{fault_if, log_size, release_refusal, serves}
use Rattle.pair_protocol.specs.Reply.{HeldIs, MessageIs}
use Rattle.pair_protocol.specs.Waiting.{reads_in}
use Rattle.pair_protocol.proofs.Invariant.Acting.{acting_primary}
use Rattle.pair_protocol.proofs.Invariant.{Inv}
use Rattle.pair_protocol.proofs.Keeps.Primary.{primary-runs}
use Rattle.pair_protocol.proofs.Promises.Faithful.{reached}
use Rattle.pair_protocol.proofs.Waiting.{no_reads}
use Rattle.pair_progress.specs.Completion.{IsCompletion, Responds}
use Rattle.pair_progress.specs.Leads.{Leads}
use Rattle.pair_progress.specs.CatchingUp.{IsPair, lacks}
use Rattle.pair_progress.specs.Settling.{IsPairAtRest, IsPairing, reads_left}
use Rattle.pair_progress.specs.Takeover.{less_fetched, reads_among, to_fetch}
use Rattle.pair_progress.proofs.Completing.{Fewer, Server, completes, not_up_to}
use Rattle.pair_progress.proofs.Leading.{and_then, at_most, is_there, joined, one_reaches}
use Rattle.pair_progress.proofs.Names.{count_out, count-falls, count-length, some_out}
use Rattle.pair_progress.proofs.Noted as Noted
use Rattle.pair_progress.proofs.Noted.{all_kept, reads_in-few}
use Rattle.pair_progress.proofs.PairExact.{pair_exact}
use Rattle.pair_progress.proofs.Passing.{acts_first, in_role, not_if, not_spare, passed}
use Rattle.pair_progress.proofs.CatchingUp as catching
use Rattle.pair_progress.proofs.Resting.{covered_none, none_and_some}
use Rattle.pair_progress.proofs.WholeLog as log

-- ---- what is covered

covers_all : (acknowledged reported : ℕ) (note : Option Note) →
    ((a : Note) → note ≡ Some a → (a.index < acknowledged) × (a.after ≤ reported)) → covers acknowledged reported note ≡ true
covers_all acknowledged reported None few = refl
covers_all acknowledged reported (Some a) few =
    let f = few a refl in
    ap (λ b. b && nat_le a.after reported) (lt-ltb a.index acknowledged f.0) ∙ le-leb a.after reported f.1

and_not : (a b : Bool) → b ≡ true → (a && not b) ≡ false
and_not true b is = ap not is
and_not false b is = refl

module _ {S : Type 0} (M : Machine S) (C : Copying S) (laws : Lawful M) (copies : IsCopying M C) (responds : Responds M)
    (n m generation : ℕ) where
  abbrev AllHeld : Node S → ℕ → Option (List ℕ) → World S → Type 0
  AllHeld = log.AllHeld M C laws copies n m generation

  abbrev AllReplayed : Node S → List Entry → World S → Type 0
  AllReplayed = log.AllReplayed M C laws copies n m generation

  -- ---- all is acknowledged, so nothing that is outstanding waits

  -- this many operations may still be completed before the next acknowledgement, and so many were
  pub record Ready (k used : ℕ) (w : World S) : Type 0 where
    pub q : IsPair w n m generation
    pub covered_all : (name : OpId) (o : Operation) → M.find q.x.machine name ≡ Some o →
        covers q.x.covered q.x.reported (note_of q.x.notes name) ≡ true
    pub room : length q.x.log + k ≤ q.x.covered + log_size
    pub left : length q.x.log + k ≤ top
    pub lacking : length q.x.log ≤ length q.y.held + used

  module _ (w : World S) (r : Reached M C w) (p : IsPair w n m generation) (held : p.y.held ≡ p.x.log) where
    abbrev heard : World S
    heard = catching.heard M C laws copies n m generation w r p held

    heard_reached : Reached M C heard
    heard_reached = one_reaches M C (catching.told M C laws copies n m generation w r p held) heard
        (DeliverAcknowledgement (length w.messages) n) (HeldIs (max p.x.covered (length p.y.held)))
        (one_reaches M C w (catching.told M C laws copies n m generation w r p held) (Acknowledge m)
        (MessageIs (length w.messages)) r
        (catching.may_tell M C laws copies n m generation w r p held)
        (catching.tells M C laws copies n m generation w r p held))
        (catching.may_hear M C laws copies n m generation w r p held)
        (catching.hearing M C laws copies n m generation w r p held)

    acknowledges : (most : ℕ) (End : World S → Type 0) → Leads M C heard (IsPairing n m) most End →
        Leads M C w (IsPairing n m) (suc (suc most)) End
    acknowledges most End rest =
        and_then M C w (IsPairing n m) (suc most) End (catching.told M C laws copies n m generation w r p held) (Acknowledge m)
        (MessageIs (length w.messages)) (λ f. f) refl (catching.may_tell M C laws copies n m generation w r p held)
        (catching.tells M C laws copies n m generation w r p held)
        (and_then M C (catching.told M C laws copies n m generation w r p held) (IsPairing n m) most End heard
        (DeliverAcknowledgement (length w.messages) n) (HeldIs (max p.x.covered (length p.y.held))) (λ f. f) refl
        (catching.may_hear M C laws copies n m generation w r p held)
        (catching.hearing M C laws copies n m generation w r p held)
        rest)

  module _ (w : World S) (r : Reached M C w) (p : IsPair w n m generation) (held : p.y.held ≡ p.x.log)
      (replayed : p.y.replayed ≡ length p.y.held) where
    -- the reads that any operation waits for are reported
    waits_none : (name : OpId) (a : Note) → note_of p.x.notes name ≡ Some a →
        (a.index < max p.x.covered (length p.y.held)) × (a.after ≤ max p.x.reported (replay_told p.y))
    waits_none name a is = go kept.0 (x_kept.reads_are x_real) (y_kept.reads_are y_real)
      where
        kept : (reads : Reads) × ((j : ℕ) (z : Node S) → slice_get w.nodes j ≡ Some z → Noted.Kept reads z)
        kept = all_kept M C w r

        x_kept : Noted.Kept kept.0 p.x
        x_kept = kept.1 n p.x p.primary

        y_kept : Noted.Kept kept.0 p.y
        y_kept = kept.1 m p.y p.backup

        x_real : p.x.role ≡ Spare → ⊥
        x_real s = let e = sym p.primary_role ∙ s in (cc)

        y_real : p.y.role ≡ Spare → ⊥
        y_real s = let e = sym p.backup_role ∙ s in (cc)

        few : (a.index < length p.x.log) × (a.after ≤ reads_in p.x.log)
        few = x_kept.notes_are name a is

        same_length : length p.y.held ≡ length p.x.log
        same_length = ap length held

        go : (reads : Reads) → p.x.reads ≡ reads → p.y.reads ≡ reads →
            (a.index < max p.x.covered (length p.y.held)) × (a.after ≤ max p.x.reported (replay_told p.y))
        go Shared xr yr =
            let told : replay_told p.y ≡ p.y.replayed = ap (λ z. told_by z p.y.replayed) yr in
            let s = same_length in
            let i = few.0 in
            let b = few.1 in
            let l = reads_in-few p.x.log in
            (omega (arith, i, s), omega (arith, told, s, replayed, b, l))
        go Logged xr yr =
            let inv = reached M C laws copies w r in
            let q = acting_primary M C w inv n p.x
            (record { there = p.primary; up = p.primary_up; role_is = p.primary_role }) in
            let line = (inv.each p.x.generation).line in
            let none : reads_in p.x.log ≡ 0 =
            ap reads_in ((q.is_primary.logged p.primary_role).log
            ∙ ap (λ z. entries z (steps line.base) line.own) (sym q.is_primary.reads ∙ xr))
            ∙ no_reads (steps line.base) line.own in
            let s = same_length in
            let i = few.0 in
            let b = few.1 in
            (omega (arith, i, s), omega (arith, b, none))

    abbrev ready : (k : ℕ) → k ≤ log_size → length p.x.log + k ≤ top → Ready k 0 (heard w r p held)
    ready k size left = record {
      q = (catching.caught_up M C laws copies n m generation w r p held).pair;
      covered_all = λ name o found. covers_all (max p.x.covered (length p.y.held)) (max p.x.reported (replay_told p.y))
          (note_of p.x.notes name) (waits_none name);
      room = (let s = ap length held in omega (arith, s, size));
      left = left;
      lacking = (let s = ap length held in omega (arith, s));
    }

  -- ---- what is outstanding is completed

  completion_is : (e : Event) → IsCompletion n e → IsPairing n m e
  completion_is (Release a name) k = k
  completion_is (Arrive message) k = tt
  completion_is (TellSent a port number) k = k
  completion_is (Put message) k = tt
  completion_is (PutReply message a) k = k
  completion_is e k = absurd k

  module _ (w : World S) (r : Reached M C w) (k used : ℕ) (a : Ready (suc k) used w) where
    abbrev x : Node S
    x = a.q.x

    abbrev i : Inv M C w
    i = reached M C laws copies w r

    serving : serves a.q.x ≡ None
    serving = in_role a.q.x (Primary ∷ Alone ∷ [])
        (acts_first a.q.x Primary (Alone ∷ []) a.q.primary_up a.q.primary_role refl)

    releases : (name : OpId) (o : Operation) → M.find a.q.x.machine name ≡ Some o → release_refusal M name a.q.x ≡ None
    releases name o found =
        passed (serves a.q.x) _ serving
        (passed (fault_if (is_none (M.find a.q.x.machine name)) NotDue) _ (ap (λ z. fault_if (is_none z) NotDue) found)
        (passed (fault_if (is_role a.q.x.role Primary
        && not (covers a.q.x.covered a.q.x.reported (note_of a.q.x.notes name))) NotCovered) []
        (not_if (is_role a.q.x.role Primary && not (covers a.q.x.covered a.q.x.reported (note_of a.q.x.notes name))) NotCovered
        (and_not (is_role a.q.x.role Primary) (covers a.q.x.covered a.q.x.reported (note_of a.q.x.notes name))
        (a.covered_all name o found))) refl))

    abbrev server : Server M w n
    server = record {
      x = a.q.x;
      there = a.q.primary;
      real = not_spare a.q.x.role Primary a.q.primary_role refl;
      serving = serving;
      not_full = not_if (is_role a.q.x.role Primary && nat_le log_size (length a.q.x.log - a.q.x.covered)) LogFull
          (ap (λ z. is_role z Primary && nat_le log_size (length a.q.x.log - a.q.x.covered)) a.q.primary_role
          ∙ not_up_to log_size (length a.q.x.log - a.q.x.covered) (let l = a.room in omega (arith, l)));
      not_spent = not_if (is_role a.q.x.role Primary && nat_le top (length a.q.x.log)) Spent
          (ap (λ z. is_role z Primary && nat_le top (length a.q.x.log)) a.q.primary_role
          ∙ not_up_to top (length a.q.x.log) (let l = a.left in omega (arith, l)));
      releases = releases;
      moves = (i.each a.q.x.generation).line.base ++ (i.each a.q.x.generation).line.own;
      runs = primary-runs M C w i a.q.x
          (acting_primary M C w i n a.q.x
          (record { there = a.q.primary; up = a.q.primary_up; role_is = a.q.primary_role })).is_primary;
    }

    one : (name : OpId) (o : Operation) → M.find a.q.x.machine name ≡ Some o →
        Leads M C w (IsPairing n m) 3 (Fewer M C laws copies responds n (IsPairing n m) completion_is w.nodes w.winners a.q.x)
    one name o found = completes M C laws copies responds n (IsPairing n m) completion_is w r server
        (i.each a.q.x.generation).came.done name o found

    module _ (new : World S)
        (g : Fewer M C laws copies responds n (IsPairing n m) completion_is w.nodes w.winners a.q.x new) where
      pair_apart : m ≡ n → ⊥
      pair_apart same = catching.apart M C laws copies n m generation w r a.q (sym same)

      abbrev ready_after : Ready k (suc used) new
      ready_after = record {
        q = record {
          x = primary_takes M a.q.x g.t g.j;
          y = a.q.y;
          primary = g.there ∙ ap (λ z. Some (took M a.q.x z g.t g.j)) a.q.primary_role;
          backup = g.others_are m pair_apart ∙ a.q.backup;
          primary_up = a.q.primary_up;
          backup_up = a.q.backup_up;
          primary_role = a.q.primary_role;
          backup_role = a.q.backup_role;
          primary_generation = a.q.primary_generation;
          backup_generation = a.q.backup_generation;
          undecided = ap (λ ws. winner_in ws generation) g.winners_are ∙ a.q.undecided;
        };
        covered_all = λ name o found. elim (name_cases name g.gone) [
          | inl same ↦ none_and_some (M.find g.t name) o (ap (M.find g.t) same ∙ g.now) found
          | inr differ ↦ a.covered_all name o (sym (g.others name differ) ∙ found)
        ];
        room = (let l = a.room in let e = length-append a.q.x.log (entry_of a.q.x.reads (M.count a.q.x.machine) g.j ∷ []) in
            omega (arith, l, e));
        left = (let l = a.left in let e = length-append a.q.x.log (entry_of a.q.x.reads (M.count a.q.x.machine) g.j ∷ []) in
            omega (arith, l, e));
        lacking = (let l = a.lacking in
            let e = length-append a.q.x.log (entry_of a.q.x.reads (M.count a.q.x.machine) g.j ∷ []) in
            omega (arith, l, e));
      }

  -- nothing is outstanding, and the backup lacks at most so many entries
  pub record Emptied (most : ℕ) (w : World S) : Type 0 where
    pub q : IsPair w n m generation
    pub none : (name : OpId) → M.find q.x.machine name ≡ None
    pub lacking : length q.x.log ≤ length q.y.held + most

  completes_all : (most k used : ℕ) → used + k ≤ most → (w : World S) → Reached M C w → (a : Ready k used w)
      (names : List OpId) → ((name : OpId) (o : Operation) → M.find a.q.x.machine name ≡ Some o → Among name names) →
      count_out (λ name. M.find a.q.x.machine name) names ≤ k → Leads M C w (IsPairing n m) (3 * k) (Emptied most)
  completes_all most zero used le w r a names cover few =
      is_there M C w (IsPairing n m) (3 * zero) (Emptied most) (record {
        q = a.q;
        none = covered_none M C laws copies responds n generation names (λ name. M.find a.q.x.machine name) cover
            (omega (arith, few));
        lacking = (let l = a.lacking in omega (arith, l, le));
      })
  completes_all most (suc k) used le w r a names cover few =
      go (count_out (λ name. M.find a.q.x.machine name) names) refl
      (λ new reached_new g. completes_all most k (suc used) (omega (arith, le)) new reached_new
      (ready_after w r k used a new g) names (cover_after new g) (falls new g))
    where
      cover_after : (new : World S)
          (g : Fewer M C laws copies responds n (IsPairing n m) completion_is w.nodes w.winners a.q.x new) →
          (name : OpId) (o : Operation) → M.find g.t name ≡ Some o → Among name names
      cover_after new g name o found = elim (name_cases name g.gone) [
        | inl same ↦ none_and_some (M.find g.t name) o (ap (M.find g.t) same ∙ g.now) found
        | inr differ ↦ cover name o (sym (g.others name differ) ∙ found)
      ]

      falls : (new : World S)
          (g : Fewer M C laws copies responds n (IsPairing n m) completion_is w.nodes w.winners a.q.x new) →
          count_out (λ name. M.find g.t name) names ≤ k
      falls new g =
          let l = count-falls (λ name. M.find a.q.x.machine name) (λ name. M.find g.t name)
          g.gone g.o g.was g.now g.others names
          (cover g.gone g.o g.was) in omega (arith, l, few)

      go : (c : ℕ) → count_out (λ name. M.find a.q.x.machine name) names ≡ c →
          ((new : World S) → Reached M C new →
          Fewer M C laws copies responds n (IsPairing n m) completion_is w.nodes w.winners a.q.x new →
          Leads M C new (IsPairing n m) (3 * k) (Emptied most)) → Leads M C w (IsPairing n m) (3 * suc k) (Emptied most)
      go zero is later =
          is_there M C w (IsPairing n m) (3 * suc k) (Emptied most) (record {
            q = a.q;
            none = covered_none M C laws copies responds n generation names (λ name. M.find a.q.x.machine name) cover is;
            lacking = (let l = a.lacking in omega (arith, l, le));
          })
      go (suc c) is later =
          let out = some_out (λ name. M.find a.q.x.machine name) names c is in
          at_most M C w (IsPairing n m) (3 + 3 * k) (Emptied most) (3 * suc k) (omega arith)
          (joined M C w (IsPairing n m) 3
          (Fewer M C laws copies responds n (IsPairing n m) completion_is w.nodes w.winners a.q.x) (3 * k) (Emptied most) r
          (one w r k used a out.0 out.1 out.2) later)

  -- ---- at last

  abbrev AtRest : World S → Type 0
  AtRest new = IsPairAtRest M new n m generation

  -- nothing is outstanding: the entries of the completions are sent and acknowledged
  rests : (k : ℕ) (w : World S) → Reached M C w → Emptied k w → Leads M C w (IsPairing n m) (2 * k + 2) AtRest
  rests k w r d =
      joined M C w (IsPairing n m) (2 * k) (AllHeld d.q.x d.q.y.replayed d.q.y.fetched) 2 AtRest r
      (log.sends_all M C laws copies n m generation k w r d.q d.lacking)
      (λ new reached_new h. acknowledges new reached_new h.q h.held 0 AtRest
      (is_there M C (heard new reached_new h.q h.held) (IsPairing n m) 0 AtRest (record {
        all = catching.caught_up M C laws copies n m generation new reached_new h.q h.held;
        none = λ name. ap (λ (z : Node S). M.find z.machine name) h.x_is ∙ d.none name;
        exact = pair_exact M C laws copies responds n m generation (heard new reached_new h.q h.held)
            (heard_reached new reached_new h.q h.held)
            (catching.caught_up M C laws copies n m generation new reached_new h.q h.held).pair h.held
            (λ name. ap (λ (z : Node S). M.find z.machine name) h.x_is ∙ d.none name);
      })))

  -- all is replayed: it is acknowledged, and what is outstanding is completed
  empties : (names : List OpId) → length names ≤ log_size → (w : World S) → Reached M C w → (x : Node S) (held : List Entry) →
      AllReplayed x held w → held ≡ x.log → length x.log + length names ≤ top →
      ((name : OpId) (o : Operation) → M.find x.machine name ≡ Some o → Among name names) →
      Leads M C w (IsPairing n m) (suc (suc (3 * length names + (2 * length names + 2)))) AtRest
  empties names size w r x held e all left cover =
      acknowledges w r e.q held_here (3 * length names + (2 * length names + 2)) AtRest
      (joined M C (heard w r e.q held_here) (IsPairing n m) (3 * length names) (Emptied (length names)) (2 * length names + 2)
      AtRest (heard_reached w r e.q held_here)
      (completes_all (length names) (length names) 0 (omega arith) (heard w r e.q held_here) (heard_reached w r e.q held_here)
      (ready w r e.q held_here e.replayed_is (length names) size room) names cover_here
      (count-length (λ name. M.find e.q.x.machine name) names))
      (λ new reached_new d. rests (length names) new reached_new d))
    where
      held_here : e.q.y.held ≡ e.q.x.log
      held_here = e.held_is ∙ all ∙ ap (λ (z : Node S). z.log) (sym e.x_is)

      room : length e.q.x.log + length names ≤ top
      room = let l = ap (λ (z : Node S). length z.log) e.x_is in omega (arith, l, left)

      cover_here : (name : OpId) (o : Operation) → M.find e.q.x.machine name ≡ Some o → Among name names
      cover_here name o found = cover name o (ap (λ (z : Node S). M.find z.machine name) (sym e.x_is) ∙ found)

  pub comes_to_rest : (w : World S) → Reached M C w → (p : IsPair w n m generation) (names : List OpId) →
      ((name : OpId) (o : Operation) → M.find p.x.machine name ≡ Some o → Among name names) → length names ≤ log_size →
      length p.x.log + length names ≤ top →
      Leads M C w (IsPairing n m) (2 * lacks p.x p.y + 3 * reads_left p.x p.y + 5 * length names + 5) AtRest
  comes_to_rest w r p names cover size left =
      at_most M C w (IsPairing n m)
      (2 * lacks p.x p.y + ((1 + 3 * reads_left p.x p.y) + suc (suc (3 * length names + (2 * length names + 2))))) AtRest
      (2 * lacks p.x p.y + 3 * reads_left p.x p.y + 5 * length names + 5) (omega arith)
      (joined M C w (IsPairing n m) (2 * lacks p.x p.y) (AllHeld p.x p.y.replayed p.y.fetched)
      ((1 + 3 * reads_left p.x p.y) + suc (suc (3 * length names + (2 * length names + 2)))) AtRest r
      (log.sends_all M C laws copies n m generation (lacks p.x p.y) w r p (omega arith)) held_then)
    where
      held_then : (new : World S) → Reached M C new → AllHeld p.x p.y.replayed p.y.fetched new →
          Leads M C new (IsPairing n m) ((1 + 3 * reads_left p.x p.y) + suc (suc (3 * length names + (2 * length names + 2))))
          AtRest
      held_then new reached_new h =
          joined M C new (IsPairing n m) (1 + 3 * reads_left p.x p.y) (AllReplayed h.q.x h.q.y.held)
          (suc (suc (3 * length names + (2 * length names + 2)))) AtRest reached_new
          (log.replays_all M C laws copies n m generation (reads_left p.x p.y)
          new reached_new h.q (omega (arith, fetches_left)))
          (λ later reached_later e. empties names size later reached_later h.q.x h.q.y.held e h.held room cover_here)
        where
          fetches_left : to_fetch h.q.y ≡ reads_left p.x p.y
          fetches_left =
              ap (λ z. less_fetched z (reads_among (drop h.q.y.replayed h.q.y.held))) h.fetched_is
              ∙ ap (λ z. less_fetched p.y.fetched (reads_among (drop z h.q.y.held))) h.replayed_is
              ∙ ap (λ es. less_fetched p.y.fetched (reads_among (drop p.y.replayed es)))
              (h.held ∙ ap (λ (z : Node S). z.log) h.x_is)

          room : length h.q.x.log + length names ≤ top
          room = let l = ap (λ (z : Node S). length z.log) h.x_is in omega (arith, l, left)

          cover_here : (name : OpId) (o : Operation) → M.find h.q.x.machine name ≡ Some o → Among name names
          cover_here name o found = cover name o (ap (λ (z : Node S). M.find z.machine name) (sym h.x_is) ∙ found)

pub pairs_settle : {S : Type 0} (M : Machine S) (C : Copying S) → Lawful M → IsCopying M C → Responds M → (w : World S) →
    Reached M C w → (n m generation : ℕ) (p : IsPair w n m generation) (names : List OpId) →
    ((name : OpId) (o : Operation) → M.find p.x.machine name ≡ Some o → Among name names) →
    length names ≤ log_size → length p.x.log + length names ≤ top →
    Leads M C w (IsPairing n m) (2 * lacks p.x p.y + 3 * reads_left p.x p.y + 5 * length names + 5)
    (λ new. IsPairAtRest M new n m generation)
pairs_settle M C laws copies responds w r n m generation p names cover size left =
    comes_to_rest M C laws copies responds n m generation w r p names cover size left
