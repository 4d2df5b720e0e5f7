-- The primary's host sends what its backup's lacks, entry by entry, by the outside, and the other acknowledges them all.
use Rattle.std.proofs.Common.{◌≡◌, ℕ, zero, suc, ◌+◌, ◌*◌, ◌≤◌, inl, inr, true, not, Some, [], ◌∷◌, length, length-append, refl, sym, ap, ◌∙◌, arith, eq-eqb}
use Rattle.std.specs.Prelude.{nat_lt, slice_get, slice_set}
use Rattle.std.proofs.lemmas.Option.{slice_get_cases}
use Rattle.i8080_words.specs.declared.refusal.Fault.TheVariants.{BadAck, WrongGeneration}
use Rattle.pair_protocol.proofs.Words.{Acknowledgement, Backup, Copying, Entry, IsCopying, Lawful, LogEntry, Machine, Node, Primary, World, hears, holds, replay_told}
use Rattle.pair_protocol.specs.Refusals.{acknowledge_refusal, at_node, deliver_acknowledgement_refusal, deliver_log_refusal, fault_if, first_of, generation_refusal, role_refusal, send_refusal}
use Rattle.pair_protocol.proofs.Traces.Lists.{get_set, get_set_other}
use Rattle.pair_progress.specs.CatchingUp.{IsCaughtUp, IsPair, lacks}
use Rattle.pair_progress.proofs.CatchingUp as catching
use Rattle.pair_progress.proofs.Completing.{not_less}
use Rattle.pair_progress.proofs.Passing.{acts_first, in_role, passed}
use Rattle.host_law.specs.Host.{Passes}
use Rattle.host_law.specs.Host as host
use Rattle.host_law.specs.Outside as outside
use Rattle.host_law.proofs.Following.{node-there}
use Rattle.host_law.proofs.Words.{Carries, Fleet, Shows}
use Rattle.host_progress.specs.Exchanges.{HostsReach}
use Rattle.host_progress.specs.Laws.{Either}
use Rattle.host_progress.proofs.Answering.{in_three}
use Rattle.host_progress.proofs.Exchanging.{at_most, is_there}
use Rattle.host_progress.proofs.Fetching.{passes_at}
use Rattle.host_progress.proofs.Showing.{backup_joins, backup_real, host_there, nobody_won, primary_joins, primary_real}

module _ {S : Type 0} (M : Machine S) (C : Copying S) (laws : Lawful M) (copies : IsCopying M C) (n m generation : ℕ) where
  -- the hosts of a whole pair
  pub record HavePair (f : Fleet S) (x y : Node S) : Type 0 where
    pub primary : slice_get f.hosts n ≡ Some x
    pub backup : slice_get f.hosts m ≡ Some y
    pub primary_up : x.running ≡ true
    pub backup_up : y.running ≡ true
    pub primary_role : x.role ≡ Primary
    pub backup_role : y.role ≡ Backup
    pub primary_generation : x.generation ≡ generation
    pub backup_generation : y.generation ≡ generation

  -- they show one, of which nobody has won
  abbrev pub shown_pair : (f : Fleet S) (w : World S) → Shows M C f w → (x y : Node S) → HavePair f x y →
      IsPair w n m generation
  shown_pair f w h x y p =
      let px = node-there M C f w h n x p.primary (primary_real x p.primary_role) in
      let py = node-there M C f w h m y p.backup (backup_real y p.backup_role) in
      record {
        x = x;
        y = y;
        primary = px;
        backup = py;
        primary_up = p.primary_up;
        backup_up = p.backup_up;
        primary_role = p.primary_role;
        backup_role = p.backup_role;
        primary_generation = p.primary_generation;
        backup_generation = p.backup_generation;
        undecided = nobody_won M C laws copies w h.reached n m generation x y Backup
            (record { there = px; up = p.primary_up; role_is = p.primary_role })
            (record { there = py; up = p.backup_up; role_is = p.backup_role }) tt refl p.primary_generation
            p.backup_generation;
      }

  pub have_pair : (f : Fleet S) (w : World S) → Shows M C f w → (p : IsPair w n m generation) → HavePair f p.x p.y
  have_pair f w h p = record {
    primary = host_there M C f w h n p.x p.primary (primary_joins p.x p.primary_role);
    backup = host_there M C f w h m p.y p.backup (backup_joins p.y p.backup_role);
    primary_up = p.primary_up;
    backup_up = p.backup_up;
    primary_role = p.primary_role;
    backup_role = p.backup_role;
    primary_generation = p.primary_generation;
    backup_generation = p.backup_generation;
  }

  -- one of the hosts changes
  apart : (f : Fleet S) (w : World S) → Shows M C f w → (x y : Node S) → HavePair f x y → n ≡ m → ⊥
  apart f w h x y p = catching.apart M C laws copies n m generation w h.reached (shown_pair f w h x y p)

  pub backup_now : (f : Fleet S) (w : World S) → Shows M C f w → (x y : Node S) → HavePair f x y → (z : Node S) →
      z.running ≡ y.running → z.role ≡ y.role → z.generation ≡ y.generation → (l : Fleet S) →
      l.hosts ≡ slice_set f.hosts m z → HavePair l x z
  backup_now f w h x y p z up role g l hosts = record {
    primary = ap (λ xs. slice_get xs n) hosts ∙ get_set_other f.hosts m n z (apart f w h x y p) ∙ p.primary;
    backup = ap (λ xs. slice_get xs m) hosts ∙ get_set f.hosts m y z p.backup;
    primary_up = p.primary_up;
    backup_up = up ∙ p.backup_up;
    primary_role = p.primary_role;
    backup_role = role ∙ p.backup_role;
    primary_generation = p.primary_generation;
    backup_generation = g ∙ p.backup_generation;
  }

  pub primary_now : (f : Fleet S) (w : World S) → Shows M C f w → (x y : Node S) → HavePair f x y → (z : Node S) →
      z.running ≡ x.running → z.role ≡ x.role → z.generation ≡ x.generation → (l : Fleet S) →
      l.hosts ≡ slice_set f.hosts n z → HavePair l z y
  primary_now f w h x y p z up role g l hosts = record {
    primary = ap (λ xs. slice_get xs n) hosts ∙ get_set f.hosts n x z p.primary;
    backup = ap (λ xs. slice_get xs m) hosts ∙ get_set_other f.hosts n m z (λ e. apart f w h x y p (sym e)) ∙ p.backup;
    primary_up = up ∙ p.primary_up;
    backup_up = p.backup_up;
    primary_role = role ∙ p.primary_role;
    backup_role = p.backup_role;
    primary_generation = g ∙ p.primary_generation;
    backup_generation = p.backup_generation;
  }

  module _ (Who : ℕ → Type 0) (who_n : Who n) (who_m : Who m) (End : World S → Type 0) where
    module _ (f : Fleet S) (w : World S) (h : Shows M C f w) (x y : Node S) (p : HavePair f x y) where
      abbrev q : IsPair w n m generation
      q = shown_pair f w h x y p

      same_generation : x.generation ≡ y.generation
      same_generation = p.primary_generation ∙ sym p.backup_generation

      -- ---- an entry is sent and held

      module _ (e : Entry) (got : slice_get x.log (length y.held) ≡ Some e) where
        may_send : Passes x (send_refusal (length y.held))
        may_send = ap (λ o. at_node o (send_refusal (length y.held))) (sym q.primary)
            ∙ catching.may_send M C laws copies n m generation w h.reached q e got

        may_hold : Passes y (deliver_log_refusal x.generation)
        may_hold = passes_at y Backup (deliver_log_refusal x.generation) p.backup_role refl
            (passed (role_refusal (Backup ∷ []) y) (generation_refusal x.generation y ∷ [])
            (in_role y (Backup ∷ []) (acts_first y Backup [] p.backup_up p.backup_role refl))
            (ap (λ b. first_of (fault_if (not b) WrongGeneration ∷ [])) (eq-eqb x.generation y.generation same_generation)))

        sends_one : (most : ℕ) →
            ((l : Fleet S) (v : World S) → Shows M C l v → HavePair l x (holds y e) → HostsReach M C l Who most End) →
            HostsReach M C f Who (suc (suc (suc most))) End
        sends_one most rest =
            in_three M C laws copies Who End f w h n x p.primary who_n most
            (Carries (LogEntry x.generation (length y.held) e)) (host.SendsEntry (length y.held) e may_send got)
            (Carries (LogEntry x.generation (length y.held) e)) f.outside (outside.Passes _) m y (holds y e) p.backup who_m
            (host.TakesEntry x.generation (length y.held) e true (holds y e) may_hold (refl, refl))
            (λ l v shown hosts o. rest l v shown (backup_now f w h x y p (holds y e) refl refl refl l hosts))

      -- ---- what is held is acknowledged

      may_tell : Passes y acknowledge_refusal
      may_tell = passes_at y Backup acknowledge_refusal p.backup_role refl
          (in_role y (Backup ∷ []) (acts_first y Backup [] p.backup_up p.backup_role refl))

      module _ (all : y.held ≡ x.log) where
        may_hear : Passes x (deliver_acknowledgement_refusal y.generation (length y.held))
        may_hear = passes_at x Primary (deliver_acknowledgement_refusal y.generation (length y.held)) p.primary_role refl
            (passed (role_refusal (Primary ∷ []) x)
            (generation_refusal y.generation x ∷ fault_if (nat_lt (length x.log) (length y.held)) BadAck ∷ [])
            (in_role x (Primary ∷ []) (acts_first x Primary [] p.primary_up p.primary_role refl))
            (passed (generation_refusal y.generation x) (fault_if (nat_lt (length x.log) (length y.held)) BadAck ∷ [])
            (ap (λ b. fault_if (not b) WrongGeneration) (eq-eqb y.generation x.generation (sym same_generation)))
            (ap (λ b. first_of (fault_if b BadAck ∷ []))
            (not_less (length x.log) (length y.held) (let s = ap length all in omega (arith, s))))))

        abbrev pub heard : Node S
        heard = hears x (length y.held) (replay_told y)

        -- all that is logged is covered then
        pub all_covered : heard.covered ≡ length x.log
        all_covered =
            let s = ap length all in
            let c = catching.covered_few M C laws copies n m generation w h.reached q in
            omega (arith, s, c)

        pub acknowledges : (most : ℕ) →
            ((l : Fleet S) (v : World S) → Shows M C l v → HavePair l heard y → HostsReach M C l Who most End) →
            HostsReach M C f Who (suc (suc (suc most))) End
        acknowledges most rest =
            in_three M C laws copies Who End f w h m y p.backup who_m most
            (Carries (Acknowledgement y.generation (length y.held) (replay_told y)))
            (host.Acknowledges (length y.held) (replay_told y) may_tell (refl, refl))
            (Carries (Acknowledgement y.generation (length y.held) (replay_told y))) f.outside (outside.Passes _) n x heard
            p.primary who_n
            (host.TakesAcknowledgement y.generation (length y.held) (replay_told y) heard.covered heard may_hear (refl, refl))
            (λ l v shown hosts o. rest l v shown (primary_now f w h x y p heard refl refl refl l hosts))

    -- entry by entry, until all is held
    pub sends_all : (k : ℕ) (f : Fleet S) (w : World S) → Shows M C f w → (x y : Node S) → HavePair f x y →
        length x.log ≤ length y.held + k → (most : ℕ) →
        ((l : Fleet S) (v : World S) → Shows M C l v → (z : Node S) → HavePair l x z → z.held ≡ x.log →
        z.replayed ≡ y.replayed → z.fetched ≡ y.fetched → HostsReach M C l Who most End) →
        HostsReach M C f Who (3 * k + most) End
    sends_all zero f w h x y p few most rest =
        at_most M C Who End f most (3 * zero + most) (omega arith)
        (rest f w h y p (catching.whole_prefix y.held x.log
        (catching.front M C laws copies n m generation w h.reached (shown_pair f w h x y p)) (omega (arith, few))) refl refl)
    sends_all (suc k) f w h x y p few most rest = elim (slice_get_cases x.log (length y.held)).1 [
      | inl g ↦
          (let l = length-append y.held (g.0 ∷ []) in
          at_most M C Who End f (suc (suc (suc (3 * k + most)))) (3 * suc k + most) (omega arith)
          (sends_one f w h x y p g.0 g.2 (3 * k + most)
          (λ l v shown new. sends_all k l v shown x (holds y g.0) new
          (let e = length-append y.held (g.0 ∷ []) in omega (arith, few, e)) most rest)))
      | inr g ↦ at_most M C Who End f most (3 * suc k + most) (omega arith)
          (rest f w h y p (catching.whole_prefix y.held x.log
          (catching.front M C laws copies n m generation w h.reached (shown_pair f w h x y p)) g.0) refl refl)
    ]

  -- all is held, and then it is acknowledged
  catches_up : (k : ℕ) (f : Fleet S) (w : World S) → Shows M C f w → (x y : Node S) → HavePair f x y →
      length x.log ≤ length y.held + k →
      HostsReach M C f (Either n m) (3 * k + 3) (λ new. IsCaughtUp new n m generation)
  catches_up k f w h x y p few =
      sends_all (Either n m) (inl refl) (inr refl) (λ new. IsCaughtUp new n m generation) k f w h x y p few 3
      (λ l v shown z pair all replayed fetched. acknowledges (Either n m) (inl refl) (inr refl)
      (λ new. IsCaughtUp new n m generation) l v shown x z pair all 0
      (λ t u seen end. is_there M C (Either n m) (λ new. IsCaughtUp new n m generation) t u 0 seen (record {
        pair = shown_pair t u seen (heard (Either n m) (inl refl) (inr refl) (λ new. IsCaughtUp new n m generation) l v shown x z pair all) z end;
        held = all;
        covered = all_covered (Either n m) (inl refl) (inr refl) (λ new. IsCaughtUp new n m generation) l v shown x z pair all;
      })))

pub pairs_catch_up : {S : Type 0} (M : Machine S) (C : Copying S) → Lawful M → IsCopying M C → (f : Fleet S) (w : World S) →
    Shows M C f w → (n m generation : ℕ) (p : IsPair w n m generation) →
    HostsReach M C f (Either n m) (3 * lacks p.x p.y + 3) (λ new. IsCaughtUp new n m generation)
pairs_catch_up M C laws copies f w h n m generation p =
    catches_up M C laws copies n m generation (lacks p.x p.y) f w h p.x p.y
    (have_pair M C laws copies n m generation f w h p) (omega arith)
