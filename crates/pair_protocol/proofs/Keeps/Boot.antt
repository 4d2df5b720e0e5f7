-- The invariant holds of a world at boot.
use Rattle.std.proofs.Common.{[], ◌∙◌, ◌∷◌, ◌≡◌, ◌≤◌, ◌⊎◌, List, Some, ap, arith, inl, inr, refl, suc, sym, zero, ℕ}
use Rattle.std.specs.Prelude.{slice_get}
use Rattle.pair_protocol.proofs.Words.{Among, Arrival, Backup, Byte, Copying, IsPrefix, Lawful, Machine, Move, Node, Primary, Spare, first_node, no_terminal, opening, terminal_in, Reads}
use Rattle.pair_protocol.proofs.Invariant.{AsBackup, AtTop, CameIn, Inv, Line, LineOf, Presence, Undecided, Unused, settled}
use Rattle.pair_protocol.proofs.Traces.Lists.{same_or_not, same_some}

-- At boot.

pub at_boot : {S : Type 0} (M : Machine S) (C : Copying S) (reads : Reads) → Lawful M → Inv M C (opening M reads)
at_boot {S} M C reads laws = record {
  top = 1;
  trace = [];
  each = each;
  global = record {
    sends = λ o m. absurd m;
    arrived = λ p. arrived p;
    puts_are = λ v m. absurd m;
    reads = λ q n b m. absurd m;
    written = λ n m. absurd m;
    came = came;
    owns = tt;
    told = λ p. told p;
  };
  spares = λ n x h s. absurd (no_spare n x h s);
  earlier = λ g lt. nothing (settled (each g).line) (each 1).line.base (each g).below;
}
  where
    nodes : List (Node S)
    nodes = first_node M reads Primary ∷ first_node M reads Backup ∷ []

    arrived : (p : ℕ) (a : Arrival) → Among a (terminal_in (no_terminal ∷ no_terminal ∷ []) p).arrivals →
        Among (Byte p a.number a.byte) []
    arrived zero a m = m
    arrived (suc zero) a m = absurd m
    arrived (suc (suc p)) a m = absurd m

    told : (p : ℕ) → (terminal_in (no_terminal ∷ no_terminal ∷ []) p).told ≤ 0
    told zero = omega arith
    told (suc zero) = omega arith
    told (suc (suc p)) = omega arith

    which : (n : ℕ) (x : Node S) → slice_get nodes n ≡ Some x →
        ((n ≡ 0) × (x ≡ first_node M reads Primary)) ⊎ ((n ≡ 1) × (x ≡ first_node M reads Backup))
    which zero x h = inl (refl, same_some x (first_node M reads Primary) (Some x) refl (sym h))
    which (suc zero) x h = inr (refl, same_some x (first_node M reads Backup) (Some x) refl (sym h))
    which (suc (suc n)) x h = (cc)

    no_spare : (n : ℕ) (x : Node S) → slice_get nodes n ≡ Some x → x.role ≡ Spare → ⊥
    no_spare n x h s = elim (which n x h) [
      | inl q ↦ (let r = ap (λ (v : Node S). v.role) q.1 in (cc))
      | inr q ↦ (let r = ap (λ (v : Node S). v.role) q.1 in (cc))
    ]

    one : (n : ℕ) (x : Node S) → slice_get nodes n ≡ Some x → x.generation ≡ 1
    one n x h = elim (which n x h) [
      | inl q ↦ ap (λ (v : Node S). v.generation) q.1
      | inr q ↦ ap (λ (v : Node S). v.generation) q.1
    ]

    the_line : Line S
    the_line = record {
      reads = reads;
      base = [];
      own = [];
      more = [];
      mid = M.boot;
      stage = Undecided;
      primary = 0;
      backup = 1;
      held = [];
    }

    came : CameIn (no_terminal ∷ no_terminal ∷ []) [] []
    came = record {
      done = λ p. omega arith;
      typed = λ p. ((terminal_in (no_terminal ∷ no_terminal ∷ []) p).typed, refl);
      put = λ n m. absurd m;
    }

    made : (g : ℕ) → Presence M C nodes [] [] 1 [] g the_line → LineOf M C (opening M reads) 1 [] g
    made g pr = record {
      line = the_line;
      presence = pr;
      sound = record { based = refl; recorded = (M.boot, refl); apart = λ e. (omega arith); held = ([], refl) };
      members = λ n x h s e. elim (which n x h) [ inl q ↦ inl q.0 | inr q ↦ inr q.0 ];
      tied = refl;
      says = record { logs = λ j e m. absurd m; acks = λ h r m. absurd m; parts = λ j p m. absurd m };
      came = came;
      owns = λ h. tt;
      below = ([], refl);
      reads = record {
        heard = λ a b t u ga gb role ns.
            (let z : 0 ≡ a.reported =
            ap (λ (v : Node S). v.reported) (same_some (first_node M reads Primary) a (Some a) (sym t) refl) in
            omega (arith, z));
        told = λ j r b m u gb ns. absurd m;
        waits = λ t s b u gb role v m. absurd m;
      };
    }

    nothing : (xs ys : List Move) → IsPrefix xs [] → IsPrefix xs ys
    nothing [] ys h = (ys, refl)
    nothing (x ∷ xs) ys h = let e = h.1 in (cc)

    each : (g : ℕ) → LineOf M C (opening M reads) 1 [] g
    each g = elim (same_or_not g 1) [
      | inl e ↦ made g (AtTop e refl
          (record {
            a = first_node M reads Primary;
            there = refl;
            generation = sym e;
            is_primary = record {
              role = inl refl;
              reads = refl;
              made = record { runs = refl; count = laws.counts [] M.boot refl; list = refl };
              copy = refl;
              covered = omega arith;
              image = λ s k. (cc);
              logged = λ k. record { log = refl; notes = λ o m. absurd m };
            };
          })
          (record {
            b = first_node M reads Backup;
            there = refl;
            generation = sym e;
            held = refl;
            is_backup = record {
              state = AsBackup refl (λ k. (cc))
                  (record {
                    ms = [];
                    runs = refl;
                    count = laws.counts [] M.boot refl;
                    within = ([], refl);
                    few = omega arith;
                    place = inl refl;
                  });
              log = record { copy = refl; start = refl; held = ([], refl) };
            };
          }))
      | inr d ↦ made g (Unused d (record {
        nobody = λ n x h s e. d (sym e ∙ one n x h);
        no_log = λ j e m. m;
        no_ack = λ h r m. m;
        no_part = λ j p m. m;
        no_winner = refl;
      }))
    ]
