-- How far a backup may run ahead, by its end of the channel, and what it is then.
use Rattle.std.proofs.Common.{◌≡◌, ℕ, ◌-◌, true, Option, None, List, [], ◌∷◌, length, Ok, refl, sym, ap, subst, ◌∙◌, arith, length-drop}
use Rattle.std.proofs.lemmas.Bool.{eq-eqb}
use Rattle.std.specs.Prelude.{min, nat_le, ◌==◌, ◌&&◌}
use Rattle.ft_node.proofs.Words.{Backup, IsFollower, Machine, Node, Reads, Receiving, RunsOn, Stopped, role_refusal}
use Rattle.ft_node.specs.Ahead.{RanAhead, RunsAhead, may_run_ahead, steps_ahead}
use Rattle.ft_node.specs.Calls as calls
use Rattle.ft_node.specs.declared.ran.Lead.{Lead}

module _ {S : Type 0} (M : Machine S) (reads : Reads) (x : Node S) (s : S) (fetched : Option (List ℕ)) (r : Receiving)
    (f : IsFollower Backup reads s fetched r x) where
  -- how many entries it has not replayed
  left : length r.entries ≡ length x.held - x.replayed
  left = ap length f.left ∙ length-drop x.replayed x.held

  -- all that it holds is replayed
  pub all_replayed : r.entries ≡ [] → (x.replayed == length x.held) ≡ true
  all_replayed none =
      let l = left in
      let n : length r.entries ≡ 0 = ap length none in
      let w = f.within in
      eq-eqb x.replayed (length x.held) (omega arith)

  pub may_if_replayed : (lead : Lead) (held : ℕ) → r.entries ≡ [] → held ≡ r.held
      → may_run_ahead lead x ≡ nat_le lead.entries held
  may_if_replayed lead held none same =
      ap (λ all. all && nat_le lead.entries (length x.held)) (all_replayed none)
      ∙ ap (λ n. nat_le lead.entries n) (f.held ∙ sym same)

  -- steps of its machine, and nothing else changes
  pub runs_ahead : (lead : Lead) (turns most : ℕ) (t : S) (come : Option (List ℕ)) (stopped : Stopped)
      → most ≡ min turns (steps_ahead M lead x) → come ≡ fetched → RunsOn M s most stopped t
      → RunsAhead M lead turns x (Ok stopped) (IsFollower Backup reads t come r)
  runs_ahead lead turns most t come stopped bound same runs =
      subst (λ o. calls.Unless {A = Stopped} o (Ok stopped) (IsFollower Backup reads t come r x)
      (calls.Makes x (RanAhead M (min turns (steps_ahead M lead x)) stopped) (IsFollower Backup reads t come r)))
      (sym not_refused)
      (record {
        y = record x { machine = t };
        done = record {
          s = t;
          runs = subst (λ m. RunsOn M m (min turns (steps_ahead M lead x)) stopped t) (sym f.machine)
              (subst (λ n. RunsOn M s n stopped t) bound runs);
          after = refl;
        };
        after = record {
          role_is = f.role_is;
          up = f.up;
          generation = f.generation;
          reads_are = f.reads_are;
          machine = refl;
          come = f.come ∙ sym same;
          held = f.held;
          left = f.left;
          within = f.within;
        };
      })
    where
      not_refused : role_refusal (Backup ∷ []) x ≡ None
      not_refused = rw (f.role_is, f.up) refl
