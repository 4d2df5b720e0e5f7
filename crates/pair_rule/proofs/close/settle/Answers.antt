use Rattle.std.proofs.Common.{ap, sym, ◌∙◌, ℕ, List, length}
use mathlib.Core.Option.{some-injective}
use lib.ListN.{get_elem?}
use Rattle.pair_rule.specs.declared.view.PrimaryView.{PrimaryView}
use Rattle.pair_rule.specs.declared.view.BackupView.{BackupView}
use Rattle.pair_rule.specs.Knowledge.{last_or, winner_of}
use Rattle.pair_rule.proofs.JoinSeats.{settles}
use Rattle.pair_rule.proofs.close.settle.Goals as goal

pub returns : goal.returns
returns c = let p = c.requires.parts in let z = settles _ _ _ _ _ p.0 p.1 p.2 p.3 c.close_with-closed.ensures.values.2 in record {
  known = z.0;
  stands = z.1;
  ran = z.2;
  primary_is = z.3;
  backup_is = z.4;
  terminal_is = z.5;
  disk_is = z.6;
  tail_is = some-injective _ _ (sym c.word-tail.ensures ∙ ap (λ (l : List ℕ). get_elem? l 0) z.7.1) ∙ ap
      (λ (k : PrimaryView). length k.list) z.3;
  held_is = some-injective _ _ (sym c.word-held.ensures ∙ ap (λ (l : List ℕ). get_elem? l 1) z.7.1) ∙ ap
      (λ (k : BackupView). last_or 0 k.held_values) z.4;
  winner_is = some-injective _ _ (sym c.word-winner.ensures ∙ ap (λ (l : List ℕ). get_elem? l 2) z.7.1) ∙
      (λ i. winner_of (z.3 i).winner (z.4 i).winner);
  taken = z.8;
  came = z.9;
}
