-- The same end of a ring, or none.
use Rattle.std.proofs.Common.{◌≡◌, ℕ, List, [], ◌++◌, Option, Some, None, refl, sym, ◌∙◌}
use Rattle.console_terminal.specs.Lines.{IsSameEnd, IsSameStart, came_by, keys_in}
use Rattle.console_terminal.specs.declared.keyboard.Stroke.{Stroke}
use Rattle.rtrb.specs.declared.consumer.Consumer.{Consumer}
use Rattle.rtrb.specs.declared.producer.Producer.{Producer}

module _ {T A P : Type 0} where
  pub same_end : (a : Option (Consumer T A P)) → IsSameEnd a a
  same_end None = tt
  same_end (Some a) = ((refl, refl, refl, refl), refl)

  pub same_end_on : (a b c : Option (Consumer T A P)) → IsSameEnd a b → IsSameEnd b c → IsSameEnd a c
  same_end_on None None None p q = tt
  same_end_on (Some a) (Some b) (Some c) p q =
      ((q.0.0 ∙ p.0.0, q.0.1 ∙ p.0.1, q.0.2 ∙ p.0.2, q.0.3 ∙ p.0.3), q.1 ∙ p.1)
  same_end_on None (Some b) c p q = absurd p
  same_end_on (Some a) None c p q = absurd p
  same_end_on None None (Some c) p q = absurd q
  same_end_on (Some a) (Some b) None p q = absurd q

  pub same_start : (a : Option (Producer T A P)) → IsSameStart a a
  same_start None = tt
  same_start (Some a) = ((refl, refl, refl, refl), refl)

  pub same_start_on : (a b c : Option (Producer T A P)) → IsSameStart a b → IsSameStart b c → IsSameStart a c
  same_start_on None None None p q = tt
  same_start_on (Some a) (Some b) (Some c) p q =
      ((q.0.0 ∙ p.0.0, q.0.1 ∙ p.0.1, q.0.2 ∙ p.0.2, q.0.3 ∙ p.0.3), q.1 ∙ p.1)
  same_start_on None (Some b) c p q = absurd p
  same_start_on (Some a) None c p q = absurd p
  same_start_on None None (Some c) p q = absurd q
  same_start_on (Some a) (Some b) None p q = absurd q

-- without a ring no key comes
pub none_heard : {A P : Type 0} (more : List ℕ) (old new : Option (Consumer Stroke A P)) → old ≡ None → IsSameEnd old new →
    keys_in (came_by new) ≡ keys_in (came_by old) ++ more → more ≡ []
none_heard more None None none same came = sym came
none_heard more None (Some r) none same came = absurd same
none_heard more (Some r) new none same came = absurd cc
