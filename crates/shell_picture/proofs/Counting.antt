-- One more of a number of things: of the events of a series, and of the messages that go over a link.
use Rattle.std.proofs.Common.{◌≡◌, ℕ, suc, ◌+◌, ◌-◌, ◌≤◌, List, [], ◌++◌, Option, refl, ap, sym, ◌∙◌, arith, append_assoc}
use Rattle.std.specs.Prelude.{option_to_list}
use Rattle.pair_events.specs.declared.event.Event.{Event}
use Rattle.shell_picture.specs.Links.{Traffic, all_go, may_go}
use Rattle.shell_picture.specs.Series.{run_of}

module _ (has : ℕ → Option Event) (first : ℕ) where
  pub none_yet : run_of has first (first - first) ≡ []
  none_yet = let none : first - first ≡ 0 = omega arith in rw none refl

  pub one_more : (i : ℕ) → first ≤ i
      → run_of has first (i + 1 - first) ≡ run_of has first (i - first) ++ option_to_list (has i)
  one_more i within =
      let more : i + 1 - first ≡ suc (i - first) = omega arith in
      let there : first + (i - first) ≡ i = omega arith in
      ap (λ n. run_of has first n) more ∙ ap (λ n. run_of has first (i - first) ++ option_to_list (has n)) there

  -- so it is of a list to which the events are added
  pub added : (old mid new : List Event) (i : ℕ) (found : Option Event) → first ≤ i
      → mid ≡ old ++ run_of has first (i - first) → found ≡ has i → new ≡ mid ++ option_to_list found
      → new ≡ old ++ run_of has first (i + 1 - first)
  added old mid new i found within before is more =
      more ∙ ap (λ l. l ++ option_to_list found) before
      ∙ append_assoc old (run_of has first (i - first)) (option_to_list found)
      ∙ ap (λ o. old ++ (run_of has first (i - first) ++ option_to_list o)) is
      ∙ ap (λ l. old ++ l) (sym (one_more i within))

  pub no_more : (i end : ℕ) → end ≤ i → i - first ≤ end - first → run_of has first (i - first) ≡ run_of has first (end - first)
  no_more i end past within =
      let all : i - first ≡ end - first = omega arith in ap (λ n. run_of has first n) all

module _ (percent : ℕ) (arrival : ℕ → Option Event) (first : ℕ) (t : Traffic) where
  pub none_gone : all_go percent arrival first (first - first) t ≡ t
  none_gone = let none : first - first ≡ 0 = omega arith in rw none refl

  pub one_goes : (i : ℕ) → first ≤ i
      → all_go percent arrival first (i + 1 - first) t ≡ may_go percent (arrival i) (all_go percent arrival first (i - first) t)
  one_goes i within =
      let more : i + 1 - first ≡ suc (i - first) = omega arith in
      let there : first + (i - first) ≡ i = omega arith in
      ap (λ n. all_go percent arrival first n t) more
      ∙ ap (λ n. may_go percent (arrival n) (all_go percent arrival first (i - first) t)) there

  pub all_gone : (i end : ℕ) → end ≤ i → i - first ≤ end - first
      → all_go percent arrival first (i - first) t ≡ all_go percent arrival first (end - first) t
  all_gone i end past within =
      let all : i - first ≡ end - first = omega arith in ap (λ n. all_go percent arrival first n t) all
