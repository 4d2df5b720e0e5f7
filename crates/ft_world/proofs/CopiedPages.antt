-- The pages of the nodes that are alone: a station was lent, and the others are as they were.
use Rattle.std.proofs.Common.{◌≡◌, ◌∙◌, ◌≢◌, ℕ, Bool, Err, List, Ok, None, Option, Some, ap, inl, inr, refl, subst, sym}
use Rattle.std.specs.Option.{option_and_then}
use Rattle.std.specs.Prelude.{OnOk, Result, slice_get}
use Rattle.std.proofs.lemmas.Bool.{cases_eq}
use Rattle.pair_protocol.proofs.Traces.Lists.{get_set_cases}
use Rattle.ft_world.proofs.Words.{AreFreshened, HasJoined, Host, JoinsHosts, LowestAreCopied, Machine, Opening, PagesChange, PagesKeep, PagesStay, Station, WithStation, alone_at, alone_board, alone_on, get_set, get_set_other}
use Rattle.ft_node.specs.Pages.{PagesGoOn, SamePages}
use Rattle.ft_world.specs.declared.host.Host.TheVariants as host

same_pages : {B : Type 0} (stale : B → ℕ → Bool) (o : Option B) → PagesGoOn stale (SamePages stale) o o
same_pages stale None = tt
same_pages stale (Some board) = refl

module _ {B H : Type 0} (stale : B → ℕ → Bool) where
  pub pages_kept : (hosts : List (Host B H)) → PagesKeep stale hosts hosts
  pages_kept hosts = λ k. same_pages stale (alone_at hosts k)

  pub pages_kept_on : {A E : Type 0} (answer : Result A E) (hosts : List (Host B H)) → OnOk answer (PagesKeep stale hosts hosts)
  pages_kept_on (Ok a) hosts = pages_kept hosts
  pages_kept_on (Err e) hosts = tt

  module _ (old new : List (Host B H)) (n : ℕ) (before after : Station B H) (there : slice_get old n ≡ Some (host.Node before))
      (with : WithStation old n after new) where
    was_here : alone_at old n ≡ alone_board before.node
    was_here = ap (option_and_then alone_on) there

    is_here : alone_at new n ≡ alone_board after.node
    is_here = ap (λ hosts. alone_at hosts n) with.put
        ∙ ap (option_and_then alone_on) (get_set old n (host.Node before) (host.Node after) there)

    elsewhere : (k : ℕ) → k ≢ n → PagesGoOn stale (SamePages stale) (alone_at old k) (alone_at new k)
    elsewhere k other =
        let same : alone_at new k ≡ alone_at old k =
        ap (λ hosts. alone_at hosts k) with.put
        ∙ ap (option_and_then alone_on) (get_set_other old n k (host.Node after) other) in
        subst (λ o. PagesGoOn stale (SamePages stale) (alone_at old k) o) (sym same) (same_pages stale (alone_at old k))

    -- by any rule
    pub pages_change : (rule : B → B → Type 0) → PagesGoOn stale rule (alone_board before.node) (alone_board after.node)
        → PagesChange stale rule n old new
    pages_change rule goes = record {
      here = subst (λ o. PagesGoOn stale rule o (alone_at new n)) (sym was_here)
          (subst (λ o. PagesGoOn stale rule (alone_board before.node) o) (sym is_here) goes);
      others = elsewhere;
    }

    -- if they stay
    pub pages_keep : PagesStay stale before.node after.node → PagesKeep stale old new
    pages_keep stay = λ k. elim (cases_eq k n) [
      | inl same ↦
          let c = pages_change (SamePages stale) stay in
          subst (λ m. PagesGoOn stale (SamePages stale) (alone_at old m) (alone_at new m)) (sym same) c.here
      | inr other ↦ elsewhere k other
    ]

    -- if the lowest were copied
    pub pages_copied : (pages left : ℕ) → AreFreshened stale pages left before.node after.node
        → PagesChange stale (LowestAreCopied stale pages) n old new
    pages_copied pages left are =
        pages_change (LowestAreCopied stale pages)
        (subst (λ o. PagesGoOn stale (LowestAreCopied stale pages) o (alone_board after.node)) (sym are.was)
        (subst (λ o. PagesGoOn stale (LowestAreCopied stale pages) (Some are.before) o) (sym are.is) are.lowest))

  -- a host has joined: its node is not alone
  pub pages_joined : {S : Type 0} (state : B → S) (M : Machine S) (old mid new : List (Host B H)) (at : ℕ) (opening : Opening)
      → PagesKeep stale old mid → JoinsHosts state M mid at opening new → PagesKeep stale old new
  pages_joined state M old mid new at opening keep j = λ k. go k (slice_get new k) refl
    where
      not_alone : (joined : Host B H) → HasJoined state M opening joined → alone_on joined ≡ None
      not_alone (host.Node station) is = is.1
      not_alone (host.Spare resources) is = refl

      none : (k : ℕ) → alone_at new k ≡ None → PagesGoOn stale (SamePages stale) (alone_at old k) (alone_at new k)
      none k e = subst (λ o. PagesGoOn stale (SamePages stale) (alone_at old k) o) (sym e) tt

      go : (k : ℕ) (there : Option (Host B H)) → slice_get new k ≡ there
          → PagesGoOn stale (SamePages stale) (alone_at old k) (alone_at new k)
      go k None e = none k (ap (option_and_then alone_on) e)
      go k (Some x) e = elim (get_set_cases mid at k j.joined x (ap (λ hosts. slice_get hosts k) (sym j.put) ∙ e)) [
        | inl p ↦ none k (ap (option_and_then alone_on) e ∙ ap alone_on p.1 ∙ not_alone j.joined j.is)
        | inr q ↦
            let same : alone_at new k ≡ alone_at mid k = ap (option_and_then alone_on) (e ∙ sym q) in
            subst (λ o. PagesGoOn stale (SamePages stale) (alone_at old k) o) (sym same) (keep k)
      ]
