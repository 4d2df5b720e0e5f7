-- Who makes the events of a list, without a failure, is where the list leads.
use Rattle.std.proofs.Common.{◌≡◌, ℕ, zero, suc, ◌≤◌, inl, inr, List, [], ◌∷◌, length, length-append, refl, ap, subst, ◌∙◌, arith}
use Rattle.std.proofs.lemmas.Option.{slice_get_cases, slice_get_within}
use Rattle.pair_events.specs.declared.event.Event.{Event}
use Rattle.pair_protocol.proofs.Words.{Changes, Copying, IsCopying, Lawful, Machine, Reached, World, spare, with_host}
use Rattle.pair_protocol.specs.Reply.{Reply}
use Rattle.pair_protocol.specs.Row.{Accepts, Run}
use Rattle.pair_protocol.specs.Row as row
use Rattle.pair_protocol.proofs.RowActions.{row_changes}
use Rattle.pair_protocol.proofs.Promises.Lists.{changes_longer}
use Rattle.pair_progress.specs.Leads.{CarriedOut, First, NoneFails, Nothing}
use Rattle.pair_progress.proofs.Leading.{one_reaches}
use Rattle.pair_progress.proofs.Outcomes.{one_outcome}

-- no node is taken away
nodes_stay : {S : Type 0} (M : Machine S) (C : Copying S) (w new : World S) → Changes M C w new →
    length w.nodes ≤ length new.nodes
nodes_stay M C w new c = go (length w.nodes) refl
  where
    go : (k : ℕ) → length w.nodes ≡ k → k ≤ length new.nodes
    go zero is = omega arith
    go (suc k) is = elim (slice_get_cases w.nodes k).1 [
      | inl g ↦
          (let y = changes_longer M C w new c k g.0 g.2 in
          let l = slice_get_within new.nodes k y.y y.there in
          omega (arith, l))
      | inr g ↦ absurd (let l = g.0 in omega (arith, l, is))
    ]

run_stays : {S : Type 0} (M : Machine S) (C : Copying S) (w new : World S) (events : List Event) (replies : List Reply) →
    Run M C w events replies new → length w.nodes ≤ length new.nodes
run_stays M C w new _ _ row.Nothing = omega arith
run_stays M C w new _ _ (row.First {mid = v} {e = e} {events = es} {r = r} {replies = rs} one rest) =
    let a = nodes_stay M C w v (row_changes M C w v e r one) in
    let b = run_stays M C v new es rs rest in
    omega (arith, a, b)
run_stays M C w new events replies (row.HostComes rest) =
    let a = run_stays M C (with_host M w) new events replies rest in
    let l = length-append w.nodes (spare M ∷ []) in
    omega (arith, a, l)

-- so in a run that ends with as many nodes, no host is added
no_host : {S : Type 0} {X : Type 0} (M : Machine S) (C : Copying S) (w end : World S) (events : List Event)
    (replies : List Reply) → Run M C (with_host M w) events replies end → length end.nodes ≡ length w.nodes → X
no_host M C w end events replies rest few =
    absurd (let a = run_stays M C (with_host M w) end events replies rest in
    let l = length-append w.nodes (spare M ∷ []) in
    omega (arith, a, l, few))

module _ {S : Type 0} (M : Machine S) (C : Copying S) (laws : Lawful M) (copies : IsCopying M C) where
  pub is_followed : (w : World S) → Reached M C w → (events : List Event) (replies : List Reply) (new end : World S) →
      CarriedOut M C w events new → Run M C w events replies end → NoneFails replies →
      length end.nodes ≡ length w.nodes → end ≡ new
  is_followed w reached events replies new end Nothing row.Nothing fine few = refl
  is_followed w reached events replies new end done (row.HostComes rest) fine few =
      no_host M C w end events replies rest few
  is_followed w reached _ _ new end (First {mid = mid} {e = e} {events = es} r well p d done)
      (row.First {mid = v} {r = q} {replies = rs} one rest) fine few =
      let same : v ≡ mid =
      one_outcome M C laws copies w reached v mid q r e one (Accepts p d) fine.0 well in
      let a = nodes_stay M C w v (row_changes M C w v e q one) in
      let b = run_stays M C v end es rs rest in
      is_followed mid (one_reaches M C w mid e r reached p d) es rs new end done
      (subst (λ u. Run M C u es rs end) same rest) fine.1
      (few ∙ (let k : length w.nodes ≡ length v.nodes = omega (arith, a, b, few) in k) ∙ ap (λ u. length u.nodes) same)
