-- What a screen shows is what the terminal of the world has, even if there is no such port.
use Rattle.std.proofs.Common.{◌≡◌, ◌≤◌, ◌∙◌, List, ap, inl, inr, subst, sym, ℕ}
use Rattle.std.proofs.lemmas.Bool.Decides.{leb_tells}
use Rattle.std.proofs.lemmas.List.{get_or_past}
use Rattle.ft_world.proofs.Words.{AreTerminals, PORTS, Screen, accepted_after, accepted_in, blank, no_terminal, screen_in, terminal_in}
use Rattle.pair_protocol.specs.World as world
use Rattle.ft_world.proofs.AtTerminals.{screen_is}

pub accepted_is : (screens : List Screen) (ts : List world.Terminal) (port : ℕ) → AreTerminals screens ts →
    (screen_in screens port).accepted ≡ accepted_in ts port
accepted_is screens ts port h = elim (leb_tells PORTS port) [
  | inl p ↦ ap (λ (s : Screen). s.accepted)
      (get_or_past screens port blank (subst (λ n. n ≤ port) (sym h.ports) p.1))
      ∙ ap (λ (t : world.Terminal). accepted_after 0 t.arrivals)
      (sym (get_or_past ts port no_terminal (subst (λ n. n ≤ port) (sym h.count) p.1)))
  | inr p ↦ (screen_is screens ts port h p.1).accepted
]

pub told_is : (screens : List Screen) (ts : List world.Terminal) (port : ℕ) → AreTerminals screens ts →
    (screen_in screens port).told ≡ (terminal_in ts port).told
told_is screens ts port h = elim (leb_tells PORTS port) [
  | inl p ↦ ap (λ (s : Screen). s.told) (get_or_past screens port blank (subst (λ n. n ≤ port) (sym h.ports) p.1))
      ∙ ap (λ (t : world.Terminal). t.told)
      (sym (get_or_past ts port no_terminal (subst (λ n. n ≤ port) (sym h.count) p.1)))
  | inr p ↦ (screen_is screens ts port h p.1).told
]
