-- A fleet that has just begun shows the opening world, with its spare hosts.
use Rattle.std.proofs.Common.{[], ◌∷◌, ◌≡◌, List, Some, ap, arith, inl, inr, length, refl, subst, suc, sym, zero, ℕ}
use Rattle.std.specs.Prelude.{slice_get}
use Rattle.pair_protocol.specs.Change as change
use Rattle.pair_protocol.specs.Node.{first_node}
use Rattle.pair_protocol.proofs.Traces.Lists.{get-last, same_some}
use Rattle.host_law.specs.Shows.{IsNumbered, IsShownAt}
use Rattle.pair_protocol.specs.World.{no_terminal}
use Rattle.host_law.proofs.Words.{After, AreTerminals, AtBoot, Backup, Copying, IsTerminal, Machine, Node, Reached, Reads, Shows, Terminal, Winner, World, booted, opening, spare, terminal_in, winner_in, with_host, with_spares}

-- spare hosts change nothing but the nodes
record Spares {S : Type 0} (M : Machine S) (C : Copying S) (w v : World S) : Type 0 where
  reached : Reached M C v
  numbered : (n : ℕ) (z : Node S) → slice_get v.nodes n ≡ Some z → IsNumbered n z
  terminals : v.terminals ≡ w.terminals
  winners : v.winners ≡ w.winners
  puts : v.puts ≡ w.puts

pub shown-same : {S : Type 0} (nodes : List (Node S)) (n : ℕ) → IsShownAt (slice_get nodes n) (slice_get nodes n)
shown-same [] n = tt
shown-same (x ∷ nodes) zero = inl refl
shown-same (x ∷ nodes) (suc n) = shown-same nodes n

-- hosts 0 and 1 are of generation 1
first-numbered : {S : Type 0} (M : Machine S) (reads : Reads) (n : ℕ) (z : Node S) →
    slice_get (opening M reads).nodes n ≡ Some z → IsNumbered n z
first-numbered M reads zero z e = inr (omega arith)
first-numbered {S} M reads (suc zero) z e =
    let s = same_some (first_node M reads Backup) z (Some (first_node M reads Backup)) refl e in
    let g = ap (λ (v : Node S). v.generation) s in
    inr (omega (arith, g))
first-numbered M reads (suc (suc n)) z e = absurd (cc)

spares : {S : Type 0} (M : Machine S) (C : Copying S) (k : ℕ) (w : World S) → Reached M C w →
    ((n : ℕ) (z : Node S) → slice_get w.nodes n ≡ Some z → IsNumbered n z) → Spares M C w (with_spares M k w)
spares M C zero w r low = record { reached = r; numbered = low; terminals = refl; winners = refl; puts = refl }
spares {S} M C (suc k) w r low =
    let s = spares M C k (with_host M w) (After r change.HostComes)
    (λ n z there. elim (get-last w.nodes (spare M) z n there) [
      | inl old ↦ low n z old
      | inr new ↦ inl (ap (λ (v : Node S). v.role) new)
    ]) in
    record { reached = s.reached; numbered = s.numbered; terminals = s.terminals; winners = s.winners; puts = s.puts }

terminals-same : (ts : List Terminal) → ts ≡ no_terminal ∷ no_terminal ∷ [] →
    AreTerminals (no_terminal ∷ no_terminal ∷ []) ts
terminals-same ts e = record {
  ports = refl;
  count = ap length e;
  each = λ port. subst (λ l. IsTerminal (terminal_in (no_terminal ∷ no_terminal ∷ []) port) (terminal_in l port)) (sym e)
      (record { arrivals = refl; typed = refl; told = omega arith });
}

nobody : (winners : List Winner) → winners ≡ [] → (g n : ℕ) → winner_in winners g ≡ Some n → winner_in [] g ≡ Some n
nobody winners e g n is = subst (λ l. winner_in l g ≡ Some n) e is

pub boot-shown : {S : Type 0} (M : Machine S) (C : Copying S) (reads : Reads) (k : ℕ) →
    Shows M C (booted M reads k) (with_spares M k (opening M reads))
boot-shown M C reads k =
    let s = spares M C k (opening M reads) (AtBoot reads) (first-numbered M reads) in
    record {
      reached = s.reached;
      nodes = shown-same (with_spares M k (opening M reads)).nodes;
      numbered = s.numbered;
      terminals = terminals-same _ s.terminals;
      winners = nobody _ s.winners;
      puts = sym s.puts;
      hosts = refl;
      frames = λ frame among. absurd among;
    }
