-- A terminal that accepts more, and a host that is added, keep the invariant.
use Rattle.std.proofs.Common.{[], ◌++◌, ◌+◌, ◌∷◌, ◌≡◌, ◌≤◌, ◌⊎◌, Bool, List, ap, arith, cond, false, inl, inr, length, refl, subst, suc, sym, true, zero, ℕ}
use Rattle.std.specs.Prelude.{◌==◌, slice_set}
use Rattle.pair_protocol.proofs.Words.{Among, Arrival, Byte, Copying, IsPrefix, Machine, Node, Terminal, Timed, World, accepted_after, inputs, keys, operations, spare, terminal, terminal_in, with_host, with_terminal}
use Rattle.pair_protocol.proofs.Invariant.Frames.{SameNodes, line-framed, same_nodes-refl}
use Rattle.pair_protocol.proofs.Invariant.{CameIn, Inv, Next}
use Rattle.pair_protocol.proofs.Traces.Lists.{get-last, get-longer, prefix-refl, prefix-trans}

-- A terminal changes.

pub at_set : (ts : List Terminal) (p : ℕ) (t : Terminal) (q : ℕ) →
    (terminal_in (slice_set ts p t) q ≡ terminal_in ts q) ⊎ ((q ≡ p) × (terminal_in (slice_set ts p t) q ≡ t))
at_set [] p t q = inl refl
at_set (x ∷ ts) zero t zero = inr (refl, refl)
at_set (x ∷ ts) zero t (suc q) = inl refl
at_set (x ∷ ts) (suc p) t zero = inl refl
at_set (x ∷ ts) (suc p) t (suc q) = elim (at_set ts p t q) [ inl h ↦ inl h | inr h ↦ inr (ap suc h.0, h.1) ]

-- it has accepted no less, and the keys typed begin as before
pub record Serves (old new : Terminal) : Type 0 where
  pub accepts : length (accepted_after 0 old.arrivals) ≤ length (accepted_after 0 new.arrivals)
  pub types : IsPrefix old.typed new.typed

pub serves-same : (t : Terminal) → Serves t t
serves-same t = record { accepts = omega arith; types = prefix-refl t.typed }

pub keep-terminal : {S : Type 0} (M : Machine S) (C : Copying S) (w : World S) (i : Inv M C w) (p : ℕ)
    (t : Terminal) → Serves (terminal w p) t →
    ((a : Arrival) → Among a t.arrivals → Among (Byte p a.number a.byte) (operations i.trace)) →
    t.told ≤ length (keys p (inputs 0 i.trace)) → Next M C i.trace (with_terminal w p t)
unfolding line-framed
keep-terminal {S} M C w i p t better arrived told = record {
  inv = record {
    top = i.top;
    trace = i.trace;
    each = λ k. line-framed M C w i.top i.top k i.trace i.trace w.nodes (slice_set w.terminals p t) w.winners w.puts
        (same_nodes-refl w.nodes k) came refl (prefix-refl i.trace) (omega arith) (λ e. (e, refl)) (λ e. e) (i.each k);
    global = record {
      sends = i.global.sends;
      puts_are = i.global.puts_are;
      reads = i.global.reads;
      written = i.global.written;
      came = came (inputs 0 i.trace) i.global.came;
      owns = i.global.owns;
      arrived = λ q a. elim (at_set w.terminals p t q) [
        | inl e ↦ subst (λ z. Among a z.arrivals →
            Among (Byte q a.number a.byte) (operations i.trace)) (sym e) (i.global.arrived q a)
        | inr e ↦ subst (λ z. Among a z.arrivals →
            Among (Byte q a.number a.byte) (operations i.trace)) (sym e.1)
            (subst (λ j. Among a t.arrivals →
            Among (Byte j a.number a.byte) (operations i.trace)) (sym e.0) (arrived a))
      ];
      told = λ q. elim (at_set w.terminals p t q) [
        | inl e ↦ subst (λ z. z.told ≤ length (keys q (inputs 0 i.trace))) (sym e) (i.global.told q)
        | inr e ↦ subst (λ z. z.told ≤ length (keys q (inputs 0 i.trace))) (sym e.1)
            (subst (λ j. t.told ≤ length (keys j (inputs 0 i.trace))) (sym e.0) told)
      ];
    };
    spares = i.spares;
    earlier = i.earlier;
  };
  grows = prefix-refl i.trace;
}
  where
    all : (q : ℕ) → Serves (terminal w q) (terminal_in (slice_set w.terminals p t) q)
    all q = elim (at_set w.terminals p t q) [
      | inl e ↦ subst (λ z. Serves (terminal w q) z) (sym e) (serves-same (terminal w q))
      | inr e ↦ subst (λ z. Serves (terminal w q) z) (sym e.1) (subst (λ j. Serves (terminal w j) t) (sym e.0) better)
    ]

    came : (ts : List Timed) → CameIn w.terminals w.puts ts → CameIn (slice_set w.terminals p t) w.puts ts
    came ts h = record {
      done = λ q. (let a = h.done q in let b = (all q).accepts in omega arith);
      typed = λ q. prefix-trans _ _ _ (h.typed q) (all q).types;
      put = h.put;
    }

pub accepted-longer : (n : ℕ) (xs ys : List Arrival) → IsPrefix (accepted_after n xs) (accepted_after n (xs ++ ys))
accepted-longer n [] ys = (accepted_after n ys, refl)
accepted-longer n (a ∷ xs) ys = go (a.number == n + 1) (accepted-longer (n + 1) xs ys) (accepted-longer n xs ys)
  where
    go : (t : Bool) → IsPrefix (accepted_after (n + 1) xs) (accepted_after (n + 1) (xs ++ ys)) →
        IsPrefix (accepted_after n xs) (accepted_after n (xs ++ ys)) →
        IsPrefix (cond t (a.byte ∷ accepted_after (n + 1) xs) (accepted_after n xs))
        (cond t (a.byte ∷ accepted_after (n + 1) (xs ++ ys)) (accepted_after n (xs ++ ys)))
    go true h k = (h.0, ap (λ zs. a.byte ∷ zs) h.1)
    go false h k = k

pub keep-hosts : {S : Type 0} (M : Machine S) (C : Copying S) (w : World S) (i : Inv M C w) →
    Next M C i.trace (with_host M w)
unfolding line-framed
keep-hosts {S} M C w i = record {
  inv = record {
    top = i.top;
    trace = i.trace;
    each = λ k. line-framed M C w i.top i.top k i.trace i.trace (w.nodes ++ spare M ∷ []) w.terminals w.winners w.puts
        (same k) (λ ts came. came) refl (prefix-refl i.trace) (omega arith) (λ e. (e, refl)) (λ e. e) (i.each k);
    global = i.global;
    spares = λ m z t r. elim (get-last w.nodes (spare M) z m t) [
      | inl q ↦ i.spares m z q r
      | inr q ↦ ap (λ (v : Node S). v.generation) q
    ];
    earlier = i.earlier;
  };
  grows = prefix-refl i.trace;
}
  where
    same : (k : ℕ) → SameNodes w.nodes (w.nodes ++ spare M ∷ []) k
    same k = record {
      stays = λ m z t nz e. get-longer w.nodes (spare M ∷ []) m z t;
      was = λ m z t nz e. elim (get-last w.nodes (spare M) z m t) [
        | inl q ↦ q
        | inr q ↦ absurd (nz (ap (λ (v : Node S). v.role) q))
      ];
    }
