-- A terminal keeps the same of a whole one after each call: a key, a byte that it accepts, keys that are covered.
use Rattle.std.proofs.Common.{◌≡◌, ◌+◌, ◌-◌, ◌≤◌, ◌<◌, [], ◌∷◌, ◌++◌, ◌∙◌, Bool, List, None, Option, Some, Err, Ok, ap, arith, cond, drop, false, length, length-append, length-drop, ltb-true, max, refl, subst, suc, sym, true, zero, ℕ}
use Rattle.std.specs.Prelude.{◌==◌, ◌&&◌, is_none, nat_lt, ok_or, slice_get, slice_set}
use Rattle.std.proofs.lemmas.Bool.{le-ltb, ltb-false}
use Rattle.std.proofs.lemmas.List.{drop-append-le, drop-drop, length-set, set_past}
use Rattle.circular_buffer.proofs.Places.{slice_get-drop}
use Rattle.pair_protocol.proofs.Promises.OneMore.{accepted-one, terminal-set}
use Rattle.outside_switch.proofs.Words.{AreTerminals, Fault, IsTerminal, KeptTerminal, PORTS, Terminal, Unknown, accepted_after, accepted_in, after_arrival, after_telling, answered, arrived_after, blank, comes_next, covered_of, is_accepted, key_answer, key_of, next_key, no_terminal, terminal_at, terminal_in, told_after, typed_after, typed_answer, typing_answer, typing_refusal, with_key}

-- ---- one terminal

nothing_is : IsTerminal blank no_terminal
nothing_is = record { accepted = refl; keys = refl; typed = refl; told = refl; covered = omega arith }

key_is : (k : KeptTerminal) (t : Terminal) (byte : ℕ) → IsTerminal k t →
    IsTerminal (with_key k byte) (record t { typed = t.typed ++ byte ∷ [] })
key_is k t byte i =
    let count : k.first + length k.keys ≡ length t.typed = i.typed in
    record {
      accepted = i.accepted;
      keys = ap (λ l. l ++ byte ∷ []) i.keys
          ∙ sym (drop-append-le k.first t.typed (byte ∷ []) (omega (arith, count)));
      typed = omega (arith, count, length-append k.keys (byte ∷ []), length-append t.typed (byte ∷ []));
      told = i.told;
      covered = i.covered;
    }

told_is : (k : KeptTerminal) (t : Terminal) (keys : ℕ) → IsTerminal k t →
    IsTerminal (after_telling k keys) (record t { told = max t.told keys })
told_is k t keys i =
    let count : k.first + length k.keys ≡ length t.typed = i.typed in
    let covered : k.first ≤ t.told = i.covered in
    record {
      accepted = i.accepted;
      keys = ap (drop (covered_of k keys)) i.keys ∙ drop-drop (covered_of k keys) k.first t.typed;
      typed = omega (arith, count, length-drop (covered_of k keys) k.keys);
      told = ap (λ n. max n keys) i.told;
      covered = omega (arith, covered);
    }

-- what was accepted after a byte that comes next
accepted-next : (k : KeptTerminal) (t : Terminal) (number byte : ℕ) → IsTerminal k t → comes_next k number ≡ true →
    accepted_after 0 (t.arrivals ++ record { number = number; byte = byte } ∷ [])
    ≡ accepted_after 0 t.arrivals ++ byte ∷ []
accepted-next k t number byte i next =
    accepted-one t.arrivals (record { number = number; byte = byte })
    ∙ ap (λ b. accepted_after 0 t.arrivals ++ cond b (byte ∷ []) [])
    (subst (λ n. (number == n + 1) ≡ true) i.accepted next)

arrival_is : (k : KeptTerminal) (t : Terminal) (number byte : ℕ) → comes_next k number ≡ true → IsTerminal k t →
    IsTerminal (after_arrival k number)
    (record t { arrivals = t.arrivals ++ record { number = number; byte = byte } ∷ [] })
arrival_is k t number byte next i =
    let before : k.accepted ≡ length (accepted_after 0 t.arrivals) = i.accepted in
    subst (λ b. IsTerminal (cond b (record k { accepted = k.accepted + 1 }) k)
    (record t { arrivals = t.arrivals ++ record { number = number; byte = byte } ∷ [] })) (sym next)
    (record {
      accepted = (let e : k.accepted + 1 ≡ length (accepted_after 0 t.arrivals ++ byte ∷ []) =
          omega (arith, before, length-append (accepted_after 0 t.arrivals) (byte ∷ [])) in e)
          ∙ ap length (sym (accepted-next k t number byte i next));
      keys = i.keys;
      typed = i.typed;
      told = i.told;
      covered = i.covered;
    })

-- a key that is kept is the one that was typed, and none is forgotten that is not covered
key_is_typed : (k : KeptTerminal) (t : Terminal) (index byte : ℕ) → IsTerminal k t → key_of k index ≡ Some byte →
    slice_get t.typed index ≡ Some byte
key_is_typed k t index byte i is = go (nat_lt index k.first) refl is
  where
    go : (b : Bool) → nat_lt index k.first ≡ b → cond b None (slice_get k.keys (index - k.first)) ≡ Some byte →
        slice_get t.typed index ≡ Some byte
    go true e h = absurd (cc)
    go false e h =
        let low : k.first ≤ index = ltb-false index k.first e in
        sym (slice_get-drop k.first t.typed (index - k.first) index (omega (arith, low)))
        ∙ ap (λ l. slice_get l (index - k.first)) (sym i.keys) ∙ h

key_is_kept : (k : KeptTerminal) (t : Terminal) (index : ℕ) → IsTerminal k t → t.told ≤ index →
    key_of k index ≡ slice_get t.typed index
key_is_kept k t index i past =
    let covered : k.first ≤ t.told = i.covered in
    let low : k.first ≤ index = omega (arith, covered, past) in
    ap (λ b. cond b None (slice_get k.keys (index - k.first))) (le-ltb index k.first low)
    ∙ ap (λ l. slice_get l (index - k.first)) i.keys
    ∙ slice_get-drop k.first t.typed (index - k.first) index (omega (arith, low))

-- ---- both terminals

pub nothing_yet : AreTerminals (blank ∷ blank ∷ []) (no_terminal ∷ no_terminal ∷ [])
nothing_yet = record { ports = refl; count = refl; each = each }
  where
    each : (port : ℕ) → IsTerminal (terminal_at (blank ∷ blank ∷ []) port)
        (terminal_in (no_terminal ∷ no_terminal ∷ []) port)
    each zero = nothing_is
    each (suc zero) = nothing_is
    each (suc (suc port)) = nothing_is

each-set : (ks : List KeptTerminal) (ts : List Terminal) (port : ℕ) (k : KeptTerminal) (t : Terminal) →
    length ks ≡ length ts → ((q : ℕ) → IsTerminal (terminal_at ks q) (terminal_in ts q)) → IsTerminal k t →
    (q : ℕ) → IsTerminal (terminal_at (slice_set ks port k) q) (terminal_in (slice_set ts port t) q)
each-set [] [] port k t e h i q = h q
each-set [] (y ∷ ts) port k t e h i q = absurd (omega (arith, e))
each-set (x ∷ ks) [] port k t e h i q = absurd (omega (arith, e))
each-set (x ∷ ks) (y ∷ ts) zero k t e h i zero = i
each-set (x ∷ ks) (y ∷ ts) zero k t e h i (suc q) = h (suc q)
each-set (x ∷ ks) (y ∷ ts) (suc port) k t e h i zero = h zero
each-set (x ∷ ks) (y ∷ ts) (suc port) k t e h i (suc q) =
    each-set ks ts port k t (omega (arith, e)) (λ j. h (suc j)) i q

terminals-set : (ks : List KeptTerminal) (ts : List Terminal) (port : ℕ) (k : KeptTerminal) (t : Terminal) →
    AreTerminals ks ts → IsTerminal k t → AreTerminals (slice_set ks port k) (slice_set ts port t)
terminals-set ks ts port k t h i = record {
  ports = length-set ks port k ∙ h.ports;
  count = length-set ts port t ∙ h.count;
  each = each-set ks ts port k t (h.ports ∙ sym h.count) h.each i;
}

module _ (ks : List KeptTerminal) (ts : List Terminal) (h : AreTerminals ks ts) (port : ℕ) where
  k : KeptTerminal
  k = terminal_at ks port

  t : Terminal
  t = terminal_in ts port

  pub there : nat_lt port PORTS ≡ true → port < length ts
  there low = subst (λ n. port < n) (sym h.count) (ltb-true port PORTS low)

  -- a key that is typed has a port and room
  pub typed_there : (index : ℕ) → typed_answer ks port ≡ Ok index →
      (nat_lt port PORTS ≡ true) × (typing_refusal (terminal_at ks port) ≡ None) × (next_key (terminal_at ks port) ≡ index)
  typed_there index is = at (nat_lt port PORTS) refl is
    where
      room : (o : Option Fault) → typing_refusal (terminal_at ks port) ≡ o →
          answered o (next_key (terminal_at ks port)) ≡ Ok index →
          (typing_refusal (terminal_at ks port) ≡ None) × (next_key (terminal_at ks port) ≡ index)
      room None e a = (e, (cc))
      room (Some fault) e a = absurd (cc)

      at : (b : Bool) → nat_lt port PORTS ≡ b → cond b (typing_answer (terminal_at ks port)) (Err Unknown) ≡ Ok index →
          (nat_lt port PORTS ≡ true) × (typing_refusal (terminal_at ks port) ≡ None)
          × (next_key (terminal_at ks port) ≡ index)
      at true e a = let r = room (typing_refusal (terminal_at ks port)) refl a in (e, r.0, r.1)
      at false e a = absurd (cc)

  pub typed_are : (byte : ℕ) → nat_lt port PORTS ≡ true → typing_refusal (terminal_at ks port) ≡ None →
      AreTerminals (typed_after ks port byte)
      (slice_set ts port (record (terminal_in ts port) { typed = (terminal_in ts port).typed ++ byte ∷ [] }))
  typed_are byte low free =
      let new = slice_set ts port (record (terminal_in ts port) { typed = (terminal_in ts port).typed ++ byte ∷ [] }) in
      subst (λ b. AreTerminals (cond b (slice_set ks port
      (cond (is_none (typing_refusal (terminal_at ks port))) (with_key (terminal_at ks port) byte) (terminal_at ks port)))
      ks) new) (sym low)
      (subst (λ o. AreTerminals (slice_set ks port
      (cond (is_none o) (with_key (terminal_at ks port) byte) (terminal_at ks port))) new) (sym free)
      (terminals-set ks ts port (with_key (terminal_at ks port) byte)
      (record (terminal_in ts port) { typed = (terminal_in ts port).typed ++ byte ∷ [] }) h
      (key_is (terminal_at ks port) (terminal_in ts port) byte (h.each port))))

  pub told_are : (keys : ℕ) → AreTerminals (told_after ks port keys)
      (slice_set ts port (record (terminal_in ts port) { told = max (terminal_in ts port).told keys }))
  told_are keys = go (nat_lt port PORTS) refl
    where
      go : (b : Bool) → nat_lt port PORTS ≡ b →
          AreTerminals (cond b (slice_set ks port (after_telling (terminal_at ks port) keys)) ks)
          (slice_set ts port (record (terminal_in ts port) { told = max (terminal_in ts port).told keys }))
      go true e =
          terminals-set ks ts port (after_telling (terminal_at ks port) keys)
          (record (terminal_in ts port) { told = max (terminal_in ts port).told keys }) h
          (told_is (terminal_at ks port) (terminal_in ts port) keys (h.each port))
      go false e =
          subst (AreTerminals ks)
          (sym (set_past ts port (record (terminal_in ts port) { told = max (terminal_in ts port).told keys })
          (subst (λ n. n ≤ port) (sym h.count) (ltb-false port PORTS e)))) h

  pub accepted_parts : (number : ℕ) (room : Bool) → is_accepted ks port number room ≡ true →
      (nat_lt port PORTS ≡ true) × (comes_next (terminal_at ks port) number ≡ true)
  accepted_parts number room e = go (nat_lt port PORTS) room (comes_next (terminal_at ks port) number) refl refl e
    where
      go : (p q r : Bool) → nat_lt port PORTS ≡ p → comes_next (terminal_at ks port) number ≡ r → (p && q && r) ≡ true →
          (nat_lt port PORTS ≡ true) × (comes_next (terminal_at ks port) number ≡ true)
      go true true true is next e = (is, next)
      go true true false is next e = absurd (cc)
      go true false r is next e = absurd (cc)
      go false q r is next e = absurd (cc)

  pub arrived_are : (number byte : ℕ) (room : Bool) → is_accepted ks port number room ≡ true →
      AreTerminals (arrived_after ks port number room)
      (slice_set ts port (record (terminal_in ts port) {
        arrivals = (terminal_in ts port).arrivals ++ record { number = number; byte = byte } ∷ [];
      }))
  arrived_are number byte room e =
      let new = record (terminal_in ts port) {
        arrivals = (terminal_in ts port).arrivals ++ record { number = number; byte = byte } ∷ [];
      } in
      subst (λ b. AreTerminals (cond b (slice_set ks port (after_arrival (terminal_at ks port) number)) ks)
      (slice_set ts port new)) (sym e)
      (terminals-set ks ts port (after_arrival (terminal_at ks port) number) new h
      (arrival_is (terminal_at ks port) (terminal_in ts port) number byte (accepted_parts number room e).1 (h.each port)))

  -- what was accepted there then
  pub arrived_next : (number byte : ℕ) (room : Bool) → is_accepted ks port number room ≡ true →
      accepted_in (slice_set ts port (record (terminal_in ts port) {
        arrivals = (terminal_in ts port).arrivals ++ record { number = number; byte = byte } ∷ [];
      })) port
      ≡ accepted_in ts port ++ byte ∷ []
  arrived_next number byte room e =
      let parts = accepted_parts number room e in
      ap (λ (u : Terminal). accepted_after 0 u.arrivals) (terminal-set ts port _ (there parts.0))
      ∙ accepted-next (terminal_at ks port) (terminal_in ts port) number byte (h.each port) parts.1

  pub not_arrived : (number : ℕ) (room : Bool) → is_accepted ks port number room ≡ false →
      arrived_after ks port number room ≡ ks
  not_arrived number room e =
      ap (λ b. cond b (slice_set ks port (after_arrival (terminal_at ks port) number)) ks) e

  pub key_typed : (index byte : ℕ) → key_answer ks port index ≡ Ok byte →
      slice_get (terminal_in ts port).typed index ≡ Some byte
  key_typed index byte is =
      key_is_typed (terminal_at ks port) (terminal_in ts port) index byte (h.each port)
      (some (key_of (terminal_at ks port) index) is)
    where
      some : (o : Option ℕ) → ok_or o Unknown ≡ Ok byte → o ≡ Some byte
      some None e = absurd (cc)
      some (Some x) e = (cc)

  pub key_kept : (index : ℕ) → (terminal_in ts port).told ≤ index →
      key_of (terminal_at ks port) index ≡ slice_get (terminal_in ts port).typed index
  key_kept index past = key_is_kept (terminal_at ks port) (terminal_in ts port) index (h.each port) past
