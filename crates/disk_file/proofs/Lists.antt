-- Laws of lists that are written over in one part.
use Rattle.std.proofs.Common.{◌≡◌, ℕ, ◌+◌, ◌-◌, ◌≤◌, List, ◌++◌, length, take, drop, sym, ◌∙◌, ap, subst, arith, append_assoc, length-append, length-drop}
use Rattle.std.proofs.lemmas.List.{drop_at, take-take, drop-drop, drop-take, take-append-le, drop-append-le, length-take-le}
use Rattle.std.proofs.Math.Seq.{take-append-add}

-- two lists differ at most in this range
pub record Apart (at n : ℕ) (a b : List ℕ) : Type 0 where
  pub size : length a ≡ length b
  pub before : take at a ≡ take at b
  pub after : drop (at + n) a ≡ drop (at + n) b

-- a list with other values in a range
abbrev pub over : ℕ → List ℕ → List ℕ → List ℕ
over at x a = take at a ++ x ++ drop (at + length x) a

pub over_size : (at : ℕ) (x a : List ℕ) → at + length x ≤ length a → length (over at x a) ≡ length a
over_size at x a le = omega (arith, length-append (take at a ++ x) (drop (at + length x) a), length-append (take at a) x, length-take-le at a (omega (arith, le)), length-drop (at + length x) a, le)

pub over_before : (at : ℕ) (x a : List ℕ) → at + length x ≤ length a → (n : ℕ) → n ≤ at → take n (over at x a) ≡ take n a
over_before at x a le n nle =
    let size : length (take at a) ≡ at = length-take-le at a (omega (arith, le)) in
    ap (λ (l : List ℕ). take n l) (append_assoc (take at a) x (drop (at + length x) a))
    ∙ take-append-le n (take at a) (x ++ drop (at + length x) a) (omega (arith, size, nle))
    ∙ take-take n at a nle

pub over_after : (at : ℕ) (x a : List ℕ) → at + length x ≤ length a → (n : ℕ) → drop (at + length x + n) (over at x a) ≡ drop (at + length x + n) a
over_after at x a le n =
    let size : length (take at a ++ x) ≡ at + length x = omega (arith, length-append (take at a) x, length-take-le at a (omega (arith, le))) in
    sym (drop-drop n (at + length x) (over at x a))
    ∙ ap (λ (l : List ℕ). drop n l) (drop_at (take at a ++ x) (drop (at + length x) a) (at + length x) size)
    ∙ drop-drop n (at + length x) a

-- what stands before a range that is written over, and after it
pub over_up_to : (at : ℕ) (x a : List ℕ) → at + length x ≤ length a → (n : ℕ) → take (at + length x + n) (over at x a) ≡ (take at a ++ x) ++ take n (drop (at + length x) a)
over_up_to at x a le n =
    let size : length (take at a ++ x) ≡ at + length x = omega (arith, length-append (take at a) x, length-take-le at a (omega (arith, le))) in
    ap (λ (k : ℕ). take (k + n) (over at x a)) (sym size) ∙ take-append-add (take at a ++ x) (drop (at + length x) a) n

pub over_from : (at : ℕ) (x a : List ℕ) → at + length x ≤ length a → (n : ℕ) → n ≤ at → drop n (over at x a) ≡ (drop n (take at a) ++ x) ++ drop (at + length x) a
over_from at x a le n nle =
    let size : length (take at a) ≡ at = length-take-le at a (omega (arith, le)) in
    let long : n ≤ length (take at a ++ x) = omega (arith, length-append (take at a) x, size, nle) in
    drop-append-le n (take at a ++ x) (drop (at + length x) a) long
    ∙ ap (λ (l : List ℕ). l ++ drop (at + length x) a) (drop-append-le n (take at a) x (omega (arith, size, nle)))

-- lists that differ in a range are the same once it is written over
pub same_over : (at : ℕ) (x a b : List ℕ) → Apart at (length x) a b → over at x a ≡ over at x b
same_over at x a b apart = ap (λ (l : List ℕ). l ++ x ++ drop (at + length x) a) apart.before ∙ ap (λ (l : List ℕ). take at b ++ x ++ l) apart.after

-- and they still differ at most there if another range is written over
pub below : (at n q : ℕ) (y a b : List ℕ) → q + length y ≤ at → at + n ≤ length a → Apart at n a b → Apart at n (over q y a) (over q y b)
below at n q y a b order le apart =
    let m = at - (q + length y) in
    let is : at ≡ q + length y + m = omega (arith, order) in
    let la : q + length y ≤ length a = omega (arith, order, le) in
    let lb : q + length y ≤ length b = omega (arith, order, le, apart.size) in
    let front : take q a ≡ take q b = sym (take-take q at a (omega (arith, order))) ∙ ap (λ (l : List ℕ). take q l) apart.before ∙ take-take q at b (omega (arith, order)) in
    let upto : take (q + length y + m) a ≡ take (q + length y + m) b = subst (λ (k : ℕ). take k a ≡ take k b) is apart.before in
    let mid : take m (drop (q + length y) a) ≡ take m (drop (q + length y) b) =
    sym (drop-take (q + length y) m a) ∙ ap (λ (l : List ℕ). drop (q + length y) l) upto ∙ drop-take (q + length y) m b in
    let end : at + n ≡ q + length y + (m + n) = omega (arith, is) in
    let before : take (q + length y + m) (over q y a) ≡ take (q + length y + m) (over q y b) =
    over_up_to q y a la m ∙ ap (λ (l : List ℕ). (l ++ y) ++ take m (drop (q + length y) a)) front ∙ ap (λ (l : List ℕ). (take q b ++ y) ++ l) mid ∙ sym (over_up_to q y b lb m) in
    let after : drop (q + length y + (m + n)) (over q y a) ≡ drop (q + length y + (m + n)) (over q y b) =
    over_after q y a la (m + n) ∙ subst (λ (k : ℕ). drop k a ≡ drop k b) end apart.after ∙ sym (over_after q y b lb (m + n)) in
    record {
      size = over_size q y a la ∙ apart.size ∙ sym (over_size q y b lb);
      before = subst (λ (k : ℕ). take k (over q y a) ≡ take k (over q y b)) (sym is) before;
      after = subst (λ (k : ℕ). drop k (over q y a) ≡ drop k (over q y b)) (sym end) after;
    }

pub above : (at n q : ℕ) (y a b : List ℕ) → at + n ≤ q → q + length y ≤ length a → Apart at n a b → Apart at n (over q y a) (over q y b)
above at n q y a b order la apart =
    let m = q - (at + n) in
    let is : q ≡ at + n + m = omega (arith, order) in
    let lb : q + length y ≤ length b = omega (arith, la, apart.size) in
    let mid : drop (at + n) (take q a) ≡ drop (at + n) (take q b) =
    ap (λ (k : ℕ). drop (at + n) (take k a)) is ∙ drop-take (at + n) m a ∙ ap (λ (l : List ℕ). take m l) apart.after ∙ sym (drop-take (at + n) m b) ∙ ap (λ (k : ℕ). drop (at + n) (take k b)) (sym is) in
    let end : q + length y ≡ at + n + (m + length y) = omega (arith, is) in
    let last : drop (q + length y) a ≡ drop (q + length y) b =
    ap (λ (k : ℕ). drop k a) end ∙ sym (drop-drop (m + length y) (at + n) a) ∙ ap (λ (l : List ℕ). drop (m + length y) l) apart.after ∙ drop-drop (m + length y) (at + n) b ∙ ap (λ (k : ℕ). drop k b) (sym end) in
    record {
      size = over_size q y a la ∙ apart.size ∙ sym (over_size q y b lb);
      before = over_before q y a la at (omega (arith, order)) ∙ apart.before ∙ sym (over_before q y b lb at (omega (arith, order)));
      after = over_from q y a la (at + n) order ∙ ap (λ (l : List ℕ). (l ++ y) ++ drop (q + length y) a) mid ∙ ap (λ (l : List ℕ). (drop (at + n) (take q b) ++ y) ++ l) last ∙ sym (over_from q y b lb (at + n) order);
    }
