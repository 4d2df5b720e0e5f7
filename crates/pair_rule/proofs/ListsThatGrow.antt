-- Lists that grow: the copy of a list, acknowledgements, arrivals; and who has won.
use Rattle.std.proofs.Common.{◌≡◌, ℕ, zero, suc, ◌+◌, ◌≤◌, eqb, cond, Bool, true, false, List, [], ◌∷◌, ◌++◌, length, sym, refl, ap, ◌∙◌, subst, ◌⊎◌, inl, inr, ⊎_elim, arith, length-append, append_assoc, Option, Some, None, le_refl}
use mathlib.Core.Option.{some, some-injective, some-ne-none}
use lib.ListN.{get_elem?}
use prog.Atomic.{either}
use Rattle.pair_rule.proofs.Words.{AllAre, Among, Arrived, Byte, Decided, Entry, IsByteOf, Operation, Packet, Rising, StartsWith, WhereSome, Write, accepted_after, arrives, last_or, winner_of}
use Rattle.pair_rule.proofs.Filled.{all_more}

pub longer_prefix : (list copy : List Entry) (e : Entry) → StartsWith list copy → StartsWith (list ++ e ∷ []) copy
longer_prefix list copy e s = (s.0 ++ e ∷ [], ap (λ z. z ++ e ∷ []) s.1 ∙ append_assoc copy s.0 (e ∷ []))

pub next_is : (copy more : List Entry) (e : Entry) → get_elem? (copy ++ more) (length copy) ≡ some e
    → (rest : List Entry) × (more ≡ e ∷ rest)
next_is [] [] e at = absurd (some-ne-none e (sym at))
next_is [] (x ∷ xs) e at = (xs, ap (λ z. z ∷ xs) (some-injective x e at))
next_is (c ∷ cs) more e at = next_is cs more e at

-- the entry of the list at the copy's length makes a longer copy
pub one_more : (list copy : List Entry) (e : Entry) → StartsWith list copy → get_elem? list (length copy) ≡ some e
    → StartsWith list (copy ++ e ∷ [])
one_more list copy e s at = let n = next_is copy s.0 e (ap (λ z. get_elem? z (length copy)) (sym s.1) ∙ at) in
    (n.0, s.1 ∙ ap (λ z. copy ++ z) n.1 ∙ sym (append_assoc copy (e ∷ []) n.0))

pub grown_prefix : (list copy : List Entry) (q : Packet) (b : Bool) → eqb q.index (length copy) ≡ b → StartsWith list copy
    → get_elem? list q.index ≡ some q.entry → StartsWith list (cond b (copy ++ q.entry ∷ []) copy)
grown_prefix list copy q true is s at = let e : q.index ≡ length copy =
    grind (arith) in one_more list copy q.entry s (ap (get_elem? list) (sym e) ∙ at)
grown_prefix list copy q false is s at = s

pub rising_higher : (low high high' : ℕ) (xs : List ℕ) → high ≤ high' → Rising low high xs → Rising low high' xs
rising_higher low high high' [] le r = omega arith
rising_higher low high high' (x ∷ xs) le r = (r.0, rising_higher x high high' xs le r.1)

pub grown_length : (copy : List Entry) (q : Packet) (b : Bool) → length copy ≤ length (cond b (copy ++ q.entry ∷ []) copy)
grown_length copy q true = omega (arith, length-append copy (q.entry ∷ []))
grown_length copy q false = le_refl (length copy)

pub last_below : (low high : ℕ) (xs : List ℕ) → Rising low high xs → last_or low xs ≤ high
last_below low high [] r = r
last_below low high (x ∷ xs) r = last_below x high xs r.1

pub rising_more : (low high : ℕ) (xs : List ℕ) → Rising low high xs → Rising low high (xs ++ high ∷ [])
rising_more low high [] r = (r, le_refl high)
rising_more low high (x ∷ xs) r = (r.0, rising_more x high xs r.1)

pub last_more : (low x : ℕ) (xs : List ℕ) → last_or low (xs ++ x ∷ []) ≡ x
last_more low x [] = refl
last_more low x (y ∷ ys) = last_more y x ys

pub last_among : (low : ℕ) (xs : List ℕ) → (last_or low xs ≡ low) ⊎ Among (last_or low xs) xs
last_among low [] = inl refl
last_among low (x ∷ xs) = ⊎_elim (λ e. inr (inl e)) (λ (t : Among (last_or x xs) xs). inr (inr t)) (last_among x xs)

-- the next byte is accepted, any other is dropped
pub accepts_one : (n : ℕ) (xs ys : List Arrived) (m : ℕ) (a : Arrived) (b : Bool)
    → (accepted_after (n + 1) ys ≡ cond (eqb a.number (accepted_after (n + 1) xs + 1)) (accepted_after (n + 1) xs + 1)
    (accepted_after (n + 1) xs))
    → (accepted_after n ys ≡ cond (eqb a.number (accepted_after n xs + 1)) (accepted_after n xs + 1) (accepted_after n xs))
    → cond b (accepted_after (n + 1) ys) (accepted_after n ys) ≡ cond
    (eqb a.number (cond b (accepted_after (n + 1) xs) (accepted_after n xs) + 1))
    (cond b (accepted_after (n + 1) xs) (accepted_after n xs) + 1) (cond b (accepted_after (n + 1) xs) (accepted_after n xs))
accepts_one n xs ys m a true e d = e
accepts_one n xs ys m a false e d = d

pub more_accepted : (n : ℕ) (xs : List Arrived) (a : Arrived)
    → accepted_after n (xs ++ a ∷ []) ≡ cond (eqb a.number (accepted_after n xs + 1)) (accepted_after n xs + 1)
    (accepted_after n xs)
more_accepted n [] a = refl
more_accepted n (x ∷ xs) a = accepts_one n xs (xs ++ a ∷ []) n a (eqb x.number (n + 1)) (more_accepted (n + 1) xs a)
    (more_accepted n xs a)

pub no_fewer : (xs : List Arrived) (a : Arrived) → accepted_after 0 xs ≤ accepted_after 0 (xs ++ a ∷ [])
no_fewer xs a = subst (λ n. accepted_after 0 xs ≤ n) (sym (more_accepted 0 xs a)) (go (eqb a.number (accepted_after 0 xs + 1)))
  where
    go : (b : Bool) → accepted_after 0 xs ≤ cond b (accepted_after 0 xs + 1) (accepted_after 0 xs)
    go true = omega arith
    go false = le_refl (accepted_after 0 xs)

pub fewer_arrived : (o : Option Operation) (xs : List Arrived) → accepted_after 0 xs ≤ accepted_after 0 (arrives o xs)
fewer_arrived None xs = le_refl (accepted_after 0 xs)
fewer_arrived (Some (Byte port number byte)) xs = no_fewer xs record { number = number; byte = byte }
fewer_arrived (Some (Write w)) xs = le_refl (accepted_after 0 xs)

pub all_arrived : (port : ℕ) (released : List Operation) (o : Option Operation) (xs : List Arrived)
    → WhereSome o (IsByteOf port released) → AllAre xs (λ a. Among (Byte port a.number a.byte) released)
    → AllAre (arrives o xs) (λ a. Among (Byte port a.number a.byte) released)
all_arrived port released None xs i all = all
all_arrived port released (Some (Byte to number byte)) xs i all =
    all_more xs record { number = number; byte = byte } (λ a. Among (Byte port a.number a.byte) released) all
    (subst (λ p. Among (Byte p number byte) released) i.0 i.1)
all_arrived port released (Some (Write w)) xs i all = all

pub decide_primary : (a b : ℕ) (z : Bool) → eqb (winner_of a b) 0 ≡ z → Decided a b
    → Decided (cond z 1 (winner_of a b)) b × (winner_of (cond z 1 (winner_of a b)) b ≡ either z 1 (winner_of a b))
decide_primary zero zero true is d = (
  record {
    few = omega arith;
    same = λ x y. absurd (y refl);
    primary_lost = λ e. absurd (omega arith);
    backup_lost = λ e. absurd (omega arith);
  },
  refl,
)
decide_primary zero zero false is d = absurd (let e : true ≡ false = is in cc)
decide_primary zero (suc b) true is d = let e : suc b ≡ 0 = grind arith in absurd (omega arith)
decide_primary zero (suc b) false is d =
    (record { few = d.few; same = λ x y. refl; primary_lost = λ e. e; backup_lost = λ e. e }, refl)
decide_primary (suc a) b true is d = let e : suc a ≡ 0 = grind arith in absurd (omega arith)
decide_primary (suc a) b false is d = (d, refl)

pub decide_backup : (a b : ℕ) (z : Bool) → eqb (winner_of a b) 0 ≡ z → Decided a b
    → Decided a (cond z 2 (winner_of a b)) × (winner_of a (cond z 2 (winner_of a b)) ≡ either z 2 (winner_of a b))
decide_backup zero zero true is d = (
  record {
    few = omega arith;
    same = λ x y. absurd (x refl);
    primary_lost = λ e. absurd (omega arith);
    backup_lost = λ e. absurd (omega arith);
  },
  refl,
)
decide_backup zero zero false is d = absurd (let e : true ≡ false = is in cc)
decide_backup zero (suc b) true is d = let e : suc b ≡ 0 = grind arith in absurd (omega arith)
decide_backup zero (suc b) false is d = (d, refl)
decide_backup (suc a) b true is d = let e : suc a ≡ 0 = grind arith in absurd (omega arith)
decide_backup (suc a) b false is d = (
  record {
    few = d.few;
    same = λ x y. refl;
    primary_lost = λ e. e;
    backup_lost = λ e. e;
  },
  refl,
)
