-- A list is read one value after another: what was read so far, and what is left to be read.
use Rattle.std.proofs.Common.{◌≡◌, ℕ, suc, zero, ◌+◌, ◌-◌, ◌<◌, List, [], ◌∷◌, ◌++◌, length, Option, Some, None, refl, sym, ap, ◌∙◌, append_assoc, append-nil, arith}
use Rattle.std.proofs.lemmas.Option.{same_Some}
use Rattle.log_entry.specs.Numbers.{◌>>=◌}
use Rattle.clone_state.proofs.Words.{Codec, first_read, read_each}

-- what is read, after the values that were read before
abbrev after_these : {A : Type 0} → List A → List A × List ℕ → Option (List A × List ℕ)
after_these done q = Some (done ++ q.0, q.1)

-- a value, and so many more
abbrev after_one : {A : Type 0} → A → List A × List ℕ → Option (List A × List ℕ)
after_one x q = Some (x ∷ q.0, q.1)

abbrev next_read : {A : Type 0} → Codec A → ℕ → A × List ℕ → Option (List A × List ℕ)
next_read c n r = read_each c n r.1 >>= after_one r.0

-- these values, and then so many more
unfoldable pub collected : {A : Type 0} → Codec A → List A → ℕ → List ℕ → Option (List A × List ℕ)
collected c done n bytes = read_each c n bytes >>= after_these done

-- at first nothing was read
pub none_collected : {A : Type 0} (c : Codec A) (n : ℕ) (bytes : List ℕ) → read_each c n bytes ≡ collected c [] n bytes
unfolding collected
none_collected {A} c n bytes = go (read_each c n bytes)
  where
    go : (o : Option (List A × List ℕ)) → o ≡ (o >>= after_these [])
    go None = refl
    go (Some q) = refl

-- one more is read
one_collected : {A : Type 0} (c : Codec A) (done : List A) (n : ℕ) (bytes rest : List ℕ) (x : A)
    → c.read bytes ≡ Some (x, rest) → collected c done (suc n) bytes ≡ collected c (done ++ x ∷ []) n rest
unfolding collected
one_collected {A} c done n bytes rest x e =
    ap (λ (o : Option (A × List ℕ)). (o >>= next_read c n) >>= after_these done) e ∙ go (read_each c n rest)
  where
    go : (o : Option (List A × List ℕ)) → ((o >>= after_one x) >>= after_these done)
        ≡ (o >>= after_these (done ++ x ∷ []))
    go None = refl
    go (Some q) = ap (λ (zs : List A). Some (zs, q.1)) (sym (append_assoc done (x ∷ []) q.0))

-- the next one cannot be read
stops_collecting : {A : Type 0} (c : Codec A) (done : List A) (n : ℕ) (bytes : List ℕ) → c.read bytes ≡ None
    → collected c done (suc n) bytes ≡ None
unfolding collected
stops_collecting {A} c done n bytes e =
    ap (λ (o : Option (A × List ℕ)). (o >>= next_read c n) >>= after_these done) e

-- ---- with i of n values read

pub stopped : {A : Type 0} (c : Codec A) (done : List A) (n i : ℕ) (bytes : List ℕ) → i < n → c.read bytes ≡ None
    → collected c done (n - i) bytes ≡ None
stopped c done n i bytes less e =
    let next : n - i ≡ suc (n - (i + 1)) = omega arith in
    ap (λ m. collected c done m bytes) next ∙ stops_collecting c done (n - (i + 1)) bytes e

pub went_on : {A : Type 0} (c : Codec A) (done : List A) (n i : ℕ) (bytes rest : List ℕ) (x : A) → i < n
    → c.read bytes ≡ Some (x, rest)
    → collected c done (n - i) bytes ≡ collected c (done ++ x ∷ []) (n - (i + 1)) rest
went_on c done n i bytes rest x less e =
    let next : n - i ≡ suc (n - (i + 1)) = omega arith in
    ap (λ m. collected c done m bytes) next ∙ one_collected c done (n - (i + 1)) bytes rest x e

pub all_collected : {A : Type 0} (c : Codec A) (done : List A) (n i : ℕ) (bytes : List ℕ) → i ≡ n
    → collected c done (n - i) bytes ≡ Some (done, bytes)
unfolding collected
all_collected {A} c done n i bytes e =
    let none : n - i ≡ 0 = omega arith in
    ap (λ m. read_each c m bytes >>= after_these done) none ∙ ap (λ (xs : List A). Some (xs, bytes)) (append-nil done)

-- ---- how many there are

-- a list has as many values as were asked for
pub read_count : {A : Type 0} (c : Codec A) (n : ℕ) (bytes : List ℕ) (r : List A × List ℕ)
    → read_each c n bytes ≡ Some r → length r.0 ≡ n
read_count {A} c zero bytes r e = ap (λ (q : List A × List ℕ). length q.0) (sym (same_Some ([], bytes) r e))
read_count {A} c (suc n) bytes r e =
    let x = first_read (c.read bytes) (next_read c n) r e in
    let y = first_read (read_each c n x.0.1) (after_one x.0.0) r x.2 in
    ap (λ (q : List A × List ℕ). length q.0) (sym (same_Some (x.0.0 ∷ y.0.0, y.0.1) r y.2))
    ∙ ap suc (read_count c n x.0.1 y.0 y.1)
