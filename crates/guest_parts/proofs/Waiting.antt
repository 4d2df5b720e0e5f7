-- Operations that are added one after another. Bytes of a port are under their numbers and nothing else of their port
-- is, so those that were sent and not accepted are on their way. Writes in order of number are each under their own.
use Rattle.std.proofs.Common.{◌≡◌, ◌≢◌, ℕ, zero, suc, ◌+◌, ◌-◌, ◌<◌, ◌≤◌, Bool, true, false, ◌==◌, ◌||◌, List, [], ◌∷◌, ◌++◌, length, take, get_or, Some, None, is_some, refl, sym, ap, ◌∙◌, ◌⊎◌, inl, inr, ⊎_elim, arith}
use Rattle.std.specs.Prelude.{slice_index, slice_index_or, All}
use Rattle.std.specs.List.{list_any}
use Rattle.std.proofs.lemmas.Bool.Decides.{nat_tests, eqb_tells, leb_tells}
use Rattle.std.proofs.lemmas.List.{take_more, length-take, length-take-le, get_or-take, get_or_default}
use Rattle.std.proofs.lemmas.List.Elements.{All-cons, All-head, All-tail}
use Rattle.disk_dcdd.specs.declared.sector.SectorWrite.{SectorWrite}
use Rattle.event_callbacks.specs.Completions.{port_of}
use Rattle.event_callbacks.specs.declared.devices.Devices.{Devices}
use Rattle.event_callbacks.specs.declared.operations.OpId.{OpId}
use Rattle.event_callbacks.specs.declared.operations.OpId.TheVariants as id
use Rattle.event_callbacks.specs.declared.operations.Operation.{Operation}
use Rattle.event_callbacks.specs.declared.operations.Operation.TheVariants as operation
use Rattle.event_callbacks.specs.Operations.{Operations, operation_at, with_operation}
use Rattle.event_callbacks.proofs.OperationMap.{operation_at-with, operation_at-with_other}
use Rattle.guest_parts.specs.Board.{is_on_its_way}
use Rattle.guest_parts.specs.Parts.{with_each, bytes_from, bytes_of, writes_of, Rise}
use Rattle.guest_parts.proofs.Names.{AreNamed, named-with, other_byte, other_write, no_write}

-- ---- one more operation

with_each-append : (m : Operations) (xs ys : List Operation) → with_each m (xs ++ ys) ≡ with_each (with_each m xs) ys
with_each-append m [] ys = refl
with_each-append m (x ∷ xs) ys = with_each-append (with_operation m x) xs ys

bytes_from-append : (p n k : ℕ) (xs : List ℕ) (y : ℕ) → k ≡ n + length xs
    → bytes_from p n (xs ++ y ∷ []) ≡ bytes_from p n xs ++ operation.Byte p k y ∷ []
bytes_from-append p n k [] y e = let same : n ≡ k = omega (arith, e) in ap (λ j. operation.Byte p j y ∷ []) same
bytes_from-append p n k (x ∷ xs) y e =
    ap (λ ops. operation.Byte p n x ∷ ops) (bytes_from-append p (n + 1) k xs y (omega (arith, e)))

pub bytes-more : (m : Operations) (p n k : ℕ) (xs : List ℕ) (i : ℕ) → i < length xs → k ≡ n + i
    → with_each m (bytes_from p n (take (i + 1) xs))
    ≡ with_operation (with_each m (bytes_from p n (take i xs))) (operation.Byte p k (get_or xs i 0))
bytes-more m p n k xs i inside e =
    ap (λ ys. with_each m (bytes_from p n ys)) (take_more xs i 0 inside)
    ∙ ap (with_each m) (bytes_from-append p n k (take i xs) (get_or xs i 0)
    (e ∙ ap (λ j. n + j) (sym (length-take-le i xs (omega (arith, inside))))))
    ∙ with_each-append m (bytes_from p n (take i xs)) (operation.Byte p k (get_or xs i 0) ∷ [])

writes_of-append : (xs : List SectorWrite) (y : SectorWrite)
    → writes_of (xs ++ y ∷ []) ≡ writes_of xs ++ operation.Write y ∷ []
writes_of-append [] y = refl
writes_of-append (x ∷ xs) y = ap (λ ops. operation.Write x ∷ ops) (writes_of-append xs y)

pub writes-more : (m : Operations) (xs : List SectorWrite) (i : ℕ) (d : SectorWrite) → i < length xs
    → with_each m (writes_of (take (i + 1) xs))
    ≡ with_operation (with_each m (writes_of (take i xs))) (operation.Write (get_or xs i d))
writes-more m xs i d inside =
    ap (λ ys. with_each m (writes_of ys)) (take_more xs i d inside)
    ∙ ap (with_each m) (writes_of-append (take i xs) (get_or xs i d))
    ∙ with_each-append m (writes_of (take i xs)) (operation.Write (get_or xs i d) ∷ [])

-- ---- each under its own name

pub each_named : (m : Operations) (ops : List Operation) → AreNamed m → AreNamed (with_each m ops)
each_named m [] named = named
each_named m (op ∷ ops) named = each_named (with_operation m op) ops (named-with m op named)

-- ---- bytes

-- bytes of a port leave other names alone
pub bytes-other : (m : Operations) (p n : ℕ) (xs : List ℕ) (name : OpId) → ((k : ℕ) → name ≢ id.Byte p k)
    → operation_at (with_each m (bytes_from p n xs)) name ≡ operation_at m name
bytes-other m p n [] name other = refl
bytes-other m p n (x ∷ xs) name other =
    bytes-other (with_operation m (operation.Byte p n x)) p (n + 1) xs name other
    ∙ operation_at-with_other m (operation.Byte p n x) name (other n)

pub port-other : (d : Devices) (issued : List ℕ) (unaccepted : List (List ℕ)) (m : Operations) (p : ℕ) (name : OpId)
    → ((k : ℕ) → name ≢ id.Byte p k)
    → operation_at (with_each m (bytes_of d issued unaccepted p)) name ≡ operation_at m name
port-other d issued unaccepted m p name other =
    bytes-other m p (slice_index issued p + 1 - (port_of d p).unaccepted)
    (take (port_of d p).unaccepted (slice_index_or unaccepted p [])) name other

bytes-below : (m : Operations) (p n : ℕ) (xs : List ℕ) (k : ℕ) → k < n
    → operation_at (with_each m (bytes_from p n xs)) (id.Byte p k) ≡ operation_at m (id.Byte p k)
bytes-below m p n [] k low = refl
bytes-below m p n (x ∷ xs) k low =
    bytes-below (with_operation m (operation.Byte p n x)) p (n + 1) xs k (omega (arith, low))
    ∙ operation_at-with_other m (operation.Byte p n x) (id.Byte p k)
    (other_byte p k n (λ e. absurd (omega (arith, e, low))))

pub bytes-past : (m : Operations) (p n : ℕ) (xs : List ℕ) (k : ℕ) → n + length xs ≤ k
    → operation_at (with_each m (bytes_from p n xs)) (id.Byte p k) ≡ operation_at m (id.Byte p k)
bytes-past m p n [] k high = refl
bytes-past m p n (x ∷ xs) k high =
    bytes-past (with_operation m (operation.Byte p n x)) p (n + 1) xs k (omega (arith, high))
    ∙ operation_at-with_other m (operation.Byte p n x) (id.Byte p k)
    (other_byte p k n (λ e. absurd (omega (arith, e, high))))

pub bytes-there : (m : Operations) (p n : ℕ) (xs : List ℕ) (i k : ℕ) → i < length xs → k ≡ n + i
    → operation_at (with_each m (bytes_from p n xs)) (id.Byte p k) ≡ Some (operation.Byte p k (slice_index xs i))
bytes-there m p n [] i k inside e = absurd (omega (arith, inside))
bytes-there m p n (x ∷ xs) zero k inside e =
    let same : k ≡ n = omega (arith, e) in
    ap (λ j. operation_at (with_each m (bytes_from p n (x ∷ xs))) (id.Byte p j)) same
    ∙ bytes-below (with_operation m (operation.Byte p n x)) p (n + 1) xs n (omega arith)
    ∙ operation_at-with m (operation.Byte p n x)
    ∙ ap (λ j. Some (operation.Byte p j x)) (sym same)
bytes-there m p n (x ∷ xs) (suc i) k inside e =
    bytes-there (with_operation m (operation.Byte p n x)) p (n + 1) xs i k (omega (arith, inside)) (omega (arith, e))

-- the newest bytes of a port are on their way, and no others
pub bytes-on_their_way : (m : Operations) (p issued unaccepted : ℕ) (xs : List ℕ)
    → ((k : ℕ) → operation_at m (id.Byte p k) ≡ None) → length xs ≡ unaccepted → unaccepted ≤ issued → (k : ℕ)
    → is_some (operation_at (with_each m (bytes_from p (issued + 1 - unaccepted) xs)) (id.Byte p k))
    ≡ is_on_its_way issued unaccepted k
bytes-on_their_way m p issued unaccepted xs none long few k =
    let n : ℕ = issued + 1 - unaccepted in
    let later : Operations = with_each m (bytes_from p n xs) in
    ⊎_elim
    (λ below. ap is_some (bytes-below m p n xs k below ∙ none k) ∙ sym (not_yet below))
    (λ from.
    ⊎_elim
    (λ within. ap is_some (bytes-there m p n xs (k - n) k (offset_inside from within) (offset_is from))
    ∙ sym (on_its_way from within))
    (λ past. ap is_some (bytes-past m p n xs k (behind past) ∙ none k) ∙ sym (too_late past))
    (split k issued))
    (below_or_from k n)
  where
    below_or_from : (a b : ℕ) → (a < b) ⊎ (b ≤ a)
    below_or_from a b = ⊎_elim (λ t. inr t.1) (λ t. inl t.1) (leb_tells b a)

    split : (a b : ℕ) → (a ≤ b) ⊎ (b < a)
    split a b = ⊎_elim (λ t. inl t.1) (λ t. inr t.1) (leb_tells a b)

    not_yet : k < issued + 1 - unaccepted → is_on_its_way issued unaccepted k ≡ false
    not_yet below = grind (arith, nat_tests)

    on_its_way : issued + 1 - unaccepted ≤ k → k ≤ issued → is_on_its_way issued unaccepted k ≡ true
    on_its_way from within = grind (arith, nat_tests)

    too_late : issued < k → is_on_its_way issued unaccepted k ≡ false
    too_late past = grind (arith, nat_tests)

    offset_inside : issued + 1 - unaccepted ≤ k → k ≤ issued → k - (issued + 1 - unaccepted) < length xs
    offset_inside from within = omega (arith, long, few, from, within)

    offset_is : issued + 1 - unaccepted ≤ k → k ≡ issued + 1 - unaccepted + (k - (issued + 1 - unaccepted))
    offset_is from = omega (arith, from)

    behind : issued < k → issued + 1 - unaccepted + length xs ≤ k
    behind past = omega (arith, long, few, past)

-- ---- writes

-- writes leave the names of bytes alone
pub writes-byte : (m : Operations) (ws : List SectorWrite) (p k : ℕ)
    → operation_at (with_each m (writes_of ws)) (id.Byte p k) ≡ operation_at m (id.Byte p k)
writes-byte m [] p k = refl
writes-byte m (w ∷ ws) p k =
    writes-byte (with_operation m (operation.Write w)) ws p k
    ∙ operation_at-with_other m (operation.Write w) (id.Byte p k) (no_write p k w.number)

-- writes of other numbers leave a name alone
pub writes-other : (m : Operations) (ws : List SectorWrite) (n : ℕ) → All (λ (w : SectorWrite). w.number ≢ n) ws
    → operation_at (with_each m (writes_of ws)) (id.Write n) ≡ operation_at m (id.Write n)
writes-other m [] n others = refl
writes-other m (w ∷ ws) n others =
    writes-other (with_operation m (operation.Write w)) ws n (All-tail (λ (x : SectorWrite). x.number ≢ n) w ws others)
    ∙ operation_at-with_other m (operation.Write w) (id.Write n)
    (other_write n w.number (λ e. All-head (λ (x : SectorWrite). x.number ≢ n) w ws others (sym e)))

pub Rise-head : (w : SectorWrite) (ws : List SectorWrite) → Rise (w ∷ ws)
    → All (λ (x : SectorWrite). x.number ≢ w.number) ws
Rise-head w ws rise = λ k d inside e.
    let more = rise 0 (suc k) d (omega arith) (omega (arith, inside)) in
    absurd (omega (arith, more, e))

pub Rise-tail : (w : SectorWrite) (ws : List SectorWrite) → Rise (w ∷ ws) → Rise ws
Rise-tail w ws rise = λ i j d before inside. rise (suc i) (suc j) d (omega (arith, before)) (omega (arith, inside))

-- each of them is under its number
pub writes-held : (m : Operations) (ws : List SectorWrite) → Rise ws
    → All (λ (w : SectorWrite). operation_at (with_each m (writes_of ws)) (id.Write w.number)
    ≡ Some (operation.Write w)) ws
writes-held m [] rise = λ k d inside. absurd (omega (arith, inside))
writes-held m (w ∷ ws) rise =
    All-cons (λ (x : SectorWrite). operation_at (with_each m (writes_of (w ∷ ws))) (id.Write x.number)
    ≡ Some (operation.Write x)) w ws
    (writes-other (with_operation m (operation.Write w)) ws w.number (Rise-head w ws rise)
    ∙ operation_at-with m (operation.Write w))
    (writes-held (with_operation m (operation.Write w)) ws (Rise-tail w ws rise))

-- and nothing is under another number
pub writes-numbers : (m : Operations) (ws : List SectorWrite) (n : ℕ)
    → is_some (operation_at (with_each m (writes_of ws)) (id.Write n))
    ≡ (list_any (λ (w : SectorWrite). w.number == n) ws || is_some (operation_at m (id.Write n)))
writes-numbers m [] n = refl
writes-numbers m (w ∷ ws) n =
    let rest : Bool = list_any (λ (x : SectorWrite). x.number == n) ws in
    writes-numbers (with_operation m (operation.Write w)) ws n
    ∙ ⊎_elim
    (λ t. let same : w.number ≡ n = t.1 in
    ap (λ o. rest || is_some o) (ap (λ j. operation_at (with_operation m (operation.Write w)) (id.Write j)) (sym same)
    ∙ operation_at-with m (operation.Write w))
    ∙ or_true rest ∙ sym (ap (λ b. (b || rest) || is_some (operation_at m (id.Write n))) t.0))
    (λ t. let differs : w.number ≢ n = t.1 in
    ap (λ o. rest || is_some o) (operation_at-with_other m (operation.Write w) (id.Write n)
    (other_write n w.number (λ e. differs (sym e))))
    ∙ sym (ap (λ b. (b || rest) || is_some (operation_at m (id.Write n))) t.0))
    (eqb_tells w.number n)
  where
    or_true : (b : Bool) → (b || true) ≡ true
    or_true true = refl
    or_true false = refl

-- of writes in order of number, those before one have other numbers
pub earlier-differ : (ws : List SectorWrite) (i : ℕ) (d : SectorWrite) → i < length ws → Rise ws
    → All (λ (w : SectorWrite). w.number ≢ (get_or ws i d).number) (take i ws)
earlier-differ ws i d inside rise = λ k e before same.
    let low : k < i = omega (arith, before, length-take i ws) in
    let less : (get_or ws k e).number < (get_or ws i e).number = rise k i e low inside in
    let here : (get_or (take i ws) k e).number ≡ (get_or ws k e).number =
    ap (λ (w : SectorWrite). w.number) (get_or-take i ws k e low) in
    let there : (get_or ws i e).number ≡ (get_or ws i d).number =
    ap (λ (w : SectorWrite). w.number) (get_or_default ws i e d inside) in
    absurd (omega (arith, less, here, there, same))
