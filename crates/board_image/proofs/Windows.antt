-- The window of a port as a board shows it. Its bytes are read one by one from the outstanding operations, and the places
-- after them are 00; so it is the window of the guest's checkpoint.
use Rattle.std.proofs.Common.{◌≡◌, ℕ, zero, suc, ◌+◌, ◌-◌, ◌<◌, ◌≤◌, List, ◌++◌, length, take, get_or, set, replicate, Some, ◌⊎◌, inl, inr, sym, ap, ◌∙◌, arith}
use Rattle.std.specs.Prelude.{slice_index}
use Rattle.std.proofs.Math.ListN.{get_or-eq_default}
use Rattle.std.proofs.lemmas.Bool.{cases_lt}
use Rattle.std.proofs.lemmas.Grind.{get_or-set_at}
use Rattle.std.proofs.lemmas.List.{ext_get_or, get_or-set_other, get_or-take, get_or-append_right, get_or_append_left, get_or-replicate, length-append, length-replicate, length-take-le}
use Rattle.event_callbacks.specs.Operations.{Operations, operation_at}
use Rattle.event_callbacks.specs.declared.operations.OpId.TheVariants as id
use Rattle.event_callbacks.specs.declared.operations.Operation.TheVariants as operation
use Rattle.clone_state.specs.Checkpoint.{byte_of, bytes_numbered, padded}
use Rattle.clone_state.proofs.Guests.{window_length}

-- this many places of a window have the bytes that are outstanding from this number on
abbrev pub HasBytes : Operations → ℕ → ℕ → ℕ → List ℕ → Type 0
HasBytes operations port oldest count bytes = (k : ℕ) → k < count
    → operation_at operations (id.Byte port (oldest + k)) ≡ Some (operation.Byte port (oldest + k) (slice_index bytes k))

-- every place from this one on is 00
abbrev pub IsFree : ℕ → List ℕ → Type 0
IsFree count bytes = (k : ℕ) → count ≤ k → slice_index bytes k ≡ 0

-- ---- one more byte

pub one_more : (m : Operations) (port oldest count : ℕ) (bytes : List ℕ) (byte : ℕ) → count < length bytes
    → operation_at m (id.Byte port (oldest + count)) ≡ Some (operation.Byte port (oldest + count) byte)
    → HasBytes m port oldest count bytes → HasBytes m port oldest (count + 1) (set bytes count byte)
one_more m port oldest count bytes byte inside there has k low = go (cases_lt k count)
  where
    go : (k < count) ⊎ (count ≤ k) → operation_at m (id.Byte port (oldest + k))
        ≡ Some (operation.Byte port (oldest + k) (slice_index (set bytes count byte) k))
    go (inl l) = has k l
        ∙ ap (λ b. Some (operation.Byte port (oldest + k) b)) (sym (get_or-set_other bytes count k byte 0 (λ e. absurd (omega (arith, e)))))
    go (inr l) =
        let e : k ≡ count = omega arith in
        ap (λ i. operation_at m (id.Byte port (oldest + i))) e ∙ there
        ∙ ap (λ b. Some (operation.Byte port (oldest + count) b)) (sym (get_or-set_at bytes count k byte 0 e inside))
        ∙ ap (λ i. Some (operation.Byte port (oldest + i) (slice_index (set bytes count byte) k))) (sym e)

pub still_free : (count : ℕ) (bytes : List ℕ) (byte : ℕ) → IsFree count bytes → IsFree (count + 1) (set bytes count byte)
still_free count bytes byte free k low =
    get_or-set_other bytes count k byte 0 (λ e. absurd (omega (arith, e))) ∙ free k (omega arith)

pub all_free : (n : ℕ) → IsFree 0 (replicate n 0)
all_free n k low = go (cases_lt k n)
  where
    go : (k < n) ⊎ (n ≤ k) → slice_index (replicate n 0) k ≡ 0
    go (inl l) = get_or-replicate n k 0 0 l
    go (inr l) = get_or-eq_default (replicate n 0) 0 (omega (arith, l, length-replicate {A = ℕ} n 0))

-- ---- the whole window

get_or-numbered : (m : Operations) (port n count k : ℕ) → k < count
    → get_or (bytes_numbered m port n count) k 0 ≡ byte_of (operation_at m (id.Byte port (n + k)))
get_or-numbered m port n zero k low = absurd (omega arith)
get_or-numbered m port n (suc count) zero low =
    let e : n ≡ n + 0 = omega arith in ap (λ i. byte_of (operation_at m (id.Byte port i))) e
get_or-numbered m port n (suc count) (suc k) low =
    let e : n + 1 + k ≡ n + suc k = omega arith in
    get_or-numbered m port (n + 1) count k (omega arith) ∙ ap (λ i. byte_of (operation_at m (id.Byte port i))) e

long : (m : Operations) (port oldest count : ℕ)
    → length (bytes_numbered m port oldest count ++ replicate 16 0) ≡ count + 16
long m port oldest count =
    length-append (bytes_numbered m port oldest count) (replicate 16 0)
    ∙ ap (λ n. n + 16) (window_length m port oldest count)

place_is : (m : Operations) (port oldest count k : ℕ) (bytes : List ℕ) → HasBytes m port oldest count bytes
    → IsFree count bytes → k < 16 → (k < count) ⊎ (count ≤ k)
    → get_or bytes k 0 ≡ get_or (take 16 (bytes_numbered m port oldest count ++ replicate 16 0)) k 0
place_is m port oldest count k bytes has free low (inl l) =
    let shown : List ℕ = bytes_numbered m port oldest count in
    let n : length shown ≡ count = window_length m port oldest count in
    let inside : k < length shown = omega arith in
    sym (ap byte_of (has k l)) ∙ sym (get_or-numbered m port oldest count k l)
    ∙ sym (get_or_append_left shown (replicate 16 0) 0 k inside)
    ∙ sym (get_or-take 16 (shown ++ replicate 16 0) k 0 low)
place_is m port oldest count k bytes has free low (inr l) =
    let shown : List ℕ = bytes_numbered m port oldest count in
    let n : length shown ≡ count = window_length m port oldest count in
    free k l ∙ sym (get_or-replicate 16 (k - count) 0 0 (omega arith))
    ∙ sym (get_or-append_right shown (replicate 16 0) count k 0 n l)
    ∙ sym (get_or-take 16 (shown ++ replicate 16 0) k 0 low)

pub window_is : (m : Operations) (port oldest count : ℕ) (bytes : List ℕ) → length bytes ≡ 16 → count ≤ 16
    → HasBytes m port oldest count bytes → IsFree count bytes
    → bytes ≡ padded (bytes_numbered m port oldest count)
unfolding padded
window_is m port oldest count bytes whole few has free =
    let places : List ℕ = bytes_numbered m port oldest count ++ replicate 16 0 in
    let enough : 16 ≤ length places = let n = long m port oldest count in omega arith in
    ext_get_or 0 bytes (take 16 places) (whole ∙ sym (length-take-le 16 places enough))
    (λ k inside. place_is m port oldest count k bytes has free (omega (arith, inside, whole)) (cases_lt k count))
