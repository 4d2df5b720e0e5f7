-- What a terminal accepts of the bytes that arrive at it late, twice and in any order.
use Rattle.std.specs.Prelude.{◌≡◌, ◌≢◌, ℕ, ◌+◌, ◌≤◌, List, [], ◌∷◌, ◌++◌, length, All}

-- a byte arrives with the number under which it was sent
pub record Arrival : Type 0 where
  pub number : ℕ
  pub byte : ℕ

-- the first arrival of this number brings this byte, with these arrivals after it
pub record ComesFirst (arrivals : List Arrival) (number byte : ℕ) (later : List Arrival) : Type 0 where
  pub before : List Arrival
  pub place : arrivals ≡ before ++ record { number = number; byte = byte } ∷ later
  pub first : All (λ arrival. arrival.number ≢ number) before

-- the bytes of this number, the next one and so on, each from its first arrival after that of the byte before
abbrev pub AreInOrder : List Arrival → ℕ → List ℕ → Type 0
AreInOrder arrivals number [] = Unit {0}
AreInOrder arrivals number (byte ∷ bytes) =
    (later : List Arrival) × ComesFirst arrivals number byte later × AreInOrder later (number + 1) bytes

-- the longest list of bytes in order, from number 1 on
pub record IsAccepted (arrivals : List Arrival) (bytes : List ℕ) : Type 0 where
  pub in_order : AreInOrder arrivals 1 bytes
  pub longest : (others : List ℕ) → AreInOrder arrivals 1 others → length others ≤ length bytes

-- there is exactly one such list
pub record AcceptsOneList (arrivals : List Arrival) : Type 0 where
  pub bytes : List ℕ
  pub accepted : IsAccepted arrivals bytes
  pub only : (others : List ℕ) → IsAccepted arrivals others → others ≡ bytes

-- whatever arrivals gave the old bytes, those with this one after them give the new bytes
pub record GoesOn (old : List ℕ) (number byte : ℕ) (new : List ℕ) : Type 0 where
  pub so_far : (arrivals : List Arrival) → IsAccepted arrivals old
      → IsAccepted (arrivals ++ record { number = number; byte = byte } ∷ []) new
