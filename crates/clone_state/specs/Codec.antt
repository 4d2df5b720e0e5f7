-- How a value is written in bytes, and what bytes are read as, for values one after another.
use Rattle.std.specs.Prelude.{◌≡◌, ℕ, zero, suc, ◌==◌, nat_lt, Bool, if◌then◌else◌, List, [], ◌∷◌, ◌++◌, length, take, drop, Option, Some, None}
use Rattle.byteorder.specs.Endian.{big_bytes}
use Rattle.log_entry.specs.Numbers.{◌>>=◌, IsBytes, number_from}

-- the bytes of each value; the value that bytes begin with, if any, and the bytes after it
pub record Codec (A : Type 0) : Type 0 where
  pub spell : A → List ℕ
  pub read : List ℕ → Option (A × List ℕ)

-- the value that the bytes spell, using all of them
abbrev pub alone : {A : Type 0} → Option (A × List ℕ) → Option A
alone read = read >>= λ r. if length r.1 == 0 then Some r.0 else None

abbrev pub read_all : {A : Type 0} → Codec A → List ℕ → Option A
read_all c bytes = alone (c.read bytes)

-- ---- what a codec owes

-- a value that is written is read again, and the bytes after it are left
pub record Again {A : Type 0} (c : Codec A) (x : A) : Type 0 where
  pub again : (rest : List ℕ) → c.read (c.spell x ++ rest) ≡ Some (x, rest)

-- what is read is written in the same bytes: each value has one spelling
pub record OneSpelling {A : Type 0} (c : Codec A) : Type 0 where
  pub exact : (bytes rest : List ℕ) (x : A) → IsBytes bytes → c.read bytes ≡ Some (x, rest)
      → bytes ≡ c.spell x ++ rest

-- ---- codecs of codecs

-- one value after another
unfoldable pub both : {A B : Type 0} → Codec A → Codec B → Codec (A × B)
both c d = record {
  spell = λ p. c.spell p.0 ++ d.spell p.1;
  read = λ xs. c.read xs >>= λ r. d.read r.1 >>= λ q. Some ((r.0, q.0), q.1);
}

-- a value that stands for another one
unfoldable pub by : {A B : Type 0} → Codec A → (B → A) → (A → B) → Codec B
by c to from = record { spell = λ y. c.spell (to y); read = λ xs. c.read xs >>= λ r. Some (from r.0, r.1) }

-- only a value that passes a test is read
unfoldable pub only : {A : Type 0} → Codec A → (A → Bool) → Codec A
only c test = record {
  spell = c.spell;
  read = λ xs. c.read xs >>= λ r. if test r.0 then Some r else None;
}

-- a list of values, of a length that is known
abbrev pub spell_each : {A : Type 0} → Codec A → List A → List ℕ
spell_each c [] = []
spell_each c (x ∷ xs) = c.spell x ++ spell_each c xs

abbrev pub read_each : {A : Type 0} → Codec A → ℕ → List ℕ → Option (List A × List ℕ)
read_each c zero xs = Some ([], xs)
read_each c (suc n) xs = c.read xs >>= λ r. read_each c n r.1 >>= λ q. Some (r.0 ∷ q.0, q.1)

unfoldable pub times : {A : Type 0} → ℕ → Codec A → Codec (List A)
times n c = record { spell = spell_each c; read = read_each c n }

-- ---- bytes and numbers

-- a byte
abbrev pub byte_at : List ℕ → Option (ℕ × List ℕ)
byte_at [] = None
byte_at (n ∷ rest) = Some (n, rest)

unfoldable pub one : Codec ℕ
one = record { spell = λ n. n ∷ []; read = byte_at }

-- this many bytes
abbrev pub bytes_at : ℕ → List ℕ → Option (List ℕ × List ℕ)
bytes_at n xs = if nat_lt (length xs) n then None else Some (take n xs, drop n xs)

unfoldable pub bytes : ℕ → Codec (List ℕ)
bytes n = record { spell = λ xs. xs; read = bytes_at n }

-- a number of eight bytes, highest first, below 2^62
unfoldable pub number : Codec ℕ
number = record { spell = big_bytes 8; read = number_from }

-- a list of values after a byte that says how many
unfoldable pub counted : {A : Type 0} → Codec A → Codec (List A)
counted c = record {
  spell = λ xs. length xs ∷ spell_each c xs;
  read = λ xs. byte_at xs >>= λ r. read_each c r.0 r.1;
}
