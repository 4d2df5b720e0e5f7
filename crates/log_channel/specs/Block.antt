-- Entries one after another in a block of bytes, and the entries that are held as the first of them and such a block.
use Rattle.std.specs.Prelude.{◌≡◌, ℕ, zero, suc, List, [], ◌∷◌, ◌++◌, length, take, drop, Option, Some, None, IfSome, nat_lt, if◌then◌else◌}
use Rattle.std.specs.Option.{option_to_list}
use Rattle.std.specs.List.{flat_map, AllByRecursion}
use Rattle.log_entry.specs.declared.entry.Entry.{Entry}
use Rattle.log_entry.specs.Numbers.{◌>>=◌}
use Rattle.log_entry.specs.Spelling.{spelling, IsEntry, entry_at, size_of}

-- the first entry of a block, whose size its tag gives, and what follows it
abbrev pub cut : List ℕ → ℕ → Option (Entry × List ℕ)
cut bytes size =
    if nat_lt (length bytes) size then None else entry_at (take size bytes) >>= λ entry. Some (entry, drop size bytes)

unfoldable pub first_of : List ℕ → Option (Entry × List ℕ)
first_of [] = None
first_of (tag ∷ bytes) = size_of tag >>= cut (tag ∷ bytes)

-- taking it; if there is none, nothing changes
abbrev pub TakesFirst : Option (Entry × List ℕ) → List ℕ → Option Entry → List ℕ → Type 0
TakesFirst None old result new = (result ≡ None) × (new ≡ old)
TakesFirst (Some first) old result new = (result ≡ Some first.0) × (new ≡ first.1)

-- at most this many entries of a block
abbrev pub and_more : Option (Entry × List ℕ) → (List ℕ → List Entry) → List Entry
and_more None more = []
and_more (Some first) more = first.0 ∷ more first.1

unfoldable pub entries_in : ℕ → List ℕ → List Entry
entries_in zero bytes = []
entries_in (suc n) bytes = and_more (first_of bytes) (entries_in n)

-- all entries of a block, each of which has at least one byte
unfoldable pub entries_of : List ℕ → List Entry
entries_of bytes = entries_in (length bytes) bytes

-- the entries that are held
abbrev pub held_in : Option Entry → List ℕ → List Entry
held_in front block = option_to_list front ++ entries_of block

-- nothing follows an absent entry
abbrev pub NothingBehind : Option Entry → List ℕ → Type 0
NothingBehind None block = block ≡ []
NothingBehind (Some entry) block = Unit {0}

-- the block is the spellings of its entries
pub record IsBlock (front : Option Entry) (block : List ℕ) : Type 0 where
  pub spelled : block ≡ flat_map spelling (entries_of block)
  pub valid : AllByRecursion IsEntry (entries_of block)
  pub behind : NothingBehind front block
  pub front_valid : IfSome front IsEntry
