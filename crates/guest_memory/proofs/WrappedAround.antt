-- The block of bytes that goes on with its first two: what is read in it, what a write leaves it, and that it stays so.
use Rattle.std.proofs.Common.{◌≡◌, ℕ, zero, suc, ◌+◌, ◌-◌, ◌*◌, ◌^◌, ◌<◌, ◌≤◌, List, ◌++◌, length, take, drop, slice_index, slice_set, slice_range, sym, ap, ◌∙◌, arith, ⊎_elim, length-set, lit<, lit≤, [], ◌∷◌}
use Rattle.std.proofs.Math.Seq.{take-set-lt}
use Rattle.std.proofs.Math.Nat.{mod-eq_of_lt}
use Rattle.std.proofs.lemmas.Bool.{cases_lt}
use Rattle.std.proofs.lemmas.Grind.{elements}
use Rattle.std.proofs.lemmas.List.{get_or-take, take-set-le, take_at, take-replicate, drop-take, take-take}
use Rattle.i8080_words.specs.Arithmetic.{wrapped}
use Rattle.guest_memory.specs.declared.memory.TheConstants.{BYTES, WRAPPED, PAGES, PAGE_BYTES}
use Rattle.guest_memory.specs.Pages.{Pages, IsWhole, zeros}
use Rattle.guest_memory.proofs.NewMemory.{length-zeros, only_zeros}
use Rattle.guest_memory.specs.Storage.{IsKept, WrapsAround, bytes_of}

-- what memory shows at an address
pub shown_there : (block : List ℕ) (address : ℕ) → address < BYTES → slice_index (bytes_of block) address ≡ slice_index block address
unfolding bytes_of
shown_there block address below = get_or-take BYTES block address 0 below

-- a read of the block is one of memory, where addresses wrap
pub byte_there : (block : List ℕ) (place : ℕ) → WrapsAround block → place < BYTES + WRAPPED
    → slice_index (bytes_of block) (wrapped place) ≡ slice_index block place
byte_there block place wraps below = ⊎_elim
    (λ inside. ap (slice_index (bytes_of block)) (mod-eq_of_lt inside) ∙ shown_there block place inside)
    (λ past. ⊎_elim
    (λ is_first. let place_is : place ≡ BYTES = omega arith in
    ap (λ k. slice_index (bytes_of block) (wrapped k)) place_is ∙ shown_there block 0 (lit< tt) ∙ sym wraps.first_again
    ∙ ap (slice_index block) (sym place_is))
    (λ is_second. let place_is : place ≡ BYTES + 1 = omega arith in
    ap (λ k. slice_index (bytes_of block) (wrapped k)) place_is ∙ shown_there block 1 (lit< tt) ∙ sym wraps.second_again
    ∙ ap (slice_index block) (sym place_is))
    (cases_lt place (BYTES + 1)))
    (cases_lt place BYTES)

-- what memory shows after a write to the block, at an address and past the last one
pub shown_after : (block : List ℕ) (address byte : ℕ) → address < BYTES
    → bytes_of (slice_set block address byte) ≡ slice_set (bytes_of block) address byte
unfolding bytes_of
shown_after block address byte below = take-set-lt BYTES block address byte below

pub shown_after_repeat : (block : List ℕ) (place byte : ℕ) → BYTES ≤ place → bytes_of (slice_set block place byte) ≡ bytes_of block
unfolding bytes_of
shown_after_repeat block place byte past = take-set-le BYTES block place byte past

-- a block still wraps around after a write past its first two bytes, and after one of them if it is repeated
wraps_after : (block : List ℕ) → WrapsAround block → (address byte : ℕ) → WRAPPED ≤ address → address < BYTES
    → WrapsAround (slice_set block address byte)
wraps_after block wraps address byte late below = record {
  long = length-set block address byte ∙ wraps.long;
  first_again = grind (arith, elements, wraps.first_again);
  second_again = grind (arith, elements, wraps.second_again);
}

wraps_after_both : (block : List ℕ) → WrapsAround block → (address byte : ℕ) → address < WRAPPED
    → WrapsAround (slice_set (slice_set block address byte) (BYTES + address) byte)
wraps_after_both block wraps address byte early = record {
  long = length-set (slice_set block address byte) (BYTES + address) byte ∙ length-set block address byte ∙ wraps.long;
  first_again = grind (arith, elements, wraps.first_again, wraps.long);
  second_again = grind (arith, elements, wraps.second_again, wraps.long);
}

-- the items of a list stay within a bound at a write of one within it
fits_after : (items : List ℕ) (bound place item : ℕ) → ((k : ℕ) → slice_index items k < bound) → item < bound
    → (other : ℕ) → slice_index (slice_set items place item) other < bound
fits_after [] bound place item fit fits other = fit other
fits_after (x ∷ xs) bound zero item fit fits zero = fits
fits_after (x ∷ xs) bound zero item fit fits (suc k) = fit (suc k)
fits_after (x ∷ xs) bound (suc place) item fit fits zero = fit zero
fits_after (x ∷ xs) bound (suc place) item fit fits (suc k) = fits_after xs bound place item (λ j. fit (suc j)) fits k

-- so whole memory stays whole
whole_after : (memory : Pages) → IsWhole memory → (address byte page version : ℕ) → byte < 2 ^ 8 → version < 2 ^ 64
    → IsWhole (record { bytes = slice_set memory.bytes address byte; versions = slice_set memory.versions page version })
whole_after memory whole address byte page version fits counts = record {
  every_address = length-set memory.bytes address byte ∙ whole.every_address;
  bytes_fit = fits_after memory.bytes (2 ^ 8) address byte whole.bytes_fit fits;
  every_page = length-set memory.versions page version ∙ whole.every_page;
  versions_fit = fits_after memory.versions (2 ^ 64) page version whole.versions_fit counts;
}

-- and what is kept stays as it has to be
pub kept_after : (block versions : List ℕ) (address byte page version : ℕ) → IsKept block versions
    → WRAPPED ≤ address → address < BYTES → byte < 2 ^ 8 → version < 2 ^ 64
    → IsKept (slice_set block address byte) (slice_set versions page version)
kept_after block versions address byte page version kept late below fits counts = record {
  whole = rw (shown_after block address byte below) (whole_after _ kept.whole address byte page version fits counts);
  wraps = wraps_after block kept.wraps address byte late below;
}

pub kept_after_both : (block versions : List ℕ) (address place byte page version : ℕ) → IsKept block versions
    → address < WRAPPED → place ≡ BYTES + address → byte < 2 ^ 8 → version < 2 ^ 64
    → IsKept (slice_set (slice_set block address byte) place byte) (slice_set versions page version)
kept_after_both block versions address place byte page version kept early place_is fits counts =
    let below : address < BYTES = omega arith in
    let shown : bytes_of (slice_set (slice_set block address byte) (BYTES + address) byte) ≡ slice_set (bytes_of block) address byte
    = shown_after_repeat (slice_set block address byte) (BYTES + address) byte (omega arith) ∙ shown_after block address byte below in
    rw place_is (record {
      whole = rw shown (whole_after _ kept.whole address byte page version fits counts);
      wraps = wraps_after_both block kept.wraps address byte early;
    })

-- a page of memory is one of the block
pub page_there : (block : List ℕ) (page : ℕ) → page < PAGES
    → slice_range (bytes_of block) (page * PAGE_BYTES) (page * PAGE_BYTES + PAGE_BYTES)
    ≡ slice_range block (page * PAGE_BYTES) (page * PAGE_BYTES + PAGE_BYTES)
unfolding bytes_of
page_there block page below =
    let start : ℕ = page * PAGE_BYTES in
    let rest : ℕ = BYTES - start in
    let all : BYTES ≡ start + rest = omega arith in
    let width : start + PAGE_BYTES - start ≤ rest = omega arith in
    ap (λ n. slice_range (take n block) start (start + PAGE_BYTES)) all
    ∙ ap (take (start + PAGE_BYTES - start)) (drop-take start rest block)
    ∙ take-take (start + PAGE_BYTES - start) rest (drop start block) width

-- what memory shows of a block that is made of its bytes, and of zeros
pub shown_of : (bytes more : List ℕ) → length bytes ≡ BYTES → bytes_of (bytes ++ more) ≡ bytes
unfolding bytes_of
shown_of bytes more long = take_at bytes more BYTES long

first_zeros : (few many : ℕ) → few ≤ many → take few (zeros many) ≡ zeros few
unfolding zeros
first_zeros few many below = take-replicate few many zero below

pub shown_of_zeros : bytes_of (zeros (BYTES + WRAPPED)) ≡ zeros BYTES
unfolding bytes_of
shown_of_zeros = first_zeros BYTES (BYTES + WRAPPED) (lit≤ tt)

pub zeros_wrap : WrapsAround (zeros (BYTES + WRAPPED))
zeros_wrap = record {
  long = length-zeros (BYTES + WRAPPED);
  first_again = only_zeros (BYTES + WRAPPED) BYTES ∙ sym (only_zeros (BYTES + WRAPPED) 0);
  second_again = only_zeros (BYTES + WRAPPED) (BYTES + 1) ∙ sym (only_zeros (BYTES + WRAPPED) 1);
}
