-- New memory is whole: its versions are zeros, as many as there are pages, and its bytes are zeros or those it is made
-- from. Zeros read as 0 past their end, too.
use Rattle.std.proofs.Common.{◌≡◌, ℕ, zero, suc, ◌^◌, ◌<◌, List, length, slice_index, replicate, refl, lit<}
use Rattle.std.proofs.lemmas.List.{length-replicate}
use Rattle.guest_memory.specs.declared.memory.TheConstants.{BYTES, PAGES}
use Rattle.guest_memory.specs.Pages.{IsWhole, zeros, unwritten, cleared}

pub length-zeros : (n : ℕ) → length (zeros n) ≡ n
unfolding zeros
length-zeros n = length-replicate n zero

slice_index-replicate : (n k : ℕ) → slice_index (replicate n zero) k ≡ zero
slice_index-replicate zero k = refl
slice_index-replicate (suc n) zero = refl
slice_index-replicate (suc n) (suc k) = slice_index-replicate n k

pub only_zeros : (n k : ℕ) → slice_index (zeros n) k ≡ 0
unfolding zeros
only_zeros n k = slice_index-replicate n k

pub unwritten_is_whole : (bytes : List ℕ) → length bytes ≡ BYTES → ((address : ℕ) → slice_index bytes address < 2 ^ 8)
    → IsWhole (unwritten bytes)
unwritten_is_whole bytes long fit = record {
  every_address = long;
  bytes_fit = fit;
  every_page = length-zeros PAGES;
  versions_fit = λ page. rw (only_zeros PAGES page) (lit< tt);
}

pub cleared_is_whole : IsWhole cleared
cleared_is_whole =
    unwritten_is_whole (zeros BYTES) (length-zeros BYTES) (λ address. rw (only_zeros BYTES address) (lit< tt))
