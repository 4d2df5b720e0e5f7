-- A disk of zeros has zeros at every address, even if it has no place for it.
use Rattle.std.proofs.Common.{◌≡◌, ℕ, zero, suc, List, [], ◌∷◌, ◌++◌, None, Some, refl}
use Rattle.std.specs.Prelude.{slice_index_or}
use Rattle.std.specs.Option.{option_map_or}
use Rattle.disk_dcdd.specs.Address.{index_of}
use Rattle.disk_dcdd.specs.declared.address.SectorAddress.{SectorAddress}
use Rattle.plain_single.specs.Image.{zero_sector, sector_at}

-- each place, and whatever is past the last one, is zeros
abbrev pub AreZeros : List (List ℕ) → Type 0
AreZeros sectors = (i : ℕ) → slice_index_or sectors i zero_sector ≡ zero_sector

pub one_more : (sectors : List (List ℕ)) → AreZeros sectors → AreZeros (sectors ++ zero_sector ∷ [])
one_more [] zeros zero = refl
one_more [] zeros (suc i) = refl
one_more (x ∷ xs) zeros zero = zeros zero
one_more (x ∷ xs) zeros (suc i) = one_more xs (λ j. zeros (suc j)) i

pub at_each_address : (sectors : List (List ℕ)) → AreZeros sectors → (a : SectorAddress)
    → sector_at sectors a ≡ zero_sector
at_each_address sectors zeros a =
    elim (index_of a) as (λ index. option_map_or (λ i. slice_index_or sectors i zero_sector) index zero_sector ≡ zero_sector)
    [ None ↦ refl | Some i ↦ zeros i ]
