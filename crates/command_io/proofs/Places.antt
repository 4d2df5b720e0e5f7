-- Images of disks, sector after sector and drive after drive: they are whole, and the disk stays as it is.
use Rattle.std.proofs.Common.{◌≡◌, ℕ, ◌+◌, ◌*◌, ◌<◌, inl, inr, List, [], ◌∷◌, ◌++◌, append-nil, append_assoc, length, take, get_or, map-id, refl, sym, subst, ap, ◌∙◌, arith}
use Rattle.std.specs.List.{flat_map, range_with_len}
use Rattle.std.specs.Prelude.{◌⊎◌, All}
use Rattle.std.proofs.Math.Nat.{eq-or-lt_of_le}
use Rattle.std.proofs.lemmas.Grind.{flat_map-append}
use Rattle.std.proofs.lemmas.List.Elements.{All-more}
use Rattle.std.proofs.lemmas.List.{flat_map_more, take_more}
use Rattle.std.proofs.lemmas.List.FromFn.{map-range_with_len_more}
use Rattle.command_io.specs.Saving.{HasDrive, HasPlaces, address_at, image_of, image_to}
use Rattle.disk_dcdd.specs.declared.address.SectorAddress.{SectorAddress}
use Rattle.shared_disk.specs.Records.{IsThere, bytes_in}
use Rattle.shared_disk.specs.declared.store.Record.{Record}

-- these images are what was wanted, so many bytes, and the disk is as it was first
pub record AreSaved (images wanted : List ℕ) (many : ℕ) (records first : List Record) : Type 0 where
  pub are : images ≡ wanted
  pub long : length images ≡ many
  pub same : records ≡ first

range_more : (n : ℕ) → range_with_len 0 (n + 1) ≡ range_with_len 0 n ++ n ∷ []
range_more n =
    sym (map-id (range_with_len 0 (n + 1))) ∙ map-range_with_len_more (λ m. m) 0 n n (omega arith)
    ∙ ap (λ l. l ++ n ∷ []) (map-id (range_with_len 0 n))

-- one sector more
image_more : (records : List Record) (drive place : ℕ)
    → image_to records drive (place + 1) ≡ image_to records drive place ++ bytes_in records (address_at drive place)
unfolding image_to
image_more records drive place =
    ap (flat_map (λ n. bytes_in records (address_at drive n))) (range_more place)
    ∙ flat_map-append (λ n. bytes_in records (address_at drive n)) (range_with_len 0 place) (place ∷ [])
    ∙ ap (λ l. flat_map (λ n. bytes_in records (address_at drive n)) (range_with_len 0 place) ++ l)
    (append-nil (bytes_in records (address_at drive place)))

image_none : (records : List Record) (drive : ℕ) → image_to records drive 0 ≡ []
unfolding image_to
image_none records drive = refl

pub no_place : (images : List ℕ) (records : List Record) (drive : ℕ)
    → AreSaved images (images ++ image_to records drive 0) (length images + 137 * 0) records records
no_place images records drive = record {
  are = sym (append-nil images) ∙ ap (λ l. images ++ l) (sym (image_none records drive));
  long = omega arith;
  same = refl;
}

pub place_more : (records mid new : List Record) (drive place : ℕ) (first before now : List ℕ) (address : SectorAddress)
    → now ≡ before ++ bytes_in mid address → length now ≡ length before + 137 → address ≡ address_at drive place → new ≡ mid
    → AreSaved before (first ++ image_to records drive place) (length first + 137 * place) mid records
    → AreSaved now (first ++ image_to records drive (place + 1)) (length first + 137 * (place + 1)) new records
place_more records mid new drive place first before now address more longer at stays so_far = record {
  are = more ∙ ap (λ r. before ++ bytes_in r address) so_far.same ∙ ap (λ a. before ++ bytes_in records a) at
      ∙ ap (λ l. l ++ bytes_in records (address_at drive place)) so_far.are
      ∙ append_assoc first (image_to records drive place) (bytes_in records (address_at drive place))
      ∙ ap (λ l. first ++ l) (sym (image_more records drive place));
  long = let l = longer in let b = so_far.long in omega (arith, l, b);
  same = stays ∙ so_far.same;
}

pub place_there : (records mid : List Record) (drive place : ℕ) (address : SectorAddress) → address ≡ address_at drive place
    → mid ≡ records → IsThere mid address → HasPlaces records drive place → HasPlaces records drive (place + 1)
place_there records mid drive place address at same there before p within =
    go (eq-or-lt_of_le (let w = within in omega (arith, w)))
  where
    go : (p ≡ place) ⊎ (p < place) → IsThere records (address_at drive p)
    go (inl is) = subst (λ n. IsThere records (address_at drive n)) (sym is)
        (subst (IsThere records) at (subst (λ r. IsThere r address) same there))
    go (inr below) = before p below

-- one drive more
pub drive_more : (records mid new : List Record) (drives : List ℕ) (i d drive : ℕ) (before now : List ℕ)
    → now ≡ before ++ image_of mid drive → length now ≡ length before + 337568 → drive ≡ get_or drives i d → new ≡ mid
    → i < length drives → AreSaved before (flat_map (image_of records) (take i drives)) (337568 * i) mid records
    → AreSaved now (flat_map (image_of records) (take (i + 1) drives)) (337568 * (i + 1)) new records
drive_more records mid new drives i d drive before now more longer at stays within so_far = record {
  are = more ∙ ap (λ r. before ++ image_of r drive) so_far.same ∙ ap (λ n. before ++ image_of records n) at
      ∙ ap (λ l. l ++ image_of records (get_or drives i d)) so_far.are
      ∙ flat_map_more (image_of records) [] (take i drives) (get_or drives i d)
      ∙ ap (flat_map (image_of records)) (sym (take_more drives i d within));
  long = let l = longer in let b = so_far.long in omega (arith, l, b);
  same = stays ∙ so_far.same;
}

pub drive_there : (records mid : List Record) (drives : List ℕ) (i d drive : ℕ) → drive ≡ get_or drives i d → mid ≡ records
    → i < length drives → HasDrive mid drive → All (HasDrive records) (take i drives)
    → All (HasDrive records) (take (i + 1) drives)
drive_there records mid drives i d drive at same within there before =
    All-more (HasDrive records) drives i d within before
    (subst (HasDrive records) at (subst (λ r. HasDrive r drive) same there))
