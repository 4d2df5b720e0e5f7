-- A sector of an Altair is busy while a write to it is outstanding: the controller waits for each outstanding write.
use Rattle.std.proofs.Common.{◌≡◌, ℕ, Bool, true, List, [], ◌∷◌, inl, inr, sym, ap, ◌∙◌}
use Rattle.std.specs.List.{list_any}
use Rattle.std.proofs.lemmas.Bool.{or_left, or_right}
use Rattle.disk_dcdd.proofs.Addresses.{same_address-refl}
use Rattle.altair_laws.proofs.Words.{Among, AreWrites, Guest, IsPending, SectorWrite, address_of, address_under, drive_of, is_at, is_busy_on, place_of}

some_is : {A : Type 0} (test : A → Bool) (xs : List A) (x : A) → Among x xs → test x ≡ true → list_any test xs ≡ true
some_is test [] x m h = absurd m
some_is test (y ∷ xs) x m h = elim m [
  | inl e ↦ or_left (test y) (list_any test xs) (sym (ap test e) ∙ h)
  | inr m ↦ or_right (test y) (list_any test xs) (some_is test xs x m h)
]

pub busy_is : (g : Guest) (w : SectorWrite) (drive sector : ℕ) → AreWrites g → IsPending g w
    → address_of w ≡ address_under g drive sector → is_busy_on g.devices.disk sector drive ≡ true
busy_is g w drive sector writes found there =
    some_is (is_at drive (drive_of g.devices.disk drive).track sector) g.devices.disk.outstanding (place_of w)
    (writes.placed w found) (same_address-refl (address_of w) (address_under g drive sector) there)
