-- The test of two sectors tells whether they are the same.
use Rattle.std.proofs.Common.{◌≡◌, ◌≢◌, false, true, ap, ◌∙◌}
use Rattle.std.specs.Prelude.{◌&&◌, ◌==◌}
use Rattle.std.proofs.lemmas.Bool.{and_parts, eq-eqb, eqb-true}
use Rattle.disk_dcdd.specs.Address.{same_address}
use Rattle.disk_dcdd.specs.declared.address.SectorAddress.{SectorAddress}

pub same_address-is : (a b : SectorAddress) → same_address a b ≡ true → a ≡ b
same_address-is a b h =
    let s = and_parts ((a.drive == b.drive) && (a.track == b.track)) (a.sector == b.sector) h in
    let t = and_parts (a.drive == b.drive) (a.track == b.track) s.0 in
    let d : a.drive ≡ b.drive = eqb-true a.drive b.drive t.0 in
    let e : a.track ≡ b.track = eqb-true a.track b.track t.1 in
    let f : a.sector ≡ b.sector = eqb-true a.sector b.sector s.1 in
    λ i. record { drive = d i; track = e i; sector = f i }

pub same_address-refl : (a b : SectorAddress) → a ≡ b → same_address a b ≡ true
same_address-refl a b h =
    let d = eq-eqb a.drive b.drive (ap (λ z. z.drive) h) in
    let e = eq-eqb a.track b.track (ap (λ z. z.track) h) in
    let f = eq-eqb a.sector b.sector (ap (λ z. z.sector) h) in
    ap (λ v. (v && (a.track == b.track)) && (a.sector == b.sector)) d ∙ ap (λ v. v && (a.sector == b.sector)) e ∙ f

pub same_address-other : (a b : SectorAddress) → same_address a b ≡ false → a ≢ b
same_address-other a b other same = let yes = same_address-refl a b same in cc
