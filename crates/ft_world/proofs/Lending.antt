-- A station that was lent is back in its place, changed or not. A host that has no role keeps its resources.
use Rattle.std.proofs.Common.{◌≡◌, ◌<◌, ◌≤◌, ◌∙◌, ◌∷◌, [], Err, IsOk, List, MutBor, None, Ok, Result, Some, ap, get_or, length, refl, suc, sym, zero, ℕ}
use Rattle.std.proofs.lemmas.Option.{slice_get_past, slice_get_read}
use Rattle.std.specs.Prelude.{IfErr, IfOk, OnErr, map, slice_get, slice_set}
use Rattle.ft_world.proofs.Words.{Fault, HasNoNode, Host, IsSpare, SpareHostsStay, Station, Unknown, WithStation, same_some, set_get, spare_of}
use Rattle.ft_world.specs.declared.host.Host.TheVariants as host

spares_set : {B H : Type 0} (hosts : List (Host B H)) (n : ℕ) (here new : Host B H) → slice_get hosts n ≡ Some here
    → spare_of new ≡ spare_of here → SpareHostsStay hosts (slice_set hosts n new)
spares_set [] n here new there same = absurd (cc)
spares_set {B} {H} (x ∷ hosts) zero here new there same =
    ap (λ o. o ∷ map (spare_of {B = B} {H = H}) hosts)
    (same ∙ ap (spare_of {B = B} {H = H}) (sym (same_some x here (Some x) refl there)))
spares_set {B} {H} (x ∷ hosts) (suc n) here new there same =
    ap (λ os. spare_of {B = B} {H = H} x ∷ os) (spares_set hosts n here new there same)

module _ {B H : Type 0} (hosts : List (Host B H)) (n : ℕ) (here : Host B H) (there : slice_get hosts n ≡ Some here)
  where
    pub put_back : (r : Result (MutBor (Station B H)) Fault) (station : Station B H) → IsOk r
        → IfOk r (λ lent. here ≡ host.Node lent.now) → WithStation hosts n station (slice_set hosts n (host.Node station))
    put_back (Ok lent) station ok is = record {
      put = refl;
      spares = spares_set hosts n here (host.Node station) there (sym (ap spare_of is));
      same = λ same. set_get hosts n (host.Node station) same;
    }
    put_back (Err fault) station ok is = absurd (cc)

    pub not_lent : (r : Result (MutBor (Station B H)) Fault) → OnErr r (slice_set hosts n here ≡ hosts)
    not_lent (Ok lent) = tt
    not_lent (Err fault) = set_get hosts n here there

    pub found_there : (r : Result (MutBor (Station B H)) Fault) → IfOk r (λ lent. here ≡ host.Node lent.now)
        → IfOk r (λ lent. slice_get hosts n ≡ Some (host.Node lent.now))
    found_there (Ok lent) is = there ∙ ap Some is
    found_there (Err fault) is = tt

    pub absent_there : (r : Result (MutBor (Station B H)) Fault) → IfErr r (λ fault. (fault ≡ Unknown) × IsSpare here)
        → IfErr r (λ fault. (fault ≡ Unknown) × HasNoNode hosts n)
    absent_there (Ok lent) is = tt
    absent_there (Err fault) is = (is.0, go here is.1 there)
      where
        go : (here : Host B H) → IsSpare here → slice_get hosts n ≡ Some here → HasNoNode hosts n
        go (host.Node station) spare there = absurd spare
        go (host.Spare resources) spare there = λ station e. (cc)

pub absent_past : {B H : Type 0} (hosts : List (Host B H)) (n : ℕ) → slice_get hosts n ≡ None → HasNoNode hosts n
absent_past hosts n past = λ station e. (cc)

-- ---- a station that is looked at

-- a host that was found in a list that is the same
pub host_there : {B H : Type 0} (xs hosts : List (Host B H)) (n : ℕ) (here is : Host B H) → xs ≡ hosts → n < length xs
    → here ≡ get_or xs n here → here ≡ is → slice_get hosts n ≡ Some is
host_there xs hosts n here is same within found e =
    ap (λ l. slice_get l n) (sym same) ∙ slice_get_read xs (length xs) n here refl within found ∙ ap Some e

pub no_host_there : {B H : Type 0} (xs hosts : List (Host B H)) (n : ℕ) → xs ≡ hosts → length xs ≤ n
    → slice_get hosts n ≡ None
no_host_there xs hosts n same past = ap (λ l. slice_get l n) (sym same) ∙ slice_get_past xs n past

pub absent_spare : {B H : Type 0} (hosts : List (Host B H)) (n : ℕ) (resources : H)
    → slice_get hosts n ≡ Some (host.Spare resources) → HasNoNode hosts n
absent_spare hosts n resources there = λ station e. (cc)
