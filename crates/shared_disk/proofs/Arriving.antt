-- A write changes only one sector, so every other sector keeps the greatest of the same records. Its own sector has one
-- more record to choose from, after the others, and the write is there exactly if it is the new greatest.
use Rattle.std.proofs.Common.{◌≡◌, ℕ, Bool, true, false, cond, List, [], ◌∷◌, ◌++◌, Option, Some, None, refl, sym, ap, subst, ◌∙◌}
use Rattle.std.specs.Prelude.{◌≢◌, nat_lt, filter, map}
use Rattle.std.specs.Option.{IsSomeAnd, option_map_or}
use Rattle.std.proofs.lemmas.Bool.{ltb-true, ltb-false}
use Rattle.std.proofs.lemmas.List.{append-nil, map-append}
use Rattle.std.proofs.lemmas.List.Elements.{filter-append}
use Rattle.std.proofs.lemmas.Option.{same_Some}
use Rattle.disk_dcdd.specs.Address.{address_of, same_address}
use Rattle.disk_dcdd.specs.declared.address.SectorAddress.{SectorAddress}
use Rattle.disk_dcdd.specs.declared.sector.SectorWrite.{SectorWrite}
use Rattle.shared_disk.specs.Arrivals.{record_of, written_at, IsGreatest, Keeps, IsShared, GoesOn, after_meeting, after_put}
use Rattle.shared_disk.specs.Records.{record_at, with_record}
use Rattle.shared_disk.specs.declared.store.Record.{Record}
use Rattle.shared_disk.proofs.Greatest.{greater_comes, no_greater_comes, first_is_greatest}
use Rattle.shared_disk.proofs.RecordsBySector.{is_same, is_other, record_at-with_same, record_at-with_other}

-- what one write brings to a sector
abbrev pub brought : Bool → SectorWrite → List Record
brought here write = map record_of (cond here (write ∷ []) [])

written_at-append : (arrivals : List SectorWrite) (write : SectorWrite) (a : SectorAddress)
    → written_at a (arrivals ++ write ∷ []) ≡ written_at a arrivals ++ brought (same_address (address_of write) a) write
written_at-append arrivals write a =
    ap (map record_of) (filter-append (λ (w : SectorWrite). same_address (address_of w) a) arrivals (write ∷ []))
    ∙ map-append record_of (filter (λ (w : SectorWrite). same_address (address_of w) a) arrivals)
    (filter (λ (w : SectorWrite). same_address (address_of w) a) (write ∷ []))

-- it meets this record, whose number is below its own or not: of the two the one of greater number stays
still_greatest : (less : Bool) (write : SectorWrite) (first met : Record) (writes : List Record)
    → nat_lt met.number write.number ≡ less → IsGreatest (first ∷ writes) met
    → IsGreatest (first ∷ (writes ++ record_of write ∷ [])) (cond less (record_of write) met)
still_greatest true write first met writes e is =
    greater_comes (first ∷ writes) met (record_of write) is (ltb-true met.number write.number e)
still_greatest false write first met writes e is =
    no_greater_comes (first ∷ writes) met (record_of write) is (ltb-false met.number write.number e)

met-at : (less : Bool) (old : List Record) (write : SectorWrite) (met : Record)
    → record_at old (address_of write) ≡ Some met
    → record_at (cond less (with_record old (address_of write) (record_of write)) old) (address_of write)
    ≡ Some (cond less (record_of write) met)
met-at true old write met at = record_at-with_same old (address_of write) (record_of write) met at
met-at false old write met at = at

-- its own sector
own_record : (old : List Record) (write : SectorWrite) (met : Record) → record_at old (address_of write) ≡ Some met
    → record_at (after_put old write) (address_of write) ≡ Some (cond (nat_lt met.number write.number) (record_of write) met)
own_record old write met at =
    ap (λ r. record_at (option_map_or (after_meeting old write) r old) (address_of write)) at
    ∙ met-at (nat_lt met.number write.number) old write met at

own_sector : (f o : Option Record) (old : List Record) (write : SectorWrite) (writes : List Record)
    → record_at old (address_of write) ≡ o → Keeps f writes o
    → Keeps f (writes ++ record_of write ∷ []) (record_at (after_put old write) (address_of write))
own_sector None o old write writes at keeps =
    ap (λ r. record_at (option_map_or (after_meeting old write) r old) (address_of write)) (at ∙ keeps) ∙ at ∙ keeps
own_sector (Some first) None old write writes at keeps = absurd keeps
own_sector (Some first) (Some met) old write writes at keeps =
    subst (λ o. IsSomeAnd o (IsGreatest (first ∷ (writes ++ record_of write ∷ [])))) (sym (own_record old write met at))
    (still_greatest (nat_lt met.number write.number) write first met writes refl keeps)

unmet-at : (less : Bool) (old : List Record) (write : SectorWrite) (a : SectorAddress) → address_of write ≢ a
    → record_at (cond less (with_record old (address_of write) (record_of write)) old) a ≡ record_at old a
unmet-at true old write a apart = record_at-with_other old (address_of write) a (record_of write) apart
unmet-at false old write a apart = refl

-- any other sector
other_sector : (o : Option Record) (old : List Record) (write : SectorWrite) (a : SectorAddress)
    → record_at old (address_of write) ≡ o → address_of write ≢ a → record_at (after_put old write) a ≡ record_at old a
other_sector None old write a at apart =
    ap (λ r. record_at (option_map_or (after_meeting old write) r old) a) at
other_sector (Some met) old write a at apart =
    ap (λ r. record_at (option_map_or (after_meeting old write) r old) a) at
    ∙ unmet-at (nat_lt met.number write.number) old write a apart

at_sector : (here : Bool) (first old : List Record) (write : SectorWrite) (writes : List Record) (a : SectorAddress)
    → same_address (address_of write) a ≡ here → Keeps (record_at first a) writes (record_at old a)
    → Keeps (record_at first a) (writes ++ brought here write) (record_at (after_put old write) a)
at_sector true first old write writes a e keeps =
    let same : address_of write ≡ a = is_same (address_of write) a e in
    subst (λ b. Keeps (record_at first a) (writes ++ record_of write ∷ []) (record_at (after_put old write) b)) same
    (own_sector (record_at first a) (record_at old (address_of write)) old write writes refl
    (subst (λ b. Keeps (record_at first a) writes (record_at old b)) (sym same) keeps))
at_sector false first old write writes a e keeps =
    subst (λ l. Keeps (record_at first a) l (record_at (after_put old write) a)) (sym (append-nil writes))
    (subst (λ o. Keeps (record_at first a) writes o)
    (sym (other_sector (record_at old (address_of write)) old write a refl (is_other (address_of write) a e))) keeps)

put_goes_on-at : (old : List Record) (write : SectorWrite) → GoesOn old write (after_put old write)
put_goes_on-at old write = record {
  so_far = λ first arrivals shared a.
      subst (λ l. Keeps (record_at first a) l (record_at (after_put old write) a))
      (sym (written_at-append arrivals write a))
      (at_sector (same_address (address_of write) a) first old write (written_at a arrivals) a refl (shared a));
}

-- a put
pub put_goes_on : (old : List Record) (write : SectorWrite) (new : List Record) → new ≡ after_put old write
    → GoesOn old write new
put_goes_on old write new is = subst (GoesOn old write) (sym is) (put_goes_on-at old write)

nothing-at : (o : Option Record) → Keeps o [] o
nothing-at None = refl
nothing-at (Some first) = first_is_greatest first

-- no write has come yet
pub nothing_arrived : (records : List Record) → IsShared records [] records
nothing_arrived records = λ a. nothing-at (record_at records a)

-- ---- every sector, after a write that met this record in its own

-- it has the record of greater number there, and what it had in every other sector
pub record_at-put : (old : List Record) (write : SectorWrite) (met : Record) (a : SectorAddress)
    → record_at old (address_of write) ≡ Some met → record_at (after_put old write) a
    ≡ cond (same_address (address_of write) a) (Some (cond (nat_lt met.number write.number) (record_of write) met))
    (record_at old a)
record_at-put old write met a at = go (same_address (address_of write) a) refl
  where
    go : (here : Bool) → same_address (address_of write) a ≡ here → record_at (after_put old write) a
        ≡ cond here (Some (cond (nat_lt met.number write.number) (record_of write) met)) (record_at old a)
    go true e = subst (λ b. record_at (after_put old write) b
        ≡ Some (cond (nat_lt met.number write.number) (record_of write) met)) (is_same (address_of write) a e)
        (own_record old write met at)
    go false e = other_sector (Some met) old write a at (is_other (address_of write) a e)

-- so what is known of the record of a sector, its number among it, is known after the write of the greater one
module _ {K : Type 0} (Knows : K → Record → Type 0) (number_of : K → ℕ)
    (numbered : (k : K) (r : Record) → Knows k r → r.number ≡ number_of k) (old : List Record) (write : SectorWrite)
    (new : K) (brings : Knows new (record_of write)) where
  own_known : (less : Bool) (met r : Record) (k : K) → Knows k met → cond less (record_of write) met ≡ r
      → Knows (cond less new k) r
  own_known true met r k known is = subst (Knows new) is brings
  own_known false met r k known is = subst (Knows k) is known

  pub known_put : (met : Record) → record_at old (address_of write) ≡ Some met
      → (a : SectorAddress) (k : K) → ((r : Record) → record_at old a ≡ Some r → Knows k r)
      → (r : Record) → record_at (after_put old write) a ≡ Some r
      → Knows (cond (same_address (address_of write) a) (cond (nat_lt (number_of k) write.number) new k) k) r
  known_put met at a k known r is =
      go (same_address (address_of write) a) refl (sym (record_at-put old write met a at) ∙ is)
    where
      go : (here : Bool) → same_address (address_of write) a ≡ here
          → cond here (Some (cond (nat_lt met.number write.number) (record_of write) met)) (record_at old a) ≡ Some r
          → Knows (cond here (cond (nat_lt (number_of k) write.number) new k) k) r
      go false e is = known r is
      go true e is =
          let has : Knows k met =
          known met (subst (λ b. record_at old b ≡ Some met) (is_same (address_of write) a e) at) in
          subst (λ b. Knows (cond b new k) r) (ap (λ n. nat_lt n write.number) (numbered k met has))
          (own_known (nat_lt met.number write.number) met r k has (same_Some _ r is))
