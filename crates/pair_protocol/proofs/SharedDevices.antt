-- The shared devices after one more access. A write leaves the record of greater number in its sector, and every other
-- sector keeps its record; the first node to ask for a generation is its winner from then on.
use Rattle.std.proofs.Common.{◌≡◌, [], ◌∷◌, ◌++◌, ◌∙◌, Bool, List, None, Option, Some, ap, cond, eq-eqb, eqb-true, false, find, inl, inr, is_some, ne_eqb, refl, subst, sym, true, ℕ}
use Rattle.std.specs.Option.{option_map}
use Rattle.std.specs.Prelude.{if◌then◌else◌, nat_lt, ◌==◌}
use Rattle.arbiter_core.proofs.FirstAskers.{first_askers_win}
use Rattle.arbiter_core.specs.Winners.{after_asking, winner_of}
use Rattle.arbiter_core.specs.declared.arbiter.Asking.{Asking}
use Rattle.i8080_words.specs.declared.refusal.Fault.{Fault}
use Rattle.i8080_words.specs.declared.refusal.Fault.TheVariants.{DeviceFault, Unknown}
use Rattle.shared_disk.proofs.Arriving.{known_put, record_at-put}
use Rattle.shared_disk.specs.Arrivals.{after_put, record_of}
use Rattle.shared_disk.specs.Records.{IsAt, record_at, refusal_at}
use Rattle.shared_disk.specs.declared.store.Record.{Record}
use Rattle.pair_protocol.specs.SharedDevices.{AreWinners, IsDisk}
use Rattle.pair_protocol.proofs.Words.{Machine, SectorAddress, SectorRecord, SectorWrite, Winner, address_of, same_address, sector_record, winner_in}
use Rattle.pair_protocol.proofs.Keeps.Arbiter.{winner-other, winner-push}
use Rattle.pair_protocol.proofs.Promises.OneMore.{sector_record-one}
use Rattle.pair_protocol.proofs.Traces.Lists.{bool_cases}

-- The disk.

-- a record of the disk has this number and these bytes
abbrev Has : SectorRecord → Record → Type 0
Has k r = (r.number ≡ k.number) × (r.bytes ≡ k.bytes)

there_after : (rs : List Record) (write : SectorWrite) (met : Record) (a : SectorAddress) →
    record_at rs (address_of write) ≡ Some met → (r : Record) × IsAt rs a r → (r : Record) × IsAt (after_put rs write) a r
there_after rs write met a at there = go (same_address (address_of write) a) (record_at-put rs write met a at)
  where
    go : (here : Bool) → record_at (after_put rs write) a
        ≡ cond here (Some (cond (nat_lt met.number write.number) (record_of write) met)) (record_at rs a)
        → (r : Record) × IsAt (after_put rs write) a r
    go true is = (cond (nat_lt met.number write.number) (record_of write) met, is)
    go false is = (there.0, is ∙ there.1)

-- one write more
pub disk_put : {S : Type 0} (M : Machine S) (drives : ℕ) (rs : List Record) (puts : List SectorWrite)
    (write : SectorWrite) (met : Record) → IsDisk M drives rs puts → record_at rs (address_of write) ≡ Some met →
    IsDisk M drives (after_put rs write) (puts ++ write ∷ [])
disk_put M drives rs puts write met d at = record {
  there = λ a t. there_after rs write met a at (d.there a t);
  kept = λ a r e. subst (λ k. Has k r) (sym (sector_record-one M puts write a))
      (known_put Has (λ (k : SectorRecord). k.number) (λ k r has. has.0) rs write
      (record { number = write.number; bytes = write.bytes }) (refl, refl) met at a (sector_record M puts a) (d.kept a) r e);
}

-- a sector that is there is refused by the device alone
pub not_put : (rs : List Record) (a : SectorAddress) (met : Record) (fault : Fault) → record_at rs a ≡ Some met →
    fault ≡ refusal_at rs a → fault ≡ DeviceFault
not_put rs a met fault at e = e ∙ ap (λ (o : Option Record). if is_some o then DeviceFault else Unknown) at

-- The arbiter.

asking_other : (askings : List Asking) (g n k : ℕ) → (k ≡ g → ⊥) →
    winner_of (askings ++ record { generation = g; node = n } ∷ []) k ≡ winner_of askings k
asking_other [] g n k differs =
    ap (λ b. option_map (λ (a : Asking). a.node) (cond b (Some (record { generation = g; node = n })) None))
    (ne_eqb g k (λ e. differs (sym e)))
asking_other (a ∷ askings) g n k differs = go (a.generation == k) (asking_other askings g n k differs)
  where
    node_in : Bool → List Asking → Option ℕ
    node_in b rest =
        option_map (λ (a : Asking). a.node) (cond b (Some a) (find (λ (a : Asking). a.generation == k) rest))

    go : (b : Bool) → winner_of (askings ++ record { generation = g; node = n } ∷ []) k ≡ winner_of askings k →
        node_in b (askings ++ record { generation = g; node = n } ∷ []) ≡ node_in b askings
    go true h = refl
    go false h = h

winners_push : (askings : List Asking) (winners : List Winner) (g n : ℕ) → AreWinners askings winners →
    winner_of askings g ≡ None →
    AreWinners (askings ++ record { generation = g; node = n } ∷ [])
    (winners ++ record { generation = g; node = n } ∷ [])
winners_push askings winners g n are none k = elim (bool_cases (k == g)) [
  | inl t ↦ subst
      (λ j. winner_of (askings ++ record { generation = g; node = n } ∷ []) j
      ≡ winner_in (winners ++ record { generation = g; node = n } ∷ []) j)
      (sym (eqb-true k g t))
      ((first_askers_win askings).first g n [] ((first_askers_win askings).nobody g none)
      ∙ sym (winner-push winners g n (sym (are g) ∙ none)))
  | inr f ↦ asking_other askings g n k (other f)
      ∙ are k
      ∙ sym (winner-other winners g n k (other f))
]
  where
    other : (k == g) ≡ false → k ≡ g → ⊥
    other f e = let t = eq-eqb k g e in (cc)

-- one winner more
pub winners_after : (askings : List Asking) (winners : List Winner) (g n : ℕ) → AreWinners askings winners →
    winner_of askings g ≡ None →
    AreWinners (after_asking askings g n) (winners ++ record { generation = g; node = n } ∷ [])
winners_after askings winners g n are none =
    subst (λ l. AreWinners l (winners ++ record { generation = g; node = n } ∷ []))
    (sym (ap (λ o. if is_some o then askings else askings ++ record { generation = g; node = n } ∷ []) none))
    (winners_push askings winners g n are none)
