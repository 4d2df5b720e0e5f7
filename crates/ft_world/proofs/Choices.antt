-- One more arrival makes what is accepted longer by its byte if its number is the next one, and otherwise leaves it; so
-- does the choice over all arrivals. One more write replaces what a sector has if its number is greater, and otherwise
-- leaves it; so does the choice of the greatest.
use Rattle.std.proofs.Common.{◌≡◌, ◌∙◌, ◌+◌, Bool, true, false, cond, List, [], ◌∷◌, ◌++◌, length, refl, sym, ap, subst, ℕ}
use Rattle.std.specs.Prelude.{nat_lt, map, filter, ◌==◌}
use Rattle.std.proofs.lemmas.Bool.{eqb-false, eqb-true, ltb-false, ltb-true}
use Rattle.std.proofs.lemmas.List.{append-nil, append_assoc, map-append}
use Rattle.ft_world.proofs.Words.{IsGreatest, Record, SectorAddress, SectorWrite, accepted-one, accepted_after, address_of, boot_record, latest, record_after, record_of, same_address, terminal, written_at}
use Rattle.shared_disk.proofs.Greatest.{first_is_greatest, greater_comes, no_greater_comes}
use Rattle.shared_disk.proofs.Arriving.{brought}
use Rattle.terminals.specs.Arrivals.{Arrival, IsAccepted}
use Rattle.terminals.proofs.Accepted.{drops_others, nothing_accepted, takes_next}
use Rattle.pair_protocol.specs.World as protocol
use Rattle.ft_world.specs.Choices.{DisksKeepTheGreatest, TerminalsAcceptTheLongest, arrivals_of, kept_of}

-- ---- terminals

-- the folded list is the chosen one
abbrev Chosen : List protocol.Arrival → Type 0
Chosen arrivals = IsAccepted (arrivals_of arrivals) (accepted_after 0 arrivals)

-- an arrival in the terminal's words
abbrev sent : protocol.Arrival → Arrival
sent a = record { number = a.number; byte = a.byte }

taken : (arrivals : List Arrival) (bytes : List ℕ) (a : protocol.Arrival) (here : Bool)
    → (a.number == length bytes + 1) ≡ here → IsAccepted arrivals bytes
    → IsAccepted (arrivals ++ sent a ∷ []) (bytes ++ cond here (a.byte ∷ []) [])
taken arrivals bytes a true is h =
    (takes_next bytes a.number a.byte (bytes ++ a.byte ∷ []) (eqb-true a.number (length bytes + 1) is) refl).so_far
    arrivals h
taken arrivals bytes a false is h =
    subst (IsAccepted (arrivals ++ sent a ∷ [])) (sym (append-nil bytes))
    ((drops_others bytes a.number a.byte (eqb-false a.number (length bytes + 1) is)).so_far arrivals h)

one_arrival : (arrivals : List protocol.Arrival) (a : protocol.Arrival) → Chosen arrivals → Chosen (arrivals ++ a ∷ [])
one_arrival arrivals a h =
    subst (λ xs. IsAccepted xs (accepted_after 0 (arrivals ++ a ∷ [])))
    (sym (map-append sent arrivals (a ∷ [])))
    (subst (IsAccepted (arrivals_of arrivals ++ sent a ∷ [])) (sym (accepted-one arrivals a))
    (taken (arrivals_of arrivals) (accepted_after 0 arrivals) a (a.number == length (accepted_after 0 arrivals) + 1)
    refl h))

all_arrivals : (front rest : List protocol.Arrival) → Chosen front → Chosen (front ++ rest)
all_arrivals front [] h = subst Chosen (sym (append-nil front)) h
all_arrivals front (a ∷ rest) h =
    subst Chosen (append_assoc front (a ∷ []) rest) (all_arrivals (front ++ a ∷ []) rest (one_arrival front a h))

pub terminals_accept : {S : Type 0} → TerminalsAcceptTheLongest S
terminals_accept w port = all_arrivals [] (terminal w port).arrivals nothing_accepted

-- ---- the disk

put : (records : List Record) (r : protocol.SectorRecord) (write : SectorWrite) (less : Bool)
    → nat_lt r.number write.number ≡ less → IsGreatest records (kept_of r)
    → IsGreatest (records ++ record_of write ∷ [])
    (kept_of (cond less (record { number = write.number; bytes = write.bytes }) r))
put records r write true is h =
    greater_comes records (kept_of r) (record_of write) h (ltb-true r.number write.number is)
put records r write false is h =
    no_greater_comes records (kept_of r) (record_of write) h (ltb-false r.number write.number is)

met : (records : List Record) (r : protocol.SectorRecord) (write : SectorWrite) (here : Bool)
    → IsGreatest records (kept_of r)
    → IsGreatest (records ++ brought here write)
    (kept_of (cond here
    (cond (nat_lt r.number write.number) (record { number = write.number; bytes = write.bytes }) r) r))
met records r write true h = put records r write (nat_lt r.number write.number) refl h
met records r write false h = subst (λ rs. IsGreatest rs (kept_of r)) (sym (append-nil records)) h

next_at : (address : SectorAddress) (write : SectorWrite) (here : Bool) (writes : List SectorWrite)
    → brought here write ++ written_at address writes
    ≡ map record_of (cond here (write ∷ filter (λ (v : SectorWrite). same_address (address_of v) address) writes)
    (filter (λ (v : SectorWrite). same_address (address_of v) address) writes))
next_at address write true writes = refl
next_at address write false writes = refl

all_writes : (records : List Record) (r : protocol.SectorRecord) (writes : List SectorWrite) (address : SectorAddress)
    → IsGreatest records (kept_of r)
    → IsGreatest (records ++ written_at address writes) (kept_of (latest r writes address))
all_writes records r [] address h = subst (λ rs. IsGreatest rs (kept_of r)) (sym (append-nil records)) h
all_writes records r (write ∷ writes) address h =
    let here = same_address (address_of write) address in
    subst (λ rs. IsGreatest rs (kept_of (latest r (write ∷ writes) address)))
    (append_assoc records (brought here write) (written_at address writes)
    ∙ ap (λ rs. records ++ rs) (next_at address write here writes))
    (all_writes (records ++ brought here write) (record_after r write address) writes address
    (met records r write here h))

pub disks_keep : {S : Type 0} → DisksKeepTheGreatest S
disks_keep M w address =
    all_writes (boot_record (M.boot_sector address) ∷ []) (record { number = 0; bytes = M.boot_sector address }) w.puts
    address (first_is_greatest (boot_record (M.boot_sector address)))
