-- Why an input is refused at a node that takes input: by its guest, and by what its log answers to one more entry. Each
-- list is the protocol's, in the same order.
use Rattle.std.specs.Prelude.{ℕ, not, ◌==◌, nat_le, Option, Some, None, List, [], ◌∷◌, Result, Ok, Err}
use Rattle.disk_dcdd.specs.Address.{same_address}
use Rattle.disk_dcdd.specs.declared.address.SectorAddress.{SectorAddress}
use Rattle.guest_lockstep.specs.Machine.{Machine, refusal_of}
use Rattle.guest_lockstep.specs.declared.input.Input.TheVariants as input
use Rattle.i8080_words.specs.declared.limits.TheConstants.{GREATEST_NUMBER}
use Rattle.i8080_words.specs.declared.refusal.Fault.{Fault}
use Rattle.i8080_words.specs.declared.refusal.Fault.TheVariants.{NotDue, WrongNumber, Spent}
use Rattle.pair_protocol.specs.Refusals.{fault_if, first_of, is_number}

-- the refusal that was returned, if one was
abbrev pub refused_by : Result (Unit {0}) Fault → Option Fault
refused_by (Ok done) = None
refused_by (Err fault) = Some fault

abbrev pub key_refusal : {S : Type 0} → Machine S → S → Result (Unit {0}) Fault → ℕ → ℕ → Option Fault
key_refusal M s room port index =
    first_of
    (fault_if (not (index == M.keys s port)) WrongNumber ∷ refused_by room
    ∷ fault_if (nat_le GREATEST_NUMBER (M.keys s port)) Spent ∷ [])

abbrev pub sent_refusal : {S : Type 0} → Machine S → S → Result (Unit {0}) Fault → ℕ → ℕ → Option Fault
sent_refusal M s room port number =
    first_of
    (refusal_of M s (input.Sent port) ∷ fault_if (not (is_number (M.due_byte s port) number)) WrongNumber
    ∷ refused_by room ∷ [])

abbrev pub done_refusal : {S : Type 0} → Machine S → S → Result (Unit {0}) Fault → ℕ → Option Fault
done_refusal M s room number = first_of (refusal_of M s (input.Written number) ∷ refused_by room ∷ [])

abbrev pub under_refusal : {S : Type 0} → Machine S → S → Result (Unit {0}) Fault → SectorAddress → ℕ → List ℕ
    → Option Fault
under_refusal M s room address number bytes =
    first_of
    (fault_if (not (same_address (M.address s address.drive address.sector) address)) NotDue
    ∷ refusal_of M s (input.Sector address.drive address.sector number bytes) ∷ refused_by room ∷ [])
