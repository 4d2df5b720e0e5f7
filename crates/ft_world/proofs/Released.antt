-- What was released was given by a step of one trace from boot, and was outstanding right after that step. So a write
-- that was released goes to a sector of the disk.
use Rattle.std.proofs.Common.{◌≡◌, [], ◌∷◌, ◌++◌, List, None, Some, inl, inr, refl, subst, sym, ℕ}
use Rattle.std.specs.Prelude.{IsTrue, slice_get}
use Rattle.ft_world.proofs.Words.{Among, Copying, Do, IsMachine, Machine, Move, Operation, Reached, Reaches, Released, Runs, SectorWrite, Take, World, address_of, among-get, has_sector, operations, runs-append}
use Rattle.event_callbacks.specs.Operations.{id_of}
use Rattle.event_callbacks.specs.declared.operations.Operation.TheVariants.{Write}
use Rattle.pair_protocol.proofs.Promises.Outputs.{trace_runs}
use Rattle.pair_protocol.proofs.Promises.Faithful.{reached}
use Rattle.guest_lockstep.specs.Outstanding.{ComesAndGoes}

-- an operation was outstanding after some moves from boot
pub record WasOutstanding {S : Type 0} (M : Machine S) (o : Operation) : Type 0 where
  pub moves : List Move
  pub at : S
  pub reaches : Reaches M moves at
  pub found : M.find at (id_of o) ≡ Some o

issued : {S : Type 0} (M : Machine S) → ComesAndGoes M → (front moves : List Move) (s t : S) (o : Operation) →
    Reaches M front s → Runs M s moves t → Among o (operations moves) → WasOutstanding M o
issued M laws front [] s t o from runs among = absurd among
issued M laws front (Do None ∷ moves) s t o from runs among =
    issued M laws (front ++ Do None ∷ []) moves runs.0 t o
    (runs-append M M.boot s runs.0 front (Do None ∷ []) from (runs.0, runs.1, refl)) runs.2 among
issued M laws front (Do (Some x) ∷ moves) s t o from runs (inl same) = record {
  moves = front ++ Do (Some x) ∷ [];
  at = runs.0;
  reaches = runs-append M M.boot s runs.0 front (Do (Some x) ∷ []) from (runs.0, runs.1, refl);
  found = subst (λ y. M.find runs.0 (id_of y) ≡ Some y) (sym same) (laws.comes s runs.0 x runs.1).0;
}
issued M laws front (Do (Some x) ∷ moves) s t o from runs (inr among) =
    issued M laws (front ++ Do (Some x) ∷ []) moves runs.0 t o
    (runs-append M M.boot s runs.0 front (Do (Some x) ∷ []) from (runs.0, runs.1, refl)) runs.2 among
issued M laws front (Take i ∷ moves) s t o from runs among =
    issued M laws (front ++ Take i ∷ []) moves runs.0 t o
    (runs-append M M.boot s runs.0 front (Take i ∷ []) from (runs.0, runs.1, refl)) runs.2 among

pub released_was_outstanding : {S : Type 0} (M : Machine S) (C : Copying S) (drives m : ℕ) (w : World S) (o : Operation) →
    IsMachine M C drives → Reached M C w → slice_get w.messages m ≡ Some (Released o) →
    WasOutstanding M o
released_was_outstanding M C drives m w o machine h there =
    let i = reached M C machine.lawful machine.copies w h in
    let r = trace_runs M C w i in
    issued M machine.operations [] i.trace M.boot r.0 o refl r.1
    (i.global.sends o (among-get w.messages m (Released o) there))

pub writes_on_disk : {S : Type 0} (M : Machine S) (C : Copying S) (drives m : ℕ) (w : World S) (write : SectorWrite) →
    IsMachine M C drives → Reached M C w → slice_get w.messages m ≡ Some (Released (Write write)) → IsTrue (has_sector drives (address_of write))
writes_on_disk M C drives m w write machine h there =
    let x = released_was_outstanding M C drives m w (Write write) machine h there in
    machine.on_disk.writes x.moves x.at (id_of (Write write)) write x.reaches x.found
