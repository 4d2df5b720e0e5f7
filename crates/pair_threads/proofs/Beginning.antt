-- What a generation begins with: a guest at boot has nothing outstanding.
use Rattle.std.proofs.Common.{◌≡◌, ℕ, List, [], Option, Some, None, refl}
use Rattle.pair_threads.proofs.Words.{Lawful, Machine, OpId, Operation, SectorAddress, booted_from}

pub nothing_yet : {S : Type 0} (N : Machine S) (boot : S) (sectors : SectorAddress → List ℕ)
    → Lawful (booted_from N boot sectors) → (name : OpId) → N.find boot name ≡ None
nothing_yet N boot sectors lawful name = go (N.find boot name) refl
  where
    go : (o : Option Operation) → N.find boot name ≡ o → N.find boot name ≡ None
    go None is = is
    go (Some o) is = absurd (lawful.given [] boot name o refl is)
