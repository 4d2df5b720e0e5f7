-- What a node has made, logged, replayed, gathered or held, said of moves and lists alone: an action that leaves these
-- leaves what is said of them.
use Rattle.std.proofs.Common.{[], ◌++◌, ◌+◌, ◌<◌, ◌∷◌, ◌≡◌, ◌≤◌, ◌⊎◌, List, Option, Some, length, suc, take, true, ℕ}
use Rattle.std.specs.Prelude.{slice_get}
use Rattle.pair_protocol.proofs.Words.{Among, Do, Entry, IsPrefix, Machine, Move, Note, Operation, Reads, Runs, SectorWrite, Timed, Write, cut, entries, id_of, inputs, is_read, note_of, operations, steps}

-- The note of an operation.
pub record IsNoted (reads : Reads) (c : ℕ) (own : List Move) (notes : List Note) (o : Operation) : Type 0 where
  pub note : Note
  pub found : note_of notes (id_of o) ≡ Some note
  -- the operation was given at the noted entry, or before
  pub given : Among o (operations (cut (suc note.index) own))
  -- which is in the log
  pub inside : note.index < length (entries reads c own)
  -- a write waits for each read up to there
  pub waits : (write : SectorWrite) → o ≡ Write write → (k : ℕ) (e : Entry) → k ≤ note.index →
      slice_get (entries reads c own) k ≡ Some e → is_read e ≡ true → k < note.after

abbrev pub AreNoted : Reads → ℕ → List Note → List Move → Type 0
AreNoted reads c notes own = (o : Operation) → Among o (operations own) → IsNoted reads c own notes o

-- A node has made these moves after the base: it is where they lead, and its list has all inputs.
pub record HasMade {S : Type 0} (M : Machine S) (mid : S) (base ms : List Move) (machine : S)
    (inputs_so_far : List Timed) : Type 0 where
  pub runs : Runs M mid ms machine
  pub count : M.count machine ≡ steps base + steps ms
  pub list : inputs_so_far ≡ inputs 0 (base ++ ms)

-- A log has the entries of these moves, and each of their operations is noted.
pub record HasLogged (reads : Reads) (c : ℕ) (own : List Move) (entries_so_far : List Entry) (notes_so_far : List Note) : Type 0 where
  pub log : entries_so_far ≡ entries reads c own
  pub notes : AreNoted reads c notes_so_far own

-- the moves have the replayed entries, or one mark more
abbrev pub AtPlace : Reads → ℕ → List Move → List Entry → ℕ → Type 0
AtPlace reads c ms held k =
    (entries reads c ms ≡ take k held)
    ⊎ ((short : List Move) × (o : Operation) × (ms ≡ short ++ Do (Some o) ∷ []) × (entries reads c short ≡ take k held)
    × (k < length held))

-- A node that replays what it holds: ms are the moves that it has made since the count c.
pub record ReplayedMoves {S : Type 0} (M : Machine S) (mid : S) (reads : Reads) (c : ℕ) (own : List Move) (machine : S) (held : List Entry)
    (replayed : ℕ) : Type 0 where
  pub ms : List Move
  pub runs : Runs M mid ms machine
  pub count : M.count machine ≡ c + steps ms
  -- they are the primary's, and go no further than what it holds
  pub within : IsPrefix ms (cut (length held) own)
  pub few : replayed ≤ length held
  pub place : AtPlace reads c ms held replayed

-- A joining node: the parts that it has are those of the whole.
pub record HasGathered (whole : List (List ℕ)) (held : List Entry) (replayed : ℕ)
    (parts : List (Option (List ℕ))) : Type 0 where
  pub empty : held ≡ []
  pub none : replayed ≡ 0
  pub long : length parts ≡ length whole
  pub each : (i : ℕ) (p : List ℕ) → slice_get parts i ≡ Some (Some p) → slice_get whole i ≡ Some p

-- Where a backup begins, and what it holds.
pub record HoldsLog (reads : Reads) (base own : List Move) (first : List Timed) (from : ℕ) (entries_held : List Entry) : Type 0 where
  -- its copy has the inputs of the base, and its entries start at the count of the base
  pub copy : first ≡ inputs 0 base
  pub start : from ≡ steps base
  -- what it holds is a prefix of the primary's log
  pub held : IsPrefix entries_held (entries reads (steps base) own)
