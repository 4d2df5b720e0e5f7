-- One more move after those of a trace: what the moves are together, where they lead, and what they carry of the disk.
use Rattle.std.proofs.Common.{◌≡◌, ℕ, suc, ◌+◌, List, [], ◌∷◌, ◌++◌, Option, None, Some, refl, sym, ap, ◌∙◌, subst, append_assoc, arith}
use Rattle.std.specs.Prelude.{reverse}
use Rattle.std.specs.Option.{option_map_or}
use Rattle.std.proofs.lemmas.List.{append-nil, reverse-append}
use Rattle.std.proofs.lemmas.Option.{same_Some}
use Rattle.disk_dcdd.specs.declared.address.SectorAddress.{SectorAddress}
use Rattle.disk_dcdd.specs.declared.sector.SectorWrite.{SectorWrite}
use Rattle.event_callbacks.specs.declared.operations.Operation.{Operation}
use Rattle.event_callbacks.specs.declared.operations.Operation.TheVariants.{Byte, Write}
use Rattle.guest_lockstep.specs.Machine.{Machine, Move, Do, Take, Runs}
use Rattle.guest_lockstep.specs.declared.input.Input.{Input}
use Rattle.guest_lockstep.specs.declared.input.Input.TheVariants as input
use Rattle.guest_lockstep.specs.Reach.{steps, output, writes, byte_to, write_of, image_from, bytes_after, Owns}

-- ---- where the moves lead

one_step : {S : Type 0} (o : Option (S × Option Operation)) (v u : S) (gives : Option Operation)
    → o ≡ Some (v, gives) → o ≡ Some (u, gives) → v ≡ u
one_step o v u gives e f = ap (λ p. option_map_or (λ (q : _ × _). q.0) p v) (sym e ∙ f)

pub owns_on : {S : Type 0} (M : Machine S) (before all : List Move) (s t : S) (xs ys : List Move)
    → all ≡ before ++ xs → Owns M before s xs → Runs M s xs t → Owns M all t ys → Owns M before s (xs ++ ys)
owns_on M before all s t [] ys e o r h =
    let same : all ≡ before = e ∙ append-nil before in
    subst (λ b. Owns M b s ys) same (subst (λ v. Owns M all v ys) (sym r) h)
owns_on {S} M before all s t (Do gives ∷ xs) ys e o r h =
    λ u step. owns_on M (before ++ Do gives ∷ []) all u t xs ys
    (e ∙ sym (append_assoc before (Do gives ∷ []) xs))
    (o u step)
    (subst (λ v. Runs M v xs t) (one_step (M.step s) r.0 u gives r.1 step) r.2)
    h
owns_on {S} M before all s t (Take i ∷ xs) ys e o r h = (
  o.0,
  λ u taken. owns_on M (before ++ Take i ∷ []) all u t xs ys
      (e ∙ sym (append_assoc before (Take i ∷ []) xs))
      (o.1 u taken)
      (subst (λ v. Runs M v xs t) (same_Some r.0 u (sym r.1 ∙ taken)) r.2)
      h,
)

-- ---- what the moves are

pub steps_do : (xs : List Move) (gives : Option Operation) → steps (xs ++ Do gives ∷ []) ≡ steps xs + 1
steps_do [] gives = refl
steps_do (Do g ∷ xs) gives = let h : steps (xs ++ Do gives ∷ []) ≡ steps xs + 1 = steps_do xs gives in omega (arith, h)
steps_do (Take i ∷ xs) gives = steps_do xs gives

pub steps_take : (xs : List Move) (i : Input) → steps (xs ++ Take i ∷ []) ≡ steps xs
steps_take [] i = refl
steps_take (Do g ∷ xs) i = ap suc (steps_take xs i)
steps_take (Take j ∷ xs) i = steps_take xs i

-- what a step sends and writes
abbrev pub sent : ℕ → Option Operation → List ℕ
sent port None = []
sent port (Some operation) = byte_to port operation

abbrev pub written : Option Operation → List SectorWrite
written None = []
written (Some operation) = write_of operation

pub output_do : (port : ℕ) (xs : List Move) (gives : Option Operation)
    → output port (xs ++ Do gives ∷ []) ≡ output port xs ++ sent port gives
output_do port [] None = refl
output_do port [] (Some operation) = append-nil (byte_to port operation)
output_do port (Do None ∷ xs) gives = output_do port xs gives
output_do port (Do (Some o) ∷ xs) gives =
    ap (λ bytes. byte_to port o ++ bytes) (output_do port xs gives)
    ∙ sym (append_assoc (byte_to port o) (output port xs) (sent port gives))
output_do port (Take i ∷ xs) gives = output_do port xs gives

pub output_take : (port : ℕ) (xs : List Move) (i : Input) → output port (xs ++ Take i ∷ []) ≡ output port xs
output_take port [] i = refl
output_take port (Do None ∷ xs) i = output_take port xs i
output_take port (Do (Some o) ∷ xs) i = ap (λ bytes. byte_to port o ++ bytes) (output_take port xs i)
output_take port (Take j ∷ xs) i = output_take port xs i

pub writes_do : (xs : List Move) (gives : Option Operation) → writes (xs ++ Do gives ∷ []) ≡ writes xs ++ written gives
writes_do [] None = refl
writes_do [] (Some operation) = append-nil (write_of operation)
writes_do (Do None ∷ xs) gives = writes_do xs gives
writes_do (Do (Some o) ∷ xs) gives =
    ap (λ ws. write_of o ++ ws) (writes_do xs gives) ∙ sym (append_assoc (write_of o) (writes xs) (written gives))
writes_do (Take i ∷ xs) gives = writes_do xs gives

pub writes_take : (xs : List Move) (i : Input) → writes (xs ++ Take i ∷ []) ≡ writes xs
writes_take [] i = refl
writes_take (Do None ∷ xs) i = writes_take xs i
writes_take (Do (Some o) ∷ xs) i = ap (λ ws. write_of o ++ ws) (writes_take xs i)
writes_take (Take j ∷ xs) i = writes_take xs i

-- ---- what the moves leave on the disk

one_earlier : (issued : List SectorWrite) (w : SectorWrite) (ws : List SectorWrite)
    → reverse ws ++ (w ∷ issued) ≡ reverse (w ∷ ws) ++ issued
one_earlier issued w ws =
    sym (append_assoc (reverse ws) (w ∷ []) issued) ∙ ap (λ r. r ++ issued) (sym (reverse-append (w ∷ []) ws))

pub image_on : (issued : List SectorWrite) (a : SectorAddress) (bytes : List ℕ) (xs ys : List Move)
    → image_from issued a bytes (xs ++ ys)
    ≡ image_from (reverse (writes xs) ++ issued) a (image_from issued a bytes xs) ys
image_on issued a bytes [] ys = refl
image_on issued a bytes (Do None ∷ xs) ys = image_on issued a bytes xs ys
image_on issued a bytes (Do (Some (Byte port number byte)) ∷ xs) ys = image_on issued a bytes xs ys
image_on issued a bytes (Do (Some (Write w)) ∷ xs) ys =
    image_on (w ∷ issued) a bytes xs ys
    ∙ ap (λ before. image_from before a (image_from (w ∷ issued) a bytes xs) ys) (one_earlier issued w (writes xs))
image_on issued a bytes (Take (input.Rx port byte) ∷ xs) ys = image_on issued a bytes xs ys
image_on issued a bytes (Take (input.Sent port) ∷ xs) ys = image_on issued a bytes xs ys
image_on issued a bytes (Take (input.Sector drive sector number others) ∷ xs) ys = image_on issued a bytes xs ys
image_on issued a bytes (Take (input.Written number) ∷ xs) ys =
    image_on issued a (bytes_after issued number a bytes) xs ys
