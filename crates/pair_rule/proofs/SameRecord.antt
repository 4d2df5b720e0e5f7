-- The record of a sector that the disk answered is the same when its entry is appended: no write of it is outstanding then.
use Rattle.std.proofs.Common.{◌≡◌, ℕ, ◌+◌, ◌≤◌, Bool, true, false, cond, not, List, ◌++◌, Some, None, ◌⊎◌, inl, inr, refl, sym, ap, subst, ◌∙◌, arith, map, append-nil, nat_le, length}
use Rattle.std.specs.Prelude.{◌==◌}
use Rattle.pair_rule.proofs.Words.{Among, AsBefore, Byte, HasPort, HasWrite, IsDone, IsReplied, IsUnwritten, IsWritten, Knowledge, LatestIs, Lawful, Machine, Move, NotDue, OfPut, Operation, Quiet, Runs, SectorAddress, SectorBusy, SectorRead, SectorRecord, SectorWrite, Shows, StaleRead, Stands, Timed, Unknown, World, Write, Written, address_of, among-left, fault_if, id_of, inputs, inputs-append, latest_all, latest_is, no_such, operations, operations-append, recorded-runs, refusal_of, runs-append, sector-passed, sector_record, sector_refusal, steps}
use Rattle.guest_lockstep.specs.declared.input.Input.TheVariants as input
use Rattle.pair_protocol.specs.World.{Terminal}
use Rattle.pair_rule.specs.declared.payload.DiskAnswer.TheVariants as answer
use Rattle.pair_rule.proofs.ShownGuards.{all_in}
use Rattle.pair_rule.proofs.QuietSteps.{QuietMoves, quiet_moves}

-- a sector that is not refused is ready
pub is_ready : {S : Type 0} (M : Machine S) (s : S) (address : SectorAddress) (number : ℕ)
    → sector_refusal M s address number ≡ None → M.ready s address ≡ true
is_ready M s address number h = go (M.ready s address) (M.busy s address) (M.done s address == number) h
  where
    go : (a b c : Bool) → cond (not a) (Some NotDue) (cond b (Some SectorBusy) (cond (not c) (Some StaleRead) None)) ≡ None
        → a ≡ true
    go true b c k = refl
    go false b c k = (cc)

-- a sector that is not refused is not busy
not_busy : {S : Type 0} (M : Machine S) (s : S) (address : SectorAddress) (number : ℕ) → sector_refusal M s address number ≡ None
    → M.busy s address ≡ false
not_busy M s address number h = go (not (M.ready s address)) (M.busy s address) (M.done s address == number) h
  where
    go : (a b c : Bool) → cond a (Some NotDue) (cond b (Some SectorBusy) (cond (not c) (Some StaleRead) None)) ≡ None → b ≡ false
    go true b c k = (cc)
    go false true c k = (cc)
    go false false c k = refl

module _ {S : Type 0} (M : Machine S) (laws : Lawful M) (typed0 typed1 : List ℕ) (k : Knowledge) (w : World S)
    (z : Shows M typed0 typed1 k w) (st : Stands k) where
  -- a released operation has a port that is there
  pub port_there : (o : Operation) → HasPort o → no_such w (id_of o) ≡ None
  port_there (Byte port number byte) two = ap (λ (l : List Terminal). fault_if (nat_le (length l) port) Unknown) z.terminals ∙ ap
      (λ b. fault_if b Unknown) (let e : nat_le 2 port ≡ false = grind arith in e)
  port_there (Write v) two = refl

  module _ (n : ℕ) (t : S) (quiet : Quiet M z.s n t) (drive sector : ℕ) (r : SectorRead)
      (free : refusal_of M t (input.Sector drive sector r.number r.bytes) ≡ None)
      (given : Among (answer.Read r) k.primary.answers) (first : r.number ≡ 0
      → r.bytes ≡ M.boot_sector (M.address t drive sector)) where
    q : SectorAddress
    q = M.address t drive sector

    more : QuietMoves M z.s n t
    more = quiet_moves M z.s n t quiet

    moves : List Move
    moves = z.moves ++ more.moves

    runs : Runs M M.boot moves t
    unfolding moves more
    runs = runs-append M M.boot z.s t z.moves more.moves (recorded-runs M M.boot z.s z.moves z.recorded)
        (recorded-runs M z.s t more.moves more.recorded)

    last : M.done t q ≡ r.number
    unfolding q
    last = (sector-passed M t q r.number free).1

    start : SectorRecord
    start = record { number = 0; bytes = M.boot_sector q }

    here : SectorRecord
    here = sector_record M k.disk.puts q

    -- what was put was given by a step
    issued : (v : SectorWrite) → Among v k.disk.puts → Among (Write v) (operations moves)
    unfolding moves
    issued v m = subst (λ l. Among (Write v) l) (sym (operations-append z.moves more.moves))
        (among-left (Write v) (operations z.moves) (operations more.moves)
        (z.issued (Write v) (all_in (λ x. Among (Write x) k.primary.released) k.disk.puts v st.disk.puts m)))

    -- what is done was put
    put : (number : ℕ) → IsDone number moves → HasWrite k.disk.puts number
    unfolding moves
    put number d = z.done number (subst (λ (l : List Timed). Among (Written number) (map (λ (x : Timed). x.input) l))
        (inputs-append 0 z.moves more.moves ∙ ap (λ l. inputs 0 z.moves ++ l) (more.bare (0 + steps z.moves)) ∙ append-nil
        (inputs 0 z.moves)) d)

    -- no write of the sector that arrived is past the last completed one
    early : (v : SectorWrite) → Among v k.disk.puts → address_of v ≡ q → v.number ≤ M.done t q
    unfolding q
    early v m e = elim (laws.write_is moves t v runs (issued v m)) [
      | inl l ↦ subst (λ a. v.number ≤ M.done t a) e l
      | inr p ↦ (let b : M.busy t q ≡ true = laws.busy moves t v drive sector runs p e in
          let c = not_busy M t q r.number free in absurd (cc))
    ]

    -- and the last completed one has arrived
    late : IsUnwritten M moves t q ⊎ IsWritten M moves t q → M.done t q ≤ here.number
    unfolding here start
    late (inl o) = (let n = o.none in omega (arith, n))
    late (inr o) =
        let p = put o.write.number o.completed in
        let same : p.0 ≡ o.write = laws.write_once moves t p.0 o.write runs (issued p.0 p.1) o.issued p.2 in
        let g = latest_all start k.disk.puts q p.0 p.1 (ap address_of same ∙ o.there) in
        let l = o.last in
        let n = p.2 in
        omega (arith, g, l, n)

    -- an answer with the number of a write has its bytes
    bytes_of : (v : SectorWrite) → Among v k.disk.puts → v.number ≡ r.number → IsReplied k.disk.puts (answer.Read r)
        → v.bytes ≡ r.bytes
    bytes_of v m e (inl none) = let a = laws.write_some moves t v runs (issued v m) in absurd (omega (arith, a, e, none))
    bytes_of v m e (inr u) = ap (λ (x : SectorWrite). x.bytes)
        (laws.write_once moves t v u.0 runs (issued v m) (issued u.0 u.1) (e ∙ sym u.3)) ∙ u.4

    pub still : sector_record M k.disk.puts (M.address t drive sector) ≡ record { number = r.number; bytes = r.bytes }
    unfolding q here start
    still = go (latest_is start k.disk.puts q) (laws.own_disk moves t q runs)
      where
        go : LatestIs start k.disk.puts q here → IsUnwritten M moves t q ⊎ IsWritten M moves t q
            → here ≡ record { number = r.number; bytes = r.bytes }
        go (AsBefore h) o =
            let zero_is : here.number ≡ 0 = ap (λ (x : SectorRecord). x.number) h in
            let l = late o in let d = last in
            let none : r.number ≡ 0 = omega (arith, zero_is, l, d) in
            h ∙ (λ i. record { number = sym none i; bytes = sym (first none) i })
        go (OfPut v m e h) o =
            let is : here.number ≡ v.number = ap (λ (x : SectorRecord). x.number) h in
            let f = early v m e in let l = late o in let d = last in
            let same : v.number ≡ r.number = omega (arith, is, f, l, d) in
            h ∙ (λ i. record {
              number = same i;
              bytes = bytes_of v m same (all_in (IsReplied k.disk.puts) k.disk.given (answer.Read r) st.disk.replies
                  (all_in (λ a. Among a k.disk.given) k.primary.answers (answer.Read r) st.disk.answers given)) i;
            })
