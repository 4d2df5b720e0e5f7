-- A write that is outstanding at the end of a trace of an Altair was not completed along it.
use Rattle.std.proofs.Common.{◌≡◌, ℕ, ◌+◌, ◌≤◌, ◌⊎◌, List, [], ◌∷◌, ◌++◌, Option, Some, ap, arith, inl, inr, refl, subst, sym, ◌∙◌}
use Rattle.std.specs.Prelude.{◌==◌}
use Rattle.std.proofs.lemmas.Bool.{eqb-true}
use Rattle.std.proofs.lemmas.Option.{cond_some}
use Rattle.disk_dcdd.specs.Address.{address_of}
use Rattle.disk_dcdd.specs.Completion.{is_outstanding}
use Rattle.disk_dcdd.specs.declared.address.SectorAddress.{SectorAddress}
use Rattle.disk_dcdd.specs.declared.sector.Place.{Place}
use Rattle.disk_dcdd.specs.declared.sector.SectorWrite.{SectorWrite}
use Rattle.event_callbacks.specs.declared.operations.OpId.TheVariants as id
use Rattle.event_callbacks.specs.declared.operations.Operation.{Operation}
use Rattle.event_callbacks.specs.declared.operations.Operation.TheVariants.{Write}
use Rattle.guest_parts.specs.Guest.{Guest}
use Rattle.guest_board.specs.Guest.{after_rx, after_sector, after_sent, after_written, altair, oldest_byte, take_from}
use Rattle.guest_lockstep.specs.Machine.{Do, Move, Take}
use Rattle.guest_lockstep.specs.declared.input.Input.{Input}
use Rattle.guest_lockstep.specs.declared.input.Input.TheVariants as input
use Rattle.guest_board.specs.declared.setup.Setup.{Setup}
use Rattle.guest_lockstep.specs.Reach.{bare, inputs, steps}
use Rattle.guest_lockstep.specs.declared.timed.Bare.TheVariants.{Written}
use Rattle.guest_lockstep.specs.declared.timed.Timed.{Timed}
use Rattle.pair_protocol.specs.Lawful.{Among, Reaches}
use Rattle.pair_protocol.proofs.Traces.Lists.{among-split}
use Rattle.pair_protocol.proofs.Traces.Moves.{inputs-append}
use Rattle.altair_laws.proofs.Completions.{writes-take}
use Rattle.altair_laws.proofs.Images.{Apart, any-find, bares, number_of}
use Rattle.altair_laws.proofs.Issues.{writes-step}
use Rattle.altair_laws.proofs.Moves.{from_boot, operations-left}
use Rattle.altair_laws.proofs.Operations.{without-cases}
use Rattle.altair_laws.proofs.Steps.{Steps, after_step, steps_from}
use Rattle.altair_laws.proofs.Writes.{Has, WasIssued, Writes, IsSettled, writes-boot}

-- a write of this number was issued, and is no later than the last completed one of its sector
abbrev IsLate : List Move → Guest → ℕ → Type 0
IsLate moves g n =
    (w : SectorWrite) × WasIssued w moves × (w.number ≡ n) × (w.number ≤ number_of g.completed (address_of w))

-- so is each write that is completed along the moves
record Dones (start : SectorAddress → List ℕ) (moves : List Move) (g : Guest) : Type 0 where
  writes : Writes start moves g
  late : (n : ℕ) → Among (Written n) (bares (inputs 0 moves)) → IsLate moves g n

-- ---- one more move

bares-append : (xs ys : List Timed) → bares (xs ++ ys) ≡ bares xs ++ bares ys
bares-append [] ys = refl
bares-append (x ∷ xs) ys = ap (λ l. x.input ∷ l) (bares-append xs ys)

-- an input of more moves is one of the first ones, or of the others
split : (n : ℕ) (moves more : List Move) → Among (Written n) (bares (inputs 0 (moves ++ more)))
    → Among (Written n) (bares (inputs 0 moves)) ⊎ Among (Written n) (bares (inputs (0 + steps moves) more))
split n moves more a =
    among-split (Written n) (bares (inputs 0 moves)) (bares (inputs (0 + steps moves) more))
    (subst (Among (Written n)) (ap bares (inputs-append 0 moves more) ∙ bares-append (inputs 0 moves) (inputs (0 + steps moves) more)) a)

-- a step leaves the last completed writes
completed-step : (g u : Guest) (gives : Option Operation) → Steps g u gives → u.completed ≡ g.completed
completed-step g u gives k = after_step (λ moves v. v.completed ≡ g.completed) [] g u gives k refl

dones-step : (start : SectorAddress → List ℕ) (moves : List Move) (g u : Guest) (gives : Option Operation)
    → Dones start moves g → Steps g u gives → Dones start (moves ++ Do gives ∷ []) u
dones-step start moves g u gives d k = record {
  writes = writes-step start moves g u gives d.writes k;
  late = λ n a. at n (split n moves (Do gives ∷ []) a);
}
  where
    still : (n : ℕ) → IsLate moves g n → IsLate (moves ++ Do gives ∷ []) u n
    still n l = (
      l.0,
      operations-left (Write l.0) moves (Do gives ∷ []) l.1,
      l.2,
      subst (λ xs. l.0.number ≤ number_of xs (address_of l.0)) (sym (completed-step g u gives k)) l.3,
    )

    at : (n : ℕ) → Among (Written n) (bares (inputs 0 moves)) ⊎ Among (Written n) (bares (inputs (0 + steps moves) (Do gives ∷ [])))
        → IsLate (moves ++ Do gives ∷ []) u n
    at n (inl a) = still n (d.late n a)
    at n (inr a) = absurd a

-- no input makes a write outstanding
had : (g u : Guest) (i : Input) → take_from g i ≡ Some u → (w : SectorWrite) → Has u.operations w → Has g.operations w
had g u (input.Rx port byte) h w a =
    subst (λ (v : Guest). Has v.operations w) (sym (cond_some _ (after_rx g port byte) u h).1) a
had g u (input.Sent port) h w a =
    (without-cases g.operations (id.Byte port (oldest_byte g port)) (id.Write w.number) (Write w)
    (subst (λ (v : Guest). Has v.operations w) (sym (cond_some _ (after_sent g port) u h).1) a)).0
had g u (input.Sector drive sector number bytes) h w a =
    subst (λ (v : Guest). Has v.operations w) (sym (cond_some _ (after_sector g sector bytes) u h).1) a
had g u (input.Written number) h w a =
    (without-cases g.operations (id.Write number) (id.Write w.number) (Write w)
    (subst (λ (v : Guest). Has v.operations w) (sym (cond_some _ (after_written g number) u h).1) a)).0

-- the write that an input completes was outstanding, and is not any more
gone : (start : SectorAddress → List ℕ) (moves : List Move) (g u : Guest) (number : ℕ) → Writes start moves g
    → take_from g (input.Written number) ≡ Some u
    → (w : SectorWrite) × WasIssued w moves × (w.number ≡ number) × (Has u.operations w → ⊥)
gone start moves g u number d h =
    let t = cond_some (is_outstanding g.devices.disk number) (after_written g number) u h in
    let f = any-find (λ (p : Place). p.number == number) g.devices.disk.outstanding t.0 in
    let r = d.from f.0 f.1 in
    let is : r.0.number ≡ number = ap (λ (p : Place). p.number) r.2 ∙ eqb-true f.0.number number f.2 in (
      r.0,
      d.are_given.given (id.Write r.0.number) (Write r.0) r.1,
      is,
      λ a. (without-cases g.operations (id.Write number) (id.Write r.0.number) (Write r.0)
          (subst (λ (v : Guest). Has v.operations r.0) (sym t.1) a)).1 (ap id.Write is),
    )

dones-take : Apart → (start : SectorAddress → List ℕ) (moves : List Move) (g u : Guest) (i : Input)
    → Dones start moves g → take_from g i ≡ Some u → Dones start (moves ++ Take i ∷ []) u
dones-take apart start moves g u i d h = record {
  writes = after;
  late = λ n a. at n (split n moves (Take i ∷ []) a);
}
  where
    after : Writes start (moves ++ Take i ∷ []) u
    after = writes-take apart start moves g u i d.writes h

    -- a write that is not outstanding is late
    is_late : (n : ℕ) (w : SectorWrite) → WasIssued w moves → w.number ≡ n → (Has u.operations w → ⊥)
        → IsLate (moves ++ Take i ∷ []) u n
    is_late n w a is gone_is = by (after.settled w there)
      where
        there : WasIssued w (moves ++ Take i ∷ [])
        there = operations-left (Write w) moves (Take i ∷ []) a

        by : IsSettled u.completed u.operations w → IsLate (moves ++ Take i ∷ []) u n
        by (inl few) = (w, there, is, few)
        by (inr has) = absurd (gone_is has)

    before : (n : ℕ) → IsLate moves g n → IsLate (moves ++ Take i ∷ []) u n
    before n l = is_late n l.0 l.1 l.2
        (λ a. (let later = d.writes.later l.0 (had g u i h l.0 a) in let few = l.3 in omega arith))

    now : (n : ℕ) → Written n ≡ bare i → take_from g i ≡ Some u → IsLate (moves ++ Take i ∷ []) u n
    now n is t = by i is t
      where
        by : (j : Input) → Written n ≡ bare j → take_from g j ≡ Some u → IsLate (moves ++ Take i ∷ []) u n
        by (input.Rx port byte) e k = (cc)
        by (input.Sent port) e k = (cc)
        by (input.Sector drive sector number bytes) e k = (cc)
        by (input.Written number) e k =
            let r = gone start moves g u number d.writes k in
            let same : number ≡ n = (cc) in
            is_late n r.0 r.1 (r.2 ∙ same) r.3

    at : (n : ℕ) → Among (Written n) (bares (inputs 0 moves)) ⊎ Among (Written n) (bares (inputs (0 + steps moves) (Take i ∷ [])))
        → IsLate (moves ++ Take i ∷ []) u n
    at n (inl a) = before n (d.late n a)
    at n (inr (inl e)) = now n e h
    at n (inr (inr a)) = absurd a

dones_after : Apart → (setup : Setup) (start : SectorAddress → List ℕ) (moves : List Move) (g : Guest)
    → Reaches (altair setup start) moves g → Dones start moves g
dones_after apart setup start =
    from_boot (altair setup start) (Dones start) (record { writes = writes-boot setup start; late = λ n a. absurd a }) (record {
      steps = λ moves g u gives d h. dones-step start moves g u gives d (steps_from g u gives h);
      takes = λ moves g u i d h. dones-take apart start moves g u i d h;
    })

-- an outstanding write is not completed
pub not_done : Apart → (setup : Setup) (start : SectorAddress → List ℕ) (moves : List Move) (g : Guest)
    → Reaches (altair setup start) moves g → (w : SectorWrite) → Has g.operations w
    → Among (Written w.number) (bares (inputs 0 moves)) → ⊥
not_done apart setup start moves g r w has done =
    let d = dones_after apart setup start moves g r in
    let l = d.late w.number done in
    let issued = d.writes.are_given.given (id.Write w.number) (Write w) has in
    let same : l.0 ≡ w = d.writes.once l.0 w l.1 issued l.2 in
    let later = d.writes.later w has in
    let few = subst (λ (v : SectorWrite). v.number ≤ number_of g.completed (address_of v)) same l.3 in
    omega arith
