-- What terminals and a disk have of what was released, compared with a trace that gave all of it: a terminal has the
-- trace's output, or all of it but the last bytes of a window; a sector has the bytes of the machine's own disk, or of an
-- outstanding write.
use Rattle.std.proofs.Common.{◌≡◌, ℕ, ◌+◌, ◌≤◌, ◌⊎◌, inl, inr, Option, Some, None, List, [], ◌∷◌, ◌++◌, length, map, refl, sym, ap, subst, ◌∙◌, arith, append-nil, length-append, slice_get}
use Rattle.pair_threads.proofs.Words.{AllAre, Among, Arrival, Arrived, Byte, HasWrite, IsAllBut, IsDone, IsImage, IsOutstanding, IsPrefix, IsUnwritten, IsWritten, Lawful, Machine, MayHave, Move, OpId, Operation, Runs, SectorAddress, SectorRecord, SectorWrite, Write, acceptances, accepted_after, address_of, arrival_of, image, inputs, operations, output, sector_record}
use Rattle.event_callbacks.specs.declared.operations.OpId.TheVariants as id
use Rattle.pair_protocol.proofs.Keeps.Disk.{AsBefore, LatestIs, OfPut, latest_all, latest_is}
use Rattle.pair_protocol.proofs.Promises.Outputs.{accepted_front, byte_in_output}
use Rattle.pair_rule.proofs.ShownGuards.{all_in}

-- the arrival among those of a view
arrived_one : (xs : List Arrived) (a : Arrival) → Among a (map arrival_of xs)
    → (x : Arrived) × Among x xs × (a ≡ arrival_of x)
arrived_one [] a at = absurd at
arrived_one (x ∷ xs) a (inl e) = (x, inl refl, e)
arrived_one (x ∷ xs) a (inr at) = let r = arrived_one xs a at in (r.0, inr r.1, r.2)

few_left : (front rest all accepted window : ℕ) → front + rest ≡ all → all ≤ accepted + window → accepted ≤ front
    → rest ≤ window
few_left front rest all accepted window whole most less = omega (arith, whole, most, less)

pub none_left : (front rest all : List ℕ) → front ++ rest ≡ all → length all ≤ length front → front ≡ all
none_left front [] all is le = sym (append-nil front) ∙ is
none_left front (x ∷ rest) all is le =
    absurd (let a = length-append front (x ∷ rest) in let b = ap length is in let c = le in omega (arith, a, b, c))

past_all : {X : Type 0} (w here before : ℕ) → 1 ≤ w → w ≤ here → here ≡ before → before ≡ 0 → X
past_all w here before some le is none = absurd (omega (arith, some, le, is, none))

is_last : (v done here w : ℕ) → v ≤ done → w ≡ done → w ≤ here → here ≡ v → w ≡ v
is_last v done here w early last late is = omega (arith, early, last, late, is)

none_done : {X : Type 0} (v done : ℕ) → 1 ≤ v → v ≤ done → done ≡ 0 → X
none_done v done some le none = absurd (omega (arith, some, le, none))

module _ {S : Type 0} (M : Machine S) (lawful : Lawful M) (trace : List Move) (u : S) (runs : Runs M M.boot trace u)
    (released : List Operation) (given : (o : Operation) → Among o released → Among o (operations trace)) where
  -- ---- a terminal

  module _ (port : ℕ) (arrivals : List Arrived)
      (arrived : AllAre arrivals (λ a. Among (Byte port a.number a.byte) released)) where
    abbrev screen : List ℕ
    screen = accepted_after 0 (map arrival_of arrivals)

    front : IsPrefix screen (output port trace)
    front = accepted_front [] (output port trace) (map arrival_of arrivals) (output port trace, refl) at
      where
        at : (a : Arrival) → Among a (map arrival_of arrivals)
            → (j : ℕ) × (a.number ≡ j + 1) × ◌≡◌ (slice_get (output port trace) j) (Some a.byte)
        at a m =
            let r = arrived_one arrivals a m in
            let g = byte_in_output M lawful trace u port r.0.number r.0.byte runs
            (given (Byte port r.0.number r.0.byte)
            (all_in (λ a. Among (Byte port a.number a.byte) released) arrivals r.0 arrived r.1)) in (
              g.0,
              ap (λ (x : Arrival). x.number) r.2 ∙ g.1,
              g.2 ∙ ap (λ (x : Arrival). Some x.byte) (sym r.2),
            )

    pub on_screen : acceptances port (inputs 0 trace) ≤ length screen → IsAllBut M.window_size screen (output port trace)
    on_screen less = (
      front.0,
      front.1,
      few_left (length screen) (length front.0) (length (output port trace)) (acceptances port (inputs 0 trace)) M.window_size
          (sym (length-append screen front.0) ∙ ap length front.1) (lawful.window trace u port runs) less,
    )

    pub whole_screen : length (output port trace) ≤ length screen → screen ≡ output port trace
    whole_screen le = none_left screen front.0 (output port trace) front.1 le

  -- ---- a disk

  module _ (puts : List SectorWrite) (released_puts : AllAre puts (λ w. Among (Write w) released))
      (done : (n : ℕ) → IsDone n trace → HasWrite puts n) (q : SectorAddress) where
    abbrev start : SectorRecord
    start = record { number = 0; bytes = M.boot_sector q }

    abbrev here : SectorRecord
    here = sector_record M puts q

    issued : (v : SectorWrite) → Among v puts → Among (Write v) (operations trace)
    issued v at = given (Write v) (all_in (λ w. Among (Write w) released) puts v released_puts at)

    -- the last completed write has come, so the record is no earlier
    come : (o : IsWritten M trace u q) → o.write.number ≤ here.number
    come o =
        let p = done o.write.number o.completed in
        let same : p.0 ≡ o.write = lawful.write_once trace u p.0 o.write runs (issued p.0 p.1) o.issued p.2 in
        subst (λ n. n ≤ here.number) p.2 (latest_all start puts q p.0 p.1 (ap address_of same ∙ o.there))

    -- a write that came is outstanding, or if it is no later than the last completed one it is that
    late : (v : SectorWrite) → Among v puts → address_of v ≡ q → here.bytes ≡ v.bytes
        → (v.number ≤ M.done u q → v.bytes ≡ image M trace q) → MayHave M trace u q here.bytes
    late v at there bytes exact = elim (lawful.write_is trace u v runs (issued v at)) [
      | inl le ↦ IsImage (bytes ∙ exact (subst (λ z. v.number ≤ M.done u z) there le))
      | inr found ↦ IsOutstanding v found there bytes
    ]

    kept : LatestIs start puts q here → IsUnwritten M trace u q ⊎ IsWritten M trace u q → MayHave M trace u q here.bytes
    kept (AsBefore same) (inl o) = IsImage (ap (λ (z : SectorRecord). z.bytes) same ∙ sym o.bytes)
    kept (AsBefore same) (inr o) =
        past_all o.write.number here.number 0 (lawful.write_some trace u o.write runs o.issued) (come o)
        (ap (λ (z : SectorRecord). z.number) same) refl
    kept (OfPut v at there same) (inl o) = late v at there (ap (λ (z : SectorRecord). z.bytes) same)
        (λ le. none_done v.number (M.done u q) (lawful.write_some trace u v runs (issued v at)) le o.none)
    kept (OfPut v at there same) (inr o) = late v at there (ap (λ (z : SectorRecord). z.bytes) same)
        (λ le.
        let n : o.write.number ≡ v.number = is_last v.number (M.done u q) here.number o.write.number le o.last (come o)
        (ap (λ (z : SectorRecord). z.number) same) in
        let w : o.write ≡ v = lawful.write_once trace u o.write v runs o.issued (issued v at) n in
        ap (λ (z : SectorWrite). z.bytes) (sym w) ∙ o.bytes)

    pub in_sector : MayHave M trace u q here.bytes
    in_sector = kept (latest_is start puts q) (lawful.own_disk trace u q runs)

-- where nothing is outstanding, a sector has the bytes of the machine's own disk
pub at_rest : {S : Type 0} (M : Machine S) (trace : List Move) (u : S) (q : SectorAddress) (bytes : List ℕ)
    → ((name : OpId) → M.find u name ≡ None) → MayHave M trace u q bytes → bytes ≡ image M trace q
at_rest M trace u q bytes none (IsImage is) = is
at_rest M trace u q bytes none (IsOutstanding w found there is) =
    let both : ◌≡◌ {A = Option Operation} None (Some (Write w)) = sym (none (id.Write w.number)) ∙ found in absurd cc
