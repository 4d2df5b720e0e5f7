-- When a backup reaches a read, the disk answers what its primary took there: both are what the machine's own disk has at
-- that place. So the backup makes its primary's move.
use Rattle.std.proofs.Common.{[], ◌++◌, ◌∙◌, ◌∷◌, ◌≡◌, ◌⊎◌, List, ap, append-nil, append_assoc, arith, inl, inr, length, refl, subst, sym, ℕ}
use Rattle.guest_lockstep.specs.declared.input.Input.TheVariants as input
use Rattle.guest_lockstep.specs.declared.reads.Reads.TheVariants.{Logged, Shared}
use Rattle.guest_lockstep.specs.declared.timed.Bare.TheVariants as kind
use Rattle.guest_lockstep.proofs.Moves.{own_once}
use Rattle.log_entry.specs.declared.entry.Entry.TheVariants as entry
use Rattle.pair_protocol.proofs.Words.{Among, Copying, Do, Entry, Input, IsPrefix, IsUnwritten, IsWritten, Lawful, Machine, Move, Node, Own, Owns, Reads, Runs, SectorAddress, SectorWrite, Take, World, Write, bare, cut, entry_of, image, operations}
use Rattle.pair_protocol.proofs.Invariant.Acting.{ActingBackup, line_at}
use Rattle.pair_protocol.proofs.Invariant.Settled.{covers-below}
use Rattle.pair_protocol.proofs.Invariant.{AtStart, HasReplayed, Inv, IsRecord, Line, LineOf, OfWrite, settled}
use Rattle.pair_protocol.proofs.Keeps.Fetched.{IsAnswered}
use Rattle.pair_protocol.proofs.Keeps.Replay.{Ahead, NextInput, ahead, next-input}
use Rattle.pair_protocol.proofs.Promises.Outputs.{trace_runs}
use Rattle.pair_protocol.proofs.Traces.Lists.{among-prefix, prefix-append, prefix-trans}
use Rattle.pair_protocol.proofs.Traces.Moves.{operations-prefix, owns-prefix, runs-append}

-- the move of a read is a sector that comes, of that number
pub read_move : (reads : Reads) (c count drive sector number : ℕ) (i : Input) →
    entry_of reads c i ≡ entry.Read count drive sector number →
    (bytes : List ℕ) × (i ≡ input.Sector drive sector number bytes)
read_move reads c count drive sector number (input.Rx port byte) h = (cc)
read_move reads c count drive sector number (input.Sent port) h = (cc)
read_move Logged c count drive sector number (input.Sector d s n bytes) h = (cc)
read_move Shared c count drive sector number (input.Sector d s n bytes) h = (bytes, (cc))
read_move reads c count drive sector number (input.Written n) h = (cc)

-- an input among moves carries what the machine's own disk has
pub owns-at : {S : Type 0} (M : Machine S) (before : List Move) (s t : S) (xs ys : List Move) (i : Input) →
    Runs M s xs t → Owns M before s (xs ++ Take i ∷ ys) → Own M (before ++ xs) t i
owns-at M before s t [] ys i r o =
    subst (λ z. Own M (before ++ []) z i) r (subst (λ zs. Own M zs s i) (sym (append-nil before)) o.0)
owns-at M before s t (Do g ∷ xs) ys i r o =
    subst (λ zs. Own M zs t i) (append_assoc before (Do g ∷ []) xs)
    (owns-at M (before ++ Do g ∷ []) r.0 t xs ys i r.2 (o r.0 r.1))
owns-at M before s t (Take j ∷ xs) ys i r o =
    subst (λ zs. Own M zs t i) (append_assoc before (Take j ∷ []) xs)
    (owns-at M (before ++ Take j ∷ []) r.0 t xs ys i r.2 (o.1 r.0 r.1))

-- the record of the number of a sector's last completed write has the bytes of the machine's own disk
pub right_bytes : {S : Type 0} (M : Machine S) → Lawful M → (moves T : List Move) (s t : S) (q : SectorAddress)
    (number : ℕ) (bytes : List ℕ) → Runs M M.boot moves s → Runs M M.boot T t → IsPrefix moves T →
    M.done s q ≡ number → IsRecord M q number bytes T → image M moves q ≡ bytes
right_bytes {S} M laws moves T s t q number bytes runs all front done record_is = go record_is (laws.own_disk moves s q runs)
  where
    later : (v : SectorWrite) → Among (Write v) (operations moves) → Among (Write v) (operations T)
    later v = among-prefix (Write v) (operations moves) (operations T) (operations-prefix moves T front)

    go : IsRecord M q number bytes T → IsUnwritten M moves s q ⊎ IsWritten M moves s q → image M moves q ≡ bytes
    go (AtStart none is) (inl u) = u.bytes ∙ sym is
    go (OfWrite v m at n is) (inl u) =
        let some = laws.write_some T t v all m in
        let zero_is = u.none in
        absurd (omega (arith, some, n, zero_is, done))
    go (AtStart none is) (inr o) =
        let some = laws.write_some T t o.write all (later o.write o.issued) in
        let last = o.last in
        absurd (omega (arith, some, none, last, done))
    go (OfWrite v m at n is) (inr o) =
        let last = o.last in
        let same : v ≡ o.write = laws.write_once T t v o.write all m (later o.write o.issued) (n ∙ sym done ∙ sym last) in
        sym o.bytes ∙ ap (λ (z : SectorWrite). z.bytes) (sym same) ∙ is

module _ {S : Type 0} (M : Machine S) (C : Copying S) (laws : Lawful M) (w : World S) (i : Inv M C w) (n : ℕ)
    (x : Node S) (q : ActingBackup M C w i n x) (f : HasReplayed M (line_at i x) x) (bytes : List ℕ)
    (a : IsAnswered M w.messages x bytes) where
  abbrev pub o : LineOf M C w i.top i.trace x.generation
  o = i.each x.generation

  abbrev pub l : Line S
  l = o.line

  abbrev pub last : S
  last = o.sound.recorded.0

  abbrev pub read : Entry
  read = entry.Read (M.count x.machine) a.drive a.sector a.number

  abbrev pub answered : Input
  answered = input.Sector a.drive a.sector a.number bytes

  pub primary_took : NextInput M l last x q.is_backup.held o.sound.recorded.1 f read answered
  primary_took = subst (NextInput M l last x q.is_backup.held o.sound.recorded.1 f read) same next.1
    where
      next : (j : Input) × NextInput M l last x q.is_backup.held o.sound.recorded.1 f read j
      next = next-input M l last x q.is_backup.held o.sound.recorded.1 read (kind.Sector a.drive a.sector) a.at refl refl f

      took : (others : List ℕ) × (next.0 ≡ input.Sector a.drive a.sector a.number others)
      took = read_move l.reads (M.count x.machine) (M.count x.machine) a.drive a.sector a.number next.0 next.1.entry_is

      come : Ahead M l x f.ms
      come = ahead M l last x q.is_backup.held o.sound.recorded.1 f

      moves : List Move
      moves = l.base ++ f.ms

      runs : Runs M M.boot moves x.machine
      runs = runs-append M M.boot l.mid x.machine l.base f.ms o.sound.based f.runs

      -- the settled moves go on with that move
      goes_on : IsPrefix (moves ++ Take next.0 ∷ next.1.rest) i.trace
      goes_on =
          let whole = come.whole in
          let e : moves ++ Take next.0 ∷ next.1.rest ≡ l.base ++ cut (length x.held) l.own =
          append_assoc l.base f.ms (Take next.0 ∷ next.1.rest)
          ∙ ap (λ zs. l.base ++ (f.ms ++ zs)) (sym next.1.to_come) ∙ ap (λ zs. l.base ++ zs) whole in
          subst (λ zs. IsPrefix zs i.trace) (sym e)
          (prefix-trans (l.base ++ cut (length x.held) l.own) (settled l) i.trace
          (covers-below l.stage l.base l.own l.more (length x.held) (length l.held)
          (let z = ap length q.held in omega (arith, z))) o.below)

      own : Own M moves x.machine next.0
      own = owns-at M [] M.boot x.machine moves next.1.rest next.0 runs
          (owns-prefix M M.boot (moves ++ Take next.0 ∷ next.1.rest) i.trace goes_on i.global.owns)

      own_taken : Own M moves x.machine (input.Sector a.drive a.sector a.number took.0)
      own_taken = subst (Own M moves x.machine) took.1 own

      front : IsPrefix moves i.trace
      front = prefix-trans moves (moves ++ Take next.0 ∷ next.1.rest) i.trace
          (prefix-append moves (Take next.0 ∷ next.1.rest)) goes_on

      right : image M moves (M.address x.machine a.drive a.sector) ≡ bytes
      right =
          let t = trace_runs M C w i in
          right_bytes M laws moves i.trace x.machine t.0 (M.address x.machine a.drive a.sector) a.number bytes runs t.1 front
          own_taken.0 (i.global.reads (M.address x.machine a.drive a.sector) a.number bytes a.answer)

      same : next.0 ≡ answered
      same = own_once M moves x.machine next.0 answered own (own_taken.0, right) (ap bare took.1)
