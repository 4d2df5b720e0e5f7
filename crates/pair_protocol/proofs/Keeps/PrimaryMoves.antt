-- What may be taken was accepted, typed or put; and what a primary is after each move.
use Rattle.std.proofs.Common.{[], ◌++◌, ◌+◌, ◌∙◌, ◌∷◌, ◌≡◌, ◌≤◌, ◌⊎◌, Bool, List, None, Option, Some, ap, append-nil, arith, cond, eqb-true, false, inl, inr, length, map, not, refl, subst, suc, sym, true, ℕ}
use Rattle.std.specs.Prelude.{◌==◌, slice_get}
use Rattle.pair_protocol.proofs.Words.{Alone, Among, Do, Input, IsPrefix, IsUnwritten, IsWritten, Lawful, Machine, MayTake, Move, Node, Operation, Own, Primary, Runs, SectorAddress, SectorRead, SectorWrite, Take, Timed, World, Write, WriteDone, acceptances, accepted, bare, entries, entry_of, image, inputs, keys, operations, primary_steps, primary_takes, refusal_of, sector_refusal, steps, terminal, timed}
use Rattle.guest_lockstep.specs.declared.input.Input.TheVariants as input
use Rattle.guest_lockstep.specs.declared.timed.Bare.TheVariants.{Rx, Sent, Written}
use Rattle.i8080_words.specs.declared.refusal.Fault.TheVariants.{NotDue, SectorBusy, StaleRead}
use Rattle.pair_protocol.proofs.Invariant.Frames.{with_own}
use Rattle.pair_protocol.proofs.Invariant.{ArePut, AtStart, CameIn, HasMade, HasPut, IsPrimary, IsRecord, Line, OfWrite}
use Rattle.pair_protocol.proofs.Keeps.PrimaryLog.{log-do, notes-do, notes-more, whole-do, whole-take}
use Rattle.pair_protocol.proofs.Traces.Lists.{among-prefix, among-split, bool_cases, map-append, prefix-next}
use Rattle.pair_protocol.proofs.Traces.Moves.{acceptances-append, entries-append, keys-append, operations-append, operations-prefix, runs-append, steps-append}

module _ {S : Type 0} (M : Machine S) (w : World S) (x : Node S) where
  -- What may be taken.

  done-take : (i : Input) (c : ℕ) → MayTake M w x i → ((p k : ℕ) → M.due_byte x.machine p ≡ Some k →
      k ≡ acceptances p x.list + 1) → ((p : ℕ) → acceptances p x.list ≤ length (accepted w p)) → (p : ℕ) →
      acceptances p (x.list ++ timed c i ∷ []) ≤ length (accepted w p)
  done-take (input.Sent q) c h due done p =
      let e = acceptances-append p x.list (record { count = c; input = Sent q } ∷ []) in
      let d = done p in
      go e (bool_cases (p == q))
    where
      go : acceptances p (x.list ++ record { count = c; input = Sent q } ∷ []) ≡ acceptances p x.list + acceptances p
          (record { count = c; input = Sent q } ∷ []) → ((p == q) ≡ true) ⊎ ((p == q) ≡ false) →
          acceptances p (x.list ++ record { count = c; input = Sent q } ∷ []) ≤ length (accepted w p)
      go e (inl t) =
          let f : acceptances p (record { count = c; input = Sent q } ∷ []) ≡ 1 = ap (λ b. cond b 1 0 + 0) t in
          let s : p ≡ q = eqb-true p q t in
          let k = subst (λ z. (k : ℕ) × (M.due_byte x.machine z ≡ Some k) × (k ≤ length (accepted w z))) (sym s) h in
          let j = due p k.0 k.1 in
          let l = k.2 in
          omega arith
      go e (inr t) =
          let f : acceptances p (record { count = c; input = Sent q } ∷ []) ≡ 0 = ap (λ b. cond b 1 0 + 0) t in
          let d = done p in
          omega arith
  done-take i c h due done p = let e = acceptances-append p x.list (timed c i ∷ []) in let d = done p in omega arith

  typed-take : (i : Input) (c : ℕ) → MayTake M w x i → ((p : ℕ) → M.keys x.machine p ≡ length (keys p x.list)) →
      ((p : ℕ) → IsPrefix (keys p x.list) (terminal w p).typed) → (p : ℕ) → IsPrefix (keys p (x.list ++ timed c i ∷ []))
      (terminal w p).typed
  typed-take (input.Rx q b) c h taken typed p =
      subst (λ zs. IsPrefix zs (terminal w p).typed)
      (sym (keys-append p x.list (record { count = c; input = Rx q b } ∷ []))) (go (bool_cases (p == q)))
    where
      go : ((p == q) ≡ true) ⊎ ((p == q) ≡ false) →
          IsPrefix (keys p x.list ++ (cond (p == q) (b ∷ []) [] ++ [])) (terminal w p).typed
      go (inl t) =
          let s : p ≡ q = eqb-true p q t in
          let k0 = subst (λ z. slice_get (terminal w z).typed (M.keys x.machine z) ≡ Some b) (sym s) h in
          let k = subst (λ z. slice_get (terminal w p).typed z ≡ Some b) (taken p) k0 in
          let e : b ∷ [] ≡ cond (p == q) (b ∷ []) [] ++ [] = ap (λ v. cond v (b ∷ []) [] ++ []) (sym t) in
          subst (λ zs. IsPrefix (keys p x.list ++ zs) (terminal w p).typed) e
          (prefix-next (keys p x.list) (terminal w p).typed b (typed p) k)
      go (inr t) =
          let e : [] ≡ cond (p == q) (b ∷ []) [] ++ [] = ap (λ v. cond v (b ∷ []) [] ++ []) (sym t) in
          subst (λ zs. IsPrefix (keys p x.list ++ zs) (terminal w p).typed) e
          (subst (λ zs. IsPrefix zs (terminal w p).typed) (sym (append-nil (keys p x.list))) (typed p))
  typed-take i c h taken typed p =
      subst (λ zs. IsPrefix zs (terminal w p).typed)
      (sym (keys-append p x.list (timed c i ∷ []) ∙ append-nil (keys p x.list))) (typed p)

  -- completed writes have arrived
  put-take : (i : Input) (c : ℕ) → MayTake M w x i → ((n : ℕ) → Among (WriteDone n) w.messages → HasPut w.puts n) →
      ArePut w.puts x.list → ArePut w.puts (x.list ++ timed c i ∷ [])
  put-take i c may told h n k =
      elim (among-split (Written n) (map (λ t. t.input) x.list) (bare i ∷ [])
      (subst (λ zs. Among (Written n) zs) (map-append (λ (t : Timed). t.input) x.list (timed c i ∷ [])) k)) [
        | inl q ↦ h n q
        | inr q ↦ go i may q
      ]
    where
      go : (i : Input) → MayTake M w x i → Among (Written n) (bare i ∷ []) → HasPut w.puts n
      go (input.Written j) m (inl e) = (let f : n ≡ j = (cc) in subst (λ z. HasPut w.puts z) (sym f) (told j m))
      go i m (inl e) = (cc)
      go i m (inr e) = absurd e

-- all three, of a machine that has made these moves from boot
pub came-take : {S : Type 0} (M : Machine S) (laws : Lawful M) (w : World S) (x : Node S) (i : Input) (c : ℕ)
    (ms : List Move) → Runs M M.boot ms x.machine → x.list ≡ inputs 0 ms → MayTake M w x i →
    ((n : ℕ) → Among (WriteDone n) w.messages → HasPut w.puts n) → CameIn w.terminals w.puts x.list →
    CameIn w.terminals w.puts (x.list ++ timed c i ∷ [])
came-take M laws w x i c ms runs list may written h = record {
  done = done-take M w x i c may (λ p k d. laws.due ms x.machine p k runs d
      ∙ ap (λ ts. acceptances p ts + 1) (sym list)) h.done;
  typed = typed-take M w x i c may (λ p. laws.takes_keys ms x.machine p runs ∙ ap (λ ts. length (keys p ts)) (sym list))
      h.typed;
  put = put-take M w x i c may written h.put;
}

-- What the primary is after each move.

module _ {S : Type 0} (M : Machine S) (mid : S) (base ms : List Move) (a s : S) (list : List Timed)
    (made : HasMade M mid base ms a list) where
  pub made-do : (o : Option Operation) → M.step a ≡ Some (s, o) → M.count s ≡ suc (M.count a) →
      HasMade M mid base (ms ++ Do o ∷ []) s list
  made-do o h e = record {
    runs = runs-append M mid a s ms (Do o ∷ []) made.runs (s, h, refl);
    count = (let k = made.count in let n = steps-append ms (Do o ∷ []) in omega arith);
    list = made.list ∙ sym (whole-do base ms o);
  }

  pub made-take : (i : Input) → M.take a i ≡ Some s → M.count s ≡ M.count a →
      HasMade M mid base (ms ++ Take i ∷ []) s (list ++ timed (M.count a) i ∷ [])
  made-take i h e = record {
    runs = runs-append M mid a s ms (Take i ∷ []) made.runs (s, h, refl);
    count = (let k = made.count in let n = steps-append ms (Take i ∷ []) in omega arith);
    list = ap (λ ts. ts ++ timed (M.count a) i ∷ []) made.list ∙ sym (whole-take base ms i (M.count a) made.count);
  }

module _ {S : Type 0} (M : Machine S) (l : Line S) (a : Node S) (s : S) (p : IsPrimary M l a) where
  pub primary-after_step : (o : Option Operation) → a.role ≡ Primary → M.step a.machine ≡ Some (s, o) →
      M.count s ≡ suc (M.count a.machine) →
      IsPrimary M (with_own l (l.own ++ Do o ∷ []) l.stage) (primary_steps M a s o)
  primary-after_step o r h e = let g = p.logged r in
      record {
        role = inl r;
        reads = p.reads;
        made = made-do M l.mid l.base l.own a.machine s a.list p.made o h e;
        copy = p.copy;
        covered = p.covered;
        image = p.image;
        logged = λ k. record {
          log = log-do l.reads (steps l.base) (M.count s) l.own a.log o g.log (e ∙ ap suc p.count);
          notes = notes-do l.reads (steps l.base) l.own a.log a.notes o g.log g.notes;
        };
      }

  pub primary-after_input : (i : Input) → a.role ≡ Primary → M.take a.machine i ≡ Some s →
      M.count s ≡ M.count a.machine →
      IsPrimary M (with_own l (l.own ++ Take i ∷ []) l.stage) (primary_takes M a s i)
  primary-after_input i r h e = let g = p.logged r in
      record {
        role = inl r;
        reads = p.reads;
        made = made-take M l.mid l.base l.own a.machine s a.list p.made i h e;
        copy = p.copy;
        covered = p.covered;
        image = p.image;
        logged = λ k. record {
          log = ap (λ es. es ++ entry_of a.reads (M.count a.machine) i ∷ []) g.log
              ∙ ap (λ z. entries l.reads (steps l.base) l.own ++ entry_of z (M.count a.machine) i ∷ []) p.reads
              ∙ ap (λ c. entries l.reads (steps l.base) l.own ++ entry_of l.reads c i ∷ []) p.count
              ∙ sym (entries-append l.reads (steps l.base) l.own (Take i ∷ []));
          notes = λ o m. notes-more l.reads (steps l.base) a.notes l.own (Take i ∷ []) o (g.notes o
              (subst (λ zs. Among o zs) (operations-append l.own (Take i ∷ []) ∙ append-nil (operations l.own)) m));
        };
      }

  -- alone, it logs nothing
  pub alone-after : (m : Move) (list : List Timed) → a.role ≡ Alone → HasMade M l.mid l.base (l.own ++ m ∷ []) s list →
      IsPrimary M (with_own l (l.own ++ m ∷ []) l.stage) (record a { machine = s; list = list })
  alone-after m list r made = record {
    role = p.role;
    reads = p.reads;
    made = made;
    copy = p.copy;
    covered = p.covered;
    image = p.image;
    logged = λ k. (cc);
  }

-- a sector that is not refused is not busy, and has the number of the machine's own last completed write there
pub sector-passed : {S : Type 0} (M : Machine S) (s : S) (address : SectorAddress) (number : ℕ) →
    sector_refusal M s address number ≡ None → (M.busy s address ≡ false) × (M.done s address ≡ number)
sector-passed M s address number h = go (not (M.ready s address)) (M.busy s address) (M.done s address == number) refl h
  where
    go : (a b c : Bool) → (M.done s address == number) ≡ c →
        cond a (Some NotDue) (cond b (Some SectorBusy) (cond (not c) (Some StaleRead) None)) ≡ None →
        (b ≡ false) × (M.done s address ≡ number)
    go false false true e k = (refl, eqb-true (M.done s address) number e)
    go a b c e k = (cc)

pub own-take : {S : Type 0} (M : Machine S) (laws : Lawful M) (w : World S) (x : Node S) (inp : Input)
    (ms T : List Move) → Runs M M.boot ms x.machine → MayTake M w x inp → refusal_of M x.machine inp ≡ None →
    IsPrefix T ms →
    ((q : SectorAddress) (n : ℕ) (bytes : List ℕ) → Among (SectorRead q n bytes) w.messages →
    IsRecord M q n bytes T) → Own M ms x.machine inp
own-take {S} M laws w x (input.Sector d k n bytes) ms T runs may ok below reads =
    go (reads q n bytes may) (laws.own_disk ms x.machine q runs)
  where
    q : SectorAddress
    q = M.address x.machine d k

    last : M.done x.machine q ≡ n
    last = (sector-passed M x.machine q n ok).1

    go : IsRecord M q n bytes T → IsUnwritten M ms x.machine q ⊎ IsWritten M ms x.machine q →
        (M.done x.machine q ≡ n) × (image M ms q ≡ bytes)
    go (AtStart e f) (inl o) = (last, o.bytes ∙ sym f)
    go (AtStart e f) (inr o) =
        let m = laws.write_some ms x.machine o.write runs o.issued in
        let l = o.last in
        let f = last in
        absurd (omega arith)
    go (OfWrite v a e g f) (inl o) =
        let m = laws.write_some ms x.machine v runs
        (among-prefix (Write v) (operations T) (operations ms) (operations-prefix T ms below) a) in
        let l = o.none in
        let f = last in
        absurd (omega arith)
    go (OfWrite v a e g f) (inr o) =
        let l = o.last in
        let h = last in
        let same : o.write.number ≡ v.number = omega arith in
        let u : o.write ≡ v = laws.write_once ms x.machine o.write v runs o.issued
        (among-prefix (Write v) (operations T) (operations ms) (operations-prefix T ms below) a) same in
        (last, sym o.bytes ∙ ap (λ (z : SectorWrite). z.bytes) u ∙ f)
own-take M laws w x inp ms T runs may ok below reads = tt
