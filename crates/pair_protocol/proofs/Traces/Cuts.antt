-- The moves of a trace up to its n-th entry.
use Rattle.std.proofs.Common.{[], ◌++◌, ◌+◌, ◌∙◌, ◌∷◌, ◌≡◌, ◌≤◌, List, None, Some, ap, arith, inl, inr, length, length-take-le, refl, suc, take, zero, ℕ}
use Rattle.pair_protocol.proofs.Words.{Among, Do, Entry, IsPrefix, Mark, Move, Operation, Take, cut, entries, entry_of, last_count, operations, steps, Reads}
use Rattle.pair_protocol.proofs.Traces.Lists.{prefix-cons}
use Rattle.pair_protocol.proofs.Traces.Moves.{count_entry}

pub cut-prefix : (n : ℕ) (ms : List Move) → IsPrefix (cut n ms) ms
cut-prefix zero ms = (ms, refl)
cut-prefix (suc n) [] = ([], refl)
cut-prefix (suc n) (Do None ∷ ms) = prefix-cons _ _ _ (cut-prefix (suc n) ms)
cut-prefix (suc n) (Do (Some o) ∷ ms) = prefix-cons _ _ _ (cut-prefix n ms)
cut-prefix (suc n) (Take i ∷ ms) = prefix-cons _ _ _ (cut-prefix n ms)

-- longer moves
pub cut-longer : (reads : Reads) (n c : ℕ) (ms xs : List Move) → n ≤ length (entries reads c ms) → cut n (ms ++ xs) ≡ cut n ms
cut-longer reads zero c ms xs h = refl
cut-longer reads (suc n) c [] xs h = absurd (omega arith)
cut-longer reads (suc n) c (Do None ∷ ms) xs h = ap (λ zs. Do None ∷ zs) (cut-longer reads (suc n) (suc c) ms xs h)
cut-longer reads (suc n) c (Do (Some o) ∷ ms) xs h = let k : n ≤ length (entries reads (suc c) ms) = omega arith in
    ap (λ zs. Do (Some o) ∷ zs) (cut-longer reads n (suc c) ms xs k)
cut-longer reads (suc n) c (Take i ∷ ms) xs h = let k : n ≤ length (entries reads c ms) = omega arith in
    ap (λ zs. Take i ∷ zs) (cut-longer reads n c ms xs k)

-- more entries
pub cut-more : (m n : ℕ) (ms : List Move) → m ≤ n → IsPrefix (cut m ms) (cut n ms)
cut-more zero n ms h = (cut n ms, refl)
cut-more (suc m) zero ms h = absurd (omega arith)
cut-more (suc m) (suc n) [] h = ([], refl)
cut-more (suc m) (suc n) (Do None ∷ ms) h = prefix-cons _ _ _ (cut-more (suc m) (suc n) ms h)
cut-more (suc m) (suc n) (Do (Some o) ∷ ms) h = prefix-cons _ _ _ (cut-more m n ms (omega arith))
cut-more (suc m) (suc n) (Take i ∷ ms) h = prefix-cons _ _ _ (cut-more m n ms (omega arith))

pub cut-both : (n : ℕ) (ms xs : List Move) → IsPrefix (cut n ms) (cut n (ms ++ xs))
cut-both zero ms xs = ([], refl)
cut-both (suc n) [] xs = (cut (suc n) xs, refl)
cut-both (suc n) (Do None ∷ ms) xs = prefix-cons _ _ _ (cut-both (suc n) ms xs)
cut-both (suc n) (Do (Some o) ∷ ms) xs = prefix-cons _ _ _ (cut-both n ms xs)
cut-both (suc n) (Take i ∷ ms) xs = prefix-cons _ _ _ (cut-both n ms xs)

pub entries-cut : (reads : Reads) (n c : ℕ) (ms : List Move) → entries reads c (cut n ms) ≡ take n (entries reads c ms)
entries-cut reads zero c ms = refl
entries-cut reads (suc n) c [] = refl
entries-cut reads (suc n) c (Do None ∷ ms) = entries-cut reads (suc n) (suc c) ms
entries-cut reads (suc n) c (Do (Some o) ∷ ms) = ap (λ es. Mark (suc c) ∷ es) (entries-cut reads n (suc c) ms)
entries-cut reads (suc n) c (Take i ∷ ms) = ap (λ es. entry_of reads c i ∷ es) (entries-cut reads n c ms)

-- all operations whose mark is among the first n entries are in the cut
pub among-cut : (reads : Reads) (n c : ℕ) (o : Operation) (ms : List Move) → length (entries reads c ms) ≤ n → Among o (operations ms) →
    Among o (operations (cut n ms))
among-cut reads zero c o [] h k = k
among-cut reads zero c o (Do None ∷ ms) h k = among-cut reads zero (suc c) o ms h k
among-cut reads zero c o (Do (Some x) ∷ ms) h k = absurd (omega arith)
among-cut reads zero c o (Take i ∷ ms) h k = absurd (omega arith)
among-cut reads (suc n) c o [] h k = k
among-cut reads (suc n) c o (Do None ∷ ms) h k = among-cut reads (suc n) (suc c) o ms h k
among-cut reads (suc n) c o (Do (Some x) ∷ ms) h (inl k) = inl k
among-cut reads (suc n) c o (Do (Some x) ∷ ms) h (inr k) = let l : length (entries reads (suc c) ms) ≤ n = omega arith in
    inr (among-cut reads n (suc c) o ms l k)
among-cut reads (suc n) c o (Take i ∷ ms) h k = let l : length (entries reads c ms) ≤ n = omega arith in among-cut reads n c o ms l k

-- nothing follows the last entry
pub cut-ends : (reads : Reads) (n c : ℕ) (own ms rest : List Move) → ms ++ rest ≡ cut n own → n ≤ length (entries reads c ms) → rest ≡ []
cut-ends reads zero c own [] rest h k = h
cut-ends reads zero c own (m ∷ ms) rest h k = (cc)
cut-ends reads (suc n) c own [] rest h k = absurd (omega arith)
cut-ends reads (suc n) c (Do None ∷ own) (Do None ∷ ms) rest h k = cut-ends reads (suc n) (suc c) own ms rest (cc) k
cut-ends reads (suc n) c (Do (Some o) ∷ own) (Do (Some x) ∷ ms) rest h k = let l : n ≤ length (entries reads (suc c) ms) =
    omega arith in cut-ends reads n (suc c) own ms rest (cc) l
cut-ends reads (suc n) c (Take i ∷ own) (Take j ∷ ms) rest h k = let l : n ≤ length (entries reads c ms) = omega arith in
    cut-ends reads n c own ms rest (cc) l
cut-ends reads (suc n) c own ms rest h k = (cc)

-- the count of the last entry is the count at which the moves end
last-from : (c d : ℕ) (es : List Entry) → 1 ≤ length es → last_count c es ≡ last_count d es
last-from c d [] h = absurd (omega arith)
last-from c d (e ∷ es) h = refl

pub last-cut : (reads : Reads) (n c : ℕ) (ms : List Move) → n ≤ length (entries reads c ms) →
    last_count c (entries reads c (cut n ms)) ≡ c + steps (cut n ms)
last-cut reads zero c ms h = omega arith
last-cut reads (suc n) c [] h = absurd (omega arith)
last-cut reads (suc n) c (Do None ∷ ms) h =
    let k = last-cut reads (suc n) (suc c) ms h in
    let e = ap length (entries-cut reads (suc n) (suc c) ms) in
    let f = length-take-le (suc n) (entries reads (suc c) ms) h in
    let l : 1 ≤ length (entries reads (suc c) (cut (suc n) ms)) = omega arith in
    let j = last-from c (suc c) (entries reads (suc c) (cut (suc n) ms)) l in
    omega arith
last-cut reads (suc n) c (Do (Some o) ∷ ms) h = let l : n ≤ length (entries reads (suc c) ms) = omega arith in
    let k = last-cut reads n (suc c) ms l in omega arith
last-cut reads (suc n) c (Take i ∷ ms) h = let l : n ≤ length (entries reads c ms) = omega arith in
    ap (λ k. last_count k (entries reads c (cut n ms))) (count_entry reads c i) ∙ last-cut reads n c ms l
