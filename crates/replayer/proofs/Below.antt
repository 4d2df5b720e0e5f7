-- A replayer never passes the count of the last entry that was held. The counts of what is held never fall, from the
-- machine's own on, and the last of them stays what it was: a step leaves the machine at or below the first, and an
-- entry is popped when the machine is at its count.
use Rattle.std.proofs.Common.{◌≡◌, ℕ, ◌≤◌, Bool, true, false, List, [], ◌∷◌, ◌++◌, Option, refl, sym, ap, subst, ◌∙◌, arith}
use Rattle.guest_lockstep.specs.Machine.{Machine, Move}
use Rattle.guest_lockstep.specs.Recorded.{Counts}
use Rattle.guest_lockstep.specs.declared.input.Input.TheVariants.{Sector}
use Rattle.guest_lockstep.specs.declared.reads.Reads.{Reads}
use Rattle.log_entry.specs.Entries.{count_of, entries, last_count}
use Rattle.log_entry.specs.Laws.{NeverFalls}
use Rattle.log_entry.specs.Standing.{owed, IsOnTrace}
use Rattle.log_entry.specs.declared.entry.Entry.{Entry}
use Rattle.log_entry.specs.declared.entry.Entry.TheVariants.{Read}
use Rattle.log_entry.proofs.TraceEntries.{never_falls}
use Rattle.replayer.specs.Replaying.{Moves, Steps, Passes, TakesInput, ReadsSector, Replays, NoMoves, Then}

-- ---- the entries of a run

NeverFalls-owed : (reads : Reads) (count : ℕ) (owes : Bool) (moves : List Move)
    → NeverFalls count (owed count owes ++ entries reads count moves)
NeverFalls-owed reads count true moves = (omega arith, never_falls reads count moves)
NeverFalls-owed reads count false moves = never_falls reads count moves

NeverFalls-front : (count : ℕ) (xs ys : List Entry) → NeverFalls count (xs ++ ys) → NeverFalls count xs
NeverFalls-front count [] ys f = tt
NeverFalls-front count (x ∷ xs) ys f = (f.0, NeverFalls-front (count_of x) xs ys f.1)

below-last_count : (count : ℕ) (es : List Entry) → NeverFalls count es → count ≤ last_count count es
below-last_count count [] f = omega arith
below-last_count count (e ∷ es) f =
    let first = f.0 in let rest = below-last_count (count_of e) es f.1 in omega arith

-- ---- what is held

-- the counts of what is held never fall from the machine's own on, and this is the last of them
pub record Leads {S : Type 0} (M : Machine S) (last : ℕ) (t : S) (held : List Entry) : Type 0 where
  pub rising : NeverFalls (M.count t) held
  pub last_is : last_count (M.count t) held ≡ last

leads_on : {S : Type 0} (M : Machine S) (last : ℕ) (t u : S) (now left : List Entry) (come still : Option (List ℕ))
    → Counts M → Moves M t now come u left still → Leads M last t now → Leads M last u left
leads_on M last t u now left come still counts (Steps {gives = gives} {e = e} {es = es} now_is lt made) x =
    let y : Leads M last t (e ∷ es) = subst (λ h. Leads M last t h) now_is x in
    let count = counts.by_step t u gives made in
    let first : M.count u ≤ count_of e = omega arith in
    subst (λ h. Leads M last u h) (sym now_is) (record { rising = (first, y.rising.1); last_is = y.last_is })
leads_on M last t u now left come still counts (Passes {e = e} {es = es} now_is at has) x =
    let y : Leads M last t (e ∷ es) = subst (λ h. Leads M last t h) now_is x in
    record {
      rising = subst (λ n. NeverFalls n es) (sym at) y.rising.1;
      last_is = ap (λ n. last_count n es) at ∙ y.last_is;
    }
leads_on M last t u now left come still counts (TakesInput {e = e} {es = es} {input = input} now_is at has accepts) x =
    let y : Leads M last t (e ∷ es) = subst (λ h. Leads M last t h) now_is x in
    let count : M.count u ≡ count_of e = counts.by_input t u input accepts.taken ∙ at in
    record {
      rising = subst (λ n. NeverFalls n es) (sym count) y.rising.1;
      last_is = ap (λ n. last_count n es) count ∙ y.last_is;
    }
leads_on M last t u now left come still counts
    (ReadsSector {count = count} {drive = drive} {sector = sector} {number = number} {bytes = bytes} {es = es} now_is at
    bytes_are accepts) x =
    let e = Read count drive sector number in
    let y : Leads M last t (e ∷ es) = subst (λ h. Leads M last t h) now_is x in
    let same : M.count u ≡ count = counts.by_input t u (Sector drive sector number bytes) accepts.taken ∙ at in
    record {
      rising = subst (λ n. NeverFalls n es) (sym same) y.rising.1;
      last_is = ap (λ n. last_count n es) same ∙ y.last_is;
    }

leads : {S : Type 0} (M : Machine S) (s : S) (held : List Entry) (fetched : Option (List ℕ)) (t : S)
    (left : List Entry) (still : Option (List ℕ)) (n last : ℕ) → Counts M
    → Replays M s held fetched n t left still → Leads M last s held → Leads M last t left
leads M s held fetched t left still n last counts NoMoves x = x
leads M s held fetched t left still n last counts (Then {n = m} {t = v} {now = now} {come = come} before one) x =
    leads_on M last v t now left come still counts one (leads M s held fetched v now come m last counts before x)

pub stays_below : {S : Type 0} (M : Machine S) (s t : S) (held left : List Entry) (fetched still : Option (List ℕ))
    (n : ℕ) → Counts M → Replays M s held fetched n t left still → IsOnTrace M s held fetched
    → M.count t ≤ last_count (M.count s) held
stays_below M s t held left fetched still n counts replays on =
    let all : NeverFalls (M.count s) (held ++ on.stands.later) =
    subst (λ es. NeverFalls (M.count s) es) (sym on.stands.next_ones)
    (NeverFalls-owed on.reads (M.count s) on.owes on.moves) in
    let x : Leads M (last_count (M.count s) held) t left =
    leads M s held fetched t left still n (last_count (M.count s) held) counts replays
    (record { rising = NeverFalls-front (M.count s) held on.stands.later all; last_is = refl }) in
    let below = below-last_count (M.count t) left x.rising in
    let last_is = x.last_is in
    omega arith
