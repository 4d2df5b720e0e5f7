-- The steps on the words that are not boxes keep the rule of the table.
use Rattle.std.proofs.Common.{◌≡◌, ℕ, zero, suc, ◌+◌, ◌%◌, ◌^◌, ◌<◌, max, eqb, List, [], ◌∷◌, ◌++◌, length, get_or, set, sym, refl, ap, ◌∙◌, subst, arith, length-append, Some}
use mathlib.Core.Option.{some}
use lib.ListN.{get_elem?}
use prog.Atomic.{either}
use Rattle.pair_rule.proofs.Words.{Allows, Backup, BackupView, Core, CountedBy, Facts, Fits, Homes, Knowledge, Log, Mailbox, MayAppend, Mine, Moment, Packet, Payload, PlainRun, PlainStep, Primary, PrimaryView, Rule, SeatView, Stands, Terminal, TerminalView, Who, accepted_after, accepted_with, appended, appends, arrives, backup_asked, byte_arrived, carried_after, contests_backup, contests_primary, counts, counts_at, has, held, holds_entries, keeps, last_or, primary_asked, saw, saw_count, sees, sees_count, sees_count_at, winner_after, winner_of, with_core, with_entry, with_known, words_of}
use Rattle.pair_rule.specs.Histories as plain
use Rattle.pair_rule.proofs.Histories.{asks_same, may_append}
use Rattle.pair_rule.proofs.Parts.{Local, on_part, owned_known, steps}
use Rattle.pair_rule.proofs.BoxSwaps.{Table, Goes, last_fits}
use Rattle.pair_rule.proofs.BoxSteps.{own, same_load}
use Rattle.pair_rule.proofs.WordChanges.{append_stays, see_stays, held_low, held_short, hold_stays, hold_word, primary_asks, backup_asks, came_stays, count_stays}
use Rattle.pair_rule.proofs.ListsThatGrow.{fewer_arrived}

knows_facts : (g : ℕ) (boxes : List ℕ) (homes : Homes) (c : Core) (n : Who) (turn : Knowledge → Knowledge) → Local n turn
    → Stands (turn c.known)
    → ((b : Mailbox) (x : Payload) → Fits b c.known x → Fits b (turn c.known) x)
    → CountedBy c.fills c.empties (turn c.known) → PlainRun (turn c.known)
    → Facts g boxes homes c → Facts g boxes homes (with_known turn c)
knows_facts g boxes homes c n turn l stands fits counted ran f = record {
  generation = l.generation c.known ∙ f.generation;
  sized = (owned_known n turn l).sized c f.sized;
  six = f.six;
  laid = f.laid;
  boxed = f.boxed;
  fitting = λ b z e. last_fits z.last (Fits b c.known) (Fits b (turn c.known)) (fits b) (f.fitting b z e);
  counted = counted;
  stands = stands;
  ran = ran;
}

module _ (g : ℕ) (s : Table) (r : Rule g s) (id : ℕ) (me : Mine) (at : get_elem? s.views id ≡ some me.0) where
  abbrev k : Knowledge
  k = r.core.known

  abbrev words : List ℕ
  words = words_of k ++ r.boxes

  -- the moment of the step, for a seat
  moment : (n : Who) → has me.0 n → Moment n me.0.core.known k
  moment n mine = let o = own g s r id me.0 at n mine in record {
    stands = r.facts.stands;
    ran = r.facts.ran;
    generation = o.generation;
    same = o.known;
  }

  word_goes : (n : Who) (i : ℕ) (f : ℕ → ℕ) (told : ℕ → Mine → Type 0) (turn : Knowledge → Knowledge) → has me.0 n → Local n turn
      → Stands (turn k) → ((b : Mailbox) (x : Payload) → Fits b k x → Fits b (turn k) x)
      → CountedBy r.core.fills r.core.empties (turn k) → PlainStep k (turn k)
      → set words i (f (get_or words i 0)) ≡ words_of (turn k) ++ r.boxes
      → told (get_or words i 0) (with_core me.0 (with_known turn me.0.core), me.1)
      → Goes g s.words s.homes s.views i id me f told
  word_goes n i f told turn mine l stands fits counted step change tells = subst (λ x. Goes g x s.homes s.views i id me f told) (sym r.words) (
    with_core me.0 (with_known turn me.0.core),
    keeps,
    tt,
    record {
      core = with_known turn r.core;
      boxes = r.boxes;
      words = change;
      at = r.at;
      seats = λ t. steps s.views r.core n t r.at id me.0 (with_known turn) (owned_known n turn l) r.facts.sized r.seats at mine;
      facts = knows_facts g r.boxes s.homes r.core n turn l stands fits counted (plain.Goes r.facts.ran step) r.facts;
    },
    tells,
  )

pub append_allowed : (g n id : ℕ) (me : Mine) (h : ℕ) (p : Packet) → has me.0 Primary → me.1 ≡ (h, Some (Log p)) ∷ []
    → length me.0.core.known.primary.list < 2 ^ 62 → MayAppend me.0.core.known
    → Allows (Rule g) n id me 0 (λ x. (x + 1) % 2 ^ 64) (appends me)
append_allowed g n id me h p mine holds few may s r deep at _ =
    let k : Knowledge = r.core.known in let same : me.0.core.known.primary ≡ k.primary =
    (own g s r id me.0 at Primary mine).known in let st = append_stays k r.facts.stands p.entry in
    let long : length me.0.core.known.primary.list ≡ length k.primary.list = ap (λ (z : PrimaryView). length z.list) same in
    let count : (length k.primary.list + 1) % 2 ^ 64 ≡ length (k.primary.list ++ p.entry ∷ []) =
    omega (arith, length-append k.primary.list (p.entry ∷ [])) in
    word_goes g s r id me at Primary 0 (λ x. (x + 1) % 2 ^ 64) (appends me) (appended p.entry) mine
    (on_part Primary (with_entry p.entry)) st.0 st.1 r.facts.counted (plain.Appends p.entry (may_append me.0.core.known k same may))
    (λ i. count i ∷ last_or 0 k.backup.held_values ∷ winner_of k.primary.winner k.backup.winner
    ∷ accepted_after 0 k.terminal.arrivals0 ∷ accepted_after 0 k.terminal.arrivals1 ∷ r.boxes)
    (sym long, refl, λ y q has'. ap (λ (z : Payload). append_as z) (same_load me.1 h y (Log p) (Log q) holds has'))
  where
    append_as : Payload → SeatView
    append_as (Log q) = with_core me.0 (with_known (appended q.entry) me.0.core)
    append_as _ = me.0

pub see_allowed : (g n id : ℕ) (me : Mine) → me.0.core.known.primary.winner ≡ 0 → has me.0 Primary → Allows (Rule g) n id me 1 (λ x. x) (sees me)
see_allowed g n id me none mine s r deep at _ =
    let k : Knowledge = r.core.known in let same : me.0.core.known.primary ≡ k.primary =
    (own g s r id me.0 at Primary mine).known in let st = see_stays k r.facts.stands in
    let long : length me.0.core.known.primary.list ≡ length k.primary.list = ap (λ (z : PrimaryView). length z.list) same in
    let seen : me.0.core.known.primary.seen ≡ k.primary.seen = ap (λ (z : PrimaryView). z.seen) same in
    word_goes g s r id me at Primary 1 (λ x. x) (sees me) (saw (last_or 0 k.backup.held_values)) mine
    (on_part Primary (λ z. record z { seen = last_or 0 k.backup.held_values })) st.0 st.1 r.facts.counted
    (plain.Sees (asks_same Primary me.0.core.known k same none)) refl (
      refl,
      (let b = r.facts.stands.log.behind in omega arith),
      (let b = held_short k r.facts.stands in omega arith),
      (k, moment g s r id me at Primary mine, refl),
      refl,
    )

pub hold_allowed : (g n id : ℕ) (me : Mine) (x : ℕ) → me.0.core.known.backup.winner ≡ 0 → has me.0 Backup → x ≡ length me.0.core.known.backup.list
    → Allows (Rule g) n id me 1 (λ y. max y x) (holds_entries me)
hold_allowed g n id me x none mine is s r deep at _ =
    let k : Knowledge = r.core.known in let same : me.0.core.known.backup ≡ k.backup =
    (own g s r id me.0 at Backup mine).known in let st = hold_stays k r.facts.stands in
    let long : length me.0.core.known.backup.list ≡ length k.backup.list = ap (λ (z : BackupView). length z.list) same in
    let low = held_low k r.facts.stands in
    let more : max (last_or 0 k.backup.held_values) x ≡ last_or 0 (k.backup.held_values ++ length k.backup.list ∷ []) =
    (let e = hold_word k r.facts.stands in omega arith) in
    word_goes g s r id me at Backup 1 (λ y. max y x) (holds_entries me) held mine
    (on_part Backup (λ z. record z { held_values = z.held_values ++ length z.list ∷ [] })) st.0 st.1 r.facts.counted
    (plain.Holds (asks_same Backup me.0.core.known k same none))
    (λ i. length k.primary.list ∷ more i ∷ winner_of k.primary.winner k.backup.winner ∷ accepted_after 0 k.terminal.arrivals0
    ∷ accepted_after 0 k.terminal.arrivals1 ∷ r.boxes)
    (refl, (let z = low in omega arith), refl)

pub contest_primary_allowed : (g n id : ℕ) (me : Mine) → me.0.core.known.primary.winner ≡ 0 → has me.0 Primary
    → Allows (Rule g) n id me 2 (λ x. either (eqb x 0) 1 x) (contests_primary me)
contest_primary_allowed g n id me none mine s r deep at _ =
    let k : Knowledge = r.core.known in let same : me.0.core.known.primary ≡ k.primary =
    (own g s r id me.0 at Primary mine).known in let st = primary_asks k r.facts.stands in let w : ℕ =
    winner_of k.primary.winner k.backup.winner in
    word_goes g s r id me at Primary 2 (λ x. either (eqb x 0) 1 x) (contests_primary me) (primary_asked w) mine
    (on_part Primary (λ z. record z { winner = winner_after 1 w })) st.0.0 st.0.1 r.facts.counted
    (plain.PrimaryAsks (asks_same Primary me.0.core.known k same none))
    (λ i. length k.primary.list ∷ last_or 0 k.backup.held_values ∷ sym st.1 i ∷ accepted_after 0 k.terminal.arrivals0
    ∷ accepted_after 0 k.terminal.arrivals1 ∷ r.boxes)
    (refl, r.facts.stands.decided.few, (k, moment g s r id me at Primary mine, refl), refl)

pub contest_backup_allowed : (g n id : ℕ) (me : Mine) → me.0.core.known.backup.winner ≡ 0 → has me.0 Backup
    → Allows (Rule g) n id me 2 (λ x. either (eqb x 0) 2 x) (contests_backup me)
contest_backup_allowed g n id me none mine s r deep at _ =
    let k : Knowledge = r.core.known in let same : me.0.core.known.backup ≡ k.backup =
    (own g s r id me.0 at Backup mine).known in let st = backup_asks k r.facts.stands in let w : ℕ =
    winner_of k.primary.winner k.backup.winner in
    word_goes g s r id me at Backup 2 (λ x. either (eqb x 0) 2 x) (contests_backup me) (backup_asked w) mine
    (on_part Backup (λ z. record z { winner = winner_after 2 w })) st.0.0 st.0.1 r.facts.counted
    (plain.BackupAsks (asks_same Backup me.0.core.known k same none))
    (λ i. length k.primary.list ∷ last_or 0 k.backup.held_values ∷ sym st.1 i ∷ accepted_after 0 k.terminal.arrivals0
    ∷ accepted_after 0 k.terminal.arrivals1 ∷ r.boxes)
    (refl, r.facts.stands.decided.few, (k, moment g s r id me at Backup mine, refl), refl)

pub count_allowed : (g n id : ℕ) (me : Mine) (port x : ℕ) → port < 2 → has me.0 Terminal → x ≡ accepted_with port me.0.core.known
    → Allows (Rule g) n id me (3 + port) (λ y. max y x) (counts port me)
count_allowed g n id me zero x two mine is s r deep at _ =
    let k : Knowledge = r.core.known in let same : me.0.core.known.terminal ≡ k.terminal =
    (own g s r id me.0 at Terminal mine).known in let st = came_stays k r.facts.stands 0 in
    let was : accepted_after 0 me.0.core.known.terminal.arrivals0 ≡ accepted_after 0 k.terminal.arrivals0 =
    ap (λ (z : TerminalView). accepted_after 0 z.arrivals0) same in
    let now : accepted_with 0 me.0.core.known ≡ accepted_with 0 k =
    ap (λ (z : TerminalView). accepted_after 0 (arrives z.hand0 z.arrivals0)) same in
    let more : max (accepted_after 0 k.terminal.arrivals0) x ≡ accepted_with 0 k =
    (let low = fewer_arrived k.terminal.hand0 k.terminal.arrivals0 in omega arith) in
    word_goes g s r id me at Terminal 3 (λ y. max y x) (counts 0 me) (byte_arrived 0) mine
    (on_part Terminal (λ z. record z { arrivals0 = arrives z.hand0 z.arrivals0 })) st.0 st.1 r.facts.counted (plain.Counts 0 two)
    (λ i. length k.primary.list ∷ last_or 0 k.backup.held_values ∷ winner_of k.primary.winner k.backup.winner ∷ more i
    ∷ accepted_after 0 k.terminal.arrivals1 ∷ r.boxes)
    (refl, refl)
count_allowed g n id me (suc zero) x two mine is s r deep at _ =
    let k : Knowledge = r.core.known in let same : me.0.core.known.terminal ≡ k.terminal =
    (own g s r id me.0 at Terminal mine).known in let st = came_stays k r.facts.stands 1 in
    let was : accepted_after 0 me.0.core.known.terminal.arrivals1 ≡ accepted_after 0 k.terminal.arrivals1 =
    ap (λ (z : TerminalView). accepted_after 0 z.arrivals1) same in
    let now : accepted_with 1 me.0.core.known ≡ accepted_with 1 k =
    ap (λ (z : TerminalView). accepted_after 0 (arrives z.hand1 z.arrivals1)) same in
    let more : max (accepted_after 0 k.terminal.arrivals1) x ≡ accepted_with 1 k =
    (let low = fewer_arrived k.terminal.hand1 k.terminal.arrivals1 in omega arith) in
    word_goes g s r id me at Terminal 4 (λ y. max y x) (counts 1 me) (byte_arrived 1) mine
    (on_part Terminal (λ z. record z { arrivals1 = arrives z.hand1 z.arrivals1 })) st.0 st.1 r.facts.counted (plain.Counts 1 two)
    (λ i. length k.primary.list ∷ last_or 0 k.backup.held_values ∷ winner_of k.primary.winner k.backup.winner
    ∷ accepted_after 0 k.terminal.arrivals0 ∷ more i ∷ r.boxes)
    (refl, refl)
count_allowed g n id me (suc (suc port)) x two mine is s r deep at _ = absurd (omega arith)

pub sees_count_allowed : (g n id : ℕ) (me : Mine) (port : ℕ) → port < 2 → me.0.core.known.primary.winner ≡ 0
    → has me.0 Primary
    → Allows (Rule g) n id me (3 + port) (λ y. y) (sees_count port me)
sees_count_allowed g n id me zero two none mine s r deep at _ =
    let k : Knowledge = r.core.known in let same : me.0.core.known.primary ≡ k.primary =
    (own g s r id me.0 at Primary mine).known in let st = count_stays k r.facts.stands 0 in
    let was : me.0.core.known.primary.counted0 ≡ k.primary.counted0 = ap (λ (z : PrimaryView). z.counted0) same in
    word_goes g s r id me at Primary 3 (λ y. y) (sees_count 0 me) (saw_count 0 (accepted_after 0 k.terminal.arrivals0)) mine
    (on_part Primary (λ z. record z { counted0 = accepted_after 0 k.terminal.arrivals0 })) st.0 st.1 r.facts.counted
    (plain.SeesCount 0 two (asks_same Primary me.0.core.known k same none)) refl
    (refl, (let b = r.facts.stands.port0.accepted in omega arith), (k, moment g s r id me at Primary mine, refl), refl)
sees_count_allowed g n id me (suc zero) two none mine s r deep at _ =
    let k : Knowledge = r.core.known in let same : me.0.core.known.primary ≡ k.primary =
    (own g s r id me.0 at Primary mine).known in let st = count_stays k r.facts.stands 1 in
    let was : me.0.core.known.primary.counted1 ≡ k.primary.counted1 = ap (λ (z : PrimaryView). z.counted1) same in
    word_goes g s r id me at Primary 4 (λ y. y) (sees_count 1 me) (saw_count 1 (accepted_after 0 k.terminal.arrivals1)) mine
    (on_part Primary (λ z. record z { counted1 = accepted_after 0 k.terminal.arrivals1 })) st.0 st.1 r.facts.counted
    (plain.SeesCount 1 two (asks_same Primary me.0.core.known k same none)) refl
    (refl, (let b = r.facts.stands.port1.accepted in omega arith), (k, moment g s r id me at Primary mine, refl), refl)
sees_count_allowed g n id me (suc (suc port)) two none mine s r deep at _ = absurd (omega arith)

pub count_at_allowed : (g n id : ℕ) (me : Mine) (port x : ℕ) → port < 2 → has me.0 Terminal
    → x ≡ accepted_with port me.0.core.known → Allows (Rule g) n id me (3 + port) (λ y. max y x) (counts_at (3 + port) me)
count_at_allowed g n id me port x two mine is s r deep at big = let a =
    count_allowed g n id me port x two mine is s r deep at big in (
      a.0,
      a.1,
      a.2,
      a.3,
      λ q few e. subst (λ p. counts p me (get_or s.words (3 + port) 0) (a.0, carried_after me.1 a.1))
          (let z : 3 + port ≡ 3 + q = e in omega arith) a.4,
    )

pub sees_count_at_allowed : (g n id : ℕ) (me : Mine) (port : ℕ) → port < 2 → me.0.core.known.primary.winner ≡ 0
    → has me.0 Primary
    → Allows (Rule g) n id me (3 + port) (λ y. y) (sees_count_at (3 + port) me)
sees_count_at_allowed g n id me port two none mine s r deep at big = let a =
    sees_count_allowed g n id me port two none mine s r deep at big in (
      a.0,
      a.1,
      a.2,
      a.3,
      λ q few e. subst (λ p. sees_count p me (get_or s.words (3 + port) 0) (a.0, carried_after me.1 a.1))
          (let z : 3 + port ≡ 3 + q = e in omega arith) a.4,
    )
