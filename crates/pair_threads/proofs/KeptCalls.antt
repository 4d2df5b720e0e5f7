-- A primary's worker keeps what its seat's calls promise. The entry that waits for the list is that of the last move that
-- has one, and the disk answered what that move says; and while all entries are seen, each note is covered.
use Rattle.std.proofs.Common.{◌≡◌, ℕ, zero, suc, ◌+◌, ◌<◌, ◌≤◌, Bool, true, false, ◌&&◌, List, [], ◌∷◌, ◌++◌, length, take, drop, Some, None, refl, sym, ap, subst, ◌∙◌, arith, length-append, append-nil, nat_lt, nat_le, if◌then◌else◌}
use Rattle.std.proofs.lemmas.List.{take-append-drop}
use Rattle.pair_threads.proofs.Words.{AllAre, AreAnswers, Byte, CallKept, Counts, DiskAnswer, Do, Entry, Input, IsAnswer, IsPrefix, IsTold, Leads, Logged, Machine, Mark, Move, OpId, Operation, PrimaryView, Recorded, Says, Take, Write, acceptances, all_more, by_port, count_entry, count_of, counted_at, entries, entry_of, id_of, inputs_of, is_read, keys, knew, notes_from, same_head, same_tail, typed_at}
use Rattle.guest_lockstep.specs.declared.input.Input.TheVariants as input
use Rattle.pair_protocol.specs.Node.{Note, covers, note_of, notes_after, same_name}
use Rattle.pair_protocol.specs.Waiting.{reads_in, up_to_read, waits_for}
use Rattle.pair_protocol.proofs.Waiting.{logged_no_read}
use Rattle.pair_rule.specs.declared.view.PrimaryCall.TheVariants.{Appended, Released}

-- ---- notes

-- a log without reads, and a note that all of it covers
abbrev NoReads : List Entry → Type 0
NoReads log = AllAre log (λ e. is_read e ≡ false)

abbrev Covered : ℕ → Note → Type 0
Covered n note = (note.index < n) × (note.after ≡ 0)

no_reads : (log : List Entry) → NoReads log → reads_in log ≡ 0
no_reads [] none = refl
no_reads (e ∷ log) none = ap (λ b. up_to_read b (reads_in log)) none.0 ∙ ap (up_to_read false) (no_reads log none.1)

waits_none : (o : Operation) (log : List Entry) → NoReads log → waits_for o log ≡ 0
waits_none (Write w) log none = no_reads log none
waits_none (Byte port number byte) log none = refl

pub notes_covered : (n : ℕ) (ms : List Move) (c : ℕ) (log : List Entry) (ns : List Note) → NoReads log
    → AllAre ns (Covered n) → length log + length (entries Logged c ms) ≤ n → AllAre (notes_from c log ns ms) (Covered n)
notes_covered n [] c log ns none all le = all
notes_covered n (Do None ∷ ms) c log ns none all le =
    subst (λ l. AllAre (notes_from (suc c) l ns ms) (Covered n)) (sym (append-nil log))
    (notes_covered n ms (suc c) log ns none all le)
notes_covered n (Do (Some o) ∷ ms) c log ns none all le =
    notes_covered n ms (suc c) (log ++ Mark (suc c) ∷ []) (notes_after ns log (Some o))
    (all_more log (Mark (suc c)) (λ e. is_read e ≡ false) none refl)
    (((let l = le in omega (arith, l)), waits_none o log none), all)
    (let l = le in let a = length-append log (Mark (suc c) ∷ []) in omega (arith, l, a))
notes_covered n (Take i ∷ ms) c log ns none all le =
    notes_covered n ms c (log ++ entry_of Logged c i ∷ []) ns
    (all_more log (entry_of Logged c i) (λ e. is_read e ≡ false) none (logged_no_read c i)) all
    (let l = le in let a = length-append log (entry_of Logged c i ∷ []) in omega (arith, l, a))

is_covered : (n index after : ℕ) → index < n → after ≡ 0 → (nat_lt index n && nat_le after 0) ≡ true
is_covered n index after lt none = grind arith

pub covered_by : (n : ℕ) (ns : List Note) (name : OpId) → AllAre ns (Covered n) → covers n 0 (note_of ns name) ≡ true
covered_by n [] name all = refl
covered_by n (note ∷ ns) name all = go (same_name name note.name) (covered_by n ns name all.1)
  where
    go : (b : Bool) → covers n 0 (note_of ns name) ≡ true → covers n 0 (if b then Some note else note_of ns name) ≡ true
    go true others = is_covered n note.index note.after all.0.0 all.0.1
    go false others = others

-- ---- the last move that has an entry

record LastMove {S : Type 0} (M : Machine S) (answers : List DiskAnswer) (a : S) (c : ℕ) (list : List Entry)
    (e : Entry) : Type 0 where
  front : List Move
  before : S
  move : Move
  after : S
  recorded : Recorded M a front before
  makes : Recorded M before (move ∷ []) after
  entries_are : entries Logged c (front ++ move ∷ []) ≡ list ++ e ∷ []
  count : M.count after ≡ count_of e
  at : ℕ
  gives : entries Logged at (move ∷ []) ≡ e ∷ []
  said : AreAnswers M answers before (move ∷ [])

none_left : {X : Type 0} (list : List Entry) (e : Entry) → [] ≡ list ++ e ∷ [] → X
none_left [] e is = absurd cc
none_left (x ∷ list) e is = absurd cc

module _ {S : Type 0} (M : Machine S) (counts : Counts M) (answers : List DiskAnswer) where
  one_before : (a u : S) (c d : ℕ) (m : Move) (own list whole : List Entry) (e : Entry) → Recorded M a (m ∷ []) u
      → ((ms : List Move) → entries Logged c (m ∷ ms) ≡ own ++ entries Logged d ms) → whole ≡ own ++ list
      → LastMove M answers u d list e → LastMove M answers a c whole e
  one_before a u c d m own list whole e one shows is l = record {
    front = m ∷ l.front;
    before = l.before;
    move = l.move;
    after = l.after;
    recorded = joined m one;
    makes = l.makes;
    entries_are = shows (l.front ++ l.move ∷ []) ∙ ap (λ es. own ++ es) l.entries_are
        ∙ sym (append_one own list e) ∙ ap (λ es. es ++ e ∷ []) (sym is);
    count = l.count;
    at = l.at;
    gives = l.gives;
    said = l.said;
  }
    where
      append_one : (own list : List Entry) (e : Entry) → (own ++ list) ++ e ∷ [] ≡ own ++ (list ++ e ∷ [])
      append_one [] list e = refl
      append_one (x ∷ own) list e = ap (λ l. x ∷ l) (append_one own list e)

      joined : (m : Move) → Recorded M a (m ∷ []) u → Recorded M a (m ∷ l.front) l.before
      joined (Do o) one = (one.0, one.1, subst (λ v. Recorded M v l.front l.before) (sym one.2) l.recorded)
      joined (Take i) one = (one.0, one.1, subst (λ v. Recorded M v l.front l.before) (sym one.2) l.recorded)

  last_move : (a s : S) (c : ℕ) (moves : List Move) (list : List Entry) (e : Entry) → M.count a ≡ c
      → Recorded M a moves s → AreAnswers M answers a moves → entries Logged c moves ≡ list ++ e ∷ []
      → LastMove M answers a c list e
  last_move a s c [] list e at runs said is = none_left list e is
  last_move a s c (Do None ∷ ms) list e at runs said is =
      one_before a runs.0 c (suc c) (Do None) [] list list e (runs.0, runs.1, refl) (λ ms. refl) refl
      (last_move runs.0 s (suc c) ms list e (counts.by_step a runs.0 None runs.1 ∙ ap suc at) runs.2
      (said runs.0 runs.1) is)
  last_move a s c (Do (Some o) ∷ ms) [] e at runs said is = record {
    front = [];
    before = a;
    move = Do (Some o);
    after = runs.0;
    recorded = refl;
    makes = (runs.0, runs.1, refl);
    entries_are = ap (λ x. x ∷ []) (same_head (Mark (suc c)) e (entries Logged (suc c) ms) [] is);
    count = counts.by_step a runs.0 (Some o) runs.1 ∙ ap suc at
        ∙ ap count_of (same_head (Mark (suc c)) e (entries Logged (suc c) ms) [] is);
    at = c;
    gives = ap (λ x. x ∷ []) (same_head (Mark (suc c)) e (entries Logged (suc c) ms) [] is);
    said = λ u made. tt;
  }
  last_move a s c (Do (Some o) ∷ ms) (x ∷ list) e at runs said is =
      one_before a runs.0 c (suc c) (Do (Some o)) (Mark (suc c) ∷ []) list (x ∷ list) e (runs.0, runs.1, refl)
      (λ ms. refl)
      (ap (λ y. y ∷ list) (sym (same_head (Mark (suc c)) x (entries Logged (suc c) ms) (list ++ e ∷ []) is)))
      (last_move runs.0 s (suc c) ms list e (counts.by_step a runs.0 (Some o) runs.1 ∙ ap suc at) runs.2
      (said runs.0 runs.1) (same_tail (Mark (suc c)) x (entries Logged (suc c) ms) (list ++ e ∷ []) is))
  last_move a s c (Take i ∷ ms) [] e at runs said is = record {
    front = [];
    before = a;
    move = Take i;
    after = runs.0;
    recorded = refl;
    makes = (runs.0, runs.1, refl);
    entries_are = ap (λ x. x ∷ []) (same_head (entry_of Logged c i) e (entries Logged c ms) [] is);
    count = counts.by_input a runs.0 i runs.1.taken ∙ at ∙ sym (count_entry Logged c i)
        ∙ ap count_of (same_head (entry_of Logged c i) e (entries Logged c ms) [] is);
    at = c;
    gives = ap (λ x. x ∷ []) (same_head (entry_of Logged c i) e (entries Logged c ms) [] is);
    said = (said.0, λ u made. tt);
  }
  last_move a s c (Take i ∷ ms) (x ∷ list) e at runs said is =
      one_before a runs.0 c c (Take i) (entry_of Logged c i ∷ []) list (x ∷ list) e (runs.0, runs.1, refl) (λ ms. refl)
      (ap (λ y. y ∷ list) (sym (same_head (entry_of Logged c i) x (entries Logged c ms) (list ++ e ∷ []) is)))
      (last_move runs.0 s c ms list e (counts.by_input a runs.0 i runs.1.taken ∙ at) runs.2
      (said.1 runs.0 runs.1.taken) (same_tail (entry_of Logged c i) x (entries Logged c ms) (list ++ e ∷ []) is))

-- ---- what the entry was told

-- of a list: its keys are the first of those typed, and it says of no more bytes that they are accepted than were counted
record Within (typed0 typed1 : List ℕ) (counted0 counted1 : ℕ) (list : List Entry) : Type 0 where
  keys_in : (port : ℕ) → IsPrefix (keys port (inputs_of list)) (typed_at port typed0 typed1)
  accepted_in : (port : ℕ) → acceptances port (inputs_of list) ≤ counted_at port (knew [] 0 counted0 counted1 [])

module _ {S : Type 0} (M : Machine S) (typed0 typed1 : List ℕ) (counted0 counted1 : ℕ) (answers : List DiskAnswer)
    (list : List Entry) where
  counted_so : (port n : ℕ) → n ≤ counted_at port (knew [] 0 counted0 counted1 [])
      → n ≤ counted_at port (knew list 0 counted0 counted1 answers)
  counted_so zero n le = le
  counted_so (suc port) n le = le

  told_input : (s : S) (c : ℕ) (i : Input) → IsAnswer M answers s i
      → Within typed0 typed1 counted0 counted1 (list ++ entry_of Logged c i ∷ [])
      → IsTold M typed0 typed1 (knew list 0 counted0 counted1 answers) s (entry_of Logged c i)
  told_input s c (input.Rx port byte) it within = within.keys_in port
  told_input s c (input.Sent port) it within = counted_so port _ (within.accepted_in port)
  told_input s c (input.Sector drive sector number bytes) it within = it
  told_input s c (input.Written number) it within = it

  told_move : (s : S) (c : ℕ) (m : Move) (e : Entry) → entries Logged c (m ∷ []) ≡ e ∷ []
      → AreAnswers M answers s (m ∷ []) → Within typed0 typed1 counted0 counted1 (list ++ e ∷ [])
      → IsTold M typed0 typed1 (knew list 0 counted0 counted1 answers) s e
  told_move s c (Do None) e is said within = absurd cc
  told_move s c (Do (Some o)) e is said within =
      subst (IsTold M typed0 typed1 (knew list 0 counted0 counted1 answers) s) (same_head (Mark (suc c)) e [] [] is) tt
  told_move s c (Take i) e is said within =
      let same = same_head (entry_of Logged c i) e [] [] is in
      subst (IsTold M typed0 typed1 (knew list 0 counted0 counted1 answers) s) same
      (told_input s c i said.0
      (subst (λ x. Within typed0 typed1 counted0 counted1 (list ++ x ∷ [])) (sym same) within))

-- what is said of the ports
some_keys : (n : ℕ) (typed said : List ℕ) → said ≡ take n typed → IsPrefix said typed
some_keys n typed said is = (drop n typed, ap (λ l. l ++ drop n typed) is ∙ take-append-drop n typed)

within_said : (typed0 typed1 : List ℕ) (n0 n1 a0 a1 counted0 counted1 : ℕ) (list : List Entry)
    → Says list (by_port (take n0 typed0) (take n1 typed1) []) (by_port a0 a1 0) → a0 ≤ counted0 → a1 ≤ counted1
    → Within typed0 typed1 counted0 counted1 list
within_said typed0 typed1 n0 n1 a0 a1 counted0 counted1 list says le0 le1 = record {
  keys_in = first;
  accepted_in = second;
}
  where
    first : (port : ℕ) → IsPrefix (keys port (inputs_of list)) (typed_at port typed0 typed1)
    first zero = some_keys n0 typed0 _ (says.keys_are 0)
    first (suc zero) = some_keys n1 typed1 _ (says.keys_are 1)
    first (suc (suc port)) = (typed1, ap (λ l. l ++ typed1) (says.keys_are (suc (suc port))))

    second : (port : ℕ) → acceptances port (inputs_of list) ≤ counted_at port (knew [] 0 counted0 counted1 [])
    second zero = (let e = says.accepted_are 0 in let l = le0 in omega (arith, e, l))
    second (suc zero) = (let e = says.accepted_are 1 in let l = le1 in omega (arith, e, l))
    second (suc (suc port)) = (let e = says.accepted_are (suc (suc port)) in omega (arith, e))

-- ---- the promises

module _ {S : Type 0} (M : Machine S) (counts : Counts M) (zero_at : M.count M.boot ≡ 0) (names : List OpId)
    (view : PrimaryView) (s : S) (typed0 typed1 : List ℕ) where
  pub append_kept : (e : Entry) → Leads M M.boot (view.list ++ e ∷ []) names view s
      → (n0 n1 a0 a1 : ℕ)
      → Says (view.list ++ e ∷ []) (by_port (take n0 typed0) (take n1 typed1) []) (by_port a0 a1 0)
      → a0 ≤ view.counted0 → a1 ≤ view.counted1
      → CallKept M typed0 typed1 (Appended view.list view.counted0 view.counted1 view.answers e)
  append_kept e leads n0 n1 a0 a1 says le0 le1 =
      let l = last_move M counts view.answers M.boot s 0 leads.moves view.list e zero_at leads.runs leads.answered
      (ap (λ c. entries Logged c leads.moves) (sym zero_at) ∙ leads.entries_are) in (
        record {
          moves = l.front;
          before = l.before;
          move = l.move;
          after = l.after;
          recorded = l.recorded;
          makes = l.makes;
          entries_are = l.entries_are;
          count = l.count;
        },
        told_move M typed0 typed1 view.counted0 view.counted1 view.answers view.list l.before l.at l.move e l.gives l.said
            (within_said typed0 typed1 n0 n1 a0 a1 view.counted0 view.counted1 (view.list ++ e ∷ []) says le0 le1),
      )

  pub release_kept : (o : Operation) → Leads M M.boot view.list names view s → M.find s (id_of o) ≡ Some o
      → view.seen ≡ length view.list → CallKept M typed0 typed1 (Released view.list view.seen o)
  release_kept o leads found seen =
      let are : entries Logged 0 leads.moves ≡ view.list =
      ap (λ c. entries Logged c leads.moves) (sym zero_at) ∙ leads.entries_are in (
        record { moves = leads.moves; last = s; recorded = leads.runs; entries_are = are },
        (
          found,
          covered_by view.seen (notes_from 0 [] [] leads.moves) (id_of o)
              (notes_covered view.seen leads.moves 0 [] [] tt tt
              (let e = ap length are in let z = seen in omega (arith, e, z))),
        ),
      )
