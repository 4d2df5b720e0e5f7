-- An append is events of the world: what a run of the longer list says of its last move, and what the primary was told.
use Rattle.std.proofs.Common.{◌≡◌, ℕ, ◌+◌, ◌≤◌, List, [], ◌∷◌, ◌++◌, length, sym, refl, ap, ◌∙◌, arith, eq-eqb, Option, Some, None, is_none, if◌then◌else◌, slice_get}
use Rattle.pair_rule.proofs.Words.{Among, AppendEvents, Copying, Entry, HasLonger, Input, IsPrefix, IsTold, Knowledge, Lawful, Leads, Logged, Machine, Move, NotDue, Quiet, Recorded, Runnable, Runs, Rx, Shows, Stands, World, acceptances, acceptances-append, appended, counted_at, entries, entry_of, inputs, inputs_of, inputs_of-append, inputs_of-entries, keys, keys-append, recorded-runs, refusal_of, sector_record, sector_refusal, typed_at}
use Rattle.guest_lockstep.specs.Recorded.{Accepts}
use Rattle.guest_lockstep.specs.declared.input.Input.TheVariants as input
use Rattle.log_entry.specs.declared.entry.Entry.TheVariants.{Sent}
use Rattle.pair_rule.specs.declared.payload.DiskAnswer.TheVariants as answer
use Rattle.pair_rule.specs.Law.{MayAppend}
use Rattle.pair_rule.proofs.Appends.{mark_leads, key_leads, sent_leads, done_leads, sector_leads}
use Rattle.pair_rule.proofs.ShownGuards.{all_in, typed_there, accepted_there, done_there, put_there}
use Rattle.pair_rule.proofs.SameRecord.{is_ready, still}
use Rattle.pair_rule.proofs.LongerRuns.{LastMove, Steps, Hears, last_move, run_goes_on}

-- the element between two lists
get_between : {A : Type 0} (xs : List A) (x : A) (rest : List A) → slice_get ((xs ++ x ∷ []) ++ rest) (length xs) ≡ Some x
get_between [] x rest = refl
get_between (y ∷ xs) x rest = get_between xs x rest

-- where an acceptance is not refused, a byte is due
pub is_due : {S : Type 0} (M : Machine S) (t : S) (port : ℕ) → refusal_of M t (input.Sent port) ≡ None
    → (number : ℕ) × (M.due_byte t port ≡ Some number)
is_due M t port allowed = go (M.due_byte t port) allowed
  where
    go : (due : Option ℕ) → (if is_none due then Some NotDue else None) ≡ None → (number : ℕ) × (due ≡ Some number)
    go None e = absurd cc
    go (Some number) e = (number, refl)

module _ {S : Type 0} (M : Machine S) (C : Copying S) (may : Runnable M) (typed0 typed1 : List ℕ) (k : Knowledge) (w : World S)
    (z : Shows M typed0 typed1 k w) (st : Stands k) (free : MayAppend k) where
  abbrev laws : Lawful M
  laws = may.lawful

  abbrev list : List Entry
  list = k.primary.list

  module _ (moves : List Move) (t : S) (run : Recorded M M.boot moves t) (are : entries Logged 0 moves ≡ list) where
    reaches : Runs M M.boot moves t
    reaches = recorded-runs M M.boot t moves run

    -- the inputs of the run are those of the list
    inputs_are : inputs 0 moves ≡ inputs_of list
    inputs_are = sym (inputs_of-entries Logged 0 moves) ∙ ap inputs_of are

    -- the key that the run takes next is the next of those typed
    typed_next : (c port byte : ℕ) → IsPrefix (keys port (inputs_of (list ++ Rx c port byte ∷ []))) (typed_at port typed0 typed1)
        → slice_get (typed_at port typed0 typed1) (M.keys t port) ≡ Some byte
    typed_next c port byte (rest, is) =
        let more : keys port (inputs_of (list ++ Rx c port byte ∷ [])) ≡ keys port (inputs_of list) ++ byte ∷ [] =
        ap (keys port) (inputs_of-append list (Rx c port byte ∷ [])) ∙ keys-append port (inputs_of list)
        (inputs_of (Rx c port byte ∷ []))
        ∙ ap (λ b. keys port (inputs_of list) ++ ((if b then byte ∷ [] else []) ++ [])) (eq-eqb port port refl) in
        let many : M.keys t port ≡ length (keys port (inputs_of list)) =
        laws.takes_keys moves t port reaches ∙ ap (λ l. length (keys port l)) inputs_are in
        ap (λ l. slice_get l (M.keys t port)) (sym is ∙ ap (λ l. l ++ rest) more) ∙ ap
        (slice_get ((keys port (inputs_of list) ++ byte ∷ []) ++ rest)) many ∙ get_between
        (keys port (inputs_of list)) byte rest

    -- the byte whose acceptance the run takes next has been counted
    counted_next : (c port number : ℕ) → M.due_byte t port ≡ Some number
        → acceptances port (inputs_of (list ++ Sent c port ∷ [])) ≤ counted_at port k
        → (1 ≤ number) × (number ≤ counted_at port k)
    counted_next c port number due few =
        let more : acceptances port (inputs_of (list ++ Sent c port ∷ [])) ≡ acceptances port (inputs_of list) + 1 =
        ap (acceptances port) (inputs_of-append list (Sent c port ∷ [])) ∙ acceptances-append port (inputs_of list)
        (inputs_of (Sent c port ∷ []))
        ∙ ap (λ b. acceptances port (inputs_of list) + ((if b then 1 else 0) + 0)) (eq-eqb port port refl) in
        let is : number ≡ acceptances port (inputs_of list) + 1 =
        laws.due moves t port number reaches due ∙ ap (λ l. acceptances port l + 1) inputs_are in
        (omega (arith, is), omega (arith, is, more, few))

    hears : (n : ℕ) (u : S) (i : Input) → Quiet M z.s n t → Accepts M t i u
        → IsTold M typed0 typed1 k t (entry_of Logged (M.count t) i)
        → Leads M C typed0 typed1 (appended (entry_of Logged (M.count t) i) k) w
        (AppendEvents (length list) (entry_of Logged (M.count t) i))
    hears n u (input.Rx port byte) q accepts told =
        key_leads M C may.counts laws typed0 typed1 k w z st free.asks_not free.few free.room n t u port byte q accepts
        (typed_there M typed0 typed1 k w z port (M.keys t port) byte accepts.is_input (typed_next (M.count t) port byte told))
    hears n u (input.Sent port) q accepts told = let d = is_due M t port accepts.allowed in let c =
        counted_next (M.count t) port d.0 d.1 told in
        sent_leads M C may.counts laws typed0 typed1 k w z st free.asks_not free.few free.room n t u port d.0 q accepts d.1 c.0
        (accepted_there M typed0 typed1 k w z st port d.0 accepts.is_input c.1)
    hears n u (input.Written number) q accepts told =
        done_leads M C may.counts laws typed0 typed1 k w z st free.asks_not free.few free.room n t u number q accepts
        (done_there M typed0 typed1 k w z st number told) (put_there M typed0 typed1 k w z st number told)
    hears n u (input.Sector drive sector number bytes) q accepts (r, given, at, same, alike) =
        let allowed : refusal_of M t (input.Sector drive sector r.number r.bytes) ≡ None =
        ap (λ n. sector_refusal M t (M.address t drive sector) n) same ∙ accepts.allowed in
        let first : r.number ≡ 0 → r.bytes ≡ M.boot_sector (M.address t drive sector) =
        λ none. z.first_reads r (all_in (λ a. Among a k.disk.given) k.primary.answers (answer.Read r) st.disk.answers given) none
        ∙ ap M.boot_sector at in
        sector_leads M C may.counts laws typed0 typed1 k w z st free.asks_not free.few free.room n t u drive sector number bytes q
        accepts
        (may.selected t drive sector (is_ready M t (M.address t drive sector) number accepts.allowed))
        (laws.placed t drive sector)
        (ap (λ l. sector_record M l (M.address t drive sector)) z.puts
        ∙ still M laws typed0 typed1 k w z st n t q drive sector r allowed given first ∙
        (λ i. record { number = same i; bytes = alike i }))

  pub append_leads : (e : Entry) (run : HasLonger M list e) → IsTold M typed0 typed1 k run.before e
      → Leads M C typed0 typed1 (appended e k) w (AppendEvents (length list) e)
  append_leads e run told =
      let boot : M.count M.boot ≡ 0 = laws.counts [] M.boot refl in
      let m = last_move M may.counts boot laws.counts list e run in
      let g = run_goes_on M may.counts boot list z.moves z.s z.recorded z.entries_are z.count run.moves run.before run.recorded
      m.0 in
      go e told m.1 g.further g.quietly m.0
    where
      go : (e : Entry) → IsTold M typed0 typed1 k run.before e → LastMove M run.before run.after list e → (n : ℕ)
          → Quiet M z.s n run.before → entries Logged 0 run.moves ≡ list
          → Leads M C typed0 typed1 (appended e k) w (AppendEvents (length list) e)
      go e told (Steps o step) n q are =
          mark_leads M C may.counts laws typed0 typed1 k w z st free.asks_not free.few free.room n run.before run.after o q step
      go e told (Hears i accepts) n q are = hears run.moves run.before run.recorded are n run.after i q accepts told
