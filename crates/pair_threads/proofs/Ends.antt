-- How a generation ends. The primary's guest has made a run of its list, in which each sector carried what the machine's
-- own disk had. What terminals and disk have was given in the moves up to any list that has all entries seen: the
-- primary's, or the backup's. If nothing is outstanding, and all is seen, they have what the whole run gave.
use Rattle.std.proofs.Common.{◌≡◌, ℕ, zero, suc, ◌<◌, ◌≤◌, ◌⊎◌, inl, inr, List, [], ◌∷◌, ◌++◌, length, map, take, drop, Option, Some, None, refl, sym, ap, subst, ◌∙◌, arith, length-append, append-nil, append_assoc}
use Rattle.std.proofs.Math.Seq.{take-length}
use Rattle.std.proofs.lemmas.List.{take-append-drop}
use Rattle.std.specs.Prelude.{Contains}
use Rattle.pair_threads.proofs.Words.{AllAre, Among, Arrived, BackupView, Byte, ComesAndGoes, Counts, DiskView, EachScreen, EndsAlone, EndsWell, Entry, HasWrite, Idle, IsDone, IsFirst, IsPrefix, IsReplied, IsStore, IsTraceOf, IsWhereItLeads, Lawful, Leads, Logged, Machine, MayHave, Move, NoSectorIsDue, OpId, Operation, Owns, PrimaryView, Record, Runs, Says, SectorAddress, SectorRead, SectorWrite, Settled, StartsWith, TerminalView, Write, acceptances, acceptances-append, accepted_after, address_of, all_map, arrival_of, by_port, entries, inputs, inputs_of, inputs_of-append, inputs_of-entries, keys, keys-append, last_count, operations, output, read_address, sector_record, step_refusal, typed_at, longer_by}
use Rattle.pair_protocol.specs.Traces.{cut}
use Rattle.pair_protocol.proofs.Traces.Cuts.{cut-prefix}
use Rattle.pair_protocol.proofs.Traces.Recorded.{recorded-runs}
use Rattle.pair_rule.specs.declared.payload.DiskAnswer.TheVariants as answer
use Rattle.pair_rule.proofs.ShownGuards.{all_in}
use Rattle.pair_threads.specs.Left.{IsScreenOf, IsStoreOf, Leaves}
use Rattle.pair_progress.proofs.Given.{all_accepted}
use Rattle.pair_threads.proofs.Delivered.{at_rest, in_sector, on_screen, whole_screen}
use Rattle.pair_threads.proofs.FirstEntries.{all_of_it, first_moves, first_owns, first_part, given_at_all, given_first, given_there, repeated, same_entries}
use Rattle.pair_threads.proofs.OneMoment.{StandsOf, stands_of}
use Rattle.pair_threads.proofs.OwnDisk.{IsReadOf, answered, answers_prefix, owns}
use Rattle.replayer.specs.Following.{Ran}
use Rattle.shared_disk.specs.Records.{record_at}

-- ---- lists

begins : (list : List Entry) (o : Option Entry) → StartsWith (longer_by list o) list
begins list None = ([], sym (append-nil list))
begins list (Some e) = (e ∷ [], refl)

through : (all list front : List Entry) → StartsWith all list → StartsWith list front → StartsWith all front
through all list front (more, is) (some, same) =
    (some ++ more, is ∙ ap (λ l. l ++ more) same ∙ append_assoc front some more)

-- a list that starts with one that is no shorter is that one
no_more : (list copy : List Entry) → StartsWith list copy → length list ≤ length copy → copy ≡ list
no_more list copy ([], is) le = sym (is ∙ append-nil copy)
no_more list copy (x ∷ more, is) le =
    absurd (let a = ap length is in let b = length-append copy (x ∷ more) in let c = le in omega (arith, a, b, c))

front_length : (list copy : List Entry) (n : ℕ) → StartsWith list copy → n ≤ length copy → n ≤ length list
front_length list copy n (more, is) le =
    (let a = ap length is in let b = length-append copy more in omega (arith, a, b, le))

all_seen : (list copy n : ℕ) → n ≤ copy → n ≡ list → list ≤ copy
all_seen list copy n le is = omega (arith, le, is)

-- what a list says, a longer one says too
few : (port : ℕ) (all list : List Entry) (a counted most : ℕ) → StartsWith all list
    → acceptances port (inputs_of all) ≡ a → a ≤ counted → counted ≤ most → acceptances port (inputs_of list) ≤ most
few port all list a counted most (more, is) said less le =
    (let b = ap (λ l. acceptances port (inputs_of l)) is in
    let c = ap (acceptances port) (inputs_of-append list more) in
    let d = acceptances-append port (inputs_of list) (inputs_of more) in
    omega (arith, b, c, d, said, less, le))

some_keys : (port n : ℕ) (typed : List ℕ) (all list : List Entry) → StartsWith all list
    → keys port (inputs_of all) ≡ take n typed → IsPrefix (keys port (inputs_of list)) typed
some_keys port n typed all list (more, is) said =
    let parts : keys port (inputs_of list) ++ keys port (inputs_of more) ≡ take n typed =
    sym (ap (λ l. keys port (inputs_of l)) is ∙ ap (keys port) (inputs_of-append list more)
    ∙ keys-append port (inputs_of list) (inputs_of more)) ∙ said in (
      keys port (inputs_of more) ++ drop n typed,
      sym (append_assoc (keys port (inputs_of list)) (keys port (inputs_of more)) (drop n typed))
          ∙ ap (λ l. l ++ drop n typed) parts ∙ take-append-drop n typed,
    )

all_keys : (port n : ℕ) (typed : List ℕ) (all list : List Entry) → all ≡ list → keys port (inputs_of all) ≡ take n typed
    → n ≡ length typed → keys port (inputs_of list) ≡ typed
all_keys port n typed all list same said is =
    ap (λ l. keys port (inputs_of l)) (sym same) ∙ said ∙ ap (λ n. take n typed) is ∙ take-length typed

nothing_out : {S : Type 0} (M : Machine S) (list : List Entry) (names : List OpId) (view : PrimaryView) (s : S)
    → Leads M M.boot list names view s → names ≡ [] → (name : OpId) → M.find s name ≡ None
nothing_out M list names view s leads none name = go (M.find s name) refl
  where
    not_there : Contains [] name → ⊥
    not_there (i, within, is) = omega (arith, within)

    go : (o : Option Operation) → M.find s name ≡ o → M.find s name ≡ None
    go None is = is
    go (Some o) is = absurd (not_there (subst (λ l. Contains l name) none (leads.outstanding name o is).named))

all_on_screen : (given accepted a counted most : ℕ) → given ≤ accepted → accepted ≡ a → a ≤ counted → counted ≤ most
    → given ≤ most
all_on_screen given accepted a counted most few is less le = omega (arith, few, is, less, le)

module _ {S : Type 0} (M : Machine S) (lawful : Lawful M) (counts : Counts M) (laws : ComesAndGoes M)
    (primary : PrimaryView) (backup : BackupView) (terminal : TerminalView) (disk : DiskView) (tail held winner : ℕ)
    (settled : Settled primary backup terminal disk tail held winner) (waiting : Option Entry) (names : List OpId) (s : S)
    (leads : Leads M M.boot (longer_by primary.list waiting) names primary s) (typed0 typed1 : List ℕ) (n0 n1 a0 a1 : ℕ)
    (says : Says (longer_by primary.list waiting) (by_port (take n0 typed0) (take n1 typed1) []) (by_port a0 a1 0))
    (less0 : a0 ≤ primary.counted0) (less1 : a1 ≤ primary.counted1) (records : List Record)
    (store : IsStore M.boot_sector records disk) where
  abbrev all : List Entry
  all = longer_by primary.list waiting

  abbrev screen0 : List ℕ
  screen0 = accepted_after 0 (map arrival_of terminal.arrivals0)

  abbrev screen1 : List ℕ
  screen1 = accepted_after 0 (map arrival_of terminal.arrivals1)

  abbrev screens : List (List ℕ)
  screens = screen0 ∷ screen1 ∷ []

  stands : StandsOf primary backup terminal disk
  stands = stands_of primary backup terminal disk tail held winner settled

  are : entries Logged 0 leads.moves ≡ all
  are = ap (λ c. entries Logged c leads.moves) (sym (lawful.counts [] M.boot refl)) ∙ leads.entries_are

  runs : Runs M M.boot leads.moves s
  runs = recorded-runs M M.boot s leads.moves leads.runs

  issued : (o : Operation) → Among o primary.released → Among o (operations leads.moves)
  issued o at = given_at_all primary.seen leads.moves o (leads.covered o at)

  -- each answer of a read found what was booted, or a write of the run
  read_of : (r : SectorRead) → Among (answer.Read r) primary.answers → IsReadOf M leads.moves r
  read_of r at = record {
    first = all_in (IsFirst M.boot_sector) disk.given (answer.Read r) store.firsts given;
    written = go (all_in (IsReplied disk.puts) disk.given (answer.Read r) stands.replies given);
  }
    where
      given : Among (answer.Read r) disk.given
      given = all_in (λ a. Among a disk.given) primary.answers (answer.Read r) stands.answers at

      go : IsReplied disk.puts (answer.Read r) → (r.number ≡ 0) ⊎ ((w : SectorWrite)
          × Among (Write w) (operations leads.moves) × (address_of w ≡ read_address r) × (w.number ≡ r.number)
          × (w.bytes ≡ r.bytes))
      go (inl none) = inl none
      go (inr w) = inr (
        w.0,
        issued (Write w.0) (all_in (λ w. Among (Write w) primary.released) disk.puts w.0 stands.puts w.1),
        w.2,
        w.3,
        w.4,
      )

  owned : Owns M [] M.boot leads.moves
  owned = owns M lawful primary.answers leads.moves s runs read_of [] M.boot leads.moves refl refl leads.runs leads.answered

  -- a write that is done was answered, so it came
  came : (moves : List Move) (t : S) → IsPrefix moves leads.moves → Runs M M.boot moves t → (n : ℕ) → IsDone n moves
      → HasWrite disk.puts n
  came moves t below made n done =
      all_in (IsReplied disk.puts) disk.given (answer.Written n) stands.replies
      (all_in (λ a. Among a disk.given) primary.answers (answer.Written n) stands.answers
      (answered M primary.answers M.boot t 0 moves n made
      (answers_prefix M primary.answers M.boot moves leads.moves below leads.answered) done))

  in_store : (trace : List Move) (t : S) (address : SectorAddress) (r : Record) → record_at records address ≡ Some r
      → MayHave M trace t address (sector_record M disk.puts address).bytes → MayHave M trace t address r.bytes
  in_store trace t address r is has = subst (MayHave M trace t address) (sym (store.kept address r is).1) has

  -- ---- a list that has all entries seen

  alone : (list : List Entry) → StartsWith all list → primary.seen ≤ length list
      → EndsAlone M typed0 typed1 list screens records
  alone list start enough = record {
    keeps = record {
      trace = trace;
      s = part.0;
      is = part.1;
      outputs = (
        on_screen M lawful trace part.0 made primary.released given 0 terminal.arrivals0 stands.arrived0
            (accepts 0 a0 primary.counted0 (length screen0) (says.accepted_are 0) less0 stands.counted0),
        (
          on_screen M lawful trace part.0 made primary.released given 1 terminal.arrivals1 stands.arrived1
              (accepts 1 a1 primary.counted1 (length screen1) (says.accepted_are 1) less1 stands.counted1),
          tt,
        ),
      );
      disk = λ address r is. in_store trace part.0 address r is
          (in_sector M lawful trace part.0 made primary.released given disk.puts stands.puts
          (came trace part.0 (cut-prefix (length list) leads.moves) made) address);
    };
    keys0 = some_keys 0 n0 typed0 all list start (says.keys_are 0);
    keys1 = some_keys 1 n1 typed1 all list start (says.keys_are 1);
  }
    where
      trace : List Move
      trace = cut (length list) leads.moves

      part : (u : S) × IsTraceOf M list (last_count 0 list) trace u
      part = first_part M lawful leads.moves s runs owned list start.0 (are ∙ start.1)

      made : Runs M M.boot trace part.0
      made = subst (Runs M M.boot trace) part.1.ends part.1.reach.runs

      given : (o : Operation) → Among o primary.released → Among o (operations trace)
      given o at = given_first (length list) primary.seen leads.moves o enough (leads.covered o at)

      accepts : (port a counted most : ℕ) → acceptances port (inputs_of all) ≡ a → a ≤ counted → counted ≤ most
          → acceptances port (inputs 0 trace) ≤ most
      accepts port a counted most said less le =
          subst (λ l. acceptances port l ≤ most) (sym part.1.reach.list_is)
          (few port all list a counted most start said less le)

  starts : StartsWith all backup.list
  starts = through all primary.list backup.list (begins primary.list waiting) stands.prefix

  pub primary_alone : EndsAlone M typed0 typed1 primary.list screens records
  primary_alone =
      alone primary.list (begins primary.list waiting)
      (front_length primary.list backup.list primary.seen stands.prefix stands.seen)

  pub backup_alone : EndsAlone M typed0 typed1 backup.list screens records
  backup_alone = alone backup.list starts stands.seen

  -- ---- what is left

  -- of moves in which all that was released was given, and that were told of no more than the primary's guest was
  module _ (moves : List Move) (u : S) (made : Runs M M.boot moves u)
      (given : (o : Operation) → Among o primary.released → Among o (operations moves)) where
    screens_left : ((port a counted most : ℕ) → acceptances port (inputs_of all) ≡ a → a ≤ counted → counted ≤ most
        → acceptances port (inputs 0 moves) ≤ most) → EachScreen (IsScreenOf moves) 0 screens
    screens_left accepts = (
      screen_left 0 terminal.arrivals0 stands.arrived0
          (accepts 0 a0 primary.counted0 (length screen0) (says.accepted_are 0) less0 stands.counted0),
      (
        screen_left 1 terminal.arrivals1 stands.arrived1
            (accepts 1 a1 primary.counted1 (length screen1) (says.accepted_are 1) less1 stands.counted1),
        tt,
      ),
    )
      where
        screen_left : (port : ℕ) (arrivals : List Arrived)
            → AllAre arrivals (λ a. Among (Byte port a.number a.byte) primary.released)
            → acceptances port (inputs 0 moves) ≤ length (accepted_after 0 (map arrival_of arrivals))
            → IsScreenOf moves port (accepted_after 0 (map arrival_of arrivals))
        screen_left port arrivals arrived told =
            let there = on_screen M lawful moves u made primary.released given port arrivals arrived told in
            record { front = (there.0, there.1); told = told }

    store_left : ((n : ℕ) → IsDone n moves → HasWrite disk.puts n) → IsStoreOf M moves records
    store_left done = record {
      puts = disk.puts;
      kept = store.kept;
      given = all_map disk.puts (λ w. Among (Write w) primary.released) (λ w. Among (Write w) (operations moves))
          (λ w at. given (Write w) at) stands.puts;
      done = done;
    }

  keys_left : (list : List Entry) → StartsWith all list → (moves : List Move) → entries Logged 0 moves ≡ list
      → (port : ℕ) → port < 2 → IsPrefix (keys port (inputs 0 moves)) (typed_at port typed0 typed1)
  keys_left list start moves is zero few =
      subst (λ l. IsPrefix (keys 0 l) typed0) (ap inputs_of (sym is) ∙ inputs_of-entries Logged 0 moves)
      (some_keys 0 n0 typed0 all list start (says.keys_are 0))
  keys_left list start moves is (suc zero) few =
      subst (λ l. IsPrefix (keys 1 l) typed1) (ap inputs_of (sym is) ∙ inputs_of-entries Logged 0 moves)
      (some_keys 1 n1 typed1 all list start (says.keys_are 1))
  keys_left list start moves is (suc (suc n)) few = absurd (omega (arith, few))

  told_of : (list : List Entry) → StartsWith all list → (moves : List Move) → entries Logged 0 moves ≡ list
      → (port a counted most : ℕ) → acceptances port (inputs_of all) ≡ a → a ≤ counted → counted ≤ most
      → acceptances port (inputs 0 moves) ≤ most
  told_of list start moves is port a counted most said less le =
      subst (λ l. acceptances port l ≤ most) (ap inputs_of (sym is) ∙ inputs_of-entries Logged 0 moves)
      (few port all list a counted most start said less le)

  -- the primary's guest
  pub primary_leaves : Leaves M typed0 typed1 all screens records s
  primary_leaves = record {
    moves = leads.moves;
    recorded = leads.runs;
    owns = owned;
    entries_are = are;
    keys_kept = keys_left all ([], sym (append-nil all)) leads.moves are;
    screens_are = screens_left leads.moves s runs issued (told_of all ([], sym (append-nil all)) leads.moves are);
    store = store_left leads.moves s runs issued (came leads.moves s ([], append-nil leads.moves) runs);
  }

  -- and that of a backup which has repeated its list
  module _ (t : S) (r : Ran M M.boot backup.list t) (here : M.count t ≡ last_count (M.count M.boot) backup.list) where
    abbrev more : List Entry
    more = starts.0

    splits : entries Logged 0 leads.moves ≡ backup.list ++ more
    splits = are ∙ starts.1

    pub backup_where : IsWhereItLeads M backup.list t
    backup_where = repeated M lawful leads.moves s runs owned backup.list more splits counts t r here

    pub backup_leaves : Leaves M typed0 typed1 backup.list screens records t
    backup_leaves = record {
      moves = r.moves;
      recorded = r.runs;
      owns = first_owns M lawful leads.moves s runs owned backup.list more splits counts t r here;
      entries_are = is;
      keys_kept = keys_left backup.list starts r.moves is;
      screens_are = screens_left r.moves t made given (told_of backup.list starts r.moves is);
      store = store_left r.moves t made given (came r.moves t
          (first_moves M lawful leads.moves s runs owned backup.list more splits counts t r here) made);
    }
      where
        is : entries Logged 0 r.moves ≡ backup.list
        is = same_entries M lawful leads.moves s runs owned backup.list more splits counts t r here

        made : Runs M M.boot r.moves t
        made = recorded-runs M M.boot t r.moves r.runs

        given : (o : Operation) → Among o primary.released → Among o (operations r.moves)
        given o at = given_there M lawful leads.moves s runs owned backup.list more splits counts t r here primary.seen o
            stands.seen (leads.covered o at)

  -- ---- at rest

  module _ (none_waits : waiting ≡ None) (none : names ≡ []) where
    whole : all ≡ primary.list
    whole = ap (longer_by primary.list) none_waits

    free : (name : OpId) → M.find s name ≡ None
    free = nothing_out M all names primary s leads none

    given_out : (port a counted most : ℕ) → acceptances port (inputs_of all) ≡ a → a ≤ counted → counted ≤ most
        → length (output port leads.moves) ≤ most
    given_out port a counted most said less le =
        all_on_screen (length (output port leads.moves)) (acceptances port (inputs 0 leads.moves)) a counted most
        (all_accepted M lawful laws port leads.moves s runs free)
        (ap (acceptances port) (sym (inputs_of-entries Logged 0 leads.moves) ∙ ap inputs_of are) ∙ said) less le

  pub well : waiting ≡ None → names ≡ [] → primary.seen ≡ length primary.list → n0 ≡ length typed0 → n1 ≡ length typed1
      → step_refusal M s ≡ Some Idle → NoSectorIsDue M s → (t : S)
      → IsWhereItLeads M backup.list t → EndsWell M typed0 typed1 primary.list screens records s t
  well none_waits none seen is0 is1 idle no_sector t copied = record {
    trace = leads.moves;
    is = all_of_it M lawful leads.moves s runs owned primary.list (are ∙ whole none_waits none);
    idle = idle;
    none = free none_waits none;
    no_sector = no_sector;
    keys0 = all_keys 0 n0 typed0 all primary.list (whole none_waits none) (says.keys_are 0) is0;
    keys1 = all_keys 1 n1 typed1 all primary.list (whole none_waits none) (says.keys_are 1) is1;
    outputs = (
      whole_screen M lawful leads.moves s runs primary.released issued 0 terminal.arrivals0 stands.arrived0
          (given_out none_waits none 0 a0 primary.counted0 (length screen0) (says.accepted_are 0) less0 stands.counted0),
      (
        whole_screen M lawful leads.moves s runs primary.released issued 1 terminal.arrivals1 stands.arrived1
            (given_out none_waits none 1 a1 primary.counted1 (length screen1) (says.accepted_are 1) less1 stands.counted1),
        tt,
      ),
    );
    disk = λ address r is. at_rest M leads.moves s address r.bytes (free none_waits none)
        (in_store leads.moves s address r is
        (in_sector M lawful leads.moves s runs primary.released issued disk.puts stands.puts
        (came leads.moves s ([], append-nil leads.moves) runs) address));
    front = there.0;
    copied = there.1;
  }
    where
      same : backup.list ≡ primary.list
      same = no_more primary.list backup.list stands.prefix
          (all_seen (length primary.list) (length backup.list) primary.seen stands.seen seen)

      there : IsWhereItLeads M primary.list t
      there = subst (λ l. IsWhereItLeads M l t) same copied
