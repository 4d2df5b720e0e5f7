-- What the workers end with is what steps of the threads led to: the table has its steps, and each worker kept what its calls
-- promise.
use Rattle.std.proofs.Common.{◌≡◌, ◌≤◌, ℕ, List, [], ◌∷◌, length, map, Option, None, refl, sym, ap, subst, ◌∙◌, arith}
use Rattle.pair_threads.proofs.Words.{AllAre, BackupView, BackupWorker, CallKept, DiskAnswer, DiskView, Entry, IsAt, IsFirst, IsStore, Lawful, Logged, Machine, NoneUnderWay, PrimaryView, PrimaryWorker, Record, Recorded-booted, Settled, TerminalView, ThreadRun, Who, WorkerKeeps, WorkerLeads, accepted_after, all_map, arrival_of, booted_from, bytes_in, entries, last_or, winner_named, winner_of, longer_by}
use Rattle.pair_protocol.proofs.Promises.Growth.{row_grows}
use Rattle.pair_protocol.proofs.RowActions.{row_changes}
use Rattle.pair_protocol.proofs.Promises.Runs.{always_faithful, changes_reach}
use Rattle.pair_rule.specs.declared.payload.DiskAnswer.TheVariants as answer
use Rattle.pair_rule.specs.Steps.{ReadsBoot}
use Rattle.pair_rule.proofs.KeptSteps.{kept_steps}
use Rattle.pair_rule.proofs.Threads.{runs_shown}
use Rattle.pair_threads.specs.Shown.{IsOfRun}

module _ {B S : Type 0} (state : B → S) (N : Machine S) (boot : S)
    (first : List Record) (lawful : Lawful (booted_from N boot (bytes_in first))) (p : PrimaryWorker B) (b : BackupWorker B)
    (terminal : TerminalView) (disk : DiskView) (tail held winner : ℕ)
    (settled : Settled p.seat.core.known.primary b.seat.core.known.backup terminal disk tail held winner)
    (records : List Record) (leads : WorkerLeads state N boot p) (kept : WorkerKeeps N boot p)
    (at : IsAt state N boot b.guest) (store : IsStore (bytes_in first) records disk) where
  abbrev M : Machine S
  M = booted_from N boot (bytes_in first)

  abbrev primary : PrimaryView
  primary = p.seat.core.known.primary

  abbrev screens : List (List ℕ)
  screens = accepted_after 0 (map arrival_of terminal.arrivals0) ∷ accepted_after 0 (map arrival_of terminal.arrivals1) ∷ []

  zero_at : M.count M.boot ≡ 0
  zero_at = lawful.counts [] M.boot refl

  read_first : (a : DiskAnswer) → IsFirst (bytes_in first) a → ReadsBoot M a
  read_first (answer.Written number) f = f
  read_first (answer.Read r) f = f

  ran : ThreadRun M p.port0.typed.items p.port1.typed.items settled.known
  ran = kept_steps M p.port0.typed.items p.port1.typed.items settled.known settled.ran record {
    calls_kept =
        subst (λ (v : PrimaryView). AllAre v.calls (CallKept M p.port0.typed.items p.port1.typed.items))
        (sym settled.primary_is) (kept zero_at (bytes_in first));
    reads_kept =
        subst (λ (d : DiskView). AllAre d.given (ReadsBoot M)) (sym settled.disk_is)
        (all_map disk.given (IsFirst (bytes_in first)) (ReadsBoot M) read_first store.firsts);
  }

  there : IsStore (bytes_in first) records settled.known.disk
  there = subst (IsStore (bytes_in first) records) (sym settled.disk_is) store

  -- what was asked was answered, if the disk has answered what it took, and its answers came
  under_way : primary.asked ≤ length primary.answers → length disk.given ≤ disk.takes → NoneUnderWay settled.known
  under_way few served =
      let asked : settled.known.primary.asked ≤ length settled.known.primary.answers =
      subst (λ (v : PrimaryView). v.asked ≤ length v.answers) (sym settled.primary_is) few in
      let given : length settled.known.disk.given ≤ settled.known.disk.takes =
      subst (λ (d : DiskView). length d.given ≤ d.takes) (sym settled.disk_is) served in
      let taken = settled.taken in
      let came = settled.came in
      record {
        taken = omega (arith, asked, given, taken, came);
        answered = omega (arith, asked, given, taken, came);
        came = omega (arith, asked, given, taken, came);
      }

  pub of_run : (goes : Option Who) → goes ≡ winner_named winner
      → (goes ≡ None → primary.asked ≤ length primary.answers) → length disk.given ≤ disk.takes → (waiting : Option Entry)
      → waiting ≡ p.guest.waiting
      → IsOfRun M p.port0.typed.items p.port1.typed.items goes p.list.items b.guest.list.items held waiting screens records
      (state p.guest.board) (state b.guest.board)
  of_run goes is rests served waiting waits = record {
    known = settled.known;
    run = ran;
    shown = λ C may copies. runs_shown (λ M C w new e r row. row_changes M C w new e r row)
        (λ M C w new reached changes. changes_reach M C w new reached changes) always_faithful
        (λ M C laws copies w new e r reached row. row_grows M C laws copies w new e r reached row) M C may copies
        p.port0.typed.items p.port1.typed.items settled.known ran;
    primary_is = p.same ∙ ap (λ (v : PrimaryView). v.list) (sym settled.primary_is);
    backup_is = b.same ∙ ap (λ (v : BackupView). v.list) (sym settled.backup_is);
    held_is = settled.held_is ∙ ap (λ (v : BackupView). last_or 0 v.held_values) (sym settled.backup_is);
    winner_is = is ∙ ap winner_named (settled.winner_is
        ∙ (λ i. winner_of (sym settled.primary_is i).winner (sym settled.backup_is i).winner));
    screens_are = ap (λ (t : TerminalView). accepted_after 0 (map arrival_of t.arrivals0)
        ∷ accepted_after 0 (map arrival_of t.arrivals1) ∷ []) (sym settled.terminal_is);
    disk_is = there.kept;
    primary_at = record {
      moves = leads.0.moves;
      recorded = Recorded-booted N boot (bytes_in first) boot (state p.guest.board) leads.0.moves leads.0.runs;
      entries_are = ap (λ c. entries Logged c leads.0.moves) (sym zero_at) ∙ leads.0.entries_are
          ∙ ap (λ l. longer_by l p.guest.waiting) (sym p.same) ∙ ap (longer_by p.list.items) (sym waits);
    };
    replayed = b.guest.replayed;
    backup_at = record {
      moves = at.ran.moves;
      recorded = Recorded-booted N boot (bytes_in first) boot (state b.guest.board) at.ran.moves at.ran.runs;
      entries_are = ap (λ c. entries Logged c at.ran.moves) (sym zero_at) ∙ at.ran.entries_are;
    };
    quiet = λ none. under_way (rests none) served;
  }

-- so of what the workers are taken apart into
pub all_so : {S : Type 0}
    (P : List ℕ → List ℕ → List Entry → List Entry → List (List ℕ) → List Record → S → S → Type 0)
    (typed0 typed1 known0 known1 : List ℕ) (list all copy held_copy : List Entry) (screens shown : List (List ℕ))
    (records kept : List Record) (s s' t t' : S) → known0 ≡ typed0 → known1 ≡ typed1 → all ≡ list → held_copy ≡ copy
    → shown ≡ screens → kept ≡ records → s' ≡ s → t' ≡ t → P known0 known1 list copy screens records s t
    → P typed0 typed1 all held_copy shown kept s' t'
all_so P typed0 typed1 known0 known1 list all copy held_copy screens shown records kept s s' t t' k0 k1 l c n k is there ends =
    subst (λ x. P x typed1 all held_copy shown kept s' t') k0
    (subst (λ x. P known0 x all held_copy shown kept s' t') k1
    (subst (λ x. P known0 known1 x held_copy shown kept s' t') (sym l)
    (subst (λ x. P known0 known1 list x shown kept s' t') (sym c)
    (subst (λ x. P known0 known1 list copy x kept s' t') (sym n)
    (subst (λ x. P known0 known1 list copy screens x s' t') (sym k)
    (subst (λ x. P known0 known1 list copy screens records x t') (sym is)
    (subst (λ x. P known0 known1 list copy screens records s x) (sym there) ends)))))))
