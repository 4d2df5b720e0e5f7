-- Steps of the table that keep all promises are steps of the threads: each call of the primary is there with what it knew
-- then, and the disk's answers only grow.
use Rattle.std.proofs.Common.{ℕ, zero, suc, List, [], ◌∷◌, ◌++◌}
use Rattle.pair_rule.proofs.Words.{AllAre, Answer, Answers, AreKept, Bytes0, Bytes1, CanFill, Entry, Goes, Inbox, IsTold, KeptStepsAreThreads, Knowledge, Log, Machine, Mailbox, MayPut, Opens, Out, Outbox, Payload, PlainStep, ReadsBoot, Request, Requests, TableStep, after_empty, after_fill, knew}
use Rattle.log_entry.specs.declared.entry.Entry.TheVariants.{Sent}
use Rattle.pair_rule.specs.declared.payload.DiskRequest.TheVariants as ask
use Rattle.pair_rule.specs.Histories as plain
use Rattle.pair_rule.specs.Steps as table

-- ---- all of a longer list

all_front : {A : Type 0} (xs : List A) (x : A) (P : A → Type 0) → AllAre (xs ++ x ∷ []) P → AllAre xs P
all_front [] x P a = tt
all_front (y ∷ xs) x P a = (a.0, all_front xs x P a.1)

all_last : {A : Type 0} (xs : List A) (x : A) (P : A → Type 0) → AllAre (xs ++ x ∷ []) P → P x
all_last [] x P a = a.0
all_last (y ∷ xs) x P a = all_last xs x P a.1

module _ {S : Type 0} (M : Machine S) (typed0 typed1 : List ℕ) (k : Knowledge) where
  -- what was told depends on what the call knew alone
  told_same : (s : S) (e : Entry)
      → IsTold M typed0 typed1 (knew k.primary.list 0 k.primary.counted0 k.primary.counted1 k.primary.answers) s e
      → IsTold M typed0 typed1 k s e
  told_same s (Sent count zero) t = t
  told_same s _ t = t

  -- a step that kept its promise, after steps that kept theirs
  abbrev Kept : Knowledge → Type 0
  Kept new = TableStep M typed0 typed1 k new × AreKept M typed0 typed1 k.primary.calls k.disk.given

  kept_fill : (b : Mailbox) (q : Payload) → MayPut b k q → CanFill b k q
      → AreKept M typed0 typed1 (after_fill b q k).primary.calls (after_fill b q k).disk.given → Kept (after_fill b q k)
  kept_fill Outbox (Log p) may can kept = (table.Fills Outbox (Log p) may.asks_not can tt, kept)
  kept_fill Inbox (Log p) may can kept = (table.Fills Inbox (Log p) may.asks_not can tt, kept)
  kept_fill Bytes0 (Out o) may can kept = (
    table.Fills Bytes0 (Out o) may.asks_not can kept.calls_kept.0,
    record { calls_kept = kept.calls_kept.1; reads_kept = kept.reads_kept },
  )
  kept_fill Bytes1 (Out o) may can kept = (
    table.Fills Bytes1 (Out o) may.asks_not can kept.calls_kept.0,
    record { calls_kept = kept.calls_kept.1; reads_kept = kept.reads_kept },
  )
  kept_fill Requests (Request (ask.Write w)) may can kept = (
    table.Fills Requests (Request (ask.Write w)) may.asks_not can kept.calls_kept.0,
    record { calls_kept = kept.calls_kept.1; reads_kept = kept.reads_kept },
  )
  kept_fill Requests (Request (ask.Read a)) may can kept = (
    table.Fills Requests (Request (ask.Read a)) may.asks_not can tt,
    record { calls_kept = kept.calls_kept; reads_kept = kept.reads_kept },
  )
  kept_fill Answers (Answer a) may can kept = (
    table.Fills Answers (Answer a) may.asks_not can (may.reply, all_last k.disk.given a (ReadsBoot M) kept.reads_kept),
    record { calls_kept = kept.calls_kept; reads_kept = all_front k.disk.given a (ReadsBoot M) kept.reads_kept },
  )
  kept_fill _ _ may can kept = absurd can

  -- whatever is taken out of a box, the calls and the answers stay
  still_kept : (b : Mailbox) (q : Payload)
      → AreKept M typed0 typed1 (after_empty b q k).primary.calls (after_empty b q k).disk.given
      → AreKept M typed0 typed1 k.primary.calls k.disk.given
  still_kept Outbox (Log p) kept = kept
  still_kept Inbox (Log p) kept = kept
  still_kept Bytes0 (Out o) kept = kept
  still_kept Bytes1 (Out o) kept = kept
  still_kept Requests (Request r) kept = kept
  still_kept Answers (Answer a) kept = kept
  still_kept _ _ kept = kept

  kept_step : (new : Knowledge) → PlainStep k new → AreKept M typed0 typed1 new.primary.calls new.disk.given → Kept new
  kept_step new (plain.Fills b q may can) kept = kept_fill b q may can kept
  kept_step new (plain.Empties b q asks fit) kept = (table.Empties b q asks fit, still_kept b q kept)
  kept_step new (plain.Appends e may) kept = (
    table.Appends e kept.calls_kept.0.0 may (told_same kept.calls_kept.0.0.before e kept.calls_kept.0.1),
    record { calls_kept = kept.calls_kept.1; reads_kept = kept.reads_kept },
  )
  kept_step new (plain.Sees asks) kept = (table.Sees asks, kept)
  kept_step new (plain.Holds asks) kept = (table.Holds asks, kept)
  kept_step new (plain.PrimaryAsks asks) kept = (table.PrimaryAsks asks, kept)
  kept_step new (plain.BackupAsks asks) kept = (table.BackupAsks asks, kept)
  kept_step new (plain.Counts zero two) kept = (table.Counts zero two, kept)
  kept_step new (plain.Counts (suc port) two) kept = (table.Counts (suc port) two, kept)
  kept_step new (plain.SeesCount zero two asks) kept = (table.SeesCount zero two asks, kept)
  kept_step new (plain.SeesCount (suc port) two asks) kept = (table.SeesCount (suc port) two asks, kept)

pub kept_steps : {S : Type 0} → KeptStepsAreThreads S
kept_steps M typed0 typed1 k (plain.Opens generation) kept = Opens generation
kept_steps M typed0 typed1 new (plain.Goes {k = k} run step) kept =
    let last = kept_step M typed0 typed1 k new step kept in
    Goes (kept_steps M typed0 typed1 k run last.1) last.0
