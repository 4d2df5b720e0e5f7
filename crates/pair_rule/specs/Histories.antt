-- The steps that led to what is known, one after another, each of a kind that the table allows. No machine is mentioned
-- here.
use Rattle.std.specs.Prelude.{◌≡◌, ℕ, ◌+◌, ◌<◌, [], length, None}
use Rattle.log_entry.specs.declared.entry.Entry.{Entry}
use Rattle.pair_protocol.specs.Lawful.{top}
use Rattle.pair_rule.specs.declared.mailbox.Mailbox.{Mailbox}
use Rattle.pair_rule.specs.declared.mailbox.Mailbox.TheVariants.{Answers}
use Rattle.pair_rule.specs.declared.payload.Payload.{Payload}
use Rattle.pair_rule.specs.declared.payload.Payload.TheVariants.{Answer}
use Rattle.pair_rule.specs.declared.view.Knowledge.{Knowledge}
use Rattle.pair_rule.specs.Boxes.{Who, Primary, Backup, filler, emptier}
use Rattle.pair_rule.specs.Knowledge.{CanFill, Fits, Replies, accepted_at, after_empty, after_fill, appended, backup_asked, byte_arrived, held, last_or, primary_asked, saw, saw_count, winner_of}

-- what is known at the start
abbrev pub first_known : ℕ → Knowledge
first_known g = record {
  generation = g;
  primary =
      record {
        list = [];
        seen = 0;
        winner = 0;
        counted0 = 0;
        counted1 = 0;
        released = [];
        asked = 0;
        answers = [];
        calls = [];
      };
  link = None;
  backup = record { list = []; held_values = []; winner = 0 };
  terminal = record { arrivals0 = []; arrivals1 = []; hand0 = None; hand1 = None };
  disk = record { taken = None; takes = 0; puts = []; given = [] };
}

-- a seat that has asked the arbiter makes no further step
abbrev pub AsksNot : Who → Knowledge → Type 0
AsksNot Primary k = k.primary.winner ≡ 0
AsksNot Backup k = k.backup.winner ≡ 0
AsksNot _ k = Unit {0}

-- a primary appends if it has not asked and its log is not full
pub record MayAppend (k : Knowledge) : Type 0 where
  pub asks_not : k.primary.winner ≡ 0
  pub few : length k.primary.list < top
  pub room : length k.primary.list < k.primary.seen + 256

-- a seat fills a box only before it has asked, and the disk only with an answer to the request that it took last
abbrev pub IsReply : Mailbox → Knowledge → Payload → Type 0
IsReply Answers k (Answer a) = Replies k.disk a
IsReply _ k _ = Unit {0}

pub record MayPut (b : Mailbox) (k : Knowledge) (q : Payload) : Type 0 where
  pub asks_not : AsksNot (filler b) k
  pub reply : IsReply b k q

-- a step of the table, from what all seats know to what they know then
pub data PlainStep (k : Knowledge) : Knowledge → Type 0 where
  Fills : (b : Mailbox) (q : Payload) → MayPut b k q → CanFill b k q → PlainStep k (after_fill b q k)
  Empties : (b : Mailbox) (q : Payload) → AsksNot (emptier b) k → Fits b k q → PlainStep k (after_empty b q k)
  Appends : (e : Entry) → MayAppend k → PlainStep k (appended e k)
  Sees : AsksNot Primary k → PlainStep k (saw (last_or 0 k.backup.held_values) k)
  Holds : AsksNot Backup k → PlainStep k (held k)
  PrimaryAsks : AsksNot Primary k → PlainStep k (primary_asked (winner_of k.primary.winner k.backup.winner) k)
  BackupAsks : AsksNot Backup k → PlainStep k (backup_asked (winner_of k.primary.winner k.backup.winner) k)
  Counts : (port : ℕ) → port < 2 → PlainStep k (byte_arrived port k)
  SeesCount : (port : ℕ) → port < 2 → AsksNot Primary k → PlainStep k (saw_count port (accepted_at port k) k)

-- what is known after such steps, from the start on
pub data PlainRun : Knowledge → Type 0 where
  Opens : (generation : ℕ) → PlainRun (first_known generation)
  Goes : {k new : Knowledge} → PlainRun k → PlainStep k new → PlainRun new
