-- What held still holds after boxes are emptied.
use Rattle.std.proofs.Common.{◌+◌, [], ◌∷◌, ◌++◌, length, refl, Some}
use Rattle.pair_rule.proofs.Words.{Among, Answer, Answers, Bytes0, Bytes1, DiskAnswer, DiskRequest, Fits, Inbox, IsAsked, IsByteOf, IsEntryOf, Knowledge, Log, Mailbox, Operation, Out, Outbox, Packet, Payload, Request, Requests, Stands, after_empty, grown}
use Rattle.pair_rule.proofs.BoxSwaps.{Keeps}
use Rattle.pair_rule.proofs.Filled.{all_more}
use Rattle.pair_rule.proofs.ListsThatGrow.{grown_prefix, rising_higher, grown_length}

module _ (k : Knowledge) (s : Stands k) where
  link_has : (p : Packet) → IsEntryOf k.generation k.primary.list p → Keeps (λ k. record k { link = Some p }) k
  link_has p i = record {
    stands = record {
      log = record {
        prefix = s.log.prefix;
        in_link = i;
        rising = s.log.rising;
        behind = s.log.behind;
        once = s.log.once;
      };
      decided = s.decided;
      port0 = s.port0;
      port1 = s.port1;
      disk = s.disk;
    };
    words = refl;
    fits = λ b x f. f;
  }

  backup_has : (p : Packet) → IsEntryOf k.generation k.primary.list p
      → Keeps (λ k. record k { backup = grown k.backup p }) k
  backup_has p i = record {
    stands = record {
      log = record {
        prefix = grown_prefix k.primary.list k.backup.list p _ refl s.log.prefix i.1;
        in_link = s.log.in_link;
        rising = rising_higher 0 (length k.backup.list) _ k.backup.held_values (grown_length k.backup.list p _) s.log.rising;
        behind = s.log.behind;
        once = s.log.once;
      };
      decided = s.decided;
      port0 = s.port0;
      port1 = s.port1;
      disk = s.disk;
    };
    words = refl;
    fits = λ b x f. f;
  }

  hand0_has : (o : Operation) → IsByteOf 0 k.primary.released o
      → Keeps (λ k. record k { terminal = record k.terminal { hand0 = Some o } }) k
  hand0_has o i = record {
    stands = record {
      log = s.log;
      decided = s.decided;
      port0 = record { accepted = s.port0.accepted; in_hand = i; arrived = s.port0.arrived };
      port1 = s.port1;
      disk = s.disk;
    };
    words = refl;
    fits = λ b x f. f;
  }

  hand1_has : (o : Operation) → IsByteOf 1 k.primary.released o
      → Keeps (λ k. record k { terminal = record k.terminal { hand1 = Some o } }) k
  hand1_has o i = record {
    stands = record {
      log = s.log;
      decided = s.decided;
      port0 = s.port0;
      port1 = record { accepted = s.port1.accepted; in_hand = i; arrived = s.port1.arrived };
      disk = s.disk;
    };
    words = refl;
    fits = λ b x f. f;
  }

  taken_has : (r : DiskRequest) → IsAsked k.primary.released r
      → Keeps (λ k. record k { disk = record k.disk { taken = Some r; takes = k.disk.takes + 1 } }) k
  taken_has r i = record {
    stands = record {
      log = s.log;
      decided = s.decided;
      port0 = s.port0;
      port1 = s.port1;
      disk = record { taken = i; puts = s.disk.puts; answers = s.disk.answers; replies = s.disk.replies };
    };
    words = refl;
    fits = λ b x f. f;
  }

  answer_has : (a : DiskAnswer) → Among a k.disk.given
      → Keeps (λ k. record k { primary = record k.primary { answers = k.primary.answers ++ a ∷ [] } }) k
  answer_has a i = record {
    stands = record {
      log = s.log;
      decided = s.decided;
      port0 = s.port0;
      port1 = s.port1;
      disk = record {
        taken = s.disk.taken;
        puts = s.disk.puts;
        answers = all_more k.primary.answers a (λ a. Among a k.disk.given) s.disk.answers i;
        replies = s.disk.replies;
      };
    };
    words = refl;
    fits = λ b x f. f;
  }

  pub empty_keeps : (b : Mailbox) (q : Payload) → Fits b k q → Keeps (after_empty b q) k
  empty_keeps Outbox (Log p) f = link_has p f
  empty_keeps Inbox (Log p) f = backup_has p f
  empty_keeps Bytes0 (Out o) f = hand0_has o f
  empty_keeps Bytes1 (Out o) f = hand1_has o f
  empty_keeps Requests (Request r) f = taken_has r f
  empty_keeps Answers (Answer a) f = answer_has a f
  empty_keeps _ _ f = absurd f
