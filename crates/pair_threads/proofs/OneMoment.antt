-- What holds of the views of one moment.
use Rattle.std.proofs.Common.{◌≡◌, ℕ, ◌+◌, ◌≤◌, ◌==◌, Bool, true, false, cond, List, [], ◌∷◌, length, map, subst, arith}
use Rattle.pair_threads.proofs.Words.{AllAre, Among, Arrived, BackupView, Byte, DiskView, IsReplied, Knowledge, PrimaryView, Settled, Stands, StartsWith, TerminalView, Write, accepted_after, arrival_of, last_or}
use Rattle.pair_rule.specs.Knowledge.{accepted_after as how_many}
use Rattle.pair_rule.proofs.ListsThatGrow.{last_below}

-- the backup has the first entries, and all that the primary has seen; each terminal has accepted what is counted; what
-- came was released; and an answer of the disk that the primary has is of a write that came, or of a read
pub record StandsOf (p : PrimaryView) (b : BackupView) (t : TerminalView) (d : DiskView) : Type 0 where
  pub prefix : StartsWith p.list b.list
  pub seen : p.seen ≤ length b.list
  pub counted0 : p.counted0 ≤ length (accepted_after 0 (map arrival_of t.arrivals0))
  pub counted1 : p.counted1 ≤ length (accepted_after 0 (map arrival_of t.arrivals1))
  pub arrived0 : AllAre t.arrivals0 (λ a. Among (Byte 0 a.number a.byte) p.released)
  pub arrived1 : AllAre t.arrivals1 (λ a. Among (Byte 1 a.number a.byte) p.released)
  pub puts : AllAre d.puts (λ w. Among (Write w) p.released)
  pub answers : AllAre p.answers (λ a. Among a d.given)
  pub replies : AllAre d.given (IsReplied d.puts)

-- as many bytes are accepted as the count says
pub as_many : (n : ℕ) (xs : List Arrived) → length (accepted_after n (map arrival_of xs)) + n ≡ how_many n xs
as_many n [] = (let e : 0 + n ≡ n = omega arith in e)
as_many n (a ∷ xs) = go (a.number == n + 1) (as_many (n + 1) xs) (as_many n xs)
  where
    go : (b : Bool) → length (accepted_after (n + 1) (map arrival_of xs)) + (n + 1) ≡ how_many (n + 1) xs
        → length (accepted_after n (map arrival_of xs)) + n ≡ how_many n xs
        → length (cond b (a.byte ∷ accepted_after (n + 1) (map arrival_of xs)) (accepted_after n (map arrival_of xs))) + n
        ≡ cond b (how_many (n + 1) xs) (how_many n xs)
    go true next others = (let e = next in omega (arith, e))
    go false next others = others

counted : (count : ℕ) (xs : List Arrived) → count ≤ how_many 0 xs → count ≤ length (accepted_after 0 (map arrival_of xs))
counted count xs le = (let b = as_many 0 xs in omega (arith, b, le))

between : (seen held most : ℕ) → seen ≤ held → held ≤ most → seen ≤ most
between seen held most a b = omega (arith, a, b)

of_known : (k : Knowledge) → Stands k → StandsOf k.primary k.backup k.terminal k.disk
of_known k stands = record {
  prefix = stands.log.prefix;
  seen =
      between k.primary.seen (last_or 0 k.backup.held_values) (length k.backup.list) stands.log.behind
      (last_below 0 (length k.backup.list) k.backup.held_values stands.log.rising);
  counted0 = counted k.primary.counted0 k.terminal.arrivals0 stands.port0.accepted;
  counted1 = counted k.primary.counted1 k.terminal.arrivals1 stands.port1.accepted;
  arrived0 = stands.port0.arrived;
  arrived1 = stands.port1.arrived;
  puts = stands.disk.puts;
  answers = stands.disk.answers;
  replies = stands.disk.replies;
}

pub stands_of : (primary : PrimaryView) (backup : BackupView) (terminal : TerminalView) (disk : DiskView)
    (tail held winner : ℕ) → Settled primary backup terminal disk tail held winner → StandsOf primary backup terminal disk
stands_of primary backup terminal disk tail held winner z =
    subst (λ p. StandsOf p backup terminal disk) z.primary_is
    (subst (λ b. StandsOf z.known.primary b terminal disk) z.backup_is
    (subst (λ t. StandsOf z.known.primary z.known.backup t disk) z.terminal_is
    (subst (StandsOf z.known.primary z.known.backup z.known.terminal) z.disk_is (of_known z.known z.stands))))
