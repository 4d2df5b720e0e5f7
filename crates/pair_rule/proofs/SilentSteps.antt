-- The steps that are not events leave the world as it is, and it shows what is known then.
use Rattle.std.proofs.Common.{◌≡◌, ℕ, zero, suc, List, [], ◌∷◌, ◌++◌, ◌⊎◌, inl, inr, sym, ap, ◌∙◌, subst}
use Rattle.pair_rule.proofs.Words.{Among, AnswersRead, CountsNone, DiskAnswer, HasWrite, SectorRead, SeesCount, Shows, SilentStepsShow, arrives, put_by, read_address}
use Rattle.pair_rule.specs.declared.payload.DiskAnswer.TheVariants as answer
use Rattle.pair_rule.proofs.ShownNodes.{among_either}

-- of the answers with one of a read more, those of writes are as before
no_write : (n : ℕ) (r : SectorRead) (given : List DiskAnswer) → Among (answer.Written n) (given ++ answer.Read r ∷ [])
    → Among (answer.Written n) given
no_write n r [] (inl e) = absurd (let c : answer.Written n ≡ answer.Read r = e in cc)
no_write n r [] (inr a) = a
no_write n r (x ∷ given) (inl e) = inl e
no_write n r (x ∷ given) (inr a) = inr (no_write n r given a)

pub silent_shows : {S : Type 0} → SilentStepsShow S
silent_shows M typed0 typed1 k new w z (SeesCount zero n more) = z
silent_shows M typed0 typed1 k new w z (AnswersRead a r is first) = record {
  moves = z.moves;
  s = z.s;
  recorded = z.recorded;
  entries_are = z.entries_are;
  count = z.count;
  nodes = z.nodes;
  sent = record {
    logs = z.sent.logs;
    acks = z.sent.acks;
    operations = z.sent.operations;
    writes = λ n at. z.sent.writes n (no_write n r k.disk.given at);
  };
  terminals = z.terminals;
  winners = z.winners;
  puts = z.puts ∙ ap (λ t. put_by t k.disk.puts) (sym is);
  issued = z.issued;
  done = λ n d. subst (λ t. HasWrite (put_by t k.disk.puts) n) (sym is) (z.done n d);
  first_reads = λ x at. more_reads x (among_either (answer.Read x) (answer.Read r) k.disk.given at);
  covered = z.covered;
  only = z.only;
}
  where
    read_in : SectorRead → DiskAnswer → SectorRead
    read_in d (answer.Read r) = r
    read_in d (answer.Written n) = d

    more_reads : (x : SectorRead) → Among (answer.Read x) k.disk.given ⊎ (answer.Read x ≡ answer.Read r) → x.number ≡ 0
        → x.bytes ≡ M.boot_sector (read_address x)
    more_reads x (inl at) none = z.first_reads x at none
    more_reads x (inr e) none = let same : x ≡ r = ap (read_in r) e in
        ap (λ (y : SectorRead). y.bytes) same ∙ first (ap (λ (y : SectorRead). y.number) (sym same) ∙ none) ∙ ap
        (λ (y : SectorRead). M.boot_sector (read_address y)) (sym same)
silent_shows M typed0 typed1 k new w z (CountsNone zero none) =
    subst (λ h. Shows M typed0 typed1 (record k { terminal = record k.terminal { arrivals0 = arrives h k.terminal.arrivals0 } })
    w) (sym none) z
silent_shows M typed0 typed1 k new w z (CountsNone (suc port) none) =
    subst (λ h. Shows M typed0 typed1 (record k { terminal = record k.terminal { arrivals1 = arrives h k.terminal.arrivals1 } })
    w) (sym none) z
silent_shows M typed0 typed1 k new w z _ = z
