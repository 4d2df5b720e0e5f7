-- What the disk's seat replies is what the rule of the table asks.
use Rattle.std.proofs.Common.{inl, inr, ap, sym, subst, ◌∙◌}
use Rattle.pair_rule.proofs.Words.{AsBefore, DiskAnswer, DiskView, IsReplied, LatestIs, OfPut, SectorRecord, latest, latest_is, put_by}
use Rattle.pair_rule.specs.declared.payload.DiskAnswer.TheVariants as answer
use Rattle.pair_rule.specs.Seats.{Replies}
use Rattle.pair_rule.proofs.Filled.{among_last}

pub can_reply : (d : DiskView) (a : DiskAnswer) → Replies d a → IsReplied (put_by d.taken d.puts) a
can_reply d (answer.Written n) (w, taken, is) =
    subst (λ t. IsReplied (put_by t d.puts) (answer.Written n)) (sym taken) (w, among_last w d.puts, sym is)
can_reply d (answer.Read r) (a, taken, at, last) =
    subst (λ t. IsReplied (put_by t d.puts) (answer.Read r)) (sym taken)
    (go (latest_is (record { number = 0; bytes = r.bytes }) d.puts a))
  where
    go : LatestIs (record { number = 0; bytes = r.bytes }) d.puts a (latest (record { number = 0; bytes = r.bytes }) d.puts a)
        → IsReplied d.puts (answer.Read r)
    go (AsBefore e) = inl (ap (λ (z : SectorRecord). z.number) (sym last ∙ e))
    go (OfPut v m there e) = inr (
      v,
      m,
      there ∙ at,
      ap (λ (z : SectorRecord). z.number) (sym e ∙ last),
      ap
          (λ (z : SectorRecord). z.bytes) (sym e ∙ last),
    )
