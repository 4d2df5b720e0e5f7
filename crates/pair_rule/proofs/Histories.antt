-- What a seat may do is known to the seat itself.
use Rattle.std.proofs.Common.{◌≡◌, sym, ap, ◌∙◌, subst}
use Rattle.pair_rule.proofs.Words.{Answer, Answers, AsksNot, Backup, BackupView, DiskView, IsReply, Knowledge, Mailbox, MayAppend, MayPut, Payload, Primary, PrimaryView, Replies, SamePart, Who, filler}

pub asks_same : (s : Who) (k l : Knowledge) → SamePart s k l → AsksNot s k → AsksNot s l
asks_same Primary k l e none = ap (λ (p : PrimaryView). p.winner) (sym e) ∙ none
asks_same Backup k l e none = ap (λ (b : BackupView). b.winner) (sym e) ∙ none
asks_same _ k l e none = tt

reply_same : (b : Mailbox) (q : Payload) (k l : Knowledge) → SamePart (filler b) k l → IsReply b k q → IsReply b l q
reply_same Answers (Answer a) k l e r = subst (λ (d : DiskView). Replies d a) e r
reply_same _ _ k l e r = tt

pub may_put : (b : Mailbox) (q : Payload) (k l : Knowledge) → SamePart (filler b) k l → MayPut b k q → MayPut b l q
may_put b q k l e may = record {
  asks_not = asks_same (filler b) k l e may.asks_not;
  reply = reply_same b q k l e may.reply;
}

pub may_append : (k l : Knowledge) → k.primary ≡ l.primary → MayAppend k → MayAppend l
may_append k l e may = subst (λ p. MayAppend (record l { primary = p })) e record {
  asks_not = may.asks_not;
  few = may.few;
  room = may.room;
}
