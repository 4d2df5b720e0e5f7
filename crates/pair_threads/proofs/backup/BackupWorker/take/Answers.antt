-- A packet that arrives leaves what the guest has repeated as it was.
use Rattle.std.proofs.Common.{List, sym, subst}
use Rattle.log_entry.specs.declared.entry.Entry.{Entry}
use Rattle.pair_threads.specs.Repeating.{Repeats}
use Rattle.pair_threads.proofs.backup.BackupWorker.take.Goals as goal

pub returns-then-packet-len-clause-goes_on : goal.returns-then-packet-len-clause-goes_on
returns-then-packet-len-clause-goes_on g c = λ boot at.
    let guest = c.args.self.now.guest in
    c.hear.ensures.goes_on boot
    (subst (λ l. Repeats g.B.Lockstep.machine boot l guest.replayed (g.B.Lockstep.state guest.board)) (sym {A = List Entry} c.in_ok-reserve.ensures.items) at)
