-- Its replayer keeps the bytes that it waits for.
use Rattle.std.proofs.Common.{ap, refl}
use Rattle.pair_protocol.specs.Node.{Backup}
use Rattle.replayer.specs.declared.replayer.Replayer.{Replayer}
use Rattle.ft_node.proofs.FetchedBytes.{fetched, when_ok, when_refused}
use Rattle.ft_node.proofs.backup.Backup.fetched.Goals as goal

pub returns-clause-answer : goal.returns-clause-answer
returns-clause-answer g c = λ x f.
    let M = g.B.Lockstep.machine in
    let state = g.B.Lockstep.state in
    let old = c.args.self.now.replayer in
    let new = c.bytes.new.self in
    let r = c.args.self.now.receiver in
    fetched M Backup c.args.self.now.reads x (state old.board) old.fetched r f (rw (f.role_is, f.up) refl)
    c.args.read.now (state new.board) new.fetched r c.bytes.result c.bytes.ensures.answer
    (when_ok c.bytes.result
    (λ kept. (
      ap (λ (d : Replayer g.row.B.Denot). state d.board) kept,
      refl,
      ap (λ (d : Replayer g.row.B.Denot). d.fetched) kept,
    ))
    c.bytes.ensures.kept)
    (when_refused c.bytes.result
    (λ same. (
      ap (λ (d : Replayer g.row.B.Denot). state d.board) same,
      refl,
      ap (λ (d : Replayer g.row.B.Denot). d.fetched) same,
    ))
    c.bytes.ensures.unchanged)
