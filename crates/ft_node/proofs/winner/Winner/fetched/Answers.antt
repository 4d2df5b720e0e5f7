-- Its replayer keeps the bytes that it waits for.
use Rattle.std.proofs.Common.{ap, refl}
use Rattle.go_live.specs.declared.draining.Draining.{Draining as Code}
use Rattle.pair_protocol.specs.Node.{Draining}
use Rattle.ft_node.proofs.FetchedBytes.{fetched, when_ok, when_refused}
use Rattle.ft_node.proofs.winner.Winner.fetched.Goals as goal

pub returns-clause-answer : goal.returns-clause-answer
returns-clause-answer g c = λ x f.
    let M = g.B.Lockstep.machine in
    let state = g.B.Lockstep.state in
    let old = c.args.self.now.draining in
    let new = c.bytes.new.self in
    fetched M Draining c.args.self.now.reads x (state old.replayer.board) old.replayer.fetched old.receiver f
    (rw (f.role_is, f.up) refl) c.args.read.now (state new.replayer.board) new.replayer.fetched new.receiver
    c.bytes.result c.bytes.ensures.answer
    (when_ok c.bytes.result
    (λ kept. (
      ap (λ (d : Code g.row.B.Denot). state d.replayer.board) kept,
      ap (λ (d : Code g.row.B.Denot). d.receiver) kept,
      ap (λ (d : Code g.row.B.Denot). d.replayer.fetched) kept,
    ))
    c.bytes.ensures.kept)
    (when_refused c.bytes.result
    (λ same. (
      ap (λ (d : Code g.row.B.Denot). state d.replayer.board) same,
      ap (λ (d : Code g.row.B.Denot). d.receiver) same,
      ap (λ (d : Code g.row.B.Denot). d.replayer.fetched) same,
    ))
    c.bytes.ensures.unchanged)
