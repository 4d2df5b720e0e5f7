-- The generation begins as the script says, so its end is one of that script.
use Rattle.std.proofs.Common.{map}
use Rattle.command_live.proofs.Living.{has_ended, if_both, typed_so}
use Rattle.command_live.proofs.live.generation.Goals as goal

pub run_generation-requires-clause-unwritten : goal.run_generation-requires-clause-unwritten
run_generation-requires-clause-unwritten g c κs within = c.in_ok-workers.ensures.begins.unwritten

pub returns-clause-ended : goal.returns-clause-ended
returns-clause-ended g c =
    let input = c.args.input.now in
    let workers = c.in_ok-workers.workers in
    if_both c.run_generation.result _ _ _
    (λ end ends typed. has_ended input.script.setup input.sectors.items input.script.lines.items workers.primary.guest
    workers.backup.guest workers.disk workers.typed0.items workers.typed1.items end.winner end.primary.items end.backup.items
    end.held (map (λ v. v.items) end.accepted) end.disk end.primary_board.guest end.backup_board.guest
    c.in_ok-workers.ensures.begins
    (typed_so _ end.typed0.items end.typed1.items workers.typed0.items workers.typed1.items end.winner end.primary.items
    end.backup.items end.held (map (λ v. v.items) end.accepted) end.disk end.primary_board.guest end.backup_board.guest
    typed.0 typed.1 ends)) c.run_generation.ensures.ends c.run_generation.ensures.typed
