-- What holds at each exit from a replay, by the lemmas of `Runs`.
use Rattle.std.proofs.Common.{◌-◌, refl, sym, ap, ◌∙◌, arith}
use Rattle.std.specs.Option.{unwrap_or}
use Rattle.guest_lockstep.specs.declared.replay_end.ReplayEnd.TheVariants.{Turns}
use Rattle.log_channel.specs.Channel.{Receiving}
use Rattle.replayer.specs.Replaying.{NoMoves}
use Rattle.replayer.proofs.Runs.{goes_on, at_stop, refused, stopped, all_turns}
use Rattle.replayer.proofs.replay.run.Goals as goal

pub loop-moves-init : goal.loop-moves-init
loop-moves-init g c = record {
  replays = NoMoves;
  within = omega arith;
  held = refl;
  unchanged = λ none. (refl, refl, refl);
}

pub loop-moves-preserved : goal.loop-moves-preserved
loop-moves-preserved g c = record {
  replays =
      goes_on g.B.Lockstep.machine (g.B.Lockstep.state c.args.board.now) (g.B.Lockstep.state c.loop-moves.board)
      c.args.receiver.now.entries c.loop-moves.receiver.entries c.args.fetched.now c.loop-moves.fetched
      c.loop-moves.moves
      (g.B.Lockstep.state c.stretch.new.board) c.stretch.new.receiver.entries c.stretch.new.fetched c.in-Ok.made
      c.loop-moves.invariant.replays c.in-Ok.ensures.answers.2;
  within = let made = c.in-Ok.ensures.answers.1 in let within = c.loop-moves.invariant.within in omega arith;
  held =
      c.stretch.ensures.held
      ∙ ap (λ (r : Receiving). record r { entries = c.stretch.new.receiver.entries }) c.loop-moves.invariant.held;
  unchanged = λ none. absurd (let made = c.in-Ok.ensures.answers.0 in omega arith);
}

pub returns-in-Some-clause-answers : goal.returns-in-Some-clause-answers
returns-in-Some-clause-answers g c =
    at_stop g.B.Lockstep.machine (g.B.Lockstep.state c.args.board.now) (g.B.Lockstep.state c.loop-moves.board)
    c.args.receiver.now.entries c.loop-moves.receiver.entries c.args.fetched.now c.loop-moves.fetched c.args.turns
    c.loop-moves.moves c.in-Some.why c.loop-moves-test.true c.loop-moves.invariant.replays (sym c.in-Some.ensures)

pub returns-in-Err-clause-answers : goal.returns-in-Err-clause-answers
returns-in-Err-clause-answers g c =
    refused g.B.Lockstep.machine (g.B.Lockstep.state c.args.board.now) (g.B.Lockstep.state c.loop-moves.board)
    (g.B.Lockstep.state c.stretch.new.board) c.args.receiver.now.entries c.loop-moves.receiver.entries
    c.stretch.new.receiver.entries c.args.fetched.now c.loop-moves.fetched c.stretch.new.fetched c.args.turns
    (c.args.turns - c.loop-moves.moves) c.loop-moves.moves c.in-Err.fault c.loop-moves-test.true c.if-moves-eq0.true
    c.loop-moves.invariant.replays c.in-Err.ensures.answers

pub returns-in-Err-clause-unchanged : goal.returns-in-Err-clause-unchanged
returns-in-Err-clause-unchanged g c =
    let here = c.in-Err.ensures.unchanged in
    let before = c.loop-moves.invariant.unchanged c.if-moves-eq0.true in
    (here.0 ∙ before.0, here.1 ∙ before.1, here.2 ∙ before.2)

pub returns-in-Err-2-clause-answers : goal.returns-in-Err-2-clause-answers
returns-in-Err-2-clause-answers g c =
    let test = c.if-moves-eq0.false in
    rw c.why_after-why.ensures
    (stopped g.B.Lockstep.machine (g.B.Lockstep.state c.args.board.now) (g.B.Lockstep.state c.loop-moves.board)
    (g.B.Lockstep.state c.stretch.new.board) c.args.receiver.now.entries c.loop-moves.receiver.entries
    c.stretch.new.receiver.entries c.args.fetched.now c.loop-moves.fetched c.stretch.new.fetched c.args.turns
    (c.args.turns - c.loop-moves.moves) c.loop-moves.moves c.in-Err.fault c.loop-moves-test.true (omega arith)
    c.loop-moves.invariant.replays c.in-Err.ensures.answers)

pub returns-clause-answers : goal.returns-clause-answers
returns-clause-answers g c =
    let within = c.loop-moves.invariant.within in
    let test = c.loop-moves-test.false in
    all_turns g.B.Lockstep.machine (g.B.Lockstep.state c.args.board.now) (g.B.Lockstep.state c.loop-moves.board)
    c.args.receiver.now.entries c.loop-moves.receiver.entries c.args.fetched.now c.loop-moves.fetched c.args.turns
    c.loop-moves.moves c.unwrap_or-why.result (omega arith) c.loop-moves.invariant.replays
    (c.unwrap_or-why.ensures ∙ ap (λ stop. unwrap_or stop Turns) c.stop_at-2.ensures)
