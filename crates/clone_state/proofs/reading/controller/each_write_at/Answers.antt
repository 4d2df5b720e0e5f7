-- Each write that is read follows those before it.
use Rattle.std.proofs.Common.{◌≡◌, ◌+◌, ◌-◌, List, [], length, sym, ap, ◌∙◌, arith}
use Rattle.disk_dcdd.specs.declared.sector.SectorWrite.{SectorWrite}
use Rattle.clone_state.specs.FirstPart.{write}
use Rattle.clone_state.specs.Reading.{writes_in}
use Rattle.clone_state.specs.declared.reading.controller.Outstanding.{Outstanding}
use Rattle.clone_state.proofs.Collecting.{collected, none_collected, stopped, went_on, all_collected}
use Rattle.clone_state.proofs.OutstandingWrites.{writes_more}
use Rattle.clone_state.proofs.reading.controller.each_write_at.Goals as goal

pub loop-place-init : goal.loop-place-init
loop-place-init c =
    let count : c.args.count ≡ c.args.count - 0 = omega arith in
    record {
      read = none_collected write c.args.count c.args.bytes.now
          ∙ ap (λ n. collected write [] n c.args.bytes.now) count
          ∙ ap (λ (ws : List Outstanding). collected write (writes_in ws) (c.args.count - 0) c.args.bytes.now)
          (sym c.new-writes.ensures);
      long = ap (λ (ws : List Outstanding). length ws) c.new-writes.ensures;
    }

pub returns-in_default : goal.returns-in_default
returns-in_default c =
    sym (c.loop-place.invariant.read
    ∙ stopped write (writes_in c.loop-place.writes.items) c.args.count c.loop-place._place c.loop-place.rest.now
    c.loop-place-test.true (sym c.in_default.ensures))

pub loop-place-preserved : goal.loop-place-preserved
loop-place-preserved c =
    let ws : List SectorWrite = writes_in c.loop-place.writes.items in
    let long = c.loop-place.invariant.long in
    let one = c.push.ensures.len in
    record {
      read = c.loop-place.invariant.read
          ∙ went_on write ws c.args.count c.loop-place._place c.loop-place.rest.now c.in-Some.after.now c.in-Some.write
          c.loop-place-test.true (sym c.in-Some.ensures)
          ∙ ap (λ (xs : List SectorWrite). collected write xs (c.args.count - (c.loop-place._place + 1)) c.in-Some.after.now)
          (sym (ap writes_in c.push.ensures.items
          ∙ writes_more c.loop-place.writes.items (record { write = c.in-Some.write })));
      long = omega arith;
    }

pub returns : goal.returns
returns c =
    let past = c.loop-place-test.false in
    let all : c.loop-place._place ≡ c.args.count = omega arith in
    sym (c.loop-place.invariant.read
    ∙ all_collected write (writes_in c.loop-place.writes.items) c.args.count c.loop-place._place c.loop-place.rest.now all)
