-- The memory has as many bytes as its pages, and the parts say what the payloads do.
use Rattle.std.proofs.Common.{List, ℕ, length, ap, arith, ◌∙◌, take}
use Rattle.disk_dcdd.specs.declared.sector.SectorWrite.{SectorWrite}
use Rattle.clone_state.specs.Reading.{first_of, writes_in}
use Rattle.clone_state.specs.Slots.{bytes_in, numbers_in}
use Rattle.clone_state.proofs.Made.{all_after, memory_long}
use Rattle.clone_state.proofs.assembly.building.parts_of_board.Goals as goal

pub invariant_of-result : goal.invariant_of-result
invariant_of-result c =
    let long = memory_long 256 c.args.later.now c.requires.enough c.requires.full c.requires.pages in
    let same = ap (λ (xs : List ℕ). length xs) c.in_ok-memory.ensures.ok in
    record { whole = omega (arith, long, same) }

pub returns-clause-ok : goal.returns-clause-ok
returns-clause-ok c =
    ap (λ (xs : List ℕ). record {
      first = record (first_of c.args.first) { writes = c.in_ok-writes.writes.items };
      memory = xs;
      completed = c.in_ok-completed.completed.items;
    }) c.in_ok-memory.ensures.ok
    ∙ ap (λ (ws : List SectorWrite). record {
      first = record (first_of c.args.first) { writes = ws };
      memory = bytes_in (take 256 c.args.later.now);
      completed = c.in_ok-completed.completed.items;
    }) (c.in_ok-writes.ensures.ok ∙ ap writes_in c.deref.ensures.0)
    ∙ ap (λ (xs : List ℕ). record {
      first = first_of c.args.first;
      memory = bytes_in (take 256 c.args.later.now);
      completed = xs;
    }) (c.in_ok-completed.ensures.ok ∙ ap numbers_in (all_after 256 c.args.later.now))
