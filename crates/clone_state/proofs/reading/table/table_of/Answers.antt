-- Each number that is read takes the next place.
use Rattle.std.proofs.Common.{◌≡◌, ◌<◌, ℕ, ◌+◌, ◌-◌, List, length, take, Some, refl, sym, ap, ◌∙◌, arith}
use Rattle.std.proofs.lemmas.List.{length-set, take_all}
use Rattle.clone_state.specs.Codec.{number}
use Rattle.clone_state.proofs.Collecting.{collected, stopped, went_on, all_collected}
use Rattle.clone_state.proofs.TableReading.{next_taken, none_alone, number_reads, some_alone, table_starts}
use Rattle.clone_state.proofs.reading.table.table_of.Goals as goal

pub loop-sector-init : goal.loop-sector-init
loop-sector-init c = record { long = refl; read = table_starts c.args.payload.now }

pub returns-in_default : goal.returns-in_default
returns-in_default c =
    let i : ℕ = c.loop-sector.sector in
    sym (none_alone c.args.payload.now (c.loop-sector.invariant.read
    ∙ stopped number (take i c.loop-sector.numbers) 32 i c.loop-sector.rest.now c.loop-sector-test.true
    (number_reads c.loop-sector.rest.now ∙ sym c.in_default.ensures)))

pub loop-sector-preserved : goal.loop-sector-preserved
loop-sector-preserved c =
    let i : ℕ = c.loop-sector.sector in
    let long = c.loop-sector.invariant.long in
    let less = c.loop-sector-test.true in
    let inside : i < length c.loop-sector.numbers = omega arith in
    record {
      long = length-set c.loop-sector.numbers i c.in-Some.number ∙ long;
      read = c.loop-sector.invariant.read
          ∙ went_on number (take i c.loop-sector.numbers) 32 i c.loop-sector.rest.now c.in-Some.after.now c.in-Some.number
          less (number_reads c.loop-sector.rest.now ∙ sym c.in-Some.ensures)
          ∙ ap (λ (xs : List ℕ). collected number xs (32 - (i + 1)) c.in-Some.after.now)
          (sym (next_taken c.loop-sector.numbers i c.in-Some.number inside));
    }

pub returns-then-not-is_empty : goal.returns-then-not-is_empty
returns-then-not-is_empty c =
    let i : ℕ = c.loop-sector.sector in
    let past = c.loop-sector-test.false in
    let all : i ≡ 32 = omega arith in
    sym (some_alone c.args.payload.now (take i c.loop-sector.numbers) c.loop-sector.rest.now _
    (c.loop-sector.invariant.read
    ∙ all_collected number (take i c.loop-sector.numbers) 32 i c.loop-sector.rest.now all) c.if-not-is_empty.ensures)

pub returns : goal.returns
returns c =
    let i : ℕ = c.loop-sector.sector in
    let past = c.loop-sector-test.false in
    let long = c.loop-sector.invariant.long in
    let all : i ≡ 32 = omega arith in
    let whole : take i c.loop-sector.numbers ≡ c.loop-sector.numbers = take_all i c.loop-sector.numbers (omega arith) in
    ap (λ (xs : List ℕ). Some xs) (sym whole)
    ∙ sym (some_alone c.args.payload.now (take i c.loop-sector.numbers) c.loop-sector.rest.now _
    (c.loop-sector.invariant.read
    ∙ all_collected number (take i c.loop-sector.numbers) 32 i c.loop-sector.rest.now all) c.if-not-is_empty.ensures)
