-- Each swap at the boxes between primary and disk is counted in what the seat knows.
use Rattle.std.proofs.Common.{◌≡◌, ◌≢◌, ℕ, ◌+◌, ◌<◌, List, [], ◌∷◌, length, set, ap, ◌∙◌, arith, length-append}
use Rattle.pair_rule.proofs.Words.{Answer, Answers, Byte, Bytes0, Bytes1, CountedBy, Fits, Inbox, Knowledge, Log, Mailbox, Out, Outbox, Payload, Request, Requests, Side, after_empty, after_fill, box_index, new_side, set_else, set_here}
use Rattle.pair_rule.specs.Rules.{side_at}
use Rattle.pair_rule.proofs.Slots.{or_both, or_of}

here : (sides : List Side) (i : ℕ) (y : Side) → i < length sides → side_at (set sides i y) i ≡ y
here sides i y near = or_of (set sides i y) i new_side y (set_here sides i y near)

elsewhere : (sides : List Side) (i j : ℕ) (y : Side) → j ≢ i → side_at (set sides i y) j ≡ side_at sides j
elsewhere sides i j y other = or_both (set sides i y) sides j new_side (set_else sides i j y other)

module _ (fills empties : List Side) (k : Knowledge) (z : CountedBy fills empties k) where
  -- a side of another box
  fill_else : (i : ℕ) (y : Side) → 4 ≢ i → 5 ≢ i → CountedBy (set fills i y) empties k
  fill_else i y four five = record {
    asked_is = ap (λ (x : Side). x.number) (elsewhere fills i 4 y four) ∙ z.asked_is;
    taken = z.taken;
    given_is = ap (λ (x : Side). x.number) (elsewhere fills i 5 y five) ∙ z.given_is;
    came = z.came;
  }

  empty_else : (i : ℕ) (y : Side) → 4 ≢ i → 5 ≢ i → CountedBy fills (set empties i y) k
  empty_else i y four five = record {
    asked_is = z.asked_is;
    taken = (let e = ap (λ (x : Side). x.met) (elsewhere empties i 4 y four) in let a = z.taken in omega (arith, e, a));
    given_is = z.given_is;
    came = (let e = ap (λ (x : Side). x.met) (elsewhere empties i 5 y five) in let a = z.came in omega (arith, e, a));
  }

  -- a box is filled
  pub fill_counted : length fills ≡ 6 → (b : Mailbox) (q : Payload) (y : Side)
      → y.number ≡ (side_at fills (box_index b)).number + 1 → Fits b (after_fill b q k) q
      → CountedBy (set fills (box_index b) y) empties (after_fill b q k)
  fill_counted six Outbox q y more fit = fill_else 0 y (λ e. omega (arith, e)) (λ e. omega (arith, e))
  fill_counted six Inbox q y more fit = fill_else 1 y (λ e. omega (arith, e)) (λ e. omega (arith, e))
  fill_counted six Bytes0 (Out (Byte to number byte)) y more fit =
      fill_else 2 y (λ e. omega (arith, e)) (λ e. omega (arith, e))
  fill_counted six Bytes1 (Out (Byte to number byte)) y more fit =
      fill_else 3 y (λ e. omega (arith, e)) (λ e. omega (arith, e))
  fill_counted six Requests (Request r) y more fit = record {
    asked_is = (let h = ap (λ (x : Side). x.number) (here fills 4 y (omega (arith, six))) in let a = z.asked_is in
        omega (arith, h, a, more));
    taken = z.taken;
    given_is = ap (λ (x : Side). x.number) (elsewhere fills 4 5 y (λ e. omega (arith, e))) ∙ z.given_is;
    came = z.came;
  }
  fill_counted six Answers (Answer a) y more fit = record {
    asked_is = ap (λ (x : Side). x.number) (elsewhere fills 5 4 y (λ e. omega (arith, e))) ∙ z.asked_is;
    taken = z.taken;
    given_is = (let h = ap (λ (x : Side). x.number) (here fills 5 y (omega (arith, six))) in let g = z.given_is in
        let l = length-append k.disk.given (a ∷ []) in omega (arith, h, g, l, more));
    came = z.came;
  }
  fill_counted six _ _ y more fit = absurd fit

  -- a box is emptied of something new
  pub empty_counted : length empties ≡ 6 → (b : Mailbox) (q : Payload) (y : Side)
      → (side_at empties (box_index b)).met < y.met → Fits b k q
      → CountedBy fills (set empties (box_index b) y) (after_empty b q k)
  empty_counted six Outbox (Log p) y more fit = empty_else 0 y (λ e. omega (arith, e)) (λ e. omega (arith, e))
  empty_counted six Inbox (Log p) y more fit = empty_else 1 y (λ e. omega (arith, e)) (λ e. omega (arith, e))
  empty_counted six Bytes0 (Out o) y more fit = empty_else 2 y (λ e. omega (arith, e)) (λ e. omega (arith, e))
  empty_counted six Bytes1 (Out o) y more fit = empty_else 3 y (λ e. omega (arith, e)) (λ e. omega (arith, e))
  empty_counted six Requests (Request r) y more fit = record {
    asked_is = z.asked_is;
    taken = (let e = ap (λ (x : Side). x.met) (here empties 4 y (omega (arith, six))) in let a = z.taken in
        omega (arith, e, a, more));
    given_is = z.given_is;
    came = (let e = ap (λ (x : Side). x.met) (elsewhere empties 4 5 y (λ e. omega (arith, e))) in let a = z.came in
        omega (arith, e, a));
  }
  empty_counted six Answers (Answer a) y more fit = record {
    asked_is = z.asked_is;
    taken = (let e = ap (λ (x : Side). x.met) (elsewhere empties 5 4 y (λ e. omega (arith, e))) in let t = z.taken in
        omega (arith, e, t));
    given_is = z.given_is;
    came = (let e = ap (λ (x : Side). x.met) (here empties 5 y (omega (arith, six))) in let t = z.came in
        let l = length-append k.primary.answers (a ∷ []) in omega (arith, e, t, l, more));
  }
  empty_counted six _ _ y more fit = absurd fit

  -- a box is found empty
  pub found_counted : length empties ≡ 6 → (b : Mailbox) (y : Side) → y.met ≡ (side_at empties (box_index b)).met
      → CountedBy fills (set empties (box_index b) y) k
  found_counted six Requests y same = record {
    asked_is = z.asked_is;
    taken = (let e = ap (λ (x : Side). x.met) (here empties 4 y (omega (arith, six))) in let a = z.taken in
        omega (arith, e, a, same));
    given_is = z.given_is;
    came = (let e = ap (λ (x : Side). x.met) (elsewhere empties 4 5 y (λ e. omega (arith, e))) in let a = z.came in
        omega (arith, e, a));
  }
  found_counted six Answers y same = record {
    asked_is = z.asked_is;
    taken = (let e = ap (λ (x : Side). x.met) (elsewhere empties 5 4 y (λ e. omega (arith, e))) in let a = z.taken in
        omega (arith, e, a));
    given_is = z.given_is;
    came = (let e = ap (λ (x : Side). x.met) (here empties 5 y (omega (arith, six))) in let a = z.came in
        omega (arith, e, a, same));
  }
  found_counted six b y same = empty_else (box_index b) y (λ e. omega (arith, e)) (λ e. omega (arith, e))
