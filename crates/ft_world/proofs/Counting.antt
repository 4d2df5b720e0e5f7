-- The failures that answers tell of add up: one more event adds those of its answer.
use Rattle.std.proofs.Common.{◌≡◌, ◌<◌, ◌+◌, ◌∷◌, ◌++◌, ◌∙◌, [], List, ap, arith, get_or, length, sym, take, ℕ}
use Rattle.std.specs.Prelude.{Option, Result}
use Rattle.std.proofs.lemmas.List.{length-take-le, take_more}
use Rattle.shared_disk.proofs.Failures.{before-add}
use Rattle.ft_world.proofs.Words.{Event, Fault, Reply, before_failures, failures_over, failures_told}

one_more : (events : List Event) (answers : List (Result Reply Fault)) (e : Event) (answer : Result Reply Fault) →
    length answers ≡ length events →
    failures_over (events ++ e ∷ []) (answers ++ answer ∷ []) ≡ failures_over events answers + failures_told e answer
one_more [] [] e answer same = omega arith
one_more [] (r ∷ answers) e answer same = absurd (cc)
one_more (x ∷ events) [] e answer same = absurd (cc)
one_more (x ∷ events) (r ∷ answers) e answer same =
    let more : length answers ≡ length events = omega (arith, same) in
    omega (arith, one_more events answers e answer more)

-- the event at a place in a list is answered after those before it
pub counts_on : (events : List Event) (k : ℕ) (d : Event) (answers after : List (Result Reply Fault))
    (answer : Result Reply Fault) (start old new : Option ℕ) → k < length events → length answers ≡ k →
    after ≡ answers ++ answer ∷ [] → start ≡ before_failures (failures_over (take k events) answers) old →
    old ≡ before_failures (failures_told (get_or events k d) answer) new →
    start ≡ before_failures (failures_over (take (k + 1) events) after) new
counts_on events k d answers after answer start old new low many is so_far more =
    let short : length (take k events) ≡ k = length-take-le k events (omega (arith, low)) in
    let told : failures_over (take (k + 1) events) after
    ≡ failures_over (take k events) answers + failures_told (get_or events k d) answer =
    ap (λ es. failures_over es after) (take_more events k d low)
    ∙ ap (λ rs. failures_over (take k events ++ get_or events k d ∷ []) rs) is
    ∙ one_more (take k events) answers (get_or events k d) answer (many ∙ sym short) in
    so_far ∙ ap (before_failures (failures_over (take k events) answers)) more
    ∙ sym (before-add (failures_over (take k events) answers) (failures_told (get_or events k d) answer) new)
    ∙ ap (λ n. before_failures n new) (sym told)
