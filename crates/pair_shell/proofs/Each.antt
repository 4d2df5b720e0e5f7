-- What is said of an event, if there is one.
use Rattle.std.proofs.Common.{Option, Some, None, Result, Ok, Err}
use Rattle.std.specs.Option.{IsSome, IsSomeAnd}
use Rattle.std.specs.Prelude.{IfOk, IfSome}

pub each_some : {A : Type 0} (P Q : A → Type 0) (o : Option A) → ((a : A) → P a → Q a) → IfSome o P → IfSome o Q
each_some P Q None goes is = tt
each_some P Q (Some a) goes is = goes a is

pub each_ok : {A E : Type 0} (P Q : A → Type 0) (r : Result (Option A) E) → ((a : A) → P a → Q a) →
    IfOk r (λ o. IfSome o P) → IfOk r (λ o. IfSome o Q)
each_ok P Q (Ok o) goes is = each_some P Q o goes is
each_ok P Q (Err e) goes is = tt

pub when_ok : {A E : Type 0} (P Q : A → Type 0) (r : Result A E) → ((a : A) → P a → Q a) → IfOk r P → IfOk r Q
when_ok P Q (Ok a) goes is = goes a is
when_ok P Q (Err e) goes is = tt

pub each_three : {A : Type 0} (P Q R T : A → Type 0) (o : Option A) → ((a : A) → P a → Q a → R a → T a) → IfSome o P →
    IfSome o Q → IfSome o R → IfSome o T
each_three P Q R T None goes is so then = tt
each_three P Q R T (Some a) goes is so then = goes a is so then

pub any_ok : {A E : Type 0} (P : A → Type 0) (r : Result A E) → ((a : A) → P a) → IfOk r P
any_ok P (Ok a) all = all a
any_ok P (Err e) all = tt

pub some_and : {A : Type 0} (P : A → Type 0) (o : Option A) → IsSome o → IfSome o P → IsSomeAnd o P
some_and P None some is = absurd (let k = some in (cc))
some_and P (Some a) some is = is
