-- What a call returns if it is refused, is out of memory, or gives a value: each part may be said in other words, such
-- as of a station in place of its node.
use Rattle.std.proofs.Common.{◌≡◌, ◌∙◌, ℕ, List, Err, None, Ok, Option, Result, Some, ap, refl}
use Rattle.std.specs.Result.{IsErrAnd}
use Rattle.ft_world.proofs.Words.{Asking, Call, Fault, Node, SuspectsOf, Unless, Won, halts, wins}

-- the other words for a call
pub record Retells {A S : Type 0} (o : Option Fault) (needs also : Node S → Type 0) (does : A → Node S → Node S → Type 0)
    (x : Node S) (P Q : Node S → Type 0) : Type 0 where
  pub stays : P x → Q x
  pub needing : needs x → also x
  pub becomes : (v : A) (y : Node S) → o ≡ None → does v x y → P y → Q y

pub retold : {A S : Type 0} {o : Option Fault} {needs also : Node S → Type 0} {does : A → Node S → Node S → Type 0}
    {x : Node S} {P Q : Node S → Type 0} (r : Result A Fault) → Retells o needs also does x P Q
    → Call o needs does x r P → Call o also does x r Q
retold {A} {S} {o} {needs} {also} {does} {x} {P} {Q} r t d = go o r refl d
  where
    go : (k : Option Fault) (r : Result A Fault) → o ≡ k → Call k needs does x r P → Call k also does x r Q
    go None (Ok v) e m = record { y = m.y; done = m.done; after = t.becomes v m.y e m.done m.after }
    go None (Err fault) e d = (d.0, (t.needing d.1.0, t.stays d.1.1))
    go (Some fault) r e d = (d.0, t.stays d.1)

module _ {A S : Type 0} (o : Option Fault) (needs also : Node S → Type 0) (does : A → Node S → Node S → Type 0)
    (x : Node S) (P Q : Node S → Type 0) where
  -- a value is given
  pub given : (v : A) → ((y : Node S) → o ≡ None → does v x y → P y → Q y) → Call o needs does x (Ok v) P
      → Call o also does x (Ok v) Q
  given v becomes d = go o refl d
    where
      go : (k : Option Fault) → o ≡ k → Call k needs does x (Ok v) P → Call k also does x (Ok v) Q
      go None e m = record { y = m.y; done = m.done; after = becomes m.y e m.done m.after }
      go (Some fault) e d = let no = d.0 in (cc)

  -- it is refused or out of memory, and that is handed on
  pub handed_on : (r : Result A Fault) (fault : Fault) → IsErrAnd r (λ k. k ≡ fault) → (P x → Q x)
      → (needs x → also x) → Call o needs does x (Err fault) P → Call o also does x r Q
  handed_on r fault is stays needing d = go o r is d
    where
      go : (k : Option Fault) (r : Result A Fault) → IsErrAnd r (λ k. k ≡ fault) → Call k needs does x (Err fault) P
          → Call k also does x r Q
      go k (Ok v) is d = absurd is
      go None (Err k) is d = (is ∙ d.0, (needing d.1.0, stays d.1.1))
      go (Some m) (Err k) is d = (ap Err is ∙ d.0, stays d.1)

pub unless : {A : Type 0} (o : Option Fault) (r : Result A Fault) (P Q D E : Type 0) → (P → Q) → (D → E)
    → Unless o r P D → Unless o r Q E
unless None r P Q D E f g d = g d
unless (Some m) r P Q D E f g d = (d.0, f d.1)

-- what asking the arbiter does
pub asked : {S : Type 0} (w : Option ℕ) (old : List Asking) (n : ℕ) (x : Node S) (r : Result Won Fault)
    (new : List Asking) (P Q : Node S → Type 0) → (P x → Q x) → (P (wins x) → Q (wins x))
    → (P (halts x) → Q (halts x)) → SuspectsOf w old n x r new P → SuspectsOf w old n x r new Q
asked None old n x (Ok won) new P Q stays won_it halted d = (d.0, won_it d.1)
asked None old n x (Err fault) new P Q stays won_it halted d = (d.0, d.1, stays d.2)
asked (Some winner) old n x (Ok won) new P Q stays won_it halted d = (d.0, d.1, stays d.2)
asked (Some winner) old n x (Err fault) new P Q stays won_it halted d = (d.0, d.1, d.2, halted d.3)
