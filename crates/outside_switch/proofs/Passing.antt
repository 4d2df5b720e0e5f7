-- What passes between the user and the terminals of the law: a byte that one accepts, and a key that is typed at one.
use Rattle.std.proofs.Common.{ℕ, ◌≡◌, ◌<◌, ◌≤◌, Bool, true, false, List, [], ◌∷◌, ◌++◌, append-nil, append_assoc, cond, eq-eqb, eqb-true, length, refl, suc, sym, ap, ◌∙◌, subst, zero}
use Rattle.std.specs.Prelude.{◌==◌, is_none, max, slice_set}
use Rattle.host_law.specs.Outside.{Outside, with_arrived, with_first, with_keys, with_typed}
use Rattle.outside_switch.specs.Steps.{asked}
use Rattle.pair_protocol.proofs.Promises.OneMore.{terminal-other, terminal-set}
use Rattle.pair_protocol.specs.World.{Terminal, accepted_after, accepted_in, terminal_in, winner_in}
use Rattle.outside_switch.specs.Passing.{Passed, Shown, Typed, shown_at, typed_at}
use Rattle.outside_switch.specs.Runs.{HasPassed}

-- ---- lists

if_more : (b : Bool) (x : ℕ) (xs ys : List ℕ) → cond b (x ∷ (xs ++ ys)) (xs ++ ys) ≡ cond b (x ∷ xs) xs ++ ys
if_more true x xs ys = refl
if_more false x xs ys = refl

pub shown_both : (at : ℕ) (p q : List Passed) → shown_at at (p ++ q) ≡ shown_at at p ++ shown_at at q
shown_both at [] q = refl
shown_both at (Shown port byte ∷ p) q =
    ap (λ l. cond (port == at) (byte ∷ l) l) (shown_both at p q)
    ∙ if_more (port == at) byte (shown_at at p) (shown_at at q)
shown_both at (Typed port byte ∷ p) q = shown_both at p q

pub typed_both : (at : ℕ) (p q : List Passed) → typed_at at (p ++ q) ≡ typed_at at p ++ typed_at at q
typed_both at [] q = refl
typed_both at (Shown port byte ∷ p) q = typed_both at p q
typed_both at (Typed port byte ∷ p) q =
    ap (λ l. cond (port == at) (byte ∷ l) l) (typed_both at p q)
    ∙ if_more (port == at) byte (typed_at at p) (typed_at at q)

-- ---- terminals

-- a list of one terminal has more, and those of all others stay
grows : (f : Terminal → List ℕ) (ts : List Terminal) (port q : ℕ) (t : Terminal) (xs : List ℕ) → port < length ts →
    f t ≡ f (terminal_in ts port) ++ xs →
    f (terminal_in (slice_set ts port t) q) ≡ f (terminal_in ts q) ++ cond (port == q) xs []
grows f ts port q t xs within more = go (port == q) refl
  where
    go : (b : Bool) → (port == q) ≡ b →
        f (terminal_in (slice_set ts port t) q) ≡ f (terminal_in ts q) ++ cond b xs []
    go true e = subst (λ k. f (terminal_in (slice_set ts port t) k) ≡ f (terminal_in ts k) ++ xs) (eqb-true port q e)
        (ap f (terminal-set ts port t within) ∙ more)
    go false e = ap f (terminal-other ts port q t (λ same. (let k = sym e ∙ eq-eqb port q (sym same) in absurd (cc))))
        ∙ sym (append-nil (f (terminal_in ts q)))

-- a list of a terminal stays
remains : (f : Terminal → List ℕ) (ts : List Terminal) (port q : ℕ) (t : Terminal) → f t ≡ f (terminal_in ts port) →
    f (terminal_in (slice_set ts port t) q) ≡ f (terminal_in ts q)
remains f [] port q t same = refl
remains f (y ∷ ts) zero zero t same = same
remains f (y ∷ ts) zero (suc q) t same = refl
remains f (y ∷ ts) (suc port) zero t same = refl
remains f (y ∷ ts) (suc port) (suc q) t same = remains f ts port q t same

abbrev accepted : Terminal → List ℕ
accepted t = accepted_after 0 t.arrivals

abbrev typed : Terminal → List ℕ
typed t = t.typed

-- ---- what passed

-- nothing
pub none_passed : (o p : Outside) → p.terminals ≡ o.terminals → HasPassed [] o p
none_passed o p same port = (
  ap (λ t. accepted_in t port) same ∙ sym (append-nil (accepted_in o.terminals port)),
  ap (λ t. (terminal_in t port).typed) same ∙ sym (append-nil (terminal_in o.terminals port).typed),
)

pub passed_both : (o p q : Outside) (xs ys : List Passed) → HasPassed xs o p → HasPassed ys p q → HasPassed (xs ++ ys) o q
passed_both o p q xs ys a b port = (
  (b port).0 ∙ ap (λ l. l ++ shown_at port ys) (a port).0
      ∙ append_assoc (accepted_in o.terminals port) (shown_at port xs) (shown_at port ys)
      ∙ ap (λ l. accepted_in o.terminals port ++ l) (sym (shown_both port xs ys)),
  (b port).1 ∙ ap (λ l. l ++ typed_at port ys) (a port).1
      ∙ append_assoc (terminal_in o.terminals port).typed (typed_at port xs) (typed_at port ys)
      ∙ ap (λ l. (terminal_in o.terminals port).typed ++ l) (sym (typed_both port xs ys)),
)

-- a key is typed
pub key_passed : (o : Outside) (port byte : ℕ) → port < length o.terminals →
    HasPassed (Typed port byte ∷ []) o (with_typed o port byte)
key_passed o port byte within q =
    let t : Terminal = record (terminal_in o.terminals port) { typed = (terminal_in o.terminals port).typed ++ byte ∷ [] } in (
      remains accepted o.terminals port q t refl ∙ sym (append-nil (accepted_in o.terminals q)),
      grows typed o.terminals port q t (byte ∷ []) within refl,
    )

-- a byte is accepted
pub byte_passed : (o : Outside) (port number byte : ℕ) → port < length o.terminals →
    accepted_in (with_arrived o port number byte).terminals port ≡ accepted_in o.terminals port ++ byte ∷ [] →
    HasPassed (Shown port byte ∷ []) o (with_arrived o port number byte)
byte_passed o port number byte within accepts q =
    let t : Terminal = record (terminal_in o.terminals port) {
      arrivals = (terminal_in o.terminals port).arrivals ++ record { number = number; byte = byte } ∷ [];
    } in (
      grows accepted o.terminals port q t (byte ∷ []) within
          (sym (ap accepted (terminal-set o.terminals port t within)) ∙ accepts),
      remains typed o.terminals port q t refl ∙ sym (append-nil (terminal_in o.terminals q).typed),
    )

-- keys are covered
pub told_passed : (o : Outside) (port keys : ℕ) → HasPassed [] o (with_keys o port keys)
told_passed o port keys q =
    let t : Terminal = record (terminal_in o.terminals port) { told = max (terminal_in o.terminals port).told keys } in (
      remains accepted o.terminals port q t refl ∙ sym (append-nil (accepted_in o.terminals q)),
      remains typed o.terminals port q t refl ∙ sym (append-nil (terminal_in o.terminals q).typed),
    )

-- a question to the arbiter leaves the terminals
pub asked_past : (o : Outside) (generation host : ℕ) → (asked o generation host).terminals ≡ o.terminals
asked_past o generation host = go (is_none (winner_in o.winners generation))
  where
    go : (b : Bool) → (cond b (with_first o generation host) o).terminals ≡ o.terminals
    go true = refl
    go false = refl
