-- What passed between the devices and the user, in two parts.
use Rattle.std.proofs.Common.{ℕ, ◌≡◌, Bool, true, false, List, [], ◌∷◌, ◌++◌, append-nil, append_assoc, cond, refl, sym, ap, ◌∙◌, subst, eq-eqb}
use Rattle.std.specs.Prelude.{◌==◌}
use Rattle.outside_switch.proofs.Passing.{shown_both}
use Rattle.outside_switch.specs.Passing.{Passed, Shown, shown_at, typed_at}
use Rattle.console_terminal.proofs.Same.{same_start, same_start_on}
use Rattle.console_terminal.specs.Lines.{HasShown, IsSameStart, with_byte}
use Rattle.console_terminal.specs.declared.screen.Screen.{Screen}
use Rattle.outside_switch.specs.Ports.{typings}
use Rattle.outside_switch.specs.LoopRuns.{Shows}

-- ---- what was typed

-- at a port: all of it at that one, and none at another
pub typed_here : (port : ℕ) (keys : List ℕ) → typed_at port (typings port keys) ≡ keys
typed_here port [] = refl
typed_here port (key ∷ keys) =
    ap (λ b. cond b (key ∷ typed_at port (typings port keys)) (typed_at port (typings port keys))) (eq-eqb port port refl)
    ∙ ap (λ l. key ∷ l) (typed_here port keys)

pub typed_there : (port other : ℕ) (keys : List ℕ) → (port == other) ≡ false → typed_at other (typings port keys) ≡ []
typed_there port other [] differs = refl
typed_there port other (key ∷ keys) differs =
    ap (λ b. cond b (key ∷ typed_at other (typings port keys)) (typed_at other (typings port keys))) differs
    ∙ typed_there port other keys differs

none_shown : (port at : ℕ) (keys : List ℕ) → shown_at at (typings port keys) ≡ []
none_shown port at [] = refl
none_shown port at (key ∷ keys) = none_shown port at keys

-- ---- what was shown

pub shows_none : (a : Screen) → Shows [] a a
shows_none a = record {
  same = same_start a.ring;
  shown = λ at before has. subst (λ l. HasShown a at l) (sym (append-nil before)) has;
}

pub shows_both : (p q : List Passed) (a b c : Screen) → Shows p a b → Shows q b c → Shows (p ++ q) a c
shows_both p q a b c x y = record {
  same = same_start_on a.ring b.ring c.ring x.same y.same;
  shown = λ at before has. subst (λ l. HasShown c at l)
      (append_assoc before (shown_at at p) (shown_at at q) ∙ ap (λ l. before ++ l) (sym (shown_both at p q)))
      (y.shown at (before ++ shown_at at p) (x.shown at before has));
}

-- the screen was looked at
pub looked : (a b : Screen) → IsSameStart a.ring b.ring →
    ((at : ℕ) (bytes : List ℕ) → HasShown a at bytes → HasShown b at bytes) → Shows [] a b
looked a b same shown = record {
  same = same;
  shown = λ at before has. subst (λ l. HasShown b at l) (sym (append-nil before)) (shown at before has);
}

-- typing shows nothing
pub shows_typings : (port : ℕ) (keys : List ℕ) (a : Screen) → Shows (typings port keys) a a
shows_typings port keys a = record {
  same = same_start a.ring;
  shown = λ at before has.
      subst (λ l. HasShown a at l) (sym (ap (λ l. before ++ l) (none_shown port at keys) ∙ append-nil before)) has;
}

one_if : (b : Bool) (xs ys : List ℕ) → cond b (xs ++ ys) xs ≡ xs ++ cond b ys []
one_if true xs ys = refl
one_if false xs ys = sym (append-nil xs)

-- a byte of a port was shown
pub shows_byte : (port byte : ℕ) (a b : Screen) → IsSameStart a.ring b.ring →
    ((at : ℕ) (bytes : List ℕ) → HasShown a at bytes → HasShown b at (with_byte at port byte bytes)) →
    Shows (Shown port byte ∷ []) a b
shows_byte port byte a b same shown = record {
  same = same;
  shown = λ at before has.
      subst (λ l. HasShown b at l) (one_if (port == at) before (byte ∷ [])) (shown at before has);
}
