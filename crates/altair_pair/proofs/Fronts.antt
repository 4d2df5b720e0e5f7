-- If the accepted bytes are the first of an output, the rest after them is all that is missing.
use Rattle.std.proofs.Common.{◌≡◌, ℕ, ◌+◌, List, ◌++◌, length, IsTrue, leb, sym, ap, ◌∙◌, arith}
use Rattle.std.proofs.lemmas.Bool.{leb-true, le-leb}
use Rattle.std.proofs.lemmas.List.{append_cancel_left}
use Rattle.pair_protocol.specs.Faithful.{IsAllBut}

pub all_but_few : (window : ℕ) (accepted output rest : List ℕ) → output ≡ accepted ++ rest
    → IsTrue (leb (length rest) window) → IsAllBut window accepted output
all_but_few window accepted output rest all few = (rest, sym all, leb-true (length rest) window few)

pub rest_is_few : (window : ℕ) (accepted output rest : List ℕ) → output ≡ accepted ++ rest
    → IsAllBut window accepted output → IsTrue (leb (length rest) window)
rest_is_few window accepted output rest all (missing, is, few) =
    let longer : length rest ≡ length missing = ap length (append_cancel_left accepted rest missing (sym all ∙ sym is)) in
    le-leb (length rest) window (omega arith)
