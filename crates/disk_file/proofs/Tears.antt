-- A write of which only a first part is made is torn as the whole may be.
use Rattle.std.proofs.Common.{◌≡◌, ℕ, ◌+◌, ◌-◌, ◌≤◌, List, drop, sym, ◌∙◌, ap, subst, arith}
use Rattle.std.proofs.lemmas.List.{drop-drop}
use Rattle.disk_file.specs.Device.{Torn}

pub torn_less : (at m n : ℕ) (old new : List ℕ) → m ≤ n → Torn at m old new → Torn at n old new
torn_less at m n old new le torn =
    let k = n - m in
    let e : at + m + k ≡ at + n = omega (arith, le) in
    record {
      before = torn.before;
      after = subst (λ (i : ℕ). drop i new ≡ drop i old) e
          (sym (drop-drop k (at + m) new) ∙ ap (λ (l : List ℕ). drop k l) torn.after ∙ drop-drop k (at + m) old);
      no_shorter = torn.no_shorter;
      no_longer = omega (arith, le, torn.no_longer);
    }
