-- Bytes that are handed in, one after another, and then written.
use Rattle.std.proofs.Common.{◌≡◌, ℕ, Option, Some, None, List, [], ◌++◌, append-nil, sym, ap, ◌∙◌}
use Rattle.std.specs.Io.KnownBytes.{Appends, Keeps, append_known}
use Rattle.command_io.specs.Reports.{AddsLine}

-- nothing appended is no change
pub keeps-appends : (a b : Option (List ℕ)) → Keeps a b → Appends a b []
keeps-appends None b k = tt
keeps-appends (Some a) None k = absurd k
keeps-appends (Some a) (Some b) k = k ∙ sym (append-nil a)

-- if a report has no lines at first, and all that is handed in is then written, that is what the writer got
pub settled : (a b c : Option (List ℕ)) (first rest bytes : List ℕ) → first ≡ []
    → Appends (append_known a first) (append_known b rest) bytes → Appends b c rest → Appends a c bytes
settled None b c first rest bytes none p q = tt
settled (Some a) None c first rest bytes none p q = absurd p
settled (Some a) (Some b) None first rest bytes none p q = absurd q
settled (Some a) (Some b) (Some c) first rest bytes none p q =
    q ∙ p ∙ ap (λ l. l ++ bytes) (ap (λ l. a ++ l) none ∙ append-nil a)

pub settled_kept : (a b c : Option (List ℕ)) (first rest : List ℕ) → first ≡ []
    → Keeps (append_known a first) (append_known b rest) → Appends b c rest → Keeps a c
settled_kept None b c first rest none p q = tt
settled_kept (Some a) None c first rest none p q = absurd p
settled_kept (Some a) (Some b) None first rest none p q = absurd q
settled_kept (Some a) (Some b) (Some c) first rest none p q = q ∙ p ∙ ap (λ l. a ++ l) none ∙ append-nil a

pub settled_line : (a b c : Option (List ℕ)) (first rest : List ℕ) → first ≡ [] → Appends b c rest
    → (shown : Option (List ℕ)) → AddsLine shown (append_known a first) (append_known b rest) → AddsLine shown a c
settled_line a b c first rest none q shown one = record {
  line = one.line;
  is_shown = one.is_shown;
  added = settled a b c first rest one.line none one.added q;
}
