-- Where the last read of a log is, as entries are added.
use Rattle.std.proofs.Common.{◌≡◌, ℕ, suc, ◌+◌, Bool, true, false, cond, List, [], ◌∷◌, ◌++◌, length, refl, sym, ap, ◌∙◌, arith}
use Rattle.ft_node.proofs.Words.{Covering, Entry, is_read, reads_in, up_to_read, with_entry}

up_to_later : (read : Bool) (n : ℕ) → up_to_read read (suc n) ≡ suc (suc n)
up_to_later true n = refl
up_to_later false n = refl

-- a read is the last one after it came
pub reads_with : (l : List Entry) (e : Entry) → is_read e ≡ true → reads_in (l ++ e ∷ []) ≡ suc (length l)
reads_with [] e is = ap (λ b. up_to_read b 0) is
reads_with (first ∷ l) e is = ap (up_to_read (is_read first)) (reads_with l e is) ∙ up_to_later (is_read first) (length l)

-- any other entry leaves the last read where it was
pub reads_without : (l : List Entry) (e : Entry) → is_read e ≡ false → reads_in (l ++ e ∷ []) ≡ reads_in l
reads_without [] e is = ap (λ b. up_to_read b 0) is
reads_without (first ∷ l) e is = ap (up_to_read (is_read first)) (reads_without l e is)

-- what a coverage knows of the last read, after an entry
pub last_after : (c : Covering) (l : List Entry) (e : Entry) (index : ℕ) → c.last_read ≡ reads_in l → length l ≡ index
    → (with_entry c e index).last_read ≡ reads_in (l ++ e ∷ [])
last_after c l e index before at = go (is_read e) refl
  where
    go : (read : Bool) → is_read e ≡ read → (with_entry c e index).last_read ≡ reads_in (l ++ e ∷ [])
    go true is =
        let next : index + 1 ≡ suc (length l) = omega arith in
        ap (λ b. cond b (index + 1) c.last_read) is ∙ next ∙ sym (reads_with l e is)
    go false is = ap (λ b. cond b (index + 1) c.last_read) is ∙ before ∙ sym (reads_without l e is)
