-- The lines of `help` and of `help refusals`, one after another.
use Rattle.std.proofs.Common.{◌≡◌, ℕ, zero, suc, ◌+◌, ◌<◌, ◌≤◌, ◌∷◌, ◌++◌, ◌∙◌, [], List, take, length, get_or, refl, ap, sym, subst, arith}
use Rattle.std.specs.Prelude.{map}
use Rattle.std.specs.List.{flat_map}
use Rattle.std.proofs.lemmas.List.{length-map, take_all}
use Rattle.i8080_words.specs.declared.refusal.Fault.{Fault}
use Rattle.shell_language.specs.Forms.{Shape, shape_of, shapes}
use Rattle.shell_language.specs.Refusals.{refusals}
use Rattle.shell_language.specs.declared.form.Form.{Form}
use Rattle.shell_language.specs.Texts.{AddsLine, Prints, Row}
use Rattle.shell_language.specs.declared.printing.Printed.{Printed}
use Rattle.shell_language.proofs.Adding.{prints_text}
use Rattle.shell_picture.proofs.Telling.{tells_some_more}
use Rattle.shell_picture.specs.Answers.{help_row, help_rows, help_text, listed_text, refusal_row, refusal_rows}

abbrev form_row : Form → List Row
form_row form = help_row (shape_of form)

-- the rows of some forms of the program
rows_are : (all : List Form) (i : ℕ) → flat_map form_row (take i all) ≡ flat_map help_row (take i (map shape_of all))
rows_are [] zero = refl
rows_are [] (suc i) = refl
rows_are (form ∷ all) zero = refl
rows_are (form ∷ all) (suc i) = ap (λ (rows : List Row). help_row (shape_of form) ++ rows) (rows_are all i)

rows_of : (all : List Form) (i : ℕ) → map shape_of all ≡ shapes → flat_map form_row (take i all) ≡ flat_map help_row (take i shapes)
rows_of all i is = rows_are all i ∙ ap (λ (s : List Shape). flat_map help_row (take i s)) is

-- one form more
pub tells_form_more : (all : List Form) (i : ℕ) (d : Form) (old mid new : Printed) → map shape_of all ≡ shapes → i < length all
    → Prints (flat_map help_row (take i shapes)) old mid → AddsLine (help_text (shape_of (get_or all i d))) mid new
    → Prints (flat_map help_row (take (i + 1) shapes)) old new
tells_form_more all i d old mid new is less h more =
    subst (λ (rows : List Row). Prints rows old new) (rows_of all (i + 1) is)
    (tells_some_more form_row all i d old mid new less
    (subst (λ (rows : List Row). Prints rows old mid) (sym (rows_of all i is)) h)
    (prints_text (help_text (shape_of (get_or all i d))) mid new more))

-- all forms
pub tells_forms : (all : List Form) (i : ℕ) (old new : Printed) → map shape_of all ≡ shapes → length all ≤ i
    → Prints (flat_map help_row (take i shapes)) old new → Prints help_rows old new
tells_forms all i old new is past h =
    let long : length shapes ≡ length all = ap (λ (s : List Shape). length s) (sym is) ∙ length-map all shape_of in
    subst (λ (s : List Shape). Prints (flat_map help_row s) old new) (take_all i shapes (omega (arith, long, past))) h

-- one refusal more
pub tells_fault_more : (all : List Fault) (i : ℕ) (d : Fault) (old mid new : Printed) → all ≡ refusals → i < length all
    → Prints (flat_map refusal_row (take i refusals)) old mid → AddsLine (listed_text (get_or all i d)) mid new
    → Prints (flat_map refusal_row (take (i + 1) refusals)) old new
tells_fault_more all i d old mid new is less h more =
    subst (λ (l : List Fault). Prints (flat_map refusal_row (take (i + 1) l)) old new) is
    (tells_some_more refusal_row all i d old mid new less
    (subst (λ (l : List Fault). Prints (flat_map refusal_row (take i l)) old mid) (sym is) h)
    (prints_text (listed_text (get_or all i d)) mid new more))

-- all refusals
pub tells_refusals : (all : List Fault) (i : ℕ) (old new : Printed) → all ≡ refusals → length all ≤ i
    → Prints (flat_map refusal_row (take i refusals)) old new → Prints refusal_rows old new
tells_refusals all i old new is past h =
    let long : length refusals ≡ length all = ap (λ (l : List Fault). length l) (sym is) in
    subst (λ (l : List Fault). Prints (flat_map refusal_row l) old new) (take_all i refusals (omega (arith, long, past))) h
