-- The lines of a screen, one after another.
use Rattle.std.proofs.Common.{◌≡◌, ℕ, ◌<◌, ◌≤◌, ◌∷◌, ◌++◌, ◌∙◌, [], List, Option, length, drop, refl, ap, sym, subst, append-nil, append_assoc}
use Rattle.std.specs.Prelude.{if◌then◌else◌, is_some, map, unwrap_or}
use Rattle.std.proofs.lemmas.Bool.{le-ltb, lt-ltb}
use Rattle.i8080_words.specs.declared.refusal.Fault.TheVariants.{Unknown}
use Rattle.script_language.specs.Text.{lines_of}
use Rattle.shell_language.specs.Texts.{AddsLine, Prints, Row, Text}
use Rattle.shell_language.specs.declared.printing.Printed.{Printed}
use Rattle.shell_language.proofs.Adding.{prints_none, prints_text, prints_then}
use Rattle.shell_picture.specs.Answers.{refused}
use Rattle.shell_picture.specs.Screens.{head_text, line_row, line_rows, screen_rows, screen_text}

-- some of the rows are printed, and these are left
pub record PrintsOn (all left : List Row) (old new : Printed) : Type 0 where
  pub done : List Row
  pub are : all ≡ done ++ left
  pub printed : Prints done old new

pub on_none : (all : List Row) (old : Printed) → PrintsOn all all old old
on_none all old = record { done = []; are = refl; printed = prints_none old }

pub on_line : (text rest after line : List ℕ) (old mid new : Printed) → PrintsOn (line_rows text) (line_rows rest) old mid
    → lines_of rest ≡ line ∷ lines_of after → AddsLine (screen_text line) mid new
    → PrintsOn (line_rows text) (line_rows after) old new
on_line text rest after line old mid new h is more = record {
  done = h.done ++ (line_row line ∷ []);
  are = h.are ∙ ap (λ (lines : List (List ℕ)). h.done ++ map line_row lines) is
      ∙ sym (append_assoc h.done (line_row line ∷ []) (line_rows after));
  printed = prints_then h.done (line_row line ∷ []) old mid new h.printed (prints_text (screen_text line) mid new more);
}

pub on_all : (all left : List Row) (old new : Printed) → PrintsOn all left old new → left ≡ [] → Prints all old new
on_all all left old new h none =
    subst (λ (rows : List Row). Prints rows old new) (sym (h.are ∙ ap (λ l. h.done ++ l) none ∙ append-nil h.done)) h.printed

-- a screen: its head, and its lines
pub screen_shown : (port : ℕ) (bytes shown : List ℕ) (seen : Option ℕ) (old mid new : Printed) → port < 2
    → shown ≡ drop (unwrap_or seen 0) bytes → AddsLine (head_text port (length shown) (is_some seen)) old mid
    → Prints (line_rows shown) mid new → Prints (screen_rows port bytes seen) old new
screen_shown port bytes shown seen old mid new less is head lines =
    subst (λ b. Prints (if b then Text (head_text port (length (drop (unwrap_or seen 0) bytes)) (is_some seen))
    ∷ line_rows (drop (unwrap_or seen 0) bytes) else refused Unknown ∷ []) old new) (sym (lt-ltb port 2 less))
    (subst (λ (s : List ℕ). Prints (Text (head_text port (length s) (is_some seen)) ∷ line_rows s) old new) is
    (prints_then (Text (head_text port (length shown) (is_some seen)) ∷ []) (line_rows shown) old mid new
    (prints_text (head_text port (length shown) (is_some seen)) old mid head) lines))

pub screen_refused : (port : ℕ) (bytes : List ℕ) (seen : Option ℕ) (old new : Printed) → 2 ≤ port
    → Prints (refused Unknown ∷ []) old new → Prints (screen_rows port bytes seen) old new
screen_refused port bytes seen old new more h =
    subst (λ b. Prints (if b then Text (head_text port (length (drop (unwrap_or seen 0) bytes)) (is_some seen))
    ∷ line_rows (drop (unwrap_or seen 0) bytes) else refused Unknown ∷ []) old new) (sym (le-ltb port 2 more)) h
