-- The digits come after what was added first.
use Rattle.std.proofs.Common.{◌≡◌, ◌++◌, ◌∙◌, OnOk, ap, append_assoc, codes, string_bytes, subst}
use Rattle.console_terminal.specs.Greeting.{digits_of}
use Rattle.console_terminal.proofs.welcome.push_byte.Goals as goal

pub returns : goal.returns
returns c =
    subst (λ l. OnOk c.push_digits.result (string_bytes c.push_digits.new.text ≡ l))
    (ap (λ l. l ++ digits_of c.args.byte) c.in_ok-push_str.ensures.bytes
    ∙ append_assoc (string_bytes c.args.text.now) (codes "the byte ") (digits_of c.args.byte))
    c.push_digits.ensures
