-- The line says which nodes may serve.
use Rattle.std.proofs.Common.{[], ◌∷◌, ap}
use Rattle.pair_shell.specs.declared.serving.ServingNodes.TheVariants as serving
use Rattle.shell_language.specs.Texts.{Text}
use Rattle.pair_shell.proofs.RestLines.{tells_text}
use Rattle.pair_shell.specs.Waits.{serving_text}
use Rattle.pair_shell.proofs.why.print_serving.Goals as goal

pub returns-in_ok-line-in-Nobody : goal.returns-in_ok-line-in-Nobody
returns-in_ok-line-in-Nobody c =
    tells_text (Text (serving_text c.args.serving) ∷ []) (serving_text serving.Nobody) c.args.printed.now
    c.line.new.self (ap (λ s. Text (serving_text s) ∷ []) c.in-Nobody.is) c.in_ok-line-in-Nobody.ensures.shown

pub returns-in_ok-line-in-Primary : goal.returns-in_ok-line-in-Primary
returns-in_ok-line-in-Primary c =
    tells_text (Text (serving_text c.args.serving) ∷ []) (serving_text (serving.Primary c.in-Primary.node)) c.args.printed.now
    c.line-in-Primary.new.self (ap (λ s. Text (serving_text s) ∷ []) c.in-Primary.is) c.in_ok-line-in-Primary.ensures.shown

pub returns-in_ok-line-in-Backup : goal.returns-in_ok-line-in-Backup
returns-in_ok-line-in-Backup c =
    tells_text (Text (serving_text c.args.serving) ∷ []) (serving_text (serving.Backup c.in-Backup.node)) c.args.printed.now
    c.line-in-Backup.new.self (ap (λ s. Text (serving_text s) ∷ []) c.in-Backup.is) c.in_ok-line-in-Backup.ensures.shown

pub returns-in_ok-line-in-Draining : goal.returns-in_ok-line-in-Draining
returns-in_ok-line-in-Draining c =
    tells_text (Text (serving_text c.args.serving) ∷ []) (serving_text (serving.Draining c.in-Draining.node)) c.args.printed.now
    c.line-in-Draining.new.self (ap (λ s. Text (serving_text s) ∷ []) c.in-Draining.is) c.in_ok-line-in-Draining.ensures.shown

pub returns-in_ok-line-in-Alone : goal.returns-in_ok-line-in-Alone
returns-in_ok-line-in-Alone c =
    tells_text (Text (serving_text c.args.serving) ∷ []) (serving_text (serving.Alone c.in-Alone.node)) c.args.printed.now
    c.line-in-Alone.new.self (ap (λ s. Text (serving_text s) ∷ []) c.in-Alone.is) c.in_ok-line-in-Alone.ensures.shown

pub returns-in_ok-line-in-Joining : goal.returns-in_ok-line-in-Joining
returns-in_ok-line-in-Joining c =
    tells_text (Text (serving_text c.args.serving) ∷ []) (serving_text (serving.Joining c.in-Joining.node c.in-Joining.host)) c.args.printed.now
    c.line-in-Joining.new.self (ap (λ s. Text (serving_text s) ∷ []) c.in-Joining.is) c.in_ok-line-in-Joining.ensures.shown

pub returns-in_ok-line-in-Pair : goal.returns-in_ok-line-in-Pair
returns-in_ok-line-in-Pair c =
    tells_text (Text (serving_text c.args.serving) ∷ []) (serving_text (serving.Pair c.in-Pair.node c.in-Pair.backup)) c.args.printed.now
    c.line-in-Pair.new.self (ap (λ s. Text (serving_text s) ∷ []) c.in-Pair.is) c.in_ok-line-in-Pair.ensures.shown
