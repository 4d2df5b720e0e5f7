-- From one more option, or one more command, to the table of the program; clap knows what it finds for that table.
use Rattle.std.proofs.Common.{◌≡◌, ◌∙◌, List, [], ◌∷◌, ◌++◌, Option, true, false, ap, ap₂, codes, refl, sym}
use Rattle.std.specs.Borrow.{Bor}
use Rattle.clap.specs.Faults.{is_simple_and_free}
use Rattle.clap.specs.Simple.{App, is_simple, with_rule, with_subcommand}
use Rattle.clap.specs.Built.{AddsArg, AddsSubcommand}
use Rattle.clap.specs.Walk.{Rule, Text, rule_of}
use Rattle.clap.specs.declared.builder.arg.Arg.{Arg}
use Rattle.clap.specs.declared.builder.command.Command.{Command}
use Rattle.clap.specs.declared.builder.texts.Texts.TheVariants.{One}
use Rattle.command_line.specs.Commands.{Adds, AddsScriptCommands, IsCommand, IsOption, by_default, command, pair_app, script_options, with_options}

pub is_simple-pair : is_simple pair_app ≡ true
unfolding pair_app
is_simple-pair = refl

pub is_free-pair : is_simple_and_free pair_app ≡ true
unfolding pair_app
is_free-pair = refl

one_more_option : (app : App) (options : List Rule) (option : Rule)
    → with_options app (options ++ option ∷ []) ≡ with_rule (with_options app options) option
one_more_option app [] option = refl
one_more_option app (first ∷ options) option = one_more_option (with_rule app first) options option

-- no option is added, or one more
pub none_added : (old : Command) → Adds [] old old
none_added old = record { added = refl; local = λ local. local }

pub one_added : (options : List Rule) (option : Rule) (old between new : Command) (arg : Arg) → Adds options old between
    → IsOption option arg → AddsArg between arg new → Adds (options ++ option ∷ []) old new
one_added options option old between new arg before is adds = record {
  added = adds.shape is.local ∙ ap₂ with_rule before.added is.rule ∙ sym (one_more_option _ options option);
  local = λ local. adds.globals ∙ rw (before.local local, is.local) refl;
}

pub options_added : (app : App) (options : List Rule) (old new : Command) → IsCommand app old → Adds options old new
    → IsCommand (with_options app options) new
options_added app options old new is adds = record {
  app_is = adds.added ∙ ap (λ a. with_options a options) is.app_is;
  local = adds.local is.local;
}

pub option_added : (app : App) (option : Rule) (old new : Command) (arg : Arg) → IsCommand app old → IsOption option arg
    → AddsArg old arg new → IsCommand (with_rule app option) new
option_added app option old new arg is of adds = record {
  app_is = adds.shape of.local ∙ ap₂ with_rule is.app_is of.rule;
  local = adds.globals ∙ rw (is.local, of.local) refl;
}

pub command_added : (app below : App) (old sub new : Command) → IsCommand app old → IsCommand below sub
    → AddsSubcommand old sub new → IsCommand (with_subcommand app below.top) new
command_added app below old sub new is of adds = record {
  app_is = adds.shape of.local ∙ ap₂ with_subcommand is.app_is (ap (λ (a : App). a.top) of.app_is);
  local = adds.globals ∙ rw (is.local, of.local) refl;
}

-- the three commands that run scripts are added
pub scripts_added : (app : App) (old new : Command) → IsCommand app old → AddsScriptCommands old new
    → IsCommand (with_subcommand (with_subcommand (with_subcommand app (command (codes "script") script_options))
    (command (codes "check") script_options)) (command (codes "picture") script_options)) new
scripts_added app old new is adds = record {
  app_is = adds.added ∙ ap (λ a. with_subcommand (with_subcommand (with_subcommand a (command (codes "script") script_options))
      (command (codes "check") script_options)) (command (codes "picture") script_options)) is.app_is;
  local = adds.local is.local;
}

-- an option with its help, and one with what counts without it
pub helped : (option : Rule) (old new : Arg) (help : Option (Bor Text)) → new ≡ record old { help = help } → IsOption option old
    → IsOption option new
helped option old new help is of = record { rule = ap rule_of is ∙ of.rule; local = ap (λ (a : Arg). a.global) is ∙ of.local }

pub defaulted : (text : Bor Text) (option : Rule) (old new : Arg) → new ≡ record old { default_vals = One text } → IsOption option old
    → IsOption (by_default text.now option) new
defaulted text option old new is of = record {
  rule = ap rule_of is ∙ ap (by_default text.now) of.rule;
  local = ap (λ (a : Arg). a.global) is ∙ of.local;
}
