-- The commands of the program and their options, as clap reads them.
use Rattle.std.specs.Prelude.{◌≡◌, ℕ, List, [], ◌∷◌, ◌++◌, Some, true, false, codes}
use Rattle.clap.specs.Simple.{App, Shape, app_of, new_rule, new_shape, with_rule, with_subcommand}
use Rattle.clap.specs.Walk.{Rule, Text, rule_of}
use Rattle.clap.specs.declared.builder.action.ArgAction.TheVariants.{SetTrue}
use Rattle.clap.specs.declared.builder.arg.Arg.{Arg}
use Rattle.clap.specs.declared.builder.command.Command.{Command}
use Rattle.clap.specs.declared.builder.command.Command.TheViews.{out-Command}
use Rattle.clap.specs.declared.builder.value_parser.ValueParser.TheVariants as value

-- an option that is given any text; a list is one
abbrev pub text_option : Text → Rule
text_option name = record (new_rule name) { long = Some name; value_names = 1 }

-- one that is given a number, from the first of these to the second
abbrev pub number_option : Text → ℕ → ℕ → Rule
number_option name least most = record (text_option name) { parser = Some (value.Unsigned least most) }

-- the same option with what counts if it is not given
abbrev pub by_default : Text → Rule → Rule
by_default text option = record option { defaults = text ∷ [] }

-- one that is given nothing
abbrev pub flag_option : Text → Rule
flag_option name = record (new_rule name) { long = Some name; action = Some SetTrue }

-- the link and the drives of `live`
abbrev pub link_and_disks : List Rule
link_and_disks = text_option (codes "link") ∷ text_option (codes "images") ∷ text_option (codes "saved") ∷ []

-- the options of a command that runs a script
abbrev pub script_options : List Rule
script_options = text_option (codes "images") ∷ []

-- for how many turns a pair runs, when somebody asks, and whether what was accepted is printed as text
abbrev pub turn_options : List Rule
turn_options = by_default (codes "1000000") (number_option (codes "turns") 1 1000000000)
    ∷ number_option (codes "primary-asks") 0 1000000000
    ∷ number_option (codes "backup-asks") 0 1000000000
    ∷ flag_option (codes "text")
    ∷ []

-- the options of `live`
abbrev pub live_options : List Rule
live_options = turn_options ++ link_and_disks

-- the options of `host`
abbrev pub host_options : List Rule
host_options = by_default (codes "spare") (text_option (codes "role"))
    ∷ by_default (codes "1000") (number_option (codes "patience") 100 3600000)
    ∷ by_default (codes "0") (number_option (codes "before") 0 1099511627776)
    ∷ text_option (codes "images")
    ∷ []

-- where the hosts of `console` are, the key that opens a command line, how many bytes come before the first key, and for how many
-- seconds the machine may be silent after the last one
abbrev pub sitting_options : List Rule
sitting_options = by_default (codes ".") (text_option (codes "folder"))
    ∷ by_default (codes "3") (number_option (codes "places") 2 99)
    ∷ by_default (codes "5") (number_option (codes "escape") 0 255)
    ∷ by_default (codes "0") (number_option (codes "before") 0 1099511627776)
    ∷ by_default (codes "60") (number_option (codes "silence") 1 86400)
    ∷ []

-- the files of the drives of `console`, and whether their disks may be late
abbrev pub attach_options : List Rule
attach_options = text_option (codes "attach0")
    ∷ text_option (codes "attach1")
    ∷ text_option (codes "attach2")
    ∷ text_option (codes "attach3")
    ∷ flag_option (codes "unsynced")
    ∷ []

-- the options of `disk`
abbrev pub disk_options : List Rule
disk_options = text_option (codes "recover") ∷ []

-- the options of `console`
abbrev pub console_options : List Rule
console_options = sitting_options ++ attach_options
    ++ (text_option (codes "images") ∷ text_option (codes "saved") ∷ text_option (codes "mark") ∷ flag_option (codes "apart") ∷ [])

-- a command with these options
abbrev pub command : Text → List Rule → Shape
command name options = record (new_shape name) { rules = options }

-- the program, whose commands are yet to come: it tells its version, and one of its commands must be named
abbrev pub program_shape : Shape
program_shape = record (new_shape (codes "pair")) { has_version = true; subcommand_required = true }

-- the program with its commands
unfoldable pub pair_app : App
pair_app = record {
  top = record program_shape { is_leaf = false };
  subs = command (codes "script") script_options
      ∷ command (codes "check") script_options
      ∷ command (codes "picture") script_options
      ∷ command (codes "lint") []
      ∷ command (codes "shell") []
      ∷ command (codes "live") live_options
      ∷ command (codes "console") console_options
      ∷ command (codes "host") host_options
      ∷ command (codes "disk") disk_options
      ∷ [];
}

-- what building makes of options: clap reads an argument, and a command, by these rules alone, and none is for subcommands too
pub record IsOption (option : Rule) (arg : Arg) : Type 0 where
  pub rule : rule_of arg ≡ option
  pub local : arg.global ≡ false

pub record IsCommand (app : App) (command : Command) : Type 0 where
  pub app_is : app_of command ≡ app
  pub local : (out-Command command).has_globals ≡ false

-- a command alone, and one with further options, the last of them last
abbrev pub alone : Shape → App
alone shape = record { top = shape; subs = [] }

abbrev pub with_options : App → List Rule → App
with_options app [] = app
with_options app (option ∷ options) = with_options (with_rule app option) options

-- the same command, with further options
pub record Adds (options : List Rule) (old new : Command) : Type 0 where
  pub added : app_of new ≡ with_options (app_of old) options
  pub local : (out-Command old).has_globals ≡ false → (out-Command new).has_globals ≡ false

-- the same program, with the three commands that run scripts
pub record AddsScriptCommands (old new : Command) : Type 0 where
  pub added : app_of new ≡ with_subcommand (with_subcommand (with_subcommand (app_of old) (command (codes "script") script_options))
      (command (codes "check") script_options)) (command (codes "picture") script_options)
  pub local : (out-Command old).has_globals ≡ false → (out-Command new).has_globals ≡ false
