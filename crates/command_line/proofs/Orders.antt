-- From what an option was given to the number that it says, and from what was found to what is asked for.
use Rattle.std.proofs.Common.{◌≡◌, ◌≢◌, ◌∙◌, ℕ, Bool, List, [], ◌∷◌, Option, Some, None, Result, Ok, Err, true, false, inl, inr, refl, sym, ap, codes, subst, unwrap_or}
use Rattle.std.specs.Prelude.{Box, IfOk}
use Rattle.std.specs.Box.{box_value}
use Rattle.std.specs.Option.{option_map, option_map_or}
use Rattle.std.specs.Str.Parse.{ParsesUnsigned}
use Rattle.clap.specs.Faults.{is_simple_and_free}
use Rattle.clap.specs.Kinds.{FailsBy, HasKind, IsAmong, Kinds}
use Rattle.clap.specs.Words.{HasMatchesOf, ReadsOne, Row, Text, app_of, fault_of, found_of, is_simple, kind_of, rows_of, subcommand_name_of, subcommand_of, subcommand_rows, subcommand_rows_of}
use Rattle.clap.specs.declared.builder.command.Command.{Command}
use Rattle.clap.specs.declared.error.Error.{Error}
use Rattle.clap.specs.declared.error.kind.ErrorKind.{ErrorKind}
use Rattle.clap.specs.declared.error.kind.ErrorKind.TheVariants as kind
use Rattle.clap.specs.declared.parser.matches.ArgMatches.{ArgMatches}
use Rattle.clap.specs.declared.parser.matches.ArgMatches.TheViews.{out-ArgMatches, out-SubCommand}
use Rattle.clap.specs.declared.parser.matches.SubCommand.{SubCommand}
use Rattle.command_io.specs.Statuses.{is_of_command_line}
use Rattle.command_io.specs.declared.failure.Failure.{Failure}
use Rattle.command_io.specs.declared.failure.Failure.TheVariants as failure
use Rattle.command_line.proofs.Table.{is_free-pair, is_simple-pair}
use Rattle.command_line.specs.Commands.{IsCommand, pair_app}
use Rattle.command_line.specs.Lists.{lists_hold}
use Rattle.command_line.specs.Orders.{Asks, AsksHelp, AskForNothing, HasFound, IsAsked, IsGiven, IsGivenOr, IsNumber, IsRefused, command_word, is_well_formed}
use Rattle.command_line.specs.declared.options.Request.{Request}

is_number : {E : Type 0} (bits : ℕ) (gives : List ℕ → Result ℕ E → Type 0) (text : List ℕ) (given : Option ℕ)
    → ReadsOne gives text given → ((t : List ℕ) (r : Result ℕ E) → gives t r → ParsesUnsigned bits 10 t r) → IsNumber bits text given
is_number bits gives text (Some number) read parses = (parses text (Ok number) read).1
is_number bits gives text None read parses = λ numeral. parses text (Err read.0) read.1 numeral

pub is_given : {E : Type 0} (bits : ℕ) (gives : List ℕ → Result ℕ E → Type 0) (text : Option (List ℕ)) (given : Option ℕ)
    → (text ≡ None → given ≡ None) → ((t : List ℕ) → text ≡ Some t → ReadsOne gives t given)
    → ((t : List ℕ) (r : Result ℕ E) → gives t r → ParsesUnsigned bits 10 t r) → IsGiven bits text given
is_given bits gives None given none some parses = none refl
is_given bits gives (Some text) given none some parses = is_number bits gives text given (some text refl) parses

-- a number that counts if none is given
pub given_or : (bits default : ℕ) (text : Option (List ℕ)) (given : Option ℕ) (number : ℕ) → IsGiven bits text given
    → number ≡ unwrap_or given default → IsGivenOr bits default text number
given_or bits default text given number is same = (given, (is, same))

-- ---- what is asked for

-- kinds of a fault are a fault
pub some_fault : (kinds : Kinds) (k : ErrorKind) → IsAmong k kinds → kinds ≢ []
some_fault [] k among = absurd among
some_fault (first ∷ kinds) k among = λ none. absurd (let e : first ∷ kinds ≡ [] = none in cc)

-- an error of clap other than for want of memory is a fault of the words
pub faulty : (words : List Text) (e : Error) → HasKind (fault_of pair_app words) e → kind_of e ≢ kind.OutOfMemory
    → AskForNothing words
faulty words e (inl is) other = absurd (other is)
faulty words e (inr among) other = inl (some_fault (fault_of pair_app words) (kind_of e) among)

pub refused_for : (words : List Text) (f : Failure) → is_of_command_line f ≡ true → AskForNothing words → IsRefused words f
refused_for words f is nothing = inr (is, nothing)

pub refused_for_memory : (words : List Text) (f : Failure) → f ≡ failure.OutOfMemory → IsRefused words f
refused_for_memory words f is = inl is

-- help is asked for, by its name and by clap
pub help_asked : (words : List Text) (word : Text) (e : Error) → HasKind (fault_of pair_app words) e → kind_of e ≡ kind.DisplayHelp
    → word ≡ command_word words → word ≡ codes "help"
    → (command_word words ≡ codes "help") × IsAmong kind.DisplayHelp (fault_of pair_app words)
help_asked words word e (inl memory) is named help =
    absurd (let k : kind_of e ≡ kind.OutOfMemory = memory in let d : kind_of e ≡ kind.DisplayHelp = is in cc)
help_asked words word e (inr among) is named help =
    (sym named ∙ help, subst (λ k. IsAmong k (fault_of pair_app words)) is among)

-- what is found, or help, is what is asked for
pub asked_if_found : (words : List Text) (r : Result Request Failure) → IfOk r (HasFound words) → IfOk r (IsAsked words)
asked_if_found words (Ok asked) h = inl h
asked_if_found words (Err refused) h = tt

pub asked_if_help : (words : List Text) (r : Result Request Failure) → IfOk r (AsksHelp words) → IfOk r (IsAsked words)
asked_if_help words (Ok asked) h = inr h
asked_if_help words (Err refused) h = tt

-- the subcommand that clap has met, with what was found after it
module _ {Z : Type 0} where
  pub entered : (met : Option (Box SubCommand Z)) (name : Text) (rows : List Row)
      → Some name ≡ option_map (λ b. (out-SubCommand (box_value b)).name.now) met
      → Some rows ≡ option_map (λ found. found.1) (subcommand_rows met) → subcommand_rows met ≡ Some (name, rows)
  entered None name rows named found = absurd (let e : Some name ≡ None = named in cc)
  entered (Some b) name rows named found =
      let n : Some name ≡ Some (out-SubCommand (box_value b)).name.now = named in
      let r : Some rows ≡ Some (rows_of (found_of (out-SubCommand (box_value b)).matches)) = found in cc

  pub not_entered : (met : Option (Box SubCommand Z)) → None ≡ option_map (λ b. (out-SubCommand (box_value b)).name.now) met
      → subcommand_rows met ≡ None
  not_entered None named = refl
  not_entered (Some b) named = absurd (let e : None ≡ Some (out-SubCommand (box_value b)).name.now = named in cc)

-- the table of the program is what clap reads
pub found_by : (c : Command) (words : List Text) (m : ArgMatches) → IsCommand pair_app c → HasMatchesOf (app_of c) words m
    → subcommand_rows_of m ≡ subcommand_of pair_app words
found_by c words m is h = (h (ap is_simple is.app_is ∙ is_simple-pair)).1 ∙ ap (λ a. subcommand_of a words) is.app_is

module _ (c : Command) (words : List Text) (is : IsCommand pair_app c) (r : Result ArgMatches Error)
    (fails : is_simple_and_free (app_of c) ≡ true → FailsBy (fault_of (app_of c) words) r) where
  by_table : FailsBy (fault_of pair_app words) r
  by_table = subst (λ a. FailsBy (fault_of a words) r) is.app_is (fails (ap is_simple_and_free is.app_is ∙ is_free-pair))

  pub faultless_by : (m : ArgMatches) → r ≡ Ok m → fault_of pair_app words ≡ []
  faultless_by m same = subst (FailsBy (fault_of pair_app words)) same by_table

  pub fault_by : (e : Error) → r ≡ Err e → HasKind (fault_of pair_app words) e
  fault_by e same = subst (FailsBy (fault_of pair_app words)) same by_table

-- what clap has found is what the words say
module _ (words : List Text) (m : ArgMatches) (found : subcommand_rows_of m ≡ subcommand_of pair_app words) where
  -- no command is found, or a list of its options does not hold what it may
  pub refused_without : (f : Failure) → None ≡ subcommand_name_of m → is_of_command_line f ≡ true → IsRefused words f
  refused_without f none is =
      let no = sym found ∙ not_entered (out-ArgMatches m).subcommand none in
      inr (is, inr (ap (λ o. option_map_or (λ p. lists_hold p.1) o false) no))

  module _ (name : Text) (rows : List Row) (named : Some name ≡ subcommand_name_of m)
      (after : Some rows ≡ option_map (λ p. p.1) (subcommand_rows (out-ArgMatches m).subcommand)) (hold : Bool)
      (tested : hold ≡ lists_hold rows) where
    is_found : subcommand_of pair_app words ≡ Some (name, rows)
    is_found = sym found ∙ entered (out-ArgMatches m).subcommand name rows named after

    well_formed : is_well_formed words ≡ hold
    well_formed = ap (λ o. option_map_or (λ p. lists_hold p.1) o false) is_found ∙ sym tested

    pub refused_by_list : (f : Failure) → hold ≡ false → is_of_command_line f ≡ true → IsRefused words f
    refused_by_list f bad is = inr (is, inr (well_formed ∙ bad))

    pub asked_by : (asked : Request) → fault_of pair_app words ≡ [] → hold ≡ true → Asks name rows asked → HasFound words asked
    asked_by asked faultless good asks = record {
      faultless = faultless;
      lists = well_formed ∙ good;
      name = name;
      rows = rows;
      found = is_found;
      asks = asks;
    }
