-- The commands of a console, and how a line spells them.
use Rattle.std.specs.Prelude.{◌≡◌, ◌++◌, ℕ, ◌+◌, ◌*◌, ◌-◌, ◌==◌, ◌&&◌, ◌||◌, nat_le, nat_lt, Bool, true, not, if◌then◌else◌, List, [], ◌∷◌, take, drop, length, map, Option, None, Some, bytes_eq, codes}
use Rattle.std.specs.List.{position_or_len, prefix_len}
use Rattle.std.specs.Option.{option_and_then, option_map}
use Rattle.std.specs.Char.{to_ascii_lowercase}
use Rattle.console_terminal.specs.declared.command.Command.{Command}
use Rattle.console_terminal.specs.declared.command.Keyword.{Keyword}
use Rattle.console_terminal.specs.declared.command.Mistake.{Mistake}
use Rattle.console_terminal.specs.declared.command.Order.{Order}
use Rattle.console_terminal.specs.declared.port.Port.{Port}

abbrev pub number_of_port : Port → ℕ
number_of_port Port.Zero = 0
number_of_port Port.One = 1

-- ---- words

abbrev is_empty : List ℕ → Bool
is_empty word = length word == 0

-- how many spaces a line begins with
abbrev pub spaces_before : List ℕ → ℕ
spaces_before line = prefix_len (λ byte. byte == 32) line

-- how many bytes come before the first space
abbrev pub bytes_before_space : List ℕ → ℕ
bytes_before_space line = position_or_len (λ byte. byte == 32) line

abbrev without_spaces : List ℕ → List ℕ
without_spaces line = drop (spaces_before line) line

-- the next word of a line, which is empty if there is none, and what is after it
abbrev pub first_word : List ℕ → List ℕ
first_word line = take (bytes_before_space (without_spaces line)) (without_spaces line)

abbrev pub after_word : List ℕ → List ℕ
after_word line = drop (bytes_before_space (without_spaces line)) (without_spaces line)

-- ---- commands

-- each command's word
abbrev pub keywords : List (List ℕ × Keyword)
keywords =
    (codes "stop", Keyword.Stop) ∷ (codes "freeze", Keyword.Freeze) ∷ (codes "thaw", Keyword.Thaw)
    ∷ (codes "spare", Keyword.Spare) ∷ (codes "cut", Keyword.Cut) ∷ (codes "part", Keyword.Part)
    ∷ (codes "mend", Keyword.Mend) ∷ (codes "drop", Keyword.Drop) ∷ (codes "speed", Keyword.Speed) ∷ (codes "status", Keyword.Status)
    ∷ (codes "regs", Keyword.Regs) ∷ (codes "look", Keyword.Look) ∷ (codes "dis", Keyword.Dis)
    ∷ (codes "terminal", Keyword.Terminal) ∷ (codes "save", Keyword.Save) ∷ (codes "picture", Keyword.Picture)
    ∷ (codes "do", Keyword.Do) ∷ (codes "help", Keyword.Help) ∷ (codes "quit", Keyword.Quit) ∷ []

-- the two are the same but for the case of letters
abbrev pub is_same_word : List ℕ → List ℕ → Bool
is_same_word a b = bytes_eq (map to_ascii_lowercase a) (map to_ascii_lowercase b)

-- the keyword of the first of these rows that has the word
abbrev pub keyword_among : List (List ℕ × Keyword) → List ℕ → Option Keyword
keyword_among [] word = None
keyword_among (row ∷ rows) word =
    if is_same_word word row.0 then Some row.1 else keyword_among rows word

abbrev pub keyword_of : List ℕ → Option Keyword
keyword_of word = keyword_among keywords word

-- a decimal digit
abbrev pub digit_of : ℕ → Option ℕ
digit_of byte = if nat_le 48 byte && nat_le byte 57 then Some (byte - 48) else None

abbrev two_digits : Option ℕ → Option ℕ → Option ℕ
two_digits (Some tens) (Some units) = Some (tens * 10 + units)
two_digits _ _ = None

-- the number that one or two digits spell
abbrev pub number_of : List ℕ → Option ℕ
number_of (units ∷ []) = digit_of units
number_of (tens ∷ units ∷ []) = two_digits (digit_of tens) (digit_of units)
number_of _ = None

-- the number, 999,999,999 at most, that one digit more spells after those of a number
abbrev pub longer : ℕ → ℕ → Option ℕ
longer number byte =
    if nat_lt number 100000000 then option_map (λ (digit : ℕ). number * 10 + digit) (digit_of byte) else None

-- what these digits spell after those of a number
abbrev pub number_after : ℕ → List ℕ → Option ℕ
number_after number [] = Some number
number_after number (byte ∷ bytes) = option_and_then (λ (more : ℕ). number_after more bytes) (longer number byte)

-- the number, 999,999,999 at most, that one digit or more spell
abbrev pub long_number_of : List ℕ → Option ℕ
long_number_of word = if is_empty word then None else number_after 0 word

abbrev as_speed : ℕ → Option ℕ
as_speed number = if (number == 0) || nat_le 10000 number then Some number else None

-- a speed: 0, or a number from 10,000 on
abbrev pub speed_of : List ℕ → Option ℕ
speed_of word = option_and_then as_speed (long_number_of word)

-- the number of a port: 0 or 1
abbrev pub port_of : List ℕ → Option Port
port_of (digit ∷ []) = if digit == 48 then Some Port.Zero else (if digit == 49 then Some Port.One else None)
port_of _ = None

-- the number of a drive: 0 to 3
abbrev pub drive_of : List ℕ → Option ℕ
drive_of (digit ∷ []) = if nat_le 48 digit && nat_le digit 51 then Some (digit - 48) else None
drive_of _ = None

-- a hexadecimal digit, in either case
abbrev pub hexadecimal_of : ℕ → Option ℕ
hexadecimal_of byte =
    if nat_le 48 byte && nat_le byte 57 then Some (byte - 48)
    else if nat_le 65 byte && nat_le byte 70 then Some (byte - 55)
    else if nat_le 97 byte && nat_le byte 102 then Some (byte - 87)
    else None

abbrev placed : ℕ → Option ℕ → Option ℕ → Option ℕ
placed base (Some high) (Some low) = Some (high * base + low)
placed base _ _ = None

abbrev pub byte_of : ℕ → ℕ → Option ℕ
byte_of high low = placed 16 (hexadecimal_of high) (hexadecimal_of low)

-- the address that four hexadecimal digits spell
abbrev pub address_of : List ℕ → Option ℕ
address_of (first ∷ second ∷ third ∷ fourth ∷ []) = placed 256 (byte_of first second) (byte_of third fourth)
address_of _ = None

abbrev as_count : ℕ → ℕ → Option ℕ
as_count greatest count = if nat_le 1 count && nat_le count greatest then Some count else None

-- how many: the number that a word spells, or the usual one if there is no word
abbrev pub count_of : List ℕ → (usual greatest : ℕ) → Option ℕ
count_of word usual greatest =
    if is_empty word then Some usual else option_and_then (as_count greatest) (long_number_of word)

abbrev two : Option ℕ → Option ℕ → Option (ℕ × ℕ)
two (Some from) (Some count) = Some (from, count)
two _ _ = None

-- an address, and how many from there on
abbrev pub span_of : (value more : List ℕ) → (usual greatest : ℕ) → Option (ℕ × ℕ)
span_of value more usual greatest = two (address_of value) (count_of more usual greatest)

-- the command of a keyword with nothing after it
abbrev pub plain_command : Keyword → Option Command
plain_command Keyword.Spare = Some Command.Spare
plain_command Keyword.Cut = Some Command.Cut
plain_command Keyword.Part = Some Command.Part
plain_command Keyword.Mend = Some Command.Mend
plain_command Keyword.Status = Some Command.Status
plain_command Keyword.Regs = Some Command.Registers
plain_command Keyword.Help = Some Command.Help
plain_command Keyword.Quit = Some Command.Quit
plain_command _ = None

-- the command of a keyword other than of memory with the word after it
abbrev pub command_of : Keyword → List ℕ → Option Command
command_of Keyword.Stop value = option_map (λ (host : ℕ). Command.Stop host) (number_of value)
command_of Keyword.Freeze value = option_map (λ (host : ℕ). Command.Freeze host) (number_of value)
command_of Keyword.Thaw value = option_map (λ (host : ℕ). Command.Thaw host) (number_of value)
command_of Keyword.Drop value = option_map (λ (percent : ℕ). Command.Drop percent) (number_of value)
command_of Keyword.Speed value = option_map (λ (steps : ℕ). Command.Speed steps) (speed_of value)
command_of Keyword.Terminal value = option_map (λ port. Command.Terminal port) (port_of value)
command_of Keyword.Save value = option_map (λ (drive : ℕ). Command.Save drive) (drive_of value)
command_of Keyword.Picture value = if is_empty value then None else Some Command.Picture
command_of Keyword.Do value = if is_empty value then None else Some Command.Do
command_of keyword value = if is_empty value then plain_command keyword else None

-- the command of a keyword with the two words after it
abbrev pub command_by : Keyword → List ℕ → List ℕ → Option Command
command_by Keyword.Look value more = option_map (λ (r : ℕ × ℕ). Command.Memory r.0 r.1) (span_of value more 16 256)
command_by Keyword.Dis value more = option_map (λ (r : ℕ × ℕ). Command.Listing r.0 r.1) (span_of value more 8 64)
command_by keyword value more = command_of keyword value

-- a line of this keyword may have this word, or none, after the one that is its value, and this one, or none, after that: a file is named
-- there, or its name goes on, or how many bytes or instructions are shown, and nothing else
abbrev pub is_fit_end : Keyword → List ℕ → List ℕ → Bool
is_fit_end Keyword.Save more rest = not (is_empty more)
is_fit_end Keyword.Picture more rest = true
is_fit_end Keyword.Do more rest = true
is_fit_end Keyword.Look more rest = is_empty rest
is_fit_end Keyword.Dis more rest = is_empty rest
is_fit_end _ more rest = is_empty more

-- the file that a line of `picture` or `do` names: all that comes after its first word
abbrev pub rest_in : List ℕ → List ℕ
rest_in line = without_spaces (after_word line)

-- that of a line of `save`: all that comes after its second word
abbrev pub path_in : List ℕ → List ℕ
path_in line = without_spaces (after_word (after_word line))

-- a command, or what is wrong
abbrev judged : Keyword → Option Command → (more rest : List ℕ) → Order
judged keyword None more rest = Order.Mistake (Mistake.Unfit keyword)
judged keyword (Some command) more rest =
    if is_fit_end keyword more rest then Order.Command command else Order.Mistake (Mistake.Unfit keyword)

abbrev ordered : Option Keyword → List ℕ → Order
ordered None after = Order.Mistake Mistake.Unknown
ordered (Some keyword) after =
    judged keyword (command_by keyword (first_word after) (first_word (after_word after))) (first_word (after_word after))
    (first_word (after_word (after_word after)))

-- what a line asks for
abbrev pub order_of : List ℕ → Order
order_of line = if is_empty (first_word line) then Order.Nothing else ordered (keyword_of (first_word line)) (after_word line)

-- the commands that were given, if they are known, and then these
abbrev pub Grows : Option (List Command) → Option (List Command) → List Command → Type 0
Grows None now commands = Unit {0}
Grows (Some before) None commands = ⊥
Grows (Some before) (Some now) commands = now ≡ before ++ commands

-- what is said of a mistake
abbrev pub mistake_text : Mistake → List ℕ
mistake_text Mistake.Unknown = codes "no such command; `help` lists them"
mistake_text (Mistake.Unfit Keyword.Stop) = codes "`stop` is followed by the number of a host"
mistake_text (Mistake.Unfit Keyword.Freeze) = codes "`freeze` is followed by the number of a host"
mistake_text (Mistake.Unfit Keyword.Thaw) = codes "`thaw` is followed by the number of a host"
mistake_text (Mistake.Unfit Keyword.Drop) = codes "`drop` is followed by a number from 0 to 99"
mistake_text (Mistake.Unfit Keyword.Speed) = codes "`speed` is followed by 0, or by a number from 10000 to 999999999"
mistake_text (Mistake.Unfit Keyword.Look) =
    codes "`look` is followed by an address, four hexadecimal digits, and how many, 1 to 256"
mistake_text (Mistake.Unfit Keyword.Dis) =
    codes "`dis` is followed by an address, four hexadecimal digits, and how many, 1 to 64"
mistake_text (Mistake.Unfit Keyword.Terminal) = codes "`terminal` is followed by 0 or 1"
mistake_text (Mistake.Unfit Keyword.Save) = codes "`save` is followed by a drive, 0 to 3, and the name of a file"
mistake_text (Mistake.Unfit Keyword.Picture) = codes "`picture` is followed by the name of a file"
mistake_text (Mistake.Unfit Keyword.Do) = codes "`do` is followed by the name of a file"
mistake_text (Mistake.Unfit _) = codes "nothing comes after that word"
