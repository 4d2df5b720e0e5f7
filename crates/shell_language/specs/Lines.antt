-- The lines that only the shell has: the word that each begins with, the words that follow it, and what it says.
use Rattle.std.specs.Prelude.{ℕ, Bool, true, false, ◌==◌, if◌then◌else◌, List, [], ◌∷◌, length, take, drop, Option, Some, None, option_map, codes, bytes_eq}
use Rattle.std.specs.List.{position_or_len}
use Rattle.std.specs.Result.{result_ok}
use Rattle.disk_dcdd.specs.declared.address.SectorAddress.{SectorAddress}
use Rattle.script_language.specs.Words.{Reader, words_of, whole, ◌>>=◌}
use Rattle.script_language.specs.Grammar.{number, small, between, says}
use Rattle.shell_language.specs.declared.line.ShellLine.{ShellLine}
use Rattle.shell_language.specs.declared.line.ShellLine.TheVariants as shell
use Rattle.shell_language.specs.declared.own.OwnWord.{OwnWord}
use Rattle.shell_language.specs.declared.own.OwnWord.TheVariants as own
use Rattle.shell_language.specs.Looks.{look_of}
use Rattle.shell_language.specs.Quoting.{text_in}
use Rattle.shell_language.specs.Records.{record_of}

-- The words with which such lines begin.
abbrev pub own_words : List (List ℕ × OwnWord)
own_words =
    (codes "load", own.Load) ∷ (codes "send", own.Send) ∷ (codes "log", own.Log)
    ∷ (codes "sendpart", own.SendPart) ∷ (codes "part", own.Part) ∷ (codes "arrive", own.Arrive)
    ∷ (codes "type", own.Type) ∷ (codes "run", own.Run) ∷ (codes "rest", own.Rest) ∷ (codes "why", own.Why)
    ∷ (codes "screen", own.Screen) ∷ (codes "sector", own.Sector)
    ∷ (codes "regs", own.Registers) ∷ (codes "look", own.Memory) ∷ (codes "dis", own.Listing)
    ∷ (codes "last", own.Last) ∷ (codes "check", own.Check) ∷ (codes "picture", own.Picture) ∷ (codes "trace", own.Trace)
    ∷ (codes "help", own.Help) ∷ (codes "quit", own.Quit) ∷ []

-- the first of these rows that has the word
abbrev pub own_among : List (List ℕ × OwnWord) → List ℕ → Option OwnWord
own_among [] word = None
own_among (row ∷ rows) word = if bytes_eq word row.0 then Some row.1 else own_among rows word

-- what begins with a word
abbrev pub own_word_of : List ℕ → Option OwnWord
own_word_of word = own_among own_words word

-- `all`: the line says this
abbrev pub all : ShellLine → Reader ShellLine
all line [] = None
all line (word ∷ words) = if bytes_eq word (codes "all") then Some (line, words) else None

-- `on` or `off`
abbrev pub switch : Reader ShellLine
switch [] = None
switch (word ∷ words) =
    if bytes_eq word (codes "on") then Some (shell.Trace true, words)
    else (if bytes_eq word (codes "off") then Some (shell.Trace false, words) else None)

-- D T S: a sector
abbrev pub address : Reader SectorAddress
address = between 0 3 (λ drive. between 0 76 (λ track. between 0 31 (λ sector.
    says (record { drive = drive; track = track; sector = sector }))))

-- no more, or `loss P SEED`
abbrev pub run_by : ℕ → ℕ → Reader ShellLine
run_by node turns [] = Some (shell.Run (record { node = node; turns = turns; loss = None }), [])
run_by node turns (word ∷ words) =
    if bytes_eq word (codes "loss")
    then between 0 100 (λ percent. number (λ seed.
    says (shell.Run (record { node = node; turns = turns; loss = Some (record { percent = percent; seed = seed }) })))) words
    else None

-- no more, or `A B`: a stretch of events
abbrev pub pictured : Reader ShellLine
pictured [] = Some (shell.Picture None, [])
pictured (word ∷ words) = number (λ first. number (λ last.
    says (shell.Picture (Some (record { first = first; last = last }))))) (word ∷ words)

-- no more, or `new`
abbrev pub screen_by : ℕ → Reader ShellLine
screen_by port [] = Some (shell.Screen port false, [])
screen_by port (word ∷ words) = if bytes_eq word (codes "new") then Some (shell.Screen port true, words) else None

-- no more, or `refusals`
abbrev pub helped : Reader ShellLine
helped [] = Some (shell.Help, [])
helped (word ∷ words) = if bytes_eq word (codes "refusals") then Some (shell.Refusals, words) else None

-- The lines that show something, or are about the session: the words after the first, and what they say.
abbrev pub shown_of : OwnWord → Reader ShellLine
shown_of own.Screen = small (λ port. screen_by port)
shown_of own.Sector = λ words. address words >>= λ place. Some (shell.Sector place.0, place.1)
shown_of own.Rest = says shell.Rest
shown_of own.Why = says shell.Why
shown_of own.Last = says shell.Last
shown_of own.Check = says shell.Check
shown_of own.Picture = pictured
shown_of own.Trace = switch
shown_of own.Help = helped
shown_of own.Quit = says shell.Quit
shown_of other = look_of other

-- All lines that are words; `load` and `type` are none.
abbrev pub own_of : OwnWord → Reader ShellLine
own_of own.Send = number (λ node. all (shell.SendAll node))
own_of own.Log = number (λ node. all (shell.LogAll node))
own_of own.SendPart = number (λ node. all (shell.SendPartAll node))
own_of own.Part = number (λ node. all (shell.PartAll node))
own_of own.Arrive = all shell.ArriveAll
own_of own.Run = number (λ node. number (λ turns. run_by node turns))
own_of other = shown_of other

-- a record of Intel HEX
abbrev pub load_of : List ℕ → Option ShellLine
load_of line = option_map shell.Load (result_ok (record_of line))

-- the same after the word `load`
abbrev pub load_by : List (List ℕ) → Option ShellLine
load_by [] = None
load_by (line ∷ words) = if length words == 0 then load_of line else None

-- a quote
abbrev pub is_quote : ℕ → Bool
is_quote byte = byte == 34

-- P after the word `type`
abbrev pub port_in : List (List ℕ) → Option ℕ
port_in [] = None
port_in (first ∷ words) = whole (small (λ port. says port)) words

-- a quote, and the text that begins there
abbrev pub quoted_in : List ℕ → Option (List ℕ)
quoted_in [] = None
quoted_in (quote ∷ line) = text_in line

-- `type P "text"`: what is before the first quote are words
abbrev pub typed_in : List ℕ → Option ShellLine
typed_in line = do
  port ← port_in (words_of (take (position_or_len is_quote line) line))
  text ← quoted_in (drop (position_or_len is_quote line) line)
  Some (shell.TypeText port text)

-- a line that begins with such a word
abbrev pub own_by : OwnWord → List (List ℕ) → List ℕ → Option ShellLine
own_by own.Load words line = load_by words
own_by own.Type words line = typed_in line
own_by other words line = whole (own_of other) words

-- the same by all of its words
abbrev pub own_line : List (List ℕ) → List ℕ → Option ShellLine
own_line [] line = None
own_line (first ∷ words) line = own_word_of first >>= λ word. own_by word words line
