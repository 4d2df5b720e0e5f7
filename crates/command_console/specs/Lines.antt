-- The lines that tell of a pair.
use Rattle.std.specs.Prelude.{ℕ, nat_lt, if◌then◌else◌, List, [], ◌++◌, codes}
use Rattle.std.specs.Fmt.{decimal}
use Rattle.command_console.specs.declared.line.PairLine.{PairLine}

-- this host has failed, and that one asks the arbiter
abbrev pub asks_text : ℕ → ℕ → List ℕ
asks_text failed host =
    codes "host " ++ (decimal failed ++ (codes " has failed, and host " ++ (decimal host ++ codes " asks to go on alone")))

-- the machine is copied to a host
abbrev pub copies_text : ℕ → List ℕ
copies_text host = codes "copying the machine to host " ++ decimal host

-- what is said of each generation but the first
abbrev pub whole_text : ℕ → List ℕ
whole_text generation = if nat_lt 1 generation then codes "; the pair is whole again" else []

-- two hosts have the machine
abbrev pub begins_text : ℕ → ℕ → ℕ → List ℕ
begins_text generation primary backup =
    codes "generation " ++ (decimal generation ++ (codes ": host " ++ (decimal primary ++ (codes " is the primary, host "
    ++ (decimal backup ++ (codes " its backup" ++ whole_text generation))))))

-- each line
abbrev pub line_text : PairLine → List ℕ
line_text (PairLine.Asks failed host) = asks_text failed host
line_text (PairLine.Won host) = codes "host " ++ (decimal host ++ codes " has won, and goes on alone")
line_text (PairLine.Copies host) = copies_text host
line_text (PairLine.Lost host) = codes "host " ++ (decimal host ++ codes " has failed before it had the machine")
line_text (PairLine.CutOff host) = codes "host " ++ (decimal host ++ codes " is cut off: it has sent what no host sends")
line_text (PairLine.Flooded host) = codes "host " ++ (decimal host ++ codes " is cut off: it has sent too much")
line_text (PairLine.Begins generation primary backup) = begins_text generation primary backup
line_text (PairLine.Alone host) = codes "no spare host is left; host "
    ++ (decimal host ++ codes " goes on without a backup until `spare` brings one")
line_text (PairLine.Unwritten host) = codes "a write of host "
    ++ (decimal host ++ codes " is not on its disk, whose file has failed; it is tried again")
