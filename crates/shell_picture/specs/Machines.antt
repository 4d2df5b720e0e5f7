-- What is printed of a machine: its registers, bytes of its memory.
use Rattle.std.specs.Prelude.{ℕ, zero, suc, ◌+◌, ◌/◌, Bool, true, false, List, [], ◌∷◌, ◌++◌, take, drop, length, codes}
use Rattle.std.specs.Fmt.{decimal}
use Rattle.i8080_words.specs.Arithmetic.{flag_byte, wrapped}
use Rattle.i8080_words.specs.declared.arithmetic.Flags.{Flags}
use Rattle.i8080_words.specs.declared.registers.Interrupts.{Interrupts}
use Rattle.i8080_words.specs.declared.registers.Interrupts.TheVariants.{Off, Soon, On}
use Rattle.i8080_words.specs.declared.registers.Processor.{Processor}
use Rattle.i8080_words.specs.declared.registers.Regs.{Regs}
use Rattle.pair_events.specs.Printed.{byte_text, bytes_text}
use Rattle.shell_language.specs.Texts.{Row, Text}
use Rattle.shell_language.specs.Shown.{address_text, shown_bytes}

-- `A HH F HH B HH C HH D HH E HH H HH L HH SP AAAA PC AAAA`; F is the flags as PUSH PSW has them
abbrev pub registers_text : Regs → List ℕ
registers_text r =
    codes "A " ++ (byte_text r.a ++ (codes " F " ++ (byte_text (flag_byte r.flags) ++ (codes " B " ++ (byte_text r.b
    ++ (codes " C " ++ (byte_text r.c ++ (codes " D " ++ (byte_text r.d ++ (codes " E " ++ (byte_text r.e ++ (codes " H "
    ++ (byte_text r.h ++ (codes " L " ++ (byte_text r.l ++ (codes " SP " ++ (address_text r.sp ++ (codes " PC "
    ++ address_text r.pc))))))))))))))))))

-- a flag that is set is its letter
abbrev pub letter_text : Bool → List ℕ → List ℕ
letter_text true letter = letter
letter_text false letter = codes "-"

-- sign, zero, auxiliary carry, parity and carry
abbrev pub flags_text : Flags → List ℕ
flags_text f =
    letter_text f.s (codes "S")
    ++ (letter_text f.z (codes "Z") ++ (letter_text f.ac (codes "A") ++ (letter_text f.p (codes "P") ++ letter_text f.cy (codes "C"))))

-- whether a request for an interrupt is accepted; `soon` is after the instruction that follows EI
abbrev pub interrupts_text : Interrupts → List ℕ
interrupts_text Off = codes "off"
interrupts_text Soon = codes "soon"
interrupts_text On = codes "on"

abbrev pub halt_text : Bool → List ℕ
halt_text true = codes "halted"
halt_text false = codes "running"

-- `flags SZAPC interrupts I H count C`
abbrev pub state_text : Processor → ℕ → List ℕ
state_text p count =
    codes "flags " ++ (flags_text p.regs.flags ++ (codes " interrupts " ++ (interrupts_text p.interrupts ++ (codes " "
    ++ (halt_text p.halted ++ (codes " count " ++ decimal count))))))

-- `regs N`
abbrev pub register_rows : Processor → ℕ → List Row
register_rows p count = Text (registers_text p.regs) ∷ Text (state_text p count) ∷ []

-- `AAAA HH ..  |TEXT|`: bytes of memory from an address on
abbrev pub memory_text : ℕ → List ℕ → List ℕ
memory_text address bytes =
    address_text address ++ (codes " " ++ (bytes_text bytes ++ (codes "  |" ++ (shown_bytes bytes ++ codes "|"))))

-- so many lines of sixteen bytes
abbrev pub lines_from : ℕ → ℕ → List ℕ → List Row
lines_from zero address bytes = []
lines_from (suc lines) address bytes =
    Text (memory_text address (take 16 bytes)) ∷ lines_from lines (wrapped (address + 16)) (drop 16 bytes)

-- how many lines bytes take
abbrev pub line_count : List ℕ → ℕ
line_count bytes = (length bytes + 15) / 16

-- `look N AAAA K`
abbrev pub memory_rows : ℕ → List ℕ → List Row
memory_rows from bytes = lines_from (line_count bytes) from bytes
