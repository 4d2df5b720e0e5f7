-- The instructions in Intel's assembly language (8080 User's Manual, chapter 4).
use Rattle.std.specs.Prelude.{ℕ, ◌/◌, nat_lt, if◌then◌else◌, List, [], ◌++◌, codes}
use Rattle.std.specs.Fmt.{decimal}
use Rattle.i8080_words.specs.declared.instruction.AccumulatorOperation.{AccumulatorOperation}
use Rattle.i8080_words.specs.declared.instruction.AccumulatorOperation.TheVariants as accumulator
use Rattle.i8080_words.specs.declared.instruction.AluOperation.{AluOperation}
use Rattle.i8080_words.specs.declared.instruction.AluOperation.TheVariants as alu
use Rattle.i8080_words.specs.declared.instruction.Condition.{Condition}
use Rattle.i8080_words.specs.declared.instruction.Condition.TheVariants as when
use Rattle.i8080_words.specs.declared.instruction.Op.{Op}
use Rattle.i8080_words.specs.declared.instruction.Op.TheVariants.{Hlt, Di, Ei, Mov, Mvi, Lxi, Stax, Ldax, Sta, Lda, Shld, Lhld, Xchg, Arithmetic, Immediate, Inr, Dcr, Inx, Dcx, Dad, Accumulator, Jmp, JumpIf, Call, CallIf, Ret, ReturnIf, Rst, Push, Pop, Xthl, Pchl, Sphl, In, Out}
use Rattle.i8080_words.specs.declared.instruction.Register.{Register}
use Rattle.i8080_words.specs.declared.instruction.Register.TheVariants as reg
use Rattle.i8080_words.specs.declared.instruction.RegisterPair.{RegisterPair}
use Rattle.i8080_words.specs.declared.instruction.RegisterPair.TheVariants as pair
use Rattle.i8080_words.specs.declared.instruction.StackPair.{StackPair}
use Rattle.i8080_words.specs.declared.instruction.StackPair.TheVariants as stack
use Rattle.pair_events.specs.Printed.{byte_text, ◌␣◌}
use Rattle.shell_language.specs.Shown.{address_text}

-- ---- operands

abbrev pub register_text : Register → List ℕ
register_text reg.B = codes "B"
register_text reg.C = codes "C"
register_text reg.D = codes "D"
register_text reg.E = codes "E"
register_text reg.H = codes "H"
register_text reg.L = codes "L"
register_text reg.M = codes "M"
register_text reg.A = codes "A"

-- a pair has the name of its first register
abbrev pub pair_text : RegisterPair → List ℕ
pair_text pair.BC = codes "B"
pair_text pair.DE = codes "D"
pair_text pair.HL = codes "H"
pair_text pair.SP = codes "SP"

abbrev pub stack_text : StackPair → List ℕ
stack_text stack.BC = codes "B"
stack_text stack.DE = codes "D"
stack_text stack.HL = codes "H"
stack_text stack.PSW = codes "PSW"

-- a number in hexadecimal ends with H; one that would begin with a letter has a 0 before it
abbrev pub lead : ℕ → List ℕ
lead first = if nat_lt first 10 then [] else codes "0"

abbrev pub byte_data : ℕ → List ℕ
byte_data byte = lead (byte / 16) ++ (byte_text byte ++ codes "H")

abbrev pub word_data : ℕ → List ℕ
word_data word = lead (word / 4096) ++ (address_text word ++ codes "H")

-- ---- words

abbrev pub condition_text : Condition → List ℕ
condition_text when.NZ = codes "NZ"
condition_text when.Z = codes "Z"
condition_text when.NC = codes "NC"
condition_text when.C = codes "C"
condition_text when.PO = codes "PO"
condition_text when.PE = codes "PE"
condition_text when.P = codes "P"
condition_text when.M = codes "M"

abbrev pub arithmetic_word : AluOperation → List ℕ
arithmetic_word alu.Add = codes "ADD"
arithmetic_word alu.Adc = codes "ADC"
arithmetic_word alu.Sub = codes "SUB"
arithmetic_word alu.Sbb = codes "SBB"
arithmetic_word alu.Ana = codes "ANA"
arithmetic_word alu.Xra = codes "XRA"
arithmetic_word alu.Ora = codes "ORA"
arithmetic_word alu.Cmp = codes "CMP"

abbrev pub immediate_word : AluOperation → List ℕ
immediate_word alu.Add = codes "ADI"
immediate_word alu.Adc = codes "ACI"
immediate_word alu.Sub = codes "SUI"
immediate_word alu.Sbb = codes "SBI"
immediate_word alu.Ana = codes "ANI"
immediate_word alu.Xra = codes "XRI"
immediate_word alu.Ora = codes "ORI"
immediate_word alu.Cmp = codes "CPI"

abbrev pub accumulator_word : AccumulatorOperation → List ℕ
accumulator_word accumulator.Rlc = codes "RLC"
accumulator_word accumulator.Rrc = codes "RRC"
accumulator_word accumulator.Ral = codes "RAL"
accumulator_word accumulator.Rar = codes "RAR"
accumulator_word accumulator.Daa = codes "DAA"
accumulator_word accumulator.Cma = codes "CMA"
accumulator_word accumulator.Stc = codes "STC"
accumulator_word accumulator.Cmc = codes "CMC"

-- ---- instructions

-- those without an operand that are not in the tables above
abbrev pub machine_word : Op → List ℕ
machine_word Xchg = codes "XCHG"
machine_word Xthl = codes "XTHL"
machine_word Sphl = codes "SPHL"
machine_word Ei = codes "EI"
machine_word Di = codes "DI"
machine_word Hlt = codes "HLT"
machine_word other = codes "NOP"

-- the stack, input and output, and the machine itself
abbrev pub machine_text : Op → List ℕ
machine_text (Push p) = codes "PUSH" ␣ stack_text p
machine_text (Pop p) = codes "POP" ␣ stack_text p
machine_text (In port) = codes "IN" ␣ byte_data port
machine_text (Out port) = codes "OUT" ␣ byte_data port
machine_text other = machine_word other

-- jumps, calls and returns
abbrev pub branch_text : Op → List ℕ
branch_text (Jmp a) = codes "JMP" ␣ word_data a
branch_text (JumpIf c a) = codes "J" ++ (condition_text c ␣ word_data a)
branch_text (Call a) = codes "CALL" ␣ word_data a
branch_text (CallIf c a) = codes "C" ++ (condition_text c ␣ word_data a)
branch_text Ret = codes "RET"
branch_text (ReturnIf c) = codes "R" ++ condition_text c
branch_text (Rst n) = codes "RST" ␣ decimal n
branch_text Pchl = codes "PCHL"
branch_text other = machine_text other

-- arithmetic and logic
abbrev pub arithmetic_text : Op → List ℕ
arithmetic_text (Arithmetic o s) = arithmetic_word o ␣ register_text s
arithmetic_text (Immediate o b) = immediate_word o ␣ byte_data b
arithmetic_text (Inr r) = codes "INR" ␣ register_text r
arithmetic_text (Dcr r) = codes "DCR" ␣ register_text r
arithmetic_text (Inx p) = codes "INX" ␣ pair_text p
arithmetic_text (Dcx p) = codes "DCX" ␣ pair_text p
arithmetic_text (Dad p) = codes "DAD" ␣ pair_text p
arithmetic_text (Accumulator o) = accumulator_word o
arithmetic_text other = branch_text other

-- moves between registers and memory, and all others
abbrev pub instruction_text : Op → List ℕ
instruction_text (Mov d s) = codes "MOV" ␣ (register_text d ++ (codes "," ++ register_text s))
instruction_text (Mvi d b) = codes "MVI" ␣ (register_text d ++ (codes "," ++ byte_data b))
instruction_text (Lxi p w) = codes "LXI" ␣ (pair_text p ++ (codes "," ++ word_data w))
instruction_text (Lda a) = codes "LDA" ␣ word_data a
instruction_text (Sta a) = codes "STA" ␣ word_data a
instruction_text (Lhld a) = codes "LHLD" ␣ word_data a
instruction_text (Shld a) = codes "SHLD" ␣ word_data a
instruction_text (Ldax p) = codes "LDAX" ␣ pair_text p
instruction_text (Stax p) = codes "STAX" ␣ pair_text p
instruction_text other = arithmetic_text other
