-- What the executor returns for an instruction, in the words of the opcode table.
use Rattle.std.specs.Prelude.{ℕ, Bool, true, false, List, [], ◌∷◌, slice_index, slice_set}
use Rattle.i8080_words.specs.Effects as table
use Rattle.i8080_words.specs.declared.instruction.Op.{Op}
use Rattle.i8080_words.specs.declared.instruction.Op.TheVariants.{Nop, Hlt, Di, Ei, Mov, Mvi, Lxi, Stax, Ldax, Sta, Lda, Shld, Lhld, Xchg, Jmp, JumpIf, Call, CallIf, Ret, ReturnIf, Rst, Push, Pop, Xthl, Pchl, Sphl, In, Out}
use Rattle.plain_single.specs.declared.executor.Outcome.{Outcome}
use Rattle.plain_single.specs.declared.executor.Stores.{Stores}
use Rattle.plain_single.specs.declared.executor.Stores.TheVariants.{Nothing, Byte, Bytes}

-- the byte at an address
abbrev pub byte_at : List ℕ → ℕ → ℕ
byte_at bytes address = slice_index bytes address

-- the accesses that make these stores
abbrev pub accesses_of : Stores → List table.Access
accesses_of Nothing = []
accesses_of (Byte at byte) = table.Access.Write at byte ∷ []
accesses_of (Bytes at byte next_at next) = table.Access.Write at byte ∷ table.Access.Write next_at next ∷ []

-- the bytes of memory after them
abbrev pub stored : Stores → List ℕ → List ℕ
stored Nothing bytes = bytes
stored (Byte at byte) bytes = slice_set bytes at byte
stored (Bytes at byte next_at next) bytes = slice_set (slice_set bytes at byte) next_at next

-- an outcome as an effect of the table
abbrev pub outcome_of : Outcome → table.Effect
outcome_of x = record { regs = x.regs; accesses = accesses_of x.stores }

-- the instruction is IN or OUT
abbrev pub is_at_port : Op → Bool
is_at_port (In number) = true
is_at_port (Out number) = true
is_at_port _ = false

-- the instruction moves bytes among registers, or does nothing to them
abbrev pub is_among_registers : Op → Bool
is_among_registers Nop = true
is_among_registers Hlt = true
is_among_registers Di = true
is_among_registers Ei = true
is_among_registers (Mov to from) = true
is_among_registers (Mvi to byte) = true
is_among_registers (Lxi p word) = true
is_among_registers Xchg = true
is_among_registers Pchl = true
is_among_registers Sphl = true
is_among_registers _ = false

-- it loads or stores, also on the stack
abbrev pub is_load_or_store : Op → Bool
is_load_or_store (Stax p) = true
is_load_or_store (Ldax p) = true
is_load_or_store (Sta address) = true
is_load_or_store (Lda address) = true
is_load_or_store (Shld address) = true
is_load_or_store (Lhld address) = true
is_load_or_store (Push p) = true
is_load_or_store (Pop p) = true
is_load_or_store Xthl = true
is_load_or_store _ = false

-- it jumps, calls or returns
abbrev pub is_jump : Op → Bool
is_jump (Jmp address) = true
is_jump (JumpIf condition address) = true
is_jump (Call address) = true
is_jump (CallIf condition address) = true
is_jump Ret = true
is_jump (ReturnIf condition) = true
is_jump (Rst number) = true
is_jump _ = false
