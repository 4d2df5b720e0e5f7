-- Both tables list the same 256 instructions.
use Rattle.std.proofs.Common.{refl}
use Rattle.i8080_words.specs.Opcodes.{opcode, opcode_table}
use Rattle.i8080_words.proofs.opcodes.opcode.Goals as goal

pub returns : goal.returns
unfolding opcode opcode_table
returns c = refl
