-- What a log has for a write to wait for: with logged sectors nothing.
use Rattle.std.proofs.Common.{[], ◌∙◌, ◌∷◌, ◌≡◌, List, None, Some, ap, false, refl, suc, ℕ}
use Rattle.guest_lockstep.specs.declared.reads.Reads.TheVariants.{Logged}
use Rattle.guest_lockstep.specs.declared.input.Input.TheVariants as input
use Rattle.pair_protocol.proofs.Words.{Byte, Do, Input, Move, Operation, Take, Write, entries, entry_of, is_read}
use Rattle.pair_protocol.specs.Waiting.{reads_in, up_to_read, waits_for}

-- no entry of a log that carries its sectors is a read
pub logged_no_read : (c : ℕ) (i : Input) → is_read (entry_of Logged c i) ≡ false
logged_no_read c (input.Rx port byte) = refl
logged_no_read c (input.Sent port) = refl
logged_no_read c (input.Sector drive sector number bytes) = refl
logged_no_read c (input.Written number) = refl

pub no_reads : (c : ℕ) (moves : List Move) → reads_in (entries Logged c moves) ≡ 0
no_reads c [] = refl
no_reads c (Do None ∷ moves) = no_reads (suc c) moves
no_reads c (Do (Some o) ∷ moves) = ap (up_to_read false) (no_reads (suc c) moves)
no_reads c (Take i ∷ moves) =
    ap (λ b. up_to_read b (reads_in (entries Logged c moves))) (logged_no_read c i) ∙ ap (up_to_read false) (no_reads c moves)

pub waits_for_none : (o : Operation) (c : ℕ) (moves : List Move) → waits_for o (entries Logged c moves) ≡ 0
waits_for_none (Write write) c moves = no_reads c moves
waits_for_none (Byte port number byte) c moves = refl
