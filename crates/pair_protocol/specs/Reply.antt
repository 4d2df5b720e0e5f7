-- What is replied to an event, in the protocol's words: each row says when.
use Rattle.std.specs.Prelude.{ℕ}
use Rattle.guest_lockstep.specs.declared.replay_end.ReplayEnd.{ReplayEnd}
use Rattle.guest_lockstep.specs.declared.running.StopReason.{StopReason}
use Rattle.i8080_words.specs.declared.refusal.Fault.{Fault}

pub data Reply : Type 0 where
  Ran : (made count : ℕ) (why : StopReason) → Reply
  TypedAt : (index : ℕ) → Reply
  Taken New Old Whole Accepted Dropped Won Stopped : Reply
  MessageIs : (m : ℕ) → Reply
  HeldIs : (held : ℕ) → Reply
  Moved : (made : ℕ) (why : ReplayEnd) → Reply
  MovedAlone : (made : ℕ) → Reply
  ToldIs : (keys : ℕ) → Reply
  GenerationIs : (generation : ℕ) → Reply
  StaleIs : (pages : ℕ) → Reply
  Refused : (fault : Fault) → Reply
