-- What a message brings is what the protocol's message does that it stands for; whose book begins again.
use Rattle.std.proofs.Common.{◌≡◌, ◌∙◌, ℕ, List, Option, Some, None, ap, refl, subst, sym}
use Rattle.std.specs.Prelude.{Result, option_map, slice_get}
use Rattle.ft_world.specs.Shows.{Agree, IsStatusAt}
use Rattle.ft_world.specs.Standing.{Course, machine_of}
use Rattle.ft_world.specs.Words.{IsMessage}
use Rattle.ft_world.specs.declared.hosts.NodeStatus.{NodeStatus}
use Rattle.ft_world.specs.declared.message.Message.{Message}
use Rattle.ft_world.specs.declared.message.Message.TheVariants as message
use Rattle.guest_lockstep.specs.Machine.{Machine}
use Rattle.guest_lockstep.specs.declared.timed.Timed.{Timed}
use Rattle.i8080_words.specs.declared.refusal.Fault.{Fault}
use Rattle.pair_events.specs.declared.event.Event.{Event}
use Rattle.pair_events.specs.declared.reply.Reply.{Reply}
use Rattle.pair_events.specs.declared.reply.Role.{Role}
use Rattle.pair_events.specs.declared.reply.Role.TheVariants.{Primary, Backup, Joining, Draining, Alone, Halted}
use Rattle.pair_protocol.specs.Settled.{Settled}
use Rattle.pair_protocol.specs.World as protocol
use Rattle.pair_shell.specs.Books.{HasBook, IsBookOf, IsNoted, brings_in, brings_of, brought_by, released_brings, sent_in}
use Rattle.shell_language.specs.Notes.{all_settled, progress, restarted}
use Rattle.shell_language.specs.Noting.{letters_after, noted, posted}
use Rattle.shell_language.specs.declared.book.Book.{Book}
use Rattle.shell_language.specs.declared.book.Brings.{Brings}
use Rattle.shell_language.specs.declared.book.Brings.TheVariants as brings

same_brings : (found : Message) (sent : protocol.Message) → IsMessage found sent → brings_in found ≡ brings_of sent
same_brings (message.Log bytes) (protocol.LogEntry generation index entry) is = refl
same_brings (message.Log bytes) sent is = absurd is
same_brings (message.Ack bytes) (protocol.Acknowledgement generation held replayed) is = refl
same_brings (message.Ack bytes) sent is = absurd is
same_brings (message.Part bytes) (protocol.ImagePart generation index part) is = refl
same_brings (message.Part bytes) sent is = absurd is
same_brings (message.Byte port number byte) (protocol.Released operation) is = ap released_brings (sym is)
same_brings (message.Byte port number byte) sent is = absurd is
same_brings (message.Write write) (protocol.Released operation) is = ap released_brings (sym is)
same_brings (message.Write write) sent is = absurd is
same_brings (message.Written number) (protocol.WriteDone done) is = ap (λ n. brings.Written n) (sym is)
same_brings (message.Written number) sent is = absurd is
same_brings (message.Sector read) (protocol.SectorRead address number bytes) is = refl
same_brings (message.Sector read) sent is = absurd is

-- there is such a message, or none
module _ (messages : List protocol.Message) (number : ℕ) where
  pub brings_some : (found : Message) → Agree IsMessage (Some found) (slice_get messages number)
      → Some (brings_in found) ≡ brought_by messages number
  brings_some found there = agreed found (slice_get messages number) there
    where
      agreed : (found : Message) (sent : Option protocol.Message) → Agree IsMessage (Some found) sent
          → Some (brings_in found) ≡ option_map brings_of sent
      agreed found None there = absurd there
      agreed found (Some sent) there = ap (λ b. Some b) (same_brings found sent there)

  pub brings_none : Agree IsMessage None (slice_get messages number) → None ≡ brought_by messages number
  brings_none there = agreed (slice_get messages number) there
    where
      agreed : (sent : Option protocol.Message) → Agree IsMessage None sent → None ≡ option_map brings_of sent
      agreed None there = refl
      agreed (Some sent) there = absurd there

-- an event was noted with what it has sent, in a book with room for it
pub notes : (messages : List protocol.Message) (happened : Event) (answer : Result Reply Fault) (sent : Option Brings)
    (old mid new : Book) → sent ≡ sent_in messages answer → mid.letters.items ≡ old.letters.items → progress mid ≡ progress old
    → new.letters.items ≡ letters_after happened answer sent mid.letters.items
    → progress new ≡ noted happened answer (posted sent mid.letters.items) (progress mid)
    → IsNoted messages happened answer old new
notes messages happened answer sent old mid new is letters so_far after noted_so = record {
  letters = after ∙ ap (λ s. letters_after happened answer s mid.letters.items) is
      ∙ ap (λ l. letters_after happened answer (sent_in messages answer) l) letters;
  progress_is = noted_so ∙ ap (λ s. noted happened answer (posted s mid.letters.items) (progress mid)) is
      ∙ ap (λ l. noted happened answer (posted (sent_in messages answer) l) (progress mid)) letters
      ∙ ap (λ p. noted happened answer (posted (sent_in messages answer) old.letters.items) p) so_far;
}

module _ {S : Type 0} (M : Machine S) (c : Course S) (old new : Book) where
  -- no node has this number
  pub book_of_none : (number : ℕ) → IsStatusAt M (slice_get c.world.nodes number) None → new ≡ old → HasBook M c number old new
  book_of_none number there same = record { status = None; is_there = there; book = same }

  -- it is alone, or it is not
  pub book_of_alone : (number : ℕ) (status : NodeStatus) → IsStatusAt M (slice_get c.world.nodes number) (Some status)
      → status.role ≡ Alone → new.letters ≡ old.letters → (inputs : List Timed) (count : ℕ)
      → Settled (machine_of M c) c.world inputs count → progress new ≡ all_settled inputs (restarted (progress old))
      → HasBook M c number old new
  book_of_alone number status there is same inputs count settled begins = record {
    status = Some status;
    is_there = there;
    book = subst (λ role. IsBookOf M c role old new) (sym is)
        (record { letters = same; inputs = inputs; count = count; settled = settled; progress_is = begins });
  }

  other_book : (role : Role) → (role ≡ Alone → ⊥) → new ≡ old → IsBookOf M c role old new
  other_book Primary not_alone same = same
  other_book Backup not_alone same = same
  other_book Joining not_alone same = same
  other_book Draining not_alone same = same
  other_book Alone not_alone same = absurd (not_alone refl)
  other_book Halted not_alone same = same

  pub book_of_other : (number : ℕ) (status : NodeStatus) → IsStatusAt M (slice_get c.world.nodes number) (Some status)
      → (status.role ≡ Alone → ⊥) → new ≡ old → HasBook M c number old new
  book_of_other number status there not_alone same = record {
    status = Some status;
    is_there = there;
    book = other_book status.role not_alone same;
  }

  pub book_of_primary : (number : ℕ) (status : NodeStatus) → IsStatusAt M (slice_get c.world.nodes number) (Some status)
      → status.role ≡ Primary → new ≡ old → HasBook M c number old new
  book_of_primary number status there is same = record {
    status = Some status;
    is_there = there;
    book = subst (λ role. IsBookOf M c role old new) (sym is) same;
  }
