-- What each step does to what is known: who may make it, and that what held still holds.
use Rattle.std.proofs.Common.{◌≡◌, ℕ, ◌+◌, List, [], ◌∷◌, ◌++◌, sym, refl, ap, ◌∙◌, subst, inl, inr, Option, Some, None}
use lib.ListN.{get_elem?}
use Rattle.pair_rule.proofs.Words.{AllAre, Among, Answer, Answers, Arrived, Backup, Byte, Bytes0, Bytes1, CanFill, Disk, DiskAnswer, DiskRequest, DiskView, Entry, Fits, Inbox, IsAsked, IsByteOf, IsEntryOf, IsReplied, Knowledge, Link, Log, Mailbox, Operation, Out, Outbox, Packet, Payload, PortStands, Primary, PrimaryView, Request, Requests, SamePart, SectorAddress, SectorWrite, Stands, Terminal, WhereSome, Write, after_empty, after_fill, among-left, at_longer, emptier, filler, grown, put_by, with_release, with_request}
use Rattle.pair_rule.specs.declared.payload.DiskRequest.TheVariants as ask
use Rattle.pair_rule.specs.declared.payload.DiskAnswer.TheVariants as answer
use Rattle.pair_rule.specs.declared.view.PrimaryCall.{PrimaryCall}
use Rattle.pair_rule.proofs.Parts.{Local, nothing, on_part}
use Rattle.pair_rule.proofs.BoxSwaps.{Keeps, keeps_all}
pub use Rattle.pair_rule.proofs.Elements.{all_map, all_more, among_last, if_map}

-- ---- what holds of a list goes on to hold of a longer one

byte_more : (port : ℕ) (xs ys : List Operation) (o : Operation) → IsByteOf port xs o → IsByteOf port (xs ++ ys) o
byte_more port xs ys (Byte to number byte) i = (i.0, among-left (Byte to number byte) xs ys i.1)
byte_more port xs ys (Write w) i = i

asked_more : (xs ys : List Operation) (r : DiskRequest) → IsAsked xs r → IsAsked (xs ++ ys) r
asked_more xs ys (ask.Write w) i = among-left (Write w) xs ys i
asked_more xs ys (ask.Read a) i = i

pub entry_more : (g : ℕ) (list : List Entry) (e : Entry) (p : Packet) → IsEntryOf g list p → IsEntryOf g (list ++ e ∷ []) p
entry_more g list e p i = (i.0, at_longer list (e ∷ []) p.index p.entry i.1)

-- what was put stays put
pub put_more : (t : Option DiskRequest) (puts : List SectorWrite) (w : SectorWrite) → Among w puts → Among w (put_by t puts)
put_more None puts w i = i
put_more (Some (ask.Write v)) puts w i = among-left w puts (v ∷ []) i
put_more (Some (ask.Read a)) puts w i = i

replied_more : (t : Option DiskRequest) (puts : List SectorWrite) (a : DiskAnswer) → IsReplied puts a
    → IsReplied (put_by t puts) a
replied_more t puts (answer.Written n) i = (i.0, put_more t puts i.0 i.1, i.2)
replied_more t puts (answer.Read r) (inl e) = inl e
replied_more t puts (answer.Read r) (inr i) = inr (i.0, put_more t puts i.0 i.1, i.2, i.3, i.4)

-- ---- whose each change is

pub local_fill : (b : Mailbox) (q : Payload) → Local (filler b) (after_fill b q)
local_fill Bytes0 (Out o) = on_part Primary (with_release o)
local_fill Bytes1 (Out o) = on_part Primary (with_release o)
local_fill Requests (Request r) = on_part Primary (with_request r)
local_fill Answers (Answer a) = on_part Disk (λ d. record d { puts = put_by d.taken d.puts; given = d.given ++ a ∷ [] })
local_fill _ _ = nothing _

pub local_empty : (b : Mailbox) (q : Payload) → Local (emptier b) (after_empty b q)
local_empty Outbox (Log p) = on_part Link (λ _. Some p)
local_empty Inbox (Log p) = on_part Backup (λ b. grown b p)
local_empty Bytes0 (Out o) = on_part Terminal (λ t. record t { hand0 = Some o })
local_empty Bytes1 (Out o) = on_part Terminal (λ t. record t { hand1 = Some o })
local_empty Requests (Request r) = on_part Disk (λ d. record d { taken = Some r; takes = d.takes + 1 })
local_empty Answers (Answer a) = on_part Primary (λ p. record p { answers = p.answers ++ a ∷ [] })
local_empty _ _ = nothing _

-- ---- what stands goes on to stand: where boxes are filled

port_more : (port counted : ℕ) (released more : List Operation) (hand : Option Operation) (arrivals : List Arrived)
    → PortStands port released counted hand arrivals → PortStands port (released ++ more) counted hand arrivals
port_more port counted released more hand arrivals p = record {
  accepted = p.accepted;
  in_hand = if_map hand _ _ (byte_more port released more) p.in_hand;
  arrived = all_map arrivals _ _ (λ a i. among-left (Byte port a.number a.byte) released more i) p.arrived;
}

module _ (k : Knowledge) (s : Stands k) where
  -- the primary released more
  released : (more : List Operation) (asked : ℕ) (calls : List PrimaryCall)
      → Stands (record k {
        primary =
            record k.primary {
              released = k.primary.released ++ more;
              asked = asked;
              calls = calls;
            };
      })
  released more asked calls = record {
    log = s.log;
    decided = s.decided;
    port0 = port_more 0 k.primary.counted0 k.primary.released more k.terminal.hand0 k.terminal.arrivals0 s.port0;
    port1 = port_more 1 k.primary.counted1 k.primary.released more k.terminal.hand1 k.terminal.arrivals1 s.port1;
    disk = record {
      taken = if_map k.disk.taken _ _ (asked_more k.primary.released more) s.disk.taken;
      puts = all_map k.disk.puts _ _ (λ w i. among-left (Write w) k.primary.released more i) s.disk.puts;
      answers = s.disk.answers;
      replies = s.disk.replies;
    };
  }

  released_fits : (more : List Operation) (b : Mailbox) (x : Payload) → Fits b k x
      → Fits b (record k { primary = record k.primary { released = k.primary.released ++ more } }) x
  released_fits more Bytes0 (Out o) f = byte_more 0 k.primary.released more o f
  released_fits more Bytes1 (Out o) f = byte_more 1 k.primary.released more o f
  released_fits more Requests (Request r) f = asked_more k.primary.released more r f
  released_fits more _ _ f = f

  release_keeps : (o : Operation) → Keeps (λ k. record k { primary = with_release o k.primary }) k
  release_keeps o = record {
    stands = released (o ∷ []) (with_release o k.primary).asked (with_release o k.primary).calls;
    words = refl;
    fits = λ b x f. refit b x (released_fits (o ∷ []) b x f);
  }
    where
      refit : (b : Mailbox) (x : Payload)
          → Fits b (record k { primary = record k.primary { released = k.primary.released ++ o ∷ [] } }) x
          → Fits b (record k { primary = with_release o k.primary }) x
      refit b x f = f

  -- it asked for a sector
  asks_keeps : (a : SectorAddress) → Keeps (after_fill Requests (Request (ask.Read a))) k
  asks_keeps a = record {
    stands = record { log = s.log; decided = s.decided; port0 = s.port0; port1 = s.port1; disk = s.disk };
    words = refl;
    fits = λ b x f. f;
  }

  -- the disk answered
  abbrev answered : DiskAnswer → Knowledge
  answered a = record k { disk = record k.disk { puts = put_by k.disk.taken k.disk.puts; given = k.disk.given ++ a ∷ [] } }

  puts_more : (t : Option DiskRequest) → WhereSome t (IsAsked k.primary.released)
      → AllAre (put_by t k.disk.puts) (λ w. Among (Write w) k.primary.released)
  puts_more None i = s.disk.puts
  puts_more (Some (ask.Write w)) i = all_more k.disk.puts w (λ w. Among (Write w) k.primary.released) s.disk.puts i
  puts_more (Some (ask.Read a)) i = s.disk.puts

  answered_stands : (a : DiskAnswer) → IsReplied (put_by k.disk.taken k.disk.puts) a → Stands (answered a)
  answered_stands a can = record {
    log = s.log;
    decided = s.decided;
    port0 = s.port0;
    port1 = s.port1;
    disk = record {
      taken = s.disk.taken;
      puts = puts_more k.disk.taken s.disk.taken;
      answers = all_map k.primary.answers _ _ (λ x i. among-left x k.disk.given (a ∷ []) i) s.disk.answers;
      replies = all_more k.disk.given a (IsReplied (put_by k.disk.taken k.disk.puts))
          (all_map k.disk.given _ _ (λ x i. replied_more k.disk.taken k.disk.puts x i) s.disk.replies) can;
    };
  }

  answered_fits : (a : DiskAnswer) (b : Mailbox) (x : Payload) → Fits b k x → Fits b (answered a) x
  answered_fits a Answers (Answer x) f = among-left x k.disk.given (a ∷ []) f
  answered_fits a _ _ f = f

  abbrev MayFill : Mailbox → Payload → Type 0
  MayFill b q = Keeps (after_fill b q) k × Fits b (after_fill b q k) q

  pub fill_keeps : (b : Mailbox) (q : Payload) → CanFill b k q → MayFill b q
  fill_keeps Outbox (Log p) can = (keeps_all k s, can)
  fill_keeps Inbox (Log p) can = (keeps_all k s, subst (λ x. WhereSome x (IsEntryOf k.generation k.primary.list)) can s.log.in_link)
  fill_keeps Bytes0 (Out (Byte to number byte)) can =
      (release_keeps (Byte to number byte), (can, among_last (Byte to number byte) k.primary.released))
  fill_keeps Bytes1 (Out (Byte to number byte)) can =
      (release_keeps (Byte to number byte), (can, among_last (Byte to number byte) k.primary.released))
  fill_keeps Requests (Request (ask.Write w)) can = (release_keeps (Write w), among_last (Write w) k.primary.released)
  fill_keeps Requests (Request (ask.Read a)) can = (asks_keeps a, tt)
  fill_keeps Answers (Answer a) can = (
    record {
      stands = answered_stands a can;
      words = refl;
      fits = answered_fits a;
    },
    among_last a k.disk.given,
  )
  fill_keeps _ _ can = absurd can

-- whether it may be filled is known to the seat that fills it
pub can_same : (b : Mailbox) (q : Payload) (k l : Knowledge) → k.generation ≡ l.generation → SamePart (filler b) k l
    → CanFill b k q → CanFill b l q
can_same Outbox (Log p) k l g e can = (can.0 ∙ g, ap (λ (z : PrimaryView). get_elem? z.list p.index) (sym e) ∙ can.1)
can_same Inbox (Log p) k l g e can = sym e ∙ can
can_same Answers (Answer a) k l g e can = subst (λ (d : DiskView). IsReplied (put_by d.taken d.puts) a) e can
can_same _ _ k l g e can = can
