-- A box is a word that names the slot at home in it, whether it is full, and how often its last writer has swapped there.
use Rattle.std.specs.Prelude.{◌≡◌, ℕ, zero, suc, ◌+◌, ◌*◌, ◌/◌, ◌%◌, ◌<◌, ◌==◌, Bool, true, false, List, length, Option, Some, None}
use mathlib.Core.Option.{some}
use mathlib.Core.Option as maybe
use lib.ListN.{get_elem?}
use Rattle.pair_rule.specs.declared.mailbox.Mailbox.{Mailbox}
use Rattle.pair_rule.specs.declared.mailbox.Mailbox.TheVariants.{Outbox, Inbox, Bytes0, Bytes1, Requests, Answers}
use Rattle.pair_rule.specs.declared.payload.Payload.{Payload}
use Rattle.pair_rule.specs.declared.view.Side.{Side}

-- what lies at home in each slot
abbrev pub Homes : Type 0
Homes = List (maybe.Option (Option Payload))

-- the parts of a box word
abbrev pub slot_of : ℕ → ℕ
slot_of word = word % 16

-- whether it says that the box is full
abbrev pub is_full : ℕ → Bool
is_full word = (word / 16) % 2 == 1

-- its last writer's number of swaps there
abbrev pub number_of : ℕ → ℕ
number_of word = word / 32

-- the word of a full box and of an empty one
abbrev pub full_word : ℕ → ℕ → ℕ
full_word number slot = number * 32 + 16 + slot

abbrev pub empty_word : ℕ → ℕ → ℕ
empty_word number slot = number * 32 + slot

-- the boxes, in the order of their words; box b is word 5 + box_index b
abbrev pub box_index : Mailbox → ℕ
box_index Outbox = 0
box_index Inbox = 1
box_index Bytes0 = 2
box_index Bytes1 = 3
box_index Requests = 4
box_index Answers = 5

-- the box of a port's bytes
abbrev pub port_box : ℕ → Mailbox
port_box zero = Bytes0
port_box (suc port) = Bytes1

-- the seats
pub data Who : Type 0 where
  Primary Link Backup Terminal Disk : Who

-- their places in lists
abbrev pub seat_index : Who → ℕ
seat_index Primary = 0
seat_index Link = 1
seat_index Backup = 2
seat_index Terminal = 3
seat_index Disk = 4

-- who fills a box, and who empties it
abbrev pub filler : Mailbox → Who
filler Outbox = Primary
filler Inbox = Link
filler Bytes0 = Primary
filler Bytes1 = Primary
filler Requests = Primary
filler Answers = Disk

abbrev pub emptier : Mailbox → Who
emptier Outbox = Link
emptier Inbox = Backup
emptier Bytes0 = Terminal
emptier Bytes1 = Terminal
emptier Requests = Disk
emptier Answers = Primary

-- a full word has the filler's number, which is above what the emptier has met; an empty word has the emptier's number
module _ (word : ℕ) (homes : Homes) (fill empty : Side) where
  abbrev pub Boxed : Bool → Type 0
  Boxed true =
      (number_of word ≡ fill.number) × (empty.met < fill.number) × (fill.met ≡ empty.number)
      × ((p : Payload) × (fill.last ≡ Some p) × (get_elem? homes (slot_of word) ≡ some (some (Some p))))
  Boxed false =
      (number_of word ≡ empty.number) × (empty.met ≡ fill.number)
      × ((x : Option Payload) × (get_elem? homes (slot_of word) ≡ some (some x)))

-- what a filler has met after a swap that found this word
abbrev pub filler_met : Bool → ℕ → ℕ → ℕ
filler_met true word met = met
filler_met false word met = number_of word

-- a side of a box
abbrev pub side : ℕ → ℕ → Option Payload → Side
side number met last = record { number = number; met = met; last = last }

-- where each slot is: `owner` says it, the boxes first and then the seats
pub record Laid (words hands : List ℕ) (has_slot : List Bool) (homes : Homes) : Type 0 where
  pub owner : ℕ → ℕ
  pub deep : length homes ≡ length words + length hands
  pub paired : length has_slot ≡ length hands
  pub boxes : (j w : ℕ) → get_elem? words j ≡ some w → owner (slot_of w) ≡ j
  pub seats : (s h : ℕ) → get_elem? hands s ≡ some h → (owner h ≡ length words + s) × (h < length homes)
  pub full :
      (j w : ℕ) → get_elem? words j ≡ some w → (x : Option Payload) × (get_elem? homes (slot_of w) ≡ some (some x))
  pub bare : (s h : ℕ) → get_elem? hands s ≡ some h → get_elem? has_slot s ≡ some false →
      get_elem? homes h ≡ some (some None)

-- each box is as its two sides say
abbrev pub Boxes : List ℕ → Homes → List Side → List Side → Type 0
Boxes words homes fills empties =
    (b : Mailbox) (w : ℕ) (f e : Side) → get_elem? words (box_index b) ≡ some w →
    get_elem? fills (box_index b) ≡ some f → get_elem? empties (box_index b) ≡ some e → Boxed w homes f e (is_full w)
