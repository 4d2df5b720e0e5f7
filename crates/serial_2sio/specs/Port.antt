-- The port table: one port of the 88-2SIO in the words of the MC6850's data sheet. The MC6850 sends one byte at a time;
-- here a window of bytes that the terminal has not accepted yet takes its place.
use Rattle.std.specs.Prelude.{ℕ, ◌+◌, ◌-◌, ◌/◌, ◌%◌, ◌^◌, ◌<◌, ◌≤◌, Bool, true, false, ◌==◌, nat_lt, nat_le, if◌then◌else◌, ◌&&◌, ◌||◌, Option, Some, None, Result, Ok, Err}
use Rattle.i8080_words.specs.declared.refusal.Fault.{Fault}
use Rattle.i8080_words.specs.declared.refusal.Fault.TheVariants.{NotDue, Malformed}
use Rattle.serial_2sio.specs.declared.acia.Receiver.{Receiver}
use Rattle.serial_2sio.specs.declared.acia.Receiver.TheVariants.{Empty, Full, FullLost, Over}

-- the control register, the receive data register, the receiver, and how many sent bytes are not accepted yet
pub record Port : Type 0 where
  pub control : ℕ
  pub receive_data : ℕ
  pub receiver : Receiver
  pub unaccepted : ℕ

-- a port by its four parts
abbrev pub port_with : ℕ → ℕ → Receiver → ℕ → Port
port_with control byte receiver unaccepted =
    record { control = control; receive_data = byte; receiver = receiver; unaccepted = unaccepted }

-- how many bytes may be unaccepted at once
abbrev pub window : ℕ
window = 16

-- the registers are bytes, and what is unaccepted fits the window
pub record IsPort (p : Port) : Type 0 where
  pub control_is_byte : p.control < 256
  pub data_is_byte : p.receive_data < 256
  pub fits_window : p.unaccepted ≤ window

-- at boot: format 8N1, no interrupt enabled, nothing received and nothing sent
abbrev pub at_boot : Port
at_boot = port_with 0x15 0x00 Empty 0

-- bits high to low of a register, as a number
abbrev pub bits : ℕ → ℕ → ℕ → ℕ
bits high low register = register / 2 ^ low % 2 ^ (high + 1 - low)

-- control bits 1-0, counter divide: 11 is the master reset
abbrev pub is_master_reset : ℕ → Bool
is_master_reset control = bits 1 0 control == 3

-- control bits 4-2, word select: 7E2 7O2 7E1 7O1 8N2 8N1 8E1 8O1
abbrev pub format_of : ℕ → ℕ
format_of control = bits 4 2 control

-- the first four formats have seven data bits
abbrev pub has_seven_bits : ℕ → Bool
has_seven_bits control = nat_lt (format_of control) 4

-- control bits 6-5, transmitter control: 01 enables the transmit interrupt
abbrev pub has_transmit_interrupt : ℕ → Bool
has_transmit_interrupt control = bits 6 5 control == 1

-- control bit 7 enables the receive interrupt
abbrev pub has_receive_interrupt : ℕ → Bool
has_receive_interrupt control = bits 7 7 control == 1

-- a byte in the format, on its way in or out: seven data bits leave bit 7 clear
abbrev pub word_of : ℕ → ℕ → ℕ
word_of control byte = if has_seven_bits control then bits 6 0 byte else byte

-- the receive data register is full
abbrev pub is_full : Receiver → Bool
is_full Empty = false
is_full Full = true
is_full FullLost = true
is_full Over = true

-- the receiver is overrun
abbrev pub is_overrun : Receiver → Bool
is_overrun Empty = false
is_overrun Full = false
is_overrun FullLost = false
is_overrun Over = true

-- the transmit data register is empty: the window has room
abbrev pub is_ready : Port → Bool
is_ready p = nat_lt p.unaccepted window

-- the port requests an interrupt
abbrev pub line_of : Port → Bool
line_of p =
    has_receive_interrupt p.control && is_full p.receiver || has_transmit_interrupt p.control && is_ready p

-- status bit 0, receive data register full
abbrev pub rdrf : ℕ
rdrf = 0

-- status bit 1, transmit data register empty
abbrev pub tdre : ℕ
tdre = 1

-- status bit 5, receiver overrun
abbrev pub ovrn : ℕ
ovrn = 5

-- status bit 7, interrupt request
abbrev pub irq : ℕ
irq = 7

-- a register with this bit alone if the test holds, otherwise 0
abbrev pub bit : ℕ → Bool → ℕ
bit place true = 2 ^ place
bit place false = 0

-- the status register; its other bits, DCD, CTS, FE and PE, read 0
abbrev pub status_of : Port → ℕ
status_of p =
    bit rdrf (is_full p.receiver) + bit tdre (is_ready p) + bit ovrn (is_overrun p.receiver) + bit irq (line_of p)

-- a control write keeps the whole byte; a master reset empties the receiver and leaves the window unchanged
abbrev pub after_control : Port → ℕ → Port
after_control p byte = record p { control = byte; receiver = (if is_master_reset byte then Empty else p.receiver) }

-- the receiver after a data read: an overrun shows once the byte before it is read, and a read ends it
abbrev pub receiver_after_read : Receiver → Receiver
receiver_after_read Empty = Empty
receiver_after_read Full = Empty
receiver_after_read FullLost = Over
receiver_after_read Over = Empty

-- a data read returns the data register, in every state of the receiver
abbrev pub data_in_answer : Port → ℕ
data_in_answer p = p.receive_data

-- a data read leaves the data register as it is
abbrev pub after_data_in : Port → Port
after_data_in p = record p { receiver = receiver_after_read p.receiver }

-- the receiver after a byte arrives
abbrev pub receiver_after_byte : Receiver → Receiver
receiver_after_byte Empty = Full
receiver_after_byte Full = FullLost
receiver_after_byte FullLost = FullLost
receiver_after_byte Over = Over

-- the data register after a byte arrives: only an empty receiver takes it
abbrev pub data_after_byte : Receiver → ℕ → ℕ → ℕ
data_after_byte Empty kept byte = byte
data_after_byte Full kept byte = kept
data_after_byte FullLost kept byte = kept
data_after_byte Over kept byte = kept

-- a byte arrives from the terminal
abbrev pub after_receive : Port → ℕ → Port
after_receive p byte =
    let received = data_after_byte p.receiver p.receive_data (word_of p.control byte) in
    port_with p.control received (receiver_after_byte p.receiver) p.unaccepted

-- a data write sends a byte if TDRE is 1, otherwise none
abbrev pub data_out_answer : Port → ℕ → Option ℕ
data_out_answer p byte = if is_ready p then Some (word_of p.control byte) else None

-- a byte that is sent is unaccepted at first, and one that is lost changes nothing
abbrev pub after_data_out : Port → Port
after_data_out p = if is_ready p then record p { unaccepted = p.unaccepted + 1 } else p

-- the terminal may accept a byte if one is unaccepted
abbrev pub is_sent_due : Port → Bool
is_sent_due p = nat_lt 0 p.unaccepted

-- an acceptance that is not due is refused
abbrev pub sent_answer : Port → Result (Unit {0}) Fault
sent_answer p = if is_sent_due p then Ok tt else Err NotDue

-- an accepted byte leaves the window, and a refusal changes nothing
abbrev pub after_sent : Port → Port
after_sent p = if is_sent_due p then record p { unaccepted = p.unaccepted - 1 } else p

-- the port with these parts, if the unaccepted bytes fit the window
abbrev pub rebuild_answer : ℕ → ℕ → Receiver → ℕ → Result Port Fault
rebuild_answer control byte receiver unaccepted =
    if nat_le unaccepted window then Ok (port_with control byte receiver unaccepted) else Err Malformed
