-- A serial port as the single machine keeps it, in the words of the port table.
use Rattle.std.specs.Prelude.{ℕ, ◌+◌, Bool, Option, Some, None, if◌then◌else◌, List, [], ◌∷◌, ◌++◌, vec_len}
use Rattle.i8080_words.specs.declared.refusal.Fault.{Fault}
use Rattle.i8080_words.specs.declared.refusal.Fault.TheVariants.{NotDue}
use Rattle.serial_2sio.specs.Port.{Port, port_with, is_ready, word_of, after_data_out, after_receive, at_boot as table_at_boot}
use Rattle.serial_2sio.specs.declared.acia.Receiver.{Receiver as TableReceiver}
use Rattle.serial_2sio.specs.declared.acia.Receiver.TheVariants as table
use Rattle.plain_single.specs.declared.serial.Receiver.{Receiver}
use Rattle.plain_single.specs.declared.serial.Receiver.TheVariants.{Empty, Full, FullLost, Over}
use Rattle.plain_single.specs.declared.serial.SerialLine.{SerialLine}

-- a port, the bytes that it has sent, how many they are, and how many keys were taken at it
pub record Line : Type 0 where
  pub port : Port
  pub output : List ℕ
  pub issued : ℕ
  pub keys : ℕ

-- the receiver of the table
abbrev pub receiver_of : Receiver → TableReceiver
receiver_of Empty = table.Empty
receiver_of Full = table.Full
receiver_of FullLost = table.FullLost
receiver_of Over = table.Over

-- the port of the table
abbrev pub port_of : SerialLine → Port
port_of l = port_with l.control l.received (receiver_of l.receiver) l.unaccepted

-- what the fields mean
abbrev pub line_of : SerialLine → Line
line_of l = record { port = port_of l; output = l.output.items; issued = vec_len l.output; keys = l.keys }

-- a port at boot, with nothing sent and no key taken
abbrev pub line_at_boot : Line
line_at_boot = record { port = table_at_boot; output = []; issued = 0; keys = 0 }

-- the same with another port
abbrev pub with_port : Line → Port → Line
with_port l p = record l { port = p }

-- OUT of the data register: if the port is ready, one more byte is sent
abbrev pub after_send : Line → ℕ → Line
after_send l byte =
    if is_ready l.port
    then record {
      port = after_data_out l.port;
      output = l.output ++ word_of l.port.control byte ∷ [];
      issued = l.issued + 1;
      keys = l.keys;
    }
    else l

-- one more key
abbrev pub after_key : Line → ℕ → Line
after_key l byte = record l { port = after_receive l.port byte; keys = l.keys + 1 }

-- an input is refused if it is not due
abbrev pub due_unless : Bool → Option Fault
due_unless is_due = if is_due then None else Some NotDue
