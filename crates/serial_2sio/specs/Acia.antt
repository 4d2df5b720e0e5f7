-- What the fields of an `Acia` mean: a port of the table, each field one of its parts.
use Rattle.serial_2sio.specs.Port.{Port, IsPort, port_with}
use Rattle.serial_2sio.specs.declared.acia.Acia.TheInside.{Inside}

-- the port that the fields make up
abbrev pub port_of : Inside → Port
port_of acia = port_with acia.control acia.receive_data acia.receiver acia.unaccepted

-- the fields of a port
abbrev pub acia_of : Port → Inside
acia_of p = record { control = p.control; receive_data = p.receive_data; receiver = p.receiver; unaccepted = p.unaccepted }

-- the fields make up a port at all times
abbrev pub HoldsPort : Inside → Type 0
HoldsPort acia = IsPort (port_of acia)
