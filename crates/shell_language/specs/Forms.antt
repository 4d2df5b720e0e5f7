-- The forms of lines: what the shell takes, a row each, in the order in which `help` prints them.
use Rattle.std.specs.Prelude.{ℕ, List, [], ◌∷◌, map, codes}
use Rattle.shell_language.specs.declared.form.Form.{Form}
use Rattle.shell_language.specs.declared.kind.Kind.{Kind}
use Rattle.shell_language.specs.declared.kind.Kind.TheVariants as kind

-- What a word of a line has to be: a number, one within bounds, a byte, an address, this word, text in quotes, a record of
-- Intel HEX, or bytes up to the end of the line.
pub data Word : Type 0 where
  Number : Word
  Within : ℕ → ℕ → Word
  Byte : Word
  Address : Word
  Exactly : List ℕ → Word
  Quoted : Word
  Record : Word
  Bytes : ℕ → Word

-- a form: its first word, the words after that, how it is written, and what it does
pub record Shape : Type 0 where
  pub word : List ℕ
  pub words : List Word
  pub usage : List ℕ
  pub meaning : List ℕ

abbrev pub row : List ℕ → List Word → List ℕ → List ℕ → Shape
row word words usage meaning = record { word = word; words = words; usage = usage; meaning = meaning }

-- all forms
unfoldable pub shapes : List Shape
shapes =
    row (codes "mem") (Address ∷ Bytes 65536 ∷ []) (codes "mem AAAA HH ..")
    (codes "setup: these bytes from this address on")
    ∷ row (codes "load") (Record ∷ []) (codes "load :LLAAAATTDD..CC")
    (codes "setup: a record of Intel HEX; the word load may be left out")
    ∷ row (codes "drives") (Within 1 4 ∷ []) (codes "drives N")
    (codes "setup: 1 to 4 drives")
    ∷ row (codes "levels") (Within 0 7 ∷ Within 0 7 ∷ Within 0 7 ∷ []) (codes "levels P Q D")
    (codes "setup: the levels of port 0, port 1 and the disk, 0 to 7")
    ∷ row (codes "sense") (Byte ∷ []) (codes "sense HH")
    (codes "setup: the sense switches")
    ∷ row (codes "hosts") (Within 2 64 ∷ []) (codes "hosts N")
    (codes "setup: 2 to 64 hosts")
    ∷ row (codes "reads") (Exactly (codes "shared") ∷ []) (codes "reads shared")
    (codes "setup: the backup reads sectors from the shared disk itself")
    ∷ row (codes "sector") (Within 0 3 ∷ Within 0 76 ∷ Within 0 31 ∷ Bytes 137 ∷ []) (codes "sector D T S HH ..")
    (codes "setup: 137 times one byte, or up to 137 bytes and zeros")
    ∷ row (codes "fail") (Number ∷ []) (codes "fail K")
    (codes "setup: the K-th access of the disk fails")
    ∷ row (codes "step") (Number ∷ Number ∷ []) (codes "step N K")
    (codes "node N makes at most K steps")
    ∷ row (codes "type") (Number ∷ Byte ∷ []) (codes "type P HH")
    (codes "a byte is typed at port P")
    ∷ row (codes "type") (Number ∷ Quoted ∷ []) (codes "type P \"text\"")
    (codes "text is typed there; \\r \\n \\\" \\\\ are one byte each")
    ∷ row (codes "key") (Number ∷ Number ∷ Number ∷ []) (codes "key N P I")
    (codes "node N takes key I of port P")
    ∷ row (codes "send") (Number ∷ Number ∷ []) (codes "send N I")
    (codes "primary N sends log entry I")
    ∷ row (codes "send") (Number ∷ Exactly (codes "all") ∷ []) (codes "send N all")
    (codes "all its entries that were not sent yet")
    ∷ row (codes "log") (Number ∷ Number ∷ []) (codes "log M N")
    (codes "log message M reaches backup N")
    ∷ row (codes "log") (Number ∷ Exactly (codes "all") ∷ []) (codes "log N all")
    (codes "all log messages that have reached no node yet reach backup N")
    ∷ row (codes "ack") (Number ∷ []) (codes "ack N")
    (codes "backup N acknowledges what it holds")
    ∷ row (codes "acked") (Number ∷ Number ∷ []) (codes "acked M N")
    (codes "acknowledgement M reaches primary N")
    ∷ row (codes "replay") (Number ∷ Number ∷ []) (codes "replay N K")
    (codes "backup N makes at most K moves")
    ∷ row (codes "release") (Number ∷ Exactly (codes "byte") ∷ Number ∷ Number ∷ []) (codes "release N byte P X")
    (codes "node N sends byte X of port P to its terminal")
    ∷ row (codes "release") (Number ∷ Exactly (codes "write") ∷ Number ∷ []) (codes "release N write X")
    (codes "node N sends write X to the disk")
    ∷ row (codes "arrive") (Number ∷ []) (codes "arrive M")
    (codes "message M, a byte, reaches its terminal")
    ∷ row (codes "arrive") (Exactly (codes "all") ∷ []) (codes "arrive all")
    (codes "all bytes that have not arrived yet do")
    ∷ row (codes "sent") (Number ∷ Number ∷ Number ∷ []) (codes "sent N P X")
    (codes "node N hears that byte X of port P was accepted")
    ∷ row (codes "told") (Number ∷ Number ∷ []) (codes "told N P")
    (codes "the terminal of port P hears how many keys are covered")
    ∷ row (codes "put") (Number ∷ []) (codes "put M")
    (codes "message M, a write, reaches the disk")
    ∷ row (codes "done") (Number ∷ Number ∷ []) (codes "done M N")
    (codes "the disk's answer M to a write reaches node N")
    ∷ row (codes "get") (Number ∷ Number ∷ []) (codes "get N I")
    (codes "the disk reads sector I of the drive and track of node N")
    ∷ row (codes "under") (Number ∷ Number ∷ []) (codes "under M N")
    (codes "sector M reaches node N")
    ∷ row (codes "fetch") (Number ∷ []) (codes "fetch N")
    (codes "the disk reads the sector for which node N waits")
    ∷ row (codes "fetched") (Number ∷ Number ∷ []) (codes "fetched M N")
    (codes "the sector M that it waits for reaches node N")
    ∷ row (codes "suspect") (Number ∷ []) (codes "suspect N")
    (codes "node N suspects its peer, and asks the arbiter")
    ∷ row (codes "drain") (Number ∷ Number ∷ []) (codes "drain N K")
    (codes "node N, which has won, makes at most K moves")
    ∷ row (codes "pair") (Number ∷ Number ∷ []) (codes "pair N H")
    (codes "node N, which is alone, begins a pair with spare host H")
    ∷ row (codes "freshen") (Number ∷ Number ∷ []) (codes "freshen N K")
    (codes "node N, which is alone, copies at most K stale pages early")
    ∷ row (codes "sendpart") (Number ∷ Number ∷ []) (codes "sendpart N I")
    (codes "node N sends part I of its image")
    ∷ row (codes "sendpart") (Number ∷ Exactly (codes "all") ∷ []) (codes "sendpart N all")
    (codes "all its parts that were not sent yet")
    ∷ row (codes "part") (Number ∷ Number ∷ []) (codes "part M N")
    (codes "message M, a part, arrives at node N")
    ∷ row (codes "part") (Number ∷ Exactly (codes "all") ∷ []) (codes "part N all")
    (codes "all parts that have reached no node yet reach node N")
    ∷ row (codes "stop") (Number ∷ []) (codes "stop N")
    (codes "node N halts for good")
    ∷ row (codes "run") (Number ∷ Number ∷ []) (codes "run N K")
    (codes "the pair's ordinary day, for K turns of node N")
    ∷ row (codes "run") (Number ∷ Number ∷ Exactly (codes "loss") ∷ Within 0 100 ∷ Number ∷ []) (codes "run N K loss P SEED")
    (codes "the same; of 100 messages P are lost, repeated or overtaken")
    ∷ row (codes "rest") [] (codes "rest")
    (codes "brings the pair to rest, and says in how many events")
    ∷ row (codes "why") [] (codes "why")
    (codes "what is outstanding, what it waits for, and what brings it on")
    ∷ row (codes "show") (Number ∷ []) (codes "show P")
    (codes "the bytes that terminal P has accepted")
    ∷ row (codes "screen") (Number ∷ []) (codes "screen P")
    (codes "the same as text")
    ∷ row (codes "screen") (Number ∷ Exactly (codes "new") ∷ []) (codes "screen P new")
    (codes "what of it was not shown as text before")
    ∷ row (codes "packet") (Number ∷ []) (codes "packet M")
    (codes "the bytes of a message of the log")
    ∷ row (codes "node") (Number ∷ []) (codes "node N")
    (codes "a node's role, generation and count")
    ∷ row (codes "last") [] (codes "last")
    (codes "the number of the last message")
    ∷ row (codes "sector") (Within 0 3 ∷ Within 0 76 ∷ Within 0 31 ∷ []) (codes "sector D T S")
    (codes "what the disk has there")
    ∷ row (codes "regs") (Number ∷ []) (codes "regs N")
    (codes "the registers of node N's machine, as it is now")
    ∷ row (codes "look") (Number ∷ Address ∷ []) (codes "look N AAAA")
    (codes "16 bytes of its memory from address AAAA on")
    ∷ row (codes "look") (Number ∷ Address ∷ Within 1 256 ∷ []) (codes "look N AAAA K")
    (codes "K bytes of it")
    ∷ row (codes "dis") (Number ∷ Address ∷ []) (codes "dis N AAAA")
    (codes "8 instructions in it, in Intel's assembly language")
    ∷ row (codes "dis") (Number ∷ Address ∷ Within 1 64 ∷ []) (codes "dis N AAAA K")
    (codes "K instructions")
    ∷ row (codes "check") [] (codes "check")
    (codes "compares what is settled with the single machine")
    ∷ row (codes "picture") [] (codes "picture")
    (codes "the last events as a diagram")
    ∷ row (codes "picture") (Number ∷ Number ∷ []) (codes "picture A B")
    (codes "the events from A to B, counted from 0")
    ∷ row (codes "trace") (Exactly (codes "on") ∷ []) (codes "trace on")
    (codes "from here on what is printed is a script")
    ∷ row (codes "trace") (Exactly (codes "off") ∷ []) (codes "trace off")
    (codes "no longer")
    ∷ row (codes "help") [] (codes "help")
    (codes "this list")
    ∷ row (codes "help") (Exactly (codes "refusals") ∷ []) (codes "help refusals")
    (codes "the refusals: their numbers and their words")
    ∷ row (codes "quit") [] (codes "quit")
    (codes "ends the session; what comes after it is not read")
    ∷ []

-- a kind and a form of the program
abbrev pub word_of : Kind → Word
word_of kind.Number = Number
word_of (kind.Within least greatest) = Within least greatest
word_of kind.Byte = Byte
word_of kind.Address = Address
word_of (kind.Exactly text) = Exactly text.now
word_of kind.Text = Quoted
word_of kind.Record = Record
word_of (kind.Bytes most) = Bytes most

abbrev pub shape_of : Form → Shape
shape_of form = record {
  word = form.word.now;
  words = map word_of form.kinds.now;
  usage = form.usage.now;
  meaning = form.meaning.now;
}
