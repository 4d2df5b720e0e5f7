-- What a book says of a pair: how far its ports have come, its log, and its writes.
use Rattle.std.specs.Prelude.{◌≡◌, ℕ, zero, suc, ◌+◌, ◌-◌, ◌^◌, ◌==◌, min, Bool, false, not, List, [], ◌∷◌, filter, map, replicate, slice_get, slice_set, unwrap_or, vec_len}
use Rattle.std.specs.List.{range_with_len}
use Rattle.guest_lockstep.specs.declared.timed.Bare.{Bare}
use Rattle.guest_lockstep.specs.declared.timed.Bare.TheVariants.{Rx, Sent, Sector, Written}
use Rattle.guest_lockstep.specs.declared.timed.Timed.{Timed}
use Rattle.shell_language.specs.declared.book.Book.{Book}
use Rattle.shell_language.specs.declared.book.PortNotes.{PortNotes}
use Rattle.shell_language.specs.declared.book.OutstandingOutput.{OutstandingOutput}

-- nothing has come of a port yet
abbrev pub blank : PortNotes
blank = record { typed = 0; taken = 0; covered = 0; sent = 0; accepted = 0; heard = 0 }

-- what is noted of a port; nothing of one that is not there
abbrev pub notes_of : List PortNotes → ℕ → PortNotes
notes_of ports port = unwrap_or (slice_get ports port) blank

-- one more, up to the greatest number
abbrev pub next : ℕ → ℕ
next n = min (n + 1) (2 ^ 64 - 1)

-- what a book says besides its messages
pub record Progress : Type 0 where
  pub ports : List PortNotes
  pub logged : ℕ
  pub posted : ℕ
  pub held : ℕ
  pub parts : ℕ
  pub has_run : Bool
  pub writes : ℕ
  pub undone : List ℕ

abbrev pub progress : Book → Progress
progress book = record {
  ports = book.ports;
  logged = book.logged;
  posted = book.posted;
  held = book.held;
  parts = book.parts;
  has_run = book.has_run;
  writes = book.writes;
  undone = book.undone.items;
}

-- nothing was noted
pub record IsBlank (book : Book) : Type 0 where
  pub letters : book.letters.items ≡ []
  pub ports : book.ports ≡ replicate 2 blank
  pub log : (book.logged ≡ 0) × (book.posted ≡ 0) × (book.held ≡ 0) × (book.parts ≡ 0)
  pub has_run : book.has_run ≡ false
  pub writes : (book.writes ≡ 0) × (book.undone.items ≡ [])

-- the bytes that no terminal has accepted, and the writes that the guest has not heard of
abbrev pub bytes_out : PortNotes → ℕ
bytes_out notes = notes.sent - notes.accepted

abbrev pub waiting_in : Book → OutstandingOutput
waiting_in book = record {
  bytes = min (bytes_out (notes_of book.ports 0) + bytes_out (notes_of book.ports 1)) (2 ^ 64 - 1);
  writes = vec_len book.undone;
}

-- a port has come so far; one that is not there changes nothing
abbrev pub put_at : List PortNotes → ℕ → PortNotes → List PortNotes
put_at ports zero notes = slice_set ports 0 notes
put_at ports (suc zero) notes = slice_set ports 1 notes
put_at ports (suc (suc n)) notes = ports

abbrev pub with_port : ℕ → PortNotes → Progress → Progress
with_port port notes p = record p { ports = put_at p.ports port notes }

-- numbers without one of them
abbrev pub without : List ℕ → ℕ → List ℕ
without numbers number = filter (λ n. not (n == number)) numbers

-- what a settled input says: a key was taken, a byte was accepted, a write is done
abbrev pub settled : Bare → Progress → Progress
settled (Rx port byte) p = with_port port (record (notes_of p.ports port) { taken = next (notes_of p.ports port).taken }) p
settled (Sent port) p = with_port port (record (notes_of p.ports port) { heard = next (notes_of p.ports port).heard }) p
settled (Sector drive sector) p = p
settled (Written number) p = record p { undone = without p.undone number }

-- before the settled inputs of a node that has won: no key of a port was taken, and no byte accepted
abbrev pub restarted_at : ℕ → Progress → Progress
restarted_at port p = with_port port (record (notes_of p.ports port) { taken = 0; heard = 0 }) p

-- the numbers of all writes up to one
abbrev pub writes_up_to : ℕ → List ℕ
writes_up_to last = map (λ k. k + 1) (range_with_len 0 last)

-- What is known once a node has won: its ports as they were before any input, and of the writes that were given none is done;
-- and then what its settled inputs say, in their order.
abbrev pub restarted : Progress → Progress
restarted p = restarted_at 1 (restarted_at 0 (record p { undone = writes_up_to p.writes }))

abbrev pub all_settled : List Timed → Progress → Progress
all_settled [] p = p
all_settled (timed ∷ more) p = all_settled more (settled timed.input p)
