-- A host that serves completes one outstanding operation: the byte that is due, or a write.
use Rattle.std.proofs.Common.{◌≡◌, ◌≢◌, ℕ, suc, ◌+◌, ◌<◌, ◌≤◌, inl, inr, false, cond, not, Option, Some, None, is_none, List, [], ◌∷◌, ◌++◌, length, length-append, refl, ap, ◌∙◌, arith, eq-eqb}
use Rattle.std.specs.Option.{option_map}
use Rattle.std.specs.Prelude.{slice_get, slice_set}
use Rattle.std.proofs.lemmas.Bool.Decides.{leb_tells}
use Rattle.disk_dcdd.specs.declared.sector.SectorWrite.{SectorWrite}
use Rattle.event_callbacks.specs.declared.operations.OpId.TheVariants as id
use Rattle.guest_lockstep.specs.Machine.{refusal_of}
use Rattle.guest_lockstep.specs.Outstanding.{completed_by}
use Rattle.guest_lockstep.specs.declared.input.Input.TheVariants as input
use Rattle.i8080_words.specs.declared.refusal.Fault.TheVariants.{NotDue, WrongNumber}
use Rattle.pair_protocol.proofs.Words.{Byte, Copying, Input, IsCopying, Lawful, Machine, Move, Node, OpId, Operation, Released, Runs, Spare, Terminal, World, Write, WriteDone, acceptances, accepted, accepted_after, accepted_in, id_of, inputs, is_role, terminal_in}
use Rattle.pair_protocol.specs.Effects.{took}
use Rattle.pair_protocol.specs.Refusals.{fault_if, is_number, log_full, log_spent, put_reply_refusal, release_refusal, serves, tell_sent_refusal}
use Rattle.pair_protocol.proofs.Promises.OneMore.{accepted-one, next_byte, terminal-set}
use Rattle.pair_progress.specs.Completion.{Responds}
use Rattle.pair_progress.proofs.Passing.{at_here, passed}
use Rattle.host_law.specs.Frame.{sending}
use Rattle.host_law.specs.Host.{HasPort, Passes}
use Rattle.host_law.specs.Host as host
use Rattle.host_law.specs.Outside.{with_arrived}
use Rattle.host_law.specs.Outside as outside
use Rattle.host_law.proofs.Words.{AreAccepted, Carries, Fleet, HostStep, Outside, Shows}
use Rattle.host_progress.specs.Exchanges.{HostsReach}
use Rattle.host_progress.proofs.Answering.{in_three, in_two, is_told}
use Rattle.host_progress.proofs.Exchanging.{at_most}

-- an operation of a byte's name is that byte, and one of a write's name is a write of that number
is_byte : (o : Operation) (port number : ℕ) → id_of o ≡ id.Byte port number → (byte : ℕ) × (o ≡ Byte port number byte)
is_byte (Byte p k byte) port number h =
    let a : p ≡ port = (cc) in
    let b : k ≡ number = (cc) in
    (byte, λ i. Byte (a i) (b i) byte)
is_byte (Write v) port number h = absurd (cc)

is_write : (o : Operation) (number : ℕ) → id_of o ≡ id.Write number → (v : SectorWrite) × (o ≡ Write v) × (v.number ≡ number)
is_write (Byte p k byte) number h = absurd (cc)
is_write (Write v) number h = (v, refl, (cc))

found_as : (p : Option Operation) (o q : Operation) → p ≡ Some o → o ≡ q → p ≡ Some q
found_as p o q found same = found ∙ ap (λ (z : Operation). Some z) same

-- a node that serves, and refuses no completion
pub record MayComplete {S : Type 0} (M : Machine S) (x : Node S) : Type 0 where
  pub real : is_role x.role Spare ≡ false
  pub serving : serves x ≡ None
  pub not_full : log_full x ≡ None
  pub not_spent : log_spent x ≡ None
  pub releases : (name : OpId) (o : Operation) → M.find x.machine name ≡ Some o → release_refusal M name x ≡ None
  pub moves : List Move
  pub runs : Runs M M.boot moves x.machine

-- one of the operations that were outstanding is no longer, and the others are as they were
pub record HasCompleted {S : Type 0} (M : Machine S) (x : Node S) : Type 0 where
  pub t : S
  pub j : Input
  pub gone : OpId
  pub o : Operation
  pub was : M.find x.machine gone ≡ Some o
  pub now : M.find t gone ≡ None
  pub others : (name : OpId) → name ≢ gone → M.find t name ≡ M.find x.machine name

-- the node afterwards
abbrev pub completed : {S : Type 0} (M : Machine S) (x : Node S) → HasCompleted M x → Node S
completed M x c = took M x x.role c.t c.j

module _ {S : Type 0} (M : Machine S) (x : Node S) (v : MayComplete M x) where
  passes : (part : Node S → _) → part x ≡ None → Passes x part
  passes part free = at_here (Some x) x part refl v.real free

  may_hear : (port k : ℕ) → M.due_byte x.machine port ≡ Some k → Passes x (tell_sent_refusal M port k)
  may_hear port k due = passes (tell_sent_refusal M port k)
      (passed (serves x) _ v.serving
      (passed (refusal_of M x.machine (input.Sent port)) _ (ap (λ o. cond (is_none o) (Some NotDue) None) due)
      (passed (fault_if (not (is_number (M.due_byte x.machine port) k)) WrongNumber) _
      (ap (λ o. fault_if (not (is_number o k)) WrongNumber) due
      ∙ ap (λ b. fault_if (not b) WrongNumber) (eq-eqb k k refl))
      (passed (log_full x) _ v.not_full (passed (log_spent x) [] v.not_spent refl)))))

  may_finish : (number : ℕ) (o : Operation) → M.find x.machine (id.Write number) ≡ Some o →
      Passes x (put_reply_refusal M number)
  may_finish number o found = passes (put_reply_refusal M number)
      (passed (serves x) _ v.serving
      (passed (refusal_of M x.machine (input.Written number)) _ (ap (λ z. cond (is_none z) (Some NotDue) None) found)
      (passed (log_full x) _ v.not_full (passed (log_spent x) [] v.not_spent refl))))

  abbrev gives : (responds : Responds M) (t : S) (j : Input) (gone : OpId) (o : Operation) → M.take x.machine j ≡ Some t →
      completed_by M x.machine j ≡ Some gone → M.find x.machine gone ≡ Some o → HasCompleted M x
  gives responds t j gone o h done was =
      let g = responds.operations.goes x.machine t j gone h done in
      record { t = t; j = j; gone = gone; o = o; was = was; now = g.0; others = g.1 }

module _ {S : Type 0} (M : Machine S) (C : Copying S) (laws : Lawful M) (copies : IsCopying M C) (responds : Responds M)
    (n : ℕ) (Who : ℕ → Type 0) (who : Who n) (End : World S → Type 0) (most : ℕ) where
  -- whatever was completed, so many steps lead on from there
  abbrev pub Later : Fleet S → Node S → Type 0
  Later f x = (c : HasCompleted M x) (l : Fleet S) (v : World S) → Shows M C l v →
      l.hosts ≡ slice_set f.hosts n (completed M x c) → HostsReach M C l Who most End

  module _ (x : Node S) (may : MayComplete M x) where
    -- the byte that is due was accepted, and the host is told
    tells : (f : Fleet S) (w : World S) → Shows M C f w → slice_get f.hosts n ≡ Some x → (port k : ℕ) (o : Operation) →
        M.due_byte x.machine port ≡ Some k → 1 ≤ k → k ≤ length (accepted_in f.outside.terminals port) →
        M.find x.machine (id.Byte port k) ≡ Some o → Later f x → HostsReach M C f Who (suc (suc most)) End
    tells f w h there port k o due some le found rest =
        let t = responds.takes_byte may.moves x.machine port k may.runs due in
        let c = gives M x may responds t.0 (input.Sent port) (id.Byte port k) o t.1 (ap (option_map (id.Byte port)) due) found in
        is_told M C laws copies Who End f w h n x there who most (AreAccepted port k) (outside.SendsCount port k le)
        (completed M x c)
        (host.TakesAcceptance port k k (completed M x c) (may_hear M x may port k due) some (omega arith)
        (record { s = t.0; takes = t.1; after = refl }))
        (λ l v shown hosts o. rest c l v shown hosts)

    releases_it : (name : OpId) (o : Operation) → HasPort name → M.find x.machine name ≡ Some o →
        HostStep M C n x (sending (Carries (Released o))) x
    releases_it name o port found =
        host.Releases name o port (passes M x may (release_refusal M name) (may.releases name o found)) found

    -- the terminal has one byte more
    one_more : (f : Fleet S) (w : World S) → Shows M C f w → (port k byte : ℕ) → port < 2 →
        k ≡ length (accepted_in f.outside.terminals port) + 1 →
        k ≤ length (accepted_in (with_arrived f.outside port k byte).terminals port)
    one_more f w h port k byte two next =
        let ts = f.outside.terminals in
        let old = accepted_in ts port in
        let inside : port < length ts = let e = h.terminals.ports in omega (arith, e, two) in
        let all : accepted_in (with_arrived f.outside port k byte).terminals port
        ≡ old ++ next_byte (length old) (record { number = k; byte = byte }) =
        ap (λ (t : Terminal). accepted_after 0 t.arrivals) (terminal-set ts port
        (record (terminal_in ts port) { arrivals = (terminal_in ts port).arrivals ++ record { number = k; byte = byte } ∷ [] })
        inside)
        ∙ accepted-one (terminal_in ts port).arrivals (record { number = k; byte = byte }) in
        let one : next_byte (length old) (record { number = k; byte = byte }) ≡ byte ∷ [] =
        ap (λ b. cond b (byte ∷ []) []) (eq-eqb k (length old + 1) next) in
        let e = ap length (all ∙ ap (λ bs. old ++ bs) one) in
        let l = length-append old (byte ∷ []) in
        omega (arith, e, l, next)

    -- it is released, it arrives, and the host is told
    sends_byte : (f : Fleet S) (w : World S) → Shows M C f w → slice_get f.hosts n ≡ Some x → (port k byte : ℕ) → port < 2 →
        M.due_byte x.machine port ≡ Some k → M.find x.machine (id.Byte port k) ≡ Some (Byte port k byte) →
        k ≡ length (accepted_in f.outside.terminals port) + 1 → Later f x →
        HostsReach M C f Who (suc (suc (suc (suc most)))) End
    sends_byte f w h there port k byte two due found next rest =
        in_two M C laws copies Who End f w h n x there who (suc (suc most)) (Carries (Released (Byte port k byte)))
        (releases_it (id.Byte port k) (Byte port k byte) two found) (with_arrived f.outside port k byte)
        (outside.Arrives port k byte)
        (λ l v shown hosts o. tells l v shown (ap (λ xs. slice_get xs n) hosts ∙ there) port k (Byte port k byte) due
        (omega (arith, next))
        (let e = ap (λ (p : Outside). length (accepted_in p.terminals port)) o in
        let m = one_more f w h port k byte two next in omega (arith, e, m))
        found
        (λ c z u seen same. rest c z u seen (same ∙ ap (λ xs. slice_set xs n (completed M x c)) hosts)))

    -- a write is released, it is put, and the answer arrives
    sends_write : (f : Fleet S) (w : World S) → Shows M C f w → slice_get f.hosts n ≡ Some x → (v : SectorWrite) →
        M.find x.machine (id.Write v.number) ≡ Some (Write v) → Later f x →
        HostsReach M C f Who (suc (suc (suc most))) End
    sends_write f w h there v found rest =
        let t = responds.takes_write may.moves x.machine v.number (Write v) may.runs found in
        let c = gives M x may responds t.0 (input.Written v.number) (id.Write v.number) (Write v) t.1 refl found in
        in_three M C laws copies Who End f w h n x there who most (Carries (Released (Write v)))
        (releases_it (id.Write v.number) (Write v) tt found) (Carries (WriteDone v.number)) _ (outside.Puts v) n x
        (completed M x c) there who
        (host.TakesDone v.number (completed M x c) (may_finish M x may v.number (Write v) found)
        (record { s = t.0; takes = t.1; after = refl }))
        (λ l u shown hosts o. rest c l u shown hosts)

    -- ---- either

    pub completes : (f : Fleet S) (w : World S) → Shows M C f w → slice_get f.hosts n ≡ Some x →
        ((port : ℕ) → acceptances port (inputs 0 may.moves) ≤ length (accepted w port)) → (name : OpId) (o : Operation) →
        M.find x.machine name ≡ Some o → Later f x → HostsReach M C f Who (suc (suc (suc (suc most)))) End
    completes f w h there accepts (id.Byte port number) o found rest =
        let s = x.machine in
        let d = responds.due may.moves s port number o may.runs found in
        let k = d.1.0 in
        let next : k ≡ acceptances port (inputs 0 may.moves) + 1 = laws.due may.moves s port k may.runs d.1.1 in
        let b = responds.found may.moves s port k may.runs d.1.1 in
        let is = is_byte b.0 port k (laws.named may.moves s (id.Byte port k) b.0 may.runs b.1) in
        let came : acceptances port (inputs 0 may.moves) ≤ length (accepted w port) = accepts port in
        let same = ap (λ z. length (accepted_after 0 z)) (h.terminals.each port).arrivals in
        elim (leb_tells k (length (accepted_in f.outside.terminals port))) [
          | inl p ↦ at_most M C Who End f (suc (suc most)) (suc (suc (suc (suc most)))) (omega arith)
              (tells f w h there port k b.0 d.1.1 (omega (arith, next)) p.1 b.1 rest)
          | inr p ↦ sends_byte f w h there port k is.0 d.0 d.1.1
              (found_as (M.find s (id.Byte port k)) b.0 (Byte port k is.0) b.1 is.1)
              (let l = p.1 in omega (arith, next, came, l, same)) rest
        ]
    completes f w h there accepts (id.Write number) o found rest =
        let is = is_write o number (laws.named may.moves x.machine (id.Write number) o may.runs found) in
        at_most M C Who End f (suc (suc (suc most))) (suc (suc (suc (suc most)))) (omega arith)
        (sends_write f w h there is.0
        (found_as (M.find x.machine (id.Write is.0.number)) o (Write is.0)
        (ap (λ k. M.find x.machine (id.Write k)) is.2 ∙ found) is.1) rest)
