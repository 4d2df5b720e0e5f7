-- The bytes of a trace. At each port as many were sent as its output has, and those of them that no input accepts are
-- unaccepted, 16 at most. So bytes are numbered from 1, and the next one to be accepted is the oldest that is not
-- accepted.
use Rattle.std.proofs.Common.{◌≡◌, ◌≢◌, ℕ, zero, suc, ◌+◌, ◌-◌, ◌≤◌, ◌<◌, Bool, true, false, cond, List, [], ◌∷◌, ◌++◌, length, Option, Some, None, ◌⊎◌, inl, inr, refl, sym, ap, ◌∙◌, subst, arith}
use Rattle.std.specs.Prelude.{slice_index, slice_index_or, slice_set, nat_lt, ◌==◌, ◌&&◌}
use Rattle.std.proofs.lemmas.Bool.{ltb-true, lt-ltb, and_parts, cases_lt}
use Rattle.std.proofs.lemmas.Bool.Decides.{eqb_tells}
use Rattle.std.proofs.lemmas.List.{length-set, get_or-set_same, get_or-set_other, get_or_past}
use Rattle.std.proofs.lemmas.Option.{cond_some, same_Some}
use Rattle.serial_2sio.specs.Port as serial
use Rattle.guest_board.proofs.Boot.{two_zeros}
use Rattle.altair_laws.proofs.Words.{Byte, Do, Guest, Input, Move, Operation, Processor, Reaches, Rx, SectorAddress, Sent, Setup, Take, Wired, Write, acceptances, acceptances_of-append, after_byte, after_rx, after_sent, altair, due_byte, guest_at_boot, inputs, oldest_byte, output, port_of, runs-split, stepped, take_from, wired}
use Rattle.altair_laws.proofs.Moves.{Tells, from_boot, length-output}
use Rattle.altair_laws.proofs.Steps.{Gave, GaveNothing, GaveByte, GaveWrite, Steps, steps_from, after_step, same_unaccepted}

pub record Bytes (moves : List Move) (g : Guest) : Type 0 where
  pub two : length g.devices.ports ≡ 2
  pub counts : length g.issued ≡ 2
  pub sent : (port : ℕ) → port < 2 → slice_index g.issued port ≡ length (output port moves)
  pub none : (port : ℕ) → 2 ≤ port → length (output port moves) ≡ 0
  pub balance : (port : ℕ) → port < 2
      → slice_index g.issued port ≡ acceptances port (inputs 0 moves) + (port_of g.devices port).unaccepted
  pub few : (port : ℕ) → (port_of g.devices port).unaccepted ≤ serial.window

pub no_bytes : (port : ℕ) → (slice_index_or (serial.at_boot ∷ serial.at_boot ∷ []) port serial.at_boot).unaccepted ≡ 0
no_bytes zero = refl
no_bytes (suc zero) = refl
no_bytes (suc (suc port)) = refl

pub bytes-boot : (setup : Setup) → Bytes [] (guest_at_boot setup)
bytes-boot setup = record {
  two = refl;
  counts = refl;
  sent = λ port l. two_zeros port;
  none = λ port l. refl;
  balance = λ port l. (let z = two_zeros port in let n = no_bytes port in (omega arith));
  few = λ port. (let n = no_bytes port in (omega arith));
}

-- no byte is sent and none is accepted
bytes-still : (moves : List Move) (m : Move) (g u : Guest) → Bytes moves g
    → ((port : ℕ) → length (output port (m ∷ [])) ≡ 0)
    → ((port : ℕ) → acceptances port (inputs 0 (m ∷ [])) ≡ 0) → u.issued ≡ g.issued
    → length u.devices.ports ≡ length g.devices.ports
    → ((port : ℕ) → (port_of u.devices port).unaccepted ≡ (port_of g.devices port).unaccepted)
    → Bytes (moves ++ m ∷ []) u
bytes-still moves m g u b no_output no_acceptance i ports unaccepted = record {
  two = ports ∙ b.two;
  counts = ap length i ∙ b.counts;
  sent = λ p l. (let o = length-output p moves (m ∷ []) in let z = no_output p in let s = b.sent p l in
      let e = ap (λ xs. slice_index xs p) i in (omega arith));
  none = λ p l. (let o = length-output p moves (m ∷ []) in let z = no_output p in let s = b.none p l in (omega arith));
  balance = λ p l. (let a = acceptances_of-append p 0 moves (m ∷ []) in let z = no_acceptance p in let s = b.balance p l in
      let e = ap (λ xs. slice_index xs p) i in let t = unaccepted p in (omega arith));
  few = λ p. (let t = unaccepted p in let f = b.few p in (omega arith));
}

-- ---- a byte is sent

-- the step that sends the next byte of a port
abbrev sends : Guest → ℕ → ℕ → Move
sends g port byte = Do (Some (Byte port (slice_index g.issued port + 1) byte))

-- the window has one more byte
pub sent-more : (port : serial.Port) → port.unaccepted < serial.window
    → (serial.after_data_out port).unaccepted ≡ port.unaccepted + 1
sent-more port l =
    ap (λ b. (cond b (record port { unaccepted = port.unaccepted + 1 }) port).unaccepted)
    (lt-ltb port.unaccepted serial.window l)

bytes-sent : (moves : List Move) (g : Guest) (processor : Processor) (port byte : ℕ) → Bytes moves g → port < 2
    → (port_of g.devices port).unaccepted < serial.window
    → Bytes (moves ++ sends g port byte ∷ []) (stepped g processor (after_byte (wired g) port byte))
bytes-sent moves g processor port byte b inside room = record {
  two = length-set g.devices.ports port _ ∙ b.two;
  counts = length-set g.issued port _ ∙ b.counts;
  sent = λ p l. sent_at p l (eqb_tells p port);
  none = λ p l. none_at p l (eqb_tells p port);
  balance = λ p l. balance_at p l (eqb_tells p port);
  few = λ p. few_at p (eqb_tells p port);
}
  where
    issued : ℕ → ℕ
    issued p = slice_index (slice_set g.issued port (slice_index g.issued port + 1)) p

    after : ℕ → ℕ
    after p = (slice_index_or
        (slice_set g.devices.ports port (serial.after_data_out (port_of g.devices port))) p serial.at_boot).unaccepted

    one : (p : ℕ) (t : Bool) → (p == port) ≡ t
        → length (output p (sends g port byte ∷ [])) ≡ length {A = ℕ} (cond t (byte ∷ []) [] ++ [])
    one p t e = ap (λ t. length {A = ℕ} (cond t (byte ∷ []) [] ++ [])) e

    issued_same : (p : ℕ) → p ≡ port → issued p ≡ slice_index g.issued port + 1
    issued_same p e =
        ap issued e
        ∙ get_or-set_same g.issued port (slice_index g.issued port + 1) 0 (let c = b.counts in omega arith)

    port_same : (p : ℕ) → p ≡ port
        → after p ≡ (port_of g.devices port).unaccepted + 1
    port_same p e =
        ap after e
        ∙ ap (λ (q : serial.Port). q.unaccepted)
        (get_or-set_same g.devices.ports port (serial.after_data_out (port_of g.devices port)) serial.at_boot
        (let c = b.two in omega arith))
        ∙ sent-more (port_of g.devices port) room

    issued_other : (p : ℕ) → p ≢ port → issued p ≡ slice_index g.issued p
    issued_other p n = get_or-set_other g.issued port p (slice_index g.issued port + 1) 0 n

    port_other : (p : ℕ) → p ≢ port
        → after p ≡ (port_of g.devices p).unaccepted
    port_other p n =
        ap (λ (q : serial.Port). q.unaccepted)
        (get_or-set_other g.devices.ports port p (serial.after_data_out (port_of g.devices port)) serial.at_boot n)

    sent_at : (p : ℕ) → p < 2 → Tells p port
        → issued p ≡ length (output p (moves ++ sends g port byte ∷ []))
    sent_at p l (inl e) =
        let i = issued_same p e.1 in let s = b.sent p l in let k = ap (slice_index g.issued) e.1 in
        let o = one p true e.0 in let m = length-output p moves (sends g port byte ∷ []) in omega arith
    sent_at p l (inr e) =
        let i = issued_other p e.1 in let s = b.sent p l in
        let o = one p false e.0 in let m = length-output p moves (sends g port byte ∷ []) in omega arith

    none_at : (p : ℕ) → 2 ≤ p → Tells p port
        → length (output p (moves ++ sends g port byte ∷ [])) ≡ 0
    none_at p l (inl e) = let z = e.1 in absurd (omega arith)
    none_at p l (inr e) =
        let s = b.none p l in let o = one p false e.0 in
        let m = length-output p moves (sends g port byte ∷ []) in omega arith

    balance_at : (p : ℕ) → p < 2 → Tells p port
        → slice_index (slice_set g.issued port (slice_index g.issued port + 1)) p
        ≡ acceptances p (inputs 0 (moves ++ sends g port byte ∷ []))
        + after p
    balance_at p l (inl e) =
        let i = issued_same p e.1 in let q = port_same p e.1 in let s = b.balance p l in
        let k = ap (slice_index g.issued) e.1 in let t = ap (λ n. (port_of g.devices n).unaccepted) e.1 in
        let a = acceptances_of-append p 0 moves (sends g port byte ∷ []) in omega arith
    balance_at p l (inr e) =
        let i = issued_other p e.1 in let q = port_other p e.1 in let s = b.balance p l in
        let a = acceptances_of-append p 0 moves (sends g port byte ∷ []) in omega arith

    few_at : (p : ℕ) → Tells p port
        → after p ≤ serial.window
    few_at p (inl e) = let q = port_same p e.1 in omega arith
    few_at p (inr e) = let q = port_other p e.1 in let f = b.few p in omega arith

pub bytes-step : (moves : List Move) (g u : Guest) (gives : Option Operation) → Bytes moves g → Steps g u gives
    → Bytes (moves ++ Do gives ∷ []) u
bytes-step moves g u gives b k = after_step Bytes moves g u gives k (at k.behind k.gave)
  where
    at : (w : Wired) → Gave (wired g) w → Bytes (moves ++ Do w.given ∷ []) (stepped g k.processor w)
    at w (GaveNothing _ e q) = subst (λ o. Bytes (moves ++ Do o ∷ []) (stepped g k.processor w)) (sym e)
        (bytes-still moves (Do None) g (stepped g k.processor w) b (λ p. refl)
        (λ p. refl) q.issued q.ports q.unaccepted)
    at w (GaveByte port byte inside l room) = bytes-sent moves g k.processor port byte b inside room
    at w (GaveWrite byte write e l) =
        bytes-still moves (Do (Some (Write write))) g _ b (λ p. refl) (λ p. refl) refl refl (λ p. refl)

-- ---- a byte is accepted

-- the window has one byte less
pub accepted-less : (port : serial.Port) → 0 < port.unaccepted
    → (serial.after_sent port).unaccepted ≡ port.unaccepted - 1
accepted-less port l =
    ap (λ b. (cond b (record port { unaccepted = port.unaccepted - 1 }) port).unaccepted) (lt-ltb 0 port.unaccepted l)

bytes-accepted : (moves : List Move) (g : Guest) (port : ℕ) → Bytes moves g → port < 2
    → 0 < (port_of g.devices port).unaccepted
    → Bytes (moves ++ Take (Sent port) ∷ []) (after_sent g port)
bytes-accepted moves g port b inside some = record {
  two = length-set g.devices.ports port _ ∙ b.two;
  counts = b.counts;
  sent = λ p l. (let s = b.sent p l in let o = length-output p moves (Take (Sent port) ∷ []) in (omega arith));
  none = λ p l. (let s = b.none p l in let o = length-output p moves (Take (Sent port) ∷ []) in (omega arith));
  balance = λ p l. balance_at p l (eqb_tells p port);
  few = λ p. few_at p (eqb_tells p port);
}
  where
    after : ℕ → ℕ
    after p = (slice_index_or
        (slice_set g.devices.ports port (serial.after_sent (port_of g.devices port))) p serial.at_boot).unaccepted

    port_same : (p : ℕ) → p ≡ port → after p ≡ (port_of g.devices port).unaccepted - 1
    port_same p e =
        ap after e
        ∙ ap (λ (q : serial.Port). q.unaccepted)
        (get_or-set_same g.devices.ports port (serial.after_sent (port_of g.devices port)) serial.at_boot (let c =
        b.two in omega arith))
        ∙ accepted-less (port_of g.devices port) some

    port_other : (p : ℕ) → p ≢ port → after p ≡ (port_of g.devices p).unaccepted
    port_other p n =
        ap (λ (q : serial.Port). q.unaccepted)
        (get_or-set_other g.devices.ports port p (serial.after_sent (port_of g.devices port)) serial.at_boot n)

    one : (p : ℕ) (t : Bool) → (p == port) ≡ t → acceptances p (inputs 0 (Take (Sent port) ∷ [])) ≡ cond t 1 0 + 0
    one p t e = ap (λ t. cond t 1 0 + 0) e

    balance_at : (p : ℕ) → p < 2 → Tells p port
        → slice_index g.issued p ≡ acceptances p (inputs 0 (moves ++ Take (Sent port) ∷ [])) + after p
    balance_at p l (inl e) =
        let q = port_same p e.1 in let s = b.balance p l in let t = ap (λ n. (port_of g.devices n).unaccepted) e.1 in
        let o = one p true e.0 in let a = acceptances_of-append p 0 moves (Take (Sent port) ∷ []) in omega arith
    balance_at p l (inr e) =
        let q = port_other p e.1 in let s = b.balance p l in
        let o = one p false e.0 in let a = acceptances_of-append p 0 moves (Take (Sent port) ∷ []) in omega arith

    few_at : (p : ℕ) → Tells p port → after p ≤ serial.window
    few_at p (inl e) = let q = port_same p e.1 in let f = b.few port in omega arith
    few_at p (inr e) = let q = port_other p e.1 in let f = b.few p in omega arith

pub bytes-take : (moves : List Move) (g u : Guest) (i : Input) → Bytes moves g → take_from g i ≡ Some u
    → Bytes (moves ++ Take i ∷ []) u
bytes-take moves g u (Rx port byte) b h =
    subst (Bytes (moves ++ Take (Rx port byte) ∷ [])) (cond_some _ _ u h).1
    (bytes-still moves (Take (Rx port byte)) g (after_rx g port byte) b (λ p. refl) (λ p. refl) refl
    (length-set g.devices.ports port _) (same_unaccepted g.devices.ports port _ refl))
bytes-take moves g u (Sent port) b h =
    let t = cond_some (nat_lt port 2 && serial.is_sent_due (port_of g.devices port)) (after_sent g port) u h in
    let d = and_parts (nat_lt port 2) (serial.is_sent_due (port_of g.devices port)) t.0 in
    subst (Bytes (moves ++ Take (Sent port) ∷ [])) t.1
    (bytes-accepted moves g port b (ltb-true port 2 d.0) (ltb-true 0 (port_of g.devices port).unaccepted d.1))
bytes-take moves g u i b h = subst (Bytes (moves ++ Take i ∷ [])) (cond_some _ _ u h).1
    (bytes-still moves (Take i) g _ b (λ p. refl) (λ p. refl) refl refl (λ p. refl))

pub bytes_after : (setup : Setup) (sectors : SectorAddress → List ℕ) (moves : List Move) (g : Guest)
    → Reaches (altair setup sectors) moves g → Bytes moves g
bytes_after setup sectors = from_boot (altair setup sectors) Bytes (bytes-boot setup) (record {
  steps = λ moves g u gives b h. bytes-step moves g u gives b (steps_from g u gives h);
  takes = λ moves g u i b h. bytes-take moves g u i b h;
})

-- ---- what the pair asks

pub window_is : (moves : List Move) (g : Guest) (port : ℕ) → Bytes moves g
    → length (output port moves) ≤ acceptances port (inputs 0 moves) + serial.window
window_is moves g port b = go (cases_lt port 2)
  where
    go : (port < 2) ⊎ (2 ≤ port) → length (output port moves) ≤ acceptances port (inputs 0 moves) + serial.window
    go (inl l) = let s = b.sent port l in let t = b.balance port l in let f = b.few port in omega arith
    go (inr l) = let s = b.none port l in omega arith

pub due_is : (moves : List Move) (g : Guest) (port number : ℕ) → Bytes moves g → due_byte g port ≡ Some number
    → number ≡ acceptances port (inputs 0 moves) + 1
due_is moves g port number b h =
    let t = cond_some (nat_lt port 2 && serial.is_sent_due (port_of g.devices port)) (oldest_byte g port) number h in
    let l = ltb-true port 2 (and_parts (nat_lt port 2) (serial.is_sent_due (port_of g.devices port)) t.0).0 in
    let s = b.balance port l in let e = t.1 in omega arith

-- the bytes of a port that are not accepted were sent
pub unaccepted_sent : (moves : List Move) (g : Guest) (port : ℕ) → Bytes moves g
    → (port_of g.devices port).unaccepted ≤ slice_index g.issued port
unaccepted_sent moves g port b = go (cases_lt port 2)
  where
    go : (port < 2) ⊎ (2 ≤ port) → (port_of g.devices port).unaccepted ≤ slice_index g.issued port
    go (inl l) = let t = b.balance port l in omega arith
    go (inr l) = let e =
        ap (λ (q : serial.Port). q.unaccepted) (get_or_past g.devices.ports port serial.at_boot (let t = b.two in
        omega arith)) in omega arith

numbered_now : (moves : List Move) (g : Guest) (w : Wired) (port number byte : ℕ) → Bytes moves g → Gave (wired g) w
    → w.given ≡ Some (Byte port number byte) → number ≡ length (output port moves) + 1
numbered_now moves g w port number byte b (GaveNothing _ e q) h = (cc)
numbered_now moves g w port number byte b (GaveByte p sent inside l room) h =
    let e = same_Some (Byte p (slice_index g.issued p + 1) sent) (Byte port number byte) h in
    let n : slice_index g.issued p + 1 ≡ number = cc in
    let q : p ≡ port = cc in
    let s = b.sent p inside in let t = ap (λ i. length (output i moves)) q in omega arith
numbered_now moves g w port number byte b (GaveWrite sent write e l) h = (cc)

pub numbered_is : (setup : Setup) (sectors : SectorAddress → List ℕ)
    (moves : List Move) (g : Guest) (port number byte : ℕ)
    → Reaches (altair setup sectors) (moves ++ Do (Some (Byte port number byte)) ∷ []) g
    → number ≡ length (output port moves) + 1
numbered_is setup sectors moves g port number byte r =
    let t = runs-split (altair setup sectors) (guest_at_boot setup) g moves
    (Do (Some (Byte port number byte)) ∷ []) r in
    let k = steps_from t.0 t.2.0 (Some (Byte port number byte)) t.2.1 in
    numbered_now moves t.0 k.behind port number byte (bytes_after setup sectors moves t.0 t.1) k.gave k.gives_is
