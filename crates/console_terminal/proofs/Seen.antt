-- What is seen of what was kept, or of one byte that was accepted, and what stays: lists of bytes of one port or of both.
use Rattle.std.proofs.lemmas.Bool.Decides.{nat_tests}
use Rattle.std.proofs.Common.{ℕ, ◌==◌, ◌≡◌, Bool, true, false, if◌then◌else◌, filter, map, Option, Some, None, List, [], ◌∷◌, ◌++◌, append-nil, refl, sym, ap, ◌∙◌, subst, arith}
use Rattle.std.proofs.lemmas.Bool.{false≢true}
use Rattle.std.specs.Prelude.{not}
use Rattle.console_terminal.specs.Lines.{shown_at}
use Rattle.console_terminal.specs.declared.screen.Shown.{Shown}
use Rattle.console_terminal.specs.Commands.{number_of_port}
use Rattle.console_terminal.specs.Screen.{but_at, bytes_seen, is_looked_at, unseen}
use Rattle.console_terminal.specs.declared.port.Port.{Port}

-- ---- bytes of a port, one list after another

shown_beside : (is_here : Bool) (first : ℕ) (all xs ys : List ℕ) → all ≡ xs ++ ys →
    (if is_here then first ∷ all else all) ≡ (if is_here then first ∷ xs else xs) ++ ys
shown_beside true first all xs ys p = ap (λ l. first ∷ l) p
shown_beside false first all xs ys p = p

pub shown_both : (port : ℕ) (xs ys : List Shown) → shown_at port (xs ++ ys) ≡ shown_at port xs ++ shown_at port ys
shown_both port [] ys = refl
shown_both port (s ∷ xs) ys =
    shown_beside (s.port == port) s.byte (shown_at port (xs ++ ys)) (shown_at port xs) (shown_at port ys) (shown_both port xs ys)

-- ---- bytes of a port among those that pass a test

not_true : (b : Bool) → (b ≡ true → false ≡ true) → b ≡ false
not_true true h = sym (h refl)
not_true false h = refl

if_same : (port : ℕ) (s : Shown) (rest all : List Shown) (passes : Bool) → ((s.port == port) ≡ true → passes ≡ true)
    → shown_at port rest ≡ shown_at port all → shown_at port (if passes then s ∷ rest else rest) ≡ shown_at port (s ∷ all)
if_same port s rest all true h p = ap (λ l. if s.port == port then s.byte ∷ l else l) p
if_same port s rest all false h p = rw (not_true (s.port == port) h) p

-- all pass
shown_same : (port : ℕ) (test : Shown → Bool) → ((s : Shown) → (s.port == port) ≡ true → test s ≡ true) → (all : List Shown)
    → shown_at port (filter test all) ≡ shown_at port all
shown_same port test h [] = refl
shown_same port test h (s ∷ all) = if_same port s (filter test all) all (test s) (h s) (shown_same port test h all)

if_none : (port : ℕ) (s : Shown) (rest : List Shown) (passes : Bool) → ((s.port == port) ≡ true → passes ≡ false)
    → shown_at port rest ≡ [] → shown_at port (if passes then s ∷ rest else rest) ≡ []
if_none port s rest true h p = rw (not_true (s.port == port) (λ here. sym (h here))) p
if_none port s rest false h p = p

-- none passes
shown_none : (port : ℕ) (test : Shown → Bool) → ((s : Shown) → (s.port == port) ≡ true → test s ≡ false) → (all : List Shown)
    → shown_at port (filter test all) ≡ []
shown_none port test h [] = refl
shown_none port test h (s ∷ all) = if_none port s (filter test all) (test s) (h s) (shown_none port test h all)

-- one port or another
same_port : (x n port : ℕ) → (port == n) ≡ true → (x == port) ≡ true → (x == n) ≡ true
same_port x n port p q = grind (arith, nat_tests)

other_port : (x n port : ℕ) → (port == n) ≡ false → (x == port) ≡ true → (x == n) ≡ false
other_port x n port p q = grind (arith, nat_tests)

-- ---- what is seen of what was kept, or of one byte

abbrev pub seen_now : Option Port → List Shown → List Shown
seen_now look shown = filter (λ s. is_looked_at look s.port) shown

if_bytes : (is_seen : Bool) (s : Shown) (rest : List Shown) (bytes : List ℕ) → map (λ (s : Shown). s.byte) rest ≡ bytes
    → map (λ (s : Shown). s.byte) (if is_seen then s ∷ rest else rest) ≡ (if is_seen then s.byte ∷ bytes else bytes)
if_bytes true s rest bytes p = ap (λ l. s.byte ∷ l) p
if_bytes false s rest bytes p = p

pub seen_bytes : (look : Option Port) (kept : List Shown) → map (λ (s : Shown). s.byte) (seen_now look kept) ≡ bytes_seen look kept
seen_bytes None [] = refl
seen_bytes (Some at) [] = refl
seen_bytes None (s ∷ kept) = seen_bytes None kept
seen_bytes (Some at) (s ∷ kept) =
    if_bytes (s.port == number_of_port at) s (seen_now (Some at) kept) (bytes_seen (Some at) kept) (seen_bytes (Some at) kept)

none_seen : (kept : List Shown) → seen_now None kept ≡ []
none_seen [] = refl
none_seen (s ∷ kept) = none_seen kept

parted : (n port : ℕ) (is_here : Bool) → (port == n) ≡ is_here → (kept : List Shown)
    → shown_at port (filter (λ s. s.port == n) kept) ++ shown_at port (but_at n kept) ≡ shown_at port kept
parted n port true h kept =
    ap (λ l. l ++ shown_at port (but_at n kept)) (shown_same port (λ s. s.port == n) (λ s here. same_port s.port n port h here) kept)
    ∙ ap (λ l. shown_at port kept ++ l) (shown_none port (λ s. not (s.port == n)) (λ s here. ap not (same_port s.port n port h here)) kept)
    ∙ append-nil (shown_at port kept)
parted n port false h kept =
    ap (λ l. l ++ shown_at port (but_at n kept)) (shown_none port (λ s. s.port == n) (λ s here. other_port s.port n port h here) kept)
    ∙ shown_same port (λ s. not (s.port == n)) (λ s here. ap not (other_port s.port n port h here)) kept

-- what was kept is seen, or still kept
pub seen_parted : (look : Option Port) (port : ℕ) (kept : List Shown) →
    shown_at port (seen_now look kept) ++ shown_at port (unseen look kept) ≡ shown_at port kept
seen_parted None port kept = ap (λ l. shown_at port l ++ shown_at port kept) (none_seen kept)
seen_parted (Some at) port kept = parted (number_of_port at) port (port == number_of_port at) refl kept

-- nothing is left of the terminal that one has turned to
pub seen_clear : (look : Option Port) (kept : List Shown) (port : ℕ) → is_looked_at look port ≡ true → shown_at port (unseen look kept) ≡ []
seen_clear None kept port h = cc
seen_clear (Some at) kept port h =
    shown_none port (λ s. not (s.port == number_of_port at)) (λ s here. ap not (same_port s.port (number_of_port at) port h here)) kept

-- ---- one byte that was accepted

pub one_byte : (is_seen : Bool) (s : Shown) → map (λ (s : Shown). s.byte) (if is_seen then s ∷ [] else []) ≡ (if is_seen then s.byte ∷ [] else [])
one_byte is_seen s = if_bytes is_seen s [] [] refl

true_eq : (a b : ℕ) → (a == b) ≡ true → b ≡ a
true_eq a b h = grind (arith, nat_tests)

-- one looks there too
looked_too : (look : Option Port) (port : ℕ) (s : Shown) (is_seen : Bool) → is_looked_at look s.port ≡ is_seen → (s.port == port) ≡ true
    → is_looked_at look port ≡ is_seen
looked_too look port s is_seen h here = subst (λ m. is_looked_at look m ≡ is_seen) (sym (true_eq s.port port here)) h

-- a byte that is seen comes before what is kept: nothing is kept of its terminal
first_seen : (port : ℕ) (s : Shown) (kept : List Shown) (is_here : Bool) → (s.port == port) ≡ is_here → (is_here ≡ true → shown_at port kept ≡ [])
    → shown_at port (s ∷ []) ++ shown_at port kept ≡ shown_at port kept ++ shown_at port (s ∷ [])
first_seen port s kept true here clear =
    let none = clear refl in
    rw here (ap (λ l. s.byte ∷ l) none ∙ sym (ap (λ l. l ++ (s.byte ∷ [])) none))
first_seen port s kept false here clear = rw here (sym (append-nil (shown_at port kept)))

pub byte_parted : (look : Option Port) (port : ℕ) (s : Shown) (kept : List Shown) (is_seen : Bool) → is_looked_at look s.port ≡ is_seen
    → (is_looked_at look port ≡ true → shown_at port kept ≡ [])
    → shown_at port (if is_seen then s ∷ [] else []) ++ shown_at port (if is_seen then kept else kept ++ s ∷ [])
    ≡ shown_at port kept ++ shown_at port (s ∷ [])
byte_parted look port s kept true h clear =
    first_seen port s kept (s.port == port) refl (λ here. clear (looked_too look port s true h here))
byte_parted look port s kept false h clear = shown_both port kept (s ∷ [])

not_here : (look : Option Port) (port : ℕ) (s : Shown) (is_here : Bool) → (s.port == port) ≡ is_here → is_looked_at look s.port ≡ false
    → is_looked_at look port ≡ true → shown_at port (s ∷ []) ≡ []
not_here look port s true here h at = absurd (false≢true (sym (looked_too look port s false h here) ∙ at))
not_here look port s false here h at = rw here refl

pub byte_clear : (look : Option Port) (port : ℕ) (s : Shown) (kept : List Shown) (is_seen : Bool) → is_looked_at look s.port ≡ is_seen
    → (is_looked_at look port ≡ true → shown_at port kept ≡ []) → is_looked_at look port ≡ true
    → shown_at port (if is_seen then kept else kept ++ s ∷ []) ≡ []
byte_clear look port s kept true h clear at = clear at
byte_clear look port s kept false h clear at =
    shown_both port kept (s ∷ []) ∙ ap (λ l. l ++ shown_at port (s ∷ [])) (clear at) ∙ not_here look port s (s.port == port) refl h at
