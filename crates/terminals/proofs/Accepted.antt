-- What is accepted of arrivals can be computed from the first arrival on. The computed list is in order, and every list
-- in order is a prefix of it, so it is the longest one and the only longest one. One more arrival makes it longer by
-- its byte if its number comes next, and otherwise leaves it unchanged.
use Rattle.std.proofs.Common.{◌≡◌, ℕ, zero, suc, ◌+◌, ◌≤◌, Bool, true, false, cond, eqb, List, [], ◌∷◌, ◌++◌, length, refl, sym, ap, subst, ◌∙◌, arith, length-append}
use Rattle.std.specs.Prelude.{◌≢◌, All}
use Rattle.std.proofs.lemmas.Bool.{ne_eqb, eq-eqb, eqb-true, eqb-false}
use Rattle.std.proofs.lemmas.List.{append-nil}
use Rattle.std.proofs.lemmas.List.Elements.{All-nil}
use Rattle.terminals.specs.Arrivals.{Arrival, ComesFirst, AreInOrder, IsAccepted, AcceptsOneList, GoesOn}

-- what is accepted of arrivals, if the byte of this number comes next
abbrev accepted_from : ℕ → List Arrival → List ℕ
accepted_from n [] = []
accepted_from n (a ∷ rest) = cond (eqb a.number n) (a.byte ∷ accepted_from (n + 1) rest) (accepted_from n rest)

-- this byte under this number
abbrev sent : ℕ → ℕ → Arrival
sent n b = record { number = n; byte = b }

-- none of them has this number
abbrev NoneIs : ℕ → List Arrival → Type 0
NoneIs n arrivals = All (λ (a : Arrival). a.number ≢ n) arrivals

none_in_rest : (n : ℕ) (a : Arrival) (rest : List Arrival) → NoneIs n (a ∷ rest) → NoneIs n rest
none_in_rest n a rest none = λ k d inside. none (suc k) d (omega arith)

none_with : (n : ℕ) (a : Arrival) (rest : List Arrival) → a.number ≢ n → NoneIs n rest → NoneIs n (a ∷ rest)
none_with n a rest differs none zero d inside = differs
none_with n a rest differs none (suc k) d inside = none k d (omega arith)

-- an arrival of another number changes nothing of what is in order after it
passes : (bytes : List ℕ) (n : ℕ) (a : Arrival) (rest : List Arrival) → a.number ≢ n → AreInOrder rest n bytes
    → AreInOrder (a ∷ rest) n bytes
passes [] n a rest differs ordered = tt
passes (b ∷ bytes) n a rest differs ordered =
    let c : ComesFirst rest n b ordered.0 = ordered.1 in
    let passed : ComesFirst (a ∷ rest) n b ordered.0 = record {
      before = a ∷ c.before;
      place = ap (λ z. a ∷ z) c.place;
      first = none_with n a c.before differs c.first;
    } in
    (ordered.0, passed, ordered.2)

in_order-at : (here : Bool) (n : ℕ) (a : Arrival) (rest : List Arrival) → eqb a.number n ≡ here
    → AreInOrder rest (n + 1) (accepted_from (n + 1) rest) → AreInOrder rest n (accepted_from n rest)
    → AreInOrder (a ∷ rest) n (cond here (a.byte ∷ accepted_from (n + 1) rest) (accepted_from n rest))
in_order-at true n a rest e taken passed =
    let here_first : ComesFirst (a ∷ rest) n a.byte rest = record {
      before = [];
      place = ap (λ k. sent k a.byte ∷ rest) (eqb-true a.number n e);
      first = All-nil (λ (x : Arrival). x.number ≢ n);
    } in
    (rest, here_first, taken)
in_order-at false n a rest e taken passed = passes (accepted_from n rest) n a rest (eqb-false a.number n e) passed

in_order : (arrivals : List Arrival) (n : ℕ) → AreInOrder arrivals n (accepted_from n arrivals)
in_order [] n = tt
in_order (a ∷ rest) n = in_order-at (eqb a.number n) n a rest refl (in_order rest (n + 1)) (in_order rest n)

skips : (before after : List Arrival) (n : ℕ) → NoneIs n before
    → accepted_from n (before ++ after) ≡ accepted_from n after
skips [] after n none = refl
skips (a ∷ before) after n none =
    ap (λ c. cond c (a.byte ∷ accepted_from (n + 1) (before ++ after)) (accepted_from n (before ++ after)))
    (ne_eqb a.number n (none 0 a (omega arith)))
    ∙ skips before after n (none_in_rest n a before none)

takes : (n b : ℕ) (rest : List Arrival) → accepted_from n (sent n b ∷ rest) ≡ b ∷ accepted_from (n + 1) rest
takes n b rest = ap (λ c. cond c (b ∷ accepted_from (n + 1) rest) (accepted_from n rest)) (eq-eqb n n refl)

-- what is in order is a prefix of what is accepted
record IsPrefix (front whole : List ℕ) : Type 0 where
  more : List ℕ
  is : whole ≡ front ++ more

is_front : (bytes : List ℕ) (arrivals : List Arrival) (n : ℕ) → AreInOrder arrivals n bytes
    → IsPrefix bytes (accepted_from n arrivals)
is_front [] arrivals n ordered = record { more = accepted_from n arrivals; is = refl }
is_front (b ∷ bytes) arrivals n ordered =
    let c : ComesFirst arrivals n b ordered.0 = ordered.1 in
    let f : IsPrefix bytes (accepted_from (n + 1) ordered.0) = is_front bytes ordered.0 (n + 1) ordered.2 in
    record {
      more = f.more;
      is = ap (accepted_from n) c.place
          ∙ skips c.before (sent n b ∷ ordered.0) n c.first
          ∙ takes n b ordered.0
          ∙ ap (λ z. b ∷ z) f.is;
    }

is_longest : (arrivals : List Arrival) → IsAccepted arrivals (accepted_from 1 arrivals)
is_longest arrivals = record {
  in_order = in_order arrivals 1;
  longest = λ others ordered.
      let f : IsPrefix others (accepted_from 1 arrivals) = is_front others arrivals 1 ordered in
      let l : length (accepted_from 1 arrivals) ≡ length others + length f.more =
      ap length f.is ∙ length-append others f.more in
      omega arith;
}

no_more : (front more whole : List ℕ) → whole ≡ front ++ more → length whole ≤ length front → front ≡ whole
no_more front [] whole is short = sym (append-nil front) ∙ sym is
no_more front (x ∷ more) whole is short =
    let l : length whole ≡ length front + length (x ∷ more) = ap length is ∙ length-append front (x ∷ more) in
    absurd (omega arith)

is_only : (arrivals : List Arrival) (bytes : List ℕ) → IsAccepted arrivals bytes → bytes ≡ accepted_from 1 arrivals
is_only arrivals bytes accepted =
    let f : IsPrefix bytes (accepted_from 1 arrivals) = is_front bytes arrivals 1 accepted.in_order in
    no_more bytes f.more (accepted_from 1 arrivals) f.is
    (accepted.longest (accepted_from 1 arrivals) (in_order arrivals 1))

pub nothing_accepted : IsAccepted [] []
nothing_accepted = is_longest []

pub accepts_one_list : (arrivals : List Arrival) → AcceptsOneList arrivals
accepts_one_list arrivals =
    record { bytes = accepted_from 1 arrivals; accepted = is_longest arrivals; only = is_only arrivals }

-- the byte of an arrival that comes next, if the first of these arrivals has to have this number
abbrev next_byte : ℕ → List ℕ → ℕ → ℕ → List ℕ
next_byte n bytes number byte = cond (eqb number (length bytes + n)) (byte ∷ []) []

one_more-at : (here : Bool) (n : ℕ) (a : Arrival) (number byte : ℕ) (taken passed more_taken more_passed : List ℕ)
    → more_taken ≡ taken ++ next_byte (n + 1) taken number byte → more_passed ≡ passed ++ next_byte n passed number byte
    → cond here (a.byte ∷ more_taken) more_passed
    ≡ cond here (a.byte ∷ taken) passed ++ next_byte n (cond here (a.byte ∷ taken) passed) number byte
one_more-at true n a number byte taken passed more_taken more_passed h g =
    let e : length taken + (n + 1) ≡ suc (length taken) + n = omega arith in
    ap (λ z. a.byte ∷ z) h ∙ ap (λ m. a.byte ∷ (taken ++ cond (eqb number m) (byte ∷ []) [])) e
one_more-at false n a number byte taken passed more_taken more_passed h g = g

one_more : (arrivals : List Arrival) (n number byte : ℕ)
    → accepted_from n (arrivals ++ sent number byte ∷ [])
    ≡ accepted_from n arrivals ++ next_byte n (accepted_from n arrivals) number byte
one_more [] n number byte =
    let e : n ≡ 0 + n = omega arith in ap (λ m. cond (eqb number m) (byte ∷ []) []) e
one_more (a ∷ rest) n number byte =
    one_more-at (eqb a.number n) n a number byte (accepted_from (n + 1) rest) (accepted_from n rest) _ _
    (one_more rest (n + 1) number byte) (one_more rest n number byte)

after_one_more : (here : Bool) (arrivals : List Arrival) (bytes : List ℕ) (number byte : ℕ) → IsAccepted arrivals bytes
    → eqb number (length bytes + 1) ≡ here
    → IsAccepted (arrivals ++ sent number byte ∷ []) (bytes ++ cond here (byte ∷ []) [])
after_one_more here arrivals bytes number byte accepted e =
    let is : bytes ≡ accepted_from 1 arrivals = is_only arrivals bytes accepted in
    let longer : accepted_from 1 (arrivals ++ sent number byte ∷ []) ≡ bytes ++ next_byte 1 bytes number byte =
    subst (λ l. accepted_from 1 (arrivals ++ sent number byte ∷ []) ≡ l ++ next_byte 1 l number byte) (sym is)
    (one_more arrivals 1 number byte) in
    subst (λ l. IsAccepted (arrivals ++ sent number byte ∷ []) l) (longer ∙ ap (λ c. bytes ++ cond c (byte ∷ []) []) e)
    (is_longest (arrivals ++ sent number byte ∷ []))

-- the byte that comes next is accepted
pub takes_next : (old : List ℕ) (number byte : ℕ) (new : List ℕ) → number ≡ length old + 1 → new ≡ old ++ byte ∷ []
    → GoesOn old number byte new
takes_next old number byte new next is = record {
  so_far = λ arrivals accepted.
      subst (IsAccepted (arrivals ++ sent number byte ∷ [])) (sym is)
      (after_one_more true arrivals old number byte accepted (eq-eqb number (length old + 1) next));
}

-- any other byte is dropped
pub drops_others : (old : List ℕ) (number byte : ℕ) → number ≢ length old + 1 → GoesOn old number byte old
drops_others old number byte other = record {
  so_far = λ arrivals accepted.
      subst (IsAccepted (arrivals ++ sent number byte ∷ [])) (append-nil old)
      (after_one_more false arrivals old number byte accepted (ne_eqb number (length old + 1) other));
}
