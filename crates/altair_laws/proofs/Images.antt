-- What a sector of the machine's own disk has after one more move: a step leaves it, and so does an input, except one
-- that completes a write of the sector. And the table of the last completed writes after one is set.
use Rattle.std.proofs.Common.{◌≡◌, ℕ, suc, ◌+◌, ◌*◌, ◌<◌, Bool, true, false, cond, List, [], ◌∷◌, ◌++◌, length, get_or, map, Option, Some, None, ◌⊎◌, inl, inr, refl, sym, ap, ◌∙◌, subst, arith}
use Rattle.std.specs.Prelude.{◌||◌, nat_lt, slice_index, slice_set}
use Rattle.std.specs.List.{filter, list_any}
use Rattle.std.specs.Option.{option_map_or}
use Rattle.std.proofs.lemmas.Bool.{cases_Bool, and_from, lt-ltb, both_ways}
use Rattle.std.proofs.lemmas.Bool.Decides.{eqb_tells}
use Rattle.std.proofs.lemmas.List.{get_or-set_same, get_or-set_other}
use Rattle.disk_dcdd.proofs.Addresses.{same_address-is, same_address-refl}
use Rattle.altair_laws.proofs.Words.{Among, Byte, DRIVE_SECTORS, Do, Input, Move, Operation, SECTORS, SectorAddress, SectorWrite, TRACKS, Take, Write, Written, address_of, bare, bytes_after, image_from, index_of, inputs, inputs-append, operations, same_address, steps}
use Rattle.guest_lockstep.specs.declared.timed.Bare.{Bare}
use Rattle.guest_lockstep.specs.declared.timed.Timed.{Timed}
use Rattle.altair_laws.proofs.Moves.{Tells}

-- ---- the table of last completed writes

-- the number in the table for a sector
abbrev pub number_of : List ℕ → SectorAddress → ℕ
number_of completed address = option_map_or (λ index. slice_index completed index) (index_of address) 0

-- a write is set as the last completed one of its sector
abbrev pub with_number : List ℕ → SectorWrite → List ℕ
with_number completed write =
    option_map_or (λ index. slice_set completed index write.number) (index_of (address_of write)) completed

index-is : (a : SectorAddress) → a.track < TRACKS → a.sector < SECTORS
    → index_of a ≡ Some (a.drive * DRIVE_SECTORS + a.track * SECTORS + a.sector)
index-is a t s =
    ap (λ b. cond b (Some (a.drive * DRIVE_SECTORS + a.track * SECTORS + a.sector)) None)
    (and_from (nat_lt a.track TRACKS) (nat_lt a.sector SECTORS) (lt-ltb a.track TRACKS t) (lt-ltb a.sector SECTORS s))

-- no two sectors have the same index
abbrev pub Apart : Type 0
Apart = (a b : SectorAddress) (i : ℕ) → index_of a ≡ Some i → index_of b ≡ Some i → a ≡ b

pub number-set : Apart → (completed : List ℕ) (attached : ℕ) (write : SectorWrite)
    → length completed ≡ attached * DRIVE_SECTORS
    → write.drive < attached → write.track < TRACKS → write.sector < SECTORS → (a : SectorAddress)
    → number_of (with_number completed write) a
    ≡ cond (same_address (address_of write) a) write.number (number_of completed a)
number-set apart completed attached write size drive track sector a =
    subst (λ o. number_of (option_map_or (λ index. slice_set completed index write.number) o completed) a
    ≡ cond (same_address (address_of write) a) write.number (number_of completed a))
    (sym is) (go (cases_Bool (same_address (address_of write) a)))
  where
    index : ℕ
    index = write.drive * DRIVE_SECTORS + write.track * SECTORS + write.sector

    is : index_of (address_of write) ≡ Some (write.drive * DRIVE_SECTORS + write.track * SECTORS + write.sector)
    is = index-is (address_of write) track sector

    new : List ℕ
    new = slice_set completed (write.drive * DRIVE_SECTORS + write.track * SECTORS + write.sector) write.number

    inside : write.drive * DRIVE_SECTORS + write.track * SECTORS + write.sector < length completed
    inside = omega arith

    other : same_address (address_of write) a ≡ false → (o : Option ℕ) → index_of a ≡ o
        → option_map_or (λ i. slice_index new i) o 0 ≡ option_map_or (λ i. slice_index completed i) o 0
    other f None e = refl
    other f (Some j) e =
        get_or-set_other completed (write.drive * DRIVE_SECTORS + write.track * SECTORS + write.sector) j write.number 0
        (λ q. both_ways (same_address (address_of write) a) f
        (same_address-refl (address_of write) a (apart (address_of write) a j (is ∙ ap Some (sym q)) e)))

    go : (same_address (address_of write) a ≡ true) ⊎ (same_address (address_of write) a ≡ false)
        → number_of new a ≡ cond (same_address (address_of write) a) write.number (number_of completed a)
    go (inl t) =
        ap (number_of new) (sym (same_address-is (address_of write) a t))
        ∙ ap (λ o. option_map_or (λ i. slice_index new i) o 0) is
        ∙ get_or-set_same completed
        (write.drive * DRIVE_SECTORS + write.track * SECTORS + write.sector) write.number 0 inside
        ∙ sym (ap (λ b. cond b write.number (number_of completed a)) t)
    go (inr f) = other f (index_of a) refl ∙ sym (ap (λ b. cond b write.number (number_of completed a)) f)

-- ---- lists and tests

among-cond : {A : Type 0} (b : Bool) (x y : A) (ys xs : List A) → (Among x ys → Among x xs)
    → Among x (cond b (y ∷ ys) ys) → Among x (y ∷ xs)
among-cond true x y ys xs h (inl e) = inl e
among-cond true x y ys xs h (inr k) = inr (h k)
among-cond false x y ys xs h k = inr (h k)

pub among-filter : {A : Type 0} (f : A → Bool) (x : A) (xs : List A) → Among x (filter f xs) → Among x xs
among-filter f x [] h = h
among-filter f x (y ∷ xs) h = among-cond (f y) x y (filter f xs) xs (among-filter f x xs) h

pub filter-keeps : {A : Type 0} (f : A → Bool) (x : A) (xs : List A) → Among x xs → f x ≡ true → Among x (filter f xs)
filter-keeps f x [] h e = h
filter-keeps f x (y ∷ xs) (inl h) e =
    subst (λ b. Among x (cond b (y ∷ filter f xs) (filter f xs))) (sym (ap f (sym h) ∙ e)) (inl h)
filter-keeps {A} f x (y ∷ xs) (inr h) e = go (f y) (filter-keeps f x xs h e)
  where
    go : (b : Bool) → Among x (filter f xs) → Among x (cond b (y ∷ filter f xs) (filter f xs))
    go true k = inr k
    go false k = k

holds-cond : {A : Type 0} (f : A → Bool) (b : Bool) (x y : A) (ys : List A) → f y ≡ b → (Among x ys → f x ≡ true)
    → Among x (cond b (y ∷ ys) ys) → f x ≡ true
holds-cond f true x y ys e h (inl k) = ap f k ∙ e
holds-cond f true x y ys e h (inr k) = h k
holds-cond f false x y ys e h k = h k

pub filter-holds : {A : Type 0} (f : A → Bool) (x : A) (xs : List A) → Among x (filter f xs) → f x ≡ true
filter-holds f x [] h = absurd h
filter-holds f x (y ∷ xs) h = holds-cond f (f y) x y (filter f xs) refl (filter-holds f x xs) h

pub any-find : {A : Type 0} (f : A → Bool) (xs : List A) → list_any f xs ≡ true → (x : A) × Among x xs × (f x ≡ true)
any-find f [] h = (cc)
any-find {A} f (y ∷ xs) h = go (cases_Bool (f y)) (any-find f xs)
  where
    go : (f y ≡ true) ⊎ (f y ≡ false) → (list_any f xs ≡ true → (x : A) × Among x xs × (f x ≡ true))
        → (x : A) × Among x (y ∷ xs) × (f x ≡ true)
    go (inl e) k = (y, inl refl, e)
    go (inr e) k = let r = k (ap (λ b. b || list_any f xs) (sym e) ∙ h) in (r.0, inr r.1, r.2)

-- the place of an element of a list
pub place-among : {A : Type 0} (x : A) (xs : List A) → Among x xs
    → (k : ℕ) × (k < length xs) × ((d : A) → get_or xs k d ≡ x)
place-among x [] h = absurd h
place-among x (y ∷ xs) (inl e) = (0, omega arith, λ d. sym e)
place-among x (y ∷ xs) (inr h) = let r = place-among x xs h in (suc r.0, (let l = r.1 in omega arith), r.2)

-- ---- the writes of moves, the last one first

abbrev pub writes_in : List SectorWrite → List Move → List SectorWrite
writes_in issued [] = issued
writes_in issued (Do None ∷ moves) = writes_in issued moves
writes_in issued (Do (Some (Byte port number byte)) ∷ moves) = writes_in issued moves
writes_in issued (Do (Some (Write write)) ∷ moves) = writes_in (write ∷ issued) moves
writes_in issued (Take i ∷ moves) = writes_in issued moves

pub write-same : (v w : SectorWrite) → Write v ≡ Write w → v ≡ w
write-same v w e = (cc)

pub writes-from : (issued : List SectorWrite) (moves : List Move) (v : SectorWrite) → Among v (writes_in issued moves)
    → Among v issued ⊎ Among (Write v) (operations moves)
writes-from issued [] v h = inl h
writes-from issued (Do None ∷ moves) v h = writes-from issued moves v h
writes-from issued (Do (Some (Byte port number byte)) ∷ moves) v h = go (writes-from issued moves v h)
  where
    go : Among v issued ⊎ Among (Write v) (operations moves)
        → Among v issued ⊎ Among (Write v) (Byte port number byte ∷ operations moves)
    go (inl a) = inl a
    go (inr a) = inr (inr a)
writes-from issued (Do (Some (Write w)) ∷ moves) v h = go (writes-from (w ∷ issued) moves v h)
  where
    go : Among v (w ∷ issued) ⊎ Among (Write v) (operations moves)
        → Among v issued ⊎ Among (Write v) (Write w ∷ operations moves)
    go (inl (inl e)) = inr (inl (ap Write e))
    go (inl (inr a)) = inl a
    go (inr a) = inr (inr a)
writes-from issued (Take i ∷ moves) v h = writes-from issued moves v h

pub writes-to : (issued : List SectorWrite) (moves : List Move) (v : SectorWrite)
    → Among v issued ⊎ Among (Write v) (operations moves) → Among v (writes_in issued moves)
writes-to issued [] v (inl h) = h
writes-to issued [] v (inr h) = absurd h
writes-to issued (Do None ∷ moves) v h = writes-to issued moves v h
writes-to issued (Do (Some (Byte port number byte)) ∷ moves) v (inl h) = writes-to issued moves v (inl h)
writes-to issued (Do (Some (Byte port number byte)) ∷ moves) v (inr (inl h)) = (cc)
writes-to issued (Do (Some (Byte port number byte)) ∷ moves) v (inr (inr h)) = writes-to issued moves v (inr h)
writes-to issued (Do (Some (Write w)) ∷ moves) v (inl h) = writes-to (w ∷ issued) moves v (inl (inr h))
writes-to issued (Do (Some (Write w)) ∷ moves) v (inr (inl h)) =
    writes-to (w ∷ issued) moves v (inl (inl (write-same v w h)))
writes-to issued (Do (Some (Write w)) ∷ moves) v (inr (inr h)) = writes-to (w ∷ issued) moves v (inr h)
writes-to issued (Take i ∷ moves) v h = writes-to issued moves v h

-- ---- the image

pub image-do :
    (issued : List SectorWrite) (q : SectorAddress) (bytes : List ℕ) (moves : List Move) (gives : Option Operation)
    → image_from issued q bytes (moves ++ Do gives ∷ []) ≡ image_from issued q bytes moves
image-do issued q bytes [] (Some (Write v)) = refl
image-do issued q bytes [] gives = refl
image-do issued q bytes (Do (Some (Write v)) ∷ moves) gives = image-do (v ∷ issued) q bytes moves gives
image-do issued q bytes (Do o ∷ moves) gives = image-do issued q bytes moves gives
image-do issued q bytes (Take (Written number) ∷ moves) gives =
    image-do issued q (bytes_after issued number q bytes) moves gives
image-do issued q bytes (Take i ∷ moves) gives = image-do issued q bytes moves gives

-- what a sector has after an input
abbrev pub image_after : List SectorWrite → Input → SectorAddress → List ℕ → List ℕ
image_after issued (Written number) q bytes = bytes_after issued number q bytes
image_after issued i q bytes = bytes

pub image-take : (issued : List SectorWrite) (q : SectorAddress) (bytes : List ℕ) (moves : List Move) (i : Input)
    → image_from issued q bytes (moves ++ Take i ∷ [])
    ≡ image_after (writes_in issued moves) i q (image_from issued q bytes moves)
image-take issued q bytes [] (Written number) = refl
image-take issued q bytes [] i = refl
image-take issued q bytes (Do (Some (Write v)) ∷ moves) i = image-take (v ∷ issued) q bytes moves i
image-take issued q bytes (Do o ∷ moves) i = image-take issued q bytes moves i
image-take issued q bytes (Take (Written number) ∷ moves) i =
    image-take issued q (bytes_after issued number q bytes) moves i
image-take issued q bytes (Take j ∷ moves) i = image-take issued q bytes moves i

-- the one write with a number
pub bytes-are : (vs : List SectorWrite) (number : ℕ) (q : SectorAddress) (bytes : List ℕ) (w : SectorWrite) → Among w vs
    → w.number ≡ number
    → ((v : SectorWrite) → Among v vs → v.number ≡ number → v ≡ w)
    → bytes_after vs number q bytes ≡ cond (same_address (address_of w) q) w.bytes bytes
bytes-are [] number q bytes w h e u = absurd h
bytes-are (v ∷ vs) number q bytes w h e u =
    go h (eqb_tells v.number number) (λ k. bytes-are vs number q bytes w k e (λ x a. u x (inr a)))
  where
    go : Among w (v ∷ vs) → Tells v.number number
        → (Among w vs → bytes_after vs number q bytes ≡ cond (same_address (address_of w) q) w.bytes bytes)
        → bytes_after (v ∷ vs) number q bytes ≡ cond (same_address (address_of w) q) w.bytes bytes
    go a (inl t) k =
        ap (λ b. cond b (cond (same_address (address_of v) q) v.bytes bytes) (bytes_after vs number q bytes)) t.0
        ∙ ap (λ (z : SectorWrite). cond (same_address (address_of z) q) z.bytes bytes) (u v (inl refl) t.1)
    go (inl a) (inr t) k = absurd (t.1 (ap (λ (z : SectorWrite). z.number) (sym a) ∙ e))
    go (inr a) (inr t) k =
        ap (λ b. cond b (cond (same_address (address_of v) q) v.bytes bytes) (bytes_after vs number q bytes)) t.0 ∙ k a

-- ---- inputs

abbrev pub bares : List Timed → List Bare
bares ts = map (λ t. t.input) ts

bares-left : (b : Bare) (xs ys : List Timed) → Among b (bares xs) → Among b (bares (xs ++ ys))
bares-left b [] ys h = absurd h
bares-left b (x ∷ xs) ys (inl h) = inl h
bares-left b (x ∷ xs) ys (inr h) = inr (bares-left b xs ys h)

bares-last : (b : Bare) (xs : List Timed) (y : Timed) → b ≡ y.input → Among b (bares (xs ++ y ∷ []))
bares-last b [] y h = inl h
bares-last b (x ∷ xs) y h = inr (bares-last b xs y h)

pub done-left : (b : Bare) (xs ys : List Move) → Among b (bares (inputs 0 xs)) → Among b (bares (inputs 0 (xs ++ ys)))
done-left b xs ys h =
    subst (λ ts. Among b (bares ts)) (sym (inputs-append 0 xs ys))
    (bares-left b (inputs 0 xs) (inputs (0 + steps xs) ys) h)

pub done-last : (b : Bare) (moves : List Move) (i : Input) → b ≡ bare i
    → Among b (bares (inputs 0 (moves ++ Take i ∷ [])))
done-last b moves i e =
    subst (λ ts. Among b (bares ts)) (sym (inputs-append 0 moves (Take i ∷ []))) (bares-last b (inputs 0 moves) _ e)
