-- What became of the lines: nothing, one frame at one place, and some frames after others.
use Rattle.std.proofs.Common.{ℕ, ◌≡◌, Bool, true, false, cond, Option, Some, None, List, [], ◌∷◌, ◌++◌, append-nil, append_assoc, refl, sym, ap, ◌∙◌, subst, eqb-true, ne_eqb, eq-eqb, inl, inr}
use Rattle.std.specs.Prelude.{◌==◌, is_none, not, ◌<◌, ◌≤◌, length, slice_get, slice_set}
use Rattle.std.proofs.Common.{get_or}
use Rattle.std.proofs.lemmas.Option.{slice_get-get_or, slice_get_past}
use Rattle.std.specs.Global.{Vec}
use Rattle.std.specs.List.{AllByRecursion}
use Rattle.rtrb.specs.Ring.{ProducerLooked, SameConsumer, SameProducer, received, sent}
use Rattle.rtrb.specs.declared.producer.Producer.{Producer}
use Rattle.host_frames.specs.Frames.{IsSpelling, Said}
use Rattle.pair_protocol.proofs.Traces.Lists.{get_set, get_set_other}
use Rattle.outside_switch.specs.Heeds.{open_in}
use Rattle.outside_switch.specs.Lines.{AtPlace, IsClosed, Hears, HearsAt, LineGoes, LinesGo, NoneWaits, OneLine, PlaceGoes, Posts, PostsAll, Pushed, Pushes, Sends, Took, number_at, number_in, pushed_to}
use Rattle.outside_switch.specs.declared.line.HostLine.{HostLine}

-- ---- one line

module _ {A P : Type 0} where
  took_none : (o : Option (Producer (Vec ℕ) A P)) → Took [] o o
  took_none None = refl
  took_none (Some a) = (((refl, refl, refl, refl), refl), sym (append-nil (sent a)))

  took_both : (xs ys : List (Vec ℕ)) (a b c : Option (Producer (Vec ℕ) A P)) → Took xs a b → Took ys b c → Took (xs ++ ys) a c
  took_both xs ys None None None p q = ap (λ l. l ++ ys) p ∙ q
  took_both xs ys (Some a) (Some b) (Some c) p q = (
    ((q.0.0.0 ∙ p.0.0.0, q.0.0.1 ∙ p.0.0.1, q.0.0.2 ∙ p.0.0.2, q.0.0.3 ∙ p.0.0.3), q.0.1 ∙ p.0.1),
    q.1 ∙ ap (λ l. l ++ ys) p.1 ∙ append_assoc (sent a) xs ys,
  )
  took_both xs ys None (Some b) c p q = absurd p
  took_both xs ys (Some a) None c p q = absurd p
  took_both xs ys None None (Some c) p q = absurd q
  took_both xs ys (Some a) (Some b) None p q = absurd q

pub line_same : (a : HostLine) → LineGoes [] [] a a
line_same a = record {
  same = ((refl, refl, refl, refl), refl);
  came = sym (append-nil (received a.from));
  gone = took_none a.to;
  number = refl;
}

pub line_both : (us vs xs ys : List (Vec ℕ)) (a b c : HostLine) → LineGoes us xs a b → LineGoes vs ys b c →
    LineGoes (us ++ vs) (xs ++ ys) a c
line_both us vs xs ys a b c p q = record {
  same = (
    (q.same.0.0 ∙ p.same.0.0, q.same.0.1 ∙ p.same.0.1, q.same.0.2 ∙ p.same.0.2, q.same.0.3 ∙ p.same.0.3),
    q.same.1 ∙ p.same.1,
  );
  came = q.came ∙ ap (λ l. l ++ vs) p.came ∙ append_assoc (received a.from) us vs;
  gone = took_both xs ys a.to b.to c.to p.gone q.gone;
  number = q.number ∙ p.number;
}

-- a frame was pushed to the ring, which had room
pub took_pushed : {A P : Type 0} (o : Option (Producer (Vec ℕ) A P)) (a b c : Producer (Vec ℕ) A P) (bytes : Vec ℕ) →
    o ≡ Some a → ProducerLooked a b → SameProducer b c → sent c ≡ sent b ++ bytes ∷ [] → Took (bytes ∷ []) o (Some c)
took_pushed o a b c bytes is looked same pushed =
    subst (λ q. Took (bytes ∷ []) q (Some c)) (sym is) (
      (
        (same.0.0 ∙ looked.0.0.0, same.0.1 ∙ looked.0.0.1, same.0.2 ∙ looked.0.0.2, same.0.3 ∙ looked.0.0.3),
        same.1 ∙ looked.0.1,
      ),
      pushed ∙ ap (λ l. l ++ bytes ∷ []) looked.1,
    )

-- only the ring to the host took something
pub line_took : (a b : HostLine) (xs : List (Vec ℕ)) → b ≡ record a { to = b.to } → Took xs a.to b.to → LineGoes [] xs a b
line_took a b xs is took =
    subst (λ l. LineGoes [] xs a l) (sym is)
    (record {
      same = ((refl, refl, refl, refl), refl);
      came = sym (append-nil (received a.from));
      gone = took;
      number = refl;
    })

pub sends_of : (said : Said) (r : Bool) (a b : HostLine) → b ≡ record a { to = b.to } → Pushes said r a.to b.to →
    Sends said r a b
sends_of said true a b is p = (p.0, p.1, line_took a b (p.0 ∷ []) is p.2)
sends_of said false a b is p = line_took a b [] is p

-- its rings and its number are as they were
pub line_marked : (a b c : HostLine) → b ≡ c → c.from ≡ a.from → c.to ≡ a.to → c.number ≡ a.number → LineGoes [] [] a b
line_marked a b c is from to number =
    subst (λ l. LineGoes [] [] a l) (sym is)
    (record {
      same = subst (λ r. SameConsumer a.from r) (sym from) ((refl, refl, refl, refl), refl);
      came = ap received from ∙ sym (append-nil (received a.from));
      gone = subst (λ r. Took [] a.to r) (sym to) (took_none a.to);
      number = number;
    })

-- ---- all lines

place_same : (o : Option HostLine) → PlaceGoes [] o o
place_same None = refl
place_same (Some a) = line_same a

place_both : (xs ys : List (Vec ℕ)) (a b c : Option HostLine) → PlaceGoes xs a b → PlaceGoes ys b c →
    PlaceGoes (xs ++ ys) a c
place_both xs ys None None None p q = ap (λ l. l ++ ys) p ∙ q
place_both xs ys (Some a) (Some b) (Some c) p q = line_both [] [] xs ys a b c p q
place_both xs ys None (Some b) c p q = absurd p
place_both xs ys (Some a) None c p q = absurd p
place_both xs ys None None (Some c) p q = absurd q
place_both xs ys (Some a) (Some b) None p q = absurd q

pushed_both : (place : ℕ) (ps qs : List Pushed) → pushed_to place (ps ++ qs) ≡ pushed_to place ps ++ pushed_to place qs
pushed_both place [] qs = refl
pushed_both place (p ∷ ps) qs = go (p.place == place) (pushed_both place ps qs)
  where
    go : (b : Bool) → pushed_to place (ps ++ qs) ≡ pushed_to place ps ++ pushed_to place qs →
        cond b (p.bytes ∷ pushed_to place (ps ++ qs)) (pushed_to place (ps ++ qs))
        ≡ cond b (p.bytes ∷ pushed_to place ps) (pushed_to place ps) ++ pushed_to place qs
    go true e = ap (λ l. p.bytes ∷ l) e
    go false e = e

pub lines_same : (a : List HostLine) → LinesGo [] a a
lines_same a = record { each = λ place. place_same (slice_get a place) }

pub lines_both : (ps qs : List Pushed) (a b c : List HostLine) → LinesGo ps a b → LinesGo qs b c → LinesGo (ps ++ qs) a c
lines_both ps qs a b c p q = record {
  each = λ place.
      subst (λ l. PlaceGoes l (slice_get a place) (slice_get c place)) (sym (pushed_both place ps qs))
      (place_both (pushed_to place ps) (pushed_to place qs) (slice_get a place) (slice_get b place) (slice_get c place)
      (p.each place) (q.each place));
}

-- one line took some frames
pub lines_one : (lines : List HostLine) (place : ℕ) (a b : HostLine) (ps : List Pushed) (xs : List (Vec ℕ)) →
    slice_get lines place ≡ Some a → LineGoes [] xs a b → pushed_to place ps ≡ xs →
    ((other : ℕ) → (other ≡ place → ⊥) → pushed_to other ps ≡ []) → LinesGo ps lines (slice_set lines place b)
lines_one lines place a b ps xs there goes to none = record { each = λ n. go n (n == place) refl }
  where
    go : (n : ℕ) (c : Bool) → (n == place) ≡ c →
        PlaceGoes (pushed_to n ps) (slice_get lines n) (slice_get (slice_set lines place b) n)
    go n true e =
        subst (λ k. PlaceGoes (pushed_to k ps) (slice_get lines k) (slice_get (slice_set lines place b) k))
        (sym (eqb-true n place e))
        (subst (λ l. PlaceGoes l (slice_get lines place) (slice_get (slice_set lines place b) place)) (sym to)
        (subst (λ o. PlaceGoes xs o (slice_get (slice_set lines place b) place)) (sym there)
        (subst (λ o. PlaceGoes xs (Some a) o) (sym (get_set lines place a b there)) goes)))
    go n false e =
        let other : n ≡ place → ⊥ = λ same. (let t = eq-eqb n place same in (cc)) in
        subst (λ l. PlaceGoes l (slice_get lines n) (slice_get (slice_set lines place b) n)) (sym (none n other))
        (subst (λ o. PlaceGoes [] (slice_get lines n) o) (sym (get_set_other lines place n b other))
        (place_same (slice_get lines n)))

pub one_here : (place : ℕ) (bytes : Vec ℕ) → pushed_to place (record { place = place; bytes = bytes } ∷ []) ≡ bytes ∷ []
one_here place bytes = ap (λ c. cond c (bytes ∷ []) []) (eq-eqb place place refl)

pub one_there : (place other : ℕ) (bytes : Vec ℕ) → (other ≡ place → ⊥) →
    pushed_to other (record { place = place; bytes = bytes } ∷ []) ≡ []
one_there place other bytes ne = ap (λ c. cond c (bytes ∷ []) []) (ne_eqb place other (λ e. ne (sym e)))

-- a frame went to one place, or was lost
pub posted : (lines : List HostLine) (place : ℕ) (a b : HostLine) (said : Said) (r : Bool) →
    slice_get lines place ≡ Some a → Sends said r a b → Posts place said r lines (slice_set lines place b)
posted lines place a b said true there sends = (
  sends.0,
  sends.1,
  lines_one lines place a b (record { place = place; bytes = sends.0 } ∷ []) (sends.0 ∷ []) there sends.2
      (one_here place sends.0) (λ other ne. one_there place other sends.0 ne),
)
posted lines place a b said false there sends =
    lines_one lines place a b [] [] there sends refl (λ other ne. refl)

-- a frame that went, of the lines that were lent
pub posts_from : (place : ℕ) (said : Said) (r : Bool) (a b c : List HostLine) → a ≡ b → Posts place said r a c →
    Posts place said r b c
posts_from place said r a b c same posts = subst (λ l. Posts place said r l c) same posts

-- ---- the same frame, to all

pub posted_none : (said : Said) (a : List HostLine) → PostsAll said a a
posted_none said a = record { pushed = []; spelled = tt; lines = lines_same a }

spelled_both : (said : Said) (ps qs : List Pushed) → AllByRecursion (λ (p : Pushed). IsSpelling said p.bytes.items) ps →
    AllByRecursion (λ (p : Pushed). IsSpelling said p.bytes.items) qs →
    AllByRecursion (λ (p : Pushed). IsSpelling said p.bytes.items) (ps ++ qs)
spelled_both said [] qs p q = q
spelled_both said (x ∷ ps) qs p q = (p.0, spelled_both said ps qs p.1 q)

pub posted_more : (said : Said) (place : ℕ) (r : Bool) (a b c : List HostLine) → PostsAll said a b →
    Posts place said r b c → PostsAll said a c
posted_more said place true a b c p q = record {
  pushed = p.pushed ++ record { place = place; bytes = q.0 } ∷ [];
  spelled = spelled_both said p.pushed (record { place = place; bytes = q.0 } ∷ []) p.spelled (q.1, tt);
  lines = lines_both p.pushed (record { place = place; bytes = q.0 } ∷ []) a b c p.lines q.2;
}
posted_more said place false a b c p q = record {
  pushed = p.pushed ++ [];
  spelled = spelled_both said p.pushed [] p.spelled tt;
  lines = lines_both p.pushed [] a b c p.lines q;
}

-- ---- a place that is there

module _ (lines : List HostLine) (index place : ℕ) (d : HostLine) (same : index ≡ place) (low : index < length lines) where
  there : slice_get lines place ≡ Some (get_or lines index d)
  there = subst (λ k. slice_get lines k ≡ Some (get_or lines index d)) same (slice_get-get_or lines index d low)

  pub posted_at : (b : HostLine) (said : Said) (r : Bool) → Sends said r (get_or lines index d) b →
      Posts place said r lines (slice_set lines index b)
  posted_at b said r sends =
      subst (λ k. Posts place said r lines (slice_set lines k b)) (sym same)
      (posted lines place (get_or lines index d) b said r there sends)

  pub one_at : (Becomes : HostLine → HostLine → Type 0) (b : HostLine) → Becomes (get_or lines index d) b →
      OneLine place Becomes lines (slice_set lines index b)
  one_at Becomes b is = record {
    before = get_or lines index d;
    after = b;
    there = there;
    set = ap (λ k. slice_set lines k b) same;
    becomes = is;
  }

  pub same_at : (b : HostLine) → LineGoes [] [] (get_or lines index d) b → LinesGo [] lines (slice_set lines index b)
  same_at b goes =
      subst (λ k. LinesGo [] lines (slice_set lines k b)) (sym same)
      (lines_one lines place (get_or lines index d) b [] [] there goes refl (λ other ne. refl))

  pub heard_at : (o : Option (Vec ℕ)) (b : HostLine) → Hears o (get_or lines index d) b →
      HearsAt place o lines (slice_set lines index b)
  heard_at None b hears = (
    same_at b hears.0,
    subst (λ k. NoneWaits (slice_get (slice_set lines k b) place)) (sym same)
        (subst (λ o. NoneWaits o) (sym (get_set lines place (get_or lines index d) b there)) hears.1),
  )
  heard_at (Some body) b goes = one_at (LineGoes (body ∷ []) []) b goes

  pub number_is : number_at lines place ≡ (get_or lines index d).number
  number_is = ap (λ o. number_in o) there

-- none is there
pub past_at : (lines : List HostLine) (index place : ℕ) → index ≡ place → length lines ≤ index → slice_get lines place ≡ None
past_at lines index place same high = slice_get_past lines place (subst (λ k. length lines ≤ k) same high)

-- ---- whether a host is cut off

pub took_none-same : {A P : Type 0} (frames : List (Vec ℕ)) (a b : Option (Producer (Vec ℕ) A P)) → Took frames a b →
    is_none b ≡ is_none a
took_none-same frames None None p = refl
took_none-same frames (Some a) (Some b) p = refl
took_none-same frames None (Some b) p = absurd p
took_none-same frames (Some a) None p = absurd p

place_open : (frames : List (Vec ℕ)) (a b : Option HostLine) → PlaceGoes frames a b → open_in b ≡ open_in a
place_open frames None None p = refl
place_open frames (Some a) (Some b) p = ap not (took_none-same frames a.to b.to p.gone)
place_open frames None (Some b) p = absurd p
place_open frames (Some a) None p = absurd p

pub still_open : (pushed : List Pushed) (a b : List HostLine) (place : ℕ) → LinesGo pushed a b →
    open_in (slice_get b place) ≡ open_in (slice_get a place)
still_open pushed a b place goes =
    place_open (pushed_to place pushed) (slice_get a place) (slice_get b place) (goes.each place)

pub closed_now : (a b : List HostLine) (place : ℕ) → AtPlace place IsClosed a b → open_in (slice_get b place) ≡ false
closed_now a b place at = elim at [
  | inl one ↦ ap (λ l. open_in (slice_get l place)) one.set
      ∙ ap (λ o. open_in o) (get_set a place one.before one.after one.there)
      ∙ ap (λ (l : HostLine). not (is_none l.to)) one.becomes
  | inr none ↦ ap (λ l. open_in (slice_get l place)) none.1 ∙ ap (λ o. open_in o) none.0
]

pub others_open : (a b : List HostLine) (place other : ℕ) → AtPlace place IsClosed a b → (other ≡ place → ⊥) →
    open_in (slice_get b other) ≡ open_in (slice_get a other)
others_open a b place other at differs = elim at [
  | inl one ↦ ap (λ l. open_in (slice_get l other)) one.set
      ∙ ap (λ o. open_in o) (get_set_other a place other one.after differs)
  | inr none ↦ ap (λ l. open_in (slice_get l other)) none.1
]
