-- A generation begins: the bytes are typed, one after another.
use Rattle.std.proofs.Common.{ℕ, List, [], ◌∷◌, ◌++◌, length, refl, sym, subst, append_assoc, append-nil}
use Rattle.pair_rule.proofs.Words.{Accepts, AtBoot, ChangesReach, Copying, Event, First, Happens, Lawful, Logged, Machine, Nothing, Reply, RowIsChanges, Shows, StartsShown, TypeByte, TypedAt, World, first_known, opening}
use Rattle.pair_rule.proofs.FirstTable.{first_stands}
use Rattle.pair_rule.proofs.Law.{run_reaches}

-- events after events
pub happens_more : {S : Type 0} (M : Machine S) (C : Copying S) (a b c : World S) (es fs : List Event) (rs qs : List Reply)
    → Happens M C a es rs b → Happens M C b fs qs c → Happens M C a (es ++ fs) (rs ++ qs) c
happens_more M C a b c _ fs _ qs Nothing then = then
happens_more M C a b c _ fs _ qs (First {mid = mid} {events = es} {replies = rs} row rest) then =
    First row (happens_more M C mid b c es fs rs qs rest then)

module _ {S : Type 0} (M : Machine S) (C : Copying S) where
  abbrev typed_world : List ℕ → List ℕ → World S
  typed_world a b = record (opening M Logged) {
    terminals = record { arrivals = []; typed = a; told = 0 } ∷ record {
      arrivals = [];
      typed = b;
      told = 0;
    } ∷ [];
  }

  -- events and replies from one world to another
  abbrev Comes : World S → World S → Type 0
  Comes v w = (events : List Event) × (replies : List Reply) × Happens M C v events replies w

  type0 : (a b xs : List ℕ) → Comes (typed_world a b) (typed_world (a ++ xs) b)
  type0 a b [] = ([], [], subst (λ l. Happens M C (typed_world a b) [] [] (typed_world l b)) (sym (append-nil a)) Nothing)
  type0 a b (x ∷ xs) = let r = type0 (a ++ x ∷ []) b xs in (
    TypeByte 0 x ∷ r.0,
    TypedAt (length a) ∷ r.1,
    First (Accepts refl record { reply = refl; after = refl })
        (subst (λ l. Happens M C (typed_world (a ++ x ∷ []) b) r.0 r.1 (typed_world l b)) (append_assoc a (x ∷ []) xs) r.2),
  )

  type1 : (a b xs : List ℕ) → Comes (typed_world a b) (typed_world a (b ++ xs))
  type1 a b [] = ([], [], subst (λ l. Happens M C (typed_world a b) [] [] (typed_world a l)) (sym (append-nil b)) Nothing)
  type1 a b (x ∷ xs) = let r = type1 a (b ++ x ∷ []) xs in (
    TypeByte 1 x ∷ r.0,
    TypedAt (length b) ∷ r.1,
    First (Accepts refl record { reply = refl; after = refl })
        (subst (λ l. Happens M C (typed_world a (b ++ x ∷ [])) r.0 r.1 (typed_world a l)) (append_assoc b (x ∷ []) xs) r.2),
  )

  shows_first : Lawful M → (typed0 typed1 : List ℕ) (generation : ℕ)
      → Shows M typed0 typed1 (first_known generation) (typed_world typed0 typed1)
  shows_first laws typed0 typed1 generation = record {
    moves = [];
    s = M.boot;
    recorded = refl;
    entries_are = refl;
    count = laws.counts [] M.boot refl;
    nodes = refl;
    sent = record {
      logs = λ i e at. absurd (cc);
      acks = λ h at. absurd at;
      operations = λ o at. absurd at;
      writes = λ n at. absurd at;
    };
    terminals = refl;
    winners = refl;
    puts = refl;
    issued = λ o at. absurd at;
    done = λ n d. absurd d;
    first_reads = λ r at. absurd at;
    covered = λ o at. absurd at;
    only = λ m at. absurd at;
  }

pub starts_shown : {S : Type 0} → RowIsChanges S → ChangesReach S → StartsShown S
starts_shown rows changes M C laws typed0 typed1 generation =
    let a = type0 M C [] [] typed0 in let b = type1 M C typed0 [] typed1 in
    let run = happens_more M C (opening M Logged) (typed_world M C typed0 [])
    (typed_world M C typed0 typed1) a.0 b.0 a.1 b.1 a.2 b.2 in record {
      events = a.0 ++ b.0;
      replies = a.1 ++ b.1;
      world = typed_world M C typed0 typed1;
      run = run;
      reached = run_reaches rows changes M C (opening M Logged) (typed_world M C typed0 typed1) (a.0 ++ b.0)
          (a.1 ++ b.1) (AtBoot Logged) run;
      stands = first_stands generation;
      shows = shows_first M C laws typed0 typed1 generation;
    }
