-- Keys that are typed at a port, one after another.
use Rattle.std.proofs.Common.{ℕ, ◌≡◌, List, [], ◌∷◌, ◌++◌, Option, None, Some, append-nil, append_assoc, refl, sym, ap, ◌∙◌, subst}
use Rattle.outside_switch.proofs.Going.{still, then_with}
use Rattle.outside_switch.specs.Goes.{GoesWith}
use Rattle.outside_switch.specs.Meets.{Seen}
use Rattle.outside_switch.specs.Passing.{Typed}
use Rattle.console_terminal.proofs.Same.{same_end, same_end_on}
use Rattle.console_terminal.specs.Lines.{Hears, IsSameEnd, found, heard}
use Rattle.console_terminal.specs.declared.keyboard.Keyboard.{Keyboard}
use Rattle.outside_switch.specs.Ports.{Rests, Types, TypesKeys, typings}
use Rattle.outside_switch.specs.declared.port.PortEnd.{PortEnd}

pub types_none : (a : PortEnd) → Types [] a a
types_none a = record {
  same = same_end a.keyboard.ring;
  came = [];
  heard_are = sym (append-nil (heard a.keyboard));
  typed_are = append-nil (found a.waiting);
}

-- a key came, or none, and waits
pub types_next : (a b : PortEnd) (key : Option ℕ) → a.waiting ≡ None → b.waiting ≡ key → Hears a.keyboard b.keyboard key →
    Types [] a b
types_next a b key none waits hears = record {
  same = hears.same;
  came = found key;
  heard_are = hears.key_is;
  typed_are = ap (λ (w : Option ℕ). found w ++ found key) none ∙ ap (λ (w : Option ℕ). found w) (sym waits);
}

pub types_both : (a b c : PortEnd) (xs ys : List ℕ) → Types xs a b → Types ys b c → Types (xs ++ ys) a c
types_both a b c xs ys p q = record {
  same = same_end_on a.keyboard.ring b.keyboard.ring c.keyboard.ring p.same q.same;
  came = p.came ++ q.came;
  heard_are = q.heard_are ∙ ap (λ l. l ++ q.came) p.heard_are ∙ append_assoc (heard a.keyboard) p.came q.came;
  typed_are = sym (append_assoc (found a.waiting) p.came q.came) ∙ ap (λ l. l ++ q.came) p.typed_are
      ∙ append_assoc xs (found b.waiting) q.came ∙ ap (λ l. xs ++ l) q.typed_are ∙ sym (append_assoc xs ys (found c.waiting));
}

typings_both : (port : ℕ) (xs ys : List ℕ) → typings port (xs ++ ys) ≡ typings port xs ++ typings port ys
typings_both port [] ys = refl
typings_both port (x ∷ xs) ys = ap (λ l. Typed port x ∷ l) (typings_both port xs ys)

pub none_typed : (port : ℕ) (a : PortEnd) (s : Seen) → TypesKeys port a a s s
none_typed port a s = record { keys = []; goes = still s; types = types_none a }

pub more_typed : (port : ℕ) (a b c : PortEnd) (s t u : Seen) → TypesKeys port a b s t → TypesKeys port b c t u →
    TypesKeys port a c s u
more_typed port a b c s t u p q = record {
  keys = p.keys ++ q.keys;
  goes = subst (λ l. GoesWith l s u) (sym (typings_both port p.keys q.keys))
      (then_with s t u (typings port p.keys) (typings port q.keys) p.goes q.goes);
  types = types_both a b c p.keys q.keys p.types q.types;
}

-- nothing was typed: no key came, or the terminal refused it
pub none_came : (port : ℕ) (a b : PortEnd) (s : Seen) → Types [] a b → TypesKeys port a b s s
none_came port a b s types = record { keys = []; goes = still s; types = types }

pub refused : (port : ℕ) (a b : PortEnd) (s t : Seen) → Types [] a b → GoesWith [] s t → TypesKeys port a b s t
refused port a b s t types goes = record { keys = []; goes = goes; types = types }

-- the key that waited was typed
pub key_typed : (port key : ℕ) (a m b : PortEnd) (s t : Seen) → Types [] a m → m.waiting ≡ Some key →
    b.keyboard ≡ m.keyboard → b.waiting ≡ None → GoesWith (Typed port key ∷ []) s t → TypesKeys port a b s t
key_typed port key a m b s t types waits keyboard none goes = record {
  keys = key ∷ [];
  goes = goes;
  types = types_both a m b [] (key ∷ []) types (record {
    same = subst (λ (k : Keyboard). IsSameEnd m.keyboard.ring k.ring) (sym keyboard) (same_end m.keyboard.ring);
    came = [];
    heard_are = ap heard keyboard ∙ sym (append-nil (heard m.keyboard));
    typed_are = append-nil (found m.waiting) ∙ ap (λ (w : Option ℕ). found w) waits
        ∙ ap (λ (w : Option ℕ). key ∷ found w) (sym none);
  });
}

-- ---- nothing passes

pub quiet_on : (a b c : Seen) → GoesWith [] a b → GoesWith [] b c → GoesWith [] a c
quiet_on a b c p q = then_with a b c [] [] p q

pub rests_on : (a b c : PortEnd) → Rests a b → Rests b c → Rests a c
rests_on a b c p q = record {
  keyboard = q.keyboard ∙ p.keyboard;
  waiting = q.waiting ∙ p.waiting;
}

-- a port at which nothing was typed
pub types_rest : (a b : PortEnd) → Rests a b → Types [] a b
types_rest a b r = record {
  same = subst (λ (k : Keyboard). IsSameEnd a.keyboard.ring k.ring) (sym r.keyboard) (same_end a.keyboard.ring);
  came = [];
  heard_are = ap heard r.keyboard ∙ sym (append-nil (heard a.keyboard));
  typed_are = append-nil (found a.waiting) ∙ sym (ap (λ (w : Option ℕ). found w) r.waiting);
}
