-- One call after another.
use Rattle.std.proofs.Common.{ℕ, ◌≡◌, ◌++◌, ◌∙◌, ap, append-nil, append_assoc, inl, inr, refl, subst, sym}
use Rattle.std.proofs.Math.Seq.{take-append_seam}
use Rattle.std.specs.Global.{Vec}
use Rattle.host_frames.specs.Frames.{IsBodyOf, Said}
use Rattle.outside_switch.proofs.Acting.{nothing_met}
use Rattle.outside_switch.specs.declared.line.HostLine.{HostLine}
use Rattle.std.specs.Prelude.{List, [], Option, None, Some, drop, length, take}
use Rattle.outside_switch.specs.Causes.{MayCut}
use Rattle.outside_switch.specs.Goes as goes
use Rattle.outside_switch.specs.Goes.{Begins, Goes, GoesWith, HearsBody, HearsFrame, Lines, Moves, NextSo, Takes, passed_by, passed_in}
use Rattle.outside_switch.specs.Lines.{HearsAt, IsClosed, IsNamed, LinesGo, MayBeGiven}
use Rattle.outside_switch.specs.Meets.{MeetsWith, Seen}
use Rattle.outside_switch.specs.Passing.{Passed}

pub nothing_yet : (a : Seen) → Goes a a
nothing_yet a = goes.Rests

pub and_then : (a b c : Seen) → Goes a b → Goes b c → Goes a c
and_then a b c p goes.Rests = p
and_then a b c p (goes.Next {mid = mid} new q move) = goes.Next new (and_then a b mid p q) move

-- ---- with what passes between the devices and the user

pub still : (a : Seen) → GoesWith [] a a
still a = record { way = goes.Rests; passes = refl }

both : (a b c : Seen) (p : Goes a b) (q : Goes b c) → GoesWith (passed_in p ++ passed_in q) a c
both a b c p goes.Rests = record { way = p; passes = sym (append-nil (passed_in p)) }
both a b c p (goes.Next {mid = mid} new q move) =
    let k = both a b mid p q in
    record {
      way = goes.Next new k.way move;
      passes = ap (λ l. l ++ passed_by move) k.passes ∙ append_assoc (passed_in p) (passed_in q) (passed_by move);
    }

pub then_with : (a b c : Seen) (xs ys : List Passed) → GoesWith xs a b → GoesWith ys b c → GoesWith (xs ++ ys) a c
then_with a b c xs ys p q =
    subst (λ l. GoesWith (l ++ ys) a c) p.passes
    (subst (λ l. GoesWith (passed_in p.way ++ l) a c) q.passes (both a b c p.way q.way))

-- one move
once : (a b : Seen) (move : Moves a b) → GoesWith (passed_by move) a b
once a b move = record { way = goes.Next b goes.Rests move; passes = refl }

pub acts : (a b : Seen) (passed : List Passed) → MeetsWith passed None a b → GoesWith passed a b
acts a b passed m = subst (λ l. GoesWith l a b) m.passes (once a b (goes.Acts m.meets))

pub closes : (a b : Seen) (place : ℕ) → MayCut a.lines place → Lines place IsClosed a b → GoesWith [] a b
closes a b place cause is = once a b (goes.Closes place cause is)

hears : (a taken b : Seen) (passed : List Passed) (place : ℕ) (body : Vec ℕ) (said : Said) → Takes place body a taken →
    IsBodyOf said body.items → HearsFrame passed place said taken b → GoesWith passed a b
hears a taken b passed place body said takes is frame =
    subst (λ l. GoesWith l a b) (append-nil passed)
    (then_with a frame.met b passed [] (subst (λ l. GoesWith l a frame.met) frame.meets.passes
    (once a frame.met (goes.Hears taken place body said takes is frame.meets.meets))) frame.goes)

drops : (a b : Seen) (place : ℕ) (body : Vec ℕ) → Takes place body a b → GoesWith [] a b
drops a b place body takes = once a b (goes.Drops place body takes)

pub heard_body : (a taken b : Seen) (passed : List Passed) (place : ℕ) (body : Vec ℕ) → Takes place body a taken →
    HearsBody passed place body.items taken b → GoesWith passed a b
heard_body a taken b passed place body takes heard = elim heard [
  | inl g ↦ then_with a taken b [] passed (drops a taken place body takes) g
  | inr h ↦ hears a taken b passed place body h.0 takes h.1 h.2
]

pub next_so : (place : ℕ) (o : Option (Vec ℕ)) (a b : Seen) → HearsAt place o a.lines b.lines → b.devices ≡ a.devices →
    NextSo place o a b
next_so place None a b lines devices = (nothing_met None a b devices lines.0, devices, lines.1)
next_so place (Some body) a b lines devices = record { lines = lines; devices = devices }

pub names : (a begun b : Seen) (place generation : ℕ) → MayBeGiven generation place a.lines →
    Begins place generation a begun → Lines place (IsNamed generation) begun b → GoesWith [] a b
names a begun b place generation may begins is =
    subst (λ l. GoesWith l a b) begins.passes (once a b (goes.Names begun place generation may begins is))

-- the lines that were lent are put back
pub put_back : (n : ℕ) (lines items : List HostLine) → n ≡ length lines →
    take n (lines ++ drop (length lines) items) ≡ lines
put_back n lines items same =
    ap (λ k. take k (lines ++ drop (length lines) items)) same ∙ take-append_seam lines (drop (length lines) items)

-- what became of the lines that were lent
pub lines_from : (a b c : List HostLine) → a ≡ b → LinesGo [] a c → LinesGo [] b c
lines_from a b c same goes = subst (λ l. LinesGo [] l c) same goes

pub heard_from : (place : ℕ) (o : Option (Vec ℕ)) (a b c : List HostLine) → a ≡ b → HearsAt place o a c → HearsAt place o b c
heard_from place o a b c same hears = subst (λ l. HearsAt place o l c) same hears
