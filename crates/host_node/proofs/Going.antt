-- How a host goes on: with no call, with one call of its node, and from one state over another to a third.
use Rattle.std.proofs.Common.{ℕ, ◌≡◌, List, [], ◌∷◌, ◌++◌, append-nil, refl, sym, ap, ◌∙◌, subst, inl, inr}
use Rattle.guest_lockstep.specs.Machine.{Machine}
use Rattle.guest_parts.specs.Guest.{Guest}
use Rattle.host_frames.specs.Frames.{IsBodyOf, Said}
use Rattle.host_law.specs.Frame.{Act, Came, Frame}
use Rattle.host_law.specs.Host as host
use Rattle.host_law.specs.Host.{HostStep}
use Rattle.host_law.specs.Ran.{HostRan}
use Rattle.host_node.specs.Goes as goes
use Rattle.host_node.specs.Goes.{Goes, Moves, Ran, Says}
use Rattle.host_node.specs.Hosts.{HasJoined, SameHost}
use Rattle.host_node.specs.Mail.{HasSaid, IsFrom}
use Rattle.host_node.specs.declared.host.HostNode.{HostNode}
use Rattle.pair_protocol.specs.Copying.{Copying}
use Rattle.pair_protocol.specs.Lawful.{Among}
use Rattle.pair_protocol.specs.Node.{Node}

-- ---- lists

pub among_before : {A : Type 0} (x : A) (xs ys : List A) → Among x xs → Among x (xs ++ ys)
among_before x [] ys p = absurd p
among_before x (z ∷ zs) ys (inl e) = inl e
among_before x (z ∷ zs) ys (inr p) = inr (among_before x zs ys p)

-- ---- what was sent

-- a frame that went after the ring was looked at
pub said_since : (said : Said) (a b d : List (List ℕ)) → b ≡ a → HasSaid said b d → HasSaid said a d
said_since said a b d e p = subst (λ l. HasSaid said l d) e p

-- the last of what came is among it
pub among_last : (xs : List (List ℕ)) (x : List ℕ) → Among x (xs ++ x ∷ [])
among_last [] x = inl refl
among_last (y ∷ ys) x = inr (among_last ys x)

pub from_last : (came old : List (List ℕ)) (body : List ℕ) (said : Said) → came ≡ old ++ body ∷ [] → IsBodyOf said body
    → IsFrom came said
from_last came old body said e says =
    record { body = body; among = subst (λ l. Among body l) (sym e) (among_last old body); says = says }

-- ---- runs

module _ {S : Type 0} (M : Machine S) (C : Copying S) (drives me : ℕ) where
  pub ran_none : (x : Node S) (frames : List Frame) → Ran M C drives me x frames [] x
  ran_none x frames = record { acts = []; run = host.Rests; came = tt; says = goes.Nothing }

  -- what the law's node did with the frames of one call
  pub ran_as : (x y : Node S) (frames : List Frame) (act : Act) (said : List (List ℕ)) → HostRan M C me x act.takes act.sends y
      → Came act.takes frames → Says drives me said act.sends → Ran M C drives me x frames said y
  ran_as x y frames act said r came says = record {
    acts = r.acts;
    run = r.run;
    came = subst (λ l. Came l frames) (sym r.took) came;
    says = subst (λ l. Says drives me said l) (sym r.gave) says;
  }

  -- one call
  pub ran_one : (x y : Node S) (frames : List Frame) (act : Act) (said : List (List ℕ)) → HostStep M C me x act y
      → Came act.takes frames → Says drives me said act.sends → Ran M C drives me x frames said y
  ran_one x y frames act said step came says = record {
    acts = act ∷ [];
    run = host.Goes step host.Rests;
    came = subst (λ l. Came l frames) (sym (append-nil act.takes)) came;
    says = subst (λ l. Says drives me said l) (sym (append-nil act.sends)) says;
  }

module _ {B S : Type 0} {H : Type 0} (state : B → S) (M : Machine S) (copied : B → Guest) where
  -- one move
  pub once : (old new : HostNode B H) → Moves state M copied old new → Goes state M copied old new
  once old new move = goes.Next new goes.Rests move

  -- nothing was called
  pub nothing_yet : (old new : HostNode B H) (heard : List (List ℕ)) → new.node ≡ old.node → SameHost old new
      → new.mail.came ≡ old.mail.came ++ heard → new.mail.gone ≡ old.mail.gone → Goes state M copied old new
  nothing_yet old new heard node number came gone = once old new (record {
    heard = heard;
    said = [];
    came = came;
    gone = gone ∙ sym (append-nil old.mail.gone);
    stays = λ joined. (subst (λ n. HasJoined n) (sym node) joined, number.number);
    joins = λ joined. inl (subst (λ n. HasJoined n) node joined);
    drives = number.drives;
    rings = number.rings;
    runs = λ C me copies is x hosted frames brought. record {
      y = x;
      ran = ran_none M C old.drives me x frames;
      is = rw node (rw number.number hosted);
    };
  })

  -- nothing changed, or nothing that is promised
  pub stays : (old new : HostNode B H) → new.node ≡ old.node → SameHost old new → new.mail ≡ old.mail
      → Goes state M copied old new
  stays old new node number mail =
      nothing_yet old new [] node number
      (ap (λ p. p.came) mail ∙ sym (append-nil old.mail.came)) (ap (λ p. p.gone) mail)

  -- only the ring was looked at
  pub looked : (old new : HostNode B H) → new.node ≡ old.node → SameHost old new
      → new.mail.came ≡ old.mail.came → new.mail.gone ≡ old.mail.gone → Goes state M copied old new
  looked old new node number came gone =
      nothing_yet old new [] node number (came ∙ sym (append-nil old.mail.came)) gone

  -- no body came, or one came that says nothing
  pub heard_none : (old new : HostNode B H) → new.node ≡ old.node → SameHost old new
      → new.mail.came ≡ old.mail.came → new.mail.gone ≡ old.mail.gone → Goes state M copied old new
  heard_none old new node number came gone = looked old new node number came gone

  pub heard_one : (old new : HostNode B H) (body : List ℕ) → new.node ≡ old.node → SameHost old new
      → new.mail.came ≡ old.mail.came ++ body ∷ [] → new.mail.gone ≡ old.mail.gone → Goes state M copied old new
  heard_one old new body node number came gone = nothing_yet old new (body ∷ []) node number came gone

  pub and_then : (a b c : HostNode B H) → Goes state M copied a b → Goes state M copied b c → Goes state M copied a c
  and_then a b c p goes.Rests = p
  and_then a b c p (goes.Next {mid = mid} new q move) = goes.Next new (and_then a b mid p q) move
