-- Keys that came are still such when one more body has come.
use Rattle.std.proofs.Common.{ℕ, ◌≡◌, List, [], ◌∷◌, ◌++◌, refl, sym, ap, ◌∙◌, subst}
use Rattle.std.specs.Global.{Vec}
use Rattle.std.specs.List.{All}
use Rattle.host_frames.specs.StreamReading.{contents_of}
use Rattle.std.specs.Prelude.{slice_index_or}
use Rattle.host_frames.specs.Frames.{Said, Transfers}
use Rattle.host_frames.specs.declared.frame.Transfer.TheVariants.{Key}
use Rattle.host_node.proofs.Going.{among_before}
use Rattle.host_node.specs.Mail.{CameAsKey, IsFrom}
use Rattle.host_node.specs.declared.mail.KeptKey.{KeptKey}

contents_one : (xs : List (Vec ℕ)) (x : Vec ℕ) → contents_of (xs ++ x ∷ []) ≡ contents_of xs ++ x.items ∷ []
contents_one [] x = refl
contents_one (y ∷ ys) x = ap (λ l. y.items ∷ l) (contents_one ys x)

pub one_more : (a b : List (Vec ℕ)) (x : Vec ℕ) → b ≡ a ++ x ∷ [] → contents_of b ≡ contents_of a ++ x.items ∷ []
one_more a b x e = ap contents_of e ∙ contents_one a x

pub from_more : (came more : List (List ℕ)) (said : Said) → IsFrom came said → IsFrom (came ++ more) said
from_more came more said p = record { body = p.body; among = among_before p.body came more p.among; says = p.says }

pub kept_one : (a b : List (Vec ℕ)) (x : Vec ℕ) (keys : List KeptKey) → b ≡ a ++ x ∷ []
    → All (CameAsKey (contents_of a)) keys → All (CameAsKey (contents_of b)) keys
kept_one a b x keys e p = λ k d lt. subst (λ l. CameAsKey l (slice_index_or keys k d))
    (sym (ap contents_of e ∙ contents_one a x))
    (from_more (contents_of a) (x.items ∷ [])
    (Transfers (Key (slice_index_or keys k d).port (slice_index_or keys k d).index (slice_index_or keys k d).byte))
    (p k d lt))

pub kept_none : (a b : List (Vec ℕ)) (keys : List KeptKey) → b ≡ a → All (CameAsKey (contents_of a)) keys
    → All (CameAsKey (contents_of b)) keys
kept_none a b keys e p = subst (λ l. All (CameAsKey (contents_of l)) keys) (sym e) p
