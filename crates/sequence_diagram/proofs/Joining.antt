-- Nodes that are added to the places of a run, one after another.
use Rattle.std.proofs.Common.{◌≡◌, ◌∙◌, List, ◌∷◌, [], ◌++◌, ap, sym, append_assoc, append-nil}
use Rattle.sequence_diagram.specs.Columns.{host_in, hosts_in, nodes_in}
use Rattle.sequence_diagram.specs.declared.moment.Moment.{Moment}
use Rattle.sequence_diagram.specs.declared.place.Lifeline.{Lifeline}
use Rattle.sequence_diagram.specs.declared.place.Lifeline.TheVariants.{Node}

-- those of one event more
pub host_added : (all front next : List Lifeline) (moment : Moment) (after : List Moment) → front ++ hosts_in (moment ∷ after) ≡ all
    → next ≡ front ++ host_in moment → next ++ hosts_in after ≡ all
host_added all front next moment after is more =
    ap (λ l. l ++ hosts_in after) more ∙ append_assoc front (host_in moment) (hosts_in after) ∙ is

-- no event is left
pub hosts_added : (all front : List Lifeline) → front ++ hosts_in [] ≡ all → front ≡ all
hosts_added all front is = sym (append-nil front) ∙ is

-- the first two come before them
pub nodes_added : (old first second new : List Lifeline) (moments : List Moment) → first ≡ old ++ Node 0 ∷ []
    → second ≡ first ++ Node 1 ∷ [] → new ≡ second ++ hosts_in moments → new ≡ old ++ nodes_in moments
nodes_added old first second new moments one two hosts =
    hosts ∙ ap (λ l. l ++ hosts_in moments) (two ∙ ap (λ l. l ++ Node 1 ∷ []) one)
    ∙ append_assoc (old ++ Node 0 ∷ []) (Node 1 ∷ []) (hosts_in moments)
    ∙ append_assoc old (Node 0 ∷ []) (Node 1 ∷ hosts_in moments)
