-- What a faithful world promises, the processes that show it promise too.
use Rattle.std.proofs.Common.{◌∙◌, ◌≡◌, Some, ap, arith, inr, length, subst, sym, ℕ}
use Rattle.std.specs.Prelude.{slice_get}
use Rattle.guest_lockstep.specs.Reach.{keys, output}
use Rattle.pair_protocol.specs.Faithful.{IsAllBut, MayHave}
use Rattle.pair_protocol.specs.NodeStands.{NodeStands}
use Rattle.pair_protocol.proofs.Promises.NodeStands.{nodes_stand}
use Rattle.pair_protocol.specs.Settled.{list_of}
use Rattle.host_law.specs.Host.{HasTakenKeys}
use Rattle.host_law.specs.Kept.{Kept}
use Rattle.host_law.proofs.Following.{node-there}
use Rattle.host_law.proofs.Words.{Alone, Copying, Faithful, Fleet, IsCopying, IsPrefix, Lawful, Machine, Node, Shows, Spare, World, accepted_after, sector_record}

pub devices-kept : {S : Type 0} (M : Machine S) (C : Copying S) (f : Fleet S) (w : World S) → Shows M C f w →
    (faithful : Faithful M w) → Kept M f faithful.list faithful.count faithful.trace faithful.reach
devices-kept {S} M C f w h k = record {
  output = λ port. subst (λ l. IsAllBut M.window_size (accepted_after 0 l) (output port k.trace))
      (sym (h.terminals.each port).arrivals) (k.output port);
  disk = λ address. subst (λ l. MayHave M k.trace k.reach.last address (sector_record M l address).bytes) (sym h.puts)
      (k.disk address);
  typed = λ port. subst (λ l. IsPrefix (keys port k.list) l) (sym (h.terminals.each port).typed) (k.typed port);
  told = λ port. (let here = (h.terminals.each port).told in let there = k.told port in omega (arith, here, there));
  one_live = λ n m x y at_x at_y is_x is_y.
      k.one_live n m x y (node-there M C f w h n x at_x (live x is_x)) (node-there M C f w h m y at_y (live y is_y)) is_x
      is_y;
}
  where
    live : (x : Node S) → x.role ≡ Alone → x.role ≡ Spare → ⊥
    live x is e = (cc)

pub hosts-stand : {S : Type 0} (M : Machine S) (C : Copying S) → Lawful M → IsCopying M C → (f : Fleet S) (w : World S) →
    Shows M C f w → (n : ℕ) (x : Node S) → slice_get f.hosts n ≡ Some x → (x.role ≡ Spare → ⊥) → NodeStands M x
hosts-stand M C laws copies f w h n x there node =
    nodes_stand M C laws copies w h.reached n x (node-there M C f w h n x there node)

-- so one that is alone has taken the keys of its list
pub has-taken-keys : {S : Type 0} (M : Machine S) (C : Copying S) → Lawful M → IsCopying M C → (f : Fleet S) (w : World S) →
    Shows M C f w → (n : ℕ) (x : Node S) → slice_get f.hosts n ≡ Some x → x.role ≡ Alone → HasTakenKeys M x
has-taken-keys M C laws copies f w h n x there alone = λ port within.
    (hosts-stand M C laws copies f w h n x there (λ e. (cc))).keys (inr alone) port
    ∙ ap (λ r. length (keys port (list_of x r))) alone
