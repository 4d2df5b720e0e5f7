-- What the guards of a step say of what is known holds of the world that is shown.
use Rattle.std.proofs.Common.{◌≡◌, ℕ, zero, suc, ◌+◌, ◌<◌, ◌≤◌, eqb, cond, Bool, true, false, List, [], ◌∷◌, length, map, ap, ◌∙◌, arith, Some, slice_get}
use Rattle.pair_rule.proofs.Words.{Among, Arrived, HasWrite, IsReplied, Knowledge, Machine, Shows, Stands, World, WriteDone, accepted, accepted_after, accepted_in, arrival_of, counted_at, terminal, terminal_in, typed_at}
use Rattle.pair_protocol.specs.World.{accepted_after as bytes_after}
use Rattle.pair_rule.specs.declared.payload.DiskAnswer.TheVariants as answer
pub use Rattle.pair_rule.proofs.Elements.{all_in}

-- the bytes accepted are as many as are counted
as_many : (n : ℕ) (xs : List Arrived) → length (bytes_after n (map arrival_of xs)) + n ≡ accepted_after n xs
as_many n [] = (let e : 0 + n ≡ n = omega arith in e)
as_many n (x ∷ xs) = go (eqb x.number (n + 1)) (as_many (n + 1) xs) (as_many n xs)
  where
    go : (b : Bool) → length (bytes_after (n + 1) (map arrival_of xs)) + (n + 1) ≡ accepted_after (n + 1) xs
        → length (bytes_after n (map arrival_of xs)) + n ≡ accepted_after n xs
        → length (cond b (x.byte ∷ bytes_after (n + 1) (map arrival_of xs)) (bytes_after n (map arrival_of xs))) + n ≡ cond b
        (accepted_after (n + 1) xs) (accepted_after n xs)
    go true e d = omega (arith, e)
    go false e d = d

module _ {S : Type 0} (M : Machine S) (typed0 typed1 : List ℕ) (k : Knowledge) (w : World S) (z : Shows M typed0 typed1 k w) where
  pub typed_there : (port i byte : ℕ) → port < 2 → slice_get (typed_at port typed0 typed1) i ≡ Some byte
      → slice_get (terminal w port).typed i ≡ Some byte
  typed_there zero i byte two e = ap (λ l. slice_get (terminal_in l 0).typed i) z.terminals ∙ e
  typed_there (suc zero) i byte two e = ap (λ l. slice_get (terminal_in l 1).typed i) z.terminals ∙ e
  typed_there (suc (suc port)) i byte two e = absurd (omega arith)

  pub accepted_there : Stands k → (port number : ℕ) → port < 2 → number ≤ counted_at port k → number ≤ length (accepted w port)
  accepted_there st zero number two few = let a = st.port0.accepted in let b =
      as_many 0 k.terminal.arrivals0 in let c : length (accepted w 0) ≡ length
      (bytes_after 0 (map arrival_of k.terminal.arrivals0)) =
      ap (λ l. length (accepted_in l 0)) z.terminals in omega (arith, a, b, c, few)
  accepted_there st (suc zero) number two few = let a = st.port1.accepted in let b =
      as_many 0 k.terminal.arrivals1 in let c : length (accepted w 1) ≡ length
      (bytes_after 0 (map arrival_of k.terminal.arrivals1)) =
      ap (λ l. length (accepted_in l 1)) z.terminals in omega (arith, a, b, c, few)
  accepted_there st (suc (suc port)) number two few = absurd (omega arith)

  pub done_there : Stands k → (number : ℕ) → Among (answer.Written number) k.primary.answers → Among (WriteDone number) w.messages
  done_there st number i = z.sent.writes number
      (all_in (λ a. Among a k.disk.given) k.primary.answers (answer.Written number) st.disk.answers i)

  pub put_there : Stands k → (number : ℕ) → Among (answer.Written number) k.primary.answers → HasWrite k.disk.puts number
  put_there st number i = all_in (IsReplied k.disk.puts) k.disk.given (answer.Written number) st.disk.replies
      (all_in (λ a. Among a k.disk.given) k.primary.answers (answer.Written number) st.disk.answers i)
