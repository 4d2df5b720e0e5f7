-- What a terminal has accepted after one event more.
use Rattle.std.proofs.Common.{◌≡◌, ℕ, suc, ◌+◌, arith, List, ◌++◌, Option, subst, sym}
use Rattle.sequence_diagram.specs.Screens.{HasAccepted, IsAcceptedAt, bytes_of}
use Rattle.sequence_diagram.specs.declared.moment.Moment.{Moment}

module _ (moments : List Moment) (port place : ℕ) where
  pub accepted_more : (before bytes : List ℕ) (found : Option ℕ) → HasAccepted moments port place before
      → IsAcceptedAt moments port place found → bytes ≡ before ++ bytes_of found → HasAccepted moments port (place + 1) bytes
  accepted_more before bytes found so_far here is =
      let on : place + 1 ≡ suc place = omega arith in
      subst (λ n. HasAccepted moments port n bytes) (sym on) (before, (so_far, (found, (here, is))))
