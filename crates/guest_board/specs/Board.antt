-- What holds of the fields of every board between two steps.
use Rattle.std.specs.Prelude.{◌≡◌, Option, None, ℕ, ◌<◌, ◌≤◌, false, List}
use Rattle.event_callbacks.specs.declared.operations.Operation.{Operation}
use Rattle.guest_parts.specs.Board.{IsBoard}
use Rattle.guest_parts.specs.Guest.{Guest}
use Rattle.guest_board.specs.Guest.{is_spent_at}

-- below this count none of these numbers is at its greatest, and there is room for an operation
pub record IsReadyUntil (limit : ℕ) (issued : List ℕ) (writes spare : ℕ) : Type 0 where
  pub numbers : (count : ℕ) → count < limit → is_spent_at count issued writes ≡ false
  pub room : 0 < limit → 1 ≤ spare

-- what holds of the fields of every board between two steps: no operation is given, and the limit holds
pub record Stands (g : Guest) (versions : List ℕ) (given : Option Operation) (limit spare : ℕ) : Type 0 where
  pub board : IsBoard g versions
  pub forgotten : given ≡ None
  pub ready : IsReadyUntil limit g.issued g.devices.disk.issued spare
