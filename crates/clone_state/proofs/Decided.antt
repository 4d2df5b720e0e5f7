-- Whether a board can have what is read: the controller that is rebuilt, and the tests of all the fields.
use Rattle.std.proofs.Common.{◌≡◌, ℕ, Bool, true, false, cond, List, length, map, Some, None, refl, sym, ap, subst, ◌∙◌}
use Rattle.std.specs.Prelude.{◌↔◌, IfOk, IsOk, Result, Ok, Err}
use Rattle.std.specs.List.{zip}
use Rattle.std.specs.Result.{result_ok}
use Rattle.std.proofs.lemmas.Bool.{and_right, false≢true}
use Rattle.std.proofs.lemmas.Option.{none-some, same_Some}
use Rattle.clone_state.proofs.Words.{Drives, Fault, FirstImage, FirstPart, HasSizes, IsDrives, Place, PortImage, controller_of, controller_with, fields_of, first_of_image, if_possible, is_controller, is_possible}
use Rattle.serial_2sio.specs.Port as serial
use Rattle.clone_state.specs.declared.reading.first_part.Fields.{Fields}
use Rattle.clone_state.proofs.Controllers.{controller_holds, controller_passes}
use Rattle.clone_state.proofs.Lists.{zip_first, zip_second}

-- ---- the controller

-- it is rebuilt exactly if it passes its tests
pub rebuilt : (d : Drives) (r : Result Drives Fault) → HasSizes d → (IsOk r ↔ IsDrives d) → IfOk r (λ c. c ≡ d)
    → result_ok r ≡ cond (is_controller d) (Some d) None
rebuilt d (Ok c) sizes stands same =
    ap (λ x. Some x) same ∙ sym (ap (λ b. cond b (Some d) None) (controller_passes d (stands.0 refl)))
rebuilt d (Err fault) sizes stands same = go (is_controller d) refl
  where
    go : (b : Bool) → is_controller d ≡ b → None ≡ cond b (Some d) None
    go true e = absurd (false≢true (stands.1 (controller_holds d sizes.drives sizes.current e)))
    go false e = refl

-- the same, if the places of its writes are given in other words
pub rebuilt_with : (d : Drives) (places : List Place) (r : Result Drives Fault) → places ≡ d.outstanding → HasSizes d
    → (IsOk r ↔ IsDrives (record d { outstanding = places })) → IfOk r (λ c. c ≡ record d { outstanding = places })
    → result_ok r ≡ cond (is_controller d) (Some d) None
rebuilt_with d places r e sizes stands same =
    rebuilt d r sizes (subst (λ (ps : List Place). IsOk r ↔ IsDrives (record d { outstanding = ps })) e stands)
    (subst (λ (ps : List Place). IfOk r (λ c. c ≡ record d { outstanding = ps })) e same)

-- what a controller that was rebuilt, or was not, says of the tests
pub one_is : (d x : Drives) (b : Bool) → Some x ≡ cond b (Some d) None → (b ≡ true) × (x ≡ d)
one_is d x true e = (refl, same_Some x d e)
one_is d x false e = absurd (none-some x (sym e))

pub none_is : (d : Drives) (b : Bool) → None ≡ cond b (Some d) None → b ≡ false
none_is d true e = absurd (none-some d e)
none_is d false e = refl

-- ---- all the fields

-- a part that passes its tests is possible
pub passed : (f : FirstPart) (b : Bool) → b ≡ is_possible f → b ≡ true → if_possible f ≡ Some f
passed f b is e = ap (λ c. cond c (Some f) None) (sym is ∙ e)

pub refused : (f : FirstPart) (b : Bool) → b ≡ is_possible f → b ≡ false → if_possible f ≡ None
refused f b is e = ap (λ c. cond c (Some f) None) (sym is ∙ e)

pub no_controller : (f : FirstPart) → is_controller f.devices.disk ≡ false → if_possible f ≡ None
unfolding is_possible
no_controller f e = ap (λ b. cond b (Some f) None) (and_right _ (is_controller f.devices.disk) e)

-- a part with these ports and windows
abbrev with_ports : FirstPart → List serial.Port → List (List ℕ) → FirstPart
with_ports f ports windows =
    record f { devices = record f.devices { ports = ports }; unaccepted = windows }

-- the ports and their windows, side by side, are those that were put side by side
pub ports_apart : (r : FirstImage) (ports : List serial.Port) (windows : List (List ℕ)) → length ports ≡ length windows
    → r.1.1.1.1.1.1.1.0 ≡ zip ports windows → with_ports (first_of_image r) ports windows ≡ first_of_image r
ports_apart r ports windows same e =
    sym (ap (λ (ps : List PortImage). with_ports (first_of_image r) (map (λ (p : PortImage). p.0) ps) (map (λ (p : PortImage). p.1) ps)) e
    ∙ ap (λ (ps : List serial.Port). with_ports (first_of_image r) ps (map (λ (p : PortImage). p.1) (zip ports windows)))
    (zip_first ports windows same)
    ∙ ap (λ (ws : List (List ℕ)). with_ports (first_of_image r) ports ws) (zip_second ports windows same))

-- the part with these fields and this controller
abbrev pub part_of : Fields → Drives → FirstPart
part_of f disk =
    with_ports (record (first_of_image (fields_of f)) {
      devices = record (first_of_image (fields_of f)).devices { disk = disk };
    }) f.devices.ports.ports f.devices.ports.windows

pub part_is : (f : Fields) (disk : Drives) → disk ≡ controller_with f.attached (controller_of f.devices.controller)
    → length f.devices.ports.ports ≡ length f.devices.ports.windows → part_of f disk ≡ first_of_image (fields_of f)
part_is f disk e same =
    ap (part_of f) e ∙ ports_apart (fields_of f) f.devices.ports.ports f.devices.ports.windows same refl
