-- What the fields of a `Board` mean, apart from its callbacks, and what holds of every board.
use Rattle.std.specs.Prelude.{◌≡◌, ℕ, ◌+◌, ◌*◌, ◌^◌, ◌<◌, ◌≤◌, nat_lt, nat_le, Bool, false, ◌&&◌, Some, is_some, IfSome, List, All, length, slice_index, refl}
use Rattle.std.specs.Coded.{Coded, code_by, coded×, coded_ℕ, coded_list}
use Rattle.std.specs.FinMap as map
use Rattle.i8080_words.specs.declared.registers.Processor.{Processor}
use Rattle.disk_dcdd.specs.Completion.{is_outstanding}
use Rattle.disk_dcdd.specs.Drive.{Drives}
use Rattle.disk_dcdd.specs.Sector.{place_of}
use Rattle.disk_dcdd.specs.declared.address.TheConstants.{DRIVE_SECTORS}
use Rattle.i8080_words.specs.declared.limits.TheConstants.{GREATEST_NUMBER}
use Rattle.disk_dcdd.specs.declared.sector.Place.{Place}
use Rattle.disk_dcdd.specs.declared.sector.SectorWrite.{SectorWrite}
use Rattle.event_callbacks.specs.Completions.{port_of}
use Rattle.event_callbacks.specs.Operations.{Operations, operation_at, id_of}
use Rattle.event_callbacks.specs.declared.devices.Devices.{Devices}
use Rattle.event_callbacks.specs.declared.devices.TheConstants.{PORTS}
use Rattle.event_callbacks.specs.declared.operations.OpId.{OpId}
use Rattle.event_callbacks.specs.declared.operations.OpId.TheVariants as id
use Rattle.event_callbacks.specs.declared.operations.Operation.{Operation}
use Rattle.event_callbacks.specs.declared.operations.Operation.TheVariants as operation
use Rattle.guest_parts.specs.Guest.{Guest}

-- a guest on a board, and how often each page of its memory was written
pub record OnBoard : Type 0 where
  pub guest : Guest
  pub versions : List ℕ

-- boards are distinguished by all of that
abbrev pub on_board_code : Coded Processor → Coded Devices → Coded OpId → Coded Operation → Coded OnBoard
on_board_code processor devices name operation =
    let numbers = coded_list coded_ℕ in
    code_by
    (Processor × (List ℕ × (Devices × (Operations × (List ℕ × (List ℕ × (ℕ × (List ℕ × (List ℕ × (ℕ × List ℕ))))))))))
    (coded× processor (coded× numbers (coded× devices (coded× (map.code name operation) (coded× numbers (coded× numbers
    (coded× coded_ℕ (coded× numbers (coded× numbers (coded× coded_ℕ numbers))))))))))
    (λ b. (
      b.guest.processor,
      (
        b.guest.memory,
        (
          b.guest.devices,
          (
            b.guest.operations,
            (
              b.guest.issued,
              (b.guest.completed, (b.guest.count, (b.guest.keys, (b.guest.levels, (b.guest.sense, b.versions))))),
            ),
          ),
        ),
      ),
    ))
    (λ p. record {
      guest = record {
        processor = p.0;
        memory = p.1.0;
        devices = p.1.1.0;
        operations = p.1.1.1.0;
        issued = p.1.1.1.1.0;
        completed = p.1.1.1.1.1.0;
        count = p.1.1.1.1.1.1.0;
        keys = p.1.1.1.1.1.1.1.0;
        levels = p.1.1.1.1.1.1.1.1.0;
        sense = p.1.1.1.1.1.1.1.1.1.0;
      };
      versions = p.1.1.1.1.1.1.1.1.1.1;
    })
    (λ _. refl)

-- the bytes of a port that are on their way are the last that were issued, as many as are unaccepted
abbrev pub is_on_its_way : ℕ → ℕ → ℕ → Bool
is_on_its_way issued unaccepted number = nat_lt issued (number + unaccepted) && nat_le number issued

-- the write that a place waits for is under its number and goes to that place
pub record IsHeld (operations : Operations) (place : Place) : Type 0 where
  pub write : SectorWrite
  pub held : operation_at operations (id.Write place.number) ≡ Some (operation.Write write)
  pub there : place_of write ≡ place

-- exactly the bytes that the ports have on their way and the writes that the controller waits for are outstanding, each
-- under its own name, and none has a number past the last that was issued
pub record AreAwaited (d : Devices) (operations : Operations) (issued : List ℕ) : Type 0 where
  pub ports : length d.ports ≡ PORTS
  pub numbers : length issued ≡ PORTS
  pub sent : (port : ℕ) → (port_of d port).unaccepted ≤ slice_index issued port
  pub bytes : (port number : ℕ) → is_some (operation_at operations (id.Byte port number))
      ≡ (nat_lt port PORTS && is_on_its_way (slice_index issued port) (port_of d port).unaccepted number)
  pub writes : (number : ℕ) → is_some (operation_at operations (id.Write number)) ≡ is_outstanding d.disk number
  pub places : All (IsHeld operations) d.disk.outstanding
  pub last : All (λ place. place.number ≤ d.disk.issued) d.disk.outstanding
  pub names : (name : OpId) → IfSome (operation_at operations name) (λ op. id_of op ≡ name)

-- the numbers of a guest are in range, and no page was written more than twice per step
pub record AreInRange (g : Guest) (versions : List ℕ) : Type 0 where
  pub count : g.count ≤ GREATEST_NUMBER
  pub issued : (port : ℕ) → slice_index g.issued port ≤ GREATEST_NUMBER
  pub keys : (port : ℕ) → slice_index g.keys port ≤ GREATEST_NUMBER
  pub ports : length g.keys ≡ PORTS
  pub levels : (device : ℕ) → slice_index g.levels device < 8
  pub sense : g.sense < 2 ^ 8
  pub writes : (page : ℕ) → slice_index versions page ≤ 2 * g.count

-- there is a number for each sector of the attached drives, none past the last write that was issued, and none of an
-- outstanding write
pub record AreCompleted (completed : List ℕ) (disk : Drives) : Type 0 where
  pub sectors : length completed ≡ disk.attached * DRIVE_SECTORS
  pub last : (index : ℕ) → slice_index completed index ≤ disk.issued
  pub done : (index : ℕ) → is_outstanding disk (slice_index completed index) ≡ false

-- what holds of every board between two steps
pub record IsBoard (g : Guest) (versions : List ℕ) : Type 0 where
  pub awaited : AreAwaited g.devices g.operations g.issued
  pub in_range : AreInRange g versions
  pub completed : AreCompleted g.completed g.devices.disk
