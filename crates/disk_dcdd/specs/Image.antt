-- What an image says of a controller.
use Rattle.disk_dcdd.specs.declared.controller.image.ControllerImage.{ControllerImage}
use Rattle.disk_dcdd.specs.Drive.{Drives}

-- the controller that the image describes
abbrev pub imaged : ControllerImage → Drives
imaged i = record {
  attached = i.attached;
  selected = i.selected;
  drives = i.drives;
  interrupts = i.interrupts;
  current = i.current;
  outstanding = i.outstanding.now;
  issued = i.issued;
}
