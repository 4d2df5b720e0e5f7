-- What a device of a file holds.
use Rattle.std.specs.Prelude.{ℕ, nat_eq, ◌&&◌, Bool, false, not, List, [], ◌∷◌, drop, length, replicate, if◌then◌else◌, is_some}
use Rattle.disk_file.specs.Sectors.{is_spoiled}
use Rattle.disk_file.specs.declared.file_device.FileDevice.{FileDevice}

-- its bytes
abbrev pub bytes_in : FileDevice → List ℕ
bytes_in device = device.bytes.items

-- it is an open file
abbrev pub is_file : FileDevice → Bool
is_file device = is_some device.medium.file

-- the image of a drive on which nothing is written
unfoldable pub blank_image : List ℕ
blank_image = replicate 337568 0

-- what a file begins with: an empty one is made an image of zeros
abbrev pub begun : List ℕ → List ℕ
begun bytes = if nat_eq (length bytes) 0 then blank_image else bytes

-- bytes after an image that pad it to whole blocks of 128 bytes; an open gate is no padding
abbrev pub is_padding : List ℕ → Bool
is_padding [] = false
is_padding (gate ∷ rest) = not (nat_eq gate 1) && nat_eq (length (gate ∷ rest)) 96

-- what is behind an image is a journal that was cut or spoiled
abbrev pub has_spoiled_journal : List ℕ → Bool
has_spoiled_journal bytes = not (is_padding (drop 337568 bytes)) && is_spoiled 2464 (drop 337568 bytes)
