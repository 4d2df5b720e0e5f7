-- What a file stands for: the image of a disk, and behind it the blocks of a journal. A block is a gate (1 if it is open),
-- the place of a sector in two bytes, and the sector's 137 bytes.
use Rattle.std.specs.Prelude.{◌≡◌, ◌⊎◌, ℕ, suc, ◌+◌, ◌*◌, ◌≤◌, Bool, true, false, not, List, [], ◌∷◌, ◌++◌, length, take, drop, if◌then◌else◌, ◌==◌, ◌&&◌, nat_lt}

-- an entry of the journal: a sector's place in the image, and its bytes
pub record Entry : Type 0 where
  pub place : ℕ
  pub bytes : List ℕ

-- the entries of the open blocks up to the first that is closed, cut short or no sector's
abbrev pub entries : ℕ → ℕ → List ℕ → List Entry
entries sectors (suc more) (gate ∷ low ∷ high ∷ rest) =
    if gate == 1 && (nat_lt 136 (length rest) && nat_lt (low + high * 256) sectors)
    then record { place = low + high * 256; bytes = take 137 rest } ∷ entries sectors more (drop 137 rest)
    else []
entries sectors _ _ = []

-- the entries of a journal
abbrev pub journal_of : ℕ → List ℕ → List Entry
journal_of sectors tail = entries sectors (length tail) tail

-- what is behind the open blocks of a journal, each of 140 bytes
abbrev pub behind_blocks : ℕ → List ℕ → List ℕ
behind_blocks sectors journal = drop (140 * length (journal_of sectors journal)) journal

abbrev pub begins_closed : List ℕ → Bool
begins_closed [] = false
begins_closed (gate ∷ rest) = gate == 0

-- A journal was cut or spoiled. A session leaves nothing behind the image, or a closed gate behind the open blocks, whatever follows it;
-- and so does its crash.
abbrev pub is_spoiled : ℕ → List ℕ → Bool
is_spoiled sectors [] = false
is_spoiled sectors (gate ∷ rest) = not (begins_closed (behind_blocks sectors (gate ∷ rest)))

-- an image with other bytes in a sector
abbrev pub with_sector : List ℕ → ℕ → List ℕ → List ℕ
with_sector image place bytes = take (137 * place) image ++ bytes ++ drop (137 * place + 137) image

-- an image after these entries, the first of them first
abbrev pub applied : List ℕ → List Entry → List ℕ
applied image [] = image
applied image (e ∷ es) = applied (with_sector image e.place e.bytes) es

-- the disk that a file stands for, whatever a crash made of it
abbrev pub contents : ℕ → List ℕ → List ℕ
contents sectors file = applied (take (137 * sectors) file) (journal_of sectors (drop (137 * sectors) file))

-- a front of whole open blocks behind an image: what follows them is read after them
pub record Front (sectors end : ℕ) (front : List ℕ) : Type 0 where
  pub size : length front ≡ end
  pub long : 137 * sectors ≤ end
  pub entered : List Entry
  pub whole : (t : List ℕ) → journal_of sectors (drop (137 * sectors) front ++ t) ≡ entered ++ journal_of sectors t

-- a file between two writes: whole open blocks behind the image, and a closed gate
pub record Resting (sectors end : ℕ) (file : List ℕ) : Type 0 where
  pub front : List ℕ
  pub split : file ≡ front ++ 0 ∷ []
  pub blocks : Front sectors end front

-- the file stands for the disk before a write or after it
abbrev pub IsBeforeOrAfter : ℕ → List ℕ → ℕ → List ℕ → List ℕ → Type 0
IsBeforeOrAfter sectors before place bytes file =
    (contents sectors file ≡ before) ⊎ (contents sectors file ≡ with_sector before place bytes)

-- while the entries of a file are written into its image: the journal stands, and gives the same disk
pub record Redone (sectors : ℕ) (start file : List ℕ) : Type 0 where
  pub size : length file ≡ length start
  pub tail : drop (137 * sectors) file ≡ drop (137 * sectors) start
  pub same : applied (take (137 * sectors) file) (journal_of sectors (drop (137 * sectors) start))
      ≡ contents sectors start
