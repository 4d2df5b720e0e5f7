-- What `save D FILE` answers: an image for the command that writes files, or why it cannot be had. What `picture FILE` and `do FILE` answer.
use Rattle.std.specs.Prelude.{◌≡◌, ℕ, List, [], ◌∷◌, ◌++◌, Result, Ok, Err, IfOk, codes}
use Rattle.std.specs.Fmt.{decimal}
use Rattle.std.specs.Global.{Vec}
use Rattle.command_console.specs.Mirrors.{IsOfCopy}
use Rattle.hex.specs.Hex.{encode_lower}
use Rattle.i8080_words.specs.declared.refusal.Fault.{Fault}
use Rattle.i8080_words.specs.declared.refusal.Fault.TheVariants.{OutOfMemory, Stalled, Unknown}

-- the mark twice, the number of a drive, its image and the name of a file in hexadecimal digits, and the mark
abbrev pub frame_of : List ℕ → ℕ → List ℕ → List ℕ → List ℕ
frame_of mark drive image path =
    ((((mark ++ mark) ++ encode_lower (drive ∷ [])) ++ encode_lower image) ++ encode_lower path) ++ mark

-- why an image of a drive cannot be had
abbrev pub unsaved_text : ℕ → Fault → List ℕ
unsaved_text drive Unknown = codes "the machine has no drive " ++ decimal drive
unsaved_text drive OutOfMemory = codes "the disk cannot be read: there is no memory for it"
unsaved_text drive Stalled = codes "the disk cannot be saved: the copy of it that is saved is behind"
unsaved_text drive fault = codes "the disk cannot be read"

-- the answer, by what came of the image
abbrev pub answer_of : List ℕ → ℕ → Result (Vec ℕ) Fault → List ℕ → List ℕ
answer_of mark drive (Ok image) path = frame_of mark drive image.items path
answer_of mark drive (Err fault) path = unsaved_text drive fault

-- a text answers by an image of that drive, or by why it could not be had
pub record IsAnswer (mark : List ℕ) (drive : ℕ) (path text : List ℕ) : Type 0 where
  pub image : Result (Vec ℕ) Fault
  pub of_copy : IfOk image (λ i. IsOfCopy drive i.items)
  pub is : text ≡ answer_of mark drive image path

-- the answer if no command is there that starts processes and writes files
abbrev pub unaided_text : List ℕ
unaided_text = codes "that needs the command `./pair`, which starts processes and writes files: this program does neither"

-- a wish for what is done with a file: the mark twice, what is wanted, the name of the file in hexadecimal digits, and the mark
abbrev pub between : List ℕ → List ℕ → List ℕ → List ℕ
between mark word digits = mark ++ (mark ++ (word ++ (codes " " ++ (digits ++ mark))))

abbrev pub wish_of : List ℕ → List ℕ → List ℕ → List ℕ
wish_of mark word path = between mark word (encode_lower path)

abbrev pub picture_word : List ℕ
picture_word = codes "picture"

abbrev pub do_word : List ℕ
do_word = codes "do"
