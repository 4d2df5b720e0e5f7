-- Lines of memory, and of instructions, are printed one after another.
use Rattle.std.proofs.Common.{◌≡◌, ◌∙◌, ℕ, suc, ◌+◌, ◌-◌, ◌%◌, ◌<◌, ◌∷◌, [], List, ap, subst, sym, arith, take, drop, length}
use Rattle.std.proofs.lemmas.List.{length-drop}
use Rattle.i8080_words.specs.Arithmetic.{wrapped}
use Rattle.i8080_words.specs.Opcodes.{instruction_length}
use Rattle.shell_language.specs.Texts.{AddsLine, Prints, Row, Text}
use Rattle.shell_language.specs.declared.printing.Printed.{Printed}
use Rattle.shell_language.proofs.Adding.{adds_text, prints_none}
use Rattle.shell_picture.specs.Listings.{byte_in, listing_rows, listing_text}
use Rattle.shell_picture.specs.Machines.{line_count, lines_from, memory_rows, memory_text}

-- one line more is printed, and the rest of the lines after it
module _ (all rows rest : List Row) (text : List ℕ) (first old new : Printed) where
  pub prints_on : rows ≡ Text text ∷ rest → AddsLine text old new
      → ((last : Printed) → Prints rows old last → Prints all first last)
      → (last : Printed) → Prints rest new last → Prints all first last
  prints_on are adds so_far last after =
      so_far last (subst (λ r. Prints r old last) (sym are) (new, (adds_text text old new adds, after)))

-- nothing is left to print
pub prints_all : (all rows : List Row) (first old : Printed) → rows ≡ []
    → ((last : Printed) → Prints rows old last → Prints all first last) → Prints all first old
prints_all all rows first old none so_far = so_far old (subst (λ r. Prints r old old) (sym none) (prints_none old))

-- two lines are printed
pub prints_two : (text more : List ℕ) (old mid new : Printed) → AddsLine text old mid → AddsLine more mid new
    → Prints (Text text ∷ Text more ∷ []) old new
prints_two text more old mid new h k = (mid, (adds_text text old mid h, (new, (adds_text more mid new k, prints_none new))))

-- the first line of bytes, and the others
lines_on : (address : ℕ) (bytes : List ℕ) → 0 < length bytes
    → memory_rows address bytes
    ≡ Text (memory_text address (take 16 bytes)) ∷ memory_rows (wrapped (address + 16)) (drop 16 bytes)
lines_on address bytes some =
    let one : line_count bytes ≡ suc (line_count (drop 16 bytes)) = omega (arith, length-drop 16 bytes) in
    ap (λ lines. lines_from lines address bytes) one

-- the first instruction, and the others
listing_on : (count number address : ℕ) (bytes : List ℕ) → number < count
    → listing_rows (count - number) address bytes
    ≡ Text (listing_text address (byte_in bytes 0 ∷ byte_in bytes 1 ∷ byte_in bytes 2 ∷ []))
    ∷ listing_rows (count - (number + 1)) (wrapped (address + instruction_length (byte_in bytes 0)))
    (drop (instruction_length (byte_in bytes 0)) bytes)
listing_on count number address bytes less =
    let one : count - number ≡ suc (count - (number + 1)) = omega arith in
    ap (λ left. listing_rows left address bytes) one

-- one line of memory more
pub memory_on : (all : List Row) (address : ℕ) (rest line after : List ℕ) (first old new : Printed) → 0 < length rest
    → line ≡ take 16 rest → after ≡ drop 16 rest → AddsLine (memory_text address line) old new
    → ((last : Printed) → Prints (memory_rows address rest) old last → Prints all first last)
    → (last : Printed) → Prints (memory_rows ((address + 16) % 65536) after) new last → Prints all first last
memory_on all address rest line after first old new some is_line is_after adds =
    prints_on all (memory_rows address rest) (memory_rows ((address + 16) % 65536) after) (memory_text address line) first old new
    (lines_on address rest some
    ∙ ap (λ bytes. Text (memory_text address bytes) ∷ memory_rows ((address + 16) % 65536) (drop 16 rest)) (sym is_line)
    ∙ ap (λ bytes. Text (memory_text address line) ∷ memory_rows ((address + 16) % 65536) bytes) (sym is_after))
    adds

-- one instruction more
pub instruction_on : (all : List Row) (count number address code second third size : ℕ) (rest after : List ℕ)
    (first old new : Printed) → number < count → code ≡ byte_in rest 0 → second ≡ byte_in rest 1 → third ≡ byte_in rest 2
    → size ≡ instruction_length code → after ≡ drop size rest
    → AddsLine (listing_text address (code ∷ second ∷ third ∷ [])) old new
    → ((last : Printed) → Prints (listing_rows (count - number) address rest) old last → Prints all first last)
    → (last : Printed) → Prints (listing_rows (count - (number + 1)) ((address + size) % 65536) after) new last
    → Prints all first last
instruction_on all count number address code second third size rest after first old new less is_code is_second is_third is_size is_after
    adds =
    prints_on all (listing_rows (count - number) address rest) (rows size after) (listing_text address (code ∷ second ∷ third ∷ []))
    first old new
    (listing_on count number address rest less
    ∙ ap (λ bytes. Text (listing_text address bytes) ∷ rows long (drop long rest)) (sym three)
    ∙ ap (λ n. Text (listing_text address (code ∷ second ∷ third ∷ [])) ∷ rows n (drop n rest)) (sym so_long)
    ∙ ap (λ bytes. Text (listing_text address (code ∷ second ∷ third ∷ [])) ∷ rows size bytes) (sym is_after))
    adds
  where
    long : ℕ
    long = instruction_length (byte_in rest 0)

    rows : ℕ → List ℕ → List Row
    rows n bytes = listing_rows (count - (number + 1)) ((address + n) % 65536) bytes

    so_long : size ≡ long
    so_long = is_size ∙ ap instruction_length is_code

    three : code ∷ second ∷ third ∷ [] ≡ byte_in rest 0 ∷ byte_in rest 1 ∷ byte_in rest 2 ∷ []
    three = ap (λ (b : ℕ). b ∷ second ∷ third ∷ []) is_code ∙ ap (λ (b : ℕ). byte_in rest 0 ∷ b ∷ third ∷ []) is_second
        ∙ ap (λ (b : ℕ). byte_in rest 0 ∷ byte_in rest 1 ∷ b ∷ []) is_third
