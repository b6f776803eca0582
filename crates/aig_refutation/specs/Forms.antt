-- Part of what is promised.
-- The forms of proofs: text with numbers (LRAT), text without (DRAT), and both in binary.
use Rattle.std.specs.Prelude.{ℕ, ◌==◌, ◌&&◌, ◌||◌, Bool, true, false, not, if◌then◌else◌, List, [], ◌∷◌, codes, drop, take, Option, Some, None}
use Rattle.std.specs.List.{list_any, starts_with}
use Rattle.aig_refutation.specs.Binary.{binary_steps_in, groups_in}
use Rattle.aig_refutation.specs.BinaryNumbered.{numbered_steps_in}
use Rattle.aig_refutation.specs.Proofs.{Script, allowed, plain_of, script_if}
use Rattle.aig_refutation.specs.Steps.{PlainStep, Step}
use Rattle.aig_refutation.specs.Text.{begins, lines_of}

-- ---- binary proofs

-- how many bytes at the front tell whether a proof is binary
abbrev pub telling : ℕ
telling = 1024

-- A proof is binary where it begins with `a`, or with `d` and a byte 0 is among the first: a binary
-- step ends with one, and a text has none.
abbrev pub is_binary : List ℕ → Bool
is_binary bytes = begins 97 bytes || begins 100 bytes && list_any (λ b. b == 0) (take telling bytes)

-- ---- binary proofs with numbers

-- the word that may stand before a binary LRAT proof
abbrev pub has_word : List ℕ → Bool
has_word bytes = starts_with (λ a b. a == b) bytes (codes "lrat")

-- what word comes next: the letter of a step, the number of its clause, one of its literals, or one
-- of the list that ends the step
pub data Part : Type 0 where
  Letter : Part
  Number : Part
  Literals : Part
  Last : Part

-- What comes after a word, if a step can have it. In DRAT a clause is the list that ends its step,
-- and in LRAT its number comes first, which isn't 0.
abbrev pub part_after : Bool → Part → List ℕ → Option Part
part_after numbered Letter word =
    if begins 97 word then Some (if numbered then Number else Last)
    else if begins 100 word then Some Last else None
part_after numbered Number word = if begins 0 word then None else Some Literals
part_after numbered Literals word = Some (if begins 0 word then Last else Literals)
part_after numbered Last word = Some (if begins 0 word then Letter else Last)

-- whether it can, and what comes after it is so
abbrev pub goes_on : Option Part → (Part → Bool) → Bool
goes_on None is = false
goes_on (Some part) is = is part

-- whether words are those of steps, the last of which may be cut, by what comes first
unfoldable pub are_steps : Bool → Part → List (List ℕ) → Bool
are_steps numbered part [] = true
are_steps numbered part (word ∷ words) =
    goes_on (part_after numbered part word) (λ next. are_steps numbered next words)

-- whether the bytes at the front are those of steps
abbrev pub has_steps : Bool → List ℕ → Bool
has_steps numbered bytes = are_steps numbered Letter (groups_in (take telling bytes))

-- a binary proof is one of an LRAT file: its first bytes can't be steps of a DRAT file, and can be
-- those of an LRAT file
abbrev pub is_numbered : List ℕ → Bool
is_numbered bytes = not (has_steps false bytes) && has_steps true bytes

-- ---- steps

-- the steps that the bytes of a proof say, if they have numbers: behind the word, or of a binary
-- LRAT proof, or of a text whose first line that is a step has the form of an LRAT file
abbrev pub steps_in : ℕ → List ℕ → Option (Script Step)
steps_in variables bytes =
    if has_word bytes then Some (numbered_steps_in (allowed variables) (drop 4 bytes))
    else if is_binary bytes then (if is_numbered bytes
    then Some (numbered_steps_in (allowed variables) bytes) else None)
    else script_if (allowed variables) (lines_of bytes)

-- the steps that the bytes of a proof say, if they have no numbers: of a binary DRAT proof, or of a
-- text whose first line that is a step has the form of a DRAT file
abbrev pub plain_steps_in : ℕ → List ℕ → Script PlainStep
plain_steps_in variables bytes =
    if is_binary bytes then binary_steps_in (allowed variables) bytes
    else plain_of (allowed variables) (lines_of bytes)
