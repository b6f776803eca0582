-- What the bytes of a file tell of its numbers and names: numbers below 2^32, and names without a line feed.
use Rattle.aig_base.proofs.Words.{◌≢◌, ℕ, zero, suc, ◌^◌, ◌<◌, List, [], ◌∷◌, length, map, sym, subst, arith, AllByRecursion}
use Rattle.std.specs.Prelude.{replicate}
use Rattle.aig_format.specs.declared.FileKind.{FileKind}
use Rattle.aig_format.proofs.Words.{File, HeaderNumbers, NameLine, header_of, Each, IsLine, Lines, numbers_in, IsHeader, Name, Spells}
use Rattle.aig_format.proofs.Entries.{rec_append}

-- a number as a file can hold it
abbrev pub IsSmallNumber : ℕ → Type 0
IsSmallNumber n = n < 2 ^ 32

-- what each entry's bytes tell
each_tells : {A : Type 0} (P : A → List ℕ → Type 0) (Q : A → Type 0) → ((x : A) (bytes : List ℕ) → P x bytes → Q x) → (xs : List A) (bytes : List ℕ) → Each P xs bytes → AllByRecursion Q xs
each_tells P Q tells [] bytes h = tt
each_tells P Q tells (x ∷ xs) bytes h = (tells x h.0 h.3, each_tells P Q tells xs h.1 h.4)

line_small : (ns : List ℕ) (bytes : List ℕ) → IsLine ns bytes → AllByRecursion IsSmallNumber ns
line_small [] bytes h = tt
line_small (n ∷ []) bytes h = (h.3.small, tt)
line_small (n ∷ m ∷ ns) bytes h = (h.3.3.small, line_small (m ∷ ns) h.1 h.4)

zeros_small : (k : ℕ) → AllByRecursion IsSmallNumber (replicate k 0)
zeros_small zero = tt
zeros_small (suc k) = (omega arith, zeros_small k)

header_line_small : (kind : FileKind) (numbers : HeaderNumbers) (bytes : List ℕ) → IsHeader kind numbers bytes → AllByRecursion IsSmallNumber (numbers_in numbers)
header_line_small kind numbers bytes h =
    subst (AllByRecursion IsSmallNumber) (sym h.2) ((rec_append IsSmallNumber h.0 (replicate h.1 0)).1 (line_small h.0 h.4.1 h.4.4, zeros_small h.1))

lines_small : (ns bytes : List ℕ) → Lines ns bytes → AllByRecursion IsSmallNumber ns
lines_small ns bytes h = each_tells (λ n. IsLine (n ∷ [])) IsSmallNumber (λ n text line. (line_small (n ∷ []) text line).0) ns bytes h

-- the counts of a file's header
pub header_small : (f : File) (bytes : List ℕ) → Spells f bytes → AllByRecursion IsSmallNumber (numbers_in (header_of f))
header_small f bytes spells = header_line_small f.kind (header_of f) spells.sections.3.0 spells.sections.3.3

-- the sizes of its justice sets
pub sizes_small : (f : File) (bytes : List ℕ) → Spells f bytes → AllByRecursion IsSmallNumber (map length f.properties.justice)
sizes_small f bytes spells =
    let sizes = spells.sections.3.4.4.4.3.4.4.4.3 in lines_small (map length f.properties.justice) sizes.0 sizes.3

-- its names hold no line feed
pub names_plain : (f : File) (bytes : List ℕ) → Spells f bytes → AllByRecursion (λ (n : NameLine). AllByRecursion (λ b. b ≢ 10) n.name) f.names
names_plain f bytes spells = let tail = spells.sections.4 in each_tells Name (λ (n : NameLine). AllByRecursion (λ b. b ≢ 10) n.name) (λ n text name. name.1) f.names tail.0 tail.3
