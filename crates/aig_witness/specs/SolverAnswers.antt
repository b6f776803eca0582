-- Part of what is promised.
-- What a solver's answer says: a plain reader of it, by lines and words. (The output of the SAT
-- competitions.)
-- A line is ended by a line feed or by the end, and words stand apart by blanks. The answer is the
-- line `s SATISFIABLE`. A line of values is `v` and literals; a 0 ends the last of these lines,
-- before the answer or after it, and what follows both is not read. Lines without a word are passed
-- over, and those whose first word begins with `c`.
use Rattle.std.specs.Prelude.{◌≡◌, ℕ, ◌-◌, ◌==◌, ◌&&◌, ◌||◌, nat_le, Bool, true, false, not, if◌then◌else◌, List, [], ◌∷◌, ◌++◌, length, replicate, slice_set, codes, Option, Some, None, IfSome, IsTrue, Result, Ok, Err, Vec}
use Rattle.std.specs.Option.{option_map_or}
use Rattle.std.specs.Str.{bytes_eq}
use Rattle.std.specs.declared.alloc.Global.{Global}
use Rattle.aig_base.specs.declared.logic.three.Lbool.{Lbool}
use Rattle.aig_base.specs.declared.logic.three.Lbool.TheVariants.{FALSE, TRUE, NONE}
use Rattle.aig_lexer.specs.Digits.{number_after}
use Rattle.aig_witness.specs.declared.solutions.error.SolutionError.{SolutionError}
use Rattle.aig_witness.specs.declared.solutions.error.SolutionError.TheVariants as errors
use Rattle.aig_witness.specs.Solutions.{value_at}
use Rattle.aig_witness.specs.Shown.{known_of}

-- ---- lines and words

-- a space, a tab or a carriage return
abbrev pub is_blank : ℕ → Bool
is_blank b = (b == 32) || (b == 9) || (b == 13)

-- a word in front of others, unless it is empty
abbrev pub word_in_front : List ℕ → List (List ℕ) → List (List ℕ)
word_in_front [] words = words
word_in_front (b ∷ bs) words = (b ∷ bs) ∷ words

-- the words of the first line, of which the first has begun with `word`
unfoldable pub words_from : List ℕ → List ℕ → List (List ℕ)
words_from word [] = word_in_front word []
words_from word (b ∷ bs) =
    if b == 10 then word_in_front word []
    else if is_blank b then word_in_front word (words_from [] bs)
    else words_from (word ++ b ∷ []) bs

-- the words of the lines after the first
unfoldable pub lines_after : List ℕ → List (List (List ℕ))
lines_after [] = []
lines_after (b ∷ bs) = if b == 10 then words_from [] bs ∷ lines_after bs else lines_after bs

-- the words of each line
abbrev pub lines_of : List ℕ → List (List (List ℕ))
lines_of bytes = words_from [] bytes ∷ lines_after bytes

-- whether a word begins with this letter
abbrev pub begins : ℕ → List ℕ → Bool
begins letter [] = false
begins letter (b ∷ bs) = b == letter

-- whether a line says nothing
abbrev pub is_passed_over : List (List ℕ) → Bool
is_passed_over [] = true
is_passed_over (word ∷ words) = begins 99 word

-- ---- numbers

-- the number of a word of one digit or more
abbrev pub number_in : List ℕ → Option ℕ
number_in [] = None
number_in (b ∷ bs) = number_after 0 (b ∷ bs)

-- a word's number, with a minus in front of it or without
abbrev pub signed_in : List ℕ → Option (Bool × ℕ)
signed_in [] = None
signed_in (b ∷ bs) =
    if b == 45 then option_map_or (λ n. Some (false, n)) (number_in bs) None
    else option_map_or (λ n. Some (true, n)) (number_in (b ∷ bs)) None

-- ---- values

-- what follows a value, if there is one
infixl 10 ◌>>=◌
abbrev pub ◌>>=◌ : {A B : Type 0} → Result A SolutionError → (A → Result B SolutionError)
    → Result B SolutionError
(Ok x) >>= f = f x
(Err e) >>= f = Err e

-- the literal of a word, or the 0
abbrev pub literal_in : List ℕ → Result (Bool × ℕ) SolutionError
literal_in word = option_map_or (λ n. Ok n) (signed_in word) (Err errors.Literal)

-- whether this is the 0, which has no minus
abbrev pub is_end : Bool × ℕ → Bool
is_end n = n.0 && n.1 == 0

-- whether a literal is the inverse of one that gave this value
abbrev pub is_inverse : Lbool → Bool → Bool
is_inverse TRUE positive = not positive
is_inverse FALSE positive = positive
is_inverse NONE positive = false

-- the values with that of a literal, whose number is one more than its variable's
abbrev pub with_literal : List Lbool → Bool × ℕ → Result (List Lbool) SolutionError
with_literal values n =
    if n.1 == 0 then Err errors.Literal
    else if nat_le (length values) (n.1 - 1) then Err errors.Variable
    else if is_inverse (value_at values (n.1 - 1)) n.0 then Err errors.Clash
    else Ok (slice_set values (n.1 - 1) (known_of n.0))

-- what words of a line of values say, after these values: the values, and the words after the 0
unfoldable pub take_words : List Lbool → List (List ℕ)
    → Result (List Lbool × Option (List (List ℕ))) SolutionError
take_words values [] = Ok (values, None)
take_words values (word ∷ words) = do
  n ← literal_in word
  if is_end n then Ok (values, Some words)
      else (with_literal values n >>= λ more. take_words more words)

-- ---- the answer

-- what an answer says
abbrev pub take_name : List ℕ → Result (Unit {0}) SolutionError
take_name name =
    if bytes_eq name (codes "SATISFIABLE") then Ok tt
    else if bytes_eq name (codes "UNSATISFIABLE") then Err errors.Unsatisfiable
    else if bytes_eq name (codes "UNKNOWN") then Err errors.Unknown
    else Err errors.Answer

-- what a line says as an answer
abbrev pub take_answer : List (List ℕ) → Result (Unit {0}) SolutionError
take_answer ((s ∷ []) ∷ name ∷ []) = if s == 115 then take_name name else Err errors.Answer
take_answer words = Err errors.Answer

-- the answer after all values
unfoldable pub last_answer : List (List (List ℕ)) → Result (Unit {0}) SolutionError
last_answer [] = Err errors.Answer
last_answer (line ∷ lines) = if is_passed_over line then last_answer lines else take_answer line

-- the values, where the answer came before the 0 or comes after it
abbrev pub finished : Bool → List Lbool → List (List (List ℕ)) → Result (List Lbool) SolutionError
finished true values lines = Ok values
finished false values lines = last_answer lines >>= λ said. Ok values

-- ---- all lines

-- the words of a line of values, which begins with `v`
abbrev pub value_words : List (List ℕ) → Result (List (List ℕ)) SolutionError
value_words ((v ∷ []) ∷ words) = Ok words
value_words words = Err errors.Line

-- what is wrong where the lines end
abbrev pub wrong_end : Bool → SolutionError
wrong_end answered = if answered then errors.Unfinished else errors.Answer

-- what lines say, after an answer or not, and after these values
unfoldable pub solution_from : Bool → List Lbool → List (List (List ℕ))
    → Result (List Lbool) SolutionError
solution_from answered values [] = Err (wrong_end answered)
solution_from answered values ([] ∷ lines) = solution_from answered values lines
solution_from answered values ((word ∷ words) ∷ lines) =
    if begins 99 word then solution_from answered values lines
    else if begins 118 word
    then (value_words (word ∷ words) >>= λ literals. take_words values literals >>= λ said.
    option_map_or (λ rest. finished answered said.0 (rest ∷ lines)) said.1
    (solution_from answered said.0 lines))
    else if answered then Err errors.Line
    else (take_answer (word ∷ words) >>= λ said. solution_from true values lines)

-- the value that the bytes of a solver's answer say of each variable, or why they say none: a
-- variable of which they say nothing is unknown
abbrev pub solution_in : ℕ → List ℕ → Result (List Lbool) SolutionError
solution_in variables bytes = solution_from false (replicate variables NONE) (lines_of bytes)

-- ---- calls

-- Where the bytes are known, memory and the stream aside, the values are those that they say, or
-- the error is the one that they have. Stream tells that a read failed.
abbrev pub GivesSolution : Option (List ℕ) → ℕ → Bool → Result (Vec Lbool Global) SolutionError
    → Type 0
GivesSolution text variables failed (Ok values) =
    (length values.items ≡ variables)
    × IfSome text (λ bytes. solution_in variables bytes ≡ Ok values.items)
GivesSolution text variables failed (Err errors.Memory) = Unit {0}
GivesSolution text variables failed (Err errors.Stream) = IsTrue failed
GivesSolution text variables failed (Err errors.NoBad) = ⊥
GivesSolution text variables failed (Err (errors.Check e)) = ⊥
GivesSolution text variables failed (Err e) =
    IfSome text (λ bytes. solution_in variables bytes ≡ Err e)
