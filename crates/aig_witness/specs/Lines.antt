-- Serves private clauses alone.
-- What the calls that read a solver's answer take of its lines, and what they leave.
use Rattle.std.specs.Prelude.{◌≡◌, ◌≢◌, ℕ, ◌==◌, ◌<◌, ◌≤◌, Bool, true, false, if◌then◌else◌, List, [], ◌∷◌, ◌++◌, length, take, Option, Some, None, Result, Ok, Err}
use Rattle.std.specs.Option.{option_map_or}
use Rattle.aig_base.specs.declared.logic.three.Lbool.{Lbool}
use Rattle.aig_lexer.specs.Digits.{number_after}
use Rattle.aig_lexer.specs.Takes.{Feed}
use Rattle.aig_witness.specs.declared.solutions.error.SolutionError.{SolutionError}
use Rattle.aig_witness.specs.declared.solutions.error.SolutionError.TheVariants as errors
use Rattle.aig_witness.specs.declared.solutions.values.Reached.{Reached}
use Rattle.aig_witness.specs.declared.solutions.values.Reached.TheVariants as reached
use Rattle.aig_witness.specs.declared.solutions.words.End.{End}
use Rattle.aig_witness.specs.declared.solutions.words.End.TheVariants as ends
use Rattle.aig_witness.specs.declared.solutions.words.Word.{Word}
use Rattle.aig_witness.specs.SolverAnswers.{◌>>=◌, finished, is_blank, is_passed_over, last_answer, lines_after, lines_of, literal_in, solution_from, take_answer, take_words, words_from}

-- ---- bytes that are known

-- so are those that are left, and this is so of both
abbrev pub Leaves : Feed → Feed → (List ℕ → List ℕ → Type 0) → Type 0
Leaves before after R =
    (bytes : List ℕ) → before.coming ≡ Some bytes
    → (rest : List ℕ) × (after.coming ≡ Some rest) × R bytes rest

-- this is so of them
abbrev pub Says : Feed → (List ℕ → Type 0) → Type 0
Says before P = (bytes : List ℕ) → before.coming ≡ Some bytes → P bytes

-- an error of reading tells this of them, or that a read failed
abbrev pub TellsError : Feed → Feed → SolutionError → (List ℕ → Type 0) → Type 0
TellsError before after errors.Stream P = after.failed ≡ true
TellsError before after errors.NoBad P = ⊥
TellsError before after (errors.Check e) P = ⊥
TellsError before after e P = Says before P

-- ---- words

-- how a byte ends a word, if it does
abbrev pub end_of : ℕ → Option End
end_of b = if b == 10 then Some ends.Line else if is_blank b then Some ends.Blank else None

-- after such an end these words of the line, and these lines, are left in bytes
abbrev pub IsLeft : End → List (List ℕ) → List (List (List ℕ)) → List ℕ → Type 0
IsLeft ends.Blank words lines rest = (words ≡ words_from [] rest) × (lines ≡ lines_after rest)
IsLeft ends.Line words lines rest = (words ≡ []) × (lines ≡ lines_of rest)
IsLeft ends.Stream words lines rest = (words ≡ []) × (lines ≡ []) × (rest ≡ [])

-- no more bytes are to come, unless the stream ended
abbrev pub IsNoMore : End → Feed → Feed → Type 0
IsNoMore ends.Stream before after = Unit {0}
IsNoMore e before after = after.most ≤ before.most

-- a word that has begun is read to its end: these bytes came of it
abbrev pub EndsWord : End → List ℕ → Feed → Feed → Type 0
EndsWord end taken before after = IsNoMore end before after
    × Leaves before after (λ bytes rest. (c : ℕ) (word : List ℕ) → (words : List (List ℕ))
    × (words_from (c ∷ word) bytes ≡ (c ∷ word ++ taken) ∷ words)
    × IsLeft end words (lines_after bytes) rest)

-- a word that has begun goes on with these bytes
abbrev pub GoesOnBy : List ℕ → List ℕ → Type 0
GoesOnBy taken bytes = (c : ℕ) (word : List ℕ) → (more : List ℕ) × (words : List (List ℕ))
    × (words_from (c ∷ word) bytes ≡ (c ∷ word ++ (taken ++ more)) ∷ words)

-- the number of digits of which the first came before, or a word that is none
abbrev pub GivesNumber : ℕ → Feed → Feed → Result (ℕ × End) SolutionError → Type 0
GivesNumber first before after (Ok x) =
    (taken : List ℕ) × (number_after 0 (first ∷ taken) ≡ Some x.0)
    × EndsWord x.1 taken before after
GivesNumber first before after (Err e) = TellsError before after e (λ bytes. (e ≡ errors.Literal)
    × (taken : List ℕ) × ((more : List ℕ) → number_after 0 (first ∷ taken ++ more) ≡ None)
    × GoesOnBy taken bytes)

-- the literal of a word of which the first byte came before, or a word that is none
abbrev pub GivesWord : ℕ → Feed → Feed → Result Word SolutionError → Type 0
GivesWord first before after (Ok x) = IsNoMore x.end before after
    × Leaves before after (λ bytes rest. (word : List ℕ) × (words : List (List ℕ))
    × (words_from (first ∷ []) bytes ≡ word ∷ words)
    × (literal_in word ≡ Ok (x.positive, x.number)) × IsLeft x.end words (lines_after bytes) rest)
GivesWord first before after (Err e) =
    TellsError before after e (λ bytes. (word : List ℕ) × (words : List (List ℕ))
    × (words_from (first ∷ []) bytes ≡ word ∷ words) × (literal_in word ≡ Err e))

-- ---- lines of values

-- what the rest of a line of values and the lines after it say
abbrev pub values_from : Bool → List Lbool → List (List ℕ) → List (List (List ℕ))
    → Result (List Lbool) SolutionError
values_from answered values words lines = take_words values words >>= λ said.
    option_map_or (λ rest. finished answered said.0 (rest ∷ lines)) said.1
    (solution_from answered said.0 lines)

-- the same of bytes, where a word of the line has begun
abbrev pub words_said : List ℕ → Bool → List Lbool → List ℕ → Result (List Lbool) SolutionError
words_said word answered values bytes =
    values_from answered values (words_from word bytes) (lines_after bytes)

-- how far a line of values is read where this comes after a word
abbrev pub reached_by : End → Reached
reached_by ends.Blank = reached.Word
reached_by ends.Line = reached.Line
reached_by ends.Stream = reached.Stream

-- what bytes say, where the line of values was read so far
abbrev pub reached_from : Reached → Bool → List Lbool → List ℕ → Result (List Lbool) SolutionError
reached_from reached.Word answered values rest = words_said [] answered values rest
reached_from reached.Zero answered values rest = finished answered values (lines_of rest)
reached_from reached.Line answered values rest = solution_from answered values (lines_of rest)
reached_from reached.Stream answered values rest = solution_from answered values []

-- no more bytes are to come, unless the stream ended or the values did
abbrev pub IsNoMoreValues : Reached → Feed → Feed → Type 0
IsNoMoreValues reached.Zero before after = Unit {0}
IsNoMoreValues reached.Stream before after = Unit {0}
IsNoMoreValues r before after = after.most ≤ before.most

-- what the bytes said of old values, those that are left say of the new ones; or this is the error
-- that they say
abbrev pub TakesValues : (Bool → List Lbool → List ℕ → Result (List Lbool) SolutionError) → Feed
    → Feed → List Lbool → Result Reached SolutionError → List Lbool → Type 0
TakesValues from before after old (Ok x) new = IsNoMoreValues x before after
    × Leaves before after (λ bytes rest. (answered : Bool)
    → from answered old bytes ≡ reached_from x answered new rest)
TakesValues from before after old (Err e) new = TellsError before after e (λ bytes.
    (answered : Bool) → from answered old bytes ≡ Err e)

-- ---- lines

-- what the lines of bytes say, of which the first word has begun
abbrev pub said_from : List ℕ → Bool → List Lbool → List ℕ → Result (List Lbool) SolutionError
said_from word answered values bytes =
    solution_from answered values (words_from word bytes ∷ lines_after bytes)

-- the lines from the first that isn't passed over
unfoldable pub lines_past : List (List (List ℕ)) → List (List (List ℕ))
lines_past [] = []
lines_past (line ∷ lines) = if is_passed_over line then lines_past lines else line ∷ lines

-- the first byte of the next line that isn't passed over, if there is one
abbrev pub FindsLine : {E : Type 0} → Feed → Feed → Result (Option ℕ) E → Type 0
FindsLine before after (Ok (Some b)) = (after.most < before.most) × (b ≢ 99)
    × Leaves before after (λ bytes rest.
    lines_past (lines_of bytes) ≡ words_from (b ∷ []) rest ∷ lines_after rest)
FindsLine before after (Ok None) = Says before (λ bytes. lines_past (lines_of bytes) ≡ [])
FindsLine before after (Err e) = after.failed ≡ true

-- ---- the line of the answer

-- the first byte of the name of an answer, after the first byte of the line
abbrev pub FindsName : Feed → Feed → Result ℕ SolutionError → Type 0
FindsName before after (Ok b) = (after.most ≤ before.most)
    × Leaves before after (λ bytes rest.
    (words_from (115 ∷ []) bytes ≡ (115 ∷ []) ∷ words_from (b ∷ []) rest)
    × (lines_after bytes ≡ lines_after rest))
FindsName before after (Err e) =
    TellsError before after e (λ bytes. take_answer (words_from (115 ∷ []) bytes) ≡ Err e)

-- the name of an answer of which the first byte came before, in the first bytes of a list, or a
-- longer one
abbrev pub GivesName : ℕ → Feed → Feed → Result (ℕ × End) SolutionError → List ℕ → Type 0
GivesName first before after (Ok x) names = (x.0 ≤ length names) × IsNoMore x.1 before after
    × Leaves before after (λ bytes rest. (words : List (List ℕ))
    × (words_from (first ∷ []) bytes ≡ take x.0 names ∷ words)
    × IsLeft x.1 words (lines_after bytes) rest)
GivesName first before after (Err e) names = TellsError before after e (λ bytes.
    (e ≡ errors.Answer) × (name : List ℕ) × (words : List (List ℕ))
    × (words_from (first ∷ []) bytes ≡ name ∷ words) × (length names < length name))

-- the line of an answer after its first byte is read, and whether a line feed ended it
abbrev pub TakesAnswer : Feed → Feed → Result Bool SolutionError → Type 0
TakesAnswer before after (Ok true) = (after.most ≤ before.most)
    × Leaves before after (λ bytes rest. (take_answer (words_from (115 ∷ []) bytes) ≡ Ok tt)
    × (lines_after bytes ≡ lines_of rest))
TakesAnswer before after (Ok false) = Says before (λ bytes.
    (take_answer (words_from (115 ∷ []) bytes) ≡ Ok tt) × (lines_after bytes ≡ []))
TakesAnswer before after (Err e) =
    TellsError before after e (λ bytes. take_answer (words_from (115 ∷ []) bytes) ≡ Err e)

-- the rest of a line is read, in which nothing stands, and whether a line feed ended it
abbrev pub EndsAnswer : End → Feed → Feed → Result Bool SolutionError → Type 0
EndsAnswer end before after (Ok true) = (end ≢ ends.Stream) × (after.most ≤ before.most)
    × Leaves before after (λ bytes rest. (words : List (List ℕ)) (lines : List (List (List ℕ)))
    → IsLeft end words lines bytes → (words ≡ []) × (lines ≡ lines_of rest))
EndsAnswer end before after (Ok false) = Says before (λ bytes. (words : List (List ℕ))
    (lines : List (List (List ℕ))) → IsLeft end words lines bytes → (words ≡ []) × (lines ≡ []))
EndsAnswer end before after (Err e) = TellsError before after e (λ bytes. (e ≡ errors.Answer)
    × ((words : List (List ℕ)) (lines : List (List (List ℕ))) → IsLeft end words lines bytes
    → words ≢ []))

-- the line of the answer after its first byte was taken, and other lines follow
abbrev pub GoesOnAnswered : Feed → Feed → Result (Unit {0}) SolutionError → Type 0
GoesOnAnswered before after (Ok done) = (after.most ≤ before.most)
    × Leaves before after (λ bytes rest. (values : List Lbool)
    → said_from (115 ∷ []) false values bytes ≡ solution_from true values (lines_of rest))
GoesOnAnswered before after (Err e) = TellsError before after e (λ bytes.
    (values : List Lbool) → said_from (115 ∷ []) false values bytes ≡ Err e)

-- a line of values after its first byte was taken: all is said, or other lines follow
abbrev pub TakesValueLine : Bool → Feed → Feed → List Lbool → Result Bool SolutionError
    → List Lbool → Type 0
TakesValueLine answered before after old (Ok true) new =
    Says before (λ bytes. said_from (118 ∷ []) answered old bytes ≡ Ok new)
TakesValueLine answered before after old (Ok false) new = (after.most ≤ before.most)
    × Leaves before after (λ bytes rest.
    said_from (118 ∷ []) answered old bytes ≡ solution_from answered new (lines_of rest))
TakesValueLine answered before after old (Err e) new =
    TellsError before after e (λ bytes. said_from (118 ∷ []) answered old bytes ≡ Err e)

-- what bytes say, with an answer or without, is what was answered
abbrev pub SaysAnswer : (List ℕ → Result (List Lbool) SolutionError) → Feed → Feed
    → Result (Unit {0}) SolutionError → List Lbool → Type 0
SaysAnswer from before after (Ok done) new = Says before (λ bytes. from bytes ≡ Ok new)
SaysAnswer from before after (Err e) new = TellsError before after e (λ bytes. from bytes ≡ Err e)

-- the same of the answer after all values
abbrev pub AnswersLast : Feed → Feed → Result (Unit {0}) SolutionError → Type 0
AnswersLast before after (Ok done) = Says before (λ bytes. last_answer (lines_of bytes) ≡ Ok tt)
AnswersLast before after (Err e) =
    TellsError before after e (λ bytes. last_answer (lines_of bytes) ≡ Err e)
