-- Serves private clauses alone.
-- How a text is read, word by word: what is still to come, and what was taken.
use Rattle.std.specs.Prelude.{◌≡◌, ℕ, ◌+◌, ◌<◌, ◌≤◌, ◌==◌, Bool, true, false, if◌then◌else◌, List, [], ◌∷◌, map, Option, Some, None, Result, Ok, Err}
use Rattle.aig_lexer.specs.Takes.{Feed, feed}
use Rattle.aig_refutation.specs.declared.error.RefutationError.{RefutationError}
use Rattle.aig_refutation.specs.declared.error.RefutationError.TheVariants as errors
use Rattle.aig_refutation.specs.declared.words.End.{End}
use Rattle.aig_refutation.specs.declared.words.End.TheVariants as ends
use Rattle.aig_refutation.specs.declared.words.Number.{Number}
use Rattle.aig_refutation.specs.declared.words.Word.{Word}
use Rattle.aig_refutation.specs.declared.words.Word.TheVariants as words
use Rattle.aig_refutation.specs.Proofs.{is_comment, is_none, missing, number_of}
use Rattle.aig_refutation.specs.Text as text
use Rattle.aig_refutation.specs.Text.{◌>>=◌, begins, fault, is_blank, lines_after, lines_of, word_in, words_after, words_of}

-- a text before a source: the bytes that are held, and how the line ended whose words were taken,
-- if it did
pub record Text : Type 0 where
  pub held : List ℕ
  pub end : Option End

-- whether a line that has ended so is the stream's last
abbrev pub is_last : Option End → Bool
is_last (Some ends.Stream) = true
is_last (Some ends.Line) = false
is_last None = false

-- whether a line has ended
abbrev pub IsClosed : Option End → Type 0
IsClosed (Some end) = Unit {0}
IsClosed None = ⊥

-- how many bytes are still to come at most, and then the end
abbrev pub rest : {S : Type 0} → (S → ℕ) → Text → S → ℕ
rest pulls text r =
    if is_last text.end then 0 else (feed (λ _. None) (λ _. false) pulls text.held r).most + 1

-- less is left after a word, and no more at the end of a line
abbrev pub IsAfter : ℕ → Word → ℕ → Type 0
IsAfter before (words.End end) after = after ≤ before
IsAfter before (words.Number number) after = after < before
IsAfter before words.Deletes after = after < before

-- ---- bytes that are known

-- some are left after, and this is so of both
abbrev pub Leaves : Feed → Feed → (List ℕ → List ℕ → Type 0) → Type 0
Leaves before after R =
    (bytes : List ℕ) → before.coming ≡ Some bytes
    → (rest : List ℕ) × (after.coming ≡ Some rest) × R bytes rest

-- this is so of them
abbrev pub Says : Feed → (List ℕ → Type 0) → Type 0
Says before P = (bytes : List ℕ) → before.coming ≡ Some bytes → P bytes

-- an error that is neither memory's nor the stream's tells this
abbrev pub TellsOfText : RefutationError → Type 0 → Type 0
TellsOfText errors.Memory P = Unit {0}
TellsOfText errors.Stream P = Unit {0}
TellsOfText e P = P

-- a value that is given, or an error
abbrev pub IsReadBy : {X Y : Type 0} → (X → Y) → Result Y RefutationError → Result X RefutationError
    → Type 0
IsReadBy view said (Ok x) = said ≡ Ok (view x)
IsReadBy view said (Err e) = said ≡ Err e

-- the same, memory aside
abbrev pub Tries : {X Y : Type 0} → (X → Y) → Result Y RefutationError → Result X RefutationError
    → Type 0
Tries view said (Ok x) = said ≡ Ok (view x)
Tries view said (Err e) = TellsOfText e (said ≡ Err e)

-- a byte that was taken, if there was one, before those that are left
abbrev pub front : Option ℕ → List ℕ → List ℕ
front (Some b) bytes = b ∷ bytes
front None bytes = []

-- ---- words of known bytes

-- the words that are left of a line, and the lines after it
pub record Left : Type 0 where
  pub words : List (List ℕ)
  pub lines : List (List (List ℕ))

-- after the word at the front
abbrev pub left_after : List ℕ → Left
left_after bytes = record { words = words_after bytes; lines = lines_after bytes }

-- where the line has ended so, or goes on
abbrev pub left_at : Option End → List ℕ → Left
left_at None bytes = record { words = words_of bytes; lines = lines_after bytes }
left_at (Some ends.Line) bytes = record { words = []; lines = lines_of bytes }
left_at (Some ends.Stream) bytes = record { words = []; lines = [] }

-- the lines that are to be read next
abbrev pub lines_at : Option End → List ℕ → List (List (List ℕ))
lines_at (Some ends.Stream) bytes = []
lines_at end bytes = lines_of bytes

-- how a line stands after the byte that ends a word, if one does
abbrev pub end_after : Option End → Option ℕ → Result (Option End) RefutationError
end_after end None = Ok (Some ends.Stream)
end_after end (Some b) =
    if b == 10 then Ok (Some ends.Line)
    else if is_blank b then Ok end
    else Err (fault b)

-- a word as the code holds it
abbrev pub held_word : text.Word → Word
held_word (text.Number positive value) = words.Number (record {
  value = value;
  positive = positive;
})
held_word text.Deletes = words.Deletes

-- a word is read of bytes, after which the line stands so
abbrev pub GivesWord : (List ℕ → Result text.Word RefutationError) → Feed → Feed → Option End
    → Result Word RefutationError → Type 0
GivesWord parse before after end (Ok word) = Leaves before after (λ bytes rest.
    (parse bytes >>= (λ x. Ok (held_word x)) ≡ Ok word) × (left_at end rest ≡ left_after bytes))
GivesWord parse before after end (Err e) = TellsOfText e
    (Says before (λ bytes. parse bytes ≡ Err e))

-- ---- places in a text

-- what is to come, and how the line stands
pub record Place : Type 0 where
  pub feed : Feed
  pub end : Option End

-- where a text stands before a source
abbrev pub place : {S : Type 0} → (S → Option (List ℕ)) → (S → Bool) → (S → ℕ) → Text → S → Place
place left failed pulls text r =
    record { feed = feed left failed pulls text.held r; end = text.end }

-- the words that are left of the line, and the lines after it
abbrev pub left_of : Place → List ℕ → Left
left_of place bytes = left_at place.end bytes

-- a value is read of a line, by whether it is the last, and these words are left
abbrev pub IsReadOn : {Y : Type 0}
    → (Bool → List (List ℕ) → Result (Y × List (List ℕ)) RefutationError) → Left → Left → Y → Type 0
IsReadOn parse before after y = (after.lines ≡ before.lines)
    × (parse (is_none before.lines) before.words ≡ Ok (y, after.words))

-- a value is read on in a line, or this is what is wrong with it
abbrev pub GivesValue : {X Y : Type 0} → (X → Y)
    → (Bool → List (List ℕ) → Result (Y × List (List ℕ)) RefutationError) → Place → Place
    → Result X RefutationError → Type 0
GivesValue view parse before after (Ok x) = Leaves before.feed after.feed (λ bytes rest.
    IsReadOn parse (left_of before bytes) (left_of after rest) (view x))
GivesValue view parse before after (Err e) = TellsOfText e (Says before.feed (λ bytes.
    parse (is_none (left_of before bytes).lines) (left_of before bytes).words ≡ Err e))

-- how a line ends, by whether it is the last
abbrev pub end_of : Bool → End
end_of is_last = if is_last then ends.Stream else ends.Line

-- why a line is no step that ends so where a further word is needed
abbrev pub fault_of : End → RefutationError
fault_of ends.Line = errors.Line
fault_of ends.Stream = errors.Unfinished

-- the next word, or the end of the line
unfoldable pub next_in : Bool → List (List ℕ) → Result (Word × List (List ℕ)) RefutationError
next_in is_last [] = Ok (words.End (end_of is_last), [])
next_in is_last (word ∷ more) = word_in word >>= λ x. Ok (held_word x, more)

-- the next word, which is a number
unfoldable pub next_number : Bool → List (List ℕ) → Result ((Bool × ℕ) × List (List ℕ))
    RefutationError
next_number is_last [] = Err (missing is_last)
next_number is_last (word ∷ more) = word_in word >>= number_of >>= λ n. Ok (n, more)

-- a number as the text says it
abbrev pub said_number : Number → Bool × ℕ
said_number n = (n.positive, n.value)

-- and so each of these
abbrev pub said_numbers : List Number → List (Bool × ℕ)
said_numbers numbers = map said_number numbers

-- a line has ended where this word is its end
abbrev pub ClosesAt : Word → Option End → Type 0
ClosesAt (words.End end) now = IsClosed now
ClosesAt word now = Unit {0}

-- it is no end of a line
abbrev pub IsWord : Word → Type 0
IsWord (words.End end) = ⊥
IsWord word = Unit {0}

-- ---- lines

-- the lines from the first that isn't passed over
unfoldable pub lines_past : List (List (List ℕ)) → List (List (List ℕ))
lines_past [] = []
lines_past ([] ∷ lines) = lines_past lines
lines_past ((word ∷ more) ∷ lines) =
    if is_comment word then lines_past lines else (word ∷ more) ∷ lines

-- what the first word of a line is
unfoldable pub first_in : List ℕ → Result text.Word RefutationError
first_in word = if begins 97 word then Err errors.Binary else word_in word

-- the first word of the next line that isn't passed over, if there is one
abbrev pub GivesFirst : Place → Place → Result (Option Word) RefutationError → Type 0
GivesFirst before after (Ok (Some word)) = Leaves before.feed after.feed (λ bytes rest.
    (first : List ℕ) × (first_in first >>= (λ x. Ok (held_word x)) ≡ Ok word)
    × (lines_past (lines_at before.end bytes)
    ≡ (first ∷ (left_of after rest).words) ∷ (left_of after rest).lines))
GivesFirst before after (Ok None) = Says before.feed (λ bytes.
    lines_past (lines_at before.end bytes) ≡ [])
GivesFirst before after (Err e) = TellsOfText e (Says before.feed (λ bytes.
    (first : List ℕ) × (more : List (List ℕ)) × (lines : List (List (List ℕ)))
    × (first_in first ≡ Err e) × (lines_past (lines_at before.end bytes) ≡ (first ∷ more) ∷ lines)))
