-- Words, places and lines of small calls, computed; and wrong results, of which the definitions are
-- false.
use Rattle.aig_base.proofs.Words.{◌≡◌, ◌≢◌, ℕ, zero, suc, ◌^◌, Bool, true, false, List, [], ◌∷◌, Option, Some, Err, refl, ap, arith, inl, inr}
use Rattle.std.specs.Prelude.{codes, slice_index, slice_index_or}
use Rattle.std.specs.Fmt.{digits}
use Rattle.aig_format.specs.declared.FileKind.TheVariants.{Text}
use Rattle.aig_format.specs.Text.{IsNumber, value_of}
use Rattle.aig_lexer.specs.declared.header.Header.{Header}
use Rattle.aig_reader.specs.declared.error.ReadError.TheVariants as errors
use Rattle.aig_command_line.specs.declared.arguments.ArgumentForm.{ArgumentForm}
use Rattle.aig_command_line.specs.declared.arguments.Step.TheVariants.{Each, UpTo}
use Rattle.aig_command_line.specs.declared.notice.Regard.{Regard}
use Rattle.aig_command_line.specs.declared.status.Ending.TheVariants.{Done, NoCommand, Refused}
use Rattle.aig_command_line.specs.declared.tally.Measure.TheVariants as measures
use Rattle.aig_command_line.specs.declared.tally.Place.TheVariants as places
use Rattle.aig_command_line.specs.declared.tally.Tally.{Tally}
use Rattle.aig_command_line.specs.Arguments.{Arguments, GivesArguments}
use Rattle.aig_command_line.specs.Came.{Came, IsPlaceIn}
use Rattle.aig_command_line.specs.Counts.{IsTally, line_of, place_of}
use Rattle.aig_command_line.specs.Ending.{IsEnd, ended, status_of}
use Rattle.aig_command_line.specs.Faults.{place_text}
use Rattle.aig_command_line.specs.Limits.{IsLimited}
use Rattle.aig_command_line.specs.Notices.{notices_of}
use Rattle.aig_command_line.specs.Places.{IsPlaceOfError}
use Rattle.aig_command_line.specs.Shown.{shown_path}
use Rattle.aig_command_line.proofs.Giving.{one_given}

-- ---- words

-- one path, steps up to K, a further path and both settings
abbrev form : ArgumentForm
form = record { paths = 1; step = UpTo; further = 1; distinct = true; raw = true }

abbrev words : List (List ℕ)
words = codes "safe" ∷ codes "f" ∷ codes "to" ∷ codes "3" ∷ codes "p" ∷ codes "raw" ∷ []

abbrev given : Arguments
given = record {
  paths = codes "f" ∷ [];
  step = 3;
  further = codes "p" ∷ [];
  distinct = false;
  optimize = false;
}

three : IsNumber 3 (codes "3")
three = record {
  some = λ is. cc;
  each = ((omega arith, omega arith), tt);
  value = refl;
  small = omega arith;
}

words_give : GivesArguments (codes "safe") form words given
words_give = record {
  steps = codes "to" ∷ codes "3" ∷ [];
  spelled = refl;
  paths = refl;
  step = (codes "3", refl, three);
  further = refl;
  distinct = λ is. cc;
  raw = λ is. refl;
}

-- the step after
no_next_step : ¬ GivesArguments (codes "safe") form words (record given { step = 4 })
no_next_step gives =
    let same = one_given (codes "safe") form words given _ words_give gives in
    let step = ap (λ (a : Arguments). a.step) same in omega (arith, step)

-- `raw`, and clauses that are optimised
no_optimized_raw : ¬ GivesArguments (codes "safe") form words (record given { optimize = true })
no_optimized_raw gives =
    let same = one_given (codes "safe") form words given _ words_give gives in
    let setting = ap (λ (a : Arguments). a.optimize) same in cc

-- `raw`, where it may not be
no_raw : ¬ GivesArguments (codes "safe") (record form { raw = false }) words given
no_raw gives = let may = gives.raw refl in cc

-- two paths for one
no_second_path : (all : List (List ℕ)) (p q : List ℕ)
    → ¬ GivesArguments (codes "safe") form all (record given { paths = p ∷ q ∷ [] })
no_second_path all p q gives = omega (arith, gives.paths)

-- a file for each of the steps 1 to 3, and none for step 0
no_file_short : (all : List (List ℕ)) (p q r : List ℕ)
    → ¬ GivesArguments (codes "safe") (record form { step = Each; further = 0 }) all
    (record given { further = p ∷ q ∷ r ∷ [] })
no_file_short all p q r gives = omega (arith, gives.further)

-- a limit of no node
no_limit_of_0 : (limit : ℕ) (rest : List (List ℕ))
    → ¬ IsLimited (codes "--limit" ∷ codes "0" ∷ words) limit rest
no_limit_of_0 limit rest (inl gives) =
    let word = ap (λ (l : List (List ℕ)). value_of (slice_index_or l 1 [])) gives.spelled in
    omega (arith, word, gives.number.value, gives.within.0)
no_limit_of_0 limit rest (inr usual) = absurd (usual.other _ refl)

-- the usual limit is no other
no_other_limit : ¬ IsLimited words (2 ^ 25) words
no_other_limit (inl gives) =
    let letter = ap (λ (l : List (List ℕ)). slice_index (slice_index_or l 0 []) 0) gives.spelled in
    omega (arith, letter)
no_other_limit (inr usual) = omega (arith, usual.usual)

-- ---- places

-- the third byte is in line 2, and a line feed in the line that it ends
second-line : place_of measures.Line (codes "a\nb") ≡ places.Line 2
second-line = refl

no_line_after_its_feed : line_of (codes "ab\n") ≢ 2
no_line_after_its_feed same = omega (arith, same)

-- a binary file has bytes, and a text has lines
binary-place : place_of measures.Aiger (codes "aig 1\n") ≡ places.Byte 6
binary-place = refl

no_byte_of_a_text : place_of measures.Aiger (codes "aag 1\n") ≢ places.Byte 6
no_byte_of_a_text same = cc

-- a proof that begins with `d` is binary where a byte 0 is in it
deleting-place : place_of measures.Proof (100 ∷ 2 ∷ 0 ∷ []) ≡ places.Byte 3
deleting-place = refl

no_byte_of_a_proof : place_of measures.Proof (codes "d 1 0\n") ≢ places.Byte 6
no_byte_of_a_proof same = cc

-- a line past the last
no_line_past_the_last : ¬ IsPlaceIn (Some (codes "a\n")) measures.Line (places.Line 2)
no_line_past_the_last (zero, within, is) = cc
no_line_past_the_last (suc zero, within, is) = cc
no_line_past_the_last (suc (suc zero), within, is) = cc
no_line_past_the_last (suc (suc (suc n)), within, is) = absurd (omega (arith, within))

-- memory that was refused has no line
no_line_of_memory : (known left : Option (List ℕ)) (failed : Bool) (n : ℕ)
    → ¬ IsPlaceOfError known left failed errors.Memory (places.Line n)
no_line_of_memory known left failed n is = cc

-- bytes that came are still left
no_byte_twice : (t : Tally) → t.bytes ≡ 2
    → ¬ Came (Some (1 ∷ 2 ∷ 3 ∷ [])) (Some (2 ∷ 3 ∷ [])) false t
no_byte_twice t two came =
    let left : ◌≡◌ {A = Option (List ℕ)} (Some (2 ∷ 3 ∷ [])) (Some (3 ∷ [])) =
    rw two at came.now (1 ∷ 2 ∷ 3 ∷ []) refl refl in cc

-- a byte is counted, and no line feed with it
no_feed_left_out : (t : Tally) → t.feeds ≡ 0 → ¬ IsTally t (codes "a\nb")
no_feed_left_out t none is = omega (arith, none, is.feeds)

-- ---- lines

-- what isn't printable is spelled out
path-shown : shown_path (codes "a b\n") ≡ codes "a b\\x0a"
path-shown = refl

no_bare_delete : shown_path (127 ∷ []) ≢ 127 ∷ []
no_bare_delete same = cc

place-text : place_text (places.Line 12) ≡ codes ": line 12: "
unfolding digits
place-text = refl

no_line_for_a_byte : place_text (places.Byte 12) ≢ codes ": line 12: "
unfolding digits
no_line_for_a_byte same =
    let letter : 98 ≡ 108 = ap (λ text. slice_index text 2) same in omega (arith, letter)

-- a line is put before those that were told
abbrev tells : List (Option (List ℕ)) → Option (List ℕ) → List (Option (List ℕ)) → Type 0
tells old line new = new ≡ line ∷ old

refusal-told : IsEnd tells Some (codes "aigedit") (codes "usage") (Refused (codes "no file")) []
    (Some (codes "aigedit: no file") ∷ [])
refusal-told = refl

-- a refusal without the program's name, a usage that isn't told, and a line where all is done
no_bare_refusal : ¬ IsEnd tells Some (codes "aigedit") (codes "usage") (Refused (codes "no file"))
    [] (Some (codes "no file") ∷ [])
no_bare_refusal is = cc

no_silent_usage : ¬ IsEnd {E = List ℕ} tells Some (codes "aigedit") (codes "usage") NoCommand [] []
no_silent_usage is = cc

no_line_when_done : (line : Option (List ℕ))
    → ¬ IsEnd {E = List ℕ} tells Some (codes "aigedit") (codes "usage") Done [] (line ∷ [])
no_line_when_done line is = cc

-- words that ask for nothing have status 2
usage-status : status_of {E = ℕ} NoCommand ≡ 2
usage-status = refl

no_refusal_done : (e : ℕ) → ended {E = ℕ} (Err e) ≢ Done
no_refusal_done e is = cc

-- of a file with a fairness constraint alone something is left out
abbrev fair : Header
fair = record {
  kind = Text;
  greatest = 1;
  inputs = 1;
  latches = 0;
  outputs = 0;
  gates = 0;
  bads = 0;
  constraints = 0;
  justice = 0;
  fairness = 1;
}

abbrev safety_alone : Regard
safety_alone = record { leaves_out = true; compares = true }

fair-told : notices_of (codes "aigcheck") (codes "f") safety_alone (Some fair)
    ≡ codes "aigcheck: f: justice and fairness were not looked at" ∷ []
fair-told = refl

no_silence : notices_of (codes "aigcheck") (codes "f") safety_alone (Some fair) ≢ []
no_silence is = cc
