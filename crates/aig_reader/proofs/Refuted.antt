-- Wrong verdicts of a reader, of which the definition is false.
use Rattle.aig_base.proofs.Words.{◌≡◌, ℕ, true, false, List, [], ◌∷◌, ◌++◌, Option, None, refl, sym, subst, codes, false≢true}
use Rattle.aig_format.specs.ParseTested.{parse_fitting}
use Rattle.aig_format.proofs.ReadingExamples.{and_file-accepted, binary-read, no_differences, no_gates, no_inputs, no_names}
use Rattle.aig_format.proofs.FittingFiles.{fitting_complete, fitting_sound}
use Rattle.aig_format.proofs.Examples.{and_text}
use Rattle.aig_reader.specs.Verdicts.{Accepted, IsOfFile, IsVerdictOn, Judges, Stream, Verdict, verdict_of}
use Rattle.aig_reader.specs.declared.error.ReadError.{ReadError}
use Rattle.aig_reader.proofs.Accepting.{each_taken}
use Rattle.aig_reader.proofs.Verdicts.{of_no_file}

-- it is the verdict on these bytes
abbrev IsVerdict : Verdict → List ℕ → Type 0
IsVerdict v bytes = IsVerdictOn each_taken 16777216 bytes v

-- ---- a file is refused

-- a text file that is accepted
no_text_refused : (e : ReadError) → ¬ IsVerdict (verdict_of e) and_text
no_text_refused e on = of_no_file e (subst IsOfFile (sym (on.each _ and_file-accepted)) tt)

-- a binary file
no_binary_refused : (e : ReadError)
    → ¬ IsVerdict (verdict_of e) (codes "aig 3 2 0 1 1\n6\n" ++ 2 ∷ 2 ∷ [])
no_binary_refused e on =
    of_no_file e (subst IsOfFile (sym (on.each _ (fitting_sound 16777216 _ _ binary-read.0))) tt)

-- ---- what is no file is taken

refused_bytes : (bytes : List ℕ) → parse_fitting 16777216 bytes ≡ None
    → ¬ IsVerdict Accepted bytes
refused_bytes bytes none on =
    let file = on.only tt in
    let some = fitting_complete 16777216 bytes file.0 file.1 in
    cc

-- a first difference of 0
no_difference_of_0 : ¬ IsVerdict Accepted (codes "aig 3 2 0 1 1\n6\n" ++ 0 ∷ 2 ∷ [])
no_difference_of_0 = refused_bytes _ no_differences.1.0

-- a variable defined twice
no_second_definition : ¬ IsVerdict Accepted (codes "aag 2 2 0 0 0\n2\n2\n")
no_second_definition = refused_bytes _ no_inputs.1.1.1.1.1.0

-- a place named twice
no_second_name : ¬ IsVerdict Accepted (codes "aag 1 1 0 0 0\n2\n" ++ codes "i0 a\ni0 b\n")
no_second_name = refused_bytes _ no_names.0

-- a cycle
no_cycle : ¬ IsVerdict Accepted (codes "aag 2 0 0 1 2\n2\n2 4 4\n4 2 2\n")
no_cycle = refused_bytes _ no_gates.1.0

-- ---- failed reads

-- a read that failed is taken for the end
no_failed_end : (limit : ℕ) (old new : Option (List ℕ))
    → ¬ Judges each_taken limit old new true Accepted
no_failed_end limit old new told = false≢true (sym (told.whole tt).0)

-- a failure is told of a source that has none
no_invented_failure : (limit : ℕ) (old new : Option (List ℕ))
    → ¬ Judges each_taken limit old new false Stream
no_invented_failure limit old new told = false≢true (told.stream refl)
