-- What a call that reads one file tells, from what the reading told.
use Rattle.aig_base.proofs.Words.{◌≡◌, ◌≢◌, ◌∙◌, ℕ, Bool, List, Option, Result, Ok, Err, sym, subst, IfErr}
use Rattle.aig_format.proofs.Words.{File, Accepts, Fits}
use Rattle.aig_reader.specs.declared.error.ReadError.{ReadError}
use Rattle.aig_reader.specs.declared.error.ReadError.TheVariants as read
use Rattle.aig_reader.specs.Reading.{IsReadAs}
use Rattle.aig_reader.specs.Verdicts as reading
use Rattle.aig_reader.specs.Verdicts.{Accepted, IsOfFile, Judges, Verdict, verdict_by}
use Rattle.aig_reader.proofs.Verdicts.{of_no_file}
use Rattle.aig_edits.specs.declared.edit_error.EditError.{EditError}
use Rattle.aig_edits.specs.declared.edit_error.EditError.TheVariants as errors
use Rattle.aig_edits.specs.Edits.{IsEditOwn, ReadsFile, edit_verdict}

-- what isn't told of the reading has no error of it
pub own_of : {T : Type 0} (result : Result T EditError)
    → verdict_by edit_verdict result ≡ Accepted → IfErr result IsEditOwn
own_of (Ok x) taken = tt
own_of (Err (errors.Read e)) taken = absurd (of_no_file e (subst IsOfFile (sym taken) tt))
own_of (Err e) taken = tt

module _ {R T : Type 0} (left : R → Option (List ℕ)) (failed : R → Bool) (limit : ℕ) (r rest : R)
    (Means : File → Result T EditError → Type 0) where
  -- the file is refused
  pub refused_file : (e : ReadError)
      → Judges (λ _. Accepted) limit (left r) (left rest) (failed rest) (reading.verdict_of e) → e ≢
      read.Open
      → ReadsFile left failed limit Means edit_verdict IsEditOwn r (Err (errors.Read e)) rest
  refused_file e said opened = record {
    verdict = said;
    answer = λ is. absurd (of_no_file e (subst IsOfFile (sym is) tt));
    own = opened;
  }

  -- it is taken, and what was read of it leads to the result
  pub taken_file : {X : Type 0} {Has : File → X → Type 0} (x : X) (result : Result T EditError)
      → Judges (λ _. Accepted) limit (left r) (left rest) (failed rest) Accepted
      → IsReadAs (λ bytes. Accepts bytes limit) Has (left r) (left rest) x
      → verdict_by edit_verdict result ≡ Accepted → IfErr result IsEditOwn
      → ((f : File) → Fits f limit → Has f x → Means f result)
      → ReadsFile left failed limit Means edit_verdict IsEditOwn r result rest
  taken_file x result said was taken own means = record {
    verdict = subst (Judges (λ _. Accepted) limit (left r) (left rest) (failed rest)) (sym taken)
        said;
    answer = λ is. record {
      file = was.file;
      bytes = was.bytes;
      holds = was.holds;
      means = means was.file was.holds.1 was.means;
      taken = was.taken;
    };
    own = own;
  }

-- A call goes on from what another told of one file: it says the same of the bytes, and means
-- something of the same file.
pub file_on : {R T E X F : Type 0} (left : R → Option (List ℕ)) (failed : R → Bool) (limit : ℕ)
    (r rest : R) {Means : File → Result T E → Type 0} {said : E → Verdict} {Own : E → Type 0}
    {result : Result T E} (Also : File → Result X F → Type 0) (also_said : F → Verdict)
    (AlsoOwn : F → Type 0) (made : Result X F)
    → ReadsFile left failed limit Means said Own r result rest
    → verdict_by also_said made ≡ verdict_by said result → IfErr made AlsoOwn
    → ((f : File) → Fits f limit → Means f result → Also f made)
    → ReadsFile left failed limit Also also_said AlsoOwn r made rest
file_on left failed limit r rest Also also_said AlsoOwn made told same own means = record {
  verdict = subst (Judges (λ _. Accepted) limit (left r) (left rest) (failed rest)) (sym same)
      told.verdict;
  answer = λ is.
      let read = told.answer (sym same ∙ is) in
      record {
        file = read.file;
        bytes = read.bytes;
        holds = read.holds;
        means = means read.file read.holds.1 read.means;
        taken = read.taken;
      };
  own = own;
}
