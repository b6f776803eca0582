-- What is done with readers and writers of the caller's memory is done with its bytes.
use Rattle.aig_calls.proofs.Words.{Bor, ◌≡◌, ℕ, ◌<◌, ◌≤◌, ◌^◌, Bool, List, [], Option, Some, Result, Ok, Err, Vec, Global, refl, sym, ap, ◌∙◌, arith, AtStep, Prints, text_in, On, Reader, Writer, bytes_of}
use Rattle.aig_format.proofs.Words.{File}
use Rattle.aig_reader.specs.Verdicts.{Accepted, Judges, Short, Verdict}

-- something is done with a reader of these bytes
pub on : (r rest : Reader) {bytes : Bor (List ℕ)} {Does : Reader → Reader → Type 0}
    → r.inner ≡ bytes → Does r rest → On bytes.now Does
on r rest same does = (r, rest, ap (λ (b : Bor (List ℕ)). Some b.now) same, does)

-- what is done for a step whose number is below 2^32
pub at_step : {step k status : ℕ} {Kept Does : Type 0} → (step ≡ k) × (k < 2 ^ 32) → Does
    → AtStep step status Kept Does
at_step is does = (λ many. absurd (omega (arith, is.0, is.1)), λ few. does)

-- a writer that was made of no items holds none
held_nothing : {inner v : Vec ℕ Global} → inner ≡ v → v.items ≡ []
    → Some inner.items ≡ Some []
held_nothing same none = ap (λ (x : Vec ℕ Global). Some x.items) same ∙ ap Some none

-- a text was written into memory that held nothing, or there is none
pub printed : {E : Type 0} {empty : Vec ℕ Global}
    (Does : Result (Unit {0}) E → Writer → Writer → Type 0) (w made : Writer)
    (result : Result (Unit {0}) E) → w.inner ≡ empty → empty.items ≡ [] → Does result w made
    → Prints Does (text_in result made.inner.items)
printed Does w made (Ok done) same none does = (w, made, held_nothing same none, (refl, does))
printed Does w made (Err e) same none does = (w, made, held_nothing same none, does)

-- a file that is taken, for which memory runs out then
pub short : {of : File → Verdict} {limit : ℕ} {old new : Option (List ℕ)} {failed : Bool}
    → Judges of limit old new failed Accepted → Judges of limit old new failed Short
short taken = record {
  exact = λ is. absurd is;
  file = λ is.
      let read = taken.file tt in
      record {
        bytes = read.bytes;
        file = read.file;
        taken = read.taken;
        holds = read.holds;
        means = sym read.means;
      };
  whole = λ is. taken.whole tt;
  stream = λ is. cc;
}
