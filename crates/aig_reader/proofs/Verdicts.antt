-- What is said of the bytes by a call that goes on from what another said.
use Rattle.std.proofs.Common.{◌≡◌, ℕ, Bool, List, Option, Some, None, Result, Ok, Err, IfOk, IfSome, OnOk, false, sym, ap, subst, ◌∙◌}
use Rattle.aig_base.proofs.Words.{IsAtEnd, prepend_known, IfSome_then, same_Some, Consumes-whole}
use Rattle.aig_format.proofs.Words.{File, Accepts}
use Rattle.aig_format.proofs.FittingFiles.{fitting_complete}
use Rattle.aig_lexer.proofs.Ending.{none_left, took_all}
use Rattle.aig_reader.specs.Reading.{IsReadAs}
use Rattle.aig_reader.specs.Verdicts.{Accepted, IsOfFile, IsSaidOf, IsSettled, IsVerdictOn, Judges, Short, Verdict, verdict_by, verdict_of}
use Rattle.aig_reader.specs.declared.error.ReadError.{ReadError}
use Rattle.aig_reader.specs.declared.error.ReadError.TheVariants as errors

-- two facts of known bytes
pub both_known : (known : Option (List ℕ)) (P Q R : List ℕ → Type 0) → IfSome known P
    → IfSome known Q → ((bytes : List ℕ) → P bytes → Q bytes → R bytes) → IfSome known R
both_known None P Q R p q f = tt
both_known (Some bytes) P Q R p q f = f bytes p q

-- bytes are one file that is accepted
pub one_file : (limit : ℕ) (bytes : List ℕ) (f g : File) → Accepts bytes limit f
    → Accepts bytes limit g → f ≡ g
one_file limit bytes f g p q = same_Some f g (sym (fitting_complete limit bytes f p) ∙ fitting_complete limit bytes g q)

-- what is said of a file, with nothing hidden, is its verdict
settled_said : (of : File → Verdict) (f : File) (v : Verdict) → IsSettled v → IsSaidOf of f v
    → v ≡ of f
settled_said of f Short settled said = absurd settled
settled_said of f v settled said = said

-- an error of reading is said of no file
pub of_no_file : (e : ReadError) → ¬ IsOfFile (verdict_of e)
of_no_file errors.Memory is = is
of_no_file errors.Stream is = is
of_no_file errors.TooMany is = is
of_no_file e is = is

module _ (of also : File → Verdict) (limit : ℕ) (old new : Option (List ℕ)) (failed : Bool) (v : Verdict) where
  -- bytes that were refused are, whatever would be said of a file
  pub refused_again : ¬ IsOfFile v → ((f : File) → IsOfFile (of f))
      → Judges of limit old new failed v → Judges also limit old new failed v
  refused_again apart said told = record {
    exact = λ settled. IfSome_then old (told.exact settled) (λ bytes on. record {
      each = λ f is. absurd (apart (subst IsOfFile (sym (on.each f is)) (said f)));
      only = λ is. absurd (apart is);
      too_many = on.too_many;
    });
    file = λ is. absurd (apart is);
    whole = λ is. absurd (apart is);
    stream = told.stream;
  }

  -- it is said of the file that was read
  pub said_of_read : {X : Type 0} {Means : File → X → Type 0} {x : X} → IsOfFile v → Judges of limit old new failed Accepted → IsReadAs (λ bytes. Accepts bytes limit) Means old new x
      → ((f : File) → Means f x → IsSaidOf also f v) → Judges also limit old new failed v
  said_of_read of_file told read means =
      let said = means read.file read.means in
      record {
        exact = λ settled.
            both_known old (λ bytes. Accepts bytes limit read.file) (λ bytes. IsVerdictOn of limit bytes Accepted) (λ bytes. IsVerdictOn also limit bytes v)
            (Consumes-whole old new read.bytes (λ bytes. Accepts bytes limit read.file) read.taken (told.whole tt).1 read.holds) (told.exact tt)
            (λ bytes accepts on. record {
              each = λ f is. settled_said also read.file v settled said ∙ ap also (one_file limit bytes read.file f accepts is);
              only = λ is. (read.file, accepts);
              too_many = (λ is. absurd (subst IsOfFile is of_file), λ many. let wrong = on.too_many.1 many in absurd cc);
            });
        file = λ is. record { file = read.file; bytes = read.bytes; holds = read.holds; means = said; taken = read.taken };
        whole = λ is. told.whole tt;
        stream = λ is. absurd (subst IsOfFile is of_file);
      }

-- memory ran out after a file was read that would be taken
pub short_of : (of : File → Verdict) (limit : ℕ) (old new : Option (List ℕ)) (failed : Bool)
    → Judges of limit old new failed Accepted → Judges of limit old new failed Short
short_of of limit old new failed told =
    said_of_read of of limit old new failed Short tt told (told.file tt) (λ f said. sym said)

-- ---- a source with a buffer before it, at its end

module _ (old : Option (List ℕ)) (held : List ℕ) (left : Option (List ℕ)) where
  -- what was read was read of the source
  read_through : {Holds : List ℕ → File → Type 0} {X : Type 0} {Means : File → X → Type 0} {x : X}
      → IsAtEnd (prepend_known held left)
      → IsReadAs Holds Means old (prepend_known held left) x → IsReadAs Holds Means old left x
  read_through end read = record { file = read.file; bytes = read.bytes; holds = read.holds; means = read.means; taken = took_all old held left read.bytes read.taken end }

  pub taken_at_end : (Holds : List ℕ → File → Type 0) {X : Type 0} (Means : File → X → Type 0)
      (failed : Bool) (result : Result X ReadError)
      → OnOk result ((failed ≡ false) × IsAtEnd (prepend_known held left))
      → IfOk result (IsReadAs Holds Means old (prepend_known held left))
      → IfOk result (IsReadAs Holds Means old left)
  taken_at_end Holds Means failed (Ok x) whole read = read_through whole.1 read
  taken_at_end Holds Means failed (Err e) whole read = tt

  pub whole_at_end : {X : Type 0} (failed : Bool) (result : Result X ReadError)
      → OnOk result ((failed ≡ false) × IsAtEnd (prepend_known held left))
      → OnOk result ((failed ≡ false) × IsAtEnd left)
  whole_at_end failed (Ok x) whole = (whole.0, none_left held left whole.1)
  whole_at_end failed (Err e) whole = tt

module _ (of : File → Verdict) (limit : ℕ) (old : Option (List ℕ)) (held : List ℕ) (left : Option (List ℕ)) (failed : Bool) where
  pub judged_at_end : (v : Verdict) → Judges of limit old (prepend_known held left) failed v
      → Judges of limit old left failed v
  judged_at_end v told = record {
    exact = told.exact;
    file = λ is. read_through old held left (told.whole is).1 (told.file is);
    whole = λ is. ((told.whole is).0, none_left held left (told.whole is).1);
    stream = told.stream;
  }

  pub read_at_end : {X : Type 0} (Means : File → X → Type 0) (result : Result X ReadError)
      → Judges of limit old (prepend_known held left) failed (verdict_by verdict_of result)
      → IfOk result (IsReadAs (λ bytes. Accepts bytes limit) Means old (prepend_known held left))
      → IfOk result (IsReadAs (λ bytes. Accepts bytes limit) Means old left)
  read_at_end Means (Ok x) told read = read_through old held left (told.whole tt).1 read
  read_at_end Means (Err e) told read = tt
