-- What a call that reads a file and a witness circuit tells, by parts, and from what another told.
use Rattle.aig_witness_circuit_checks.proofs.Words.{◌≡◌, ℕ, Bool, false, List, None, Option, Result, Ok, Err, Some, refl, sym, subst, ◌∙◌, IfErr, IfSome, IsAtEnd, Circuit, lists_circuit, EditError, File, Accepts, GivesModel, IsEditOwn, IsReadAs, AcceptsWithResets, AreListsWithResets, ReadsFile, SaysWhy, Accepted, Judges, edit_verdict, file_verdict, part_of, ReadsWitness}
use Rattle.aig_circuit.specs.declared.view.CircuitLists.{CircuitLists}
use Rattle.aig_reader.specs.declared.error.ReadError.{ReadError}
use Rattle.aig_reader.specs.declared.variable_nodes.NumberedLists.{NumberedLists}
use Rattle.aig_subjects.specs.FileSubjects.{IsFileSubject, IsUnmadeFile}
use Rattle.aig_subjects.specs.declared.subject.FileSubject.{FileSubject}

some_not_none : {A : Type 0} (x : A) → ¬ (Some x ≡ None)
some_not_none x is = cc

module _ {R S : Type 0} (left : R → Option (List ℕ)) (failed : R → Bool)
    (left_of : S → Option (List ℕ)) (failed_of : S → Bool) (limit : ℕ) (own : FileSubject) (r : R)
    (s : S) (rest : R) (other : S) where
  abbrev SaidOfFile : Option EditError → Type 0
  SaidOfFile o = Judges (λ _. Accepted) limit (left r) (left rest) (failed rest) (file_verdict o)

  abbrev Unmade : Option EditError → Type 0
  Unmade o =
      IfSome o
      (λ e. edit_verdict e ≡ Accepted
      → IsReadAs (λ bytes. Accepts bytes limit) (IsUnmadeFile own) (left r) (left rest) e)

  abbrev Unread : Option EditError → Type 0
  Unread o = IfSome o (λ _. other ≡ s)

  abbrev SaidOfWitness : Option ReadError → Type 0
  SaidOfWitness o =
      IfSome o (SaysWhy (AcceptsWithResets limit) limit (left_of s) (failed_of other))

  abbrev Made : Type 0
  Made =
      IsReadAs (λ bytes. Accepts bytes limit) (λ f _. (m : Circuit) × IsFileSubject own f m) (left r)
      (left rest) (tt {0})

  -- a circuit was made of the file
  model_made : (read : NumberedLists)
      → ReadsFile left failed limit (GivesModel own) edit_verdict IsEditOwn r (Ok read) rest → Made
  model_made read told =
      let f = told.answer refl in
      record {
        file = f.file;
        bytes = f.bytes;
        holds = f.holds;
        means = (lists_circuit read.lists, f.means.0);
        taken = f.taken;
      }

  -- the file is refused, or nothing is made of it
  pub file_alone : {X F : Type 0} (Means : File → File → Result X F → Type 0)
      (of_file : F → Option EditError) (refusal : F → Option ReadError) (Own : F → Type 0) (x : F)
      (e : EditError) → of_file x ≡ Some e → other ≡ s
      → ReadsFile left failed limit (GivesModel own) edit_verdict IsEditOwn r (Err e) rest → Own x
      → ReadsWitness left failed left_of failed_of limit own Means of_file refusal Own r s (Err x)
      rest other
  file_alone Means of_file refusal Own x e same unread told errors = record {
    verdict = subst SaidOfFile (sym same) told.verdict;
    unmade = subst Unmade (sym same) (λ taken.
        let read = told.answer taken in
        record {
          file = read.file;
          bytes = read.bytes;
          holds = read.holds;
          means = read.means;
          taken = read.taken;
        });
    unread = subst Unread (sym same) unread;
    made = λ h. absurd (some_not_none e (sym same ∙ h));
    refused = λ h. absurd (some_not_none e (sym same ∙ h));
    whole = λ h k. absurd (some_not_none e (sym same ∙ h));
    answer = λ h k. absurd (some_not_none e (sym same ∙ h));
    errors = errors;
  }

  -- the witness circuit is refused
  pub witness_refused : {X F : Type 0} (read : NumberedLists)
      (Means : File → File → Result X F → Type 0) (of_file : F → Option EditError)
      (refusal : F → Option ReadError) (Own : F → Type 0) (x : F) (e : ReadError)
      → of_file x ≡ None → refusal x ≡ Some e
      → ReadsFile left failed limit (GivesModel own) edit_verdict IsEditOwn r (Ok read) rest
      → SaidOfWitness (Some e) → Own x
      → ReadsWitness left failed left_of failed_of limit own Means of_file refusal Own r s (Err x)
      rest other
  witness_refused read Means of_file refusal Own x e same some told why errors = record {
    verdict = subst SaidOfFile (sym same) told.verdict;
    unmade = subst Unmade (sym same) tt;
    unread = subst Unread (sym same) tt;
    made = λ h. model_made read told;
    refused = λ h. subst SaidOfWitness (sym some) why;
    whole = λ h k. absurd (some_not_none e (sym some ∙ k));
    answer = λ h k. absurd (some_not_none e (sym some ∙ k));
    errors = errors;
  }

  -- both were taken
  pub both_taken : {X F : Type 0} (read : NumberedLists) (theirs : CircuitLists)
      (Means : File → File → Result X F → Type 0) (of_file : F → Option EditError)
      (refusal : F → Option ReadError) (Own : F → Type 0) (made : Result X F)
      → ReadsFile left failed limit (GivesModel own) edit_verdict IsEditOwn r (Ok read) rest
      → (failed_of other ≡ false) × IsAtEnd (left_of other)
      → IsReadAs (AcceptsWithResets limit) AreListsWithResets (left_of s) (left_of other) theirs
      → part_of of_file made ≡ None → part_of refusal made ≡ None → IfErr made Own
      → ((f g : File) → GivesModel own f (Ok read) → AreListsWithResets g theirs → Means f g made)
      → ReadsWitness left failed left_of failed_of limit own Means of_file refusal Own r s made rest
      other
  both_taken read theirs Means of_file refusal Own made told whole g same none errors means =
      let f = told.answer refl in
      record {
        verdict = subst SaidOfFile (sym same) told.verdict;
        unmade = subst Unmade (sym same) tt;
        unread = subst Unread (sym same) tt;
        made = λ h. model_made read told;
        refused = λ h. subst SaidOfWitness (sym none) tt;
        whole = λ h k. whole;
        answer = λ h k. record {
          file = f.file;
          bytes = f.bytes;
          holds = f.holds;
          means = record {
            file = g.file;
            bytes = g.bytes;
            holds = g.holds;
            means = means f.file g.file f.means g.means;
            taken = g.taken;
          };
          taken = f.taken;
        };
        errors = errors;
      }

  -- A call goes on from what another told: it says the same of the bytes, and means something of
  -- the same files.
  pub reads_on : {T E X F : Type 0} {Means : File → File → Result T E → Type 0}
      {of_file : E → Option EditError} {refusal : E → Option ReadError} {Own : E → Type 0}
      {result : Result T E} (Also : File → File → Result X F → Type 0)
      (also_of_file : F → Option EditError) (also_refusal : F → Option ReadError)
      (AlsoOwn : F → Type 0) (made : Result X F)
      → ReadsWitness left failed left_of failed_of limit own Means of_file refusal Own r s result
      rest other
      → part_of also_of_file made ≡ part_of of_file result
      → part_of also_refusal made ≡ part_of refusal result → IfErr made AlsoOwn
      → ((f g : File) (bytes others : List ℕ) → Accepts bytes limit f
      → AcceptsWithResets limit others g → Means f g result → Also f g made)
      → ReadsWitness left failed left_of failed_of limit own Also also_of_file also_refusal AlsoOwn r
      s made rest other
  reads_on {result =
      result} Also also_of_file also_refusal AlsoOwn made told same also_same own means
      = record {
        verdict = subst SaidOfFile (sym same) told.verdict;
        unmade = subst Unmade (sym same) told.unmade;
        unread = subst Unread (sym same) told.unread;
        made = λ h. told.made (sym same ∙ h);
        refused = λ h. subst SaidOfWitness (sym also_same) (told.refused (sym same ∙ h));
        whole = λ h k. told.whole (sym same ∙ h) (sym also_same ∙ k);
        answer = λ h k.
            let f = told.answer (sym same ∙ h) (sym also_same ∙ k) in
            let g = f.means in
            record {
              file = f.file;
              bytes = f.bytes;
              holds = f.holds;
              means = record {
                file = g.file;
                bytes = g.bytes;
                holds = g.holds;
                means = means f.file g.file f.bytes g.bytes f.holds g.holds g.means;
                taken = g.taken;
              };
              taken = f.taken;
            };
        errors = own;
      }
