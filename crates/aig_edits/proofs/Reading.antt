-- What a call that reads two files tells, by parts, and from what another told.
use Rattle.aig_base.proofs.Words.{◌≡◌, ℕ, Bool, List, Option, Result, Ok, refl, sym, subst, ◌∙◌, IfErr}
use Rattle.aig_circuit.specs.declared.view.CircuitLists.{CircuitLists}
use Rattle.aig_format.proofs.Words.{File, Accepts}
use Rattle.aig_reader.specs.Reading.{AreListsOf, IsReadAs}
use Rattle.aig_reader.specs.Verdicts.{Accepted, Judges, Verdict, verdict_by}
use Rattle.aig_edits.specs.Pairs.{ReadsPair}
use Rattle.aig_edits.specs.Joints.{IsOwn, first_verdict, second_verdict}
use Rattle.aig_edits.specs.JointParts.{AreListsOfBoth}

module _ {R S : Type 0} (left : R → Option (List ℕ)) (failed : R → Bool)
    (left_of : S → Option (List ℕ)) (failed_of : S → Bool) (limit : ℕ) (r : R) (s : S) (rest : R)
    (other : S) where
  -- both were taken
  pub both_read : (own theirs : CircuitLists)
      → Judges (λ _. Accepted) limit (left r) (left rest) (failed rest) Accepted
      → Judges (λ _. Accepted) limit (left_of s) (left_of other) (failed_of other) Accepted
      → IsReadAs (λ bytes. Accepts bytes limit) AreListsOf (left r) (left rest) own
      → IsReadAs (λ bytes. Accepts bytes limit) AreListsOf (left_of s) (left_of other) theirs
      → ReadsPair left failed left_of failed_of limit AreListsOfBoth first_verdict second_verdict
      IsOwn r s (Ok (own, theirs)) rest other
  both_read own theirs told also f g = record {
    verdict = told;
    other_verdict = λ _. also;
    unread = λ h. absurd (h refl);
    answer = λ _ _. record {
      file = f.file;
      bytes = f.bytes;
      holds = f.holds;
      means = record {
        file = g.file;
        bytes = g.bytes;
        holds = g.holds;
        means = (f.means, g.means);
        taken = g.taken;
      };
      taken = f.taken;
    };
    own = tt;
  }

  -- A call goes on from what another told: it says the same of the bytes, and means something of
  -- the same files.
  pub reads_on : {T E X F : Type 0} {Means : File → File → Result T E → Type 0}
      {first second : E → Verdict} {Own : E → Type 0} {result : Result T E}
      (Also : File → File → Result X F → Type 0) (also_first also_second : F → Verdict)
      (AlsoOwn : F → Type 0) (made : Result X F)
      → ReadsPair left failed left_of failed_of limit Means first second Own r s result rest other
      → verdict_by also_first made ≡ verdict_by first result
      → verdict_by also_second made ≡ verdict_by second result → IfErr made AlsoOwn
      → ((f g : File) (bytes others : List ℕ) → Accepts bytes limit f → Accepts others limit g
      → Means f g result → Also f g made)
      → ReadsPair left failed left_of failed_of limit Also also_first also_second AlsoOwn r s made
      rest other
  reads_on {result = result} Also also_first also_second AlsoOwn made told same also_same own means
      = record {
        verdict = subst (Judges (λ _. Accepted) limit (left r) (left rest) (failed rest)) (sym same)
            told.verdict;
        other_verdict = λ h.
            subst (Judges (λ _. Accepted) limit (left_of s) (left_of other) (failed_of other))
            (sym also_same) (told.other_verdict (sym same ∙ h));
        unread = λ h. told.unread (λ is. h (same ∙ is));
        answer = λ h k.
            let f = told.answer (sym same ∙ h) (sym also_same ∙ k) in
            let g = f.means in
            record {
              file = f.file;
              bytes = f.bytes;
              holds = f.holds;
              means = record {
                file = g.file;
                bytes = g.bytes;
                holds = g.holds;
                means = means f.file g.file f.bytes g.bytes f.holds g.holds g.means;
                taken = g.taken;
              };
              taken = f.taken;
            };
        own = own;
      }
