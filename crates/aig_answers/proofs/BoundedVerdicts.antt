-- What is said of a file that was read, and of its question.
use Rattle.aig_answers.proofs.Words.{◌≡◌, ◌≢◌, ℕ, Bool, Option, List, [], ◌∷◌, length, Result, Err, refl, sym, ap, subst, ◌∙◌, arith, ◌==◌, if◌then◌else◌, IsErrOf, length-map, eq-eqb, ne_eqb, Circuit, AigEdge, CircuitLists, edge_of, File, Accepts, ReadError, AreListsOf, IsReadAs, Accepted, IsOfFile, IsSaidOf, Judges, NoBads, Short, Verdict, of_no_file, refused_again, said_of_read, SolutionError, BoundedClauses, IsOfWitness, IsSaidOfBads, RefusesAnswer, bounded_verdict}
use Rattle.aig_reader.specs.Verdicts as reading
use Rattle.aig_witness.specs.declared.solutions.error.SolutionError.TheVariants as solutions
use Rattle.aig_answers.specs.declared.bounded_checks.error.BoundedAnswerError.TheVariants as errors
use Rattle.aig_answers.specs.Asking.{verdict_of}

-- ---- of a file

said_of_file : (bads : List AigEdge) (v : Verdict) → IsSaidOfBads bads v → IsOfFile v
said_of_file bads Accepted said = tt
said_of_file bads Short said = tt
said_of_file bads NoBads said = tt
said_of_file bads v said = absurd said

-- the verdict by how many bad literals there are
abbrev verdict_at : ℕ → Verdict
verdict_at n = if n == 0 then NoBads else Accepted

none_at : (n : ℕ) → n ≡ 0 → NoBads ≡ verdict_at n
none_at n is = ap (λ (b : Bool). if b then NoBads else Accepted) (sym (eq-eqb n 0 is))

some_at : (n : ℕ) → n ≢ 0 → Accepted ≡ verdict_at n
some_at n some = ap (λ (b : Bool). if b then NoBads else Accepted) (sym (ne_eqb n 0 some))

some_length : (bads : List AigEdge) → bads ≢ [] → length bads ≢ 0
some_length [] some none = some refl
some_length (e ∷ bads) some none = omega (arith, none)

pub count_of : (f : File) (lists : CircuitLists) → AreListsOf f lists
    → length lists.properties.bads.items ≡ length f.properties.bads
count_of f lists is = ap (λ (c : Circuit). length c.properties.bads) is ∙ length-map
    f.properties.bads (edge_of f)

pub said_of_lists : (f : File) (lists : CircuitLists) → AreListsOf f lists → (v : Verdict)
    → IsSaidOfBads lists.properties.bads.items v → IsSaidOf bounded_verdict f v
said_of_lists f lists is Accepted said = some_at (length f.properties.bads) (subst (λ n. n ≢ 0)
    (count_of f lists is) (some_length lists.properties.bads.items said))
said_of_lists f lists is Short said = sym (some_at (length f.properties.bads) (subst (λ n. n ≢ 0)
    (count_of f lists is) (some_length lists.properties.bads.items said)))
said_of_lists f lists is NoBads said = none_at (length f.properties.bads) (sym (count_of f lists
    is) ∙ ap length said)
said_of_lists f lists is v said = absurd said

module _ (limit : ℕ) (old new : Option (List ℕ)) (failed : Bool) where
  -- the bytes are refused in reading
  pub unread : (e : ReadError)
      → Judges (λ f. Accepted) limit old new failed (reading.verdict_of e)
      → Judges bounded_verdict limit old new failed (reading.verdict_of e)
  unread e told = refused_again (λ f. Accepted) bounded_verdict limit old new failed
      (reading.verdict_of e) (of_no_file e) (λ f. tt) told

  -- it is said of the lists that were read
  pub judged : (lists : CircuitLists) (v : Verdict)
      → IsReadAs (λ bytes. Accepts bytes limit) AreListsOf old new lists
      → Judges (λ f. Accepted) limit old new failed Accepted
      → IsSaidOfBads lists.properties.bads.items v
      → Judges bounded_verdict limit old new failed v
  judged lists v read told said =
      said_of_read (λ f. Accepted) bounded_verdict limit old new failed v (said_of_file
      lists.properties.bads.items v said) told read (λ f is. said_of_lists f lists is v said)

-- ---- of a question

-- an error is the same of results of any value
pub other_value : {T U E : Type 0} (e x : E) → IsErrOf {T = T} (Err e) x → IsErrOf {T = U} (Err e) x
other_value {U = U} {E = E} e x is =
    let same : e ≡ x = cc in
    let error : E → Result U E = λ y. Err y in
    ap error same

-- a refusal of a solver's answer is none of a witness
pub refused_own : (text : Option (List ℕ)) (failed : Bool) (bads : ℕ) (made : BoundedClauses)
    (e : SolutionError) → RefusesAnswer text failed bads made e → IsOfWitness (errors.Solution e)
refused_own text failed bads made (solutions.Check x) refused = refused
refused_own text failed bads made e refused = tt
