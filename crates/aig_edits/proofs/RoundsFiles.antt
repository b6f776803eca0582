-- What is made of the edges that are asked for of a file's circuit is made of the file's literals.
use Rattle.aig_base.proofs.Words.{◌≡◌, ℕ, ◌<◌, ◌^◌, Bool, List, Option, Result, Ok, Err, length, refl, ap, subst, ◌∙◌, length-map}
use Rattle.std.specs.Prelude.{IfOk}
use Rattle.aig_circuit.specs.declared.view.CircuitLists.{CircuitLists}
use Rattle.aig_circuit.proofs.Words.{Circuit, IsCircuit, lists_circuit}
use Rattle.aig_format.proofs.Words.{circuit_of, edge_of, File}
use Rattle.aig_live.specs.Rounds.{rounds_size}
use Rattle.aig_edit_laws.specs.declared.fairness.Fairness.{Fairness}
use Rattle.aig_reader.specs.Verdicts.{Accepted, verdict_by}
use Rattle.aig_edits.specs.declared.edit_error.EditError.{EditError}
use Rattle.aig_edits.specs.declared.edit_error.EditError.TheVariants as errors
use Rattle.aig_edits.specs.Edits.{edit_verdict}
use Rattle.aig_edits.specs.Rounds.{GivesRounds, IsRoundsFile, IsRoundsRefusal, PrintsRounds}
use Rattle.aig_edits.specs.RoundsParts.{IsRoundsCircuit, MakesRounds}
use Rattle.aig_edits.proofs.LiveFiles.{asked_back, unasked_back}

-- what is made is of no reading
pub makes_taken : (fairness : Fairness) (count : ℕ) (c : Circuit)
    (r : Result CircuitLists EditError) → MakesRounds fairness count c r
    → verdict_by edit_verdict r ≡ Accepted
makes_taken fairness count c (Ok lists) is = refl
makes_taken fairness count c (Err (errors.Read e)) is = absurd is
makes_taken fairness count c (Err e) is = refl

-- and is a circuit
pub makes_circuit : (fairness : Fairness) (count : ℕ) (c : Circuit)
    (r : Result CircuitLists EditError)
    → ((m : Circuit) → IsRoundsCircuit fairness count c m → IsCircuit m)
    → MakesRounds fairness count c r
    → IfOk r (λ lists. IsCircuit (lists_circuit lists))
makes_circuit fairness count c (Ok lists) circuit is = circuit (lists_circuit lists) is
makes_circuit fairness count c (Err e) circuit is = tt

-- what is made of the circuit, or why nothing is, is so of the file
pub gives_rounds : (fairness : Fairness) (count : ℕ) (f : File) (c : Circuit)
    (r : Result CircuitLists EditError)
    → c ≡ circuit_of f
    → ((m : Circuit) → IsRoundsCircuit fairness count (circuit_of f) m
    → IsRoundsFile fairness count f m)
    → MakesRounds fairness count c r → GivesRounds fairness count f r
gives_rounds fairness count f c r same shows makes =
    by r (subst (λ d. MakesRounds fairness count d r) same makes)
  where
    by : (r : Result CircuitLists EditError) → MakesRounds fairness count (circuit_of f) r
        → GivesRounds fairness count f r
    by (Ok lists) is = shows (lists_circuit lists) is
    by (Err errors.TooLarge) is =
        let asked = asked_back f fairness is.0 is.1 in (
          asked.0,
          asked.1,
          let long_as : length is.0 ≡ length asked.0 = ap length asked.2
              ∙ length-map asked.0 (edge_of f) in
              subst (λ n. 2 ^ 31 < rounds_size (circuit_of f) n count) long_as is.2,
        )
    by (Err e) is = unasked_back f fairness e is

-- why there is none is why none is printed
pub prints_none : (fairness : Fairness) (count : ℕ) {W : Type 0} (held : W → Option (List ℕ))
    (failed : W → Bool) (w : W) (f : File) (e : EditError) → IsRoundsRefusal fairness count f e
    → PrintsRounds held failed fairness count w w f (Err e)
prints_none fairness count held failed w f errors.Write is = absurd is
prints_none fairness count held failed w f e is = is
