-- What is made of the edges that are asked for of a file's circuit is made of the file's literals.
use Rattle.aig_base.proofs.Words.{◌≡◌, ℕ, ◌<◌, ◌^◌, Bool, List, Option, Some, None, Result, Ok, Err, ◌++◌, length, map, refl, sym, ap, subst, ◌∙◌, arith, length-map, map-append, option_map}
use Rattle.std.specs.Prelude.{IfOk}
use Rattle.std.proofs.lemmas.Option.{slice_get-map}
use Rattle.aig_circuit.specs.declared.edge.AigEdge.{AigEdge}
use Rattle.aig_circuit.specs.declared.view.CircuitLists.{CircuitLists}
use Rattle.aig_circuit.proofs.Words.{Circuit, IsCircuit, lists_circuit}
use Rattle.aig_format.proofs.Words.{circuit_of, edge_of, File}
use Rattle.aig_live.specs.Live.{live_size}
use Rattle.aig_edit_laws.specs.Fair.{AreAsked, AreAskedBy, LacksJustice, own_of}
use Rattle.aig_edit_laws.specs.declared.fairness.Fairness.{Fairness}
use Rattle.aig_edit_laws.specs.declared.fairness.Fairness.TheVariants.{Alone, Justice}
use Rattle.aig_reader.specs.Verdicts.{Accepted, verdict_by}
use Rattle.aig_edits.specs.declared.edit_error.EditError.{EditError}
use Rattle.aig_edits.specs.declared.edit_error.EditError.TheVariants as errors
use Rattle.aig_edits.specs.Edits.{edit_verdict}
use Rattle.aig_edits.specs.LiveParts.{IsLiveCircuit, MakesLive}
use Rattle.aig_edits.specs.Lives.{GivesLive, IsLiveFile, IsLiveRefusal, IsUnasked, PrintsLive}

-- ---- what is asked for

module _ (f : File) where
  -- the own edges are those of the own literals
  own_back : (fairness : Fairness) → own_of (circuit_of f).properties fairness
      ≡ option_map (map (edge_of f)) (own_of f.properties fairness)
  own_back (Justice j) = slice_get-map (map (edge_of f)) f.properties.justice j
  own_back Alone = refl

  -- and so of all that are asked for
  pub asked_back : (fairness : Fairness) (edges : List AigEdge)
      → AreAsked (circuit_of f).properties fairness edges
      → (literals : List ℕ) × AreAskedBy f fairness literals × (edges ≡ map (edge_of f) literals)
  asked_back fairness edges asked =
      by (own_of f.properties fairness) refl (sym (own_back fairness) ∙ asked.1)
    where
      by : (o : Option (List ℕ)) → own_of f.properties fairness ≡ o
          → option_map (map (edge_of f)) o ≡ Some asked.0
          → (literals : List ℕ) × AreAskedBy f fairness literals
          × (edges ≡ map (edge_of f) literals)
      by None at is = cc
      by (Some own) at is =
          let same : map (edge_of f) own ≡ asked.0 = cc in (
            own ++ f.properties.fairness,
            (own, at, refl),
            asked.2 ∙ ap (λ es. es ++ map (edge_of f) f.properties.fairness) (sym same)
                ∙ sym (map-append (edge_of f) own f.properties.fairness),
          )

  -- a property that the circuit lacks is one that the file lacks
  lacks_back : (fairness : Fairness) → LacksJustice (circuit_of f).properties fairness
      → LacksJustice f.properties fairness
  lacks_back (Justice j) none =
      let long = length-map f.properties.justice (map (edge_of f)) in omega (arith, long, none)
  lacks_back Alone none = none

  lacks_forth : (fairness : Fairness) → LacksJustice f.properties fairness
      → LacksJustice (circuit_of f).properties fairness
  lacks_forth (Justice j) none =
      let long = length-map f.properties.justice (map (edge_of f)) in omega (arith, long, none)
  lacks_forth Alone none = none

  -- why nothing is asked for of the circuit is why nothing is of the file
  pub unasked_back : (fairness : Fairness) (e : EditError)
      → IsUnasked (circuit_of f).properties fairness e → IsUnasked f.properties fairness e
  unasked_back fairness errors.NoJustice is = lacks_back fairness is
  unasked_back fairness errors.Memory is = λ none. is (lacks_forth fairness none)
  unasked_back fairness e is = absurd is

-- ---- what is made

-- what is made is of no reading
pub makes_taken : (fairness : Fairness) (c : Circuit) (r : Result CircuitLists EditError)
    → MakesLive fairness c r → verdict_by edit_verdict r ≡ Accepted
makes_taken fairness c (Ok lists) is = refl
makes_taken fairness c (Err (errors.Read e)) is = absurd is
makes_taken fairness c (Err e) is = refl

-- and is a circuit
pub makes_circuit : (fairness : Fairness) (c : Circuit) (r : Result CircuitLists EditError)
    → ((m : Circuit) → IsLiveCircuit fairness c m → IsCircuit m) → MakesLive fairness c r
    → IfOk r (λ lists. IsCircuit (lists_circuit lists))
makes_circuit fairness c (Ok lists) circuit is = circuit (lists_circuit lists) is
makes_circuit fairness c (Err e) circuit is = tt

-- what is made of the circuit, or why nothing is, is so of the file
pub gives_live : (fairness : Fairness) (f : File) (c : Circuit) (r : Result CircuitLists EditError)
    → c ≡ circuit_of f
    → ((m : Circuit) → IsLiveCircuit fairness (circuit_of f) m → IsLiveFile fairness f m)
    → MakesLive fairness c r → GivesLive fairness f r
gives_live fairness f c r same shows makes = by r (subst (λ d. MakesLive fairness d r) same makes)
  where
    by : (r : Result CircuitLists EditError) → MakesLive fairness (circuit_of f) r
        → GivesLive fairness f r
    by (Ok lists) is = shows (lists_circuit lists) is
    by (Err errors.TooLarge) is =
        let asked = asked_back f fairness is.0 is.1 in (
          asked.0,
          asked.1,
          let count : length is.0 ≡ length asked.0 = ap length asked.2
              ∙ length-map asked.0 (edge_of f) in
              subst (λ n. 2 ^ 31 < live_size (circuit_of f) n) count is.2,
        )
    by (Err e) is = unasked_back f fairness e is

-- why there is none is why none is printed
pub prints_none : (fairness : Fairness) {W : Type 0} (held : W → Option (List ℕ))
    (failed : W → Bool) (w : W) (f : File) (e : EditError) → IsLiveRefusal fairness f e
    → PrintsLive held failed fairness w w f (Err e)
prints_none fairness held failed w f errors.Write is = absurd is
prints_none fairness held failed w f e is = is
