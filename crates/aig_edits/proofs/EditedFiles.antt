-- What is made of the circuit of a file is made of the file.
use Rattle.aig_base.proofs.Words.{◌≡◌, ℕ, ◌<◌, ◌≤◌, Bool, List, [], ◌∷◌, Option, Result, Ok, Err, map, refl, sym, ap, subst, inl, inr, length-map}
use Rattle.std.specs.Prelude.{IfOk}
use Rattle.aig_circuit.specs.declared.view.CircuitLists.{CircuitLists}
use Rattle.aig_circuit.proofs.Words.{Circuit, IsCircuit, lists_circuit}
use Rattle.aig_format.proofs.Words.{FitsFormat, IsReadAgain, circuit_of, edge_of, file_of, File}
use Rattle.aig_format.specs.declared.FileKind.TheVariants.{Text}
use Rattle.aig_reader.specs.Verdicts.{Accepted, verdict_by}
use Rattle.aig_edits.specs.declared.editing.Edit.{Edit}
use Rattle.aig_edits.specs.declared.editing.Edit.TheVariants as edits
use Rattle.aig_edits.specs.declared.edit_error.EditError.{EditError}
use Rattle.aig_edits.specs.declared.edit_error.EditError.TheVariants as errors
use Rattle.aig_edits.specs.Edits.{CanEdit, EditShows, GivesEdit, IsEditRefusal, IsEdited, PrintsEdit, edit_verdict}
use Rattle.aig_edits.specs.EditParts.{CanEditCircuit, Edits, MakesEdit}

pub none_back : (f : File) (es : List ℕ) → map (edge_of f) es ≡ [] → es ≡ []
none_back f [] is = refl
none_back f (e ∷ es) is = cc

-- the edit can be made of the file where it can of its circuit
can_back : (edit : Edit) (f : File) → CanEditCircuit edit (circuit_of f) → CanEdit edit f
can_back edits.Move f (inl none) = inl (none_back f f.properties.constraints none)
can_back edits.Move f (inr few) = inr (subst (λ count. count ≤ 1) (length-map f.properties.bads
    (edge_of f)) few)
can_back edits.Bads f can = none_back f f.properties.bads can
can_back (edits.Property n) f can =
    subst (λ count. n < count) (length-map f.properties.bads (edge_of f)) can
can_back (edits.Cone n) f can = subst (λ count. n < count) (length-map f.properties.outputs (edge_of
    f)) can
can_back edit f can = can

pub can_forth : (edit : Edit) (f : File) → CanEdit edit f → CanEditCircuit edit (circuit_of f)
can_forth edits.Move f (inl none) = inl (ap (map (edge_of f)) none)
can_forth edits.Move f (inr few) = inr (subst (λ count. count ≤ 1) (sym (length-map
    f.properties.bads (edge_of f))) few)
can_forth edits.Bads f can = ap (map (edge_of f)) can
can_forth (edits.Property n) f can =
    subst (λ count. n < count) (sym (length-map f.properties.bads (edge_of f))) can
can_forth (edits.Cone n) f can = subst (λ count. n < count) (sym (length-map f.properties.outputs
    (edge_of f))) can
can_forth edit f can = can

module _ (edit : Edit) (limit : ℕ) where
  module _ (f : File) (shows : (m : Circuit) → CanEdit edit f → IsEdited edit (circuit_of f) m
      → IsReadAgain m (file_of Text m) → EditShows edit f (file_of Text m)) where
    of_circuit : (r : Result CircuitLists EditError) → MakesEdit edit limit (circuit_of f) r
        → GivesEdit edit limit f r
    of_circuit (Ok lists) (edited, small, again) = record {
      edit_of = record {
        can = can_back edit f edited.0;
        within = edited.1;
        edited = edited.2;
        small = small;
      };
      again = again;
      shows = shows (lists_circuit lists) (can_back edit f edited.0) edited.2 again;
    }
    of_circuit (Err errors.TooLarge) (lists, edited, large) = (
      can_back edit f edited.0,
      edited.1,
      (lists_circuit lists, edited.2, large),
    )
    of_circuit (Err errors.ManyBads) (is, not) = (is, λ can. not (can_forth edit f can))
    of_circuit (Err errors.HasBads) (is, not) = (is, λ can. not (can_forth edit f can))
    of_circuit (Err errors.NoBad) (n, is, not) = (n, is, λ can. not (can_forth edit f can))
    of_circuit (Err errors.NoOutput) (n, is, not) = (n, is, λ can. not (can_forth edit f can))
    of_circuit (Err errors.PassesLimit) (can, not) = (can_back edit f can, not)
    of_circuit (Err errors.Memory) (can, within) = (can_back edit f can, within)
    of_circuit (Err e) wrong = absurd wrong

    -- of the circuit that was read
    pub gives_edit : (c : Circuit) (r : Result CircuitLists EditError) → c ≡ circuit_of f
        → MakesEdit edit limit c r → GivesEdit edit limit f r
    gives_edit c r is made = of_circuit r (subst (λ d. MakesEdit edit limit d r) is made)

  module _ (c : Circuit) where
    -- the file was taken
    pub taken : (r : Result CircuitLists EditError) → MakesEdit edit limit c r
        → verdict_by edit_verdict r ≡ Accepted
    taken (Ok lists) made = refl
    taken (Err (errors.Read e)) made = absurd made
    taken (Err e) made = refl

    -- what was made is a circuit, and fits
    pub makes_circuit : (r : Result CircuitLists EditError) → MakesEdit edit limit c r
        → IfOk r (λ lists. IsCircuit (lists_circuit lists))
    makes_circuit (Ok lists) made = made.0.4
    makes_circuit (Err e) made = tt

    pub makes_small : (r : Result CircuitLists EditError) → MakesEdit edit limit c r
        → IfOk r (λ lists. FitsFormat (lists_circuit lists))
    makes_small (Ok lists) made = made.1
    makes_small (Err e) made = tt

    -- what was edited, and fits or doesn't
    pub unmade : (e : EditError) → Edits edit limit c (Err e) → MakesEdit edit limit c (Err e)
    unmade errors.TooLarge made = absurd made
    unmade e made = made

-- why there is none is why none is printed
pub prints_none : (edit : Edit) (limit : ℕ) {W : Type 0} (held : W → Option (List ℕ))
    (failed : W → Bool) (w : W) (f : File) (e : EditError) → IsEditRefusal edit limit f e
    → PrintsEdit held failed edit limit w w f (Err e)
prints_none edit limit held failed w f errors.Write is = absurd is
prints_none edit limit held failed w f e is = is
