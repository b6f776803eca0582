-- Serves private clauses alone.
-- What the parts of an edit do.
use Rattle.std.specs.Prelude.{◌≡◌, ℕ, ◌<◌, ◌≤◌, ◌⊎◌, [], length, Result, Ok, Err, IfErr, IfOk}
use Rattle.aig_circuit.specs.Circuit.{Circuit, IsCircuit}
use Rattle.aig_circuit.specs.View.{lists_circuit}
use Rattle.aig_circuit.specs.declared.view.CircuitLists.{CircuitLists}
use Rattle.aig_edit_laws.specs.Plain.{IsPlain}
use Rattle.aig_format.specs.Circuit.{IsReadAgain, file_of}
use Rattle.aig_format.specs.declared.FileKind.TheVariants.{Text}
use Rattle.aig_format.specs.Writable.{FitsFormat}
use Rattle.aig_edits.specs.declared.editing.Edit.{Edit}
use Rattle.aig_edits.specs.declared.editing.Edit.TheVariants as edits
use Rattle.aig_edits.specs.declared.edit_error.EditError.{EditError}
use Rattle.aig_edits.specs.declared.edit_error.EditError.TheVariants as errors
use Rattle.aig_edits.specs.Edits.{AreStepsWithin, IsEdited}

-- ---- the circuit

-- Constraints are joined where there are none, or at most one bad edge; outputs become bad edges
-- only where there are none; and a property or a cone is that of a bad edge or an output.
abbrev pub CanEditCircuit : Edit → Circuit → Type 0
CanEditCircuit edits.Move c = (c.properties.constraints ≡ []) ⊎ (length c.properties.bads ≤ 1)
CanEditCircuit edits.Bads c = c.properties.bads ≡ []
CanEditCircuit (edits.Property n) c = n < length c.properties.bads
CanEditCircuit (edits.Cone n) c = n < length c.properties.outputs
CanEditCircuit edit c = Unit {0}

-- the circuit is edited, or memory ran out
pub record Yields (edit : Edit) (c : Circuit) (result : Result CircuitLists EditError) : Type 0
  where
    pub made : IfOk result (λ lists. IsEdited edit c (lists_circuit lists)
        × IsPlain (lists_circuit lists) × IsCircuit (lists_circuit lists))
    pub fault : IfErr result (λ e. e ≡ errors.Memory)

-- the circuit is edited, or it is said why not
abbrev pub Edits : Edit → ℕ → Circuit → Result CircuitLists EditError → Type 0
Edits edit limit c (Ok lists) =
    let m = lists_circuit lists in
    CanEditCircuit edit c × AreStepsWithin edit limit c × IsEdited edit c m × IsPlain m
    × IsCircuit m
Edits edit limit c (Err errors.ManyBads) = (edit ≡ edits.Move) × (¬ CanEditCircuit edit c)
Edits edit limit c (Err errors.HasBads) = (edit ≡ edits.Bads) × (¬ CanEditCircuit edit c)
Edits edit limit c (Err errors.NoBad) =
    (n : ℕ) × (edit ≡ edits.Property n) × (¬ CanEditCircuit edit c)
Edits edit limit c (Err errors.NoOutput) =
    (n : ℕ) × (edit ≡ edits.Cone n) × (¬ CanEditCircuit edit c)
Edits edit limit c (Err errors.PassesLimit) =
    CanEditCircuit edit c × ¬ AreStepsWithin edit limit c
Edits edit limit c (Err errors.Memory) = CanEditCircuit edit c × AreStepsWithin edit limit c
Edits edit limit c (Err e) = ⊥

-- the edited circuit fits the format, and its text is a file that is read as it; or it is said why
-- there is none
abbrev pub MakesEdit : Edit → ℕ → Circuit → Result CircuitLists EditError → Type 0
MakesEdit edit limit c (Ok lists) =
    let m = lists_circuit lists in
    Edits edit limit c (Ok lists) × FitsFormat m × IsReadAgain m (file_of Text m)
MakesEdit edit limit c (Err errors.TooLarge) =
    (lists : CircuitLists) × Edits edit limit c (Ok lists) × ¬ FitsFormat (lists_circuit lists)
MakesEdit edit limit c (Err e) = Edits edit limit c (Err e)
