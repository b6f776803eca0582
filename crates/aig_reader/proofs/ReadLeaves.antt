-- What is known once the inputs and the latches were read.
use Rattle.aig_base.proofs.Words.{◌≡◌, ◌++◌, ◌+◌, [], ℕ, List, Result, Ok, length, map, ap, length-append, ◌∙◌, length-map}
use Rattle.aig_circuit.specs.declared.node.AigLatch.{AigLatch}
use Rattle.aig_format.proofs.Words.{parse_entries, parse_input_entry, LatchLine}
use Rattle.aig_lexer.specs.declared.header.Header.{Header}
use Rattle.aig_lexer.specs.Faults.{line_cause}
use Rattle.aig_lexer.specs.Takes.{Feed, Makes, Takes}
use Rattle.aig_lexer.specs.declared.error.LineError.{LineError}
use Rattle.aig_reader.specs.declared.error.ReadError.{ReadError}
use Rattle.aig_reader.specs.declared.error.Section.TheVariants.{Inputs, Latches}
use Rattle.aig_reader.specs.declared.variables.DefinedVariables.{DefinedVariables}
use Rattle.aig_reader.specs.declared.latches.Resets.{Resets}
use Rattle.aig_reader.specs.Rules.{latch_from, parse_latch_by}
use Rattle.aig_reader.specs.Faults.{error_in, result_by}
use Rattle.aig_ordering.specs.Lists.{variable_of_literal}
use Rattle.aig_reader.specs.Variables.{AreDefined}
use Rattle.aig_reader.proofs.Body.{in_section, made_in}
use Rattle.aig_reader.proofs.Entries.{takes_count}

-- the literals that inputs and latches define
abbrev pub literals_with : List ℕ → List LatchLine → List ℕ
literals_with inputs lines = inputs ++ map (λ (l : LatchLine). l.literal) lines

-- the lines of the inputs, and the list that was made of them
pub record InputsRead (header : Header) (before after : Feed) (variables : DefinedVariables) (inputs : List ℕ) : Type 0 where
  pub literals : List ℕ
  pub are : inputs ≡ map variable_of_literal literals
  pub defined : AreDefined header.kind header.greatest variables literals
  pub takes : Takes (parse_entries (parse_input_entry header.kind header.greatest) [] header.inputs)
      before after literals
  pub count : length literals ≡ header.inputs

-- those of the latches after them
pub record LatchesRead (resets : Resets) (header : Header) (inputs : List ℕ) (before after : Feed)
    (variables : DefinedVariables) (latchs : List AigLatch) : Type 0 where
  pub lines : List LatchLine
  pub are : latchs ≡ map latch_from lines
  pub defined : AreDefined header.kind header.greatest variables (literals_with inputs lines)
  pub takes : Takes
      (parse_entries (parse_latch_by resets header.kind header.greatest inputs) [] header.latches)
      before after lines
  pub count : length (literals_with inputs lines) ≡ length inputs + header.latches

module _ (header : Header) (b a : Feed) (v : DefinedVariables) where
  pub inputs_read : {X : Type 0} (lines : Result X LineError) (result : Result X ReadError) (x : X) (old new : List ℕ) → result ≡ result_by (error_in Inputs) lines → result ≡ Ok x → old ≡ []
      → Makes line_cause (λ (_ : X) literals. (new ≡ old ++ map variable_of_literal literals) × AreDefined header.kind header.greatest v literals) b a lines (parse_entries (parse_input_entry header.kind header.greatest) [] header.inputs)
      → InputsRead header b a v new
  inputs_read lines result x old new is was none made =
      let h = made_in (error_in Inputs) (in_section Inputs) _ _ _ _ lines result x is was made in
      record { literals = h.0; are = h.1.0 ∙ ap (λ (front : List ℕ). front ++ map variable_of_literal h.0) none; defined = h.1.1; takes = h.2; count = takes_count (parse_input_entry header.kind header.greatest) header.inputs b a h.0 h.2 }

  pub latches_read : {X : Type 0} (resets : Resets) (inputs : List ℕ) (lines : Result X LineError)
      (result : Result X ReadError) (x : X) (old new : List AigLatch)
      → result ≡ result_by (error_in Latches) lines → result ≡ Ok x → old ≡ []
      → Makes line_cause (λ (_ : X) ls. (new ≡ old ++ map latch_from ls)
      × AreDefined header.kind header.greatest v (literals_with inputs ls)) b a lines
      (parse_entries (parse_latch_by resets header.kind header.greatest inputs) []
      header.latches)
      → LatchesRead resets header inputs b a v new
  latches_read resets inputs lines result x old new is was none made =
      let h = made_in (error_in Latches) (in_section Latches) _ _ _ _ lines result x is was made in
      record {
        lines = h.0;
        are = h.1.0 ∙ ap (λ (front : List AigLatch). front ++ map latch_from h.0) none;
        defined = h.1.1;
        takes = h.2;
        count = length-append inputs (map (λ (l : LatchLine). l.literal) h.0)
            ∙ ap (λ (n : ℕ). length inputs + n) (length-map h.0 (λ (l : LatchLine). l.literal)
            ∙ takes_count (parse_latch_by resets header.kind header.greatest inputs) header.latches
            b a h.0 h.2);
      }
