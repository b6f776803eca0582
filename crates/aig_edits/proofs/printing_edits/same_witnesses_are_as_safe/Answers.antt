use Rattle.aig_format.specs.Circuit.{file_of}
use Rattle.aig_format.specs.declared.FileKind.TheVariants.{Text}
use Rattle.aig_edits.proofs.printing_edits.same_witnesses_are_as_safe.Goals as goal

pub returns : goal.returns
returns c = λ f limit m fits again same k.
    let machine = c.safe_circuits_are_safe_machines.ensures f limit k fits in
    let written = c.written_circuits_have_witnesses.ensures m (file_of Text m) k again in (
      λ safe. machine.0 (λ w. safe (written.0 ((same k).0 w))),
      λ safe w. machine.1 safe ((same k).1 (written.1 w)),
    )
