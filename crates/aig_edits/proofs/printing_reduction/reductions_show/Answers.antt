use Rattle.aig_format.specs.Circuit.{circuit_of}
use Rattle.aig_format.specs.declared.FileKind.TheVariants.{Text}
use Rattle.aig_edits.proofs.printing_reduction.reductions_show.Goals as goal

pub returns : goal.returns
returns c = λ f limit m fits writable is texts reduced.
    let circuit = circuit_of f in
    let old = c.files_are_circuits.ensures.circuit f limit fits in
    let made = c.reductions_are_writable.ensures circuit m old writable reduced in
    let again = c.written_is_read.ensures Text m is made texts tt in
    record {
      reduced = reduced;
      small = made.small;
      again = again;
      shows = c.same_witnesses_are_as_safe.ensures f limit m fits again reduced.witnesses;
    }
