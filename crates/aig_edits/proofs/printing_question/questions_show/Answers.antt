use Rattle.aig_format.proofs.Words.{circuit_of, file_of}
use Rattle.aig_format.specs.declared.FileKind.TheVariants.{Text}
use Rattle.aig_edits.proofs.Asking.{question_shows}
use Rattle.aig_edits.proofs.printing_question.questions_show.Goals as goal

pub returns : goal.returns
returns c = λ k limit bound f m low fits is.
    let circuit = circuit_of f in
    question_shows k limit f m low (record {
      again = λ made writable texts. c.written_is_read.ensures Text m made writable texts tt;
      outputs = c.written_circuits_have_outputs.ensures m (file_of Text m) 0;
      asks = λ output places asks. c.questions_ask_for_witnesses.ensures circuit m k output places
          (c.files_are_circuits.ensures.circuit f bound fits) asks;
      witnesses = λ t. c.shown_runs_are_machine_runs.ensures.witnesses f bound t fits;
    }) is
