use Rattle.std.proofs.Common.{refl, subst, sym}
use Rattle.aig_circuit.specs.View.{lists_circuit}
use Rattle.aig_edits.specs.QuestionParts.{IsPlainQuestion}
use Rattle.aig_edits.proofs.Asking.{unnamed_question}
use Rattle.aig_edits.proofs.printing_question.asked.Goals as goal

pub returns : goal.returns
returns c =
    let circuit = c.args.circuit.now in
    let k = c.args.k in
    let question = c.in_ok-question.question in
    let asks = c.in_ok-question.ensures.question in
    subst (IsPlainQuestion k c.args.limit circuit) (sym c.without_names.ensures) (record {
      bads = c.requires.bads;
      output = asks.0;
      places = question.places.items;
      asks = unnamed_question circuit (lists_circuit question.circuit) k asks.0
          question.places.items asks.1;
      small = c.in_ok-question.ensures.small;
      names = refl;
    })
