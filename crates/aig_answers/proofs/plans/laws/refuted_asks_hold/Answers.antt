use Rattle.aig_answers.proofs.Planning.{Known, hold}
use Rattle.aig_answers.proofs.plans.laws.refuted_asks_hold.Goals as goal

pub returns : goal.returns
returns c =
    let known : Known = record {
      steps = c.refuted_circuit_queries_have_no_witness.ensures;
      firsts = c.refuted_circuit_questions_are_safe.ensures.refuted;
      settled = c.refuted_circuit_questions_are_safe.ensures.folded;
      windows = c.refuted_windows_are_inductive.ensures;
    } in
    hold known
