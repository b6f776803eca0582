use Rattle.aig_base.proofs.Words.{◌∙◌, ◌++◌, ℕ, List, map, ap, err_from_is_err_and}
use Rattle.aig_circuit.specs.declared.edge.AigEdge.{AigEdge}
use Rattle.aig_circuit.specs.Properties.{Properties}
use Rattle.aig_lexer.specs.Header.{numbers_of}
use Rattle.aig_lexer.specs.Takes.{feed}
use Rattle.aig_ordering.specs.Lists.{edge_from}
use Rattle.aig_reader.specs.declared.error.Section.TheVariants.{Justice}
use Rattle.aig_reader.specs.Faults.{error_in, section_cause}
use Rattle.aig_lexer.proofs.Faults.{tells-weaker}
use Rattle.aig_reader.proofs.Body.{in_section, made_in, makes_properties, missed_in, misses_outputs, misses_bads, misses_constraints, misses_justice}
use Rattle.aig_reader.proofs.properties.read_properties.Goals as goal

pub returns-in_err-read_section : goal.returns-in_err-read_section
returns-in_err-read_section g c =
    let p = err_from_is_err_and c.from_residual.result c.from_residual.ensures.1 in
    rw (p.1, p.2) (tells-weaker (section_cause c.in_err-read_section.field-0.0) _ _ _ (misses_outputs (numbers_of c.args.header) (feed g.R.Source.left g.R.Source.failed g.R.Source.pulls c.args.buffer.now c.args.r.now)) c.in_err-read_section.ensures)

pub returns-in_err-read_section-2 : goal.returns-in_err-read_section-2
returns-in_err-read_section-2 g c =
    let outputs = c.in_ok-read_section.ensures in
    let p = err_from_is_err_and c.from_residual-in_err-read_section-2.result c.from_residual-in_err-read_section-2.ensures.1 in
    rw (p.1, p.2) (tells-weaker (section_cause c.in_err-read_section-2.field-0.0) _ _ _ (misses_bads (numbers_of c.args.header) _ _ outputs.0 outputs.2) c.in_err-read_section-2.ensures)

pub returns-in_err-read_section-3 : goal.returns-in_err-read_section-3
returns-in_err-read_section-3 g c =
    let outputs = c.in_ok-read_section.ensures in
    let bads = c.in_ok-read_section-2.ensures in
    let p = err_from_is_err_and c.from_residual-in_err-read_section-3.result c.from_residual-in_err-read_section-3.ensures.1 in
    rw (p.1, p.2) (tells-weaker (section_cause c.in_err-read_section-3.field-0.0) _ _ _ (misses_constraints (numbers_of c.args.header) _ _ outputs.0 outputs.2 _ bads.0 bads.2) c.in_err-read_section-3.ensures)

pub returns-in_err-result_of : goal.returns-in_err-result_of
returns-in_err-result_of g c =
    let outputs = c.in_ok-read_section.ensures in
    let bads = c.in_ok-read_section-2.ensures in
    let constraints = c.in_ok-read_section-3.ensures in
    let e = c.in_err-result_of.field-0.0 in
    let p = err_from_is_err_and c.from_residual-in_err-result_of.result c.from_residual-in_err-result_of.ensures.1 in
    let missed = missed_in (error_in Justice) (in_section Justice) _ _ _ _ c.read_justice-sets.result c.result_of.result e c.result_of.ensures c.in_err-result_of.was c.read_justice-sets.ensures in
    rw (p.1, p.2) (tells-weaker (section_cause e) _ _ _ (misses_justice (numbers_of c.args.header) _ _ outputs.0 outputs.2 _ bads.0 bads.2 _ constraints.0 constraints.2) missed)

pub returns : goal.returns
returns g c =
    let outputs = c.in_ok-read_section.ensures in
    let bads = c.in_ok-read_section-2.ensures in
    let constraints = c.in_ok-read_section-3.ensures in
    let sets = made_in (error_in Justice) (in_section Justice) _ _ _ _ c.read_justice-sets.result c.result_of.result c.in_ok-result_of.field-0 c.result_of.ensures c.in_ok-result_of.was c.read_justice-sets.ensures in
    let none = c.requires in
    let empty = λ (list : Properties AigEdge → List AigEdge) (literals : List ℕ). ap (λ (p : Properties AigEdge). list p ++ map edge_from literals) none in
    makes_properties (numbers_of c.args.header) _ _ outputs.0 outputs.2 _ bads.0 bads.2 _ constraints.0 constraints.2 _ sets.0 sets.2 _ _
    (λ _ fairness is.
    let first = outputs.1 ∙ empty (λ p. p.outputs) outputs.0 in
    let second = bads.1 ∙ empty (λ p. p.bads) bads.0 in
    let third = constraints.1 ∙ empty (λ p. p.constraints) constraints.0 in
    let fourth = sets.1 ∙ ap (λ (p : Properties AigEdge). p.justice ++ map (map edge_from) sets.0) none in
    let fifth = is ∙ empty (λ p. p.fairness) fairness in
    λ i. record { outputs = first i; bads = second i; constraints = third i; justice = fourth i; fairness = fifth i }) _ c.read_section-4.result c.read_section-4.ensures
