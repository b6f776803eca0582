use Rattle.aig_witness_circuit_checks.proofs.Words.{Err, ◌-◌, ◌≡◌, ap, arith, err_from_is_err_and, length, lists_circuit, refl, GivesModel, IsEditOwn, edit_verdict}
use Rattle.aig_circuit.specs.declared.node.AigNodeType.TheVariants.{False}
use Rattle.aig_circuit.proofs.Trees.{kind_at-within}
use Rattle.aig_edits.proofs.ReadFiles.{file_on}
use Rattle.aig_witness_circuit_checks.proofs.Claiming.{made_nodes}
use Rattle.aig_witness_circuit_checks.proofs.claim.read_made.Goals as goal

pub returns-in_err-lists-clause-reads : goal.returns-in_err-lists-clause-reads
returns-in_err-lists-clause-reads g c =
    let p = err_from_is_err_and c.from_residual.result c.from_residual.ensures.1 in
    let told = c.in_err-lists.ensures.reads in
    rw (p.1, p.2) (file_on g.R.Source.left g.R.Source.failed c.args.limit c.args.file.now _
    (GivesModel c.args.own) edit_verdict IsEditOwn (Err c.in_err-lists.field-0.0) told refl told.own
    (λ f fits gives. gives))

-- the constant node is there
pub overflow_sub-variables : goal.overflow_sub-variables
overflow_sub-variables g c =
    let nodes = c.in_ok-lists.lists.nodes in
    let some =
    kind_at-within nodes.items 0 False c.in_ok-lists.ensures.ready.circuit.nodes.false_first in
    omega (arith, some, c.len.ensures, nodes.ok.0)

pub returns-clause-reads : goal.returns-clause-reads
returns-clause-reads g c =
    let a = c.args in
    let m = lists_circuit c.in_ok-lists.lists in
    let nodes = c.in_ok-lists.lists.nodes in
    let count : c.len.result ≡ length nodes.items = omega (arith, c.len.ensures, nodes.ok.0) in
    file_on g.R.Source.left g.R.Source.failed a.limit a.file.now _ (GivesModel a.own) edit_verdict
    IsEditOwn _ c.in_ok-lists.ensures.reads refl tt
    (λ f fits gives. (
      gives,
      λ v. made_nodes a.own f m (c.len.result - 1) v c.requires.made (ap (λ n. n - 1) count),
    ))

pub returns-clause-circuit : goal.returns-clause-circuit
returns-clause-circuit g c = c.in_ok-lists.ensures.ready.circuit
