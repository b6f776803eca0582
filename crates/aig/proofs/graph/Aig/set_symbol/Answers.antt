use Rattle.aig_base.proofs.Words.{ℕ, ◌<◌, List, length, nat_cmp, ap, sym, subst, ◌∙◌, FinMap, insert}
use Rattle.aig_circuit.specs.Circuit.{Circuit, IsCircuit}
use Rattle.aig_circuit.proofs.Circuits.{IsCircuit-named}
use Rattle.aig.specs.View.{circuit_of_lists}
use Rattle.aig_circuit.proofs.Names.{names_insert, named_insert}
use Rattle.aig.proofs.graph.Aig.set_symbol.Goals as goal

pub invariant_of-self-2 : goal.invariant_of-self-2
invariant_of-self-2 c =
    let old = circuit_of_lists c.self.inside in
    let names = names_insert c.self.inside.lists.names.entries c.insert.new.self.entries c.args.id c.in_ok-text.text c.in_ok-insert.ensures.updates.0 ∙ ap (insert old.names c.args.id) c.in_ok-text.ensures.ok in
    let there = subst (λ (v : Circuit). c.args.id < length v.nodes) (sym c.self.view_is) c.requires in
    subst (λ (m : FinMap nat_cmp (List ℕ)). IsCircuit (record old { names = m })) (sym names)
    (IsCircuit-named old (insert old.names c.args.id c.args.name.now) c.self.invariant (named_insert old.names c.args.id c.args.name.now (length old.nodes) there c.self.invariant.named))

pub returns-clause-ok : goal.returns-clause-ok
returns-clause-ok c =
    let old = circuit_of_lists c.self.inside in
    let names = names_insert c.self.inside.lists.names.entries c.insert.new.self.entries c.args.id c.in_ok-text.text c.in_ok-insert.ensures.updates.0 ∙ ap (insert old.names c.args.id) c.in_ok-text.ensures.ok in
    ap (λ (m : FinMap nat_cmp (List ℕ)). record old { names = m }) names
    ∙ ap (λ (v : Circuit). record v { names = insert v.names c.args.id c.args.name.now }) c.self.view_is
