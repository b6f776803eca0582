use Rattle.aig_base.proofs.Words.{Some, sym, ap, ◌∙◌, option_map, string_bytes, get}
use Rattle.aig_circuit.specs.Circuit.{Circuit}
use Rattle.aig_circuit.proofs.Names.{get_names}
use Rattle.aig.proofs.graph.Aig.get_symbol.Goals as goal

pub returns-in_ok-clone-in-Some : goal.returns-in_ok-clone-in-Some
returns-in_ok-clone-in-Some c =
    ap Some c.in_ok-clone-in-Some.ensures.cases ∙ ap (option_map string_bytes) c.in-Some.ensures.value
    ∙ sym (get_names c.self.inside.lists.names.entries c.args.id) ∙ ap (λ (v : Circuit). get v.names c.args.id) c.self.view_is

pub returns-in-None : goal.returns-in-None
returns-in-None c =
    ap (option_map string_bytes) c.in-None.ensures.value
    ∙ sym (get_names c.self.inside.lists.names.entries c.args.id) ∙ ap (λ (v : Circuit). get v.names c.args.id) c.self.view_is
