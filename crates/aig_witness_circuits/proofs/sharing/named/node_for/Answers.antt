use Rattle.aig_witness_circuits.proofs.Words.{◌≡◌, ◌∙◌, Some, ap, option_map, string_bytes, sym, get, names_of, node_told}
use Rattle.aig_circuit.proofs.Names.{get_names}
use Rattle.aig_witness_circuits.proofs.Saying.{said}
use Rattle.aig_witness_circuits.proofs.sharing.named.node_for.Goals as goal

pub returns-in-Ok : goal.returns-in-Ok
returns-in-Ok c =
    let es = c.args.names.now.entries in
    let text = c.as_str.result.now in
    let known : get (names_of es) c.args.leaf ≡ Some text =
    get_names es c.args.leaf
    ∙ ap (option_map string_bytes) (sym c.in-Some.ensures.value)
    ∙ ap Some (sym c.as_str.ensures.value) in
    said (node_told c.args.variables.now) (names_of es) c.args.leaf text c.args.marks.now
    c.in-Ok.node known c.in-Ok.ensures
