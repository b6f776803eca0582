use Rattle.std.proofs.Common.{◌≡◌, ◌+◌, OnOk, subst, sym, ap, ◌∙◌}
use Rattle.std.specs.Prelude.{codes}
use Rattle.aig_circuit.specs.View.{names_of}
use Rattle.aig_join.proofs.Naming.{Names}
use Rattle.aig_live.specs.Names.{numbered, rounds_names, with_row}
use Rattle.aig_live.proofs.Rows.{numbered-long, with_row-both}
use Rattle.aig_live.proofs.naming.put_rounds_names.Goals as goal

pub returns : goal.returns
returns c =
    let node = c.args.node in
    let edges = c.args.edges in
    let start = names_of c.args.names.now.entries in
    let mets = numbered (codes "met ") 0 edges in
    let last = numbered (codes "round ") 1 c.args.count in
    let same : with_row (names_of c.put_numbered.new.names.entries) (node + edges) last
    ≡ with_row start node (rounds_names edges c.args.count) =
    ap (λ m. with_row m (node + edges) last) c.in_ok-put_numbered.ensures
    ∙ ap (λ k. with_row (with_row start node mets) (node + k) last)
    (sym (numbered-long (codes "met ") 0 edges))
    ∙ sym (with_row-both start node mets last) in
    subst (λ (m : Names). OnOk c.put_numbered-2.result
    (names_of c.put_numbered-2.new.names.entries ≡ m)) same c.put_numbered-2.ensures
