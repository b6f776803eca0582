use Rattle.std.proofs.Common.{◌≡◌, ℕ, ◌+◌, List, OnOk, length, refl, subst, ap, ◌∙◌}
use Rattle.std.specs.Prelude.{codes}
use Rattle.aig_base.proofs.Words.{insert}
use Rattle.aig_circuit.specs.View.{names_of}
use Rattle.aig_join.proofs.Naming.{Names}
use Rattle.aig_live.specs.Names.{live_names, numbered, with_row}
use Rattle.aig_live.proofs.Rows.{live_row}
use Rattle.aig_live.proofs.naming.put_live_names.Goals as goal

pub returns : goal.returns
returns c =
    let circuit = c.args.circuit.now in
    let edges = c.args.edges in
    let n = length c.nodes-n.result.now in
    let start = names_of c.args.names.now.entries in
    let one = names_of c.put_name.new.names.entries in
    let three = names_of c.put_copies.new.names.entries in
    let last = numbered (codes "seen ") 0 edges in
    let first : one ≡ insert start n (codes "save") = c.in_ok-put_name.ensures
    ∙ ap (λ (text : List ℕ). insert start n text) c.in_ok-from_str.ensures.ok in
    let second : names_of c.put_name-2.new.names.entries ≡ insert one (n + 1) (codes "saved") =
    c.in_ok-put_name-2.ensures
    ∙ ap (λ (text : List ℕ). insert one (n + 1) text) c.in_ok-from_str-2.ensures.ok in
    let same : with_row three (n + 2 + length c.latchs.result.now) last
    ≡ with_row start (length circuit.nodes) (live_names circuit edges) =
    ap (λ k. with_row three (n + 2 + k) last) (ap length c.latchs.ensures.value)
    ∙ live_row circuit n edges start one (names_of c.put_name-2.new.names.entries) three
    (with_row three (n + 2 + length circuit.latchs) last) first second c.in_ok-put_copies.ensures
    refl
    ∙ ap (λ m. with_row start m (live_names circuit edges)) (ap length c.nodes-n.ensures.value) in
    subst (λ (m : Names). OnOk c.put_numbered.result
    (names_of c.put_numbered.new.names.entries ≡ m)) same c.put_numbered.ensures
