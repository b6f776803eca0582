use Rattle.aig_base.proofs.Words.{ℕ, ◌≡◌, sym, subst, ◌∙◌, arith, same_Some}
use Rattle.aig_circuit.specs.declared.node.AigNodeType.TheVariants.{And}
use Rattle.aig_cone.specs.Marks.{Visits}
use Rattle.aig_cone.proofs.Searching.{Visits-no_operands, Visits-operands, kind-of}
use Rattle.aig_cone.proofs.search.visit_operands.Goals as goal

pub returns-in_ok-visit-2 : goal.returns-in_ok-visit-2
returns-in_ok-visit-2 c =
    let nodes = c.args.nodes.now in
    let a = c.in-And.fanin0 in
    let b = c.in-And.fanin1 in
    let m0 = c.args.marks.now in
    let m1 = c.visit.new.marks in
    let m2 = c.visit-in-And.new.marks in
    let s0 = c.args.stack.now.items in
    let s1 = c.visit.new.stack.items in
    let s2 = c.visit-in-And.new.stack.items in
    let gate = kind-of nodes c.args.id _ (And a b) c.requires.there (sym c.typ.ensures ∙ c.in-And.is) in
    Visits-operands nodes c.args.id a b m0 m1 m2 s0 s1 s2 gate
    (subst (λ (n : ℕ). Visits m0 m1 s0 s1 (λ k. k ≡ n)) c.node_id.ensures c.in_ok-visit.ensures)
    (subst (λ (n : ℕ). Visits m1 m2 s1 s2 (λ k. k ≡ n)) c.node_id-in-And.ensures c.in_ok-visit-2.ensures)

pub returns-in_default : goal.returns-in_default
returns-in_default c =
    let nodes = c.args.nodes.now in
    let kind = kind-of nodes c.args.id _ c.typ.result.now c.requires.there (sym c.typ.ensures) in
    Visits-no_operands nodes c.args.id c.args.marks.now c.args.stack.now.items (λ a b gate. c.in_default.not-And a b (same_Some _ _ (sym kind ∙ gate)))

pub visit-requires : goal.visit-requires
visit-requires c =
    let a = c.in-And.fanin0 in
    let b = c.in-And.fanin1 in
    let gate = kind-of c.args.nodes.now c.args.id _ (And a b) c.requires.there (sym c.typ.ensures ∙ c.in-And.is) in
    omega (arith, c.requires.sound.ordered.first_before c.args.id a b gate, c.node_id.ensures, c.requires.lengths, c.requires.there)

pub visit-requires-in-And : goal.visit-requires-in-And
visit-requires-in-And c =
    let a = c.in-And.fanin0 in
    let b = c.in-And.fanin1 in
    let gate = kind-of c.args.nodes.now c.args.id _ (And a b) c.requires.there (sym c.typ.ensures ∙ c.in-And.is) in
    omega (arith, c.requires.sound.ordered.second_before c.args.id a b gate, c.node_id-in-And.ensures, c.visit.auto.marks, c.requires.lengths, c.requires.there)
