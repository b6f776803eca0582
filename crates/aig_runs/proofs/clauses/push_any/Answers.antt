use Rattle.aig_base.proofs.Words.{◌≡◌, ◌++◌, ◌∷◌, [], map, sym, ap, ap₂, subst, ◌∙◌, arith, map_more, take_all, OnOk, List}
use Rattle.aig_base.specs.declared.logic.literal.Lit.{Lit}
use Rattle.aig_circuit.specs.Edge.{lit_of}
use Rattle.aig_runs.proofs.clauses.push_any.Goals as goal

pub to_lit-requires : goal.to_lit-requires
to_lit-requires c = c.requires c.loop-edge.edge-index _ c.loop-edge-test.true

pub push_reserved-requires : goal.push_reserved-requires
push_reserved-requires c = omega (arith, c.loop-edge.invariant.1, c.loop-edge-test.true)

pub loop-edge-preserved : goal.loop-edge-preserved
loop-edge-preserved c =
    let longer = ap₂ (λ (lits : List Lit) (lit : Lit). lits ++ lit ∷ []) c.loop-edge.invariant.0 c.to_lit.ensures in (
      c.push_reserved.ensures.items ∙ longer ∙ sym (map_more lit_of c.args.edges.now c.loop-edge.edge-index _ c.loop-edge-test.true),
      omega (arith, c.loop-edge.invariant.1, c.push_reserved.ensures.len, c.push_reserved.ensures.capacity),
    )

pub returns : goal.returns
returns c =
    let whole = c.deref.ensures.value ∙ c.loop-edge.invariant.0 ∙ ap (map lit_of) (take_all c.loop-edge.edge-index c.args.edges.now c.loop-edge-test.false) in
    subst (λ (clause : List Lit). OnOk c.push.result (c.push.new.self ≡ c.args.extra.now ++ clause ∷ [])) whole c.push.ensures.ok
