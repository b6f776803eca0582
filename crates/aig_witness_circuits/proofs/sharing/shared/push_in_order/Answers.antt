use Rattle.aig_base.proofs.Words.{◌≤◌, ◌<◌, ◌++◌, ◌∙◌, ◌∷◌, ℕ, [], arith, ap, append_assoc, get_or, length, sym, take, zip}
use Rattle.aig_witness_circuits.specs.Simulation.{Sharing}
use Rattle.aig_witness_circuits.proofs.Saying.{zip_long, zip_more, zip_short}
use Rattle.aig_witness_circuits.proofs.sharing.shared.push_in_order.Goals as goal

pub returns-then-i-witness : goal.returns-then-i-witness
returns-then-i-witness c =
    let short : length c.args.witness.now ≤ c.loop-i.i = omega (arith, c.if-i-witness.true) in
    c.loop-i.invariant.pairs
    ∙ ap (λ (l : Sharing). c.args.shared.now.items ++ l)
    (zip_short c.loop-i.i c.args.model.now c.args.witness.now short)

pub loop-i-preserved : goal.loop-i-preserved
loop-i-preserved c =
    let model = c.args.model.now in
    let witness = c.args.witness.now in
    let i = c.loop-i.i in
    let old = c.args.shared.now.items in
    let pair : ℕ × ℕ = (get_or model i 0, get_or witness i 0) in
    let low : i < length witness = omega (arith, c.loop-i.invariant.within, c.if-i-witness.false) in
    record {
      pairs =
          c.in_ok-push.ensures.items
          ∙ ap (λ (l : Sharing). l ++ pair ∷ []) c.loop-i.invariant.pairs
          ∙ append_assoc old (zip (take i model) (take i witness)) (pair ∷ [])
          ∙ ap (λ (l : Sharing). old ++ l)
          (sym (zip_more i model witness 0 0 c.loop-i-test.true low));
      within = omega arith;
    }

pub returns : goal.returns
returns c =
    c.loop-i.invariant.pairs
    ∙ ap (λ (l : Sharing). c.args.shared.now.items ++ l)
    (zip_long c.loop-i.i c.args.model.now c.args.witness.now c.loop-i-test.false)
