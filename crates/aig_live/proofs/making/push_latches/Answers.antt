use Rattle.std.proofs.Common.{◌≡◌, ℕ, ◌+◌, ◌++◌, ◌∷◌, [], List, Some, false, length, get_or, take, arith, sym, ◌∙◌, ap, length-take}
use Rattle.aig_base.proofs.Words.{append_assoc, take_more}
use Rattle.aig_circuit.specs.declared.edge.AigEdge.{AigEdge}
use Rattle.aig_circuit.specs.declared.node.AigLatch.{AigLatch}
use Rattle.aig_circuit.proofs.Words.{edge_to}
use Rattle.aig_live.specs.Live.{false_latch, false_latches}
use Rattle.aig_live.proofs.Added.{false_latches-append}
use Rattle.aig_live.proofs.making.push_latches.Goals as goal

pub loop-i-preserved : goal.loop-i-preserved
loop-i-preserved c =
    let es = c.args.nexts.now in
    let i = c.loop-i.i in
    let e = get_or es i (edge_to 0 false) in
    let front = take i es in
    let long : length front ≡ i = length-take i es ∙ omega (arith, c.loop-i-test.true) in
    let latch : c.new.result ≡ false_latch (c.args.leaf + i) e =
    c.new.ensures ∙ ap (λ (f : AigEdge). record {
      input = c.args.leaf + i;
      next = e;
      init = Some f;
    }) c.constant.ensures in
    c.in_ok-push.ensures.items
    ∙ ap (λ (ls : List AigLatch). ls ++ c.new.result ∷ []) c.loop-i.invariant
    ∙ append_assoc c.args.latchs.now.items (false_latches c.args.leaf front) (c.new.result ∷ [])
    ∙ ap (λ (l : AigLatch). c.args.latchs.now.items ++
    (false_latches c.args.leaf front ++ l ∷ [])) latch
    ∙ ap (λ (m : ℕ). c.args.latchs.now.items ++ (false_latches c.args.leaf front ++ false_latch
    (c.args.leaf + m) e ∷ [])) (sym long)
    ∙ ap (λ (ls : List AigLatch). c.args.latchs.now.items ++ ls) (sym
    (false_latches-append c.args.leaf front e))
    ∙ ap (λ (xs : List AigEdge). c.args.latchs.now.items ++ false_latches c.args.leaf xs) (sym
    (take_more es i (edge_to 0 false) c.loop-i-test.true))
