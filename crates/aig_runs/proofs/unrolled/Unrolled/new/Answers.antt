use Rattle.std.proofs.Common.{◌≡◌, ℕ, refl, sym, subst}
use Rattle.aig_circuit.specs.Circuit.{Circuit, IsCircuit}
use Rattle.aig_circuit.specs.View.{lists_circuit}
use Rattle.aig_unroll.proofs.NoStep.{unrolls-none}
use Rattle.aig_unroll.specs.Unroll.{UnrollsTo}
use Rattle.aig_runs.specs.Unrolled.{IsUnrolled}
use Rattle.aig_runs.proofs.unrolled.Unrolled.new.Goals as goal

-- a circuit is itself without a further step
by_none : (c : Circuit) (k : ℕ) → k ≡ 0 → IsCircuit c
    → IsUnrolled (record { circuit = c; steps = k; unrolled = c })
by_none c k none is = record {
  circuit = is;
  unrolled = is;
  steps = subst (λ n. UnrollsTo c n c) (sym none) (unrolls-none c is);
}

pub invariant_of-result : goal.invariant_of-result
invariant_of-result c = by_none (lists_circuit c.args.circuit) c.args.k c.if-k-eq0.true c.requires

pub returns-then-k-eq0 : goal.returns-then-k-eq0
returns-then-k-eq0 c = record {
  circuit = refl;
  steps = refl;
  is = by_none (lists_circuit c.args.circuit) c.args.k c.if-k-eq0.true c.requires;
}
