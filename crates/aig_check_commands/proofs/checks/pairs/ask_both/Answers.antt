use Rattle.aig_check_commands.proofs.Words.{◌≤◌, ◌^◌, ◌∙◌, ℕ, arith, length, subst, sym, Circuit, IsCircuitQuery, lists_circuit, query_with}
use Rattle.aig_answers.specs.Answers.{AskWith}
use Rattle.aig_runs.specs.WindowClauses.{AsksWindow}
use Rattle.aig_runs.specs.declared.window.Window.TheVariants.{Plain}
use Rattle.aig_unroll.specs.Places.{unrolled_size}
use Rattle.aig_check_commands.proofs.checks.pairs.ask_both.Goals as goal

pub query_parts-requires : goal.query_parts-requires
query_parts-requires c =
    let u = c.in_ok-joint.joint in
    let is = c.in_ok-joint.ensures in
    let m = lists_circuit c.args.joint in
    let size = subst (λ (d : Circuit). length u.unrolled.nodes ≤ unrolled_size d u.steps) is.circuit
    is.is.steps.size in
    let sized = subst (λ n. length u.unrolled.nodes ≤ unrolled_size m n) is.steps size in
    omega (arith, sized, c.requires.base)

pub part_window-requires : goal.part_window-requires
part_window-requires c =
    subst (λ (d : Circuit). unrolled_size d 1 ≤ 2 ^ 31)
    (sym (c.circuit.ensures.value ∙ c.in_ok-joint.ensures.circuit)) c.requires.step

pub returns : goal.returns
returns c =
    let optimize = c.args.optimize in
    let m = lists_circuit c.args.joint in
    let steps = c.in_ok-joint.ensures in
    let joint = c.in_ok-joint.joint in
    let base = c.in_ok-base.base in
    let stepped = lists_circuit c.in_ok-stepped.stepped in
    let step = c.in_ok-stepped.step in
    record {
      base =
          subst (λ (k : ℕ). AskWith joint.unrolled optimize
          (λ made. IsCircuitQuery m k optimize (query_with joint.unrolled made)) base) steps.steps
          (subst (λ (d : Circuit). AskWith joint.unrolled optimize
          (λ made. IsCircuitQuery d joint.steps optimize (query_with joint.unrolled made)) base) steps.circuit
          c.in_ok-base.ensures.asks);
      step =
          subst (λ (d : Circuit). AskWith stepped optimize
          (λ made. AsksWindow Plain d 0 optimize made.clauses made.extra) step)
          (c.circuit.ensures.value ∙ steps.circuit) c.in_ok-stepped.ensures.asks;
      circuit = c.in_ok-stepped.ensures.circuit;
      base_written = c.in_ok-base.ensures.written;
      step_written = c.in_ok-stepped.ensures.written;
    }
