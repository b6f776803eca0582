use Rattle.aig_base.proofs.Words.{◌≡◌, ◌<◌, ◌∙◌, ◌-◌, ℕ, List, [], ◌++◌, All, All-append, IsTrue, false, Some, slice_index_or, ◌≤◌, length, length-map, refl, sym, ap, subst, arith}
use Rattle.std.specs.Prelude.{Vec}
use Rattle.std.specs.declared.alloc.Global.{Global}
use Rattle.aig_circuit.specs.declared.edge.AigEdge.{AigEdge}
use Rattle.aig_circuit.specs.Circuit.{IsInRange}
use Rattle.aig_circuit.proofs.Lists.{All-first, All-second}
use Rattle.aig_witness.specs.Witness.{said_by}
use Rattle.aig_witness.specs.WrongLassos.{IsFirstUnmet}
use Rattle.aig_witness.specs.Lassos.{IsMetFrom, named_justice}
use Rattle.aig_witness.specs.Loops.{AreMarks, IsFirstFalse}
use Rattle.aig_witness.proofs.Marks.{all_met, named_set, own_met, unmet_more, unmet_own}
use Rattle.aig_witness.proofs.fair.circuit.check_fair.Goals as goal

pub met_from-requires-clause-edges : goal.met_from-requires-clause-edges
met_from-requires-clause-edges c =
    let circuit = c.args.circuit.now in
    let w = said_by c.args.witness.now in
    let own = named_justice circuit w in
    let properties = c.justice.ensures.circuit.properties in
    subst (All (IsInRange circuit.nodes)) (sym (c.deref.ensures.value ∙ c.in_ok-edges.ensures))
    (All-append (IsInRange circuit.nodes) own circuit.properties.fairness
    (properties.justice w.bad [] c.requires.started.named) properties.fairness)

pub returns-in-None-clause-ok : goal.returns-in-None-clause-ok
returns-in-None-clause-ok c =
    let circuit = c.args.circuit.now in
    let w = said_by c.args.witness.now in
    let own = named_justice circuit w in
    let marks = c.in_ok-marks.marks.items in
    let are = subst (λ es. AreMarks circuit w c.args.start es marks)
    (c.deref.ensures.value ∙ c.in_ok-edges.ensures) c.in_ok-marks.ensures in
    let all = all_met circuit w c.args.start own circuit.properties.fairness marks are
    (λ i h. subst (λ ms. (j : ℕ) → j < length ms → IsTrue (slice_index_or ms j false))
    c.deref-2.ensures.value c.in-None.ensures i h) in
    record {
      started = c.requires.started;
      steps = c.requires.steps;
      loop = c.requires.loop_start;
      justice = All-first (IsMetFrom circuit w c.args.start) own circuit.properties.fairness all;
      fairness = All-second (IsMetFrom circuit w c.args.start) own circuit.properties.fairness all;
    }

pub returns-then-n-count-clause-err : goal.returns-then-n-count-clause-err
returns-then-n-count-clause-err c =
    let circuit = c.args.circuit.now in
    let w = said_by c.args.witness.now in
    let own = named_justice circuit w in
    let marks = c.in_ok-marks.marks.items in
    let n = c.in-Some.n in
    let are = subst (λ es. AreMarks circuit w c.args.start es marks)
    (c.deref.ensures.value ∙ c.in_ok-edges.ensures) c.in_ok-marks.ensures in
    let first = subst (λ ms. IsFirstFalse ms (Some n)) c.deref-2.ensures.value c.in-Some.ensures in
    let sets = c.justice.result.now in
    let set = c.index-justice-witness.result in
    let long : length sets ≡ length circuit.properties.justice = sym (length-map sets
    (λ (set : Vec AigEdge Global). set.items)) ∙ ap length c.justice.ensures.value in
    let same = named_set sets circuit.properties.justice w.bad set c.justice.ensures.value
    (omega (arith, long, c.requires.started.named)) c.index-justice-witness.is in
    let low : n < length own = omega (
      arith,
      ap length same,
      set.ok.0,
      c.len-count.ensures,
      c.if-n-count.true,
    ) in (
      c.requires.started,
      c.requires.steps,
      (
        c.args.start,
        c.requires.loop_start,
        unmet_own circuit w c.args.start own circuit.properties.fairness marks are n first low,
      ),
    )

pub returns-clause-err : goal.returns-clause-err
returns-clause-err c =
    let circuit = c.args.circuit.now in
    let w = said_by c.args.witness.now in
    let own = named_justice circuit w in
    let more = circuit.properties.fairness in
    let marks = c.in_ok-marks.marks.items in
    let n = c.in-Some.n in
    let are = subst (λ es. AreMarks circuit w c.args.start es marks)
    (c.deref.ensures.value ∙ c.in_ok-edges.ensures) c.in_ok-marks.ensures in
    let first = subst (λ ms. IsFirstFalse ms (Some n)) c.deref-2.ensures.value c.in-Some.ensures in
    let sets = c.justice.result.now in
    let set = c.index-justice-witness.result in
    let long : length sets ≡ length circuit.properties.justice = sym (length-map sets
    (λ (set : Vec AigEdge Global). set.items)) ∙ ap length c.justice.ensures.value in
    let same = named_set sets circuit.properties.justice w.bad set c.justice.ensures.value
    (omega (arith, long, c.requires.started.named)) c.index-justice-witness.is in
    let count : length own ≡ c.len-count.result = omega (
      arith,
      ap length same,
      set.ok.0,
      c.len-count.ensures,
    ) in
    let high : length own ≤ n = omega (arith, count, c.if-n-count.false) in (
      c.requires.started,
      c.requires.steps,
      (
        c.args.start,
        c.requires.loop_start,
        own_met circuit w c.args.start own more marks are n first high,
        subst (λ k. IsFirstUnmet circuit w c.args.start more (n - k)) count
            (unmet_more circuit w c.args.start own more marks are n first high),
      ),
    )
