use Rattle.std.proofs.Common.{◌+◌, ◌≤◌, ◌^◌, length, sym, ap, subst, ◌∙◌, arith}
use Rattle.aig_answers.proofs.Words.{Circuit, IsCircuit, lists_circuit, UnrollsTo, count_free, watched, window_clauses, window_size}
use Rattle.aig_answers.proofs.Asking.{same_room, watched_circuit}
use Rattle.aig_answers.proofs.windows.step_window.Goals as goal

pub new-circuit-requires : goal.new-circuit-requires
new-circuit-requires c =
    subst IsCircuit (sym c.in_ok-watched.ensures)
    (watched_circuit c.args.form (lists_circuit c.args.circuit) c.requires.circuit)

pub further_of-requires-clause-room : goal.further_of-requires-clause-room
further_of-requires-clause-room c =
    let form = c.args.form in
    let same = ap (λ w. window_size form w c.args.k) (c.new-circuit.ensures ∙ c.in_ok-watched.ensures) ∙ same_room form (lists_circuit c.args.circuit) c.args.k in
    let shown = ap (λ (d : Circuit). length d.nodes) c.new-unrolled.ensures in
    omega (arith, same, shown, c.requires.room, c.in_ok-lists.ensures.unrolls.size)

pub further_of-requires-clause-watched : goal.further_of-requires-clause-watched
further_of-requires-clause-watched c =
    (lists_circuit c.args.circuit, c.new-circuit.ensures ∙ c.in_ok-watched.ensures)

pub count_free-free-requires-clause-room : goal.count_free-free-requires-clause-room
count_free-free-requires-clause-room c =
    let form = c.args.form in
    let same = ap (λ w. window_size form w c.args.k) (c.new-circuit.ensures ∙ c.in_ok-watched.ensures) ∙ same_room form (lists_circuit c.args.circuit) c.args.k in
    omega (arith, same, c.requires.room)

pub returns : goal.returns
returns c =
    let form = c.args.form in
    let k = c.args.k in
    let source = lists_circuit c.args.circuit in
    let u = lists_circuit c.in_ok-lists.lists in
    let now = c.new-circuit.ensures ∙ c.in_ok-watched.ensures in
    let same = ap (λ w. window_size form w k) now ∙ same_room form source k in
    let free = c.count_free-free.ensures ∙ ap (λ w. count_free form w k) now in
    let all : length u.nodes + count_free form (watched form source) k ≤ 2 ^ 31 =
    omega (
      arith,
      ap (λ w. count_free form w k) now,
      same,
      c.requires.room,
      c.in_ok-lists.ensures.unrolls.size,
    ) in
    record {
      circuit = c.in_ok-lists.ensures.circuit;
      few = omega (arith, all, free);
      free = free;
      steps = subst (λ w. UnrollsTo w (k + 1) u) now c.in_ok-lists.ensures.unrolls;
      exact = c.in_ok-extra.ensures.exact
          ∙ ap (λ (d : Circuit). window_clauses form (length d.nodes) c.new-circuit.result k d)
          c.new-unrolled.ensures
          ∙ ap (λ w. window_clauses form (length u.nodes) w k u) now;
    }
