use Rattle.std.proofs.Common.{◌≡◌, ◌+◌, ◌++◌, length, sym, ap, ◌∙◌, rules, arith}
use Rattle.std.proofs.lemmas.List.{length-append}
use Rattle.aig_base.specs.Formula.{clauses_in}
use Rattle.aig_output.proofs.Putting.{failed_put, written_through}
use Rattle.aig_dimacs.specs.Text.{dimacs_of}
use Rattle.aig_dimacs.proofs.ByMarks.{by_marks, formula_of, free_clauses, free_length}
use Rattle.aig_dimacs.proofs.circuit.write_circuit_with.Goals as goal

pub returns-in_err-write_all : goal.returns-in_err-write_all
unfolding dimacs_of
returns-in_err-write_all g c =
    let h = c.requires.needed in
    let extra = c.args.extra.now in
    let count : length (clauses_in h.lists ++ extra) ≡ c.args.needed.now.clauses + c.len.result =
    omega (arith, length-append (clauses_in h.lists) extra, h.count, c.len.ensures.count) in
    let nodes = free_length h.lists c.args.free ∙ ap (λ n. n + c.args.free)
    (h.has_clauses.count ∙ sym (ap length c.nodes-nodes.ensures.value)) in
    let told = c.in_err-write_all.ensures h.lists (rw (c.nodes-nodes.ensures.value, c.deref.ensures.value) (by_marks c.args.circuit.now c.args.optimize c.args.needed.now.marks.items c.args.needed.now.clauses h)) in (
      h.lists,
      h.has_clauses,
      record {
        writes = failed_put (rw (c.new-buffer.ensures, sym nodes, sym count, sym (free_clauses h.lists c.args.free)) at told.err) (search rules);
        formula = formula_of c.args.circuit.now c.args.optimize c.args.needed.now.marks.items c.args.needed.now.clauses c.args.free extra c.requires.few h c.requires.below (omega (arith, c.len.ensures.count, c.len.ensures.few));
      },
    )

pub returns : goal.returns
unfolding dimacs_of
returns g c =
    let h = c.requires.needed in
    let extra = c.args.extra.now in
    let count : length (clauses_in h.lists ++ extra) ≡ c.args.needed.now.clauses + c.len.result =
    omega (arith, length-append (clauses_in h.lists) extra, h.count, c.len.ensures.count) in
    let nodes = free_length h.lists c.args.free ∙ ap (λ n. n + c.args.free)
    (h.has_clauses.count ∙ sym (ap length c.nodes-nodes.ensures.value)) in
    let told = c.in_ok-write_all.ensures h.lists (rw (c.nodes-nodes.ensures.value, c.deref.ensures.value) (by_marks c.args.circuit.now c.args.optimize c.args.needed.now.marks.items c.args.needed.now.clauses h)) in (
      h.lists,
      h.has_clauses,
      record {
        writes = written_through c.new-buffer.ensures (rw (sym nodes, sym count, sym (free_clauses h.lists c.args.free)) at told.ok) c.flush.ensures.writes;
        formula = formula_of c.args.circuit.now c.args.optimize c.args.needed.now.marks.items c.args.needed.now.clauses c.args.free extra c.requires.few h c.requires.below (omega (arith, c.len.ensures.count, c.len.ensures.few));
      },
    )
