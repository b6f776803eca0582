use Rattle.aig_base.proofs.Words.{◌≡◌, ◌<◌, List, [], ◌∷◌, false, get_or, length, ap, ◌∙◌, append-nil, arith, rules, flat_map, get_or_from_slice_get, slice_get_within}
use Rattle.aig_base.specs.declared.logic.literal.Lit.{Lit}
use Rattle.aig_base.specs.Clauses.{lit_to}
use Rattle.aig_output.proofs.Putting.{Buffers-nil, Buffers-turn, all_done, failed_turn}
use Rattle.aig_dimacs.specs.Text.{clause_line}
use Rattle.aig_dimacs.proofs.circuit.write_gates.Goals as goal

-- the line of the clause of variable 0, as that of a list
zero_line : (lists : List (List (List Lit))) → get_or lists 0 [] ≡ (lit_to 0 false ∷ []) ∷ []
    → flat_map clause_line (get_or lists 0 []) ≡ clause_line (lit_to 0 false ∷ [])
zero_line lists is = ap (flat_map clause_line) is ∙ append-nil (clause_line (lit_to 0 false ∷ []))

pub returns-in_err-write_clause : goal.returns-in_err-write_clause
returns-in_err-write_clause g c = λ lists are.
    let some : 0 < length lists = slice_get_within lists 0 _ are.zero in
    let line = zero_line lists (get_or_from_slice_get lists 0 _ [] are.zero) in
    let lit = c.new-2.ensures ∙ ap (λ n. lit_to n false) c.new.ensures in
    failed_turn (flat_map clause_line) lists 0 [] some (Buffers-nil _ _) (rw (← line) at (rw lit at c.in_err-write_clause.ensures)) (search rules)

pub returns-in_err-write_gate : goal.returns-in_err-write_gate
returns-in_err-write_gate g c = λ lists are.
    let low : c.loop-id.id < length lists = omega (arith, c.loop-id-test.true, are.count) in
    let each = are.each c.loop-id.id (λ e. absurd (omega (arith, e, c.loop-id.invariant.low))) (omega (arith, c.loop-id-test.true)) in
    failed_turn (flat_map clause_line) lists c.loop-id.id [] low (c.loop-id.invariant.so_far lists are)
    (c.in_err-write_gate.ensures (get_or lists c.loop-id.id []) each) (search rules)

pub loop-id-preserved : goal.loop-id-preserved
loop-id-preserved g c = record {
  low = omega (arith, c.loop-id.invariant.low);
  so_far = λ lists are.
      let low : c.loop-id.id < length lists = omega (arith, c.loop-id-test.true, are.count) in
      let each = are.each c.loop-id.id (λ e. absurd (omega (arith, e, c.loop-id.invariant.low))) (omega (arith, c.loop-id-test.true)) in
      Buffers-turn (flat_map clause_line) lists c.loop-id.id [] low (c.loop-id.invariant.so_far lists are)
      (c.in_ok-write_gate.ensures (get_or lists c.loop-id.id []) each).ok;
}

pub returns : goal.returns
returns g c = λ lists are.
    all_done (flat_map clause_line) lists c.loop-id.id (omega (arith, c.loop-id-test.false, are.count)) (c.loop-id.invariant.so_far lists are)
