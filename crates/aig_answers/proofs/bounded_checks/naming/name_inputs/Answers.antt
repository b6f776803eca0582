use Rattle.aig_answers.proofs.Words.{◌≡◌, ◌<◌, Some, false, length, get_or, set, sym, ap, subst, ◌∙◌, arith, length-set, slice_get-get_or, kind_at-within, HasName, leaf_of, Named}
use borrow.Author.Count.{below_more}
use Rattle.aig_circuit.specs.Circuit.{IsLeaf}
use Rattle.aig_answers.proofs.Names.{AreNamed, HasName-kept, HasName-written}
use Rattle.aig_answers.proofs.bounded_checks.naming.name_inputs.Goals as goal

pub loop-number-preserved : goal.loop-number-preserved
loop-number-preserved c =
    let circuit = c.args.circuit.now in
    let inputs = c.inputs-leaf-items.result.now in
    let same = c.inputs-leaf-items.ensures.value in
    let i = c.loop-number.number in
    let n = get_or inputs i 0 in
    let names = c.loop-number.names in
    let name : Named = record { step = 0; is_latch = false; number = i } in
    let count = c.loop-number.invariant.0 in
    let there : i < length circuit.inputs = omega (arith, c.loop-number-test.true, ap length same) in
    let leaf : n ≡ get_or circuit.inputs i 0 = ap (λ xs. get_or xs i 0) same in
    let named : leaf_of circuit false i ≡ Some n = slice_get-get_or circuit.inputs i 0 there ∙ ap Some (sym leaf) in
    let within = kind_at-within circuit.nodes n _ (subst (IsLeaf circuit.nodes) (sym leaf)
    (c.inputs-leaf-items.ensures.circuit.inputs i 0 there)) in
    let low : n < length names = omega (arith, within, count) in (
      length-set names n name ∙ count,
      below_more (λ k. HasName circuit (set names n name) (get_or circuit.inputs k 0)) i
          (λ k lt. HasName-kept circuit names n name low named (get_or circuit.inputs k 0)
          (c.loop-number.invariant.1 k lt))
          (subst (HasName circuit (set names n name)) leaf (HasName-written circuit names n name
          low named)),
    )

pub returns : goal.returns
returns c =
    let circuit = c.args.circuit.now in
    AreNamed circuit c.loop-number.names circuit.inputs c.loop-number.number (omega (
      arith,
      ap length c.inputs-leaf-items.ensures.value,
      c.loop-number-test.false,
    ))
    c.loop-number.invariant.1
