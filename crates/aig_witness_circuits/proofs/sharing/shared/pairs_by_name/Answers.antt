use Rattle.aig_witness_circuits.proofs.Words.{◌∙◌, ◌<◌, ℕ, [], All, Contains, ap, arith, err_from_is_err_and, length, map, subst, sym, Leaf, latch_leaves-leaves, kind_at-within, latch_leaves, names_of, node_told, AddsNamed, IsAt, IsRefused, Marks, IsFor, IsNamed}
use Rattle.aig_witness_circuits.proofs.Found.{input_fault, latch_fault, latches_apart, pairs_named, shares_by_name}
use Rattle.aig_witness_circuits.proofs.Saying.{carry3, carry4}
use Rattle.aig_witness_circuits.proofs.sharing.shared.pairs_by_name.Goals as goal

pub marks_of-requires-2 : goal.marks_of-requires-2
marks_of-requires-2 c =
    let model = c.args.model.now in
    let is = c.nodes-count.ensures.circuit in
    let leaves = c.deref.ensures.value ∙ c.in_ok-model_latches.ensures
    ∙ ap latch_leaves c.latchs.ensures.value in
    let as_many = ap length c.nodes-count.ensures.value in
    subst (All (λ n. n < length c.nodes-count.result.now)) (sym leaves)
    (λ k d h.
    let leaf = latch_leaves-leaves model is k d h in
    omega (arith, kind_at-within model.nodes _ Leaf leaf, as_many))

pub returns-in_err-push_named-clause-fault : goal.returns-in_err-push_named-clause-fault
returns-in_err-push_named-clause-fault c =
    let node = node_told c.args.variables.now in
    let p = err_from_is_err_and c.from_residual-in_err-push_named.result
    c.from_residual-in_err-push_named.ensures.1 in
    let model = c.args.model.now in
    let witness = c.args.witness.now in
    let inputs = c.in_ok-inputs.inputs.items in
    let latches = c.in_ok-latches.latches.items in
    let leaves = c.deref.ensures.value ∙ c.in_ok-model_latches.ensures
    ∙ ap latch_leaves c.latchs.ensures.value in
    let as_many = ap length c.nodes-count.ensures.value in
    let e = c.in_err-push_named.field-0.0 in
    rw (p.1, p.2)
    (input_fault node model witness c.nodes-count.ensures.circuit c.latchs-2.ensures.circuit inputs
    latches
    (subst (Marks inputs) c.inputs.ensures.value c.in_ok-inputs.ensures.marks)
    (subst (Marks latches) leaves c.in_ok-latches.ensures.marks)
    (c.in_ok-inputs.ensures.count ∙ as_many) (c.in_ok-latches.ensures.count ∙ as_many) e
    (carry4 (λ names ns marks before. IsRefused node names ns (IsAt marks) before e)
    (names_of c.names.result.now.entries) witness.names c.inputs-2.result.now witness.inputs
    c.deref-2.result.now inputs c.new-shared.result.items [] c.names.ensures.value
    c.inputs-2.ensures.value c.deref-2.ensures.value c.new-shared.ensures.items
    c.in_err-push_named.ensures.refused))

pub push_named-requires-2-clause-named : goal.push_named-requires-2-clause-named
push_named-requires-2-clause-named c =
    let node = node_told c.args.variables.now in
    let witness = c.args.witness.now in
    let inputs = c.in_ok-inputs.inputs.items in
    let one = c.push_named.new.shared.items in
    let taken = c.push_named.new.taken in
    let first = carry4
    (λ names ns marks before. AddsNamed node names ns (IsAt marks) before one taken)
    (names_of c.names.result.now.entries) witness.names c.inputs-2.result.now witness.inputs
    c.deref-2.result.now inputs c.new-shared.result.items [] c.names.ensures.value
    c.inputs-2.ensures.value c.deref-2.ensures.value c.new-shared.ensures.items
    c.in_ok-push_named.ensures.adds in
    subst (λ names. All (λ (p : ℕ × ℕ). IsNamed (IsFor node p.0) names p.1) one)
    (sym c.names-2.ensures.value)
    (pairs_named node witness.names witness.inputs (IsAt inputs) one taken first)

pub push_named-requires-2-clause-apart : goal.push_named-requires-2-clause-apart
push_named-requires-2-clause-apart c =
    let node = node_told c.args.variables.now in
    let model = c.args.model.now in
    let witness = c.args.witness.now in
    let inputs = c.in_ok-inputs.inputs.items in
    let latches = c.in_ok-latches.latches.items in
    let one = c.push_named.new.shared.items in
    let taken = c.push_named.new.taken in
    let leaves = c.deref.ensures.value ∙ c.in_ok-model_latches.ensures
    ∙ ap latch_leaves c.latchs.ensures.value in
    let own = c.deref-4.ensures.value ∙ c.in_ok-witness_latches.ensures
    ∙ ap latch_leaves c.latchs-2.ensures.value in
    let as_many = ap length c.nodes-count.ensures.value in
    let first = carry4
    (λ names ns marks before. AddsNamed node names ns (IsAt marks) before one taken)
    (names_of c.names.result.now.entries) witness.names c.inputs-2.result.now witness.inputs
    c.deref-2.result.now inputs c.new-shared.result.items [] c.names.ensures.value
    c.inputs-2.ensures.value c.deref-2.ensures.value c.new-shared.ensures.items
    c.in_ok-push_named.ensures.adds in
    subst (All (λ n. ¬ Contains (map (λ (p : ℕ × ℕ). p.1) one) n)) (sym own)
    (latches_apart node model witness c.nodes-count.ensures.circuit c.latchs-2.ensures.circuit
    inputs latches
    (subst (Marks inputs) c.inputs.ensures.value c.in_ok-inputs.ensures.marks)
    (subst (Marks latches) leaves c.in_ok-latches.ensures.marks)
    (c.in_ok-inputs.ensures.count ∙ as_many) (c.in_ok-latches.ensures.count ∙ as_many) one taken
    first)

pub returns-in_err-push_named-2-clause-fault : goal.returns-in_err-push_named-2-clause-fault
returns-in_err-push_named-2-clause-fault c =
    let node = node_told c.args.variables.now in
    let p = err_from_is_err_and c.from_residual-in_err-push_named-2.result
    c.from_residual-in_err-push_named-2.ensures.1 in
    let model = c.args.model.now in
    let witness = c.args.witness.now in
    let inputs = c.in_ok-inputs.inputs.items in
    let latches = c.in_ok-latches.latches.items in
    let one = c.push_named.new.shared.items in
    let taken = c.push_named.new.taken in
    let leaves = c.deref.ensures.value ∙ c.in_ok-model_latches.ensures
    ∙ ap latch_leaves c.latchs.ensures.value in
    let own = c.deref-4.ensures.value ∙ c.in_ok-witness_latches.ensures
    ∙ ap latch_leaves c.latchs-2.ensures.value in
    let as_many = ap length c.nodes-count.ensures.value in
    let first = carry4
    (λ names ns marks before. AddsNamed node names ns (IsAt marks) before one taken)
    (names_of c.names.result.now.entries) witness.names c.inputs-2.result.now witness.inputs
    c.deref-2.result.now inputs c.new-shared.result.items [] c.names.ensures.value
    c.inputs-2.ensures.value c.deref-2.ensures.value c.new-shared.ensures.items
    c.in_ok-push_named.ensures.adds in
    let e = c.in_err-push_named-2.field-0.0 in
    rw (p.1, p.2)
    (latch_fault node model witness c.nodes-count.ensures.circuit c.latchs-2.ensures.circuit inputs
    latches
    (subst (Marks inputs) c.inputs.ensures.value c.in_ok-inputs.ensures.marks)
    (subst (Marks latches) leaves c.in_ok-latches.ensures.marks)
    (c.in_ok-inputs.ensures.count ∙ as_many) (c.in_ok-latches.ensures.count ∙ as_many) one taken
    first e
    (carry3 (λ names ns marks. IsRefused node names ns (IsAt marks) one e)
    (names_of c.names-2.result.now.entries) witness.names c.deref-4.result.now
    (latch_leaves witness.latchs) c.deref-3.result.now latches c.names-2.ensures.value own
    c.deref-3.ensures.value c.in_err-push_named-2.ensures.refused))

pub returns-clause-shares : goal.returns-clause-shares
returns-clause-shares c =
    let node = node_told c.args.variables.now in
    let model = c.args.model.now in
    let witness = c.args.witness.now in
    let inputs = c.in_ok-inputs.inputs.items in
    let latches = c.in_ok-latches.latches.items in
    let one = c.push_named.new.shared.items in
    let two = c.push_named-2.new.shared.items in
    let taken = c.push_named.new.taken in
    let taken_two = c.push_named-2.new.taken in
    let leaves = c.deref.ensures.value ∙ c.in_ok-model_latches.ensures
    ∙ ap latch_leaves c.latchs.ensures.value in
    let own = c.deref-4.ensures.value ∙ c.in_ok-witness_latches.ensures
    ∙ ap latch_leaves c.latchs-2.ensures.value in
    let as_many = ap length c.nodes-count.ensures.value in
    let first = carry4
    (λ names ns marks before. AddsNamed node names ns (IsAt marks) before one taken)
    (names_of c.names.result.now.entries) witness.names c.inputs-2.result.now witness.inputs
    c.deref-2.result.now inputs c.new-shared.result.items [] c.names.ensures.value
    c.inputs-2.ensures.value c.deref-2.ensures.value c.new-shared.ensures.items
    c.in_ok-push_named.ensures.adds in
    let second = carry3 (λ names ns marks. AddsNamed node names ns (IsAt marks) one two taken_two)
    (names_of c.names-2.result.now.entries) witness.names c.deref-4.result.now
    (latch_leaves witness.latchs) c.deref-3.result.now latches c.names-2.ensures.value own
    c.deref-3.ensures.value c.in_ok-push_named-2.ensures.adds in
    shares_by_name node model witness c.nodes-count.ensures.circuit c.latchs-2.ensures.circuit
    inputs latches
    (subst (Marks inputs) c.inputs.ensures.value c.in_ok-inputs.ensures.marks)
    (subst (Marks latches) leaves c.in_ok-latches.ensures.marks)
    (c.in_ok-inputs.ensures.count ∙ as_many) (c.in_ok-latches.ensures.count ∙ as_many) one taken
    first two taken_two second
