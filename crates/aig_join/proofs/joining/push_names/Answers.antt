use Rattle.aig_base.proofs.Words.{◌≡◌, ◌<◌, ◌++◌, ℕ, List, length, drop, subst, sym, ap, ◌∙◌, All, OnOk, slice_index, contains_text, take_rest}
use Rattle.aig_circuit.proofs.Words.{latch_leaves, names_of}
use Rattle.aig_join.specs.Joined.{further_leaves}
use Rattle.aig_join.specs.Names.{is_name_of, is_taken, with_names}
use Rattle.aig_join.proofs.Made.{further-there}
use Rattle.aig_join.proofs.joining.push_names.Goals as goal
use Rattle.aig_join.proofs.joining.push_names.Goals.{After-deref-2}

-- the further leaves
further_is : (c : After-deref-2)
    → c.deref-2.result.now ≡ further_leaves c.args.latches c.args.first.now c.args.second.now
further_is c =
    let n = length c.inputs-inputs.result.now in
    let inputs = take_rest c.inputs-2.result.now n
    ∙ ap (λ (l : List ℕ). drop (length l) c.inputs-2.result.now) c.inputs-inputs.ensures.value
    ∙ ap (drop (length c.args.first.now.inputs)) c.inputs-2.ensures.value in
    let latchs = take_rest c.latchs-2.result.now c.args.latches
    ∙ ap (drop c.args.latches) c.latchs-2.ensures.value in
    c.deref-2.ensures.value ∙ c.in_ok-further.ensures
    ∙ (λ i. inputs i ++ latch_leaves (latchs i))

pub name_others-requires : goal.name_others-requires
name_others-requires c =
    let first = c.args.first.now in
    let second = c.args.second.now in
    subst (λ (n : ℕ). All (λ m. m < n) c.deref-2.result.now) (sym c.requires.table)
    (subst (All (λ m. m < length second.nodes)) (sym (further_is c))
    (further-there c.args.latches first second c.inputs.ensures.circuit
    c.inputs-2.ensures.circuit c.requires.can))

pub returns : goal.returns
returns c =
    let first = c.args.first.now in
    let second = c.args.second.now in
    let number = slice_index c.args.numbers.now.table.now in
    let start = names_of c.args.names.now.entries in
    let named : c.deref.result.now ≡ first.inputs ++ latch_leaves first.latchs =
    c.deref.ensures.value ∙ c.in_ok-named.ensures
    ∙ (λ i. c.inputs.ensures.value i ++ latch_leaves (c.latchs.ensures.value i)) in
    let told : (text : List ℕ) → contains_text c.in_ok-taken.taken text ≡ is_taken first text =
    λ text. c.in_ok-taken.ensures text
    ∙ (λ i. is_name_of (c.names.ensures.value i) (named i) text) in
    let same : with_names number (contains_text c.in_ok-taken.taken)
    (names_of c.names-2.result.now.entries) start c.deref-2.result.now
    ≡ with_names number (is_taken first) second.names start
    (further_leaves c.args.latches first second) = λ i. with_names number (λ text. told text i)
    (c.names-2.ensures.value i) start (further_is ((goal.at.returns c).After-deref-2) i) in
    subst (λ m. OnOk c.name_others.result (names_of c.name_others.new.names.entries ≡ m)) same
    c.name_others.ensures
