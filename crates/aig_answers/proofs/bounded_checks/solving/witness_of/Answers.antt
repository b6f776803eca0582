use Rattle.std.proofs.Common.{◌≡◌, ℕ, ◌+◌, List, length, take, sym, ap, subst, ◌∙◌}
use Rattle.aig_answers.proofs.Words.{Vec, take-map, Global, Lbool, AigEdge, Properties, All-from_map, literal_value-lit_of, unit_clauses, Witness, rows_of, said_by, assigned, SaysRun, Begins, IsReached, SaysOnly, WitnessWithin}
use Rattle.aig_circuit.proofs.Words.{lists_circuit}
use Rattle.aig_answers.proofs.Safe.{output_holds}
use Rattle.aig_answers.proofs.Simulated.{known_of_reached}
use Rattle.aig_answers.proofs.Solved.{says_run, solution_reaches}
use Rattle.aig_answers.proofs.bounded_checks.solving.witness_of.Goals as goal

-- the rows of the first lists
truncated : (lists made : List (Vec Lbool Global)) (n : ℕ) → made ≡ take n lists
    → rows_of made ≡ take n (rows_of lists)
truncated lists made n is =
    ap rows_of is ∙ sym (take-map (λ (row : Vec Lbool Global). row.items) n lists)

pub find_bad-requires-clause-inputs : goal.find_bad-requires-clause-inputs
find_bad-requires-clause-inputs c =
    let circuit = lists_circuit c.args.lists.now in
    let run = said_by c.in_ok-run.run' in
    let begun = subst (λ d. Begins d c.args.k run) c.new.ensures c.in_ok-run.ensures.begins in
    All-from_map (λ (row : Vec Lbool Global). row.items) (λ row. length row ≡ length
    circuit.inputs) c.in_ok-run.run'.steps.items begun.inputs

pub returns-in_default-clause-none : goal.returns-in_default-clause-none
returns-in_default-clause-none c = λ few solution.
    let circuit = lists_circuit c.args.lists.now in
    let made = c.args.made.now in
    let run = said_by c.in_ok-run.run' in
    let begun = subst (λ d. Begins d c.args.k run) c.new.ensures c.in_ok-run.ensures.begins in
    let e = c.requires.asks.1 in
    let asks = lists_circuit made.question.circuit in
    let exact = e.encoded.exact ∙ ap (λ (p : Properties AigEdge). unit_clauses p.outputs)
    e.asks.properties in
    let none = subst (IsReached circuit run.state run.steps) c.in_default.is
    c.in_ok-reached.ensures in
    let values = c.args.values.now in
    solution_reaches circuit c.requires.circuit c.requires.closed c.args.k run begun asks e.output
    made.question.places.items made.named.items values e.asks e.named c.in_ok-run.ensures.said
    few none
    (output_holds asks made e.output e.encoded.fixes e.asks.properties exact literal_value-lit_of
    (assigned values) solution)

pub returns-clause-said : goal.returns-clause-said
returns-clause-said c =
    let circuit = lists_circuit c.args.lists.now in
    let made = c.args.made.now in
    let named = made.named.items in
    let asks = lists_circuit made.question.circuit in
    let values = c.args.values.now in
    let run : Witness = said_by c.in_ok-run.run' in
    let begun = subst (λ d. Begins d c.args.k run) c.new.ensures c.in_ok-run.ensures.begins in
    let only = subst (λ d. SaysOnly d named asks.inputs values run) c.new.ensures
    c.in_ok-run.ensures.only in
    let found = c.in-Some.reached in
    let e = c.requires.asks.1 in
    let make : List (List Lbool) → Witness = λ rows. record {
      bad = found.bad;
      state = run.state;
      steps = rows;
    } in
    subst (λ rows. SaysRun circuit asks.inputs made.question.places.items (assigned values) (make
    rows)) (sym (truncated c.in_ok-run.run'.steps.items _ (found.step + 1) c.truncate.ensures.items))
    (says_run circuit c.requires.circuit c.requires.closed c.args.k run begun asks e.output
    made.question.places.items named values e.asks e.named c.in_ok-run.ensures.said only found.bad
    (found.step + 1))

pub returns-clause-known : goal.returns-clause-known
returns-clause-known c =
    let circuit = lists_circuit c.args.lists.now in
    let run : Witness = said_by c.in_ok-run.run' in
    let begun = subst (λ d. Begins d c.args.k run) c.new.ensures c.in_ok-run.ensures.begins in
    let found = c.in-Some.reached in
    let reached = subst (IsReached circuit run.state run.steps) c.in-Some.is
    c.in_ok-reached.ensures in
    let steps = truncated c.in_ok-run.run'.steps.items _ (found.step + 1) c.truncate.ensures.items in
    let made : List (List Lbool) → Witness = λ rows. record {
      bad = found.bad;
      state = run.state;
      steps = rows;
    } in
    subst (λ rows. WitnessWithin circuit c.args.k (made rows)) (sym steps) (known_of_reached
    circuit c.args.k run begun found.step found.bad reached.0 reached.1 reached.2)
