-- Wrong results, of which the definitions are false.
use Rattle.std.proofs.Common.{◌≡◌, ◌≢◌, ◌≤◌, ◌^◌, ℕ, Bool, false, Some, Ok, IfOk, List, [], length, slice_get, sym, ap, subst, ◌∙◌, arith}
use Rattle.aig_answers.proofs.Words.{Contains, Contains-get_or, get_or_from_slice_get, slice_get_within, Lbool, NoBad, solution_in, Place, BoundedClauses, Named, AreSolution, AsksBounded, IsAskedWithin, RefusesAnswer, IsNamed, leaf_of}
use Rattle.aig_circuit.proofs.Words.{Circuit, lists_circuit}
use Rattle.aig_format.specs.File.{File}

-- a file without bad literals, of which nothing is asked
no_bads : (limit : ℕ) (bytes : List ℕ) (f : File) → f.properties.bads ≡ []
    → ¬ IsAskedWithin limit bytes f
no_bads limit bytes f none asked = asked.1 none

-- clauses without the one that the output is true: any assignment of node values satisfies them
no_bare_clauses : (f : File) (k : ℕ) (optimize : Bool) (made : BoundedClauses)
    → AsksBounded f k optimize made → made.extra ≢ []
no_bare_clauses f k optimize made is none =
    let count : length made.extra ≡ 1 = ap length is.exact in
    omega (arith, count, ap length none)

-- a question with a latch
no_latch : (f : File) (k : ℕ) (optimize : Bool) (made : BoundedClauses)
    → AsksBounded f k optimize made → length (lists_circuit made.question.circuit).latchs ≢ 1
no_latch f k optimize made is one =
    let count : length (lists_circuit made.question.circuit).latchs ≡ 0 = ap length is.asks.latchs
    in
    omega (arith, count, one)

-- a question with two outputs
no_second_output : (f : File) (k : ℕ) (optimize : Bool) (made : BoundedClauses)
    → AsksBounded f k optimize made
    → length (lists_circuit made.question.circuit).properties.outputs ≢ 2
no_second_output f k optimize made is two =
    let count : length (lists_circuit made.question.circuit).properties.outputs ≡ 1 = ap (λ p.
    length p.outputs) is.asks.properties in
    omega (arith, count, two)

-- a latch's leaf named as an input
no_input_name : (c : Circuit) (p : Place) (name : Named) → name.is_latch ≡ false
    → ¬ Contains c.inputs p.leaf → ¬ IsNamed c p name
no_input_name c p name input none named =
    let found : slice_get c.inputs name.number ≡ Some p.leaf = subst (λ b. leaf_of c b name.number
    ≡ Some p.leaf) input named.1 in
    let low = slice_get_within c.inputs name.number p.leaf found in
    none (subst (Contains c.inputs) (get_or_from_slice_get c.inputs name.number p.leaf 0 found)
    (Contains-get_or c.inputs name.number 0 low))

-- a solution of clauses that is refused as none, where a witness can name each bad literal
no_refused_solution : (bytes : List ℕ) (failed : Bool) (bads : ℕ) (made : BoundedClauses)
    (values : List Lbool) → bads ≤ 2 ^ 32 → solution_in (length made.clauses) bytes ≡ Ok values
    → AreSolution made values → ¬ RefusesAnswer (Some bytes) failed bads made NoBad
no_refused_solution bytes failed bads made values few said holds refused =
    refused.2 few (subst (λ r. IfOk r (AreSolution made)) (sym said ∙ refused.1.1) holds)
