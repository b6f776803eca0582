use Rattle.aig_witness_circuits.proofs.Words.{◌≡◌, ◌∙◌, ◌*◌, ◌/◌, ℕ, List, MatchOption, None, Option, Some, ap, arith, refl, subst, sym, node_told, IsLiteralOf}
use Rattle.std.proofs.lemmas.Option.{none-some}
use Rattle.aig_format.specs.Text.{IsNumber}
use Rattle.aig_witness_circuits.proofs.sharing.named.node_of_literal.Goals as goal

-- the node of the variable of an even literal
by_node : (node : ℕ → Option ℕ) (literal : ℕ) (text : List ℕ) → IsNumber literal text
    → literal ≡ 2 * (literal / 2) → (found : Option ℕ) → found ≡ node (literal / 2)
    → MatchOption found ((m : ℕ) → ¬ IsLiteralOf node m text) (λ m. IsLiteralOf node m text)
by_node node literal text is whole None none = λ m of.
    let same : literal ≡ 2 * of.0 = sym is.value ∙ of.1.value in
    let half : literal / 2 ≡ of.0 = omega arith in
    none-some m (none ∙ ap node half ∙ of.2)
by_node node literal text is whole (Some m) some =
    (literal / 2, subst (λ k. IsNumber k text) whole is, sym some)

pub returns-in_default : goal.returns-in_default
returns-in_default c = λ m of.
    none-some (2 * of.0) ((c.in_default.ensures.exact (2 * of.0)).1 of.1)

pub returns-then-literal-eq0 : goal.returns-then-literal-eq0
returns-then-literal-eq0 c =
    let literal = c.in-Some.literal in
    let whole : literal ≡ 2 * (literal / 2) = omega (arith, c.if-literal-eq0.true) in
    by_node (node_told c.args.variables.now) literal c.args.text.now
    ((c.in-Some.ensures.exact literal).0 refl) whole c.node.result c.node.ensures

pub returns-else-literal-eq0 : goal.returns-else-literal-eq0
returns-else-literal-eq0 c = λ m of.
    let literal = c.in-Some.literal in
    let is = (c.in-Some.ensures.exact literal).0 refl in
    let same : literal ≡ 2 * of.0 = sym is.value ∙ of.1.value in
    absurd (omega (arith, c.if-literal-eq0.false, same))
