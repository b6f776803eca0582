-- A gate has one form at the most.
use Rattle.std.proofs.Common.{◌≡◌, ℕ, Bool, true, false, Some, List, refl, ap, subst, ◌∙◌}
use Rattle.aig_circuit.specs.declared.edge.AigEdge.{AigEdge}
use Rattle.aig_circuit.specs.declared.node.AigNodeType.TheVariants.{And}
use Rattle.aig_circuit.specs.declared.node.AigNode.{AigNode}
use Rattle.aig_circuit.specs.Node.{kind_at}
use Rattle.aig_cnf.specs.declared.form.Form.{Form}
use Rattle.aig_cnf.specs.declared.form.Form.TheVariants.{AndOf, XorOf, IteOf}
use Rattle.aig_cnf.specs.Cnf.{HasForm, plain, xor, ite, other, IsXor, IsIte, Chooses, by_0_0, by_0_1, by_1_0, by_1_1}

pub operands_unique : (nodes : List AigNode) (n : ℕ) (a b c d : AigEdge) → kind_at nodes n ≡ Some (And a b) → kind_at nodes n ≡ Some (And c d) → (a ≡ c) × (b ≡ d)
operands_unique nodes n a b c d p q = (cc, cc)

-- facts on two operands hold of equal ones
pub of_operands : (P : AigEdge → AigEdge → Type 0) (a b c d : AigEdge) → (a ≡ c) × (b ≡ d) → P a b → P c d
of_operands P a b c d same h = subst (λ (x : AigEdge). P x d) same.0 (subst (P a) same.1 h)

same_and : (a b c d : AigEdge) → (a ≡ c) × (b ≡ d) → AndOf a b ≡ AndOf c d
same_and a b c d same = ap (λ (x : AigEdge). AndOf x b) same.0 ∙ ap (AndOf c) same.1

same_xor : (a b c d : AigEdge) → (a ≡ c) × (b ≡ d) → XorOf a b ≡ XorOf c d
same_xor a b c d same = ap (λ (x : AigEdge). XorOf x b) same.0 ∙ ap (XorOf c) same.1

pub chooses_unique : (p0 p1 q0 q1 c t e c' t' e' : AigEdge) → Chooses p0 p1 q0 q1 c t e → Chooses p0 p1 q0 q1 c' t' e' → IteOf c t e ≡ IteOf c' t' e'
chooses_unique p0 p1 q0 q1 _ _ _ _ _ _ (by_0_0 _) (by_0_0 _) = refl
chooses_unique p0 p1 q0 q1 _ _ _ _ _ _ (by_0_0 h) (by_0_1 n _) = absurd (n h)
chooses_unique p0 p1 q0 q1 _ _ _ _ _ _ (by_0_0 h) (by_1_0 n _ _) = absurd (n h)
chooses_unique p0 p1 q0 q1 _ _ _ _ _ _ (by_0_0 h) (by_1_1 n _ _ _) = absurd (n h)
chooses_unique p0 p1 q0 q1 _ _ _ _ _ _ (by_0_1 n _) (by_0_0 h) = absurd (n h)
chooses_unique p0 p1 q0 q1 _ _ _ _ _ _ (by_0_1 _ _) (by_0_1 _ _) = refl
chooses_unique p0 p1 q0 q1 _ _ _ _ _ _ (by_0_1 _ h) (by_1_0 _ n _) = absurd (n h)
chooses_unique p0 p1 q0 q1 _ _ _ _ _ _ (by_0_1 _ h) (by_1_1 _ n _ _) = absurd (n h)
chooses_unique p0 p1 q0 q1 _ _ _ _ _ _ (by_1_0 n _ _) (by_0_0 h) = absurd (n h)
chooses_unique p0 p1 q0 q1 _ _ _ _ _ _ (by_1_0 _ n _) (by_0_1 _ h) = absurd (n h)
chooses_unique p0 p1 q0 q1 _ _ _ _ _ _ (by_1_0 _ _ _) (by_1_0 _ _ _) = refl
chooses_unique p0 p1 q0 q1 _ _ _ _ _ _ (by_1_0 _ _ h) (by_1_1 _ _ n _) = absurd (n h)
chooses_unique p0 p1 q0 q1 _ _ _ _ _ _ (by_1_1 n _ _ _) (by_0_0 h) = absurd (n h)
chooses_unique p0 p1 q0 q1 _ _ _ _ _ _ (by_1_1 _ n _ _) (by_0_1 _ h) = absurd (n h)
chooses_unique p0 p1 q0 q1 _ _ _ _ _ _ (by_1_1 _ _ n _) (by_1_0 _ _ h) = absurd (n h)
chooses_unique p0 p1 q0 q1 _ _ _ _ _ _ (by_1_1 _ _ _ _) (by_1_1 _ _ _ _) = refl

xor_unique : (nodes : List AigNode) (a b x y x' y' : AigEdge) → IsXor nodes a b x y → IsXor nodes a b x' y' → XorOf x y ≡ XorOf x' y'
xor_unique nodes a b x y x' y' f g = same_xor x y x' y' (operands_unique nodes a.node_id x y x' y' f.first.gate g.first.gate)

ite_unique : (nodes : List AigNode) (a b c t e c' t' e' : AigEdge) → IsIte nodes a b c t e → IsIte nodes a b c' t' e' → IteOf c t e ≡ IteOf c' t' e'
ite_unique nodes a b c t e c' t' e' f g =
    let left = operands_unique nodes a.node_id f.p0 f.p1 g.p0 g.p1 f.first.gate g.first.gate in
    let right = operands_unique nodes b.node_id f.q0 f.q1 g.q0 g.q1 f.second.gate g.second.gate in
    let moved = of_operands (λ p0 p1. Chooses p0 p1 g.q0 g.q1 c t e) f.p0 f.p1 g.p0 g.p1 left (of_operands (λ q0 q1. Chooses f.p0 f.p1 q0 q1 c t e) f.q0 f.q1 g.q0 g.q1 right f.chooses) in
    chooses_unique g.p0 g.p1 g.q0 g.q1 c t e c' t' e' moved g.chooses

plain_or_not : (b : Bool) → b ≡ false → b ≡ true → ⊥
plain_or_not b p q = cc

pub form_unique : (nodes : List AigNode) (optimize : Bool) (n : ℕ) (f g : Form) → HasForm nodes optimize n f → HasForm nodes optimize n g → f ≡ g
form_unique nodes o n _ _ (plain {a = a} {b = b} p _) (plain {a = c} {b = d} q _) = same_and a b c d (operands_unique nodes n a b c d p q)
form_unique nodes o n _ _ (plain _ p) (xor _ q _) = absurd (plain_or_not o p q)
form_unique nodes o n _ _ (plain _ p) (ite _ q _ _) = absurd (plain_or_not o p q)
form_unique nodes o n _ _ (plain _ p) (other _ q _ _) = absurd (plain_or_not o p q)
form_unique nodes o n _ _ (xor _ q _) (plain _ p) = absurd (plain_or_not o p q)
form_unique nodes o n _ _ (xor {a = a} {b = b} {x = x} {y = y} p _ f) (xor {a = c} {b = d} {x = x'} {y = y'} q _ g) =
    xor_unique nodes c d x y x' y' (of_operands (λ u w. IsXor nodes u w x y) a b c d (operands_unique nodes n a b c d p q) f) g
form_unique nodes o n _ _ (xor {a = a} {b = b} {x = x} {y = y} p _ f) (ite {a = c} {b = d} q _ none _) =
    absurd (none x y (of_operands (λ u w. IsXor nodes u w x y) a b c d (operands_unique nodes n a b c d p q) f))
form_unique nodes o n _ _ (xor {a = a} {b = b} {x = x} {y = y} p _ f) (other {a = c} {b = d} q _ none _) =
    absurd (none x y (of_operands (λ u w. IsXor nodes u w x y) a b c d (operands_unique nodes n a b c d p q) f))
form_unique nodes o n _ _ (ite _ q _ _) (plain _ p) = absurd (plain_or_not o p q)
form_unique nodes o n _ _ (ite {a = a} {b = b} p _ none _) (xor {a = c} {b = d} {x = x} {y = y} q _ g) =
    absurd (none x y (of_operands (λ u w. IsXor nodes u w x y) c d a b (operands_unique nodes n c d a b q p) g))
form_unique nodes o n _ _ (ite {a = a} {b = b} {c = c} {t = t} {e = e} p _ _ f) (ite {a = a'} {b = b'} {c = c'} {t = t'} {e = e'} q _ _ g) =
    ite_unique nodes a' b' c t e c' t' e' (of_operands (λ u w. IsIte nodes u w c t e) a b a' b' (operands_unique nodes n a b a' b' p q) f) g
form_unique nodes o n _ _ (ite {a = a} {b = b} {c = c} {t = t} {e = e} p _ _ f) (other {a = a'} {b = b'} q _ _ none) =
    absurd (none c t e (of_operands (λ u w. IsIte nodes u w c t e) a b a' b' (operands_unique nodes n a b a' b' p q) f))
form_unique nodes o n _ _ (other _ q _ _) (plain _ p) = absurd (plain_or_not o p q)
form_unique nodes o n _ _ (other {a = a} {b = b} p _ none _) (xor {a = c} {b = d} {x = x} {y = y} q _ g) =
    absurd (none x y (of_operands (λ u w. IsXor nodes u w x y) c d a b (operands_unique nodes n c d a b q p) g))
form_unique nodes o n _ _ (other {a = a} {b = b} p _ _ none) (ite {a = a'} {b = b'} {c = c} {t = t} {e = e} q _ _ g) =
    absurd (none c t e (of_operands (λ u w. IsIte nodes u w c t e) a' b' a b (operands_unique nodes n a' b' a b q p) g))
form_unique nodes o n _ _ (other {a = a} {b = b} p _ _ _) (other {a = c} {b = d} q _ _ _) = same_and a b c d (operands_unique nodes n a b c d p q)
