-- The exclusive or and if-then-else by the operands of the inner gates.
use Rattle.aig_base.proofs.Words.{◌≡◌, ◌≢◌, ℕ, Bool, true, false, Option, Some, None, List, sym, ap, subst, ◌∙◌, false≢true}
use Rattle.std.specs.Prelude.{◌↔◌, IsTrue, MatchOption, unwrap_or}
use Rattle.aig_circuit.specs.declared.edge.AigEdge.{AigEdge}
use Rattle.aig_circuit.specs.declared.node.AigNodeType.TheVariants.{And}
use Rattle.aig_circuit.specs.declared.node.AigNode.{AigNode}
use Rattle.aig_circuit.proofs.Words.{inverse, kind_at}
use Rattle.aig_circuit.proofs.Joining.{inverse_twice}
use Rattle.aig_cnf.specs.declared.form.Form.{Form}
use Rattle.aig_cnf.specs.declared.form.Form.TheVariants.{AndOf, XorOf, IteOf}
use Rattle.aig_cnf.specs.Cnf.{HasForm, xor, ite, other, IsXor, IsIte, Inner, Chooses, by_0_0, by_0_1, by_1_0, by_1_1}
use Rattle.aig_cnf.specs.Patterns.{AreOpposite, AreApart, HasPattern, is_xor, is_ite}
use Rattle.aig_cnf.proofs.Unique.{operands_unique, of_operands, chooses_unique}

-- with opposite operands it is an exclusive or
pub IsXor-from : (nodes : List AigNode) (a b p0 p1 q0 q1 : AigEdge) → Inner nodes a p0 p1
    → Inner nodes b q0 q1 → AreOpposite p0 p1 q0 q1 → IsXor nodes a b p0 p1
IsXor-from nodes a b p0 p1 q0 q1 i j o = record {
  first = i;
  second = of_operands (Inner nodes b) q0 q1 (inverse p0) (inverse p1) (sym (ap inverse o.first ∙ inverse_twice q0), sym (ap inverse o.second ∙ inverse_twice q1)) j;
  different = o.different;
}

-- and an exclusive or has opposite operands
pub AreOpposite-from : (nodes : List AigNode) (a b p0 p1 q0 q1 x y : AigEdge) → Inner nodes a p0 p1
    → Inner nodes b q0 q1 → IsXor nodes a b x y → AreOpposite p0 p1 q0 q1
AreOpposite-from nodes a b p0 p1 q0 q1 x y i j f =
    let left = operands_unique nodes a.node_id x y p0 p1 f.first.gate i.gate in
    let right = operands_unique nodes b.node_id (inverse x) (inverse y) q0 q1 f.second.gate j.gate in record {
      first = sym left.0 ∙ sym (inverse_twice x) ∙ ap inverse right.0;
      second = sym left.1 ∙ sym (inverse_twice y) ∙ ap inverse right.1;
      different = of_operands (λ (u w : AigEdge). u.node_id ≢ w.node_id) x y p0 p1 left f.different;
    }

pub IsIte-from : (nodes : List AigNode) (a b p0 p1 q0 q1 c t e : AigEdge) → Inner nodes a p0 p1
    → Inner nodes b q0 q1 → Chooses p0 p1 q0 q1 c t e → AreApart c t e → IsIte nodes a b c t e
IsIte-from nodes a b p0 p1 q0 q1 c t e i j chooses apart = record {
  p0 = p0;
  p1 = p1;
  q0 = q0;
  q1 = q1;
  first = i;
  second = j;
  chooses = chooses;
  c_t = apart.c_t;
  c_e = apart.c_e;
  t_e = apart.t_e;
}

pub Chooses-from : (nodes : List AigNode) (a b p0 p1 q0 q1 c t e : AigEdge) → Inner nodes a p0 p1
    → Inner nodes b q0 q1 → IsIte nodes a b c t e → Chooses p0 p1 q0 q1 c t e
Chooses-from nodes a b p0 p1 q0 q1 c t e i j f =
    let left = operands_unique nodes a.node_id f.p0 f.p1 p0 p1 f.first.gate i.gate in
    let right = operands_unique nodes b.node_id f.q0 f.q1 q0 q1 f.second.gate j.gate in
    of_operands (λ u w. Chooses u w q0 q1 c t e) f.p0 f.p1 p0 p1 left (of_operands (λ u w. Chooses f.p0 f.p1 u w c t e) f.q0 f.q1 q0 q1 right f.chooses)

-- edges that are chosen are apart only where those that the test chose are
apart_as_chosen : (c t e c' t' e' : AigEdge) → IteOf c t e ≡ IteOf c' t' e' → AreApart c' t' e'
    → AreApart c t e
apart_as_chosen c t e c' t' e' same apart =
    let first : c' ≡ c = cc in
    let second : t' ≡ t = cc in
    let third : e' ≡ e = cc in
    subst (λ (u : AigEdge). AreApart u t e) first (subst (λ (u : AigEdge). AreApart c' u e) second (subst (λ (u : AigEdge). AreApart c' t' u) third apart))

pub not_apart : (p0 p1 q0 q1 c t e : AigEdge) → Chooses p0 p1 q0 q1 c t e → ¬ AreApart c t e
    → (c' t' e' : AigEdge) → Chooses p0 p1 q0 q1 c' t' e' → ¬ AreApart c' t' e'
not_apart p0 p1 q0 q1 c t e chooses none c' t' e' also apart = none (apart_as_chosen c t e c' t' e' (chooses_unique p0 p1 q0 q1 c t e c' t' e' chooses also) apart)

-- what a test that fails tests for isn't so
pub fails : {P : Type 0} {test : Bool} → IsTrue test ↔ P → test ≡ false → ¬ P
fails tells off holds = false≢true (sym off ∙ tells.1 holds)

-- nothing is chosen where no edge of the one pair is the inverse of one of the other
pub none_chosen : (p0 p1 q0 q1 : AigEdge) → p0 ≢ inverse q0 → p0 ≢ inverse q1 → p1 ≢ inverse q0
    → p1 ≢ inverse q1 → (c t e : AigEdge) → ¬ Chooses p0 p1 q0 q1 c t e
none_chosen p0 p1 q0 q1 n00 n01 n10 n11 _ _ _ (by_0_0 h) = n00 h
none_chosen p0 p1 q0 q1 n00 n01 n10 n11 _ _ _ (by_0_1 _ h) = n01 h
none_chosen p0 p1 q0 q1 n00 n01 n10 n11 _ _ _ (by_1_0 _ _ h) = n10 h
none_chosen p0 p1 q0 q1 n00 n01 n10 n11 _ _ _ (by_1_1 _ _ _ h) = n11 h

-- there is no pattern where the one edge names no inner gate
pub no_first : (nodes : List AigNode) (a b : AigEdge) → ((p q : AigEdge) → ¬ Inner nodes a p q)
    → (form : Form) → ¬ HasPattern nodes a b form
no_first nodes a b none _ (is_xor {x = x} {y = y} f) = none x y f.first
no_first nodes a b none _ (is_ite _ f) = none f.p0 f.p1 f.first

-- nor where the other names none
pub no_second : (nodes : List AigNode) (a b : AigEdge) → ((p q : AigEdge) → ¬ Inner nodes b p q)
    → (form : Form) → ¬ HasPattern nodes a b form
no_second nodes a b none _ (is_xor {x = x} {y = y} f) = none (inverse x) (inverse y) f.second
no_second nodes a b none _ (is_ite _ f) = none f.q0 f.q1 f.second

-- there is no pattern where neither test succeeds
pub no_pattern : (nodes : List AigNode) (a b p0 p1 q0 q1 : AigEdge) → Inner nodes a p0 p1
    → Inner nodes b q0 q1 → ¬ AreOpposite p0 p1 q0 q1
    → ((c t e : AigEdge) → Chooses p0 p1 q0 q1 c t e → ¬ AreApart c t e) → (form : Form)
    → ¬ HasPattern nodes a b form
no_pattern nodes a b p0 p1 q0 q1 i j not_xor not_apart _ (is_xor {x = x} {y = y} f) = not_xor (AreOpposite-from nodes a b p0 p1 q0 q1 x y i j f)
no_pattern nodes a b p0 p1 q0 q1 i j not_xor not_apart _ (is_ite {c = c} {t = t} {e = e} _ f) =
    not_apart c t e (Chooses-from nodes a b p0 p1 q0 q1 c t e i j f) (record { c_t = f.c_t; c_e = f.c_e; t_e = f.t_e })

-- a gate's form by its pattern
HasForm-pattern : (nodes : List AigNode) (optimize : Bool) (n : ℕ) (a b : AigEdge) (form : Form)
    → kind_at nodes n ≡ Some (And a b) → optimize ≡ true → HasPattern nodes a b form
    → HasForm nodes optimize n form
HasForm-pattern nodes optimize n a b _ is on (is_xor f) = xor is on f
HasForm-pattern nodes optimize n a b _ is on (is_ite no_xor f) = ite is on no_xor f

HasForm-none : (nodes : List AigNode) (optimize : Bool) (n : ℕ) (a b : AigEdge)
    → kind_at nodes n ≡ Some (And a b) → optimize ≡ true
    → ((form : Form) → ¬ HasPattern nodes a b form) → HasForm nodes optimize n (AndOf a b)
HasForm-none nodes optimize n a b is on none =
    let no_xor : (x y : AigEdge) → ¬ IsXor nodes a b x y = λ x y f. none (XorOf x y) (is_xor f) in
    other is on no_xor (λ c t e f. none (IteOf c t e) (is_ite no_xor f))

-- the form is that of the pattern if there is one, and else the and of the operands
pub HasForm-or : (nodes : List AigNode) (optimize : Bool) (n : ℕ) (a b : AigEdge) (o : Option Form)
    → kind_at nodes n ≡ Some (And a b) → optimize ≡ true
    → MatchOption o ((form : Form) → ¬ HasPattern nodes a b form) (HasPattern nodes a b)
    → HasForm nodes optimize n (unwrap_or o (AndOf a b))
HasForm-or nodes optimize n a b (Some form) is on has = HasForm-pattern nodes optimize n a b form is on has
HasForm-or nodes optimize n a b None is on none = HasForm-none nodes optimize n a b is on none
