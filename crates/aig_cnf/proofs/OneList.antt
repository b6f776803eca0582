-- A circuit has one list of clauses.
use Rattle.aig_base.proofs.Words.{◌≡◌, ◌≢◌, ◌<◌, ℕ, Bool, true, false, Some, List, [], ◌∷◌, get_or, eqb, refl, sym, ap, subst, ◌∙◌, arith, inl, inr, length, same_lists, cases_eq, get_or_from_slice_get, slice_get, slice_get-get_or, Decides-eqb, false≢true}
use Rattle.std.specs.Bool.{Decides}
use Rattle.std.specs.Cmp.Lexicographic.{pointwise}
use Rattle.std.proofs.lemmas.Slice.Eq.{slice_eq-Decides}
use Rattle.aig_base.specs.Clauses.{lit_to}
use Rattle.aig_base.specs.declared.logic.literal.Lit.{Lit}
use Rattle.aig_circuit.proofs.Words.{Circuit, roots_of}
use Rattle.aig_cnf.specs.declared.form.Form.{Form}
use Rattle.aig_cnf.specs.Cnf.{HasClauses, HasForm, NeedsClauses, clauses_of}

-- literals are the same where their numbers are
abbrev same_code : Lit → Lit → Bool
same_code a b = eqb a.code b.code

lits : (a b : Lit) → Decides (same_code a b) (a ≡ b)
lits a b = let d = Decides-eqb a.code b.code in (λ t. ap (λ (n : ℕ). record a { code = n }) (d.0 t), λ q. d.1 (ap (λ (l : Lit). l.code) q))

-- lists of clauses are the same where that is not refuted
clauses_stable : (xs ys : List (List Lit)) → ¬ ¬ (xs ≡ ys) → xs ≡ ys
clauses_stable xs ys h = by (pointwise (pointwise same_code) xs ys) refl
  where
    decides : Decides (pointwise (pointwise same_code) xs ys) (xs ≡ ys)
    decides = slice_eq-Decides (λ (a b : List Lit). slice_eq-Decides lits a b (pointwise same_code a b) refl) xs ys _ refl

    by : (r : Bool) → pointwise (pointwise same_code) xs ys ≡ r → xs ≡ ys
    by true is = decides.0 is
    by false is = absurd (h (λ q. false≢true (sym is ∙ decides.1 q)))

pub one_list : (c : Circuit) (optimize : Bool) (lists others : List (List (List Lit)))
    → HasClauses c optimize lists → HasClauses c optimize others → lists ≡ others
one_list c optimize lists others has too = same_lists lists others (has.count ∙ sym too.count) each
  where
    at_0 : (ls : List (List (List Lit))) → HasClauses c optimize ls → (n : ℕ) → n ≡ 0
        → slice_get ls n ≡ Some ((lit_to 0 false ∷ []) ∷ [])
    at_0 ls is n e = subst (λ m. slice_get ls m ≡ Some ((lit_to 0 false ∷ []) ∷ [])) (sym e) is.zero

    both : (n : ℕ) (d : List (List Lit)) → n < length lists → n < length others
        → get_or lists n d ≡ get_or others n d
    both n d h l = elim (cases_eq n 0) [
      | inl e ↦ get_or_from_slice_get lists n _ d (at_0 lists has n e) ∙ sym (get_or_from_slice_get others n _ d (at_0 others too n e))
      | inr ne ↦ clauses_stable (get_or lists n d) (get_or others n d) (λ no.
          let none : (form : Form) → ¬ (NeedsClauses c.nodes optimize (roots_of c) n × HasForm c.nodes optimize n form) =
          λ form p. no (get_or_from_slice_get lists n (clauses_of n form) d (has.needed n form p.0 p.1) ∙ sym (get_or_from_slice_get others n (clauses_of n form) d (too.needed n form p.0 p.1))) in
          no (has.none n (get_or lists n d) ne none (slice_get-get_or lists n d h) ∙ sym (too.none n (get_or others n d) ne none (slice_get-get_or others n d l))))
    ]

    each : (k : ℕ) (d : List (List Lit)) → k < length lists → get_or lists k d ≡ get_or others k d
    each k d h = both k d h (omega (arith, has.count, too.count))
