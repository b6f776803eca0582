-- Pieces that are put into a text from its end on, one in front of another.
use Rattle.std.proofs.Common.{◌≡◌, ℕ, List, [], ◌∷◌, ◌++◌, drop, sym, ap, ◌∙◌, append-nil, append_assoc}
use Rattle.aig_base.specs.declared.logic.literal.Lit.{Lit}
use Rattle.aig_dimacs.specs.Circuit.{Puts}
use Rattle.aig_dimacs.specs.Text.{clause_line, literal_text}

pub puts_then : {a b c : List ℕ} {e s r : ℕ} {t u : List ℕ} → Puts a e b s t → Puts b s c r u
    → Puts a e c r (u ++ t)
puts_then {a} {b} {c} {e} {s} {r} {t} {u} first second = record { text = second.text ∙ ap (λ l. u ++ l) first.text ∙ sym (append_assoc u t (drop e a)) }

-- the line of two literals, in pieces
pub pair_line : (a b : Lit)
    → clause_line (a ∷ b ∷ []) ≡ literal_text a ++ (literal_text b ++ 48 ∷ 10 ∷ [])
unfolding clause_line
pair_line a b =
    ap (λ l. (literal_text a ++ l) ++ 48 ∷ 10 ∷ []) (append-nil (literal_text b)) ∙ append_assoc (literal_text a) (literal_text b) (48 ∷ 10 ∷ [])

-- that of three
pub triple_line : (a b c : Lit)
    → clause_line (a ∷ b ∷ c ∷ []) ≡ literal_text a ++ (literal_text b ++ (literal_text c ++ 48 ∷ 10 ∷ []))
unfolding clause_line
triple_line a b c =
    ap (λ l. (literal_text a ++ (literal_text b ++ l)) ++ 48 ∷ 10 ∷ []) (append-nil (literal_text c))
    ∙ append_assoc (literal_text a) (literal_text b ++ literal_text c) (48 ∷ 10 ∷ [])
    ∙ ap (λ l. literal_text a ++ l) (append_assoc (literal_text b) (literal_text c) (48 ∷ 10 ∷ []))
