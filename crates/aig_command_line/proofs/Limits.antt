-- Words give one limit, and one list of other words.
use Rattle.aig_base.proofs.Words.{◌≡◌, ℕ, List, [], ◌∷◌, sym, ap, ◌∙◌, inl, inr}
use Rattle.aig_format.specs.Text.{value_of}
use Rattle.aig_command_line.specs.declared.help.Help.{Help}
use Rattle.aig_command_line.specs.Help.{word_of}
use Rattle.aig_command_line.specs.Limits.{IsGivenLimit, IsLimited}

same_given : (words : List (List ℕ)) (m n : ℕ) (r s : List (List ℕ)) → IsGivenLimit words m r
    → IsGivenLimit words n s
    → (m ≡ n) × (r ≡ s)
same_given words m n r s g h =
    let are = sym g.spelled ∙ h.spelled in
    let word : g.word ≡ h.word = cc in
    let rest : r ≡ s = cc in
    (sym g.number.value ∙ ap value_of word ∙ h.number.value, rest)

pub one_limit : (words : List (List ℕ)) (m n : ℕ) (r s : List (List ℕ)) → IsLimited words m r
    → IsLimited words n s
    → (m ≡ n) × (r ≡ s)
one_limit words m n r s (inl g) (inl h) = same_given words m n r s g h
one_limit words m n r s (inl g) (inr h) = absurd (h.other _ g.spelled)
one_limit words m n r s (inr g) (inl h) = absurd (g.other _ h.spelled)
one_limit words m n r s (inr g) (inr h) = (g.usual ∙ sym h.usual, g.all ∙ sym h.all)

-- a question gives no other words than itself
pub asked_alone : (words rest : List (List ℕ)) (q : Help) (limit : ℕ)
    → words ≡ word_of q ∷ [] → IsLimited words limit rest
    → rest ≡ word_of q ∷ []
asked_alone words rest q limit are (inl g) = let same = sym are ∙ g.spelled in cc
asked_alone words rest q limit are (inr g) = g.all ∙ are
