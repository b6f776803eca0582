-- Sets of numbers.
use Rattle.aig_base.proofs.Words.{◌≡◌, ℕ, Bool, true, false, refl, sym, ◌∙◌, nat_eq, nat_eq_equiv}
use Rattle.std.specs.HashSet.{HashSet, contains}
use Rattle.std.proofs.lemmas.Map.Views.{exact_unsigned_eq, hash_set_contains_iff}
use Rattle.aig_circuit.specs.Renumber.{is_in}
use Rattle.aig_renumber.proofs.Kept.{is_in-back, is_in-there}

-- the set has what is in its list
pub contains-is_in : {S : Type 0} (set : HashSet ℕ S) (n : ℕ)
    → contains nat_eq set n ≡ is_in set.keys n
contains-is_in set n = by (contains nat_eq set n) (is_in set.keys n) refl refl
  where
    by : (a b : Bool) → contains nat_eq set n ≡ a → is_in set.keys n ≡ b
        → contains nat_eq set n ≡ is_in set.keys n
    by true b has is = has ∙ sym (is_in-there set.keys n ((hash_set_contains_iff nat_eq_equiv exact_unsigned_eq set n).0 has))
    by false true has is = (hash_set_contains_iff nat_eq_equiv exact_unsigned_eq set n).1 (is_in-back set.keys n is) ∙ sym is
    by false false has is = has ∙ sym is
