-- Sums of bytes that came in pieces, and of all that were there.
use Rattle.aig_check_commands.proofs.Words.{◌≡◌, ℕ, Bool, true, false, List, [], ◌++◌, Option, None, Some, Appends, Consumes, Consumes-whole, subst, ◌∙◌, sym, ∥∥₁_elim, IsAtEnd, IsSum, Sums}
use denote.Struct.Props.{props}
use Rattle.std.proofs.KnownBytes.{Consumes-nil, Consumes-trans}
use Rattle.sha2.specs.Hashers.{Holds256}
use Rattle.sha2.specs.Sha256.{sha256}
use Rattle.sha2.specs.declared.Sha256.{Sha256}

-- no byte came
pub begun : (start left : Option (List ℕ)) (failed : Bool) (hasher : Sha256) → left ≡ start
    → Holds256 hasher [] → Sums start left failed hasher
begun start left failed hasher same holds = record {
  came = [];
  holds = holds;
  now = λ sound. subst (λ old. Consumes old left []) same (Consumes-nil left);
}

-- a further piece came
pub more : (start old new : Option (List ℕ)) (was now : Bool) (hasher after : Sha256)
    (piece : List ℕ) → ((m : List ℕ) → Holds256 hasher m → Holds256 after (m ++ piece))
    → was ≡ false → Consumes old new piece → Sums start old was hasher
    → Sums start new now after
more start old new was now hasher after piece so sound moved sums = record {
  came = sums.came ++ piece;
  holds = so sums.came sums.holds;
  now = λ is. Consumes-trans start old new sums.came piece (sums.now sound) moved;
}

-- a read failed
pub failing : (start old new : Option (List ℕ)) (was now : Bool) (hasher : Sha256) → now ≡ true
    → Sums start old was hasher → Sums start new now hasher
failing start old new was now hasher lost sums = record {
  came = sums.came;
  holds = sums.holds;
  now = λ sound. absurd (no (sym lost ∙ sound));
}
  where
    no : true ≡ false → ⊥
    no is = cc

-- at the end of the source all its bytes were summed
pub whole : (start left : Option (List ℕ)) (failed : Bool) (hasher : Sha256) (sum : List ℕ)
    → failed ≡ false → IsAtEnd left → ((m : List ℕ) → Holds256 hasher m → sum ≡ sha256 m)
    → Sums start left failed hasher → IsSum start sum
whole start left failed hasher sum sound end so sums =
    Consumes-whole start left sums.came (λ bytes. sum ≡ sha256 bytes) (sums.now sound) end
    (so sums.came sums.holds)

-- a sum is one fact at most
pub known_sum : (known : Option (List ℕ)) (sum : List ℕ) → ∥ IsSum known sum ∥₁ → IsSum known sum
known_sum None sum h = tt
known_sum (Some bytes) sum h = ∥∥₁_elim h (search props) (λ e. e)

-- a writer that held nothing holds just the text
pub only_text : (old new : Option (List ℕ)) (text items : List ℕ) → Appends old new text
    → old ≡ Some [] → new ≡ Some items → items ≡ text
only_text old new text items appends none all =
    subst (λ n. Appends (Some []) n text) all (subst (λ o. Appends o new text) none appends)
