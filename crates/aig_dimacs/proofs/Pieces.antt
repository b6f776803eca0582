-- The text of clauses in pieces, and how many there are.
use Rattle.aig_base.proofs.Words.{◌≡◌, ℕ, ◌+◌, ◌^◌, ◌<◌, List, [], ◌∷◌, ◌++◌, length, refl, sym, ap, ◌∙◌, append_assoc, arith, flat_map-append, length-flat_map, All-append, All-from_recursion, All-tail}
use Rattle.std.specs.List.{All, flat_map, sum_by}
use Rattle.std.proofs.lemmas.List.{length-append}
use Rattle.aig_base.specs.declared.logic.literal.Lit.{Lit}
use Rattle.aig_base.specs.Clauses.{AreBelow, AreRelations, variable_of}
use Rattle.aig_output.proofs.Writing.{then_texts}
use Rattle.aig_base.specs.Formula.{clauses_in}
use Rattle.aig_dimacs.specs.Text.{IsFormula, clause_line}

lists_lines : (lists : List (List (List Lit))) → flat_map clause_line (clauses_in lists) ≡ flat_map (flat_map clause_line) lists
lists_lines [] = refl
lists_lines (clauses ∷ lists) = flat_map-append clause_line clauses (clauses_in lists) ∙ ap (λ l. flat_map clause_line clauses ++ l) (lists_lines lists)

-- the lines of the variables' clauses, and those of the further ones
line_pieces : (lists : List (List (List Lit))) (extra : List (List Lit)) → flat_map clause_line (clauses_in lists ++ extra) ≡ flat_map (flat_map clause_line) lists ++ flat_map clause_line extra
line_pieces lists extra = flat_map-append clause_line (clauses_in lists) extra ∙ ap (λ l. l ++ flat_map clause_line extra) (lists_lines lists)

-- after the header line
pub text_pieces : (header : List ℕ) (lists : List (List (List Lit))) (extra : List (List Lit))
    → header ++ flat_map clause_line (clauses_in lists ++ extra) ≡ then_texts header (flat_map (flat_map clause_line) lists ∷ flat_map clause_line extra ∷ [])
text_pieces header lists extra = ap (λ l. header ++ l) (line_pieces lists extra) ∙ sym (append_assoc header (flat_map (flat_map clause_line) lists) (flat_map clause_line extra))

pub clause_count : (lists : List (List (List Lit))) (extra : List (List Lit)) → length (clauses_in lists ++ extra) ≡ sum_by length lists + length extra
clause_count lists extra = length-append (clauses_in lists) extra ∙ ap (λ n. n + length extra) (length-flat_map (λ clauses. clauses) lists)

-- ---- clauses of variables that are there

pub all_below : (n : ℕ) (lists : List (List (List Lit))) → All (AreBelow n) lists → AreBelow n (clauses_in lists)
all_below n [] h = All-from_recursion (λ clause. All (λ lit. variable_of lit < n) clause) [] tt
all_below n (clauses ∷ lists) h =
    All-append (λ clause. All (λ lit. variable_of lit < n) clause) clauses (clauses_in lists) (h 0 clauses (omega arith)) (all_below n lists (All-tail (AreBelow n) clauses lists h))

pub IsFormula-from : (lists : List (List (List Lit))) (extra : List (List Lit)) (count : ℕ) → AreRelations lists → AreBelow (length lists) extra → count ≡ sum_by length lists + length extra → count < 2 ^ 64
    → IsFormula (length lists) (clauses_in lists ++ extra)
IsFormula-from lists extra count h below exact low =
    let n = clause_count lists extra in
    record { few = omega (arith, h.few); count = omega arith; below = All-append (λ clause. All (λ lit. variable_of lit < length lists) clause) (clauses_in lists) extra (all_below (length lists) lists h.below) below }
