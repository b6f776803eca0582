use Rattle.aig_base.proofs.Words.{◌≡◌, ◌<◌, ◌^◌, ◌++◌, ◌∷◌, [], ℕ, ◌+◌, List, length, ap, ◌∙◌, arith, All-push}
use Rattle.std.specs.List.{All}
use Rattle.std.proofs.lemmas.List.{length-append}
use Rattle.std.proofs.lemmas.List.Sums.{sum_by-append}
use Rattle.aig_base.specs.declared.logic.literal.Lit.{Lit}
use Rattle.aig_base.specs.Clauses.{AreBelow, AreRelations, IsCount}
use Rattle.aig_base.proofs.logic.dag.DagCnf.new_var.Goals as goal

-- with one more variable, which has no clause, they are lists of so many variables
related : (lists : List (List (List Lit))) → length lists < 2 ^ 31 → AreRelations lists
    → AreRelations (lists ++ [] ∷ [])
related lists lt h =
    let more : length (lists ++ [] ∷ []) ≡ length lists + 1 = length-append lists ([] ∷ []) in
    let wider : All (AreBelow (length (lists ++ [] ∷ []))) lists = λ k list at i clause there j lit in_clause. omega (arith, more, h.below k list at i clause there j lit in_clause) in
    record {
      some = omega (arith, more);
      few = omega (arith, more);
      below = All-push (AreBelow (length (lists ++ [] ∷ []))) lists [] wider (λ i clause none. absurd (omega arith));
    }

-- and have so many clauses
counted : (lists : List (List (List Lit))) (count : ℕ) → IsCount lists count
    → IsCount (lists ++ [] ∷ []) count
counted lists count h = record { sum = omega (arith, h.sum, sum_by-append length lists ([] ∷ [])); few = h.few }

pub invariant_of-self-2 : goal.invariant_of-self-2
invariant_of-self-2 c =
    let lists = c.self.inside.relations.items in
    let more : c.push.new.self.items ≡ lists ++ [] ∷ [] = c.in_ok-push.ensures.items ∙ ap (λ list. lists ++ list ∷ []) c.new.ensures in
    let lt : length lists < 2 ^ 31 = omega (arith, ap length c.self.view_is, c.requires) in
    rw more (related lists lt c.self.invariant.0, counted lists c.self.inside.clauses c.self.invariant.1)

pub returns-clause-ok : goal.returns-clause-ok
returns-clause-ok c =
    c.in_ok-push.ensures.items
    ∙ ap (λ list. c.self.inside.relations.items ++ list ∷ []) c.new.ensures
    ∙ ap (λ lists. lists ++ [] ∷ []) c.self.view_is
