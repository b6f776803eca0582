-- Binary DRAT proofs as they are written, and the steps that are read of them.
use Rattle.aig_base.proofs.Words.{◌≡◌, ℕ, zero, suc, ◌+◌, ◌-◌, ◌*◌, ◌/◌, ◌%◌, ◌^◌, ◌<◌, ◌≤◌, ◌==◌, ◌||◌, nat_lt, Bool, true, false, List, [], ◌∷◌, ◌++◌, length, length-append, map, take, Some, None, Ok, refl, sym, ap, ◌∙◌, append_assoc, append-nil, arith, flat_map, list_any, nat_tests, if◌then◌else◌, AllByRecursion, All, recursion_from_All, lt-ltb, le-ltb, not, ◌&&◌, ne_eqb}
use Rattle.aig_base.specs.declared.logic.literal.Lit.{Lit}
use Rattle.aig_base.specs.Clauses.{is_positive, variable_of}
use Rattle.aig_format.specs.Parse.{parse_delta, parse_groups}
use Rattle.aig_format.specs.Text.{Groups}
use Rattle.aig_format.proofs.Binary.{Reads-delta}
use Rattle.aig_format.proofs.Printed.{delta_written}
use Rattle.aig_refutation.specs.declared.error.RefutationError.TheVariants as errors
use Rattle.aig_refutation.specs.Binary.{binary_script, binary_steps_in, groups_in, literal_said, step_before, with_literal}
use Rattle.aig_refutation.specs.Proofs.{allowed, widened}
use Rattle.aig_refutation.specs.Text.{begins}
use Rattle.aig_refutation.specs.Forms.{Last, Letter, are_steps, has_steps, is_binary, is_numbered, plain_steps_in, steps_in, telling}
use Rattle.aig_refutation.specs.Steps.{PlainStep, Drops, Learns}
use Rattle.aig_refutation.specs.Written.{AreWithin, IsClause, IsPlainStep, binary_text, literal_bytes, step_bytes}
use Rattle.aig_refutation.proofs.Shapes.{binary_unworded, shape_cut}
use Rattle.aig_refutation.proofs.WrittenLines.{lit_to-parts}

-- ---- words

pub groups_in-number : (d : ℕ) (bytes rest : List ℕ) → Groups d bytes → groups_in (bytes ++ rest) ≡ bytes ∷ groups_in rest
unfolding groups_in
groups_in-number d [] rest h = absurd h
groups_in-number d (b ∷ []) rest h = rw (lt-ltb b 128 h.0) refl
groups_in-number d (b ∷ c ∷ bytes) rest h = rw (le-ltb b 128 h.1, groups_in-number h.0 (c ∷ bytes) rest h.3) refl

module _ (variables : ℕ) where
  -- the variable is one that may be named, and the number of the literal has 32 bits
  abbrev pub Fits : Lit → Type 0
  Fits lit = (variable_of lit < variables) × (variable_of lit < 2 ^ 31 - 1)

  pub all_fit : (clause : List Lit) → IsClause variables clause → IsClause (2 ^ 31 - 1) clause → AllByRecursion Fits clause
  all_fit clause named small = recursion_from_All Fits clause (λ k d there. (named k d there, small k d there))

  -- the number of a literal
  abbrev code : Lit → ℕ
  code lit = 2 * (variable_of lit + 1) + (if is_positive lit then 0 else 1)

  code_small : (positive : Bool) (v : ℕ) → v < 2 ^ 31 - 1 → 2 * (v + 1) + (if positive then 0 else 1) < 2 ^ 32
  code_small true v below = omega arith
  code_small false v below = omega arith

  pub groups_in-clause : (clause : List Lit) (rest : List ℕ) → AllByRecursion Fits clause
      → groups_in (flat_map literal_bytes clause ++ 0 ∷ rest) ≡ map literal_bytes clause ++ (0 ∷ []) ∷ groups_in rest
  unfolding groups_in
  groups_in-clause [] rest below = refl
  groups_in-clause (lit ∷ lits) rest below =
      let is = delta_written (code lit) (code_small (is_positive lit) (variable_of lit) below.0.1) in
      ap groups_in (append_assoc (literal_bytes lit) (flat_map literal_bytes lits) (0 ∷ rest))
      ∙ groups_in-number (code lit) (literal_bytes lit) (flat_map literal_bytes lits ++ 0 ∷ rest) is.groups
      ∙ ap (λ words. literal_bytes lit ∷ words) (groups_in-clause lits rest below.1)

  -- ---- literals

  code_parts : (positive : Bool) (v : ℕ) → let c = 2 * (v + 1) + (if positive then 0 else 1) in ((c == 0) ≡ false) × (nat_lt c 2 ≡ false) × ((c % 2 == 0) ≡ positive) × (c / 2 ≡ v + 1)
  code_parts true v = (grind (arith, nat_tests), grind (arith, nat_tests), grind (arith, nat_tests), omega arith)
  code_parts false v = (grind (arith, nat_tests), grind (arith, nat_tests), grind (arith, nat_tests), omega arith)

  pub literal_said-written : (lit : Lit) → Fits lit → literal_said variables (literal_bytes lit) ≡ Ok (Some lit)
  literal_said-written lit below =
      let is = delta_written (code lit) (code_small (is_positive lit) (variable_of lit) below.1) in
      let read : parse_delta (literal_bytes lit) ≡ Some (code lit, []) = ap parse_delta (sym (append-nil (literal_bytes lit))) ∙ Reads-delta.complete (code lit) (literal_bytes lit) [] is in
      let parts = code_parts (is_positive lit) (variable_of lit) in
      rw (read, parts.0, parts.1, parts.2, parts.3, not_zero (variable_of lit), within (variable_of lit) below.0, lit_to-parts lit) refl
    where
      not_zero : (n : ℕ) → (n + 1 == 0) ≡ false
      not_zero n = grind (arith, nat_tests)

      within : (n : ℕ) → n < variables → nat_lt (n + 1 - 1) variables ≡ true
      within n h = grind (arith, nat_tests)

  end_said : literal_said variables (0 ∷ []) ≡ Ok None
  unfolding parse_groups
  end_said = refl

  -- ---- steps

  module _ (step : List Lit → PlainStep) (goes : (clause : List Lit) (lit : Lit) → with_literal (step clause) lit ≡ step (clause ++ lit ∷ [])) where
    script-clause : (clause before : List Lit) (words : List (List ℕ)) → AllByRecursion Fits clause
        → binary_script variables (Some (step before)) (map literal_bytes clause ++ (0 ∷ []) ∷ words) ≡ step_before (step (before ++ clause)) (binary_script (widened variables) None words)
    unfolding binary_script
    script-clause [] before words below = rw (end_said, append-nil before) refl
    script-clause (lit ∷ lits) before words below =
        rw (literal_said-written lit below.0, goes before lit)
        (script-clause lits (before ++ lit ∷ []) words below.1 ∙ ap (λ clause. step_before (step clause) (binary_script (widened variables) None words)) (append_assoc before (lit ∷ []) lits))

  script-step : (step : PlainStep) (rest : List ℕ) → IsPlainStep variables step → IsPlainStep (2 ^ 31 - 1) step
      → binary_script variables None (groups_in (step_bytes step ++ rest)) ≡ step_before step (binary_script (widened variables) None (groups_in rest))
  unfolding binary_script groups_in
  script-step (Learns clause) rest is small =
      let below = all_fit clause is small in
      ap (λ bytes. binary_script variables (Some (Learns [])) (groups_in bytes)) (append_assoc (flat_map literal_bytes clause) (0 ∷ []) rest)
      ∙ ap (binary_script variables (Some (Learns []))) (groups_in-clause clause rest below)
      ∙ script-clause (λ c. Learns c) (λ c lit. refl) clause [] (groups_in rest) below
  script-step (Drops clause) rest is small =
      let below = all_fit clause is small in
      ap (λ bytes. binary_script variables (Some (Drops [])) (groups_in bytes)) (append_assoc (flat_map literal_bytes clause) (0 ∷ []) rest)
      ∙ ap (binary_script variables (Some (Drops []))) (groups_in-clause clause rest below)
      ∙ script-clause (λ c. Drops c) (λ c lit. refl) clause [] (groups_in rest) below

-- ---- the shape of steps

-- a number that isn't 0 doesn't begin with a 0
no_zero_first : (d : ℕ) (bytes : List ℕ) → Groups d bytes → 0 < d → begins 0 bytes ≡ false
no_zero_first d [] h some = absurd h
no_zero_first d (b ∷ []) h some = ne_eqb b 0 (λ none. absurd (omega (arith, h.1, none, some)))
no_zero_first d (b ∷ c ∷ bytes) h some = ne_eqb b 0 (λ none. absurd (omega (arith, h.1, none)))

shape_clause : (clause : List Lit) (words : List (List ℕ))
    → AllByRecursion (λ lit. variable_of lit < 2 ^ 31 - 1) clause
    → are_steps false Last (map literal_bytes clause ++ (0 ∷ []) ∷ words)
    ≡ are_steps false Letter words
unfolding are_steps
shape_clause [] words below = refl
shape_clause (lit ∷ lits) words below =
    let c = code (2 ^ 31) lit in
    let is = delta_written c
    (code_small (2 ^ 31) (is_positive lit) (variable_of lit) below.0) in
    rw (no_zero_first c (literal_bytes lit) is.groups (omega arith))
    (shape_clause lits words below.1)

fit_all : (clause : List Lit) → IsClause (2 ^ 31 - 1) clause → AllByRecursion (Fits (2 ^ 31)) clause
fit_all clause small =
    recursion_from_All (Fits (2 ^ 31)) clause (λ k d there. (omega (arith, small k d there), small k d there))

below_all : (clause : List Lit) → IsClause (2 ^ 31 - 1) clause
    → AllByRecursion (λ lit. variable_of lit < 2 ^ 31 - 1) clause
below_all clause small = recursion_from_All (λ lit. variable_of lit < 2 ^ 31 - 1) clause small

shape_steps : (steps : List PlainStep) → AllByRecursion (IsPlainStep (2 ^ 31 - 1)) steps
    → are_steps false Letter (groups_in (binary_text steps)) ≡ true
unfolding are_steps groups_in
shape_steps [] small = refl
shape_steps (Learns clause ∷ steps) small =
    ap (λ bytes. are_steps false Last (groups_in bytes))
    (append_assoc (flat_map literal_bytes clause) (0 ∷ []) (binary_text steps))
    ∙ ap (are_steps false Last)
    (groups_in-clause (2 ^ 31) clause (binary_text steps) (fit_all clause small.0))
    ∙ shape_clause clause (groups_in (binary_text steps)) (below_all clause small.0)
    ∙ shape_steps steps small.1
shape_steps (Drops clause ∷ steps) small =
    ap (λ bytes. are_steps false Last (groups_in bytes))
    (append_assoc (flat_map literal_bytes clause) (0 ∷ []) (binary_text steps))
    ∙ ap (are_steps false Last)
    (groups_in-clause (2 ^ 31) clause (binary_text steps) (fit_all clause small.0))
    ∙ shape_clause clause (groups_in (binary_text steps)) (below_all clause small.0)
    ∙ shape_steps steps small.1

unnumbered : (steps : List PlainStep) → AllByRecursion (IsPlainStep (2 ^ 31 - 1)) steps
    → is_numbered (binary_text steps) ≡ false
unnumbered steps small =
    ap (λ (b : Bool). not b && has_steps true (binary_text steps))
    (shape_cut false 1024 (binary_text steps) Letter false (shape_steps steps small))

binary_steps_in-written : (variables : ℕ) (steps : List PlainStep) → AreWithin IsPlainStep variables steps
    → AllByRecursion (IsPlainStep (2 ^ 31 - 1)) steps
    → binary_steps_in variables (binary_text steps) ≡ record { steps = steps; fault = errors.Unfinished }
unfolding binary_script groups_in
binary_steps_in-written variables [] are small = refl
binary_steps_in-written variables (step ∷ steps) are small =
    script-step variables step (binary_text steps) are.0 small.0
    ∙ ap (step_before step) (binary_steps_in-written (widened variables) steps are.1 small.1)

pub binary_read : (variables : ℕ) (steps : List PlainStep) → AreWithin IsPlainStep (allowed variables) steps
    → All (IsPlainStep (2 ^ 31 - 1)) steps → is_binary (binary_text steps) ≡ true
    → (steps_in variables (binary_text steps) ≡ None) × (plain_steps_in variables (binary_text steps) ≡ record { steps = steps; fault = errors.Unfinished })
binary_read variables steps are small binary =
    let no_word = binary_unworded (binary_text steps) binary in
    let plain = unnumbered steps (recursion_from_All (IsPlainStep (2 ^ 31 - 1)) steps small) in
    (rw (no_word, binary, plain) refl, rw binary (binary_steps_in-written (allowed variables) steps are (recursion_from_All (IsPlainStep (2 ^ 31 - 1)) steps small)))

-- ---- which are told by their first bytes

zero_among : (front rest : List ℕ) (n : ℕ) → length front < n → list_any (λ b. b == 0) (take n (front ++ 0 ∷ rest)) ≡ true
zero_among [] rest (suc n) room = refl
zero_among [] rest zero room = absurd (omega arith)
zero_among (b ∷ front) rest zero room = absurd (omega arith)
zero_among (b ∷ front) rest (suc n) room = rw (zero_among front rest n (omega arith)) (either (b == 0))
  where
    either : (b : Bool) → (b || true) ≡ true
    either true = refl
    either false = refl

pub told_learned : (clause : List Lit) (steps : List PlainStep) → is_binary (binary_text (Learns clause ∷ steps)) ≡ true
told_learned clause steps = refl

pub told_dropped : (clause : List Lit) (steps : List PlainStep) → length (step_bytes (Drops clause)) ≤ telling → is_binary (binary_text (Drops clause ∷ steps)) ≡ true
told_dropped clause steps room =
    let front = flat_map literal_bytes clause in
    let regroup : binary_text (Drops clause ∷ steps) ≡ (100 ∷ front) ++ 0 ∷ binary_text steps = ap (λ bytes. 100 ∷ bytes) (append_assoc front (0 ∷ []) (binary_text steps)) in
    let long = length-append front (0 ∷ []) in
    ap is_binary regroup ∙ zero_among (100 ∷ front) (binary_text steps) 1024 (omega (arith, long, room))
