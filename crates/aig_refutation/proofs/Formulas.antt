-- The clauses of a formula, as they are taken and compared with a proof's text.
use Rattle.std.proofs.Common.{◌≡◌, ℕ, zero, suc, ◌<◌, ◌≤◌, Bool, true, false, cond, if◌then◌else◌, drop, ◌&&◌, inl, Option, Some, None, Result, Ok, Err, List, [], ◌∷◌, ◌++◌, length, slice_get, get_or, refl, sym, ap, subst, ◌∙◌, arith}
use Rattle.std.specs.List.{Contains}
use Rattle.aig_base.proofs.Words.{Contains-get_or, get_or_from_slice_get, slice_get_within, IfSome, option_map, false≢true, list_all-append}
use Rattle.aig_base.specs.declared.logic.literal.Lit.{Lit}
use Rattle.aig_base.specs.Clauses.{number_of_lit}
use Rattle.aig_base.specs.Formula.{clauses_in}
use Rattle.aig_refutation.specs.declared.error.RefutationError.{RefutationError}
use Rattle.aig_refutation.specs.declared.error.RefutationError.TheVariants as errors
use Rattle.aig_refutation.specs.Checking.{IsInConflict, IsOutcome, IsPlainOutcome, IsRefusal, Shows, shown_by, all_live, are_all_in, are_in}
use Rattle.aig_refutation.specs.Concluding.{Concludes, ConcludesPlain, IsFormula, RefusesFormula, ShowsPlain, ShowsText, shown_of, text_outcome}
use Rattle.aig_refutation.specs.Binary.{binary_steps_in}
use Rattle.aig_refutation.specs.BinaryNumbered.{numbered_steps_in}
use Rattle.aig_refutation.specs.Forms.{has_word, is_binary, is_numbered, plain_steps_in, steps_in}
use Rattle.aig_refutation.specs.Proofs.{Script, allowed, plain_of, script_if}
use Rattle.aig_refutation.specs.Steps.{PlainStep}
use Rattle.aig_refutation.specs.Tables.{Checked, HoldsFormula}
use Rattle.aig_refutation.specs.Text.{lines_of}
use Rattle.aig_refutation.specs.Tokens.{Says, TellsOfText}
use Rattle.aig_lexer.specs.Takes.{Feed}
use Rattle.aig_refutation.proofs.Known.{tells_both, tells_on}

-- ---- clauses at their places

pub contains_at : (clauses : List (List Lit)) (i : ℕ) (clause : List Lit) → slice_get clauses i ≡ Some
    clause → Contains clauses clause
contains_at clauses i clause is = subst (Contains clauses) (get_or_from_slice_get clauses i clause []
    is) (Contains-get_or clauses i [] (slice_get_within clauses i clause is))

pub one_of : (clause : List Lit) (d : Lit) → 1 ≤ length clause → length clause < 2 → clause ≡ get_or
    clause 0 d ∷ []
one_of [] d least small = absurd (omega (arith, least))
one_of (lit ∷ []) d least small = refl
one_of (lit ∷ other ∷ clause) d least small = absurd (omega (arith, small))

-- literals of one number are one
pub same_number : (a b : Lit) → number_of_lit a ≡ number_of_lit b → a ≡ b
same_number a b is = let lit_of : ℕ → Lit = λ n. record { code = n } in ap lit_of is

-- ---- variables of clauses

and_false : (b : Bool) → (b && false) ≡ false
and_false true = refl
and_false false = refl

module _ (variables : ℕ) where
  pub inside_more : (now old : List (List Lit)) (clause : List Lit) → now ≡ old ++ clause ∷ [] →
      are_all_in variables old ≡ true → are_in variables clause ≡ true → are_all_in variables now ≡
      true
  inside_more now old clause is before inside = ap (are_all_in variables) is ∙ list_all-append
      (are_in variables) old (clause ∷ []) ∙ rw (before, inside) refl

  -- a clause is out
  pub one_out : (clauses : List (List Lit)) (i : ℕ) (clause : List Lit) → slice_get clauses i ≡ Some
      clause → are_in variables clause ≡ false → are_all_in variables clauses ≡ false
  one_out [] i clause there out = cc
  one_out (c ∷ clauses) zero clause there out = let same : c ≡ clause = cc in ap (λ (b : Bool). b &&
      are_all_in variables clauses) (ap (are_in variables) same ∙ out)
  one_out (c ∷ clauses) (suc i) clause there out = ap (λ (b : Bool). are_in variables c && b)
      (one_out clauses i clause there out) ∙ and_false (are_in variables c)

  -- one of these lists is out
  pub part_out : (lists : List (List (List Lit))) (extra : List (List Lit)) (i : ℕ) (clauses :
      List (List Lit)) → slice_get lists i ≡ Some clauses → are_all_in variables clauses ≡ false →
      are_all_in variables (clauses_in lists ++ extra) ≡ false
  part_out [] extra i clauses there out = cc
  part_out (c ∷ lists) extra zero clauses there out =
      let same : c ≡ clauses = cc in
      list_all-append (are_in variables) (c ++ clauses_in lists) extra ∙ ap (λ (b : Bool). b &&
      are_all_in variables extra) (list_all-append (are_in variables) c (clauses_in lists) ∙ ap
      (λ (b : Bool). b && are_all_in variables (clauses_in lists)) (ap (are_all_in variables) same ∙
      out))
  part_out (c ∷ lists) extra (suc i) clauses there out =
      let later = part_out lists extra i clauses there out in
      let here : are_all_in variables ((c ++ clauses_in lists) ++ extra) ≡ (are_all_in variables c
      && are_all_in variables (clauses_in lists ++ extra)) = list_all-append (are_in variables) (c
      ++ clauses_in lists) extra ∙ ap (λ (b : Bool). b && are_all_in variables extra) (list_all-append (are_in variables) c (clauses_in lists)) ∙ and_assoc (are_all_in variables
      c) (are_all_in variables (clauses_in lists)) (are_all_in variables extra) ∙ ap (λ (b : Bool). are_all_in variables c && b) (sym (list_all-append (are_in variables) (clauses_in lists) extra)) in
      here ∙ ap (λ (b : Bool). are_all_in variables c && b) later ∙ and_false (are_all_in variables
      c)
    where
      and_assoc : (a b c : Bool) → ((a && b) && c) ≡ (a && (b && c))
      and_assoc true b c = refl
      and_assoc false b c = refl

  pub last_out : (clauses extra : List (List Lit)) → are_all_in variables extra ≡ false →
      are_all_in variables (clauses ++ extra) ≡ false
  last_out clauses extra out = list_all-append (are_in variables) clauses extra ∙ ap (λ (b :
      Bool). are_all_in variables clauses && b) out ∙ and_false (are_all_in variables clauses)

-- the last ones are refused
pub refused_last : {X : Type 0} (n m : ℕ) → n ≡ m → (clauses extra : List (List Lit)) (r : Result X
    RefutationError) → RefusesFormula n extra r → RefusesFormula m (clauses ++ extra) r
refused_last n m is clauses extra (Ok x) h = tt
refused_last n m is clauses extra (Err e) h = tells_on e ((e ≡ errors.Variable) × (are_all_in n
    extra ≡ false)) ((e ≡ errors.Variable) × (are_all_in m (clauses ++ extra) ≡ false)) (λ
    wrong. (
      wrong.0,
      ap (λ (k : ℕ). are_all_in k (clauses ++ extra)) (sym is) ∙ last_out n clauses extra wrong.1,
    )) h

-- ---- the first clauses

-- no clauses are those of a formula
pub formula_empty : (variables : ℕ) → IsFormula (record {
  table = record { clauses = []; numbers = []; places = []; added = 0 };
  variables = variables;
})
unfolding all_live
formula_empty variables = record {
  holds = record {
    holds = record {
      table = record {
        count = refl;
        numbering = record {
          few = omega arith;
          within = λ n. inl (omega arith);
          named = λ n i is small. absurd (omega arith);
        };
      };
      there = λ n. tt;
      own = tt;
      used = λ n. refl;
      added = refl;
    };
    row = record { all = refl; next = refl };
  };
  inside = refl;
}

-- one clause more
pub formula_more : (old new : Checked) (clause : List Lit) → IsFormula old → new.table.clauses ≡ old.table.clauses ++ clause ∷ [] →
    new.variables ≡ old.variables → HoldsFormula new.table → are_in old.variables clause ≡ true →
    IsFormula new
formula_more old new clause before is same holds inside = record {
  holds = holds;
  inside = ap (λ (n : ℕ). are_all_in n new.table.clauses) same ∙ inside_more old.variables
      new.table.clauses old.table.clauses clause is before.inside inside;
}

-- each literal of these clauses has a variable
pub formula_inside : (checker : Checked) (n : ℕ) (clauses : List (List Lit)) → IsFormula checker
    → checker.variables ≡ n → checker.table.clauses ≡ clauses → are_all_in n clauses ≡ true
formula_inside checker n clauses holds variables list =
    ap (are_all_in n) (sym list)
    ∙ ap (λ (m : ℕ). are_all_in m checker.table.clauses) (sym variables) ∙ holds.inside

-- ---- what is promised

-- behind the word stand the steps of a binary LRAT proof
pub word_form : (variables : ℕ) (bytes : List ℕ) → has_word bytes ≡ true → steps_in variables bytes
    ≡ Some (numbered_steps_in (allowed variables) (drop 4 bytes))
word_form variables bytes word =
    ap (λ (w : Bool). if w then Some (numbered_steps_in (allowed variables) (drop 4 bytes))
    else if is_binary bytes then (if is_numbered bytes
    then Some (numbered_steps_in (allowed variables) bytes) else None)
    else script_if (allowed variables) (lines_of bytes)) word

module _ (variables : ℕ) (clauses : List (List Lit)) (text : Option (List ℕ)) where
  abbrev IsShown : Result (Unit {0}) RefutationError → Type 0
  IsShown = IsOutcome variables clauses text

  pub shows_err : (e : RefutationError) → TellsOfText e (IsShown (Err e))
      → Shows variables clauses text
      (Err e)
  shows_err errors.Memory t = tt
  shows_err errors.Stream t = tt
  shows_err errors.Variable t = t
  shows_err errors.Line t = t
  shows_err errors.Literal t = t
  shows_err errors.Unnamed t = t
  shows_err errors.Twice t = t
  shows_err errors.Large t = t
  shows_err errors.Step t = t
  shows_err errors.Asymmetry t = t
  shows_err errors.Binary t = t
  shows_err errors.Unfinished t = t

  -- a literal has no variable
  pub shows_refused : (e : RefutationError) → TellsOfText e ((e ≡ errors.Variable) ×
      (are_all_in variables clauses ≡ false)) → Shows variables clauses text (Err e)
  shows_refused e h = shows_err e (tells_on e _ (IsShown (Err e)) (λ wrong. record {
    no_variable = λ _. ap (λ f. Err f) wrong.0;
    in_conflict = λ inside. absurd (false≢true (sym wrong.1 ∙ inside));
    by_steps = λ inside. absurd (false≢true (sym wrong.1 ∙ inside));
    by_propagation = λ inside. absurd (false≢true (sym wrong.1 ∙ inside));
  }) h)

  -- there is no memory
  pub shows_memory : (e : RefutationError) → TellsOfText e ⊥ → Shows variables clauses text (Err e)
  shows_memory e h = shows_err e (tells_on e ⊥ (IsShown (Err e)) (λ wrong. absurd wrong) h)

  -- the clauses are in conflict at once
  pub shows_conflict : are_all_in variables clauses ≡ true → IsInConflict clauses
      → Shows variables clauses text (Ok tt)
  shows_conflict inside is = record {
    no_variable = λ out. absurd (false≢true (sym out ∙ inside));
    in_conflict = λ _ _. refl;
    by_steps = λ _ none. absurd (none is);
    by_propagation = λ _ none. absurd (none is);
  }

  -- the text is known, or nothing is said of it
  known : (P : List ℕ → Type 0) → ((bytes : List ℕ) → text ≡ Some bytes → P bytes) → IfSome text P
  known P h = by text refl
    where
      by : (o : Option (List ℕ)) → text ≡ o → IfSome o P
      by None is = tt
      by (Some bytes) is = h bytes is

  turned : (o : Option (Result (Unit {0}) RefutationError)) (r : Result (Unit {0}) RefutationError) →
      IfSome o (λ x. x ≡ r) → IfSome o (λ x. r ≡ x)
  turned None r h = tt
  turned (Some x) r h = sym h

  -- what the proof showed is the outcome
  module _ (inside : are_all_in variables clauses ≡ true) (none : IsInConflict clauses → ⊥) where
    unmapped : {A B : Type 0} (g : A → B) (o : Option A) → option_map g o ≡ None → o ≡ None
    unmapped g None e = refl
    unmapped g (Some x) e = absurd cc

    is_outcome : (r : Result (Unit {0}) RefutationError)
        → ((bytes : List ℕ) → text ≡ Some bytes
        → IfSome (shown_by variables clauses bytes) (λ x. r ≡ x))
        → ((bytes : List ℕ) → text ≡ Some bytes → shown_by variables clauses bytes ≡ None
        → IsPlainOutcome clauses (plain_steps_in variables bytes) r) → IsShown r
    is_outcome r steps propagation = record {
      no_variable = λ out. absurd (false≢true (sym out ∙ inside));
      in_conflict = λ _ conflict. absurd (none conflict);
      by_steps = λ _ _. known _ steps;
      by_propagation = λ _ _. known _ propagation;
    }

    -- its steps have numbers, and are read of these bytes
    module _ (f : Feed) (view : List ℕ → List ℕ)
        (there : (bytes : List ℕ) → text ≡ Some bytes → f.coming ≡ Some (view bytes))
        (form : (bytes : List ℕ) → text ≡ Some bytes → steps_in variables bytes
        ≡ Some (numbered_steps_in (allowed variables) (view bytes))) where
      abbrev Shown : List ℕ → Result (Unit {0}) RefutationError
      Shown bytes = shown_of (all_live clauses) (numbered_steps_in (allowed variables) bytes)

      numbered_as : (bytes : List ℕ) → text ≡ Some bytes
          → shown_by variables clauses bytes ≡ Some (Shown (view bytes))
      numbered_as bytes is = ap (option_map (shown_of (all_live clauses))) (form bytes is)

      is_numbered_so : (r : Result (Unit {0}) RefutationError) → Says f (λ bytes. Shown bytes ≡ r)
          → IsShown r
      is_numbered_so r says =
          is_outcome r (λ bytes is.
          subst (λ (o : Option (Result (Unit {0}) RefutationError)). IfSome o (λ x. r ≡ x))
          (sym (numbered_as bytes is)) (sym (says (view bytes) (there bytes is))))
          (λ bytes is unnumbered.
          let wrong = sym (numbered_as bytes is) ∙ unnumbered in absurd cc)

      pub shows_numbered : (r : Result (Unit {0}) RefutationError) → Concludes f Shown r
          → Shows variables clauses text r
      shows_numbered (Ok done) h = is_numbered_so (Ok tt) h
      shows_numbered (Err e) h =
          shows_err e (tells_on e (Says f (λ bytes. Shown bytes ≡ Err e)) (IsShown (Err e))
          (is_numbered_so (Err e)) h)

    module _ (f : Feed)
        (there : (bytes : List ℕ) → text ≡ Some bytes → f.coming ≡ Some bytes)
        (no_word : (bytes : List ℕ) → text ≡ Some bytes → has_word bytes ≡ false) where
      without_word : (bytes : List ℕ) → text ≡ Some bytes → (b : Bool) → is_binary bytes ≡ b
          → steps_in variables bytes ≡ (if b then (if is_numbered bytes
          then Some (numbered_steps_in (allowed variables) bytes) else None)
          else script_if (allowed variables) (lines_of bytes))
      without_word bytes is b binary =
          ap (λ (w : Bool). if w then Some (numbered_steps_in (allowed variables) (drop 4 bytes))
          else if is_binary bytes then (if is_numbered bytes
          then Some (numbered_steps_in (allowed variables) bytes) else None)
          else script_if (allowed variables) (lines_of bytes)) (no_word bytes is)
          ∙ ap (λ (c : Bool). if c then (if is_numbered bytes
          then Some (numbered_steps_in (allowed variables) bytes) else None)
          else script_if (allowed variables) (lines_of bytes)) binary

      -- they are those of a text
      module _ (form : (bytes : List ℕ) → text ≡ Some bytes → is_binary bytes ≡ false) where
        abbrev Plainly : Result (Unit {0}) RefutationError → Type 0
        Plainly r = Says f (λ bytes. script_if (allowed variables) (lines_of bytes) ≡ None
            → IsPlainOutcome clauses (plain_of (allowed variables) (lines_of bytes)) r)

        shown_as : (bytes : List ℕ) → text ≡ Some bytes
            → shown_by variables clauses bytes ≡ text_outcome (allowed variables) (all_live clauses) bytes
        shown_as bytes is = ap (option_map (shown_of (all_live clauses)))
            (without_word bytes is false (form bytes is))

        plain_as : (bytes : List ℕ) → text ≡ Some bytes
            → plain_steps_in variables bytes ≡ plain_of (allowed variables) (lines_of bytes)
        plain_as bytes is = ap (λ (b : Bool). cond b (binary_steps_in (allowed variables) bytes)
            (plain_of (allowed variables) (lines_of bytes))) (form bytes is)

        is_shown : (r : Result (Unit {0}) RefutationError)
            → Says f (λ bytes. IfSome (text_outcome (allowed variables) (all_live clauses) bytes) (λ x. x ≡ r))
            → Plainly r → IsShown r
        is_shown r says plain =
            is_outcome r (λ bytes is.
            subst (λ (o : Option (Result (Unit {0}) RefutationError)). IfSome o (λ x. r ≡ x))
            (sym (shown_as bytes is))
            (turned (text_outcome (allowed variables) (all_live clauses) bytes) r
            (says bytes (there bytes is))))
            (λ bytes is unnumbered.
            subst (λ (script : Script PlainStep). IsPlainOutcome clauses script r)
            (sym (plain_as bytes is))
            (plain bytes (there bytes is) (unmapped _ (script_if (allowed variables) (lines_of bytes))
            (sym (shown_as bytes is) ∙ unnumbered))))

        pub shows_text : (r : Result (Unit {0}) RefutationError)
            → ShowsText f (text_outcome (allowed variables) (all_live clauses)) r
            → ShowsPlain f (allowed variables) clauses r → Shows variables clauses text r
        shows_text (Ok done) h plain = is_shown (Ok tt) h (λ bytes known none. tt)
        shows_text (Err e) h plain =
            shows_err e (tells_on e _ (IsShown (Err e)) (λ both. is_shown (Err e) both.0 both.1)
            (tells_both e (Says f (λ bytes. IfSome (text_outcome (allowed variables) (all_live clauses) bytes)
            (λ x. x ≡ Err e))) (Plainly (Err e)) h plain))

      -- they are those of a binary proof
      module _ (form : (bytes : List ℕ) → text ≡ Some bytes → is_binary bytes ≡ true) where
        binary_as : (bytes : List ℕ) → text ≡ Some bytes
            → plain_steps_in variables bytes ≡ binary_steps_in (allowed variables) bytes
        binary_as bytes is = ap (λ (b : Bool). cond b (binary_steps_in (allowed variables) bytes)
            (plain_of (allowed variables) (lines_of bytes))) (form bytes is)

        -- and have numbers
        pub numbered_form : ((bytes : List ℕ) → text ≡ Some bytes → is_numbered bytes ≡ true)
            → (bytes : List ℕ) → text ≡ Some bytes
            → steps_in variables bytes ≡ Some (numbered_steps_in (allowed variables) bytes)
        numbered_form numbered bytes is =
            without_word bytes is true (form bytes is)
            ∙ ap (λ (n : Bool). if n then Some (numbered_steps_in (allowed variables) bytes)
            else None) (numbered bytes is)

        -- or have none
        module _ (plain : (bytes : List ℕ) → text ≡ Some bytes → is_numbered bytes ≡ false) where
          unnumbered : (bytes : List ℕ) → text ≡ Some bytes
              → shown_by variables clauses bytes ≡ None
          unnumbered bytes is = ap (option_map (shown_of (all_live clauses)))
              (without_word bytes is true (form bytes is)
              ∙ ap (λ (n : Bool). if n then Some (numbered_steps_in (allowed variables) bytes)
              else None) (plain bytes is))

          is_plain : (r : Result (Unit {0}) RefutationError)
              → Says f (λ bytes. IsPlainOutcome clauses (binary_steps_in (allowed variables) bytes) r) → IsShown r
          is_plain r says =
              is_outcome r (λ bytes is.
              subst (λ (o : Option (Result (Unit {0}) RefutationError)). IfSome o (λ x. r ≡ x))
              (sym (unnumbered bytes is)) tt)
              (λ bytes is _.
              subst (λ (script : Script PlainStep). IsPlainOutcome clauses script r)
              (sym (binary_as bytes is)) (says bytes (there bytes is)))

          pub shows_binary : (r : Result (Unit {0}) RefutationError)
              → ConcludesPlain f clauses (binary_steps_in (allowed variables)) r → Shows variables clauses text r
          shows_binary (Ok done) h = is_plain (Ok tt) (λ bytes is. tt)
          shows_binary (Err e) h =
              shows_err e (tells_on e (Says f (λ bytes. IsRefusal clauses
              (binary_steps_in (allowed variables) bytes) e)) (IsShown (Err e)) (is_plain (Err e)) h)
