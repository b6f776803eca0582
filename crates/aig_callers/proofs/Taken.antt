-- A proof of printed clauses is taken.
use Rattle.aig_base.proofs.Words.{◌≡◌, ◌≢◌, ℕ, ◌-◌, ◌^◌, inl, inr, Bool, true, false, IsTrue, List, [], ◌∷◌, All, Option, Some, None, Result, Ok, Err, IfErr, IfSome, option_map, if◌then◌else◌, refl, sym, ap, subst, ◌∙◌, same_Some, IsAtEnd, and_parts, eqb-true, or_cases}
use Rattle.aig_base.specs.declared.logic.literal.Lit.{Lit}
use Rattle.aig_dimacs.specs.Reading.{parse_formula}
use Rattle.aig_format.specs.File.{File}
use Rattle.aig_format.specs.Fits.{Accepts}
use Rattle.aig_format.specs.Spells.{Spells}
use Rattle.aig_reader.specs.Reading.{IsReadAs}
use Rattle.aig_reader.specs.Verdicts.{Accepted, Crowded, IsOfFile, IsSettled, IsVerdictOn, Judges, NoBads, TooLarge, Verdict, verdict_by}
use Rattle.aig_refutation.specs.Checking.{IsOutcome, Shows, all_live, are_all_in, outcome}
use Rattle.aig_refutation.specs.BinaryNumbered.{numbered_steps_in}
use Rattle.aig_refutation.specs.Forms.{has_word, is_binary, is_numbered, steps_in}
use Rattle.aig_refutation.specs.Proofs.{Script, allowed}
use Rattle.aig_refutation.specs.Rat.{is_rat_refutation}
use Rattle.aig_refutation.specs.Steps.{PlainStep, Refute, Step}
use Rattle.aig_refutation.specs.Written.{AreInOrder, AreWithin, IsBinaryStep, IsNumber, IsPlainStep, IsWrittenStep, binary_text, numbered_text, plain_text, proof_text, worded_text}
use Rattle.aig_refutation.specs.declared.error.RefutationError.{RefutationError}
use Rattle.aig_refutation.specs.declared.error.RefutationError.TheVariants as refutation
use Rattle.aig_callers.specs.Taking.{IsOutside, IsProof, IsProofOf}
use Rattle.aig_callers.proofs.Asking.{all_taken}
use Rattle.aig_callers.proofs.Texts.{in_text}

-- what is known of bytes: they spell one file at most
abbrev pub SpellOne : Type 0
SpellOne = (f g : File) (bytes : List ℕ) → Spells f bytes → Spells g bytes → f ≡ g

-- what is known of proofs that are written
pub record Laws : Type 0 where
  pub ordered : (clauses : List (List Lit)) (steps : List Step) (fault : RefutationError)
      → AreInOrder (all_live clauses) steps → IsTrue (is_rat_refutation clauses steps)
      → outcome (all_live clauses) steps fault ≡ Ok tt
  pub numbered : (variables last : ℕ) (clauses : List (List Lit)) (steps : List Step)
      (e : RefutationError) → IsNumber last → AreWithin IsWrittenStep (allowed variables) steps
      → are_all_in variables clauses ≡ true
      → outcome (all_live clauses) steps refutation.Unfinished ≡ Ok tt
      → Shows variables clauses (Some (proof_text last steps)) (Err e) → IsOutside e
  pub plain : (variables : ℕ) (clauses : List (List Lit)) (steps : List PlainStep)
      (e : RefutationError) → AreWithin IsPlainStep (allowed variables) steps
      → are_all_in variables clauses ≡ true → Refute clauses steps
      → Shows variables clauses (Some (plain_text steps)) (Err e) → IsOutside e
  pub binary : (variables : ℕ) (clauses : List (List Lit)) (steps : List PlainStep)
      (e : RefutationError) → AreWithin IsPlainStep (allowed variables) steps
      → All (IsPlainStep (2 ^ 31 - 1)) steps → is_binary (binary_text steps) ≡ true
      → are_all_in variables clauses ≡ true → Refute clauses steps
      → Shows variables clauses (Some (binary_text steps)) (Err e) → IsOutside e
  pub worded : (variables : ℕ) (clauses : List (List Lit)) (steps : List Step)
      (e : RefutationError) → AreWithin IsWrittenStep (allowed variables) steps
      → All IsBinaryStep steps → are_all_in variables clauses ≡ true
      → outcome (all_live clauses) steps refutation.Unfinished ≡ Ok tt
      → Shows variables clauses (Some (worded_text steps)) (Err e) → IsOutside e

-- ---- binary LRAT

-- bytes that are told to be binary don't begin with the word `lrat`
no_word : (bytes : List ℕ) → is_binary bytes ≡ true → has_word bytes ≡ false
no_word [] is = cc
no_word (b ∷ bs) is =
    elim (or_cases _ _ is) [
      | inl add ↦ subst (λ x. has_word (x ∷ bs) ≡ false) (sym (eqb-true b 97 add)) refl
      | inr drop ↦ subst (λ x. has_word (x ∷ bs) ≡ false) (sym (eqb-true b 100 (and_parts _ _ drop).0))
          refl
    ]

chosen : (word binary numbered : Bool) (behind own text : Option (Script Step)) → word ≡ false
    → binary ≡ true → numbered ≡ true
    → (if word then behind else if binary then (if numbered then own else None) else text) ≡ own
chosen false true true behind own text free is are = refl
chosen true binary numbered behind own text free is are = cc
chosen false false numbered behind own text free is are = cc
chosen false true false behind own text free is are = cc

-- their steps are those that they say behind that word
same_steps : (variables : ℕ) (bytes : List ℕ) → is_binary bytes ≡ true → is_numbered bytes ≡ true
    → steps_in variables bytes ≡ Some (numbered_steps_in (allowed variables) bytes)
same_steps variables bytes binary numbered =
    chosen (has_word bytes) (is_binary bytes) (is_numbered bytes) _ _ _ (no_word bytes binary) binary
    numbered

outcome_behind : (variables : ℕ) (clauses : List (List Lit)) (steps : List Step)
    (r : Result (Unit {0}) RefutationError) → is_binary (numbered_text steps) ≡ true
    → is_numbered (numbered_text steps) ≡ true
    → IsOutcome variables clauses (Some (numbered_text steps)) r
    → IsOutcome variables clauses (Some (worded_text steps)) r
outcome_behind variables clauses steps r binary numbered told = record {
  no_variable = told.no_variable;
  in_conflict = told.in_conflict;
  by_steps = λ all other. subst (λ (o : Option (Script Step)). IfSome (option_map (λ (s : Script
      Step). outcome (all_live clauses) s.steps s.fault) o) (λ shown. r ≡ shown))
      (same_steps variables (numbered_text steps) binary numbered) (told.by_steps all other);
  by_propagation = λ all other none. cc;
}

shown_behind : (variables : ℕ) (clauses : List (List Lit)) (steps : List Step) (e : RefutationError)
    → is_binary (numbered_text steps) ≡ true → is_numbered (numbered_text steps) ≡ true
    → Shows variables clauses (Some (numbered_text steps)) (Err e)
    → Shows variables clauses (Some (worded_text steps)) (Err e)
shown_behind variables clauses steps refutation.Memory binary numbered shows = tt
shown_behind variables clauses steps refutation.Stream binary numbered shows = tt
shown_behind variables clauses steps e binary numbered shows =
    outcome_behind variables clauses steps (Err e) binary numbered shows

-- ---- proofs

module _ (laws : Laws) where
  -- a proof of clauses is refused for memory and the stream alone
  proof_taken : (variables : ℕ) (clauses : List (List Lit)) (bytes : List ℕ) (e : RefutationError)
      → are_all_in variables clauses ≡ true → IsProof variables clauses bytes
      → Shows variables clauses (Some bytes) (Err e) → IsOutside e
  proof_taken variables clauses bytes e all (inl p) shows =
      laws.numbered variables p.last clauses p.steps e p.number p.spelled all
      (laws.ordered clauses p.steps refutation.Unfinished p.order p.refutes)
      (subst (λ b. Shows variables clauses (Some b) (Err e)) p.text shows)
  proof_taken variables clauses bytes e all (inr (inl p)) shows =
      laws.plain variables clauses p.steps e p.spelled all p.refutes
      (subst (λ b. Shows variables clauses (Some b) (Err e)) p.text shows)
  proof_taken variables clauses bytes e all (inr (inr (inr p))) shows =
      laws.worded variables clauses p.steps e p.spelled p.small all
      (laws.ordered clauses p.steps refutation.Unfinished p.order p.refutes)
      (shown_behind variables clauses p.steps e p.told p.numbered
      (subst (λ b. Shows variables clauses (Some b) (Err e)) p.text shows))
  proof_taken variables clauses bytes e all (inr (inr (inl p))) shows =
      laws.binary variables clauses p.steps e p.spelled p.small p.told all p.refutes
      (subst (λ b. Shows variables clauses (Some b) (Err e)) p.text shows)

  -- so is one of the clauses of a text
  pub text_taken : (text bytes : List ℕ) (variables : ℕ) (clauses : List (List Lit))
      (e : RefutationError) → parse_formula text ≡ Some (variables, clauses) → IsProofOf text bytes
      → Shows variables clauses (Some bytes) (Err e) → IsOutside e
  text_taken text bytes variables clauses e again p shows =
      let pair : (variables, clauses) ≡ (p.variables, p.clauses) = same_Some _ _ (sym again
      ∙ p.reads) in
      proof_taken p.variables p.clauses bytes e (in_text p.variables p.clauses text p.reads)
      p.proves
      (subst (λ (q : ℕ × List (List Lit)). Shows q.0 q.1 (Some bytes) (Err e)) pair shows)

-- ---- the file that the bytes are

module _ (one : SpellOne) (limit : ℕ) (bytes : List ℕ) (f : File) (accepts : Accepts bytes limit f)
  where
    -- what is told of a file that was read is told of it
    pub told_of : {T : Type 0} (Holds : List ℕ → File → Type 0) (Means : File → T → Type 0)
        (old new : Option (List ℕ)) (value : T) → ((b : List ℕ) (g : File) → Holds b g → Spells g b)
        → old ≡ Some bytes → IsAtEnd new → IsReadAs Holds Means old new value → Means f value
    told_of Holds Means old new value spelled is end read =
        let whole : read.bytes ≡ bytes = all_taken bytes read.bytes old new is read.taken end in
        let same : read.file ≡ f = one read.file f bytes (subst (λ b. Spells read.file b) whole
        (spelled read.bytes read.file read.holds)) accepts.0 in
        subst (λ g. Means g value) same read.means

    -- a verdict on its bytes, with nothing hidden, is its own
    pub judged : (of : File → Verdict) (old new : Option (List ℕ)) (failed : Bool) (v : Verdict)
        → old ≡ Some bytes → of f ≡ Accepted → Judges of limit old new failed v → IsSettled v
        → v ≡ Accepted
    judged of old new failed v is taken told settled =
        let on =
        subst (λ known. IfSome known (λ b. IsVerdictOn of limit b v)) is (told.exact settled)
        in
        on.each f accepts ∙ taken
