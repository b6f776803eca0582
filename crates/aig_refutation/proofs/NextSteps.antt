-- Steps that are read line by line.
use Rattle.std.proofs.Common.{◌≡◌, ℕ, Bool, true, List, [], ◌∷◌, Option, Some, None, Result, Ok, Err, refl, sym, ap, ◌∙◌}
use Rattle.aig_base.specs.declared.logic.literal.Lit.{Lit}
use Rattle.aig_refutation.specs.declared.error.RefutationError.{RefutationError}
use Rattle.aig_refutation.specs.declared.words.End.{End}
use Rattle.aig_refutation.specs.declared.words.End.TheVariants as ends
use Rattle.aig_refutation.specs.declared.words.Word as code
use Rattle.aig_refutation.specs.declared.words.Word.TheVariants as words
use Rattle.aig_refutation.specs.Proofs.{Line, after_clause, is_none, line_in}
use Rattle.aig_refutation.specs.Reading.{GivesStep, next_said, said_line}
use Rattle.aig_refutation.specs.Text.{◌>>=◌}
use Rattle.aig_refutation.specs.Tokens.{GivesValue, GivesFirst, IsClosed, IsReadOn, Place, Says, TellsOfText, Tries, first_in, held_word, is_last, left_at, left_of, lines_at, lines_past, next_in}
use Rattle.aig_refutation.proofs.Known.{leaves_on, says_on, tells_on}
use Rattle.aig_refutation.proofs.LineForms.{added_after, added_end_err, added_end_ok, line_wrong}
use Rattle.aig_refutation.proofs.ReadersInTurn.{GoesOn, Reader, Reads, gives_ok, on_on, on_read, says_wrong}

-- ---- a clause that ends a line

module _ (numbered : Bool) (variables : ℕ) (n : Bool × ℕ) (clause : List Lit) (end : End) (q :
    Reader Line) (before mid after : Place) (goes : GoesOn q (added_after numbered
    variables n clause) before mid)
    (next : Reads next_in mid after (words.End end)) (view : Unit {0} → Line) where
  pub clause_ends : (r : Result (Unit {0}) RefutationError) → Tries view (after_clause numbered
      variables (is_last (Some end)) n clause []) r → GivesValue view q before after r
  clause_ends (Ok done) there =
      let s : Reader Line = λ last ws. Ok (view done, ws) in
      gives_ok q s before after after view done
      (on_on q (added_after numbered variables n clause) before mid after s goes
      (on_read (added_after numbered variables n clause) s mid after after next_in (words.End end)
      next (λ last ws more is. added_end_ok numbered variables n last clause ws more end (view
      done) is there)))
      (λ last ws. refl)
  clause_ends (Err e) there =
      let s : Reader Line = λ last ws. Err e in
      tells_on e (after_clause numbered variables (is_last (Some end)) n clause [] ≡ Err e) (Says
      before.feed (λ bytes. q (is_none (left_of before bytes).lines) (left_of before
      bytes).words ≡ Err e))
      (λ h. says_wrong q s before after e
      (on_on q (added_after numbered variables n clause) before mid after s goes
      (on_read (added_after numbered variables n clause) s mid after after next_in (words.End end)
      next (λ last ws more is. added_end_err numbered variables n last clause ws more end e is
      h)))
      (λ last ws. refl))
      there

-- ---- the next step

next_lines : (end : Option End) (rest : List ℕ) → IsClosed end → lines_at end rest ≡ (left_at end
    rest).lines
next_lines (Some ends.Line) rest h = refl
next_lines (Some ends.Stream) rest h = refl
next_lines None rest h = absurd h

module _ (numbered : Bool) (variables : ℕ) (step : Line) (before : Place) where
  -- the first word of a line is refused
  pub first_fails : (mid after : Place) (e : RefutationError) → GivesFirst before mid (Err e) →
      GivesStep numbered variables step before after (Err e)
  first_fails mid after e given =
      let P : List ℕ → Type 0 = λ bytes. (first : List ℕ) × (more : List (List ℕ)) × (lines : List
      (List (List ℕ))) × (first_in first ≡ Err e) × (lines_past (lines_at before.end bytes) ≡
      (first ∷ more) ∷ lines) in
      let Q : List ℕ → Type 0 = λ bytes. (lines : List (List (List ℕ))) × (next_said numbered
      variables before bytes ≡ Some (Err e, lines)) in
      tells_on e (Says before.feed P) (Says before.feed Q)
      (λ h bytes known.
      let f = h bytes known in (
        f.2,
        ap (said_line numbered variables) f.4 ∙ ap (λ (r : Result Line RefutationError).
            Some (r, f.2)) (line_wrong numbered variables (is_none f.2) f.0 f.1 e f.3),
      ))
      given

  module _ (mid after : Place) (w : code.Word) (p : Reader Line) (first : GivesFirst
      before mid (Ok (Some w))) where
    -- the line of a word is read
    pub step_read : ((last : Bool) (word : List ℕ) (ws more : List (List ℕ)) → (first_in word >>= λ
        x. Ok (held_word x)) ≡ Ok w → p last ws ≡ Ok (step, more) → line_in numbered variables last
        word ws ≡ Ok step)
        → Reads p mid after step → IsClosed after.end → GivesStep numbered variables step before
        after (Ok true)
    step_read line then closed =
        leaves_on before.feed mid.feed
        (λ bytes rest. (word : List ℕ) × ((first_in word >>= λ x. Ok (held_word x)) ≡ Ok w) ×
        (lines_past (lines_at before.end bytes) ≡ (word ∷ (left_of mid rest).words) ∷ (left_of
        mid rest).lines)) first after.feed
        (λ bytes rest. IsReadOn p (left_of mid bytes) (left_of after rest) step)
        (λ bytes rest. next_said numbered variables before bytes ≡ Some (
          Ok step,
          lines_at
              after.end rest,
        )) then
        (λ bytes middle rest h k.
        let lines = (left_of mid middle).lines in
        let there = line (is_none lines) h.0 (left_of mid middle).words (left_of after rest).words
        h.1 k.1 in
        let next : lines_at after.end rest ≡ lines = next_lines after.end rest closed ∙ k.0 in
        ap (said_line numbered variables) h.2 ∙ ap (λ (r : Result Line RefutationError).
        Some (r, lines)) there ∙ ap (λ (ls : List (List (List ℕ))). Some (Ok step, ls)) (sym
        next))

    -- it is refused
    pub step_fails : (other : Place) (e : RefutationError) → ((last : Bool) (word : List ℕ) (ws :
        List (List ℕ)) → (first_in word >>= λ x. Ok (held_word x)) ≡ Ok w → p last ws ≡ Err e →
        line_in numbered variables last word ws ≡ Err e)
        → TellsOfText e (Says mid.feed (λ bytes. p (is_none (left_of mid bytes).lines) (left_of mid
        bytes).words ≡ Err e)) → GivesStep numbered variables step before other (Err e)
    step_fails other e line then =
        let P : List ℕ → Type 0 = λ bytes. p (is_none (left_of mid bytes).lines) (left_of mid
        bytes).words ≡ Err e in
        let Q : List ℕ → Type 0 = λ bytes. (lines : List (List (List ℕ))) × (next_said numbered
        variables before bytes ≡ Some (Err e, lines)) in
        tells_on e (Says mid.feed P) (Says before.feed Q)
        (λ call. says_on before.feed mid.feed
        (λ bytes rest. (word : List ℕ) × ((first_in word >>= λ x. Ok (held_word x)) ≡ Ok w) ×
        (lines_past (lines_at before.end bytes) ≡ (word ∷ (left_of mid rest).words) ∷ (left_of
        mid rest).lines)) first P Q call
        (λ bytes middle h k.
        let lines = (left_of mid middle).lines in
        let there = line (is_none lines) h.0 (left_of mid middle).words h.1 k in (
          lines,
          ap (said_line numbered variables) h.2 ∙ ap (λ (r : Result Line RefutationError). Some (r, lines)) there,
        )))
        then
