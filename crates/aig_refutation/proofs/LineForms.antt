-- The forms of lines, part by part.
use Rattle.std.proofs.Common.{◌≡◌, ℕ, Bool, true, false, cond, List, [], ◌∷◌, ◌++◌, Some, Result, Ok, Err, refl, sym, ap, ◌∙◌}
use Rattle.aig_base.specs.declared.logic.literal.Lit.{Lit}
use Rattle.aig_refutation.specs.declared.error.RefutationError.{RefutationError}
use Rattle.aig_refutation.specs.declared.error.RefutationError.TheVariants as errors
use Rattle.aig_refutation.specs.declared.words.End.{End}
use Rattle.aig_refutation.specs.declared.words.End.TheVariants as ends
use Rattle.aig_refutation.specs.declared.words.Number as code_number
use Rattle.aig_refutation.specs.declared.words.Word.TheVariants as words
use Rattle.aig_refutation.specs.Proofs.{Line, Numbered, Plain, adds, after_clause, after_first, after_number, after_word, clause_from, clause_in, clause_number, drops, ended, hint_number, is_zero, line_in, literal_of, missing, number_of, numbers_from, numbers_in}
use Rattle.aig_refutation.specs.Reading.{reads_added, reads_after, reads_clause, reads_deleted, reads_dropped, whole_line}
use Rattle.aig_refutation.specs.Skipping.{end_line}
use Rattle.aig_refutation.specs.Steps.{Step, Deletes, Drops, Learns}
use Rattle.aig_refutation.specs.Text as text
use Rattle.aig_refutation.specs.Text.{◌>>=◌, begins, word_in}
use Rattle.aig_refutation.specs.Tokens.{end_of, fault_of, first_in, held_word, is_last, next_in, next_number, said_number}
use Rattle.aig_refutation.proofs.LineParts.{bound_ok, clause_err, clause_is, clause_next, clause_next_wrong, ended_err, ended_ok, fault_missing, held_letter, held_number, next_end_is, next_letter_is, next_number_is, next_wrong, numbers_next, numbers_next_wrong, pair_parts}

abbrev Said : Type 0
Said = Result (Line × List (List ℕ)) RefutationError

-- ---- a line that begins with `d`

abbrev drop_end : List Lit × List (List ℕ) → Result Line RefutationError
drop_end rest = ended rest.1 >>= drops rest.0

abbrev pub dropped_from : ℕ → Bool × ℕ → Bool → List (List ℕ) → Said
dropped_from variables n last ws = clause_from variables last n ws >>= drop_end >>= whole_line

abbrev pub drop_tail : List Lit → Bool → List (List ℕ) → Said
drop_tail clause last ws = ended ws >>= drops clause >>= whole_line

module _ (variables : ℕ) (last : Bool) (ws : List (List ℕ)) where
  dropped : reads_dropped variables last ws ≡ (clause_in variables last ws >>= drop_end >>=
      whole_line)
  unfolding after_first
  dropped = refl

  pub dropped_number : (n : Bool × ℕ) (more : List (List ℕ)) → next_number last ws ≡ Ok (n, more) →
      reads_dropped variables last ws ≡ dropped_from variables n last more
  dropped_number n more is = dropped ∙ ap (λ x. x >>= drop_end >>= whole_line) (clause_next
      variables last ws more n is)

  pub dropped_wrong : (e : RefutationError) → next_number last ws ≡ Err e → reads_dropped variables
      last ws ≡ Err e
  dropped_wrong e is = dropped ∙ ap (λ x. x >>= drop_end >>= whole_line) (clause_next_wrong
      variables last ws e is)

  pub dropped_clause : (n : Bool × ℕ) (clause : List Lit) (more : List (List ℕ)) →
      reads_clause variables n [] last ws ≡ Ok (clause, more) → dropped_from variables n last ws
      ≡ drop_tail clause last more
  dropped_clause n clause more is =
      let c = clause_is variables last n [] clause ws more is in
      ap (λ x. x >>= drop_end >>= whole_line) c.1
      ∙ ap (λ (own : List Lit). drop_tail own last more) c.2

  pub dropped_clause_wrong : (n : Bool × ℕ) (lits : List Lit) (e : RefutationError) → reads_clause
      variables n lits last ws ≡ Err e → dropped_from variables n last ws ≡ Err e
  dropped_clause_wrong n lits e is = ap (λ x. x >>= drop_end >>= whole_line) (clause_err variables
      last n lits ws e is)

pub drop_tail_ok : (clause : List Lit) (last : Bool) (ws more : List (List ℕ)) (done : Unit {0})
    → end_line last ws ≡ Ok (done, more)
    → drop_tail clause last ws ≡ Ok (Plain (Drops clause), more)
drop_tail_ok clause last ws more done is =
    let w = ended_ok last ws more done is in
    ap (λ x. x >>= drops clause >>= whole_line) w.0
    ∙ ap (λ (list : List (List ℕ)). Ok (Plain (Drops clause), list)) (sym w.1)

pub drop_tail_err : (clause : List Lit) (last : Bool) (ws : List (List ℕ)) (e : RefutationError)
    → end_line last ws ≡ Err e → drop_tail clause last ws ≡ Err e
drop_tail_err clause last ws e is =
    ap (λ x. x >>= drops clause >>= whole_line) (ended_err last ws e is)

-- ---- after the first number

module _ (numbered : Bool) (variables : ℕ) (n : Bool × ℕ) (last : Bool) where
  after_some : (word : List ℕ) (more : List (List ℕ)) → reads_after numbered variables n last (word
      ∷ more) ≡ (word_in word >>= (λ next. after_word numbered variables last n next more) >>=
      whole_line)
  unfolding after_number
  after_some word more = refl

  after_none : reads_after numbered variables n last [] ≡ (cond (is_zero n) (Ok (Plain (Learns []))) (Err (missing
      last)) >>= whole_line)
  unfolding after_number
  after_none = refl

  letter_any : (more : List (List ℕ)) → after_word numbered variables last n text.Deletes more ≡
      after_word false 0 last n text.Deletes more
  unfolding after_word
  letter_any more = refl

  module _ (ws more : List (List ℕ)) where
    pub after_number_word : (m : code_number.Number) → next_in last ws ≡ Ok (words.Number m, more)
        → reads_after numbered variables n last ws ≡ reads_added numbered variables n (said_number
        m) last more
    after_number_word m is =
        let w = next_number_is last ws more m is in
        ap (reads_after numbered variables n last) w.1 ∙ after_some w.0 more ∙ ap (λ x. x >>= (λ
        next. after_word numbered variables last n next more) >>= whole_line) w.2

    pub after_letter : next_in last ws ≡ Ok (words.Deletes, more) → reads_after numbered variables
        n last ws ≡ reads_deleted n last more
    after_letter is =
        let w = next_letter_is last ws more is in
        ap (reads_after numbered variables n last) w.1 ∙ after_some w.0 more ∙ ap (λ x. x >>= (λ
        next. after_word numbered variables last n next more) >>= whole_line) w.2 ∙ ap (λ x. x
        >>= whole_line) (letter_any more)

    pub after_zero : (end : End) → is_zero n ≡ true → next_in last ws ≡ Ok (words.End end, more) →
        reads_after numbered variables n last ws ≡ Ok (Plain (Learns []), more)
    after_zero end zero is =
        let w = next_end_is last ws more end is in
        ap (reads_after numbered variables n last) w.0 ∙ after_none ∙ ap (λ (b : Bool). cond b (Ok
        (Plain (Learns []))) (Err (missing last)) >>= whole_line) zero ∙ ap (λ (list : List (List ℕ)). Ok
        (Plain (Learns []), list)) (sym w.2)

    pub after_missing : (end : End) → is_zero n ≡ false → next_in last ws ≡ Ok (
      words.End end,
      more,
    ) → reads_after numbered variables n last ws ≡ Err (fault_of end)
    after_missing end zero is =
        let w = next_end_is last ws more end is in
        ap (reads_after numbered variables n last) w.0 ∙ after_none ∙ ap (λ (b : Bool). cond b (Ok
        (Plain (Learns []))) (Err (missing last)) >>= whole_line) zero ∙ ap (λ e. Err e) (sym (fault_missing
        last) ∙ ap fault_of (sym w.1))

  pub after_wrong : (ws : List (List ℕ)) (e : RefutationError) → next_in last ws ≡ Err e →
      reads_after numbered variables n last ws ≡ Err e
  after_wrong ws e is =
      let w = next_wrong last ws e is in
      ap (reads_after numbered variables n last) w.2 ∙ after_some w.0 w.1 ∙ ap (λ x. x >>= (λ next.
      after_word numbered variables last n next w.1) >>= whole_line) w.3

-- ---- numbers that end a line

module _ {A : Type 0} (one : Bool × ℕ → Result A RefutationError) (step : List A → Step) where
  abbrev stepping : List A → Result Line RefutationError
  stepping numbers = Ok (Numbered (step numbers))

  abbrev pub numbers_step : Bool × ℕ → Bool → List (List ℕ) → Said
  numbers_step m last ws = numbers_from one last m ws >>= stepping >>= whole_line

  -- what is kept of the numbers says which step it is
  module _ {B : Type 0} (keep : List A → B) (of : B → Step)
      (same : (numbers : List A) → step numbers ≡ of (keep numbers))
      (m : Bool × ℕ) (last : Bool) (ws : List (List ℕ)) where
    abbrev kept_now : List A → Result (B × List (List ℕ)) RefutationError
    kept_now numbers = Ok (keep numbers, [])

    pub numbers_step_ok : (kept : B) (more : List (List ℕ)) → (numbers_from one last m ws >>=
        kept_now) ≡ Ok (kept, more) → numbers_step m last ws ≡ Ok (Numbered (of kept), more)
    numbers_step_ok kept more is =
        let b = bound_ok (numbers_from one last m ws) kept_now (kept, more) is in
        let p = pair_parts {A = B} {B = List (List ℕ)} (keep b.0, []) (kept, more) (kept_now
        b.0) refl b.2 in
        ap (λ x. x >>= stepping >>= whole_line) b.1 ∙ ap (λ (s : Step). whole_line (Numbered s))
        (same b.0 ∙ ap of p.0) ∙ ap (λ (list : List (List ℕ)). Ok (Numbered (of kept), list)) p.1

    pub numbers_step_err : (e : RefutationError) → (numbers_from one last m ws >>= kept_now) ≡
        Err e → numbers_step m last ws ≡ Err e
    numbers_step_err e is = ap (λ x. x >>= stepping >>= whole_line) (by (numbers_from one last
        m ws) is)
      where
        by : (x : Result (List A) RefutationError) → (x >>= kept_now) ≡ Err e → x ≡ Err e
        by (Ok y) h = absurd cc
        by (Err f) h = let same : f ≡ e = cc in ap (λ k. Err k) same

-- ---- a deletion

module _ (n : Bool × ℕ) (last : Bool) (ws : List (List ℕ)) where
  deleting : ℕ → Result Line RefutationError
  deleting number = numbers_in clause_number last ws >>= λ numbers. Ok (Numbered (Deletes numbers))

  deletion : reads_deleted n last ws ≡ (clause_number n >>= deleting >>= whole_line)
  unfolding after_word deleting
  deletion = refl

  pub deleted_refused : (e : RefutationError) → clause_number n ≡ Err e → reads_deleted n last ws ≡
      Err e
  deleted_refused e is = deletion ∙ ap (λ x. x >>= deleting >>= whole_line) is

  pub deleted_number : (k : ℕ) (m : Bool × ℕ) (more : List (List ℕ)) → clause_number n ≡ Ok k →
      next_number last ws ≡ Ok (m, more) → reads_deleted n last ws ≡ numbers_step clause_number
      Deletes m last more
  unfolding deleting
  deleted_number k m more is there = deletion ∙ ap (λ x. x >>= deleting >>= whole_line) is ∙ ap (λ
      x. x >>= (λ numbers. Ok (Numbered (Deletes numbers))) >>= whole_line) (numbers_next clause_number
      last ws more m there)

  pub deleted_number_wrong : (k : ℕ) (e : RefutationError) → clause_number n ≡ Ok k → next_number
      last ws ≡ Err e → reads_deleted n last ws ≡ Err e
  unfolding deleting
  deleted_number_wrong k e is there = deletion ∙ ap (λ x. x >>= deleting >>= whole_line) is ∙ ap (λ
      x. x >>= (λ numbers. Ok (Numbered (Deletes numbers))) >>= whole_line) (numbers_next_wrong
      clause_number last ws e there)

-- ---- an addition

abbrev pub added_after : Bool → ℕ → Bool × ℕ → List Lit → Bool → List (List ℕ) → Said
added_after numbered variables n clause last ws = after_clause numbered variables last n clause ws
    >>= whole_line

module _ (numbered : Bool) (variables : ℕ) (n : Bool × ℕ) (last : Bool) where
  abbrev clause_then : List Lit × List (List ℕ) → Result Line RefutationError
  clause_then rest = after_clause numbered variables last n rest.0 rest.1

  addition : (second : Bool × ℕ) (ws : List (List ℕ)) → reads_added numbered variables n second
      last ws ≡ (clause_from variables last second ws >>= clause_then >>= whole_line)
  unfolding after_word
  addition second ws = refl

  pub added_clause : (second : Bool × ℕ) (ws more : List (List ℕ)) (clause : List Lit) →
      reads_clause variables second [] last ws ≡ Ok (clause, more) → reads_added numbered variables
      n second last ws ≡ added_after numbered variables n clause last more
  added_clause second ws more clause is =
      let c = clause_is variables last second [] clause ws more is in
      addition second ws ∙ ap (λ x. x >>= clause_then >>= whole_line) c.1 ∙ ap (λ (own : List Lit).
      added_after numbered variables n own last more) c.2

  pub added_clause_wrong : (second : Bool × ℕ) (ws : List (List ℕ)) (e : RefutationError) →
      reads_clause variables second [] last ws ≡ Err e → reads_added numbered variables n second
      last ws ≡ Err e
  added_clause_wrong second ws e is = addition second ws ∙ ap (λ x. x >>= clause_then >>=
      whole_line) (clause_err variables last second [] ws e is)

  module _ (clause : List Lit) where
    added_none : added_after numbered variables n clause last [] ≡ (after_clause numbered variables
        last n clause [] >>= whole_line)
    unfolding after_clause
    added_none = refl

    hinted : (words : List (List ℕ)) → Bool × ℕ → Result Line RefutationError
    hinted words hint = clause_number n >>= λ number. numbers_from hint_number last hint words
        >>= λ numbers. Ok (Numbered (adds number clause numbers))

    added_some : (word : List ℕ) (more : List (List ℕ)) → added_after numbered variables n clause
        last (word ∷ more) ≡ (word_in word >>= number_of >>= hinted more >>= whole_line)
    unfolding after_clause hinted
    added_some word more = refl

    last_end : (b : Bool) → is_last (Some (end_of b)) ≡ b
    last_end true = refl
    last_end false = refl

    module _ (ws more : List (List ℕ)) where
      added_end : (end : End) → next_in last ws ≡ Ok (words.End end, more) → added_after numbered
          variables n clause last ws ≡ (after_clause numbered variables (is_last (Some end)) n clause
          [] >>= whole_line)
      added_end end is =
          let w = next_end_is last ws more end is in
          ap (added_after numbered variables n clause last) w.0 ∙ added_none
          ∙ ap (λ (b : Bool). after_clause numbered variables b n clause [] >>= whole_line) (sym (ap (λ
          e. is_last (Some e)) w.1 ∙ last_end last))

      pub added_end_ok : (end : End) (step : Line) → next_in last ws ≡ Ok (
        words.End end,
        more,
      ) → after_clause numbered variables (is_last (Some end)) n clause [] ≡ Ok step →
          added_after numbered variables n clause last ws ≡ Ok (step, more)
      added_end_ok end step is there =
          let w = next_end_is last ws more end is in
          added_end end is ∙ ap (λ x. x >>= whole_line) there ∙ ap (λ (list : List (List ℕ)). Ok
          (step, list)) (sym w.2)

      pub added_end_err : (end : End) (e : RefutationError) → next_in last ws ≡ Ok (
        words.End end,
        more,
      ) → after_clause numbered variables (is_last (Some end)) n clause [] ≡ Err e →
          added_after numbered variables n clause last ws ≡ Err e
      added_end_err end e is there = added_end end is ∙ ap (λ x. x >>= whole_line) there

      pub added_letter : next_in last ws ≡ Ok (words.Deletes, more) → added_after numbered
          variables n clause last ws ≡ Err errors.Line
      added_letter is =
          let w = next_letter_is last ws more is in
          ap (added_after numbered variables n clause last) w.1 ∙ added_some w.0 more ∙ ap (λ x. x
          >>= number_of >>= hinted more >>= whole_line) w.2

      module _ (hint : code_number.Number) (is : next_in last ws ≡ Ok (words.Number hint, more))
        where
          added_hint : added_after numbered variables n clause last ws ≡ (hinted more (said_number
              hint) >>= whole_line)
          added_hint =
              let w = next_number_is last ws more hint is in
              ap (added_after numbered variables n clause last) w.1 ∙ added_some w.0 more ∙ ap (λ x.
              x >>= number_of >>= hinted more >>= whole_line) w.2

          pub added_refused : (e : RefutationError) → clause_number n ≡ Err e → added_after numbered
              variables n clause last ws ≡ Err e
          unfolding hinted
          added_refused e there = added_hint ∙ ap (λ x. x >>= (λ number. numbers_from
              hint_number last (said_number hint) more >>= λ numbers. Ok (Numbered (adds number clause
              numbers))) >>= whole_line) there

          pub added_hints : (k : ℕ) → clause_number n ≡ Ok k → added_after numbered variables n
              clause last ws ≡ numbers_step hint_number (adds k clause) (said_number hint) last
              more
          unfolding hinted
          added_hints k there = added_hint ∙ ap (λ x. x >>= (λ number. numbers_from hint_number
              last (said_number hint) more >>= λ numbers. Ok (Numbered (adds number clause numbers))) >>=
              whole_line) there

    pub added_wrong : (ws : List (List ℕ)) (e : RefutationError) → next_in last ws ≡ Err e →
        added_after numbered variables n clause last ws ≡ Err e
    added_wrong ws e is =
        let w = next_wrong last ws e is in
        ap (added_after numbered variables n clause last) w.2 ∙ added_some w.0 w.1 ∙ ap (λ x. x >>=
        number_of >>= hinted w.1 >>= whole_line) w.3

-- ---- whole lines

line_by_first : (numbered : Bool) (variables : ℕ) (last : Bool) (word : List ℕ) (ws : List (List
    ℕ)) → line_in numbered variables last word ws ≡ (first_in word >>= λ first. after_first
    numbered variables last first ws)
unfolding line_in first_in
line_by_first numbered variables last word ws = by (begins 97 word)
  where
    then : text.Word → Result Line RefutationError
    then first = after_first numbered variables last first ws

    by : (b : Bool) → cond b (Err errors.Binary) (word_in word >>= then) ≡ (cond b (Err
        errors.Binary) (word_in word) >>= then)
    by true = refl
    by false = refl

first_held : (word : List ℕ) (n : code_number.Number) → (first_in word >>= λ x. Ok (held_word x)) ≡
    Ok (words.Number n) → first_in word ≡ Ok (text.Number n.positive n.value)
first_held word n is = let b = bound_ok (first_in word) (λ x. Ok (held_word x)) (words.Number n) is
    in b.1 ∙ ap (λ y. Ok y) (held_number b.0 n cc)

first_letter : (word : List ℕ) → (first_in word >>= λ x. Ok (held_word x)) ≡ Ok words.Deletes →
    first_in word ≡ Ok text.Deletes
first_letter word is = let b = bound_ok (first_in word) (λ x. Ok (held_word x)) words.Deletes is in
    b.1 ∙ ap (λ y. Ok y) (held_letter b.0 cc)

module _ (numbered : Bool) (variables : ℕ) (last : Bool) (word : List ℕ) (ws : List (List ℕ)) where
  pub line_wrong : (e : RefutationError) → first_in word ≡ Err e → line_in numbered variables last
      word ws ≡ Err e
  line_wrong e is = line_by_first numbered variables last word ws ∙ ap (λ x. x >>= λ first.
      after_first numbered variables last first ws) is

  module _ (n : code_number.Number) (is : (first_in word >>= λ x. Ok (held_word x)) ≡ Ok
      (words.Number n)) where
    line_numbered : line_in numbered variables last word ws ≡ after_number numbered variables last
        (said_number n) ws
    unfolding after_first
    line_numbered = line_by_first numbered variables last word ws ∙ ap (λ x. x >>= λ first.
        after_first numbered variables last first ws) (first_held word n is)

    pub line_after_ok : (step : Line) (more : List (List ℕ)) → reads_after numbered
        variables (said_number n) last ws ≡ Ok (step, more) → line_in numbered variables last word
        ws ≡ Ok step
    line_after_ok step more there =
        let b = bound_ok (after_number numbered variables last (said_number n) ws) whole_line
        (step, more) there in
        let p = pair_parts {A = Line} {B = List (List ℕ)} (b.0, []) (step, more) (whole_line
        b.0) refl b.2 in
        line_numbered ∙ b.1 ∙ ap (λ s. Ok s) p.0

    pub line_after_err : (e : RefutationError) → reads_after numbered variables (said_number n)
        last ws ≡ Err e → line_in numbered variables last word ws ≡ Err e
    line_after_err e there = line_numbered ∙ by (after_number numbered variables last (said_number
        n) ws) there
      where
        by : (x : Result Line RefutationError) → (x >>= whole_line) ≡ Err e → x ≡ Err e
        by (Ok y) h = absurd cc
        by (Err f) h = let same : f ≡ e = cc in ap (λ k. Err k) same

  module _ (is : (first_in word >>= λ x. Ok (held_word x)) ≡ Ok words.Deletes) where
    letter_any_first : after_first numbered variables last text.Deletes ws ≡ after_first false
        variables last text.Deletes ws
    unfolding after_first
    letter_any_first = refl

    line_dropped : line_in numbered variables last word ws ≡ after_first false variables last
        text.Deletes ws
    line_dropped = line_by_first numbered variables last word ws ∙ ap (λ x. x >>= λ first.
        after_first numbered variables last first ws) (first_letter word is) ∙ letter_any_first

    pub line_dropped_ok : (step : Line) (more : List (List ℕ)) → reads_dropped variables
        last ws ≡ Ok (step, more) → line_in numbered variables last word ws ≡ Ok step
    line_dropped_ok step more there =
        let b = bound_ok (after_first false variables last text.Deletes ws) whole_line (step, more)
        there in
        let p = pair_parts {A = Line} {B = List (List ℕ)} (b.0, []) (step, more) (whole_line
        b.0) refl b.2 in
        line_dropped ∙ b.1 ∙ ap (λ s. Ok s) p.0

    pub line_dropped_err : (e : RefutationError) → reads_dropped variables last ws ≡ Err e →
        line_in numbered variables last word ws ≡ Err e
    line_dropped_err e there = line_dropped ∙ by (after_first false variables last text.Deletes ws)
        there
      where
        by : (x : Result Line RefutationError) → (x >>= whole_line) ≡ Err e → x ≡ Err e
        by (Ok y) h = absurd cc
        by (Err f) h = let same : f ≡ e = cc in ap (λ k. Err k) same

-- ---- a clause that ends a line

missing_last : (end : End) → missing (is_last (Some end)) ≡ fault_of end
missing_last ends.Line = refl
missing_last ends.Stream = refl

module _ (numbered : Bool) (variables : ℕ) (end : End) (n : Bool × ℕ) (clause : List Lit) where
  pub end_numbered : numbered ≡ true → after_clause numbered variables (is_last (Some end)) n clause
      [] ≡ Err (fault_of end)
  unfolding after_clause
  end_numbered is = rw is (ap (λ e. Err e) (missing_last end))

  pub end_refused : (e : RefutationError) → numbered ≡ false → literal_of variables n ≡ Err e →
      after_clause numbered variables (is_last (Some end)) n clause [] ≡ Err e
  unfolding after_clause
  end_refused e is there = rw (is, there) refl

  pub end_added : (lit : Lit) (deletes : Bool) (step : Step) (now : List Lit) → numbered ≡ false
      → deletes ≡ false → now ≡ clause ++ lit ∷ [] → literal_of variables n ≡ Ok lit
      → after_clause numbered variables (is_last (Some end)) n clause []
      ≡ Ok (cond numbered (Numbered step) (Plain (cond deletes (Drops now) (Learns now))))
  unfolding after_clause
  end_added lit deletes step now is kept more there = rw (is, kept, more, there) refl
