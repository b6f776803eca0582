-- What the parts of a line are.
use Rattle.aig_base.proofs.Words.{◌≡◌, ◌⊎◌, inl, inr, ℕ, Bool, true, false, if◌then◌else◌, List, [], ◌∷◌, ◌++◌, Result, Ok, Err, refl, sym, ap, ◌∙◌, append_assoc, append-nil}
use Rattle.aig_base.specs.declared.logic.literal.Lit.{Lit}
use Rattle.aig_refutation.specs.declared.error.RefutationError.{RefutationError}
use Rattle.aig_refutation.specs.declared.error.RefutationError.TheVariants as errors
use Rattle.aig_refutation.specs.declared.words.End.{End}
use Rattle.aig_refutation.specs.declared.words.Number as code_number
use Rattle.aig_refutation.specs.declared.words.Word as code
use Rattle.aig_refutation.specs.declared.words.Word.TheVariants as words
use Rattle.aig_refutation.specs.Proofs.{clause_from, clause_in, ended, groups_at, hint_number, hints_at, is_zero, literal_of, missing, number_of, numbers_from, numbers_in, with_first, with_number}
use Rattle.aig_refutation.specs.Reading.{appended, appended_numbers, parted, reads_clause, reads_hints, reads_numbers}
use Rattle.aig_refutation.specs.Skipping.{end_line}
use Rattle.aig_refutation.specs.Text as text
use Rattle.aig_refutation.specs.Text.{◌>>=◌, word_in}
use Rattle.aig_refutation.specs.Tokens.{end_of, fault_of, held_word, next_in, next_number, said_number}

module _ {A B : Type 0} (x : Result A RefutationError) (f : A → Result B RefutationError) where
  pub bind_ok : (a : A) → x ≡ Ok a → (x >>= f) ≡ f a
  bind_ok a is = ap (λ y. y >>= f) is

  pub bind_err : (e : RefutationError) → x ≡ Err e → (x >>= f) ≡ Err e
  bind_err e is = ap (λ y. y >>= f) is

pub bound_ok : {A B : Type 0} (x : Result A RefutationError) (f : A → Result B RefutationError) (b
    : B) → (x >>= f) ≡ Ok b → (a : A) × (x ≡ Ok a) × (f a ≡ Ok b)
bound_ok (Ok a) f b is = (a, refl, is)
bound_ok (Err e) f b is = absurd cc

-- parts of equal values
pub pair_parts : {A B : Type 0} (x y : A × B) (r : Result (A × B) RefutationError) → r ≡ Ok x → r ≡
    Ok y → (x.0 ≡ y.0) × (x.1 ≡ y.1)
pair_parts x y r p q = let e : x ≡ y = cc in (ap (λ z. z.0) e, ap (λ z. z.1) e)

-- a value, and these words are left
abbrev then_left : {A : Type 0} → List (List ℕ) → A → Result (A × List (List ℕ)) RefutationError
then_left more a = Ok (a, more)

-- a word as it is held, and these words are left
abbrev held_left : List (List ℕ) → text.Word → Result (code.Word × List (List ℕ)) RefutationError
held_left more x = Ok (held_word x, more)

-- the line has ended
abbrev line_left : Unit {0} → Result (Unit {0} × List (List ℕ)) RefutationError
line_left end = Ok (tt, [])

-- an error stays
err_of : {A B : Type 0} (f : A → B) (x : Result A RefutationError) (e : RefutationError) → (x >>= λ
    a. Ok (f a)) ≡ Err e → x ≡ Err e
err_of f (Ok a) e h = absurd cc
err_of f (Err g) e h = let same : g ≡ e = cc in ap (λ k. Err k) same

err_on : {A B : Type 0} (f : A → Result B RefutationError) {C : Type 0} (k : A → C) (x : Result A
    RefutationError) (e : RefutationError) → (x >>= λ a. Ok (k a)) ≡ Err e → (x >>= f) ≡ Err e
err_on f k x e h = bind_err x f e (err_of k x e h)

-- ---- the next word

-- how the next word was read: it is the end of the line, or the first word
abbrev NextIs : Bool → List (List ℕ) → List (List ℕ) → code.Word → Type 0
NextIs last ws rest w =
    ((ws ≡ []) × (w ≡ words.End (end_of last)) × (rest ≡ []))
    ⊎ ((word : List ℕ) × (y : text.Word) × (ws ≡ word ∷ rest) × (word_in word ≡ Ok y) × (held_word
    y ≡ w))

pub next_is : (last : Bool) (ws rest : List (List ℕ)) (w : code.Word) → next_in last ws ≡ Ok (
  w,
  rest,
) → NextIs last ws rest w
unfolding next_in
next_is last [] rest w is =
    let p = pair_parts {A = code.Word} {B = List (List ℕ)} (w, rest) (words.End (end_of last), [])
    (next_in last []) is refl in
    inl (refl, p.0, p.1)
next_is last (word ∷ more) rest w is =
    let b = bound_ok (word_in word) (held_left more) (w, rest) is in
    let p = pair_parts {A = code.Word} {B = List (List ℕ)} (held_word b.0, more) (w, rest)
    (held_left more b.0) refl b.2 in
    inr (word, b.0, ap (λ (list : List (List ℕ)). word ∷ list) p.1, b.1, p.0)

pub next_wrong : (last : Bool) (ws : List (List ℕ)) (e : RefutationError) → next_in last ws ≡ Err e
    → (word : List ℕ) × (more : List (List ℕ)) × (ws ≡ word ∷ more) × (word_in word ≡ Err e)
unfolding next_in
next_wrong last [] e is = absurd cc
next_wrong last (word ∷ more) e is = (
  word,
  more,
  refl,
  err_of {B = code.Word × List (List ℕ)} (λ
      x. (held_word x, more)) (word_in word) e is,
)

pub fault_missing : (last : Bool) → fault_of (end_of last) ≡ missing last
fault_missing true = refl
fault_missing false = refl

-- a word that is held as a number, as the letter, or as the end
pub held_number : (y : text.Word) (n : code_number.Number) → held_word y ≡ words.Number n → y ≡
    text.Number n.positive n.value
held_number (text.Number positive value) n is = let same : record {
  value = value;
  positive =
      positive;
} ≡ n = cc in rw (← same) refl
held_number text.Deletes n is = absurd cc

pub held_letter : (y : text.Word) → held_word y ≡ words.Deletes → y ≡ text.Deletes
held_letter (text.Number positive value) is = absurd cc
held_letter text.Deletes is = refl

held_no_end : (y : text.Word) (end : End) → held_word y ≡ words.End end → ⊥
held_no_end (text.Number positive value) end is = cc
held_no_end text.Deletes end is = cc

module _ (last : Bool) (ws more : List (List ℕ)) where
  -- the first word is this number
  pub next_number_is : (n : code_number.Number) → next_in last ws ≡ Ok (words.Number n, more) →
      (word : List ℕ) × (ws ≡ word ∷ more) × (word_in word ≡ Ok (text.Number n.positive n.value))
  next_number_is n is = elim (next_is last ws more (words.Number n) is) [
    | inl none ↦ absurd (let h = none.1 in cc)
    | inr some ↦ (some.0, some.2, some.3 ∙ ap (λ y. Ok y) (held_number some.1 n some.4))
  ]

  pub next_letter_is : next_in last ws ≡ Ok (words.Deletes, more) → (word : List ℕ) × (ws ≡ word ∷
      more) × (word_in word ≡ Ok text.Deletes)
  next_letter_is is = elim (next_is last ws more words.Deletes is) [
    | inl none ↦ absurd (let h = none.1 in cc)
    | inr some ↦ (some.0, some.2, some.3 ∙ ap (λ y. Ok y) (held_letter some.1 some.4))
  ]

  pub next_end_is : (end : End) → next_in last ws ≡ Ok (words.End end, more) → (ws ≡ []) × (end ≡
      end_of last) × (more ≡ [])
  next_end_is end is = elim (next_is last ws more (words.End end) is) [
    | inl none ↦ (none.0, (let h = none.1 in cc), none.2)
    | inr some ↦ absurd (held_no_end some.1 end some.4)
  ]

-- ---- a number that is next

taken_number : (last : Bool) (word : List ℕ) (more : List (List ℕ)) → next_number last (word ∷
    more) ≡ (word_in word >>= number_of >>= λ n. Ok (n, more))
unfolding next_number
taken_number last word more = refl

taken_none : (last : Bool) → next_number last [] ≡ Err (missing last)
unfolding next_number
taken_none last = refl

module _ (last : Bool) (ws more : List (List ℕ)) where
  pub number_taken : (n : code_number.Number) → next_in last ws ≡ Ok (words.Number n, more) →
      next_number last ws ≡ Ok (said_number n, more)
  number_taken n is =
      let w = next_number_is last ws more n is in
      ap (next_number last) w.1 ∙ taken_number last w.0 more ∙ ap (λ x. x >>= number_of >>= λ m. Ok
      (m, more)) w.2

  pub number_letter : next_in last ws ≡ Ok (words.Deletes, more) → next_number last ws ≡ Err
      errors.Line
  number_letter is =
      let w = next_letter_is last ws more is in
      ap (next_number last) w.1 ∙ taken_number last w.0 more ∙ ap (λ x. x >>= number_of >>= λ m. Ok
      (m, more)) w.2

  pub number_end : (end : End) → next_in last ws ≡ Ok (words.End end, more) → next_number last ws ≡
      Err (fault_of end)
  number_end end is =
      let w = next_end_is last ws more end is in
      ap (next_number last) w.0 ∙ taken_none last ∙ ap (λ e. Err e) (sym (fault_missing last) ∙ ap
      fault_of (sym w.1))

pub number_wrong : (last : Bool) (ws : List (List ℕ)) (e : RefutationError) → next_in last ws ≡ Err
    e → next_number last ws ≡ Err e
number_wrong last ws e is =
    let w = next_wrong last ws e is in
    ap (next_number last) w.2 ∙ taken_number last w.0 w.1 ∙ ap (λ x. x >>= number_of >>= λ m. Ok
    (m, w.1)) w.3

-- the number that was taken
pub number_is : (last : Bool) (ws more : List (List ℕ)) (n : Bool × ℕ) → next_number last ws ≡ Ok
    (n, more) → (word : List ℕ) × (ws ≡ word ∷ more) × ((word_in word >>= number_of) ≡ Ok n)
unfolding next_number
number_is last [] more n is = absurd cc
number_is last (word ∷ rest) more n is =
    let b = bound_ok (word_in word >>= number_of) (then_left rest) (n, more) is in
    let p = pair_parts {A = Bool × ℕ} {B = List (List ℕ)} (b.0, rest) (n, more) (then_left rest
    b.0) refl b.2 in
    (word, ap (λ (list : List (List ℕ)). word ∷ list) p.1, b.1 ∙ ap (λ m. Ok m) p.0)

-- ---- the end of the line

ended_none : ended [] ≡ Ok tt
unfolding ended
ended_none = refl

ended_more : (word : List ℕ) (more : List (List ℕ)) → ended (word ∷ more) ≡ (word_in word >>= λ x.
    Err errors.Line)
unfolding ended
ended_more word more = refl

module _ (last : Bool) (ws more : List (List ℕ)) where
  pub finish_end : (end : End) → next_in last ws ≡ Ok (words.End end, more) → end_line last ws ≡ Ok
      (tt, more)
  finish_end end is =
      let w = next_end_is last ws more end is in
      ap (end_line last) w.0 ∙ ap (λ x. x >>= λ done. Ok (tt, [])) ended_none ∙ ap (λ (list : List
      (List ℕ)). Ok (tt, list)) (sym w.2)

  pub finish_more : (w : code.Word) → ((end : End) → w ≡ words.End end → ⊥) → next_in last ws ≡ Ok
      (w, more) → end_line last ws ≡ Err errors.Line
  finish_more w differs is = elim (next_is last ws more w is) [
    | inl none ↦ absurd (differs (end_of last) none.1)
    | inr some ↦ ap (end_line last) some.2 ∙ ap (λ x. x >>= λ done. Ok (tt, [])) (ended_more some.0
        more ∙ ap (λ y. y >>= λ x. Err errors.Line) some.3)
  ]

pub finish_wrong : (last : Bool) (ws : List (List ℕ)) (e : RefutationError) → next_in last ws ≡ Err
    e → end_line last ws ≡ Err e
finish_wrong last ws e is =
    let w = next_wrong last ws e is in
    ap (end_line last) w.2 ∙ ap (λ x. x >>= λ done. Ok (tt, [])) (ended_more w.0 w.1 ∙ ap (λ y. y
    >>= λ x. Err errors.Line) w.3)

pub ended_ok : (last : Bool) (ws more : List (List ℕ)) (done : Unit {0}) → end_line last ws ≡ Ok
    (done, more) → (ended ws ≡ Ok tt) × (more ≡ [])
ended_ok last ws more done is =
    let b = bound_ok (ended ws) line_left (done, more) is in
    let p = pair_parts {A = Unit {0}} {B = List (List ℕ)} (done, more) (tt, []) (line_left b.0) b.2
    refl in
    (b.1, p.1)

pub ended_err : (last : Bool) (ws : List (List ℕ)) (e : RefutationError) → end_line last ws ≡ Err e
    → ended ws ≡ Err e
ended_err last ws e is = err_of {B = Unit {0} × List (List ℕ)} (λ end. (tt, [])) (ended ws) e is

-- ---- clauses

module _ (variables : ℕ) (last : Bool) where
  -- a clause whose first number is next
  pub clause_next : (ws more : List (List ℕ)) (n : Bool × ℕ) → next_number last ws ≡ Ok (n, more) →
      clause_in variables last ws ≡ clause_from variables last n more
  unfolding clause_in clause_from
  clause_next ws more n is = let w = number_is last ws more n is in ap (clause_in variables last)
      w.1 ∙ ap (λ x. x >>= λ m. clause_from variables last m more) w.2

  pub clause_next_wrong : (ws : List (List ℕ)) (e : RefutationError) → next_number last ws ≡ Err e
      → clause_in variables last ws ≡ Err e
  unfolding clause_in clause_from next_number
  clause_next_wrong [] e is = cc
  clause_next_wrong (word ∷ more) e is = err_on (λ n. clause_from variables last n more) {C = (Bool
      × ℕ) × List (List ℕ)} (λ n. (n, more)) (word_in word >>= number_of) e is

  module _ (n : Bool × ℕ) (lits : List Lit) (ws : List (List ℕ)) where
    pub clause_done : is_zero n ≡ true → reads_clause variables n lits last ws ≡ Ok (lits, ws)
    unfolding clause_from
    clause_done is = rw is (ap (λ (list : List Lit). Ok (list, ws)) (append-nil lits))

    module _ (more : is_zero n ≡ false) where
      clause_goes : clause_from variables last n ws ≡ (literal_of variables n >>= λ lit. clause_in
          variables last ws >>= with_first lit)
      unfolding clause_from
      clause_goes = rw more refl

      pub clause_refused : (e : RefutationError) → literal_of variables n ≡ Err e → reads_clause
          variables n lits last ws ≡ Err e
      clause_refused e is = ap (λ x. x >>= appended lits) (clause_goes ∙ bind_err (literal_of
          variables n) (λ lit. clause_in variables last ws >>= with_first lit) e is)

      module _ (lit : Lit) (is : literal_of variables n ≡ Ok lit) where
        clause_lit : reads_clause variables n lits last ws ≡ (clause_in variables last ws >>=
            with_first lit >>= appended lits)
        clause_lit = ap (λ x. x >>= appended lits) (clause_goes ∙ bind_ok (literal_of variables n)
            (λ l. clause_in variables last ws >>= with_first l) lit is)

        pub clause_more : (m : Bool × ℕ) (rest : List (List ℕ)) → next_number last ws ≡ Ok (
          m,
          rest,
        ) → reads_clause variables n lits last ws ≡ reads_clause variables m (lits ++ lit ∷
            []) last rest
        clause_more m rest there = clause_lit ∙ ap (λ x. x >>= with_first lit >>= appended lits)
            (clause_next ws rest m there) ∙ by (clause_from variables last m rest)
          where
            by : (x : Result (List Lit × List (List ℕ)) RefutationError) → (x >>= with_first lit
                >>= appended lits) ≡ (x >>= appended (lits ++ lit ∷ []))
            by (Ok y) = ap (λ (list : List Lit). Ok (list, y.1)) (sym (append_assoc lits (lit ∷ [])
                y.0))
            by (Err e) = refl

        pub clause_broken : (e : RefutationError) → next_number last ws ≡ Err e → reads_clause
            variables n lits last ws ≡ Err e
        clause_broken e there = clause_lit ∙ ap (λ x. x >>= with_first lit >>= appended lits)
            (clause_next_wrong ws e there)

-- the clause that was read
pub clause_is : (variables : ℕ) (last : Bool) (n : Bool × ℕ) (lits clause : List Lit) (ws more :
    List (List ℕ)) → reads_clause variables n lits last ws ≡ Ok (clause, more)
    → (own : List Lit) × (clause_from variables last n ws ≡ Ok (own, more)) × (lits ++ own ≡ clause)
clause_is variables last n lits clause ws more is =
    let b = bound_ok (clause_from variables last n ws) (appended lits) (clause, more) is in
    let p = pair_parts {A = List Lit} {B = List (List ℕ)} (lits ++ b.0.0, b.0.1) (clause, more)
    (appended lits b.0) refl b.2 in
    (b.0.0, b.1 ∙ ap (λ (list : List (List ℕ)). Ok (b.0.0, list)) p.1, p.0)

pub clause_err : (variables : ℕ) (last : Bool) (n : Bool × ℕ) (lits : List Lit) (ws : List (List
    ℕ)) (e : RefutationError) → reads_clause variables n lits last ws ≡ Err e
    → clause_from variables last n ws ≡ Err e
clause_err variables last n lits ws e is = err_of {B = List Lit × List (List ℕ)} (λ x. (
  lits ++
      x.0,
  x.1,
)) (clause_from variables last n ws) e is

-- ---- numbers of clauses

module _ {A : Type 0} (one : Bool × ℕ → Result A RefutationError) (last : Bool) where
  pub numbers_next : (ws more : List (List ℕ)) (n : Bool × ℕ) → next_number last ws ≡ Ok (n, more)
      → numbers_in one last ws ≡ numbers_from one last n more
  unfolding numbers_in numbers_from
  numbers_next ws more n is = let w = number_is last ws more n is in ap (numbers_in one last)
      w.1 ∙ ap (λ x. x >>= λ m. numbers_from one last m more) w.2

  pub numbers_next_wrong : (ws : List (List ℕ)) (e : RefutationError) → next_number last ws ≡ Err e
      → numbers_in one last ws ≡ Err e
  unfolding numbers_in numbers_from next_number
  numbers_next_wrong [] e is = cc
  numbers_next_wrong (word ∷ more) e is = err_on (λ n. numbers_from one last n more) {C =
      (Bool × ℕ) × List (List ℕ)} (λ n. (n, more)) (word_in word >>= number_of) e is

  module _ (n : Bool × ℕ) (numbers : List A) (ws : List (List ℕ)) where
    numbers_zero : is_zero n ≡ true → numbers_from one last n ws ≡ (ended ws >>= λ end. Ok [])
    unfolding numbers_from
    numbers_zero is = rw is refl

    pub numbers_done : is_zero n ≡ true → (rest : List (List ℕ)) (done : Unit {0}) → end_line last
        ws ≡ Ok (done, rest) → reads_numbers one n numbers last ws ≡ Ok (numbers, rest)
    numbers_done is rest done there =
        let w = ended_ok last ws rest done there in
        ap (λ x. x >>= appended_numbers numbers) (numbers_zero is ∙ ap (λ x. x >>= λ end. Ok [])
        w.0)
        ∙ ap (λ (list : List A). Ok (list, [])) (append-nil numbers) ∙ ap (λ (list : List (List
        ℕ)). Ok (numbers, list)) (sym w.1)

    pub numbers_not_done : is_zero n ≡ true → (e : RefutationError) → end_line last ws ≡ Err e →
        reads_numbers one n numbers last ws ≡ Err e
    numbers_not_done is e there =
        ap (λ x. x >>= appended_numbers numbers) (numbers_zero is ∙ ap (λ x. x >>= λ end. Ok [])
        (ended_err last ws e there))

    module _ (more : is_zero n ≡ false) where
      numbers_go : reads_numbers one n numbers last ws ≡ (one n >>= (λ x. numbers_in one last ws
          >>= with_number x) >>= appended_numbers numbers)
      unfolding numbers_from
      numbers_go = rw more refl

      pub numbers_refused : (e : RefutationError) → one n ≡ Err e → reads_numbers one n numbers last
          ws ≡ Err e
      numbers_refused e is = numbers_go ∙ ap (λ y. y >>= (λ x. numbers_in one last ws >>=
          with_number x) >>= appended_numbers numbers) is

      module _ (x : A) (is : one n ≡ Ok x) where
        numbers_on : reads_numbers one n numbers last ws ≡ (numbers_in one last ws >>=
            with_number x >>= appended_numbers numbers)
        numbers_on = numbers_go ∙ ap (λ y. y >>= (λ x. numbers_in one last ws >>=
            with_number x) >>= appended_numbers numbers) is

        pub numbers_more : (m : Bool × ℕ) (rest : List (List ℕ)) → next_number last ws ≡ Ok (
          m,
          rest,
        ) → reads_numbers one n numbers last ws ≡ reads_numbers one m (numbers ++
            x ∷ []) last rest
        numbers_more m rest there = numbers_on ∙ ap (λ r. r >>= with_number x >>=
            appended_numbers numbers) (numbers_next ws rest m there) ∙ by (numbers_from one
            last m rest)
          where
            by : (r : Result (List A) RefutationError) → (r >>= with_number x >>=
                appended_numbers numbers) ≡ (r >>= appended_numbers (numbers ++ x ∷ []))
            by (Ok y) = ap (λ (list : List A). Ok (list, [])) (sym (append_assoc numbers (x ∷ [])
                y))
            by (Err e) = refl

        pub numbers_broken : (e : RefutationError) → next_number last ws ≡ Err e → reads_numbers
            one n numbers last ws ≡ Err e
        numbers_broken e there = numbers_on ∙ ap (λ r. r >>= with_number x >>= appended_numbers
            numbers) (numbers_next_wrong ws e there)

-- hints, and those for other clauses
module _ (last : Bool) (first : Bool × ℕ) (ws : List (List ℕ)) where
  pub parted_ok : (numbers : List (Bool × ℕ)) (more : List (List ℕ))
      → reads_numbers hint_number first [] last ws ≡ Ok (numbers, more)
      → reads_hints first last ws ≡ Ok ((hints_at numbers, groups_at numbers), more)
  parted_ok numbers more is = by (numbers_from hint_number last first ws) is
    where
      by : (x : Result (List (Bool × ℕ)) RefutationError)
          → (x >>= appended_numbers []) ≡ Ok (numbers, more)
          → (x >>= parted) ≡ Ok ((hints_at numbers, groups_at numbers), more)
      by (Ok y) h =
          let p = pair_parts {A = List (Bool × ℕ)} {B = List (List ℕ)} (y, []) (numbers, more)
          (Ok (y, [])) refl h in
          ap (λ (list : List (Bool × ℕ)). Ok ((hints_at list, groups_at list), [])) p.0
          ∙ ap (λ (list : List (List ℕ)). Ok ((hints_at numbers, groups_at numbers), list)) p.1
      by (Err e) h = absurd cc

  pub parted_err : (e : RefutationError) → reads_numbers hint_number first [] last ws ≡ Err e
      → reads_hints first last ws ≡ Err e
  parted_err e is = by (numbers_from hint_number last first ws) is
    where
      by : (x : Result (List (Bool × ℕ)) RefutationError) → (x >>= appended_numbers []) ≡ Err e
          → (x >>= parted) ≡ Err e
      by (Ok y) h = absurd cc
      by (Err f) h = let same : f ≡ e = cc in ap (λ k. Err k) same

-- a number more behind those of a line
module _ (n : Bool × ℕ) where
  pub hint_pushed : (numbers : List (Bool × ℕ)) → n.0 ≡ true → groups_at numbers ≡ []
      → (hints_at (numbers ++ n ∷ []) ≡ hints_at numbers ++ n.1 ∷ [])
      × (groups_at (numbers ++ n ∷ []) ≡ groups_at numbers)
  hint_pushed [] positive none = rw positive (refl, refl)
  hint_pushed (m ∷ numbers) positive none = by m.0 none (hint_pushed numbers positive)
    where
      by : (b : Bool) → (if b then groups_at numbers else m ∷ numbers) ≡ []
          → (groups_at numbers ≡ []
          → (hints_at (numbers ++ n ∷ []) ≡ hints_at numbers ++ n.1 ∷ [])
          × (groups_at (numbers ++ n ∷ []) ≡ groups_at numbers))
          → ((if b then m.1 ∷ hints_at (numbers ++ n ∷ []) else [])
          ≡ (if b then m.1 ∷ hints_at numbers else []) ++ n.1 ∷ [])
          × ((if b then groups_at (numbers ++ n ∷ []) else m ∷ (numbers ++ n ∷ []))
          ≡ (if b then groups_at numbers else m ∷ numbers))
      by true e later =
          let h = later e in (ap (λ (list : List ℕ). m.1 ∷ list) h.0, h.1)
      by false e later = absurd cc

  pub group_pushed : (numbers : List (Bool × ℕ)) → (n.0 ≡ true → groups_at numbers ≡ [] → ⊥)
      → (hints_at (numbers ++ n ∷ []) ≡ hints_at numbers)
      × (groups_at (numbers ++ n ∷ []) ≡ groups_at numbers ++ n ∷ [])
  group_pushed [] behind = by n.0 (λ e. behind e refl)
    where
      by : (b : Bool) → (b ≡ true → ⊥) → ((if b then n.1 ∷ [] else []) ≡ [])
          × ((if b then [] else n ∷ []) ≡ n ∷ [])
      by true wrong = absurd (wrong refl)
      by false wrong = (refl, refl)
  group_pushed (m ∷ numbers) behind = by m.0 behind (group_pushed numbers)
    where
      by : (b : Bool)
          → (n.0 ≡ true → (if b then groups_at numbers else m ∷ numbers) ≡ [] → ⊥)
          → ((n.0 ≡ true → groups_at numbers ≡ [] → ⊥)
          → (hints_at (numbers ++ n ∷ []) ≡ hints_at numbers)
          × (groups_at (numbers ++ n ∷ []) ≡ groups_at numbers ++ n ∷ []))
          → ((if b then m.1 ∷ hints_at (numbers ++ n ∷ []) else [])
          ≡ (if b then m.1 ∷ hints_at numbers else []))
          × ((if b then groups_at (numbers ++ n ∷ []) else m ∷ (numbers ++ n ∷ []))
          ≡ (if b then groups_at numbers else m ∷ numbers) ++ n ∷ [])
      by true wrong later =
          let h = later wrong in (ap (λ (list : List ℕ). m.1 ∷ list) h.0, h.1)
      by false wrong later = (refl, refl)
