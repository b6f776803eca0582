-- How the word of a literal is read.
use Rattle.aig_base.proofs.Words.{◌≡◌, ◌≢◌, ℕ, ◌≤◌, Bool, true, false, List, [], ◌∷◌, ◌++◌, Option, Some, None, Result, Ok, Err, refl, sym, ap, subst, ◌∙◌, arith}
use Rattle.aig_lexer.specs.Takes.{Feed, Steps}
use Rattle.aig_lexer.specs.Digits.{number_after}
use Rattle.aig_lexer.proofs.Digits.{number_first}
use Rattle.aig_lexer.proofs.Feeds.{steps_byte}
use Rattle.aig_witness.specs.declared.solutions.error.SolutionError.{SolutionError}
use Rattle.aig_witness.specs.declared.solutions.error.SolutionError.TheVariants as errors
use Rattle.aig_witness.specs.declared.solutions.words.End.{End}
use Rattle.aig_witness.specs.declared.solutions.words.End.TheVariants.{Blank, Line, Stream}
use Rattle.aig_witness.specs.Lines.{GivesNumber, GivesWord, GoesOnBy, IsLeft, IsNoMore, Leaves, Says, TellsError, end_of}
use Rattle.aig_witness.specs.SolverAnswers.{lines_after, literal_in, words_from}
use Rattle.aig_witness.proofs.Digits.{digit_goes}
use Rattle.aig_witness.proofs.Leaving.{leaves_byte, leaves_start, says_call, says_end}
use Rattle.aig_witness.proofs.Numbers.{literal_minus, literal_minus_none, literal_none, literal_plain}
use Rattle.aig_witness.proofs.Texts.{lines_on, words_end, words_none, words_on}

-- an error that bytes have
abbrev pub IsRead : SolutionError → Type 0
IsRead errors.Stream = ⊥
IsRead errors.NoBad = ⊥
IsRead (errors.Check e) = ⊥
IsRead e = Unit {0}

pub read_is : {A : Type 0} (known e : SolutionError) → IsRead known
    → ◌≡◌ {A = Result A SolutionError} (Err known) (Err e) → IsRead e
read_is known e h is = let same : known ≡ e = cc in subst IsRead same h

pub error-weaker : (before after : Feed) (e : SolutionError) (P Q : List ℕ → Type 0)
    → ((bytes : List ℕ) → P bytes → Q bytes) → TellsError before after e P
    → TellsError before after e Q
error-weaker before after errors.Stream P Q f h = h
error-weaker before after errors.NoBad P Q f h = h
error-weaker before after (errors.Check e) P Q f h = h
error-weaker before after e P Q f h = λ bytes known. f bytes (h bytes known)

pub error_tells : (before after : Feed) (e : SolutionError) (P : List ℕ → Type 0) → IsRead e
    → Says before P → TellsError before after e P
error_tells before after errors.Stream P is h = absurd is
error_tells before after errors.NoBad P is h = is
error_tells before after (errors.Check e) P is h = is
error_tells before after e P is h = h

-- an error of a call that read on
pub error_call : (before now after : Feed) (R : List ℕ → List ℕ → Type 0) (e : SolutionError)
    (P Q : List ℕ → Type 0) → Leaves before now R
    → ((bytes mid : List ℕ) → R bytes mid → P mid → Q bytes) → TellsError now after e P
    → TellsError before after e Q
error_call before now after R errors.Stream P Q so_far f h = h
error_call before now after R errors.NoBad P Q so_far f h = h
error_call before now after R (errors.Check e) P Q so_far f h = h
error_call before now after R e P Q so_far f h = says_call before now after R so_far P Q h f

pub no_more-after : (e : End) (before now after : Feed) → now.most ≤ before.most
    → IsNoMore e now after → IsNoMore e before after
no_more-after Blank before now after low h = omega arith
no_more-after Line before now after low h = omega arith
no_more-after Stream before now after low h = tt

-- what is said of a word that was read
abbrev pub IsWord : ℕ → Bool → ℕ → End → List ℕ → List ℕ → Type 0
IsWord first positive number e bytes rest = (word : List ℕ) × (words : List (List ℕ))
    × (words_from (first ∷ []) bytes ≡ word ∷ words)
    × (literal_in word ≡ Ok (positive, number)) × IsLeft e words (lines_after bytes) rest

abbrev IsNoNumber : ℕ → SolutionError → List ℕ → Type 0
IsNoNumber first e bytes = (e ≡ errors.Literal)
    × (taken : List ℕ) × ((more : List ℕ) → number_after 0 (first ∷ taken ++ more) ≡ None)
    × GoesOnBy taken bytes

abbrev pub IsNoWord : ℕ → SolutionError → List ℕ → Type 0
IsNoWord first e bytes = (word : List ℕ) × (words : List (List ℕ))
    × (words_from (first ∷ []) bytes ≡ word ∷ words) × (literal_in word ≡ Err e)

-- ---- without a minus

pub word_plain : (first : ℕ) (before after : Feed) (n : ℕ) (e : End) → first ≢ 45
    → GivesNumber first before after (Ok (n, e)) → GivesWord first before after
    (Ok (record { number = n; positive = true; end = e }))
word_plain first before after n e ne h = (
  h.2.0,
  λ bytes known.
      let r = h.2.1 bytes known in
      let w = r.2 first [] in
      (r.0, r.1, (first ∷ h.0, w.0, w.1, literal_plain first h.0 n ne h.1, w.2)),
)

pub word_none : (first : ℕ) (before after : Feed) (e : SolutionError) → first ≢ 45
    → GivesNumber first before after (Err e) → GivesWord first before after (Err e)
word_none first before after e ne h =
    error-weaker before after e _ (IsNoWord first e)
    (λ bytes x. let w = x.3 first [] in (
      first ∷ (x.1 ++ w.0),
      w.1,
      w.2,
      literal_none first
          (x.1 ++ w.0) ne (x.2 w.0) ∙ ap (λ e. Err e) (sym x.0),
    )) h

-- ---- with a minus

pub minus_end : (before after : Feed) (o : Option ℕ) → Steps before after o → o ≡ None
    → GivesWord 45 before after (Err errors.Literal)
minus_end before after o step is =
    says_end before before after (λ bytes rest. bytes ≡ rest)
    (leaves_start before (λ bytes rest. bytes ≡ rest) (λ bytes. refl))
    (IsNoWord 45 errors.Literal) o step is
    (λ bytes none. (45 ∷ [], [], ap (words_from (45 ∷ [])) none ∙ words_none (45 ∷ []), refl))

module _ (before now : Feed) (o : Option ℕ) (digit : ℕ) (step : Steps before now o)
    (is : o ≡ Some digit) where
  minus_on : end_of digit ≡ None → (bytes rest : List ℕ) → bytes ≡ digit ∷ rest
      → words_from (45 ∷ []) bytes ≡ words_from (45 ∷ digit ∷ []) rest
  minus_on goes bytes rest h = ap (words_from (45 ∷ [])) h ∙ words_on digit rest (45 ∷ []) goes

  lines_same : end_of digit ≡ None → (bytes rest : List ℕ) → bytes ≡ digit ∷ rest
      → lines_after bytes ≡ lines_after rest
  lines_same goes bytes rest h = ap lines_after h ∙ lines_on digit rest goes

  begun : Leaves before now (λ bytes rest. bytes ≡ digit ∷ rest)
  begun = leaves_byte before before now (λ bytes rest. bytes ≡ rest)
      (leaves_start before (λ bytes rest. bytes ≡ rest) (λ bytes. refl))
      (λ bytes rest. bytes ≡ digit ∷ rest) o digit step is (λ bytes rest h. h)

  pub word_minus : (after : Feed) (n : ℕ) (e : End) → GivesNumber digit now after (Ok (n, e))
      → GivesWord 45 before after (Ok (record { number = n; positive = false; end = e }))
  word_minus after n e h = (
    no_more-after e before now after (let came = steps_byte before now o step digit is in
        omega (arith, came.fewer)) h.2.0,
    λ bytes known.
        let goes = digit_goes digit (number_first 0 digit h.0 n h.1).0 in
        let r = begun bytes known in
        let s = h.2.1 r.0 r.1 in
        let w = s.2 45 (digit ∷ []) in (
          s.0,
          s.1,
          (
            45 ∷ digit ∷ h.0,
            w.0,
            minus_on goes bytes r.0 r.2 ∙ w.1,
            literal_minus digit h.0 n h.1,
            subst (λ lines. IsLeft e w.0 lines s.0)
                (sym (lines_same goes bytes r.0 r.2)) w.2,
          ),
        ),
  )

  pub minus_none : (after : Feed) (e : SolutionError) → GivesNumber digit now after (Err e)
      → GivesWord 45 before after (Err e)
  minus_none after e h =
      error_call before now after (λ bytes rest. bytes ≡ digit ∷ rest) e _ (IsNoWord 45 e) begun
      (λ bytes rest same x. by (end_of digit) refl bytes rest same x) h
    where
      by : (o : Option End) → end_of digit ≡ o → (bytes rest : List ℕ) → bytes ≡ digit ∷ rest
          → IsNoNumber digit e rest → IsNoWord 45 e bytes
      by (Some end) ends bytes rest same x =
          let left = words_end digit rest end ends in (
            45 ∷ [],
            left.0,
            ap (words_from (45 ∷ [])) same ∙ left.1 (45 ∷ []),
            ap (λ e. Err e) (sym x.0),
          )
      by None goes bytes rest same x =
          let w = x.3 45 (digit ∷ []) in (
            45 ∷ digit ∷ (x.1 ++ w.0),
            w.1,
            minus_on goes bytes rest same ∙ w.2,
            literal_minus_none digit (x.1 ++ w.0) (x.2 w.0) ∙ ap (λ e. Err e) (sym x.0),
          )
