-- Commands that are told apart by their names, or by how they name a step.
use Rattle.std.proofs.Common.{◌≡◌, ◌≢◌, ℕ, zero, suc, ◌+◌, ◌<◌, Bool, true, false, cond, List, [], ◌∷◌, ◌++◌, length, get_or, refl, sym, ap, subst, ◌∙◌, arith, below_more, eqb-true}
use Rattle.std.specs.Prelude.{All, Contains, IsTrue, codes, nat_eq}
use Rattle.std.specs.Cmp.Lexicographic.{other_text, pointwise}
use Rattle.aig_base.proofs.Words.{get_or_read}
use Rattle.aig_format.specs.Text.{IsNumber}
use Rattle.aig_command_line.specs.declared.arguments.ArgumentForm.{ArgumentForm}
use Rattle.aig_command_line.specs.declared.arguments.Step.{Step}
use Rattle.aig_command_line.specs.declared.arguments.Step.TheVariants.{At, By, Each, UpTo}
use Rattle.aig_command_line.specs.Arguments.{AreStep, Arguments, GivesArguments}
use Rattle.aig_command_line.proofs.Giving.{after_paths, by_no_number, each_no_number, one_given, to_no_number}

same_first : (a b : List ℕ) (l m : List (List ℕ)) → a ∷ l ≡ b ∷ m → a ≡ b
same_first a b l m is = cc

-- what holds of the elements before one and of that holds of those up to it
pub holds_more : {A : Type 0} (P : A → Type 0) (all : List A) (i : ℕ) (x : A) → i < length all
    → x ≡ get_or all i x
    → ((k : ℕ) (d : A) → k < i → P (get_or all k d)) → P x → (k : ℕ) (d : A) → k < i + 1
    → P (get_or all k d)
holds_more P all i x low at before here k d below =
    below_more (λ j. P (get_or all j d)) i (λ j h. before j d h) (subst P (get_or_read all i x low at d) here) k below

-- a name is none of theirs, by a test that computes
abbrev pub differ : {A : Type 0} → (A → List ℕ) → List ℕ → List A → Bool
differ name x [] = true
differ name x (y ∷ ys) = cond (pointwise nat_eq x (name y)) false (differ name x ys)

both : (a b : Bool) → IsTrue (cond a b false) → IsTrue a × IsTrue b
both true b h = (refl, h)
both false b h = cc

neither : (a b : Bool) → IsTrue (cond a false b) → (false ≡ a) × IsTrue b
neither true b h = cc
neither false b h = (refl, h)

-- then it is that of none
pub other : {A : Type 0} (name : A → List ℕ) (x : List ℕ) (all : List A)
    → IsTrue (differ name x all) → (a : A) → Contains all a
    → x ≢ name a
other name x [] apart a at = absurd (omega (arith, at.1))
other name x (y ∷ ys) apart a (zero, low, is) =
    let told = neither (pointwise nat_eq x (name y)) (differ name x ys) apart in
    subst (λ z. x ≢ name z) is (other_text x (name y) told.0)
other name x (y ∷ ys) apart a (suc k, low, is) =
    let told = neither (pointwise nat_eq x (name y)) (differ name x ys) apart in
    other name x ys told.1 a (k, omega (arith, low), is)

-- ---- commands that no words give both

-- one names a step by K, by the word `to` or `each` and K, or none by the word `by`, and the other by
-- another of these
abbrev pub steps_differ : Step → Step → Bool
steps_differ At UpTo = true
steps_differ UpTo At = true
steps_differ At By = true
steps_differ By At = true
steps_differ UpTo By = true
steps_differ By UpTo = true
steps_differ At Each = true
steps_differ Each At = true
steps_differ UpTo Each = true
steps_differ Each UpTo = true
steps_differ By Each = true
steps_differ Each By = true
steps_differ s t = false

-- their names differ, or what names a step after as many paths, by a test that computes
abbrev pub exclude : {A : Type 0} → (A → List ℕ) → (A → ArgumentForm) → A → A → Bool
exclude name form x y =
    cond (pointwise nat_eq (name x) (name y))
    (cond (nat_eq (form y).paths (form x).paths) (steps_differ (form x).step (form y).step) false) true

abbrev pub exclude_all : {A : Type 0} → (A → List ℕ) → (A → ArgumentForm) → A → List A → Bool
exclude_all name form x [] = true
exclude_all name form x (y ∷ ys) = cond (exclude name form x y) (exclude_all name form x ys) false

-- no two of them are given by one list of words
abbrev pub are_apart : {A : Type 0} → (A → List ℕ) → (A → ArgumentForm) → List A → Bool
are_apart name form [] = true
are_apart name form (x ∷ xs) = cond (exclude_all name form x xs) (are_apart name form xs) false

-- a number is none of the words `to`, `by` and `each`, and no two of these are one
steps_apart : (s t : Step) (k m : ℕ) (a b rest more : List (List ℕ)) → IsTrue (steps_differ s t)
    → AreStep s k a → AreStep t m b
    → ¬ (a ++ rest ≡ b ++ more)
steps_apart At UpTo k m a b rest more differ h i same =
    let words : h.0 ∷ rest ≡ codes "to" ∷ i.0 ∷ more = sym (ap (λ l. l ++ rest) h.1) ∙ same
    ∙ ap (λ l. l ++ more) i.1 in
    to_no_number k (subst (IsNumber k) (same_first h.0 (codes "to") rest (i.0 ∷ more) words) h.2)
steps_apart UpTo At k m a b rest more differ h i same =
    let words : codes "to" ∷ h.0 ∷ rest ≡ i.0 ∷ more = sym (ap (λ l. l ++ rest) h.1) ∙ same
    ∙ ap (λ l. l ++ more) i.1 in
    to_no_number m (subst (IsNumber m) (sym (same_first (codes "to") i.0 (h.0 ∷ rest) more words)) i.2)
steps_apart At By k m a b rest more differ h i same =
    let words : h.0 ∷ rest ≡ codes "by" ∷ more = sym (ap (λ l. l ++ rest) h.1) ∙ same
    ∙ ap (λ l. l ++ more) i.1 in
    by_no_number k (subst (IsNumber k) (same_first h.0 (codes "by") rest more words) h.2)
steps_apart By At k m a b rest more differ h i same =
    let words : codes "by" ∷ rest ≡ i.0 ∷ more = sym (ap (λ l. l ++ rest) h.1) ∙ same
    ∙ ap (λ l. l ++ more) i.1 in
    by_no_number m (subst (IsNumber m) (sym (same_first (codes "by") i.0 rest more words)) i.2)
steps_apart UpTo By k m a b rest more differ h i same =
    let words : codes "to" ∷ h.0 ∷ rest ≡ codes "by" ∷ more = sym (ap (λ l. l ++ rest) h.1) ∙ same
    ∙ ap (λ l. l ++ more) i.1 in
    other_text (codes "to") (codes "by") refl
    (same_first (codes "to") (codes "by") (h.0 ∷ rest) more words)
steps_apart By UpTo k m a b rest more differ h i same =
    let words : codes "by" ∷ rest ≡ codes "to" ∷ i.0 ∷ more = sym (ap (λ l. l ++ rest) h.1) ∙ same
    ∙ ap (λ l. l ++ more) i.1 in
    other_text (codes "by") (codes "to") refl
    (same_first (codes "by") (codes "to") rest (i.0 ∷ more) words)
steps_apart At Each k m a b rest more differ h i same =
    let words : h.0 ∷ rest ≡ codes "each" ∷ i.0 ∷ more = sym (ap (λ l. l ++ rest) h.1) ∙ same
    ∙ ap (λ l. l ++ more) i.1 in
    each_no_number k (subst (IsNumber k) (same_first h.0 (codes "each") rest (i.0 ∷ more) words) h.2)
steps_apart Each At k m a b rest more differ h i same =
    let words : codes "each" ∷ h.0 ∷ rest ≡ i.0 ∷ more = sym (ap (λ l. l ++ rest) h.1) ∙ same
    ∙ ap (λ l. l ++ more) i.1 in
    each_no_number m (subst (IsNumber m) (sym (same_first (codes "each") i.0 (h.0 ∷ rest) more words)) i.2)
steps_apart UpTo Each k m a b rest more differ h i same =
    let words : codes "to" ∷ h.0 ∷ rest ≡ codes "each" ∷ i.0 ∷ more = sym (ap (λ l. l ++ rest) h.1) ∙ same
    ∙ ap (λ l. l ++ more) i.1 in
    other_text (codes "to") (codes "each") refl
    (same_first (codes "to") (codes "each") (h.0 ∷ rest) (i.0 ∷ more) words)
steps_apart Each UpTo k m a b rest more differ h i same =
    let words : codes "each" ∷ h.0 ∷ rest ≡ codes "to" ∷ i.0 ∷ more = sym (ap (λ l. l ++ rest) h.1) ∙ same
    ∙ ap (λ l. l ++ more) i.1 in
    other_text (codes "each") (codes "to") refl
    (same_first (codes "each") (codes "to") (h.0 ∷ rest) (i.0 ∷ more) words)
steps_apart By Each k m a b rest more differ h i same =
    let words : codes "by" ∷ rest ≡ codes "each" ∷ i.0 ∷ more = sym (ap (λ l. l ++ rest) h.1) ∙ same
    ∙ ap (λ l. l ++ more) i.1 in
    other_text (codes "by") (codes "each") refl
    (same_first (codes "by") (codes "each") rest (i.0 ∷ more) words)
steps_apart Each By k m a b rest more differ h i same =
    let words : codes "each" ∷ h.0 ∷ rest ≡ codes "by" ∷ more = sym (ap (λ l. l ++ rest) h.1) ∙ same
    ∙ ap (λ l. l ++ more) i.1 in
    other_text (codes "each") (codes "by") refl
    (same_first (codes "each") (codes "by") (h.0 ∷ rest) more words)
steps_apart s t k m a b rest more differ h i same = cc

module _ {A : Type 0} (name : A → List ℕ) (form : A → ArgumentForm) (words : List (List ℕ)) where
  -- commands that exclude each other aren't both given
  excluded : (x y : A) (u v : Arguments) → IsTrue (exclude name form x y)
      → GivesArguments (name x) (form x) words u
      → ¬ GivesArguments (name y) (form y) words v
  excluded x y u v apart g h = by_name (pointwise nat_eq (name x) (name y)) refl apart
    where
      names : name x ≡ name y
      names = same_first (name x) (name y) _ _ (sym g.spelled ∙ h.spelled)

      by_paths : (same : Bool) → same ≡ nat_eq (form y).paths (form x).paths
          → IsTrue (cond same (steps_differ (form x).step (form y).step) false) → ⊥
      by_paths false is told = cc
      by_paths true is told =
          let paths = h.paths ∙ eqb-true (form y).paths (form x).paths (sym is) in
          let rest = (after_paths (name x) (form x) words u g (name y) v.paths paths _ h.spelled).1 in
          steps_apart (form x).step (form y).step u.step v.step g.steps h.steps _ _ told g.step h.step (sym rest)

      by_name : (same : Bool) → same ≡ pointwise nat_eq (name x) (name y)
          → IsTrue (cond same (cond (nat_eq (form y).paths (form x).paths) (steps_differ (form x).step (form y).step) false) true) → ⊥
      by_name false is told = other_text (name x) (name y) is names
      by_name true is told = by_paths (nat_eq (form y).paths (form x).paths) refl told

  excluded_all : (x : A) (all : List A) (u v : Arguments) → IsTrue (exclude_all name form x all)
      → GivesArguments (name x) (form x) words u
      → (b : A) → Contains all b → ¬ GivesArguments (name b) (form b) words v
  excluded_all x [] u v apart g b at h = absurd (omega (arith, at.1))
  excluded_all x (y ∷ ys) u v apart g b (zero, low, is) h =
      let told = both (exclude name form x y) (exclude_all name form x ys) apart in
      excluded x y u v told.0 g (subst (λ z. GivesArguments (name z) (form z) words v) (sym is) h)
  excluded_all x (y ∷ ys) u v apart g b (suc k, low, is) h =
      let told = both (exclude name form x y) (exclude_all name form x ys) apart in
      excluded_all x ys u v told.1 g b (k, omega (arith, low), is) h

  -- so what they give is one
  one_of : (all : List A) → IsTrue (are_apart name form all) → (a b : A) (u v : Arguments)
      → Contains all a → Contains all b
      → GivesArguments (name a) (form a) words u → GivesArguments (name b) (form b) words v → a ≡ b
  one_of [] apart a b u v at bt g h = absurd (omega (arith, at.1))
  one_of (x ∷ xs) apart a b u v (zero, low, is) (zero, down, was) g h = sym is ∙ was
  one_of (x ∷ xs) apart a b u v (zero, low, is) (suc j, down, was) g h =
      let told = both (exclude_all name form x xs) (are_apart name form xs) apart in
      absurd (excluded_all x xs u v told.0 (subst (λ z. GivesArguments (name z) (form z) words u)
      (sym is) g) b (j, omega (arith, down), was) h)
  one_of (x ∷ xs) apart a b u v (suc k, low, is) (zero, down, was) g h =
      let told = both (exclude_all name form x xs) (are_apart name form xs) apart in
      absurd (excluded_all x xs v u told.0 (subst (λ z. GivesArguments (name z) (form z) words v)
      (sym was) h) a (k, omega (arith, low), is) g)
  one_of (x ∷ xs) apart a b u v (suc k, low, is) (suc j, down, was) g h =
      let told = both (exclude_all name form x xs) (are_apart name form xs) apart in
      one_of xs told.1 a b u v (k, omega (arith, low), is) (j, omega (arith, down), was) g h

-- ---- the commands of a program

module _ {A : Type 0} (name : A → List ℕ) (form : A → ArgumentForm) (all : List A) (apart : IsTrue (are_apart name form all)) (among : (a : A) → Contains all a) where
  -- what holds of each in the list holds of each
  pub each : (P : A → Type 0) → All P all → (a : A) → P a
  each P holds a = let at = among a in subst P at.2 (holds at.0 a at.1)

  -- words give one command alone, and one list of arguments
  pub one_fits : (words : List (List ℕ)) (a b : A) (x y : Arguments)
      → GivesArguments (name a) (form a) words x → GivesArguments (name b) (form b) words y
      → (a ≡ b) × (x ≡ y)
  one_fits words a b x y g h =
      let same = one_of name form words all apart a b x y (among a) (among b) g h in (
        same,
        one_given (name b) (form b) words y x h
            (subst (λ c. GivesArguments (name c) (form c) words x) same g),
      )

  -- a word that is no name gives no command
  pub no_name : (first : List ℕ) (rest : List (List ℕ)) → IsTrue (differ name first all)
      → (a : A) (x : Arguments)
      → ¬ GivesArguments (name a) (form a) (first ∷ rest) x
  no_name first rest none a x g =
      other name first all none a (among a) (same_first first (name a) rest _ g.spelled)
