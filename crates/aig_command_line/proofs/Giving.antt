-- The parts of words that give arguments.
use Rattle.aig_base.proofs.Words.{◌≡◌, ℕ, ◌<◌, Bool, true, false, List, [], ◌∷◌, ◌++◌, length, map, drop, refl, sym, ap, subst, ◌∙◌, Global, arith, length-append}
use Rattle.std.specs.Prelude.{String, codes, not, string_bytes}
use Rattle.std.specs.List.{IsSplitAt}
use Rattle.std.proofs.lemmas.List.{length-map, map-append, take-append-drop}
use Rattle.aig_format.specs.Text.{IsNumber, value_of}
use Rattle.aig_command_line.specs.declared.arguments.ArgumentForm.{ArgumentForm}
use Rattle.aig_command_line.specs.declared.arguments.Step.{Step}
use Rattle.aig_command_line.specs.declared.arguments.Step.TheVariants.{Absent, At, UpTo, By, Each}
use Rattle.aig_command_line.specs.Arguments.{AreStep, Arguments, GivesArguments, further_of, setting_words}
use Rattle.aig_command_line.specs.Settings.{AreSettings}

-- ---- lists

-- lists whose fronts have one length have equal fronts and equal rests
pub same_parts : {X : Type 0} (a b c d : List X) → a ++ b ≡ c ++ d → length a ≡ length c
    → (a ≡ c) × (b ≡ d)
same_parts [] b [] d is long = (refl, is)
same_parts [] b (y ∷ c) d is long = absurd (omega (arith, long))
same_parts (x ∷ a) b [] d is long = absurd (omega (arith, long))
same_parts (x ∷ a) b (y ∷ c) d is long =
    let rest : a ++ b ≡ c ++ d = cc in
    let first : x ≡ y = cc in
    let parts = same_parts a b c d rest (omega (arith, long)) in
    (let same = parts.0 in cc, parts.1)

-- what is told not to be another
pub no_other : (same : Bool) → false ≡ not same → true ≡ same
no_other true told = refl
no_other false told = cc

-- words that are cut after so many
pub cut : (words front back : List (String Global)) (n : ℕ) → IsSplitAt words n front back
    → (map string_bytes words ≡ map string_bytes front ++ map string_bytes back)
    × (length (map string_bytes front) ≡ n)
cut words front back n split =
    let parts : words ≡ front ++ back = sym (take-append-drop n words) ∙ ap (λ l. l ++ drop n words) (sym split.1) ∙ ap (λ l. front ++ l) (sym split.2) in
    (ap (λ l. map string_bytes l) parts ∙ map-append string_bytes front back, length-map front string_bytes ∙ split.3)

-- ---- the settings

same_settings : (d e o p : Bool) → setting_words d o ≡ setting_words e p → (d ≡ e) × (o ≡ p)
same_settings true true true true is = (refl, refl)
same_settings true true true false is = cc
same_settings true true false true is = cc
same_settings true true false false is = (refl, refl)
same_settings true false true true is = cc
same_settings true false true false is = cc
same_settings true false false true is = cc
same_settings true false false false is = cc
same_settings false true true true is = cc
same_settings false true true false is = cc
same_settings false true false true is = cc
same_settings false true false false is = cc
same_settings false false true true is = (refl, refl)
same_settings false false true false is = cc
same_settings false false false true is = cc
same_settings false false false false is = (refl, refl)

-- ---- the step

step_length : (form : Step) (k m : ℕ) (a b : List (List ℕ)) → AreStep form k a → AreStep form m b
    → length a ≡ length b
step_length Absent k m a b h i = ap length h.1 ∙ sym (ap length i.1)
step_length At k m a b h i = ap length h.1 ∙ sym (ap length i.1)
step_length UpTo k m a b h i = ap length h.1 ∙ sym (ap length i.1)
step_length By k m a b h i = ap length h.1 ∙ sym (ap length i.1)
step_length Each k m a b h i = ap length h.1 ∙ sym (ap length i.1)

same_step : (form : Step) (k m : ℕ) (words : List (List ℕ)) → AreStep form k words
    → AreStep form m words
    → k ≡ m
same_step Absent k m words h i = h.0 ∙ sym i.0
same_step At k m words h i =
    let words_are = sym h.1 ∙ i.1 in
    let same : h.0 ≡ i.0 = cc in
    sym h.2.value ∙ ap value_of same ∙ i.2.value
same_step UpTo k m words h i =
    let words_are = sym h.1 ∙ i.1 in
    let same : h.0 ≡ i.0 = cc in
    sym h.2.value ∙ ap value_of same ∙ i.2.value
same_step By k m words h i = h.0 ∙ sym i.0
same_step Each k m words h i =
    let words_are = sym h.1 ∙ i.1 in
    let same : h.0 ≡ i.0 = cc in
    sym h.2.value ∙ ap value_of same ∙ i.2.value

-- a number that names a step
pub number_at : (form : Step) (k : ℕ) (words : List (List ℕ)) (word : List ℕ) (after : List (List ℕ)) → form ≡ At → IsNumber k word → words ≡ word ∷ after
    → (names : List (List ℕ)) × AreStep form k names × (words ≡ names ++ after)
number_at Absent k words word after is number are = cc
number_at At k words word after is number are = (word ∷ [], (word, refl, number), are)
number_at UpTo k words word after is number are = cc
number_at By k words word after is number are = cc
number_at Each k words word after is number are = cc

-- and one after the word `to`
pub number_up_to : (form : Step) (k : ℕ) (words : List (List ℕ)) (word : List ℕ) (rest after : List (List ℕ)) → form ≡ UpTo → words ≡ codes "to" ∷ rest → IsNumber k word → rest ≡ word ∷ after
    → (names : List (List ℕ)) × AreStep form k names × (words ≡ names ++ after)
number_up_to Absent k words word rest after is to number are = cc
number_up_to At k words word rest after is to number are = cc
number_up_to UpTo k words word rest after is to number are =
    (codes "to" ∷ word ∷ [], (word, refl, number), to ∙ ap (λ l. codes "to" ∷ l) are)
number_up_to By k words word rest after is to number are = cc
number_up_to Each k words word rest after is to number are = cc

-- and one after the word `each`
pub number_each : (form : Step) (k : ℕ) (words : List (List ℕ)) (word : List ℕ) (rest after : List (List ℕ)) → form ≡ Each → words ≡ codes "each" ∷ rest → IsNumber k word → rest ≡ word ∷ after
    → (names : List (List ℕ)) × AreStep form k names × (words ≡ names ++ after)
number_each Absent k words word rest after is each number are = cc
number_each At k words word rest after is each number are = cc
number_each UpTo k words word rest after is each number are = cc
number_each By k words word rest after is each number are = cc
number_each Each k words word rest after is each number are =
    (codes "each" ∷ word ∷ [], (word, refl, number), each ∙ ap (λ l. codes "each" ∷ l) are)

-- the word `by` names none
pub none_by : (form : Step) (words after : List (List ℕ)) → form ≡ By → words ≡ codes "by" ∷ after
    → (names : List (List ℕ)) × AreStep form 0 names × (words ≡ names ++ after)
none_by Absent words after is are = cc
none_by At words after is are = cc
none_by UpTo words after is are = cc
none_by By words after is are = (codes "by" ∷ [], (refl, refl), are)
none_by Each words after is are = cc

-- a word that is no number
pub no_number : (words : List (List ℕ)) (first : List ℕ) (after : List (List ℕ))
    → words ≡ first ∷ after → ((k : ℕ) → ¬ IsNumber k first)
    → (k : ℕ) (word : List ℕ) (rest : List (List ℕ)) → IsNumber k word → ¬ (words ≡ word ∷ rest)
no_number words first after are none k word rest number same =
    let spelled : first ∷ after ≡ word ∷ rest = sym are ∙ same in
    let one : first ≡ word = cc in
    none k (subst (IsNumber k) (sym one) number)

-- the word `to` is none
pub to_no_number : (k : ℕ) → ¬ IsNumber k (codes "to")
to_no_number k number = omega (arith, number.each.0.1)

-- nor is the word `by`
pub by_no_number : (k : ℕ) → ¬ IsNumber k (codes "by")
by_no_number k number = omega (arith, number.each.0.1)

-- nor is the word `each`
pub each_no_number : (k : ℕ) → ¬ IsNumber k (codes "each")
each_no_number k number = omega (arith, number.each.0.1)

-- ---- parts of words that give arguments

module _ (name : List ℕ) (form : ArgumentForm) (words : List (List ℕ)) (a : Arguments)
    (g : GivesArguments name form words a) (first : List ℕ) where
  pub after_name : (rest : List (List ℕ)) → words ≡ first ∷ rest → (first ≡ name)
      × (rest ≡ a.paths ++ (g.steps ++ (a.further ++ setting_words a.distinct a.optimize)))
  after_name rest are =
      let is : first ∷ rest ≡ name ∷ (a.paths ++ (g.steps ++ (a.further ++ setting_words a.distinct a.optimize))) = sym are ∙ g.spelled in
      (cc, cc)

  module _ (paths : List (List ℕ)) (so_many : length paths ≡ form.paths) where
    pub after_paths : (rest : List (List ℕ)) → words ≡ first ∷ (paths ++ rest)
        → (paths ≡ a.paths) × (rest ≡ g.steps ++ (a.further ++ setting_words a.distinct a.optimize))
    after_paths rest are =
        same_parts paths rest a.paths _ (after_name (paths ++ rest) are).1 (so_many ∙ sym g.paths)

    module _ (k : ℕ) (steps : List (List ℕ)) (names : AreStep form.step k steps) where
      pub after_step : (rest : List (List ℕ)) → words ≡ first ∷ (paths ++ (steps ++ rest))
          → (steps ≡ g.steps) × (rest ≡ a.further ++ setting_words a.distinct a.optimize)
      after_step rest are =
          same_parts steps rest g.steps _ (after_paths (steps ++ rest) are).1
          (step_length form.step k a.step steps g.steps names g.step)

      pub same_number : (rest : List (List ℕ)) → words ≡ first ∷ (paths ++ (steps ++ rest))
          → k ≡ a.step
      same_number rest are =
          same_step form.step k a.step g.steps
          (subst (AreStep form.step k) (after_step rest are).0 names) g.step

      pub after_further : (further rest : List (List ℕ)) → length further ≡ further_of form k
          → words ≡ first ∷ (paths ++ (steps ++ (further ++ rest)))
          → (further ≡ a.further) × (rest ≡ setting_words a.distinct a.optimize)
      after_further further rest so_many_more are =
          same_parts further rest a.further _ (after_step (further ++ rest) are).1
          (so_many_more ∙ ap (further_of form) (same_number (further ++ rest) are) ∙ sym g.further)

same_arguments : (p q : List (List ℕ)) (k m : ℕ) (r s : List (List ℕ)) (d e o u : Bool) → p ≡ q → k ≡ m → r ≡ s → d ≡ e → o ≡ u → ◌≡◌ {A = Arguments} (record { paths = p; step = k; further = r; distinct = d; optimize = o }) (record { paths = q; step = m; further = s; distinct = e; optimize = u })
same_arguments p q k m r s d e o u a b c f g = rw (a, b, c, f, g) refl

-- words give arguments of one form alone
pub one_given : (name : List ℕ) (form : ArgumentForm) (words : List (List ℕ)) (a b : Arguments)
    → GivesArguments name form words a → GivesArguments name form words b → b ≡ a
one_given name form words a b g h =
    let paths = (after_paths name form words a g name b.paths h.paths _ h.spelled).0 in
    let step = (after_step name form words a g name b.paths h.paths b.step h.steps h.step _ h.spelled).0 in
    let rest = after_further name form words a g name b.paths h.paths b.step h.steps h.step b.further _ h.further h.spelled in
    let number = same_step form.step b.step a.step h.steps h.step (subst (AreStep form.step a.step) (sym step) g.step) in
    let settings = same_settings b.distinct a.distinct b.optimize a.optimize rest.1 in
    same_arguments b.paths a.paths b.step a.step b.further a.further b.distinct a.distinct b.optimize a.optimize paths number rest.0 settings.0 settings.1

-- ---- parts that were found, or not

module _ (name : List ℕ) (form : ArgumentForm) (words : List (String Global)) (first : String Global) (after : List (String Global)) (are : words ≡ first ∷ after) (paths rest : List (String Global)) (split : IsSplitAt after form.paths paths rest) where
  paths_are : map string_bytes words
      ≡ string_bytes first ∷ (map string_bytes paths ++ map string_bytes rest)
  paths_are =
      ap (λ l. map string_bytes l) are
      ∙ ap (λ l. string_bytes first ∷ l) (cut after paths rest form.paths split).0

  so_many : length (map string_bytes paths) ≡ form.paths
  so_many = (cut after paths rest form.paths split).1

  -- no word names a step
  pub no_step : ((k : ℕ) (word last : List (List ℕ)) → AreStep form.step k word
      → ¬ (map string_bytes rest ≡ word ++ last))
      → (a : Arguments) → ¬ GivesArguments name form (map string_bytes words) a
  no_step none a g =
      none a.step g.steps (a.further ++ setting_words a.distinct a.optimize) g.step
      (after_paths name form (map string_bytes words) a g (string_bytes first) (map string_bytes paths) so_many (map string_bytes rest) paths_are).1

  module _ (k : ℕ) (steps : List (List ℕ)) (names : AreStep form.step k steps) (last : List (String Global)) (step_is : map string_bytes rest ≡ steps ++ map string_bytes last) where
    steps_are : map string_bytes words
        ≡ string_bytes first ∷ (map string_bytes paths ++ (steps ++ map string_bytes last))
    steps_are = paths_are ∙ ap (λ l. string_bytes first ∷ (map string_bytes paths ++ l)) step_is

    -- too few words follow
    pub no_further : length last < further_of form k → (a : Arguments)
        → ¬ GivesArguments name form (map string_bytes words) a
    no_further few a g =
        let follow = (after_step name form (map string_bytes words) a g (string_bytes first) (map string_bytes paths) so_many k steps names (map string_bytes last) steps_are).1 in
        let number = same_number name form (map string_bytes words) a g (string_bytes first) (map string_bytes paths) so_many k steps names (map string_bytes last) steps_are in
        let long = ap length follow in
        let parts = length-append a.further (setting_words a.distinct a.optimize) in
        let same = length-map last string_bytes in
        let wanted : length a.further ≡ further_of form k = g.further ∙ ap (further_of form) (sym number) in
        omega (arith, long, parts, same, wanted)

    module _ (further end : List (String Global)) (split_again : IsSplitAt last (further_of form k) further end) where
      all_are : map string_bytes words
          ≡ string_bytes first ∷ (map string_bytes paths ++ (steps ++ (map string_bytes further ++ map string_bytes end)))
      all_are =
          steps_are
          ∙ ap (λ l. string_bytes first ∷ (map string_bytes paths ++ (steps ++ l)))
          (cut last further end (further_of form k) split_again).0

      -- the last words are no settings
      pub no_settings : ((d o : Bool) → ¬ AreSettings form d o (map string_bytes end))
          → (a : Arguments)
          → ¬ GivesArguments name form (map string_bytes words) a
      no_settings none a g =
          let follow = after_further name form (map string_bytes words) a g (string_bytes first) (map string_bytes paths) so_many k steps names (map string_bytes further) (map string_bytes end) (cut last further end (further_of form k) split_again).1 all_are in
          none a.distinct a.optimize (follow.1, g.distinct, g.raw)

      -- all fit
      pub all_given : (d o : Bool) → AreSettings form d o (map string_bytes end)
          → string_bytes first ≡ name
          → GivesArguments name form (map string_bytes words)
          (record { paths = map string_bytes paths; step = k; further = map string_bytes further; distinct = d; optimize = o })
      all_given d o settings is = record {
        steps = steps;
        spelled =
            all_are
            ∙ ap (λ l. string_bytes first ∷ (map string_bytes paths ++ (steps ++ (map string_bytes further ++ l)))) settings.0
            ∙ ap (λ n. n ∷ (map string_bytes paths ++ (steps ++ (map string_bytes further ++ setting_words d o)))) is;
        paths = so_many;
        step = names;
        further = (cut last further end (further_of form k) split_again).1;
        distinct = settings.1;
        raw = settings.2;
      }
