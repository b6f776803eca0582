-- Words give one command.
use Rattle.aig_check_commands.proofs.Words.{◌⊎◌, Bool, true, false, length, length-append, cond, map, map-append, inl, inr, ◌++◌, Global, ◌≡◌, ◌≢◌, ◌<◌, ◌↔◌, ℕ, List, ◌∷◌, [], Some, refl, sym, ap, ◌∙◌, arith, same_Some, suc, true≢false, Contains, IfNone, IfSome, Result, slice_index, slice_index_or, IsNumber, value_of, ended, Arguments, GivesArguments, further_of, IsLimited, one_constraints, Constraints, OfBoth, ByName, ByOrder, Alike, Apart, Action, Asked, Command, WitnessAction, condition_name, Condition, FileSubject, AskForNone, GiveFairness, GiveNumbers, GiveSubject, IsNumberFirst, IsNumbered, fair_subject, fairness_word, is_asked, is_fair, subject_word, AreCommand, FitNone, Give, IsAlone, IsCall, IsOf, IsOnWitness, IsWhole, beside_of, command_of, form_of, name_of, paths_of, raw_alone, raw_word, under, witness_form, witness_name}
use Rattle.std.specs.Prelude.{All, Err, None, Ok, Option, String, codes, string_bytes}
use Rattle.aig_command_line.specs.declared.help.Help.{Help}
use Rattle.aig_command_line.specs.declared.help.Help.TheVariants.{Usage, Version}
use Rattle.aig_command_line.specs.Help.{word_of}
use Rattle.aig_command_line.specs.declared.status.Ending.TheVariants as endings
use Rattle.aig_command_line.specs.declared.arguments.ArgumentForm.{ArgumentForm}
use Rattle.aig_command_line.specs.declared.arguments.Given.{Given}
use Rattle.aig_command_line.proofs.Apart as apart
use Rattle.aig_command_line.proofs.Limits.{asked_alone, one_limit}
use Rattle.aig_edit_laws.specs.declared.fairness.Fairness.{Fairness}
use Rattle.aig_edit_laws.specs.declared.fairness.Fairness.TheVariants.{Alone, Justice}
use Rattle.aig_edits.specs.Words.{AreConstraints}
use Rattle.aig_check_commands.specs.declared.command.Action.TheVariants as actions
use Rattle.aig_check_commands.specs.declared.command.Command.TheVariants as commands
use Rattle.aig_check_commands.specs.declared.command.TheConstants.Action.{ALL}
use Rattle.aig_check_commands.specs.declared.command.TheConstants.WitnessAction as on_witness
use Rattle.aig_check_commands.specs.declared.command.WitnessAction.TheVariants as witness
use Rattle.aig_witness_circuits.specs.declared.condition.Condition.TheVariants as conditions
use Rattle.aig_subjects.specs.declared.subject.FileSubject.TheVariants.{Live, Outputs, Own, Possible, Property, Rounds}

-- where a command stands in a list, by a test that computes
abbrev place_in : {A : Type 0} → (A → List ℕ) → (A → ArgumentForm) → A → List A → ℕ
place_in name form a [] = 0
place_in name form a (x ∷ xs) =
    cond (apart.exclude name form a x) (suc (place_in name form a xs)) 0

-- each command is in the list
pub among : (a : Action) → Contains ALL a
among actions.Clauses = (place_in name_of form_of actions.Clauses ALL, omega arith, refl)
among (actions.Equal Apart) =
    (place_in name_of form_of (actions.Equal Apart) ALL, omega arith, refl)
among (actions.Equal (Alike ByOrder)) =
    (place_in name_of form_of (actions.Equal (Alike ByOrder)) ALL, omega arith, refl)
among (actions.Equal (Alike ByName)) =
    (place_in name_of form_of (actions.Equal (Alike ByName)) ALL, omega arith, refl)
among (actions.AlwaysEqual Apart) =
    (place_in name_of form_of (actions.AlwaysEqual Apart) ALL, omega arith, refl)
among (actions.AlwaysEqual (Alike ByOrder)) =
    (place_in name_of form_of (actions.AlwaysEqual (Alike ByOrder)) ALL, omega arith, refl)
among (actions.AlwaysEqual (Alike ByName)) =
    (place_in name_of form_of (actions.AlwaysEqual (Alike ByName)) ALL, omega arith, refl)
among (actions.EqualBy Apart) =
    (place_in name_of form_of (actions.EqualBy Apart) ALL, omega arith, refl)
among (actions.EqualBy (Alike ByOrder)) =
    (place_in name_of form_of (actions.EqualBy (Alike ByOrder)) ALL, omega arith, refl)
among (actions.EqualBy (Alike ByName)) =
    (place_in name_of form_of (actions.EqualBy (Alike ByName)) ALL, omega arith, refl)
among a = (place_in name_of form_of a ALL, omega arith, refl)

-- what holds of each in the list holds of each
pub each : (P : Action → Type 0) → All P ALL → (a : Action) → P a
each = apart.each name_of form_of ALL refl among

-- ---- the circuit of FILE

-- a number comes first, and no other
one_first : (words : List (List ℕ)) (m n : ℕ) (r s : List (List ℕ)) → IsNumberFirst m words r
    → IsNumberFirst n words s → (m ≡ n) × (r ≡ s)
one_first words m n r s g h =
    let are = sym g.2 ∙ h.2 in
    let word : g.0 ≡ h.0 = cc in
    let rest : r ≡ s = cc in
    (sym g.1.value ∙ ap value_of word ∙ h.1.value, rest)

-- words give one number after a word, or none
one_number : (name : List ℕ) (words : List (List ℕ)) (m n : Option ℕ) (r s : List (List ℕ))
    → IsNumbered name m words r → IsNumbered name n words s → (m ≡ n) × (r ≡ s)
one_number name words (Some m) (Some n) r s g h =
    let are = sym g.1 ∙ h.1 in
    let word : g.0 ≡ h.0 = cc in
    let rest : r ≡ s = cc in
    (ap Some (sym g.2.value ∙ ap value_of word ∙ h.2.value), rest)
one_number name words (Some m) None r s g h = absurd (h.0 _ g.1)
one_number name words None (Some n) r s g h = absurd (g.0 _ h.1)
one_number name words None None r s g h = (refl, g.1 ∙ sym h.1)

-- a word with no number after it
pub no_numbered : (name : List ℕ) (words rest : List (List ℕ)) → words ≡ name ∷ rest
    → ((k : ℕ) (word : List ℕ) (more : List (List ℕ)) → IsNumber k word → ¬ (rest ≡ word ∷ more))
    → (n : Option ℕ) (more : List (List ℕ)) → ¬ IsNumbered name n words more
no_numbered name words rest are none (Some n) more g =
    let same : name ∷ rest ≡ name ∷ g.0 ∷ more = sym are ∙ g.1 in
    let after : rest ≡ g.0 ∷ more = cc in
    none n g.0 more g.2 after
no_numbered name words rest are none None more g = g.0 rest are

-- no number comes first
abbrev HasNoNumber : List (List ℕ) → Type 0
HasNoNumber words = (k : ℕ) (word : List ℕ) (rest : List (List ℕ)) → IsNumber k word
    → ¬ (words ≡ word ∷ rest)

-- the word of fair runs is no other
unlike : (fairness : Fairness) (own : FileSubject) (ws xs : List (List ℕ)) → is_fair own ≡ false
    → ¬ (fairness_word fairness ∷ ws ≡ subject_word own ∷ xs)
unlike fairness (Live other) ws xs plain are = true≢false plain
unlike fairness (Rounds other rounds) ws xs plain are = true≢false plain
unlike (Justice property) own ws xs plain are =
    let letter = ap (λ (words : List (List ℕ)). slice_index (slice_index_or words 0 []) 7) are in
    omega (arith, letter)
unlike Alone own ws xs plain are =
    let letter = ap (λ (words : List (List ℕ)). slice_index (slice_index_or words 0 []) 7) are in
    omega (arith, letter)

-- where no number comes first, a word gives no bad literal
pub no_property : (words : List (List ℕ)) → HasNoNumber words → (own : FileSubject)
    (rest : List (List ℕ)) → subject_word own ≡ codes "--property" → ¬ GiveNumbers own words rest
no_property words none (Property number) rest is g = none number g.0 rest g.1 g.2
no_property words none (Live fairness) rest is g =
    unlike fairness (Property 0) [] [] refl (ap (λ w. w ∷ []) is)
no_property words none (Rounds fairness rounds) rest is g =
    unlike fairness (Property 0) [] [] refl (ap (λ w. w ∷ []) is)
no_property words none own rest is g =
    let letter = ap (λ (word : List ℕ). slice_index word 7) is in omega (arith, letter)

-- nor a justice property
pub no_justice : (words : List (List ℕ)) → HasNoNumber words → (own : FileSubject)
    (rest : List (List ℕ)) → subject_word own ≡ codes "--justice" → ¬ GiveNumbers own words rest
no_justice words none (Live (Justice property)) rest is g = none property g.1.0 g.0 g.1.1 g.1.2
no_justice words none (Rounds (Justice property) rounds) rest is g =
    none property g.1.0 g.0 g.1.1 g.1.2
no_justice words none own rest is g =
    let letter = ap (λ (word : List ℕ). slice_index word 7) is in omega (arith, letter)

-- words give one fairness
one_fairness : (d e : Fairness) (ws xs r s : List (List ℕ))
    → fairness_word d ∷ ws ≡ fairness_word e ∷ xs → GiveFairness d ws r → GiveFairness e xs s
    → (d ≡ e) × (r ≡ s)
one_fairness (Justice m) (Justice n) ws xs r s are g h =
    let tail : ws ≡ xs = cc in
    let same = one_first xs m n r s (rw tail at g) h in
    (ap Justice same.0, same.1)
one_fairness Alone Alone ws xs r s are g h =
    let tail : ws ≡ xs = cc in (refl, g ∙ tail ∙ sym h)
one_fairness d e ws xs r s are g h =
    let letter = ap (λ (words : List (List ℕ)). slice_index (slice_index_or words 0 []) 7) are in
    absurd (omega (arith, letter))

-- where no number comes after the word of rounds, words give no circuit of fair runs
pub no_rounds : (fairness : Fairness) (words after : List (List ℕ))
    → GiveFairness fairness words after
    → ((n : Option ℕ) (rest : List (List ℕ)) → ¬ IsNumbered (codes "--rounds") n after rest)
    → (own : FileSubject) (rest : List (List ℕ)) → subject_word own ≡ fairness_word fairness
    → ¬ GiveNumbers own words rest
no_rounds fairness words after given none (Live other) rest is g =
    let same = one_fairness other fairness words words g.0 after (ap (λ w. w ∷ words) is) g.1
    given in
    none None rest (rw same.1 at g.2)
no_rounds fairness words after given none (Rounds other rounds) rest is g =
    let same = one_fairness other fairness words words g.0 after (ap (λ w. w ∷ words) is) g.1
    given in
    none (Some rounds) rest (rw same.1 at g.2)
no_rounds (Justice property) words after given none own rest is g =
    let letter = ap (λ (word : List ℕ). slice_index word 7) is in omega (arith, letter)
no_rounds Alone words after given none own rest is g =
    let letter = ap (λ (word : List ℕ). slice_index word 7) is in omega (arith, letter)

-- words that give a number of rounds, or none, give such a circuit
pub gives_rounds : (fairness : Fairness) (rounds : Option ℕ) (words after rest : List (List ℕ))
    → GiveFairness fairness words after → IsNumbered (codes "--rounds") rounds after rest
    → GiveNumbers (fair_subject fairness rounds) words rest
gives_rounds fairness None words after rest given is = (after, given, is)
gives_rounds fairness (Some rounds) words after rest given is = (after, given, is)

-- and its word is that of the fairness
pub fair_word : (fairness : Fairness) (rounds : Option ℕ)
    → subject_word (fair_subject fairness rounds) ≡ fairness_word fairness
fair_word fairness None = refl
fair_word fairness (Some rounds) = refl

module _ (asked : FileSubject) (other : asked ≢ Own) (named : 0 < length (subject_word asked))
    (words more : List (List ℕ)) (are : words ≡ subject_word asked ∷ more) where
  -- words that ask for a circuit give one of that word, by the words behind it
  behind : (own : FileSubject) (rest : List (List ℕ)) → GiveSubject own words rest
      → (subject_word own ≡ subject_word asked) × GiveNumbers own more rest
  behind Own rest g = absurd (g.0 asked more other are)
  behind own rest g =
      let same = sym g.1 ∙ are in
      let word : subject_word own ≡ subject_word asked = cc in
      let after : g.0 ≡ more = cc in
      (word, rw after at g.2)

  given : (own : FileSubject) (rest : List (List ℕ)) → subject_word own ≡ subject_word asked
      → GiveNumbers own more rest → GiveSubject own words rest
  given Own rest word g = let count = ap length word in absurd (omega (arith, count, named))
  given own rest word g = (more, are ∙ ap (λ w. w ∷ more) (sym word), g)

  -- so what these give is given, and where they give none, none is
  module _ {X : Type 0} (own_of : X → FileSubject) (rest_of : X → List (List ℕ)) where
    pub all_given : (o : Option X)
        → IfSome o (λ x. subject_word (own_of x) ≡ subject_word asked)
        → IfSome o (λ x. GiveNumbers (own_of x) more (rest_of x))
        → IfSome o (λ x. GiveSubject (own_of x) words (rest_of x))
    all_given (Some x) word g = given (own_of x) (rest_of x) word g
    all_given None word g = tt

  pub none_given : {X : Type 0} (o : Option X)
      → IfNone o ((own : FileSubject) (rest : List (List ℕ))
      → subject_word own ≡ subject_word asked → ¬ GiveNumbers own more rest)
      → IfNone o ((own : FileSubject) (rest : List (List ℕ)) → ¬ GiveSubject own words rest)
  none_given (Some x) none = tt
  none_given None none = λ own rest g. let is = behind own rest g in none own rest is.0 is.1

-- words give one circuit of FILE
pub one_subject : (words : List (List ℕ)) (own other : FileSubject) (r s : List (List ℕ))
    → GiveSubject own words r → GiveSubject other words s → (own ≡ other) × (r ≡ s)
one_subject words own other r s = by own other
  where
    after : (asked : FileSubject) (more others : List (List ℕ)) → words ≡ subject_word asked ∷ more
        → words ≡ subject_word asked ∷ others → more ≡ others
    after asked more others first second =
        let are : subject_word asked ∷ more ≡ subject_word asked ∷ others = sym first ∙ second in cc

    numbers : (d e : Fairness) (o p : Option ℕ) (ws xs more others : List (List ℕ))
        → fairness_word d ∷ ws ≡ fairness_word e ∷ xs
        → GiveFairness d ws more → IsNumbered (codes "--rounds") o more r
        → GiveFairness e xs others → IsNumbered (codes "--rounds") p others s
        → (d ≡ e) × (o ≡ p) × (r ≡ s)
    numbers d e o p ws xs more others are g x h y =
        let first = one_fairness d e ws xs more others are g h in
        let second = one_number (codes "--rounds") others o p r s (rw first.1 at x) y in
        (first.0, second.0, second.1)

    by : (own other : FileSubject) → GiveSubject own words r → GiveSubject other words s
        → (own ≡ other) × (r ≡ s)
    by Own Own g h = (refl, g.1 ∙ sym h.1)
    by (Property m) (Property n) g h =
        let same = one_first h.0 m n r s (rw (after (Property 0) g.0 h.0 g.1 h.1) at g.2) h.2 in
        (ap Property same.0, same.1)
    by (Live d) (Live e) g h =
        let same = numbers d e None None g.0 h.0 g.2.0 h.2.0 (sym g.1 ∙ h.1) g.2.1 g.2.2 h.2.1
        h.2.2 in
        (ap Live same.0, same.2)
    by (Live d) (Rounds e p) g h =
        let no = (numbers d e None (Some p) g.0 h.0 g.2.0 h.2.0 (sym g.1 ∙ h.1) g.2.1 g.2.2 h.2.1
        h.2.2).1 in
        cc
    by (Rounds d o) (Live e) g h =
        let no = (numbers d e (Some o) None g.0 h.0 g.2.0 h.2.0 (sym g.1 ∙ h.1) g.2.1 g.2.2 h.2.1
        h.2.2).1 in
        cc
    by (Rounds d o) (Rounds e p) g h =
        let same = numbers d e (Some o) (Some p) g.0 h.0 g.2.0 h.2.0 (sym g.1 ∙ h.1) g.2.1 g.2.2
        h.2.1 h.2.2 in (
          ap (λ f. Rounds f o) same.0 ∙ ap (Rounds e) (same_Some _ _ same.1),
          same.2,
        )
    by Possible Possible g h = (refl, g.2 ∙ after Possible g.0 h.0 g.1 h.1 ∙ sym h.2)
    by Outputs Outputs g h = (refl, g.2 ∙ after Outputs g.0 h.0 g.1 h.1 ∙ sym h.2)
    by Own other g h = absurd (g.0 other h.0 (λ is. cc) h.1)
    by own Own g h = absurd (h.0 own g.0 (λ is. cc) g.1)
    by (Live d) other g h = absurd (unlike d other g.0 h.0 refl (sym g.1 ∙ h.1))
    by (Rounds d o) other g h = absurd (unlike d other g.0 h.0 refl (sym g.1 ∙ h.1))
    by own (Live e) g h = absurd (unlike e own h.0 g.0 refl (sym h.1 ∙ g.1))
    by own (Rounds e p) g h = absurd (unlike e own h.0 g.0 refl (sym h.1 ∙ g.1))
    by own other g h =
        let letter = ap (λ (ws : List (List ℕ)). slice_index (slice_index_or ws 0 []) 7)
        (sym g.1 ∙ h.1) in
        absurd (omega (arith, letter))

-- words whose first asks for no such circuit give FILE's own
pub no_subject : (words : List (List ℕ)) (own : FileSubject) (rest : List (List ℕ))
    → AskForNone words → GiveSubject own words rest → (own ≡ Own) × (rest ≡ words)
no_subject words Own rest none g = (refl, g.1)
no_subject words own rest none g = absurd (none own g.0 (λ is. cc) g.1)

-- the word of fair runs begins with a dash
fair_dash : (fairness : Fairness) → slice_index (fairness_word fairness) 0 ≡ 45
fair_dash (Justice property) = refl
fair_dash Alone = refl

-- a word that begins with no dash asks for none
pub undashed : (word : List ℕ) (words : List (List ℕ)) → slice_index word 0 ≢ 45
    → AskForNone (word ∷ words)
undashed word words plain Own more made is = absurd (made refl)
undashed word words plain (Live fairness) more made is =
    plain (ap (λ (ws : List (List ℕ)). slice_index (slice_index_or ws 0 []) 0) is
    ∙ fair_dash fairness)
undashed word words plain (Rounds fairness rounds) more made is =
    plain (ap (λ (ws : List (List ℕ)). slice_index (slice_index_or ws 0 []) 0) is
    ∙ fair_dash fairness)
undashed word words plain own more made is =
    plain (ap (λ (ws : List (List ℕ)). slice_index (slice_index_or ws 0 []) 0) is)

-- ---- commands

-- words fit one command, and give it one list of what it takes
one_whole : (words : List (List ℕ)) (c d : Command) (x y : Arguments) → IsWhole words c x
    → IsWhole words d y → (c ≡ d) × (x ≡ y)
one_whole words c d x y g h =
    let same = apart.one_fits name_of form_of ALL refl among words g.action h.action x y g.gives
    h.gives in (
      g.command ∙ ap (λ a. command_of a x.step x.distinct x.optimize) same.0
          ∙ ap (λ (z : Arguments). command_of h.action z.step z.distinct z.optimize) same.1
          ∙ sym h.command,
      same.1,
    )

-- words before a last one are told by it
one_last : (xs ys : List (List ℕ)) (a b : List ℕ) → xs ++ a ∷ [] ≡ ys ++ b ∷ []
    → (xs ≡ ys) × (a ≡ b)
one_last [] [] a b is = (refl, cc)
one_last [] (y ∷ ys) a b is =
    let count = ap length is in
    let parts = length-append ys (b ∷ []) in
    absurd (omega (arith, count, parts))
one_last (x ∷ xs) [] a b is =
    let count = ap length is in
    let parts = length-append xs (a ∷ []) in
    absurd (omega (arith, count, parts))
one_last (x ∷ xs) (y ∷ ys) a b is =
    let first : x ≡ y = cc in
    let after : xs ++ a ∷ [] ≡ ys ++ b ∷ [] = cc in
    let rest = one_last xs ys a b after in
    (ap (λ z. z ∷ xs) first ∙ ap (λ zs. y ∷ zs) rest.0, rest.1)

-- a word says one of both proofs
one_raw : (a b : Bool) → raw_word a ≡ raw_word b → a ≡ b
one_raw true true is = refl
one_raw false false is = refl
one_raw true false is =
    let letter = ap (λ (word : List ℕ). slice_index word 4) is in
    absurd (omega (arith, letter))
one_raw false true is =
    let letter = ap (λ (word : List ℕ). slice_index word 4) is in
    absurd (omega (arith, letter))

one_alone : (words : List (List ℕ)) (c d : Command) (x y : Arguments) → IsAlone words c x
    → IsAlone words d y → (c ≡ d) × (x ≡ y)
one_alone words c d x y g h =
    let last = one_last g.plain h.plain (raw_word g.step) (raw_word h.step) (sym g.spelled ∙
    h.spelled)
    in
    let step = one_raw g.step h.step last.1 in
    let usual = one_whole h.plain g.usual h.usual x y (rw last.0 at g.whole) h.whole in
    let same : Some c ≡ Some d =
    sym g.command ∙ ap (λ s. raw_alone s g.usual) step ∙ ap (λ u. raw_alone h.step u) usual.0
    ∙ h.command in
    (same_Some _ _ same, usual.1)

-- ---- commands on a witness circuit

-- each is in the list
witness_among : (a : WitnessAction) → Contains on_witness.ALL a
witness_among witness.Certified =
    (place_in witness_name witness_form witness.Certified on_witness.ALL, omega arith, refl)
witness_among a = (place_in witness_name witness_form a on_witness.ALL, omega arith, refl)

-- words give one of them, and one list of what it takes
one_witness : (words : List (List ℕ)) (a b : WitnessAction) (x y : Arguments)
    → GivesArguments (witness_name a) (witness_form a) words x
    → GivesArguments (witness_name b) (witness_form b) words y → (a ≡ b) × (x ≡ y)
one_witness words a b x y g h =
    apart.one_fits witness_name witness_form on_witness.ALL refl witness_among words a b x y g h

-- a word names one condition
one_condition : (a b : Condition) → condition_name a ≡ condition_name b → a ≡ b
one_condition conditions.Reset conditions.Reset is = refl
one_condition conditions.Transition conditions.Transition is = refl
one_condition conditions.Property conditions.Property is = refl
one_condition conditions.Base conditions.Base is = refl
one_condition conditions.Step conditions.Step is = refl
one_condition a b is =
    let letter = ap (λ (word : List ℕ). slice_index word 0) is in
    absurd (omega (arith, letter))

-- what they give is one command, on the same files
one_of : (a : WitnessAction) (u : Arguments) (c d : Command) (r s : List (List ℕ))
    → IsOf a u c r → IsOf a u d s → (c ≡ d) × (r ≡ s)
one_of witness.Certified u c d r s g h = (g.0 ∙ sym h.0, g.1 ∙ sym h.1)
one_of witness.Obligations u c d r s g h =
    let words : condition_name g.0 ∷ r ≡ condition_name h.0 ∷ s = sym g.2 ∙ h.2 in
    let name : condition_name g.0 ≡ condition_name h.0 = cc in
    let rest : r ≡ s = cc in
    let same = one_condition g.0 h.0 name in
    (g.1 ∙ ap (λ a. commands.Obligation a u.optimize) same ∙ sym h.1, rest)

one_on_witness : (words : List (List ℕ)) (c d : Command) (x y : Arguments)
    → IsOnWitness words c x → IsOnWitness words d y → (c ≡ d) × (x ≡ y)
one_on_witness words c d x y g h =
    let same = one_witness words g.action h.action g.given h.given g.gives h.gives in
    let of = one_of h.action h.given c d x.further y.further (rw (same.0, same.1) at g.command)
    h.command in (
      of.0,
      g.rest ∙ ap (λ (z : Arguments). record z { further = x.further }) same.1
          ∙ ap (λ (r : List (List ℕ)). record h.given { further = r }) of.1 ∙ sym h.rest,
    )

-- words that fit no form are none of them
pub witness_none : (words : List (List ℕ))
    → All (λ a. (g : Arguments) → ¬ GivesArguments (witness_name a) (witness_form a) words g)
    on_witness.ALL
    → FitNone (IsOnWitness words)
witness_none words none c x g =
    apart.each witness_name witness_form on_witness.ALL refl witness_among
    (λ b. (x : Arguments) → ¬ GivesArguments (witness_name b) (witness_form b) words x) none
    g.action g.given
    g.gives

-- nor are those where a word should name a condition, and names none
pub unnamed_none : (words : List (List ℕ)) (u : Arguments)
    → GivesArguments (witness_name witness.Obligations) (witness_form witness.Obligations) words u
    → ((condition : Condition) (rest : List (List ℕ))
    → ¬ (u.further ≡ condition_name condition ∷ rest))
    → FitNone (IsOnWitness words)
unnamed_none words u gives none c x g =
    let same = one_witness words g.action witness.Obligations g.given u g.gives gives in
    let of : IsOf witness.Obligations u c x.further = rw (same.0, same.1) at g.command in
    none of.0 x.further of.2

-- ---- each command

one_else : (words : List (List ℕ)) (c d : Command) (x y : Arguments)
    → IsAlone words c x ⊎ (FitNone (IsAlone words) × IsOnWitness words c x)
    → IsAlone words d y ⊎ (FitNone (IsAlone words) × IsOnWitness words d y)
    → (c ≡ d) × (x ≡ y)
one_else words c d x y (inl g) (inl h) = one_alone words c d x y g h
one_else words c d x y (inl g) (inr h) = absurd (h.0 c x g)
one_else words c d x y (inr g) (inl h) = absurd (g.0 d y h)
one_else words c d x y (inr g) (inr h) = one_on_witness words c d x y g.1 h.1

-- words are one command, and what it takes
pub one_command : (words : List (List ℕ)) (c d : Command) (x y : Arguments) → AreCommand words c x
    → AreCommand words d y → (c ≡ d) × (x ≡ y)
one_command words c d x y (inl g) (inl h) = one_whole words c d x y g h
one_command words c d x y (inl g) (inr h) = absurd (h.0 c x g)
one_command words c d x y (inr g) (inl h) = absurd (g.0 d y h)
one_command words c d x y (inr g) (inr h) = one_else words c d x y g.1 h.1

-- words that fit no form are no command with one setting
pub whole_none : (words : List (List ℕ))
    → All (λ a. (g : Arguments) → ¬ GivesArguments (name_of a) (form_of a) words g) ALL
    → (c : Command) (x : Arguments) → ¬ IsWhole words c x
whole_none words none c x g =
    each (λ b. (x : Arguments) → ¬ GivesArguments (name_of b) (form_of b) words x) none g.action x
    g.gives

-- words and a last one are their bytes
pub last_words : (xs ys : List (String Global)) (x : String Global) → xs ≡ ys ++ x ∷ []
    → map string_bytes xs ≡ map string_bytes ys ++ string_bytes x ∷ []
last_words xs ys x is = ap (λ l. map string_bytes l) is ∙ map-append string_bytes ys (x ∷ [])

-- words whose last says no proof are no command without it
pub no_raw_none : (words plain : List (List ℕ)) (last : List ℕ) → words ≡ plain ++ last ∷ []
    → ((step : Bool) → ¬ (last ≡ raw_word step)) → (c : Command) (x : Arguments)
    → ¬ IsAlone words c x
no_raw_none words plain last are none c x g =
    none g.step (one_last plain g.plain last (raw_word g.step) (sym are ∙ g.spelled)).1

-- nor those that are no command before it
pub plain_none : (words plain : List (List ℕ)) (last : List ℕ) → words ≡ plain ++ last ∷ []
    → ((c : Command) (x : Arguments) → ¬ IsWhole plain c x) → (c : Command) (x : Arguments)
    → ¬ IsAlone words c x
plain_none words plain last are none c x g =
    let same = (one_last g.plain plain (raw_word g.step) last (sym g.spelled ∙ are)).0 in
    none g.usual x (rw same at g.whole)

-- nor those where this has `raw`
pub raw_none : (words plain : List (List ℕ)) (last : List ℕ) (u : Command) (y : Arguments)
    → words ≡ plain ++ last ∷ [] → IsWhole plain u y → y.optimize ≡ false
    → (c : Command) (x : Arguments) → ¬ IsAlone words c x
raw_none words plain last u y are whole raw c x g =
    let same = (one_last g.plain plain (raw_word g.step) last (sym g.spelled ∙ are)).0 in
    let given = (one_whole plain g.usual u x y (rw same at g.whole) whole).1 in
    let optimize = ap (λ (z : Arguments). z.optimize) given ∙ raw in
    let optimized : x.optimize ≡ true = g.optimized in
    cc

-- nor those where this has no proofs
pub proofless_none : (words plain : List (List ℕ)) (step : Bool) (u : Command) (y : Arguments)
    → words ≡ plain ++ raw_word step ∷ [] → IsWhole plain u y → raw_alone step u ≡ None
    → (c : Command) (x : Arguments) → ¬ IsAlone words c x
proofless_none words plain step u y are whole none c x g =
    let last = one_last g.plain plain (raw_word g.step) (raw_word step) (sym g.spelled ∙ are) in
    let usual = (one_whole plain g.usual u x y (rw last.0 at g.whole) whole).0 in
    let is : raw_alone step u ≡ Some c =
    ap (λ s. raw_alone s u) (sym (one_raw g.step step last.1))
    ∙ ap (λ v. raw_alone g.step v) (sym usual) ∙ g.command in
    let not : Some c ≡ None = sym is ∙ none in
    cc

-- words that are no command whole, none without their last, and none on a witness circuit
neither : (words : List (List ℕ)) → FitNone (IsWhole words) → FitNone (IsAlone words)
    → FitNone (IsOnWitness words) → FitNone (AreCommand words)
neither words whole alone on c x (inl g) = whole c x g
neither words whole alone on c x (inr g) = other g.1
  where
    other : ¬ (IsAlone words c x ⊎ (FitNone (IsAlone words) × IsOnWitness words c x))
    other (inl h) = alone c x h
    other (inr h) = on c x h.1

-- the same of a result
pub neither_if : (words : List (List ℕ)) → FitNone (IsWhole words) → FitNone (IsAlone words)
    → (o : Option (Command × Given)) → IfNone o (FitNone (IsOnWitness words))
    → IfNone o (FitNone (AreCommand words))
neither_if words whole alone (Some g) none = tt
neither_if words whole alone None none = neither words whole alone none

-- what is asked is its circuit of FILE and its command
same_asked : (c d : Asked) → c.subject ≡ d.subject → c.command ≡ d.command → c ≡ d
same_asked c d subject command =
    ap (λ own. the own c.command) subject ∙ ap (λ e. the d.subject e) command
  where
    the : FileSubject → Command → Asked
    the own e = record { subject = own; command = e }

-- what words give first, where they give a call: their limit, their circuit of FILE, and what
-- constraints say
first_is : (words rest more others : List (List ℕ)) (limit : ℕ) (own : FileSubject)
    (constraints : Constraints) → IsLimited words limit rest → GiveSubject own rest more
    → AreConstraints constraints more others
    → (other : ℕ) (c : Asked) (paths further : List (List ℕ))
    → (g : IsCall words other c paths further)
    → (other ≡ limit) × (c.subject ≡ own) × (g.constraints ≡ constraints) × (g.others ≡ others)
first_is words rest more others limit own constraints limited asked said other c paths further g =
    let words_are = one_limit words other limit g.rest rest g.limited limited in
    let subject = one_subject rest c.subject own g.more more (rw words_are.1 at g.asked) asked in
    let same = one_constraints more g.constraints constraints g.others others
    (rw subject.1 at g.said) said in
    (words_are.0, subject.0, same.0, same.1)

-- what they give after these, where they give a command
given_is : (words rest more others : List (List ℕ)) (limit : ℕ) (own : FileSubject)
    (constraints : Constraints) (u : Command) (x : Arguments) → IsLimited words limit rest
    → GiveSubject own rest more → AreConstraints constraints more others → AreCommand others u x
    → (other : ℕ) (c : Asked) (paths further : List (List ℕ))
    → IsCall words other c paths further
    → (other ≡ limit) × (c.subject ≡ own) × (under constraints u ≡ Some c.command)
    × (paths ≡ x.paths) × (further ≡ x.further)
given_is words rest more others limit own constraints u x limited asked said gives other c paths further g =
    let is = first_is words rest more others limit own constraints limited asked said other c paths
    further g in
    let same = one_command others g.usual u g.arguments x (rw is.3 at g.gives) gives in (
      is.0,
      is.1,
      ap (λ v. under constraints v) (sym same.0) ∙ ap (λ s. under s g.usual) (sym is.2) ∙ g.command,
      g.on ∙ ap (λ (y : Arguments). y.paths) same.1,
      g.beside ∙ ap (λ (y : Arguments). y.further) same.1,
    )

-- words give one command, with one limit, one list of paths and one of what is beside them
pub one_call : (words : List (List ℕ)) (limit other : ℕ) (c d : Asked) (p q r s : List (List ℕ))
    → IsCall words limit c p r
    → IsCall words other d q s → (limit ≡ other) × (c ≡ d) × (p ≡ q) × (r ≡ s)
one_call words limit other c d p q r s g h =
    let is = given_is words h.rest h.more h.others other d.subject h.constraints h.usual h.arguments
    h.limited h.asked h.said h.gives limit c p r g in
    let same : Some c.command ≡ Some d.command = sym is.2 ∙ h.command in
    (is.0, same_asked c d is.1 (same_Some _ _ same), is.3 ∙ sym h.on, is.4 ∙ sym h.beside)

-- words after a limit that give no circuit of FILE rightly give no command
pub unjust_none : (words rest : List (List ℕ)) (limit : ℕ) → IsLimited words limit rest
    → ((own : FileSubject) (more : List (List ℕ)) → ¬ GiveSubject own rest more)
    → (other : ℕ) (c : Asked) (paths further : List (List ℕ)) → ¬ IsCall words other c paths further
unjust_none words rest limit limited none other c paths further g =
    let same = (one_limit words other limit g.rest rest g.limited limited).1 in
    none c.subject g.more (rw same at g.asked)

-- nor do words after these that don't say rightly what constraints say
pub unsaid_none : (words rest more : List (List ℕ)) (limit : ℕ) (own : FileSubject)
    → IsLimited words limit rest → GiveSubject own rest more
    → ((constraints : Constraints) (others : List (List ℕ)) → ¬ AreConstraints constraints more others)
    → (other : ℕ) (c : Asked) (paths further : List (List ℕ)) → ¬ IsCall words other c paths
    further
unsaid_none words rest more limit own limited asked none other c paths further g =
    let words_are = one_limit words other limit g.rest rest g.limited limited in
    let subject = one_subject rest c.subject own g.more more (rw words_are.1 at g.asked) asked in
    none g.constraints g.others (rw subject.1 at g.said)

-- nor words after all of these that are no command
pub fits_none : (words rest more others : List (List ℕ)) (limit : ℕ) (own : FileSubject)
    (constraints : Constraints) → IsLimited words limit rest → GiveSubject own rest more
    → AreConstraints constraints more others
    → ((c : Command) (x : Arguments) → ¬ AreCommand others c x)
    → (other : ℕ) (c : Asked) (paths further : List (List ℕ)) → ¬ IsCall words other c paths
    further
fits_none words rest more others limit own constraints limited asked said none other c paths further g =
    let is = first_is words rest more others limit own constraints limited asked said other c paths
    further g in
    none g.usual g.arguments (rw is.3 at g.gives)

-- nor where what they are doesn't compare, and constraints don't say what is usual
pub uncompared_none : (words rest more others : List (List ℕ)) (limit : ℕ) (own : FileSubject)
    (constraints : Constraints) (u : Command) (x : Arguments) → IsLimited words limit rest
    → GiveSubject own rest more → AreConstraints constraints more others → AreCommand others u x
    → under constraints u ≡ None
    → (other : ℕ) (c : Asked) (paths further : List (List ℕ)) → ¬ IsCall words other c paths
    further
uncompared_none words rest more others limit own constraints u x limited asked said gives none other c paths
    further g =
    let is =
    given_is words rest more others limit own constraints u x limited asked said gives other c
    paths further g in
    let not : None ≡ Some c.command = sym none ∙ is.2 in
    cc

-- nor where what they are isn't asked of it
pub unasked_none : (words rest more others : List (List ℕ)) (limit : ℕ) (own : FileSubject)
    (constraints : Constraints) (u d : Command) (x : Arguments) → IsLimited words limit rest
    → GiveSubject own rest more → AreConstraints constraints more others → AreCommand others u x
    → under constraints u ≡ Some d → is_asked own d ≡ false
    → (other : ℕ) (c : Asked) (paths further : List (List ℕ)) → ¬ IsCall words other c paths
    further
unasked_none words rest more others limit own constraints u d x limited asked said gives is_under none other c
    paths further g =
    let is =
    given_is words rest more others limit own constraints u x limited asked said gives other c
    paths further g in
    let command : Some c.command ≡ Some d = sym is.2 ∙ is_under in
    true≢false (sym g.allowed ∙ ap (λ j. is_asked j c.command) is.1
    ∙ ap (λ e. is_asked own e) (same_Some _ _ command) ∙ none)

-- so what they give is told exactly
pub gives_exactly : (words : List (List ℕ)) (limit : ℕ) (c : Asked) (paths further : List (List ℕ))
    → IsCall words limit c paths further
    → (d : Asked) → (Some c ≡ Some d) ↔ Give words d
gives_exactly words limit c paths further g d = (
  λ is. let same : c ≡ d = same_Some _ _ is in (limit, paths, further, rw same at g),
  λ h. ap Some (one_call words limit h.0 c d paths h.1 further h.2 g h.3).1,
)

-- the third letter of the first word
abbrev third : List (List ℕ) → ℕ
third words = slice_index (slice_index_or words 0 []) 2

-- those of both questions are others than those of the words of fair runs
fair_third : (fairness : Fairness) → (104 ≢ slice_index (fairness_word fairness) 2)
    × (118 ≢ slice_index (fairness_word fairness) 2)
fair_third (Justice property) = (λ is. omega (arith, is), λ is. omega (arith, is))
fair_third Alone = (λ is. omega (arith, is), λ is. omega (arith, is))

-- a question is no command
pub no_command : (words : List (List ℕ)) (q : Help) (limit : ℕ) (c : Asked)
    (paths further : List (List ℕ)) → words ≡ word_of q ∷ []
    → ¬ IsCall words limit c paths further
no_command words q limit c paths further are g =
    let alone = asked_alone words g.rest q limit are g.limited in
    let more =
    (no_subject (word_of q ∷ []) c.subject g.more (no_asked q) (rw alone at g.asked)).1 in
    let others = (one_constraints (word_of q ∷ []) g.constraints OfBoth g.others (word_of q ∷ [])
    (rw more at g.said) (no_said q, refl)).1 in
    no_question q g.usual g.arguments (rw others at g.gives)
  where
    no_asked : (q : Help) → AskForNone (word_of q ∷ [])
    no_asked q Own more made is = absurd (made refl)
    no_asked Usage (Live fairness) more made is = (fair_third fairness).0 (ap third is)
    no_asked Usage (Rounds fairness rounds) more made is = (fair_third fairness).0 (ap third is)
    no_asked Version (Live fairness) more made is = (fair_third fairness).1 (ap third is)
    no_asked Version (Rounds fairness rounds) more made is = (fair_third fairness).1 (ap third is)
    no_asked Usage own more made is = let letter = ap third is in omega (arith, letter)
    no_asked Version own more made is = let letter = ap third is in omega (arith, letter)

    no_said : (q : Help) (more : List (List ℕ)) → ¬ (word_of q ∷ [] ≡ codes "--constraints" ∷ more)
    no_said Usage more is = let letter = ap third is in omega (arith, letter)
    no_said Version more is = let letter = ap third is in omega (arith, letter)

    no_form : (q : Help) (a : Action) (x : Arguments)
        → ¬ GivesArguments (name_of a) (form_of a) (word_of q ∷ []) x
    no_form Usage a x = apart.no_name name_of form_of ALL refl among (codes "--help") [] refl a x
    no_form Version a x =
        apart.no_name name_of form_of ALL refl among (codes "--version") [] refl a x

    no_last : (q : Help) (step : Bool) → ¬ (word_of q ≡ raw_word step)
    no_last Usage true is =
        let letter = ap (λ (word : List ℕ). slice_index word 0) is in
        omega (arith, letter)
    no_last Usage false is =
        let letter = ap (λ (word : List ℕ). slice_index word 0) is in
        omega (arith, letter)
    no_last Version true is =
        let letter = ap (λ (word : List ℕ). slice_index word 0) is in
        omega (arith, letter)
    no_last Version false is =
        let letter = ap (λ (word : List ℕ). slice_index word 0) is in
        omega (arith, letter)

    no_witness : (q : Help) (a : WitnessAction) (x : Arguments)
        → ¬ GivesArguments (witness_name a) (witness_form a) (word_of q ∷ []) x
    no_witness Usage a x =
        apart.no_name witness_name witness_form on_witness.ALL refl witness_among (codes "--help") []
        refl a x
    no_witness Version a x =
        apart.no_name witness_name witness_form on_witness.ALL refl witness_among
        (codes "--version") [] refl a x

    no_other : (q : Help) (c : Command) (x : Arguments)
        → ¬ (IsAlone (word_of q ∷ []) c x
        ⊎ (FitNone (IsAlone (word_of q ∷ [])) × IsOnWitness (word_of q ∷ []) c x))
    no_other q c x (inl g) =
        no_raw_none (word_of q ∷ []) [] (word_of q) refl (no_last q) c x g
    no_other q c x (inr g) = no_witness q g.1.action g.1.given g.1.gives

    no_question : (q : Help) (c : Command) (x : Arguments) → ¬ AreCommand (word_of q ∷ []) c x
    no_question q c x (inl g) = no_form q g.action x g.gives
    no_question q c x (inr g) = no_other q c x g.1

-- a command that was run ends the program otherwise than words that give none
pub never_none : {E : Type 0} (done : Result (Unit {0}) E) → ended done ≡ endings.NoCommand → ⊥
never_none (Ok u) is = cc
never_none (Err e) is = cc

-- ---- what is given beside the files

-- a command has as many paths as its form
pub paths_fit : (a : Action) (k : ℕ) (d o : Bool)
    → paths_of (command_of a k d o) ≡ (form_of a).paths
paths_fit actions.Clauses k d o = refl
paths_fit a k d o = refl

-- and as many beside them
pub beside_fit : (a : Action) (k : ℕ) (d o : Bool)
    → beside_of (command_of a k d o) ≡ further_of (form_of a) k
beside_fit actions.SafeBySteps k d o = omega arith
beside_fit a k d o = refl
