-- Words give one command.
use Rattle.aig_base.proofs.Words.{◌≡◌, ◌↔◌, ℕ, ◌<◌, ◌≤◌, Option, Some, None, List, [], ◌∷◌, length, get_or, refl, same_Some, sym, ap, subst, ◌∙◌, arith, String, Global, map, get_or-map, length-map, string_bytes}
use Rattle.std.specs.List.{position_or_len}
use Rattle.std.specs.Prelude.{All, Contains, Err, IfNone, IfSome, Ok, Result, codes, not, slice_index, slice_index_or}
use Rattle.std.proofs.Common.{lit<}
use Rattle.aig_command_line.specs.declared.help.Help.{Help}
use Rattle.aig_command_line.specs.declared.help.Help.TheVariants.{Usage, Version}
use Rattle.aig_command_line.specs.Help.{word_of}
use Rattle.aig_command_line.specs.declared.status.Ending.TheVariants as endings
use Rattle.aig_command_line.specs.Arguments.{AreStep, Arguments, GivesArguments}
use Rattle.aig_command_line.specs.declared.arguments.Step.TheVariants.{At}
use Rattle.aig_command_line.specs.Ending.{ended}
use Rattle.aig_command_line.specs.Limits.{IsLimited}
use Rattle.aig_command_line.proofs.Apart as apart
use Rattle.aig_format.specs.Text.{IsNumber, value_of}
use Rattle.aig_command_line.proofs.Limits.{asked_alone, one_limit}
use Rattle.aig_edit_laws.specs.declared.fairness.Fairness.TheVariants.{Justice}
use Rattle.aig_edits.proofs.ConstraintWords.{one_constraints}
use Rattle.aig_edits.specs.Words.{AreConstraints}
use Rattle.aig_edits.specs.declared.pairing.Pairing.TheVariants as pairings
use Rattle.aig_edit_commands.specs.declared.command.Action.{Action}
use Rattle.aig_join.specs.declared.comparison.Constraints.{Constraints}
use Rattle.aig_join.specs.declared.comparison.Constraints.TheVariants.{OfBoth}
use Rattle.aig_join.specs.declared.starts.Matching.TheVariants.{ByName, ByOrder}
use Rattle.aig_join.specs.declared.starts.Starts.TheVariants.{Alike, Apart}
use Rattle.aig_edit_commands.specs.declared.command.Action.TheVariants as actions
use Rattle.aig_edit_commands.specs.declared.command.Command.{Command}
use Rattle.aig_edit_commands.specs.declared.command.TheConstants.Action.{ALL}
use Rattle.aig_edit_commands.specs.declared.command.Command.TheVariants as commands
use Rattle.aig_edit_commands.specs.declared.command.FileCommand.TheVariants as files
use Rattle.aig_edit_commands.specs.CommandWords.{IsCall, IsCommandOf, form_of, name_of, paths_of, under}

-- each command is in the list, at the place of the first that doesn't exclude it
among : (a : Action) → Contains ALL a
among actions.Refine = (0, omega arith, refl)
among (actions.Miter Apart) = (
  position_or_len (λ b. not (apart.exclude name_of form_of (actions.Miter Apart) b)) ALL,
  lit< tt,
  refl,
)
among (actions.Miter (Alike ByOrder)) = (
  position_or_len (λ b. not (apart.exclude name_of form_of (actions.Miter (Alike ByOrder)) b)) ALL,
  lit< tt,
  refl,
)
among (actions.Miter (Alike ByName)) = (
  position_or_len (λ b. not (apart.exclude name_of form_of (actions.Miter (Alike ByName)) b)) ALL,
  lit< tt,
  refl,
)
among a =
    (position_or_len (λ b. not (apart.exclude name_of form_of a b)) ALL, lit< tt, refl)

-- what holds of each in the list holds of each
pub each : (P : Action → Type 0) → All P ALL → (a : Action) → P a
each = apart.each name_of form_of ALL refl among

-- the first of some words
same_word : (a b : List ℕ) → a ∷ [] ≡ b ∷ [] → a ≡ b
same_word a b is = cc

-- one word is one number
one_number : (n m : ℕ) (words : List (List ℕ)) → AreStep At n words → AreStep At m words → n ≡ m
one_number n m words g h =
    let same : g.0 ≡ h.0 = same_word g.0 h.0 (sym g.1 ∙ h.1) in
    sym g.2.value ∙ ap value_of same ∙ h.2.value

-- a list of one item
pub one_item : {A : Type 0} (xs : List A) (x : A) → 1 ≤ length xs → length xs < 2
    → x ≡ get_or xs 0 x → xs ≡ x ∷ []
one_item [] x some few is = absurd (omega (arith, some))
one_item (y ∷ []) x some few is = ap (λ z. z ∷ []) (sym is)
one_item (y ∷ z ∷ zs) x some few is = absurd (omega (arith, few))

-- the number of one word
module _ (word : List ℕ) (words : List (List ℕ)) (are : words ≡ word ∷ []) where
  pub some_number : (o : Option ℕ) → ((k : ℕ) → (o ≡ Some k) ↔ IsNumber k word)
      → IfSome o (λ n. AreStep At n words)
  some_number (Some n) exact = (word, are, (exact n).0 refl)
  some_number None exact = tt

  pub no_number : (o : Option ℕ) → ((k : ℕ) → (o ≡ Some k) ↔ IsNumber k word)
      → IfNone o ((n : ℕ) → ¬ AreStep At n words)
  no_number (Some n) exact = tt
  no_number None exact = λ n g.
      let same = same_word g.0 word (sym g.1 ∙ are) in
      let some = (exact n).1 (subst (IsNumber n) same g.2) in
      cc

-- a command with its words is one
one_command : (a : Action) (k : ℕ) (further : List (List ℕ)) (c d : Command)
    → IsCommandOf a k further c → IsCommandOf a k further d → c ≡ d
one_command actions.Rounds k further c d g h =
    g.2 ∙ ap (λ n. commands.File (files.Rounds (Justice k) n)) (one_number g.0 h.0 further g.1 h.1)
    ∙ sym h.2
one_command a k further c d g h = g ∙ sym h

-- a command is run on as many files as come after its name
pub action_paths : (a : Action) (k : ℕ) (further : List (List ℕ)) (c : Command)
    → IsCommandOf a k further c → (form_of a).paths ≡ paths_of c
action_paths actions.Rounds k further c is = sym (ap paths_of is.2)
action_paths a k further c is = sym (ap paths_of is)

-- and so with constraints
pub under_paths : (constraints : Constraints) (usual c : Command) → under constraints usual ≡ Some c
    → paths_of usual ≡ paths_of c
under_paths OfBoth usual c is = ap paths_of (same_Some _ _ is)
under_paths constraints (commands.Pair (pairings.Miter comparison)) c is =
    ap paths_of (same_Some _ _ is)
under_paths constraints usual c is = cc

-- words that give a limit, and then what constraints say
module _ (words rest more : List (List ℕ)) (limit : ℕ) (constraints : Constraints)
    (limited : IsLimited words limit rest) (said : AreConstraints constraints rest more) where
  -- they give one limit, constraints that say one thing, and one list of other words
  same_rest : (other : ℕ) (c : Command) (paths : List (List ℕ)) (g : IsCall words other c paths)
      → (other ≡ limit) × (g.constraints ≡ constraints) × (g.more ≡ more)
  same_rest other c paths g =
      let words_are = one_limit words other limit g.rest rest g.limited limited in
      let given = rw words_are.1 at g.said in
      let said_are = one_constraints rest g.constraints constraints g.more more given said in
      (words_are.0, said_are.0, said_are.1)

  -- where the others fit no command they give none
  pub fits_none : All (λ a. (x : Arguments) → ¬ GivesArguments (name_of a) (form_of a) more x) ALL
      → (other : ℕ) (c : Command) (paths : List (List ℕ)) → ¬ IsCall words other c paths
  fits_none none other c paths g =
      each (λ a. (x : Arguments) → ¬ GivesArguments (name_of a) (form_of a) more x) none g.action
      g.arguments (rw (same_rest other c paths g).2 at g.gives)

  -- they fit one
  module _ (a : Action) (x : Arguments) where
    same_command : GivesArguments (name_of a) (form_of a) more x
        → (other : ℕ) (c : Command) (paths : List (List ℕ)) (g : IsCall words other c paths)
        → (g.arguments ≡ x) × IsCommandOf a x.step x.further g.usual
    same_command gives other c paths g =
        let given = rw (same_rest other c paths g).2 at g.gives in
        let same = apart.one_fits name_of form_of ALL refl among more g.action a g.arguments x given
        gives in
        let command =
        subst (λ b. IsCommandOf b g.arguments.step g.arguments.further g.usual) same.0 g.command in
        (same.1, subst (λ (y : Arguments). IsCommandOf a y.step y.further g.usual) same.1 command)

    -- where its numbers are none that it takes they give none
    pub further_none : GivesArguments (name_of a) (form_of a) more x
        → ((c : Command) → ¬ IsCommandOf a x.step x.further c)
        → (other : ℕ) (c : Command) (paths : List (List ℕ)) → ¬ IsCall words other c paths
    further_none gives none other c paths g = none g.usual (same_command gives other c paths g).1

    -- and where they are they give what constraints that say this make of it
    same_call : (usual : Command) → GivesArguments (name_of a) (form_of a) more x
        → IsCommandOf a x.step x.further usual
        → (other : ℕ) (c : Command) (paths : List (List ℕ)) → IsCall words other c paths
        → (other ≡ limit) × (under constraints usual ≡ Some c) × (paths ≡ x.paths)
    same_call usual gives command other c paths g =
        let rest_is = same_rest other c paths g in
        let is = same_command gives other c paths g in
        let same = one_command a x.step x.further usual g.usual command is.1 in
        let compares = ap (λ d. under constraints d) same
        ∙ ap (λ o. under o g.usual) (sym rest_is.1) ∙ g.compares in
        (rest_is.0, compares, g.on ∙ ap (λ (y : Arguments). y.paths) is.0)

    -- or none, where these make nothing of it
    pub under_none : (usual : Command) → GivesArguments (name_of a) (form_of a) more x
        → IsCommandOf a x.step x.further usual → under constraints usual ≡ None
        → (other : ℕ) (c : Command) (paths : List (List ℕ)) → ¬ IsCall words other c paths
    under_none usual gives command none other c paths g =
        let some = sym none ∙ (same_call usual gives command other c paths g).1 in
        cc

-- words give one command, with one limit and one list of paths
pub one_call : (words : List (List ℕ)) (limit other : ℕ) (c d : Command) (p q : List (List ℕ))
    → IsCall words limit c p → IsCall words other d q
    → (limit ≡ other) × (c ≡ d) × (p ≡ q)
one_call words limit other c d p q g h =
    let is = same_call words h.rest h.more other h.constraints h.limited h.said h.action h.arguments
    h.usual h.gives h.command limit c p g in
    (is.0, same_Some _ _ (sym is.1 ∙ h.compares), is.2 ∙ sym h.on)

-- words after a limit that don't say rightly what constraints say give none
pub unsaid_none : (words rest : List (List ℕ)) (limit : ℕ) → IsLimited words limit rest
    → ((constraints : Constraints) (more : List (List ℕ)) → ¬ AreConstraints constraints rest more)
    → (other : ℕ) (c : Command) (paths : List (List ℕ)) → ¬ IsCall words other c paths
unsaid_none words rest limit limited none other c paths g =
    let same = (one_limit words other limit g.rest rest g.limited limited).1 in
    none g.constraints g.more (rw same at g.said)

-- a question is no command
pub no_command : (words : List (List ℕ)) (q : Help) (limit : ℕ) (c : Command)
    (paths : List (List ℕ)) → words ≡ word_of q ∷ []
    → ¬ IsCall words limit c paths
no_command words q limit c paths are g =
    let alone = asked_alone words g.rest q limit are g.limited in
    let same = one_constraints (word_of q ∷ []) g.constraints OfBoth g.more (word_of q ∷ [])
    (rw alone at g.said) (no_word q, refl) in
    no_question q g.action g.arguments (rw same.1 at g.gives)
  where
    no_word : (q : Help) (more : List (List ℕ)) → ¬ (word_of q ∷ [] ≡ codes "--constraints" ∷ more)
    no_word Usage more is =
        let letter = ap (λ (words : List (List ℕ)). slice_index (slice_index_or words 0 []) 2) is in
        omega (arith, letter)
    no_word Version more is =
        let letter = ap (λ (words : List (List ℕ)). slice_index (slice_index_or words 0 []) 2) is in
        omega (arith, letter)

    no_question : (q : Help) (a : Action) (x : Arguments)
        → ¬ GivesArguments (name_of a) (form_of a) (word_of q ∷ []) x
    no_question Usage a x = apart.no_name name_of form_of ALL refl among (codes "--help") [] refl a x
    no_question Version a x =
        apart.no_name name_of form_of ALL refl among (codes "--version") [] refl a x

-- a command that was run ends the program otherwise than words that give none
pub never_none : {E : Type 0} (done : Result (Unit {0}) E) → ended done ≡ endings.NoCommand → ⊥
never_none (Ok u) is = cc
never_none (Err e) is = cc

-- the word at a place of words
pub word_at : (words : List (String Global)) (given : List (List ℕ)) (i : ℕ) (word : String Global)
    → map string_bytes words ≡ given → i < length given → word ≡ get_or words i word
    → string_bytes word ≡ get_or given i (string_bytes word)
word_at words given i word are low is =
    ap string_bytes is
    ∙ sym (get_or-map string_bytes words i word (string_bytes word)
    (omega (arith, length-map words string_bytes, ap length are)))
    ∙ ap (λ l. get_or l i (string_bytes word)) are
