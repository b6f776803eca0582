-- Wrong words and texts of commands, of which the definitions are false.
use Rattle.aig_base.proofs.Words.{◌≡◌, ℕ, Bool, true, false, None, Some, Option, List, [], ◌∷◌, ◌++◌, length, refl, sym, ap, subst, arith, length-append, same_Some}
use Rattle.std.specs.Prelude.{IsTrue, codes, slice_get}
use Rattle.std.specs.Fmt.{digits}
use Rattle.aig_base.specs.declared.logic.literal.Lit.{Lit}
use Rattle.aig_base.specs.Clauses.{lit_to}
use Rattle.aig_circuit.specs.Properties.{no_properties}
use Rattle.aig_circuit.specs.Tree.{tree_of}
use Rattle.aig_dimacs.specs.Reading.{after_comments, clauses_from, counted_in, parse_formula, signed_in, words_from}
use Rattle.aig_format.specs.declared.FileKind.TheVariants.{Text}
use Rattle.aig_format.proofs.Words.{File, circuit_of, text_of}
use Rattle.aig_format.specs.Numbering.{node_of_variable, variables_in_order}
use Rattle.aig_format.specs.Written.{file_text, line_text}
use Rattle.aig_command_line.specs.Arguments.{Arguments, GivesArguments, setting_words}
use Rattle.aig_tool_commands.specs.declared.command.Action.{Action}
use Rattle.aig_tool_commands.specs.declared.command.Action.TheVariants as actions
use Rattle.aig_tool_commands.specs.declared.command.Command.TheVariants as commands
use Rattle.aig_tool_commands.specs.Running.{Answers, IsTextOf}
use Rattle.aig_tool_commands.specs.CommandWords.{Give, command_of, form_of, name_of}

-- ---- words

two_paths : (a : Action) (k : ℕ) (o : Bool) → commands.Binary ≡ command_of a k o
    → (form_of a).paths ≡ 2
two_paths actions.Binary k o is = refl
two_paths a k o is = cc

-- no OUT
no_binary_without_out : (file : List ℕ) → ¬ Give (codes "binary" ∷ file ∷ []) commands.Binary
no_binary_without_out file give =
    let call = give.1 in
    let x = call.arguments in
    let two = two_paths call.action x.step x.optimize call.command in
    let count = ap length call.gives.spelled in
    let parts = length-append x.paths
    (call.gives.steps ++ (x.further ++ setting_words x.distinct x.optimize)) in
    let paths = call.gives.paths in
    omega (arith, two, count, parts, paths)

is_cnf : (a : Action) (k m : ℕ) (o : Bool) → commands.Cnf m true ≡ command_of a k o
    → (a ≡ actions.Cnf) × (o ≡ true)
is_cnf actions.Cnf k m o is = let same : true ≡ o = cc in (refl, sym same)
is_cnf a k m o is = cc

no_settings : (d o : Bool) → (IsTrue d → IsTrue false) → o ≡ true → length (setting_words d o) ≡ 0
no_settings false true distinct is = refl
no_settings true true distinct is = let not = distinct refl in cc
no_settings d false distinct is = cc

no_raw : (file steps : List ℕ) (x : Arguments) → x.optimize ≡ true
    → ¬ GivesArguments (codes "cnf") (form_of actions.Cnf)
    (codes "cnf" ∷ file ∷ steps ∷ codes "raw" ∷ []) x
no_raw file steps x is g =
    let settings = setting_words x.distinct x.optimize in
    let count = ap length g.spelled in
    let parts = length-append x.paths (g.steps ++ (x.further ++ settings)) in
    let more = length-append g.steps (x.further ++ settings) in
    let last = length-append x.further settings in
    let one = ap length g.step.1 in
    let none = no_settings x.distinct x.optimize g.distinct is in
    omega (arith, count, parts, more, last, one, none, g.paths, g.further)

-- `raw`, and clauses that aren't plain
no_optimized_raw : (file steps : List ℕ) (k : ℕ)
    → ¬ Give (codes "cnf" ∷ file ∷ steps ∷ codes "raw" ∷ []) (commands.Cnf k true)
no_optimized_raw file steps k give =
    let call = give.1 in
    let is = is_cnf call.action call.arguments.step k call.arguments.optimize call.command in
    no_raw file steps call.arguments is.1
    (subst (λ a. GivesArguments (name_of a) (form_of a)
    (codes "cnf" ∷ file ∷ steps ∷ codes "raw" ∷ [])
    call.arguments) is.0 call.gives)

-- ---- texts

-- variable 0 is false, and is asked to be true: the text has both clauses
no_clauses_alone : ¬ IsTextOf (((lit_to 0 false ∷ []) ∷ []) ∷ []) ((lit_to 0 true ∷ []) ∷ [])
    (codes "p cnf 1 1\n-1 0\n")
unfolding parse_formula after_comments counted_in clauses_from signed_in words_from
no_clauses_alone is = let count : 1 ≡ 2 = ap clause_count is.again in omega (arith, count)
  where
    clause_count : Option (ℕ × List (List Lit)) → ℕ
    clause_count None = 0
    clause_count (Some x) = length x.1

-- two gates of one pair of inputs
abbrev doubled : File
doubled = record {
  kind = Text;
  greatest = 4;
  inputs = 2 ∷ 4 ∷ [];
  latches = [];
  properties = record no_properties { outputs = 8 ∷ [] };
  gates = record { lhs = 6; rhs0 = 4; rhs1 = 2 } ∷ record { lhs = 8; rhs0 = 4; rhs1 = 2 } ∷ [];
  names = [];
}

-- the text of the circuit that was read, where a node less is left
no_old_circuit : ¬ Answers commands.Strash doubled (text_of (circuit_of doubled))
unfolding node_of_variable variables_in_order tree_of file_text line_text digits
no_old_circuit same =
    let greatest : 52 ≡ 51 = same_Some 52 51 (ap (λ text. slice_get text 4) same) in
    omega (arith, greatest)
