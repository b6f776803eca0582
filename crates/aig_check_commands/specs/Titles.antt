-- Part of what is promised.
-- The title of printed clauses: a comment line in front of them. (DIMACS CNF format; SHA-256: FIPS
-- 180-4.)
use Rattle.std.specs.Prelude.{ℕ, Bool, if◌then◌else◌, List, [], ◌∷◌, ◌++◌, codes, decimal, Option, Some, None}
use Rattle.hex.specs.Hex.{encode_lower}
use Rattle.aig_answers.specs.declared.plans.asking.Ask.{Ask}
use Rattle.aig_answers.specs.declared.plans.asking.Ask.TheVariants as asks
use Rattle.aig_runs.specs.declared.window.Window.{Window}
use Rattle.aig_runs.specs.declared.window.Window.TheVariants.{Distinct, Plain}
use Rattle.aig_check_commands.specs.declared.lines.titles.title.Title.{Title}
use Rattle.aig_check_commands.specs.declared.lines.titles.title.Topic.{Topic}
use Rattle.aig_check_commands.specs.declared.lines.titles.title.Topic.TheVariants.{Asked, Obligation, Obligations}
use Rattle.aig_witness_circuits.specs.Names.{condition_name}

-- the word of windows on which no state comes twice
abbrev pub form_text : Window → List ℕ
form_text Plain = []
form_text Distinct = codes "distinct "

-- the word of clauses without those of exclusive ors and choices
abbrev pub raw_text : Bool → List ℕ
raw_text optimize = if optimize then [] else codes "raw "

-- a question's name, a number and the word of a form
abbrev pub numbered_text : List ℕ → ℕ → Window → List ℕ
numbered_text name k form = name ++ (decimal k ++ 32 ∷ []) ++ form_text form

-- the words of a question of a circuit
abbrev pub asked_text : Ask → List ℕ
asked_text (asks.Step k) = numbered_text (codes "clauses ") k Plain
asked_text (asks.UpTo k) = numbered_text (codes "bounded ") k Plain
asked_text (asks.Window k form) = numbered_text (codes "window ") k form

-- the words that say what is asked
abbrev pub topic_text : Topic → List ℕ
topic_text (Asked ask) = asked_text ask
topic_text Obligations = codes "obligations "
topic_text (Obligation condition) = codes "obligations " ++ condition_name condition ++ 32 ∷ []

-- the sum of a file beside another
abbrev pub beside_text : Option (List ℕ) → List ℕ
beside_text (Some sum) = 32 ∷ [] ++ encode_lower sum
beside_text None = []

-- the line: what is asked, in which setting, and the sums in hexadecimal
unfoldable pub title_text : Title → List ℕ
title_text t =
    codes "c aigcheck " ++ topic_text t.topic ++ raw_text t.optimize ++ codes "sha256 "
    ++ encode_lower t.sum ++ beside_text t.beside ++ 10 ∷ []
