-- Part of what is promised.
-- The titles of the texts that commands print.
use Rattle.std.specs.Prelude.{ℕ, Bool, List, Some, None}
use Rattle.aig_answers.specs.declared.plans.asking.Question.{Question}
use Rattle.aig_check_commands.specs.declared.lines.titles.title.Topic.TheVariants.{Asked, Obligation, Obligations}
use Rattle.aig_check_commands.specs.declared.lines.titles.title.Title.{Title}
use Rattle.aig_witness_circuits.specs.declared.condition.Condition.{Condition}

-- the title of a question of a circuit whose text has this sum
abbrev pub title_of : Question → List ℕ → Title
title_of q sum =
    record { topic = Asked q.ask; optimize = q.optimize; sum = sum; beside = None }

-- the title of the clauses of a file and its certificate
abbrev pub pair_title : Bool → List ℕ → List ℕ → Title
pair_title optimize sum beside =
    record { topic = Obligations; optimize = optimize; sum = sum; beside = Some beside }

-- that of the clauses of a condition, of a file and its witness circuit
abbrev pub condition_title : Condition → Bool → List ℕ → List ℕ → Title
condition_title condition optimize sum beside =
    record {
      topic = Obligation condition;
      optimize = optimize;
      sum = sum;
      beside = Some beside;
    }
