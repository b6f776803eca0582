use Rattle.aig_check_commands.proofs.Words.{◌≡◌, ap₂, sym, ◌∙◌, Bool, List, Some, ℕ, Circuit, Makes, WindowClauses, ArePrinted, clauses_with, same_Some}
use Rattle.aig_answers.specs.declared.plans.asking.Ask.{Ask}
use Rattle.aig_answers.specs.declared.plans.asking.Ask.TheVariants as asks
use Rattle.aig_check_commands.proofs.laws.printed_clauses_are_checked.Goals as goal

pub returns : goal.returns
returns c = by
  where
    by : (ask : Ask) (optimize : Bool) (m : Circuit) (comments : List ℕ)
        (printed checked : WindowClauses) → ArePrinted ask optimize m comments printed
        → Makes ask optimize m (Some checked) → printed ≡ checked
    by (asks.Step k) optimize m comments printed checked is makes =
        same_Some _ _ (c.question_clauses_are_one.ensures (asks.Step k) optimize m (Some printed)
        (Some checked) (is.0, is.1) makes)
    by (asks.UpTo k) optimize m comments printed checked is makes =
        let both = c.circuit_questions_are_one.ensures.clauses m k optimize is.0 makes.0 is.1
        makes.1 in
        sym is.2 ∙ ap₂ clauses_with both.0 both.1 ∙ makes.3
    by (asks.Window k form) optimize m comments printed checked is makes =
        same_Some _ _ (c.question_clauses_are_one.ensures (asks.Window k form) optimize m
        (Some printed) (Some checked) is.0 makes)
