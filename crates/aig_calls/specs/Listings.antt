-- Serves private clauses alone.
-- What is listed, and what is written.
use Rattle.std.specs.Prelude.{ℕ, List, Result, Ok, Err}
use Rattle.aig_calls.specs.declared.numbers.Listed.{Listed}
use Rattle.aig_calls.specs.Numbers.{Listing}

abbrev pub listing_in : {E : Type 0} → Result Listed E → Result Listing E
listing_in (Ok l) = Ok (record {
  variables = l.variables;
  clauses_len = l.clauses_len;
  numbers = l.numbers.items;
})
listing_in (Err e) = Err e

-- the text that was written, where there is no error
abbrev pub text_in : {E : Type 0} → Result Unit E → List ℕ → Result (List ℕ) E
text_in (Ok done) text = Ok text
text_in (Err e) text = Err e
