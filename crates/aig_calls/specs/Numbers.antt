-- Part of what is promised.
-- The DIMACS numbers of a query's clauses, and which literals stand for inputs, latches and bad
-- literals. (DIMACS CNF format; bounded model checking: time frames.)
use Rattle.std.specs.Prelude.{◌≡◌, ℕ, ◌+◌, Bool, true, List, ◌++◌, length, map, ℤ}
use Rattle.std.specs.List.{flat_map, range_with_len}
use Rattle.aig_base.specs.Clauses.{lit_to}
use Rattle.aig_encode.specs.declared.query_clauses.Query.{Query}
use Rattle.aig_encode.specs.Encoding.{IsQuery}
use Rattle.aig_circuit.specs.declared.edge.AigEdge.{AigEdge}
use Rattle.aig_circuit.specs.Circuit.{Circuit, latch_leaves}
use Rattle.aig_circuit.specs.Edge.{lit_of}
use Rattle.aig_format.specs.File.{File}
use Rattle.aig_giving.specs.Numbers.{clause_numbers, dimacs_number}
use Rattle.aig_runs.specs.Queries.{last_bads}
use Rattle.aig_unroll.specs.Places.{place_at}

-- the numbers of a query's clauses, first those of each variable and then the further ones
abbrev pub query_numbers : Query → List ℤ
query_numbers q =
    flat_map (flat_map clause_numbers) q.encoded.clauses ++ flat_map clause_numbers q.extra

-- the number of a variable's literal that isn't inverted
abbrev pub variable_number : ℕ → ℤ
variable_number n = dimacs_number (lit_to n true)

-- the number of the literal of an edge
abbrev pub edge_number : AigEdge → ℤ
edge_number e = dimacs_number (lit_of e)

-- for each input the number of its place at step t
abbrev pub input_numbers : Circuit → Circuit → ℕ → List ℤ
input_numbers c unrolled t = map (λ n. variable_number (place_at c unrolled t n)) c.inputs

-- the map of a query for step k: the numbers of the inputs at each step, of the latches at step 0,
-- and of the bad edges of step k
abbrev pub map_numbers : Query → ℕ → List ℤ
map_numbers q k =
    flat_map (input_numbers q.encoded.circuit q.encoded.unrolled) (range_with_len 0 (k + 1))
    ++ map variable_number (latch_leaves q.encoded.circuit.latchs)
    ++ map edge_number (last_bads q.encoded.circuit k q.encoded.unrolled)

-- The numbers are those of a query's clauses, and its map behind them. There are so many variables,
-- and so many of the numbers are those of the clauses.
pub record AreNumbersOf (q : Query) (k variables clauses_len : ℕ) (numbers : List ℤ) : Type 0 where
  pub all : variables ≡ length q.encoded.clauses
  pub clauses : clauses_len ≡ length (query_numbers q)
  pub exact : numbers ≡ query_numbers q ++ map_numbers q k

-- how many variables there are, how many of the numbers are those of the clauses, and the numbers
pub record Listing : Type 0 where
  pub variables : ℕ
  pub clauses_len : ℕ
  pub numbers : List ℤ

-- they are those of the file's query for step k
abbrev pub IsListing : ℕ → Bool → File → Listing → Type 0
IsListing k optimize f l =
    (q : Query) × IsQuery k optimize f q × AreNumbersOf q k l.variables l.clauses_len l.numbers
