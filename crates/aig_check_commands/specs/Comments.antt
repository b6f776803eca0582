-- Part of what is promised.
-- Comments that say which literals of a query's clauses stand for inputs, latches and bad state
-- properties. (DIMACS CNF format; bounded model checking: time frames.)
use Rattle.std.specs.Prelude.{ℕ, ◌+◌, true, List, [], ◌∷◌, ◌++◌, codes, decimal}
use Rattle.std.specs.List.{enumerate_from, flat_map, range_with_len}
use Rattle.aig_base.specs.declared.logic.literal.Lit.{Lit}
use Rattle.aig_base.specs.Clauses.{lit_to, variable_of}
use Rattle.aig_circuit.specs.declared.edge.AigEdge.{AigEdge}
use Rattle.aig_circuit.specs.Circuit.{Circuit, latch_leaves}
use Rattle.aig_circuit.specs.Edge.{lit_of}
use Rattle.aig_dimacs.specs.Text.{sign_of}
use Rattle.aig_runs.specs.Queries.{last_bads}
use Rattle.aig_unroll.specs.Places.{place_at}

-- a letter and a number, and a step
abbrev pub named_text : List ℕ → ℕ → ℕ → ℕ → List ℕ
named_text letter number step end =
    letter ++ (decimal number ++ 32 ∷ []) ++ codes "at step " ++ (decimal step ++ end ∷ [])

-- the line that a literal stands for what has this letter and number, at a step: its variable's
-- number and one more, after its sign
unfoldable pub literal_line : List ℕ → ℕ → ℕ → Lit → List ℕ
literal_line letter number step lit =
    named_text letter number step 32 ++ codes "is " ++ sign_of lit
    ++ (decimal (variable_of lit + 1) ++ 10 ∷ [])

-- for each input, by its number, the variable of its place at step t
abbrev pub input_line : Circuit → Circuit → ℕ → ℕ × ℕ → List ℕ
input_line c unrolled t (i, n) =
    literal_line (codes "c i") i t (lit_to (place_at c unrolled t n) true)

unfoldable pub input_lines : Circuit → Circuit → ℕ → List ℕ
input_lines c unrolled t = flat_map (input_line c unrolled t) (enumerate_from 0 c.inputs)

-- for each latch, by its number, the variable of its leaf, which is its place at step 0
abbrev pub latch_comment : ℕ × ℕ → List ℕ
latch_comment (i, leaf) = literal_line (codes "c l") i 0 (lit_to leaf true)

-- for each bad edge, by its number, its literal at step k
abbrev pub bad_line : ℕ → ℕ × AigEdge → List ℕ
bad_line k (i, e) = literal_line (codes "c b") i k (lit_of e)

-- the comments of a query for step k: the inputs of each step, the latches at step 0, and the bad
-- edges of step k
unfoldable pub comments_of : Circuit → Circuit → ℕ → List ℕ
comments_of c unrolled k =
    flat_map (input_lines c unrolled) (range_with_len 0 (k + 1))
    ++ flat_map latch_comment (enumerate_from 0 (latch_leaves c.latchs))
    ++ flat_map (bad_line k) (enumerate_from 0 (last_bads c k unrolled))
