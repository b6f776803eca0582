-- Serves private clauses alone.
-- The header as the code holds it.
use Rattle.aig_format.specs.File.{HeaderNumbers}
use Rattle.aig_lexer.specs.declared.header.Header.{Header}

-- its numbers, without the kind
abbrev pub numbers_of : Header → HeaderNumbers
numbers_of h = record {
  greatest = h.greatest;
  inputs = h.inputs;
  latches = h.latches;
  outputs = h.outputs;
  gates = h.gates;
  bads = h.bads;
  constraints = h.constraints;
  justice = h.justice;
  fairness = h.fairness;
}
