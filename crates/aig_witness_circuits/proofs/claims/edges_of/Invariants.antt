use Rattle.std.proofs.Common.{◌≡◌, [], take}
use Rattle.aig_witness_circuits.specs.Exact.{listed_in, with_claims}
use Rattle.aig_witness_circuits.proofs.claims.edges_of.Given as goal

abbrev pub invariant-loop-claim : goal.invariant-loop-claim
invariant-loop-claim l =
    listed_in l.nodes.items l.edges.items
    ≡ with_claims (listed_in l.fn.nodes.items []) (take l.claim-index l.claims)
