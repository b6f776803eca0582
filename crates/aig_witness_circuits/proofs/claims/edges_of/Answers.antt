use Rattle.aig_witness_circuits.proofs.Words.{All-take, Claim, Edge, IsClaimIn, ap, edge_to, false, get_or, listed_in, ◌∙◌}
use Rattle.aig_witness_circuits.proofs.Exactly.{listed_more}
use Rattle.aig_witness_circuits.proofs.Gates.{claim_later, lists}
use Rattle.aig_witness_circuits.proofs.claims.edges_of.Goals as goal

abbrev no_claim : Claim
no_claim = Edge (edge_to 0 false)

pub edge_of-requires-clause-sound : goal.edge_of-requires-clause-sound
edge_of-requires-clause-sound c =
    (lists c.args.nodes.now.items c.requires.sound _
    (All-take (IsClaimIn c.args.nodes.now.items) c.loop-claim.claim-index c.args.claims.now
    c.requires.there) _ c.loop-claim.invariant).grows.sound

pub edge_of-requires-clause-there : goal.edge_of-requires-clause-there
edge_of-requires-clause-there c =
    let base = c.args.nodes.now.items in
    let i = c.loop-claim.claim-index in
    claim_later base c.loop-claim.nodes.items
    (lists base c.requires.sound _
    (All-take (IsClaimIn base) i c.args.claims.now c.requires.there) _ c.loop-claim.invariant).grows
    (get_or c.args.claims.now i no_claim) (c.requires.there i no_claim c.loop-claim-test.true)

pub loop-claim-preserved : goal.loop-claim-preserved
loop-claim-preserved c =
    ap (listed_in c.edge_of.new.nodes.items) c.in_ok-push.ensures.items
    ∙ listed_more c.args.nodes.now.items c.loop-claim.nodes.items c.edge_of.new.nodes.items
    c.args.claims.now c.loop-claim.claim-index no_claim c.loop-claim.edges.items
    c.in_ok-edge_of.field-0 c.loop-claim-test.true c.loop-claim.invariant c.in_ok-edge_of.ensures
