use Rattle.aig_base.proofs.Words.{sym, subst, ◌∙◌, All, false≢true}
use Rattle.aig_circuit.specs.Edges.{HasConstantInit}
use Rattle.aig_format.specs.Writable.{HasLineFeed, named_nodes}
use Rattle.aig.proofs.Refusing.{none_where_false}
use Rattle.aig.proofs.graph.Aig.check_writable.Goals as goal

pub returns-then-names_hold_line_feed-clause-tells :
    goal.returns-then-names_hold_line_feed-clause-tells
returns-then-names_hold_line_feed-clause-tells c = (
  c.is_closed.ensures.closed.0 c.if-not-is_closed.false,
  subst (All HasConstantInit) c.latchs.ensures.value (c.are_inits_constant.ensures.plain.0 c.if-not-are_inits_constant.false),
  c.names_hold_line_feed.ensures.0 c.if-names_hold_line_feed.true,
)

pub returns-then-not-is_small-clause-tells : goal.returns-then-not-is_small-clause-tells
returns-then-not-is_small-clause-tells c = (
  c.is_closed.ensures.closed.0 c.if-not-is_closed.false,
  subst (All HasConstantInit) c.latchs.ensures.value (c.are_inits_constant.ensures.plain.0 c.if-not-are_inits_constant.false),
  none_where_false (HasLineFeed c.args.self.now.names) (named_nodes c.args.self.now) _ c.names_hold_line_feed.ensures c.if-names_hold_line_feed.false,
  λ small. false≢true (sym c.if-not-is_small.true ∙ c.is_small.ensures.small.1 small),
)

pub returns-else-not-is_small-clause-tells : goal.returns-else-not-is_small-clause-tells
returns-else-not-is_small-clause-tells c = record {
  closed = c.is_closed.ensures.closed.0 c.if-not-is_closed.false;
  start = subst (All HasConstantInit) c.latchs.ensures.value (c.are_inits_constant.ensures.plain.0 c.if-not-are_inits_constant.false);
  names = none_where_false (HasLineFeed c.args.self.now.names) (named_nodes c.args.self.now) _ c.names_hold_line_feed.ensures c.if-names_hold_line_feed.false;
  small = c.is_small.ensures.small.0 c.if-not-is_small.false;
}
