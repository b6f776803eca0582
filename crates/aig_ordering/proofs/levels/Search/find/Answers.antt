use Rattle.aig_base.proofs.Words.{true, false, sym, refl, get_or-set_same, ◌∙◌, arith, get_or_read}
use Rattle.aig_ordering.proofs.NodesIn.{count-gates}
use Rattle.aig_ordering.proofs.Searching.{at_start, at_within, less_left, marks_stay}
use Rattle.aig_ordering.proofs.levels.Search.find.Goals as goal

pub index-requires : goal.index-requires
index-requires c =
    let f = c.requires.nodes.0 in
    let are = c.requires.nodes.1 in
    omega (arith, c.requires.start, count-gates f c.args.gates.now are, (c.requires.rest f are).search.opened, c.args.self.now.opened.ok.0)

pub returns-then-index-clause-started : goal.returns-then-index-clause-started
returns-then-index-clause-started c =
    let f = c.requires.nodes.0 in
    let are = c.requires.nodes.1 in
    let marks = c.args.self.now.opened.items in
    sym (get_or_read marks c.args.start c.index.result.now (omega (arith, c.requires.start, count-gates f c.args.gates.now are, (c.requires.rest f are).search.opened)) c.index.ensures false)
    ∙ c.if-index.true

pub index_mut-requires : goal.index_mut-requires
index_mut-requires c =
    let f = c.requires.nodes.0 in
    let are = c.requires.nodes.1 in
    omega (arith, c.requires.start, count-gates f c.args.gates.now are, (c.requires.rest f are).search.opened, c.args.self.now.opened.ok.0)

pub loop-current-init : goal.loop-current-init
loop-current-init c =
    let marks = c.args.self.now.opened.items in
    let f = c.requires.nodes.0 in
    let are = c.requires.nodes.1 in
    record {
      at = λ f are. at_start f c.args.self.now _ c.args.start (c.requires.rest f are) (omega (arith, c.requires.start, count-gates f c.args.gates.now are)) refl refl refl;
      opened = λ u is. marks_stay marks c.args.start u is;
      started = get_or-set_same marks c.args.start true false (omega (arith, c.requires.start, count-gates f c.args.gates.now are, (c.requires.rest f are).search.opened));
    }

pub step-requires-clause-within : goal.step-requires-clause-within
step-requires-clause-within c =
    let f = c.requires.nodes.0 in
    let are = c.requires.nodes.1 in
    let at = rw c.in-Some.is at (c.loop-current.invariant.at f are) in
    omega (arith, at_within f c.loop-current.self c.in-Some.variable at, count-gates f c.args.gates.now are)

pub step-requires-clause-at : goal.step-requires-clause-at
step-requires-clause-at c = λ f are. rw c.in-Some.is at (c.loop-current.invariant.at f are)

pub loop-current-smaller : goal.loop-current-smaller
loop-current-smaller c = rw c.in-Some.is (less_left c.in_ok-current.current _ _ c.in_ok-current.ensures.fewer)

pub loop-current-preserved : goal.loop-current-preserved
loop-current-preserved c =
    let inv = c.loop-current.invariant in
    record {
      at = λ f are. c.in_ok-current.ensures.at f are;
      opened = λ u is. c.in_ok-current.ensures.stays u (inv.opened u is);
      started = c.in_ok-current.ensures.stays c.args.start inv.started;
    }

pub returns-clause-rest : goal.returns-clause-rest
returns-clause-rest c = λ f are. rw c.in_default.is at (c.loop-current.invariant.at f are)

pub returns-clause-stays : goal.returns-clause-stays
returns-clause-stays c = c.loop-current.invariant.opened

pub returns-clause-started : goal.returns-clause-started
returns-clause-started c = c.loop-current.invariant.started
