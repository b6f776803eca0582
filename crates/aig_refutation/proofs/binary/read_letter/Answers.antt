use Rattle.aig_base.proofs.Words.{true, false, ne_eqb}
use Rattle.aig_lexer.specs.Takes.{feed}
use Rattle.aig_refutation.proofs.BinarySteps.{letter_came, letter_refused, letter_missing}
use Rattle.aig_refutation.proofs.binary.read_letter.Goals as goal

pub returns-in-Some-clause-letter : goal.returns-in-Some-clause-letter
returns-in-Some-clause-letter g c =
    let at = feed g.R.Source.left g.R.Source.failed g.R.Source.pulls in
    let before = at c.args.buffer.now c.args.r.now in
    let after = at c.next.new.self c.next.new.r in
    let b = c.in-Some.field-0 in
    letter_refused before after c.in_ok-next.field-0 c.in_ok-next.ensures.steps b false
    c.in-Some.is (ne_eqb b 97 c.in-Some.field-0-test.0.1) (ne_eqb b 100 c.in-Some.field-0-test.1)

pub returns-in-None-clause-letter : goal.returns-in-None-clause-letter
returns-in-None-clause-letter g c =
    let at = feed g.R.Source.left g.R.Source.failed g.R.Source.pulls in
    let before = at c.args.buffer.now c.args.r.now in
    let after = at c.next.new.self c.next.new.r in
    letter_missing before after c.in_ok-next.field-0 c.in_ok-next.ensures.steps false c.in-None.is

pub returns-in-Some-eq97-clause-letter : goal.returns-in-Some-eq97-clause-letter
returns-in-Some-eq97-clause-letter g c =
    let at = feed g.R.Source.left g.R.Source.failed g.R.Source.pulls in
    let before = at c.args.buffer.now c.args.r.now in
    let after = at c.next.new.self c.next.new.r in
    letter_came before after c.in_ok-next.field-0 c.in_ok-next.ensures.steps
    c.in-Some-eq97.field-0 false c.in-Some-eq97.is c.in-Some-eq97.field-0-test

pub returns-in-Some-eq100-clause-letter : goal.returns-in-Some-eq100-clause-letter
returns-in-Some-eq100-clause-letter g c =
    let at = feed g.R.Source.left g.R.Source.failed g.R.Source.pulls in
    let before = at c.args.buffer.now c.args.r.now in
    let after = at c.next.new.self c.next.new.r in
    letter_came before after c.in_ok-next.field-0 c.in_ok-next.ensures.steps
    c.in-Some-eq100.field-0 true c.in-Some-eq100.is c.in-Some-eq100.field-0-test
