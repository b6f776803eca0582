use Rattle.aig_answers.proofs.Words.{subst, arith, AllZip, take_all, IsNamed}
use Rattle.aig_answers.proofs.Names.{named_more}
use Rattle.aig_answers.proofs.bounded_checks.naming.name_places.Goals as goal

pub loop-place-preserved : goal.loop-place-preserved
loop-place-preserved c =
    let names = c.in_ok-names in
    named_more c.args.circuit.now c.requires.closed names.names.items names.ensures.count
    names.ensures.named c.args.places.now c.requires.leaves c.loop-place.place-index _
    c.loop-place.named.items c.push.new.self.items c.index.result.now _ c.loop-place-test.true
    c.loop-place.invariant c.in_ok-push.ensures.items c.index.ensures

pub returns : goal.returns
returns c =
    subst (λ ps. AllZip (IsNamed c.args.circuit.now) ps c.loop-place.named.items) (take_all
    c.loop-place.place-index c.args.places.now (omega (arith, c.loop-place-test.false)))
    c.loop-place.invariant
