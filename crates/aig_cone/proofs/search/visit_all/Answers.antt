use Rattle.aig_base.proofs.Words.{◌≡◌, ◌⊎◌, [], get_or, refl, subst, take, ◌+◌, take_all, Contains}
use Rattle.aig_cone.specs.Marks.{Visits}
use Rattle.aig_cone.proofs.Marking.{Contains-more, Contains-nothing}
use Rattle.aig_cone.proofs.Searching.{Visits-none, Visits-same, Visits-then}
use Rattle.aig_cone.proofs.search.visit_all.Goals as goal

pub loop-id-preserved : goal.loop-id-preserved
loop-id-preserved c =
    let ids = c.args.ids.now in
    let i = c.loop-id.id-index in
    let id = get_or ids i 0 in
    let old = c.args.marks.now in
    let new = c.visit.new.marks in
    let stack = c.args.stack.now.items in
    let stacked = c.visit.new.stack.items in
    Visits-same (λ n. Contains (take i ids) n ⊎ (n ≡ id)) (Contains (take (i + 1) ids)) old new stack stacked (Contains-more ids i 0 id c.loop-id-test.true refl)
    (Visits-then (Contains (take i ids)) (λ n. n ≡ id) old c.loop-id.marks new stack c.loop-id.stack.items stacked c.loop-id.invariant c.in_ok-visit.ensures)

pub loop-id-init : goal.loop-id-init
loop-id-init c = Visits-none (Contains []) c.args.marks.now c.args.stack.now.items Contains-nothing

pub visit-requires : goal.visit-requires
visit-requires c = rw c.loop-id.auto.marks (c.requires c.loop-id.id-index 0 c.loop-id-test.true)

pub returns : goal.returns
returns c = subst (λ ids. Visits c.args.marks.now c.loop-id.marks c.args.stack.now.items c.loop-id.stack.items (Contains ids)) (take_all c.loop-id.id-index c.args.ids.now c.loop-id-test.false) c.loop-id.invariant
