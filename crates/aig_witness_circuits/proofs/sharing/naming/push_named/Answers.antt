use Rattle.aig_witness_circuits.proofs.Words.{◌≡◌, ◌<◌, ◌+◌, ◌++◌, ◌∷◌, ◌∙◌, ℕ, [], Vec, Global, ap, arith, err_from_is_err_and, get_or, length, subst, sym, Contains-get_or, names_of, node_told, AddsNamed, IsAt, IsRefused}
use Rattle.aig_base.proofs.Words.{take}
use Rattle.aig_witness_circuits.proofs.Adding.{adds_pair, adds_skip, twice}
use Rattle.aig_witness_circuits.proofs.Found.{at_within}
use Rattle.aig_witness_circuits.proofs.sharing.naming.push_named.Goals as goal
use Rattle.aig_witness_circuits.proofs.sharing.naming.push_named.Goals.{in-Some+else-taken-node+in_ok-push-in-Some, in-None}

pub returns-in_err-node-clause-refused : goal.returns-in_err-node-clause-refused
returns-in_err-node-clause-refused c =
    let node = node_told c.args.variables.now in
    let p = err_from_is_err_and c.from_residual.result c.from_residual.ensures.1 in
    let leaves = c.args.leaves.now in
    let i = c.loop-leaf.leaf-index in
    let h = c.in_err-node.ensures in
    rw (p.1, p.2)
    (subst (IsRefused node (names_of c.args.names.now.entries) leaves (IsAt c.args.marks.now)
    c.args.shared.now.items)
    (sym h.0) (Contains-get_or leaves i 0 c.loop-leaf-test.true, (h.1, h.2)))

pub returns-then-taken-node-clause-refused : goal.returns-then-taken-node-clause-refused
returns-then-taken-node-clause-refused c =
    let node = node_told c.args.variables.now in
    let leaves = c.args.leaves.now in
    let i = c.loop-leaf.leaf-index in
    let names = names_of c.args.names.now.entries in
    let marks = c.args.marks.now in
    let taken = c.loop-leaf.taken in
    let m = c.in-Some.node in
    let found = rw c.in-Some.is at c.in_ok-node.ensures in
    let low : m < length marks = at_within marks m found.0 in
    let as_many : length c.args.taken.now ≡ length marks = c.requires.count in
    let kept : length taken ≡ length c.args.taken.now = c.loop-leaf.auto.taken in
    let inside : m < length taken = omega arith in
    twice node names leaves (IsAt marks) c.args.shared.now.items c.loop-leaf.shared.items taken i 0
    c.loop-leaf-test.true c.loop-leaf.invariant m c.requires.leaves
    (c.requires.apart i 0 c.loop-leaf-test.true) c.requires.named found.1 inside
    c.if-taken-node.true

pub loop-leaf-preserved : goal.loop-leaf-preserved
loop-leaf-preserved c =
    let node = node_told c.args.variables.now in
    let leaves = c.args.leaves.now in
    let i = c.loop-leaf.leaf-index in
    let names = names_of c.args.names.now.entries in
    let marks = c.args.marks.now in
    let before = c.args.shared.now.items in
    let after = c.loop-leaf.shared.items in
    let taken = c.loop-leaf.taken in
    let leaf = get_or leaves i 0 in
    let as_many : length c.args.taken.now ≡ length marks = c.requires.count in
    let kept : length taken ≡ length c.args.taken.now = c.loop-leaf.auto.taken in
    elim c.match-branch-2.branch [
      | in-Some+else-taken-node+in_ok-push-in-Some w ↦ (
          let m = w.in-Some.node in
          let found = rw w.in-Some.is at c.in_ok-node.ensures in
          let low : m < length marks = at_within marks m found.0 in
          let inside : m < length taken = omega arith in
          let pushed = ap (λ (v : Vec (ℕ × ℕ) Global). v.items) w.shared-is ∙
          w.in_ok-push-in-Some.ensures.items in
          subst
          (λ pairs. AddsNamed node names (take (i + 1) leaves) (IsAt marks) before pairs
          c.match-branch-2.taken)
          (sym pushed)
          (subst
          (AddsNamed node names (take (i + 1) leaves) (IsAt marks) before (after ++ (m, leaf) ∷ []))
          (sym w.taken-is)
          (adds_pair node names leaves (IsAt marks) before after taken i 0 c.loop-leaf-test.true
          c.loop-leaf.invariant m c.requires.leaves (c.requires.apart i 0 c.loop-leaf-test.true)
          found.1 found.0 inside w.if-taken-node.false)))
      | in-None w ↦
          subst
          (λ pairs. AddsNamed node names (take (i + 1) leaves) (IsAt marks) before pairs
          c.match-branch-2.taken)
          (sym (ap (λ (v : Vec (ℕ × ℕ) Global). v.items) w.shared-is))
          (subst (AddsNamed node names (take (i + 1) leaves) (IsAt marks) before after)
          (sym w.taken-is)
          (adds_skip node names leaves (IsAt marks) before after taken i 0 c.loop-leaf-test.true
          c.loop-leaf.invariant (rw w.in-None.is at c.in_ok-node.ensures)))
    ]
