use Rattle.aig_base.proofs.Words.{◌≡◌, ◌≤◌, Bool, List, length, vec_len, sym, subst, arith}
use Rattle.aig_refutation.proofs.Stamps.{grown_marks}
use Rattle.aig_refutation.proofs.marks.Marks.grow.Goals as goal

pub returns-clause-grown : goal.returns-clause-grown
returns-clause-grown c =
    let m = c.self.inside in
    let len : vec_len m.stamps ≡ length m.stamps.items = omega (arith, m.stamps.ok.0) in
    let room = subst (λ (marks : List Bool). length marks ≤ c.args.count) (sym c.self.view_is)
    c.requires in
    rw (← c.self.view_is)
    (grown_marks m.last c.self.invariant.0 m.stamps.items c.resize.new.self.items c.args.count
    (vec_len m.stamps) len room c.in_ok-resize.ensures.items)
