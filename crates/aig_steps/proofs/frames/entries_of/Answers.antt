use Rattle.aig_base.proofs.Words.{◌≡◌, ◌+◌, ◌-◌, ◌*◌, arith, ap, drop, take}
use Rattle.aig_steps.proofs.frames.entries_of.Goals as goal

pub returns : goal.returns
returns c =
    let first = c.args.step * c.args.count in
    let so_many : first + c.args.count - first ≡ c.args.count = omega arith in
    ap (λ n. take n (drop first c.args.entries.now)) so_many
