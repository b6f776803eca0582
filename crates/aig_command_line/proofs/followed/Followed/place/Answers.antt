use Rattle.aig_base.proofs.Words.{take, ap, arith, length}
use Rattle.aig_command_line.proofs.Following.{placed_in, placed_whole}
use Rattle.aig_command_line.proofs.followed.Followed.place.Goals as goal

pub returns-in-Some : goal.returns-in-Some
returns-in-Some g c =
    let s = c.args.self.now in
    let end = c.saturating_sub-end.result in
    placed_in g.B.Origin.bytes (g.R.Source.left s.source) (g.R.Source.failed s.source) s.before
    s.piece _ end s.came
    (omega (arith, c.saturating_sub-end.ensures, ap length c.bytes-piece.ensures.value))
    (omega (arith, c.bytes-piece.ensures.few, ap length c.bytes-piece.ensures.value))
    (ap (take end) c.bytes-piece.ensures.value) c.args.measure c.with_last.result c.in-Some.tally
    c.place.result c.with_last.ensures c.in-Some.is c.place.ensures

pub returns-in-None : goal.returns-in-None
returns-in-None g c =
    let s = c.args.self.now in
    let end = c.saturating_sub-end.result in
    placed_whole g.B.Origin.bytes (g.R.Source.left s.source) (g.R.Source.failed s.source) s.before
    s.piece _ end s.came
    (omega (arith, c.saturating_sub-end.ensures, ap length c.bytes-piece.ensures.value))
    (omega (arith, c.bytes-piece.ensures.few, ap length c.bytes-piece.ensures.value))
    (ap (take end) c.bytes-piece.ensures.value) c.args.measure c.with_last.result c.with_last.ensures
    c.in-None.is
