use Rattle.std.proofs.Common.{◌≢◌}
use Rattle.aig_circuit.specs.Edge.{inverse}
use Rattle.aig_cnf.specs.Cnf.{by_0_0, by_0_1, by_1_0, by_1_1}
use Rattle.aig_cnf.proofs.Matching.{fails, none_chosen}
use Rattle.aig_cnf.proofs.form.choose.Goals as goal

pub returns-then-is_inverse : goal.returns-then-is_inverse
returns-then-is_inverse c =
    rw (c.not.ensures, c.not-then-is_inverse.ensures) (by_0_0 (c.is_inverse.ensures.0 c.if-is_inverse.true))

pub returns-then-is_inverse-2 : goal.returns-then-is_inverse-2
returns-then-is_inverse-2 c =
    let not_first : c.args.p0 ≢ inverse c.args.q0 = fails c.is_inverse.ensures c.if-is_inverse.false in
    rw (c.not-then-is_inverse-2.ensures, c.not-then-is_inverse-2-2.ensures) (by_0_1 not_first (c.is_inverse-else-is_inverse.ensures.0 c.if-is_inverse-2.true))

pub returns-then-is_inverse-3 : goal.returns-then-is_inverse-3
returns-then-is_inverse-3 c =
    let not_first : c.args.p0 ≢ inverse c.args.q0 = fails c.is_inverse.ensures c.if-is_inverse.false in
    let not_second : c.args.p0 ≢ inverse c.args.q1 = fails c.is_inverse-else-is_inverse.ensures c.if-is_inverse-2.false in
    rw (c.not-then-is_inverse-3.ensures, c.not-then-is_inverse-3-2.ensures) (by_1_0 not_first not_second (c.is_inverse-else-is_inverse-2.ensures.0 c.if-is_inverse-3.true))

pub returns-then-is_inverse-4 : goal.returns-then-is_inverse-4
returns-then-is_inverse-4 c =
    let not_first : c.args.p0 ≢ inverse c.args.q0 = fails c.is_inverse.ensures c.if-is_inverse.false in
    let not_second : c.args.p0 ≢ inverse c.args.q1 = fails c.is_inverse-else-is_inverse.ensures c.if-is_inverse-2.false in
    let not_third : c.args.p1 ≢ inverse c.args.q0 = fails c.is_inverse-else-is_inverse-2.ensures c.if-is_inverse-3.false in
    rw (c.not-then-is_inverse-4.ensures, c.not-then-is_inverse-4-2.ensures) (by_1_1 not_first not_second not_third (c.is_inverse-else-is_inverse-3.ensures.0 c.if-is_inverse-4.true))

pub returns-else-is_inverse-4 : goal.returns-else-is_inverse-4
returns-else-is_inverse-4 c =
    let not_first : c.args.p0 ≢ inverse c.args.q0 = fails c.is_inverse.ensures c.if-is_inverse.false in
    let not_second : c.args.p0 ≢ inverse c.args.q1 = fails c.is_inverse-else-is_inverse.ensures c.if-is_inverse-2.false in
    let not_third : c.args.p1 ≢ inverse c.args.q0 = fails c.is_inverse-else-is_inverse-2.ensures c.if-is_inverse-3.false in
    let not_fourth : c.args.p1 ≢ inverse c.args.q1 = fails c.is_inverse-else-is_inverse-3.ensures c.if-is_inverse-4.false in
    none_chosen c.args.p0 c.args.p1 c.args.q0 c.args.q1 not_first not_second not_third not_fourth
