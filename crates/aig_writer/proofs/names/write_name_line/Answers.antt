use Rattle.std.proofs.Common.{◌≡◌, ◌∷◌, [], ◌≤◌, decimal, length, replicate, rules, arith}
use Rattle.aig_base.proofs.Words.{length-decimal-le}
use Rattle.aig_output.proofs.Writing.{calls_laws, failed_among, failed_first, then_call, then_text}
use Rattle.aig_writer.proofs.Entries.{name_head, name_pieces}
use Rattle.aig_writer.proofs.names.write_name_line.Goals as goal

pub write_digits-start-requires : goal.write_digits-start-requires
write_digits-start-requires g c = let digits : length (decimal c.args.position) ≤ 20 =
    length-decimal-le 20 c.args.position (omega arith) (omega arith) c.ranges.position.fits in
    (omega arith, omega arith)

pub overflow_sub-start : goal.overflow_sub-start
overflow_sub-start g c = let digits : length (decimal c.args.position) ≤ 20 =
    length-decimal-le 20 c.args.position (omega arith) (omega arith) c.ranges.position.fits in
    omega (arith, c.write_digits-start.ensures.start)

pub returns-in_err-write_front : goal.returns-in_err-write_front
returns-in_err-write_front g c =
    let digits : length (decimal c.args.position) ≤ 20 = length-decimal-le 20 c.args.position
    (omega arith) (omega arith) c.ranges.position.fits in
    let w = c.write_digits-start.ensures in
    let size : length c.write_digits-start.new.buf ≡ 54 = search rules in
    let head = name_head c.write_digits-start.new.buf (decimal c.args.position) (replicate 32 32) c.write_digits-start.result c.args.letter w.start (omega (arith, w.start)) (omega (arith, w.start)) w.written in
    rw (name_pieces c.args.letter c.args.position c.args.name.now) (failed_first calls_laws (c.args.name.now ∷ (10 ∷ []) ∷ []) (rw head at c.in_err-write_front.ensures) (search rules))

pub returns-in_err-write_bytes : goal.returns-in_err-write_bytes
returns-in_err-write_bytes g c =
    let digits : length (decimal c.args.position) ≤ 20 = length-decimal-le 20 c.args.position
    (omega arith) (omega arith) c.ranges.position.fits in
    let w = c.write_digits-start.ensures in
    let size : length c.write_digits-start.new.buf ≡ 54 = search rules in
    let head = name_head c.write_digits-start.new.buf (decimal c.args.position) (replicate 32 32) c.write_digits-start.result c.args.letter w.start (omega (arith, w.start)) (omega (arith, w.start)) w.written in
    rw (name_pieces c.args.letter c.args.position c.args.name.now) (failed_among calls_laws ((10 ∷ []) ∷ []) (rw head at c.in_ok-write_front.ensures.ok) c.in_err-write_bytes.ensures (search rules))

pub returns : goal.returns
returns g c =
    let digits : length (decimal c.args.position) ≤ 20 = length-decimal-le 20 c.args.position
    (omega arith) (omega arith) c.ranges.position.fits in
    let w = c.write_digits-start.ensures in
    let size : length c.write_digits-start.new.buf ≡ 54 = search rules in
    let head = name_head c.write_digits-start.new.buf (decimal c.args.position) (replicate 32 32) c.write_digits-start.result c.args.letter w.start (omega (arith, w.start)) (omega (arith, w.start)) w.written in
    rw (name_pieces c.args.letter c.args.position c.args.name.now) (then_call calls_laws (then_text (rw head at c.in_ok-write_front.ensures.ok) c.in_ok-write_bytes.ensures.ok) c.write_bytes-2.ensures)
