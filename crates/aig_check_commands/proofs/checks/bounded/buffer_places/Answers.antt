use Rattle.aig_check_commands.proofs.Words.{◌≡◌, ◌+◌, ◌<◌, ◌++◌, ◌∷◌, [], ap, length, length-append, arith, zip, length-zip, zip_end, zip_turn, Buffers-turn, all_done, failed_turn, place_line}
use Rattle.aig_base.proofs.Words.{rules}
use Rattle.aig_check_commands.proofs.line_lemmas.Commenting.{get_or-pair}
use Rattle.aig_check_commands.proofs.checks.bounded.buffer_places.Goals as goal

pub loop-n-preserved : goal.loop-n-preserved
loop-n-preserved g c =
    let ks = c.args.inputs.now in
    let vs = c.args.named.now in
    let xs = c.loop-n.yielded in
    let at = zip_turn ks vs xs c.into_iter-n-iterator.result c.loop-n.n-iterator c.next.new.self _ (search rules) (search rules) c.loop-n.yielded_by _ c.in-Some.is c.next.ensures.steps in
    let low : length xs < length (zip ks vs) = omega (arith, at.0, at.1, length-zip ks vs) in
    let one = ap place_line (get_or-pair ks vs (length xs) c.in-Some.n.now c.in-Some.place.now at.0 at.1 (at.2 _) (at.3 _)) in
    let more : length (xs ++ (c.in-Some.n, c.in-Some.place) ∷ []) ≡ length xs + 1 = omega (arith, length-append xs ((c.in-Some.n, c.in-Some.place) ∷ [])) in
    let turn = rw (c.lit-lit.ensures, c.new.ensures, c.letter.ensures, ← one) at c.in_ok-buffer_literal.ensures.ok in
    rw more (Buffers-turn place_line (zip ks vs) (length xs) (c.in-Some.n.now, c.in-Some.place.now) low c.loop-n.invariant turn)

pub returns-in_err-buffer_literal : goal.returns-in_err-buffer_literal
returns-in_err-buffer_literal g c =
    let ks = c.args.inputs.now in
    let vs = c.args.named.now in
    let xs = c.loop-n.yielded in
    let at = zip_turn ks vs xs c.into_iter-n-iterator.result c.loop-n.n-iterator c.next.new.self _ (search rules) (search rules) c.loop-n.yielded_by _ c.in-Some.is c.next.ensures.steps in
    let low : length xs < length (zip ks vs) = omega (arith, at.0, at.1, length-zip ks vs) in
    let one = ap place_line (get_or-pair ks vs (length xs) c.in-Some.n.now c.in-Some.place.now at.0 at.1 (at.2 _) (at.3 _)) in
    let turn = rw (c.lit-lit.ensures, c.new.ensures, c.letter.ensures, ← one) at c.in_err-buffer_literal.ensures in
    failed_turn place_line (zip ks vs) (length xs) (c.in-Some.n.now, c.in-Some.place.now) low c.loop-n.invariant turn (search rules)

pub returns : goal.returns
returns g c =
    let ks = c.args.inputs.now in
    let vs = c.args.named.now in
    let xs = c.loop-n.yielded in
    let long = zip_end ks vs xs c.into_iter-n-iterator.result c.loop-n.n-iterator c.next.new.self _ (search rules) (search rules) c.loop-n.yielded_by c.in-None.is c.next.ensures.steps in
    all_done place_line (zip ks vs) (length xs) (omega (arith, long, length-zip ks vs))
    c.loop-n.invariant
