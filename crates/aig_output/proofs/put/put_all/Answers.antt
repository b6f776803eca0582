use Rattle.aig_base.proofs.Words.{◌+◌, ◌<◌, arith, rules}
use Rattle.std.proofs.KnownBytes.{Appends-nil}
use Rattle.std.proofs.lemmas.List.{length-drop, take_all, take_rest}
use Rattle.aig_output.proofs.Putting.{Appends-more, Stops-kept, failed_put, some_taken}
use Rattle.aig_output.proofs.put.put_all.Goals as goal

pub loop-at-init : goal.loop-at-init
loop-at-init g c = record { within = omega arith; so_far = Appends-nil _ }

pub returns-in_err-at : goal.returns-in_err-at
returns-in_err-at g c =
    let put = c.in_err-at.ensures in
    failed_put (Stops-kept _ _ _ _ c.loop-at.at c.args.text.now c.loop-at.invariant.so_far put.kept put.tells) (search rules)

pub overflow_add-at : goal.overflow_add-at
overflow_add-at g c =
    let at = c.loop-at.at in
    let text = c.args.text.now in
    omega (arith, rw (take_rest text at) at c.in_ok-at.ensures.bound, length-drop at text)

pub loop-at-preserved : goal.loop-at-preserved
loop-at-preserved g c =
    let at = c.loop-at.at in
    let text = c.args.text.now in
    let put = c.in_ok-at.ensures in
    let fits = rw (take_rest text at) at put.bound in
    record {
      within = omega (arith, length-drop at text);
      so_far = Appends-more _ _ _ at c.in_ok-at.field-0 text c.loop-at.invariant.so_far put.moved;
    }

pub loop-at-smaller : goal.loop-at-smaller
loop-at-smaller g c =
    let at = c.loop-at.at in
    let text = c.args.text.now in
    let put = c.in_ok-at.ensures in
    let fits = rw (take_rest text at) at put.bound in
    let some : 0 < c.in_ok-at.field-0 = some_taken _ _ (rw (take_rest text at) at put.some) (omega (arith, length-drop at text)) in
    omega (arith, length-drop at text)

pub returns-then-at-text : goal.returns-then-at-text
returns-then-at-text g c =
    let text = c.args.text.now in
    let put = c.in_ok-at.ensures in
    let so_far = Appends-more _ _ _ c.loop-at.at c.in_ok-at.field-0 text c.loop-at.invariant.so_far put.moved in
    record { ok = rw (take_all (c.loop-at.at + c.in_ok-at.field-0) text (omega arith)) at so_far; sound = put.tells; err = tt }
