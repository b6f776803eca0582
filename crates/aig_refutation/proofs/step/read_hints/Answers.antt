use Rattle.aig_base.proofs.Words.{◌≡◌, ℕ, Bool, List, [], ◌∷◌, ◌++◌, map, Err, true, false, refl, sym, ap, ◌∙◌, arith, ne_eqb, err_from_is_err_and}
use Rattle.aig_refutation.specs.Proofs.{groups_at, hint_number, hints_at, is_zero}
use Rattle.aig_refutation.specs.Reading.{reads_hints, reads_numbers}
use Rattle.aig_refutation.specs.Skipping.{end_line, unsigned}
use Rattle.aig_refutation.specs.Tokens.{next_number, place, said_number, said_numbers}
use Rattle.aig_refutation.proofs.LineParts.{numbers_broken, numbers_done, numbers_more, numbers_not_done, parted_err, parted_ok}
use Rattle.aig_refutation.proofs.NearNumbers.{pushed_on, rest_fewer}
use Rattle.aig_refutation.proofs.ReadersInTurn.{gives_after, gives_same, on_on, on_read, on_start, part_wrong}
use Rattle.aig_refutation.proofs.step.read_hints.Goals as goal

pub loop-number-init : goal.loop-number-init
loop-number-init g c = record {
  fewer = omega arith;
  goes = λ no_hints no_groups. record {
    numbers = [];
    hints = sym no_hints;
    groups = ap said_numbers (sym no_groups);
    on = on_start (reads_numbers hint_number (said_number c.args.first) []) (place
        g.R.Source.left g.R.Source.failed g.R.Source.pulls c.args.words.now c.args.r.now);
  };
}

pub returns-in_err-number-clause-hints : goal.returns-in_err-number-clause-hints
returns-in_err-number-clause-hints g c no_hints no_groups =
    let left = g.R.Source.left in
    let failed = g.R.Source.failed in
    let pulls = g.R.Source.pulls in
    let at = place left failed pulls in
    let before = at c.args.words.now c.args.r.now in
    let so_far = c.loop-number.invariant.goes no_hints no_groups in
    let first = said_number c.args.first in
    let q = reads_numbers hint_number first [] in
    let n = said_number c.loop-number.number in
    let pushed = c.in_ok-push_near.ensures.hints so_far.numbers so_far.hints so_far.groups in
    let more : is_zero n ≡ false = ne_eqb c.loop-number.number.value 0 c.loop-number-test.true in
    let have = pushed_on left failed pulls c.loop-number.r q before c.loop-number.words
    c.push_near.new.words n so_far.numbers c.push_near.new.hints.items
    (said_numbers c.push_near.new.groups.items) more so_far.on pushed in
    let s = reads_numbers hint_number have.last have.before in
    let view = λ (done : Unit {0}). have.before in
    let kept : Unit {0} → List ℕ × List (Bool × ℕ) = λ done. (
      hints_at have.before,
      groups_at have.before,
    ) in
    let now = at c.push_near.new.words c.loop-number.r in
    let after = at c.number.new.self c.number.new.r in
    let e = c.in_err-number.field-0.0 in
    let p = err_from_is_err_and c.from_residual-in_err-number.result
    c.from_residual-in_err-number.ensures.1 in
    let wrong = gives_after q s before now after view (Err e) have.goes
    (part_wrong next_number s now after after said_number view e c.in_err-number.ensures.number (λ
    last ws. numbers_broken hint_number last have.last have.before ws have.more have.last refl e)) in
    rw (p.1, p.2)
    (part_wrong q (reads_hints first) before after after view kept e wrong (λ last ws. parted_err
    last first ws e))

pub loop-number-preserved : goal.loop-number-preserved
loop-number-preserved g c =
    let left = g.R.Source.left in
    let failed = g.R.Source.failed in
    let pulls = g.R.Source.pulls in
    let at = place left failed pulls in
    let before = at c.args.words.now c.args.r.now in
    let q = reads_numbers hint_number (said_number c.args.first) [] in
    let n = said_number c.loop-number.number in
    let now = at c.push_near.new.words c.loop-number.r in
    let after = at c.number.new.self c.number.new.r in
    let m = said_number c.in_ok-number.number in
    record {
      fewer =
          let near = c.in_ok-push_near.ensures.taken in
          let few = rest_fewer left failed pulls c.loop-number.r c.loop-number.words
          c.push_near.new.words near.0 near.1 in
          let less = c.in_ok-number.ensures.fewer in omega (
            arith,
            less,
            few,
            c.loop-number.invariant.fewer,
          );
      goes = λ no_hints no_groups.
          let so_far = c.loop-number.invariant.goes no_hints no_groups in
          let pushed = c.in_ok-push_near.ensures.hints so_far.numbers so_far.hints so_far.groups in
          let more : is_zero n ≡ false = ne_eqb c.loop-number.number.value 0 c.loop-number-test.true in
          let have = pushed_on left failed pulls c.loop-number.r q before c.loop-number.words
          c.push_near.new.words n so_far.numbers c.push_near.new.hints.items
          (said_numbers c.push_near.new.groups.items) more so_far.on pushed in
          let numbers = (so_far.numbers ++ n ∷ []) ++ map unsigned pushed.taken in
          let s = reads_numbers hint_number have.last have.before in
          let t = reads_numbers hint_number m numbers in
          record {
            numbers = numbers;
            hints = pushed.hints_are;
            groups = pushed.groups_are;
            on =
                on_on q s before now after t have.goes
                (on_read s t now after after next_number m c.in_ok-number.ensures.number
                (λ last ws rest is. numbers_more hint_number last have.last have.before ws have.more
                have.last refl m rest is
                ∙ ap (λ (l : List (Bool × ℕ)). reads_numbers hint_number m l last rest) have.all));
          };
    }

pub loop-number-smaller : goal.loop-number-smaller
loop-number-smaller g c =
    let near = c.in_ok-push_near.ensures.taken in
    let few = rest_fewer g.R.Source.left g.R.Source.failed g.R.Source.pulls c.loop-number.r
    c.loop-number.words c.push_near.new.words near.0 near.1 in
    let less = c.in_ok-number.ensures.fewer in
    omega (arith, less, few)

pub returns-clause-hints : goal.returns-clause-hints
returns-clause-hints g c no_hints no_groups =
    let at = place g.R.Source.left g.R.Source.failed g.R.Source.pulls in
    let before = at c.args.words.now c.args.r.now in
    let now = at c.loop-number.words c.loop-number.r in
    let so_far = c.loop-number.invariant.goes no_hints no_groups in
    let first = said_number c.args.first in
    let q = reads_numbers hint_number first [] in
    let n = said_number c.loop-number.number in
    let numbers = so_far.numbers in
    let s = reads_numbers hint_number n numbers in
    let view = λ (done : Unit {0}). numbers in
    let kept : Unit {0} → List ℕ × List (Bool × ℕ) = λ done. (hints_at numbers, groups_at numbers) in
    let after = at c.finish.new.self c.finish.new.r in
    let zero : is_zero n ≡ true = ap (λ v. is_zero (true, v)) c.loop-number-test.false in
    let read = gives_after q s before now after view c.finish.result so_far.on
    (gives_same end_line s now after (λ (end : Unit {0}). end) view c.finish.result
    c.finish.ensures.ended
    (λ last ws rest done. numbers_done hint_number last n numbers ws zero rest done) (λ last ws e.
    numbers_not_done hint_number last n numbers ws zero e)) in
    rw (← so_far.hints, ← so_far.groups)
    (gives_same q (reads_hints first) before after view kept c.finish.result read
    (λ last ws rest done. parted_ok last first ws numbers rest) (λ last ws e. parted_err last first
    ws e))
