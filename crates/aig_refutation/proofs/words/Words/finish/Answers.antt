use Rattle.aig_base.proofs.Words.{Ok, Err, refl, err_from_is_err_and}
use Rattle.aig_refutation.specs.declared.error.RefutationError.TheVariants as errors
use Rattle.aig_refutation.specs.declared.words.Word.TheVariants as words
use Rattle.aig_refutation.specs.Skipping.{end_line}
use Rattle.aig_refutation.specs.Tokens.{next_in, place}
use Rattle.aig_refutation.proofs.LineParts.{finish_end, finish_more, finish_wrong}
use Rattle.aig_refutation.proofs.ReadersInTurn.{Reader, gives_ok, gives_wrong, on_read, part_wrong}
use Rattle.aig_refutation.proofs.words.Words.finish.Goals as goal

pub returns-in_err-next-clause-ended : goal.returns-in_err-next-clause-ended
returns-in_err-next-clause-ended g c =
    let at = place g.R.Source.left g.R.Source.failed g.R.Source.pulls in
    let before = at c.args.self.now c.args.r.now in
    let after = at c.next.new.self c.next.new.r in
    let p = err_from_is_err_and c.from_residual.result c.from_residual.ensures.1 in
    rw (p.1, p.2) (part_wrong next_in end_line before after after (λ w. w) (λ end. end)
    c.in_err-next.field-0.0 c.in_err-next.ensures.word (λ last ws. finish_wrong last ws
    c.in_err-next.field-0.0))

pub returns-in-End-clause-ended : goal.returns-in-End-clause-ended
returns-in-End-clause-ended g c =
    let at = place g.R.Source.left g.R.Source.failed g.R.Source.pulls in
    let before = at c.args.self.now c.args.r.now in
    let after = at c.next.new.self c.next.new.r in
    let s : Reader (Unit {0}) = λ last ws. Ok (tt, ws) in
    let y = words.End c.in-End.field-0 in
    gives_ok end_line s before after after (λ end. end) tt (on_read end_line s before after after
    next_in y (rw c.in-End.is at c.in_ok-next.ensures.word) (λ last ws more. finish_end last ws
    more c.in-End.field-0)) (λ last ws. refl)

pub returns-in_default-clause-ended : goal.returns-in_default-clause-ended
returns-in_default-clause-ended g c =
    let at = place g.R.Source.left g.R.Source.failed g.R.Source.pulls in
    let before = at c.args.self.now c.args.r.now in
    let after = at c.next.new.self c.next.new.r in
    let s : Reader (Unit {0}) = λ last ws. Err errors.Line in
    gives_wrong end_line s before after after (λ (end : Unit {0}). end) errors.Line (on_read
    end_line s before after after next_in c.in_ok-next.field-0 c.in_ok-next.ensures.word (λ
    last ws more. finish_more last ws more c.in_ok-next.field-0 c.in_default.not-End)) (λ last
    ws. refl)
