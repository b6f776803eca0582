use Rattle.aig_base.proofs.Words.{ℕ, Bool, Ok, Err, refl, err_from_is_err_and}
use Rattle.aig_refutation.specs.declared.error.RefutationError.TheVariants as errors
use Rattle.aig_refutation.specs.declared.words.Word.TheVariants as words
use Rattle.aig_refutation.specs.Tokens.{fault_of, next_in, next_number, place, said_number}
use Rattle.aig_refutation.proofs.LineParts.{number_end, number_letter, number_taken, number_wrong}
use Rattle.aig_refutation.proofs.ReadersInTurn.{Reader, gives_ok, gives_wrong, on_read, part_wrong}
use Rattle.aig_refutation.proofs.words.Words.far_number.Goals as goal

pub returns-in_err-number-clause-number : goal.returns-in_err-number-clause-number
returns-in_err-number-clause-number g c =
    let at = place g.R.Source.left g.R.Source.failed g.R.Source.pulls in
    let before = at c.args.self.now c.args.r.now in
    let after = at c.next.new.self c.next.new.r in
    let p = err_from_is_err_and c.from_residual.result c.from_residual.ensures.1 in
    rw (p.1, p.2) (part_wrong next_in next_number before after after (λ w. w) said_number
    c.in_err-number.field-0.0 c.in_err-number.ensures.word (λ last ws. number_wrong last ws
    c.in_err-number.field-0.0))

pub returns-in-Number-clause-number : goal.returns-in-Number-clause-number
returns-in-Number-clause-number g c =
    let at = place g.R.Source.left g.R.Source.failed g.R.Source.pulls in
    let before = at c.args.self.now c.args.r.now in
    let after = at c.next.new.self c.next.new.r in
    let n = c.in-Number.number in
    let s : Reader (Bool × ℕ) = λ last ws. Ok (said_number n, ws) in
    gives_ok next_number s before after after said_number n (on_read next_number s before after
    after next_in (words.Number n) (rw c.in-Number.is at c.in_ok-number.ensures.word) (λ last
    ws more. number_taken last ws more n)) (λ last ws. refl)

pub returns-in-Deletes-clause-number : goal.returns-in-Deletes-clause-number
returns-in-Deletes-clause-number g c =
    let at = place g.R.Source.left g.R.Source.failed g.R.Source.pulls in
    let before = at c.args.self.now c.args.r.now in
    let after = at c.next.new.self c.next.new.r in
    let s : Reader (Bool × ℕ) = λ last ws. Err errors.Line in
    gives_wrong next_number s before after after said_number errors.Line (on_read next_number s
    before after after next_in words.Deletes (rw c.in-Deletes.is at
    c.in_ok-number.ensures.word) (λ last ws more. number_letter last ws more)) (λ last ws. refl)

pub returns-in-End-clause-number : goal.returns-in-End-clause-number
returns-in-End-clause-number g c =
    let at = place g.R.Source.left g.R.Source.failed g.R.Source.pulls in
    let before = at c.args.self.now c.args.r.now in
    let after = at c.next.new.self c.next.new.r in
    let end = c.in-End.end in
    let s : Reader (Bool × ℕ) = λ last ws. Err (fault_of end) in
    rw c.fault.ensures
    (gives_wrong next_number s before after after said_number (fault_of end) (on_read next_number s
    before after after next_in (words.End end) (rw c.in-End.is at c.in_ok-number.ensures.word)
    (λ last ws more. number_end last ws more end)) (λ last ws. refl))
