use Rattle.aig_base.proofs.Words.{◌∙◌, ◌+◌, ◌<◌, true, false, sym, refl, arith, le-leb, lt-leb, lt-ltb, err_from_is_err_and}
use Rattle.aig_lexer.specs.Header.{numbers_of}
use Rattle.aig_lexer.specs.Takes.{feed}
use Rattle.aig_lexer.proofs.Taking.{takes_tested}
use Rattle.aig_format.specs.Parse.{parse_header}
use Rattle.aig_format.specs.ParseTested.{fits_header}
use Rattle.aig_reader.proofs.HeaderLines.{no_header, unread_header}
use Rattle.aig_reader.proofs.header.read_header.Goals as goal

pub returns-in_err-header-clause-exact : goal.returns-in_err-header-clause-exact
returns-in_err-header-clause-exact g c =
    let p = err_from_is_err_and c.from_residual.result c.from_residual.ensures.1 in
    rw (p.1, p.2) (unread_header c.args.limit (feed g.R.Source.left g.R.Source.failed g.R.Source.pulls c.args.buffer.now c.args.r.now) (feed g.R.Source.left g.R.Source.failed g.R.Source.pulls c.header_line.new.buffer c.header_line.new.r) c.in_err-header.field-0.0 c.in_err-header.ensures)

pub returns-then-not-is_great_enough-clause-exact :
    goal.returns-then-not-is_great_enough-clause-exact
returns-then-not-is_great_enough-clause-exact g c =
    let h = c.in_ok-header.header in
    let few = sym c.is_great_enough.ensures.good ∙ c.if-not-is_great_enough.true in
    no_header c.args.limit _ _ (h.kind, numbers_of h) false c.in_ok-header.ensures (rw few refl) (rw few refl)

pub returns-then-header-limit-clause-exact : goal.returns-then-header-limit-clause-exact
returns-then-header-limit-clause-exact g c =
    let h = c.in_ok-header.header in
    let limit = c.args.limit in
    let enough = sym c.is_great_enough.ensures.good ∙ c.if-not-is_great_enough.false in
    let past : limit < h.greatest + 1 = omega arith in
    no_header limit _ _ (h.kind, numbers_of h) true c.in_ok-header.ensures (rw (enough, lt-leb (h.greatest + 1) limit past) refl) (rw (enough, lt-ltb limit (h.greatest + 1) past) refl)

pub returns-clause-exact : goal.returns-clause-exact
returns-clause-exact g c =
    let h = c.in_ok-header.header in
    let limit = c.args.limit in
    let enough = sym c.is_great_enough.ensures.good ∙ c.if-not-is_great_enough.false in
    takes_tested parse_header (fits_header limit) _ _ (h.kind, numbers_of h) c.in_ok-header.ensures (rw (enough, le-leb (h.greatest + 1) limit (omega arith)) refl)
