use Rattle.aig_base.proofs.Words.{◌≡◌, ◌-◌, ◌∙◌, length, take, sym, arith, length-take-le}
use Rattle.aig_lexer.specs.declared.buffer.TheConstants.{SIZE}
use Rattle.aig_lexer.proofs.Feeds.{filled}
use Rattle.aig_lexer.proofs.buffer.InputBuffer.fill.Goals as goal

pub returns : goal.returns
returns g c =
    let p = c.in_ok-self-inside in
    let bytes = take p.field-0 c.pull.new.buf in
    let count : length bytes ≡ p.field-0 = length-take-le p.field-0 c.pull.new.buf p.ensures.bound in
    let size : length c.pull.new.buf ≡ SIZE = omega arith in
    let whole : p.field-0 - 0 ≡ p.field-0 = omega arith in
    rw whole (filled g.R.Source.left g.R.Source.failed g.R.Source.pulls c.args.self.now bytes c.args.r.now c.pull.new.self c.requires (omega (arith, count, p.ensures.bound)) p.ensures.moved
    (λ none. p.ensures.end (sym count ∙ none) (omega arith)) (λ some. p.ensures.fewer (omega arith)) p.ensures.tells)
