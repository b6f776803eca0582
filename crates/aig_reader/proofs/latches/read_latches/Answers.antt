use Rattle.aig_base.proofs.Words.{◌≡◌, ◌∙◌, ◌∷◌, ◌++◌, ◌+◌, [], ℕ, List, length, map, ap, sym, subst, append_assoc, append-nil, length-append, arith, err_from_is_err_and, length-map, map_push}
use Rattle.aig_format.proofs.Words.{LatchLine}
use Rattle.aig_format.specs.declared.FileKind.{FileKind}
use Rattle.aig_lexer.proofs.Taking.{takes_nothing}
use Rattle.aig_reader.specs.declared.variables.DefinedVariables.{DefinedVariables}
use Rattle.aig_reader.specs.Rules.{latch_from, parse_latch_by}
use Rattle.aig_reader.specs.Variables.{AreDefined}
use Rattle.aig_lexer.specs.Faults.{line_cause}
use Rattle.aig_lexer.proofs.Faults.{tells-weaker}
use Rattle.aig_reader.proofs.Defined.{has_next}
use Rattle.aig_reader.proofs.Entries.{takes_count, takes_every, takes_more, misses_more, made_push}
use Rattle.aig_reader.proofs.latches.read_latches.Goals as goal

abbrev literal_of : LatchLine → ℕ
literal_of l = l.literal

-- the literal of one more line
defined_push : (kind : FileKind) (greatest : ℕ) (variables : DefinedVariables) (inputs : List ℕ)
    (lines : List LatchLine) (l : LatchLine)
    → AreDefined kind greatest variables ((inputs ++ map literal_of lines) ++ l.literal ∷ [])
    → AreDefined kind greatest variables (inputs ++ map literal_of (lines ++ l ∷ []))
defined_push kind greatest variables inputs lines l h =
    subst (AreDefined kind greatest variables) (append_assoc inputs (map literal_of lines) (l.literal ∷ []) ∙ ap (λ (es : List ℕ). inputs ++ es) (sym (map_push literal_of lines l))) h

pub latch_line-requires : goal.latch_line-requires
latch_line-requires g c =
    let kind = c.requires.0 in
    let inputs = c.requires.1 in
    let greatest = c.args.greatest in
    let h = c.loop.invariant kind inputs c.requires.4 in
    let count = takes_count (parse_latch_by c.args.resets kind greatest inputs) c.loop.counter _ _
    h.0 h.2 in
    let size = length-append inputs (map literal_of h.0) ∙ ap (λ (n : ℕ). length inputs + n) (length-map h.0 literal_of ∙ count) in
    has_next kind greatest _ (inputs ++ map literal_of h.0) h.1.1 (omega (arith, size, c.loop-test.true, c.requires.3)) c.requires.2

pub loop-init : goal.loop-init
loop-init g c = λ kind inputs defined. ([], (sym (append-nil c.args.latchs.now.items), subst (AreDefined kind c.args.greatest c.args.variables.now) (sym (append-nil inputs)) defined), takes_nothing _ [])

pub returns-in_err-latch : goal.returns-in_err-latch
returns-in_err-latch g c = λ kind inputs defined.
    let p = err_from_is_err_and c.from_residual.result c.from_residual.ensures.1 in
    let h = c.loop.invariant kind inputs defined in
    rw (p.1, p.2) (tells-weaker (line_cause c.in_err-latch.field-0.0) _ _ _
    (misses_more (parse_latch_by c.args.resets kind c.args.greatest inputs) c.loop.counter
    c.args.count _ _ h.0 c.loop-test.true h.2) (c.in_err-latch.ensures kind inputs h.0 h.1.1))

pub loop-preserved : goal.loop-preserved
loop-preserved g c = λ kind inputs defined.
    let h = c.loop.invariant kind inputs defined in
    let k = c.in_ok-latch.ensures kind inputs h.0 h.1.1 in (
      h.0 ++ k.0 ∷ [],
      (
        made_push latch_from _ h.0 k.0 _ _ _ h.1.0 k.1.0 c.in_ok-append.ensures,
        defined_push kind
            c.args.greatest _ inputs h.0 k.0 k.1.1,
      ),
      takes_more (parse_latch_by c.args.resets kind c.args.greatest inputs) c.loop.counter _ _ _ h.0
          k.0 h.2 k.2,
    )

pub returns : goal.returns
returns g c = λ kind inputs defined.
    let all : c.loop.counter ≡ c.args.count = omega arith in
    let h = c.loop.invariant kind inputs defined in (
      h.0,
      h.1,
      takes_every (parse_latch_by c.args.resets kind c.args.greatest inputs) c.loop.counter
          c.args.count _ _ h.0 all h.2,
    )
