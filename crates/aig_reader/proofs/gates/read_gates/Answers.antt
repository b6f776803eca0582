use Rattle.aig_base.proofs.Words.{◌≡◌, ◌∙◌, ◌∷◌, ◌++◌, ◌+◌, ◌<◌, ◌≤◌, [], ℕ, List, length, ap, subst, sym, length-append, arith, err_from_is_err_and}
use Rattle.std.proofs.lemmas.List.{append-nil, length-map}
use Rattle.aig_format.specs.ParseTested.{parse_gate_entry}
use Rattle.aig_format.specs.declared.FileKind.{FileKind}
use Rattle.aig_format.proofs.Words.{GateLine, parse_entries}
use Rattle.aig_lexer.specs.Takes.{Feed, Takes}
use Rattle.aig_lexer.proofs.Taking.{takes_nothing}
use Rattle.aig_reader.specs.Gates.{literals_of}
use Rattle.aig_reader.specs.Variables.{AreDefined}
use Rattle.aig_lexer.specs.Faults.{line_cause}
use Rattle.aig_lexer.proofs.Faults.{tells-weaker}
use Rattle.aig_reader.proofs.Entries.{takes_count, takes_every, takes_more, misses_more}
use Rattle.aig_reader.proofs.gates.read_gates.Goals as goal

-- after i gates of so many there is room for one more
one_more : (kind : FileKind) (greatest : ℕ) (leaves : List ℕ) (count i : ℕ) (b m : Feed)
    (gates : List GateLine)
    → Takes (parse_entries (parse_gate_entry kind greatest leaves) [] i) b m gates
    → length leaves + count ≤ greatest → i < count → length (leaves ++ literals_of gates) < greatest
one_more kind greatest leaves count i b m gates h room low =
    let all = length-append leaves (literals_of gates) ∙ ap (λ (n : ℕ). length leaves + n) (length-map gates (λ (g : GateLine). g.lhs) ∙ takes_count (parse_gate_entry kind greatest leaves) i b m gates h) in
    omega (arith, all, room, low)

pub gate_line-requires : goal.gate_line-requires
gate_line-requires g c =
    let r = c.requires in
    let h = c.loop.invariant r.0 r.1 r.2 r.4 r.5 in
    (r.0, r.1, r.2, h.0, r.3, one_more r.0 r.1 r.2 c.args.count c.loop.counter _ _ h.0 h.2 r.4 c.loop-test.true, h.1)

pub loop-init : goal.loop-init
loop-init g c = λ kind greatest leaves room defined. (
  [],
  record { defined = subst (AreDefined kind greatest c.args.variables.now) (sym (append-nil leaves)) defined; placed = c.in_ok-gates.ensures greatest leaves },
  takes_nothing _ [],
)

pub returns-in_err-gate_line : goal.returns-in_err-gate_line
returns-in_err-gate_line g c = λ kind greatest leaves room defined.
    let p = err_from_is_err_and c.from_residual-in_err-gate_line.result c.from_residual-in_err-gate_line.ensures.1 in
    let h = c.loop.invariant kind greatest leaves room defined in
    let low = one_more kind greatest leaves c.args.count c.loop.counter _ _ h.0 h.2 room c.loop-test.true in
    rw (p.1, p.2) (tells-weaker (line_cause c.in_err-gate_line.field-0.0) _ _ _ (misses_more (parse_gate_entry kind greatest leaves) c.loop.counter c.args.count _ _ h.0 c.loop-test.true h.2) (c.in_err-gate_line.ensures kind greatest leaves h.0 low h.1))

pub loop-preserved : goal.loop-preserved
loop-preserved g c = λ kind greatest leaves room defined.
    let h = c.loop.invariant kind greatest leaves room defined in
    let low = one_more kind greatest leaves c.args.count c.loop.counter _ _ h.0 h.2 room c.loop-test.true in
    let k = c.in_ok-gate_line.ensures kind greatest leaves h.0 low h.1 in
    (h.0 ++ k.0 ∷ [], k.1, takes_more (parse_gate_entry kind greatest leaves) c.loop.counter _ _ _ h.0 k.0 h.2 k.2)

pub returns : goal.returns
returns g c = λ kind greatest leaves room defined.
    let all : c.loop.counter ≡ c.args.count = omega arith in
    let h = c.loop.invariant kind greatest leaves room defined in
    (h.0, h.1, takes_every (parse_gate_entry kind greatest leaves) c.loop.counter c.args.count _ _ h.0 all h.2)
