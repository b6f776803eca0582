use Rattle.aig_base.proofs.Words.{◌∙◌, ◌++◌, ◌≡◌, ◌&&◌, ℕ, Bool, false, List, refl, sym, and_right, err_from_is_err_and}
use Rattle.aig_format.specs.declared.FileKind.{FileKind}
use Rattle.aig_format.proofs.Words.{GateLine}
use Rattle.aig_format.specs.ParseTested.{may_define, may_use}
use Rattle.aig_lexer.specs.Takes.{feed}
use Rattle.aig_reader.specs.Gates.{literals_of}
use Rattle.aig_lexer.specs.Faults.{line_cause}
use Rattle.aig_lexer.proofs.Faults.{tells-sound}
use Rattle.aig_reader.proofs.Defined.{has_next, last_literal, new_literal}
use Rattle.aig_reader.proofs.GateLines.{more_gates, new_among}
use Rattle.aig_reader.proofs.OwnLines.{misses_line, misses_own, misses_rest, takes_line}
use Rattle.aig_reader.proofs.TestedLines.{line-from_word}
use Rattle.aig_reader.proofs.gates.gate_line.Goals as goal
use Rattle.aig_format.specs.Parse.{gate_line_from, parse_operands}

abbrev tests : FileKind → ℕ → List ℕ → GateLine → Bool
tests kind greatest literals g = may_define kind greatest literals g.lhs && may_use kind greatest g

pub own_literal-requires : goal.own_literal-requires
own_literal-requires g c = let r = c.requires in has_next r.0 r.1 _ (r.2 ++ literals_of r.3) r.6.defined r.5 r.4

pub put-requires : goal.put-requires
put-requires g c = let r = c.requires in (r.1, r.2, r.3, r.6.placed)

pub returns-in_err-lhs : goal.returns-in_err-lhs
returns-in_err-lhs g c = λ kind greatest leaves before room h.
    let p = err_from_is_err_and c.from_residual.result c.from_residual.ensures.1 in
    let literals = leaves ++ literals_of before in
    rw (p.1, p.2) (line-from_word c.in_err-lhs.field-0.0 _ _ _ (misses_own kind 32 literals (parse_operands kind) gate_line_from (tests kind greatest literals) (feed g.R.Source.left g.R.Source.failed g.R.Source.pulls c.args.buffer.now c.args.r.now)) (c.in_err-lhs.ensures.exact kind greatest literals h.defined))

pub returns-in_err-rhs0 : goal.returns-in_err-rhs0
returns-in_err-rhs0 g c = λ kind greatest leaves before room h.
    let p = err_from_is_err_and c.from_residual-in_err-rhs0.result c.from_residual-in_err-rhs0.ensures.1 in
    let literals = leaves ++ literals_of before in
    let own = c.in_ok-lhs.ensures.exact kind greatest literals h.defined in
    rw (p.1, p.2) (line-from_word c.in_err-rhs0.field-0.0 _ _ _ (misses_rest kind 32 literals (parse_operands kind) gate_line_from (tests kind greatest literals) _ _ c.in_ok-lhs.lhs own) (c.in_err-rhs0.ensures kind greatest literals h.defined))

pub returns-then-not-are_usable : goal.returns-then-not-are_usable
returns-then-not-are_usable g c = λ kind greatest leaves before room h.
    let literals = leaves ++ literals_of before in
    let rest : ℕ × ℕ = (c.in_ok-rhs0.rhs0, c.in_ok-rhs0.rhs1) in
    let own = c.in_ok-lhs.ensures.exact kind greatest literals h.defined in
    let unusable = sym (c.are_usable.ensures kind greatest literals h.defined) ∙ c.if-not-are_usable.true in
    misses_line kind 32 literals (parse_operands kind) gate_line_from (tests kind greatest literals) _ _ c.in_ok-lhs.lhs own _ rest (c.in_ok-rhs0.ensures kind greatest literals h.defined) (and_right (may_define kind greatest literals c.in_ok-lhs.lhs) _ unusable)

pub returns-in_err-define : goal.returns-in_err-define
returns-in_err-define g c = λ kind greatest leaves before room h.
    let p = err_from_is_err_and c.from_residual-in_err-define.result c.from_residual-in_err-define.ensures.1 in
    let literals = leaves ++ literals_of before in
    let rest : ℕ × ℕ = (c.in_ok-rhs0.rhs0, c.in_ok-rhs0.rhs1) in
    let own = c.in_ok-lhs.ensures.exact kind greatest literals h.defined in
    rw (p.1, p.2) (tells-sound (line_cause c.in_err-define.field-0.0) _ _ _
    (λ (no : may_define kind greatest literals c.in_ok-lhs.lhs ≡ false).
    misses_line kind 32 literals (parse_operands kind) gate_line_from (tests kind greatest literals) _ _ c.in_ok-lhs.lhs own _ rest (c.in_ok-rhs0.ensures kind greatest literals h.defined) (rw no refl))
    (c.in_err-define.ensures kind greatest literals h.defined))

pub returns : goal.returns
returns g c = λ kind greatest leaves before room h.
    let literals = leaves ++ literals_of before in
    let lhs = c.in_ok-lhs.lhs in
    let rest : ℕ × ℕ = (c.in_ok-rhs0.rhs0, c.in_ok-rhs0.rhs1) in
    let gate = gate_line_from (lhs, rest) in
    let own = c.in_ok-lhs.ensures.exact kind greatest literals h.defined in
    let first = c.in_ok-define.ensures kind greatest literals h.defined in
    let usable = sym (c.are_usable.ensures kind greatest literals h.defined) ∙ c.if-not-are_usable.false in
    let last = last_literal kind greatest _ literals lhs first.1.1 room in
    let new = new_among leaves before lhs (new_literal kind greatest _ literals lhs h.defined c.in_ok-lhs.ensures.next first.0) in (
      gate,
      more_gates kind greatest leaves before _ _ gate (c.in_ok-put.ensures kind greatest leaves before h.placed first.1.1 new last.0 last.1) first.1.1,
      takes_line kind 32 literals (parse_operands kind) gate_line_from (tests kind greatest literals) _ _ lhs own _ rest (c.in_ok-rhs0.ensures kind greatest literals h.defined) (rw (first.0, usable) refl),
    )
