use Rattle.aig_check_commands.proofs.Words.{append_assoc, decimal, rules, take_rest, drop, slice_index, comparison_text, Buffers-trans, failed_among, failed_first, then_call, BuffersOrStops}
use Rattle.std.proofs.Common.{ℕ, ◌≡◌, ◌<◌, List, [], ◌∷◌, ◌++◌, ◌∙◌, ap, arith, length, subst}
use Rattle.std.specs.Prelude.{codes}
use Rattle.aig_check_commands.proofs.lines.equal_lines.buffer_equal.Goals as goal

-- the line is its words, the number with the first byte behind it, and the other bytes
line_parts : (first second text : List ℕ) (k : ℕ) → 0 < length first → first ++ second ≡ text
    → (codes "equal at step " ++ (decimal k ++ slice_index first 0 ∷ [])) ++ (drop 1 first ++ second)
    ≡ codes "equal at step " ++ (decimal k ++ text)
line_parts [] second text k some are = absurd (omega (arith, some))
line_parts (x ∷ xs) second text k some are =
    ap (λ l. codes "equal at step " ++ l) (append_assoc (decimal k) (x ∷ []) (xs ++ second)
    ∙ ap (λ l. decimal k ++ l) are)

pub returns-in_err-write_bytes : goal.returns-in_err-write_bytes
returns-in_err-write_bytes g c =
    failed_first ((decimal c.args.k ++ (comparison_text c.args.comparison ++ 10 ∷ [])) ∷ [])
    c.in_err-write_bytes.ensures (search rules)

pub returns-in_err-write_number : goal.returns-in_err-write_number
returns-in_err-write_number g c =
    let first = c.comparison_end.result.0.now in
    let second = c.comparison_end.result.1.now in
    subst (λ text. BuffersOrStops g.W.Sink.held g.W.Sink.failed c.args.buffer.now c.args.w.now
    c.from_residual-in_err-write_number.result text c.write_number.new.self c.write_number.new.w)
    (line_parts first second _ c.args.k c.comparison_end.ensures.some c.comparison_end.ensures.text)
    (failed_among ((drop 1 first ++ second) ∷ []) c.in_ok-write_bytes.ensures.ok
    (rw c.as_bytes-first.ensures.value at c.in_err-write_number.ensures) (search rules))

pub returns : goal.returns
returns g c =
    let first = c.comparison_end.result.0.now in
    let second = c.comparison_end.result.1.now in
    subst (λ text. BuffersOrStops g.W.Sink.held g.W.Sink.failed c.args.buffer.now c.args.w.now
    c.buffer_both.result text c.buffer_both.new.buffer c.buffer_both.new.w)
    (line_parts first second _ c.args.k c.comparison_end.ensures.some c.comparison_end.ensures.text)
    (then_call (Buffers-trans c.in_ok-write_bytes.ensures.ok
    (rw c.as_bytes-first.ensures.value at c.in_ok-write_number.ensures.ok))
    (rw (c.as_bytes.ensures.value, c.as_bytes-first.ensures.value, take_rest first 1)
    at c.buffer_both.ensures))
