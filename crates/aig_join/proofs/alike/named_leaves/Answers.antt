use Rattle.std.proofs.Common.{Bor}
use Rattle.aig_base.proofs.Words.{◌∙◌, Global, None, Some, String, ap, bytes_eq, cond, get, get_or, map, option_map, string_bytes, sym, take_all}
use Rattle.std.specs.HashMap.{get_by_text}
use Rattle.std.specs.Option.{is_none, option_or}
use Rattle.aig_join.specs.Names.{is_called}
use Rattle.aig_join.specs.Starts.{named_place}
use Rattle.aig_join.proofs.Partners.{named-more, no_latch, or-none, register}
use Rattle.aig_join.proofs.alike.named_leaves.Goals as goal
use Rattle.aig_join.proofs.alike.named_leaves.Goals.{in-Some+in_ok-put_first, in_default}

pub loop-latch-preserved : goal.loop-latch-preserved
loop-latch-preserved c =
    let items = c.latchs-latch-items.result.now in
    let i = c.loop-latch.latch-index in
    let latch = get_or items i no_latch in
    let before = get_by_text c.loop-latch.leaves in
    named-more c.args.circuit.now.names items i no_latch
    (option_map (λ (name : Bor (String Global)). string_bytes name.now) c.open_name.result)
    before (get_by_text c.match-open_name.leaves) c.loop-latch-test.true c.loop-latch.invariant
    (c.open_name.ensures
    ∙ ap (λ names. cond (is_none latch.init) (get names latch.input) None)
    c.names.ensures.value)
    (λ text. elim c.match-open_name.branch [
      | in-Some+in_ok-put_first w ↦ ap (λ leaves. get_by_text leaves text) w.leaves-is
          ∙ w.in_ok-put_first.ensures text
          ∙ ap (λ n. option_or (before text)
          (cond (bytes_eq (string_bytes w.in-Some.name.now) text) (Some n) None))
          w.input.ensures
          ∙ ap (λ o. option_or (before text) (cond (is_called text
          (option_map (λ (name : Bor (String Global)). string_bytes name.now) o))
          (Some latch.input) None)) (sym w.in-Some.is)
      | in_default w ↦ ap (λ leaves. get_by_text leaves text) w.leaves-is
          ∙ sym (or-none (before text))
          ∙ ap (λ o. option_or (before text) (cond (is_called text
          (option_map (λ (name : Bor (String Global)). string_bytes name.now) o))
          (Some latch.input) None)) (sym w.in_default.is)
    ])

pub returns : goal.returns
returns c = λ text. c.loop-latch.invariant text
    ∙ ap (λ latchs. named_place (map (register c.args.circuit.now.names) latchs) (Some text))
    (take_all c.loop-latch.latch-index c.latchs-latch-items.result.now c.loop-latch-test.false
    ∙ c.latchs-latch-items.ensures.value)
