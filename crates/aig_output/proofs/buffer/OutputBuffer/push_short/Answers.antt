use Rattle.aig_base.proofs.Words.{◌≡◌, ◌+◌, ◌≤◌, ◌++◌, length, take, ap, ◌∙◌, rules, arith, length-take-le, take-take}
use Rattle.aig_output.proofs.Fronts.{take-put_front}
use borrow.Rule.Slice.PartMut.{mid_len}
use Rattle.aig_output.proofs.buffer.OutputBuffer.push_short.Goals as goal

pub copy_from_slice-requires : goal.copy_from_slice-requires
copy_from_slice-requires c =
    let b = c.self.inside in
    let size : length b.bytes ≡ 32768 = c.self.told in
    let room : b.len + 32 ≤ length b.bytes = search rules in
    let long : length (take 32 c.args.piece.now) ≡ 32 = length-take-le 32 c.args.piece.now c.requires.long in
    mid_len b.len (b.len + 32) b.bytes room ∙ omega (arith, long)

pub returns : goal.returns
returns c =
    let b = c.self.inside in
    let piece = c.args.piece.now in
    let size : length b.bytes ≡ 32768 = c.self.told in
    let room : b.len + 32 ≤ length b.bytes = search rules in
    let long : length (take 32 piece) ≡ 32 = length-take-le 32 piece c.requires.long in
    rw c.copy_from_slice.ensures.after
    (take-put_front b.bytes (take 32 piece) b.len _ c.args.count (omega (arith, long, room)) (omega (arith, long, c.requires.short))
    ∙ ap (λ l. l ++ take c.args.count (take 32 piece)) c.self.view_is
    ∙ ap (λ l. c.args.self.now ++ l) (take-take c.args.count 32 piece c.requires.short))
