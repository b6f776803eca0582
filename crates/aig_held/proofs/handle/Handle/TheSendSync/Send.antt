-- A handle may go to another thread.
use Rattle.std.proofs.Common.{[], ◌∷◌}
use mir.Raw.{raw}
use base.Fraction.{full_share}
use base.Shift.{Keyless}
use denote.Exit.{Exit, unchanged, leaves, hidden, under}
use denote.RattleType.{RattleType}
use denote.Memory.{lone}
use denote.RawPtr.{Ptr, block_ptr, null_ptr}
use denote.Builtin.{RawPtr}
use denote.Struct.Struct.{exits_of}
use denote.Struct.Owning.{shape, fields, to}
use denote.Param.Send.{IsSend, Quiet, part_keyless, owning_send, struct_send, sendable}
use Rattle.std.proofs.Crossing.{frees}
use Rattle.aig_held.specs.Kept.{kept}
use Rattle.aig_held.specs.contracts.handle.Handle.{the_row, the_type}
use Rattle.aig_held.specs.contracts.held.Held
use Rattle.aig_held.proofs.held.Held.TheSendSync as held_send

quiet : {D X : Type 0} (to : D → X) (e : Exit X) → Quiet e → Quiet (hidden (under to e))
quiet to unchanged q = λ x w. tt
quiet to (leaves L l S s r₀) q = λ d. q (to d)

kept_keyless : (R : RattleType) → IsSend R → (p : Ptr) (x : R.Denot) → Keyless (kept R p x)
kept_keyless R s null_ptr x = tt
kept_keyless R s (block_ptr b o) x = λ heap.
    (part_keyless R s full_share x b o, frees.frees heap (raw (lone R.mir)) (block_ptr b o))

pub send : IsSend the_row
send = let O = the_type in let ps : IsSend RawPtr = search sendable in owning_send O (ps, tt) (λ d. kept_keyless Held.the_row held_send.the_send d.at d.value)
    (λ k. quiet (to O) (exits_of k (fields O)) ((struct_send (shape O) (ps, tt)).leaving k))
