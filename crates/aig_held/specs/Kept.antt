-- Part of what is promised.
-- What a handle owns.
use Rattle.std.specs.Prelude.{Option, Some, None}
use base.Fml.{Fml, fex, ftrue}
use denote.RattleType.{RattleType}
use denote.RawPtr.{Ptr, block_ptr, null_ptr}
use Rattle.std.specs.Box.Ownership.{box_owns}
use Rattle.std.specs.contracts.impls.GlobalAllocator.TheImpl.{ghosts}
use Rattle.std.specs.declared.alloc.Global.{Global}

-- behind a pointer that is not null, a value on the heap, and the right to free its block
abbrev pub kept : (R : RattleType) → Ptr → R.Denot → Fml
kept R null_ptr x = ftrue
kept R (block_ptr b o) x =
    fex Global (λ heap. box_owns (ghosts.dealloc_token heap) R (block_ptr b o) x)

-- the value, if any
abbrev pub held : {A : Type 0} → Ptr → A → Option A
held null_ptr x = None
held (block_ptr b o) x = Some x
