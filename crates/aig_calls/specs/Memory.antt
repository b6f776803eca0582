-- Part of what is promised.
-- Readers and writers of bytes in the caller's memory.
use Rattle.std.specs.Borrow.{Bor}
use Rattle.std.specs.Prelude.{◌≡◌, ℕ, Bool, List, [], Option, Some, Vec}
use Rattle.std.specs.declared.alloc.Global.{Global}
use Rattle.aig_base.specs.declared.std_stream.FromRead.{FromRead}
use Rattle.aig_base.specs.declared.std_stream.ToWrite.{ToWrite}

-- a reader of the caller's bytes
abbrev pub Reader : Type 0
Reader = FromRead (Bor (List ℕ))

-- the bytes that it has left
abbrev pub bytes_of : Reader → Option (List ℕ)
bytes_of r = Some r.inner.now

-- whether a read of it failed
abbrev pub has_failed : Reader → Bool
has_failed r = r.failed

-- a writer of what is given to the caller
abbrev pub Writer : Type 0
Writer = ToWrite (Vec ℕ Global)

-- the bytes that it holds
abbrev pub held : Writer → Option (List ℕ)
held w = Some w.inner.items

-- whether a write to it failed
abbrev pub write_failed : Writer → Bool
write_failed w = w.failed

-- this is done with a reader of these bytes, as it is before and after
abbrev pub On : List ℕ → (Reader → Reader → Type 0) → Type 0
On bytes Does = (old : Reader) × (new : Reader) × (bytes_of old ≡ Some bytes) × Does old new

-- this is done with a writer that holds nothing before
abbrev pub Into : (Writer → Writer → Type 0) → Type 0
Into Does = (old : Writer) × (new : Writer) × (held old ≡ Some []) × Does old new
