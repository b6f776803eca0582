-- Serves private clauses alone.
-- What stands under a source or a sink made of a reader or a writer of std.
use Rattle.std.specs.Prelude.{ℕ, Bool}
use Rattle.aig_base.specs.declared.std_stream.FromRead.{FromRead}
use Rattle.aig_base.specs.declared.std_stream.ToWrite.{ToWrite}

-- the reader under a source
abbrev pub reader_of : {R : Type 0} → FromRead R → R
reader_of s = s.inner

-- how many pulls are left to a source
abbrev pub pulls_of : {R : Type 0} → FromRead R → ℕ
pulls_of s = s.pulls

-- whether a source has failed
abbrev pub read_failed : {R : Type 0} → FromRead R → Bool
read_failed s = s.failed

-- the writer under a sink
abbrev pub writer_of : {W : Type 0} → ToWrite W → W
writer_of s = s.inner
