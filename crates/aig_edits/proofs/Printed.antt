-- What is printed of the joint circuit of two files.
use Rattle.std.proofs.Common.{ℕ, Bool, List, Option, Err}
use Rattle.aig_format.specs.File.{File}
use Rattle.aig_edits.specs.declared.pair_error.PairError.{PairError}
use Rattle.aig_edits.specs.declared.pair_error.PairError.TheVariants as errors
use Rattle.aig_edits.specs.declared.pairing.Pairing.{Pairing}
use Rattle.aig_edits.specs.Joints.{IsRefusalOf, PrintsJoint}

module _ {W : Type 0} (held : W → Option (List ℕ)) (failed : W → Bool) (pairing : Pairing)
    (w made : W) (f g : File) where
  -- what is refused before anything is written
  pub refused_print : (e : PairError) → IsRefusalOf pairing f g e
      → PrintsJoint held failed pairing w made f g (Err e)
  refused_print errors.Write told = absurd told
  refused_print e told = told
