-- Counts that don't fit, and wrong ones, which the definition refuses.
use Rattle.std.proofs.Common.{◌≡◌, ℕ, ◌<◌, refl, sym, ◌∙◌, arith}
use Rattle.aig_format.proofs.Words.{File}
use Rattle.aig_edits.specs.declared.misfit.Misfit.{Misfit}
use Rattle.aig_edits.specs.declared.misfit.Misfit.TheVariants as misfits
use Rattle.aig_edits.specs.declared.pairing.Pairing.{Pairing}
use Rattle.aig_edits.specs.declared.pairing.Pairing.TheVariants.{Certificate, Merge, Miter}
use Rattle.aig_join.specs.declared.comparison.Comparison.{Comparison}
use Rattle.aig_edits.specs.Joints.{Counted, DoFit, IsMisfit, counted}

-- files of a misfit don't fit
pub unfit : (pairing : Pairing) (f g : File) (m : Misfit)
    → IsMisfit pairing (counted f) (counted g) m → ¬ DoFit pairing f g
unfit (Miter comparison) f g (misfits.Inputs m n) (is, also, other) fit = other (is ∙ fit.inputs ∙ sym also)
unfit (Miter comparison) f g (misfits.Outputs m n) (same, is, also, other) fit =
    other (is ∙ fit.outputs ∙ sym also)
unfit (Miter comparison) f g (misfits.Bads m n) (same, alike, is, also, other) fit =
    other (is ∙ fit.bads ∙ sym also)
unfit (Miter comparison) f g (misfits.Latches m n) told fit = told
unfit Certificate f g (misfits.Inputs m n) (is, also, less) fit =
    let few = fit.inputs in omega (arith, is, also, less, few)
unfit Certificate f g (misfits.Latches m n) (low, is, also, less) fit =
    let few = fit.latches in omega (arith, is, also, less, few)
unfit Certificate f g (misfits.Outputs m n) told fit = told
unfit Certificate f g (misfits.Bads m n) told fit = told
unfit Merge f g m told fit = told

-- ---- wrong counts

abbrev with_inputs : ℕ → Counted
with_inputs n = record { inputs = n; latches = 1; outputs = 0; bads = 1 }

-- the counts are exchanged
no_exchange : (comparison : Comparison)
    → ¬ IsMisfit (Miter comparison) (with_inputs 2) (with_inputs 1) (misfits.Inputs 1 2)
no_exchange comparison told = let is : 1 ≡ 2 = told.0 in omega (arith, is)

-- other numbers than those of the files
no_other_number : (comparison : Comparison)
    → ¬ IsMisfit (Miter comparison) (with_inputs 2) (with_inputs 1) (misfits.Inputs 2 3)
no_other_number comparison told = let is : 3 ≡ 1 = told.1 in omega (arith, is)

-- a later count, where an earlier one doesn't fit
no_later_count : (comparison : Comparison) (m n : ℕ)
    → ¬ IsMisfit (Miter comparison) (with_inputs 2) (with_inputs 1) (misfits.Outputs m n)
no_later_count comparison m n told = let is : 2 ≡ 1 = told.0 in omega (arith, is)

-- counts that are the same
no_same_counts : (comparison : Comparison) (n : ℕ)
    → ¬ IsMisfit (Miter comparison) (with_inputs 2) (with_inputs 2) (misfits.Inputs n n)
no_same_counts comparison n told = told.2 refl

-- a certificate of more inputs
no_greater_certificate : (m n : ℕ)
    → ¬ IsMisfit Certificate (with_inputs 1) (with_inputs 2) (misfits.Inputs m n)
no_greater_certificate m n told =
    let is : m ≡ 1 = told.0 in
    let also : n ≡ 2 = told.1 in
    let less : n < m = told.2 in
    omega (arith, is, also, less)

-- any two files are merged
no_misfit_of_merge : (a b : Counted) (m : Misfit) → ¬ IsMisfit Merge a b m
no_misfit_of_merge a b m told = told
