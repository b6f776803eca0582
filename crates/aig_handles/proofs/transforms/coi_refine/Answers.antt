use Rattle.aig_base.proofs.Words.{arith, refl, inl}
use Rattle.aig_handles.proofs.transforms.coi_refine.Goals as goal

pub returns-in-Ok : goal.returns-in-Ok
returns-in-Ok c =
    let few = c.fits_lits.ensures.0 c.if-not-fits_lits.false in
    inl (refl, record { asked = omega (arith, few); numbers = c.in-Ok.field-0-1; refined = c.in-Ok.ensures.refined })
