-- Texts of small witnesses, and what is read from them and from others.
use Rattle.aig_base.proofs.Words.{◌≡◌, true, false, [], ◌∷◌, None, Some, refl, sym, subst, codes, same_Some}
use Rattle.std.specs.Fmt.{digits}
use Rattle.aig_base.specs.declared.logic.three.Lbool.TheVariants.{FALSE, TRUE, NONE}
use Rattle.aig_format.specs.Parse.{parse_digits, parse_ended, parse_number}
use Rattle.aig_witness.specs.declared.error.WitnessError.TheVariants as errors
use Rattle.aig_witness.specs.Faults.{IsFault}
use Rattle.aig_witness.specs.Reading.{parse_next, parse_next_claim, parse_property, parse_row_after, parse_steps_after}
use Rattle.aig_witness.specs.declared.witness.PropertyKind.TheVariants.{Bad, Justice}
use Rattle.aig_witness.specs.Witness.{Claim, Witness, witness_text}

-- bad 10, two latches, one input, two steps
abbrev small : Witness
small = record { bad = 10; state = FALSE ∷ NONE ∷ []; steps = (TRUE ∷ []) ∷ (NONE ∷ []) ∷ [] }

-- no latch, no input, one step
abbrev bare : Witness
bare = record { bad = 0; state = []; steps = [] ∷ [] }

spelled : witness_text small ≡ codes "1\nb10\n0x\n1\nx\n.\n"
unfolding witness_text digits
spelled = refl

again : parse_next (codes "1\nb10\n0x\n1\nx\n.\n") ≡ Some (Some small, [])
unfolding parse_next parse_next_claim parse_row_after parse_steps_after parse_ended parse_number parse_digits
again = refl

-- lines without values
bare-read : parse_next (codes "1\nb0\n\n\n.\n") ≡ Some (Some bare, [])
unfolding parse_next parse_next_claim parse_row_after parse_steps_after parse_ended parse_number parse_digits
bare-read = refl

-- comments, and another witness after the first
second-left : parse_next (codes "c first\nc\n1\nb0\n\n\n.\nc second\n1\nb10\n0x\n1\nx\n.\n") ≡ Some (Some bare, codes "c second\n1\nb10\n0x\n1\nx\n.\n")
unfolding parse_next parse_next_claim parse_row_after parse_steps_after parse_ended parse_number parse_digits
second-left = refl

-- comments alone, of which the last is ended by the stream
comments-alone : parse_next (codes "c one\nc two") ≡ Some (None, [])
unfolding parse_next parse_next_claim
comments-alone = refl

-- a cut line, a line without its end, no point, and a point without its line's end
cut : (parse_next (codes "1\nb0\n0\n1") ≡ None) × (parse_next (codes "1\nb0") ≡ None) × (parse_next (codes "1\nb0\n0\n1\n") ≡ None) × (parse_next (codes "1\nb0\n0\n1\n.") ≡ None)
unfolding parse_next parse_next_claim parse_row_after parse_steps_after parse_ended parse_number parse_digits
cut = (refl, refl, refl, refl)

-- other statuses, a justice property, two properties, and another letter
others : (parse_next (codes "0\nb0\n.\n") ≡ None) × (parse_next (codes "2\nb0\n.\n") ≡ None) × (parse_next (codes "1\nj0\n0\n.\n") ≡ None) × (parse_next (codes "1\nb0b1\n0\n.\n") ≡ None) × (parse_next (codes "1\nb0\n02\n.\n") ≡ None)
unfolding parse_next parse_next_claim parse_row_after parse_steps_after parse_ended parse_number parse_digits
others = (refl, refl, refl, refl, refl)

-- of a justice property, where these are taken
lasso-read : parse_next_claim true (codes "1\nj10\n0x\n1\nx\n.\n") ≡ Some (Some (record { kind = Justice; witness = small }), [])
unfolding parse_next_claim parse_row_after parse_steps_after parse_ended parse_number parse_digits
lasso-read = refl

-- and of a bad state property there; no other letter, and no two properties
bad-read : (parse_next_claim true (codes "1\nb0\n\n\n.\n") ≡ Some (Some (record { kind = Bad; witness = bare }), [])) × (parse_next_claim true (codes "1\nc0\n\n\n.\n") ≡ None) × (parse_next_claim true (codes "1\nj0j1\n\n\n.\n") ≡ None) × (parse_next_claim true (codes "1\nj\n\n\n.\n") ≡ None)
unfolding parse_next_claim parse_row_after parse_steps_after parse_ended parse_number parse_digits
bad-read = (refl, refl, refl, refl)

-- which line is the first that is malformed
status : IsFault false errors.Status (codes "0\nb0\n.\n")
status = ((λ is. cc), refl)

property : IsFault false errors.Property (codes "1\nj0\n0\n.\n")
unfolding parse_ended parse_number parse_digits
property = (codes "j0\n0\n.\n", refl, refl)

values : IsFault false errors.Values (codes "1\nb0\n02\n.\n")
unfolding parse_row_after parse_steps_after parse_ended parse_number parse_digits
values = (codes "b0\n02\n.\n", refl, ((Bad, 0), codes "02\n.\n", refl, refl))

-- a bad line of values is told as a bad property line
no_property : ¬ IsFault false errors.Property (codes "1\nb0\n02\n.\n")
unfolding parse_ended parse_number parse_digits
no_property fault =
    let lines : codes "b0\n02\n.\n" ≡ fault.0 = same_Some _ _ fault.1 in
    let none : parse_property false (codes "b0\n02\n.\n") ≡ None =
    subst (λ bytes. parse_property false bytes ≡ None) (sym lines) fault.2 in
    absurd cc
