use Rattle.aig_base.proofs.Words.{IsTrue, ◌↔◌, nat_eq_equiv, subst, sym}
use Rattle.std.proofs.lemmas.Map.Views.{exact_unsigned_eq, hash_set_contains_iff}
use Rattle.std.specs.Prelude.{Contains}
use Rattle.aig_handles.proofs.cones.is_in.Goals as goal

pub returns : goal.returns
returns c =
    subst (λ b. IsTrue b ↔ Contains c.args.cone.now.keys c.args.node) (sym c.contains.ensures)
    (hash_set_contains_iff nat_eq_equiv exact_unsigned_eq c.args.cone.now c.args.node)
