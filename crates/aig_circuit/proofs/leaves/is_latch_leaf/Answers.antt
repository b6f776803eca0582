use Rattle.std.proofs.Common.{◌≡◌, ℕ, eqb, ◌||◌, List, [], ◌∷◌, nat_eq, refl, ap, ◌∙◌, rules, tests}
use Rattle.aig_base.proofs.Words.{list_any, is_member, Decides-eqb, is_member-Decides}
use Rattle.std.proofs.lemmas.Iterator.{YieldsList-from_slice}
use Rattle.std.proofs.lemmas.Iterator.Search.{any_from_yields_List}
use Rattle.aig_base.proofs.Mapping.{turned}
use Rattle.aig_circuit.specs.declared.node.AigLatch.{AigLatch}
use Rattle.aig_circuit.specs.Circuit.{latch_leaves}
use Rattle.aig_circuit.proofs.leaves.is_latch_leaf.Goals as goal

-- a latch has this leaf exactly if the leaves have it
any_leaf : (latchs : List AigLatch) (n : ℕ) → list_any (λ latch. nat_eq latch.input n) latchs ≡ is_member eqb (latch_leaves latchs) n
any_leaf [] n = refl
any_leaf (latch ∷ latchs) n = ap (λ b. b || list_any (λ other. nat_eq other.input n) latchs) (turned latch.input n) ∙ ap (λ b. eqb n latch.input || b) (any_leaf latchs n)

pub returns : goal.returns
returns c =
    let latchs = c.args.latchs.now in
    let found : c.any.result ≡ list_any (λ (latch : AigLatch). nat_eq latch.input c.args.id) latchs =
    any_from_yields_List (λ (latch : AigLatch). nat_eq latch.input c.args.id) _ _ c.any.result c.any.ensures.ran (YieldsList-from_slice latchs cc) (λ x b q k. search (rules, tests))
    in
    rw (found, any_leaf latchs c.args.id) (is_member-Decides Decides-eqb (latch_leaves latchs) c.args.id)
