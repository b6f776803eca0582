-- What printing a circuit is refused for, and its bytes.
use Rattle.aig_base.proofs.Words.{◌≡◌, ◌≢◌, Option, Some, None, Result, Err, List, refl, ap, subst, inl, inr, ◌⊎◌, All, Any, IfSome, IsErrOf, IsSomeAnd, Contains-append_cases}
use Rattle.aig_circuit.specs.declared.edge.AigEdge.{AigEdge}
use Rattle.aig_circuit.proofs.Words.{Circuit, HasFreeLeaf, latch_leaves, HasConstantInit, HasNonConstantInit}
use Rattle.aig_format.proofs.Words.{text_of, HasLineFeed, IsWritable, named_nodes}
use Rattle.aig.specs.declared.aiger.WriteError.{WriteError}
use Rattle.aig.specs.declared.aiger.WriteError.TheVariants as write
use Rattle.aig.specs.Writing.{IsRefusal, IsVerdictOf}
use Rattle.aig_tool_commands.specs.declared.command.Command.{Command}
use Rattle.aig_tool_commands.specs.declared.command.Command.TheVariants as commands
use Rattle.aig_tool_commands.specs.Printing.{bytes_of}

-- an error that is this one
pub err_of : {T E : Type 0} (e x : E) → e ≡ x → IsErrOf {T = T} (Err e) x
err_of {T} {E} e x is = let error : E → Result T E = λ y. Err y in ap error is

-- ---- what is refused after the reading

no_any : {X : Type 0} (P Q : X → Type 0) → ((x : X) → P x → Q x → ⊥) → (xs : List X) → All P xs
    → Any Q xs → ⊥
no_any P Q not xs all any = not any.1 (subst P any.3 (all any.0 any.1 any.2)) any.4

not_both : (init : Option AigEdge) → IfSome init (λ e. e.node_id ≡ 0)
    → IsSomeAnd init (λ e. e.node_id ≢ 0) → ⊥
not_both None plain variable = variable
not_both (Some e) plain variable = variable plain

no_free_leaf : (c : Circuit) → HasFreeLeaf c.nodes c.inputs c.latchs → IsWritable c → ⊥
no_free_leaf c (n, leaf, free) w =
    elim (Contains-append_cases c.inputs (latch_leaves c.latchs) n (w.closed n leaf)) [
      | inl input ↦ free.no_input input
      | inr latch ↦ free.no_latch latch
    ]

-- A circuit that has a written form is refused for want of memory or by its writer alone.
pub only_interrupted : (c : Circuit) (e : WriteError) → IsWritable c → IsVerdictOf c (Err e)
    → (e ≡ write.Open → ⊥) → (e ≡ write.Memory) ⊎ (e ≡ write.Stream)
only_interrupted c write.Memory w tells opened = inl refl
only_interrupted c write.Stream w tells opened = inr refl
only_interrupted c write.FreeLeaf w tells opened = absurd (no_free_leaf c tells w)
only_interrupted c write.InitialEdge w tells opened = absurd
    (no_any HasConstantInit HasNonConstantInit (λ l. not_both l.init) c.latchs w.start tells.1)
only_interrupted c write.Name w tells opened = absurd
    (no_any (λ n. ¬ HasLineFeed c.names n) (HasLineFeed c.names) (λ n not has. not has)
    (named_nodes c) w.names tells.2)
only_interrupted c write.TooLarge w tells opened = absurd (tells.3 w.small)
only_interrupted c write.Open w tells opened = absurd (opened refl)

-- and where no memory is asked for, by its writer alone
pub only_stopped : (c : Circuit) (e : WriteError) → IsWritable c → IsVerdictOf c (Err e)
    → (IsRefusal e ⊎ (e ≡ write.Stream)) → e ≡ write.Stream
only_stopped c e w tells (inr is) = is
only_stopped c write.Memory w tells (inl own) = absurd own
only_stopped c write.Stream w tells (inl own) = refl
only_stopped c write.FreeLeaf w tells (inl own) = absurd (no_free_leaf c tells w)
only_stopped c write.InitialEdge w tells (inl own) = absurd
    (no_any HasConstantInit HasNonConstantInit (λ l. not_both l.init) c.latchs w.start tells.1)
only_stopped c write.Name w tells (inl own) = absurd
    (no_any (λ n. ¬ HasLineFeed c.names n) (HasLineFeed c.names) (λ n not has. not has)
    (named_nodes c) w.names tells.2)
only_stopped c write.TooLarge w tells (inl own) = absurd (tells.3 w.small)
only_stopped c write.Open w tells (inl own) = absurd own

-- ---- the bytes of a circuit

-- neither the binary form nor that of the hashed circuit
pub plain_bytes : (c : Command) (circuit : Circuit) → c ≢ commands.Binary → c ≢ commands.Strash
    → bytes_of c circuit ≡ text_of circuit
plain_bytes commands.Binary circuit no_binary no_strash = absurd (no_binary refl)
plain_bytes commands.Strash circuit no_binary no_strash = absurd (no_strash refl)
plain_bytes c circuit no_binary no_strash = refl
