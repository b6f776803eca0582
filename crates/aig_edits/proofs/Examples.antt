-- Edits and counts of small circuits and files, computed; and wrong ones, of which the definitions
-- are false.
use Rattle.aig_base.proofs.Words.{◌≡◌, ◌≢◌, ◌⊎◌, ℕ, zero, suc, ◌≤◌, Bool, true, false, None, Option, Err, List, [], ◌∷◌, ◌++◌, length, refl, sym, ap, ◌∙◌, arith, inl, inr, codes, false≢true, or-false, slice_index, ◌==◌, map, same_Some}
use Rattle.std.specs.Fmt.{digits}
use Rattle.aig_bounded.specs.Question.{question_size}
use Rattle.aig_bounded.specs.declared.error.BoundedError.TheVariants as bounded
use Rattle.aig_circuit.specs.declared.edge.AigEdge.{AigEdge}
use Rattle.aig_circuit.specs.declared.node.AigNodeType.TheVariants.{False, Leaf, And}
use Rattle.aig_circuit.specs.declared.node.AigNode.{AigNode}
use Rattle.aig_circuit.proofs.Words.{Circuit, IsFanin, edge_to, literal_of, no_properties, only_false}
use Rattle.aig_circuit.specs.Tree.{node_value, tree_of}
use Rattle.aig_edit_laws.specs.Shown.{HasWitness, IsAllowedMachineRun, bad_alone}
use Rattle.aig_format.specs.Circuit.{circuit_of}
use Rattle.aig_format.specs.declared.FileKind.TheVariants.{Text}
use Rattle.aig_format.specs.File.{File}
use Rattle.aig_reader.specs.declared.error.ReadError.TheVariants as read
use Rattle.aig_edits.specs.declared.editing.Edit.TheVariants as edits
use Rattle.aig_edits.specs.declared.edit_error.EditError.TheVariants as errors
use Rattle.aig_edits.specs.declared.misfit.Misfit.TheVariants as misfits
use Rattle.aig_edits.specs.declared.pairing.Pairing.TheVariants.{Certificate, Miter}
use Rattle.aig_join.specs.declared.comparison.Comparison.{Comparison}
use Rattle.aig_edits.specs.Edits.{AreStepsWithin, CanEdit, EditShows, IsEdited, IsEditOwn, IsEditRefusal}
use Rattle.aig_edit_laws.specs.declared.fairness.Fairness.TheVariants.{Alone, Justice}
use Rattle.aig_edits.specs.Info.{HasPath, IsDepth, counts_of, info_text}
use Rattle.aig_edits.specs.Joints.{Counted, DoFit, IsMisfit}
use Rattle.aig_edits.specs.Lives.{IsLiveRefusal}
use Rattle.aig_edits.specs.QuestionFaults.{question_fault}
use Rattle.aig_edits.specs.Questions.{IsQuestionRefusal}
use Rattle.aig_edits.specs.Reductions.{PrintsReduction}
use Rattle.aig_edits.specs.Rounds.{IsRoundsRefusal}

-- ---- a circuit

-- inputs 2 and 1, gate 3 = and(1,!2), which is the output; 2 and 3 are bad, and 1 is a constraint
abbrev nodes : List AigNode
nodes =
    record { node_id = 0; typ = False } ∷ record { node_id = 1; typ = Leaf }
    ∷ record { node_id = 2; typ = Leaf }
    ∷ record { node_id = 3; typ = And (edge_to 1 false) (edge_to 2 true) } ∷ []

abbrev small : Circuit
small = record only_false {
  nodes = nodes;
  inputs = 2 ∷ 1 ∷ [];
  properties = record no_properties {
    outputs = edge_to 3 false ∷ [];
    bads = edge_to 2 false ∷ edge_to 3 false ∷ [];
    constraints = edge_to 1 false ∷ [];
  };
}

-- its bad edges as literals, and its outputs
abbrev bads_in : Circuit → List ℕ
bads_in c = map literal_of c.properties.bads

abbrev outputs_in : Circuit → List AigEdge
outputs_in c = c.properties.outputs

-- inputs that aren't numbered in order
no_turned_inputs : ¬ IsEdited edits.Reencode small small
no_turned_inputs is =
    let first : 2 ≡ 1 = ap (λ (m : Circuit). slice_index m.inputs 0) is in omega (arith, first)

-- no further step
no_step_left_out : ¬ IsEdited (edits.Unroll 1) small small
no_step_left_out is =
    let outputs : 1 ≡ 2 = ap (λ m. length (outputs_in m)) is.0.exact in omega (arith, outputs)

-- a constraint that stays
no_constraint_kept : ¬ IsEdited edits.Move small small
no_constraint_kept is = let none = is.constraints in cc

-- the first bad edge for the or of both
no_first_bad_alone : ¬ IsEdited edits.Compress small (bad_alone small (edge_to 2 false))
unfolding node_value tree_of
no_first_bad_alone is =
    let value = is.value.gives.value (λ n. n == 1) in
    let same : is.bad ≡ edge_to 2 false = let one = is.bads in cc in
    let either : false ≡ true = rw same at value in cc

-- outputs that stay
no_outputs_kept : ¬ IsEdited edits.Bads small small
no_outputs_kept is =
    let outputs : 1 ≡ 0 = ap (λ m. length (outputs_in m)) is in omega (arith, outputs)

-- bad edge 1 alone, and not bad edge 0
second_bad : IsEdited (edits.Property 1) small (bad_alone small (edge_to 3 false))
second_bad = record { bad = edge_to 3 false; there = refl; exact = refl }

no_first_bad : ¬ IsEdited (edits.Property 1) small (bad_alone small (edge_to 2 false))
no_first_bad is =
    let there : 6 ≡ literal_of is.bad = ap literal_of (same_Some _ _ is.there) in
    let one : 4 ≡ literal_of is.bad = ap (λ m. slice_index (bads_in m) 0) is.exact in
    omega (arith, there, one)

-- bad edges that stay, and false for true
no_bads_kept : ¬ IsEdited edits.Possible small small
no_bads_kept is = let bads = ap (λ m. length (bads_in m)) is in omega (arith, bads)

no_false_bad : ¬ IsEdited edits.Possible small (bad_alone small (edge_to 0 false))
no_false_bad is =
    let one : 0 ≡ 1 = ap (λ m. slice_index (bads_in m) 0) is in omega (arith, one)

-- the cone of an output past the last
no_second_cone : (m : Circuit) → ¬ IsEdited (edits.Cone 1) small m
no_second_cone m is = let there = is.there in cc

-- two further steps may take 3 nodes each, and no fewer are enough
within_10 : AreStepsWithin (edits.Unroll 2) 10 small
within_10 = omega arith

not_within_9 : ¬ AreStepsWithin (edits.Unroll 2) 9 small
not_within_9 within = omega (arith, within)

-- ---- counts

only_gate : (n m : ℕ) → IsFanin nodes n m → (n ≡ 3) × ((m ≡ 1) ⊎ (m ≡ 2))
only_gate zero m (a, b, kind, which) = cc
only_gate (suc zero) m (a, b, kind, which) = cc
only_gate (suc (suc zero)) m (a, b, kind, which) = cc
only_gate (suc (suc (suc zero))) m (a, b, kind, inl is) = (refl, inl cc)
only_gate (suc (suc (suc zero))) m (a, b, kind, inr is) = (refl, inr cc)
only_gate (suc (suc (suc (suc n)))) m (a, b, kind, which) = cc

no_gate_over_the_gate : (n k : ℕ) → ¬ HasPath nodes (suc (suc k)) n
no_gate_over_the_gate n k (m, over, (l, under, rest)) =
    by m (only_gate m l under).0 (only_gate n m over).1
  where
    by : (m : ℕ) → m ≡ 3 → (m ≡ 1) ⊎ (m ≡ 2) → ⊥
    by m three (inl is) = omega (arith, three, is)
    by m three (inr is) = omega (arith, three, is)

one_gate : HasPath nodes 1 3
one_gate = (1, (edge_to 1 false, edge_to 2 true, refl, inl refl), tt)

one_level : IsDepth nodes 1
one_level = record { path = (3, one_gate); most = most }
  where
    most : (n k : ℕ) → HasPath nodes k n → k ≤ 1
    most n zero path = omega arith
    most n (suc zero) path = omega arith
    most n (suc (suc k)) path = absurd (no_gate_over_the_gate n k path)

-- no level, and a level for the leaves
no_level_left_out : ¬ IsDepth nodes 0
no_level_left_out is = let most = is.most 3 1 one_gate in omega (arith, most)

no_level_of_leaves : ¬ IsDepth nodes 2
no_level_of_leaves is = no_gate_over_the_gate is.path.0 0 is.path.1

small-told : info_text (counts_of small 1)
    ≡ codes "inputs 2\nlatches 0\noutputs 1\ngates 1\n"
    ++ codes "bads 2\nconstraints 1\njustice 0\nfairness 0\nlevels 1\n"
unfolding digits
small-told = refl

-- all nodes as gates
no_nodes_as_gates : (counts_of small 1).gates ≢ length nodes
no_nodes_as_gates same = omega (arith, same)

-- ---- files

-- outputs 0 and 1 are false and true; false is bad
abbrev constant : File
constant = record {
  kind = Text;
  greatest = 0;
  inputs = [];
  latches = [];
  properties = record no_properties { outputs = 0 ∷ 1 ∷ []; bads = 0 ∷ [] };
  gates = [];
  names = [];
}

abbrev run : ℕ → ℕ → Bool
run t n = false

runs : (k : ℕ) → IsAllowedMachineRun constant k run
runs k = record {
  is_run = record {
    steps = λ t low. record { zero = refl; gates = tt };
    moves = λ t low. tt;
  };
  start = tt;
  allowed = λ t low. tt;
}

no_witness : (k : ℕ) → ¬ HasWitness constant k
no_witness k (of, is) =
    false≢true (sym (is.is_run.steps k (omega arith)).zero ∙ sym (or-false (of k 0)) ∙ is.bad)

-- the old bad literal for the outputs, and for the runs
no_bad_for_outputs : ¬ EditShows edits.Bads constant constant
no_bad_for_outputs shows = no_witness 0 ((shows 0).1 (run, runs 0, refl))

no_bad_for_runs : ¬ EditShows edits.Possible constant constant
no_bad_for_runs shows = no_witness 0 ((shows 0).1 (run, runs 0))

-- the machine whose bad literal is true is as safe
no_other_safety : ¬ EditShows edits.Refine constant
    (record constant { properties = record no_properties { bads = 1 ∷ [] } })
no_other_safety shows =
    (shows 0).1 (no_witness 0) (
      run,
      record {
        is_run = record {
          steps = λ t low. record { zero = refl; gates = tt };
          moves = λ t low. tt;
        };
        start = tt;
        constraints = λ t low. tt;
        bad = refl;
      },
    )

-- two bad literals and a constraint
abbrev limited : File
limited = record constant {
  properties = record no_properties { bads = 0 ∷ 1 ∷ []; constraints = 1 ∷ [] };
}

cannot_move : ¬ CanEdit edits.Move limited
cannot_move (inl none) = cc
cannot_move (inr one) = omega (arith, one)

many_bads : (limit : ℕ) → IsEditRefusal edits.Move limit limited errors.ManyBads
many_bads limit = (refl, cannot_move)

-- another edit refuses them, and bad literal 1 isn't there
no_other_refuses : (limit : ℕ) → ¬ IsEditRefusal edits.Compress limit limited errors.ManyBads
no_other_refuses limit is = let move = is.0 in cc

no_bad_refused : (limit : ℕ) → ¬ IsEditRefusal (edits.Property 1) limit limited errors.NoBad
no_bad_refused limit (n, same, cannot) =
    let number : 1 ≡ n = cc in cannot (omega (arith, number))

-- an edit opens a path
no_path_opened : ¬ IsEditOwn (errors.Read read.Open)
no_path_opened own = own refl

-- a justice property that is there, and one past the last
abbrev fair : File
fair = record constant { properties = record no_properties { justice = (1 ∷ []) ∷ [] } }

no_justice_1 : IsLiveRefusal (Justice 1) fair errors.NoJustice
no_justice_1 = omega arith

no_live_refused : ¬ IsLiveRefusal (Justice 0) fair errors.NoJustice
no_live_refused is = omega (arith, is)

-- fairness alone needs no property
none_missing : (f : File) → ¬ IsLiveRefusal Alone f errors.NoJustice
none_missing f is = is

no_rounds_refused : (count : ℕ) → ¬ IsRoundsRefusal (Justice 0) count fair errors.NoJustice
no_rounds_refused count is = omega (arith, is)

-- a bad literal is there, and a question of the limit's size isn't refused
no_bads_missing : (k limit : ℕ) → ¬ IsQuestionRefusal k limit constant errors.NoBads
no_bads_missing k limit none = cc

no_question_at_the_limit : (k : ℕ) (f : File)
    → ¬ IsQuestionRefusal k (question_size (circuit_of f) k) f errors.QuestionTooLarge
no_question_at_the_limit k f (some, passes) = omega (arith, passes)

-- it isn't told as too large for the format
no_other_fault : question_fault bounded.TooLarge ≢ errors.TooLarge
no_other_fault same = cc

-- a reduction is too large
no_large_reduction : {W : Type 0} (held : W → Option (List ℕ)) (failed : W → Bool) (w made : W)
    (f : File) → ¬ PrintsReduction held failed w made f (Err errors.TooLarge)
no_large_reduction held failed w made f is = is

-- ---- two files

abbrev one_output : Counted
one_output = record { inputs = 2; latches = 1; outputs = 1; bads = 0 }

abbrev two_outputs : Counted
two_outputs = record { inputs = 2; latches = 0; outputs = 2; bads = 1 }

outputs_differ : (comparison : Comparison)
    → IsMisfit (Miter comparison) one_output two_outputs (misfits.Outputs 1 2)
outputs_differ comparison = (refl, refl, refl, λ same. omega (arith, same))

-- the counts turned round, a later misfit, and latches, of which a miter asks nothing
no_turned_counts : (comparison : Comparison)
    → ¬ IsMisfit (Miter comparison) one_output two_outputs (misfits.Outputs 2 1)
no_turned_counts comparison is = let first = is.1 in omega (arith, first)

no_later_misfit : (comparison : Comparison) (m n : ℕ)
    → ¬ IsMisfit (Miter comparison) one_output two_outputs (misfits.Bads m n)
no_later_misfit comparison m n is = let outputs = is.1 in omega (arith, outputs)

no_latches_of_a_miter : (comparison : Comparison) (a b : Counted) (m n : ℕ)
    → ¬ IsMisfit (Miter comparison) a b (misfits.Latches m n)
no_latches_of_a_miter comparison a b m n is = is

-- a certificate may have more latches than its file, and no fewer
no_misfit_of_more : ¬ IsMisfit Certificate two_outputs one_output (misfits.Latches 0 1)
no_misfit_of_more is = let less = is.3 in omega (arith, less)

no_fewer_latches : ¬ DoFit Certificate
    (record constant { latches = record { literal = 2; next = 2; reset = None } ∷ [] }) constant
no_fewer_latches fit = omega (arith, fit.latches)
