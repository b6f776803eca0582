-- The live circuit is the old one with an input and latches more.
use Rattle.aig_base.proofs.Words.{◌≡◌, ℕ, ◌+◌, suc, Option, List, [], ◌∷◌, ◌++◌, length, sym, ap, ◌∙◌, arith, All, All-append, All-cons, append_assoc, length-append}
use Rattle.std.specs.Prelude.{codes}
use Rattle.aig_circuit.specs.declared.edge.AigEdge.{AigEdge}
use Rattle.aig_circuit.specs.declared.node.AigLatch.{AigLatch}
use Rattle.aig_circuit.specs.Properties.{no_properties}
use Rattle.aig_circuit.proofs.Words.{Circuit, IsCircuit, IsClosed, IsInRange, HasConstantInit}
use Rattle.aig_live.specs.Extended.{IsExtended, row_from}
use Rattle.aig_live.specs.Live.{IsLiveOf, false_latch, false_latches}
use Rattle.aig_live.specs.Names.{copy_names, live_names, numbered, with_row}
use Rattle.aig_live.proofs.Extended as extended
use Rattle.aig_live.proofs.Rows.{copies-long, numbered-long}

-- latches in a row
false_latches-both : (leaf : ℕ) (es fs : List AigEdge)
    → false_latches leaf (es ++ fs) ≡ false_latches leaf es ++ false_latches (leaf + length es) fs
false_latches-both leaf [] fs = let same : leaf ≡ leaf + 0 = omega arith in ap
    (λ n. false_latches n fs) same
false_latches-both leaf (e ∷ es) fs =
    let same : leaf + 1 + length es ≡ leaf + suc (length es) = omega arith in
    ap (λ ls. false_latch leaf e ∷ ls) (false_latches-both (leaf + 1) es fs)
    ∙ ap (λ n. false_latch leaf e ∷ (false_latches (leaf + 1) es ++ false_latches n fs)) same

module _ (edges : List AigEdge) (c new : Circuit) (live : IsLiveOf edges c new) where
  abbrev nexts : List AigEdge
  nexts = live.active ∷ live.starts ++ live.seen

  nexts_long : length nexts ≡ 1 + length c.latchs + length edges
  nexts_long = omega (
    arith,
    length-append
        (live.active ∷ live.starts) live.seen,
    live.starts_count,
    live.seen_count,
  )

  -- the latches that are added, in a row
  latchs_are : new.latchs ≡ c.latchs ++ false_latches (length c.nodes + 1)
      (live.active ∷ live.starts ++ live.seen)
  latchs_are =
      let one = false_latch (length c.nodes + 1) live.active in
      let copies = false_latches (length c.nodes + 2) live.starts in
      let seens = false_latches (length c.nodes + 2 + length c.latchs) live.seen in
      let second : length c.nodes + 1 + 1 ≡ length c.nodes + 2 = omega arith in
      let third : length c.nodes + 1 + length
      (live.active ∷ live.starts) ≡ length c.nodes + 2 + length c.latchs = omega
      (arith, live.starts_count) in
      live.latchs
      ∙ append_assoc (c.latchs ++ one ∷ []) copies seens
      ∙ append_assoc c.latchs (one ∷ []) (copies ++ seens)
      ∙ ap (λ m. c.latchs ++ (one ∷ (false_latches m live.starts ++ seens))) (sym second)
      ∙ ap (λ m. c.latchs ++ (false_latches (length c.nodes + 1)
      (live.active ∷ live.starts) ++ false_latches m live.seen)) (sym third)
      ∙ ap (λ ls. c.latchs ++ ls) (sym (false_latches-both (length c.nodes + 1)
      (live.active ∷ live.starts) live.seen))

  nexts_there : All (IsInRange new.nodes) nexts
  nexts_there = All-append (IsInRange new.nodes) (live.active ∷ live.starts) live.seen (All-cons
      (IsInRange new.nodes) live.active live.starts live.active_there live.starts_there)
      live.seen_there

  -- the old circuit with these inputs and latches
  abbrev with_lists : List ℕ → List AigLatch → Circuit
  with_lists inputs latchs = record c {
    nodes = new.nodes;
    inputs = inputs;
    latchs = latchs;
    properties = record no_properties {
      bads = live.bad ∷ [];
      constraints = c.properties.constraints;
    };
    names = with_row c.names (length c.nodes) (live_names c (length edges));
  }

  pub names_long : length (live_names c (length edges)) ≡ 2 + length c.latchs + length edges
  names_long = omega (
    arith,
    length-append (copy_names c) (numbered (codes "seen ") 0 (length edges)),
    copies-long c,
    numbered-long (codes "seen ") 0 (length edges),
  )

  pub live_extended : IsExtended 1 (live.active ∷ live.starts ++ live.seen) live.bad
      (live_names c (length edges)) c new
  live_extended = record {
    nodes = live.nodes;
    leaves = λ n low high. live.leaves n low (omega (arith, high, nexts_long));
    longer = omega (arith, live.longer, nexts_long);
    gates = λ n low high. live.gates n (omega (arith, low, nexts_long)) high;
    nexts_there = nexts_there;
    bad_there = live.bad_there;
    named = omega (arith, names_long, nexts_long);
    rest = live.rest ∙ ap (λ ins. with_lists ins new.latchs) live.inputs
        ∙ ap (with_lists (c.inputs ++ row_from (length c.nodes) 1)) latchs_are;
  }

module _ (edges : List AigEdge) (c new : Circuit) (is : IsCircuit c)
    (live : IsLiveOf edges c new) where
  abbrev texts : List (Option (List ℕ))
  texts = live_names c (length edges)

  pub IsCircuit-live : IsCircuit new
  IsCircuit-live = extended.IsCircuit-extended 1 (live.active ∷ live.starts ++ live.seen) live.bad
      texts c new is (live_extended edges c new live)

  pub IsClosed-live : IsClosed c → IsClosed new
  IsClosed-live = extended.IsClosed-extended 1 (live.active ∷ live.starts ++ live.seen) live.bad
      texts c new is (live_extended edges c new live)

  -- the added latches start with a constant
  pub constant_starts : All HasConstantInit c.latchs → All HasConstantInit new.latchs
  constant_starts = extended.constant_starts 1 (live.active ∷ live.starts ++ live.seen) live.bad
      texts c new is (live_extended edges c new live)
