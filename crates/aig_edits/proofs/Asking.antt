-- The question of a file as a file, and what is told of it.
use Rattle.std.proofs.Common.{◌≡◌, ◌≢◌, ◌↔◌, ℕ, ◌<◌, ◌≤◌, ◌^◌, ◌==◌, Bool, Option, None, List, [], ◌∷◌, length, map, get_or, IsTrue, Err, refl, sym, ap, subst, ◌∙◌, arith}
use Rattle.aig_base.proofs.Words.{All, IfSome, IsSomeAnd, IsUtf8, Contains, get, get-empty, list_any, eqb-true, Decides-eqb, All-from_recursion, All-nil, Any-from_list_any, IsDistinct-from_AllPairs, length-le_from_distinct_below}
use Rattle.std.specs.Ordering.{nat_cmp}
use Rattle.aig_bounded.specs.Question.{IsQuestion}
use Rattle.aig_bounded.specs.declared.place.Place.{Place}
use Rattle.aig_bounded.proofs.Single.{names_none}
use Rattle.aig_circuit.specs.declared.edge.AigEdge.{AigEdge}
use Rattle.aig_circuit.specs.declared.node.AigLatch.{AigLatch}
use Rattle.aig_circuit.specs.declared.node.AigNodeType.TheVariants.{Leaf}
use Rattle.aig_circuit.proofs.Words.{Circuit, IsCircuit, HasConstantInit, Properties, edge_value}
use Rattle.aig_circuit.proofs.Trees.{kind_at-within}
use Rattle.aig_edit_laws.specs.Shown.{HasCircuitOutput, HasOutput, HasWitness}
use Rattle.aig_edit_laws.proofs.Compressed.{or_false}
use Rattle.aig_format.proofs.Words.{IsReadAgain, circuit_of, edge_of, file_of, File, AreTexts, FitsFormat, IsWritable, list_lengths}
use Rattle.aig_format.specs.declared.FileKind.TheVariants.{Text}
use Rattle.aig_reader.specs.Verdicts.{Accepted, verdict_by}
use Rattle.aig_runs.specs.CircuitQueries.{HasCircuitWitness}
use Rattle.aig_edits.specs.declared.edit_error.EditError.{EditError}
use Rattle.aig_edits.specs.declared.edit_error.EditError.TheVariants as errors
use Rattle.aig_edits.specs.Edits.{IsEditOwn, edit_verdict}
use Rattle.aig_edits.proofs.EditedFiles.{none_back}
use Rattle.aig_edits.specs.Questions.{IsQuestionOf, PrintsQuestion}
use Rattle.aig_edits.specs.QuestionParts.{AsksOf, IsPlainQuestion, unnamed}

-- ---- without names

-- a question has no names
pub unnamed_question : (c m : Circuit) (k : ℕ) (output : AigEdge) (places : List Place) → IsQuestion
    c k m output places
    → IsQuestion c k (unnamed m) output places
unnamed_question c m k output places is =
    subst (λ d. IsQuestion c k d output places) (ap (λ names. record m { names = names })
    (names_none c k m places is.exact)) is

-- ---- its text

-- inputs are no more than nodes
few_inputs : (c : Circuit) → IsCircuit c → length c.inputs ≤ length c.nodes
few_inputs c is =
    length-le_from_distinct_below c.inputs (length c.nodes) (IsDistinct-from_AllPairs Decides-eqb
    c.inputs is.inputs_distinct)
    (λ q has.
    let any = Any-from_list_any (λ n. q == n) c.inputs has in
    let leaf = is.inputs any.0 any.1 any.2 in
    let same : get_or c.inputs any.0 any.1 ≡ q = any.3 ∙ sym (eqb-true q any.1 any.4) in
    subst (λ n. n < length c.nodes) same (kind_at-within c.nodes (get_or c.inputs any.0 any.1) Leaf
    leaf))

module _ (k limit : ℕ) (low : limit ≤ 2 ^ 31) (c m : Circuit) (is : IsPlainQuestion k limit c m)
  where
    fits : FitsFormat m
    fits =
        let few = few_inputs m is.asks.circuit in
        let small = is.small in
        let latchs = ap length is.asks.latchs in
        let outputs = ap (λ (p : Properties AigEdge). length p.outputs) is.asks.properties in
        let bads = ap (λ (p : Properties AigEdge). length p.bads) is.asks.properties in
        let constraints = ap (λ (p : Properties AigEdge). length p.constraints) is.asks.properties in
        let justice = ap (λ (p : Properties AigEdge). length p.justice) is.asks.properties in
        let fairness = ap (λ (p : Properties AigEdge). length p.fairness) is.asks.properties in
        record {
          nodes = omega arith;
          lists = All-from_recursion (λ n. n < 2 ^ 32) (list_lengths m) (
            omega arith,
            (
              omega arith,
              (
                omega arith,
                (
                  omega arith,
                  (
                    omega arith,
                    (
                      omega arith,
                      (omega arith, tt),
                    ),
                  ),
                ),
              ),
            ),
          );
          sets = subst (λ (p : Properties AigEdge). All (λ set. length set < 2 ^ 32) p.justice) (sym
              is.asks.properties) (All-nil _);
        }

    writable : IsWritable m
    writable = record {
      closed = is.asks.closed;
      start = subst (All HasConstantInit) (sym is.asks.latchs) (All-nil HasConstantInit);
      names = λ i d h feed. subst (λ o. IsSomeAnd o (λ name. Contains name 10)) (no_name _) feed;
      small = fits;
    }
      where
        no_name : (n : ℕ) → get m.names n ≡ None
        no_name n = ap (λ names. get names n) is.names ∙ get-empty nat_cmp n

    texts : AreTexts m.names
    texts n = subst (λ o. IfSome o IsUtf8) (sym (ap (λ names. get names n) is.names ∙ get-empty
        nat_cmp n)) tt

-- ---- what it asks

-- an output of a circuit with this one output, and neither latches nor constraints
module _ (m : Circuit) (e : AigEdge) (latchs : m.latchs ≡ []) (outputs : m.properties.outputs ≡ e ∷
    []) (constraints : m.properties.constraints ≡ []) where
  abbrev IsOutputTrue : List AigEdge → (ℕ → Bool) → Type 0
  IsOutputTrue es y = IsTrue (list_any (edge_value m.nodes y) es)

  output_can_be_true : HasCircuitOutput m 0 ↔ ((y : ℕ → Bool) × IsTrue (edge_value m.nodes y e))
  output_can_be_true = (
    λ s. (
      s.0 0,
      sym (or_false (edge_value m.nodes (s.0 0) e)) ∙ subst (λ es. IsOutputTrue es (s.0
          0)) outputs s.2,
    ),
    λ s. (
      λ t. s.0,
      record {
        from_start = record {
          run = λ t h. absurd (omega arith);
          start = subst (All (λ (l : AigLatch). IfSome l.init (λ i. edge_value m.nodes s.0 i ≡ s.0
              l.input))) (sym latchs) (All-nil _);
        };
        allowed = λ t h. subst (All (λ i. IsTrue (edge_value m.nodes s.0 i))) (sym constraints)
            (All-nil _);
      },
      subst (λ es. IsOutputTrue es s.0) (sym outputs) (or_false (edge_value m.nodes s.0 e) ∙ s.1),
    ),
  )

-- what is known of circuits, of files and of questions
pub record Known (k limit : ℕ) (f : File) (m : Circuit) : Type 0 where
  pub again : IsCircuit m → IsWritable m → AreTexts m.names → IsReadAgain m (file_of Text m)
  pub outputs : IsReadAgain m (file_of Text m) → HasCircuitOutput m 0 ↔ HasOutput (file_of Text m) 0
  pub asks : (output : AigEdge) (places : List Place) → IsQuestion (circuit_of f) k m output places
      → ((y : ℕ → Bool) × IsTrue (edge_value m.nodes y output)) ↔ ((t : ℕ) × (t ≤ k) ×
      HasCircuitWitness (circuit_of f) t)
  pub witnesses : (t : ℕ) → HasCircuitWitness (circuit_of f) t ↔ HasWitness f t

none_forth : (f : File) → (circuit_of f).properties.bads ≢ [] → f.properties.bads ≢ []
none_forth f some none = some (ap (map (edge_of f)) none)

pub question_shows : (k limit : ℕ) (f : File) (m : Circuit) → limit ≤ 2 ^ 31 → Known k limit f m
    → IsPlainQuestion k limit (circuit_of f) m → IsQuestionOf k limit f m
question_shows k limit f m low known is =
    let again = known.again is.asks.circuit (writable k limit low (circuit_of f) m is) (texts k
    limit low (circuit_of f) m is) in
    let shown = known.outputs again in
    let open_output =
    output_can_be_true m is.output is.asks.latchs (ap (λ (p : Properties AigEdge). p.outputs)
    is.asks.properties) (ap (λ (p : Properties AigEdge). p.constraints) is.asks.properties) in
    let asked = known.asks is.output is.places is.asks in
    record {
      bads = none_forth f is.bads;
      output = is.output;
      places = is.places;
      asks = is.asks;
      small = is.small;
      again = again;
      shows = (
        λ s. let w = asked.0 (open_output.0 (shown.1 s)) in (w.0, w.1, (known.witnesses w.0).0 w.2),
        λ w. shown.0 (open_output.1 (asked.1 (w.0, w.1, (known.witnesses w.0).1 w.2))),
      );
    }

-- ---- what is told

module _ (k limit : ℕ) where
  pub asks_taken : (c : Circuit) (e : EditError) → AsksOf k limit c (Err e) → verdict_by {T = Unit
      {0}} edit_verdict (Err e) ≡ Accepted
  asks_taken c (errors.Read e) told = absurd told
  asks_taken c e told = refl

  pub asks_own : (c : Circuit) (e : EditError) → AsksOf k limit c (Err e) → IsEditOwn e
  asks_own c (errors.Read e) told = absurd told
  asks_own c e told = tt

  pub refused_question : {W : Type 0} (held : W → Option (List ℕ)) (failed : W → Bool) (w : W) (f :
      File) (c : Circuit) (e : EditError) → c ≡ circuit_of f
      → AsksOf k limit c (Err e) → PrintsQuestion held failed k limit w w f (Err e)
  refused_question held failed w f c e is told = by_error e (subst (λ d. AsksOf k limit d (Err e))
      is told)
    where
      by_error : (e : EditError) → AsksOf k limit (circuit_of f) (Err e) → PrintsQuestion held
          failed k limit w w f (Err e)
      by_error errors.NoBads told = none_back f f.properties.bads told
      by_error errors.QuestionTooLarge told = (none_forth f told.0, told.1)
      by_error errors.Memory told = none_forth f told
      by_error errors.Write told = absurd told
      by_error e told = absurd told
