-- Names are nothing to the clauses of a window.
use Rattle.std.proofs.Common.{◌≡◌, ℕ, zero, suc, ◌+◌, ◌≤◌, Bool, List, refl, sym, ap, subst, ◌∙◌, arith}
use Rattle.aig_answers.proofs.Words.{FinMap, nat_cmp, replicate, Lit, Circuit, IsCircuit, IsCircuit-of_file, AsksWindow, count_free, watched, window_clauses, Window, Plain, Distinct, Reads, UnrollsTo, IsCircuitOf}
use Rattle.std.specs.Prelude.{◌++◌, [], length}
use Rattle.aig_format.specs.Circuit.{circuit_of}
use Rattle.aig_format.specs.File.{File}
use Rattle.aig_format.specs.Fits.{Fits}
use Rattle.aig_unroll.specs.Frame.{with_step, with_steps}

module _ (names : FinMap nat_cmp (List ℕ)) where
  -- a circuit with these names
  abbrev pub with_names : Circuit → Circuit
  with_names u = record u { names = names }

  module _ (c : Circuit) where
    pub steps_named : (k : ℕ) → with_steps (with_names c) k ≡ with_names (with_steps c k)
    steps_named zero = refl
    steps_named (suc k) = ap (with_step (with_names c)) (steps_named k)

    module _ (k : ℕ) (u : Circuit) where
      forth : (y : ℕ → Bool) (x : ℕ → ℕ → Bool) → Reads c u k y x
          → Reads (with_names c) (with_names u) k y x
      forth y x r = record { state = r.state; others = r.others }

      back : (y : ℕ → Bool) (x : ℕ → ℕ → Bool) → Reads (with_names c) (with_names u) k y x
          → Reads c u k y x
      back y x r = record { state = r.state; others = r.others }

      unrolls_named : UnrollsTo c k u → UnrollsTo (with_names c) k (with_names u)
      unrolls_named is = record {
        keeps = record {
          nodes = is.keeps.nodes;
          inputs = is.keeps.inputs;
          names = refl;
          leaves = is.keeps.leaves;
          starts = is.keeps.starts;
        };
        inputs = is.inputs;
        run_of = λ y. let r = is.run_of y in (r.0, r.1, forth y r.0 r.2);
        values_of = λ x run. let r = is.values_of x run in (r.0, forth r.0 x r.1);
        one_run = λ y x z run other r s. is.one_run y x z run other (back y x r) (back y z s);
        one_value = λ x y z r s. is.one_value x y z (back y x r) (back z x s);
        same = λ y x run r.
            let v = is.same y x run (back y x r) in
            record { properties = v.properties; state = v.state };
        starts = λ y x run r. is.starts y x run (back y x r);
        size = is.size;
        exact = ap with_names is.exact ∙ sym (steps_named k);
      }

  -- what a form unrolls, how many free variables it has, and its clauses
  watched_named : (form : Window) (c : Circuit) (k : ℕ) (u : Circuit)
      → UnrollsTo (watched form c) k u → UnrollsTo (watched form (with_names c)) k (with_names u)
  watched_named Plain c k u is = unrolls_named c k u is
  watched_named Distinct c k u is = unrolls_named (watched Distinct c) k u is

  free_named : (form : Window) (c : Circuit) (k : ℕ)
      → count_free form c k ≡ count_free form (with_names c) k
  free_named Plain c k = refl
  free_named Distinct c k = refl

  clauses_named : (form : Window) (n : ℕ) (c : Circuit) (k : ℕ) (u : Circuit)
      → window_clauses form n c k u ≡ window_clauses form n (with_names c) k (with_names u)
  clauses_named Plain n c k u = refl
  clauses_named Distinct n c k u = refl

  pub window_named : (form : Window) (c : Circuit) (k : ℕ) (optimize : Bool)
      (lists : List (List (List Lit))) (extra : List (List Lit)) → IsCircuit (with_names c)
      → AsksWindow form c k optimize lists extra
      → AsksWindow form (with_names c) k optimize lists extra
  window_named form c k optimize lists extra circuit is =
      let u = is.unrolled in
      let longer = (watched_named form c (k + 1) u is.steps).keeps.nodes.longer in
      let count = longer_of form longer in
      record {
        unrolled = with_names u;
        clauses = is.clauses;
        is_circuit = record {
          nodes = is.is_circuit.nodes;
          inputs = is.is_circuit.inputs;
          inputs_distinct = is.is_circuit.inputs_distinct;
          latchs = is.is_circuit.latchs;
          latchs_distinct = is.is_circuit.latchs_distinct;
          apart = is.is_circuit.apart;
          properties = is.is_circuit.properties;
          named = λ n h. let low = circuit.named n h in omega (arith, low, count);
        };
        steps = watched_named form c (k + 1) u is.steps;
        has_clauses = record {
          count = is.has_clauses.count;
          zero = is.has_clauses.zero;
          needed = is.has_clauses.needed;
          none = is.has_clauses.none;
        };
        fixes = record {
          properties = is.fixes.properties;
          next = is.fixes.next;
          initial = is.fixes.initial;
        };
        satisfied = is.satisfied;
        relations = is.relations;
        exact = is.exact ∙ ap (λ n. is.clauses ++ replicate n []) (free_named form c k);
        further_exact = is.further_exact ∙ clauses_named form (length is.clauses) c k u;
      }
    where
      longer_of : {m : ℕ} (form : Window)
          → length (watched form (with_names c)).nodes ≤ m → length c.nodes ≤ m
      longer_of Plain h = h
      longer_of Distinct h = h

-- the window of a circuit is that of a file whose circuit it is
pub asks_of_file : (form : Window) (f : File) (bound : ℕ) (c : Circuit) (k : ℕ)
    (optimize : Bool) (lists : List (List (List Lit))) (extra : List (List Lit))
    → Fits f bound → IsCircuitOf f c → AsksWindow form c k optimize lists extra
    → AsksWindow form (circuit_of f) k optimize lists extra
asks_of_file form f bound c k optimize lists extra fits is asks =
    let names = (circuit_of f).names in
    let named : with_names names c ≡ circuit_of f = ap (with_names names) is in
    let circuit = subst IsCircuit (sym named) (IsCircuit-of_file f bound fits) in
    subst (λ (d : Circuit). AsksWindow form d k optimize lists extra) named
    (window_named names form c k optimize lists extra circuit asks)
