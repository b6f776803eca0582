-- Names are nothing to the question whether a bad state is reached up to a step.
use Rattle.aig_base.proofs.Words.{◌≡◌, ℕ, zero, suc, ◌+◌, ◌-◌, ◌≤◌, Bool, List, Option, length, All, All-weaker, refl, sym, ap, ap₂, subst, ◌∙◌, IsTrue}
use Rattle.std.specs.FinMap.{FinMap}
use Rattle.std.specs.Ordering.{nat_cmp}
use Rattle.aig_answers.proofs.NamelessWindows.{with_names}
use Rattle.aig_bounded.specs.Exact.{Frame, IsExact, IsRead, Steps, frame_to, image_if, reached_in, states_at, steps_to, with_checks, with_image}
use Rattle.aig_bounded.specs.Exact.IsRead.{bad, constraint, operand, next}
use Rattle.aig_bounded.specs.Cut.{IsCutOf}
use Rattle.aig_bounded.specs.Question.{IsPlace, IsQuestion, Reaches}
use Rattle.aig_bounded.specs.Shared.{Netlist}
use Rattle.aig_bounded.specs.declared.place.Place.{Place}
use Rattle.aig_answers.specs.Asking.{AsksOfBads}
use Rattle.aig_answers.specs.declared.bounded_checks.clauses.BoundedClauses.{BoundedClauses}
use Rattle.aig_circuit.specs.Circuit.{Circuit}
use Rattle.aig_circuit.specs.Node.{kind_at}
use Rattle.aig_circuit.specs.View.{lists_circuit}
use Rattle.aig_circuit.specs.declared.edge.AigEdge.{AigEdge}

module _ (names : FinMap nat_cmp (List ℕ)) (c : Circuit) where
  abbrev other : Circuit
  other = with_names names c

  states_named : (images : List AigEdge) (t : ℕ) → states_at other images t ≡ states_at c images t
  states_named images zero = refl
  states_named images (suc t) = refl

  frame_named : (t : ℕ) (read : ℕ → Bool) (state : ℕ → Option AigEdge) (net : Netlist) (n : ℕ)
      → frame_to other t read state net n ≡ frame_to c t read state net n
  frame_named t read state net zero = refl
  frame_named t read state net (suc n) =
      ap (λ (before : Frame). with_image before.images
      (image_if (read n) (state n) before.images (record { step = t; leaf = n }) (kind_at c.nodes n)
      before.net)) (frame_named t read state net n)

  steps_named : (read : ℕ → ℕ → Bool) (k t : ℕ)
      → steps_to read other k t ≡ steps_to read c k t
  steps_named read k zero = refl
  steps_named read k (suc t) =
      let before = steps_named read k t in
      let new = steps_to read other k t in
      let frame =
      frame_named t (read (k - t)) (states_at other new.images t) new.checks.net (length c.nodes)
      ∙ ap (λ (state : ℕ → Option AigEdge). frame_to c t (read (k - t)) state new.checks.net
      (length c.nodes)) (states_named new.images t)
      ∙ ap (λ (s : Steps). frame_to c t (read (k - t)) (states_at c s.images t) s.checks.net
      (length c.nodes)) before in
      ap₂ (λ (s : Steps) (f : Frame). record {
        checks = with_checks c f.images (record s.checks { net = f.net });
        images = f.images;
      }) before frame

  read_forth : {d n : ℕ} → IsRead c d n → IsRead other d n
  read_forth (bad is) = bad is
  read_forth (constraint is) = constraint is
  read_forth (operand is of) = operand (read_forth is) of
  read_forth (next is of) = next (read_forth is) of

  read_back : {d n : ℕ} → IsRead other d n → IsRead c d n
  read_back (bad is) = bad is
  read_back (constraint is) = constraint is
  read_back (operand is of) = operand (read_back is) of
  read_back (next is of) = next (read_back is) of

  module _ (k : ℕ) where
    exact_named : (asks : Circuit) (places : List Place) → IsExact c k asks places
        → IsExact other k asks places
    exact_named asks places is = record {
      read = is.read;
      reads = λ d n l h. (
        λ t. read_forth ((is.reads d n l h).0 t),
        λ r. (is.reads d n l h).1 (read_back r),
      );
      cut =
          subst (λ (s : Steps). IsCutOf (reached_in s).net (reached_in s).edge asks places)
          (sym (steps_named is.read k (k + 1))) is.cut;
    }

    reaches_forth : (run : ℕ → ℕ → Bool) → Reaches c k run → Reaches other k run
    reaches_forth run r =
        record { step = r.step; within = r.within; constraints = r.constraints; bad = r.bad }

    reaches_back : (run : ℕ → ℕ → Bool) → Reaches other k run → Reaches c k run
    reaches_back run r =
        record { step = r.step; within = r.within; constraints = r.constraints; bad = r.bad }

    question_named : (asks : Circuit) (output : AigEdge) (places : List Place)
        → IsQuestion c k asks output places → IsQuestion other k asks output places
    question_named asks output places is = record {
      circuit = is.circuit;
      closed = is.closed;
      latchs = is.latchs;
      properties = is.properties;
      are_places =
          All-weaker (IsPlace c) (IsPlace other)
          (λ p at. record { leaf = at.leaf; start = at.start }) places is.are_places;
      steps = is.steps;
      distinct = is.distinct;
      value = λ run y of start given.
          let either = is.value run y of start given in (
            λ holds. reaches_forth run (either.0 holds),
            λ r. either.1 (reaches_back run r),
          );
      runs = is.runs;
      exact = exact_named asks places is.exact;
    }

    pub asks_named : (optimize : Bool) (made : BoundedClauses) → AsksOfBads c k optimize made
        → AsksOfBads other k optimize made
    asks_named optimize made is = record {
      output = is.output;
      asks =
          question_named (lists_circuit made.question.circuit) is.output
          made.question.places.items is.asks;
      named = is.named;
      has_clauses = is.has_clauses;
      fixes = is.fixes;
      satisfied = is.satisfied;
      exact = is.exact;
    }
