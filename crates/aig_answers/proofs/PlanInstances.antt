-- The plans of commands are enough: `safe .. to`, `safe .. each`, and a certificate's.
use Rattle.aig_answers.proofs.Words.{◌≡◌, ℕ, ◌+◌, ◌++◌, Bool, List, [], ◌∷◌, Some, length, inl, inr, refl, ap, subst, ◌∙◌, arith, range_with_len, get_or, get_or-append_seam, get_or_append_left, length-append, length-map, slice_get-get_or, Window, Plain, Covers, asked_with, plan_certified, plan_each, plan_to, step_questions, Question}
use Rattle.std.proofs.lemmas.List.FromFn.{get_or-map-range_with_len, length-range_with_len}
use Rattle.aig_answers.specs.declared.plans.asking.Ask.TheVariants as asks

module _ (k : ℕ) (form : Window) (base step : Bool) where
  pub to_covers : Covers (plan_to k form base step)
  to_covers = record {
    last = k;
    form = form;
    window = (1, asked_with step (asks.Window k form), refl, refl);
    steps = λ n low. inr (k, low, (0, asked_with base (asks.UpTo k), refl, refl));
  }

  abbrev firsts : List Question
  firsts = step_questions (k + 1) base

  abbrev window : Question
  window = asked_with step (asks.Window k form)

  count : length firsts ≡ k + 1
  count = length-map (range_with_len 0 (k + 1)) (λ n. asked_with base (asks.Step n))
      ∙ length-range_with_len 0 (k + 1)

  all : length (firsts ++ window ∷ []) ≡ length firsts + 1
  all = length-append firsts (window ∷ [])

  pub each_covers : Covers (plan_each k form base step)
  each_covers = record {
    last = k;
    form = form;
    window = (
      k + 1,
      window,
      slice_get-get_or (firsts ++ window ∷ []) (k + 1) window (omega (arith, count, all))
          ∙ ap Some (subst (λ n. get_or (firsts ++ window ∷ []) n window ≡ window) count
          (get_or-append_seam firsts window [] window)),
      refl,
    );
    steps = λ n low. inl (
      n,
      asked_with base (asks.Step n),
      slice_get-get_or (firsts ++ window ∷ []) n window (omega (arith, low, count, all))
          ∙ ap Some (get_or_append_left firsts (window ∷ []) window n (omega (arith, low, count))
          ∙ get_or-map-range_with_len (λ m. asked_with base (asks.Step m)) 0 (k + 1) n n window
          (omega (arith, low)) (omega arith)),
      refl,
    );
  }

pub certified_covers : (optimize : Bool) → Covers (plan_certified optimize)
certified_covers optimize = record {
  last = 0;
  form = Plain;
  window = (1, asked_with optimize (asks.Window 0 Plain), refl, refl);
  steps = λ n low.
      let none : 0 ≡ n = omega (arith, low) in
      inl (0, asked_with optimize (asks.Step 0), refl, ap (λ m. asks.Step m) none);
}
