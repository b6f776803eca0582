-- Each file passes no tests.
use Rattle.aig_base.proofs.Words.{◌≡◌, ℕ, true, List, [], ◌∷◌, ◌++◌, Some, refl, AllByRecursion}
use Rattle.std.specs.Prelude.{IsTrue}
use Rattle.aig_format.proofs.Words.{File, defined, Spells, AllPass}
use Rattle.aig_format.proofs.Entries.{rec_all, rec_all_sets}
use Rattle.aig_format.specs.Parse.{no_tests, parse_file}
use Rattle.aig_format.proofs.EntryFacts.{AllAfter, Passes}
use Rattle.aig_format.proofs.Files.{IsTested, file_complete}

after_none : {A : Type 0} (xs before : List A) → AllAfter (Passes (λ _ _. true)) before xs
after_none [] before = tt
after_none (x ∷ xs) before = (refl, after_none xs (before ++ x ∷ []))

all_pass_none : {A : Type 0} (xs : List A) → AllPass (λ _. true) xs
all_pass_none [] = tt
all_pass_none (x ∷ xs) = (refl, all_pass_none xs)

sets_pass_none : (sets : List (List ℕ)) → AllByRecursion (AllPass (λ _. true)) sets
sets_pass_none [] = tt
sets_pass_none (set ∷ sets) = (all_pass_none set, sets_pass_none sets)

passed_none : (f : File) (bytes : List ℕ) → Spells f bytes → IsTested no_tests bytes f
passed_none f bytes h =
    let literals = λ (es : List ℕ). (rec_all (λ _. IsTrue true) es).0 (all_pass_none es) in
    let p = f.properties in (
      h,
      record {
        header = refl;
        lines = record {
          placed = h.placed;
          defined = after_none (defined f) [];
          latches = all_pass_none f.latches;
          properties = record { outputs = literals p.outputs; bads = literals p.bads; constraints = literals p.constraints; justice = (rec_all_sets (λ _. IsTrue true) p.justice).0 (sets_pass_none p.justice); fairness = literals p.fairness };
          gates = all_pass_none f.gates;
        };
        sections = refl;
        names = after_none f.names [];
      },
    )

pub any_complete : (f : File) (bytes : List ℕ) → Spells f bytes → parse_file no_tests bytes ≡ Some f
any_complete f bytes h = file_complete no_tests bytes f (passed_none f bytes h)
