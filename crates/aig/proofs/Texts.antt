-- The names of a circuit are text.
use Rattle.std.proofs.Common.{◌≡◌, ℕ, Option, Some, None, List, String, Global, nat_eq, refl, subst, ◌∙◌}
use Rattle.aig_base.proofs.Words.{nat_cmp_total, IfSome, IsUtf8, option_map, string_bytes, FinMap, entries, get, get-entries, get-from_entries, lookup}
use Rattle.std.proofs.lemmas.Map.Lookups.{map_keys}
use Rattle.std.specs.Ordering.{nat_cmp}
use Rattle.std.specs.FinMap.Entries.{find}
use Rattle.std.proofs.lemmas.Str.{IsUtf8-string_bytes}
use Rattle.aig_circuit.proofs.Words.{names_of, renumbered_names}
use Rattle.aig_format.specs.Writable.{AreTexts}
use Rattle.aig_circuit.proofs.Names.{get_names}
use Rattle.aig_renumber.proofs.Names.{found_back}

pub AreTexts-names : (es : List (ℕ × String Global)) → AreTexts (names_of es)
AreTexts-names es n = rw (get_names es n) (is_text (lookup (nat_eq n) es))
  where
    is_text : (o : Option (String Global)) → IfSome (option_map string_bytes o) IsUtf8
    is_text (Some s) = IsUtf8-string_bytes s
    is_text None = tt

-- names that are texts are texts under new numbers
pub AreTexts-renumbered : (number : ℕ → ℕ) (names : FinMap nat_cmp (List ℕ)) → AreTexts names → AreTexts (renumbered_names number names)
AreTexts-renumbered number names texts q = by_name (find nat_cmp q (map_keys number (entries names))) refl
  where
    by_name : (o : Option (List ℕ)) → find nat_cmp q (map_keys number (entries names)) ≡ o → IfSome (get (renumbered_names number names) q) IsUtf8
    by_name None is = rw (get-from_entries nat_cmp_total (map_keys number (entries names)) q, is) tt
    by_name (Some name) is =
        let old = found_back (λ _. Unit {0}) number (entries names) q name (λ k d h. tt) is in
        let text : IsUtf8 name = subst (λ (o : Option (List ℕ)). IfSome o IsUtf8) (get-entries names old.0 ∙ old.3) (texts old.0) in
        rw (get-from_entries nat_cmp_total (map_keys number (entries names)) q, is) text
