-- What is known of the names that were read.
use Rattle.std.proofs.Common.{◌≡◌, ◌≢◌, ℕ, Bool, true, false, cond, List, [], ◌∷◌, ◌++◌, length, AllPairs, Option, Some, None, IfSome, nat_cmp, sym, ap, subst, ◌∙◌}
use Rattle.aig_base.proofs.Words.{is_some, AllByRecursion, FinMap}
use Rattle.aig_format.proofs.Words.{NameLine, HeaderNumbers, is_kept, is_comment}
use Rattle.aig_lexer.specs.Takes.{Feed, Ends, Takes, Misses}
use Rattle.aig_symbols.specs.Names.{tail_of, kept_names, node_at}
use Rattle.aig_symbols.specs.NameSteps.{IsNoTail, parse_place, with_name}
use Rattle.aig_symbols.proofs.Places.{takes_within}
use Rattle.aig_symbols.proofs.NameLines.{name_line, is_taken, name_text_at, line_at, line_of_taken, line_without_name, line_with_name}
use Rattle.aig_symbols.proofs.Tails.{TailGoes, tail_begins, tail_goes, tail_wrong, tail_ends, wrong_start, wrong_line}
use Rattle.aig_symbols.proofs.KeptNames.{IsWithin, within_more, same_spot, taken_more, node_is_kept, kept_more}

-- these names were read, and are in the map and the places
pub record SoFar (ns : HeaderNumbers) (inputs leaves : List ℕ) (before now : Feed) (has : ℕ × ℕ → Bool) (kept : FinMap nat_cmp (List ℕ)) : Type 0 where
  pub names : List NameLine
  pub goes : TailGoes ns before names now
  pub all_within : AllByRecursion (IsWithin ns) names
  pub places : (q : ℕ × ℕ) → has q ≡ is_taken names q
  pub entries : kept ≡ kept_names inputs leaves names

-- the bytes that were to come are read as no names
abbrev pub IsRefused : HeaderNumbers → Feed → Type 0
IsRefused ns before = IfSome before.coming (λ bytes. tail_of ns bytes ≡ None)

module _ (ns : HeaderNumbers) (inputs leaves : List ℕ) (before now : Feed) (has : ℕ × ℕ → Bool) (kept : FinMap nat_cmp (List ℕ)) where
  pub so_far_none : ((q : ℕ × ℕ) → has q ≡ false) → kept ≡ kept_names inputs leaves []
      → SoFar ns inputs leaves now now has kept
  so_far_none h e = record { names = []; goes = tail_begins ns now; all_within = tt; places = h; entries = e }

  pub place_refused : SoFar ns inputs leaves before now has kept → IfSome now.coming (IsNoTail ns)
      → IsRefused ns before
  place_refused s h = tail_wrong ns s.names before now s.goes (wrong_start ns s.names now.coming h)

  pub names_end : (later : Feed) (s : SoFar ns inputs leaves before now has kept) → (taken : List ℕ) × (is_comment taken ≡ true) × Ends now later taken
      → (names : List NameLine) × (kept ≡ kept_names inputs leaves names) × (taken : List ℕ) × (tail_of ns taken ≡ Some names) × Ends before later taken
  names_end later s c = let t = tail_ends ns s.names before now later c.0 s.goes c.2 c.1 in (s.names, s.entries, t.0, t.1, t.2)

  module _ (mid : Feed) (place : ℕ × ℕ) (s : SoFar ns inputs leaves before now has kept) (k : Takes (parse_place ns) now mid place) where
    line_refused : Misses (line_at ns s.names) now → IsRefused ns before
    line_refused m = tail_wrong ns s.names before now s.goes (wrong_line ns s.names now mid place k m)

    pub repeated_refused : has place ≡ true → IsRefused ns before
    repeated_refused h = line_refused (line_of_taken ns s.names now mid place k (sym (s.places place) ∙ h))

    module _ (node : Option ℕ) (named : node ≡ node_at inputs leaves place.0 place.1) (free : has place ≡ false) where
      is_free : is_taken s.names place ≡ false
      is_free = sym (s.places place) ∙ free

      kept_letter : is_some node ≡ is_kept place.0
      kept_letter = ap (λ (o : Option ℕ). is_some o) named ∙ node_is_kept inputs leaves place.0 place.1

      pub name_refused : Misses (name_text_at (is_some node)) mid → IsRefused ns before
      name_refused m = line_refused (line_without_name ns s.names now mid place k is_free (subst (λ t. Misses (name_text_at t) mid) kept_letter m))

      module _ (all_inputs : length inputs ≡ ns.inputs) (all_leaves : length leaves ≡ ns.latches) (distinct : AllPairs (λ m n. m ≢ n) (inputs ++ leaves)) where
        pub name_read : (later : Feed) (name : List ℕ) (now_has : ℕ × ℕ → Bool) (now_kept : FinMap nat_cmp (List ℕ)) → Takes (name_text_at (is_some node)) mid later name
            → ((q : ℕ × ℕ) → now_has q ≡ cond (same_spot place q) true (has q)) → now_kept ≡ with_name node name kept → SoFar ns inputs leaves before later now_has now_kept
        name_read later name now_has now_kept t adds keeps =
            let within = takes_within ns now mid place k in
            record {
              names = s.names ++ name_line place name ∷ [];
              goes = tail_goes ns s.names before now later (name_line place name) s.goes (line_with_name ns s.names now mid place k is_free later name (subst (λ t. Takes (name_text_at t) mid later name) kept_letter t));
              all_within = within_more ns s.names (name_line place name) s.all_within within;
              places = λ q. adds q ∙ ap (cond (same_spot place q) true) (s.places q) ∙ taken_more s.names place q name;
              entries = keeps ∙ ap (with_name node name) s.entries ∙ ap (λ (o : Option ℕ). with_name o name (kept_names inputs leaves s.names)) named
                  ∙ kept_more ns inputs leaves all_inputs all_leaves distinct s.names place.0 place.1 name s.all_within within is_free;
            }
