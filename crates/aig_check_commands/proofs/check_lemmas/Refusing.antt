-- What is asked is refused again, of which one input is counted.
use Rattle.aig_check_commands.proofs.Words.{◌≡◌, ◌<◌, ℕ, zero, suc, Bool, List, [], ◌∷◌, Option, Some, Ok, Err, ap, arith, get_or, length, map, map-map, refl, sym, ◌∙◌, Result, slice_get, insert, remove, Discarded, OpenError, Asked, CheckError, RanOn, IsRefusedIn, Stream, bytes_of, has_failed, keeps_nothing, never_fails, AreOpened}
use Rattle.std.specs.Prelude.{IfOk}
use Rattle.aig_command_line.specs.declared.tally.Measure.{Measure}
use Rattle.aig_command_line.specs.declared.tally.Place.{Place}
use Rattle.aig_command_line.specs.Came.{IsPlaceIn}
use Rattle.aig_check_commands.proofs.check_lemmas.Viewed.{on_seen}

-- one of a list was taken out, and what is seen as it is put back among the others
module _ {X Y Z : Type 0} (plain : X → Y) (left : Y → Z) (of : X → Z)
    (seen : (x : X) → left (plain x) ≡ of x) where
  all_seen : (xs : List X) → map left (map plain xs) ≡ map of xs
  all_seen [] = refl
  all_seen (x ∷ xs) =
      ap (λ z. z ∷ map left (map plain xs)) (seen x) ∙ ap (λ zs. of x ∷ zs) (all_seen xs)

  pub put_back : (xs : List X) (i : ℕ) (x : X) (y : Y) → i < length xs → x ≡ get_or xs i x
      → left y ≡ of x → map left (insert (map plain (remove xs i)) i y) ≡ map of xs
  put_back [] i x y low at same = absurd (omega (arith, low))
  put_back (z ∷ xs) zero x y low at same =
      ap (λ h. h ∷ map left (map plain xs)) (same ∙ ap of at) ∙ ap (λ zs. of z ∷ zs) (all_seen xs)
  put_back (z ∷ xs) (suc i) x y low at same =
      ap (λ h. h ∷ map left (insert (map plain (remove xs i)) i y)) (seen z)
      ∙ ap (λ zs. of z ∷ zs) (put_back xs i x y (omega (arith, low)) at same)

-- files that are opened again are opened
pub opened_again : {F : Type 0} (opens : List ℕ → Result F OpenError → Type 0)
    (paths : List (List ℕ)) (files : List F)
    → AreOpened (λ path opened. IfOk opened (λ file. opens path (Ok file))) paths files
    → AreOpened opens paths files
opened_again opens [] [] are = tt
opened_again opens (path ∷ paths) (file ∷ files) are =
    (are.0, opened_again opens paths files are.1)
opened_again opens [] (file ∷ files) are = absurd are
opened_again opens (path ∷ paths) [] are = absurd are

-- what was asked again was refused so, and the place is that of the last byte of the counted input
pub refused_again : {S : Type 0} (left : S → Option (List ℕ)) (failed : S → Bool) (limit number : ℕ)
    (asked : Asked) (files others : List S) (known : List (Option (List ℕ)))
    (told : Option (List ℕ)) (e : CheckError) (measure : Measure) (place : Place)
    (before after : Discarded) → map left files ≡ known → slice_get known number ≡ Some told
    → IsPlaceIn told measure place
    → RanOn left failed keeps_nothing never_fails limit asked files before (Err e) others after
    → IsRefusedIn limit asked known number e measure place
refused_again {S} left failed limit number asked files others known told e measure place before
    after are which at ran = record {
      told = told;
      which = which;
      at = at;
      files = map of_input files;
      are = sym are ∙ sym (map-map bytes_of of_input files);
      others = map of_input others;
      before = before;
      after = after;
      refused = on_seen of_input bytes_of has_failed keeps_nothing never_fails limit asked before
          after (Err e) files others ran;
    }
  where
    of_input : S → Stream
    of_input x = (left x, failed x)
