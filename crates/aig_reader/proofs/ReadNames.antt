-- What reading the names gave.
use Rattle.std.proofs.Common.{◌≡◌, ℕ, Bool, List, [], Option, Some, None, Result, Ok, Err, IfSome, refl, subst}
use Rattle.aig_format.specs.File.{HeaderNumbers}
use Rattle.aig_lexer.specs.Takes.{Feed, Ends}
use Rattle.aig_lexer.specs.declared.error.LineError.{LineError}
use Rattle.aig_lexer.specs.declared.error.LineError.TheVariants as line
use Rattle.aig_lexer.specs.Faults.{Tells}
use Rattle.aig_symbols.specs.Names.{EndsWith, name_cause, tail_of}
use Rattle.aig_reader.specs.declared.error.ReadError.{ReadError}
use Rattle.aig_reader.specs.Faults.{name_error_of, read_cause, result_by}
use Rattle.aig_reader.proofs.Accepting.{IsFollowing}
use Rattle.aig_reader.proofs.Body.{ok_in, err_in}
use Rattle.aig_format.specs.Parse.{parse_tail}

in_names : (k : LineError) (P : Type 0) (failed : Bool) → Tells (name_cause k) P failed
    → Tells (read_cause (name_error_of k)) P failed
in_names line.Memory P failed h = tt
in_names line.Stream P failed h = h
in_names line.Syntax P failed h = h
in_names line.Literal P failed h = absurd h

is_names_fault : (k : LineError) → IsFollowing (name_error_of k)
is_names_fault line.Memory = tt
is_names_fault line.Stream = tt
is_names_fault line.Syntax = tt
is_names_fault line.Literal = tt

module _ {X Y : Type 0} (IsOf : X → Y → Type 0) (b a : Feed) (read : List ℕ → Option Y) (lines : Result X LineError) (result : Result X ReadError) (is : result ≡ result_by name_error_of lines) (h : EndsWith name_cause IsOf b a lines read) where
  -- the names, the bytes that were read so, and what they are
  pub names_in : (x : X) → result ≡ Ok x
      → (y : Y) × IsOf x y × (taken : List ℕ) × (read taken ≡ Some y) × Ends b a taken
  names_in x was = subst (λ (r : Result X LineError). EndsWith name_cause IsOf b a r read) (ok_in name_error_of lines result x is was) h

  pub no_names_in : (e : ReadError) → result ≡ Err e
      → Tells (read_cause e) (IfSome b.coming (λ bytes. read bytes ≡ None)) a.failed
  no_names_in e was =
      let k = err_in name_error_of lines result e is was in
      let P = IfSome b.coming (λ bytes. read bytes ≡ None) in
      subst (λ (d : ReadError). Tells (read_cause d) P a.failed) k.2 (in_names k.0 P a.failed (subst (λ (r : Result X LineError). EndsWith name_cause IsOf b a r read) k.1 h))

pub names_fault : {X : Type 0} (lines : Result X LineError) (result : Result X ReadError)
    (e : ReadError) → result ≡ result_by name_error_of lines → result ≡ Err e → IsFollowing e
names_fault lines result e is was =
    let k = err_in name_error_of lines result e is was in
    subst IsFollowing k.2 (is_names_fault k.0)

pub no_names_left : (ns : HeaderNumbers) → tail_of ns [] ≡ Some []
unfolding parse_tail
no_names_left ns = refl
