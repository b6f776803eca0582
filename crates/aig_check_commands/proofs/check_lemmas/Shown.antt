-- A witness that is taken answers the file, and one that is refused says why.
use Rattle.aig_check_commands.proofs.Words.{◌≡◌, ℕ, Bool, Option, Err, List, refl, ap, IsErrOf, Accepts, RefusesClaim, ShowsClaim, ReadError, IsReadAs, Accepted, Judges, Answers, IsOfFileAlone, Runs, error_of_claim, shown_line}
use Rattle.aig_witness.specs.declared.fair.file.ClaimError.{ClaimError}
use Rattle.aig_witness.specs.declared.fair.file.ClaimError.TheVariants as claims
use Rattle.aig_witness.specs.declared.fair.file.ShownProperty.{ShownProperty}
use Rattle.aig_witness.specs.Claims as showing
use Rattle.aig_reader.specs.declared.error.ReadError.TheVariants as read
use Rattle.aig_witness.specs.declared.file.ShowError.{ShowError}
use Rattle.aig_witness.specs.declared.file.ShowError.TheVariants as shows
use Rattle.aig_check_commands.specs.declared.command.FileCommand.TheVariants as commands
use Rattle.aig_check_commands.specs.declared.error.CheckError.TheVariants as errors
use Rattle.aig_check_commands.proofs.check_lemmas.Outcomes.{err_of, refused}

-- what was shown answers the file
pub shown_answers : (limit : ℕ) (old new given : Option (List ℕ)) (shown : ShownProperty)
    → IsReadAs (λ bytes. Accepts bytes limit) (ShowsClaim given) old new shown
    → IsReadAs (λ bytes. Accepts bytes limit) (Answers commands.Run given) old new
    (shown_line shown)
shown_answers limit old new given shown read = record {
  file = read.file;
  bytes = read.bytes;
  holds = read.holds;
  means = (shown, read.means, refl);
  taken = read.taken;
}

-- an error that is of the file alone leaves what is given beside it unread
file_alone : (e : ShowError) (P : Type 0) → ((x : ReadError) → e ≡ shows.File x → P)
    → IsOfFileAlone (errors.Show e) → P
file_alone (shows.File x) P so alone = so x refl
file_alone (shows.Witness x) P so alone = absurd alone
file_alone shows.NoWitness P so alone = absurd alone
file_alone (shows.Check x) P so alone = absurd alone

-- an error of a file in a result is one of a witness that is refused
of_show : (e : ShowError) (x : ReadError) → e ≡ shows.File x
    → IsErrOf {T = ShownProperty} (Err (claims.Show e)) (claims.Show (shows.File x))
of_show e x is = err_of (claims.Show e) (claims.Show (shows.File x)) (ap claims.Show is)

module _ {R P W : Type 0} {left : R → Option (List ℕ)} {read_failed : R → Bool} {given : P → Option
    (List ℕ)} {given_failed : P → Bool} {held : W → Option (List ℕ)} {write_failed : W → Bool}
    {limit : ℕ} {r rest : R} {p used : P} {w made : W} where
  -- the file or its witness is refused
  pub claim_refused : (e : ClaimError)
      → Judges (λ f. Accepted) limit (left r) (left rest) (read_failed rest) (showing.verdict_of e)
      → (IsErrOf {T = ShownProperty} (Err e) (claims.Show (shows.File read.Open)) → ⊥)
      → ((x : ReadError) → IsErrOf {T = ShownProperty} (Err e) (claims.Show (shows.File x)) → used ≡
      p)
      → made ≡ w → RefusesClaim limit (left r) (left rest) (given p) (given_failed used) e
      → Runs left read_failed given given_failed held write_failed commands.Run limit r p w
      (Err (error_of_claim e)) rest used made
  claim_refused (claims.Show e) said never unread same tells =
      refused (errors.Show e) said (λ is. never (of_show e read.Open is)) same
      (file_alone e (used ≡ p) (λ x is. unread x (of_show e x is))) tells
  claim_refused (claims.Lasso e) said never unread same tells =
      refused (errors.Lasso e) said tt same (λ alone. absurd alone) tells
