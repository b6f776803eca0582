-- Files that are opened in order.
use Rattle.aig_check_commands.proofs.Words.{◌≡◌, ◌+◌, ◌<◌, ◌≤◌, ℕ, zero, suc, Global, List, String, [], ◌∷◌, ◌++◌, ◌∙◌, Ok, Err, ap, arith, get_or, length, length-append, map, map_more, refl, string_bytes, subst, sym, take, remove, Result, OpenError, Command, CheckError, paths_of, AreOpened, OnOpening, OpensAll, unopened}
use Rattle.aig_subjects.specs.declared.subject.Subject.TheVariants as subjects
use Rattle.aig_check_commands.specs.declared.command.Command.TheVariants as commands
use Rattle.aig_check_commands.specs.declared.error.CheckError.TheVariants as errors
use Rattle.aig_check_commands.specs.Fits.{AreUnlisted, LacksOne}

module _ {F : Type 0} (opens : List ℕ → Result F OpenError → Type 0) where
  leads_on : (Holds Also : F → Type 0) (Fails AlsoFails : CheckError → Type 0)
      → ((f : F) → Holds f → Also f) → ((e : CheckError) → Fails e → AlsoFails e)
      → (file : Result F OpenError) → OnOpening Holds Fails file → OnOpening Also AlsoFails file
  leads_on Holds Also Fails AlsoFails on off (Ok f) leads = on f leads
  leads_on Holds Also Fails AlsoFails on off (Err e) leads = off _ leads

  -- what holds of the files, or of the error, may be another thing that follows
  pub opens_on : (paths : List (List ℕ)) (Holds Also : List F → Type 0)
      (Fails AlsoFails : CheckError → Type 0)
      → ((fs : List F) → Holds fs → Also fs) → ((e : CheckError) → Fails e → AlsoFails e)
      → OpensAll opens paths Holds Fails → OpensAll opens paths Also AlsoFails
  opens_on [] Holds Also Fails AlsoFails on off o = on [] o
  opens_on (path ∷ paths) Holds Also Fails AlsoFails on off o = record {
    file = o.file;
    opened = o.opened;
    leads = leads_on _ _ Fails AlsoFails
        (λ f. opens_on paths (λ fs. Holds (f ∷ fs)) (λ fs. Also (f ∷ fs)) Fails AlsoFails
        (λ fs. on (f ∷ fs)) off) off o.file o.leads;
  }

  -- where all were
  pub opens_as : (paths : List (List ℕ)) (fs : List F) (Holds : List F → Type 0)
      (Fails : CheckError → Type 0) → AreOpened opens paths fs → Holds fs
      → OpensAll opens paths Holds Fails
  opens_as [] [] Holds Fails are holds = holds
  opens_as (path ∷ paths) (f ∷ fs) Holds Fails are holds = record {
    file = Ok f;
    opened = are.0;
    leads = opens_as paths fs (λ gs. Holds (f ∷ gs)) Fails are.1 holds;
  }
  opens_as [] (f ∷ fs) Holds Fails are holds = absurd are
  opens_as (path ∷ paths) [] Holds Fails are holds = absurd are

  -- those before one were opened, and that was not
  pub lacks_at : (words : List (String Global)) (i : ℕ) (word : String Global) (fs : List F)
      (o : OpenError) → i < length words → word ≡ get_or words i word
      → AreOpened opens (map string_bytes (take i words)) fs → opens (string_bytes word) (Err o)
      → LacksOne opens (map string_bytes words) (unopened o)
  lacks_at [] i word fs o low at are failed = absurd (omega (arith, low))
  lacks_at (first ∷ words) zero word fs o low at are failed = record {
    file = Err o;
    opened = subst (λ w. opens (string_bytes w) (Err o)) at failed;
    leads = refl;
  }
  lacks_at (first ∷ words) (suc i) word (f ∷ fs) o low at are failed = record {
    file = Ok f;
    opened = are.0;
    leads = lacks_at words i word fs o (omega (arith, low)) at are.1 failed;
  }
  lacks_at (first ∷ words) (suc i) word [] o low at are failed = absurd are

  -- they are as many
  pub opened_length : (paths : List (List ℕ)) (fs : List F) → AreOpened opens paths fs
      → length fs ≡ length paths
  opened_length [] [] are = refl
  opened_length (path ∷ paths) (f ∷ fs) are = omega (arith, opened_length paths fs are.1)
  opened_length [] (f ∷ fs) are = absurd are
  opened_length (path ∷ paths) [] are = absurd are

  -- those at more paths were opened behind them
  pub all_opened : (paths more : List (List ℕ)) (fs gs : List F) → AreOpened opens paths fs
      → AreOpened opens more gs → AreOpened opens (paths ++ more) (fs ++ gs)
  all_opened [] more [] gs are also = also
  all_opened (path ∷ paths) more (f ∷ fs) gs are also =
      (are.0, all_opened paths more fs gs are.1 also)
  all_opened [] more (f ∷ fs) gs are also = absurd are
  all_opened (path ∷ paths) more [] gs are also = absurd are

  -- one more was opened
  pub opened_more : (words : List (String Global)) (i : ℕ) (word : String Global) (fs : List F)
      (f : F) → i < length words → word ≡ get_or words i word
      → AreOpened opens (map string_bytes (take i words)) fs → opens (string_bytes word) (Ok f)
      → AreOpened opens (map string_bytes (take (i + 1) words)) (fs ++ f ∷ [])
  opened_more words i word fs f low at are is =
      let front = map string_bytes (take i words) in
      let more = ap (λ (w : String Global). front ++ string_bytes w ∷ []) at
      ∙ sym (map_more string_bytes words i word low) in
      subst (λ ps. AreOpened opens ps (fs ++ f ∷ [])) more
      (all_opened front (string_bytes word ∷ []) fs (f ∷ []) are (is, tt))

  -- one is not opened, before others or behind them
  pub lacks_before : (paths more : List (List ℕ)) (e : CheckError) → LacksOne opens paths e
      → AreUnlisted opens (paths ++ more) e
  lacks_before [] more e lacks = absurd lacks
  lacks_before (path ∷ paths) more e lacks = record {
    file = lacks.file;
    opened = lacks.opened;
    leads = leads_on _ _ (λ x. x ≡ e) (λ x. x ≡ e) (λ f. lacks_before paths more e) (λ x is. is)
        lacks.file lacks.leads;
  }

  pub lacks_behind : (paths more : List (List ℕ)) (fs : List F) (e : CheckError)
      → AreOpened opens paths fs → LacksOne opens more e → AreUnlisted opens (paths ++ more) e
  lacks_behind [] more [] e are lacks =
      opens_on more (λ fs. ⊥) (λ fs. e ≡ errors.Memory) (λ x. x ≡ e) (λ x. x ≡ e)
      (λ fs no. absurd no) (λ x is. is) lacks
  lacks_behind (path ∷ paths) more (f ∷ fs) e are lacks = record {
    file = Ok f;
    opened = are.0;
    leads = lacks_behind paths more fs e are.1 lacks;
  }
  lacks_behind [] more (f ∷ fs) e are lacks = absurd are
  lacks_behind (path ∷ paths) more [] e are lacks = absurd are

  -- all are opened, and memory runs out
  pub unlisted : (paths more : List (List ℕ)) (fs gs : List F) → AreOpened opens paths fs
      → AreOpened opens more gs → AreUnlisted opens (paths ++ more) errors.Memory
  unlisted paths more fs gs are also =
      opens_as (paths ++ more) (fs ++ gs) _ _ (all_opened paths more fs gs are also) refl

-- each command is on one file or two
pub paths_few : (c : Command) → (0 < paths_of c) × (paths_of c ≤ 2)
paths_few (commands.File c) = (omega arith, omega arith)
paths_few (commands.Print q) = (omega arith, omega arith)
paths_few (commands.Obligations o) = (omega arith, omega arith)
paths_few (commands.Check (subjects.File own) goal o p) = (omega arith, omega arith)
paths_few (commands.Check subject goal o p) = (omega arith, omega arith)
paths_few (commands.Simulated o) = (omega arith, omega arith)
paths_few (commands.Obligation condition o) = (omega arith, omega arith)

-- ---- few files

-- the last is the only one
pub only_one : {F : Type 0} (front : List F) (file : F) (files : List F)
    → files ≡ front ++ file ∷ [] → length files ≤ 1 → files ≡ file ∷ []
only_one [] file files are one = are
only_one (first ∷ front) file files are one =
    let count = ap length are in
    absurd (omega (arith, count, length-append front (file ∷ []), one))

-- the first, and the others
pub first_taken : {F : Type 0} (files : List F) (file : F) → 0 < length files
    → file ≡ get_or files 0 file → files ≡ file ∷ remove files 0
first_taken [] file some at = absurd (omega (arith, some))
first_taken (first ∷ files) file some at = ap (λ f. f ∷ files) (sym at)
