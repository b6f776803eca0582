-- What a command printed on files that were opened, and was flushed.
use Rattle.aig_check_commands.proofs.Words.{◌≡◌, Bool, false, List, [], ◌∷◌, ◌++◌, ℕ, Option, Ok, Err, inl, inr, refl, Keeps, IsTrue, Result, appends_kept, stops_unflushed, OpenError, Asked, Command, CheckError, Acts, EndsWith, Printed, FileSubject}
use Rattle.aig_check_commands.specs.declared.command.Command.TheVariants as commands
use Rattle.aig_check_commands.specs.declared.error.CheckError.TheVariants as errors
use Rattle.aig_check_commands.specs.Acting.{RanAll}
use Rattle.aig_check_commands.proofs.Opened.{opens_on}
use Rattle.aig_subjects.specs.declared.subject.FileSubject.TheVariants.{Own}

-- ---- the flush after an answer

-- how it ends the command
abbrev pub EndsBy : Bool → Result Unit CheckError → Type 0
EndsBy failed (Ok u) = failed ≡ false
EndsBy failed (Err errors.Write) = IsTrue failed
EndsBy failed (Err e) = ⊥

-- what holds where it ends so either way
by_end : (failed : Bool) (Holds : Result Unit CheckError → Type 0)
    → ((u : Unit {0}) → failed ≡ false → Holds (Ok u))
    → (IsTrue failed → Holds (Err errors.Write))
    → (done : Result Unit CheckError) → EndsBy failed done → Holds done
by_end failed Holds sound lost (Ok u) ends = sound u ends
by_end failed Holds sound lost (Err errors.Write) ends = lost ends
by_end failed Holds sound lost (Err e) ends = absurd ends

module _ {W : Type 0} (held : W → Option (List ℕ)) (write_failed : W → Bool) (w made flat : W)
    (keeps : Keeps (held made) (held flat)) (u : Unit {0}) (done : Result Unit CheckError)
    (ends : EndsBy (write_failed flat) done) where
  -- a text that was printed, or could not be flushed
  printed : {Holds : Result (List ℕ) CheckError → Type 0}
      → Printed held write_failed Holds w (Ok u) made → Printed held write_failed Holds w done flat
  printed ran = record {
    answer = ran.answer;
    holds = ran.holds;
    ends = on ran.answer ran.ends;
  }
    where
      on : (x : Result (List ℕ) CheckError) → EndsWith held write_failed x w (Ok u) made
          → EndsWith held write_failed x w done flat
      on (Ok text) is =
          by_end (write_failed flat) (λ y. EndsWith held write_failed (Ok text) w y flat)
          (λ v sound. (appends_kept (held w) (held made) (held flat) text is.0 keeps, sound))
          (λ lost. (
            refl,
            stops_unflushed (held w) (held made) (held flat) (write_failed flat) text is.0 keeps lost,
          )) done ends
      on (Err e) is = let no = is.0 in cc

  module _ {F : Type 0} (left : F → Option (List ℕ)) (failed : F → Bool) (limit : ℕ) where
    all_ended : (own : FileSubject) (d : Command) (files others : List F)
        → RanAll left failed held write_failed limit own d files w (Ok u) others made
        → RanAll left failed held write_failed limit own d files w done others flat
    all_ended own (commands.Check subject goal base step) files others ran = printed ran
    all_ended own (commands.Print q) (r ∷ files) (rest ∷ others) ran = printed ran
    all_ended own (commands.Obligations optimize) (r ∷ s ∷ []) (rest ∷ other ∷ []) ran =
        printed ran
    all_ended own (commands.Obligation condition optimize) (r ∷ s ∷ []) (rest ∷ other ∷ []) ran =
        printed ran
    all_ended own (commands.Simulated optimize) (r ∷ s ∷ p ∷ q ∷ t ∷ b ∷ e ∷ [])
        (rest ∷ other ∷ p_rest ∷ q_rest ∷ t_rest ∷ b_rest ∷ e_rest ∷ []) ran =
        printed ran
    all_ended Own (commands.File c) (r ∷ p ∷ []) (rest ∷ used ∷ []) ran = printed ran
    all_ended own d files others ran = absurd ran

    -- what was asked was done, and what that printed is flushed
    pub acts_ended : (opens : List ℕ → Result F OpenError → Type 0) (c : Asked)
        (paths further : List (List ℕ))
        → Acts opens left failed held write_failed limit c paths further w (Ok u) made
        → Acts opens left failed held write_failed limit c paths further w done flat
    acts_ended opens c paths further acts =
        opens_on opens (paths ++ further) _ _ _ _
        (λ files told. elim told [
          | inl ran ↦ inl (ran.0, all_ended c.subject c.command files ran.0 ran.1)
          | inr short ↦ (let is = short.0 in cc)
        ]) (λ e no. let is = no.0 in cc) acts
