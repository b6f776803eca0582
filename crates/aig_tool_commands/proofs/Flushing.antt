-- A command on a file that is opened, whose answer is flushed.
use Rattle.aig_base.proofs.Words.{◌≡◌, ℕ, Bool, false, List, [], Option, Ok, Err, refl, sym, Keeps}
use Rattle.std.specs.Prelude.{IsTrue, Result}
use Rattle.std.proofs.lemmas.List.{append-nil}
use Rattle.aig.specs.declared.aiger.WriteError.TheVariants as write
use Rattle.aig_command_line.specs.declared.files.OpenError.{OpenError}
use Rattle.aig_command_line.proofs.Kept.{appends_kept}
use Rattle.aig_tool_commands.specs.declared.command.Command.{Command}
use Rattle.aig_tool_commands.specs.declared.tool.ToolError.TheVariants as errors
use Rattle.aig_tool_commands.specs.declared.tool.TheConstants.{LIMIT}
use Rattle.aig_tool_commands.specs.Acting.{PrintsOn, RunsOn, RunsOpened}
use Rattle.aig_tool_commands.specs.Running.{Runs}

module _ {F W : Type 0} (opens : List ℕ → Result F OpenError → Type 0) (left : F → Option (List ℕ))
    (read_failed : F → Bool) (held : W → Option (List ℕ)) (write_failed flushed : W → Bool)
    (c : Command) where
  -- what was printed is flushed
  runs_flushed : (u : Unit {0}) (file rest : F) (w made flat : W)
      → Runs left read_failed held write_failed c LIMIT file w (Ok u) rest made
      → Keeps (held made) (held flat) → write_failed flat ≡ false
      → Runs left read_failed held write_failed c LIMIT file w (Ok u) rest flat
  runs_flushed u file rest w made flat runs keeps sound =
      let answer = runs.ok in
      record {
        verdict = runs.verdict;
        own = tt;
        ok = (
          answer.0,
          answer.1,
          (appends_kept (held w) (held made) (held flat) answer.0 answer.2.0 keeps, sound),
        );
        stopped = λ is. cc;
        kept = tt;
      }

  -- what was printed could not be flushed
  runs_unflushed : (u : Unit {0}) (file rest : F) (w made flat : W)
      → Runs left read_failed held write_failed c LIMIT file w (Ok u) rest made
      → Keeps (held made) (held flat) → IsTrue (write_failed flat)
      → Runs left read_failed held write_failed c LIMIT file w (Err (errors.Write write.Stream))
      rest flat
  runs_unflushed u file rest w made flat runs keeps failed =
      let answer = runs.ok in
      record {
        verdict = runs.verdict;
        own = tt;
        ok = tt;
        stopped = λ is. (
          answer.0,
          answer.1,
          record {
            beginning = (
              answer.0,
              [],
              sym (append-nil answer.0),
              appends_kept (held w) (held made)
                  (held flat) answer.0 answer.2.0 keeps,
            );
            has_failed = failed;
          },
        );
        kept = λ not. absurd (not refl);
      }

  -- ---- of a file that is opened

  opened_flushed : (u : Unit {0}) (file : Result F OpenError) (w made flat : W)
      → RunsOpened left read_failed held write_failed c file w (Ok u) made
      → Keeps (held made) (held flat) → write_failed flat ≡ false
      → RunsOpened left read_failed held write_failed c file w (Ok u) flat
  opened_flushed u (Ok file) w made flat runs keeps sound =
      (runs.0, runs_flushed u file runs.0 w made flat runs.1 keeps sound)
  opened_flushed u (Err e) w made flat runs keeps sound = cc

  opened_unflushed : (u : Unit {0}) (file : Result F OpenError) (w made flat : W)
      → RunsOpened left read_failed held write_failed c file w (Ok u) made
      → Keeps (held made) (held flat) → IsTrue (write_failed flat)
      → RunsOpened left read_failed held write_failed c file w (Err (errors.Write write.Stream))
      flat
  opened_unflushed u (Ok file) w made flat runs keeps failed =
      (runs.0, runs_unflushed u file runs.0 w made flat runs.1 keeps failed)
  opened_unflushed u (Err e) w made flat runs keeps failed = cc

  -- ---- of the file at a path

  pub print_flushed : (path : List ℕ) (u : Unit {0}) (w made flat : W)
      → RunsOn opens left read_failed held write_failed c path w (Ok u) made
      → Keeps (held made) (held flat) → write_failed flat ≡ false → IsTrue (flushed flat)
      → PrintsOn opens left read_failed held write_failed flushed c path w (Ok u) flat
  print_flushed path u w made flat run keeps sound done =
      record {
        runs = record {
          file = run.file;
          opened = run.opened;
          runs = opened_flushed u
              run.file w made flat run.runs keeps sound;
        };
        done = done;
      }

  pub print_unflushed : (path : List ℕ) (u : Unit {0}) (w made flat : W)
      → RunsOn opens left read_failed held write_failed c path w (Ok u) made
      → Keeps (held made) (held flat) → IsTrue (write_failed flat)
      → PrintsOn opens left read_failed held write_failed flushed c path w
      (Err (errors.Write write.Stream)) flat
  print_unflushed path u w made flat run keeps failed =
      record {
        runs = record {
          file = run.file;
          opened = run.opened;
          runs = opened_unflushed u
              run.file w made flat run.runs keeps failed;
        };
        done = tt;
      }
