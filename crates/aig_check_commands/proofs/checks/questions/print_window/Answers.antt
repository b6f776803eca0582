use Rattle.std.proofs.Common.{append-nil}
use Rattle.aig_check_commands.proofs.Words.{replicate, [], ◌++◌, length, ap, refl, sym, err_from_is_err_and, asked_with, clauses_with, formula_of, lists_circuit, title_of}
use Rattle.aig_answers.specs.declared.plans.asking.Ask.TheVariants as asks
use Rattle.aig_dimacs.specs.Text.{dimacs_of}
use Rattle.aig_check_commands.specs.Titles.{title_text}
use Rattle.aig_check_commands.specs.declared.error.CheckError.TheVariants as errors
use Rattle.aig_check_commands.proofs.line_lemmas.Commenting.{titled_again}
use Rattle.aig_check_commands.proofs.check_lemmas.Outcomes.{error_printed, text_printed}
use Rattle.aig_check_commands.proofs.checks.questions.print_window.Goals as goal

pub returns-in_err-window : goal.returns-in_err-window
returns-in_err-window g c =
    let p = err_from_is_err_and c.from_residual.result c.from_residual.ensures.1 in
    rw (p.1, p.2) (error_printed errors.Memory refl refl)

pub write_window-requires : goal.write_window-requires
write_window-requires g c =
    (c.args.form, lists_circuit c.args.circuit, c.args.k, c.in_ok-window.ensures)

pub returns : goal.returns
returns g c =
    let a = c.args in
    let window = c.in_ok-window.window in
    let t = title_of (asked_with a.optimize (asks.Window a.k a.form)) a.sum in
    let told = rw (c.title_of-title.ensures, c.asked_with.ensures) at c.write_window.ensures in
    let made = clauses_with (told.lists ++ replicate window.free []) window.extra in
    let clauses = dimacs_of (length made.clauses) (formula_of made) in
    rw c.after_writing.ensures (text_printed c.write_window.result (title_text t ++ clauses) (record {
      comments = [];
      made = made;
      printed = (c.in_ok-window.ensures.asks told.lists told.has, refl);
      exact = ap (λ front. front ++ clauses) (sym (append-nil (title_text t)));
      again = titled_again t (length made.clauses) (formula_of made) told.formula;
    }) told.writes)
