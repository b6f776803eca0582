use Rattle.aig_check_commands.proofs.Commanding.{file_alone, only_checks}
use Rattle.aig_check_commands.proofs.checks.running.check_asked.Goals as goal

pub returns-in-File : goal.returns-in-File
returns-in-File g c =
    let alone = file_alone c.args.asked.subject c.in-File.command
    (rw c.in-File.is at c.requires.asked) in
    rw (c.first_of-file.ensures.first.0, c.in-File.is, alone) c.check_file.ensures

pub returns-in-Simulated : goal.returns-in-Simulated
returns-in-Simulated g c =
    rw (c.first_of-file-in-Simulated.ensures.first.0, c.in-Simulated.is) c.check_witness.ensures

pub unreachable-requires : goal.unreachable-requires
unreachable-requires g c =
    only_checks c.args.asked.command c.requires.checks c.in_default.not-Check c.in_default.not-File
    c.in_default.not-Simulated
