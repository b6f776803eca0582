use Rattle.aig_base.proofs.Words.{refl}
use Rattle.aig_subjects.proofs.reading.read_certificate.Goals as goal

pub returns-in-Ok-clause-reads : goal.returns-in-Ok-clause-reads
returns-in-Ok-clause-reads g c =
    let told = c.in-Ok.ensures in
    record {
      verdict = told.verdict;
      answer = λ taken.
          let read = told.answer refl in
          record {
            file = read.file;
            bytes = read.bytes;
            holds = read.holds;
            means = record {
              fit = read.means.0;
              joint = read.means.1;
              small = read.means.3;
            };
            taken = read.taken;
          };
      own = tt;
    }

pub returns-in-Err-clause-reads : goal.returns-in-Err-clause-reads
returns-in-Err-clause-reads g c =
    let told = c.in-Err.ensures in
    record {
      verdict = told.verdict;
      answer = λ taken.
          let read = told.answer taken in
          record {
            file = read.file;
            bytes = read.bytes;
            holds = read.holds;
            means = read.means;
            taken = read.taken;
          };
      own = told.own;
    }
