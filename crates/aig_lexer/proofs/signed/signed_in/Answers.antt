use Rattle.std.proofs.Common.{◌≡◌, ◌+◌, [], arith}
use Rattle.aig_lexer.specs.SignedNumbers.{minus_at}
use Rattle.aig_lexer.proofs.SignedNumbers.{signed_reads}
use Rattle.aig_lexer.proofs.signed.signed_in.Goals as goal

pub returns-clause-reads : goal.returns-clause-reads
returns-clause-reads c =
    let bytes = c.args.bytes.now in
    let count = c.in-Some.count in
    let whole : minus_at bytes + count + 1 ≡ minus_at bytes + (count + 1) = omega arith in
    let reads = rw c.minus_at-minus.ensures.is at c.in-Some.ensures.reads in
    rw (c.minus_at-minus.ensures.is, whole)
    (signed_reads bytes (count + 1) c.in-Some.value c.in-Some.end (reads []))
