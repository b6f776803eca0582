use Rattle.std.proofs.Common.{◌-◌, ◌^◌, length, arith}
use Rattle.aig_giving.proofs.Listing.{below_more}
use Rattle.aig_calls.proofs.numbers.list.Goals as goal

pub push_list-requires : goal.push_list-requires
push_list-requires c =
    below_more (length c.args.asked.now.encoded.clauses) (2 ^ 31 - 1) (omega (
      arith,
      c.requires.few,
    )) c.args.asked.now.extra c.requires.below
