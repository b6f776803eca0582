use Rattle.std.proofs.Common.{refl}
use Rattle.aig_reader.proofs.Waiting.{one_more_waits}
use Rattle.aig_reader.proofs.table.Table.push.Goals as goal

pub returns-then-len-lt-MOST_PENDING-clause-held : goal.returns-then-len-lt-MOST_PENDING-clause-held
returns-then-len-lt-MOST_PENDING-clause-held c = λ size gates h new own low. one_more_waits size gates c.args.self.now _ c.args.lhs c.args.operands h new own low refl c.in_ok-push.ensures.items

pub returns-clause-held : goal.returns-clause-held
returns-clause-held c = λ size gates h new own low. c.place_pending.ensures.held size _ (one_more_waits size gates c.args.self.now _ c.args.lhs c.args.operands h new own low refl c.in_ok-push.ensures.items)
