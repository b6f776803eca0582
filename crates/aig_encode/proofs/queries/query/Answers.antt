use Rattle.aig_base.proofs.Words.{◌≡◌, ◌≤◌, ℕ, Bool, List, sym, subst, err_from_is_err_and}
use Rattle.aig_base.specs.Clauses.{AreBelow}
use Rattle.aig_format.proofs.Words.{circuit_of, File, Accepts}
use Rattle.aig_runs.specs.Encodes.{Encodes}
use Rattle.aig_runs.specs.Queries.{IsQueryOf, query_clauses}
use Rattle.aig_runs.proofs.Queries.{queries_ask}
use Rattle.aig_unroll.specs.Places.{unrolled_size}
use Rattle.aig_encode.specs.declared.query_clauses.Query.{Query}
use Rattle.aig_encode.specs.Encoding.{IsQuery, encoded_verdict}
use Rattle.aig_reader.proofs.Verdicts.{short_of}
use Rattle.aig_encode.proofs.queries.query.Goals as goal

-- an encoded file with the query clauses is a query
asked : (f : File) (limit k : ℕ) (optimize : Bool) (bytes : List ℕ) (q : Query)
    → q.extra ≡ query_clauses q.encoded.circuit k q.encoded.unrolled
    → Accepts bytes limit f × (unrolled_size (circuit_of f) k ≤ limit)
    → Encodes f k optimize q.encoded.circuit q.encoded.unrolled q.encoded.clauses
    → IsQuery k optimize f q
asked f limit k optimize bytes q exact within encodes =
    let e = q.encoded in
    let asks = queries_ask f limit k optimize e.circuit e.unrolled e.clauses within.0.1 encodes in
    (encodes, subst (IsQueryOf f k e.circuit e.unrolled e.clauses) (sym exact) asks)

pub clauses_of-requires-clause-steps : goal.clauses_of-requires-clause-steps
clauses_of-requires-clause-steps g c = c.in_ok-encoded.ensures.answer.means.steps

-- a variable is a node
pub returns-clause-below : goal.returns-clause-below
returns-clause-below g c =
    let encodes = c.in_ok-encoded.ensures.answer.means in
    subst (λ n. AreBelow n c.in_ok-extra.extra) (sym encodes.has_clauses.count) c.in_ok-extra.ensures.below

pub returns-in_err-extra-clause-verdict : goal.returns-in_err-extra-clause-verdict
returns-in_err-extra-clause-verdict g c =
    let p = err_from_is_err_and c.from_residual-in_err-extra.result c.from_residual-in_err-extra.ensures.1 in
    rw (p.1, p.2) (short_of (encoded_verdict c.args.limit c.args.k) c.args.limit _ _ _ c.in_ok-encoded.ensures.verdict)

pub returns-clause-answer : goal.returns-clause-answer
returns-clause-answer g c =
    let o = c.in_ok-encoded.ensures.answer in
    let q : Query = record { encoded = c.in_ok-encoded.encoded; extra = c.in_ok-extra.extra } in
    record { file = o.file; bytes = o.bytes; holds = o.holds; means = asked o.file c.args.limit c.args.k c.args.optimize o.bytes q c.in_ok-extra.ensures.exact o.holds o.means; taken = o.taken }
