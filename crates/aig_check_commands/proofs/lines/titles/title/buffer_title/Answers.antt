use Rattle.aig_check_commands.proofs.Words.{rules, codes, encode_lower, Buffers-trans, failed_among, failed_first, then_call, beside_text, raw_text, topic_text}
use Rattle.std.proofs.Common.{[], ◌∷◌}
use Rattle.aig_check_commands.specs.Titles.{title_text}
use Rattle.aig_check_commands.proofs.lines.titles.title.buffer_title.Goals as goal

pub returns-in_err-write_bytes : goal.returns-in_err-write_bytes
unfolding title_text
returns-in_err-write_bytes g c =
    let t = c.args.title.now in
    failed_first
    (topic_text t.topic ∷ raw_text t.optimize ∷ codes "sha256 " ∷ encode_lower t.sum
    ∷ beside_text t.beside ∷ (10 ∷ []) ∷ []) c.in_err-write_bytes.ensures (search rules)

pub returns-in_err-buffer_topic : goal.returns-in_err-buffer_topic
unfolding title_text
returns-in_err-buffer_topic g c =
    let t = c.args.title.now in
    failed_among
    (raw_text t.optimize ∷ codes "sha256 " ∷ encode_lower t.sum ∷ beside_text t.beside
    ∷ (10 ∷ []) ∷ []) c.in_ok-write_bytes.ensures.ok c.in_err-buffer_topic.ensures (search rules)

pub returns-in_err-write_bytes-2 : goal.returns-in_err-write_bytes-2
unfolding title_text
returns-in_err-write_bytes-2 g c =
    let t = c.args.title.now in
    failed_among (codes "sha256 " ∷ encode_lower t.sum ∷ beside_text t.beside ∷ (10 ∷ []) ∷ [])
    (Buffers-trans c.in_ok-write_bytes.ensures.ok c.in_ok-buffer_topic.ensures.ok)
    (rw c.raw_word.ensures at c.in_err-write_bytes-2.ensures) (search rules)

pub returns-in_err-write_bytes-3 : goal.returns-in_err-write_bytes-3
unfolding title_text
returns-in_err-write_bytes-3 g c =
    let t = c.args.title.now in
    let asked = Buffers-trans c.in_ok-write_bytes.ensures.ok c.in_ok-buffer_topic.ensures.ok in
    failed_among (encode_lower t.sum ∷ beside_text t.beside ∷ (10 ∷ []) ∷ [])
    (Buffers-trans asked (rw c.raw_word.ensures at c.in_ok-write_bytes-2.ensures.ok))
    c.in_err-write_bytes-3.ensures (search rules)

pub returns-in_err-write_bytes-4 : goal.returns-in_err-write_bytes-4
unfolding title_text
returns-in_err-write_bytes-4 g c =
    let t = c.args.title.now in
    let asked = Buffers-trans c.in_ok-write_bytes.ensures.ok c.in_ok-buffer_topic.ensures.ok in
    let set = Buffers-trans asked (rw c.raw_word.ensures at c.in_ok-write_bytes-2.ensures.ok) in
    failed_among (beside_text t.beside ∷ (10 ∷ []) ∷ [])
    (Buffers-trans set c.in_ok-write_bytes-3.ensures.ok)
    (rw c.hex_of.ensures at c.in_err-write_bytes-4.ensures) (search rules)

pub returns-in_err-buffer_beside : goal.returns-in_err-buffer_beside
unfolding title_text
returns-in_err-buffer_beside g c =
    let asked = Buffers-trans c.in_ok-write_bytes.ensures.ok c.in_ok-buffer_topic.ensures.ok in
    let set = Buffers-trans asked (rw c.raw_word.ensures at c.in_ok-write_bytes-2.ensures.ok) in
    let named = Buffers-trans set c.in_ok-write_bytes-3.ensures.ok in
    failed_among ((10 ∷ []) ∷ [])
    (Buffers-trans named (rw c.hex_of.ensures at c.in_ok-write_bytes-4.ensures.ok))
    c.in_err-buffer_beside.ensures (search rules)

pub returns : goal.returns
unfolding title_text
returns g c =
    let asked = Buffers-trans c.in_ok-write_bytes.ensures.ok c.in_ok-buffer_topic.ensures.ok in
    let set = Buffers-trans asked (rw c.raw_word.ensures at c.in_ok-write_bytes-2.ensures.ok) in
    let named = Buffers-trans set c.in_ok-write_bytes-3.ensures.ok in
    let summed = Buffers-trans named (rw c.hex_of.ensures at c.in_ok-write_bytes-4.ensures.ok) in
    then_call (Buffers-trans summed c.in_ok-buffer_beside.ensures.ok) c.write_bytes-5.ensures
