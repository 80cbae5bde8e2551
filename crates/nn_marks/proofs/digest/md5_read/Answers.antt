-- A text that is written so has its parts in their places, and is what they are written as.
use Rattle.std.proofs.Common.{◌≡◌, Some, take, drop, ap, sym, ◌∙◌}
use Rattle.std.proofs.lemmas.Option.{none-some, same_Some}
use Rattle.std.proofs.lemmas.Bool.{false≢true}
use Rattle.std.proofs.lemmas.Slice.Eq.{bytes_eq-Decides}
use Rattle.nn_base.specs.Decimal.{number_in}
use Rattle.nn_base.proofs.FileTextLemmas.{number_in-id_text}
use Rattle.nn_marks.specs.Digest.{md5_text_of}
use Rattle.nn_marks.proofs.DigestLemmas.{md5_parts}
use Rattle.nn_marks.proofs.digest.md5_read.Goals as goal

pub returns-then-bytes-ne-MD5_BYTES-clause-only : goal.returns-then-bytes-ne-MD5_BYTES-clause-only
returns-then-bytes-ne-MD5_BYTES-clause-only c = λ digest id long bytes small e.
    absurd (c.if-bytes-ne-MD5_BYTES.true (md5_parts c.args.bytes.now digest id long e).size)

pub returns-in_err-digest-clause-only : goal.returns-in_err-digest-clause-only
returns-in_err-digest-clause-only c = λ digest id long bytes small e.
    let parts = md5_parts c.args.bytes.now digest id long e in
    absurd (none-some digest (c.in_err-digest.ensures digest long bytes (c.split_at.ensures.front ∙ parts.hex)))

pub returns-in_err-number-clause-only : goal.returns-in_err-number-clause-only
returns-in_err-number-clause-only c = λ digest id long bytes small e.
    let parts = md5_parts c.args.bytes.now digest id long e in
    absurd (none-some id (c.in_err-number.ensures.value ∙ ap (λ name. number_in (take 19 (drop 10 name))) c.split_at.ensures.back ∙ ap number_in parts.id_digits ∙ number_in-id_text id small))

pub returns-then-eq-clause-only : goal.returns-then-eq-clause-only
returns-then-eq-clause-only c = λ digest id long bytes small e.
    let parts = md5_parts c.args.bytes.now digest id long e in
    let same_digest : c.in_ok-digest.digest ≡ digest = same_Some _ _ (c.in_ok-digest.ensures digest long bytes (c.split_at.ensures.front ∙ parts.hex)) in
    let same_id : c.in_ok-number.field-0 ≡ id = same_Some _ _ (c.in_ok-number.ensures.value ∙ ap (λ name. number_in (take 19 (drop 10 name))) c.split_at.ensures.back ∙ ap number_in parts.id_digits ∙ number_in-id_text id small) in
    λ i. Some (same_digest i, same_id i)

pub returns-else-eq-clause-only : goal.returns-else-eq-clause-only
returns-else-eq-clause-only c = λ digest id long bytes small e.
    let parts = md5_parts c.args.bytes.now digest id long e in
    let same_digest : c.in_ok-digest.digest ≡ digest = same_Some _ _ (c.in_ok-digest.ensures digest long bytes (c.split_at.ensures.front ∙ parts.hex)) in
    let same_id : c.in_ok-number.field-0 ≡ id = same_Some _ _ (c.in_ok-number.ensures.value ∙ ap (λ name. number_in (take 19 (drop 10 name))) c.split_at.ensures.back ∙ ap number_in parts.id_digits ∙ number_in-id_text id small) in
    let same = c.md5_text-len.ensures.text ∙ (λ i. md5_text_of (same_digest i) (same_id i)) ∙ sym e in
    absurd (false≢true (c.if-eq.ensures ∙ (bytes_eq-Decides _ _).1 same))
