use Rattle.std.proofs.Common.{◌≡◌, ◌+◌, ◌-◌, ◌*◌, ◌^◌, ◌<◌, ◌≤◌, length, get_or, drop, refl, sym, ap, subst, ◌∙◌, arith}
use Rattle.nn_wire.specs.Varint.{Begins}
use Rattle.nn_wire.proofs.ReadingLemmas.{Along, Along-none, Along-more, read_last, read_len, read_short, read_needless, read_large, joined_bits}
use Rattle.nn_wire.proofs.varint.scan.Goals as goal
use Rattle.nn_wire.proofs.varint.scan.Goals.{else-place-gt0-via-then-place-gt0+else-byte-eq0, else-place-gt0-via-else-place-gt0, else-place-via-then-place+else-byte-gt-GREATEST_LAST, else-place-via-else-place}

pub loop-place-init : goal.loop-place-init
loop-place-init c = Along-none c.args.bytes.now

pub loop-place-preserved : goal.loop-place-preserved
loop-place-preserved c =
    let bytes = c.args.bytes.now in
    let place = c.loop-place.place in
    let low = c.loop-place.value in
    let b = get_or bytes place 0 in
    let along = c.loop-place.invariant in
    let early : place < 9 = elim c.else-place.branch [ else-place-via-then-place+else-byte-gt-GREATEST_LAST w ↦ omega arith | else-place-via-else-place w ↦ omega (arith, along.within) ] in
    let bits : c.from.result ≡ b - 128 = omega (arith, c.from.ensures, c.type_inv.bytes place) in
    let joined = joined_bits low c.from.result place along.within (omega (arith, c.from.ensures)) (λ e. absurd (omega (arith, e, early))) along.small in
    subst (Along bytes (place + 1)) (sym (joined ∙ ap (λ x. x * 2 ^ (7 * place) + low) bits))
    (Along-more bytes place low b early c.loop-place-test.true refl (omega arith) (omega (arith, c.type_inv.bytes place)) along)

pub returns-then-byte-eq0-clause-err : goal.returns-then-byte-eq0-clause-err
returns-then-byte-eq0-clause-err c = read_needless c.args.bytes.now c.loop-place.place c.loop-place.value _ c.loop-place-test.true refl c.if-byte-eq0.true c.if-place-gt0.true c.loop-place.invariant

pub returns-then-byte-gt-GREATEST_LAST-clause-err : goal.returns-then-byte-gt-GREATEST_LAST-clause-err
returns-then-byte-gt-GREATEST_LAST-clause-err c = read_large c.args.bytes.now c.loop-place.place c.loop-place.value _ c.loop-place-test.true refl c.if-byte-gt-GREATEST_LAST.true c.if-place.true c.loop-place.invariant

pub returns-then-byte-lt128-clause-ok : goal.returns-then-byte-lt128-clause-ok
returns-then-byte-lt128-clause-ok c =
    let bytes = c.args.bytes.now in
    let place = c.loop-place.place in
    let low = c.loop-place.value in
    let b = get_or bytes place 0 in
    let along = c.loop-place.invariant in
    let some : 0 < place → 0 < b = λ later. elim c.else-place-gt0.branch [ else-place-gt0-via-then-place-gt0+else-byte-eq0 w ↦ omega arith | else-place-gt0-via-else-place-gt0 w ↦ omega arith ] in
    let top : place ≡ 9 → b ≤ 1 = λ e. elim c.else-place.branch [ else-place-via-then-place+else-byte-gt-GREATEST_LAST w ↦ omega arith | else-place-via-else-place w ↦ absurd (w.if-place.false e) ] in
    let bits : c.from.result ≡ b = omega (arith, c.from.ensures) in
    let joined = joined_bits low c.from.result place along.within (omega arith) (λ e. omega (arith, bits, top e)) along.small in
    subst (λ n. Begins bytes n (drop (place + 1) bytes)) (sym (joined ∙ ap (λ x. x * 2 ^ (7 * place) + low) bits))
    (read_last bytes place low b c.loop-place-test.true refl (omega arith) some top along)

pub returns-then-byte-lt128-clause-len : goal.returns-then-byte-lt128-clause-len
returns-then-byte-lt128-clause-len c =
    let within : c.loop-place.place + 1 ≤ length c.args.bytes.now = omega (arith, c.loop-place-test.true) in
    (read_len c.args.bytes.now _ (c.loop-place.place + 1) within (returns-then-byte-lt128-clause-ok c), within)

pub returns-clause-err : goal.returns-clause-err
returns-clause-err c = read_short c.args.bytes.now c.loop-place.place c.loop-place.value c.loop-place-test.false c.loop-place.invariant
