use Rattle.std.proofs.Common.{◌≡◌, ◌++◌, length, length-append, sym, ap, ◌∙◌, arith}
use Rattle.std.proofs.lemmas.List.{take-append-drop}
use Rattle.nn_say.proofs.SayingLemmas.{streams_waiting, puts_full}
use Rattle.nn_say.proofs.speech.put.Goals as goal

pub returns-then-bytes-room-clause-puts : goal.returns-then-bytes-room-clause-puts
returns-then-bytes-room-clause-puts g c = streams_waiting _ _ _ c.append.ensures.text

pub returns-clause-puts : goal.returns-clause-puts
returns-clause-puts g c =
    let waiting = c.args.waiting.now.items in
    let front = c.split_at.result.0.now in
    let rest = c.split_at.result.1.now in
    let piece : c.deref.result.now ≡ waiting ++ front = c.deref.ensures.value ∙ c.append-2.ensures.text in
    let full : length c.deref.result.now ≡ 65536 = omega (arith, ap length piece, length-append waiting front, c.split_at.ensures.front_len) in
    puts_full waiting c.args.bytes.now front rest c.deref.result.now c.append-3.new.out.items c.say-said.result
    (sym (take-append-drop _ c.args.bytes.now) ∙ (λ i. sym c.split_at.ensures.front i ++ sym c.split_at.ensures.back i)) piece full
    (c.append-3.ensures.text ∙ ap (λ x. x ++ rest) c.clear.ensures.items) c.say-said.ensures
