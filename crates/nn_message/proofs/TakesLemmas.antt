-- What a call that reads exactly so says of each text at the front of the bytes.
use Rattle.std.proofs.Common.{◌≡◌, ◌^◌, ◌<◌, length, Option, Some, None, refl, sym, ap, subst, ◌∙◌, arith, length-append}
use Rattle.nn_base.specs.Paths.{Bytes}
use Rattle.nn_base.proofs.PlainLemmas.{some_is}
use Rattle.nn_wire.specs.Varint.{varint}
use Rattle.nn_wire.proofs.SpellingLemmas.{varint_some}
use Rattle.nn_message.specs.Spelling.{delimited}
use Rattle.nn_message.specs.Reading.{Read, Reader, Spells, Anywhere, Gives, Shows, Takes}

pub delimited_some : (message : Bytes) → 0 < length (delimited message)
unfolding delimited
delimited_some message = omega (arith, length-append (varint (length message)) message, varint_some (length message))

pub Shows-Gives : {X : Type 0} (result : Option X) (rest : Bytes) (read : Read X) → Gives result rest read → Shows (λ v x. v ≡ x) result rest read
Shows-Gives None rest read is = is
Shows-Gives (Some x) rest read is = (x, refl, is)

pub one_found : {X : Type 0} (r : Reader X) (bytes : Bytes) (x y : X) (a b : Bytes) → r bytes ≡ Some (x, a) → r bytes ≡ Some (y, b) → (x ≡ y) × (a ≡ b)
one_found r bytes x y a b e f = let p = some_is (x, a) (y, b) (sym e ∙ f) in (ap (λ z. z.0) p, ap (λ z. z.1) p)

pub takes_by_shows : {V X : Type 0} (IsView : V → X → Type 0) (r : Reader X) (t : X → Bytes) (P : X → Type 0) → Spells r t P Anywhere → ((x : X) → 0 < length (t x))
    → (result : Option V) (old new : Bytes) → length old < 2 ^ 64 → Shows IsView result new (r old) → Takes IsView P t result old new
takes_by_shows IsView r t P one some None old new short is = record {
  some = tt;
  again = λ x after holds e.
      let found = ap r e ∙ one.again x after holds tt (omega (arith, short, ap length e)) in
      absurd (let no = sym is ∙ found in cc);
  shorter = tt;
}
takes_by_shows IsView r t P one some (Some v) old new short is =
    let p = one.exact old (is.0, new) is.2 in
    record {
      some = (is.0, p.0, is.1, p.1);
      again = λ x after holds e.
          let same = one_found r old is.0 x new after is.2 (ap r e ∙ one.again x after holds tt (omega (arith, short, ap length e))) in
          (v, refl, subst (IsView v) same.0 is.1, same.1);
      shorter = omega (arith, ap length p.1, length-append (t is.0) new, some is.0);
    }

pub takes_by_gives : {X : Type 0} (r : Reader X) (t : X → Bytes) (P : X → Type 0) → Spells r t P Anywhere → ((x : X) → 0 < length (t x))
    → (result : Option X) (old new : Bytes) → length old < 2 ^ 64 → Gives result new (r old) → Takes (λ v x. v ≡ x) P t result old new
takes_by_gives r t P one some result old new short is = takes_by_shows (λ v x. v ≡ x) r t P one some result old new short (Shows-Gives result new (r old) is)
