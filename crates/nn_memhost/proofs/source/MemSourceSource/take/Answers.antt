use Rattle.std.proofs.Common.{◌≢◌, ◌<◌, ◌+◌, [], ◌∷◌, ◌++◌, List, ℕ, Some, drop, length, refl, sym, ◌∙◌, subst, arith}
use Rattle.std.proofs.lemmas.List.{take-append-drop, drop-drop, length-drop}
use Rattle.nn_host.specs.Listing.{IsRead}
use Rattle.nn_host.specs.Sources.{Took}
use Rattle.nn_memhost.proofs.source.MemSourceSource.take.Goals as goal

filled : (xs : List ℕ) → xs ≢ [] → 0 < length xs
filled [] there = absurd (there refl)
filled (x ∷ xs) there = omega arith

-- bytes that were read from a place on are gone from the front of those left there
took : (bytes : List ℕ) (at n : ℕ) (old new : List ℕ) → IsRead (Some bytes) at n old new → Took (drop at bytes) (drop (at + n) bytes) n old new
took bytes at n old new read = record {
  split = sym (take-append-drop n (drop at bytes)) ∙ (λ k. sym read.front k ++ drop-drop n at bytes k);
  some = λ there room. omega (arith, read.count, filled (drop at bytes) there, filled old room, length-drop at bytes);
  unread = read.rest;
}

pub returns-clause-call : goal.returns-clause-call
returns-clause-call c = record {
  within = c.copy_from-n.ensures.within;
  counted_ok = refl;
  counted_err = tt;
  ok = λ tells. subst (λ (bytes : List ℕ). Took (drop c.args.self.now.taken bytes) (drop (c.args.self.now.taken + c.copy_from-n.result) bytes) c.copy_from-n.result c.args.out.now c.copy_from-n.new.out) c.deref-2.ensures.value
      (took c.deref-2.result.now c.args.self.now.taken c.copy_from-n.result c.args.out.now c.copy_from-n.new.out c.copy_from-n.ensures.value);
  err = λ tells. tt;
}
