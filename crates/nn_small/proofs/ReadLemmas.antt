-- Reading a file whole.
use Rattle.std.proofs.Common.{◌≡◌, ℕ, List, ◌++◌, length, take, Bool, true, false, Option, Result, Ok, Err, sym, ◌∙◌, ap, subst, arith}
use Rattle.std.specs.Prelude.{IsErrAnd}
use Rattle.std.proofs.lemmas.List.{take_all, take_at}
use Rattle.nn_host.specs.Listing.{bytes_of, IsRead}
use Rattle.nn_host.specs.Moments.{State}
use Rattle.nn_host.specs.Runs.{Looked}
use Rattle.nn_small.specs.Whole.{answered}
use Rattle.nn_small.specs.declared.read.ReadAll.{ReadAll}
use Rattle.nn_small.specs.declared.read.ReadAll.TheVariants.{Failed, Memory}

-- looks, and what was answered

answered_failed : {T : Type 0} (result : Result T ReadAll) → IsErrAnd result (λ fault. fault ≡ Failed) → answered result ≡ false
answered_failed (Ok bytes) is = absurd is
answered_failed {T} (Err fault) is = ap (λ (x : ReadAll). answered {T = T} (Err x)) is

answered_memory : {T : Type 0} (result : Result T ReadAll) → IsErrAnd result (λ fault. fault ≡ Memory) → answered result ≡ true
answered_memory (Ok bytes) is = absurd is
answered_memory {T} (Err fault) is = ap (λ (x : ReadAll). answered {T = T} (Err x)) is

-- a read that hands a failed look on has failed
pub looked_failed : {T told : Type 0} {i : ℕ} {a b : State} (result : Result T ReadAll) → IsErrAnd result (λ fault. fault ≡ Failed) → Looked told i a b false → Looked told i a b (answered result)
looked_failed {T} {told} {i} {a} {b} result is p = subst (λ (x : Bool). Looked told i a b x) (sym (answered_failed result is)) p

-- want of memory fails no call
pub looked_memory : {T told : Type 0} {i : ℕ} {a b : State} (result : Result T ReadAll) → IsErrAnd result (λ fault. fault ≡ Memory) → Looked told i a b true → Looked told i a b (answered result)
looked_memory {T} {told} {i} {a} {b} result is p = subst (λ (x : Bool). Looked told i a b x) (sym (answered_memory result is)) p

-- one call of read_at

-- what is left of a buffer of the file's size that is cut to the bytes read
pub read_is : (file : Option (List ℕ)) {n : ℕ} {old new out : List ℕ} (len : ℕ) (rest : List ℕ) → IsRead file 0 n old new → out ≡ take n (take len (new ++ rest)) → length old ≡ length (bytes_of file) → length new ≡ len → out ≡ bytes_of file
read_is file {n} {old} {new} len rest read cut full whole = cut ∙ ap (take n) (take_at new rest len whole) ∙ read.front ∙ take_all n (bytes_of file) (omega (arith, read.count, full))
