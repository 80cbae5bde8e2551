-- The first of several answers that are there, and tests that say whether one is.
use Rattle.std.proofs.Common.{◌≡◌, Bool, true, false, not, List, [], ◌∷◌, ◌++◌, Option, Some, None, refl}
use Rattle.std.specs.Option.{option_or}
use Rattle.nn_base.specs.First.{when, first_of}

-- ---- one before others

pub none_first : {A : Type 0} (x : Option A) (rest : List (Option A)) → first_of (x ∷ rest) ≡ None → (x ≡ None) × (first_of rest ≡ None)
none_first None rest h = (refl, h)
none_first (Some a) rest h = cc

pub first_behind : {A : Type 0} (x : Option A) (rest : List (Option A)) → x ≡ None → first_of (x ∷ rest) ≡ first_of rest
first_behind x rest h = rw h refl

pub first_here : {A : Type 0} (x : Option A) (rest : List (Option A)) (a : A) → x ≡ Some a → first_of (x ∷ rest) ≡ Some a
first_here x rest a h = rw h refl

-- ---- several before others

pub none_before : {A : Type 0} (before behind : List (Option A)) → first_of before ≡ None → first_of (before ++ behind) ≡ first_of behind
none_before [] behind h = refl
none_before (None ∷ before) behind h = none_before before behind h
none_before (Some a ∷ before) behind h = cc

pub some_before : {A : Type 0} (before behind : List (Option A)) (a : A) → first_of before ≡ Some a → first_of (before ++ behind) ≡ Some a
some_before [] behind a h = cc
some_before (None ∷ before) behind a h = some_before before behind a h
some_before (Some b ∷ before) behind a h = h

pub none_in_both : {A : Type 0} (before behind : List (Option A)) → first_of (before ++ behind) ≡ None → (first_of before ≡ None) × (first_of behind ≡ None)
none_in_both [] behind h = (refl, h)
none_in_both (None ∷ before) behind h = none_in_both before behind h
none_in_both (Some a ∷ before) behind h = cc

pub first_push : {A : Type 0} (before : List (Option A)) (x : Option A) → first_of (before ++ x ∷ []) ≡ option_or (first_of before) x
first_push [] None = refl
first_push [] (Some a) = refl
first_push (None ∷ before) x = first_push before x
first_push (Some a ∷ before) x = refl

-- ---- an answer where a test says so

pub said : {A : Type 0} (test : Bool) (a : A) → test ≡ true → when test a ≡ Some a
said test a h = rw h refl

pub unsaid : {A : Type 0} (test : Bool) (a : A) → test ≡ false → when test a ≡ None
unsaid test a h = rw h refl

pub untrue : {A : Type 0} (test : Bool) (a : A) → when test a ≡ None → test ≡ false
untrue true a h = cc
untrue false a h = refl

pub true_instead : {A : Type 0} (test : Bool) (a : A) → when (not test) a ≡ None → test ≡ true
true_instead true a h = refl
true_instead false a h = cc
