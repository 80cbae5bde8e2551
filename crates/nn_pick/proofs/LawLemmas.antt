-- At most one refusal is the answer, and none where the directories open.
use Rattle.std.proofs.Common.{◌≡◌, inl, inr}
use Rattle.std.proofs.lemmas.Bool.{cases_order}
use Rattle.nn_pick.specs.declared.intent.Intent.{Intent}
use Rattle.nn_pick.specs.declared.refusal.Refusal.{Refusal}
use Rattle.nn_pick.specs.Dirs.{Dirs}
use Rattle.nn_pick.specs.Refusing.{Refuses, test_of}
use Rattle.nn_pick.specs.Laws.{OneRefuses, NoneOpensRefused}
use Rattle.nn_pick.proofs.OneRefusalLemmas.{one_applies}

one_line : (dirs : Dirs) (intent : Intent) (r s : Refusal) → Refuses dirs intent r → Refuses dirs intent s → test_of r ≡ test_of s
one_line dirs intent r s p q = elim (cases_order (test_of r) (test_of s)) [
  | inl same ↦ same
  | inr apart ↦ elim apart [
    | inl before ↦ absurd (q.first r before p.applies)
    | inr behind ↦ absurd (p.first s behind q.applies)
  ]
]

pub one_refuses : OneRefuses
one_refuses dirs intent r s p q = one_applies dirs intent r s p.applies q.applies (one_line dirs intent r s p q)

pub none_opens_refused : NoneOpensRefused
none_opens_refused dirs intent opened refusal opens refuses = opens.unrefused refusal refuses.applies
