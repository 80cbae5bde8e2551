-- What directories have that aren't refused: a state, a VERSION that agrees with those of the others, and a seen_txid that tells of no gap.
use Rattle.std.proofs.Common.{◌≡◌, ◌⊎◌, inl, inr, ℕ, zero, suc, ℤ, ◌+◌, ◌<◌, ◌≤◌, ◌^◌, Bool, true, false, List, Option, Some, None, Result, Ok, Err, refl, sym, ◌∙◌, ap, subst, arith}
use Rattle.std.specs.Prelude.{◌≢◌, ◌<ℤ◌, not, ◌==◌, if◌then◌else◌}
use Rattle.std.specs.Str.{bytes_eq}
use Rattle.std.proofs.lemmas.Bool.{cases_lt}
use Rattle.std.proofs.lemmas.Bool.Decides.{Decides-eqb}
use Rattle.std.proofs.lemmas.Slice.Eq.{bytes_eq-Decides}
use Rattle.std.proofs.lemmas.Int.{ints, by_lt_z}
use Rattle.std.proofs.lemmas.Option.{none-some}
use Rattle.nn_base.specs.Limits.{program_layout}
use Rattle.nn_base.specs.declared.ids.DirNo.{DirNo}
use Rattle.nn_base.specs.declared.file_name.FileName.TheVariants as name
use Rattle.nn_base.proofs.DecimalLemmas.{writes_from_number_in}
use Rattle.nn_marks.specs.declared.key.Key.{Key}
use Rattle.nn_marks.specs.declared.key.Key.TheVariants.{NamespaceId, ClusterId, BlockpoolId}
use Rattle.nn_marks.specs.declared.fault.VersionFault.TheVariants.{NoFile}
use Rattle.nn_marks.specs.declared.version.Version.{Version}
use Rattle.nn_state.specs.declared.state.StorageState.{StorageState}
use Rattle.nn_state.specs.declared.state.StorageState.TheVariants.{NonExistent, NotFormatted, Normal, CompleteUpgrade, RecoverUpgrade, CompleteFinalize, CompleteRollback, RecoverRollback, CompleteCheckpoint, RecoverCheckpoint}
use Rattle.nn_state.specs.declared.state.Why.{Why}
use Rattle.nn_state.specs.Table.{seven_of, table_of}
use Rattle.nn_state.specs.Seat.{serving}
use Rattle.nn_chain.specs.Folder.{Folder, HasVersion, HasSeen, folder_at}
use Rattle.nn_chain.specs.Chain.{Reached}
use Rattle.nn_pick.specs.declared.intent.Intent.{Intent}
use Rattle.nn_pick.specs.declared.refusal.Refusal.{Refusal}
use Rattle.nn_pick.specs.declared.refusal.Refusal.TheVariants as refusal
use Rattle.nn_pick.specs.Refused.{unusable, first_refused, or_else}
use Rattle.nn_pick.specs.Dirs.{Dirs, IsLowest, IsFormatted, ServesCurrent, ServesUnder, HasGreatestCtime, version_fault, fault_in}
use Rattle.nn_pick.specs.Refusing.{spent_from, IsUnrefused, SomeChosen, IsFaulty, Differs, HasLayout, IsFuture, IsForeign, IsOurLayout, first_difference}
use Rattle.nn_kept.specs.Kept.{HasState}
use Rattle.nn_pick.proofs.OneImageLemmas.{each_unrefused}
use Rattle.nn_pick.proofs.VersionLemmas.{one_current}
use Rattle.nn_marks.proofs.FaultlessLemmas.{faultless}
use Rattle.nn_pick.proofs.HoldsLemmas.{serves_formatted}
use Rattle.nn_kept.proofs.KeptLemmas.{under_each}
use Rattle.nn_kept.proofs.KeptOpenLemmas.{lowest_of, there, some_or_none}

-- where none is the lowest, P holds of none
none_of : (n : ℕ) (P : ℕ → Type 0) → ((i : ℕ) → i < n → P i ⊎ (¬ P i)) → ((k : ℕ) → ¬ IsLowest n P k) → (i : ℕ) → i < n → ¬ P i
none_of n P decided no_lowest = elim (lowest_of n P decided) [ inl found ↦ absurd (no_lowest found.0 found.1) | inr none ↦ none ]

-- where one can always climb to a greater one, and not above a bound, there is none
none_above : (bound : ℕ) (P : ℕ → Type 0) → ((m : ℕ) → P m → m ≤ bound) → ((m : ℕ) → P m → ((j : ℕ) → P j → j ≤ m) → ⊥) → (k m : ℕ) → bound ≤ m + k → P m → ⊥
none_above bound P bounded none zero m far is = none m is (λ j other. (let low = bounded j other in omega (arith, low, far)))
none_above bound P bounded none (suc k) m far is = none m is (λ j other. elim (cases_lt m j) [
  | inl more ↦ absurd (none_above bound P bounded none k j (omega (arith, far, more)) other)
  | inr less ↦ less
])

-- ---- the table

-- what an unusable directory refuses
data Unusable (o : Option Refusal) : Type 0 where
  Fine : o ≡ None → Unusable o
  IsMissing : (i : DirNo) → o ≡ Some (refusal.Missing i) → Unusable o
  IsInconsistent : (i : DirNo) (why : Why) → o ≡ Some (refusal.Inconsistent i why) → Unusable o

unusable_so : (j : ℕ) (r : Result StorageState Why) → Unusable (unusable j r)
unusable_so j (Ok NonExistent) = IsMissing (record { 0 = j }) refl
unusable_so j (Ok NotFormatted) = Fine refl
unusable_so j (Ok Normal) = Fine refl
unusable_so j (Ok CompleteUpgrade) = Fine refl
unusable_so j (Ok RecoverUpgrade) = Fine refl
unusable_so j (Ok CompleteFinalize) = Fine refl
unusable_so j (Ok CompleteRollback) = Fine refl
unusable_so j (Ok RecoverRollback) = Fine refl
unusable_so j (Ok CompleteCheckpoint) = Fine refl
unusable_so j (Ok RecoverCheckpoint) = Fine refl
unusable_so j (Err why) = IsInconsistent (record { 0 = j }) why refl

or_else_so : (o p : Option Refusal) → Unusable o → Unusable p → Unusable (or_else o p)
or_else_so None p a b = b
or_else_so (Some r) p a b = a

first_so : (t : ℕ → Result StorageState Why) (n : ℕ) → Unusable (first_refused (λ j. unusable j (t j)) n)
first_so t zero = Fine refl
first_so t (suc n) = or_else_so (first_refused (λ j. unusable j (t j)) n) (unusable n (t n)) (first_so t n) (unusable_so n (t n))

both_none : (o p : Option Refusal) → or_else o p ≡ None → (o ≡ None) × (p ≡ None)
both_none None p e = (refl, e)
both_none (Some r) p e = absurd (none-some r (sym e))

usable_state : (j : ℕ) (r : Result StorageState Why) → unusable j r ≡ None → (state : StorageState) × (r ≡ Ok state) × (state ≢ NonExistent)
usable_state j (Ok NonExistent) e = absurd (none-some _ (sym e))
usable_state j (Ok NotFormatted) e = (NotFormatted, refl, λ same. cc)
usable_state j (Ok Normal) e = (Normal, refl, λ same. cc)
usable_state j (Ok CompleteUpgrade) e = (CompleteUpgrade, refl, λ same. cc)
usable_state j (Ok RecoverUpgrade) e = (RecoverUpgrade, refl, λ same. cc)
usable_state j (Ok CompleteFinalize) e = (CompleteFinalize, refl, λ same. cc)
usable_state j (Ok CompleteRollback) e = (CompleteRollback, refl, λ same. cc)
usable_state j (Ok RecoverRollback) e = (RecoverRollback, refl, λ same. cc)
usable_state j (Ok CompleteCheckpoint) e = (CompleteCheckpoint, refl, λ same. cc)
usable_state j (Ok RecoverCheckpoint) e = (RecoverCheckpoint, refl, λ same. cc)
usable_state j (Err why) e = absurd (none-some _ (sym e))

-- ---- VERSION

read_version : (folder : Folder) → version_fault folder ≡ None → (v : Version) × HasVersion folder v
read_version folder none = by (folder name.Version) refl
  where
    by : (o : Option (List ℕ)) → folder name.Version ≡ o → (v : Version) × HasVersion folder v
    by None is = absurd (none-some NoFile (sym none ∙ ap fault_in is))
    by (Some bytes) is = let it = faultless bytes (sym (ap fault_in is) ∙ none) in (it.0, (bytes, is, it.1))

-- the key by which of the three are the same
abbrev key_by : Bool → Bool → Bool → Option Key
key_by x y z = if not x then Some NamespaceId else if not y then Some ClusterId else if not z then Some BlockpoolId else None

no_difference_agrees : (a b : Version) → first_difference a b ≡ None → (a.namespace ≡ b.namespace) × (a.cluster ≡ b.cluster) × (a.blockpool ≡ b.blockpool)
no_difference_agrees a b none = by (a.namespace == b.namespace) (bytes_eq a.cluster b.cluster) (bytes_eq a.blockpool b.blockpool) refl refl refl
  where
    by : (x y z : Bool) → (a.namespace == b.namespace) ≡ x → bytes_eq a.cluster b.cluster ≡ y → bytes_eq a.blockpool b.blockpool ≡ z → (a.namespace ≡ b.namespace) × (a.cluster ≡ b.cluster) × (a.blockpool ≡ b.blockpool)
    by true true true p q r = ((Decides-eqb a.namespace b.namespace).0 p, (bytes_eq-Decides a.cluster b.cluster).0 q, (bytes_eq-Decides a.blockpool b.blockpool).0 r)
    by false y z p q r = absurd (none-some NamespaceId (sym none ∙ (λ k. key_by (p k) (q k) (r k))))
    by true false z p q r = absurd (none-some ClusterId (sym none ∙ (λ k. key_by (p k) (q k) (r k))))
    by true true false p q r = absurd (none-some BlockpoolId (sym none ∙ (λ k. key_by (p k) (q k) (r k))))

our_layout : (layout : ℤ) → ¬ (layout <ℤ program_layout) → ¬ (program_layout <ℤ layout) → IsOurLayout layout
our_layout layout low high = by_lt_z layout program_layout (λ less. absurd (low less)) (λ most. by_lt_z program_layout layout (λ more. absurd (high more)) (λ least. omega (arith, ints, most, least)))

-- ---- seen_txid

seen_range : (folder : Folder) (id : ℕ) → HasSeen folder id → id ≤ 2 ^ 63
seen_range folder id (inl says) = let small = (writes_from_number_in says.2.0 id says.2.1).small in omega (arith, small)
seen_range folder id (inr none) = omega (arith, none.0)

-- ---- directories that aren't refused

module _ (dirs : Dirs) (intent : Intent) (unrefused : IsUnrefused dirs intent) where
  none_refuses : first_refused (λ j. unusable j (table_of (seven_of (dirs.at j)))) dirs.count ≡ None
  none_refuses = elim (first_so (λ j. table_of (seven_of (dirs.at j))) dirs.count) [
    | Fine none ↦ none
    | IsMissing i is ↦ absurd (unrefused (refusal.Missing i) is)
    | IsInconsistent i why is ↦ absurd (unrefused (refusal.Inconsistent i why) is)
  ]

  pub has_state : (i : ℕ) → i < dirs.count → HasState (dirs.at i)
  has_state i below = usable_state i (table_of (seven_of (dirs.at i))) (each_unrefused (λ j. unusable j (table_of (seven_of (dirs.at j)))) dirs.count none_refuses i below)

  -- what serves, if anything does

  current : (i : ℕ) → (serving (dirs.at i) ≡ None) ⊎ ((folder : Folder) × ServesCurrent (dirs.at i) folder)
  current i = elim (some_or_none (serving (dirs.at i))) [
    | inl has ↦ (let sub = there (serving (dirs.at i)) has in inr (folder_at (dirs.at i) sub.0, record { sub = sub.0; serves = sub.1; is = refl }))
    | inr none ↦ inl none
  ]

  faulty_decided : (i : ℕ) → i < dirs.count → IsFaulty dirs i ⊎ (¬ IsFaulty dirs i)
  faulty_decided i below = elim (current i) [
    | inl none ↦ inr (λ is. serves_formatted (dirs.at i) is.0 is.1 none)
    | inr it ↦ elim (some_or_none (version_fault it.0)) [
      | inl fault ↦ inl (it.0, it.1, fault)
      | inr fine ↦ inr (λ is. is.2 (ap version_fault (one_current (dirs.at i) is.0 it.0 is.1 it.1) ∙ fine))
    ]
  ]

  no_faulty : (i : ℕ) → i < dirs.count → ¬ IsFaulty dirs i
  no_faulty = none_of dirs.count (IsFaulty dirs) faulty_decided (λ k low. (
      let fault = there (version_fault low.holds.0) low.holds.2 in
      unrefused (refusal.BadVersion (record { 0 = k }) fault.0) (low, low.holds.0, low.holds.1, fault.1)
      ))

  pub read : (i : ℕ) → i < dirs.count → (serving (dirs.at i) ≡ None) ⊎ ((v : Version) × (folder : Folder) × ServesUnder (dirs.at i) v folder)
  read i below = elim (current i) [
    | inl none ↦ inl none
    | inr it ↦ (
        let fine : version_fault it.0 ≡ None = elim (some_or_none (version_fault it.0)) [ inl fault ↦ absurd (no_faulty i below (it.0, it.1, fault)) | inr none ↦ none ] in
        let version = read_version it.0 fine in
        inr (version.0, it.0, record { serves = it.1; says = version.1 })
        )
  ]

  -- the ids

  module _ (k : ℕ) (first : IsLowest dirs.count (λ j. IsFormatted (dirs.at j)) k) (w : Version) (b : Folder) (under : ServesUnder (dirs.at k) w b) where
    differs_decided : (i : ℕ) → i < dirs.count → ((key : Key) × Differs dirs w i key) ⊎ (¬ ((key : Key) × Differs dirs w i key))
    differs_decided i below = elim (read i below) [
      | inl none ↦ inr (λ is. serves_formatted (dirs.at i) is.1.folder is.1.under.serves none)
      | inr it ↦ elim (some_or_none (first_difference w it.0)) [
        | inl differs ↦ (let key = there (first_difference w it.0) differs in inl (key.0, record { other = it.0; folder = it.1; under = it.2; by = key.1 }))
        | inr same ↦ inr (λ is. none-some is.0 (sym (under_each (dirs.at i) (λ x f. first_difference w x ≡ None) it.0 is.1.other it.1 is.1.folder it.2 is.1.under same) ∙ is.1.by))
      ]
    ]

    none_differs : (i : ℕ) → i < dirs.count → ¬ ((key : Key) × Differs dirs w i key)
    none_differs = none_of dirs.count (λ i. (key : Key) × Differs dirs w i key) differs_decided (λ j low.
        unrefused (refusal.Mismatch (record { 0 = k }) (record { 0 = j }) low.holds.0) (first, w, b, under, low, low.holds.1))

    agrees_first : (i : ℕ) (v : Version) (a : Folder) → i < dirs.count → ServesUnder (dirs.at i) v a → (w.namespace ≡ v.namespace) × (w.cluster ≡ v.cluster) × (w.blockpool ≡ v.blockpool)
    agrees_first i v a below is = no_difference_agrees w v (elim (some_or_none (first_difference w v)) [
      | inl differs ↦ (let key = there (first_difference w v) differs in absurd (none_differs i below (key.0, record { other = v; folder = a; under = is; by = key.1 })))
      | inr none ↦ none
    ])

  first_formatted : (i : ℕ) → i < dirs.count → IsFormatted (dirs.at i) → (k : ℕ) × IsLowest dirs.count (λ j. IsFormatted (dirs.at j)) k
  first_formatted i below is = elim (lowest_of dirs.count (λ j. IsFormatted (dirs.at j)) (λ j inside. elim (some_or_none (serving (dirs.at j))) [ inl has ↦ inl has | inr none ↦ inr (λ has. has none) ])) [
    | inl found ↦ found
    | inr none ↦ absurd (none i below is)
  ]

  pub agree : (i j : ℕ) (v w : Version) (a b : Folder) → i < dirs.count → j < dirs.count → ServesUnder (dirs.at i) v a → ServesUnder (dirs.at j) w b → (v.namespace ≡ w.namespace) × (v.cluster ≡ w.cluster) × (v.blockpool ≡ w.blockpool)
  agree i j v w a b below inside is other =
      let first = first_formatted i below (serves_formatted (dirs.at i) a is.serves) in
      elim (read first.0 first.1.below) [
        | inl none ↦ absurd (first.1.holds none)
        | inr it ↦ (
            let p = agrees_first first.0 first.1 it.0 it.1 it.2 i v a below is in
            let q = agrees_first first.0 first.1 it.0 it.1 it.2 j w b inside other in
            (sym p.0 ∙ q.0, sym p.1 ∙ q.1, sym p.2 ∙ q.2)
            )
      ]

  -- the layout

  layout_decided : (P : ℤ → Type 0) → ((layout : ℤ) → P layout ⊎ (¬ P layout)) → (i : ℕ) → i < dirs.count → ((layout : ℤ) × HasLayout dirs P i layout) ⊎ (¬ ((layout : ℤ) × HasLayout dirs P i layout))
  layout_decided P decided i below = elim (read i below) [
    | inl none ↦ inr (λ is. serves_formatted (dirs.at i) is.1.folder is.1.under.serves none)
    | inr it ↦ elim (decided it.0.layout) [
      | inl so ↦ inl (it.0.layout, record { version = it.0; folder = it.1; under = it.2; is = refl; so = so })
      | inr not_so ↦ inr (λ is. not_so (subst P (sym is.1.is ∙ under_each (dirs.at i) (λ x f. is.1.version.layout ≡ x.layout) is.1.version it.0 is.1.folder it.1 is.1.under it.2 refl) is.1.so))
    ]
  ]

  future_decided : (layout : ℤ) → IsFuture layout ⊎ (¬ IsFuture layout)
  future_decided layout = by_lt_z layout program_layout (λ less. inl less) (λ most. inr (λ less. omega (arith, ints, most, less)))

  foreign_decided : (layout : ℤ) → IsForeign layout ⊎ (¬ IsForeign layout)
  foreign_decided layout = by_lt_z program_layout layout (λ more. inl (more, λ same. omega (arith, ints, more, same))) (λ least. inr (λ is. (let more = is.0 in omega (arith, ints, least, more))))

  no_future : (i : ℕ) → i < dirs.count → ¬ ((layout : ℤ) × HasLayout dirs IsFuture i layout)
  no_future = none_of dirs.count (λ i. (layout : ℤ) × HasLayout dirs IsFuture i layout) (layout_decided IsFuture future_decided) (λ k low. unrefused (refusal.FutureLayout (record { 0 = k }) low.holds.0) (low, low.holds.1))

  no_foreign : (i : ℕ) → i < dirs.count → ¬ ((layout : ℤ) × HasLayout dirs IsForeign i layout)
  no_foreign = none_of dirs.count (λ i. (layout : ℤ) × HasLayout dirs IsForeign i layout) (layout_decided IsForeign foreign_decided) (λ k low. unrefused (refusal.ForeignLayout (record { 0 = k }) low.holds.0) (low, low.holds.1))

  pub ours : (i : ℕ) (v : Version) (a : Folder) → i < dirs.count → ServesUnder (dirs.at i) v a → IsOurLayout v.layout
  ours i v a below is = our_layout v.layout
      (λ less. no_future i below (v.layout, record { version = v; folder = a; under = is; is = refl; so = less }))
      (λ more. no_foreign i below (v.layout, record { version = v; folder = a; under = is; is = refl; so = (more, λ same. omega (arith, ints, more, same)) }))

  -- the last id

  pub no_spent : (v : Version) (end : Reached) → SomeChosen dirs v end → end.last < spent_from
  no_spent v end is = elim (cases_lt end.last (spent_from)) [ inl low ↦ low | inr high ↦ absurd (unrefused (refusal.Spent end.last) (v, end, is, refl, high)) ]

  module _ (v : Version) (end : Reached) (some : SomeChosen dirs v end) where
    -- an id that some seen_txid of the greatest cTime says, and that is too high
    Said : ℕ → Type 0
    Said m = ((i : ℕ) × (w : Version) × (b : Folder) × HasGreatestCtime dirs i w b × HasSeen b m) × (end.last + 1 < m)

    pub no_gap : (i : ℕ) (w : Version) (b : Folder) (id : ℕ) → HasGreatestCtime dirs i w b → HasSeen b id → id ≤ end.last + 1
    unfolding Said
    no_gap i w b id ahead has = elim (cases_lt (end.last + 1) id) [
      | inl more ↦ absurd (none_above (2 ^ 63) Said (λ m said. seen_range said.0.2 m said.0.4) (λ m said greatest.
          unrefused (refusal.Gap m end.last) (
            v,
            end,
            some,
            refl,
            record {
              said = said.0;
              greatest = λ j other its other_id is says. elim (cases_lt (end.last + 1) other_id) [
                | inl high ↦ greatest other_id ((j, other, its, is, says), high)
                | inr low ↦ (let above = said.1 in omega (arith, low, above))
              ];
            },
            said.1,
          )) (2 ^ 63) id (omega arith) ((i, w, b, ahead, has), more))
      | inr low ↦ low
    ]
