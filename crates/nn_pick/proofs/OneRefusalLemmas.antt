-- Of the refusals in one line of the tests at most one applies.
use Rattle.std.proofs.Common.{◌≡◌, inl, inr, ℕ, zero, suc, ◌≤◌, ℤ, Some, None, refl, sym, ◌∙◌, ap, subst, arith}
use Rattle.std.specs.Prelude.{◌==◌, ◌<ℤ◌, not, if◌then◌else◌}
use Rattle.std.specs.Str.{bytes_eq}
use Rattle.std.proofs.lemmas.Bool.{cases_order}
use Rattle.std.proofs.lemmas.Option.{same_Some}
use Rattle.nn_base.specs.declared.ids.DirNo.{DirNo}
use Rattle.nn_marks.specs.declared.fault.VersionFault.{VersionFault}
use Rattle.nn_marks.specs.declared.key.Key.{Key}
use Rattle.nn_marks.specs.declared.key.Key.TheVariants.{NamespaceId, ClusterId, BlockpoolId}
use Rattle.nn_marks.specs.declared.version.Version.{Version}
use Rattle.nn_chain.specs.Folder.{Folder}
use Rattle.nn_chain.specs.Chain.{Reached}
use Rattle.nn_chain.specs.declared.why.ImageWhy.{ImageWhy}
use Rattle.nn_pick.specs.declared.intent.Intent.{Intent}
use Rattle.nn_pick.specs.declared.refusal.PreviousWhy.{PreviousWhy}
use Rattle.nn_pick.specs.declared.refusal.PreviousWhy.TheVariants as why
use Rattle.nn_pick.specs.declared.refusal.Refusal.{Refusal}
use Rattle.nn_pick.specs.declared.refusal.Refusal.TheVariants.{Missing, Inconsistent, Formatted, NotFormatted, BadVersion, Mismatch, FutureLayout, ForeignLayout, NoImage, Gap, Spent, PreviousExists, CtimeSpent, NoPrevious, BadPrevious}
use Rattle.nn_pick.specs.Dirs.{Dirs, IsLowest, IsFormatted, HasGreatestCtime, ServesCurrent, ServesPrevious, ServesUnder, IsGreatestSeen, version_fault}
use Rattle.nn_pick.specs.Refusing.{Applies, SomeChosen, Differs, HasLayout, IsFuture, IsForeign, IsFaulty, IsChosenWithPrevious, HasBadPrevious, IsFirstWrong, IsWrong, first_difference, test_of, order_of}
use Rattle.nn_pick.proofs.VersionLemmas.{SaysTheSame, same_turned, one_current, one_previous, one_under}
use Rattle.nn_pick.proofs.UnderLemmas.{one_image_why}

-- ---- the lowest

one_lowest : (n : ℕ) (P Q : ℕ → Type 0) (i j : ℕ) → ((k : ℕ) → P k → Q k) → ((k : ℕ) → Q k → P k) → IsLowest n P i → IsLowest n Q j → i ≡ j
one_lowest n P Q i j to back p q = elim (cases_order i j) [
  | inl same ↦ same
  | inr apart ↦ elim apart [
    | inl before ↦ absurd (q.least i before (to i p.holds))
    | inr behind ↦ absurd (p.least j behind (back j q.holds))
  ]
]

pub the_lowest : (n : ℕ) (P : ℕ → Type 0) (i j : ℕ) → IsLowest n P i → IsLowest n P j → i ≡ j
the_lowest n P i j p q = one_lowest n P P i j (λ k is. is) (λ k is. is) p q

same_dir : (i j : DirNo) → i.0 ≡ j.0 → i ≡ j
same_dir i j e = λ k. record { 0 = e k }

-- ---- VERSIONs of one directory

pub under_same : (dirs : Dirs) (i j : ℕ) (v w : Version) (a b : Folder) → i ≡ j → ServesUnder (dirs.at i) v a → ServesUnder (dirs.at j) w b → SaysTheSame v w
under_same dirs i j v w a b same p q = one_under (dirs.at i) v w a b p (subst (λ (k : ℕ). ServesUnder (dirs.at k) w b) (sym same) q)

difference_from : (v w other : Version) → SaysTheSame v w → first_difference v other ≡ first_difference w other
difference_from v w other same = λ k.
    if not (same.namespace k == other.namespace) then Some NamespaceId
    else if not (bytes_eq (same.cluster k) other.cluster) then Some ClusterId
    else if not (bytes_eq (same.blockpool k) other.blockpool) then Some BlockpoolId
    else None

difference_to : (v a b : Version) → SaysTheSame a b → first_difference v a ≡ first_difference v b
difference_to v a b same = λ k.
    if not (v.namespace == same.namespace k) then Some NamespaceId
    else if not (bytes_eq v.cluster (same.cluster k)) then Some ClusterId
    else if not (bytes_eq v.blockpool (same.blockpool k)) then Some BlockpoolId
    else None

differs_from : (dirs : Dirs) (v w : Version) (i : ℕ) (key : Key) → SaysTheSame v w → Differs dirs v i key → Differs dirs w i key
differs_from dirs v w i key same is = record { other = is.other; folder = is.folder; under = is.under; by = sym (difference_from v w is.other same) ∙ is.by }

-- ---- line by line

one_bad_version : (dirs : Dirs) (intent : Intent) (i j : DirNo) (a b : VersionFault) → Applies dirs intent (BadVersion i a) → Applies dirs intent (BadVersion j b) → BadVersion i a ≡ BadVersion j b
one_bad_version dirs intent i j a b p q =
    let place = the_lowest dirs.count (IsFaulty dirs) i.0 j.0 p.0 q.0 in
    let folder = one_current (dirs.at i.0) p.1 q.1 p.2 (subst (λ (k : ℕ). ServesCurrent (dirs.at k) q.1) (sym place) q.2) in
    let fault : a ≡ b = same_Some a b (sym p.3 ∙ ap version_fault folder ∙ q.3) in
    λ k. BadVersion (same_dir i j place k) (fault k)

one_mismatch : (dirs : Dirs) (intent : Intent) (e f i j : DirNo) (a b : Key) → Applies dirs intent (Mismatch e i a) → Applies dirs intent (Mismatch f j b) → Mismatch e i a ≡ Mismatch f j b
one_mismatch dirs intent e f i j a b p q =
    let first = the_lowest dirs.count (λ k. IsFormatted (dirs.at k)) e.0 f.0 p.0 q.0 in
    let same = under_same dirs e.0 f.0 p.1 q.1 p.2 q.2 first p.3 q.3 in
    let place = one_lowest dirs.count (λ k. (its : Key) × Differs dirs p.1 k its) (λ k. (its : Key) × Differs dirs q.1 k its) i.0 j.0
    (λ k is. (is.0, differs_from dirs p.1 q.1 k is.0 same is.1))
    (λ k is. (is.0, differs_from dirs q.1 p.1 k is.0 (same_turned p.1 q.1 same) is.1)) p.4 q.4 in
    let others = under_same dirs i.0 j.0 p.5.other q.5.other p.5.folder q.5.folder place p.5.under q.5.under in
    let key : a ≡ b = same_Some a b (sym p.5.by ∙ difference_from p.1 q.1 p.5.other same ∙ difference_to q.1 p.5.other q.5.other others ∙ q.5.by) in
    λ k. Mismatch (same_dir e f first k) (same_dir i j place k) (key k)

one_layout : (dirs : Dirs) (P : ℤ → Type 0) (i j : DirNo) (a b : ℤ) → i.0 ≡ j.0 → HasLayout dirs P i.0 a → HasLayout dirs P j.0 b → a ≡ b
one_layout dirs P i j a b place p q = sym p.is ∙ (under_same dirs i.0 j.0 p.version q.version p.folder q.folder place p.under q.under).layout ∙ q.is

one_no_image : (dirs : Dirs) (intent : Intent) (i j : DirNo) (a b : ImageWhy) → Applies dirs intent (NoImage i a) → Applies dirs intent (NoImage j b) → NoImage i a ≡ NoImage j b
one_no_image dirs intent i j a b p q =
    let place = the_lowest dirs.count (λ k. (version : Version) × (folder : Folder) × HasGreatestCtime dirs k version folder) i.0 j.0 p.0 q.0 in
    let same = under_same dirs i.0 j.0 p.2 q.2 p.3 q.3 place p.4.under q.4.under in
    let folder = one_current (dirs.at i.0) p.3 q.3 p.4.under.serves (subst (λ (k : ℕ). ServesCurrent (dirs.at k) q.3) (sym place) q.4.under.serves) in
    let reason : a ≡ b = one_image_why p.3 q.3 p.2 q.2 a b folder same p.5 q.5 in
    λ k. NoImage (same_dir i j place k) (reason k)

one_last : (dirs : Dirs) (v w : Version) (end other : Reached) → SomeChosen dirs v end → SomeChosen dirs w other → end.last ≡ other.last
one_last dirs v w end other p q =
    let less : other.last ≤ end.last = p.chosen.greatest q.dir w q.folder other q.chosen.ahead q.chosen.chain in
    let more : end.last ≤ other.last = q.chosen.greatest p.dir v p.folder end p.chosen.ahead p.chosen.chain in
    omega (arith, less, more)

one_seen : (dirs : Dirs) (a b : ℕ) → IsGreatestSeen dirs a → IsGreatestSeen dirs b → a ≡ b
one_seen dirs a b p q =
    let less : b ≤ a = p.greatest q.said.0 q.said.1 q.said.2 b q.said.3 q.said.4 in
    let more : a ≤ b = q.greatest p.said.0 p.said.1 p.said.2 a p.said.3 p.said.4 in
    omega (arith, less, more)

-- ---- a previous that can't be opened

reason_at : ℕ → PreviousWhy
reason_at zero = why.Version
reason_at (suc zero) = why.Ids
reason_at (suc (suc zero)) = why.Layout
reason_at (suc (suc (suc zero))) = why.Ctime
reason_at (suc (suc (suc (suc zero)))) = why.Image
reason_at (suc (suc (suc (suc (suc n))))) = why.Gap

reason_at-place : (reason : PreviousWhy) → reason_at (order_of reason) ≡ reason
unfolding reason_at
reason_at-place why.Version = refl
reason_at-place why.Ids = refl
reason_at-place why.Layout = refl
reason_at-place why.Ctime = refl
reason_at-place why.Image = refl
reason_at-place why.Gap = refl

wrong_from : (reason : PreviousWhy) (v w : Version) (folder : Folder) → SaysTheSame v w → IsWrong reason v folder → IsWrong reason w folder
wrong_from why.Version v w folder same is = is
wrong_from why.Ids v w folder same is = (is.0, is.1, λ none. is.2 (difference_from v w is.0 same ∙ none))
wrong_from why.Layout v w folder same is = (is.0, is.1, elim is.2 [ inl foreign ↦ inl foreign | inr below ↦ inr (subst (λ (layout : ℤ). is.0.layout <ℤ layout) same.layout below) ])
wrong_from why.Ctime v w folder same is = (is.0, is.1, subst (λ (n : ℕ). n ≤ is.0.ctime) same.ctime is.2)
wrong_from why.Image v w folder same is = is
wrong_from why.Gap v w folder same is = is

first_wrong : (a b : PreviousWhy) (v w : Version) (folder : Folder) → SaysTheSame v w → IsFirstWrong a v folder → IsFirstWrong b w folder → a ≡ b
first_wrong a b v w folder same p q = elim (cases_order (order_of a) (order_of b)) [
  | inl e ↦ sym (reason_at-place a) ∙ ap reason_at e ∙ reason_at-place b
  | inr apart ↦ elim apart [
    | inl before ↦ absurd (q.1 a before (wrong_from a v w folder same p.0))
    | inr behind ↦ absurd (p.1 b behind (wrong_from b w v folder (same_turned v w same) q.0))
  ]
]

one_reason : (dirs : Dirs) (i j : ℕ) (a b : PreviousWhy) → i ≡ j → HasBadPrevious dirs i a → HasBadPrevious dirs j b → a ≡ b
one_reason dirs i j a b place p q =
    let same = under_same dirs i j p.version q.version p.current q.current place p.chosen.ahead.under q.chosen.ahead.under in
    let folder = one_previous (dirs.at i) p.folder q.folder p.serves (subst (λ (k : ℕ). ServesPrevious (dirs.at k) q.folder) (sym place) q.serves) in
    first_wrong a b p.version q.version q.folder same (subst (λ (f : Folder). IsFirstWrong a p.version f) folder p.wrong) q.wrong

-- ---- all lines

pub one_applies : (dirs : Dirs) (intent : Intent) (r s : Refusal) → Applies dirs intent r → Applies dirs intent s → test_of r ≡ test_of s → r ≡ s
one_applies dirs intent (Missing i) (Missing j) p q e = same_Some _ _ (sym p ∙ q)
one_applies dirs intent (Missing i) (Inconsistent j b) p q e = same_Some _ _ (sym p ∙ q)
one_applies dirs intent (Inconsistent i a) (Missing j) p q e = same_Some _ _ (sym p ∙ q)
one_applies dirs intent (Inconsistent i a) (Inconsistent j b) p q e = same_Some _ _ (sym p ∙ q)
one_applies dirs intent NotFormatted NotFormatted p q e = refl
one_applies dirs intent (BadVersion i a) (BadVersion j b) p q e = one_bad_version dirs intent i j a b p q
one_applies dirs intent (Mismatch f i a) (Mismatch g j b) p q e = one_mismatch dirs intent f g i j a b p q
one_applies dirs intent (FutureLayout i a) (FutureLayout j b) p q e =
    let place = the_lowest dirs.count (λ k. (layout : ℤ) × HasLayout dirs IsFuture k layout) i.0 j.0 p.0 q.0 in
    let layout = one_layout dirs IsFuture i j a b place p.1 q.1 in
    λ k. FutureLayout (same_dir i j place k) (layout k)
one_applies dirs intent (ForeignLayout i a) (ForeignLayout j b) p q e =
    let place = the_lowest dirs.count (λ k. (layout : ℤ) × HasLayout dirs IsForeign k layout) i.0 j.0 p.0 q.0 in
    let layout = one_layout dirs IsForeign i j a b place p.1 q.1 in
    λ k. ForeignLayout (same_dir i j place k) (layout k)
one_applies dirs intent (NoImage i a) (NoImage j b) p q e = one_no_image dirs intent i j a b p q
one_applies dirs intent (Gap a i) (Gap b j) p q e =
    let seen = one_seen dirs a b p.4 q.4 in
    let last : i ≡ j = p.3 ∙ one_last dirs p.0 q.0 p.1 q.1 p.2 q.2 ∙ sym q.3 in
    λ k. Gap (seen k) (last k)
one_applies dirs intent (Spent i) (Spent j) p q e =
    let last : i ≡ j = p.3 ∙ one_last dirs p.0 q.0 p.1 q.1 p.2 q.2 ∙ sym q.3 in
    λ k. Spent (last k)
one_applies dirs intent (PreviousExists i) (PreviousExists j) p q e = let place = the_lowest dirs.count (IsChosenWithPrevious dirs) i.0 j.0 p.1 q.1 in λ k. PreviousExists (same_dir i j place k)
one_applies dirs intent (PreviousExists i) (CtimeSpent b) p q e = absurd (q.6 i.0 p.1.holds)
one_applies dirs intent (CtimeSpent a) (PreviousExists j) p q e = absurd (p.6 j.0 q.1.holds)
one_applies dirs intent (CtimeSpent a) (CtimeSpent b) p q e = let old : a ≡ b = p.5 ∙ sym q.5 in λ k. CtimeSpent (old k)
one_applies dirs intent NoPrevious NoPrevious p q e = refl
one_applies dirs intent (BadPrevious i a) (BadPrevious j b) p q e =
    let place = the_lowest dirs.count (λ k. (its : PreviousWhy) × HasBadPrevious dirs k its) i.0 j.0 p.1 q.1 in
    let reason = one_reason dirs i.0 j.0 a b place p.2 q.2 in
    λ k. BadPrevious (same_dir i j place k) (reason k)
one_applies dirs intent (Formatted i) s p q e = absurd p
one_applies dirs intent r (Formatted j) p q e = absurd q
one_applies dirs intent r s p q e = cc
