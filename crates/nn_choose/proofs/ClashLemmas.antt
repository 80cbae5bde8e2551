-- VERSIONs that don't go together, or that this program doesn't read: the refusal of the lowest is the one of the directories.
use Rattle.std.proofs.Common.{◌≡◌, ℕ, ℤ, ◌<◌, Bool, true, false, List, length, Option, Some, None, refl, sym, ◌∙◌, subst, arith}
use Rattle.std.specs.Prelude.{◌==◌, not, option_map, if◌then◌else◌}
use Rattle.std.specs.Str.{bytes_eq}
use Rattle.std.proofs.lemmas.Option.{same_Some, none-some}
use Rattle.nn_base.specs.declared.ids.DirNo.{DirNo}
use Rattle.nn_marks.specs.declared.key.Key.{Key}
use Rattle.nn_marks.specs.declared.key.Key.TheVariants.{NamespaceId, ClusterId, BlockpoolId}
use Rattle.nn_marks.specs.declared.version.Version.{Version}
use Rattle.nn_chain.specs.Folder.{folder_at}
use Rattle.nn_pick.specs.declared.intent.Intent.{Intent}
use Rattle.nn_pick.specs.declared.refusal.Refusal.{Refusal}
use Rattle.nn_pick.specs.declared.refusal.Refusal.TheVariants.{Mismatch}
use Rattle.nn_choose.specs.declared.served.Lead.{Lead}
use Rattle.nn_choose.specs.declared.served.Served.{Served}
use Rattle.nn_pick.specs.Dirs.{Dirs, IsLowest, IsFormatted}
use Rattle.nn_pick.specs.Refused.{first_refused}
use Rattle.nn_pick.specs.Refusing.{Applies, Refuses, Differs, HasLayout, first_difference}
use Rattle.nn_choose.specs.Served.{AreServed, IsFirstOf, served_at, mismatch_in, layout_in}
use Rattle.nn_choose.specs.Picking.{NoneBefore}
use Rattle.nn_pick.proofs.OneRefusalLemmas.{the_lowest, under_same}
use Rattle.nn_pick.proofs.VersionLemmas.{SaysTheSame, says_itself}
use Rattle.nn_choose.proofs.ServedLemmas.{some_refused, none_refused}
use Rattle.nn_choose.proofs.FoundLemmas.{within_dirs, within_list, serves_under, formatted_at, is_formatted, found_at}

-- VERSIONs that say the same differ by the same key
difference_same : (v w a b : Version) → SaysTheSame v w → SaysTheSame a b → first_difference v a ≡ first_difference w b
difference_same v w a b p q = λ k.
    if not (p.namespace k == q.namespace k) then Some NamespaceId
    else if not (bytes_eq (p.cluster k) (q.cluster k)) then Some ClusterId
    else if not (bytes_eq (p.blockpool k) (q.blockpool k)) then Some BlockpoolId
    else None

-- ---- one directory

-- what serves in directory j differs by this key
pub record IsMismatchAt (served : List (Option Served)) (first : Lead) (j : ℕ) (refusal : Refusal) : Type 0 where
  pub it : Served
  pub at : served_at served j ≡ Some it
  pub key : Key
  pub by : first_difference first.served.version it.version ≡ Some key
  pub is : Mismatch first.dir (record { 0 = j }) key ≡ refusal

pub mismatch_at : (served : List (Option Served)) (first : Lead) (j : ℕ) (refusal : Refusal) → mismatch_in first j (served_at served j) ≡ Some refusal → IsMismatchAt served first j refusal
mismatch_at served first j refusal e = of (served_at served j) refl e
  where
    by_key : (it : Served) → served_at served j ≡ Some it → (key : Option Key) → first_difference first.served.version it.version ≡ key
        → option_map (λ (k : Key). Mismatch first.dir (record { 0 = j }) k) key ≡ Some refusal → IsMismatchAt served first j refusal
    by_key it at None by is = cc
    by_key it at (Some key) by is = record { it = it; at = at; key = key; by = by; is = same_Some _ _ is }

    of : (it : Option Served) → served_at served j ≡ it → mismatch_in first j it ≡ Some refusal → IsMismatchAt served first j refusal
    of None at is = cc
    of (Some it) at is = by_key it at (first_difference first.served.version it.version) refl is

-- what serves in directory j has a layout of which the test is true
pub record IsLayoutAt (served : List (Option Served)) (test : ℤ → Bool) (make : DirNo → ℤ → Refusal) (j : ℕ) (refusal : Refusal) : Type 0 where
  pub it : Served
  pub at : served_at served j ≡ Some it
  pub so : test it.version.layout ≡ true
  pub is : make (record { 0 = j }) it.version.layout ≡ refusal

pub layout_at : (served : List (Option Served)) (test : ℤ → Bool) (make : DirNo → ℤ → Refusal) (j : ℕ) (refusal : Refusal) → layout_in test make j (served_at served j) ≡ Some refusal → IsLayoutAt served test make j refusal
layout_at served test make j refusal e = of (served_at served j) refl e
  where
    by_test : (it : Served) → served_at served j ≡ Some it → (so : Bool) → test it.version.layout ≡ so
        → (if so then Some (make (record { 0 = j }) it.version.layout) else None) ≡ Some refusal → IsLayoutAt served test make j refusal
    by_test it at true so is = record { it = it; at = at; so = so; is = same_Some _ _ is }
    by_test it at false so is = cc

    of : (it : Option Served) → served_at served j ≡ it → layout_in test make j it ≡ Some refusal → IsLayoutAt served test make j refusal
    of None at is = cc
    of (Some it) at is = by_test it at (test it.version.layout) refl is

module _ (dirs : Dirs) (served : List (Option Served)) (are : AreServed dirs served) where
  -- ---- clusters

  module _ (first : Lead) (is_first : IsFirstOf served (Some first)) where
    lowest : IsLowest dirs.count (λ j. IsFormatted (dirs.at j)) first.dir.0
    lowest = record {
      below = within_dirs dirs served are first.dir.0 first.served is_first.0;
      holds = is_formatted dirs served are first.dir.0 first.served is_first.0;
      least = λ j lt formatted.
          let below = within_dirs dirs served are first.dir.0 first.served is_first.0 in
          let it = formatted_at dirs served are j (omega (arith, lt, below)) formatted in
          none-some it.0 (sym (is_first.1 j lt) ∙ it.1);
    }

    -- what differs from the VERSION of the first is refused
    differs_refused : (j : ℕ) (key : Key) → j < dirs.count → Differs dirs first.served.version j key → (it : Served) × (served_at served j ≡ Some it) × (first_difference first.served.version it.version ≡ Some key)
    differs_refused j key below differs =
        let found = found_at dirs served are j differs.other differs.folder below differs.under in
        (found.it, found.at, sym (difference_same first.served.version first.served.version differs.other found.it.version (says_itself first.served.version) found.same) ∙ differs.by)

    never_both : (j : ℕ) (key : Key) (it : Served) → served_at served j ≡ Some it → first_difference first.served.version it.version ≡ Some key → mismatch_in first j (served_at served j) ≡ None → ⊥
    never_both j key it at by none =
        let is : mismatch_in first j (Some it) ≡ None = subst (λ (o : Option Served). mismatch_in first j o ≡ None) at none in
        let there : option_map (λ (k : Key). Mismatch first.dir (record { 0 = j }) k) (Some key) ≡ None = subst (λ (o : Option Key). option_map (λ (k : Key). Mismatch first.dir (record { 0 = j }) k) o ≡ None) by is in
        cc

    pub mismatch_refuses : (refusal : Refusal) → first_refused (λ i. mismatch_in first i (served_at served i)) (length served) ≡ Some refusal → NoneBefore dirs 4 → (intent : Intent) → Refuses dirs intent refusal
    mismatch_refuses refusal e passed intent =
        let found = some_refused (λ i. mismatch_in first i (served_at served i)) (length served) refusal e in
        let it = mismatch_at served first found.at refusal found.here in
        let below = within_dirs dirs served are found.at it.it it.at in
        let differs : Differs dirs first.served.version found.at it.key = record { other = it.it.version; folder = folder_at (dirs.at found.at) it.it.sub; under = serves_under dirs served are found.at it.it it.at; by = it.by } in
        subst (Refuses dirs intent) it.is (record {
          applies = (
            lowest,
            first.served.version,
            folder_at (dirs.at first.dir.0) first.served.sub,
            serves_under dirs served are first.dir.0 first.served is_first.0,
            record {
              below = below;
              holds = (it.key, differs);
              least = λ j lt other. let at = differs_refused j other.0 (omega (arith, lt, below)) other.1 in never_both j other.0 at.0 at.1 at.2 (found.none j lt);
            },
            differs,
          );
          first = λ earlier lt. passed intent earlier lt;
        })

    pub no_mismatch : first_refused (λ i. mismatch_in first i (served_at served i)) (length served) ≡ None → (intent : Intent) (f i : DirNo) (key : Key) → ¬ Applies dirs intent (Mismatch f i key)
    no_mismatch e intent f i key applies =
        let place = the_lowest dirs.count (λ j. IsFormatted (dirs.at j)) f.0 first.dir.0 applies.0 lowest in
        let same = under_same dirs f.0 first.dir.0 applies.1 first.served.version applies.2 (folder_at (dirs.at first.dir.0) first.served.sub) place applies.3 (serves_under dirs served are first.dir.0 first.served is_first.0) in
        let from : Differs dirs first.served.version i.0 key = record {
          other = applies.5.other;
          folder = applies.5.folder;
          under = applies.5.under;
          by = sym (difference_same applies.1 first.served.version applies.5.other applies.5.other same (says_itself applies.5.other)) ∙ applies.5.by;
        } in
        let at = differs_refused i.0 key applies.4.below from in
        never_both i.0 key at.0 at.1 at.2 (none_refused (λ j. mismatch_in first j (served_at served j)) (length served) e i.0 (within_list dirs served are i.0 applies.4.below))

  pub none_mismatch : IsFirstOf served None → (intent : Intent) (f i : DirNo) (key : Key) → ¬ Applies dirs intent (Mismatch f i key)
  none_mismatch none intent f i key applies =
      let it = formatted_at dirs served are f.0 applies.0.below applies.0.holds in
      none-some it.0 (sym (none f.0 (within_list dirs served are f.0 applies.0.below)) ∙ it.1)

  -- ---- layouts

  module _ (P : ℤ → Type 0) (test : ℤ → Bool) (make : DirNo → ℤ → Refusal) where
    -- it is of the lowest directory whose layout is so
    pub record IsLowestLayout (refusal : Refusal) : Type 0 where
      pub dir : DirNo
      pub found : ℤ
      pub is : make dir found ≡ refusal
      pub lowest : IsLowest dirs.count (λ j. (layout : ℤ) × HasLayout dirs P j layout) dir.0
      pub has : HasLayout dirs P dir.0 found

    never_so : (j : ℕ) (it : Served) → served_at served j ≡ Some it → test it.version.layout ≡ true → layout_in test make j (served_at served j) ≡ None → ⊥
    never_so j it at so none =
        let is : layout_in test make j (Some it) ≡ None = subst (λ (o : Option Served). layout_in test make j o ≡ None) at none in
        let there : (if true then Some (make (record { 0 = j }) it.version.layout) else None) ≡ None = subst (λ (b : Bool). (if b then Some (make (record { 0 = j }) it.version.layout) else None) ≡ None) so is in
        cc

    module _ (back : (layout : ℤ) → P layout → test layout ≡ true) where
      pub layout_none : (j : ℕ) (layout : ℤ) → j < dirs.count → HasLayout dirs P j layout → layout_in test make j (served_at served j) ≡ None → ⊥
      layout_none j layout below has none =
          let found = found_at dirs served are j has.version has.folder below has.under in
          never_so j found.it found.at (back found.it.version.layout (subst P (sym has.is ∙ found.same.layout) has.so)) none

      pub no_layout : first_refused (λ i. layout_in test make i (served_at served i)) (length served) ≡ None → (j : ℕ) (layout : ℤ) → j < dirs.count → HasLayout dirs P j layout → ⊥
      no_layout e j layout below has = layout_none j layout below has (none_refused (λ i. layout_in test make i (served_at served i)) (length served) e j (within_list dirs served are j below))

      pub layout_lowest : ((layout : ℤ) → test layout ≡ true → P layout) → (refusal : Refusal) → first_refused (λ i. layout_in test make i (served_at served i)) (length served) ≡ Some refusal → IsLowestLayout refusal
      layout_lowest to refusal e =
          let found = some_refused (λ i. layout_in test make i (served_at served i)) (length served) refusal e in
          let it = layout_at served test make found.at refusal found.here in
          let below = within_dirs dirs served are found.at it.it it.at in
          let has : HasLayout dirs P found.at it.it.version.layout = record { version = it.it.version; folder = folder_at (dirs.at found.at) it.it.sub; under = serves_under dirs served are found.at it.it it.at; is = refl; so = to it.it.version.layout it.so } in
          record {
            dir = record { 0 = found.at };
            found = it.it.version.layout;
            is = it.is;
            lowest = record {
              below = below;
              holds = (it.it.version.layout, has);
              least = λ j lt other. layout_none j other.0 (omega (arith, lt, below)) other.1 (found.none j lt);
            };
            has = has;
          }
