-- A directory that is NORMAL: `current` serves, and `previous` where it is there; and one that is the same but for records and images.
use Rattle.std.proofs.Common.{true, false, ◌≡◌, ◌≢◌, inl, inr, ℕ, ◌<◌, Bool, List, Option, Some, Result, refl, ◌∙◌, ap, sym, subst}
use Rattle.std.specs.Prelude.{is_some}
use Rattle.std.proofs.lemmas.Option.{none-some, same_Some}
use Rattle.nn_base.specs.declared.sub.Sub.{Sub}
use Rattle.nn_base.specs.declared.sub.Sub.TheVariants.{Current, Previous}
use Rattle.nn_base.specs.declared.file_name.FileName.{FileName}
use Rattle.nn_base.specs.declared.file_name.FileName.TheVariants as name
use Rattle.nn_host.specs.Disk.{Reads}
use Rattle.nn_marks.specs.declared.version.Version.{Version}
use Rattle.nn_state.specs.declared.state.Seven.{Seven}
use Rattle.nn_state.specs.declared.state.StorageState.{StorageState}
use Rattle.nn_state.specs.declared.state.StorageState.TheVariants.{Normal}
use Rattle.nn_state.specs.declared.state.Why.{Why}
use Rattle.nn_state.specs.Table.{seven_of, table_of}
use Rattle.nn_state.specs.Seat.{seat_by, seat_of, if_there, serving, saved}
use Rattle.nn_state.specs.Typed.{IsIn}
use Rattle.nn_chain.specs.Folder.{Folder, HasVersion, HasSeen, folder_at}
use Rattle.nn_chain.specs.Chain.{Reached, IsChain, EndsBare}
use Rattle.nn_state.proofs.TableLemmas.{seven_by}
use Rattle.nn_pick.specs.Dirs.{ServesCurrent, ServesPrevious, ServesUnder}
use Rattle.nn_pick.proofs.VersionLemmas.{one_current}
use Rattle.nn_kept.specs.Kept.{Shared, IsKept}
use Rattle.nn_kept.specs.Laws.{IsOutranked}
use Rattle.nn_kept.specs.Onward.{IsCutFrom}
use Rattle.nn_kept.specs.Ends.{EndsAt}
use Rattle.nn_kept.proofs.KeptOnwardLemmas.{version_there, seen_there, cut_is_kept}
use Rattle.nn_tree.specs.Namespace.{Namespace}
use Rattle.nn_steps.specs.NotRaised.{IsNotRaised}

there_is : (b : Bool) (s : Sub) → if_there b Previous ≡ Some s → Previous ≡ s
there_is true s e = same_Some Previous s e
there_is false s e = absurd (none-some s e)

module _ (c : Reads) (normal : IsIn Normal c) where
  pub normal_serves : serving c ≡ Some Current
  normal_serves = ap (λ (r : Result StorageState Why). (seat_by r (seven_of c)).current) normal

  pub current_serves : ServesCurrent c (folder_at c Current)
  current_serves = record { sub = Current; serves = normal_serves; is = refl }

  -- whatever serves as current is that folder
  pub is_current : (folder : Folder) → ServesCurrent c folder → folder ≡ folder_at c Current
  is_current folder serves = one_current c folder (folder_at c Current) serves current_serves

  normal_saves : saved c ≡ if_there (c.has Previous) Previous
  normal_saves = ap (λ (r : Result StorageState Why). (seat_by r (seven_of c)).previous) normal

  -- and whatever serves as previous has this name
  pub is_previous : (sub : Sub) → saved c ≡ Some sub → Previous ≡ sub
  is_previous sub serves = there_is (c.has Previous) sub (sym normal_saves ∙ serves)

-- ---- another with the same marks

-- all but `current` is the same, and so are its VERSION and its seen_txid
pub record SameMarks (before c : Reads) : Type 0 where
  pub root : c.root ≡ before.root
  pub subs : (s : Sub) → c.has s ≡ before.has s
  pub others : (s : Sub) (n : FileName) → s ≢ Current → c.file s n ≡ before.file s n
  pub version : c.file Current name.Version ≡ before.file Current name.Version
  pub seen : c.file Current name.Seen ≡ before.file Current name.Seen

module _ (before c : Reads) (normal : IsIn Normal before) (same : SameMarks before c) where
  same_seven : seven_of c ≡ seven_of before
  same_seven = seven_by before c same.root same.subs (ap (λ (o : Option (List ℕ)). is_some o) same.version)

  pub normal_too : IsIn Normal c
  normal_too = ap table_of same_seven ∙ normal

  pub saved_same : saved c ≡ saved before
  saved_same = ap (λ (s : Seven). (seat_of s).previous) same_seven

  same_previous : folder_at c Previous ≡ folder_at before Previous
  same_previous = λ k n. same.others Previous n (λ e. cc) k

  pub previous_before : (previous : Folder) → ServesPrevious c previous → ServesPrevious before previous
  previous_before previous serves = record {
    sub = serves.sub;
    serves = sym saved_same ∙ serves.serves;
    is = serves.is ∙ subst (λ (s : Sub). folder_at c s ≡ folder_at before s) (is_previous c normal_too serves.sub serves.serves) same_previous;
  }

  pub cut_from : IsCutFrom before c
  cut_from = record {
    state = (Normal, normal_too, λ e. cc);
    current = λ folder serves. (
        let here = is_current c normal_too folder serves in
        (folder_at before Current, current_serves before normal, ap (λ (f : Folder). f name.Version) here ∙ same.version, ap (λ (f : Folder). f name.Seen) here ∙ same.seen)
        );
    previous = previous_before;
  }

  -- its VERSION says what that of the other says
  pub under_before : (v : Version) (a : Folder) → ServesUnder c v a → ServesUnder before v (folder_at before Current)
  under_before v a under = record {
    serves = current_serves before normal;
    says = version_there (folder_at c Current) (folder_at before Current) v same.version (subst (λ (f : Folder). HasVersion f v) (is_current c normal_too a under.serves) under.says);
  }

  -- where its rank isn't raised it stays behind the floor
  pub stays_outranked : (shared : Shared) → ((v : Version) → IsNotRaised v (folder_at before Current) (folder_at c Current)) → IsOutranked shared before → IsOutranked shared c
  stays_outranked shared lower low v a under = elim (low v (folder_at before Current) (under_before v a under)) [
    | inl less ↦ inl less
    | inr level ↦ inr (level.0, subst (λ (f : Folder). (end : Reached) → IsChain f v end → end.last < shared.floor.last) (sym (is_current c normal_too a under.serves)) (lower v shared.floor.last level.1))
  ]

  -- and is kept
  pub stays_behind : (shared : Shared) → ((v : Version) → IsNotRaised v (folder_at before Current) (folder_at c Current)) → IsKept shared before → IsOutranked shared before → IsKept shared c
  stays_behind shared lower kept low = cut_is_kept shared before c cut_from kept low (λ v a under. inl (stays_outranked shared lower low v a under))

  -- it ends where the other ends, if its chain ends there
  pub marks_end : (version : Version) (has : Bool) (what : Option Namespace) (end : Reached) → EndsAt before version has what end → IsChain (folder_at c Current) version end → EndsBare (folder_at c Current) version end → EndsAt c version has what end
  marks_end version has what end is chain bare =
      let here = is_current before normal is.folder is.under.serves in
      record {
        state = (Normal, normal_too, λ e. cc);
        folder = folder_at c Current;
        under = record {
          serves = current_serves c normal_too;
          says = version_there (folder_at before Current) (folder_at c Current) version (sym same.version) (subst (λ (f : Folder). HasVersion f version) here is.under.says);
        };
        chain = chain;
        bare = bare;
        seen = λ id has_seen. is.seen id (subst (λ (f : Folder). HasSeen f id) (sym here) (seen_there (folder_at c Current) (folder_at before Current) id same.seen has_seen));
        previous = ap (λ (o : Option Sub). is_some o) saved_same ∙ is.previous;
        holds = λ previous serves. (
            let it = is.holds previous (previous_before previous serves) in
            record { sound = it.sound; own = it.own; end = it.end; chain = record { serves = serves; says = it.chain.says; chain = it.chain.chain }; is = it.is; low = it.low; bare = it.bare }
            );
      }
