-- A directory that the floor has left behind, while its segments, in falling byte order, and then its later images are removed.
use Rattle.std.proofs.Common.{◌≡◌, ◌≢◌, ◌⊎◌, inl, inr, ⊎_elim, ℕ, List, Option, Some, None, refl, sym, ◌∙◌, ap, subst}
use Rattle.nn_base.specs.declared.sub.Sub.{Sub}
use Rattle.nn_base.specs.declared.sub.Sub.TheVariants.{Current}
use Rattle.nn_base.specs.declared.file_name.FileName.{FileName}
use Rattle.nn_base.specs.declared.file_name.FileName.TheVariants as name
use Rattle.nn_base.proofs.NamesLemmas.{sub_tells}
use Rattle.nn_host.specs.Disk.{Disk, Reads, File, Leaves, LeavesFile}
use Rattle.nn_state.specs.declared.state.StorageState.TheVariants.{Normal}
use Rattle.nn_state.specs.Table.{table_of}
use Rattle.nn_state.specs.Typed.{IsIn}
use Rattle.nn_chain.specs.Folder.{folder_at}
use Rattle.nn_chain.specs.Images.{IsIntact}
use Rattle.nn_chain.specs.Chain.{HasNoSegment}
use Rattle.nn_chain.specs.Fair.{IsFair}
use Rattle.nn_chain.proofs.SameLemmas.{intact_same}
use Rattle.nn_marks.specs.declared.version.Version.{Version}
use Rattle.nn_tree.specs.Namespace.{Namespace}
use Rattle.std.proofs.lemmas.Option.{none-some}
use Rattle.std.specs.Prelude.{true, false, is_some}
use Rattle.nn_chain.specs.Records.{first_in}
use Rattle.nn_remake.specs.Removing.{is_segment}
use Rattle.nn_remake.specs.Cutting.{IsCutting}
use Rattle.nn_state.proofs.LeftLemmas.{seven_left}
use Rattle.nn_kept.specs.Kept.{Shared, IsKept}
use Rattle.nn_kept.specs.Laws.{IsOutranked}
use Rattle.nn_steps.specs.Steps.{StaysBehind}
use Rattle.nn_steps.proofs.BesideLemmas.{LeftBeside, left_beside}
use Rattle.nn_steps.proofs.NormalLemmas.{SameMarks, stays_outranked, stays_behind}
use Rattle.nn_steps.specs.NotRaised.{IsNotRaised}
use Rattle.nn_steps.proofs.LoweringLemmas.{IsTrimmed, LeftLower, trimmed_not_raised, bare_not_raised}

-- a stop makes no file
pub left_none : (f : Option File) (w : Option (List ℕ)) → LeavesFile f w → f ≡ None → w ≡ None
left_none None None l e = refl
left_none None (Some bytes) l e = absurd l
left_none (Some f) w l e = cc

-- ---- a disk of which files are gone

-- each file is the same or gone
pub record IsPart (old d : Disk) : Type 0 where
  pub root : d.root ≡ old.root
  pub subs : (s : Sub) → d.has s ≡ old.has s
  pub files : (s : Sub) (n : FileName) → (d.file s n ≡ old.file s n) ⊎ (d.file s n ≡ None)

module _ (old d : Disk) (part : IsPart old d) (c : Reads) (leaves : Leaves d c) where
  pub part_left : LeftBeside (λ s n. d.file s n ≡ None) old d c
  part_left = left_beside (λ s n. d.file s n ≡ None) old d part.root part.subs part.files c leaves

  pub part_gone : (s : Sub) (n : FileName) → d.file s n ≡ None → c.file s n ≡ None
  part_gone s n none = left_none (d.file s n) (c.file s n) (leaves.files s n) none

  pub part_same : (s : Sub) (n : FileName) → d.file s n ≡ old.file s n → c.file s n ≡ part_left.before.file s n
  part_same s n same = ⊎_elim
      (λ is. is)
      (λ none. part_gone s n none ∙ sym (left_none (old.file s n) (part_left.before.file s n) (part_left.left.files s n) (sym same ∙ none)))
      (part_left.files s n)

  pub part_normal : IsIn Normal old → IsIn Normal part_left.before
  part_normal normal = ap table_of (seven_left old part_left.before part_left.left) ∙ normal

  pub part_marks : ((s : Sub) (n : FileName) → s ≢ Current → d.file s n ≡ old.file s n) → d.file Current name.Version ≡ old.file Current name.Version → d.file Current name.Seen ≡ old.file Current name.Seen → SameMarks part_left.before c
  part_marks others version seen = record {
    root = part_left.root;
    subs = part_left.subs;
    others = λ s n apart. part_same s n (others s n apart);
    version = part_same Current name.Version version;
    seen = part_same Current name.Seen seen;
  }

-- ---- segments are removed, and then images

pub name_kind : (o : Option ℕ) → (first : ℕ) → o ≡ Some first → is_some o ≡ true
name_kind None first e = absurd (none-some first e)
name_kind (Some x) first e = refl

name_none : (o : Option ℕ) → o ≡ None → is_some o ≡ false
name_none None e = refl
name_none (Some x) e = absurd (none-some x (sym e))

pub cutting_part : (id : ℕ) (old d : Disk) → IsCutting id old d → IsPart old d
cutting_part id old d is = record {
  root = is.root;
  subs = is.subs;
  files = λ s n. elim (sub_tells s Current) [
    | inr other ↦ inl (is.other_subs s n other.1)
    | inl here ↦ subst (λ (q : Sub). (d.file q n ≡ old.file q n) ⊎ (d.file q n ≡ None)) (sym here.1) (is.files n)
  ];
}

module _ (id : ℕ) (old d : Disk) (is : IsCutting id old d) (c : Reads) (leaves : Leaves d c) where
  part : IsPart old d
  part = cutting_part id old d is

  it : LeftBeside (λ s n. d.file s n ≡ None) old d c
  it = part_left old d part c leaves

  same : (n : FileName) → d.file Current n ≡ old.file Current n → c.file Current n ≡ it.before.file Current n
  unfolding it
  same n e = part_same old d part c leaves Current n e

  gone : (n : FileName) → d.file Current n ≡ None → c.file Current n ≡ None
  gone n e = part_gone old d part c leaves Current n e

  marks : SameMarks it.before c
  unfolding it
  marks = part_marks old d part c leaves is.other_subs (is.others name.Version refl refl) (is.others name.Seen refl refl)

  -- ---- as long as no image is removed

  trimmed : ((n : FileName) → is_segment n ≡ false → d.file Current n ≡ old.file Current n) → IsTrimmed (folder_at it.before Current) (folder_at c Current)
  trimmed others = record {
    others = λ n none. same n (others n (name_none (first_in n) none));
    segments = λ n first begins. ⊎_elim (λ e. inl (same n e)) (λ e. inr (gone n e)) (is.files n);
    falling = λ n m i j x y before. ⊎_elim (λ e. inl (same n e)) (λ e. inr (gone m e)) (is.falling n m (name_kind (first_in n) i x) (name_kind (first_in m) j y) before);
  }

  -- ---- once no segment is left

  no_segment : ((n : FileName) → is_segment n ≡ true → d.file Current n ≡ None) → HasNoSegment (folder_at c Current)
  no_segment none n first ranged begins = gone n (none n (name_kind (first_in n) first begins))

  intact_before : (version : Version) (found : ℕ) (ns : Namespace) → IsIntact (folder_at c Current) version found ns → IsIntact (folder_at it.before Current) version found ns
  intact_before version found ns intact = ⊎_elim
      (λ e. intact_same version (folder_at c Current) (folder_at it.before Current) found ns (record { image = sym (same (name.Image found) e); digest = sym (same (name.Md5 found) (is.others (name.Md5 found) refl refl)) }) intact)
      (λ e. absurd (none-some intact.bytes (sym (gone (name.Image found) e) ∙ intact.there)))
      (is.files (name.Image found))

  lower : (v : Version) → IsNotRaised v (folder_at it.before Current) (folder_at c Current)
  lower v = ⊎_elim
      (λ others. trimmed_not_raised v (folder_at it.before Current) (folder_at c Current) (trimmed others))
      (λ none. bare_not_raised v (folder_at it.before Current) (folder_at c Current) (no_segment none) (intact_before v))
      is.images

  pub cut_lower : LeftLower old d c
  unfolding it
  cut_lower = record { before = it.before; left = it.left; fair = it.fair; says = marks.version; rank = lower }

  cut_behind : (shared : Shared) → IsIn Normal old → StaysBehind shared old → IsFair d c → IsKept shared c × IsOutranked shared c
  unfolding it
  cut_behind shared normal behind fair =
      let was = behind it.before it.left (it.fair fair) in
      let before = part_normal old d part c leaves normal in
      (stays_behind it.before c before marks shared lower was.0 was.1, stays_outranked it.before c before marks shared lower was.1)

-- it stays kept and behind
pub cutting_keeps : (shared : Shared) (id : ℕ) (old d : Disk) → IsIn Normal old → StaysBehind shared old → IsCutting id old d → StaysBehind shared d
cutting_keeps shared id old d normal behind is c leaves fair = cut_behind id old d is c leaves shared normal behind fair
