-- What a stop leaves of a directory that isn't formatted or that was made, and the chain of the latter.
use Rattle.std.proofs.Common.{◌≡◌, ◌≢◌, ℕ, List, Option, Some, None, inl, inr, ⊎_elim, refl, ◌∙◌, ap, subst, arith}
use Rattle.std.specs.Fmt.{decimal}
use Rattle.std.specs.Prelude.{false}
use Rattle.nn_base.specs.declared.sub.Sub.TheVariants.{Current, Previous}
use Rattle.nn_base.specs.declared.file_name.FileName.{FileName}
use Rattle.nn_base.specs.declared.file_name.FileName.TheVariants as name
use Rattle.nn_base.specs.Names.{first_id}
use Rattle.nn_host.specs.Disk.{Disk, Reads, File, Leaves, LeavesFile, certain}
use Rattle.nn_host.proofs.CleanLemmas.{sure_left}
use Rattle.nn_state.specs.Table.{table_of}
use Rattle.nn_state.specs.Typed.{FitsFresh, FitsReady}
use Rattle.nn_marks.specs.declared.version.Version.{Version}
use Rattle.nn_marks.specs.Seen.{seen_text_of}
use Rattle.nn_marks.specs.VersionText.{version_text_of}
use Rattle.nn_marks.proofs.SeenLemmas.{number_in-decimal}
use Rattle.nn_marks.proofs.VersionTextLemmas.{reads_back}
use Rattle.nn_tree.specs.Namespace.{Namespace}
use Rattle.nn_chain.specs.Folder.{folder_at}
use Rattle.nn_chain.specs.Images.{IsIntact}
use Rattle.nn_chain.specs.Chain.{HasNoSegment, HasNoLater}
use Rattle.nn_chain.proofs.BareLemmas.{bare_chain}
use Rattle.nn_remake.specs.Made.{JustCurrent, IsMade, ReadsMade, Serves, FreshOrMadeIsLeft}
use Rattle.nn_chain.proofs.SameLemmas.{not_segment}
use Rattle.nn_state.proofs.TableLemmas.{table_at_rest}
use Rattle.nn_state.proofs.LeftLemmas.{seven_left}
use Rattle.nn_remake.proofs.MakingLemmas.{just_seven}

-- ---- a directory that isn't formatted

pub fresh_left : (d : Disk) (c : Reads) → Leaves d c → FitsFresh d → FitsFresh c
fresh_left d c leaves fresh = ap table_of (seven_left d c leaves) ∙ fresh

-- ---- a directory that was made

-- a stop makes no file
pub none_left : (d : Disk) (c : Reads) (n : FileName) → Leaves d c → d.file Current n ≡ None → c.file Current n ≡ None
none_left d c n leaves none = go (c.file Current n) (subst (λ (f : Option File). LeavesFile f (c.file Current n)) none (leaves.files Current n))
  where
    go : (w : Option (List ℕ)) → LeavesFile None w → w ≡ None
    go None l = refl
    go (Some bytes) l = absurd l

-- four files that are synced are left as they are
just_left : {id : ℕ} {version seen image digest : List ℕ} (d : Disk) (c : Reads) → JustCurrent id (certain (Some version)) (certain (Some seen)) (certain (Some image)) (certain (Some digest)) d → Leaves d c
    → JustCurrent id (Some version) (Some seen) (Some image) (Some digest) c
just_left {id} {version} {seen} {image} {digest} d c just leaves = record {
  root = leaves.root ∙ just.root;
  current = leaves.subs Current ∙ just.current;
  other_subs = λ s ne. leaves.subs s ∙ just.other_subs s ne;
  version_file = sure_left d c Current name.Version version leaves just.version_file;
  seen_file = sure_left d c Current name.Seen seen leaves just.seen_file;
  image_files = record {
    image = sure_left d c Current (name.Image id) image leaves just.image_files.image;
    digest = sure_left d c Current (name.Md5 id) digest leaves just.image_files.digest;
  };
  other_files = λ n w x y z. none_left d c n leaves (just.other_files n w x y z);
}

-- so it reads as it was made
pub made_left : (version : Version) (id : ℕ) (ns : Namespace) (d : Disk) (c : Reads) → IsMade version id ns d → Leaves d c → ReadsMade version id ns c
made_left version id ns d c made leaves =
    let whole = just_left d c made.whole leaves in
    record { normal = ap table_of (just_seven c whole) ∙ table_at_rest false; bytes = made.bytes; image = made.image; whole = whole }

-- ---- a directory that reads as it was made

module _ {version : Version} {id : ℕ} {ns : Namespace} (c : Reads) (made : ReadsMade version id ns c) where
  pub made_intact : IsIntact (folder_at c Current) version id ns
  made_intact = record { bytes = made.bytes; there = made.whole.image_files.image; digest = made.whole.image_files.digest; image = made.image }

  pub made_no_later : HasNoLater (folder_at c Current) id
  made_no_later later ranged above =
      let other : name.Image later ≢ name.Image id = λ e. let same : later ≡ id = ap first_id e in omega (arith, above, same) in
      made.whole.other_files (name.Image later) (λ e. cc) (λ e. cc) other (λ e. cc)

  pub made_no_segment : HasNoSegment (folder_at c Current)
  made_no_segment n first ranged begins =
      made.whole.other_files n (not_segment n name.Version first refl begins) (not_segment n name.Seen first refl begins) (not_segment n (name.Image id) first refl begins) (not_segment n (name.Md5 id) first refl begins)

  pub made_serves : Serves version id ns c
  made_serves =
      let chain = bare_chain (folder_at c Current) version id ns made_intact made_no_later made_no_segment in
      record {
        says = (version_text_of version, made.whole.version_file, reads_back version);
        seen = (seen_text_of id, made.whole.seen_file, (decimal id, number_in-decimal id made.image.long, inr refl));
        chain = chain.0;
        bare = chain.1;
      }

pub fresh_or_made_left : (version : Version) (id : ℕ) (ns : Namespace) → FreshOrMadeIsLeft version id ns
fresh_or_made_left version id ns d c is leaves = ⊎_elim
    (λ fresh. inl (fresh_left d c leaves fresh))
    (λ made. let whole = made_left version id ns d c made leaves in inr (record { whole = whole; serves = made_serves c whole }))
    is

-- it is one that serves
pub made_ready : {version : Version} {id : ℕ} {ns : Namespace} (c : Reads) → ReadsMade version id ns c → FitsReady c
made_ready c made = record { normal = made.normal; nothing_saved = made.whole.other_subs Previous (λ e. cc) }
