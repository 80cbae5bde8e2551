-- Directories behind which a journal was begun: what each holds, and that they stand as between two lines of a run.
use Rattle.std.proofs.Common.{◌≡◌, ◌≢◌, ◌⊎◌, inl, inr, ⊎_elim, ℕ, ◌+◌, ◌<◌, Bool, true, List, [], ◌∷◌, ◌++◌, Option, Some, None, refl, sym, ◌∙◌, ap, subst, arith, true≢false}
use Rattle.std.specs.Prelude.{is_some}
use Rattle.std.proofs.lemmas.List.{append-nil}
use Rattle.std.proofs.lemmas.Option.{none-some, same_Some}
use Rattle.nn_base.specs.DirSets.{Members, has}
use Rattle.nn_base.specs.declared.sub.Sub.{Sub}
use Rattle.nn_base.specs.declared.sub.Sub.TheVariants.{Current}
use Rattle.nn_base.specs.declared.file_name.FileName.{FileName}
use Rattle.nn_base.specs.declared.file_name.FileName.TheVariants as name
use Rattle.nn_base.proofs.NamesLemmas.{sub_tells, file_tells}
use Rattle.nn_host.specs.Disk.{Disk, File, Reads, Leaves, certain}
use Rattle.nn_host.specs.Moments.{State, disk_at}
use Rattle.nn_host.proofs.CleanLemmas.{whole, reading}
use Rattle.nn_marks.specs.declared.version.Version.{Version}
use Rattle.nn_state.specs.declared.state.Seven.{Seven}
use Rattle.nn_state.specs.declared.state.StorageState.TheVariants.{Normal}
use Rattle.nn_state.specs.Table.{seven_of, table_of}
use Rattle.nn_state.specs.Seat.{seat_of, saved}
use Rattle.nn_state.specs.Typed.{IsIn}
use Rattle.nn_tree.specs.Namespace.{Namespace}
use Rattle.nn_chain.specs.Folder.{folder_at}
use Rattle.nn_chain.specs.Images.{IsIntact}
use Rattle.nn_chain.specs.Records.{first_in}
use Rattle.nn_remake.specs.Publishing.{IsWhole, digest_of}
use Rattle.nn_remake.specs.Tidying.{is_unnamed}
use Rattle.nn_segment_file.specs.Log.{Beside, IsOfLog}
use Rattle.nn_segment_file.specs.Stages.{IsAlone}
use Rattle.nn_segment_file.specs.Steps.{IsGoing}
use Rattle.nn_segment_file.proofs.BesideLemmas.{not_log}
use Rattle.nn_segment_file.proofs.StageLemmas.{stage_logs}
use Rattle.nn_journal.specs.Among.{AllAt, AllAlone}
use Rattle.nn_journal.specs.Places.{start_record}
use Rattle.nn_pick.specs.Refusing.{spent_from}
use Rattle.nn_kept.specs.Kept.{Shared}
use Rattle.nn_kept.specs.Laws.{EachLeft}
use Rattle.nn_kept.specs.Ends.{EndsBetween}
use Rattle.nn_steps.specs.Steps.{IsSure}
use Rattle.nn_steps.proofs.BesideLemmas.{LeftBeside, left_beside}
use Rattle.nn_steps.proofs.SeatLemmas.{reads_whole, reads_fair}
use Rattle.nn_steps.proofs.LoggedLemmas.{logging_ends}
use Rattle.nn_run.specs.Steps.{BetweenLines}
use Rattle.nn_start.specs.Together.{IsAtRest}
use Rattle.nn_start.proofs.KeepLemmas.{log_young, young_seven}
use Rattle.nn_begin.specs.Begun.{AreAtRest, IsStarted, first_stage}
use Rattle.nn_begin.proofs.MomentLemmas.{steady_from}

-- ---- one directory

-- a file that is certain as it reads
certain_of : (f : Option File) (w : Option (List ℕ)) (bytes : List ℕ) → f ≡ certain w → whole f ≡ Some bytes → f ≡ certain (Some bytes)
certain_of f None bytes e is = absurd (none-some bytes (sym (ap whole e) ∙ is))
certain_of f (Some read) bytes e is = e ∙ ap (λ (l : List ℕ). certain (Some l)) (sym (append-nil read) ∙ same_Some (read ++ []) bytes (sym (ap whole e) ∙ is))

-- an image that each fair stop leaves intact is whole, if its files are certain
sure_whole : (version : Version) (id i : ℕ) (ns : Namespace) (a : State) → IsSure Current i a → EachLeft (disk_at a i) (λ c. IsIntact (folder_at c Current) version id ns) → IsWhole version id ns (disk_at a i)
sure_whole version id i ns a sure intact =
    let it = intact (reading (disk_at a i)) (reads_whole (disk_at a i)) (reads_fair (disk_at a i)) in
    record {
      bytes = it.bytes;
      image = it.image;
      stands = record {
        image = certain_of ((disk_at a i).file Current (name.Image id)) ((a.reads i).file Current (name.Image id)) it.bytes (sure (name.Image id)) it.there;
        digest = certain_of ((disk_at a i).file Current (name.Md5 id)) ((a.reads i).file Current (name.Md5 id)) (digest_of id it.bytes) (sure (name.Md5 id)) it.digest;
      };
    }

-- a file that isn't of the log, by its name
not_unnamed : (n : FileName) → is_unnamed n ≡ true → n ≢ name.SeenTmp → (first_in n ≡ None) × (n ≢ name.Seen)
not_unnamed name.VersionTmp e apart = (refl, λ e. cc)
not_unnamed name.SeenTmp e apart = absurd (apart refl)
not_unnamed (name.Md5Tmp other) e apart = (refl, λ e. cc)
not_unnamed (name.Ckpt other) e apart = (refl, λ e. cc)
not_unnamed name.Version e apart = absurd (true≢false (sym e))
not_unnamed name.Seen e apart = absurd (true≢false (sym e))
not_unnamed (name.Image other) e apart = absurd (true≢false (sym e))
not_unnamed (name.Md5 other) e apart = absurd (true≢false (sym e))
not_unnamed (name.Edits span) e apart = absurd (true≢false (sym e))
not_unnamed (name.InProgress first) e apart = absurd (true≢false (sym e))

module _ (shared : Shared) (version : Version) (id i : ℕ) (a : State) (rest : IsAtRest shared version id i a) (d : Disk) (beside : Beside (IsOfLog id) (disk_at a i) d) where
  pub same_seven : seven_of d ≡ seven_of (disk_at a i)
  same_seven = young_seven id (disk_at a i) d (log_young id (disk_at a i) d beside)

  pub normal_now : IsIn Normal d
  normal_now = ap table_of same_seven ∙ rest.brought.stands.normal

  pub saved_now : is_some (saved d) ≡ is_some (saved (disk_at a i))
  saved_now = ap (λ (s : Seven). is_some (seat_of s).previous) same_seven

  -- a file of the image is the same, after each stop
  elsewhere : (s : Sub) (n : FileName) → (d.file s n ≡ (disk_at a i).file s n) ⊎ ((s ≡ Current) × ((first_in n ≢ None) ⊎ ((n ≡ name.Seen) ⊎ (n ≡ name.SeenTmp))))
  elsewhere s n = ⊎_elim
      (λ here. ⊎_elim
      (λ seen. inr (here.1, inr (inl seen.1)))
      (λ not_seen. ⊎_elim
      (λ tmp. inr (here.1, inr (inr tmp.1)))
      (λ not_tmp. by (first_in n) refl (λ none. subst (λ (q : Sub). d.file q n ≡ (disk_at a i).file q n) (sym here.1) (beside.other_files n (not_log n none not_seen.1 not_tmp.1))) here.1)
      (file_tells n name.SeenTmp))
      (file_tells n name.Seen))
      (λ other. inl (beside.other_subs s n other.1))
      (sub_tells s Current)
    where
      by : {s : Sub} {n : FileName} (o : Option ℕ) → first_in n ≡ o → (first_in n ≡ None → d.file s n ≡ (disk_at a i).file s n) → s ≡ Current → (d.file s n ≡ (disk_at a i).file s n) ⊎ ((s ≡ Current) × ((first_in n ≢ None) ⊎ ((n ≡ name.Seen) ⊎ (n ≡ name.SeenTmp))))
      by None is same here = inl (same is)
      by (Some first) is same here = inr (here, inl (λ none. (let apart = sym none ∙ is in cc)))

  module _ (c : Reads) (leaves : Leaves d c) where
    abbrev back : LeftBeside (λ s n. (s ≡ Current) × ((first_in n ≢ None) ⊎ ((n ≡ name.Seen) ⊎ (n ≡ name.SeenTmp)))) (disk_at a i) d c
    back = left_beside (λ s n. (s ≡ Current) × ((first_in n ≢ None) ⊎ ((n ≡ name.Seen) ⊎ (n ≡ name.SeenTmp)))) (disk_at a i) d beside.root beside.subs elsewhere c leaves

    same_file : (n : FileName) → first_in n ≡ None → n ≢ name.Seen → n ≢ name.SeenTmp → folder_at c Current n ≡ folder_at back.before Current n
    same_file n none seen tmp = ⊎_elim (λ same. same) (λ of_log. absurd (⊎_elim (λ some. some none) (λ either. ⊎_elim seen tmp either) of_log.1)) (back.files Current n)

    image_stays : (ns : Namespace) → IsIntact (folder_at back.before Current) version id ns → IsIntact (folder_at c Current) version id ns
    image_stays ns intact = record {
      bytes = intact.bytes;
      there = same_file (name.Image id) refl (λ e. cc) (λ e. cc) ∙ intact.there;
      digest = same_file (name.Md5 id) refl (λ e. cc) (λ e. cc) ∙ intact.digest;
      image = intact.image;
    }

  intact_now : EachLeft d (λ c. IsIntact (folder_at c Current) version id (shared.ns version.ctime id))
  intact_now c leaves fair = image_stays c leaves (shared.ns version.ctime id) (rest.brought.intact (back c leaves).before (back c leaves).left ((back c leaves).fair fair))

  whole_now : IsWhole version id (shared.ns version.ctime id) d
  whole_now =
      let it = sure_whole version id i (shared.ns version.ctime id) a rest.brought.sure rest.brought.intact in
      record {
        bytes = it.bytes;
        image = it.image;
        stands = record {
          image = beside.other_files (name.Image id) (not_log (name.Image id) refl (λ e. cc) (λ e. cc)) ∙ it.stands.image;
          digest = beside.other_files (name.Md5 id) (not_log (name.Md5 id) refl (λ e. cc) (λ e. cc)) ∙ it.stands.digest;
        };
      }

  pub started_now : IsGoing version (shared.ns version.ctime) id (start_record (id + 1) ∷ []) d → IsAlone (first_stage id) d → IsStarted version (shared.ns version.ctime) id d
  started_now going alone = record {
    normal = normal_now;
    whole = whole_now;
    intact = intact_now;
    later = λ other above. beside.other_files (name.Image other) (not_log (name.Image other) refl (λ e. cc) (λ e. cc)) ∙ rest.clean.images other above;
    named = λ n unnamed. ⊎_elim
        (λ tmp. subst (λ (m : FileName). d.file Current m ≡ None) (sym tmp.1) going.tmp)
        (λ other. (let it = not_unnamed n unnamed other.1 in beside.other_files n (not_log n it.0 it.1 other.1) ∙ rest.clean.named n unnamed))
        (file_tells n name.SeenTmp);
    going = going;
    alone = alone;
  }

  -- it ends at the next id, with what it had saved
  pub ends_now : IsGoing version (shared.ns version.ctime) id (start_record (id + 1) ∷ []) d → EndsBetween version (is_some (saved (disk_at a i))) (shared.saved version.ctime) (shared.ns version.ctime) (id + 1) (id + 1) d
  ends_now going = logging_ends version (is_some (saved (disk_at a i))) (shared.saved version.ctime) (shared.ns version.ctime) id id id (id + 1) (id + 1) (disk_at a i) d rest.brought.stands.normal rest.brought.stands.ends (omega arith)
      (record { logs = stage_logs version (shared.ns version.ctime) (first_stage id) d going; beside = beside })

-- ---- all of them

module _ (shared : Shared) (version : Version) (id : ℕ) (ns : Namespace) (a b : State) (rest : AreAtRest shared version id ns a) (count : b.count ≡ a.count) (live : Members) (listed : (i : ℕ) → i < a.count → has live i ≡ true)
    (beside : (i : ℕ) → i < a.count → Beside (IsOfLog id) (disk_at a i) (disk_at b i)) (stand : AllAt version (shared.ns version.ctime) (first_stage id) live b) where
  here : (i : ℕ) → i < b.count → i < a.count
  here i below = omega (arith, below, count)

  pub each_started : AllAlone (first_stage id) live b → (i : ℕ) → i < b.count → IsStarted version (shared.ns version.ctime) id (disk_at b i)
  each_started alone i below = started_now shared version id i a (rest.each i (here i below)) (disk_at b i) (beside i (here i below)) (stand i (listed i (here i below))) (alone i (listed i (here i below)))

  pub still_saved : (i : ℕ) → i < b.count → is_some (saved (disk_at b i)) ≡ is_some (saved (disk_at a i))
  still_saved i below = saved_now shared version id i a (rest.each i (here i below)) (disk_at b i) (beside i (here i below))

  -- as between two lines of a run
  pub between_now : (holders : Members) → ((i : ℕ) → i < b.count → has holders i ≡ is_some (saved (disk_at b i))) → id + 1 < spent_from
      → BetweenLines version (shared.ns version.ctime) b.count (has live) (has holders) (record { ns = ns; saved = shared.saved version.ctime }) (id + 1) b.now
  between_now holders holds room = record {
    shared = record { window = record { ns = ns; saved = shared.saved version.ctime } ∷ []; ids = shared.ids; ns = shared.ns; saved = shared.saved; floor = record { ctime = version.ctime; last = id + 1 }; lead = record { ctime = version.ctime; last = id + 1 } };
    window = refl;
    floor = refl;
    lead = refl;
    ours = record { namespace = rest.aim.ours.namespace; cluster = rest.aim.ours.cluster; blockpool = rest.aim.ours.blockpool; layout = rest.aim.ours.layout };
    ns = refl;
    saved = refl;
    room = room;
    stands = steady_from (shared.ns version.ctime) id (id + 1) rest.steady (omega arith) ∙ rest.aim.list;
    lives = λ i below e. record {
      normal = normal_now shared version id i a (rest.each i (here i below)) (disk_at b i) (beside i (here i below));
      ends = subst (λ (had : Bool). EndsBetween version had (shared.saved version.ctime) (shared.ns version.ctime) (id + 1) (id + 1) (disk_at b i)) (sym (holds i below ∙ still_saved i below))
          (ends_now shared version id i a (rest.each i (here i below)) (disk_at b i) (beside i (here i below)) (stand i e));
    };
    others = λ i below e. absurd (true≢false (sym (listed i (here i below)) ∙ e));
  }
