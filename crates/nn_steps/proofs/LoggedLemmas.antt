-- A directory whose segments are written to.
use Rattle.std.proofs.Common.{◌≡◌, ◌⊎◌, inl, inr, ⊎_elim, ℕ, ◌≤◌, Bool, Option, refl, sym, ◌∙◌, ap, subst, arith}
use Rattle.std.specs.Prelude.{is_some}
use Rattle.nn_base.specs.declared.sub.Sub.{Sub}
use Rattle.nn_base.specs.declared.sub.Sub.TheVariants.{Current, Previous}
use Rattle.nn_base.specs.declared.file_name.FileName.{FileName}
use Rattle.nn_base.specs.declared.file_name.FileName.TheVariants as name
use Rattle.nn_base.proofs.NamesLemmas.{sub_tells}
use Rattle.nn_host.specs.Disk.{Disk, Reads, File, Leaves}
use Rattle.nn_marks.specs.declared.version.Version.{Version}
use Rattle.nn_state.specs.declared.state.Seven.{Seven}
use Rattle.nn_state.specs.declared.state.StorageState.TheVariants.{Normal}
use Rattle.nn_state.specs.Table.{seven_of, table_of}
use Rattle.nn_state.specs.Seat.{seat_of, saved}
use Rattle.nn_state.specs.Typed.{IsIn}
use Rattle.nn_tree.specs.Namespace.{Namespace}
use Rattle.nn_chain.specs.Folder.{Folder, folder_at}
use Rattle.nn_chain.proofs.SameLemmas.{none_after_bare}
use Rattle.nn_segment_file.specs.Log.{Beside, IsOfLog, EndsWithin}
use Rattle.nn_segment_file.proofs.BesideLemmas.{not_log}
use Rattle.nn_state.proofs.LeftLemmas.{seven_left}
use Rattle.nn_state.proofs.TableLemmas.{seven_by}
use Rattle.nn_pick.specs.Dirs.{ServesPrevious}
use Rattle.nn_kept.specs.Ends.{EndsAt, HoldsThere}
use Rattle.nn_steps.specs.Steps.{LoggingEnds}
use Rattle.nn_steps.proofs.BesideLemmas.{LeftBeside, left_beside}
use Rattle.nn_steps.proofs.NormalLemmas.{current_serves, is_previous}

module _ (base : ℕ) (old d : Disk) (beside : Beside (IsOfLog base) old d) (c : Reads) (leaves : Leaves d c) where
  pub elsewhere : (s : Sub) (n : FileName) → (d.file s n ≡ old.file s n) ⊎ (s ≡ Current)
  elsewhere s n = ⊎_elim (λ here. inr here.1) (λ other. inl (beside.other_subs s n other.1)) (sub_tells s Current)

  -- all but `current` as something that a stop could leave before
  abbrev pub log_left : LeftBeside (λ s n. s ≡ Current) old d c
  log_left = left_beside (λ s n. s ≡ Current) old d beside.root beside.subs elsewhere c leaves

  same_seven : seven_of c ≡ seven_of old
  same_seven = seven_left d c leaves ∙ seven_by old d beside.root beside.subs (ap (λ (o : Option File). is_some o) (beside.other_files name.Version (not_log name.Version refl (λ e. cc) (λ e. cc))))

  log_normal : IsIn Normal old → IsIn Normal c
  log_normal normal = ap table_of same_seven ∙ normal

  log_saved : saved c ≡ saved log_left.before
  log_saved = ap (λ (s : Seven). (seat_of s).previous) (same_seven ∙ sym (seven_left old log_left.before log_left.left))

  same_previous : folder_at c Previous ≡ folder_at log_left.before Previous
  same_previous = λ k n. ⊎_elim (λ same. same) (λ e. cc) (log_left.files Previous n) k

  log_previous : IsIn Normal old → (previous : Folder) → ServesPrevious c previous → ServesPrevious log_left.before previous
  log_previous normal previous serves = record {
    sub = serves.sub;
    serves = sym log_saved ∙ serves.serves;
    is = serves.is ∙ subst (λ (s : Sub). folder_at c s ≡ folder_at log_left.before s) (is_previous c (log_normal normal) serves.sub serves.serves) same_previous;
  }

  module _ (version : Version) (has : Bool) (what : Option Namespace) (list : ℕ → Namespace) (n lo hi : ℕ) (normal : IsIn Normal old) (was : EndsAt log_left.before version has what (record { last = n; ns = list n })) (low : n ≤ lo) (is : EndsWithin version list lo hi (folder_at c Current)) where
    holds : (previous : Folder) → ServesPrevious c previous → HoldsThere c version previous is.last what
    holds previous serves =
        let it = was.holds previous (log_previous normal previous serves) in
        let few = it.low in
        let least = is.least in
        record { sound = it.sound; own = it.own; end = it.end; chain = record { serves = serves; says = it.chain.says; chain = it.chain.chain }; is = it.is; low = omega (arith, few, low, least); bare = it.bare }

    pub logged_ends : EndsAt c version has what (record { last = is.last; ns = list is.last })
    logged_ends = record {
      state = (Normal, log_normal normal, λ e. cc);
      folder = folder_at c Current;
      under = record { serves = current_serves c (log_normal normal); says = is.ends.says };
      chain = is.ends.chain;
      bare = none_after_bare (folder_at c Current) version (record { last = is.last; ns = list is.last }) is.ends.none;
      seen = is.ends.seen;
      previous = ap (λ (o : Option Sub). is_some o) log_saved ∙ was.previous;
      holds = holds;
    }

pub logging_ends : LoggingEnds
logging_ends version has what list from to base lo hi old d normal ends low is c leaves fair =
    let it = log_left base old d is.beside c leaves in
    let was = ends it.before it.left (it.fair fair) in
    let now = is.logs.left c leaves fair in
    let most = was.2 in
    (now.last, now.least, now.most, logged_ends base old d is.beside c leaves version has what list was.0 lo hi normal was.3 (omega (arith, most, low)) now)
