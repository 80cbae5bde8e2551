-- A directory that is topped up: its previous is given up unless it is to stay, `current` is cut down, and the floor's image is published.
use Rattle.std.proofs.Common.{true, false, true≢false, ◌≡◌, ◌≢◌, inl, inr, ⊎_elim, ℕ, Bool, List, Option, Some, None, refl, sym, ◌∙◌, ap, subst, arith}
use Rattle.std.specs.Prelude.{is_some, Result, if◌then◌else◌}
use Rattle.std.proofs.lemmas.Bool.{le-ltb}
use Rattle.md5.specs.Md5.{md5}
use Rattle.nn_base.specs.declared.sub.Sub.{Sub}
use Rattle.nn_base.specs.declared.sub.Sub.TheVariants.{Current, Previous}
use Rattle.nn_base.specs.declared.file_name.FileName.{FileName}
use Rattle.nn_base.specs.declared.file_name.FileName.TheVariants as name
use Rattle.nn_host.specs.Disk.{Held, Disk, File, Reads, Leaves, certain}
use Rattle.nn_host.specs.Moments.{State, disk_at}
use Rattle.nn_host.proofs.CleanLemmas.{reading, sure_left}
use Rattle.nn_marks.specs.Digest.{md5_text_of}
use Rattle.nn_marks.specs.declared.version.Version.{Version}
use Rattle.nn_state.specs.declared.state.Seven.{Seven}
use Rattle.nn_state.specs.declared.state.StorageState.{StorageState}
use Rattle.nn_state.specs.declared.state.StorageState.TheVariants.{Normal}
use Rattle.nn_state.specs.declared.state.Why.{Why}
use Rattle.nn_state.specs.Table.{seven_of, table_of}
use Rattle.nn_state.specs.Seat.{seat_by, seat_of, if_there, saved}
use Rattle.nn_state.specs.Typed.{IsIn}
use Rattle.nn_tree.specs.Namespace.{Namespace}
use Rattle.nn_chain.specs.Folder.{Folder, HasVersion, folder_at}
use Rattle.nn_chain.specs.Images.{HasIntact}
use Rattle.nn_remake.specs.Clearing.{IsGivingUp}
use Rattle.nn_remake.specs.Cutting.{IsCutting, IsCutDown}
use Rattle.nn_remake.specs.Removing.{is_segment, is_later_image}
use Rattle.nn_remake.specs.Publishing.{IsWhole}
use Rattle.nn_remake.specs.Topping.{KeptOrGivenUp, WasToppedUp}
use Rattle.nn_remake.proofs.ClearingLemmas.{giving_keeps}
use Rattle.nn_state.proofs.LeftLemmas.{seven_left}
use Rattle.nn_state.proofs.TableLemmas.{seven_by}
use Rattle.nn_remake.proofs.ToppingLemmas.{given_normal, kept_asked, same_current}
use Rattle.nn_kept.specs.Kept.{Shared}
use Rattle.nn_kept.specs.Laws.{EachLeft}
use Rattle.nn_kept.proofs.KeptOnwardLemmas.{version_there}
use Rattle.nn_steps.specs.Steps.{StaysBehind, IsToTopUp, IsSure, ToppingUpKeeps, ToppedUpEnds}
use Rattle.nn_steps.proofs.SeatLemmas.{left_cut, reads_whole, reads_fair}
use Rattle.nn_steps.proofs.NormalLemmas.{current_serves, is_current}
use Rattle.nn_steps.proofs.LoweringLemmas.{some_chain}
use Rattle.nn_steps.proofs.ClearedLemmas.{giving_up_keeps}
use Rattle.nn_steps.proofs.CutLemmas.{cutting_keeps, cutting_part, part_left, part_same}
use Rattle.nn_steps.proofs.ToppedLemmas.{IsCutLow, top_saved, whole_left, whole_ends, publishing_tops}

saves_by : {A : Type 0} (d : Held A) → IsIn Normal d → saved d ≡ if_there (d.has Previous) Previous
saves_by d normal = ap (λ (r : Result StorageState Why). (seat_by r (seven_of d)).previous) normal

unsaved_by : {A : Type 0} (d : Held A) → IsIn Normal d → d.has Previous ≡ false → saved d ≡ None
unsaved_by d normal none = saves_by d normal ∙ ap (λ (there : Bool). if_there there Previous) none

either_none : (keep : Bool) (o : Option Sub) → o ≡ None → o ≡ (if keep then o else None)
either_none true o none = refl
either_none false o none = none

-- ---- once its previous was given up, or stays

-- what is asked of it then
record IsMid (shared : Shared) (version : Version) (d : Disk) : Type 0 where
  normal : IsIn Normal d
  behind : StaysBehind shared d
  says : EachLeft d (λ c. HasVersion (folder_at c Current) version)
  saves : saved d ≢ None → shared.saved version.ctime ≢ None

giving_says : (version : Version) (old mid : Disk) → IsIn Normal old → IsIn Normal mid → IsGivingUp old mid → EachLeft old (λ c. HasVersion (folder_at c Current) version) → EachLeft mid (λ c. HasVersion (folder_at c Current) version)
giving_says version old mid normal there is says c leaves fair =
    let keeps = giving_keeps old mid (inl normal) is in
    let it = left_cut old mid c leaves keeps.current keeps.previous in
    let before : IsIn Normal it.before = ap table_of (seven_left old it.before it.left) ∙ normal in
    let here : IsIn Normal c = ap table_of (seven_left mid c leaves) ∙ there in
    let same = is_current c here (folder_at it.before Current) (it.current (folder_at it.before Current) (current_serves it.before before)) in
    subst (λ (f : Folder). HasVersion f version) same (says it.before it.left (it.fair fair))

mid_normal : (keep : Bool) (old mid : Disk) → IsIn Normal old → KeptOrGivenUp keep old mid → IsIn Normal mid
mid_normal keep old mid normal (inl same) = subst (λ (d : Disk). IsIn Normal d) (sym same.0) normal
mid_normal keep old mid normal (inr given) = given_normal old mid normal given.1

-- what was saved stays exactly if it is to
mid_saves : (keep : Bool) (old mid : Disk) → IsIn Normal old → KeptOrGivenUp keep old mid → saved mid ≡ (if keep then saved old else None)
mid_saves keep old mid normal (inl same) = ap (λ (d : Disk). saved d) same.0 ∙ ⊎_elim
    (λ stays. ap (λ (k : Bool). if k then saved old else None) (sym stays))
    (λ none. either_none keep (saved old) (unsaved_by old normal none))
    same.1
mid_saves keep old mid normal (inr given) = unsaved_by mid (given_normal old mid normal given.1) given.1.previous ∙ ap (λ (k : Bool). if k then saved old else None) (sym given.0)

mid_fits : (shared : Shared) (keep : Bool) (version : Version) (id : ℕ) (old mid : Disk) → IsToTopUp shared keep version id old → KeptOrGivenUp keep old mid → IsMid shared version mid
mid_fits shared keep version id old mid fits kept = record {
  normal = normal;
  behind = ⊎_elim (λ same. subst (StaysBehind shared) (sym same.0) fits.behind) (λ given. giving_up_keeps shared old mid (inl fits.normal) fits.behind given.1.giving) kept;
  says = ⊎_elim (λ same. subst (λ (d : Disk). EachLeft d (λ c. HasVersion (folder_at c Current) version)) (sym same.0) fits.says) (λ given. giving_says version old mid fits.normal normal given.1.giving fits.says) kept;
  saves = λ has. ⊎_elim (λ stays. fits.saves stays) (λ none. absurd (has (unsaved_by mid normal none))) (kept_asked old mid kept);
}
  where
    normal : IsIn Normal mid
    normal = mid_normal keep old mid fits.normal kept

-- ---- while it is cut down, and once it is

module _ (version : Version) (id : ℕ) (mid low : Disk) (is : IsCutting id mid low) where
  same_seven : seven_of low ≡ seven_of mid
  same_seven = seven_by mid low is.root is.subs (ap (λ (o : Option File). is_some o) (is.others name.Version refl refl))

  same_saved : saved low ≡ saved mid
  same_saved = ap (λ (s : Seven). (seat_of s).previous) same_seven

  cutting_says : EachLeft mid (λ c. HasVersion (folder_at c Current) version) → EachLeft low (λ c. HasVersion (folder_at c Current) version)
  cutting_says says c leaves fair =
      let part = cutting_part id mid low is in
      let it = part_left mid low part c leaves in
      version_there (folder_at it.before Current) (folder_at c Current) version (sym (part_same mid low part c leaves Current name.Version (is.others name.Version refl refl))) (says it.before it.left (it.fair fair))

low_fits : (shared : Shared) (version : Version) (id : ℕ) (mid low : Disk) → IsMid shared version mid → IsCutDown id mid low → version.ctime ≡ shared.floor.ctime → shared.floor.last ≡ id → IsCutLow shared version id low
low_fits shared version id mid low fits is ctime last = record {
  normal = ap table_of (same_seven version id mid low is.cutting) ∙ fits.normal;
  behind = cutting_keeps shared id mid low fits.normal fits.behind is.cutting;
  says = cutting_says version id mid low is.cutting fits.says;
  ctime = ctime;
  last = last;
  segments = is.segments;
  later = is.images;
  saves = λ has. fits.saves (λ none. has (same_saved version id mid low is.cutting ∙ none));
}

-- where it is to stay, it does
if_kept : (keep : Bool) (o : Option Sub) → keep ≡ true → (if keep then o else None) ≡ o
if_kept keep o is = ap (λ (k : Bool). if k then o else None) is

pub topping_up_keeps : ToppingUpKeeps
topping_up_keeps shared keep version id old d fits (inl (inl same)) = (inl (subst (StaysBehind shared) (sym same) fits.behind), λ stays. ap (λ (x : Disk). saved x) same)
topping_up_keeps shared keep version id old d fits (inl (inr giving)) = (inl (giving_up_keeps shared old d (inl fits.normal) fits.behind giving.1), λ stays. absurd (true≢false (sym stays ∙ giving.0)))
topping_up_keeps shared keep version id old d fits (inr (inl cutting)) =
    let mid = mid_fits shared keep version id old cutting.0 fits cutting.1 in (
      inl (cutting_keeps shared id cutting.0 d mid.normal mid.behind cutting.2),
      λ stays. same_saved version id cutting.0 d cutting.2 ∙ mid_saves keep old cutting.0 fits.normal cutting.1 ∙ if_kept keep (saved old) stays,
    )
topping_up_keeps shared keep version id old d fits (inr (inr last)) =
    let mid = mid_fits shared keep version id old last.0 fits last.2 in (
      publishing_tops shared version id last.1 d (low_fits shared version id last.0 last.1 mid last.3 fits.ctime fits.last) last.4,
      λ stays. sym (top_saved id last.1 d last.4.beside) ∙ same_saved version id last.0 last.1 last.3.cutting ∙ mid_saves keep old last.0 fits.normal last.2 ∙ if_kept keep (saved old) stays,
    )

-- ---- once it is done

not_later : (id : ℕ) → is_later_image id (name.Image id) ≡ false
not_later id = le-ltb id id (omega arith)

-- a directory left behind has no intact image of the floor that a stop keeps
not_there : (shared : Shared) (version : Version) (id : ℕ) (d : Disk) → IsCutLow shared version id d → ((c : Reads) → Leaves d c → HasIntact (folder_at c Current) version id) → ⊥
not_there shared version id d fits intact =
    let c = reading d in
    let leaves = reads_whole d in
    let normal : IsIn Normal c = ap table_of (seven_left d c leaves) ∙ fits.normal in
    let says = fits.says c leaves (reads_fair d) in
    let low = (fits.behind c leaves (reads_fair d)).1 version (folder_at c Current) (record { serves = current_serves c normal; says = says }) in
    let ctime = fits.ctime in
    let last = fits.last in
    elim low [
      | inl less ↦ omega (arith, less, ctime)
      | inr level ↦ some_chain (folder_at c Current) version id (intact c leaves) (λ end chain high. (let below = level.1 end chain in omega (arith, below, high, last)))
    ]

module _ (keep : Bool) (version : Version) (id : ℕ) (ns : Namespace) (i : ℕ) (old new : State) (is : WasToppedUp keep version id ns i old new) (sure : IsSure Current i old) where
  -- a file that stays is certain still
  sure_still : (n : FileName) (bytes : List ℕ) → is_segment n ≡ false → is_later_image id n ≡ false → (is.low.reads i).file Current n ≡ Some bytes → (disk_at is.low i).file Current n ≡ certain (Some bytes)
  sure_still n bytes segment later there =
      let disk_mid = same_current (disk_at old i) (disk_at is.mid i) n is.kept.disk in
      let reads_mid = same_current (old.reads i) (is.mid.reads i) n is.kept.reads in
      let disk_low = is.cut.disk.cutting.others n segment later in
      let reads_low = is.cut.reads.cutting.others n segment later in
      disk_low ∙ disk_mid ∙ sure n ∙ ap certain (sym (reads_low ∙ reads_mid) ∙ there)

  intact_left : HasIntact (folder_at (is.low.reads i) Current) version id → (c : Reads) → Leaves (disk_at is.low i) c → HasIntact (folder_at c Current) version id
  intact_left (ns, intact) c leaves = (
    ns,
    record {
      bytes = intact.bytes;
      there = sure_left (disk_at is.low i) c Current (name.Image id) intact.bytes leaves (sure_still (name.Image id) intact.bytes refl (not_later id) intact.there);
      digest = sure_left (disk_at is.low i) c Current (name.Md5 id) (md5_text_of (md5 intact.bytes) id) leaves (sure_still (name.Md5 id) (md5_text_of (md5 intact.bytes) id) refl refl intact.digest);
      image = intact.image;
    },
  )

pub topped_up_ends : ToppedUpEnds
topped_up_ends shared keep version id i old new fits sure is =
    let mid = mid_fits shared keep version id (disk_at old i) (disk_at is.mid i) fits is.kept.disk in
    let low = low_fits shared version id (disk_at is.mid i) (disk_at is.low i) mid is.cut.disk fits.ctime fits.last in
    elim is.published [
      | inl missing ↦ (
          let whole : IsWhole version id (shared.ns version.ctime id) (disk_at new i) = record { bytes = missing.written.bytes; image = missing.written.image; stands = missing.written.disk.stands } in
          record {
            ends = whole_ends shared version id (disk_at is.low i) (disk_at new i) low missing.written.disk.beside whole;
            intact = λ c leaves fair. whole_left version id (shared.ns version.ctime id) (disk_at new i) c leaves whole;
            stays = sym (top_saved id (disk_at is.low i) (disk_at new i) missing.written.disk.beside) ∙ same_saved version id (disk_at is.mid i) (disk_at is.low i) is.cut.disk.cutting ∙ mid_saves keep (disk_at old i) (disk_at is.mid i) fits.normal is.kept.disk;
          }
          )
      | inr there ↦ absurd (not_there shared version id (disk_at is.low i) low (intact_left keep version id (shared.ns version.ctime id) i old new is sure there.intact))
    ]
