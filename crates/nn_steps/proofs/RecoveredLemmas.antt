-- A directory whose seat stays goes on to be kept, and to end where it ended.
use Rattle.std.proofs.Common.{List, refl, ◌≡◌, inl, inr, ℕ, Option, Some, None, sym, ◌∙◌, ap, subst}
use Rattle.std.specs.Prelude.{is_some, Contains}
use Rattle.nn_base.specs.declared.file_name.FileName.TheVariants as name
use Rattle.nn_host.specs.Disk.{Disk, Reads, File}
use Rattle.nn_host.proofs.CleanLemmas.{whole, reading}
use Rattle.nn_marks.specs.declared.version.Version.{Version}
use Rattle.nn_state.specs.declared.state.Seven.{Seven}
use Rattle.nn_state.specs.Seat.{serving, seat_of}
use Rattle.nn_state.specs.Recovery.{SameSeat, HasServingVersion}
use Rattle.nn_chain.specs.Folder.{Folder, HasVersion, folder_at}
use Rattle.nn_state.proofs.LeftLemmas.{seven_left}
use Rattle.nn_pick.specs.Dirs.{ServesCurrent, ServesUnder}
use Rattle.nn_pick.proofs.HoldsLemmas.{serves_formatted}
use Rattle.nn_pick.proofs.VersionLemmas.{one_current}
use Rattle.nn_kept.specs.Kept.{Rank, Shared, IsKept, IsOfRun, IsLedOfRun}
use Rattle.nn_kept.specs.Laws.{IsOutranked, EachLeft}
use Rattle.nn_kept.specs.Onward.{HasSameSeat}
use Rattle.nn_kept.proofs.KeptOnwardLemmas.{book_same, same_under, same_stands, same_seat_is_kept, same_seat_ends}
use Rattle.nn_kept.proofs.KeptOpenLemmas.{some_or_none, there}
use Rattle.nn_steps.specs.Steps.{RecoveringKeeps, RecoveringLeavesBehind, RecoveringEnds}
use Rattle.nn_steps.proofs.SeatLemmas.{left_seat, reads_whole, reads_fair}

-- ---- one directory

-- what serves is what served
pub served : (old new : Reads) → (serving old ≡ None → serving new ≡ None) → ((folder : Folder) → ServesCurrent old folder → ServesCurrent new folder) → (folder : Folder) → ServesCurrent new folder → ServesCurrent old folder
served old new unserved current folder is = elim (some_or_none (serving old)) [
  | inl some ↦ (
      let sub = there (serving old) some in
      let was : ServesCurrent old (folder_at old sub.0) = record { sub = sub.0; serves = sub.1; is = refl } in
      subst (ServesCurrent old) (sym (one_current new folder (folder_at old sub.0) is (current (folder_at old sub.0) was))) was
      )
  | inr none ↦ absurd (serves_formatted new folder is (unserved none))
]

module _ (shared : Shared) (old new : Reads) (seat : HasSameSeat old new) where
  same_of_run : (rank : Rank) → IsOfRun shared old rank → IsOfRun shared new rank
  same_of_run rank is = record {
    version = is.version;
    folder = is.folder;
    under = same_under shared old new seat is.version is.folder is.under;
    stands = same_stands shared old new seat is.version is.folder rank is.stands;
    high = is.high;
  }

  same_holder : IsLedOfRun shared old → IsLedOfRun shared new
  same_holder is = record { rank = is.rank; run = same_of_run is.rank is.run; led = is.led; inside = subst (Contains shared.window) (book_same shared old new is.rank seat.there) is.inside }

  same_outranked : IsOutranked shared old → IsOutranked shared new
  same_outranked low v a is = low v a (record { serves = served old new seat.unserved seat.current a is.serves; says = is.says })

-- ---- its VERSION

some_whole : (f : Option File) → is_some (whole f) ≡ is_some f
some_whole None = refl
some_whole (Some f) = refl

-- the folder that serves has VERSION, as it has in one thing that a stop may leave
version_there : (d : Disk) → ((folder : Folder) → ServesCurrent (reading d) folder → (v : Version) × HasVersion folder v) → HasServingVersion d
version_there d says sub serves =
    let same = ap (λ (s : Seven). (seat_of s).current) (seven_left d (reading d) (reads_whole d)) in
    let it = says (folder_at (reading d) sub) (record { sub = sub; serves = same ∙ serves; is = refl }) in
    sym (some_whole (d.file sub name.Version)) ∙ ap (λ (o : Option (List ℕ)). is_some o) it.1.1

says_under : (c : Reads) (v : Version) (a folder : Folder) → ServesUnder c v a → ServesCurrent c folder → HasVersion folder v
says_under c v a folder under serves = subst (λ (f : Folder). HasVersion f v) (one_current c a folder under.serves serves) under.says

kept_version : (shared : Shared) (d : Disk) → EachLeft d (IsKept shared) → HasServingVersion d
kept_version shared d kept = version_there d (λ folder serves. elim (kept (reading d) (reads_whole d) (reads_fair d)).formatted [
  | inl none ↦ absurd (serves_formatted (reading d) folder serves none)
  | inr it ↦ (it.0, says_under (reading d) it.0 it.1 folder it.2.under serves)
])

-- ---- whatever a stop leaves

each_seat : (P : Reads → Type 0) → ((before c : Reads) → HasSameSeat before c → P before → P c) → (old d : Disk) → SameSeat old d → EachLeft old P → EachLeft d P
each_seat P step old d same all c leaves fair =
    let it = left_seat old d c same leaves in
    step it.before c it.seat (all it.before it.left (it.fair fair))

pub recovering_keeps : RecoveringKeeps
recovering_keeps shared of_run holder old d is keeps =
    let same = keeps (kept_version shared old is.kept) in
    record {
      kept = each_seat (IsKept shared) (λ before c seat it. same_seat_is_kept shared before c seat it) old d same is.kept;
      run = λ e. each_seat (λ c. (rank : Rank) × IsOfRun shared c rank) (λ before c seat it. (it.0, same_of_run shared before c seat it.0 it.1)) old d same (is.run e);
      led = λ e. each_seat (IsLedOfRun shared) (λ before c seat it. same_holder shared before c seat it) old d same (is.led e);
    }

pub recovering_leaves_behind : RecoveringLeavesBehind
recovering_leaves_behind shared old d kept low keeps = each_seat (IsOutranked shared) (λ before c seat it. same_outranked shared before c seat it) old d (keeps (kept_version shared old kept)) low

pub recovering_ends : RecoveringEnds
recovering_ends version has what list lo hi old d ends keeps =
    let here = ends (reading old) (reads_whole old) (reads_fair old) in
    let same = keeps (version_there old (λ folder serves. (version, says_under (reading old) version here.3.folder folder here.3.under serves))) in
    λ c leaves fair. (
    let it = left_seat old d c same leaves in
    let was = ends it.before it.left (it.fair fair) in
    (was.0, was.1, was.2, same_seat_ends it.before c version has what (record { last = was.0; ns = list was.0 }) it.seat was.3)
    )
