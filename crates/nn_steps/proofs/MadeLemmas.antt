-- A directory that isn't formatted or is being made.
use Rattle.std.proofs.Common.{false, ◌≡◌, inl, inr, ⊎_elim, ℕ, ◌+◌, ◌<◌, ◌≤◌, ◌^◌, Some, true≢false, sym, ◌∙◌, arith}
use Rattle.std.specs.Fmt.{decimal}
use Rattle.std.proofs.lemmas.Option.{same_Some}
use Rattle.nn_base.specs.Limits.{program_layout}
use Rattle.nn_base.specs.declared.sub.Sub.TheVariants.{Current, Previous}
use Rattle.nn_base.specs.declared.file_name.FileName.TheVariants.{Seen}
use Rattle.nn_host.specs.Disk.{Reads}
use Rattle.nn_marks.specs.Seen.{seen_text_of}
use Rattle.nn_marks.specs.VersionText.{version_text_of}
use Rattle.nn_marks.specs.declared.version.Version.{Version}
use Rattle.nn_marks.proofs.SeenLemmas.{number_in-decimal, seen_only}
use Rattle.nn_marks.proofs.VersionTextLemmas.{reads_back}
use Rattle.nn_state.specs.declared.state.StorageState.TheVariants.{NotFormatted}
use Rattle.nn_state.specs.Typed.{FitsFresh}
use Rattle.nn_tree.specs.Namespace.{Namespace}
use Rattle.nn_chain.specs.Folder.{Folder, HasSeen}
use Rattle.nn_remake.specs.Made.{ReadsMade}
use Rattle.nn_remake.proofs.LeftLemmas.{fresh_left, made_left, made_intact, made_no_later, made_no_segment}
use Rattle.nn_pick.specs.Laws.{HoldsImage}
use Rattle.nn_pick.proofs.HoldsLemmas.{fresh_serves}
use Rattle.nn_kept.specs.Kept.{Shared, IsKept}
use Rattle.nn_kept.proofs.KeptEndsLemmas.{held_image_ends, between_is_kept}
use Rattle.nn_steps.specs.Steps.{FreshIsKept, MakingKeeps, MadeEnds}

-- ---- not formatted

pub fresh_is_kept_so : (shared : Shared) (c : Reads) → FitsFresh c → IsKept shared c
fresh_is_kept_so shared c fresh = record { state = (NotFormatted, fresh, λ e. cc); formatted = inl (fresh_serves c fresh) }

pub fresh_is_kept : FreshIsKept
fresh_is_kept shared d fresh = record {
  kept = λ c leaves fair. fresh_is_kept_so shared c (fresh_left d c leaves fresh);
  run = λ e. absurd (true≢false (sym e));
  led = λ e. absurd (true≢false (sym e));
}

-- ---- made

-- seen_txid says this id
seen_at : (folder : Folder) (id : ℕ) → id < 2 ^ 63 → folder Seen ≡ Some (seen_text_of id) → (seen : ℕ) → HasSeen folder seen → seen ≤ id + 1
seen_at folder id long there seen (inr none) = omega (arith, none.0)
seen_at folder id long there seen (inl says) =
    let text = same_Some says.0 (seen_text_of id) (sym says.1 ∙ there) in
    let same : id ≡ seen = same_Some id seen (sym (number_in-decimal id long) ∙ seen_only says.0 (decimal id) seen (inl text) says.2) in
    omega (arith, same)

-- a directory that was made holds its image and no record
pub made_holds : (version : Version) (id : ℕ) (ns : Namespace) → version.layout ≡ program_layout → id < 2 ^ 62 → (c : Reads) → ReadsMade version id ns c → HoldsImage c version id ns
made_holds version id ns layout room c is = record {
  normal = is.normal;
  nothing_saved = is.whole.other_subs Previous (λ e. cc);
  says = (version_text_of version, is.whole.version_file, reads_back version);
  ours = layout;
  intact = made_intact c is;
  later = made_no_later c is;
  segments = made_no_segment c is;
  seen = seen_at (c.file Current) id is.image.long is.whole.seen_file;
  room = room;
}

pub made_ends : MadeEnds
made_ends version id list what d layout room is c leaves fair =
    (id, omega arith, omega arith, held_image_ends c version id (list id) what (made_holds version id (list id) layout room c (made_left version id (list id) d c is leaves)))

pub making_keeps : MakingKeeps
making_keeps shared version id d fits is = ⊎_elim
    (λ fresh. fresh_is_kept shared d fresh)
    (λ made. between_is_kept shared version false id id d false false (made_ends version id (shared.ns version.ctime) (shared.saved version.ctime) d fits.ours.layout fits.room made) fits (λ e. absurd (true≢false (sym e))) (λ e. absurd (true≢false (sym e))))
    is
