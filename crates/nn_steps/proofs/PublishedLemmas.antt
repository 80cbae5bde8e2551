-- A directory into which the image is published at which its chain ends.
use Rattle.std.proofs.Common.{◌≡◌, ⊎_elim, ℕ, Bool, Option, ◌∙◌, ap, subst, arith}
use Rattle.nn_base.specs.declared.sub.Sub.TheVariants.{Current}
use Rattle.nn_base.specs.declared.file_name.FileName.TheVariants as name
use Rattle.nn_host.specs.Disk.{Reads}
use Rattle.nn_marks.specs.declared.version.Version.{Version}
use Rattle.nn_state.specs.declared.state.StorageState.TheVariants.{Normal}
use Rattle.nn_state.specs.Table.{table_of}
use Rattle.nn_state.specs.Typed.{IsIn}
use Rattle.nn_tree.specs.Namespace.{Namespace}
use Rattle.nn_chain.specs.Folder.{Folder, folder_at}
use Rattle.nn_chain.specs.Chain.{Reached, IsChain, IsEnd, EndsBare}
use Rattle.nn_chain.proofs.SameLemmas.{SameSegments, segments_back, holds_same}
use Rattle.nn_remake.specs.Publishing.{BesideImage}
use Rattle.nn_remake.specs.Rank.{KeepsRank}
use Rattle.nn_remake.proofs.ChainLemmas.{same_segments}
use Rattle.nn_state.proofs.LeftLemmas.{seven_left}
use Rattle.nn_kept.specs.Ends.{EndsAt}
use Rattle.nn_steps.specs.Steps.{PublishingEnds}
use Rattle.nn_steps.proofs.NormalLemmas.{SameMarks, is_current, marks_end}

-- where no record of the next id is, none goes on
pub bare_end : (folder : Folder) (version : Version) (at : Reached) → EndsBare folder version at → IsEnd folder version.layout at
bare_end folder version at bare r next = bare next.its.name r next.next next.its.holds

module _ (version : Version) (has : Bool) (what : Option Namespace) (at : Reached) (before c : Reads) (normal : IsIn Normal before) (beside : BesideImage at.last before c) (keeps : KeepsRank version at (folder_at before Current) (folder_at c Current)) (is : EndsAt before version has what at) where
  marks : SameMarks before c
  marks = record {
    root = beside.root;
    subs = beside.subs;
    others = beside.other_subs;
    version = beside.other_files name.Version (λ e. cc) (λ e. cc) (λ e. cc) (λ e. cc);
    seen = beside.other_files name.Seen (λ e. cc) (λ e. cc) (λ e. cc) (λ e. cc);
  }

  segments : SameSegments (folder_at before Current) (folder_at c Current)
  segments = same_segments (record { others = beside.other_files })

  here : is.folder ≡ folder_at before Current
  here = is_current before normal is.folder is.under.serves

  bare_before : EndsBare (folder_at before Current) version at
  bare_before = subst (λ (f : Folder). EndsBare f version at) here is.bare

  chain : IsChain (folder_at c Current) version at
  chain = ⊎_elim (λ it. it) (λ it. it) (keeps.last (bare_end (folder_at before Current) version at bare_before) at (subst (λ (f : Folder). IsChain f version at) here is.chain))

  bare : EndsBare (folder_at c Current) version at
  bare n r next h = bare_before n r next (holds_same version.layout (folder_at c Current) (folder_at before Current) (segments_back segments) n r h)

  pub published_ends : EndsAt c version has what at
  published_ends = marks_end before c normal marks version has what at is chain bare

pub publishing_ends : PublishingEnds
publishing_ends version has what list id old d normal ends ranked c leaves fair =
    let it = ranked.left c leaves in
    let was = ends it.before it.left (it.fair fair) in
    let same : was.0 ≡ id = omega (arith, was.1, was.2) in
    let at_id = subst (λ (n : ℕ). EndsAt it.before version has what (record { last = n; ns = list n })) same was.3 in
    let normal_before : IsIn Normal it.before = ap table_of (seven_left old it.before it.left) ∙ normal in
    (id, omega arith, omega arith, published_ends version has what (record { last = id; ns = list id }) it.before c normal_before it.beside it.keeps at_id)
