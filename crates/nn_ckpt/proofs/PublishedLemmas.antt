-- A directory that rests, once the image of its last id was published: it rests as before, with two images.
use Rattle.std.proofs.Common.{◌≡◌, ◌≢◌, inl, inr, ℕ, ◌<◌, ◌≤◌, [], Some, None, refl, sym, ◌∙◌, ap, subst, arith}
use Rattle.std.proofs.lemmas.Bool.{cases_order}
use Rattle.std.proofs.lemmas.Option.{none-some}
use Rattle.nn_base.specs.Names.{first_id}
use Rattle.nn_base.specs.declared.sub.Sub.TheVariants.{Current}
use Rattle.nn_base.specs.declared.file_name.FileName.{FileName}
use Rattle.nn_base.specs.declared.file_name.FileName.TheVariants as name
use Rattle.nn_host.specs.Disk.{Disk, Reads, Leaves}
use Rattle.nn_host.specs.Moments.{disk_at}
use Rattle.nn_host.proofs.CleanLemmas.{reading}
use Rattle.nn_marks.specs.declared.version.Version.{Version}
use Rattle.nn_chain.specs.Folder.{folder_at}
use Rattle.nn_chain.specs.Images.{HasIntact}
use Rattle.nn_chain.specs.Records.{first_in}
use Rattle.nn_chain.specs.Chain.{IsChain}
use Rattle.nn_chain.specs.Fair.{IsFair}
use Rattle.nn_chain.proofs.SameLemmas.{SameSegments, segments_back, holds_same, none_same, none_after_bare, intact_same}
use Rattle.nn_segment_file.specs.Log.{Shared, EndsAt, EndsWithin, Rests}
use Rattle.nn_remake.specs.Publishing.{BesideImage, IsWhole}
use Rattle.nn_remake.specs.Rank.{LeftRanked}
use Rattle.nn_remake.proofs.ChainLemmas.{same_segments}
use Rattle.nn_remake.proofs.RankLemmas.{ranked}
use Rattle.nn_kept.proofs.KeptOnwardLemmas.{version_there, seen_there}
use Rattle.nn_steps.proofs.CutLemmas.{left_none}
use Rattle.nn_steps.proofs.PublishedLemmas.{bare_end}
use Rattle.nn_steps.proofs.SeatLemmas.{reads_whole}
use Rattle.nn_ckpt.specs.Checkpointed.{HasLastImage, HasTwoImages, IsLedTo}
use Rattle.nn_ckpt.specs.Laws.{PublishedStands}
use Rattle.nn_ckpt.proofs.SpanLemmas.{led_stays}
use Rattle.nn_ckpt.proofs.LastLemmas.{IsLast, last_of_has, last_intact, last_newest, chain_from}

module _ (version : Version) (list : Shared) (id : ℕ) (old d : Disk) (beside : BesideImage id old d) (whole : IsWhole version id (list id) d) (none : (later : ℕ) → id ≤ later → old.file Current (name.Image later) ≡ None) where
  -- the images of other ids are as they were
  other_image : (other : ℕ) → other ≢ id → d.file Current (name.Image other) ≡ old.file Current (name.Image other)
  other_image other differs = beside.other_files (name.Image other) (λ e. differs (ap first_id e)) (λ e. cc) (λ e. cc) (λ e. cc)

  is_last : IsLast version id (list id) d
  is_last = record { whole = whole; later = λ other above. other_image other (λ e. omega (arith, e, above)) ∙ none other (omega (arith, above)) }

  unsound : ¬ HasIntact (folder_at (reading old) Current) version id
  unsound has = none-some has.1.bytes (sym (left_none (old.file Current (name.Image id)) ((reading old).file Current (name.Image id)) ((reads_whole old).files Current (name.Image id)) (none id (omega arith))) ∙ has.1.there)

  module _ (c : Reads) (leaves : Leaves d c) where
    left : LeftRanked version (record { last = id; ns = list id }) old d c
    left = (ranked version id (list id) old d (reading old) (reads_whole old) unsound (record { beside = beside; image = inr (inr whole) })).left c leaves

    segments : SameSegments (folder_at left.before Current) (folder_at c Current)
    segments = same_segments (record { others = left.beside.other_files })

    module _ (fair : IsFair d c) (rests : Rests version list id old) where
      at : EndsWithin version list id id (folder_at left.before Current)
      at = rests.logs.left left.before left.left (left.fair fair)

      at_id : at.last ≡ id
      at_id = (let least = at.least in let most = at.most in omega arith)

      rests_left : EndsWithin version list id id (folder_at c Current)
      rests_left =
          let ends = subst (λ (n : ℕ). EndsAt version list n (folder_at left.before Current)) at_id at.ends in
          let none_after = none_same version.layout (folder_at left.before Current) (folder_at c Current) segments id ends.none in
          record {
            last = id;
            least = omega arith;
            most = omega arith;
            ends = record {
              says = version_there (folder_at left.before Current) (folder_at c Current) version (sym (left.beside.other_files name.Version (λ e. cc) (λ e. cc) (λ e. cc) (λ e. cc))) ends.says;
              seen = λ said has_seen. ends.seen said (seen_there (folder_at c Current) (folder_at left.before Current) said (left.beside.other_files name.Seen (λ e. cc) (λ e. cc) (λ e. cc) (λ e. cc)) has_seen);
              chain = record {
                image = id;
                newest = last_newest version id (list id) d is_last c leaves;
                from = record {
                  base = list id;
                  intact = last_intact version id (list id) d is_last c leaves;
                  records = [];
                  leads = refl;
                  ends = bare_end (folder_at c Current) version (record { last = id; ns = list id }) (none_after_bare (folder_at c Current) version (record { last = id; ns = list id }) none_after);
                };
              };
              none = none_after;
            };
          }

      led_left : (was : HasLastImage version list id old) → was.id ≢ id → IsLedTo (folder_at c Current) version was.id (record { last = id; ns = list id })
      led_left was differs =
          let chain = subst (λ (n : ℕ). IsChain (folder_at left.before Current) version (record { last = n; ns = list n })) at_id at.ends.chain in
          let from = chain_from version was.id (list was.id) old (last_of_has version list id old was) left.before left.left (record { last = id; ns = list id }) chain in
          let image = left.beside.other_files (name.Image was.id) (λ e. differs (ap first_id e)) (λ e. cc) (λ e. cc) (λ e. cc) in
          let digest = left.beside.other_files (name.Md5 was.id) (λ e. cc) (λ e. differs (ap first_id e)) (λ e. cc) (λ e. cc) in
          led_stays version (folder_at left.before Current) (folder_at c Current) was.id (λ x. Unit {0})
          (record { up = λ n r any h. holds_same version.layout (folder_at left.before Current) (folder_at c Current) segments n r h; down = λ n r any h. holds_same version.layout (folder_at c Current) (folder_at left.before Current) (segments_back segments) n r h })
          (record { last = id; ns = list id }) (λ x above below. tt) (record { base = from.base; intact = from.intact; records = from.records; leads = from.leads })
          (intact_same version (folder_at left.before Current) (folder_at c Current) was.id from.base (record { image = image; digest = digest }) from.intact)

  published_rests : Rests version list id old → Rests version list id d
  published_rests rests = record {
    has = beside.subs Current ∙ rests.has;
    logs = record { left = λ c leaves fair. rests_left c leaves fair rests };
    none = λ n first ranged begins above. same_segment n first begins ∙ rests.none n first ranged begins above;
  }
    where
      same_segment : (n : FileName) (first : ℕ) → first_in n ≡ Some first → d.file Current n ≡ old.file Current n
      same_segment n first begins = beside.other_files n (λ e. none-some first (sym (ap first_in e) ∙ begins)) (λ e. none-some first (sym (ap first_in e) ∙ begins)) (λ e. none-some first (sym (ap first_in e) ∙ begins)) (λ e. none-some first (sym (ap first_in e) ∙ begins))

  less : (was : HasLastImage version list id old) → was.id < id
  less was = elim (cases_order was.id id) [
    | inl same ↦ absurd (none-some (record { synced = was.whole.bytes; pending = [] }) (sym (none was.id (omega (arith, same))) ∙ was.whole.stands.image))
    | inr (inl below) ↦ below
    | inr (inr above) ↦ (let low = was.low in absurd (omega (arith, low, above)))
  ]

  published_two : Rests version list id old → (was : HasLastImage version list id old) → HasTwoImages version list was.id id d
  published_two rests was = record {
    whole = whole;
    less = less was;
    later = λ other above differs. other_image other differs ∙ was.later other above;
    leads = λ c leaves fair. led_left c leaves fair rests was (λ e. (let below = less was in omega (arith, below, e)));
  }

pub published_stands : PublishedStands
published_stands version list id i old new none rests was written =
    let whole : IsWhole version id (list id) (disk_at new i) = record { bytes = written.bytes; image = written.image; stands = written.disk.stands } in (
      published_rests version list id (disk_at old i) (disk_at new i) written.disk.beside whole none rests,
      published_two version list id (disk_at old i) (disk_at new i) written.disk.beside whole none rests was,
    )
