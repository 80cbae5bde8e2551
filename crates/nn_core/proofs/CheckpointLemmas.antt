-- How a checkpoint brings the live directories on: to the same namespace, behind an image of it.
use Rattle.std.proofs.Common.{◌≡◌, ℕ, ◌<◌, true, Result, Ok, refl}
use Rattle.nn_base.specs.DirSets.{has}
use Rattle.nn_base.specs.declared.ids.Txid.{Txid}
use Rattle.nn_host.specs.Moments.{State}
use Rattle.nn_marks.specs.declared.version.Version.{Version}
use Rattle.nn_tree.specs.Namespace.{Namespace}
use Rattle.nn_segment_file.specs.Log.{Shared}
use Rattle.nn_journal.specs.declared.journal.JournalSet.{JournalSet}
use Rattle.nn_pick.specs.Refusing.{spent_from}
use Rattle.nn_ckpt.specs.declared.fault.RunFault.{RunFault}
use Rattle.nn_ckpt.specs.Checkpointed.{AreImaged, HasCheckpointed, Checkpoints}
use Rattle.nn_core.specs.Standing.{Stands, Goes, Comes, HasIds}
use Rattle.nn_core.specs.Written.{AllCheckpointed}
use Rattle.nn_core.proofs.StandLemmas.{starts_at, leads_steadily}

-- they stand with their last images
pub imaged : (version : Version) (journal : JournalSet) (ns : Namespace) (a : State) → ((j : ℕ) → has journal.live j ≡ true → j < a.count) → (stands : Stands version journal ns a) → AreImaged version stands.list stands.stage journal a
imaged version journal ns a among stands = record {
  matches = stands.matches;
  disks = stands.disks;
  alone = stands.alone;
  flies = λ j e. starts_at version stands.list a.count (has journal.live) ns journal.last journal.last a refl stands.between j (among j e) e;
  images = stands.images;
}

module _ {told : Type 0} (version : Version) (journal after : JournalSet) (ns : Namespace) (a b : State) (result : Result Txid RunFault) (checks : Checkpoints told version ns journal after a b result) (among : (j : ℕ) → has journal.live j ≡ true → j < a.count)
    (few : HasIds journal → after.last < spent_from) (tells : told) (ids : HasIds journal) (stands : Stands version journal ns a) where
  done : HasCheckpointed version stands.list ns journal after a b result
  done = checks tells stands.list stands.stage (imaged version journal ns a among stands) stands.between.stands

  -- whatever it answers, they go on at the one namespace
  pub saving_goes : (list : Shared) × Goes version list journal after ns ns a b
  saving_goes = (stands.list, record { before = stands.between; leads = leads_steadily version journal after a ns stands done.comes.onward (few ids); flown = done.comes })

  -- and stand there
  pub saving_comes : Comes version journal after ns ns a b
  saving_comes = record {
    list = stands.list;
    goes = record { before = stands.between; leads = leads_steadily version journal after a ns stands done.comes.onward (few ids); flown = done.comes };
    stage = done.stands.0;
    matches = done.stands.1.matches;
    disks = done.stands.1.disks;
    alone = done.stands.1.alone;
    images = done.stands.1.images;
  }

-- once it was answered each is checkpointed
pub all_saved : {told : Type 0} (version : Version) (journal after : JournalSet) (ns : Namespace) (a b : State) (id : Txid) → Checkpoints told version ns journal after a b (Ok id) → ((j : ℕ) → has journal.live j ≡ true → j < a.count) → journal.last < id
    → told → HasIds journal → Stands version journal ns a → AllCheckpointed version ns journal after b
all_saved version journal after ns a b id checks among above tells ids stands = (id, above, (checks tells stands.list stands.stage (imaged version journal ns a among stands) stands.between.stands).each)
