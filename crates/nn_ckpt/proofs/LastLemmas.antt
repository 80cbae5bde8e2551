-- A directory's last image, whole and synced: what each stop leaves of it, and the purging of the files beside it.
use Rattle.std.proofs.Common.{◌≡◌, ◌≢◌, inl, inr, ⊎_elim, ℕ, ◌<◌, ◌≤◌, None, sym, ◌∙◌, subst, arith}
use Rattle.std.proofs.lemmas.Bool.{cases_order}
use Rattle.std.proofs.lemmas.Option.{none-some}
use Rattle.nn_base.specs.declared.sub.Sub.TheVariants.{Current}
use Rattle.nn_base.specs.declared.file_name.FileName.{FileName}
use Rattle.nn_base.specs.declared.file_name.FileName.TheVariants as name
use Rattle.nn_host.specs.Disk.{Disk, Reads, Leaves}
use Rattle.nn_marks.specs.declared.version.Version.{Version}
use Rattle.nn_tree.specs.Namespace.{Namespace}
use Rattle.nn_chain.specs.Folder.{Folder, folder_at}
use Rattle.nn_chain.specs.Images.{HasIntact, IsIntact, IsNewest}
use Rattle.nn_chain.specs.Chain.{Reached, IsChain, IsChainFrom}
use Rattle.nn_segment_file.specs.Log.{Shared}
use Rattle.nn_remake.specs.Publishing.{IsWhole}
use Rattle.nn_steps.proofs.CutLemmas.{left_none}
use Rattle.nn_steps.proofs.ToppedLemmas.{whole_left}
use Rattle.nn_ckpt.specs.Retention.{IsThere, Stays, IsOlder, Goes, IsPurging}
use Rattle.nn_ckpt.specs.Checkpointed.{HasLastImage}
use Rattle.nn_ckpt.proofs.TrimmedLemmas.{MayGo, IsTrimmed}

-- the image of this id is the last one
pub record IsLast (version : Version) (id : ℕ) (ns : Namespace) (d : Disk) : Type 0 where
  pub whole : IsWhole version id ns d
  pub later : (other : ℕ) → id < other → d.file Current (name.Image other) ≡ None

pub last_of_has : (version : Version) (list : Shared) (last : ℕ) (d : Disk) (p : HasLastImage version list last d) → IsLast version p.id (list p.id) d
last_of_has version list last d p = record { whole = p.whole; later = p.later }

-- an id that isn't this one is below or above it
pub apart_id : (a b : ℕ) → a ≢ b → (b < a → ⊥) → a < b
apart_id a b differs above = elim (cases_order a b) [
  | inl same ↦ absurd (differs same)
  | inr (inl less) ↦ less
  | inr (inr more) ↦ absurd (above more)
]

-- ---- what a stop leaves

-- a stop leaves a file where one was
pub there_left : (d : Disk) (c : Reads) (n : FileName) → Leaves d c → c.file Current n ≢ None → d.file Current n ≢ None
there_left d c n leaves there none = there (left_none (d.file Current n) (c.file Current n) (leaves.files Current n) none)

module _ (version : Version) (id : ℕ) (ns : Namespace) (d : Disk) (is : IsLast version id ns d) (c : Reads) (leaves : Leaves d c) where
  pub last_intact : IsIntact (folder_at c Current) version id ns
  last_intact = whole_left version id ns d c leaves is.whole

  pub last_there : IsThere (folder_at c Current) id
  last_there none = none-some last_intact.bytes (sym none ∙ last_intact.there)

  pub none_later : (other : ℕ) → id < other → c.file Current (name.Image other) ≡ None
  none_later other above = left_none (d.file Current (name.Image other)) (c.file Current (name.Image other)) (leaves.files Current (name.Image other)) (is.later other above)

  not_later : (other : ℕ) → id < other → ¬ HasIntact (folder_at c Current) version other
  not_later other above has = none-some has.1.bytes (sym (none_later other above) ∙ has.1.there)

  pub last_newest : IsNewest (folder_at c Current) version id
  last_newest = record { intact = (ns, last_intact); last = not_later }

  -- so its chain begins there
  pub chain_begins : (end : Reached) (p : IsChain (folder_at c Current) version end) → p.image ≡ id
  chain_begins end p =
      let below : p.image < id → ⊥ = λ lt. p.newest.last id lt (ns, last_intact) in
      let above : id < p.image → ⊥ = λ lt. not_later p.image lt p.newest.intact in
      omega arith

  pub chain_from : (end : Reached) → IsChain (folder_at c Current) version end → IsChainFrom (folder_at c Current) version id end
  chain_from end p = subst (λ (n : ℕ). IsChainFrom (folder_at c Current) version n end) (chain_begins end p) p.from

  pub stays_last : Stays (folder_at c Current) id
  stays_last = record { there = last_there; last = λ a b above more there it. there (none_later a above) }

  -- an older one that stays is before it
  pub older_below : (older : ℕ) → IsOlder (folder_at c Current) older → older < id
  older_below older is_older =
      let not_above : id < is_older.later.0 → ⊥ = λ above. is_older.later.2 (none_later is_older.later.0 above) in
      let less = is_older.later.1 in
      omega arith

-- ---- what may go

may_go : (folder : Folder) (image : ℕ) → Stays folder image → ((older : ℕ) → IsOlder folder older → older ≤ image) → (n : FileName) → Goes folder n → MayGo image n
may_go folder image stays olders (name.Image id) goes = λ e. goes (subst (Stays folder) (sym e) stays)
may_go folder image stays olders (name.Md5 id) goes = λ e. goes (subst (Stays folder) (sym e) stays)
may_go folder image stays olders (name.Ckpt id) goes = tt
may_go folder image stays olders (name.Edits span) goes = (let low = olders goes.0 goes.1 in let less = goes.2 in omega (arith, low, less))
may_go folder image stays olders name.Version goes = goes
may_go folder image stays olders name.VersionTmp goes = goes
may_go folder image stays olders name.Seen goes = goes
may_go folder image stays olders name.SeenTmp goes = goes
may_go folder image stays olders (name.Md5Tmp id) goes = goes
may_go folder image stays olders (name.InProgress first) goes = goes

pub purging_trimmed : (folder : Folder) (image : ℕ) (old d : Disk) → Stays folder image → ((older : ℕ) → IsOlder folder older → older ≤ image) → IsPurging folder old d → IsTrimmed image old d
purging_trimmed folder image old d stays olders p = record {
  root = p.root;
  subs = p.subs;
  other_subs = p.other_subs;
  files = λ n. ⊎_elim (λ same. inl same) (λ gone. inr (may_go folder image stays olders n gone.0, gone.1)) (p.files n);
}

-- beside the last image
pub last_trimmed : (version : Version) (id : ℕ) (ns : Namespace) (r : Reads) (old d : Disk) → Leaves old r → IsLast version id ns old → IsPurging (folder_at r Current) old d → IsTrimmed id old d
last_trimmed version id ns r old d leaves is p =
    purging_trimmed (folder_at r Current) id old d (stays_last version id ns old is r leaves) (λ older is_older. (let low = older_below version id ns old is r leaves older is_older in omega (arith, low))) p
