-- A directory that is tidied, beside an intact image at which its chain ends.
use Rattle.std.proofs.Common.{◌≡◌, ◌≢◌, ◌⊎◌, inl, inr, ⊎_elim, ℕ, ◌+◌, ◌<◌, ◌≤◌, Bool, ℤ, List, [], ◌∷◌, Option, None, refl, sym, ◌∙◌, ap, subst, arith}
use Rattle.std.specs.Prelude.{true, false, Some, is_some}
use Rattle.std.proofs.lemmas.Option.{none-some}
use Rattle.nn_base.specs.declared.sub.Sub.{Sub}
use Rattle.nn_base.specs.declared.sub.Sub.TheVariants.{Current}
use Rattle.nn_base.specs.declared.file_name.FileName.{FileName}
use Rattle.nn_base.specs.declared.file_name.FileName.TheVariants as name
use Rattle.nn_base.proofs.NamesLemmas.{sub_tells}
use Rattle.nn_host.specs.Disk.{Held, Disk, Reads, File, Leaves, IsSound, certain}
use Rattle.nn_host.specs.Moments.{State, disk_at}
use Rattle.nn_host.proofs.CleanLemmas.{sure_left}
use Rattle.nn_marks.specs.declared.version.Version.{Version}
use Rattle.nn_record.specs.declared.transaction.Record.{Record}
use Rattle.nn_state.specs.declared.state.StorageState.TheVariants.{Normal}
use Rattle.nn_state.specs.declared.state.Seven.{Seven}
use Rattle.nn_state.specs.Table.{table_of, seven_of}
use Rattle.nn_state.proofs.TableLemmas.{normal_seven, seven_by}
use Rattle.nn_state.specs.Typed.{IsIn}
use Rattle.nn_tree.specs.Namespace.{Namespace}
use Rattle.nn_chain.specs.Folder.{Folder, HasVersion, HasSeen, folder_at}
use Rattle.nn_chain.specs.Images.{HasIntact, IsIntact, IsNewest}
use Rattle.nn_chain.specs.Records.{IsWithin, HasNoRecord, HasNoneAfter}
use Rattle.nn_chain.specs.Chain.{Reached, after, Leads, IsChain, EndsBare}
use Rattle.nn_chain.specs.Fair.{IsFair}
use Rattle.nn_chain.proofs.SameLemmas.{intact_same, none_same}
use Rattle.nn_segment_file.specs.Log.{EndsWithin}
use Rattle.nn_remake.specs.Tidying.{Goes, IsRenamed, IsTidying, WasTidied}
use Rattle.nn_remake.proofs.TidyingLemmas.{own_image, tidying_stays, tidied_tidy}
use Rattle.nn_state.proofs.LeftLemmas.{seven_left}
use Rattle.nn_kept.specs.Laws.{EachLeft}
use Rattle.nn_kept.specs.Ends.{EndsAt, EndsBetween}
use Rattle.nn_steps.specs.Steps.{IsSure, TidyingEnds, TidiedIsSure, TidiedRests}
use Rattle.nn_steps.proofs.BesideLemmas.{LeftBeside, left_beside}
use Rattle.nn_steps.proofs.CutLemmas.{left_none}
use Rattle.nn_steps.proofs.NormalLemmas.{SameMarks, is_current, marks_end}
use Rattle.nn_steps.proofs.LoweringLemmas.{moved}
use Rattle.nn_steps.proofs.PublishedLemmas.{bare_end}

-- ---- what the chain rests on

-- a finalized segment that ends at this id at the latest: the name that one in progress gets
abbrev IsEndedBy : ℕ → FileName → Type 0
IsEndedBy id (name.Edits span) = span.1 ≤ id
IsEndedBy id name.Version = ⊥
IsEndedBy id name.VersionTmp = ⊥
IsEndedBy id name.Seen = ⊥
IsEndedBy id name.SeenTmp = ⊥
IsEndedBy id (name.Image other) = ⊥
IsEndedBy id (name.Md5 other) = ⊥
IsEndedBy id (name.Md5Tmp other) = ⊥
IsEndedBy id (name.Ckpt other) = ⊥
IsEndedBy id (name.InProgress first) = ⊥

-- Each file is as it was, or gone, or such a segment. The marks, the image of this id and all MD5 files are as they were.
record IsThinned (id : ℕ) (old d : Disk) : Type 0 where
  pub root : d.root ≡ old.root
  pub subs : (s : Sub) → d.has s ≡ old.has s
  pub other_subs : (s : Sub) (n : FileName) → s ≢ Current → d.file s n ≡ old.file s n
  pub files : (n : FileName) → (d.file Current n ≡ old.file Current n) ⊎ (d.file Current n ≡ None) ⊎ IsEndedBy id n
  pub version : d.file Current name.Version ≡ old.file Current name.Version
  pub seen : d.file Current name.Seen ≡ old.file Current name.Seen
  pub image : d.file Current (name.Image id) ≡ old.file Current (name.Image id)
  pub digests : (other : ℕ) → d.file Current (name.Md5 other) ≡ old.file Current (name.Md5 other)

thinned : (folder : Folder) (layout : ℤ) (id : ℕ) (old d : Disk) → IsTidying folder layout id old d → IsThinned id old d
thinned folder layout id old d is = record {
  root = is.root;
  subs = is.subs;
  other_subs = is.other_subs;
  files = λ n. ⊎_elim
      (λ same. inl same)
      (λ changed. ⊎_elim
      (λ gone. inr (inl gone.1))
      (λ renamed. ⊎_elim
      (λ here. inr (inl (ap (λ (x : FileName). d.file Current x) here ∙ renamed.from)))
      (λ there. inr (inr (subst (IsEndedBy id) (sym there) renamed.gets.most)))
      renamed.either)
      changed)
      (is.files n);
  version = tidying_stays folder layout id old d is name.Version refl refl refl;
  seen = tidying_stays folder layout id old d is name.Seen refl refl refl;
  image = tidying_stays folder layout id old d is (name.Image id) refl (own_image id) refl;
  digests = λ other. tidying_stays folder layout id old d is (name.Md5 other) refl refl refl;
}

-- ---- at each moment

-- a file of `current` that isn't as it was
IsOther : ℕ → Disk → Sub → FileName → Type 0
IsOther id d s n = (s ≡ Current) × ((d.file Current n ≡ None) ⊎ IsEndedBy id n)

-- a finalized segment has no record beyond its end
ended_within : (id : ℕ) (n : FileName) (r : ℕ) → IsEndedBy id n → IsWithin n r → r ≤ id
ended_within id (name.Edits span) r ended within = omega (arith, ended, within)
ended_within id name.Version r ended within = absurd ended
ended_within id name.VersionTmp r ended within = absurd ended
ended_within id name.Seen r ended within = absurd ended
ended_within id name.SeenTmp r ended within = absurd ended
ended_within id (name.Image other) r ended within = absurd ended
ended_within id (name.Md5 other) r ended within = absurd ended
ended_within id (name.Md5Tmp other) r ended within = absurd ended
ended_within id (name.Ckpt other) r ended within = absurd ended
ended_within id (name.InProgress first) r ended within = absurd ended

-- records lead to later ids
leads_up : (folder : Folder) (layout : ℤ) (at : Reached) (rs : List Record) (end : Reached) → Leads folder layout at rs end → at.last ≤ end.last
leads_up folder layout at [] end leads = (let e = ap (λ (r : Reached). r.last) leads in omega (arith, e))
leads_up folder layout at (r ∷ rs) end leads =
    let more = leads_up folder layout (after r at) rs end leads.1 in
    let next = leads.0.next in
    omega (arith, more, next)

-- so no image beyond the end of a chain is intact
later_ends : (folder : Folder) (version : Version) (id : ℕ) (ns : Namespace) (later : ℕ) → IsChain folder version (record { last = id; ns = ns }) → id < later → ¬ HasIntact folder version later
later_ends folder version id ns later chain above =
    let up = leads_up folder version.layout (record { last = chain.image; ns = chain.from.base }) chain.from.records (record { last = id; ns = ns }) chain.from.leads in
    chain.newest.last later (omega (arith, up, above))

module _ (id : ℕ) (old d : Disk) (is : IsThinned id old d) (c : Reads) (leaves : Leaves d c) where
  decide : (s : Sub) (n : FileName) → (d.file s n ≡ old.file s n) ⊎ IsOther id d s n
  unfolding IsOther
  decide s n = elim (sub_tells s Current) [
    | inr other ↦ inl (is.other_subs s n other.1)
    | inl here ↦ ⊎_elim (λ same. inl (subst (λ (q : Sub). d.file q n ≡ old.file q n) (sym here.1) same)) (λ other. inr (here.1, other)) (is.files n)
  ]

  it : LeftBeside (IsOther id d) old d c
  it = left_beside (IsOther id d) old d is.root is.subs decide c leaves

  gone : (n : FileName) → d.file Current n ≡ None → c.file Current n ≡ None
  gone n none = left_none (d.file Current n) (c.file Current n) (leaves.files Current n) none

  -- what is the same on the disk is the same in what is left, unless it is a finalized segment
  same_file : (n : FileName) → d.file Current n ≡ old.file Current n → ¬ IsEndedBy id n → c.file Current n ≡ it.before.file Current n
  unfolding it IsOther
  same_file n same stays = elim (it.files Current n) [
    | inl is ↦ is
    | inr other ↦ ⊎_elim
        (λ none. gone n none ∙ sym (left_none (old.file Current n) (it.before.file Current n) (it.left.files Current n) (sym same ∙ none)))
        (λ ended. absurd (stays ended))
        other.1
  ]

  marks : SameMarks it.before c
  unfolding it IsOther
  marks = record {
    root = it.root;
    subs = it.subs;
    others = λ s n apart. ⊎_elim (λ same. same) (λ other. absurd (apart other.0)) (it.files s n);
    version = same_file name.Version is.version (λ e. e);
    seen = same_file name.Seen is.seen (λ e. e);
  }

  before_normal : IsIn Normal old → IsIn Normal it.before
  unfolding it
  before_normal normal = ap table_of (seven_left old it.before it.left) ∙ normal

  -- ---- images

  image_before : (version : Version) (found : ℕ) (ns : Namespace) → IsIntact (folder_at c Current) version found ns → IsIntact (folder_at it.before Current) version found ns
  image_before version found ns intact = ⊎_elim
      (λ same. intact_same version (folder_at c Current) (folder_at it.before Current) found ns (record { image = sym (same_file (name.Image found) same (λ e. e)); digest = sym (same_file (name.Md5 found) (is.digests found) (λ e. e)) }) intact)
      (λ other. ⊎_elim (λ none. absurd (none-some intact.bytes (sym (gone (name.Image found) none) ∙ intact.there))) (λ ended. absurd ended) other)
      (is.files (name.Image found))

  image_here : (version : Version) (ns : Namespace) → IsIntact (folder_at it.before Current) version id ns → IsIntact (folder_at c Current) version id ns
  image_here version ns = intact_same version (folder_at it.before Current) (folder_at c Current) id ns (record { image = same_file (name.Image id) is.image (λ e. e); digest = same_file (name.Md5 id) (is.digests id) (λ e. e) })

  -- ---- records

  none_next : (version : Version) → HasNoRecord (folder_at it.before Current) version.layout (id + 1) → HasNoRecord (folder_at c Current) version.layout (id + 1)
  unfolding it IsOther
  none_next version none n r next h = elim (it.files Current n) [
    | inl same ↦ none n r next (moved (folder_at c Current) (folder_at it.before Current) version.layout n r (sym same) h)
    | inr other ↦ ⊎_elim
        (λ nothing. none-some h.bytes (sym (gone n nothing) ∙ h.there))
        (λ ended. (let within = ended_within id n r.id ended h.within in omega (arith, within, next)))
        other.1
  ]

  module _ (version : Version) (has : Bool) (what : Option Namespace) (ns : Namespace) (normal : IsIn Normal old) (was : EndsAt it.before version has what (record { last = id; ns = ns })) (intact : IsIntact (folder_at it.before Current) version id ns) where
    here : was.folder ≡ folder_at it.before Current
    here = is_current it.before (before_normal normal) was.folder was.under.serves

    chain_before : IsChain (folder_at it.before Current) version (record { last = id; ns = ns })
    chain_before = subst (λ (f : Folder). IsChain f version (record { last = id; ns = ns })) here was.chain

    -- no intact image is later, since a chain doesn't end before its image
    newest : IsNewest (folder_at c Current) version id
    newest = record {
      intact = (ns, image_here version ns intact);
      last = λ later above found. later_ends (folder_at it.before Current) version id ns later chain_before above (found.0, image_before version later found.0 found.1);
    }

    bare : EndsBare (folder_at c Current) version (record { last = id; ns = ns })
    bare = none_next version (subst (λ (f : Folder). HasNoRecord f version.layout (id + 1)) here was.bare)

    chain : IsChain (folder_at c Current) version (record { last = id; ns = ns })
    chain = record {
      image = id;
      newest = newest;
      from = record { base = ns; intact = image_here version ns intact; records = []; leads = refl; ends = bare_end (folder_at c Current) version (record { last = id; ns = ns }) bare };
    }

    tidied_ends : EndsAt c version has what (record { last = id; ns = ns })
    tidied_ends = marks_end it.before c (before_normal normal) marks version has what (record { last = id; ns = ns }) was chain bare

pub tidying_ends : TidyingEnds
unfolding it
tidying_ends folder version has what list id old d normal ends intact tidying c leaves fair =
    let is = thinned folder version.layout id old d tidying in
    let left = it id old d is c leaves in
    let was = ends left.before left.left (left.fair fair) in
    let same : was.0 ≡ id = omega (arith, was.1, was.2) in
    let at_id = subst (λ (n : ℕ). EndsAt left.before version has what (record { last = n; ns = list n })) same was.3 in
    let image = intact left.before left.left (left.fair fair) in (
      (id, omega arith, omega arith, tidied_ends id old d is c leaves version has what (list id) normal at_id image),
      image_here id old d is c leaves version (list id) image,
    )

-- ---- afterwards

module _ (layout : ℤ) (id i : ℕ) (old new : State) (sure : IsSure Current i old) (was : WasTidied layout id i old new) where
  gone_sure : (n : FileName) → Goes (folder_at (old.reads i) Current) layout id n → (disk_at new i).file Current n ≡ certain ((new.reads i).file Current n)
  gone_sure n goes = was.disk.gone n goes ∙ ap certain (sym (was.reads.gone n goes))

  renamed_sure : {A : Type 0} {before now : Held A} (n : FileName) → IsRenamed (folder_at (old.reads i) Current) layout id before now n → (disk_at new i).file Current n ≡ certain ((new.reads i).file Current n)
  renamed_sure n renamed = ⊎_elim
      (λ here. subst (λ (m : FileName). (disk_at new i).file Current m ≡ certain ((new.reads i).file Current m)) (sym here) (was.disk.ended renamed.first ∙ ap certain (sym (was.reads.ended renamed.first))))
      (λ there. subst (λ (m : FileName). (disk_at new i).file Current m ≡ certain ((new.reads i).file Current m)) (sym there)
      (was.disk.renamed renamed.first renamed.last renamed.gets ∙ sure (name.InProgress renamed.first) ∙ ap certain (sym (was.reads.renamed renamed.first renamed.last renamed.gets))))
      renamed.either

  sure_now : IsSure Current i new
  sure_now n = ⊎_elim
      (λ same. ⊎_elim
      (λ too. same ∙ sure n ∙ ap certain (sym too))
      (λ other. ⊎_elim (λ gone. gone_sure n gone.0) (λ renamed. renamed_sure n renamed) other)
      (was.reads.tidying.files n))
      (λ other. ⊎_elim (λ gone. gone_sure n gone.0) (λ renamed. renamed_sure n renamed) other)
      (was.disk.tidying.files n)

pub tidied_is_sure : TidiedIsSure
tidied_is_sure layout id i old new sure was = sure_now layout id i old new sure was

-- a NORMAL directory has a `current`
has_current : (d : Disk) → IsSound d → IsIn Normal d → d.has Current ≡ true
has_current d sound normal = by (d.has Current) refl
  where
    version : is_some (d.file Current name.Version) ≡ true
    version = ap (λ (s : Seven). s.current) (normal_seven (seven_of d) normal)

    by : (b : Bool) → d.has Current ≡ b → d.has Current ≡ true
    by true e = e
    by false e = let clash : true ≡ false = sym version ∙ ap (λ (f : Option File). is_some f) (sound.files Current name.Version e) in cc

module _ (version : Version) (has : Bool) (what : Option Namespace) (list : ℕ → Namespace) (id i : ℕ) (old new : State) (normal : IsIn Normal (disk_at old i)) (ends : EndsBetween version has what list id id (disk_at old i))
    (intact : EachLeft (disk_at old i) (λ c. IsIntact (folder_at c Current) version id (list id))) (sure : IsSure Current i old) (was : WasTidied version.layout id i old new) where
  normal_left : (c : Reads) → Leaves (disk_at new i) c → IsIn Normal c
  normal_left c leaves = ap table_of (seven_left (disk_at new i) c leaves ∙ seven_by (disk_at old i) (disk_at new i) was.disk.tidying.root was.disk.tidying.subs
      (ap (λ (o : Option File). is_some o) (thinned (folder_at (old.reads i) Current) version.layout id (disk_at old i) (disk_at new i) was.disk.tidying).version)) ∙ normal

  module _ (c : Reads) (leaves : Leaves (disk_at new i) c) (fair : IsFair (disk_at new i) c) where
    as_read : (n : FileName) → c.file Current n ≡ (new.reads i).file Current n
    as_read n = by ((new.reads i).file Current n) (sure_now version.layout id i old new sure was n)
      where
        by : (w : Option (List ℕ)) → (disk_at new i).file Current n ≡ certain w → c.file Current n ≡ w
        by None e = left_none ((disk_at new i).file Current n) (c.file Current n) (leaves.files Current n) e
        by (Some bytes) e = sure_left (disk_at new i) c Current n bytes leaves e

    none : HasNoneAfter (folder_at c Current) version.layout id
    none = none_same version.layout (folder_at (new.reads i) Current) (folder_at c Current) (record { files = λ n first begins. as_read n }) id (tidied_tidy version.layout id (old.reads i) (new.reads i) was.reads).none

    rests_left : EndsWithin version list id id (folder_at c Current)
    rests_left =
        let now = (tidying_ends (folder_at (old.reads i) Current) version has what list id (disk_at old i) (disk_at new i) normal ends intact was.disk.tidying c leaves fair).0 in
        let same : now.0 ≡ id = omega (arith, now.1, now.2) in
        let at_id = subst (λ (n : ℕ). EndsAt c version has what (record { last = n; ns = list n })) same now.3 in
        let here = is_current c (normal_left c leaves) at_id.folder at_id.under.serves in
        record {
          last = id;
          least = omega arith;
          most = omega arith;
          ends = record {
            says = subst (λ (f : Folder). HasVersion f version) here at_id.under.says;
            seen = λ said has_seen. at_id.seen said (subst (λ (f : Folder). HasSeen f said) (sym here) has_seen);
            chain = subst (λ (f : Folder). IsChain f version (record { last = id; ns = list id })) here at_id.chain;
            none = none;
          };
        }

pub tidied_rests : TidiedRests
tidied_rests version has what list id i old new sound normal ends intact sure was = record {
  has = was.disk.tidying.subs Current ∙ has_current (disk_at old i) sound normal;
  logs = record { left = λ c leaves fair. rests_left version has what list id i old new normal ends intact sure was c leaves fair };
  none = λ n first ranged begins above. was.disk.gone n (inr (inr (inl (inl (first, begins, above)))));
}
