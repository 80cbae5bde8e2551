-- Bringing a directory up to a namespace: what it is at each moment, and once it is done.
use Rattle.std.proofs.Common.{◌≡◌, ◌≢◌, inl, inr, ℕ, Bool, true, false, Option, None, Result, Ok, Err, OnOk, is_some, refl, sym, ◌∙◌, ap, subst, arith, lt-ltb, le-ltb}
use Rattle.nn_base.specs.declared.ids.DirNo.{DirNo}
use Rattle.nn_base.specs.declared.sub.Sub.TheVariants.{Current}
use Rattle.nn_base.specs.declared.file_name.FileName.{FileName}
use Rattle.nn_base.specs.declared.file_name.FileName.TheVariants as name
use Rattle.nn_base.specs.Names.{first_id}
use Rattle.nn_host.specs.Disk.{Held, Disk, Reads, File, IsSound}
use Rattle.nn_host.specs.Moments.{State, IsLawful, disk_at}
use Rattle.nn_host.specs.Runs.{OnlyAt}
use Rattle.nn_host.proofs.WorkLemmas.{work_trans, work_weaker}
use Rattle.nn_state.specs.declared.state.Seven.{Seven}
use Rattle.nn_state.specs.declared.state.StorageState.TheVariants.{Normal}
use Rattle.nn_state.specs.declared.typed.Settled.{Settled}
use Rattle.nn_state.specs.declared.typed.Settled.TheVariants as settled
use Rattle.nn_state.specs.Table.{seven_of, table_of}
use Rattle.nn_state.specs.Typed.{IsIn, FitsReady, FitsSettled}
use Rattle.nn_state.proofs.TableLemmas.{normal_seven, seven_by, at_rest, table_at_rest}
use Rattle.nn_marks.specs.declared.version.Version.{Version}
use Rattle.nn_tree.specs.Namespace.{Namespace}
use Rattle.nn_chain.specs.Folder.{folder_at}
use Rattle.nn_chain.specs.Images.{IsIntact}
use Rattle.nn_chain.specs.Chain.{IsChain, EndsBare, HasNoSegment, HasNoLater}
use Rattle.nn_chain.proofs.BareLemmas.{bare_chain}
use Rattle.nn_chain.proofs.SameLemmas.{not_segment}
use Rattle.nn_remake.specs.declared.fault.MakeFault.{MakeFault}
use Rattle.nn_remake.specs.Removing.{is_segment, is_later_image}
use Rattle.nn_remake.specs.Publishing.{BesideImage, IsPublishing}
use Rattle.nn_remake.specs.Published.{IsPublished, IsOnlyOf, ReadsIntact}
use Rattle.nn_remake.specs.Clearing.{IsGivenUp, WasGivenUp}
use Rattle.nn_remake.specs.Cutting.{IsCutting, IsCutDown, WasCutDown}
use Rattle.nn_remake.specs.Topping.{KeptOrGivenUp, SavedAsAsked, IsGivingUpUnless, IsToppingUp, WasKeptOrGivenUp, WasToppedUp, IsBroughtTo}
use Rattle.nn_remake.proofs.ClearingLemmas.{given_seven, rest_idle}

-- ---- the saved state

pub kept_here : {saved : Bool} (i : ℕ) (a : State) → SavedAsAsked saved (disk_at a i) → SavedAsAsked saved (a.reads i) → WasKeptOrGivenUp saved i a a
kept_here i a disk reads = record { disk = inl (refl, disk); reads = inl (refl, reads) }

pub given_here : {saved : Bool} {i : ℕ} {a b : State} → saved ≡ false → WasGivenUp i a b → WasKeptOrGivenUp saved i a b
given_here unless was = record { disk = inr (unless, was.disk); reads = inr (unless, was.reads) }

pub kept_asked : {A : Type 0} {saved : Bool} (old mid : Held A) → KeptOrGivenUp saved old mid → SavedAsAsked saved mid
kept_asked {A} {saved} old mid (inl same) = subst (λ (x : Held A). SavedAsAsked saved x) (sym same.0) same.1
kept_asked old mid (inr given) = inr given.1.previous

pub given_normal : (old d : Disk) → IsIn Normal old → IsGivenUp old d → IsIn Normal d
given_normal old d normal is = ap table_of (given_seven old d (rest_idle old (inl normal)) is.giving is.previous ∙ (λ k. record (at_rest (versioned k) false) { finalized_tmp = is.tmp k })) ∙ table_at_rest false
  where
    versioned : is_some (old.file Current name.Version) ≡ true
    versioned = ap (λ (s : Seven). s.current) (normal_seven (seven_of old) normal)

pub given_ready : (old d : Disk) → IsIn Normal old → IsGivenUp old d → FitsReady d
given_ready old d normal is = record { normal = given_normal old d normal is; nothing_saved = is.previous }

-- ---- what fits stays

fits_by : (it : Settled) (d e : Disk) → IsIn Normal d → seven_of e ≡ seven_of d → FitsSettled it d → FitsSettled it e
fits_by (settled.Ready it) d e normal same fits = record { normal = ap table_of same ∙ fits.normal; nothing_saved = ap (λ (s : Seven). s.previous) same ∙ fits.nothing_saved }
fits_by (settled.ReadyWithPrevious it) d e normal same fits = record { normal = ap table_of same ∙ fits.normal; something_saved = ap (λ (s : Seven). s.previous) same ∙ fits.something_saved }
fits_by (settled.Fresh it) d e normal same fits = ap table_of same ∙ fits

module _ {A : Type 0} (id : ℕ) (mid low d : Held A) (cut : IsCutDown id mid low) (beside : BesideImage id low d) where
  pub topped_seven : seven_of d ≡ seven_of mid
  topped_seven = seven_by mid d
      (beside.root ∙ cut.cutting.root)
      (λ s. beside.subs s ∙ cut.cutting.subs s)
      (ap (λ (f : Option A). is_some f) (beside.other_files name.Version (λ e. cc) (λ e. cc) (λ e. cc) (λ e. cc) ∙ cut.cutting.others name.Version refl refl))

pub topped_fits : {version : Version} {ns : Namespace} {b c : State} (d : State) (id : ℕ) (i j : DirNo) → i ≡ j → (it : Settled) → IsIn Normal (disk_at b j.0) → FitsSettled it (disk_at b j.0) → WasCutDown id i.0 b c → IsPublishing version id ns (disk_at c i.0) (disk_at d i.0)
    → FitsSettled it (disk_at d j.0)
topped_fits {version} {ns} {b} {c} d id i j same it normal fits cut publishing = fits_by it (disk_at b j.0) (disk_at d j.0) normal
    (topped_seven id (disk_at b j.0) (disk_at c j.0) (disk_at d j.0) (subst (λ (x : DirNo). WasCutDown id x.0 b c) same cut).disk (subst (λ (x : DirNo). IsPublishing version id ns (disk_at c x.0) (disk_at d x.0)) same publishing).beside) fits

-- ---- at each moment

module _ {told : Type 0} {i : ℕ} {a b : State} (saved : Bool) (version : Version) (id : ℕ) (ns : Namespace) where
  pub topping_given : OnlyAt told i a b (IsGivingUpUnless saved (disk_at a i)) → OnlyAt told i a b (IsToppingUp saved version id ns (disk_at a i))
  topping_given p = work_weaker p (λ tells d is. inl is)

  module _ (given : OnlyAt told i a b (IsGivingUpUnless saved (disk_at a i))) (was : told → WasKeptOrGivenUp saved i a b) where
    pub topping_cut : {c : State} → OnlyAt told i b c (IsCutting id (disk_at b i)) → OnlyAt told i a c (IsToppingUp saved version id ns (disk_at a i))
    topping_cut p = work_trans (topping_given given) (work_weaker p (λ tells d is. inr (inl (disk_at b i, (was tells).disk, is))))

    topping_one : {c d : State} → OnlyAt told i b c (IsCutting id (disk_at b i)) → (told → WasCutDown id i b c) → OnlyAt told i c d (IsPublishing version id ns (disk_at c i)) → OnlyAt told i a d (IsToppingUp saved version id ns (disk_at a i))
    topping_one {c} p cut q = work_trans (topping_cut p) (work_weaker q (λ tells x is. inr (inr (disk_at b i, disk_at c i, (was tells).disk, (cut tells).disk, is))))

pub topping_down : {told : Type 0} (saved : Bool) (version : Version) (id : ℕ) (ns : Namespace) (i j : DirNo) {a b c : State} → i ≡ j → OnlyAt told j.0 a b (IsGivingUpUnless saved (disk_at a j.0)) → (told → WasKeptOrGivenUp saved j.0 a b)
    → OnlyAt told i.0 b c (IsCutting id (disk_at b i.0)) → OnlyAt told j.0 a c (IsToppingUp saved version id ns (disk_at a j.0))
topping_down {told} saved version id ns i j {a} {b} {c} same given was p = topping_cut saved version id ns given was (subst (λ (x : DirNo). OnlyAt told x.0 b c (IsCutting id (disk_at b x.0))) same p)

pub topping_published : {told : Type 0} (saved : Bool) (version : Version) (id : ℕ) (ns : Namespace) (i j : DirNo) {a b c d : State} → i ≡ j → OnlyAt told j.0 a b (IsGivingUpUnless saved (disk_at a j.0)) → (told → WasKeptOrGivenUp saved j.0 a b)
    → OnlyAt told i.0 b c (IsCutting id (disk_at b i.0)) → (told → WasCutDown id i.0 b c) → OnlyAt told i.0 c d (IsPublishing version id ns (disk_at c i.0)) → OnlyAt told j.0 a d (IsToppingUp saved version id ns (disk_at a j.0))
topping_published {told} saved version id ns i j {a} {b} {c} {d} same given was p cut q = topping_one saved version id ns given was
    (subst (λ (x : DirNo). OnlyAt told x.0 b c (IsCutting id (disk_at b x.0))) same p)
    (subst (λ (x : DirNo). told → WasCutDown id x.0 b c) same cut)
    (subst (λ (x : DirNo). OnlyAt told x.0 c d (IsPublishing version id ns (disk_at c x.0))) same q)

-- ---- the chain that is left

pub same_current : {A : Type 0} {saved : Bool} (old mid : Held A) (n : FileName) → KeptOrGivenUp saved old mid → mid.file Current n ≡ old.file Current n
same_current {A} old mid n (inl same) = ap (λ (x : Held A). x.file Current n) same.0
same_current old mid n (inr given) = given.1.giving.files Current n (λ e. cc) (λ e. cc)

same_has : {A : Type 0} {saved : Bool} (old mid : Held A) → KeptOrGivenUp saved old mid → mid.has Current ≡ old.has Current
same_has {A} old mid (inl same) = ap (λ (x : Held A). x.has Current) same.0
same_has old mid (inr given) = given.1.giving.subs Current (λ e. cc) (λ e. cc)

pub current_there : {saved : Bool} {id : ℕ} (i : ℕ) (a b c : State) → WasKeptOrGivenUp saved i a b → WasCutDown id i b c → (disk_at a i).has Current ≡ true → (disk_at c i).has Current ≡ true
current_there i a b c was cut there = cut.disk.cutting.subs Current ∙ same_has (disk_at a i) (disk_at b i) was.disk ∙ there

module _ (version : Version) (id : ℕ) (ns : Namespace) where
  -- an image of this id that is intact was so before
  pub only_kept : {saved : Bool} (i : ℕ) (a b c : State) → WasKeptOrGivenUp saved i a b → WasCutDown id i b c → IsOnlyOf version id ns i a → IsOnlyOf version id ns i c
  only_kept i a b c was cut only other intact = only other (record {
    bytes = intact.bytes;
    there = sym (kept (name.Image id) refl (le-ltb id id (omega arith))) ∙ intact.there;
    digest = sym (kept (name.Md5 id) refl refl) ∙ intact.digest;
    image = intact.image;
  })
    where
      kept : (n : FileName) → is_segment n ≡ false → is_later_image id n ≡ false → (c.reads i).file Current n ≡ (a.reads i).file Current n
      kept n segment image = cut.reads.cutting.others n segment image ∙ same_current (a.reads i) (b.reads i) n was.reads

  -- the image alone makes the chain
  brought : (low c : Reads) → ((n : FileName) → is_segment n ≡ true → low.file Current n ≡ None) → ((n : FileName) → is_later_image id n ≡ true → low.file Current n ≡ None) → ((n : FileName) → n ≢ name.Image id → n ≢ name.Md5 id → n ≢ name.Ckpt id → n ≢ name.Md5Tmp id → c.file Current n ≡ low.file Current n)
      → IsIntact (folder_at c Current) version id ns → IsBroughtTo version id ns c
  brought low c segments images others intact = record { intact = intact; chain = both.0; bare = both.1 }
    where
      no_segment : HasNoSegment (folder_at c Current)
      no_segment n first ranged begins = others n (not_segment n (name.Image id) first refl begins) (not_segment n (name.Md5 id) first refl begins) (not_segment n (name.Ckpt id) first refl begins) (not_segment n (name.Md5Tmp id) first refl begins) ∙ segments n (ap (λ (o : Option ℕ). is_some o) begins)

      no_later : HasNoLater (folder_at c Current) id
      no_later later ranged above = others (name.Image later) (λ e. omega (arith, above, ap first_id e)) (λ e. cc) (λ e. cc) (λ e. cc) ∙ images (name.Image later) (lt-ltb id later above)

      both : IsChain (folder_at c Current) version (record { last = id; ns = ns }) × EndsBare (folder_at c Current) version (record { last = id; ns = ns })
      both = bare_chain (folder_at c Current) version id ns intact no_later no_segment

  pub brought_by : {T : Type 0} (i : ℕ) (b c d : State) (r : Result T MakeFault) → WasCutDown id i b c → OnOk r (IsPublished version id ns i c d) → OnOk r (ReadsIntact version id ns i d) → OnOk r (IsBroughtTo version id ns (d.reads i))
  brought_by i b c d (Err fault) cut published intact = tt
  brought_by i b c d (Ok v) cut (inl missing) intact = brought (c.reads i) (d.reads i) cut.reads.segments cut.reads.images missing.written.reads.beside.other_files intact
  brought_by i b c d (Ok v) cut (inr there) intact = brought (c.reads i) (d.reads i) cut.reads.segments cut.reads.images (λ n w x y z. ap (λ (r : Reads). r.file Current n) there.reads) intact

-- `current` is there where it has VERSION
pub normal_current : (d : Disk) → IsSound d → IsIn Normal d → d.has Current ≡ true
normal_current d sound normal = by (d.has Current) refl
  where
    versioned : is_some (d.file Current name.Version) ≡ true
    versioned = ap (λ (s : Seven). s.current) (normal_seven (seven_of d) normal)

    by : (there : Bool) → d.has Current ≡ there → d.has Current ≡ true
    by true is = is
    by false is = let e = sym versioned ∙ ap (λ (f : Option File). is_some f) (sound.files Current name.Version is) in cc

-- all of it
pub topped : {saved : Bool} (version : Version) (id : ℕ) (ns : Namespace) (i j : DirNo) {a b c d : State} → i ≡ j → IsLawful a → IsIn Normal (disk_at a j.0) → WasKeptOrGivenUp saved j.0 a b → WasCutDown id i.0 b c
    → ((disk_at c i.0).has Current ≡ true → IsPublished version id ns i.0 c d) → ((disk_at c i.0).has Current ≡ true → IsOnlyOf version id ns i.0 c → ReadsIntact version id ns i.0 d) → IsOnlyOf version id ns j.0 a → IsBroughtTo version id ns (d.reads j.0)
topped version id ns i j {a} {b} {c} {d} same lawful normal was cut published intact only =
    let down = subst (λ (x : DirNo). WasCutDown id x.0 b c) same cut in
    let there = current_there j.0 a b c was down (normal_current (disk_at a j.0) (lawful.disks j.0) normal) in
    brought_by version id ns {T = Unit {0}} j.0 b c d (Ok tt) down
    (subst (λ (x : DirNo). (disk_at c x.0).has Current ≡ true → IsPublished version id ns x.0 c d) same published there)
    (subst (λ (x : DirNo). (disk_at c x.0).has Current ≡ true → IsOnlyOf version id ns x.0 c → ReadsIntact version id ns x.0 d) same intact there (only_kept version id ns j.0 a b c was down only))

pub topped_up : (saved : Bool) (version : Version) (id : ℕ) (ns : Namespace) (i j : DirNo) {a b c d : State} → i ≡ j → IsLawful a → IsIn Normal (disk_at a j.0) → WasKeptOrGivenUp saved j.0 a b → WasCutDown id i.0 b c
    → ((disk_at c i.0).has Current ≡ true → IsPublished version id ns i.0 c d) → WasToppedUp saved version id ns j.0 a d
topped_up saved version id ns i j {a} {b} {c} {d} same lawful normal was cut published =
    let down = subst (λ (x : DirNo). WasCutDown id x.0 b c) same cut in
    let there = current_there j.0 a b c was down (normal_current (disk_at a j.0) (lawful.disks j.0) normal) in
    record { mid = b; low = c; kept = was; cut = down; published = subst (λ (x : DirNo). (disk_at c x.0).has Current ≡ true → IsPublished version id ns x.0 c d) same published there }
