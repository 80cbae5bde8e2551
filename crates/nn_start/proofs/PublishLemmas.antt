-- The image of the floor, published into directories that stand there.
use Rattle.std.proofs.Common.{◌≡◌, inl, inr, ℕ, ◌+◌, ◌<◌, Bool, true, false, Option, None, sym, ◌∙◌, ap, subst, arith, true≢false}
use Rattle.std.specs.Prelude.{is_some}
use Rattle.std.proofs.lemmas.Bool.{cases_Bool}
use Rattle.std.proofs.lemmas.Bool.Decides.{eqb_tells}
use Rattle.nn_base.specs.declared.sub.Sub.{Sub}
use Rattle.nn_base.specs.declared.sub.Sub.TheVariants.{Current}
use Rattle.nn_base.specs.declared.file_name.FileName.TheVariants as name
use Rattle.nn_host.specs.Disk.{Disk, File, Reads, IsSound}
use Rattle.nn_host.specs.Moments.{Dir, State, IsLawful, disk_at, faults_at}
use Rattle.nn_host.specs.Runs.{OnlyAt, Throughout, RoseAt, Unspoken}
use Rattle.nn_host.specs.Calls.{next_count}
use Rattle.nn_host.proofs.WorkLemmas.{work_weaker}
use Rattle.nn_marks.specs.declared.version.Version.{Version}
use Rattle.nn_state.specs.declared.state.Seven.{Seven}
use Rattle.nn_state.specs.declared.state.StorageState.TheVariants.{Normal}
use Rattle.nn_state.specs.Table.{seven_of, table_of}
use Rattle.nn_state.specs.Seat.{seat_of, saved}
use Rattle.nn_state.specs.declared.typed.Settled.{Settled}
use Rattle.nn_state.specs.declared.typed.Settled.TheVariants as settled
use Rattle.nn_state.specs.Typed.{IsIn, FitsSettled}
use Rattle.nn_tree.specs.Namespace.{Namespace}
use Rattle.nn_chain.specs.Folder.{folder_at}
use Rattle.nn_chain.specs.Images.{IsIntact}
use Rattle.nn_remake.specs.Publishing.{BesideImage, IsPublishing}
use Rattle.nn_remake.specs.Published.{IsPublished}
use Rattle.nn_remake.specs.Rank.{IsRanked}
use Rattle.nn_state.proofs.TableLemmas.{normal_seven}
use Rattle.nn_kept.specs.Kept.{Shared}
use Rattle.nn_kept.specs.Laws.{IsKeptDisk, AllKept}
use Rattle.nn_kept.specs.Ends.{EndsBetween}
use Rattle.nn_steps.proofs.PublishedLemmas.{publishing_ends}
use Rattle.nn_steps.proofs.SettledLemmas.{published_is_intact, published_is_sure}
use Rattle.nn_start.specs.Bringing.{IsAimedAt, StandsThere, IsBrought, KeepsAll, IsAsItWas}
use Rattle.nn_start.specs.Publishing.{IsToPublish, AreToPublish}
use Rattle.nn_start.specs.Keeping.{IsYounger}
use Rattle.nn_segment_file.specs.Log.{Beside}
use Rattle.nn_segment_file.proofs.BesideLemmas.{beside_trans}
use Rattle.nn_start.proofs.KeepLemmas.{image_young, young_seven}
use Rattle.nn_start.proofs.WalkLemmas.{walk_none, walk_skip, walk_run, walk_quiet, walk_left, walk_rose, walk_more}
use Rattle.nn_start.proofs.PhaseLemmas.{Course, Phase, other_kept, end_kept, ends_kept, sure_moved, brought_moved}

-- ---- one directory

module _ (shared : Shared) (version : Version) (id : ℕ) (ns : Namespace) (aim : IsAimedAt shared version id ns) (i : ℕ) (a b : State) (to : IsToPublish shared version id ns i a) where
  -- the image at the floor, by the shared list
  ranked : (d : Disk) → IsRanked version (record { last = id; ns = ns }) (disk_at a i) d → IsRanked version (record { last = id; ns = shared.ns version.ctime id }) (disk_at a i) d
  ranked d is = subst (λ (x : Namespace). IsRanked version (record { last = id; ns = x }) (disk_at a i) d) (sym aim.list) is

  pub published_on : (d : Disk) → IsRanked version (record { last = id; ns = ns }) (disk_at a i) d → EndsBetween version (is_some (saved (disk_at a i))) (shared.saved version.ctime) (shared.ns version.ctime) id id d
  published_on d is = publishing_ends version (is_some (saved (disk_at a i))) (shared.saved version.ctime) (shared.ns version.ctime) id (disk_at a i) d to.stands.normal to.stands.ends (ranked d is)

  pub published_there : BesideImage id (disk_at a i) (disk_at b i) → IsRanked version (record { last = id; ns = ns }) (disk_at a i) (disk_at b i) → IsPublished version id ns i a b → IsBrought shared version id i b
  published_there beside rank was =
      let seven = young_seven id (disk_at a i) (disk_at b i) (image_young id (disk_at a i) (disk_at b i) beside) in
      record {
        stands = record {
          normal = ap table_of seven ∙ to.stands.normal;
          ends = subst (λ (o : Option Sub). EndsBetween version (is_some o) (shared.saved version.ctime) (shared.ns version.ctime) id id (disk_at b i)) (sym (ap (λ (s : Seven). (seat_of s).previous) seven)) (published_on (disk_at b i) rank);
        };
        sure = published_is_sure version id ns i a b to.sure was;
        intact = λ c left fair. subst (λ (x : Namespace). IsIntact (folder_at c Current) version id x) (sym aim.list) (published_is_intact version id ns i a b to.sure to.only was c left fair);
      }

-- one that is NORMAL has `current`
pub has_current : (d : Disk) → IsSound d → IsIn Normal d → d.has Current ≡ true
has_current d sound normal = elim (cases_Bool (d.has Current)) [
  | inl there ↦ there
  | inr gone ↦ (
      let none : d.file Current name.Version ≡ None = sound.files Current name.Version gone in
      let has : is_some (d.file Current name.Version) ≡ true = ap (λ (s : Seven). s.current) (normal_seven (seven_of d) normal) in
      absurd (true≢false (sym has ∙ ap (λ (o : Option File). is_some o) none))
      )
]

pub to_publish_moved : {shared : Shared} {version : Version} {id : ℕ} {ns : Namespace} (i : ℕ) (a b : State) → IsAsItWas i a b → IsToPublish shared version id ns i a → IsToPublish shared version id ns i b
to_publish_moved {shared} {version} {id} {ns} i a b alone to =
    let disk : disk_at b i ≡ disk_at a i = ap (λ (d : Dir). d.disk) alone.dir in
    record {
      stands = subst (StandsThere shared version id) (sym disk) to.stands;
      sure = sure_moved alone to.sure;
      only = λ other intact. to.only other (subst (λ (r : Reads). IsIntact (folder_at r Current) version id other) alone.reads intact);
    }

-- ---- from directory to directory

abbrev pub PublishPhase : Type 0 → (ℕ → Bool) → Version → ℕ → Namespace → ℕ → State → State → Type 0
PublishPhase told chosen version id ns k start now =
    Phase told (λ shared s. AreToPublish shared chosen version id ns s) (λ shared i s. IsBrought shared version id i s) chosen chosen version id ns k start now

abbrev The : Type 0 → (ℕ → Bool) → Version → ℕ → Namespace → State → Type 0
The told chosen version id ns a = Course told (λ shared s. AreToPublish shared chosen version id ns s) chosen version id ns a

module _ {told : Type 0} {chosen : ℕ → Bool} {version : Version} {id : ℕ} {ns : Namespace} {a : State} where
  -- one that wasn't chosen has what it needs already
  brought_kept : (w : The told chosen version id ns a) → told → (j : ℕ) (d : Dir) → chosen j ≡ false → StandsThere w.shared version id d.disk → IsKeptDisk w.shared (w.run j d) (w.leaders j d) d.disk
  brought_kept w tells j d other is = other_kept w tells j d other (ends_kept w.shared version id ns (w.aim tells) (is_some (saved d.disk)) false false d.disk is.ends (λ e. absurd (true≢false (sym e))))

  first_kept : (w : The told chosen version id ns a) → told → (j : ℕ) → j < a.count → IsKeptDisk w.shared (w.run j (a.now.dirs j)) (w.leaders j (a.now.dirs j)) (disk_at a j)
  first_kept w tells j below = elim (cases_Bool (chosen j)) [
    | inl chose ↦ end_kept w tells j (a.now.dirs j) ((w.before tells).chosen_ones j below chose).stands.ends
    | inr other ↦ brought_kept w tells j (a.now.dirs j) other ((w.before tells).others j below other).stands
  ]

  pub publishing_none : PublishPhase told chosen version id ns 0 a a
  publishing_none = walk_none (λ w tells j below. first_kept w tells j below)

module _ {told : Type 0} {chosen : ℕ → Bool} {version : Version} {id : ℕ} {ns : Namespace} {k : ℕ} {a b c : State} (walk : PublishPhase told chosen version id ns k a b) (below : k < a.count) (left : chosen k ≡ false → c ≡ b)
    (publishing : chosen k ≡ true → OnlyAt told k b c (IsPublishing version id ns (disk_at b k))) (rank : chosen k ≡ true → OnlyAt told k b c (IsRanked version (record { last = id; ns = ns }) (disk_at b k))) where
  to : chosen k ≡ true → (w : The told chosen version id ns a) → told → IsToPublish w.shared version id ns k b
  to chose w tells = to_publish_moved k a b (walk.later k (omega arith)) ((w.before tells).chosen_ones k below chose)

  abbrev Step : The told chosen version id ns a → Disk → Type 0
  Step w d = EndsBetween version (is_some (saved (disk_at a k))) (w.shared.saved version.ctime) (w.shared.ns version.ctime) id id d

  step : chosen k ≡ true → (w : The told chosen version id ns a) → OnlyAt told k b c (Step w)
  step chose w = work_weaker (rank chose) (λ tells d is. subst (λ (x : Disk). EndsBetween version (is_some (saved x)) (w.shared.saved version.ctime) (w.shared.ns version.ctime) id id d) (ap (λ (x : Dir). x.disk) (walk.later k (omega arith)).dir) (published_on w.shared version id ns (w.aim tells) k b c (to chose w tells) d is))

  here : (w : The told chosen version id ns a) → told → (d : Dir) → Step w d.disk → k < a.count → IsKeptDisk w.shared (w.run k d) (w.leaders k d) d.disk
  here w tells d is inside = end_kept w tells k d is

  touched : chosen k ≡ true → OnlyAt told k b c (λ d. Unit {0})
  touched chose = work_weaker (publishing chose) (λ tells d is. tt)

  pub publishing_run : KeepsAll told (λ shared s. AreToPublish shared chosen version id ns s) chosen version id ns a c
  publishing_run shared run leaders aim before counts = elim (cases_Bool (chosen k)) [
    | inl chose ↦ walk_run walk Step (touched chose) (step chose) here (record { shared = shared; run = run; leaders = leaders; aim = aim; before = before; counts = counts })
    | inr other ↦ subst (λ (s : State). Throughout told a s (AllKept shared a.count run leaders)) (sym (left other)) (walk.run (record { shared = shared; run = run; leaders = leaders; aim = aim; before = before; counts = counts }))
  ]

  pub publishing_quiet : Unspoken told a c
  publishing_quiet = elim (cases_Bool (chosen k)) [
    | inl chose ↦ walk_quiet walk Step (touched chose) (step chose) here
    | inr other ↦ subst (λ (s : State). Unspoken told a s) (sym (left other)) walk.quiet
  ]

  pub publishing_left : (j : ℕ) → chosen j ≡ false → IsAsItWas j a c
  publishing_left j none = elim (cases_Bool (chosen k)) [
    | inl chose ↦ walk_left walk Step (touched chose) (step chose) here chose j none
    | inr other ↦ subst (λ (s : State). IsAsItWas j a s) (sym (left other)) (walk.left j none)
  ]

  pub publishing_rose : faults_at c k ≡ next_count (faults_at b k) → RoseAt k a c
  publishing_rose rose = elim (cases_Bool (chosen k)) [
    | inl chose ↦ walk_rose walk Step (touched chose) (step chose) here below rose
    | inr other ↦ record { below = below; rose = rose ∙ ap next_count (walk.counts.faults k); others = λ j apart. ap (λ (s : State). faults_at s j) (left other) ∙ walk.counts.faults j }
  ]

  pub publishing_more : faults_at c k ≡ faults_at b k → (told → IsLawful b) → (told → chosen k ≡ true → (disk_at b k).has Current ≡ true → IsPublished version id ns k b c) → PublishPhase told chosen version id ns (k + 1) a c
  publishing_more counted lawful was = elim (cases_Bool (chosen k)) [
    | inl chose ↦ walk_more walk Step (touched chose) (step chose) here (λ w j alone is. brought_moved j b c alone is) chose counted (λ w tells.
        let it = to chose w tells in
        published_there w.shared version id ns (w.aim tells) k b c it ((publishing chose).ends tells).beside ((rank chose).ends tells) (was tells chose (has_current (disk_at b k) ((lawful tells).disks k) it.stands.normal)))
    | inr other ↦ subst (λ (s : State). PublishPhase told chosen version id ns (k + 1) a s) (sym (left other)) (walk_skip other walk)
  ]

  -- VERSION and earlier images are as they were in each directory
  pub publishing_beside : (told → (j : ℕ) → Beside (IsYounger id) (disk_at a j) (disk_at b j)) → told → (j : ℕ) → Beside (IsYounger id) (disk_at a j) (disk_at c j)
  publishing_beside so_far tells j = elim (cases_Bool (chosen k)) [
    | inl chose ↦ elim (eqb_tells j k) [
      | inl same ↦ beside_trans (so_far tells j) (subst (λ (n : ℕ). Beside (IsYounger id) (disk_at b n) (disk_at c n)) (sym same.1) (image_young id (disk_at b k) (disk_at c k) ((publishing chose).ends tells).beside))
      | inr differs ↦ subst (λ (d : Dir). Beside (IsYounger id) (disk_at a j) d.disk) (sym ((publishing chose).frame.now.dirs j differs.1)) (so_far tells j)
    ]
    | inr other ↦ subst (λ (s : State). Beside (IsYounger id) (disk_at a j) (disk_at s j)) (sym (left other)) (so_far tells j)
  ]

-- what fits a directory fits it where the table says the same
pub fits_by_seven : (it : Settled) (old new : Disk) → seven_of new ≡ seven_of old → FitsSettled it old → FitsSettled it new
fits_by_seven (settled.Ready it) old new same fits = record { normal = ap table_of same ∙ fits.normal; nothing_saved = ap (λ (s : Seven). s.previous) same ∙ fits.nothing_saved }
fits_by_seven (settled.ReadyWithPrevious it) old new same fits = record { normal = ap table_of same ∙ fits.normal; something_saved = ap (λ (s : Seven). s.previous) same ∙ fits.something_saved }
fits_by_seven (settled.Fresh it) old new same fits = ap table_of same ∙ fits

-- all of them
pub published_all : {told : Type 0} {chosen : ℕ → Bool} {version : Version} {id : ℕ} {ns : Namespace} {k : ℕ} {a b : State} → PublishPhase told chosen version id ns k a b → k ≡ a.count → told → (shared : Shared) → IsAimedAt shared version id ns → AreToPublish shared chosen version id ns a
    → (i : ℕ) → i < a.count → chosen i ≡ true → IsBrought shared version id i b
published_all walk last tells shared aim before i below chose = walk.done (record { shared = shared; run = λ j d. false; leaders = λ j d. false; aim = λ tells. aim; before = λ tells. before; counts = λ tells. record { of_run = λ j d e. absurd (true≢false (sym e)); led = λ j d e. absurd (true≢false (sym e)) } }) tells i (omega (arith, below, last)) chose

pub published_kept : {told : Type 0} {chosen : ℕ → Bool} {version : Version} {id : ℕ} {ns : Namespace} {k : ℕ} {a b : State} → PublishPhase told chosen version id ns k a b → KeepsAll told (λ shared s. AreToPublish shared chosen version id ns s) chosen version id ns a b
published_kept walk shared run leaders aim before counts = walk.run (record { shared = shared; run = run; leaders = leaders; aim = aim; before = before; counts = counts })
