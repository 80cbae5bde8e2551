-- Directories that stand at the floor beside its image, tidied.
use Rattle.std.proofs.Common.{◌≡◌, inl, inr, ℕ, ◌+◌, ◌<◌, Bool, true, false, Option, refl, sym, ◌∙◌, ap, subst, arith, true≢false, lt-ltb}
use Rattle.std.specs.Prelude.{is_some}
use Rattle.std.proofs.lemmas.Bool.Decides.{eqb_tells}
use Rattle.nn_base.specs.declared.sub.Sub.{Sub}
use Rattle.nn_base.specs.declared.sub.Sub.TheVariants.{Current}
use Rattle.nn_base.specs.declared.file_name.FileName.TheVariants as name
use Rattle.nn_host.specs.Disk.{Disk, Reads, IsSound}
use Rattle.nn_host.specs.Moments.{Dir, State, IsLawful, disk_at, faults_at}
use Rattle.nn_host.specs.Calls.{next_count}
use Rattle.nn_host.specs.Runs.{OnlyAt, RoseAt, Unspoken}
use Rattle.nn_host.proofs.WorkLemmas.{work_weaker}
use Rattle.nn_marks.specs.declared.version.Version.{Version}
use Rattle.nn_state.specs.declared.state.Seven.{Seven}
use Rattle.nn_state.specs.Table.{seven_of, table_of}
use Rattle.nn_state.specs.Seat.{seat_of, saved}
use Rattle.nn_tree.specs.Namespace.{Namespace}
use Rattle.nn_chain.specs.Folder.{Folder, folder_at}
use Rattle.nn_remake.specs.Tidying.{IsTidying, IsTidied, WasTidied, IsTidy}
use Rattle.nn_kept.specs.Kept.{Shared}
use Rattle.nn_kept.specs.Laws.{IsKeptDisk}
use Rattle.nn_kept.specs.Ends.{EndsBetween}
use Rattle.nn_steps.proofs.TidiedLemmas.{tidying_ends, tidied_is_sure, tidied_rests}
use Rattle.nn_start.specs.Bringing.{IsAimedAt, IsBrought, KeepsAll, IsAsItWas}
use Rattle.nn_segment_file.specs.Log.{Beside, Rests}
use Rattle.nn_segment_file.proofs.BesideLemmas.{beside_refl, beside_trans}
use Rattle.nn_start.specs.Keeping.{IsYounger}
use Rattle.nn_start.specs.Together.{AllBrought, IsClean, IsAtRest}
use Rattle.nn_start.proofs.KeepLemmas.{tidying_young, young_seven}
use Rattle.nn_start.proofs.WalkLemmas.{walk_none, walk_run, walk_quiet, walk_rose, walk_more}
use Rattle.nn_start.proofs.PhaseLemmas.{Course, Phase, end_kept, brought_moved}

-- ---- one directory

tidying_seven : (folder : Folder) (version : Version) (id : ℕ) (old d : Disk) → IsTidying folder version.layout id old d → seven_of d ≡ seven_of old
tidying_seven folder version id old d is = young_seven id old d (tidying_young folder version id old d is)

tidied_clean : (folder : Folder) (version : Version) (id : ℕ) (old d : Disk) → IsTidied folder version.layout id old d → IsClean id d
tidied_clean folder version id old d is = record {
  images = λ later above. is.gone (name.Image later) (inr (inl (lt-ltb id later above)));
  named = λ n unnamed. is.gone n (inl unnamed);
  ended = is.ended;
}

module _ (shared : Shared) (version : Version) (id : ℕ) (i : ℕ) (a : State) (is : IsBrought shared version id i a) where
  pub tidied_on : (folder : Folder) (d : Disk) → IsTidying folder version.layout id (disk_at a i) d → EndsBetween version (is_some (saved (disk_at a i))) (shared.saved version.ctime) (shared.ns version.ctime) id id d
  tidied_on folder d tidying c left fair = (tidying_ends folder version (is_some (saved (disk_at a i))) (shared.saved version.ctime) (shared.ns version.ctime) id (disk_at a i) d is.stands.normal is.stands.ends is.intact tidying c left fair).0

  pub tidied_there : (b : State) → IsSound (disk_at a i) → WasTidied version.layout id i a b → IsAtRest shared version id i b
  tidied_there b sound was =
      let folder = folder_at (a.reads i) Current in
      let seven = tidying_seven folder version id (disk_at a i) (disk_at b i) was.disk.tidying in
      let has = is_some (saved (disk_at a i)) in
      record {
        brought = record {
          stands = record {
            normal = ap table_of seven ∙ is.stands.normal;
            ends = subst (λ (o : Option Sub). EndsBetween version (is_some o) (shared.saved version.ctime) (shared.ns version.ctime) id id (disk_at b i)) (sym (ap (λ (s : Seven). (seat_of s).previous) seven)) (tidied_on folder (disk_at b i) was.disk.tidying);
          };
          sure = tidied_is_sure version.layout id i a b is.sure was;
          intact = λ c left fair. (tidying_ends folder version has (shared.saved version.ctime) (shared.ns version.ctime) id (disk_at a i) (disk_at b i) is.stands.normal is.stands.ends is.intact was.disk.tidying c left fair).1;
        };
        clean = tidied_clean folder version id (disk_at a i) (disk_at b i) was.disk;
        rests = tidied_rests version has (shared.saved version.ctime) (shared.ns version.ctime) id i a b sound is.stands.normal is.stands.ends is.intact is.sure was;
      }

rest_moved : {shared : Shared} {version : Version} {id : ℕ} (i : ℕ) (a b : State) → IsAsItWas i a b → IsAtRest shared version id i a → IsAtRest shared version id i b
rest_moved {shared} {version} {id} i a b alone is = record {
  brought = brought_moved i a b alone is.brought;
  rests = subst (λ (d : Dir). Rests version (shared.ns version.ctime) id d.disk) (sym alone.dir) is.rests;
  clean = subst (λ (d : Dir). IsClean id d.disk) (sym alone.dir) is.clean;
}

-- ---- from directory to directory

abbrev pub TidyPhase : Type 0 → (ℕ → Bool) → Version → ℕ → Namespace → ℕ → State → State → Type 0
TidyPhase told chosen version id ns k start now = Phase told (λ shared s. AllBrought shared version id s) (λ shared i s. IsAtRest shared version id i s) chosen (λ i. true) version id ns k start now

abbrev The : Type 0 → (ℕ → Bool) → Version → ℕ → Namespace → State → Type 0
The told chosen version id ns a = Course told (λ shared s. AllBrought shared version id s) chosen version id ns a

-- the first k are tidied, and VERSION and earlier images are as they were in each
pub record Tidying (told : Type 0) (chosen : ℕ → Bool) (version : Version) (id : ℕ) (ns : Namespace) (k : ℕ) (start now : State) : Type 0 where
  pub walk : TidyPhase told chosen version id ns k start now
  pub beside : told → (j : ℕ) → Beside (IsYounger id) (disk_at start j) (disk_at now j)
  pub tidy : told → (j : ℕ) → j < k → IsTidy (folder_at (now.reads j) Current) version.layout id

pub tidying_none : {told : Type 0} {chosen : ℕ → Bool} {version : Version} {id : ℕ} {ns : Namespace} {a : State} → Tidying told chosen version id ns 0 a a
tidying_none {a = a} = record {
  walk = walk_none (λ w tells j below. end_kept w tells j (a.now.dirs j) (w.before tells j below).stands.ends);
  beside = λ tells j. beside_refl (disk_at a j);
  tidy = λ tells j below. absurd (omega (arith, below));
}

module _ {told : Type 0} {chosen : ℕ → Bool} {version : Version} {id : ℕ} {ns : Namespace} {k : ℕ} {a b c : State} (so_far : Tidying told chosen version id ns k a b) (below : k < a.count) (tidying : OnlyAt told k b c (IsTidying (folder_at (b.reads k) Current) version.layout id (disk_at b k))) where
  here_before : (w : The told chosen version id ns a) → told → IsBrought w.shared version id k b
  here_before w tells = brought_moved k a b (so_far.walk.later k (omega arith)) (w.before tells k below)

  abbrev Step : The told chosen version id ns a → Disk → Type 0
  Step w d = EndsBetween version (is_some (saved (disk_at a k))) (w.shared.saved version.ctime) (w.shared.ns version.ctime) id id d

  step : (w : The told chosen version id ns a) → OnlyAt told k b c (Step w)
  step w = work_weaker tidying (λ tells d is. subst (λ (x : Disk). EndsBetween version (is_some (saved x)) (w.shared.saved version.ctime) (w.shared.ns version.ctime) id id d) (ap (λ (x : Dir). x.disk) (so_far.walk.later k (omega arith)).dir) (tidied_on w.shared version id k b (here_before w tells) (folder_at (b.reads k) Current) d is))

  here : (w : The told chosen version id ns a) → told → (d : Dir) → Step w d.disk → k < a.count → IsKeptDisk w.shared (w.run k d) (w.leaders k d) d.disk
  here w tells d is inside = end_kept w tells k d is

  touched : OnlyAt told k b c (λ d. Unit {0})
  touched = work_weaker tidying (λ tells d is. tt)

  pub tidying_run : KeepsAll told (λ shared s. AllBrought shared version id s) chosen version id ns a c
  tidying_run shared run leaders aim before counts = walk_run so_far.walk Step touched step here (record { shared = shared; run = run; leaders = leaders; aim = aim; before = before; counts = counts })

  pub tidying_quiet : Unspoken told a c
  tidying_quiet = walk_quiet so_far.walk Step touched step here

  pub tidying_rose : faults_at c k ≡ next_count (faults_at b k) → RoseAt k a c
  tidying_rose rose = walk_rose so_far.walk Step touched step here below rose

  pub tidying_beside : told → (j : ℕ) → Beside (IsYounger id) (disk_at a j) (disk_at c j)
  tidying_beside tells j = elim (eqb_tells j k) [
    | inl same ↦ beside_trans (so_far.beside tells j) (subst (λ (n : ℕ). Beside (IsYounger id) (disk_at b n) (disk_at c n)) (sym same.1) (tidying_young (folder_at (b.reads k) Current) version id (disk_at b k) (disk_at c k) (tidying.ends tells)))
    | inr differs ↦ subst (λ (d : Dir). Beside (IsYounger id) (disk_at a j) d.disk) (sym (tidying.frame.now.dirs j differs.1)) (so_far.beside tells j)
  ]

  pub tidying_more : faults_at c k ≡ faults_at b k → (told → IsLawful b) → (told → WasTidied version.layout id k b c) → (told → IsTidy (folder_at (c.reads k) Current) version.layout id) → Tidying told chosen version id ns (k + 1) a c
  tidying_more counted lawful was tidy = record {
    walk = walk_more so_far.walk Step touched step here (λ w j alone is. rest_moved j b c alone is) refl counted (λ w tells. tidied_there w.shared version id k b (here_before w tells) c ((lawful tells).disks k) (was tells));
    beside = tidying_beside;
    tidy = λ tells j less. elim (eqb_tells j k) [
      | inl same ↦ subst (λ (n : ℕ). IsTidy (folder_at (c.reads n) Current) version.layout id) (sym same.1) (tidy tells)
      | inr differs ↦ subst (λ (r : Reads). IsTidy (folder_at r Current) version.layout id) (sym (tidying.frame.reads j differs.1)) (so_far.tidy tells j (omega (arith, less, differs.1)))
    ];
  }

-- all of them
pub tidied_all : {told : Type 0} {chosen : ℕ → Bool} {version : Version} {id : ℕ} {ns : Namespace} {k : ℕ} {a b : State} → Tidying told chosen version id ns k a b → k ≡ a.count → told → (shared : Shared) → IsAimedAt shared version id ns → AllBrought shared version id a
    → (i : ℕ) → i < a.count → true ≡ true → IsAtRest shared version id i b
tidied_all so_far last tells shared aim before i below some = so_far.walk.done (record { shared = shared; run = λ j d. false; leaders = λ j d. false; aim = λ tells. aim; before = λ tells. before; counts = λ tells. record { of_run = λ j d e. absurd (true≢false (sym e)); led = λ j d e. absurd (true≢false (sym e)) } }) tells i (omega (arith, below, last)) refl

pub tidied_kept : {told : Type 0} {chosen : ℕ → Bool} {version : Version} {id : ℕ} {ns : Namespace} {k : ℕ} {a b : State} → Tidying told chosen version id ns k a b → KeepsAll told (λ shared s. AllBrought shared version id s) chosen version id ns a b
tidied_kept so_far shared run leaders aim before counts = so_far.walk.run (record { shared = shared; run = run; leaders = leaders; aim = aim; before = before; counts = counts })
