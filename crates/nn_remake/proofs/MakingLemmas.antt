-- Making a directory: what each call does, and what a stop finds.
use Rattle.std.proofs.Common.{◌≡◌, ◌≢◌, inl, inr, ⊎_elim, ℕ, List, [], ◌++◌, Option, Some, None, Result, Ok, refl, sym, ◌∙◌, ap, subst}
use Rattle.std.specs.Prelude.{true, false, not, ◌&&◌, is_some, if◌then◌else◌}
use Rattle.nn_base.specs.declared.sub.Sub.{Sub}
use Rattle.nn_base.specs.declared.sub.Sub.TheVariants.{Current, Previous, PreviousTmp, RemovedTmp, FinalizedTmp, LastCheckpointTmp}
use Rattle.nn_base.specs.declared.file_name.FileName.{FileName}
use Rattle.nn_base.specs.declared.file_name.FileName.TheVariants as name
use Rattle.nn_base.proofs.NamesLemmas.{file_tells}
use Rattle.nn_host.specs.Disk.{Held, Disk, Reads, File, IsSound, MakeSub, after, fresh_file, add_pending, certain, with_sub, disk_after}
use Rattle.nn_host.specs.Moments.{State, IsLawful, disk_at}
use Rattle.nn_host.specs.Calls.{Called, Done}
use Rattle.nn_host.specs.Runs.{OnlyAt}
use Rattle.nn_host.proofs.FilesLemmas.{sub_other}
use Rattle.nn_host.proofs.WorkLemmas.{work_once, work_trans, work_weaker}
use Rattle.nn_state.specs.Table.{seven_of, table_of}
use Rattle.nn_state.specs.Typed.{FitsFresh}
use Rattle.nn_small.specs.Small.{OldOrNew, Written, replaced}
use Rattle.nn_small.proofs.SmallLemmas.{replaced_name, replaced_tmp, replaced_other}
use Rattle.nn_marks.specs.declared.version.Version.{Version}
use Rattle.nn_marks.specs.Seen.{seen_text_of}
use Rattle.nn_marks.specs.VersionText.{version_text_of}
use Rattle.nn_tree.specs.Namespace.{Namespace}
use Rattle.nn_state.proofs.TableLemmas.{at_rest, table_fresh, table_at_rest, seven_by}
use Rattle.nn_remake.specs.Publishing.{Placed, IsImageUnder, digest_of, IsPublishing, WasWritten}
use Rattle.nn_remake.specs.Made.{IsBare, JustCurrent, FreshOrMade, WasMade}

-- ---- a directory without any subfolder

pub bare_fresh : (d : Disk) → IsSound d → IsBare d → FitsFresh d
bare_fresh d sound bare = ap table_of is ∙ table_fresh
  where
    is : seven_of d ≡ at_rest false false
    is = λ k. record {
      root = bare.root k;
      current = ap (λ (f : Option File). is_some f) (sound.files Current name.Version (bare.subs Current)) k;
      previous = bare.subs Previous k;
      previous_tmp = bare.subs PreviousTmp k;
      removed_tmp = bare.subs RemovedTmp k;
      finalized_tmp = bare.subs FinalizedTmp k;
      last_checkpoint_tmp = bare.subs LastCheckpointTmp k;
    }

-- ---- a directory that has just `current`

module _ {A : Type 0} {id : ℕ} {version seen image digest : Option A} (d : Held A) (just : JustCurrent id version seen image digest d) where
  pub just_seven : seven_of d ≡ at_rest (is_some version) false
  just_seven = λ k. record {
    root = just.root k;
    current = is_some (just.version_file k);
    previous = just.other_subs Previous (λ x. cc) k;
    previous_tmp = just.other_subs PreviousTmp (λ x. cc) k;
    removed_tmp = just.other_subs RemovedTmp (λ x. cc) k;
    finalized_tmp = just.other_subs FinalizedTmp (λ x. cc) k;
    last_checkpoint_tmp = just.other_subs LastCheckpointTmp (λ x. cc) k;
  }

  -- where a small file is replaced, and its .tmp gone, all other files stay away
  away : (tmp to n : FileName) (v : Option A) → tmp ≢ to → n ≢ to → d.file Current n ≡ None → (replaced d Current tmp to v).file Current n ≡ None
  away tmp to n v apart ne none = elim (file_tells n tmp) [
    | inl same ↦ subst (λ (m : FileName). (replaced d Current tmp to v).file Current m ≡ None) (sym same.1) (replaced_tmp d Current tmp to v apart)
    | inr other ↦ replaced_other d Current tmp to v n other.1 ne ∙ none
  ]

  pub just_seen : (v : Option A) → JustCurrent id version v image digest (replaced d Current name.SeenTmp name.Seen v)
  just_seen v = record {
    root = just.root;
    current = just.current;
    other_subs = just.other_subs;
    version_file = replaced_other d Current name.SeenTmp name.Seen v name.Version (λ x. cc) (λ x. cc) ∙ just.version_file;
    seen_file = replaced_name d Current name.SeenTmp name.Seen v;
    image_files = record {
      image = replaced_other d Current name.SeenTmp name.Seen v (name.Image id) (λ x. cc) (λ x. cc) ∙ just.image_files.image;
      digest = replaced_other d Current name.SeenTmp name.Seen v (name.Md5 id) (λ x. cc) (λ x. cc) ∙ just.image_files.digest;
    };
    other_files = λ n w x y z. away name.SeenTmp name.Seen n v (λ e. cc) x (just.other_files n w x y z);
  }

  pub just_version : (v : Option A) → JustCurrent id v seen image digest (replaced d Current name.VersionTmp name.Version v)
  just_version v = record {
    root = just.root;
    current = just.current;
    other_subs = just.other_subs;
    version_file = replaced_name d Current name.VersionTmp name.Version v;
    seen_file = replaced_other d Current name.VersionTmp name.Version v name.Seen (λ x. cc) (λ x. cc) ∙ just.seen_file;
    image_files = record {
      image = replaced_other d Current name.VersionTmp name.Version v (name.Image id) (λ x. cc) (λ x. cc) ∙ just.image_files.image;
      digest = replaced_other d Current name.VersionTmp name.Version v (name.Md5 id) (λ x. cc) (λ x. cc) ∙ just.image_files.digest;
    };
    other_files = λ n w x y z. away name.VersionTmp name.Version n v (λ e. cc) w (just.other_files n w x y z);
  }

-- `current` alone is made
pub just_made : {A : Type 0} (id : ℕ) (fresh : A) (add : A → List ℕ → A) (d : Held A) → d.root ≡ true → ((s : Sub) → d.has s ≡ false) → JustCurrent id None None None None (after fresh add (MakeSub Current) d)
just_made {A} id fresh add d root none = subst (λ (x : Held A). JustCurrent id None None None None x) (sym made) (record {
  root = root;
  current = refl;
  other_subs = λ s ne. let e = sub_other s Current ne in rw e (none s);
  version_file = refl;
  seen_file = refl;
  image_files = record { image = refl; digest = refl };
  other_files = λ n w x y z. refl;
})
  where
    made : after fresh add (MakeSub Current) d ≡ with_sub d Current true (λ _. None)
    made = λ k. if root k && not (none Current k) then with_sub d Current true (λ _. None) else d

-- the image is put into it
pub just_placed : {A : Type 0} {id : ℕ} {version seen before sum image digest : Option A} (d e : Held A) → JustCurrent id version seen before sum d → Placed id image digest d e → JustCurrent id version seen image digest e
just_placed {id = id} d e just p = record {
  root = p.beside.root ∙ just.root;
  current = p.beside.subs Current ∙ just.current;
  other_subs = λ s ne. p.beside.subs s ∙ just.other_subs s ne;
  version_file = p.beside.other_files name.Version (λ x. cc) (λ x. cc) (λ x. cc) (λ x. cc) ∙ just.version_file;
  seen_file = p.beside.other_files name.Seen (λ x. cc) (λ x. cc) (λ x. cc) (λ x. cc) ∙ just.seen_file;
  image_files = p.stands;
  other_files = λ n w x y z. elim (file_tells n (name.Ckpt id)) [
    | inl same ↦ subst (λ (m : FileName). e.file Current m ≡ None) (sym same.1) p.ckpt
    | inr staged ↦ elim (file_tells n (name.Md5Tmp id)) [
      | inl same ↦ subst (λ (m : FileName). e.file Current m ≡ None) (sym same.1) p.tmp
      | inr tmp ↦ p.beside.other_files n y z staged.1 tmp.1 ∙ just.other_files n w x y z
    ]
  ];
}

-- ---- at each moment

-- there is no VERSION, and nothing else by which a state is told
abbrev pub LacksVersion : Disk → Type 0
LacksVersion d = seven_of d ≡ at_rest false false

pub just_lacks : {id : ℕ} {seen image digest : Option File} (d : Disk) → JustCurrent id None seen image digest d → LacksVersion d
just_lacks d just = just_seven d just

just_fresh : {id : ℕ} {seen image digest : Option File} (d : Disk) → JustCurrent id None seen image digest d → FitsFresh d
just_fresh d just = ap table_of (just_seven d just) ∙ table_fresh

-- while the image is written there is no VERSION
fresh_publishing : (version : Version) (id : ℕ) (ns : Namespace) (d part : Disk) → LacksVersion d → IsPublishing version id ns d part → FitsFresh part
fresh_publishing version id ns d part lacks p =
    ap table_of (seven_by d part p.beside.root p.beside.subs (ap (λ (f : Option File). is_some f) (p.beside.other_files name.Version (λ x. cc) (λ x. cc) (λ x. cc) (λ x. cc))) ∙ lacks) ∙ table_fresh

-- nor while seen_txid is
fresh_seen : (bytes : List ℕ) (d part : Disk) → LacksVersion d → OldOrNew Current name.SeenTmp name.Seen bytes d part → FitsFresh part
fresh_seen bytes d part lacks p =
    ap table_of (seven_by d part p.root p.subs (ap (λ (f : Option File). is_some f) (p.other_files name.Version (λ x. cc) (λ x. cc))) ∙ lacks) ∙ table_fresh

-- while VERSION is written it isn't there, or all is
made_version : (version : Version) (id : ℕ) (ns : Namespace) (bytes : List ℕ) (d part : Disk) → IsImageUnder version id ns bytes
    → JustCurrent id None (certain (Some (seen_text_of id))) (certain (Some bytes)) (certain (Some (digest_of id bytes))) d → OldOrNew Current name.VersionTmp name.Version (version_text_of version) d part → FreshOrMade version id ns part
made_version version id ns bytes d part image just p = ⊎_elim
    (λ old. inl (ap table_of (seven_by d part p.root p.subs (ap (λ (f : Option File). is_some f) old) ∙ just_seven d just) ∙ table_fresh))
    (λ new.
    let whole : JustCurrent id (certain (Some (version_text_of version))) (certain (Some (seen_text_of id))) (certain (Some bytes)) (certain (Some (digest_of id bytes))) part = record {
      root = p.root ∙ just.root;
      current = p.subs Current ∙ just.current;
      other_subs = λ s ne. p.subs s ∙ just.other_subs s ne;
      version_file = new.0;
      seen_file = p.other_files name.Seen (λ x. cc) (λ x. cc) ∙ just.seen_file;
      image_files = record {
        image = p.other_files (name.Image id) (λ x. cc) (λ x. cc) ∙ just.image_files.image;
        digest = p.other_files (name.Md5 id) (λ x. cc) (λ x. cc) ∙ just.image_files.digest;
      };
      other_files = λ n w x y z. elim (file_tells n name.VersionTmp) [
        | inl same ↦ subst (λ (m : FileName). part.file Current m ≡ None) (sym same.1) new.1
        | inr other ↦ p.other_files n other.1 w ∙ just.other_files n w x y z
      ];
    } in
    inr (record { normal = ap table_of (just_seven part whole) ∙ table_at_rest false; bytes = bytes; image = image; whole = whole }))
    p.file

-- ---- the calls

module _ {told : Type 0} {i : ℕ} (version : Version) (id : ℕ) (ns : Namespace) where
  pub work_began : {T E : Type 0} {a b : State} {r : Result T E} → (told → IsLawful a) → (told → IsBare (disk_at a i)) → Called told i (MakeSub Current) a b r → OnlyAt told i a b (FreshOrMade version id ns)
  work_began {a = a} lawful bare called = work_once called
      (λ tells. inl (bare_fresh (disk_at a i) ((lawful tells).disks i) (bare tells)))
      (λ tells part makes. inl (subst FitsFresh (sym makes)
      (just_fresh (disk_after (MakeSub Current) (a.reads i) (disk_at a i)) (just_made id fresh_file add_pending (disk_at a i) (bare tells).root (bare tells).subs))))

  pub work_imaged : {a b c : State} → (told → LacksVersion (disk_at b i)) → OnlyAt told i a b (FreshOrMade version id ns) → OnlyAt told i b c (IsPublishing version id ns (disk_at b i)) → OnlyAt told i a c (FreshOrMade version id ns)
  work_imaged {b = b} lacks p q = work_trans p (work_weaker q (λ tells d is. inl (fresh_publishing version id ns (disk_at b i) d (lacks tells) is)))

  pub work_seen : {bytes : List ℕ} {a b c : State} → (told → LacksVersion (disk_at b i)) → OnlyAt told i a b (FreshOrMade version id ns) → OnlyAt told i b c (OldOrNew Current name.SeenTmp name.Seen bytes (disk_at b i)) → OnlyAt told i a c (FreshOrMade version id ns)
  work_seen {bytes = bytes} {b = b} lacks p q = work_trans p (work_weaker q (λ tells d is. inl (fresh_seen bytes (disk_at b i) d (lacks tells) is)))

-- a directory that lacks VERSION alone, on the disk and as it reads
pub record Unversioned (version : Version) (id : ℕ) (ns : Namespace) (i : ℕ) (s : State) : Type 0 where
  pub bytes : List ℕ
  pub image : IsImageUnder version id ns bytes
  pub disk : JustCurrent id None (certain (Some (seen_text_of id))) (certain (Some bytes)) (certain (Some (digest_of id bytes))) (disk_at s i)
  pub reads : JustCurrent id None (Some (seen_text_of id)) (Some bytes) (Some (digest_of id bytes)) (s.reads i)

module _ {i : ℕ} {id : ℕ} where
  -- `current` is made
  pub disk_began : {a b : State} → IsBare (disk_at a i) → Done i (MakeSub Current) a b → JustCurrent id None None None None (disk_at b i)
  disk_began {a} bare done = subst (λ (d : Disk). JustCurrent id None None None None d) (sym done.disk) (just_made id fresh_file add_pending (disk_at a i) bare.root bare.subs)

  pub reads_began : {a b : State} → IsLawful a → IsBare (disk_at a i) → Done i (MakeSub Current) a b → JustCurrent id None None None None (b.reads i)
  reads_began {a} lawful bare done = subst (λ (r : Reads). JustCurrent id None None None None r) (sym done.reads)
      (just_made id [] (λ old more. old ++ more) (a.reads i) ((lawful.reads i).root ∙ bare.root) (λ s. (lawful.reads i).subs s ∙ bare.subs s))

  -- the image and seen_txid are written
  pub disk_imaged : {version : Version} {ns : Namespace} {a b : State} → JustCurrent id None None None None (disk_at a i) → WasWritten version id ns i a b → LacksVersion (disk_at b i)
  disk_imaged {a = a} {b = b} just w = just_lacks (disk_at b i) (just_placed (disk_at a i) (disk_at b i) just w.disk)

  pub unversioned : {version : Version} {ns : Namespace} {a b c : State} → JustCurrent id None None None None (disk_at a i) → JustCurrent id None None None None (a.reads i) → WasWritten version id ns i a b
      → Written i Current name.SeenTmp name.Seen (seen_text_of id) b c → Unversioned version id ns i c
  unversioned {a = a} {b = b} disk reads w seen = record {
    bytes = w.bytes;
    image = w.image;
    disk = subst (λ (d : Disk). JustCurrent id None (certain (Some (seen_text_of id))) (certain (Some w.bytes)) (certain (Some (digest_of id w.bytes))) d) (sym seen.disk)
        (just_seen (disk_at b i) (just_placed (disk_at a i) (disk_at b i) disk w.disk) (certain (Some (seen_text_of id))));
    reads = subst (λ (r : Reads). JustCurrent id None (Some (seen_text_of id)) (Some w.bytes) (Some (digest_of id w.bytes)) r) (sym seen.reads)
        (just_seen (b.reads i) (just_placed (a.reads i) (b.reads i) reads w.reads) (Some (seen_text_of id)));
  }

-- VERSION is written
pub work_versioned : {told : Type 0} {i : ℕ} (version : Version) (id : ℕ) (ns : Namespace) {a b c : State} {text : List ℕ} → text ≡ version_text_of version → (told → Unversioned version id ns i b) → OnlyAt told i a b (FreshOrMade version id ns)
    → OnlyAt told i b c (OldOrNew Current name.VersionTmp name.Version text (disk_at b i)) → OnlyAt told i a c (FreshOrMade version id ns)
work_versioned {i = i} version id ns {b = b} same lacks p q = work_trans p (work_weaker q (λ tells d is.
    let u = lacks tells in
    made_version version id ns u.bytes (disk_at b i) d u.image u.disk (subst (λ (t : List ℕ). OldOrNew Current name.VersionTmp name.Version t (disk_at b i) d) same is)))

pub was_made : {i : ℕ} {version : Version} {id : ℕ} {ns : Namespace} {a b : State} {text : List ℕ} → text ≡ version_text_of version → Unversioned version id ns i a → Written i Current name.VersionTmp name.Version text a b → WasMade version id ns i b
was_made {i} {version} {id} {ns} {a} {b} {text} same u w = record {
  disk = record { normal = ap table_of (just_seven (disk_at b i) on_disk) ∙ table_at_rest false; bytes = u.bytes; image = u.image; whole = on_disk };
  reads = record { normal = ap table_of (just_seven (b.reads i) as_read) ∙ table_at_rest false; bytes = u.bytes; image = u.image; whole = as_read };
}
  where
    written : Written i Current name.VersionTmp name.Version (version_text_of version) a b
    written = subst (λ (t : List ℕ). Written i Current name.VersionTmp name.Version t a b) same w

    on_disk : JustCurrent id (certain (Some (version_text_of version))) (certain (Some (seen_text_of id))) (certain (Some u.bytes)) (certain (Some (digest_of id u.bytes))) (disk_at b i)
    on_disk = subst (λ (d : Disk). JustCurrent id (certain (Some (version_text_of version))) (certain (Some (seen_text_of id))) (certain (Some u.bytes)) (certain (Some (digest_of id u.bytes))) d) (sym written.disk)
        (just_version (disk_at a i) u.disk (certain (Some (version_text_of version))))

    as_read : JustCurrent id (Some (version_text_of version)) (Some (seen_text_of id)) (Some u.bytes) (Some (digest_of id u.bytes)) (b.reads i)
    as_read = subst (λ (r : Reads). JustCurrent id (Some (version_text_of version)) (Some (seen_text_of id)) (Some u.bytes) (Some (digest_of id u.bytes)) r) (sym written.reads)
        (just_version (a.reads i) u.reads (Some (version_text_of version)))

-- ---- one call after the other

module _ {T E told : Type 0} {i : ℕ} (version : Version) (id : ℕ) (ns : Namespace) {a b : State} {v : T} (lawful : told → IsLawful a) (bare : told → IsBare (disk_at a i)) (called : Called {E = E} told i (MakeSub Current) a b (Ok v)) where
  pub began : told → JustCurrent id None None None None (disk_at b i)
  began tells = disk_began (bare tells) (called.effect tells).ok

  pub until_imaged : {c : State} → OnlyAt told i b c (IsPublishing version id ns (disk_at b i)) → OnlyAt told i a c (FreshOrMade version id ns)
  until_imaged imaging = work_imaged version id ns (λ tells. just_lacks (disk_at b i) (began tells)) (work_began version id ns lawful bare called) imaging

  module _ {c : State} (imaged : told → (disk_at b i).has Current ≡ true → WasWritten version id ns i b c) (imaging : OnlyAt told i b c (IsPublishing version id ns (disk_at b i))) where
    placed_there : told → WasWritten version id ns i b c
    placed_there tells = imaged tells (began tells).current

    pub until_seen : {d : State} → OnlyAt told i c d (OldOrNew Current name.SeenTmp name.Seen (seen_text_of id) (disk_at c i)) → OnlyAt told i a d (FreshOrMade version id ns)
    until_seen seeing = work_seen version id ns (λ tells. disk_imaged (began tells) (placed_there tells)) (until_imaged imaging) seeing

    module _ {d : State} (seen : told → (disk_at c i).has Current ≡ true → Written i Current name.SeenTmp name.Seen (seen_text_of id) c d) (seeing : OnlyAt told i c d (OldOrNew Current name.SeenTmp name.Seen (seen_text_of id) (disk_at c i))) where
      lacks : told → Unversioned version id ns i d
      lacks tells = unversioned (began tells) (reads_began (lawful tells) (bare tells) (called.effect tells).ok) (placed_there tells) (seen tells ((placed_there tells).disk.beside.subs Current ∙ (began tells).current))

      pub until_versioned : {e : State} {text : List ℕ} → text ≡ version_text_of version → OnlyAt told i d e (OldOrNew Current name.VersionTmp name.Version text (disk_at d i)) → OnlyAt told i a e (FreshOrMade version id ns)
      until_versioned same writing = work_versioned version id ns same lacks (until_seen seeing) writing

      pub all_made : {e : State} {text : List ℕ} → text ≡ version_text_of version → (told → (disk_at d i).has Current ≡ true → Written i Current name.VersionTmp name.Version text d e) → told → WasMade version id ns i e
      all_made same written tells = was_made same (lacks tells) (written tells (lacks tells).disk.current)
