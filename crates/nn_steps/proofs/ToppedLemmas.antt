-- A directory that the floor has left behind and that has neither segments nor later images, while the image of the floor is published into it.
use Rattle.std.proofs.Common.{true, ◌≡◌, ◌≢◌, ◌⊎◌, inl, inr, ℕ, ◌+◌, ◌-◌, ◌≤◌, Option, None, refl, sym, ◌∙◌, ap, subst, arith}
use Rattle.std.specs.Prelude.{is_some, Bool}
use Rattle.std.proofs.lemmas.Bool.Decides.{eqb_tells}
use Rattle.std.proofs.lemmas.Bool.{lt-ltb}
use Rattle.std.proofs.lemmas.Option.{none-some}
use Rattle.nn_base.specs.declared.sub.Sub.{Sub}
use Rattle.nn_base.specs.declared.sub.Sub.TheVariants.{Current}
use Rattle.nn_base.specs.declared.file_name.FileName.{FileName}
use Rattle.nn_base.specs.declared.file_name.FileName.TheVariants as name
use Rattle.nn_base.specs.Names.{first_id}
use Rattle.nn_base.proofs.NamesLemmas.{sub_tells, file_tells}
use Rattle.nn_host.specs.Disk.{Disk, Reads, File, Leaves}
use Rattle.nn_host.proofs.CleanLemmas.{sure_left}
use Rattle.nn_marks.specs.declared.version.Version.{Version}
use Rattle.nn_state.specs.declared.state.Seven.{Seven}
use Rattle.nn_state.specs.declared.state.StorageState.TheVariants.{Normal}
use Rattle.nn_state.specs.Table.{table_of}
use Rattle.nn_state.specs.Seat.{seat_of, saved}
use Rattle.nn_state.specs.Typed.{IsIn}
use Rattle.nn_tree.specs.Namespace.{Namespace}
use Rattle.nn_chain.specs.Folder.{Folder, HasVersion, HasSeen, folder_at}
use Rattle.nn_chain.specs.Images.{IsIntact}
use Rattle.nn_chain.specs.Records.{first_in}
use Rattle.nn_chain.specs.Chain.{IsChain, EndsBare, HasNoSegment, HasNoLater}
use Rattle.nn_chain.proofs.BareLemmas.{bare_chain}
use Rattle.nn_chain.proofs.SameLemmas.{intact_same, not_segment}
use Rattle.nn_remake.specs.Publishing.{BesideImage, IsPublishing, IsWhole, digest_of}
use Rattle.nn_remake.specs.Removing.{is_segment, is_later_image}
use Rattle.nn_state.proofs.LeftLemmas.{seven_left}
use Rattle.nn_pick.specs.Dirs.{ServesPrevious, ServesUnder}
use Rattle.nn_kept.specs.Kept.{Shared, IsKept, IsKeptUnder}
use Rattle.nn_kept.specs.Laws.{IsOutranked}
use Rattle.nn_kept.specs.Ends.{EndsAt, EndsBetween, HoldsThere}
use Rattle.nn_kept.proofs.GreatestLemmas.{kept_under}
use Rattle.nn_kept.proofs.KeptOnwardLemmas.{version_there, seen_there, reached_by_floor}
use Rattle.nn_kept.specs.Laws.{EachLeft}
use Rattle.nn_state.proofs.TableLemmas.{seven_by}
use Rattle.nn_steps.specs.Steps.{StaysBehind}
use Rattle.nn_steps.proofs.BesideLemmas.{LeftBeside, left_beside}
use Rattle.nn_steps.proofs.NormalLemmas.{SameMarks, current_serves, normal_too, saved_same, previous_before, stays_outranked, stays_behind}
use Rattle.nn_steps.specs.NotRaised.{IsNotRaised}
use Rattle.nn_steps.proofs.LoweringLemmas.{LeftLower, bare_not_raised}
use Rattle.nn_steps.proofs.CutLemmas.{left_none, name_kind}

abbrev pub NoSegments : Disk → Type 0
NoSegments d = (n : FileName) → is_segment n ≡ true → d.file Current n ≡ None

abbrev pub NoneLater : ℕ → Disk → Type 0
NoneLater id d = (n : FileName) → is_later_image id n ≡ true → d.file Current n ≡ None

-- a directory left behind, cut down to what the floor's image can be published into
pub record IsCutLow (shared : Shared) (version : Version) (id : ℕ) (d : Disk) : Type 0 where
  pub normal : IsIn Normal d
  pub behind : StaysBehind shared d
  pub says : EachLeft d (λ c. HasVersion (folder_at c Current) version)
  pub ctime : version.ctime ≡ shared.floor.ctime
  pub last : shared.floor.last ≡ id
  pub segments : NoSegments d
  pub later : NoneLater id d
  pub saves : saved d ≢ None → shared.saved version.ctime ≢ None

-- a file of the image of this id
pub OfImage : ℕ → Sub → FileName → Type 0
OfImage id s n = (s ≡ Current) × ((n ≡ name.Image id) ⊎ ((n ≡ name.Md5 id) ⊎ ((n ≡ name.Ckpt id) ⊎ (n ≡ name.Md5Tmp id))))

module _ (id : ℕ) (old d : Disk) (beside : BesideImage id old d) where
  pub of_image_or_same : (s : Sub) (n : FileName) → (d.file s n ≡ old.file s n) ⊎ OfImage id s n
  unfolding OfImage
  of_image_or_same s n = elim (sub_tells s Current) [
    | inr other ↦ inl (beside.other_subs s n other.1)
    | inl here ↦ elim (file_tells n (name.Image id)) [
      | inl is ↦ inr (here.1, inl is.1)
      | inr no_image ↦ elim (file_tells n (name.Md5 id)) [
        | inl is ↦ inr (here.1, inr (inl is.1))
        | inr no_digest ↦ elim (file_tells n (name.Ckpt id)) [
          | inl is ↦ inr (here.1, inr (inr (inl is.1)))
          | inr no_ckpt ↦ elim (file_tells n (name.Md5Tmp id)) [
            | inl is ↦ inr (here.1, inr (inr (inr is.1)))
            | inr no_tmp ↦ inl (subst (λ (q : Sub). d.file q n ≡ old.file q n) (sym here.1) (beside.other_files n no_image.1 no_digest.1 no_ckpt.1 no_tmp.1))
          ]
        ]
      ]
    ]
  ]

  module _ (c : Reads) (leaves : Leaves d c) where
    abbrev pub top_left : LeftBeside (OfImage id) old d c
    top_left = left_beside (OfImage id) old d beside.root beside.subs of_image_or_same c leaves

    same_file : (n : FileName) → n ≢ name.Image id → n ≢ name.Md5 id → n ≢ name.Ckpt id → n ≢ name.Md5Tmp id → c.file Current n ≡ top_left.before.file Current n
    unfolding OfImage
    same_file n w x y z = elim (top_left.files Current n) [
      | inl same ↦ same
      | inr of ↦ absurd (elim of.1 [ inl e ↦ w e | inr more ↦ elim more [ inl e ↦ x e | inr rest ↦ elim rest [ inl e ↦ y e | inr e ↦ z e ] ] ])
    ]

    pub marks : SameMarks top_left.before c
    unfolding OfImage
    marks = record {
      root = top_left.root;
      subs = top_left.subs;
      others = λ s n apart. elim (top_left.files s n) [ inl same ↦ same | inr of ↦ absurd (apart of.0) ];
      version = same_file name.Version (λ e. cc) (λ e. cc) (λ e. cc) (λ e. cc);
      seen = same_file name.Seen (λ e. cc) (λ e. cc) (λ e. cc) (λ e. cc);
    }

    pub none_here : NoSegments old → HasNoSegment (folder_at c Current)
    none_here lacks n first ranged begins = left_none (d.file Current n) (c.file Current n) (leaves.files Current n) (
        beside.other_files n (not_segment n (name.Image id) first refl begins) (not_segment n (name.Md5 id) first refl begins) (not_segment n (name.Ckpt id) first refl begins) (not_segment n (name.Md5Tmp id) first refl begins)
        ∙ lacks n (name_kind (first_in n) first begins))

    pub none_later : NoneLater id old → HasNoLater (folder_at c Current) id
    none_later lacks later ranged above = left_none (d.file Current (name.Image later)) (c.file Current (name.Image later)) (leaves.files Current (name.Image later)) (
        beside.other_files (name.Image later) (λ e. (let same : later ≡ id = ap first_id e in omega (arith, above, same))) (λ e. cc) (λ e. cc) (λ e. cc)
        ∙ lacks (name.Image later) (lt-ltb id later above))

    pub top_normal : IsIn Normal old → IsIn Normal top_left.before
    top_normal normal = ap table_of (seven_left old top_left.before top_left.left) ∙ normal

    -- ---- the image isn't there

    other_image : (found : ℕ) → found ≢ id → c.file Current (name.Image found) ≡ top_left.before.file Current (name.Image found)
    other_image found apart = same_file (name.Image found) (λ e. apart (ap first_id e)) (λ e. cc) (λ e. cc) (λ e. cc)

    other_digest : (found : ℕ) → found ≢ id → c.file Current (name.Md5 found) ≡ top_left.before.file Current (name.Md5 found)
    other_digest found apart = same_file (name.Md5 found) (λ e. cc) (λ e. apart (ap first_id e)) (λ e. cc) (λ e. cc)

    intact_before : d.file Current (name.Image id) ≡ None → (version : Version) (found : ℕ) (ns : Namespace) → IsIntact (folder_at c Current) version found ns → IsIntact (folder_at top_left.before Current) version found ns
    intact_before gone version found ns intact = elim (eqb_tells found id) [
      | inl is ↦ absurd (none-some intact.bytes (sym (ap (λ (k : ℕ). c.file Current (name.Image k)) is.1 ∙ left_none (d.file Current (name.Image id)) (c.file Current (name.Image id)) (leaves.files Current (name.Image id)) gone) ∙ intact.there))
      | inr apart ↦ intact_same version (folder_at c Current) (folder_at top_left.before Current) found ns (record { image = sym (other_image found apart.1); digest = sym (other_digest found apart.1) }) intact
    ]

    lower : NoSegments old → d.file Current (name.Image id) ≡ None → (v : Version) → IsNotRaised v (folder_at top_left.before Current) (folder_at c Current)
    lower lacks gone v = bare_not_raised v (folder_at top_left.before Current) (folder_at c Current) (none_here lacks) (intact_before gone v)

    pub gone_lower : NoSegments old → d.file Current (name.Image id) ≡ None → LeftLower old d c
    gone_lower lacks gone = record { before = top_left.before; left = top_left.left; fair = top_left.fair; says = marks.version; rank = lower lacks gone }

    pub gone_behind : (shared : Shared) → IsIn Normal old → NoSegments old → d.file Current (name.Image id) ≡ None → IsKept shared top_left.before → IsOutranked shared top_left.before → IsKept shared c × IsOutranked shared c
    gone_behind shared normal lacks gone kept low =
        let before = top_normal normal in
        (stays_behind top_left.before c before marks shared (lower lacks gone) kept low, stays_outranked top_left.before c before marks shared (lower lacks gone) low)

-- ---- the image is there whole

pub whole_left : (version : Version) (id : ℕ) (ns : Namespace) (d : Disk) (c : Reads) → Leaves d c → IsWhole version id ns d → IsIntact (folder_at c Current) version id ns
whole_left version id ns d c leaves is = record {
  bytes = is.bytes;
  there = sure_left d c Current (name.Image id) is.bytes leaves is.stands.image;
  digest = sure_left d c Current (name.Md5 id) (digest_of id is.bytes) leaves is.stands.digest;
  image = is.image;
}

module _ (shared : Shared) (version : Version) (id : ℕ) (old d : Disk) (fits : IsCutLow shared version id old) (beside : BesideImage id old d) (whole : IsWhole version id (shared.ns version.ctime id) d) (c : Reads) (leaves : Leaves d c) where
  abbrev it : LeftBeside (OfImage id) old d c
  it = top_left id old d beside c leaves

  same : SameMarks it.before c
  same = marks id old d beside c leaves

  normal_before : IsIn Normal it.before
  normal_before = top_normal id old d beside c leaves fits.normal

  normal_here : IsIn Normal c
  normal_here = normal_too it.before c normal_before same

  module _ (kept : IsKept shared it.before) (low : IsOutranked shared it.before) (says_before : HasVersion (folder_at it.before Current) version) where
    under_before : ServesUnder it.before version (folder_at it.before Current)
    under_before = record { serves = current_serves it.before normal_before; says = says_before }

    its : IsKeptUnder shared it.before version (folder_at it.before Current)
    its = kept_under shared it.before version (folder_at it.before Current) kept under_before

    late : shared.floor.ctime ≤ version.ctime
    late = omega (arith, fits.ctime)

    chain : IsChain (folder_at c Current) version (record { last = id; ns = shared.ns version.ctime id }) × EndsBare (folder_at c Current) version (record { last = id; ns = shared.ns version.ctime id })
    chain = bare_chain (folder_at c Current) version id (shared.ns version.ctime id) (whole_left version id (shared.ns version.ctime id) d c leaves whole) (none_later id old d beside c leaves fits.later) (none_here id old d beside c leaves fits.segments)

    seen : (k : ℕ) → HasSeen (folder_at c Current) k → k ≤ id + 1
    seen k has =
        let up = reached_by_floor shared version (folder_at it.before Current) (k - 1) late (low version (folder_at it.before Current) under_before) (its.seen late k (seen_there (folder_at c Current) (folder_at it.before Current) k same.seen has)) in
        let last = fits.last in
        omega (arith, up.1, last)

    saved_is : saved c ≡ saved old
    saved_is = saved_same it.before c normal_before same ∙ ap (λ (s : Seven). (seat_of s).previous) (seven_left old it.before it.left)

    holds : (previous : Folder) → ServesPrevious c previous → HoldsThere c version previous id (shared.saved version.ctime)
    holds previous serves = elim (its.saves late previous (previous_before it.before c normal_before same previous serves)) [
      | inl held ↦ (
          let up = reached_by_floor shared version (folder_at it.before Current) held.end.last late (low version (folder_at it.before Current) under_before) held.reached in
          let last = fits.last in
          record { sound = held.sound; own = held.own; end = held.end; chain = record { serves = serves; says = held.chain.says; chain = held.chain.chain }; is = held.is; low = omega (arith, up.1, last); bare = held.bare }
          )
      | inr none ↦ absurd (fits.saves (λ gone. none-some serves.sub (sym (saved_is ∙ gone) ∙ serves.serves)) none.0)
    ]

    pub topped_ends : EndsAt c version (is_some (saved old)) (shared.saved version.ctime) (record { last = id; ns = shared.ns version.ctime id })
    topped_ends = record {
      state = (Normal, normal_here, λ e. cc);
      folder = folder_at c Current;
      under = record { serves = current_serves c normal_here; says = version_there (folder_at it.before Current) (folder_at c Current) version (sym same.version) says_before };
      chain = chain.0;
      bare = chain.1;
      seen = seen;
      previous = ap (λ (o : Option Sub). is_some o) saved_is;
      holds = holds;
    }

-- what serves as previous stays
pub top_saved : (id : ℕ) (old d : Disk) → BesideImage id old d → saved old ≡ saved d
top_saved id old d beside = sym (ap (λ (s : Seven). (seat_of s).previous) (seven_by old d beside.root beside.subs (ap (λ (o : Option File). is_some o) (beside.other_files name.Version (λ e. cc) (λ e. cc) (λ e. cc) (λ e. cc)))))

pub whole_ends : (shared : Shared) (version : Version) (id : ℕ) (old d : Disk) → IsCutLow shared version id old → BesideImage id old d → IsWhole version id (shared.ns version.ctime id) d
    → EndsBetween version (is_some (saved d)) (shared.saved version.ctime) (shared.ns version.ctime) id id d
whole_ends shared version id old d fits beside whole c leaves fair =
    let it = top_left id old d beside c leaves in
    let was = fits.behind it.before it.left (it.fair fair) in
    let ends = topped_ends shared version id old d fits beside whole c leaves was.0 was.1 (fits.says it.before it.left (it.fair fair)) in
    let same = ap (λ (o : Option Sub). is_some o) (top_saved id old d beside) in
    (id, omega arith, omega arith, subst (λ (has : Bool). EndsAt c version has (shared.saved version.ctime) (record { last = id; ns = shared.ns version.ctime id })) same ends)

pub publishing_tops : (shared : Shared) (version : Version) (id : ℕ) (old d : Disk) → IsCutLow shared version id old → IsPublishing version id (shared.ns version.ctime id) old d
    → StaysBehind shared d ⊎ EndsBetween version (is_some (saved d)) (shared.saved version.ctime) (shared.ns version.ctime) id id d
publishing_tops shared version id old d fits is = elim is.image [
  | inl same ↦ inl (subst (StaysBehind shared) (sym same) fits.behind)
  | inr more ↦ elim more [
    | inl gone ↦ inl (λ c leaves fair. (
        let it = top_left id old d is.beside c leaves in
        let was = fits.behind it.before it.left (it.fair fair) in
        gone_behind id old d is.beside c leaves shared fits.normal fits.segments gone was.0 was.1
        ))
    | inr whole ↦ inr (whole_ends shared version id old d fits is.beside whole)
  ]
]
