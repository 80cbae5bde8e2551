-- One directory that is brought up to the floor: cleared and made, or topped up.
use Rattle.nn_remake.specs.Publishing.{digest_of}
use Rattle.nn_remake.specs.Removing.{is_segment, is_later_image}
use Rattle.nn_base.specs.declared.file_name.FileName.TheVariants as name
use Rattle.nn_base.specs.declared.file_name.FileName.{FileName}
use Rattle.nn_steps.proofs.SettledLemmas.{published_is_sure}
use Rattle.std.proofs.lemmas.Bool.{cases_Bool}
use Rattle.nn_base.proofs.NamesLemmas.{file_tells}
use Rattle.std.proofs.Common.{◌≡◌, ◌⊎◌, inl, inr, ℕ, Bool, true, false, ◌&&◌, List, Option, None, Result, Ok, Err, OnOk, refl, sym, ◌∙◌, ap, subst, arith, true≢false, ⊎_elim, Some}
use Rattle.std.specs.Prelude.{is_some, Contains, IfOk, if◌then◌else◌}
use Rattle.nn_base.specs.declared.sub.Sub.{Sub}
use Rattle.nn_base.specs.declared.sub.Sub.TheVariants.{Current, Previous}
use Rattle.std.proofs.lemmas.Option.{none-some}
use Rattle.nn_host.specs.Disk.{Held, Disk, certain, Reads}
use Rattle.nn_host.proofs.CleanLemmas.{reading}
use Rattle.nn_host.specs.Moments.{State, disk_at}
use Rattle.nn_host.specs.Runs.{OnlyAt}
use Rattle.nn_host.proofs.WorkLemmas.{work_trans, work_weaker}
use Rattle.nn_marks.specs.declared.version.Version.{Version}
use Rattle.nn_state.specs.declared.state.StorageState.TheVariants.{Normal}
use Rattle.nn_state.specs.declared.typed.Settled.{Settled}
use Rattle.nn_state.specs.declared.typed.Settled.TheVariants as settled
use Rattle.nn_state.specs.declared.state.StorageState.{StorageState}
use Rattle.nn_state.specs.declared.state.Why.{Why}
use Rattle.nn_state.specs.Table.{seven_of}
use Rattle.nn_state.specs.declared.typed.Fresh.{Fresh}
use Rattle.nn_state.specs.Seat.{seat_by, if_there, saved}
use Rattle.nn_state.specs.Typed.{IsIn, FitsSettled}
use Rattle.nn_tree.specs.Namespace.{Namespace}
use Rattle.nn_remake.specs.Clearing.{IsClearing}
use Rattle.nn_chain.specs.Folder.{folder_at}
use Rattle.nn_chain.specs.Images.{IsIntact}
use Rattle.nn_remake.specs.Topping.{IsToppingUp, WasToppedUp}
use Rattle.nn_remake.specs.Made.{IsMade, WasMade, FreshOrMade}
use Rattle.nn_remake.proofs.LeftLemmas.{fresh_left, made_left, made_intact}
use Rattle.nn_pick.proofs.HoldsLemmas.{fresh_serves}
use Rattle.nn_pick.specs.Opening.{Book}
use Rattle.nn_kept.specs.Kept.{Rank, IsAtMost, Shared, IsOfWindow}
use Rattle.nn_kept.specs.Laws.{IsKeptDisk}
use Rattle.nn_kept.specs.Ends.{HasRoom, EndsBetween, book_of}
use Rattle.nn_kept.proofs.KeptEndsLemmas.{between_is_kept}
use Rattle.nn_steps.specs.Steps.{IsSure, EndsAtFloor, StaysBehind, IsToTopUp}
use Rattle.nn_steps.proofs.SeatLemmas.{reads_whole, reads_fair}
use Rattle.nn_steps.proofs.BroughtLemmas.{topping_up_keeps, topped_up_ends}
use Rattle.nn_steps.proofs.ClearedLemmas.{clearing_keeps}
use Rattle.nn_steps.proofs.MadeLemmas.{making_keeps, made_ends}
use Rattle.nn_start.specs.Bringing.{IsAimedAt, StandsThere, IsBrought, IsBroughtUp, LagsBehind, BringsKept, BringsUp, serves_by}

-- nothing serves as previous
pub unsaved_by : (d : Disk) → IsIn Normal d → d.has Previous ≡ false → saved d ≡ None
unsaved_by d normal none = ap (λ (r : Result StorageState Why). (seat_by r (seven_of d)).previous) normal ∙ ap (λ (there : Bool). if_there there Previous) none

-- ---- what is shared has room for a directory that stands at the floor

module _ (shared : Shared) (version : Version) (id : ℕ) (ns : Namespace) (aim : IsAimedAt shared version id ns) where
  ctime_is : version.ctime ≡ shared.floor.ctime
  ctime_is = sym (ap (λ (r : Rank). r.ctime) aim.floor)

  last_is : shared.floor.last ≡ id
  last_is = ap (λ (r : Rank). r.last) aim.floor

  pub at_floor : IsAtMost shared.floor (record { ctime = version.ctime; last = id })
  at_floor = inr (sym ctime_is, omega (arith, last_is))

  pub at_lead : IsAtMost shared.lead (record { ctime = version.ctime; last = id })
  at_lead = subst (λ (r : Rank). IsAtMost r (record { ctime = version.ctime; last = id })) (sym aim.lead) at_floor

  below_lead : IsAtMost (record { ctime = version.ctime; last = id }) shared.lead
  below_lead = subst (IsAtMost (record { ctime = version.ctime; last = id })) (sym aim.lead) (inr (ctime_is, omega (arith, last_is)))

  the_book : Book
  the_book = record { ns = ns; saved = shared.saved version.ctime }

  kept_book : Contains shared.window (book_of true (shared.saved version.ctime) (shared.ns version.ctime id))
  kept_book = subst (λ (x : Namespace). Contains shared.window (record { ns = x; saved = shared.saved version.ctime })) (sym aim.list) aim.there

  inside : (has : Bool) → IsOfWindow shared.window (book_of has (shared.saved version.ctime) (shared.ns version.ctime id))
  inside true = record { saved = shared.saved version.ctime; there = kept_book; part = inl refl }
  inside false = record { saved = shared.saved version.ctime; there = kept_book; part = inr refl }

  pub has_room : (has : Bool) → HasRoom shared version has id id
  has_room has = record {
    ours = aim.ours;
    room = aim.room;
    inside = λ n least most. (let same : id ≡ n = omega arith in subst (λ (k : ℕ). IsOfWindow shared.window (book_of has (shared.saved version.ctime) (shared.ns version.ctime k))) same (inside has));
    led = inl below_lead;
  }

  -- a holder's Book is there as it is
  pub book_there : (has : Bool) → (has ≡ true) ⊎ (shared.saved version.ctime ≡ None) → Contains shared.window (book_of has (shared.saved version.ctime) (shared.ns version.ctime id))
  book_there true either = kept_book
  book_there false (inl is) = absurd (true≢false (sym is))
  book_there false (inr none) = subst (λ (s : Option Namespace). Contains shared.window (record { ns = shared.ns version.ctime id; saved = s })) none kept_book

-- ---- cleared and made

module _ {told : Type 0} {level keep : Bool} {version : Version} {id : ℕ} {ns : Namespace} {i : ℕ} {a b : State} (clearing : OnlyAt told i a b (IsClearing (disk_at a i))) where
  pub cleared_kept : BringsKept told level keep version id ns i a b
  cleared_kept shared aim lags = work_weaker clearing (λ tells d is. clearing_keeps shared (disk_at a i) d (λ c left fair. ((lags tells).behind c left fair).0) (inl (λ c left fair. ((lags tells).behind c left fair).1)) is)

  module _ {c : State} (fresh : Fresh) (here : fresh.dir.0 ≡ i) (making : OnlyAt told fresh.dir.0 b c (FreshOrMade version id ns)) where
    pub remade_kept : BringsKept told level keep version id ns i a c
    remade_kept shared aim lags = work_trans (cleared_kept shared aim lags)
        (work_weaker (subst (λ (j : ℕ). OnlyAt told j b c (FreshOrMade version id ns)) here making) (λ tells d is. making_keeps shared version id d (has_room shared version id ns (aim tells) false) (subst (λ (x : Namespace). FreshOrMade version id x d) (sym (aim tells).list) is)))

-- whatever a step has at each moment, and then the next one
pub touched_then : {told : Type 0} {i : ℕ} {a b c : State} {P Q : Disk → Type 0} (j : ℕ) → j ≡ i → OnlyAt told i a b P → OnlyAt told j b c Q → OnlyAt told i a c (λ d. Unit {0})
touched_then {told} {i} {a} {b} {c} {P} {Q} j here p q = work_trans (work_weaker p (λ tells d is. tt)) (subst (λ (k : ℕ). OnlyAt told k b c (λ d. Unit {0})) here (work_weaker q (λ tells d is. tt)))

-- a directory that holds just an image stands there
made_stands : (shared : Shared) (version : Version) (id : ℕ) (ns : Namespace) → IsAimedAt shared version id ns → (d : Disk) → IsMade version id ns d → StandsThere shared version id d
made_stands shared version id ns aim d made = record {
  normal = made.normal;
  ends = subst (λ (has : Bool). EndsBetween version has (shared.saved version.ctime) (shared.ns version.ctime) id id d) (sym (ap (λ (o : Option Sub). is_some o) (unsaved_by d made.normal (made.whole.other_subs Previous (λ e. cc)))))
      (made_ends version id (shared.ns version.ctime) (shared.saved version.ctime) d aim.ours.layout aim.room (subst (λ (x : Namespace). IsMade version id x d) (sym aim.list) made));
}

-- its files are certain
made_sure : {version : Version} {id : ℕ} {ns : Namespace} (i : ℕ) (b : State) → WasMade version id ns i b → IsSure Current i b
made_sure {version} {id} {ns} i b was n =
    let bytes : was.reads.bytes ≡ was.disk.bytes = was.reads.image.text ∙ sym was.disk.image.text in
    elim (file_tells n name.Version) [
      | inl is ↦ subst (λ (m : FileName). (disk_at b i).file Current m ≡ certain ((b.reads i).file Current m)) (sym is.1) (was.disk.whole.version_file ∙ ap certain (sym was.reads.whole.version_file))
      | inr a ↦ elim (file_tells n name.Seen) [
        | inl is ↦ subst (λ (m : FileName). (disk_at b i).file Current m ≡ certain ((b.reads i).file Current m)) (sym is.1) (was.disk.whole.seen_file ∙ ap certain (sym was.reads.whole.seen_file))
        | inr e ↦ elim (file_tells n (name.Image id)) [
          | inl is ↦ subst (λ (m : FileName). (disk_at b i).file Current m ≡ certain ((b.reads i).file Current m)) (sym is.1) (was.disk.whole.image_files.image ∙ ap (λ (x : List ℕ). certain (Some x)) (sym bytes) ∙ ap certain (sym was.reads.whole.image_files.image))
          | inr f ↦ elim (file_tells n (name.Md5 id)) [
            | inl is ↦ subst (λ (m : FileName). (disk_at b i).file Current m ≡ certain ((b.reads i).file Current m)) (sym is.1) (was.disk.whole.image_files.digest ∙ ap (λ (x : List ℕ). certain (Some (digest_of id x))) (sym bytes) ∙ ap certain (sym was.reads.whole.image_files.digest))
            | inr g ↦ was.disk.whole.other_files n a.1 e.1 f.1 g.1 ∙ ap certain (sym (was.reads.whole.other_files n a.1 e.1 f.1 g.1))
          ]
        ]
      ]
    ]

made_brought : (shared : Shared) (version : Version) (id : ℕ) (ns : Namespace) → IsAimedAt shared version id ns → (i : ℕ) (b : State) → WasMade version id ns i b → IsBrought shared version id i b
made_brought shared version id ns aim i b was = record {
  stands = made_stands shared version id ns aim (disk_at b i) was.disk;
  sure = made_sure i b was;
  intact = λ c left fair. subst (λ (x : Namespace). IsIntact (folder_at c Current) version id x) (sym aim.list) (made_intact c (made_left version id ns (disk_at b i) c was.disk left));
}

-- in one that isn't formatted nothing is saved
pub fresh_saved : (at : Settled) (d : Disk) → serves_by at ≡ false → FitsSettled at d → saved d ≡ None
fresh_saved (settled.Ready it) d isnt fits = absurd (true≢false isnt)
fresh_saved (settled.ReadyWithPrevious it) d isnt fits = absurd (true≢false isnt)
fresh_saved (settled.Fresh it) d isnt fits = ap (λ (r : Result StorageState Why). (seat_by r (seven_of d)).previous) fits

none_to_keep : (level keep has : Bool) → (level ≡ true → has ≡ false) → false ≡ (level && keep && has)
none_to_keep false keep has none = refl
none_to_keep true false has none = refl
none_to_keep true true has none = sym (none refl)

pub remade_brought : {version : Version} {id : ℕ} {ns : Namespace} (level keep : Bool) (i : ℕ) (a b : State) (at : Settled) → FitsSettled at (disk_at a i) → (level ≡ true → serves_by at ≡ false) → (fresh : Fresh) → fresh.dir.0 ≡ i → WasMade version id ns fresh.dir.0 b → (shared : Shared) → IsAimedAt shared version id ns → LagsBehind shared level keep version i a → IsBroughtUp shared level keep version id i a b
remade_brought {version} {id} {ns} level keep i a b at fits lower fresh here was shared aim lags = record {
  brought = subst (λ (j : ℕ). IsBrought shared version id j b) here (made_brought shared version id ns aim fresh.dir.0 b was);
  saves = subst (λ (j : ℕ). is_some (saved (disk_at b j)) ≡ (level && keep && is_some (saved (disk_at a i)))) here (
      ap (λ (o : Option Sub). is_some o) (unsaved_by (disk_at b fresh.dir.0) was.disk.normal (was.disk.whole.other_subs Previous (λ e. cc)))
      ∙ none_to_keep level keep (is_some (saved (disk_at a i))) (λ e. ap (λ (o : Option Sub). is_some o) (fresh_saved at (disk_at a i) (lower e) fits))
      );
}

-- ---- topped up

-- what was certain is so once it was topped up
module _ {keep : Bool} {version : Version} {id : ℕ} {ns : Namespace} (i : ℕ) (a b : State) (sure : IsSure Current i a) (was : WasToppedUp keep version id ns i a b) where
  mid_sure : IsSure Current i was.mid
  mid_sure n =
      let disk = ⊎_elim (λ same. ap (λ (d : Disk). d.file Current n) same.0) (λ given. given.1.giving.files Current n (λ e. cc) (λ e. cc)) was.kept.disk in
      let reads = ⊎_elim (λ same. ap (λ (r : Reads). r.file Current n) same.0) (λ given. given.1.giving.files Current n (λ e. cc) (λ e. cc)) was.kept.reads in
      disk ∙ sure n ∙ ap certain (sym reads)

  low_sure : IsSure Current i was.low
  low_sure n = elim (cases_Bool (is_segment n)) [
    | inl segment ↦ was.cut.disk.segments n segment ∙ ap certain (sym (was.cut.reads.segments n segment))
    | inr other ↦ elim (cases_Bool (is_later_image id n)) [
      | inl later ↦ was.cut.disk.images n later ∙ ap certain (sym (was.cut.reads.images n later))
      | inr stays ↦ was.cut.disk.cutting.others n other stays ∙ mid_sure n ∙ ap certain (sym (was.cut.reads.cutting.others n other stays))
    ]
  ]

  topped_sure : IsSure Current i b
  topped_sure = published_is_sure version id ns i was.low b low_sure was.published

-- one in which something is formatted is NORMAL
pub serves_normal : {A : Type 0} (at : Settled) (d : Held A) → serves_by at ≡ true → FitsSettled at d → IsIn Normal d
serves_normal (settled.Ready it) d is fits = fits.normal
serves_normal (settled.ReadyWithPrevious it) d is fits = fits.normal
serves_normal (settled.Fresh it) d is fits = absurd (true≢false (sym is))

-- and so is one that stands at the floor, whatever type it has
pub stands_normal : (shared : Shared) (version : Version) (id : ℕ) (at : Settled) (d : Disk) → EndsAtFloor shared version id d → FitsSettled at d → IsIn Normal d
stands_normal shared version id (settled.Ready it) d ends fits = fits.normal
stands_normal shared version id (settled.ReadyWithPrevious it) d ends fits = fits.normal
stands_normal shared version id (settled.Fresh it) d ends fits =
    let serves = (ends (reading d) (reads_whole d) (reads_fair d)).3.under.serves in
    absurd (none-some serves.sub (sym (fresh_serves (reading d) (fresh_left d (reading d) (reads_whole d) fits)) ∙ serves.serves))

saved_if : (keep : Bool) (o : Option Sub) → is_some (if keep then o else None) ≡ (keep && is_some o)
saved_if true o = refl
saved_if false o = refl

module _ (level keep : Bool) (version : Version) (id : ℕ) (ns : Namespace) (i : ℕ) (a b : State) (same : level ≡ true) where
  to_top_up : (shared : Shared) → IsAimedAt shared version id ns → IsIn Normal (disk_at a i) → LagsBehind shared level keep version i a → IsToTopUp shared keep version id (disk_at a i)
  to_top_up shared aim normal lags = record {
    normal = normal;
    behind = lags.behind;
    says = lags.says same;
    ctime = ctime_is shared version id ns aim;
    last = last_is shared version id ns aim;
    saves = lags.saves;
  }

  lag_or_stand : (shared : Shared) → IsAimedAt shared version id ns → (d : Disk) → StaysBehind shared d ⊎ EndsAtFloor shared version id d → IsKeptDisk shared false false d
  lag_or_stand shared aim d (inl behind) = record { kept = λ c left fair. (behind c left fair).0; run = λ e. absurd (true≢false (sym e)); led = λ e. absurd (true≢false (sym e)) }
  lag_or_stand shared aim d (inr ends) = between_is_kept shared version (is_some (saved d)) id id d false false ends (has_room shared version id ns aim (is_some (saved d))) (λ e. absurd (true≢false (sym e))) (λ e. absurd (true≢false (sym e)))

  pub topped_kept : {told : Type 0} → (told → IsIn Normal (disk_at a i)) → OnlyAt told i a b (IsToppingUp keep version id ns (disk_at a i)) → BringsKept told level keep version id ns i a b
  topped_kept normal topping shared aim lags = work_weaker topping (λ tells d is. lag_or_stand shared (aim tells) d (
      topping_up_keeps shared keep version id (disk_at a i) d (to_top_up shared (aim tells) (normal tells) (lags tells)) (subst (λ (x : Namespace). IsToppingUp keep version id x (disk_at a i) d) (sym (aim tells).list) is)).0)

  pub topped_brought : {E : Type 0} (result : Result Settled E) → IsIn Normal (disk_at a i) → OnOk result (WasToppedUp keep version id ns i a b) → IfOk result (λ it. FitsSettled it (disk_at b i)) → BringsUp level keep version id ns i a b result
  topped_brought (Err e) normal was fits shared aim lags = tt
  topped_brought (Ok it) normal was fits shared aim lags =
      let done = topped_up_ends shared keep version id i a b (to_top_up shared aim normal lags) (lags.sure same) (subst (λ (x : Namespace). WasToppedUp keep version id x i a b) (sym aim.list) was) in
      record {
        brought = record { stands = record { normal = stands_normal shared version id it (disk_at b i) done.ends fits; ends = done.ends }; sure = topped_sure i a b (lags.sure same) was; intact = done.intact };
        saves = ap (λ (o : Option Sub). is_some o) done.stays ∙ saved_if keep (saved (disk_at a i)) ∙ ap (λ (l : Bool). l && keep && is_some (saved (disk_at a i))) (sym same);
      }
