-- What an opening leaves of sound directories: those that were chosen stand at the floor, and the others lag behind.
use Rattle.std.proofs.Common.{◌≡◌, ◌≢◌, inl, inr, ℕ, zero, suc, ℤ, ◌<◌, ◌≤◌, Bool, true, false, List, [], ◌∷◌, length, Some, None, refl, sym, ◌∙◌, ap, subst, arith, true≢false, Option, Result, Ok, Err, OnOk, ⊎_elim}
use Rattle.std.specs.Prelude.{is_some, Contains, ◌↔◌, IfOk}
use Rattle.nn_base.specs.declared.sub.Sub.{Sub}
use Rattle.nn_base.specs.declared.sub.Sub.TheVariants.{Current}
use Rattle.nn_base.specs.declared.file_name.FileName.{FileName}
use Rattle.nn_base.specs.declared.file_name.FileName.TheVariants as name
use Rattle.nn_host.specs.Disk.{Disk, certain}
use Rattle.nn_host.specs.Moments.{Dir, State, IsLawful, disk_at}
use Rattle.nn_host.proofs.CleanLemmas.{reading, sure_left}
use Rattle.nn_marks.specs.declared.version.Version.{Version}
use Rattle.nn_state.specs.declared.state.Seven.{Seven}
use Rattle.nn_state.specs.declared.typed.Settled.{Settled}
use Rattle.nn_state.specs.Seat.{seat_of, serving, saved}
use Rattle.nn_state.specs.Bays.{IsAt, AreSettled}
use Rattle.nn_state.specs.Recovery.{SameFolder, HasServingVersion}
use Rattle.nn_state.specs.Table.{seven_of}
use Rattle.nn_tree.specs.Namespace.{Namespace}
use Rattle.nn_chain.specs.Folder.{Folder, HasVersion, folder_at}
use Rattle.nn_chain.specs.Images.{IsIntact}
use Rattle.nn_chain.specs.Chain.{Reached, after, Leads, IsChain}
use Rattle.nn_record.specs.declared.transaction.Record.{Record}
use Rattle.nn_chain.proofs.ChainLemmas.{one_intact}
use Rattle.nn_state.proofs.LeftLemmas.{seven_left}
use Rattle.nn_pick.specs.declared.fault.OpenFault.{OpenFault}
use Rattle.nn_pick.specs.declared.intent.Intent.TheVariants.{Start}
use Rattle.nn_pick.specs.Dirs.{Dirs, ServesUnder, HasGreatestCtime, IsChosen, IsAmongChosen}
use Rattle.nn_pick.specs.Refusing.{IsChosenWithPrevious, IsUnrefused}
use Rattle.nn_pick.specs.Opening.{Opening, Opens, IsSaved, Unsaved, Lost, Kept, AreSound}
use Rattle.nn_pick.proofs.VersionLemmas.{one_current}
use Rattle.nn_pick.proofs.OneOpeningLemmas.{one_opens}
use Rattle.nn_kept.specs.Kept.{Rank, Shared, IsOfRun, end_at}
use Rattle.nn_kept.specs.Laws.{EachLeft}
use Rattle.nn_kept.specs.First.{IsFirst, AreKeptFirst}
use Rattle.nn_kept.specs.Ends.{EndsAt, EndsBetween}
use Rattle.nn_kept.proofs.KeptLemmas.{same_version, under_each}
use Rattle.nn_kept.proofs.KeptOpenLemmas.{there}
use Rattle.nn_kept.proofs.UnrefusedLemmas.{agree, ours, no_spent, read}
use Rattle.nn_kept.proofs.KeptFirstLemmas.{sound_is_kept}
use Rattle.nn_kept.proofs.KeptEndsLemmas.{of_run_ends}
use Rattle.nn_steps.specs.Steps.{IsSure, StaysBehind}
use Rattle.nn_steps.proofs.SettledLemmas.{settled_ends, settled_stays_behind}
use Rattle.nn_steps.proofs.RecoveredLemmas.{recovering_keeps, recovering_ends, recovering_leaves_behind}
use Rattle.nn_steps.proofs.SeatLemmas.{reads_whole, reads_fair}
use Rattle.nn_choose.specs.Looking.{dirs_read}
use Rattle.nn_choose.specs.Picking.{Chooses, IsAhead}
use Rattle.nn_open.specs.Answers.{settled_disk}
use Rattle.nn_open.proofs.StepLemmas.{seven_settled}
use Rattle.std.proofs.lemmas.Option.{none-some, same_Some}
use Rattle.std.proofs.lemmas.Bool.{cases_lt}
use Rattle.nn_start.specs.Entry.{CountChosen, WasReopened, AllReopened, SettledFitNow}
use Rattle.nn_start.specs.Bringing.{IsAimedAt, StandsThere, LagsBehind, AreReady, CountStanding}
use Rattle.nn_start.specs.Publishing.{IsToPublish, AreOpened}
use Rattle.nn_start.proofs.BringLemmas.{stands_normal}
use Rattle.nn_start.proofs.PhaseLemmas.{lags_kept}

-- what stands at a place
pub settled_at : (xs : List Settled) (k : ℕ) → k < length xs → (it : Settled) × IsAt xs k it
settled_at [] k within = absurd (omega (arith, within))
settled_at (x ∷ xs) zero within = (x, record { within = within; is = refl })
settled_at (x ∷ xs) (suc k) within =
    let later = settled_at xs k (omega (arith, within)) in
    (later.0, record { within = within; is = later.1.is })

pub is_there : {A : Type 0} (o : Option A) → o ≢ None → is_some o ≡ true
is_there None some = absurd (some refl)
is_there (Some x) some = refl

-- ---- what was picked is what sound directories open to

module _ (dirs : Dirs) (ns : Namespace) (id : ℕ) (version : Version) (chosen : ℕ → Bool) (chose : Chooses dirs Start ns id version chosen) (sound : AreSound dirs Start) where
  picked : Opening
  picked = record { chosen = chosen; last = id; book = record { ns = ns; saved = sound.opened.book.saved } }

  opens : Opens dirs Start picked
  unfolding picked
  opens = record {
    unrefused = chose.unrefused;
    chosen = chose.greatest;
    version = version;
    end = record { last = id; ns = ns };
    first = chose.first;
    last = refl;
    namespace = refl;
    saved = sound.opens.saved;
  }

  same_opening : sound.opened ≡ picked
  same_opening = one_opens dirs Start Start sound.opened picked sound.opens opens

  same_last : sound.opened.last ≡ id
  unfolding picked
  same_last = ap (λ (o : Opening). o.last) same_opening

  same_ns : sound.opened.book.ns ≡ ns
  unfolding picked
  same_ns = ap (λ (o : Opening). o.book.ns) same_opening

  -- the one that gives VERSION

  low : IsChosen dirs chose.first.dir version chose.first.folder (record { last = id; ns = ns })
  low = chose.first.chosen

  -- whatever serves in a directory of the same cTime says the same
  pub one_version : (i : ℕ) (v : Version) (folder : Folder) → HasGreatestCtime dirs i v folder → v ≡ version
  one_version i v folder ahead =
      let same = agree dirs Start chose.unrefused i chose.first.dir v version folder chose.first.folder ahead.below low.ahead.below ahead.under low.ahead.under in
      let most = ahead.greatest chose.first.dir version chose.first.folder low.ahead.below low.ahead.under in
      let least = low.ahead.greatest i v folder ahead.below ahead.under in
      same_version v version (record {
        namespace = same.0;
        cluster = same.1;
        ctime = omega (arith, most, least);
        blockpool = same.2;
        layout = ours dirs Start chose.unrefused i v folder ahead.below ahead.under ∙ sym (ours dirs Start chose.unrefused chose.first.dir version chose.first.folder low.ahead.below low.ahead.under);
      })

  sound_version : sound.opens.version ≡ version
  sound_version = one_version sound.opens.first.dir sound.opens.version sound.opens.first.folder sound.opens.first.chosen.ahead

  module _ (shared : Shared) (first : IsFirst shared dirs Start sound) where
    floor_is : shared.floor ≡ record { ctime = version.ctime; last = id }
    floor_is = first.floor ∙ (λ k. record { ctime = ap (λ (v : Version). v.ctime) sound_version k; last = same_last k })

    list_is : shared.ns version.ctime id ≡ ns
    list_is = sym (ap (λ (r : Rank). shared.ns r.ctime r.last) floor_is) ∙ first.ns ∙ same_ns

    saved_is : shared.saved version.ctime ≡ sound.opened.book.saved
    saved_is = sym (ap (λ (r : Rank). shared.saved r.ctime) floor_is) ∙ first.saved

    pub aimed_at : IsAimedAt shared version id ns
    aimed_at =
        let same = agree dirs Start chose.unrefused chose.first.dir first.ids.0 version shared.ids chose.first.folder first.ids.1 low.ahead.below first.ids.2 low.ahead.under first.ids.3 in
        let room = no_spent dirs Start chose.unrefused version (record { last = id; ns = ns }) (record { dir = chose.first.dir; folder = chose.first.folder; chosen = low }) in
        record {
          ours = record { namespace = same.0; cluster = same.1; blockpool = same.2; layout = ours dirs Start chose.unrefused chose.first.dir version chose.first.folder low.ahead.below low.ahead.under };
          floor = floor_is;
          lead = first.lead;
          list = list_is;
          room = room;
          there = subst (Contains shared.window) (λ k. record { ns = same_ns k; saved = sym saved_is k }) first.there;
        }

-- ---- one directory, once it was settled

settled_seven : (a : State) → IsLawful a → (i : ℕ) → seven_of (settled_disk a i) ≡ seven_of (a.reads i)
settled_seven a lawful i = seven_settled (disk_at a i) (a.reads i) (lawful.reads i) ∙ sym (seven_left (disk_at a i) (a.reads i) (lawful.reads i))

-- what serves in one that isn't refused has VERSION
settled_versioned : (a : State) → IsLawful a → (i : ℕ) → i < a.count → IsUnrefused (dirs_read a) Start → HasServingVersion (settled_disk a i)
settled_versioned a lawful i below unrefused sub serves = elim (read (dirs_read a) Start unrefused i below) [
  | inl none ↦ absurd (none-some sub (sym none ∙ serves_read))
  | inr it ↦ has it.0 it.1 it.2
]
  where
    serves_read : serving (a.reads i) ≡ Some sub
    serves_read = ap (λ (s : Seven). (seat_of s).current) (sym (settled_seven a lawful i)) ∙ serves

    has : (v : Version) (folder : Folder) → ServesUnder (a.reads i) v folder → is_some ((settled_disk a i).file sub name.Version) ≡ true
    has v folder under =
        let same : folder ≡ folder_at (a.reads i) sub = under.serves.is ∙ ap (folder_at (a.reads i)) (same_Some under.serves.sub sub (sym under.serves.serves ∙ serves_read)) in
        ap (λ (o : Option (List ℕ)). is_some (certain o)) (sym (ap (λ (f : Folder). f name.Version) same) ∙ under.says.1)

-- a folder serves where one did
same_there : (before now : Option Sub) (old new : Disk) → SameFolder before now old new → is_some now ≡ is_some before
same_there None None old new same = refl
same_there None (Some b) old new same = absurd same
same_there (Some a) None old new same = absurd same
same_there (Some a) (Some b) old new same = refl

-- where something is saved, a chosen one has a previous
kept_saved : (dirs : Dirs) (what : Option Namespace) → IsSaved dirs what → what ≢ None → (i : ℕ) × IsChosenWithPrevious dirs i
kept_saved dirs what (Unsaved none is) some = absurd (some is)
kept_saved dirs what (Lost i lowest lost is) some = absurd (some is)
kept_saved dirs what (Kept i folder own end lowest chain is) some = (i, lowest.holds)

-- ---- one directory, once it was opened

module _ (a c : State) (lawful : IsLawful a) (i : ℕ) (below : i < a.count) (was : WasReopened i a c) where
  -- the folder that served is `current`, and its files are certain

  module _ (sub : Sub) (serves : serving (a.reads i) ≡ Some sub) where
    serves_settled : serving (settled_disk a i) ≡ Some sub
    serves_settled = ap (λ (s : Seven). (seat_of s).current) (seven_settled (disk_at a i) (a.reads i) (lawful.reads i) ∙ sym (seven_left (disk_at a i) (a.reads i) (lawful.reads i))) ∙ serves

    reads_from : (n : FileName) → (c.reads i).file Current n ≡ (a.reads i).file sub n
    reads_from n = (was.reads.current sub serves).files n

    disk_from : (n : FileName) → (disk_at c i).file Current n ≡ certain ((a.reads i).file sub n)
    disk_from n = (was.disk.current sub serves_settled).files n

    sure_now : IsSure Current i c
    sure_now n = disk_from n ∙ ap certain (sym (reads_from n))

    same_folder : folder_at (c.reads i) Current ≡ folder_at (a.reads i) sub
    same_folder = λ k n. reads_from n k

    -- each stop leaves its VERSION
    says_left : (version : Version) → HasVersion (folder_at (a.reads i) sub) version → EachLeft (disk_at c i) (λ x. HasVersion (folder_at x Current) version)
    says_left version says x left fair = (says.0, sure_left (disk_at c i) x Current name.Version says.0 left (disk_from name.Version ∙ ap certain says.1), says.2)

-- records only lead on
leads_far : (folder : Folder) (layout : ℤ) (rs : List Record) (at end : Reached) → Leads folder layout at rs end → at.last ≤ end.last
leads_far folder layout [] at end is = let same = ap (λ (r : Reached). r.last) is in omega (arith, same)
leads_far folder layout (r ∷ rs) at end is = let far = leads_far folder layout rs (after r at) end is.1 in let next = is.0.next in omega (arith, far, next)

-- where a chain ends at an image, that is of its namespace
at_image : (folder : Folder) (version : Version) (id : ℕ) (ns other : Namespace) → IsChain folder version (record { last = id; ns = ns }) → IsIntact folder version id other → other ≡ ns
at_image folder version id ns other chain intact = by chain.from.records chain.from.leads
  where
    newest : id ≤ chain.image
    newest = elim (cases_lt chain.image id) [ inl less ↦ absurd (chain.newest.last id less (other, intact)) | inr most ↦ most ]

    by : (rs : List Record) → Leads folder version.layout (record { last = chain.image; ns = chain.from.base }) rs (record { last = id; ns = ns }) → other ≡ ns
    by [] is =
        let same : id ≡ chain.image = ap (λ (r : Reached). r.last) is in
        one_intact folder version id other chain.from.base intact (subst (λ (n : ℕ). IsIntact folder version n chain.from.base) (sym same) chain.from.intact) ∙ sym (ap (λ (r : Reached). r.ns) is)
    by (r ∷ rs) is = absurd (let far = leads_far folder version.layout rs (after r (record { last = chain.image; ns = chain.from.base })) (record { last = id; ns = ns }) is.1 in omega (arith, far, newest, is.0.next))

module _ (a c : State) (lawful : IsLawful a) (ns : Namespace) (id : ℕ) (version : Version) (chosen : ℕ → Bool) (chose : Chooses (dirs_read a) Start ns id version chosen) (sound : AreSound (dirs_read a) Start) (shared : Shared) (first : IsFirst shared (dirs_read a) Start sound)
    (all : AllReopened a c) (at : List Settled) (are : AreSettled a.count at) (fits : SettledFitNow at c) where
  kept_first : AreKeptFirst shared (dirs_read a) sound.opened.book
  kept_first = sound_is_kept shared (dirs_read a) Start sound first

  the_floor : shared.floor ≡ record { ctime = version.ctime; last = id }
  the_floor = floor_is (dirs_read a) ns id version chosen chose sound shared first

  -- one that was chosen

  module _ (i : ℕ) (below : i < a.count) (chosen_one : chosen i ≡ true) where
    among : IsAmongChosen (dirs_read a) i
    among = (chose.greatest i).1 chosen_one

    run : IsOfRun shared (a.reads i) shared.floor
    run = kept_first.run i among

    its_version : run.version ≡ version
    its_version = under_each (a.reads i) (λ v f. v ≡ version) among.0 run.version among.1 run.folder among.3.ahead.under run.under (one_version (dirs_read a) ns id version chosen chose sound i among.0 among.1 among.3.ahead)

    ends_reading : EndsAt (a.reads i) version (is_some (saved (a.reads i))) (shared.saved version.ctime) (record { last = id; ns = shared.ns version.ctime id })
    ends_reading = subst (λ (v : Version). EndsAt (a.reads i) v (is_some (saved (a.reads i))) (shared.saved version.ctime) (record { last = id; ns = shared.ns version.ctime id })) its_version
        (subst (λ (r : Rank). EndsAt (a.reads i) run.version (is_some (saved (a.reads i))) (shared.saved r.ctime) (end_at shared r)) the_floor (of_run_ends shared (a.reads i) shared.floor (kept_first.kept i below) run))

    ends_now : EndsBetween version (is_some (saved (a.reads i))) (shared.saved version.ctime) (shared.ns version.ctime) id id (disk_at c i)
    ends_now = recovering_ends version (is_some (saved (a.reads i))) (shared.saved version.ctime) (shared.ns version.ctime) id id (settled_disk a i) (disk_at c i)
        (settled_ends version (is_some (saved (a.reads i))) (shared.saved version.ctime) (shared.ns version.ctime) id (disk_at a i) (a.reads i) (lawful.reads i) ends_reading) (all i below).seat

    -- what is saved is as it was
    same_saved : is_some (saved (disk_at c i)) ≡ is_some (saved (a.reads i))
    same_saved = sym (ap (λ (s : Seven). is_some (seat_of s).previous) (seven_left (disk_at c i) (reading (disk_at c i)) (reads_whole (disk_at c i)))) ∙ (ends_now (reading (disk_at c i)) (reads_whole (disk_at c i)) (reads_fair (disk_at c i))).3.previous

    stands : StandsThere shared version id (disk_at c i)
    stands =
        let ends = subst (λ (has : Bool). EndsBetween version has (shared.saved version.ctime) (shared.ns version.ctime) id id (disk_at c i)) (sym same_saved) ends_now in
        let here = settled_at at i (omega (arith, below, are.all)) in
        record { normal = stands_normal shared version id here.0 (disk_at c i) ends (fits i here.0 here.1); ends = ends }

    to_publish : IsToPublish shared version id ns i c
    to_publish =
        let serves = among.3.ahead.under.serves in
        record {
          stands = stands;
          sure = sure_now a c lawful i below (all i below) serves.sub serves.serves;
          only = λ other intact. at_image (folder_at (a.reads i) serves.sub) version id ns other
              (chain_here serves.sub serves.serves)
              (subst (λ (f : Folder). IsIntact f version id other) (same_folder a c lawful i below (all i below) serves.sub serves.serves) intact);
        }
      where
        chain_here : (sub : Sub) → serving (a.reads i) ≡ Some sub → IsChain (folder_at (a.reads i) sub) version (record { last = id; ns = ns })
        chain_here sub serves = subst (λ (f : Folder). IsChain f version (record { last = id; ns = ns }))
            (one_current (a.reads i) ends_reading.folder (folder_at (a.reads i) sub) ends_reading.under.serves (record { sub = sub; serves = serves; is = refl }))
            (subst (λ (x : Namespace). IsChain ends_reading.folder version (record { last = id; ns = x })) (list_is (dirs_read a) ns id version chosen chose sound shared first) ends_reading.chain)

  -- one that was not

  module _ (i : ℕ) (below : i < a.count) (lagging : chosen i ≡ false) where
    behind_settled : StaysBehind shared (settled_disk a i)
    behind_settled = settled_stays_behind shared (disk_at a i) (a.reads i) (lawful.reads i) (kept_first.kept i below) (kept_first.behind i below (λ is. true≢false (sym ((chose.greatest i).0 is) ∙ lagging)))

    behind_now : StaysBehind shared (disk_at c i)
    behind_now x left fair = (
      (recovering_keeps shared false false (settled_disk a i) (disk_at c i) (lags_kept shared (settled_disk a i) behind_settled) (all i below).seat).kept x left fair,
      recovering_leaves_behind shared (settled_disk a i) (disk_at c i) (λ y l f. (behind_settled y l f).0) (λ y l f. (behind_settled y l f).1) (all i below).seat x left fair,
    )

    lags : (level keep : Bool) → (level ≡ true → IsAhead (dirs_read a) i) → (keep ≡ true → shared.saved version.ctime ≢ None) → LagsBehind shared level keep version i c
    lags level keep ahead saves = record {
      behind = behind_now;
      says = λ e. (
          let it = ahead e in
          let serves = it.2.under.serves in
          says_left a c lawful i below (all i below) serves.sub serves.serves version (subst (λ (v : Version). HasVersion (folder_at (a.reads i) serves.sub) v) (one_version (dirs_read a) ns id version chosen chose sound i it.0 it.1 it.2) (subst (λ (f : Folder). HasVersion f it.0) serves.is it.2.under.says))
          );
      sure = λ e. (let serves = (ahead e).2.under.serves in sure_now a c lawful i below (all i below) serves.sub serves.serves);
      saves = saves;
    }

  -- all of them

  module _ (level : ℕ → Bool) (keep : Bool) (ahead : (i : ℕ) → level i ≡ true → IsAhead (dirs_read a) i) (saves : keep ≡ true → (i : ℕ) × IsChosenWithPrevious (dirs_read a) i) (count : c.count ≡ a.count) where
    -- where a chosen one has a previous, something is saved
    something : keep ≡ true → shared.saved version.ctime ≢ None
    something e none =
        let it = saves e in
        let agrees = sound.saved it.0 it.1 in
        let has = there (saved (a.reads it.0)) it.1.1 in
        let chain = agrees.chain it.0 it.1.0.0 it.1.0.1 (folder_at (a.reads it.0) has.0) it.1.0.3.ahead (record { sub = has.0; serves = has.1; is = refl }) in
        none-some chain.1.ns (sym none ∙ saved_is (dirs_read a) ns id version chosen chose sound shared first ∙ chain.3)

    inside : (i : ℕ) → i < c.count → i < a.count
    inside i below = omega (arith, below, count)

    -- something is saved where that was so
    pub saves_still : (i : ℕ) → i < c.count → is_some (saved (disk_at c i)) ≡ is_some (saved (a.reads i))
    saves_still i below =
        let seat = (all i (inside i below)).seat (settled_versioned a lawful i (inside i below) chose.unrefused) in
        same_there (saved (settled_disk a i)) (saved (disk_at c i)) (settled_disk a i) (disk_at c i) seat.previous ∙ ap (λ (s : Seven). is_some (seat_of s).previous) (settled_seven a lawful i)

    pub are_ready : AreReady shared chosen level keep version id c
    are_ready = record {
      stand = λ i below chosen_one. stands i (inside i below) chosen_one;
      lag = λ i below lagging. lags i (inside i below) lagging (level i) keep (ahead i) something;
    }

    pub all_to_publish : (i : ℕ) → i < c.count → chosen i ≡ true → IsToPublish shared version id ns i c
    all_to_publish i below chosen_one = to_publish i (inside i below) chosen_one

    -- those that count of what was at entry count of what stands there now
    pub counts_standing : (run leaders : ℕ → Dir → Bool) → CountChosen (dirs_read a) sound.opened.book run leaders → CountStanding shared version chosen c run leaders
    counts_standing run leaders counts = record {
      of_run = λ i d e. (chose.greatest i).0 (counts.of_run i d e);
      led = λ i d e. (
          let it = counts.led i d e in
          let chosen_one = (chose.greatest i).0 it.0 in (
            chosen_one,
            ⊎_elim
                (λ has. inl (same_saved i it.0.3.ahead.below chosen_one ∙ is_there (saved (a.reads i)) has))
                (λ none. inr (saved_is (dirs_read a) ns id version chosen chose sound shared first ∙ none))
                it.1,
          )
          );
    }

-- ---- by the answer

pub opened_ready : {R : Type 0} (result : Result R OpenFault) (a c : State) → IsLawful a → c.count ≡ a.count → (last : R → ℕ) (meaning : R → Namespace) (version : R → Version) (chosen level : R → ℕ → Bool) (keep : R → Bool) (at : R → List Settled)
    → IfOk result (λ it. Chooses (dirs_read a) Start (meaning it) (last it) (version it) (chosen it)) → IfOk result (λ it. AreSettled a.count (at it)) → IfOk result (λ it. SettledFitNow (at it) c) → OnOk result (AllReopened a c)
    → IfOk result (λ it. (i : ℕ) → (level it i ≡ true) ↔ IsAhead (dirs_read a) i) → IfOk result (λ it. (keep it ≡ true) ↔ ((i : ℕ) × IsChosenWithPrevious (dirs_read a) i))
    → (sound : AreSound (dirs_read a) Start) (shared : Shared) → IsFirst shared (dirs_read a) Start sound → IfOk result (λ it. AreOpened (dirs_read a) sound.opened.book shared (chosen it) (level it) (keep it) (version it) (last it) (meaning it) c)
opened_ready (Err e) a c lawful count last meaning version chosen level keep at chose are fits all ahead saves sound shared first = tt
opened_ready (Ok it) a c lawful count last meaning version chosen level keep at chose are fits all ahead saves sound shared first = record {
  aim = aimed_at (dirs_read a) (meaning it) (last it) (version it) (chosen it) chose sound shared first;
  ready = are_ready a c lawful (meaning it) (last it) (version it) (chosen it) chose sound shared first all (at it) are fits (level it) (keep it) (λ i. (ahead i).0) saves.0 count;
  to_publish = all_to_publish a c lawful (meaning it) (last it) (version it) (chosen it) chose sound shared first all (at it) are fits (level it) (keep it) (λ i. (ahead i).0) saves.0 count;
  saves = saves_still a c lawful (meaning it) (last it) (version it) (chosen it) chose sound shared first all (at it) are fits (level it) (keep it) (λ i. (ahead i).0) saves.0 count;
  keeps = λ some. saves.1 (kept_saved (dirs_read a) sound.opened.book.saved sound.opens.saved (λ none. some (saved_is (dirs_read a) (meaning it) (last it) (version it) (chosen it) chose sound shared first ∙ none)));
  counts = counts_standing a c lawful (meaning it) (last it) (version it) (chosen it) chose sound shared first all (at it) are fits (level it) (keep it) (λ i. (ahead i).0) saves.0 count;
}
