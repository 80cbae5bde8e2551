-- A directory while a journal is begun over it and others: at each moment it is kept.
use Rattle.std.proofs.Common.{◌≡◌, ◌⊎◌, inl, inr, ⊎_elim, ℕ, zero, suc, ◌+◌, ◌-◌, ◌^◌, ◌<◌, ◌≤◌, nat_le, nat_lt, Bool, true, false, None, refl, sym, ◌∙◌, ap, subst, arith, true≢false}
use Rattle.std.specs.Prelude.{is_some, Contains, Result}
use Rattle.std.proofs.lemmas.Bool.{cases_Bool, cases_lt, and_parts, leb-true, ltb-true}
use Rattle.nn_base.specs.DirSets.{Members, has}
use Rattle.nn_host.specs.Disk.{Disk}
use Rattle.nn_host.specs.Moments.{Dir, Moment, State, disk_at, faults_at}
use Rattle.nn_host.proofs.CleanLemmas.{reading}
use Rattle.nn_marks.specs.declared.version.Version.{Version}
use Rattle.nn_base.specs.declared.sub.Sub.TheVariants.{Previous}
use Rattle.nn_state.specs.declared.state.StorageState.{StorageState}
use Rattle.nn_state.specs.declared.state.StorageState.TheVariants.{Normal}
use Rattle.nn_state.specs.declared.state.Why.{Why}
use Rattle.nn_state.specs.Table.{seven_of}
use Rattle.nn_state.specs.Typed.{IsIn}
use Rattle.nn_state.specs.Seat.{seat_by, if_there, saved}
use Rattle.nn_tree.specs.Namespace.{Namespace}
use Rattle.nn_segment_file.specs.Log.{Logs}
use Rattle.nn_segment_file.specs.Steps.{Logged}
use Rattle.nn_journal.specs.Among.{AmongAt}
use Rattle.nn_journal.specs.Ahead.{AheadAt}
use Rattle.nn_journal.specs.Places.{IsSteady}
use Rattle.nn_segment_file.specs.Stages.{Stage, Ended, last_of}
use Rattle.nn_pick.specs.Refusing.{spent_from}
use Rattle.nn_kept.specs.Kept.{IsAtMost, Shared, IsOfWindow, IsOurs}
use Rattle.nn_kept.specs.Laws.{IsKeptDisk, AllKept, KeptInto}
use Rattle.nn_kept.specs.Ends.{EndsBetween, book_of}
use Rattle.nn_kept.proofs.KeptEndsLemmas.{between_is_kept}
use Rattle.nn_steps.proofs.LoggedLemmas.{logging_ends}
use Rattle.nn_steps.proofs.SeatLemmas.{reads_whole, reads_fair}
use Rattle.nn_run.specs.Window.{is_unfailed}
use Rattle.nn_start.proofs.BringLemmas.{at_floor, at_lead, has_room, book_there}
use Rattle.nn_begin.specs.Begun.{AreAtRest}

-- ---- a list that is steady

steady_more : (list : ℕ → Namespace) (id k : ℕ) → IsSteady list id → list (id + k) ≡ list id
steady_more list id zero steady = ap list (omega arith)
steady_more list id (suc k) steady = (let same : id + suc k ≡ (id + k) + 1 = omega arith in ap list same) ∙ steady (id + k) (omega arith) ∙ steady_more list id k steady

pub steady_from : (list : ℕ → Namespace) (id n : ℕ) → IsSteady list id → id ≤ n → list n ≡ list id
steady_from list id n steady least = (let same : n ≡ id + (n - id) = omega (arith, least) in ap list same) ∙ steady_more list id (n - id) steady

-- ---- what is shared, with its lead risen

abbrev pub risen : Shared → ℕ → ℕ → Shared
risen shared ctime top = record { window = shared.window; ids = shared.ids; ns = shared.ns; saved = shared.saved; floor = shared.floor; lead = record { ctime = ctime; last = top } }

-- what a NORMAL directory has saved is in `previous`
pub normal_saves : (d : Disk) → IsIn Normal d → is_some (saved d) ≡ d.has Previous
normal_saves d normal = ap (λ (r : Result StorageState Why). is_some (seat_by r (seven_of d)).previous) normal ∙ by (d.has Previous)
  where
    by : (there : Bool) → is_some (if_there there Previous) ≡ there
    by true = refl
    by false = refl

-- a directory is a holder where it has a saved state
abbrev pub HoldPrevious : Members → State → Type 0
HoldPrevious holders a = (j : ℕ) → j < a.count → has holders j ≡ (disk_at a j).has Previous

abbrev pub AreHolders : Members → State → Type 0
AreHolders holders a = (j : ℕ) → j < a.count → has holders j ≡ is_some (saved (disk_at a j))

module _ (shared : Shared) (version : Version) (id : ℕ) (ns : Namespace) (hi : ℕ) (a : State) (rest : AreAtRest shared version id ns a) (room : hi < spent_from) where
  abbrev pub list : ℕ → Namespace
  list = shared.ns version.ctime

  there : (had : Bool) (n : ℕ) → id ≤ n → (had ≡ true) ⊎ (shared.saved version.ctime ≡ None) → Contains shared.window (book_of had (shared.saved version.ctime) (list n))
  there had n least either = subst (λ (x : Namespace). Contains shared.window (book_of had (shared.saved version.ctime) x)) (sym (steady_from list id n rest.steady least)) (book_there shared version id ns rest.aim had either)

  inside : (had : Bool) (n : ℕ) → id ≤ n → IsOfWindow shared.window (book_of had (shared.saved version.ctime) (list n))
  inside had n least = subst (λ (x : Namespace). IsOfWindow shared.window (book_of had (shared.saved version.ctime) x)) (sym (steady_from list id n rest.steady least)) ((has_room shared version id ns rest.aim had).inside id (omega arith) (omega arith))

  ends_at : (j : ℕ) → j < a.count → (lo top : ℕ) → id ≤ lo → (d : Disk) → Logged version list id lo top (disk_at a j) d → EndsBetween version (is_some (saved (disk_at a j))) (shared.saved version.ctime) list lo top d
  ends_at j below lo top least d logged =
      let brought = (rest.each j below).brought in
      logging_ends version (is_some (saved (disk_at a j))) (shared.saved version.ctime) list id id id lo top (disk_at a j) d brought.stands.normal brought.stands.ends least logged

  -- where nothing is saved
  pub unsaved_kept : shared.saved version.ctime ≡ None → (j : ℕ) → j < a.count → (d : Disk) (run leader : Bool) → Logged version list id id hi (disk_at a j) d → IsKeptDisk shared run leader d
  unsaved_kept none j below d run leader logged =
      let had = is_some (saved (disk_at a j)) in
      between_is_kept shared version had id hi d run leader (ends_at j below id hi (omega arith) d logged)
      (record { ours = rest.aim.ours; room = room; inside = λ n least last. inside had n least; led = inr (λ n least last. there had n least (inr none)) })
      (λ e. at_floor shared version id ns rest.aim) (λ e. (at_floor shared version id ns rest.aim, at_lead shared version id ns rest.aim, λ n least last. there had n least (inr none)))

  module _ (top : ℕ) (low : id ≤ top) (most : top ≤ hi) where
    abbrev up : Shared
    up = risen shared version.ctime top

    ours : IsOurs up version
    ours = record { namespace = rest.aim.ours.namespace; cluster = rest.aim.ours.cluster; blockpool = rest.aim.ours.blockpool; layout = rest.aim.ours.layout }

    above_floor : (lo : ℕ) → id ≤ lo → IsAtMost up.floor (record { ctime = version.ctime; last = lo })
    above_floor lo least = ⊎_elim (λ less. inl less) (λ same. inr (same.0, (let far = same.1 in omega (arith, far, least)))) (at_floor shared version id ns rest.aim)

    -- one that has a saved state: a leader, where it is no lower than the lead
    pub holder_kept : (j : ℕ) → j < a.count → is_some (saved (disk_at a j)) ≡ true → (lo : ℕ) → id ≤ lo → (d : Disk) (run leader : Bool) → (leader ≡ true → top ≤ lo) → Logged version list id lo hi (disk_at a j) d → IsKeptDisk up run leader d
    holder_kept j below has_it lo least d run leader leads logged =
        between_is_kept up version true lo hi d run leader
        (subst (λ (had : Bool). EndsBetween version had (shared.saved version.ctime) list lo hi d) has_it (ends_at j below lo hi least d logged))
        (record { ours = ours; room = room; inside = λ n from last. inside true n (omega (arith, from, least)); led = inr (λ n from last. there true n (omega (arith, from, least)) (inl refl)) })
        (λ e. above_floor lo least)
        (λ e. (above_floor lo least, inr (refl, leads e), λ n from last. there true n (omega (arith, from, least)) (inl refl)))

    -- and one that has none, which is no leader
    pub other_kept : (j : ℕ) → j < a.count → is_some (saved (disk_at a j)) ≡ false → (d : Disk) (run : Bool) → Logged version list id id top (disk_at a j) d → IsKeptDisk up run false d
    other_kept j below has_none d run logged =
        between_is_kept up version false id top d run false
        (subst (λ (had : Bool). EndsBetween version had (shared.saved version.ctime) list id top d) has_none (ends_at j below id top (omega arith) d logged))
        (record { ours = ours; room = omega (arith, room, most); inside = λ n from last. inside false n from; led = inl (inr (refl, omega arith)) })
        (λ e. above_floor id (omega arith))
        (λ e. absurd (true≢false (sym e)))

  -- ---- at a moment, where something is saved

  module _ {live holders : Members} (m : Moment) (to : Stage) (last : last_of to ≡ hi) (is_live : (j : ℕ) → j < a.count → has live j ≡ true) (holds : AreHolders holders a)
      (each : (j : ℕ) → AmongAt version list (Ended id) to live a j (m.dirs j)) (ahead : AheadAt version list id (last_of to) live holders a m) (left : (j : ℕ) → faults_at a j ≤ (m.dirs j).faults)
      (run leaders : ℕ → Dir → Bool) (lead : (j : ℕ) (d : Dir) → leaders j d ≡ true → (is_some (saved (disk_at a j)) ≡ true) × (is_unfailed a j d ≡ true)) where
    logged : (j : ℕ) → j < a.count → Logged version list id id hi (disk_at a j) (m.dirs j).disk
    logged j below = subst (λ (n : ℕ). Logged version list id id n (disk_at a j) (m.dirs j).disk) last ((each j).logged (is_live j below))

    -- a leader ends no lower than the holders do
    holding : (j : ℕ) → j < a.count → leaders j (m.dirs j) ≡ true → Logs version list ahead.mid hi (m.dirs j).disk
    holding j below e =
        let it = lead j (m.dirs j) e in
        let tests = and_parts (nat_lt (faults_at a j) (2 ^ 64 - 1)) (nat_le (m.dirs j).faults (faults_at a j)) it.1 in
        let most = leb-true (m.dirs j).faults (faults_at a j) tests.1 in
        let least = left j in
        subst (λ (n : ℕ). Logs version list ahead.mid n (m.dirs j).disk) last (ahead.holding j (is_live j below) (holds j below ∙ it.0) (ltb-true (faults_at a j) (2 ^ 64 - 1) tests.0) (omega (arith, most, least)))

    not_leader : (j : ℕ) → is_some (saved (disk_at a j)) ≡ false → leaders j (m.dirs j) ≡ false
    not_leader j none = elim (cases_Bool (leaders j (m.dirs j))) [ inl is ↦ absurd (true≢false (sym (lead j (m.dirs j) is).0 ∙ none)) | inr isnt ↦ isnt ]

    kept_up : (top : ℕ) → id ≤ top → top ≤ hi → ((j : ℕ) → j < a.count → leaders j (m.dirs j) ≡ true → Logs version list top hi (m.dirs j).disk) → ((j : ℕ) → j < a.count → has holders j ≡ false → Logs version list id top (m.dirs j).disk) → AllKept (risen shared version.ctime top) a.count run leaders m
    kept_up top low most high others = record {
      at = λ j below. elim (cases_Bool (is_some (saved (disk_at a j)))) [
        | inl has_it ↦ elim (cases_Bool (leaders j (m.dirs j))) [
          | inl leads ↦ holder_kept top low most j below has_it top low (m.dirs j).disk (run j (m.dirs j)) (leaders j (m.dirs j)) (λ e. omega arith) (record { logs = high j below leads; beside = (logged j below).beside })
          | inr follows ↦ holder_kept top low most j below has_it id (omega arith) (m.dirs j).disk (run j (m.dirs j)) (leaders j (m.dirs j)) (λ e. absurd (true≢false (sym e ∙ follows))) (logged j below)
        ]
        | inr has_none ↦ subst (λ (leader : Bool). IsKeptDisk (risen shared version.ctime top) (run j (m.dirs j)) leader (m.dirs j).disk) (sym (not_leader j has_none))
            (other_kept top low most j below has_none (m.dirs j).disk (run j (m.dirs j)) (record { logs = others j below (holds j below ∙ has_none); beside = (logged j below).beside }))
      ];
    }

    pub saved_kept : id ≤ hi → KeptInto (λ _. shared.window) a.count (λ _. run) (λ _. leaders) m
    saved_kept onward = elim (cases_lt hi ahead.mid) [
      | inl beyond ↦ (
        risen shared version.ctime hi,
        λ book b. b,
        kept_up hi onward (omega arith)
            (λ j below leads. (
            let it = (holding j below leads).left (reading (m.dirs j).disk) (reads_whole (m.dirs j).disk) (reads_fair (m.dirs j).disk) in
            let least = it.least in
            let most = it.most in
            absurd (omega (arith, least, most, beyond))
            ))
            (λ j below none. (logged j below).logs),
      )
      | inr within ↦ (risen shared version.ctime ahead.mid, λ book b. b, kept_up ahead.mid ahead.low within holding (λ j below none. ahead.others j (is_live j below) none))
    ]
