-- From directory to directory: which of those that weren't chosen are brought up so far.
use Rattle.std.proofs.Common.{◌≡◌, inl, inr, ℕ, ◌+◌, ◌<◌, Bool, true, false, ◌&&◌, List, [], ◌∷◌, ◌++◌, length, get_or, refl, sym, ◌∙◌, ap, subst, arith, length-append, true≢false}
use Rattle.std.specs.Prelude.{not, is_some}
use Rattle.std.proofs.lemmas.Bool.{cases_Bool}
use Rattle.std.proofs.lemmas.Bool.Decides.{eqb_tells}
use Rattle.std.proofs.lemmas.Grind.{common_steps}
use Rattle.nn_base.specs.declared.ids.DirNo.{DirNo}
use Rattle.nn_base.specs.declared.sub.Sub.TheVariants.{Current}
use Rattle.nn_host.specs.Disk.{Disk}
use Rattle.nn_host.specs.Moments.{Dir, State, disk_at, faults_at}
use Rattle.nn_host.specs.Calls.{next_count}
use Rattle.nn_host.proofs.RunsLemmas.{throughout_refl, rose_last}
use Rattle.nn_host.specs.Runs.{OnlyAt, Throughout, RoseAt, Unspoken}
use Rattle.nn_marks.specs.declared.version.Version.{Version}
use Rattle.nn_state.specs.declared.typed.Settled.{Settled}
use Rattle.nn_state.specs.Typed.{FitsSettled, dir_in}
use Rattle.nn_state.specs.Bays.{IsAt, AreSettled}
use Rattle.nn_state.specs.Seat.{saved}
use Rattle.nn_tree.specs.Namespace.{Namespace}
use Rattle.nn_chain.specs.Folder.{HasVersion, folder_at}
use Rattle.nn_kept.specs.Kept.{Shared}
use Rattle.nn_kept.specs.Laws.{EachLeft, IsKeptDisk, AllKept}
use Rattle.nn_steps.specs.Steps.{StaysBehind}
use Rattle.nn_start.specs.Entry.{SettledFitNow}
use Rattle.nn_start.specs.Bringing.{IsAimedAt, IsBroughtUp, LagsBehind, BringsKept, AreReady, KeepsAll, IsAsItWas}
use Rattle.nn_start.proofs.WalkLemmas.{alone_then, walk_none, walk_skip, walk_run, walk_quiet, walk_more}
use Rattle.nn_start.proofs.PhaseLemmas.{Course, Phase, lags_kept, other_kept, end_kept, sure_moved, brought_moved}

-- it lags behind still where nothing was done to it
lag_moved : {shared : Shared} {level keep : Bool} {version : Version} (i : ℕ) (a b : State) → IsAsItWas i a b → LagsBehind shared level keep version i a → LagsBehind shared level keep version i b
lag_moved {shared} {level} {keep} {version} i a b alone lags =
    let disk : disk_at b i ≡ disk_at a i = ap (λ (d : Dir). d.disk) alone.dir in
    record {
      behind = subst (StaysBehind shared) (sym disk) lags.behind;
      says = λ e. subst (λ (d : Disk). EachLeft d (λ c. HasVersion (folder_at c Current) version)) (sym disk) (lags.says e);
      sure = λ e. sure_moved alone (lags.sure e);
      saves = lags.saves;
    }

-- and one that was brought up has what it had then
brought_up_moved : {shared : Shared} {level keep : Bool} {version : Version} {id : ℕ} {a b c : State} (i : ℕ) → IsAsItWas i b c → IsBroughtUp shared level keep version id i a b → IsBroughtUp shared level keep version id i a c
brought_up_moved {b = b} {c = c} i alone is = record { brought = brought_moved i b c alone is.brought; saves = ap (λ (d : Dir). is_some (saved d.disk)) alone.dir ∙ is.saves }

brought_since : {shared : Shared} {level keep : Bool} {version : Version} {id : ℕ} {a b c : State} {i : ℕ} → IsAsItWas i a b → IsBroughtUp shared level keep version id i b c → IsBroughtUp shared level keep version id i a c
brought_since {level = level} {keep = keep} alone is = record { brought = is.brought; saves = is.saves ∙ ap (λ (d : Dir). level && keep && is_some (saved d.disk)) alone.dir }

not_chosen : (b : Bool) → not b ≡ true → b ≡ false
not_chosen false e = refl
not_chosen true e = sym e

is_chosen : (b : Bool) → not b ≡ false → b ≡ true
is_chosen true e = refl
is_chosen false e = sym e

-- ---- the first k directories had their turn

-- those that weren't chosen
abbrev pub BringPhase : Type 0 → (ℕ → Bool) → (ℕ → Bool) → Bool → Version → ℕ → Namespace → ℕ → State → State → Type 0
BringPhase told chosen level keep version id ns k start now =
    Phase told (λ shared s. AreReady shared chosen level keep version id s) (λ shared i s. IsBroughtUp shared (level i) keep version id i start s) chosen (λ i. not (chosen i)) version id ns k start now

-- and the types of all of them
pub record Bringing (told : Type 0) (chosen level : ℕ → Bool) (keep : Bool) (version : Version) (id : ℕ) (ns : Namespace) (k : ℕ) (start now : State) (at : List Settled) : Type 0 where
  pub walk : BringPhase told chosen level keep version id ns k start now
  pub settled : AreSettled k at
  pub fits : told → SettledFitNow at now

abbrev The : Type 0 → (ℕ → Bool) → (ℕ → Bool) → Bool → Version → ℕ → Namespace → State → Type 0
The told chosen level keep version id ns a = Course told (λ shared s. AreReady shared chosen level keep version id s) chosen version id ns a

module _ {told : Type 0} {chosen level : ℕ → Bool} {keep : Bool} {version : Version} {id : ℕ} {ns : Namespace} {a : State} where
  -- each is kept at the start
  first_kept : (w : The told chosen level keep version id ns a) → told → (j : ℕ) → j < a.count → IsKeptDisk w.shared (w.run j (a.now.dirs j)) (w.leaders j (a.now.dirs j)) (disk_at a j)
  first_kept w tells j below = elim (cases_Bool (chosen j)) [
    | inl chose ↦ end_kept w tells j (a.now.dirs j) ((w.before tells).stand j below chose).ends
    | inr lagged ↦ other_kept w tells j (a.now.dirs j) lagged (lags_kept w.shared (disk_at a j) ((w.before tells).lag j below lagged).behind)
  ]

  pub bringing_none : {at : List Settled} → at ≡ [] → Bringing told chosen level keep version id ns 0 a a at
  bringing_none {at} none = record {
    walk = walk_none (λ w tells j below. first_kept w tells j below);
    settled = record { all = ap length none; placed = λ k it is. absurd (omega (arith, is.within, ap length none)) };
    fits = λ tells k it is. absurd (omega (arith, is.within, ap length none));
  }

-- ---- one more

-- the places of a list with one more
at_last : (xs : List Settled) (x it : Settled) (k : ℕ) → IsAt (xs ++ x ∷ []) k it → k ≡ length xs → it ≡ x
at_last xs x it k is last = let e = is.is in grind (arith, common_steps)

at_before : (xs : List Settled) (x it : Settled) (k : ℕ) → IsAt (xs ++ x ∷ []) k it → k < length xs → IsAt xs k it
at_before xs x it k is below = record { within = below; is = (let e = is.is in grind (arith, common_steps)) }

module _ {told : Type 0} {chosen level : ℕ → Bool} {keep : Bool} {version : Version} {id : ℕ} {ns : Namespace} {k : ℕ} {a b c : State} {at : List Settled} (so_far : Bringing told chosen level keep version id ns k a b at) (below : k < a.count)
    (touched : OnlyAt told k b c (λ d. Unit {0})) (left : chosen k ≡ true → c ≡ b) (kept : chosen k ≡ false → BringsKept told (level k) keep version id ns k b c) where
  lags : (w : The told chosen level keep version id ns a) → told → chosen k ≡ false → LagsBehind w.shared (level k) keep version k b
  lags w tells lagged = lag_moved k a b (so_far.walk.later k (omega arith)) ((w.before tells).lag k below lagged)

  step : chosen k ≡ false → (w : The told chosen level keep version id ns a) → OnlyAt told k b c (IsKeptDisk w.shared false false)
  step lagged w = kept lagged w.shared w.aim (λ tells. lags w tells lagged)

  here : chosen k ≡ false → (w : The told chosen level keep version id ns a) → told → (d : Dir) → IsKeptDisk w.shared false false d.disk → k < a.count → IsKeptDisk w.shared (w.run k d) (w.leaders k d) d.disk
  here lagged w tells d is inside = other_kept w tells k d lagged is

  -- whatever it answered
  pub bringing_run : KeepsAll told (λ shared s. AreReady shared chosen level keep version id s) chosen version id ns a c
  bringing_run shared run leaders aim ready counts = elim (cases_Bool (chosen k)) [
    | inl chose ↦ subst (λ (s : State). Throughout told a s (AllKept shared a.count run leaders)) (sym (left chose)) (so_far.walk.run (record { shared = shared; run = run; leaders = leaders; aim = aim; before = ready; counts = counts }))
    | inr lagged ↦ walk_run so_far.walk (λ w d. IsKeptDisk w.shared false false d) touched (step lagged) (here lagged) (record { shared = shared; run = run; leaders = leaders; aim = aim; before = ready; counts = counts })
  ]

  pub bringing_quiet : Unspoken told a c
  bringing_quiet = elim (cases_Bool (chosen k)) [
    | inl chose ↦ subst (λ (s : State). Unspoken told a s) (sym (left chose)) so_far.walk.quiet
    | inr lagged ↦ walk_quiet so_far.walk (λ w d. IsKeptDisk w.shared false false d) touched (step lagged) (here lagged)
  ]

  pub bringing_left : (j : ℕ) → chosen j ≡ true → IsAsItWas j a c
  bringing_left j chose = elim (eqb_tells j k) [
    | inl same ↦ subst (λ (s : State). IsAsItWas j a s) (sym (left (subst (λ (n : ℕ). chosen n ≡ true) same.1 chose))) (so_far.walk.left j (ap not chose))
    | inr differs ↦ alone_then (so_far.walk.left j (ap not chose)) (record { dir = touched.frame.now.dirs j differs.1; reads = touched.frame.reads j differs.1 })
  ]

  pub bringing_rose : faults_at c k ≡ next_count (faults_at b k) → RoseAt k a c
  bringing_rose rose = rose_last so_far.walk.counts below touched.frame rose

  module _ (x : Settled) (counted : faults_at c k ≡ faults_at b k) (placed : (dir_in x).0 ≡ k) (fits : told → FitsSettled x (disk_at c k))
      (brought : told → chosen k ≡ false → (shared : Shared) → IsAimedAt shared version id ns → LagsBehind shared (level k) keep version k b → IsBroughtUp shared (level k) keep version id k b c) where
    long : length at ≡ k
    long = so_far.settled.all

    walked : BringPhase told chosen level keep version id ns (k + 1) a c
    walked = elim (cases_Bool (chosen k)) [
      | inl chose ↦ subst (λ (s : State). BringPhase told chosen level keep version id ns (k + 1) a s) (sym (left chose)) (walk_skip (ap not chose) so_far.walk)
      | inr lagged ↦ walk_more so_far.walk (λ w d. IsKeptDisk w.shared false false d) touched (step lagged) (here lagged) (λ w j alone is. brought_up_moved j alone is) (ap not lagged) counted (λ w tells. brought_since (so_far.walk.later k (omega arith)) (brought tells lagged w.shared (w.aim tells) (lags w tells lagged)))
    ]

    pub bringing_more : Bringing told chosen level keep version id ns (k + 1) a c (at ++ x ∷ [])
    bringing_more = record {
      walk = walked;
      settled = record {
        all = length-append at (x ∷ []) ∙ ap (λ (n : ℕ). n + 1) long;
        placed = λ j it is. elim (eqb_tells j k) [
          | inl same ↦ ap (λ (s : Settled). (dir_in s).0) (at_last at x it j is (same.1 ∙ sym long)) ∙ placed ∙ sym same.1
          | inr differs ↦ so_far.settled.placed j it (at_before at x it j is (omega (arith, is.within, length-append at (x ∷ []), long, differs.1)))
        ];
      };
      fits = λ tells j it is. elim (eqb_tells j k) [
        | inl same ↦ subst (λ (n : ℕ). FitsSettled it (disk_at c n)) (sym same.1) (subst (λ (s : Settled). FitsSettled s (disk_at c k)) (sym (at_last at x it j is (same.1 ∙ sym long))) (fits tells))
        | inr differs ↦ subst (λ (d : Dir). FitsSettled it d.disk) (sym (touched.frame.now.dirs j differs.1)) (so_far.fits tells j it (at_before at x it j is (omega (arith, is.within, length-append at (x ∷ []), long, differs.1))))
      ];
    }

-- ---- one directory more, by its type

module _ {told : Type 0} {chosen level : ℕ → Bool} {keep : Bool} {version : Version} {id : ℕ} {ns : Namespace} {a : State} where
  -- nothing was done
  pub none_kept : KeepsAll told (λ shared s. AreReady shared chosen level keep version id s) chosen version id ns a a
  none_kept shared run leaders aim ready counts = throughout_refl (λ tells. record { at = λ j below. first_kept (record { shared = shared; run = run; leaders = leaders; aim = aim; before = ready; counts = counts }) tells j below })

module _ {told : Type 0} {chosen level : ℕ → Bool} {keep : Bool} {version : Version} {id : ℕ} {ns : Namespace} {k : ℕ} {a b : State} {at all : List Settled} (it : Settled) (so_far : Bringing told chosen level keep version id ns k a b at) (are : AreSettled a.count all) (turn : (k < length all) × (it ≡ get_or all k it)) where
  place : IsAt all k it
  place = record { within = turn.0; is = turn.1 }

  placed : (dir_in it).0 ≡ k
  placed = are.placed k it place

  below : k < a.count
  below = omega (arith, turn.0, are.all)

  pub turn_below : (dir_in it).0 < b.count
  turn_below = omega (arith, placed, below, so_far.walk.count)

  pub turn_fits : (told → SettledFitNow all a) → told → FitsSettled it (disk_at b (dir_in it).0)
  turn_fits fits tells = subst (λ (n : ℕ). FitsSettled it (disk_at b n)) (sym placed) (subst (λ (d : Dir). FitsSettled it d.disk) (sym (so_far.walk.later k (omega arith)).dir) (fits tells k it place))

  module _ {c : State} (touched : OnlyAt told (dir_in it).0 b c (λ d. Unit {0})) (left : chosen (dir_in it).0 ≡ true → c ≡ b) (kept : chosen (dir_in it).0 ≡ false → BringsKept told (level (dir_in it).0) keep version id ns (dir_in it).0 b c) where
    touched_here : OnlyAt told k b c (λ d. Unit {0})
    touched_here = subst (λ (n : ℕ). OnlyAt told n b c (λ d. Unit {0})) placed touched

    left_here : chosen k ≡ true → c ≡ b
    left_here = subst (λ (n : ℕ). chosen n ≡ true → c ≡ b) placed left

    kept_here : chosen k ≡ false → BringsKept told (level k) keep version id ns k b c
    kept_here = subst (λ (n : ℕ). chosen n ≡ false → BringsKept told (level n) keep version id ns n b c) placed kept

    pub turn_run : KeepsAll told (λ shared s. AreReady shared chosen level keep version id s) chosen version id ns a c
    turn_run = bringing_run so_far below touched_here left_here kept_here

    pub turn_quiet : Unspoken told a c
    turn_quiet = bringing_quiet so_far below touched_here left_here kept_here

    pub turn_left : (j : ℕ) → chosen j ≡ true → IsAsItWas j a c
    turn_left = bringing_left so_far below touched_here left_here kept_here

    pub turn_rose : (dir : DirNo) → dir ≡ dir_in it → faults_at c (dir_in it).0 ≡ next_count (faults_at b (dir_in it).0) → RoseAt dir.0 a c
    turn_rose dir same rose = subst (λ (n : ℕ). RoseAt n a c) (sym (ap (λ (d : DirNo). d.0) same ∙ placed)) (bringing_rose so_far below touched_here left_here kept_here (subst (λ (n : ℕ). faults_at c n ≡ next_count (faults_at b n)) placed rose))

    pub turn_more : (x : Settled) → faults_at c (dir_in it).0 ≡ faults_at b (dir_in it).0 → dir_in x ≡ dir_in it → (told → FitsSettled x (disk_at c (dir_in it).0))
        → (told → chosen (dir_in it).0 ≡ false → (shared : Shared) → IsAimedAt shared version id ns → LagsBehind shared (level (dir_in it).0) keep version (dir_in it).0 b → IsBroughtUp shared (level (dir_in it).0) keep version id (dir_in it).0 b c)
        → Bringing told chosen level keep version id ns (k + 1) a c (at ++ x ∷ [])
    turn_more x counted same fits brought = bringing_more so_far below touched_here left_here kept_here x
        (subst (λ (n : ℕ). faults_at c n ≡ faults_at b n) placed counted)
        (ap (λ (d : DirNo). d.0) same ∙ placed)
        (subst (λ (n : ℕ). told → FitsSettled x (disk_at c n)) placed fits)
        (subst (λ (n : ℕ). told → chosen n ≡ false → (shared : Shared) → IsAimedAt shared version id ns → LagsBehind shared (level n) keep version n b → IsBroughtUp shared (level n) keep version id n b c) placed brought)

-- all of them
pub all_brought : {told : Type 0} {chosen level : ℕ → Bool} {keep : Bool} {version : Version} {id : ℕ} {ns : Namespace} {k : ℕ} {a b : State} {at all : List Settled} → Bringing told chosen level keep version id ns k a b at → AreSettled a.count all → k ≡ length all → Bringing told chosen level keep version id ns a.count a b at
all_brought {told} {chosen} {level} {keep} {version} {id} {ns} {k} {a} {b} {at} so_far are last = subst (λ (n : ℕ). Bringing told chosen level keep version id ns n a b at) (last ∙ are.all) so_far

pub brought_all : {told : Type 0} {chosen level : ℕ → Bool} {keep : Bool} {version : Version} {id : ℕ} {ns : Namespace} {a b : State} {at : List Settled} → Bringing told chosen level keep version id ns a.count a b at → told → (shared : Shared) → IsAimedAt shared version id ns → AreReady shared chosen level keep version id a
    → (i : ℕ) → i < a.count → not (chosen i) ≡ true → IsBroughtUp shared (level i) keep version id i a b
brought_all so_far tells shared aim ready i below other = so_far.walk.done (record { shared = shared; run = λ j d. false; leaders = λ j d. false; aim = λ tells. aim; before = λ tells. ready; counts = λ tells. record { of_run = λ j d e. absurd (true≢false (sym e)); led = λ j d e. absurd (true≢false (sym e)) } }) tells i below other

pub kept_all : {told : Type 0} {chosen level : ℕ → Bool} {keep : Bool} {version : Version} {id : ℕ} {ns : Namespace} {k : ℕ} {a b : State} {at : List Settled} → Bringing told chosen level keep version id ns k a b at → KeepsAll told (λ shared s. AreReady shared chosen level keep version id s) chosen version id ns a b
kept_all so_far shared run leaders aim ready counts = so_far.walk.run (record { shared = shared; run = run; leaders = leaders; aim = aim; before = ready; counts = counts })
