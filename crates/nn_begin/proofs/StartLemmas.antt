-- Directories that are brought together, then tidied, and then a journal is begun over them.
use Rattle.std.proofs.Common.{◌≡◌, ◌≢◌, ◌⊎◌, inl, inr, ⊎_elim, ℕ, ◌+◌, ◌-◌, ◌^◌, ◌<◌, nat_lt, nat_le, Bool, true, ◌&&◌, List, Option, Some, None, Result, Ok, Err, refl, sym, ◌∙◌, ap, subst, arith}
use Rattle.std.specs.Prelude.{◌↔◌, IfErr, IsErrAnd, is_some}
use Rattle.nn_host.specs.Moments.{Dir, Moment, State, disk_at}
use Rattle.nn_host.specs.Calls.{next_count}
use Rattle.nn_host.specs.Runs.{Throughout, SameCounts}
use Rattle.nn_host.proofs.RunsLemmas.{throughout_trans, throughout_weaker, counts_trans}
use Rattle.nn_marks.specs.declared.version.Version.{Version}
use Rattle.nn_base.specs.DirSets.{has}
use Rattle.nn_state.specs.declared.state.Seven.{Seven}
use Rattle.nn_state.specs.declared.typed.Settled.{Settled}
use Rattle.nn_state.specs.Bays.{AreSettled}
use Rattle.nn_state.specs.Seat.{seat_of, saved}
use Rattle.nn_tree.specs.Namespace.{Namespace}
use Rattle.nn_segment_file.specs.Log.{Beside}
use Rattle.nn_journal.specs.declared.journal.JournalSet.{JournalSet}
use Rattle.nn_journal.specs.Places.{IsSteady}
use Rattle.nn_pick.specs.declared.intent.Intent.TheVariants.{Start}
use Rattle.nn_pick.specs.declared.fault.OpenFault.{OpenFault}
use Rattle.nn_pick.specs.declared.fault.OpenFault.TheVariants.{Refused, Failed, Memory}
use Rattle.nn_pick.specs.declared.refusal.Refusal.{Refusal}
use Rattle.nn_pick.specs.Dirs.{Dirs, IsAmongChosen}
use Rattle.nn_pick.specs.Refusing.{HasServingPrevious, spent_from}
use Rattle.nn_pick.specs.Opening.{AreSound}
use Rattle.nn_kept.specs.Kept.{Rank, Shared}
use Rattle.nn_kept.specs.Laws.{AllKept, KeptInto}
use Rattle.nn_kept.specs.First.{IsFirst}
use Rattle.nn_choose.specs.Looking.{dirs_read}
use Rattle.nn_choose.specs.Picking.{IsAhead, IsRefusedTruly}
use Rattle.nn_start.specs.Keeping.{IsYounger, ChosenKeepOwn}
use Rattle.nn_start.proofs.KeepLemmas.{young_seven, log_young, keeps_more}
use Rattle.nn_start.proofs.PublishLemmas.{fits_by_seven}
use Rattle.nn_start.specs.Entry.{SettledFitNow, CountChosen, StartKept, ReadsWhereRefused, IsCountedBy}
use Rattle.nn_start.specs.Bringing.{IsAimedAt, CountStanding, KeepsAll}
use Rattle.nn_start.specs.Together.{AreTogether, AllBrought, IsAtRest}
use Rattle.nn_start.proofs.TogetherLemmas.{truly_unrefused, not_refused}
use Rattle.nn_begin.specs.Begun.{AreAtRest, HoldsBy, LeadersHold, BeginsKept, IsBegun, OnlyLogged, IsCountedIn}
use Rattle.nn_begin.specs.Started.{StartsFrom, HasStarted, LeadersUnfailed, StartsKept}
use Rattle.nn_begin.proofs.MomentLemmas.{normal_saves}
use Rattle.nn_begin.proofs.HoldLemmas.{hold_previous}

none_or : {A : Type 0} (o : Option A) → (o ≡ None) ⊎ (o ≢ None)
none_or None = inl refl
none_or (Some x) = inr (λ e. cc)

-- ---- what is shared

module _ (shared : Shared) (dirs : Dirs) (sound : AreSound dirs Start) (from : StartsFrom shared dirs sound) (version : Version) (id : ℕ) (ns : Namespace) (aim : IsAimedAt shared version id ns) where
  saved_is : shared.saved version.ctime ≡ sound.opened.book.saved
  saved_is = ap shared.saved (sym (ap (λ (r : Rank). r.ctime) aim.floor)) ∙ from.first.saved

  pub last_is : shared.floor.last ≡ id
  last_is = ap (λ (r : Rank). r.last) aim.floor

  pub at_rest : (s : State) → ((i : ℕ) → i < s.count → IsAtRest shared version id i s) → AreAtRest shared version id ns s
  at_rest s each = record {
    aim = aim;
    each = each;
    steady = subst (λ (r : Rank). IsSteady (shared.ns r.ctime) r.last) aim.floor from.steady;
  }

  -- a leader has what is saved, where something is
  pub led_saved : {run leaders : ℕ → Dir → Bool} (s : State) (count : ℕ) → (count ≡ dirs.count) → CountChosen dirs sound.opened.book run leaders
      → (shared.saved version.ctime ≢ None → (i : ℕ) → i < count → IsAhead dirs i → HasServingPrevious dirs i → is_some (saved (disk_at s i)) ≡ true)
      → (i : ℕ) (d : Dir) → leaders i d ≡ true → (is_some (saved (disk_at s i)) ≡ true) ⊎ (shared.saved version.ctime ≡ None)
  led_saved s count same counts has i d e =
      let it = counts.led i d e in
      elim (none_or (shared.saved version.ctime)) [
        | inl none ↦ inr none
        | inr some ↦ ⊎_elim
            (λ serves. inl (has some i (let below = it.0.3.ahead.below in omega (arith, below, same)) (it.0.0, it.0.1, it.0.3.ahead) serves))
            (λ none. inr (saved_is ∙ none))
            it.1
      ]

  pub counting : {run leaders : ℕ → Dir → Bool} (chosen : ℕ → Bool) (s : State) → ((i : ℕ) → IsAmongChosen dirs i → chosen i ≡ true) → CountChosen dirs sound.opened.book run leaders
      → ((i : ℕ) (d : Dir) → leaders i d ≡ true → (is_some (saved (disk_at s i)) ≡ true) ⊎ (shared.saved version.ctime ≡ None)) → CountStanding shared version chosen s run leaders
  counting chosen s among counts led = record {
    of_run = λ i d e. among i (counts.of_run i d e);
    led = λ i d e. (among i (counts.led i d e).0, led i d e);
  }

  -- they have it, and no call on them has failed, where none has failed so far
  pub leaders_hold : {leaders : ℕ → Dir → Bool} (a s : State) → SameCounts a s → LeadersUnfailed a sound.opened.book leaders
      → ((i : ℕ) (d : Dir) → leaders i d ≡ true → (is_some (saved (disk_at s i)) ≡ true) ⊎ (shared.saved version.ctime ≡ None)) → LeadersHold shared version s leaders
  leaders_hold a s same unfailed led i d e = ⊎_elim
      (λ has. ⊎_elim
      (λ none. inl (saved_is ∙ none))
      (λ fine. inr (has, ap (λ (n : ℕ). nat_lt n (2 ^ 64 - 1) && nat_le d.faults n) (same.faults i) ∙ fine))
      (unfailed i d e))
      (λ none. inl none)
      (led i d e)

-- ---- one call more

all_into : {shared : Shared} {count : ℕ} {run leaders : ℕ → Dir → Bool} {m : Moment} → AllKept shared count run leaders m → KeptInto (λ _. shared.window) count (λ _. run) (λ _. leaders) m
all_into {shared} all = (shared, λ book b. b, all)

pub starts_kept : {told : Type 0} {a b : State} → StartKept told a b → StartsKept told a b
starts_kept kept sound shared run leaders from few counts unfailed = throughout_weaker (kept sound shared run leaders from.first counts) (λ tells m either. ⊎_elim (λ entry. inl entry) (λ all. inr (all_into all)) either)

pub starts_more : {told : Type 0} {a b c : State} → StartsKept told a b → b.count ≡ a.count
    → ((sound : AreSound (dirs_read a) Start) (shared : Shared) (run leaders : ℕ → Dir → Bool) → StartsFrom shared (dirs_read a) sound → shared.floor.last + 64 < spent_from → CountChosen (dirs_read a) sound.opened.book run leaders → LeadersUnfailed a sound.opened.book leaders
    → Throughout told b c (KeptInto (λ _. shared.window) b.count (λ _. run) (λ _. leaders)))
    → StartsKept told a c
starts_more kept count more sound shared run leaders from few counts unfailed = throughout_trans
    (kept sound shared run leaders from few counts unfailed)
    (throughout_weaker (more sound shared run leaders from few counts unfailed) (λ tells m all. inr (subst (λ (n : ℕ). KeptInto (λ _. shared.window) n (λ _. run) (λ _. leaders) m) count all)))

-- ---- brought together, then tidied, then a journal begun

-- what is known once they were brought together
abbrev pub Together : Type 0 → State → State → Version → ℕ → Namespace → Type 0
Together told a b version id ns = told → (sound : AreSound (dirs_read a) Start) (shared : Shared) → IsFirst shared (dirs_read a) Start sound → AreTogether shared version id ns a b

module _ {told : Type 0} {a b : State} {version : Version} {id : ℕ} {ns : Namespace} (count : b.count ≡ a.count) (together : Together told a b version id ns) where
  brought : (tells : told) (sound : AreSound (dirs_read a) Start) (shared : Shared) → IsFirst shared (dirs_read a) Start sound → AllBrought shared version id b
  brought tells sound shared first i below = (together tells sound shared first).each i (omega (arith, below, count))

  -- a leader has what is saved still, where each directory has what it had then
  led_at : (tells : told) (sound : AreSound (dirs_read a) Start) (shared : Shared) (from : StartsFrom shared (dirs_read a) sound) {run leaders : ℕ → Dir → Bool} (s : State) → ((i : ℕ) → is_some (saved (disk_at s i)) ≡ is_some (saved (disk_at b i))) → CountChosen (dirs_read a) sound.opened.book run leaders
      → (i : ℕ) (d : Dir) → leaders i d ≡ true → (is_some (saved (disk_at s i)) ≡ true) ⊎ (shared.saved version.ctime ≡ None)
  led_at tells sound shared from s same counts = led_saved shared (dirs_read a) sound from version id ns (together tells sound shared from.first).aim s a.count refl counts
      (λ some i below ahead serves. same i ∙ ((together tells sound shared from.first).saves some i below).1 (ahead, serves))

  pub tidied_kept : {c : State} {chosen : ℕ → Bool} → StartKept told a b → (told → (i : ℕ) → IsAmongChosen (dirs_read a) i ↔ (chosen i ≡ true)) → KeepsAll told (λ shared s. AllBrought shared version id s) chosen version id ns b c → StartsKept told a c
  tidied_kept {c} {chosen} kept among keeps = starts_more (starts_kept kept) count
      (λ sound shared run leaders from few counts unfailed. throughout_weaker (keeps shared run leaders
      (λ tells. (together tells sound shared from.first).aim)
      (λ tells. brought tells sound shared from.first)
      (λ tells. counting shared (dirs_read a) sound from version id ns (together tells sound shared from.first).aim chosen b (λ i. (among tells i).0) counts (led_at tells sound shared from b (λ i. refl) counts)))
      (λ tells m all. all_into all))

  module _ {c : State} (same : c.count ≡ b.count) (rests : told → (shared : Shared) → IsAimedAt shared version id ns → AllBrought shared version id b → (i : ℕ) → i < b.count → true ≡ true → IsAtRest shared version id i c) where
    pub rested : told → (sound : AreSound (dirs_read a) Start) (shared : Shared) → StartsFrom shared (dirs_read a) sound → AreAtRest shared version id ns c
    rested tells sound shared from =
        let aim = (together tells sound shared from.first).aim in
        at_rest shared (dirs_read a) sound from version id ns aim c (λ i below. rests tells shared aim (brought tells sound shared from.first) i (omega (arith, below, same)) refl)

    module _ (beside : told → (i : ℕ) → Beside (IsYounger id) (disk_at b i) (disk_at c i)) where
      pub tidied_saved : told → (i : ℕ) → is_some (saved (disk_at c i)) ≡ is_some (saved (disk_at b i))
      tidied_saved tells i = ap (λ (s : Seven). is_some (seat_of s).previous) (young_seven id (disk_at b i) (disk_at c i) (beside tells i))

      pub begun_kept : {d : State} → SameCounts a c → StartsKept told a c → BeginsKept told version id c d → StartsKept told a d
      begun_kept {d} counted kept begins = starts_more kept (same ∙ count) (λ sound shared run leaders from few counts unfailed. begins shared ns run leaders (λ tells. rested tells sound shared from)
          (λ tells. (let last = last_is shared (dirs_read a) sound from version id ns (together tells sound shared from.first).aim in omega (arith, few, last)))
          (λ tells. leaders_hold shared (dirs_read a) sound from version id ns (together tells sound shared from.first).aim a c counted unfailed (led_at tells sound shared from c (tidied_saved tells) counts)))

      -- the holders of the journal are those of the greatest cTime that had a serving previous
      pub holders_tell : (tells : told) (sound : AreSound (dirs_read a) Start) (shared : Shared) → IsFirst shared (dirs_read a) Start sound → (holders : ℕ → Bool) → ((i : ℕ) → i < a.count → holders i ≡ is_some (saved (disk_at c i)))
          → shared.saved version.ctime ≢ None → (i : ℕ) → i < a.count → (holders i ≡ true) ↔ (IsAhead (dirs_read a) i × HasServingPrevious (dirs_read a) i)
      holders_tell tells sound shared first holders holds some i below =
          let it = (together tells sound shared first).saves some i below in
          let same = holds i below ∙ tidied_saved tells i in
          (λ e. it.0 (sym same ∙ e), λ both. same ∙ it.1 both)

-- ---- afterwards

-- each state still fits its directory where nothing but younger files was touched
pub still_fit : (id : ℕ) (a b : State) (at : List Settled) → ((i : ℕ) → Beside (IsYounger id) (disk_at a i) (disk_at b i)) → SettledFitNow at a → SettledFitNow at b
still_fit id a b at beside fits k it is = fits_by_seven it (disk_at a k) (disk_at b k) (young_seven id (disk_at a k) (disk_at b k) (beside k)) (fits k it is)

module _ {told : Type 0} {a b c : State} {version : Version} {id : ℕ} {ns : Namespace} (count : b.count ≡ a.count) (together : Together told a b version id ns) (same : c.count ≡ b.count)
    (rests : told → (shared : Shared) → IsAimedAt shared version id ns → AllBrought shared version id b → (i : ℕ) → i < b.count → true ≡ true → IsAtRest shared version id i c) (beside : told → (i : ℕ) → Beside (IsYounger id) (disk_at b i) (disk_at c i))
    (tells : told) (sound : AreSound (dirs_read a) Start) (shared : Shared) (from : StartsFrom shared (dirs_read a) sound) (chosen : ℕ → Bool) (among : (i : ℕ) → IsAmongChosen (dirs_read a) i ↔ (chosen i ≡ true)) (stays : ChosenKeepOwn chosen id a b)
    (at : List Settled) (are : AreSettled c.count at) (fits : SettledFitNow at c) (journal : JournalSet) (holds : HoldsBy at (has journal.holders)) where
  rest : AreAtRest shared version id ns c
  rest = rested count together same rests tells sound shared from

  holds_saved : (i : ℕ) → i < a.count → has journal.holders i ≡ is_some (saved (disk_at c i))
  holds_saved i below =
      let inside : i < c.count = omega (arith, below, count, same) in
      hold_previous c refl holds are fits i inside ∙ sym (normal_saves (disk_at c i) (rest.each i inside).brought.stands.normal)

  pub started_all : (d : State) → d.count ≡ c.count → IsBegun shared version id ns at journal d → OnlyLogged id c d → HasStarted a shared version id ns at journal d
  started_all d last begun logged = record {
    aim = (together tells sound shared from.first).aim;
    begun = begun;
    ahead = λ some i below. holders_tell count together same rests beside tells sound shared from.first (has journal.holders) holds_saved some i (omega (arith, below, last, same, count));
    own = λ i is. (
        let below : i < a.count = is.3.ahead.below in
        keeps_more (keeps_more (stays i below ((among i).0 is)) (beside tells i)) (log_young id (disk_at c i) (disk_at d i) (logged i (omega (arith, below, count, same))))
        );
  }

-- ---- counts

pub fault_counted : (T U : Type 0) (a b : State) (fault : OpenFault) → IsCountedBy {T = T} a b (Err fault) → IsCountedIn {T = U} a b (Err fault)
fault_counted T U a b (Refused refusal) is = is
fault_counted T U a b (Failed i) is = (is.below, is.rose)
fault_counted T U a b Memory is = is

pub fault_in : (T U : Type 0) (a b : State) (fault : OpenFault) → IsCountedIn {T = T} a b (Err fault) → IsCountedIn {T = U} a b (Err fault)
fault_in T U a b (Refused refusal) is = is
fault_in T U a b (Failed i) is = is
fault_in T U a b Memory is = is

-- of what is handed on
pub residual_counted : (T U : Type 0) (a b : State) (result : Result U OpenFault) (fault : OpenFault) → IsErrAnd result (λ e. e ≡ fault) → IsCountedBy {T = T} a b (Err fault) → IsCountedIn {T = U} a b result
residual_counted T U a b (Ok v) fault is counted = absurd is
residual_counted T U a b (Err e) fault is counted = subst (λ (x : OpenFault). IsCountedIn {T = U} a b (Err x)) (sym is) (fault_counted T U a b fault counted)

pub residual_in : (T U : Type 0) (a b : State) (result : Result U OpenFault) (fault : OpenFault) → IsErrAnd result (λ e. e ≡ fault) → IsCountedIn {T = T} a b (Err fault) → IsCountedIn {T = U} a b result
residual_in T U a b (Ok v) fault is counted = absurd is
residual_in T U a b (Err e) fault is counted = subst (λ (x : OpenFault). IsCountedIn {T = U} a b (Err x)) (sym is) (fault_in T U a b fault counted)

pub counted_more : {T : Type 0} (a b c : State) (result : Result T OpenFault) → SameCounts a b → b.count ≡ a.count → IsCountedIn b c result → IsCountedIn a c result
counted_more a b c (Ok v) same count is = counts_trans same is
counted_more a b c (Err (Refused refusal)) same count is = counts_trans same is
counted_more a b c (Err (Failed i)) same count is = (let below = is.0 in omega (arith, below, count), is.1 ∙ ap next_count (same.faults i.0))
counted_more a b c (Err Memory) same count is = counts_trans same is

-- ---- what is handed on and is no refusal

pub unrefused_truly : (U : Type 0) (dirs : Dirs) (result : Result U OpenFault) (fault : OpenFault) → IsErrAnd result (λ e. e ≡ fault) → ((refusal : Refusal) → fault ≢ Refused refusal) → IfErr result (IsRefusedTruly dirs Start)
unrefused_truly U dirs (Ok v) fault is none = tt
unrefused_truly U dirs (Err e) fault is none = subst (IsRefusedTruly dirs Start) (sym is) (truly_unrefused dirs Start fault none)

pub unrefused_reads : (U : Type 0) (a b : State) (result : Result U OpenFault) (fault : OpenFault) → IsErrAnd result (λ e. e ≡ fault) → ((refusal : Refusal) → fault ≢ Refused refusal) → IfErr result (ReadsWhereRefused a b)
unrefused_reads U a b (Ok v) fault is none = tt
unrefused_reads U a b (Err e) fault is none = subst (ReadsWhereRefused a b) (sym is) (not_refused a b fault none)
