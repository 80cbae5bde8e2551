-- What went out over a step, and which directories were counted and left alone.
use Rattle.std.proofs.Common.{◌≡◌, ◌⊎◌, inl, inr, ℕ, ◌≤◌, ◌++◌, take, Option, Result, Ok, Err, refl, sym, ◌∙◌, ap, subst, arith, ⊎_elim, false, OnOk}
use Rattle.std.proofs.lemmas.List.{append-nil}
use Rattle.nn_base.specs.DirSets.{Members, has}
use Rattle.nn_base.specs.Paths.{Bytes}
use Rattle.nn_host.specs.Moments.{Dir, State, faults_at}
use Rattle.nn_host.specs.Calls.{next_count}
use Rattle.nn_host.specs.Runs.{Throughout, Unspoken}
use Rattle.nn_host.specs.declared.host.Failed.{Failed}
use Rattle.nn_host.proofs.RunsLemmas.{throughout_refl, throughout_trans, throughout_weaker, out_whole_trans, out_whole_unspoken, silent_after}
use Rattle.nn_journal.specs.Among.{EachCounted, LeavesAlone, StaysLive, IsDropped}
use Rattle.nn_say.specs.Saying.{SaysFronts, Says}
use Rattle.nn_say.proofs.SayingLemmas.{concat_pieces}
use Rattle.nn_run.specs.Steps.{StepCounts}
use Rattle.nn_core.specs.Events.{unless_failed, GoesOut, OutBy, AllFailed, IsLeftBut}
use Rattle.nn_journal.specs.declared.journal.JournalSet.{JournalSet}
use Rattle.nn_core.specs.declared.event.End.{End}

-- ---- what is said

-- at each moment a front of the text, and no directory is touched
pub fronts_of : {told : Type 0} {a c : State} (text : Bytes) (said : Result (Unit {0}) Failed) → Says told a c text said → SaysFronts told a c text
fronts_of {told} {a} {c} text (Ok v) says = subst (λ x. SaysFronts told a c x) (concat_pieces text) says.fronts
fronts_of {told} {a} {c} text (Err e) says = subst (λ x. SaysFronts told a c x) (concat_pieces text) says.fronts

-- nothing, at one moment
pub no_fronts : {told : Type 0} (a : State) (text : Bytes) → SaysFronts told a a text
no_fronts a text = throughout_refl (λ tells. (refl, 0, sym (append-nil a.now.said)))

pub speaks_by : {told : Type 0} (a b c : State) (text : Bytes) → Unspoken told a b → SaysFronts told b c text → Throughout told a c (λ m. ((n : ℕ) × (m.said ≡ a.now.said ++ take n text)) × ((m.said ≡ a.now.said) ⊎ (m.dirs ≡ c.now.dirs)))
speaks_by a b c text quiet fronts = throughout_trans
    (throughout_weaker quiet.each (λ tells m same. ((0, same.said ∙ sym (append-nil a.now.said)), inl same.said)))
    (throughout_weaker fronts (λ tells m is. ((is.1, is.2 ∙ ap (λ x. x ++ take is.1 text) quiet.now.said), inr (is.0 ∙ sym (fronts.ends tells).0))))

pub quiet_out : {told : Type 0} {a b : State} → Unspoken told a b → GoesOut told a b
quiet_out quiet = (out_whole_unspoken quiet, quiet.now.out_faults)

pub out_by : {told : Type 0} (a b c : State) (text : Bytes) (said : Result (Unit {0}) Failed) → Unspoken told a b → Says told b c text said → OutBy told (unless_failed said) a c
out_by a b c text (Ok v) quiet says = (out_whole_trans (out_whole_unspoken quiet) says.answered.out, says.answered.out_faults ∙ quiet.now.out_faults)
out_by a b c text (Err e) quiet says = (silent_after (out_whole_unspoken quiet) says.failed.silent, says.failed.out_faults ∙ ap next_count quiet.now.out_faults)

-- where it is so of any result, it is of an answered one
pub any_ok : {P : Type 0} (result : Result (Unit {0}) End) → P → OnOk result P
any_ok (Ok v) is = is
any_ok (Err e) is = tt

-- the same of another text
pub spoken_as : {told : Type 0} {a c : State} {text other : Bytes} → text ≡ other
    → Throughout told a c (λ m. ((n : ℕ) × (m.said ≡ a.now.said ++ take n text)) × ((m.said ≡ a.now.said) ⊎ (m.dirs ≡ c.now.dirs)))
    → Throughout told a c (λ m. ((n : ℕ) × (m.said ≡ a.now.said ++ take n other)) × ((m.said ≡ a.now.said) ⊎ (m.dirs ≡ c.now.dirs)))
spoken_as {told} {a} {c} same is = subst (λ (x : Bytes). Throughout told a c (λ m. ((n : ℕ) × (m.said ≡ a.now.said ++ take n x)) × ((m.said ≡ a.now.said) ⊎ (m.dirs ≡ c.now.dirs)))) same is

-- ---- counts

pub counts_of : (told : Type 0) (a c : State) (text : Bytes) (said : Result (Unit {0}) Failed) → Says told a c text said → (j : ℕ) → faults_at c j ≡ faults_at a j
counts_of told a c text (Ok v) says = says.answered.faults
counts_of told a c text (Err e) says = says.failed.faults

pub counted_on : (live after : Members) (a b c : State) → EachCounted live live after a b → ((j : ℕ) → faults_at c j ≡ faults_at b j) → EachCounted live live after a c
counted_on live after a b c counted same j = elim (counted j) [
  | inl stays ↦ inl (record { same_live = stays.same_live; faults = same j ∙ stays.faults })
  | inr dropped ↦ inr (record { was_among = dropped.was_among; not_live = dropped.not_live; faults = same j ∙ dropped.faults })
]

pub counted_none : (live : Members) (a : State) → EachCounted live live live a a
counted_none live a j = inl (record { same_live = refl; faults = refl })

-- of a line by which no directory is taken back
pub steps_of : (dir : Option ℕ) (live after : Members) (a b : State) → EachCounted live live after a b → StepCounts dir (has live) (has after) a b
steps_of dir live after a b counted j = elim (counted j) [
  | inl stays ↦ inl (stays.same_live, stays.faults)
  | inr dropped ↦ inr (inl (dropped.was_among, dropped.not_live, dropped.faults))
]

-- each live directory failed
pub all_failed : (journal after : JournalSet) (a b : State) → EachCounted journal.live journal.live after.live a b → ((j : ℕ) → has after.live j ≡ false) → AllFailed journal after a b
all_failed journal after a b counted none j = (
  none j,
  λ e. ⊎_elim
      (λ (stays : StaysLive journal.live after.live a b j). absurd (let apart = sym (none j) ∙ stays.same_live ∙ e in cc))
      (λ (dropped : IsDropped journal.live after.live a b j). dropped.faults)
      (counted j),
)

-- ---- what is left alone

pub left_none : {told : Type 0} (live : Members) (a : State) → LeavesAlone told live a a
left_none live a = throughout_refl (λ tells. record { grown = λ j. omega arith; others = λ j out. refl; failed = λ j high. refl })

pub left_on : {told : Type 0} (live : Members) (a b c : State) (text : Bytes) → LeavesAlone told live a b → SaysFronts told b c text → LeavesAlone told live a c
left_on live a b c text left fronts = throughout_trans
    (throughout_weaker left (λ tells m is. record { grown = is.grown; others = is.others; failed = λ j high. is.failed j high ∙ ap (λ (dirs : ℕ → Dir). dirs j) (sym (fronts.ends tells).0) }))
    (throughout_weaker fronts (λ tells m is. let end = left.ends tells in record {
      grown = λ j. subst (λ (dirs : ℕ → Dir). faults_at a j ≤ (dirs j).faults) (sym is.0) (end.grown j);
      others = λ j out. ap (λ (dirs : ℕ → Dir). dirs j) is.0 ∙ end.others j out;
      failed = λ j high. ap (λ (dirs : ℕ → Dir). dirs j) (is.0 ∙ sym (fronts.ends tells).0);
    }))

pub left_but : {told : Type 0} (dir : Option ℕ) (live : Members) (a c : State) → LeavesAlone told live a c → Throughout told a c (IsLeftBut dir live a c)
left_but dir live a c left = throughout_weaker left (λ tells m is. record { grown = is.grown; others = λ j apart out. is.others j out; failed = λ j apart high. is.failed j high })
