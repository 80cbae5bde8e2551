-- Directories that are opened, then brought up, and then published into: what is kept over all of it.
use Rattle.std.proofs.Common.{◌≡◌, ◌≢◌, inl, inr, ⊎_elim, ℕ, ◌<◌, Bool, true, false, ◌&&◌, Option, Some, None, refl, sym, ◌∙◌, ap, subst, arith, true≢false}
use Rattle.std.specs.Prelude.{◌↔◌, is_some, not}
use Rattle.std.proofs.lemmas.Bool.{cases_Bool}
use Rattle.nn_base.specs.declared.sub.Sub.{Sub}
use Rattle.nn_host.specs.Moments.{Dir, State, disk_at}
use Rattle.nn_host.proofs.RunsLemmas.{throughout_trans, throughout_weaker}
use Rattle.nn_marks.specs.declared.version.Version.{Version}
use Rattle.nn_state.specs.declared.state.Seven.{Seven}
use Rattle.nn_state.specs.Seat.{seat_of, saved}
use Rattle.nn_tree.specs.Namespace.{Namespace}
use Rattle.nn_pick.specs.declared.intent.Intent.{Intent}
use Rattle.nn_pick.specs.declared.intent.Intent.TheVariants.{Start}
use Rattle.nn_pick.specs.declared.fault.OpenFault.{OpenFault}
use Rattle.nn_pick.specs.declared.fault.OpenFault.TheVariants.{Refused, Failed, Memory}
use Rattle.nn_pick.specs.declared.refusal.Refusal.{Refusal}
use Rattle.nn_pick.specs.Dirs.{Dirs, IsAmongChosen}
use Rattle.nn_pick.specs.Refusing.{HasServingPrevious}
use Rattle.nn_pick.specs.Opening.{Book, AreSound}
use Rattle.nn_kept.specs.Kept.{Shared}
use Rattle.nn_kept.specs.Laws.{AllKept}
use Rattle.nn_kept.specs.First.{IsFirst}
use Rattle.nn_choose.specs.Looking.{dirs_read}
use Rattle.nn_choose.specs.Picking.{IsAhead, IsRefusedTruly}
use Rattle.nn_segment_file.specs.Log.{Beside}
use Rattle.nn_start.specs.Entry.{CountChosen, StartKept, ReadsAsBefore, ReadsWhereRefused}
use Rattle.nn_start.specs.Bringing.{IsAimedAt, IsBrought, IsBroughtUp, CountStanding, KeepsAll, IsAsItWas}
use Rattle.nn_start.specs.Publishing.{AreOpened, AreToPublish}
use Rattle.nn_start.specs.Keeping.{IsYounger}
use Rattle.nn_start.specs.Together.{AreTogether}
use Rattle.nn_start.proofs.KeepLemmas.{young_seven}
use Rattle.nn_start.proofs.ReadyLemmas.{is_there}
use Rattle.nn_start.proofs.PhaseLemmas.{brought_moved}
use Rattle.nn_start.proofs.PublishLemmas.{to_publish_moved}

-- ---- one call more

-- what is known of a state for each way in which it is told how the directories were at entry
abbrev pub Given : Type 0 → State → (Shared → Book → Type 0) → Type 0
Given told a P = told → (sound : AreSound (dirs_read a) Start) (shared : Shared) → IsFirst shared (dirs_read a) Start sound → P shared sound.opened.book

module _ {told : Type 0} {a b : State} {chosen : ℕ → Bool} {version : Version} {id : ℕ} {ns : Namespace} (kept : StartKept told a b) (count : b.count ≡ a.count) (Before : Shared → State → Type 0) where
  pub kept_more : {c : State} → KeepsAll told Before chosen version id ns b c → Given told a (λ shared book. IsAimedAt shared version id ns) → Given told a (λ shared book. Before shared b)
      → Given told a (λ shared book. (run leaders : ℕ → Dir → Bool) → CountChosen (dirs_read a) book run leaders → CountStanding shared version chosen b run leaders) → StartKept told a c
  kept_more keeps aim before counts sound shared run leaders first chosen_ones = throughout_trans
      (kept sound shared run leaders first chosen_ones)
      (throughout_weaker (keeps shared run leaders (λ tells. aim tells sound shared first) (λ tells. before tells sound shared first) (λ tells. counts tells sound shared first run leaders chosen_ones))
      (λ tells m all. inr (subst (λ (n : ℕ). AllKept shared n run leaders m) count all)))

-- ---- those that were chosen are as they were

module _ {b c : State} {chosen : ℕ → Bool} (left : (i : ℕ) → chosen i ≡ true → IsAsItWas i b c) where
  pub counts_moved : {shared : Shared} {version : Version} {run leaders : ℕ → Dir → Bool} → CountStanding shared version chosen b run leaders → CountStanding shared version chosen c run leaders
  counts_moved counts = record {
    of_run = counts.of_run;
    led = λ i d e. (
        let it = counts.led i d e in
        (it.0, ⊎_elim (λ has. inl (ap (λ (x : Dir). is_some (saved x.disk)) (left i it.0).dir ∙ has)) (λ none. inr none) it.1)
        );
  }

has_by : (o : Option Sub) → is_some o ≡ true → o ≢ None
has_by None e none = true≢false (sym e)
has_by (Some s) e none = cc

both_of : (level keep has : Bool) → (level && keep && has) ≡ true → (level ≡ true) × (has ≡ true)
both_of true true has e = (refl, e)
both_of true false has e = absurd (true≢false (sym e))
both_of false keep has e = absurd (true≢false (sym e))

all_of : (level keep has : Bool) → level ≡ true → keep ≡ true → has ≡ true → (level && keep && has) ≡ true
all_of level keep has l k h = (λ i. l i && k i && h i)

module _ {b c : State} {chosen level : ℕ → Bool} {keep : Bool} {version : Version} {id : ℕ} {ns : Namespace} (count : c.count ≡ b.count) (left : (i : ℕ) → chosen i ≡ true → IsAsItWas i b c) (entry : State) (book : Book) (shared : Shared) (opened : AreOpened (dirs_read entry) book shared chosen level keep version id ns b)
    (brought : (i : ℕ) → i < b.count → not (chosen i) ≡ true → IsBroughtUp shared (level i) keep version id i b c) where
  inside : (i : ℕ) → i < c.count → i < b.count
  inside i below = omega (arith, below, count)

  pub to_publish_now : AreToPublish shared chosen version id ns c
  to_publish_now = record {
    chosen_ones = λ i below chose. to_publish_moved i b c (left i chose) (opened.to_publish i (inside i below) chose);
    others = λ i below other. (brought i (inside i below) (ap not other)).brought;
  }

  module _ (d : State) (same : b.count ≡ entry.count) (others : (i : ℕ) → chosen i ≡ false → IsAsItWas i c d) (published : (i : ℕ) → i < c.count → chosen i ≡ true → IsBrought shared version id i d) (beside : (i : ℕ) → Beside (IsYounger id) (disk_at c i) (disk_at d i))
      (among : (i : ℕ) → IsAmongChosen (dirs_read entry) i ↔ (chosen i ≡ true)) (ahead : (i : ℕ) → (level i ≡ true) ↔ IsAhead (dirs_read entry) i) where
    here : (i : ℕ) → i < entry.count → i < b.count
    here i below = omega (arith, below, same)

    same_saved : (i : ℕ) → is_some (saved (disk_at d i)) ≡ is_some (saved (disk_at c i))
    same_saved i = ap (λ (s : Seven). is_some (seat_of s).previous) (young_seven id (disk_at c i) (disk_at d i) (beside i))

    chosen_saves : (i : ℕ) → i < entry.count → chosen i ≡ true → is_some (saved (disk_at d i)) ≡ is_some (saved (entry.reads i))
    chosen_saves i below chose = same_saved i ∙ ap (λ (x : Dir). is_some (saved x.disk)) (left i chose).dir ∙ opened.saves i (here i below)

    other_saves : (i : ℕ) → i < entry.count → chosen i ≡ false → is_some (saved (disk_at d i)) ≡ (level i && keep && is_some (saved (entry.reads i)))
    other_saves i below other = same_saved i ∙ (brought i (here i below) (ap not other)).saves ∙ ap (λ (has : Bool). level i && keep && has) (opened.saves i (here i below))

    pub saved_tells : shared.saved version.ctime ≢ None → (i : ℕ) → i < entry.count → (is_some (saved (disk_at d i)) ≡ true) ↔ (IsAhead (dirs_read entry) i × HasServingPrevious (dirs_read entry) i)
    saved_tells some i below = elim (cases_Bool (chosen i)) [
      | inl chose ↦ (
        λ e. (let it = (among i).1 chose in ((it.0, it.1, it.3.ahead), has_by (saved (entry.reads i)) (sym (chosen_saves i below chose) ∙ e))),
        λ both. chosen_saves i below chose ∙ is_there (saved (entry.reads i)) both.1,
      )
      | inr other ↦ (
        λ e. (let it = both_of (level i) keep (is_some (saved (entry.reads i))) (sym (other_saves i below other) ∙ e) in ((ahead i).0 it.0, has_by (saved (entry.reads i)) it.1)),
        λ both. other_saves i below other ∙ all_of (level i) keep (is_some (saved (entry.reads i))) ((ahead i).1 both.0) (opened.keeps some) (is_there (saved (entry.reads i)) both.1),
      )
    ]

    pub all_together : AreTogether shared version id ns entry d
    all_together = record {
      aim = opened.aim;
      each = λ i below. elim (cases_Bool (chosen i)) [
        | inl chose ↦ published i (omega (arith, below, same, count)) chose
        | inr other ↦ brought_moved i c d (others i other) (brought i (here i below) (ap not other)).brought
      ];
      saves = saved_tells;
    }

-- ---- faults that are handed on

pub where_refused : (a b : State) (fault : OpenFault) → ReadsAsBefore a b fault → ReadsWhereRefused a b fault
where_refused a b (Refused refusal) same = same
where_refused a b (Failed i) same = tt
where_refused a b Memory same = tt

pub not_refused : (a b : State) (fault : OpenFault) → ((refusal : Refusal) → fault ≢ Refused refusal) → ReadsWhereRefused a b fault
not_refused a b (Refused refusal) none = absurd (none refusal refl)
not_refused a b (Failed i) none = tt
not_refused a b Memory none = tt

pub truly_unrefused : (dirs : Dirs) (intent : Intent) (fault : OpenFault) → ((refusal : Refusal) → fault ≢ Refused refusal) → IsRefusedTruly dirs intent fault
truly_unrefused dirs intent (Refused refusal) none = absurd (none refusal refl)
truly_unrefused dirs intent (Failed i) none = tt
truly_unrefused dirs intent Memory none = tt
