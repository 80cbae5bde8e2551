-- What the end of the last segment keeps.
use Rattle.std.proofs.Common.{◌≡◌, ⊎_elim, ℕ, false, Result, Ok, Err, OnOk, OnErr, [], ◌∷◌, sym, subst}
use Rattle.std.proofs.lemmas.List.Elements.{Contains-append_cases}
use Rattle.nn_base.specs.DirSets.{has}
use Rattle.nn_host.specs.Moments.{State}
use Rattle.nn_host.proofs.RunsLemmas.{throughout_weaker}
use Rattle.nn_marks.specs.declared.version.Version.{Version}
use Rattle.nn_tree.specs.Namespace.{Namespace}
use Rattle.nn_journal.specs.declared.journal.JournalSet.{JournalSet}
use Rattle.nn_journal.specs.Places.{Went}
use Rattle.nn_pick.specs.Opening.{Book}
use Rattle.nn_kept.specs.Laws.{IsPartOf}
use Rattle.nn_run.specs.Steps.{BetweenLines, is_of_step}
use Rattle.nn_run.proofs.FlightLemmas.{in_flight, each_kept, after_flight}
use Rattle.nn_run.proofs.SyncLemmas.{not_live}
use Rattle.nn_core.specs.Standing.{unsaved, Stands, Comes, HasIds}
use Rattle.nn_core.specs.Events.{HasLive, AllFailed, HasEnded}
use Rattle.nn_core.proofs.StandLemmas.{going_none}
use Rattle.nn_core.proofs.SpokenLemmas.{all_failed}

-- what they came to is what they stand at
pub comes_stand : (version : Version) (journal after : JournalSet) (ns ns_after : Namespace) (a b : State) → b.count ≡ a.count → Comes version journal after ns ns_after a b → Stands version after ns_after b
comes_stand version journal after ns ns_after a b same it = record {
  list = it.list;
  stage = it.stage;
  matches = it.matches;
  disks = it.disks;
  alone = it.alone;
  images = it.images;
  between = subst (λ k. BetweenLines version it.list k (has after.live) (λ i. false) (unsaved ns_after) after.last b.now) (sym same)
      (after_flight version it.list a.count (has journal.live) (has after.live) (unsaved ns) (unsaved ns_after) journal.last after.last a b it.goes.before it.goes.leads it.goes.flown);
}

once : (book : Book) → IsPartOf (book ∷ book ∷ []) (book ∷ [])
once book other there = ⊎_elim (λ one. one) (λ two. two) (Contains-append_cases (book ∷ []) (book ∷ []) other there)

pub ended : {E told : Type 0} (version : Version) (journal after : JournalSet) (count : ℕ) (ns : Namespace) (a b : State) (result : Result (Unit {0}) E) → a.count ≡ count → (told → HasIds journal → Stands version journal ns a → Comes version journal after ns ns a b) → Went told journal.live after.live a b → after.going ≡ false
    → OnOk result (HasLive after) → OnErr result ((j : ℕ) → has after.live j ≡ false) → HasEnded told count version ns journal after a b result
ended {E} {told} version journal after count ns a b result listed comes went closed some none = record {
  kept = λ tells ids stands. (
      let it = comes tells ids stands in
      let before = subst (λ k. BetweenLines version it.list k (has journal.live) (λ i. false) (unsaved ns) journal.last a.now) listed it.goes.before in
      throughout_weaker it.goes.flown.each (λ t m flies. (
        in_flight version it.list count (has journal.live) (has after.live) (unsaved ns) (unsaved ns) journal.last after.last a b before it.goes.leads it.goes.flown,
        once (unsaved ns),
        each_kept version it.list count (has journal.live) (has after.live) (unsaved ns) (unsaved ns) journal.last after.last a b before it.goes.leads it.goes.flown (is_of_step (has journal.live) a) (is_of_step (has journal.live) a) m
            (not_live (has journal.live) a) (not_live (has journal.live) a) flies,
      )));
  stands = λ tells ids stands. comes_stand version journal after ns ns a b went.quiet.each.count (comes tells ids stands);
  went = went;
  some = some;
  failed = failing result none;
  closed = closed;
  ended = λ tells ids stands. let it = comes tells ids stands in going_none version it.list it.stage after b it.matches it.alone closed;
}
  where
    failing : (result : Result (Unit {0}) E) → OnErr result ((j : ℕ) → has after.live j ≡ false) → OnErr result (AllFailed journal after a b)
    failing (Ok v) none = tt
    failing (Err e) none = all_failed journal after a b went.counted none
