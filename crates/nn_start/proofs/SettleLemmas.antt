-- From directory to directory: which are settled so far.
use Rattle.std.proofs.Common.{ℕ, ◌+◌, Option, None, Ok, Err, refl}
use Rattle.nn_host.specs.Disk.{Settle}
use Rattle.nn_host.specs.Moments.{State}
use Rattle.nn_host.specs.Calls.{Called}
use Rattle.nn_host.specs.Runs.{Unspoken}
use Rattle.nn_state.specs.Table.{seven_of, table_of}
use Rattle.nn_pick.specs.declared.refusal.Refusal.{Refusal}
use Rattle.nn_pick.specs.Refused.{unformattable, or_else}
use Rattle.nn_open.specs.Answers.{EachAsBefore}
use Rattle.nn_open.proofs.CallLemmas.{settled}
use Rattle.nn_open.proofs.SurveyLemmas.{Surveyed, surveyed_none, surveyed_run, surveyed_quiet, surveyed_more}

-- the first k directories were settled, as in a survey, whatever that would say of them
pub record Settling (told : Type 0) (k : ℕ) (start now : State) : Type 0 where
  pub first : Option Refusal
  pub so_far : Surveyed told k start now first

pub settling_none : {told : Type 0} {a : State} → Settling told 0 a a
settling_none = record { first = None; so_far = surveyed_none }

module _ {told : Type 0} {k : ℕ} {a b c : State} (s : Settling told k a b) {T E : Type 0} where
  pub settling_more : {v : T} → Called {T = T} {E = E} told k Settle b c (Ok v) → Settling told (k + 1) a c
  settling_more called = record {
    first = or_else s.first (unformattable k (table_of (seven_of (b.reads k))));
    so_far = surveyed_more s.so_far (settled called) (unformattable k (table_of (seven_of (b.reads k)))) (or_else s.first (unformattable k (table_of (seven_of (b.reads k))))) called.counted.ok (λ tells. (called.effect tells).ok.reads) (λ tells. (called.effect tells).ok.disk) (λ tells. refl) refl;
  }

  pub settling_run : {e : E} → Called {T = T} {E = E} told k Settle b c (Err e) → EachAsBefore told a c
  settling_run called = surveyed_run s.so_far (settled called)

  pub settling_quiet : {e : E} → Called {T = T} {E = E} told k Settle b c (Err e) → Unspoken told a c
  settling_quiet called = surveyed_quiet s.so_far (settled called)
