-- A host in memory after one of its parts was changed: what its record comes to, and that its contents are tied to it.
use Rattle.std.proofs.Common.{◌≡◌, ℕ, ◌<◌, List, [], ◌∷◌, ◌++◌, length, take, Option, Some, None, refl, sym, ◌∙◌, ap}
use Rattle.std.specs.Prelude.{true, IsSome}
use Rattle.std.specs.Global.{Vec}
use Rattle.std.proofs.Math.Path.{fun_ext}
use Rattle.std.specs.List.{list_all}
use Rattle.std.proofs.lemmas.Bool.{lt-ltb}
use Rattle.nn_base.specs.declared.ids.DirNo.{DirNo}
use Rattle.nn_host.specs.Disk.{Held}
use Rattle.nn_memhost.specs.declared.asked.Asked.{Asked}
use Rattle.nn_memhost.specs.declared.kept.KeptDir.{KeptDir}
use Rattle.nn_memhost.specs.declared.past.Logged.{Logged}
use Rattle.nn_memhost.specs.declared.past.Part.{Part}
use Rattle.nn_memhost.specs.declared.mem.MemHost.{MemHost}
use Rattle.nn_memhost.specs.Asked.{call_of}
use Rattle.nn_memhost.specs.Base.{base_of}
use Rattle.nn_memhost.specs.Content.{Content}
use Rattle.nn_memhost.specs.Held.{kept_left}
use Rattle.nn_memhost.specs.Past.{Past, kept_at, put_at, start, one, run, is_below}
use Rattle.nn_memhost.specs.Mem.{start_of, past_of}
use Rattle.nn_memhost.proofs.PastLemmas.{run-push, start_same}
use Rattle.nn_memhost.proofs.StopLemmas.{list_all-push}
use Rattle.nn_memhost.proofs.Calls.{asking}

-- a base that is there doesn't hang on the contents
pub base_there : (base : Option (Vec KeptDir)) (dirs other : List KeptDir) → IsSome base → base_of base dirs ≡ base_of base other
base_there None dirs other there = cc
base_there (Some b) dirs other there = refl

module _ (m : MemHost) (base : Option (Vec KeptDir)) (dirs : List KeptDir) (based : (j : ℕ) → kept_at (base_of base dirs) j ≡ kept_at (base_of m.base m.dirs.items) j) where
  begins : start (kept_at (base_of base dirs)) (take m.said_before m.said.items) m.began ≡ start_of m
  begins = start_same (kept_at (base_of base dirs)) (kept_at (base_of m.base m.dirs.items)) (take m.said_before m.said.items) m.began based

  -- no call was recorded
  pub still : (calls : List Logged) → calls ≡ m.calls.items → run (start (kept_at (base_of base dirs)) (take m.said_before m.said.items) m.began) calls ≡ past_of m
  still calls same = λ k. run (begins k) (same k)

  pub still_said : (calls : List Logged) → calls ≡ m.calls.items → (run (start (kept_at (base_of base dirs)) (take m.said_before m.said.items) m.began) calls).now.said ≡ m.said.items
  still_said calls same = ap (λ (p : Past). p.now.said) (still calls same) ∙ m.spoken

  pub still_tied : (calls : List Logged) → calls ≡ m.calls.items → ((j : ℕ) → kept_at dirs j ≡ kept_at m.dirs.items j) → (j : ℕ) → (run (start (kept_at (base_of base dirs)) (take m.said_before m.said.items) m.began) calls).now.kept j ≡ kept_at dirs j
  still_tied calls same kept j = ap (λ (p : Past). p.now.kept j) (still calls same) ∙ m.tied j ∙ sym (kept j)

  -- one was
  module _ (i : DirNo) (asked : Asked) (failed : Option Part) (calls : List Logged) (noted : calls ≡ m.calls.items ++ asking i asked failed m.counts ∷ []) where
    pub more : run (start (kept_at (base_of base dirs)) (take m.said_before m.said.items) m.began) calls ≡ one (past_of m) (asking i asked failed m.counts)
    more = (λ k. run (begins k) (noted k)) ∙ run-push (start_of m) m.calls.items (asking i asked failed m.counts)

    pub more_said : (run (start (kept_at (base_of base dirs)) (take m.said_before m.said.items) m.began) calls).now.said ≡ m.said.items
    more_said = ap (λ (p : Past). p.now.said) more ∙ m.spoken

    pub more_tied : ((j : ℕ) → kept_at dirs j ≡ put_at i.0 (kept_left failed (call_of asked) (kept_at m.dirs.items i.0)) (kept_at m.dirs.items) j)
        → (j : ℕ) → (run (start (kept_at (base_of base dirs)) (take m.said_before m.said.items) m.began) calls).now.kept j ≡ kept_at dirs j
    more_tied carried j =
        ap (λ (p : Past). p.now.kept j) more
        ∙ ap (λ (kept : ℕ → Held Content). put_at i.0 (kept_left failed (call_of asked) (kept i.0)) kept j) (fun_ext m.tied)
        ∙ sym (carried j)

-- the contents at the beginning of the record stay, also where they are kept by now
pub based_on : (base old : Option (Vec KeptDir)) (dirs before kept : List KeptDir) → IsSome base → kept ≡ before → ((j : ℕ) → kept_at (base_of base kept) j ≡ kept_at (base_of old kept) j)
    → (j : ℕ) → kept_at (base_of base dirs) j ≡ kept_at (base_of old before) j
based_on base old dirs before kept there is same j =
    ap (λ (ds : List KeptDir). kept_at ds j) (base_there base dirs kept there) ∙ same j ∙ ap (λ (ds : List KeptDir). kept_at (base_of old ds) j) is

-- each recorded call is on a directory that is there
pub more_placed : (m : MemHost) (dirs : List KeptDir) (i : DirNo) (asked : Asked) (failed : Option Part) (calls : List Logged) → calls ≡ m.calls.items ++ asking i asked failed m.counts ∷ [] → length dirs ≡ length m.dirs.items → i.0 < length m.dirs.items
    → list_all (is_below (length dirs)) calls ≡ true
more_placed m dirs i asked failed calls noted len below =
    (λ k. list_all (is_below (len k)) (noted k))
    ∙ list_all-push (is_below (length m.dirs.items)) m.calls.items (asking i asked failed m.counts) m.placed (lt-ltb i.0 (length m.dirs.items) below)
