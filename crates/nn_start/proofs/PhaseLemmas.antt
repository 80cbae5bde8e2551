-- What a call on all directories claims, whatever is shared: each is kept at each moment, and those that had their turn are done.
use Rattle.std.proofs.Common.{◌≡◌, ◌⊎◌, ℕ, ◌<◌, Bool, true, false, None, sym, ◌∙◌, subst, arith, true≢false, ap}
use Rattle.std.specs.Prelude.{is_some, Contains}
use Rattle.nn_host.specs.Disk.{Disk, Reads, certain}
use Rattle.nn_host.specs.Moments.{Dir, State, disk_at}
use Rattle.nn_marks.specs.declared.version.Version.{Version}
use Rattle.nn_state.specs.Seat.{saved}
use Rattle.nn_tree.specs.Namespace.{Namespace}
use Rattle.nn_base.specs.declared.sub.Sub.TheVariants.{Current}
use Rattle.nn_chain.specs.Folder.{folder_at}
use Rattle.nn_chain.specs.Images.{IsIntact}
use Rattle.nn_kept.specs.Kept.{Shared}
use Rattle.nn_kept.specs.Laws.{EachLeft, IsKeptDisk}
use Rattle.nn_kept.specs.Ends.{EndsBetween, book_of}
use Rattle.nn_kept.proofs.KeptEndsLemmas.{between_is_kept}
use Rattle.nn_steps.specs.Steps.{IsSure, StaysBehind}
use Rattle.nn_start.specs.Bringing.{IsAimedAt, CountStanding, IsAsItWas, IsBrought, StandsThere}
use Rattle.nn_start.proofs.BringLemmas.{at_floor, at_lead, has_room, book_there}
use Rattle.nn_start.proofs.WalkLemmas.{Walk}

-- what a caller chooses: what is shared, and who counts as of the run and as a holder
pub record Course (told : Type 0) (Before : Shared → State → Type 0) (chosen : ℕ → Bool) (version : Version) (id : ℕ) (ns : Namespace) (start : State) : Type 0 where
  pub shared : Shared
  pub run : ℕ → Dir → Bool
  pub leaders : ℕ → Dir → Bool
  pub aim : told → IsAimedAt shared version id ns
  pub before : told → Before shared start
  pub counts : told → CountStanding shared version chosen start run leaders

-- these directories have had their turn so far
abbrev pub Phase : Type 0 → (Shared → State → Type 0) → (Shared → ℕ → State → Type 0) → (ℕ → Bool) → (ℕ → Bool) → Version → ℕ → Namespace → ℕ → State → State → Type 0
Phase told Before After chosen todo version id ns k start now = Walk told (Course told Before chosen version id ns start) (λ w j d. j < start.count → IsKeptDisk w.shared (w.run j d) (w.leaders j d) d.disk) (λ w i s. After w.shared i s) todo k start now

-- ---- one directory at a moment

-- one that doesn't count
pub uncounted : (shared : Shared) (run leaders : Bool) (d : Disk) → IsKeptDisk shared false false d → (run ≡ true → ⊥) → (leaders ≡ true → ⊥) → IsKeptDisk shared run leaders d
uncounted shared run leaders d kept no_run no_leader = record { kept = kept.kept; run = λ e. absurd (no_run e); led = λ e. absurd (no_leader e) }

-- one that ends at the floor
pub ends_kept : (shared : Shared) (version : Version) (id : ℕ) (ns : Namespace) → IsAimedAt shared version id ns → (has run leaders : Bool) (d : Disk) → EndsBetween version has (shared.saved version.ctime) (shared.ns version.ctime) id id d → (leaders ≡ true → (has ≡ true) ⊎ (shared.saved version.ctime ≡ None)) → IsKeptDisk shared run leaders d
ends_kept shared version id ns aim has run leaders d ends holds = between_is_kept shared version has id id d run leaders ends (has_room shared version id ns aim has)
    (λ e. at_floor shared version id ns aim)
    (λ e. (at_floor shared version id ns aim, at_lead shared version id ns aim, λ n least most. there n (omega arith) (holds e)))
  where
    there : (n : ℕ) → id ≡ n → (has ≡ true) ⊎ (shared.saved version.ctime ≡ None) → Contains shared.window (book_of has (shared.saved version.ctime) (shared.ns version.ctime n))
    there n same either = subst (λ (k : ℕ). Contains shared.window (book_of has (shared.saved version.ctime) (shared.ns version.ctime k))) same (book_there shared version id ns aim has either)

pub lags_kept : (shared : Shared) (d : Disk) → StaysBehind shared d → IsKeptDisk shared false false d
lags_kept shared d behind = record { kept = λ c left fair. (behind c left fair).0; run = λ e. absurd (true≢false (sym e)); led = λ e. absurd (true≢false (sym e)) }

module _ {told : Type 0} {Before : Shared → State → Type 0} {chosen : ℕ → Bool} {version : Version} {id : ℕ} {ns : Namespace} {a : State} (w : Course told Before chosen version id ns a) (tells : told) where
  -- one that wasn't chosen
  pub other_kept : (i : ℕ) (d : Dir) → chosen i ≡ false → IsKeptDisk w.shared false false d.disk → IsKeptDisk w.shared (w.run i d) (w.leaders i d) d.disk
  other_kept i d lagged kept = uncounted w.shared (w.run i d) (w.leaders i d) d.disk kept
      (λ e. true≢false (sym ((w.counts tells).of_run i d e) ∙ lagged))
      (λ e. true≢false (sym ((w.counts tells).led i d e).0 ∙ lagged))

  -- one that ends at the floor, with what it had saved
  pub end_kept : (i : ℕ) (d : Dir) → EndsBetween version (is_some (saved (disk_at a i))) (w.shared.saved version.ctime) (w.shared.ns version.ctime) id id d.disk → IsKeptDisk w.shared (w.run i d) (w.leaders i d) d.disk
  end_kept i d ends = ends_kept w.shared version id ns (w.aim tells) (is_some (saved (disk_at a i))) (w.run i d) (w.leaders i d) d.disk ends (λ e. ((w.counts tells).led i d e).1)

-- ---- one that has come to the floor stays there where nothing is done to it

pub sure_moved : {i : ℕ} {a b : State} → IsAsItWas i a b → IsSure Current i a → IsSure Current i b
sure_moved {i} {a} {b} alone sure n = ap (λ (d : Dir). d.disk.file Current n) alone.dir ∙ sure n ∙ ap (λ (r : Reads). certain (r.file Current n)) (sym alone.reads)

pub brought_moved : {shared : Shared} {version : Version} {id : ℕ} (i : ℕ) (a b : State) → IsAsItWas i a b → IsBrought shared version id i a → IsBrought shared version id i b
brought_moved {shared} {version} {id} i a b alone is = record {
  stands = subst (λ (d : Dir). StandsThere shared version id d.disk) (sym alone.dir) is.stands;
  sure = sure_moved alone is.sure;
  intact = subst (λ (d : Dir). EachLeft d.disk (λ c. IsIntact (folder_at c Current) version id (shared.ns version.ctime id))) (sym alone.dir) is.intact;
}
