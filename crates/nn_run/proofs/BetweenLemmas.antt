-- Between two lines each directory is kept.
use Rattle.std.proofs.Common.{◌≡◌, inl, inr, ℕ, ◌<◌, ◌≤◌, Bool, true, false, ◌&&◌, ◌||◌, List, [], ◌∷◌, Option, Some, None, refl, sym, ◌∙◌, ap, subst, arith}
use Rattle.std.specs.Prelude.{Contains, is_none}
use Rattle.std.proofs.lemmas.Bool.{cases_Bool, and_parts}
use Rattle.nn_host.specs.Disk.{Disk}
use Rattle.nn_host.specs.Moments.{Dir, Moment}
use Rattle.nn_marks.specs.declared.version.Version.{Version}
use Rattle.nn_tree.specs.Namespace.{Namespace}
use Rattle.nn_pick.specs.Opening.{Book}
use Rattle.nn_kept.specs.Kept.{Shared, IsOfWindow}
use Rattle.nn_kept.specs.Laws.{IsKeptDisk, AllKept}
use Rattle.nn_kept.specs.Ends.{EndsBetween, HasRoom, book_of}
use Rattle.nn_kept.proofs.KeptEndsLemmas.{between_is_kept as flight_is_kept}
use Rattle.nn_run.specs.Steps.{BetweenLines, BetweenIsKept}

-- the first of a list is in it
pub is_first : {A : Type 0} (a : A) (rest : List A) → Contains (a ∷ rest) a
is_first a rest = (0, omega arith, refl)

-- a directory that doesn't count is kept as one that counts for nothing
pub uncounted : (shared : Shared) (of_run holder : Bool) (d : Disk) → of_run ≡ false → holder ≡ false → IsKeptDisk shared false false d → IsKeptDisk shared of_run holder d
uncounted shared of_run holder d e h is = subst (λ b. IsKeptDisk shared b holder d) (sym e) (subst (λ b. IsKeptDisk shared false b d) (sym h) is)

-- the Book of a directory with a previous, or of any where nothing is saved
pub whole_book : (has : Bool) (what : Option Namespace) (ns : Namespace) → (is_none what || has) ≡ true → book_of has what ns ≡ record { ns = ns; saved = what }
whole_book true what ns e = refl
whole_book false None ns e = refl
whole_book false (Some saved) ns e = cc e

-- its saved part is kept or emptied
pub book_in : (window : List Book) (has : Bool) (what : Option Namespace) (ns : Namespace) → Contains window (record { ns = ns; saved = what }) → IsOfWindow window (book_of has what ns)
book_in window true what ns there = record { saved = what; there = there; part = inl refl }
book_in window false what ns there = record { saved = what; there = there; part = inr refl }

module _ (version : Version) (list : ℕ → Namespace) (count : ℕ) (live holders : ℕ → Bool) (book : Book) (last : ℕ) (m : Moment) (between : BetweenLines version list count live holders book last m) where
  abbrev shared : Shared
  shared = between.shared

  -- what the list has at the last id is the Book
  at_last : (n : ℕ) → last ≤ n → n ≤ last → record { ns = shared.ns version.ctime n; saved = shared.saved version.ctime } ≡ book
  at_last n low high =
      let e : n ≡ last = omega (arith, low, high) in
      ap (λ k. record { ns = shared.ns version.ctime k; saved = shared.saved version.ctime }) e ∙ ap (λ f. record { ns = f last; saved = shared.saved version.ctime }) between.ns
      ∙ ap (λ w. record { ns = list last; saved = w }) between.saved ∙ ap (λ x. record { ns = x; saved = book.saved }) between.stands

  there : (n : ℕ) → last ≤ n → n ≤ last → Contains shared.window (record { ns = shared.ns version.ctime n; saved = shared.saved version.ctime })
  there n low high = subst (Contains shared.window) (sym (at_last n low high)) (subst (λ w. Contains w book) (sym between.window) (is_first book []))

  room : (has : Bool) → HasRoom shared version has last last
  room has = record {
    ours = between.ours;
    room = between.room;
    inside = λ n low high. book_in shared.window has (shared.saved version.ctime) (shared.ns version.ctime n) (there n low high);
    led = inl (inr (sym (ap (λ r. r.ctime) between.lead), omega (arith, ap (λ r. r.last) between.lead)));
  }

  -- a directory whose chain ends at the last id, if it may be a holder where it has a previous or nothing is saved
  pub ends_counted : (d : Disk) (has of_run holder : Bool) → (holder ≡ true → (is_none book.saved || has) ≡ true) → EndsBetween version has book.saved list last last d → IsKeptDisk shared of_run holder d
  ends_counted d has of_run holder held is =
      let ends : EndsBetween version has (shared.saved version.ctime) (shared.ns version.ctime) last last d =
      subst (λ w. EndsBetween version has w (shared.ns version.ctime) last last d) (sym between.saved)
      (subst (λ f. EndsBetween version has book.saved f last last d) (sym between.ns) is) in
      let floor = inr (ap (λ r. r.ctime) between.floor, omega (arith, ap (λ r. r.last) between.floor)) in
      let lead = inr (ap (λ r. r.ctime) between.lead, omega (arith, ap (λ r. r.last) between.lead)) in
      flight_is_kept shared version has last last d of_run holder ends (room has) (λ counts. floor)
      (λ h. (floor, lead, λ n low high. subst (Contains shared.window) (sym (whole_book has (shared.saved version.ctime) (shared.ns version.ctime n) (ap (λ w. is_none w || has) between.saved ∙ held h))) (there n low high)))

  live_counted : (i : ℕ) (of_run holder : Bool) → (holder ≡ true → (is_none book.saved || holders i) ≡ true) → i < count → live i ≡ true → IsKeptDisk shared of_run holder (m.dirs i).disk
  live_counted i of_run holder held below e = ends_counted (m.dirs i).disk (holders i) of_run holder held (between.lives i below e).ends

  each_kept : (i : ℕ) → i < count → IsKeptDisk shared (live i) ((is_none book.saved || holders i) && live i) (m.dirs i).disk
  each_kept i below = elim (cases_Bool (live i)) [
    | inl e ↦ subst (λ b. IsKeptDisk shared b ((is_none book.saved || holders i) && live i) (m.dirs i).disk) (sym e) (live_counted i true ((is_none book.saved || holders i) && live i) (λ h. (and_parts (is_none book.saved || holders i) (live i) h).0) below e)
    | inr e ↦ uncounted shared (live i) ((is_none book.saved || holders i) && live i) (m.dirs i).disk e (never (is_none book.saved || holders i) (live i) e) (between.others i below e).kept
  ]
    where
      never : (a b : Bool) → b ≡ false → (a && b) ≡ false
      never true b e = e
      never false b e = refl

  -- whichever of the live ones count, where nothing is saved
  pub kept_whichever : (run held : ℕ → Dir → Bool) → book.saved ≡ None → ((i : ℕ) (d : Dir) → live i ≡ false → run i d ≡ false) → ((i : ℕ) (d : Dir) → live i ≡ false → held i d ≡ false) → AllKept shared count run held m
  kept_whichever run held unsaved none none_held = record {
    at = λ i below. elim (cases_Bool (live i)) [
      | inl e ↦ live_counted i (run i (m.dirs i)) (held i (m.dirs i)) (λ h. ap (λ w. is_none w || holders i) unsaved) below e
      | inr e ↦ uncounted shared (run i (m.dirs i)) (held i (m.dirs i)) (m.dirs i).disk (none i (m.dirs i) e) (none_held i (m.dirs i) e) (between.others i below e).kept
    ];
  }

pub between_is_kept : BetweenIsKept
between_is_kept version list count live holders book last m between = record { at = λ i below. each_kept version list count live holders book last m between i below }
