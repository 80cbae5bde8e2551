-- Directories open in at most one way: the lowest chosen one has one chain, and what is saved is in one place.
use Rattle.std.proofs.Common.{◌≡◌, ℕ, Bool, true, false, Option, Some, refl, sym, ◌∙◌, ap, subst}
use Rattle.nn_tree.specs.Namespace.{Namespace}
use Rattle.nn_marks.specs.declared.version.Version.{Version}
use Rattle.nn_chain.specs.Folder.{Folder, HasVersion}
use Rattle.nn_chain.specs.Chain.{Reached}
use Rattle.nn_pick.specs.Dirs.{Dirs, IsAmongChosen, ServesCurrent, ServesPrevious}
use Rattle.nn_pick.specs.Refusing.{IsChosenWithPrevious}
use Rattle.nn_pick.specs.Opening.{IsFirstChosen, IsSavedChain, IsSaved, Unsaved, Lost, Kept}
use Rattle.nn_pick.specs.Laws.{OneOpens}
use Rattle.nn_pick.proofs.VersionLemmas.{one_version, one_current, one_previous}
use Rattle.nn_pick.proofs.UnderLemmas.{one_end}
use Rattle.nn_pick.proofs.OneRefusalLemmas.{the_lowest, under_same}

-- ---- the chosen

same_bool : (p q : Bool) → (p ≡ true → q ≡ true) → (q ≡ true → p ≡ true) → p ≡ q
same_bool true q to back = sym (to refl)
same_bool false true to back = back refl
same_bool false false to back = refl

one_first : (dirs : Dirs) (v w : Version) (end other : Reached) → IsFirstChosen dirs v end → IsFirstChosen dirs w other → end ≡ other
one_first dirs v w end other p q =
    let place = the_lowest dirs.count (IsAmongChosen dirs) p.dir q.dir p.lowest q.lowest in
    let same = under_same dirs p.dir q.dir v w p.folder q.folder place p.chosen.ahead.under q.chosen.ahead.under in
    let serves = subst (λ (k : ℕ). ServesCurrent (dirs.at k) q.folder) (sym place) q.chosen.ahead.under.serves in
    let folder = one_current (dirs.at p.dir) p.folder q.folder p.chosen.ahead.under.serves serves in
    one_end p.folder q.folder v w end other folder same p.chosen.chain q.chosen.chain

-- ---- what is saved

one_saved_end : (dirs : Dirs) (i j : ℕ) (a b : Folder) (v w : Version) (end other : Reached) → i ≡ j → IsSavedChain (dirs.at i) a v end → IsSavedChain (dirs.at j) b w other → end ≡ other
one_saved_end dirs i j a b v w end other place p q =
    let serves = subst (λ (k : ℕ). ServesPrevious (dirs.at k) b) (sym place) q.serves in
    let folder = one_previous (dirs.at i) a b p.serves serves in
    let same = one_version b v w (subst (λ (f : Folder). HasVersion f v) folder p.says) q.says in
    one_end a b v w end other folder same p.chain q.chain

chain_there : (dirs : Dirs) (i j : ℕ) (folder : Folder) (own : Version) (end : Reached) → i ≡ j → IsSavedChain (dirs.at j) folder own end → IsSavedChain (dirs.at i) folder own end
chain_there dirs i j folder own end place is = subst (λ (k : ℕ). IsSavedChain (dirs.at k) folder own end) (sym place) is

one_saved : (dirs : Dirs) (what other : Option Namespace) → IsSaved dirs what → IsSaved dirs other → what ≡ other
one_saved dirs what other (Unsaved none is) (Unsaved none_too it) = is ∙ sym it
one_saved dirs what other (Unsaved none is) (Lost j low lost it) = absurd (none j low.holds)
one_saved dirs what other (Unsaved none is) (Kept j folder own end low chain it) = absurd (none j low.holds)
one_saved dirs what other (Lost i low lost is) (Unsaved none it) = absurd (none i low.holds)
one_saved dirs what other (Lost i low lost is) (Lost j low_too lost_too it) = is ∙ sym it
one_saved dirs what other (Lost i low lost is) (Kept j folder own end low_too chain it) =
    let place = the_lowest dirs.count (IsChosenWithPrevious dirs) i j low low_too in
    absurd (lost folder own end (chain_there dirs i j folder own end place chain))
one_saved dirs what other (Kept i folder own end low chain is) (Unsaved none it) = absurd (none i low.holds)
one_saved dirs what other (Kept i folder own end low chain is) (Lost j low_too lost it) =
    let place = the_lowest dirs.count (IsChosenWithPrevious dirs) j i low_too low in
    absurd (lost folder own end (chain_there dirs j i folder own end place chain))
one_saved dirs what other (Kept i a v end low chain is) (Kept j b w last low_too chain_too it) =
    let place = the_lowest dirs.count (IsChosenWithPrevious dirs) i j low low_too in
    let ends = one_saved_end dirs i j a b v w end last place chain chain_too in
    is ∙ ap (λ (r : Reached). Some r.ns) ends ∙ sym it

-- ---- the whole

pub one_opens : OneOpens
one_opens dirs intent other a b p q =
    let ends = one_first dirs p.version q.version p.end q.end p.first q.first in
    let chosen : (i : ℕ) → a.chosen i ≡ b.chosen i = λ i. same_bool (a.chosen i) (b.chosen i) (λ is. (q.chosen i).0 ((p.chosen i).1 is)) (λ is. (p.chosen i).0 ((q.chosen i).1 is)) in
    let last : a.last ≡ b.last = p.last ∙ ap (λ (r : Reached). r.last) ends ∙ sym q.last in
    let ns : a.book.ns ≡ b.book.ns = p.namespace ∙ ap (λ (r : Reached). r.ns) ends ∙ sym q.namespace in
    let saved : a.book.saved ≡ b.book.saved = one_saved dirs a.book.saved b.book.saved p.saved q.saved in
    λ k. record { chosen = λ i. chosen i k; last = last k; book = record { ns = ns k; saved = saved k } }
