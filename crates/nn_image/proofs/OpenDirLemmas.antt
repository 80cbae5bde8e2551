-- The directories held open, as the levels that they stand for.
use Rattle.std.proofs.Common.{◌≡◌, ◌≢◌, ℕ, ◌<◌, Bool, true, false, List, [], ◌∷◌, ◌++◌, length, refl, sym, ap, subst, ◌∙◌, arith, length-append}
use Rattle.std.specs.Prelude.{All, Option, Some, None, ◌^◌, ◌==◌, ◌&&◌, if◌then◌else◌}
use Rattle.std.specs.List.{flat_map}
use Rattle.std.specs.Ordering.{is_lt}
use Rattle.std.proofs.lemmas.List.Elements.{All-head, All-tail}
use Rattle.std.proofs.lemmas.Option.{none-some}
use Rattle.std.proofs.lemmas.Bool.{eq-eqb}
use Rattle.std.proofs.lemmas.Bool.Decides.{nat_tests}
use Rattle.nn_base.specs.Limits.{IsLong}
use Rattle.nn_base.specs.Paths.{Bytes, Names, is_name, name_cmp}
use Rattle.nn_wire.specs.Varint.{varint, Begins}
use Rattle.nn_wire.proofs.SpellingLemmas.{varint_some, same_varint}
use Rattle.nn_tree.specs.declared.spot.Spot.{Spot}
use Rattle.nn_image.specs.declared.open_dir.OpenDir.{OpenDir}
use Rattle.nn_message.specs.Messages.{Inode}
use Rattle.nn_image.specs.Assembly.{Level, Place, waiting, placed, is_next}
use Rattle.nn_image.specs.Building.{IsOpen, AreOpen}

none_pushed : {A : Type 0} (xs : List A) (x : A) → [] ≢ xs ++ x ∷ []
none_pushed [] x e = cc
none_pushed (y ∷ xs) x e = cc

-- what was pushed last, and on what
pub same_push : {A : Type 0} (xs ys : List A) (x y : A) → xs ++ x ∷ [] ≡ ys ++ y ∷ [] → (xs ≡ ys) × (x ≡ y)
same_push [] [] x y e = let h : x ≡ y = cc in (refl, h)
same_push [] (b ∷ ys) x y e = let h : [] ≡ ys ++ y ∷ [] = cc in absurd (none_pushed ys y h)
same_push (a ∷ xs) [] x y e = let h : [] ≡ xs ++ x ∷ [] = cc in absurd (none_pushed xs x h)
same_push (a ∷ xs) (b ∷ ys) x y e =
    let h : xs ++ x ∷ [] ≡ ys ++ y ∷ [] = cc in
    let front : a ≡ b = cc in
    let rest = same_push xs ys x y h in
    ((λ i. front i ∷ rest.0 i), rest.1)

-- ---- which levels wait

pub waiting_here : (level : Level) (outer : List Level) → level.children ≢ [] → waiting (level ∷ outer) ≡ level ∷ outer
unfolding waiting
waiting_here level outer some = by level.children some
  where
    by : (children : List ℕ) → children ≢ [] → elim children as (λ _. List Level) [ [] ↦ waiting outer | child ∷ rest ↦ level ∷ outer ] ≡ level ∷ outer
    by [] some = absurd (some refl)
    by (child ∷ rest) some = refl

pub waiting_outside : (level : Level) (outer : List Level) → level.children ≡ [] → waiting (level ∷ outer) ≡ waiting outer
unfolding waiting
waiting_outside level outer none = ap (λ (children : List ℕ). elim children as (λ _. List Level) [ [] ↦ waiting outer | child ∷ rest ↦ level ∷ outer ]) none

pub waiting_none : waiting [] ≡ []
unfolding waiting
waiting_none = refl

-- ids take bytes
pub ids_none : (ids : List ℕ) → length (flat_map varint ids) ≡ 0 → ids ≡ []
ids_none [] e = refl
ids_none (id ∷ ids) e = absurd (omega (arith, varint_some id, length-append (varint id) (flat_map varint ids)))

pub ids_some : (ids : List ℕ) → length (flat_map varint ids) ≢ 0 → ids ≢ []
ids_some ids some none = some (ap (λ i. length (flat_map varint i)) none)

-- ---- the innermost directory

-- a directory is the last one as its level is the first
pub record Innermost (has : Spot → Bool) (place : Spot → Names) (front : List OpenDir) (dir : OpenDir) (levels : List Level) : Type 0 where
  pub level : Level
  pub outer : List Level
  pub levels_are : levels ≡ level ∷ outer
  pub dir_is : IsOpen has place dir level
  pub others : AreOpen has place front outer

pub innermost : (has : Spot → Bool) (place : Spot → Names) (front : List OpenDir) (dir : OpenDir) (levels : List Level) → AreOpen has place (front ++ dir ∷ []) levels → Innermost has place front dir levels
innermost has place front dir [] are = absurd (none_pushed front dir (sym are))
innermost has place front dir (level ∷ outer) are =
    let same = same_push front are.1 dir are.0 are.2 in
    record {
      level = level;
      outer = outer;
      levels_are = refl;
      dir_is = subst (λ d. IsOpen has place d level) (sym same.1) are.3;
      others = subst (λ f. AreOpen has place f outer) (sym same.0) are.4;
    }

pub none_open : (has : Spot → Bool) (place : Spot → Names) (levels : List Level) → AreOpen has place [] levels → levels ≡ []
none_open has place [] are = refl
none_open has place (level ∷ outer) are = absurd (none_pushed are.1 are.0 are.2)

-- ---- the next child

-- the ids to come, by the first of them
pub record NextId (level : Level) (id : ℕ) (bytes : Bytes) : Type 0 where
  pub rest : List ℕ
  pub are : level.children ≡ id ∷ rest
  pub long : All IsLong rest
  pub spelled : bytes ≡ flat_map varint rest

pub next_id : (level : Level) (bytes : Bytes) (id : ℕ) (rest : Bytes) → All IsLong level.children → bytes ≡ flat_map varint level.children → Begins bytes id rest → NextId level id rest
next_id level bytes id rest long spelled begins = by level.children refl long (sym spelled ∙ begins.text)
  where
    by : (ids : List ℕ) → level.children ≡ ids → All IsLong ids → flat_map varint ids ≡ varint id ++ rest → NextId level id rest
    by [] is long e = absurd (omega (arith, ap length e, varint_some id, length-append (varint id) rest))
    by (x ∷ ids) is long e =
        let small : x < 2 ^ 64 = let h = All-head IsLong x ids long in omega arith in
        let same = same_varint x id (flat_map varint ids) rest small begins.small e in
        record { rest = ids; are = is ∙ ap (λ y. y ∷ ids) same.0; long = All-tail IsLong x ids long; spelled = sym same.1 }

pub no_next_id : (level : Level) (bytes : Bytes) (found : Option (ℕ × ℕ)) → All IsLong level.children → bytes ≡ flat_map varint level.children → found ≡ None
    → ((n : ℕ) (rest : Bytes) → Begins bytes n rest → found ≡ Some (n, length (varint n))) → level.children ≡ []
no_next_id level bytes found long spelled none again = by level.children refl long spelled
  where
    by : (ids : List ℕ) → level.children ≡ ids → All IsLong ids → bytes ≡ flat_map varint ids → level.children ≡ []
    by [] is long e = is
    by (x ∷ ids) is long e =
        let small : x < 2 ^ 64 = let h = All-head IsLong x ids long in omega arith in
        let some = again x (flat_map varint ids) (record { small = small; text = e }) in
        absurd (none-some _ (sym none ∙ some))

-- the place in a level, once its child was put
abbrev pub put_in : Level → List Level → Inode → List ℕ → Place
put_in level outer inode rest = record { path = level.path ++ inode.name ∷ []; levels = record { path = level.path; newest = inode.name; children = rest } ∷ outer }

pub placed_nowhere : (level : Level) (outer : List Level) (inode : Inode) → level.children ≡ [] → placed (level ∷ outer) inode ≡ None
unfolding placed
placed_nowhere level outer inode none = ap (λ (children : List ℕ). elim children as (λ _. Option Place) [
  | [] ↦ None
  | child ∷ rest ↦ if is_next level child inode then Some (put_in level outer inode rest) else None
]) none

pub placed_by : (level : Level) (outer : List Level) (inode : Inode) (child : ℕ) (rest : List ℕ) → level.children ≡ child ∷ rest
    → placed (level ∷ outer) inode ≡ (if is_next level child inode then Some (put_in level outer inode rest) else None)
unfolding placed
placed_by level outer inode child rest are = ap (λ (children : List ℕ). elim children as (λ _. Option Place) [
  | [] ↦ None
  | child ∷ rest ↦ if is_next level child inode then Some (put_in level outer inode rest) else None
]) are

pub placed_not : (level : Level) (outer : List Level) (inode : Inode) (child : ℕ) (rest : List ℕ) → level.children ≡ child ∷ rest → is_next level child inode ≡ false → placed (level ∷ outer) inode ≡ None
placed_not level outer inode child rest are not_next = placed_by level outer inode child rest are ∙ ap (λ b. if b then Some (put_in level outer inode rest) else None) not_next

pub placed_here : (level : Level) (outer : List Level) (inode : Inode) (child : ℕ) (rest : List ℕ) → level.children ≡ child ∷ rest → is_next level child inode ≡ true → placed (level ∷ outer) inode ≡ Some (put_in level outer inode rest)
placed_here level outer inode child rest are next = placed_by level outer inode child rest are ∙ ap (λ b. if b then Some (put_in level outer inode rest) else None) next

-- ---- which child is the next

pub and_no : (a b : Bool) → b ≡ false → a && b ≡ false
and_no true b is = is
and_no false b is = refl

pub another_id : (level : Level) (child : ℕ) (inode : Inode) → child ≢ inode.id → is_next level child inode ≡ false
unfolding is_next
another_id level child inode apart =
    let not_equal : (child == inode.id) ≡ false = grind (arith, nat_tests) in
    ap (λ b. b && is_name inode.name && is_lt (name_cmp level.newest inode.name)) not_equal

pub too_early : (level : Level) (child : ℕ) (inode : Inode) → is_lt (name_cmp level.newest inode.name) ≡ false → is_next level child inode ≡ false
unfolding is_next
too_early level child inode early = and_no ((child == inode.id) && is_name inode.name) (is_lt (name_cmp level.newest inode.name)) early

pub is_the_next : (level : Level) (child : ℕ) (inode : Inode) → child ≡ inode.id → is_name inode.name ≡ true → is_lt (name_cmp level.newest inode.name) ≡ true → is_next level child inode ≡ true
unfolding is_next
is_the_next level child inode id named later = λ i. eq-eqb child inode.id id i && named i && later i
