-- Which images of a listing stay, name by name; and which files of a folder go then.
use Rattle.std.proofs.Common.{◌≡◌, ◌≢◌, ◌⊎◌, inl, inr, ⊎_elim, ℕ, ◌<◌, ◌≤◌, ◌+◌, List, [], ◌∷◌, ◌++◌, length, get_or, take, Contains, Option, Some, None, refl, sym, ◌∙◌, ap, subst, arith}
use Rattle.std.proofs.lemmas.Bool.{cases_order}
use Rattle.std.proofs.lemmas.List.{take_more}
use Rattle.std.proofs.lemmas.List.Elements.{Contains-append_left, Contains-push, Contains-push_cases}
use Rattle.std.proofs.lemmas.Option.{none-some, same_Some}
use Rattle.nn_base.specs.Names.{first_id}
use Rattle.nn_base.specs.declared.file_name.FileName.{FileName}
use Rattle.nn_base.specs.declared.file_name.FileName.TheVariants as name
use Rattle.nn_chain.specs.Folder.{Folder}
use Rattle.nn_ckpt.specs.declared.retention.Retained.{Retained}
use Rattle.nn_ckpt.specs.Retention.{IsThere, Stays, IsOlder, IsAmong, AreImagesOf, AreRetained, Goes, ArePurged}

none_first : (n : FileName) → ¬ Contains [] n
none_first n has = (let lt = has.1 in omega (arith, lt))

-- among no files there is no image
pub none_of : AreImagesOf [] (record { newest = None; older = None })
none_of = record {
  newest = λ id e. absurd (none-some id e);
  older = λ id e. absurd (none-some id e);
  one = λ e a b has less. absurd (none_first (name.Image a) has);
  none = λ e id. none_first (name.Image id);
}

-- with the same images they are the same
module _ (names more : List FileName) (r : Retained) (was : AreImagesOf names r) (up : (id : ℕ) → IsAmong names id → IsAmong more id) (back : (id : ℕ) → IsAmong more id → IsAmong names id) where
  same_of : AreImagesOf more r
  same_of = record {
    newest = λ id e. (up id (was.newest id e).0, λ other has. (was.newest id e).1 other (back other has));
    older = λ id e. (up id (was.older id e).0, (was.older id e).1, λ other has above. (was.older id e).2 other (back other has) above);
    one = λ e a b has less there. was.one e a b (back a has) less (back b there);
    none = λ e id has. was.none e id (back id has);
  }

module _ (names : List FileName) (r : Retained) (was : AreImagesOf names r) where
  -- with a file more that is no image
  pub skipped_of : (n : FileName) → ((id : ℕ) → n ≢ name.Image id) → AreImagesOf (names ++ n ∷ []) r
  skipped_of n other = same_of names (names ++ n ∷ []) r was (λ id has. Contains-append_left names (n ∷ []) (name.Image id) has) (λ id has. ⊎_elim (λ before. before) (λ e. absurd (other id e)) (Contains-push_cases names n (name.Image id) has))

  module _ (id : ℕ) where
    before_or : (other : ℕ) → IsAmong (names ++ name.Image id ∷ []) other → IsAmong names other ⊎ (other ≡ id)
    before_or other has = ⊎_elim (λ before. inl before) (λ e. inr (sym (ap first_id e))) (Contains-push_cases names (name.Image id) (name.Image other) has)

    still : (other : ℕ) → IsAmong names other → IsAmong (names ++ name.Image id ∷ []) other
    still other has = Contains-append_left names (name.Image id ∷ []) (name.Image other) has

    now : IsAmong (names ++ name.Image id ∷ []) id
    now = Contains-push names (name.Image id)

    -- the newest once more
    pub repeated_of : r.newest ≡ Some id → AreImagesOf (names ++ name.Image id ∷ []) r
    repeated_of e = same_of names (names ++ name.Image id ∷ []) r was still (λ other has. ⊎_elim (λ before. before) (λ same. subst (IsAmong names) (sym same) (was.newest id e).0) (before_or other has))

    -- one later than all
    pub newest_of : ((m : ℕ) → r.newest ≡ Some m → m < id) → AreImagesOf (names ++ name.Image id ∷ []) (record { newest = Some id; older = r.newest })
    newest_of later = record {
      newest = λ x e. let same : id ≡ x = same_Some id x e in (
        subst (IsAmong (names ++ name.Image id ∷ [])) same now,
        λ other has. ⊎_elim
            (λ before. (let low = below other before in omega (arith, low, same)))
            (λ is. omega (arith, is, same))
            (before_or other has),
      );
      older = λ x e. (
        still x (was.newest x e).0,
        (id, refl, later x e),
        λ other has above. ⊎_elim
            (λ before. absurd (let low = (was.newest x e).1 other before in omega (arith, low, above)))
            (λ is. ap (λ (n : ℕ). Some n) (sym is))
            (before_or other has),
      );
      one = λ e a b has less there. omega (arith, only e a has, only e b there, less);
      none = λ e. absurd (none-some id (sym e));
    }
      where
        by : (o : Option ℕ) → r.newest ≡ o → (other : ℕ) → IsAmong names other → other < id
        by None e other before = absurd (was.none e other before)
        by (Some m) e other before = let low = (was.newest m e).1 other before in let up = later m e in omega (arith, low, up)

        below : (other : ℕ) → IsAmong names other → other < id
        below other before = by r.newest refl other before

        only : r.newest ≡ None → (other : ℕ) → IsAmong (names ++ name.Image id ∷ []) other → other ≡ id
        only e other has = ⊎_elim (λ before. absurd (was.none e other before)) (λ is. is) (before_or other has)

    -- one earlier than the newest
    pub older_of : (m o : ℕ) → r.newest ≡ Some m → id < m → ((x : ℕ) → r.older ≡ Some x → x ≤ o) → (o ≡ id) ⊎ ((r.older ≡ Some o) × (id < o)) → AreImagesOf (names ++ name.Image id ∷ []) (record { newest = r.newest; older = Some o })
    older_of m o newest less most either = record {
      newest = λ x e. let same : m ≡ x = same_Some m x (sym newest ∙ e) in (
        still x (was.newest x e).0,
        λ other has. ⊎_elim
            (λ before. (was.newest x e).1 other before)
            (λ is. omega (arith, is, less, same))
            (before_or other has),
      );
      older = λ x e. subst (λ (y : ℕ). IsAmong (names ++ name.Image id ∷ []) y × ((n : ℕ) × (r.newest ≡ Some n) × (y < n)) × ((other : ℕ) → IsAmong (names ++ name.Image id ∷ []) other → y < other → r.newest ≡ Some other)) (same_Some o x e) (
        ⊎_elim (λ is. subst (IsAmong (names ++ name.Image id ∷ [])) (sym is) now) (λ was_older. still o (was.older o was_older.0).0) either,
        ⊎_elim (λ is. (m, newest, omega (arith, is, less))) (λ was_older. (was.older o was_older.0).1) either,
        λ other has above. ⊎_elim
            (λ before. behind r.older refl other before above)
            (λ is. absurd (⊎_elim (λ same. omega (arith, is, same, above)) (λ was_older. (let up = was_older.1 in omega (arith, is, up, above))) either))
            (before_or other has),
      );
      one = λ e. absurd (none-some o (sym e));
      none = λ e. absurd (none-some m (sym e ∙ newest));
    }
      where
        behind : (x : Option ℕ) → r.older ≡ x → (other : ℕ) → IsAmong names other → o < other → r.newest ≡ Some other
        behind (Some x) e other before above = let low = most x e in (was.older x e).2 other before (omega (arith, low, above))
        behind None e other before above = elim (cases_order other m) [
          | inl same ↦ newest ∙ ap (λ (n : ℕ). Some n) (sym same)
          | inr (inl below) ↦ absurd (was.one e other m before below (was.newest m newest).0)
          | inr (inr more) ↦ (let low = (was.newest m newest).1 other before in absurd (omega (arith, low, more)))
        ]

-- ---- of a folder with just these files

module _ (folder : Folder) (names : List FileName) (r : Retained) (of : AreImagesOf names r) (all : (n : FileName) → Contains names n → folder n ≢ None) (only : (n : FileName) → folder n ≢ None → Contains names n) where
  among : (id : ℕ) → IsThere folder id → IsAmong names id
  among id there = only (name.Image id) there

  newest_stays : (id : ℕ) → r.newest ≡ Some id → Stays folder id
  newest_stays id e = record {
    there = all (name.Image id) (of.newest id e).0;
    last = λ a b above more there. (let low = (of.newest id e).1 a (among a there) in absurd (omega (arith, low, above)));
  }

  older_stays : (id : ℕ) → r.older ≡ Some id → IsOlder folder id
  older_stays id e =
      let is = of.older id e in
      record {
        stays = record {
          there = all (name.Image id) is.0;
          last = λ a b above more a_there b_there.
              let first = is.2 a (among a a_there) above in
              let second = is.2 b (among b b_there) (omega (arith, above, more)) in
              let same : a ≡ b = same_Some a b (sym first ∙ second) in
              omega (arith, same, more);
        };
        later = (is.1.0, is.1.2, all (name.Image is.1.0) (of.newest is.1.0 is.1.1).0);
      }

  stays_by : (n o : Option ℕ) → r.newest ≡ n → r.older ≡ o → (id : ℕ) → Stays folder id → (r.newest ≡ Some id) ⊎ (r.older ≡ Some id)
  stays_by None o e f id stays = absurd (of.none e id (among id stays.there))
  stays_by (Some m) None e f id stays = elim (cases_order id m) [
    | inl same ↦ inl (e ∙ ap (λ (x : ℕ). Some x) (sym same))
    | inr (inl less) ↦ absurd (of.one f id m (among id stays.there) less (of.newest m e).0)
    | inr (inr more) ↦ (let low = (of.newest m e).1 id (among id stays.there) in absurd (omega (arith, low, more)))
  ]
  stays_by (Some m) (Some o) e f id stays = elim (cases_order id o) [
    | inl same ↦ inr (f ∙ ap (λ (x : ℕ). Some x) (sym same))
    | inr (inl less) ↦ (
        let is = of.older o f in
        absurd (stays.last o is.1.0 less is.1.2 (all (name.Image o) is.0) (all (name.Image is.1.0) (of.newest is.1.0 is.1.1).0))
        )
    | inr (inr more) ↦ inl ((of.older o f).2 id (among id stays.there) more)
  ]

  pub retained_of : AreRetained folder r
  retained_of = record {
    stays = λ id stays. stays_by r.newest r.older refl refl id stays;
    newest = newest_stays;
    older = older_stays;
    is_older = λ id is. ⊎_elim
        (λ e. (let low = (of.newest id e).1 is.later.0 (among is.later.0 is.later.2) in let above = is.later.1 in absurd (omega (arith, low, above))))
        (λ e. e)
        (stays_by r.newest r.older refl refl id is.stays);
  }

-- ---- which of the files go

-- those of these files that are found go, and no other
pub record AreGoing (r : Retained) (names found : List FileName) : Type 0 where
  pub all : (folder : Folder) → AreRetained folder r → (n : FileName) → Contains names n → Goes folder n → Contains found n
  pub only : (n : FileName) → Contains found n → Contains names n × ((folder : Folder) → AreRetained folder r → Goes folder n)

pub going_none : (r : Retained) → AreGoing r [] []
going_none r = record { all = λ folder are n has goes. has; only = λ n has. absurd (none_first n has) }

module _ (r : Retained) (names found : List FileName) (was : AreGoing r names found) (n : FileName) where
  pub going_push : ((folder : Folder) → AreRetained folder r → Goes folder n) → AreGoing r (names ++ n ∷ []) (found ++ n ∷ [])
  going_push goes = record {
    all = λ folder are m has gone. ⊎_elim
        (λ before. Contains-append_left found (n ∷ []) m (was.all folder are m before gone))
        (λ same. subst (Contains (found ++ n ∷ [])) same (Contains-push found n))
        (Contains-push_cases names n m has);
    only = λ m has. ⊎_elim
        (λ before. let it = was.only m before in (Contains-append_left names (n ∷ []) m it.0, it.1))
        (λ same. subst (λ (x : FileName). Contains (names ++ n ∷ []) x × ((folder : Folder) → AreRetained folder r → Goes folder x)) same (Contains-push names n, goes))
        (Contains-push_cases found n m has);
  }

  pub going_skip : ((folder : Folder) → AreRetained folder r → ¬ Goes folder n) → AreGoing r (names ++ n ∷ []) found
  going_skip stays = record {
    all = λ folder are m has gone. ⊎_elim
        (λ before. was.all folder are m before gone)
        (λ same. absurd (stays folder are (subst (Goes folder) (sym same) gone)))
        (Contains-push_cases names n m has);
    only = λ m has. (let it = was.only m has in (Contains-append_left names (n ∷ []) m it.0, it.1));
  }

pub going_purged : (r : Retained) (names found : List FileName) → AreImagesOf names r → AreGoing r names found → ArePurged names found
going_purged r names found of are = record {
  all = λ folder all only n there goes. are.all folder (retained_of folder names r of all only) n (only n there) goes;
  only = λ folder all only n has. (are.only n has).1 folder (retained_of folder names r of all only);
}

-- one name more of a listing
pub next_name : (names : List FileName) (i : ℕ) (n : FileName) → i < length names → n ≡ get_or names i n → take (i + 1) names ≡ take i names ++ n ∷ []
next_name names i n lt is = take_more names i n lt ∙ ap (λ (x : FileName). take i names ++ x ∷ []) (sym is)
